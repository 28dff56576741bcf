-- What each way through the functions gives, from what their calls give. Assumes nothing.
use mathlib.Core.Path.{◌≡◌, refl, sym, ap, ◌∙◌}
use mathlib.Core.Bool.{Bool, true, false}
use mathlib.Core.List.{List, [], ◌∷◌, ◌++◌}
use mathlib.Core.Option.{Option, none, some}
use Prim.Native.Nat.{ℕ, zero, suc, ◌<◌}
use native.Mathlib.Omega.{arith}
use Rattle.spec_rtl.specs.Rtl as R
use Rattle.spec_tests.specs.Rules.{◌≡?◌, pick, each, list_of}
use Rattle.spec_tests.specs.Laws.{no_eq}
use Rattle.spec_rules.specs.Image.{absent, count_at_of, field, signal_width, control_of, optional, register_of, register_at, decode}
use Rattle.check_registers.specs.Good.{GoodReset, GoodResetOf}
use Rattle.check_image.specs.Accepted.{Accepted}
use Rattle.spec_model.specs.Builder.{and_then}
use Rattle.spec_model.specs.Lowering.{State, Whole, Bit, wholes, bit_step, control_steps, reset_steps, register_steps, lower_all, connect_registers}
use Rattle.image_records.specs.declared.Register.{Register}
use Rattle.image_records.specs.declared.Reset.{Reset}
use Rattle.image_records.specs.Others.{enable_means, reset_means, register_means}
use Rattle.walk_view.specs.Met.{AllMet, all_append}
use Rattle.walk_view.specs.View.{walk_state, Ready, Sure, Gives}
use Rattle.std.specs.Prelude.{Ok}
use Rattle.walk_view.specs.Refusals.{Lowered}
use Rattle.walk_view.specs.Answers.{Refused}
use Rattle.walk_invariant.specs.Steps.{GivesAll, gives_one}
use Rattle.walk_view.specs.Turns.{in_turn}
use Rattle.walk_view.specs.Phases.{then_then}
use Rattle.phase_parts.specs.Steps.{gives_then, gives_out}
use Rattle.phase_parts.specs.Parts.{control_there, met_whole}
use Rattle.phase_register_records.specs.Registers.{bits_turn, ThereReset, WideReset, There, WholeReset, Wholes}
use Rattle.phase_registers.specs.Turns.{register_turn}

-- ---- an accepted image's registers ----

module _ (s : List ℕ) (k : ℕ) where
  -- its reset, where it has one
  abbrev one : R.Reset
  one = record { control = control_of (field s 4 k 8) (field s 4 k 9); asynchronous = field s 4 k 10 ≡? 1; value = field s 4 k 11 }

  reset_there : (n : ℕ) → GoodReset s k n → ThereReset s (register_at s k).reset × WideReset s n (register_at s k).reset
  unfolding register_at register_of optional pick control_of
  reset_there n g = go (field s 4 k 8 ≡? absent) (λ h. g.some (no_eq _ absent h))
    where
      go : (t : Bool) → (t ≡ false → GoodResetOf s k n) → ThereReset s (pick t none (some one)) × WideReset s n (pick t none (some one))
      go true h = (tt, tt)
      go false h = let g = h refl in ((g.control.bit, g.value.there), g.value.width)

  pub register_there : Accepted s → k < count_at_of s 4 → There s (register_at s k)
  unfolding register_at register_of
  register_there a h =
      let g = (a.registers k h).rest in
      let r = reset_there (signal_width s (field s 4 k 2)) g.reset in
      record { target = g.there; next = g.next; clock = g.clock; enable = control_there s 4 k 6 g.enable; reset = r.0; wide = r.1 }

-- ---- what is lowered is whole ----

module _ (s net w : List ℕ) where
  reset_whole : (o : Option R.Reset) → ThereReset s o → AllMet (walk_state s net w) (reset_steps o) → WholeReset s w o
  reset_whole none h m = tt
  reset_whole (some x) h m = met_whole s net w x.value h.1 m.0

  all_whole : (r : R.Register) → There s r → AllMet (walk_state s net w) (register_steps r) → Wholes s w r
  all_whole r h m =
      let a = all_append (walk_state s net w) (wholes (r.next ∷ []) ++ bit_step r.clock ++ control_steps r.enable) (reset_steps r.reset) m in
      record { next = met_whole s net w r.next h.next.there m.0; reset = reset_whole r.reset h.reset a.1 }

pub register_whole : {s net₀ w₀ net w : List ℕ} {r : R.Register} {x : Lowered} → There s r → GivesAll s net₀ w₀ (register_steps r) x net w → x ≡ Ok tt → Wholes s w r
register_whole {s} {net₀} {w₀} {net} {w} {r} h g d = all_whole s net w r h (g.meets d)

-- ---- the parts of a register, in turn: y, z, u are the answers ----

module _ (s net w : List ℕ) (x : Register) (r : Ready s net w) (i : Sure s net w) (h : There s (register_means x)) (y : Lowered) (net₁ w₁ : List ℕ)
    (g₁ : Gives s net w (Whole x.next) y net₁ w₁) where
  pub next_given : GivesAll s net w (wholes (x.next ∷ [])) y net₁ w₁
  unfolding register_means
  next_given = gives_one s net w (Whole x.next) y net₁ w₁ r i h.next.there g₁

  pub next_out : Refused y → GivesAll s net w (register_steps (register_means x)) y net₁ w₁
  unfolding register_means
  next_out q = gives_out (bit_step x.clock ++ control_steps (enable_means x.enable) ++ reset_steps (reset_means x.reset)) next_given q

  module _ (d₁ : y ≡ Ok tt) (z : Lowered) (net₂ w₂ : List ℕ) (g₂ : Gives s net₁ w₁ (Bit x.clock 0) z net₂ w₂) where
    pub clock_given : GivesAll s net w (wholes (x.next ∷ []) ++ bit_step x.clock) z net₂ w₂
    unfolding register_means
    clock_given = gives_then (bit_step x.clock) next_given d₁
        (gives_one s net₁ w₁ (Bit x.clock 0) z net₂ w₂ next_given.ready (next_given.sure d₁) (h.clock.there, omega (arith, h.clock.one)) g₂)

    pub clock_out : Refused z → GivesAll s net w (register_steps (register_means x)) z net₂ w₂
    unfolding register_means
    clock_out q = gives_out (control_steps (enable_means x.enable) ++ reset_steps (reset_means x.reset)) clock_given q

    module _ (d₂ : z ≡ Ok tt) (u : Lowered) (net₃ w₃ : List ℕ) (g₃ : GivesAll s net₂ w₂ (control_steps (enable_means x.enable)) u net₃ w₃) where
      pub enable_given : GivesAll s net w (wholes (x.next ∷ []) ++ bit_step x.clock ++ control_steps (enable_means x.enable)) u net₃ w₃
      enable_given = gives_then (control_steps (enable_means x.enable)) clock_given d₂ g₃

      pub enable_out : Refused u → GivesAll s net w (register_steps (register_means x)) u net₃ w₃
      unfolding register_means
      enable_out q = gives_out (reset_steps (reset_means x.reset)) enable_given q

      pub reset_given : u ≡ Ok tt → (v : Lowered) (net₄ w₄ : List ℕ) → GivesAll s net₃ w₃ (reset_steps (register_means x).reset) v net₄ w₄
          → GivesAll s net w (register_steps (register_means x)) v net₄ w₄
      unfolding register_means
      reset_given d₃ v net₄ w₄ g₄ = gives_then (reset_steps (reset_means x.reset)) enable_given d₃ g₄

-- ---- all registers ----

pub turn_as : (s : List ℕ) (k : ℕ) (x : Register) (st : State) → register_means x ≡ register_at s k
    → register_turn s k st ≡ and_then (lower_all (decode s) false (register_steps (register_means x)) st) (λ st₁. bits_turn s k (register_means x) st₁)
turn_as s k x st e = ap (λ (r : R.Register). and_then (lower_all (decode s) false (register_steps r) st) (λ st₁. bits_turn s k r st₁)) (sym e)

registers_turns : (s : List ℕ) (i n : ℕ) (st : State) → connect_registers (decode s) false i (each (register_at s) i n) st ≡ in_turn (register_turn s) i n st
unfolding connect_registers each in_turn
registers_turns s i zero st = refl
registers_turns s i (suc n) st =
    ap (and_then (lower_all (decode s) false (register_steps (register_at s i)) st)) (λ j st₁. and_then (bits_turn s i (register_at s i) st₁) (λ st₂. registers_turns s (suc i) n st₂ j))
    ∙ sym (then_then (lower_all (decode s) false (register_steps (register_at s i)) st) (λ st₁. bits_turn s i (register_at s i) st₁) (λ st₂. in_turn (register_turn s) (suc i) n st₂))

pub all_registers : (s : List ℕ) (st : State) → connect_registers (decode s) false 0 (decode s).registers st ≡ in_turn (register_turn s) 0 (count_at_of s 4) st
unfolding decode list_of
all_registers s st = registers_turns s 0 (count_at_of s 4) st
