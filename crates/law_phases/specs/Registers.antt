-- `connect_registers`: each bit of each register has its record, with the nets of its next value and controls. Assumes nothing.
use Rattle.std.specs.Prelude.{◌≡◌, Bool, true, eqb, length}
use Rattle.std.proofs.Math.Path.{refl}
use Rattle.std.proofs.Math.Bool.{false}
use mathlib.Core.List.{[], ◌∷◌, ◌++◌}
use Rattle.std.proofs.Math.Option.{Option, none, some}
use Prim.Native.Nat.{ℕ, ◌+◌, ◌<◌}
use Rattle.std.proofs.Math.ListN.{get_elem?}
use Rattle.spec_rtl.specs.Rtl.{Module, Control, Reset, Register}
use Rattle.spec_rules.specs.Step.{perhaps}
use Rattle.spec_model.specs.Words.{bit_word, control_words, reset_words}
use Rattle.spec_model.specs.Lowering.{State, whole, signal_width, wholes, bit_step, control_steps, reset_steps, register_steps}
use Rattle.law_walk.specs.Tables.{Has}
use Rattle.law_walk.specs.Good.{GoodRegister}
use Rattle.law_walk.specs.Reads.{AllAsked, AllAfter}
use Rattle.law_phases.specs.Pushed.{asked_append, after_append, control_asked}

reset_asked : (m : Module) (o : Option Reset) → ((x : Reset) → o ≡ some x → x.value < length m.exprs) → AllAsked m (reset_steps o)
reset_asked m none h = tt
reset_asked m (some x) h = (h x refl, (tt, tt))

pub steps_asked : (m : Module) (k : ℕ) (r : Register) → GoodRegister m k r → AllAsked m (register_steps r)
steps_asked m k r g =
    asked_append m (wholes (r.next ∷ []) ++ bit_step r.clock ++ control_steps r.enable) (reset_steps r.reset)
    (asked_append m (wholes (r.next ∷ []) ++ bit_step r.clock) (control_steps r.enable) (g.next, (tt, tt)) (control_asked m r.enable))
    (reset_asked m r.reset (λ x e. (g.reset x e).0))

-- what is there of a register after its steps
pub record RegisterAfter (ob : Bool) (st : State) (r : Register) : Type 0 where
  pub next : Has (whole st r.next)
  pub clock : AllAfter ob st (bit_step r.clock)
  pub enable : AllAfter ob st (control_steps r.enable)
  pub reset : AllAfter ob st (reset_steps r.reset)

pub ready : (ob : Bool) (st : State) (r : Register) → AllAfter ob st (register_steps r) → RegisterAfter ob st r
ready ob st r h =
    let a = after_append ob st (wholes (r.next ∷ []) ++ bit_step r.clock ++ control_steps r.enable) (reset_steps r.reset) h in
    let b = after_append ob st (wholes (r.next ∷ []) ++ bit_step r.clock) (control_steps r.enable) a.0 in
    record { next = b.0.0; clock = b.0.1; enable = b.1; reset = a.1 }

pub words_long : (k b out next clock edge : ℕ) (o : Option Control) (q : Option Reset) → length (k ∷ b ∷ out ∷ next ∷ clock ∷ edge ∷ (control_words o ++ reset_words q)) ≡ 12
words_long k b out next clock edge none none = refl
words_long k b out next clock edge none (some r) = refl
words_long k b out next clock edge (some c) none = refl
words_long k b out next clock edge (some c) (some r) = refl

pub bit_back : (v : Bool) → eqb (bit_word v) 1 ≡ v
bit_back true = refl
bit_back false = refl

-- the bits of register k
abbrev pub bits_of : Module → ℕ → ℕ
bits_of m k = perhaps 0 (λ (r : Register). signal_width m r.target) (get_elem? m.registers k)
