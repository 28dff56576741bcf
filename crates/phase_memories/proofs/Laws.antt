-- What each way through the functions gives, from what their calls give. Assumes nothing.
use mathlib.Core.Path.{◌≡◌, refl, sym, ap, ◌∙◌}
use mathlib.Core.Bool.{Bool, true, false}
use mathlib.Core.List.{List, [], ◌∷◌}
use mathlib.Core.Option.{Option, none, some}
use Prim.Native.Nat.{ℕ, zero, suc, ◌+◌, ◌<◌}
use native.Mathlib.Omega.{arith}
use Rattle.spec_rtl.specs.Rtl as R
use Rattle.spec_tests.specs.Rules.{◌≡?◌, pick, each, list_of}
use Rattle.spec_tests.specs.Laws.{no_eq}
use Rattle.spec_rules.specs.Image.{count_at_of, field, first_port, has_second, second_port, control_of, port_of, memory_at, decode}
use Rattle.check_memories.specs.Good.{GoodPort, GoodSecond}
use Rattle.check_image.specs.Accepted.{Accepted}
use Rattle.spec_model.specs.Builder.{and_then}
use Rattle.spec_model.specs.Lowering.{State, Whole, wholes, word_steps, second_steps, memory_steps, lower_all, push_record, connect_memories}
use Rattle.image_records.specs.declared.MemoryPort.{MemoryPort}
use Rattle.image_records.specs.declared.Memory.{Memory}
use Rattle.image_records.specs.Others.{port_means, memory_means}
use Rattle.walk_view.specs.Met.{AllMet, all_append}
use Rattle.walk_view.specs.View.{walk_state, Ready, Sure, Gives}
use Rattle.std.specs.Prelude.{Ok}
use Rattle.walk_view.specs.Refusals.{Lowered}
use Rattle.walk_view.specs.Answers.{Refused}
use Rattle.walk_invariant.specs.Steps.{GivesAll, gives_one}
use Rattle.walk_view.specs.Turns.{in_turn}
use Rattle.walk_view.specs.Phases.{then_then}
use Rattle.phase_parts.specs.Steps.{gives_then, gives_out}
use Rattle.phase_parts.specs.Parts.{control_there, met_whole}
use Rattle.phase_memory_records.specs.Memories.{memory_words, PortThere, SecondThere, MemoryThere, SecondWhole, MemoryWhole}
use Rattle.phase_memories.specs.Turns.{first_steps, memory_turn}

-- ---- an accepted image's memories ----

module _ (s : List ℕ) (k : ℕ) where
  port_there : (f n : ℕ) → GoodPort s k f n → PortThere s (port_of (λ i. field s 5 k (f + i)))
  unfolding port_of control_of
  port_there f n g =
      let z : f + 0 ≡ f = omega arith in
      let e : f + 2 + 1 ≡ f + 3 = omega arith in
      record {
        read_address = rw z g.read_address_law;
        read_data = g.read_there;
        read_enable = rw e at (control_there s 5 k (f + 2) g.read_enable_law);
        write_address = g.write_address_law;
        write_data = g.write_data_law.there;
        write_enable = g.write_enable_law.bit;
        clock = g.clock;
      }

  second_there : (n : ℕ) → GoodSecond s k (field s 5 k has_second) n → SecondThere s (memory_at s k).second
  unfolding memory_at pick
  second_there n g = go (field s 5 k has_second ≡? 0) refl
    where
      go : (t : Bool) → (field s 5 k has_second ≡? 0) ≡ t → SecondThere s (pick t none (some (port_of (λ i. field s 5 k (second_port + i)))))
      go true q = tt
      go false q = let h = no_eq (field s 5 k has_second) 0 q in port_there second_port n (g.some (omega (arith, g.known))).port

  pub memory_there : Accepted s → k < count_at_of s 5 → MemoryThere s (memory_at s k)
  unfolding memory_at
  memory_there a h =
      let g = (a.memories k h).rest in
      record { first = port_there first_port _ g.first_port_law; second = second_there _ g.second_port_law }

-- ---- what is lowered is whole ----

module _ (s net w : List ℕ) where
  second_whole : (o : Option R.Port) → SecondThere s o → AllMet (walk_state s net w) (second_steps o) → SecondWhole s w o
  second_whole none h m = tt
  second_whole (some p) h m = record {
    read_address = met_whole s net w p.read_address h.read_address.there m.0;
    write_address = met_whole s net w p.write_address h.write_address.there m.1.0;
    write_data = met_whole s net w p.write_data h.write_data m.1.1.0;
  }

  all_whole : (x : R.Memory) → MemoryThere s x → AllMet (walk_state s net w) (memory_steps x) → MemoryWhole s w x
  all_whole x h m =
      let a = all_append (walk_state s net w) (first_steps x.first) (second_steps x.second) m in
      record {
        first = record {
          read_address = met_whole s net w x.first.read_address h.first.read_address.there m.0;
          write_address = met_whole s net w x.first.write_address h.first.write_address.there m.1.0;
          write_data = met_whole s net w x.first.write_data h.first.write_data m.1.1.0;
        };
        second = second_whole x.second h.second a.1;
      }

pub memory_whole : {s net₀ w₀ net w : List ℕ} {x : R.Memory} {y : Lowered} → MemoryThere s x → GivesAll s net₀ w₀ (memory_steps x) y net w → y ≡ Ok tt → MemoryWhole s w x
memory_whole {s} {net₀} {w₀} {net} {w} {x} h g d = all_whole s net w x h (g.meets d)

-- ---- addresses and data of a port, in turn: x, y are the answers ----

module _ (s net w : List ℕ) (p : MemoryPort) (r : Ready s net w) (i : Sure s net w) (h : PortThere s (port_means p)) (x : Lowered) (net₁ w₁ : List ℕ)
    (g₁ : Gives s net w (Whole p.read_address) x net₁ w₁) where
  pub read_given : GivesAll s net w (wholes (p.read_address ∷ [])) x net₁ w₁
  unfolding port_means
  read_given = gives_one s net w (Whole p.read_address) x net₁ w₁ r i h.read_address.there g₁

  pub read_out : Refused x → GivesAll s net w (word_steps (port_means p)) x net₁ w₁
  unfolding port_means
  read_out q = gives_out (wholes (p.write_address ∷ p.write_data ∷ [])) read_given q

  module _ (d₁ : x ≡ Ok tt) (y : Lowered) (net₂ w₂ : List ℕ) (g₂ : Gives s net₁ w₁ (Whole p.write_address) y net₂ w₂) where
    pub write_given : GivesAll s net w (wholes (p.read_address ∷ p.write_address ∷ [])) y net₂ w₂
    unfolding port_means
    write_given = gives_then (wholes (p.write_address ∷ [])) read_given d₁
        (gives_one s net₁ w₁ (Whole p.write_address) y net₂ w₂ read_given.ready (read_given.sure d₁) h.write_address.there g₂)

    pub write_out : Refused y → GivesAll s net w (word_steps (port_means p)) y net₂ w₂
    unfolding port_means
    write_out q = gives_out (wholes (p.write_data ∷ [])) write_given q

    pub data_given : y ≡ Ok tt → (z : Lowered) (net₃ w₃ : List ℕ) → Gives s net₂ w₂ (Whole p.write_data) z net₃ w₃ → GivesAll s net w (word_steps (port_means p)) z net₃ w₃
    unfolding port_means
    data_given d₂ z net₃ w₃ g₃ = gives_then (wholes (p.write_data ∷ [])) write_given d₂
        (gives_one s net₂ w₂ (Whole p.write_data) z net₃ w₃ write_given.ready (write_given.sure d₂) h.write_data g₃)

-- ---- all memories ----

pub turn_as : (s : List ℕ) (k : ℕ) (x : Memory) (st : State) → memory_means x ≡ memory_at s k
    → memory_turn s k st ≡ and_then (lower_all (decode s) false (memory_steps (memory_means x)) st) (λ st₁. push_record (memory_words (decode s) k (memory_means x) st₁) st₁)
turn_as s k x st e = ap (λ (y : R.Memory). and_then (lower_all (decode s) false (memory_steps y) st) (λ st₁. push_record (memory_words (decode s) k y st₁) st₁)) (sym e)

memories_turns : (s : List ℕ) (i n : ℕ) (st : State) → connect_memories (decode s) false i (each (memory_at s) i n) st ≡ in_turn (memory_turn s) i n st
unfolding connect_memories each in_turn
memories_turns s i zero st = refl
memories_turns s i (suc n) st =
    ap (and_then (lower_all (decode s) false (memory_steps (memory_at s i)) st))
    (λ j st₁. and_then (push_record (memory_words (decode s) i (memory_at s i) st₁) st₁) (λ st₂. memories_turns s (suc i) n st₂ j))
    ∙ sym (then_then (lower_all (decode s) false (memory_steps (memory_at s i)) st) (λ st₁. push_record (memory_words (decode s) i (memory_at s i) st₁) st₁)
    (λ st₂. in_turn (memory_turn s) (suc i) n st₂))

pub all_memories : (s : List ℕ) (st : State) → connect_memories (decode s) false 0 (decode s).memories st ≡ in_turn (memory_turn s) 0 (count_at_of s 5) st
unfolding decode list_of
all_memories s st = memories_turns s 0 (count_at_of s 5) st
