-- The phases of the sources: what each record reserves, in turn. Assumes nothing.
use Rattle.std.specs.Prelude.{◌≡◌, List}
use Rattle.std.proofs.Math.Path.{refl, sym, ap}
use Rattle.std.proofs.Common.{◌∙◌}
use Prim.Native.Nat.{ℕ, zero, suc}
use Rattle.spec_tests.specs.Rules.{each, list_of}
use Rattle.spec_rules.specs.Image.{count_at_of, signal_at, register_at, memory_at, decode}
use Rattle.spec_model.specs.Builder.{Out, refused, done, and_then}
use Rattle.spec_model.specs.Lowering.{State, signal_width, reserve_input, reserve_inputs, reserve_bits, reserve_registers, reserve_second, reserve_memories}
use Rattle.walk_view.specs.Turns.{in_turn}

-- ---- what a record reserves ----

-- signal p, register k, memory k
abbrev pub input_at : List ℕ → ℕ → State → Out State
input_at s p st = reserve_input (signal_at s p).dir p (signal_at s p).width st

abbrev pub outputs_at : List ℕ → ℕ → State → Out State
outputs_at s k st = reserve_bits (decode s) 7 k 0 (register_at s k).target st

abbrev pub second_at_of : List ℕ → ℕ → State → Out State
second_at_of s k st = reserve_second (decode s) k (signal_width (decode s) (memory_at s k).first.read_data) (memory_at s k).second st

abbrev pub data_at : List ℕ → ℕ → State → Out State
data_at s k st = and_then (reserve_bits (decode s) 9 k 0 (memory_at s k).first.read_data st) (second_at_of s k)

-- ---- all records of a section ----

pub then_assoc : {A B C : Type 0} (o : Out A) (f : A → Out B) (g : B → Out C) → and_then (and_then o f) g ≡ and_then o (λ a. and_then (f a) g)
then_assoc (refused k x y) f g = refl
then_assoc (done a) f g = refl

module _ (s : List ℕ) where
  inputs_from : (i n : ℕ) (st : State) → reserve_inputs i (each (signal_at s) i n) st ≡ in_turn (input_at s) i n st
  unfolding reserve_inputs each in_turn
  inputs_from i zero st = refl
  inputs_from i (suc n) st = ap (and_then (input_at s i st)) (λ j st₁. inputs_from (suc i) n st₁ j)

  registers_from : (i n : ℕ) (st : State) → reserve_registers (decode s) i (each (register_at s) i n) st ≡ in_turn (outputs_at s) i n st
  unfolding reserve_registers each in_turn
  registers_from i zero st = refl
  registers_from i (suc n) st = ap (and_then (outputs_at s i st)) (λ j st₁. registers_from (suc i) n st₁ j)

  memories_from : (i n : ℕ) (st : State) → reserve_memories (decode s) i (each (memory_at s) i n) st ≡ in_turn (data_at s) i n st
  unfolding reserve_memories each in_turn
  memories_from i zero st = refl
  memories_from i (suc n) st =
      ap (and_then (reserve_bits (decode s) 9 i 0 (memory_at s i).first.read_data st)) (λ j st₁. and_then (second_at_of s i st₁) (λ st₂. memories_from (suc i) n st₂ j))
      ∙ sym (then_assoc (reserve_bits (decode s) 9 i 0 (memory_at s i).first.read_data st) (second_at_of s i) (λ st₂. in_turn (data_at s) (suc i) n st₂))

  pub inputs_turn : (st : State) → reserve_inputs 0 (decode s).signals st ≡ in_turn (input_at s) 0 (count_at_of s 0) st
  unfolding decode list_of
  inputs_turn st = inputs_from 0 (count_at_of s 0) st

  pub registers_turn : (st : State) → reserve_registers (decode s) 0 (decode s).registers st ≡ in_turn (outputs_at s) 0 (count_at_of s 4) st
  unfolding decode list_of
  registers_turn st = registers_from 0 (count_at_of s 4) st

  pub memories_turn : (st : State) → reserve_memories (decode s) 0 (decode s).memories st ≡ in_turn (data_at s) 0 (count_at_of s 5) st
  unfolding decode list_of
  memories_turn st = memories_from 0 (count_at_of s 5) st
