-- Where the lowering comes to its end under some limits, no register has a reset bit that is not a constant net, under whatever limits that is
-- asked. Assumes nothing.
use Rattle.std.specs.Prelude.{◌≡◌, refl, length, get_or, take}
use Rattle.std.proofs.Common.{not-suc-le-zero, le_of_suc-le-suc}
use Rattle.std.proofs.Math.Path.{ap}
use Rattle.std.proofs.Math.Bool.{false}
use mathlib.Core.List.{List, [], ◌∷◌}
use Rattle.std.proofs.Math.Option.{some}
use Prim.Native.Nat.{ℕ, zero, suc, ◌-◌, ◌<◌}
use Rattle.std.proofs.Math.ListN.{get_elem?}
use Rattle.spec_rtl.specs.Rtl.{Module, Register}
use Rattle.spec_model.specs.Words.{absent}
use Rattle.spec_model.specs.Builder.{Out, refused, done, and_then}
use Rattle.spec_model.specs.Lowering.{State, register_steps, lower_all, reserve_sources, connect_memories, connect_registers}
use Rattle.spec_answers.specs.Refusals.{before, up_to}
use Rattle.law_walk.specs.Tables.{none_some, some_eq}
use Rattle.law_limits.specs.Bounds.{states}
use Rattle.law_limits.proofs.Bounds.{Bounds}
use Rattle.law_limits.specs.Larger.{not_done}
use Rattle.law_limits.proofs.Walked.{walks_then, all_walks}
use Rattle.law_limits.proofs.Phases.{sources_walk, connect_memories_walk, connect_registers_walk, from_start}

-- what was done before the rest
pub done_first : (o : Out State) (k : State → Out State) (st : State) → and_then o k ≡ done st → (st₁ : State) × (o ≡ done st₁) × (k st₁ ≡ done st)
done_first (refused c x y) k st e = absurd (not_done e)
done_first (done st₁) k st e = (st₁, refl, e)

pub there : {A : Type 0} (xs : List A) (k : ℕ) → k < length xs → (x : A) × (get_elem? xs k ≡ some x)
there [] k h = absurd (not-suc-le-zero h)
there (x ∷ xs) zero h = (x, refl)
there (x ∷ xs) (suc k) h = there xs k (le_of_suc-le-suc h)

pub take_all : {A : Type 0} (xs : List A) → take (length xs) xs ≡ xs
take_all [] = refl
take_all (x ∷ xs) = ap (λ ys. x ∷ ys) (take_all xs)

-- ---- under whatever limits ----

-- the way to a register, under all limits
pub up_to_bounds : (m : Module) (k : ℕ) (r : Register) → Bounds states 0 0 (λ N P. up_to m N P k r)
unfolding before
up_to_bounds m k r =
    from_start m (λ st. and_then (and_then (reserve_sources m st) (λ st₁. and_then (connect_memories m false 0 m.memories st₁) (λ st₂. connect_registers m false 0 (take k m.registers) st₂))) (λ st₃. lower_all m false (register_steps r) st₃))
    (walks_then (λ st. and_then (reserve_sources m st) (λ st₁. and_then (connect_memories m false 0 m.memories st₁) (λ st₂. connect_registers m false 0 (take k m.registers) st₂))) (lower_all m false (register_steps r))
    (walks_then (reserve_sources m) (λ st₁. and_then (connect_memories m false 0 m.memories st₁) (λ st₂. connect_registers m false 0 (take k m.registers) st₂)) (sources_walk m)
    (walks_then (connect_memories m false 0 m.memories) (connect_registers m false 0 (take k m.registers)) (connect_memories_walk m false 0 m.memories) (connect_registers_walk m false 0 (take k m.registers))))
    (all_walks m false (register_steps r)))

pub get_or_is : (ns : List ℕ) (b n : ℕ) → get_elem? ns b ≡ some n → get_or ns b absent ≡ n
get_or_is [] b n e = absurd (none_some e)
get_or_is (k ∷ ns) zero n e = some_eq e
get_or_is (k ∷ ns) (suc b) n e = get_or_is ns b n e
