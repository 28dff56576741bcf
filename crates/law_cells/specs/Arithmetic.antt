-- `arithmetic` of word_cells.rs: the nets that it gives stand for the operation on the operands' words, folded, found or made.
-- Assumes nothing.
use Rattle.std.specs.Prelude.{◌≡◌, Bool, false, List, [], ◌∷◌, map, ℕ, ◌-◌}
use Rattle.std.proofs.Math.Path.{refl, ap}
use Rattle.std.proofs.Common.{add-zero, arith}
use Rattle.std.proofs.Math.Option.{Option, none, some}
use Rattle.std.proofs.Math.ListN.{length}
use Rattle.std.proofs.lemmas.List.{length-map}
use Rattle.spec_rtl.specs.Word.{bits}
use Rattle.spec_rules.specs.Step as S
use Rattle.spec_rules.specs.Step.{perhaps}
use Rattle.spec_model.specs.Words.{Netlist}
use Rattle.spec_model.specs.Builder.{ArithmeticOp, Add, Subtract, Multiply, constant_value, also_value, constant_values, compute}
use Rattle.spec_model.specs.WordCells.{arithmetic}
use Rattle.word_laws.specs.Widths.{AllBelow}
use Rattle.law_nets.specs.Meaning.{net_value}
use Rattle.law_nets.specs.Sound.{count, At, StandsAll}
use Rattle.law_nets.proofs.Run.{all_as, all_cons}
use Rattle.law_gates.specs.Gates.{constant_later}
use Rattle.law_cells.specs.Records.{operation_of}

-- only an addition has a carry
abbrev pub Carried : ArithmeticOp → Option ℕ → Type 0
Carried Add o = Unit {0}
Carried Subtract o = o ≡ none
Carried Multiply o = o ≡ none

-- the operation's word
abbrev pub Computes : ArithmeticOp → List ℕ → List ℕ → Option ℕ → At (List Bool)
Computes op lhs rhs carry h s c = compute op (map (net_value h s c) lhs) (map (net_value h s c) rhs) (perhaps false (net_value h s c) carry)

pub compute_is : (g : ℕ → Bool) (op : ArithmeticOp) (lhs rhs : List ℕ) (carry : Option ℕ) → Carried op carry
    → S.arithmetic g (record { operation = operation_of op; carry = carry; lhs = lhs; rhs = rhs }) ≡ compute op (map g lhs) (map g rhs) (perhaps false g carry)
compute_is g Add lhs rhs carry b = rw (length-map lhs g)
compute_is g Subtract lhs rhs carry b = rw (b, length-map lhs g) (ap (bits (length lhs)) (add-zero _))
compute_is g Multiply lhs rhs carry b = rw (b, length-map lhs g) (ap (bits (length lhs)) (add-zero _))

-- constant nets stand for their values
pub values_later : (l : Netlist) (ns : List ℕ) (vs : List Bool) → AllBelow (count l) ns → constant_values l ns ≡ some vs → StandsAll l ns (λ h s c. vs)
unfolding constant_values
values_later l [] vs b e = let z : [] ≡ vs = cc in record { there = tt; are = λ h y s c. z }
values_later l (n ∷ ns) vs b e = go (constant_value l n) refl (constant_values l ns) refl e (λ us. values_later l ns us b.1)
  where
    go : (o : Option Bool) → constant_value l n ≡ o → (p : Option (List Bool)) → constant_values l ns ≡ p → also_value o p ≡ some vs
        → ((us : List Bool) → constant_values l ns ≡ some us → StandsAll l ns (λ h s c. us)) → StandsAll l (n ∷ ns) (λ h s c. vs)
    go none f p g e ih = let z : ◌≡◌ {A = ℕ} 0 1 = cc in absurd (omega arith)
    go (some v) f none g e ih = let z : ◌≡◌ {A = ℕ} 0 1 = cc in absurd (omega arith)
    go (some v) f (some us) g e ih =
        let z : v ∷ us ≡ vs = cc in
        all_as (all_cons (constant_later l n v b.0 f) (ih us g)) (λ h y s c. z)
