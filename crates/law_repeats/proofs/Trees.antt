-- What is proved of specs/Trees: Trees of gates, equality and shifts made again. Assumes nothing.
use Rattle.std.specs.Prelude.{Bool, ltb, length}
use Rattle.std.proofs.Math.Bool.{true, false}
use mathlib.Core.List.{List, [], ◌∷◌}
use Prim.Native.Nat.{ℕ, zero, suc, ◌^◌, ◌<◌, min}
use Rattle.std.proofs.Common.{arith}
use Rattle.spec_model.specs.Words.{Netlist}
use Rattle.spec_model.specs.Builder.{done, and_then, add_constant, add_not, add_xor, add_mux, also, both}
use Rattle.spec_model.specs.Ranges.{Gate, AndGate}
use Rattle.spec_model.specs.Lowering.{add_gate, level, levels, reduce_tree, add_equal, equal_words, Shift, shifted, stages, shift}
use Rattle.word_laws.specs.Widths.{AllBelow}
use Rattle.word_laws.specs.Tree.{alike}
use Rattle.law_nets.specs.Sound.{count, Sound}
use Rattle.law_gates.specs.Gates.{xor_run}
use Rattle.law_gates.specs.Many.{both_run}
use Rattle.law_operators.specs.Trees.{level_run, equal_run}
use Rattle.law_repeats.specs.Again.{below_stays, Again, again_here, again_bind, again_then}
use Rattle.law_repeats.specs.Gates.{again_cons}
use Rattle.law_repeats.proofs.Gates.{again_constant, again_not, again_xor, again_gate, again_constants, again_muxes}

-- ---- trees ----

module _ (g : Gate) where
  pub again_level : (xs : List ℕ) (l : Netlist) → AllBelow (count l) xs → Again (level g xs) l
  unfolding level
  again_level [] l b = again_here [] l
  again_level (x ∷ []) l b = again_here (x ∷ []) l
  again_level (x ∷ y ∷ xs) l b = again_cons (add_gate g x y) (level g xs) l (again_gate g x y l b.0 b.1.0) (λ l₁ s. again_level xs l₁ (below_stays s xs b.1.1))

  pub again_levels : (f : ℕ) (xs : List ℕ) (l : Netlist) → Sound l → AllBelow (count l) xs → Again (levels f g xs) l
  unfolding levels
  again_levels zero xs l q b = again_here xs l
  again_levels (suc f) xs l q b = go (ltb 1 (length xs)) (again_levels f)
    where
      go : (t : Bool) → ((ys : List ℕ) (l₁ : Netlist) → Sound l₁ → AllBelow (count l₁) ys → Again (levels f g ys) l₁)
          → Again {A = List ℕ} (λ l'. elim t [ true ↦ and_then (level g xs l') (λ (ys, l₁). levels f g ys l₁) | false ↦ done (xs, l') ]) l
      go true rec = again_then (level g xs) (levels f g) l (again_level xs l b) (level_run g xs l q b) (λ ys l₁ s a v. rec ys l₁ a.sound v.there)
      go false rec = again_here xs l

  pub again_tree : (identity : Bool) (xs : List ℕ) (l : Netlist) → Sound l → AllBelow (count l) xs → Again (reduce_tree g identity xs) l
  unfolding reduce_tree
  again_tree identity [] l q b = again_constants (identity ∷ []) l
  again_tree identity (x ∷ xs) l q b = again_levels (length xs) (x ∷ xs) l q b

-- ---- equality ----

pub again_equal : (x y : ℕ) (l : Netlist) → Sound l → x < count l → y < count l → Again (add_equal x y) l
unfolding add_equal
again_equal x y l q h k = again_then (add_xor x y) add_not l (again_xor x y l h k) (xor_run x y l q h k) (λ d l₁ s a v. again_not d l₁ v.there)

pub again_equals : (xs ys : List ℕ) (l : Netlist) → Sound l → AllBelow (count l) xs → AllBelow (count l) ys → Again (both add_equal xs ys) l
unfolding both
again_equals [] ys l q b d = again_here [] l
again_equals (x ∷ xs) [] l q b d = again_here [] l
again_equals (x ∷ xs) (y ∷ ys) l q b d =
    again_then (add_equal x y) (λ n l₁. also n (both add_equal xs ys l₁)) l (again_equal x y l q b.0 d.0) (equal_run x y l q b.0 d.0) (λ n l₁ s a v.
    again_bind (both add_equal xs ys) (λ ns l₂. done (n ∷ ns, l₂)) l₁ (again_equals xs ys l₁ a.sound (below_stays s xs b.1) (below_stays s ys d.1))
    (λ ns l₂ e t. again_here (n ∷ ns) l₂))

pub again_equal_words : (xs ys : List ℕ) (l : Netlist) → Sound l → AllBelow (count l) xs → AllBelow (count l) ys → Again (equal_words xs ys) l
unfolding equal_words
again_equal_words xs ys l q b d =
    again_then (both add_equal xs ys) (reduce_tree AndGate true) l (again_equals xs ys l q b d)
    (both_run add_equal (λ h s c. alike) 0 (λ x y l q k hx hy. equal_run x y l q hx hy) xs ys l q (omega arith) b d)
    (λ zs l₁ s a v. again_tree AndGate true zs l₁ a.sound v.there)

-- ---- shifts ----

pub again_stages : (h : Shift) (z k : ℕ) (ss r : List ℕ) (l : Netlist) → AllBelow (count l) ss → Again (stages h z k ss r) l
unfolding stages
again_stages h z k [] r l b = again_here r l
again_stages h z k (m ∷ ss) r l b =
    again_bind (both (add_mux m) (shifted h z (min (2 ^ k) (length r)) r) r) (stages h z (suc k) ss) l
    (again_muxes m (shifted h z (min (2 ^ k) (length r)) r) r l b.0) (λ r₁ l₁ e s. again_stages h z (suc k) ss r₁ l₁ (below_stays s ss b.1))

pub again_shift : (h : Shift) (xs ys : List ℕ) (l : Netlist) → AllBelow (count l) ys → Again (shift h xs ys) l
unfolding shift
again_shift h xs ys l b = again_bind (add_constant false) (λ z. stages h z 0 ys xs) l (again_constant false l) (λ z l₁ e s. again_stages h z 0 ys xs l₁ (below_stays s ys b))
