-- Demands 2 and 3 of every lowering of a good module that succeeds, with either flag; that the module has one run; the size of the image.
-- Assumes nothing.
use Rattle.std.specs.Prelude.{◌≡◌, Bool, List, [], ◌∷◌, map, ℕ, zero, suc, ◌≤◌, ◌<◌, length, get_or}
use Rattle.std.proofs.Math.Path.{refl}
use Rattle.std.proofs.Common.{sym, ap, ◌∙◌, suc-le-suc, not-suc-le-zero, le_of_suc-le-suc, arith}
use Rattle.std.proofs.Math.Option
use Rattle.std.proofs.Math.Option.{Option, none, some}
use Rattle.std.proofs.Math.Decide.{dec_lt}
use Rattle.std.proofs.Math.ListN.{get_elem?, get_or-eq_default}
use Rattle.spec_rtl.specs.Ops.{tab}
use Rattle.spec_rtl.specs.Rtl as R
use Rattle.spec_rtl.specs.Rtl.{Module, dir_of}
use Rattle.spec_rules.specs.Step.{Setting, Contents, Machine}
use Rattle.law_walk.specs.Tables.{none_some}

-- machines that read and show the same are one
pub machine_alike : (a b : Machine) → ((s : Setting) (c : Contents) → a.outputs s c ≡ b.outputs s c) → ((s : Setting) (c : Contents) (t : Setting) → a.reads s c t ≡ b.reads s c t) → a ≡ b
machine_alike a b o r = λ i. record { reads = λ s c t. r s c t i; outputs = λ s c. o s c i }

-- ---- lists by number ----

pub map_elem : {A B : Type 0} (g : A → B) (xs : List A) (i : ℕ) → Option.map g (get_elem? xs i) ≡ get_elem? (map g xs) i
map_elem g [] i = refl
map_elem g (x ∷ xs) zero = refl
map_elem g (x ∷ xs) (suc i) = map_elem g xs i

pub tab_elem : (w : ℕ) (f : ℕ → Bool) (i : ℕ) → i < w → get_elem? (tab w f) i ≡ some (f i)
tab_elem zero f i h = absurd (not-suc-le-zero h)
tab_elem (suc w) f zero h = refl
tab_elem (suc w) f (suc i) h = tab_elem w (λ j. f (suc j)) i (le_of_suc-le-suc h)

pub tab_past : (w : ℕ) (f : ℕ → Bool) (i : ℕ) → w ≤ i → get_elem? (tab w f) i ≡ none
tab_past zero f i h = refl
tab_past (suc w) f zero h = absurd (omega arith)
tab_past (suc w) f (suc i) h = tab_past w (λ j. f (suc j)) i (le_of_suc-le-suc h)

pub past : {A : Type 0} (xs : List A) (i : ℕ) → get_elem? xs i ≡ none → length xs ≤ i
past [] i e = omega arith
past (x ∷ xs) zero e = absurd (none_some (sym e))
past (x ∷ xs) (suc i) e = suc-le-suc (past xs i e)

pub output_there : (m : Module) (p : ℕ) → dir_of m p ≡ R.Output → p < length m.signals
output_there m p e = elim (dec_lt p (length m.signals)) [
  | yes h ↦ h
  | no h ↦ (
      let q : get_or m.signals p (record { width = 0; dir = R.Internal }) ≡ record { width = 0; dir = R.Internal }
      = get_or-eq_default m.signals (record { width = 0; dir = R.Internal }) {n = p} (omega arith) in
      let z : R.Internal ≡ R.Output = sym (ap (λ (x : R.Sig). x.dir) q) ∙ e in
      let y : ◌≡◌ {A = ℕ} 0 1 = cc in absurd (omega arith))
]
