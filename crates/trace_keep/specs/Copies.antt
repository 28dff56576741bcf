-- Words copied from one table into another. Assumes nothing.
use Rattle.std.specs.Prelude.{ℕ, ◌+◌, ◌≤◌, ◌<◌, ◌≡◌, refl, List, length, get_or, set}
use Rattle.std.proofs.Common.{not-suc-le-zero, arith, sym, ap, ◌∙◌, length-set, get_or-set_same, get_or-set_other}
use Rattle.std.proofs.Math.Decide.{dec_lt}

-- n words, from word a of one table to word b of another
pub record Copied (from : List ℕ) (a : ℕ) (to : List ℕ) (b n : ℕ) (to' : List ℕ) : Type 0 where
  pub long : length to' ≡ length to
  pub new : (j : ℕ) → j < n → get_or to' (b + j) 0 ≡ get_or from (a + j) 0
  pub below : (j : ℕ) → j < b → get_or to' j 0 ≡ get_or to j 0
  pub above : (j : ℕ) → b + n ≤ j → get_or to' j 0 ≡ get_or to j 0

pub copied_none : (from : List ℕ) (a : ℕ) (to : List ℕ) (b : ℕ) → Copied from a to b 0 to
copied_none from a to b = record { long = refl; new = λ j h. absurd (not-suc-le-zero h); below = λ j h. refl; above = λ j h. refl }

pub copied_more : {from to to' : List ℕ} {a b i x : ℕ} → Copied from a to b i to' → b + i < length to → x ≡ get_or from (a + i) 0 → Copied from a to b (i + 1) (set to' (b + i) x)
copied_more {from} {to} {to'} {a} {b} {i} {x} c h e = record {
  long = length-set to' (b + i) x ∙ c.long;
  new = λ j l. elim (dec_lt j i) [
    | yes m ↦ get_or-set_other to' (b + i) (b + j) x 0 (λ z. absurd (omega arith)) ∙ c.new j m
    | no m ↦ (let z : j ≡ i = omega arith in let q = c.long in ap (λ (k : ℕ). get_or (set to' (b + i) x) (b + k) 0) z ∙ get_or-set_same to' (b + i) x 0 (omega arith) ∙ e ∙ ap (λ (k : ℕ). get_or from (a + k) 0) (sym z))
  ];
  below = λ j l. get_or-set_other to' (b + i) j x 0 (λ z. absurd (omega arith)) ∙ c.below j l;
  above = λ j l. get_or-set_other to' (b + i) j x 0 (λ z. absurd (omega arith)) ∙ c.above j (omega arith);
}

pub copied_all : {from to to' : List ℕ} {a b n i : ℕ} → Copied from a to b i to' → n ≤ i → i ≤ n → Copied from a to b n to'
copied_all {from} {to} {to'} {a} {b} {n} {i} c h l = let z : i ≡ n = omega arith in rw z at c
