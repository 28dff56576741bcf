-- Well-formed list records, written one behind the other, are found again. Assumes nothing.
use Rattle.std.specs.Prelude.{◌≡◌, refl, Bool, true, false, List, [], ◌∷◌, ◌++◌, ℕ, zero, suc, ◌+◌, ◌≤◌, ◌<◌, eqb, length, get_or}
use Rattle.std.proofs.Common.{sym, ap, ap₂, ◌∙◌, append_assoc, append-nil, arith, add_assoc, length-append, take_at, drop_at}
use Rattle.spec_rules.specs.NetlistImage.{record_length, split}
use Rattle.spec_model.specs.Words.{absent, used, count, bit_word, list_words}
use Rattle.net_view.specs.View.{Formed, AllFormed}

pub used_length : (rs : List (List ℕ)) → length (list_words rs) ≡ used rs
unfolding used
used_length [] = refl
used_length (r ∷ rs) = length-append r (list_words rs) ∙ ap (λ (k : ℕ). length r + k) (used_length rs)

pub used_snoc : (rs : List (List ℕ)) (r : List ℕ) → used (rs ++ (r ∷ [])) ≡ used rs + length r
unfolding used
used_snoc [] r = omega arith
used_snoc (x ∷ rs) r = ap (λ (k : ℕ). length x + k) (used_snoc rs r) ∙ sym (add_assoc (length x) (used rs) (length r))

pub list_words_snoc : (rs : List (List ℕ)) (r : List ℕ) → list_words (rs ++ (r ∷ [])) ≡ list_words rs ++ r
list_words_snoc [] r = append-nil r
list_words_snoc (x ∷ rs) r = ap (λ (t : List ℕ). x ++ t) (list_words_snoc rs r) ∙ sym (append_assoc x (list_words rs) r)

pub count_snoc : (k : ℕ) (rs : List (List ℕ)) (r : List ℕ) → count k (rs ++ (r ∷ [])) ≡ count k rs + bit_word (eqb (get_or r 0 absent) k)
unfolding count
count_snoc k [] r = omega arith
count_snoc k (x ∷ rs) r =
    ap (λ (j : ℕ). bit_word (eqb (get_or x 0 absent) k) + j) (count_snoc k rs r)
    ∙ sym (add_assoc (bit_word (eqb (get_or x 0 absent) k)) (count k rs) (bit_word (eqb (get_or r 0 absent) k)))

pub formed_snoc : (rs : List (List ℕ)) (r : List ℕ) → AllFormed rs → Formed r → AllFormed (rs ++ (r ∷ []))
formed_snoc [] r f g = (g, tt)
formed_snoc (x ∷ rs) r f g = (f.0, formed_snoc rs r f.1 g)

-- each record has a word at least
pub count_le : (k : ℕ) (rs : List (List ℕ)) → AllFormed rs → count k rs ≤ used rs
unfolding count used
count_le k [] f = omega arith
count_le k (r ∷ rs) f = go (eqb (get_or r 0 absent) k) (count_le k rs f.1) f.0.some
  where
    go : (t : Bool) → count k rs ≤ used rs → 0 < length r → bit_word t + count k rs ≤ length r + used rs
    go true h q = omega arith
    go false h q = omega arith

split_nil : (m : ℕ) → split m [] ≡ []
unfolding split
split_nil zero = refl
split_nil (suc m) = refl

-- a record behind which others stand is split off
split_first : (m : ℕ) (r t : List ℕ) → Formed r → split (suc m) (r ++ t) ≡ r ∷ split m t
unfolding split
split_first m [] t f = absurd (omega (arith, f.some))
split_first m (x ∷ r) t f =
    let e : record_length (x ∷ (r ++ t)) ≡ length (x ∷ r) = f.long t in
    rw e (ap₂ ◌∷◌ (take_at (x ∷ r) t (length (x ∷ r)) refl) (ap (split m) (drop_at (x ∷ r) t (length (x ∷ r)) refl)))

pub split_list : (m : ℕ) (rs : List (List ℕ)) → AllFormed rs → used rs ≤ m → split m (list_words rs) ≡ rs
unfolding used
split_list m [] f h = split_nil m
split_list zero (r ∷ rs) f h = absurd (omega (arith, f.0.some))
split_list (suc m) (r ∷ rs) f h =
    split_first m r (list_words rs) f.0 ∙ ap (λ (t : List (List ℕ)). r ∷ t) (split_list m rs f.1 (omega (arith, f.0.some)))
