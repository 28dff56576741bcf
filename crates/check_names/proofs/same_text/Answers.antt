-- `check_names::same_text` meets its contract. Assumes nothing.
use Rattle.std.proofs.Common.{◌≡◌, ℕ, Bool, ◌&&◌, List, [], ◌∷◌, true, false, nat_eq, refl, ◌∙◌}
use lib.Pointwise.{pointwise}
use Rattle.spec_tests.specs.Rules.{◌and◌, ◌≡?◌, same_text}
use Rattle.check_names.proofs.same_text.Goals as goal

both : (t : Bool) {p q : Bool} → p ≡ q → (t && p) ≡ (t and q)
unfolding ◌and◌
both true e = e
both false e = refl

same_pairs : (a b : List ℕ) → pointwise nat_eq a b ≡ same_text a b
unfolding same_text ◌≡?◌
same_pairs [] [] = refl
same_pairs [] (b ∷ bs) = refl
same_pairs (a ∷ as') [] = refl
same_pairs (a ∷ as') (b ∷ bs) = both (nat_eq a b) (same_pairs as' bs)

pub returns : goal.returns
returns c = c.eq.ensures ∙ same_pairs _ _
