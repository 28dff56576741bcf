-- Laws of `member`: a net in a list of nets. Assumes nothing.
use Rattle.std.specs.Prelude.{ℕ, ◌≡◌, refl, true, List, [], ◌∷◌, ◌++◌}
use Rattle.spec_tests.specs.Rules.{◌≡?◌}
use Rattle.spec_tests.specs.Laws.{or_left, or_right, eq_yes, yes_eq}
use Rattle.spec_netlist.specs.Accept.{member}
use Rattle.law_told.specs.Told.{untrue, or_split}

pub member_here : (x : ℕ) (ys : List ℕ) → member x (x ∷ ys) ≡ true
unfolding member
member_here x ys = or_left (member x ys) (eq_yes x x refl)

pub no_member : {P : Type 0} (x : ℕ) → member x [] ≡ true → P
unfolding member
no_member x h = untrue h

pub member_split : {P : Type 0} (x : ℕ) (ys zs : List ℕ) → member x (ys ++ zs) ≡ true → (member x ys ≡ true → P) → (member x zs ≡ true → P) → P
unfolding member
member_split x [] zs h f g = g h
member_split x (y ∷ ys) zs h f g =
    or_split (x ≡? y) (member x (ys ++ zs)) h (λ e. f (or_left (member x ys) e)) (λ m. member_split x ys zs m (λ l. f (or_right (x ≡? y) l)) g)

pub member_one : (x y : ℕ) → member x (y ∷ []) ≡ true → x ≡ y
unfolding member
member_one x y h = or_split (x ≡? y) (member x []) h (yes_eq x y) (λ m. no_member x m)
