-- What holds of an outcome that is no refusal, and how it is shown along a computation.
use Rattle.std.specs.Prelude.{Bool, true, false, cond, List, [], ◌∷◌, ◌++◌, ℕ}
use Rattle.spec_model.specs.Builder.{Out, refused, done, and_then}

abbrev pub All : {A : Type 0} → (A → Type 0) → List A → Type 0
All P [] = Unit {0}
All P (x ∷ xs) = P x × All P xs

pub all_last : {A : Type 0} (P : A → Type 0) (xs : List A) (x : A) → All P xs → P x → All P (xs ++ (x ∷ []))
all_last P [] x a p = (p, tt)
all_last P (y ∷ xs) x a p = (a.0, all_last P xs x a.1 p)

abbrev pub Meets : {A : Type 0} → (A → Type 0) → Out A → Type 0
Meets P (refused n x y) = Unit {0}
Meets P (done a) = P a

pub record Ends {A : Type 0} (P : A → Type 0) (o : Out A) : Type 0 where
  pub ends : Meets P o

pub ends_done : {A : Type 0} {P : A → Type 0} {a : A} → P a → Ends P (done a)
ends_done p = record { ends = p }

pub ends_refused : {A : Type 0} {P : A → Type 0} {n x y : ℕ} → Ends P (refused n x y)
ends_refused = record { ends = tt }

pub ends_then : {A B : Type 0} {P : A → Type 0} {R : B → Type 0} (o : Out A) {k : A → Out B} → Ends P o → ((a : A) → P a → Ends R (k a)) → Ends R (and_then o k)
ends_then (refused n x y) w f = record { ends = tt }
ends_then (done a) w f = f a w.ends

pub ends_if : {A : Type 0} {P : A → Type 0} (t : Bool) {x y : Out A} → Ends P x → Ends P y → Ends P (cond t x y)
ends_if true p q = p
ends_if false p q = q
