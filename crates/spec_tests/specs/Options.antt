-- An `Option` of the code: the model's option that it stands for, and the first number with a property as one. Assumes nothing.
use Rattle.std.specs.Prelude.{◌≡◌, ℕ, ◌<◌, Bool, ltb, Option, Some, None}
use Rattle.std.proofs.Common.{arith, lt-ltb, le-ltb}
use Rattle.std.proofs.Math.Option as model
use Rattle.spec_tests.specs.Rules.{◌<?◌, pick, first}

-- the model's option
abbrev pub option_of : {A : Type 0} → Option A → model.Option A
option_of (Some x) = model.some x
option_of None = model.none

-- the first number below n with p, if there is one
unfoldable pub first_of : (ℕ → Bool) → ℕ → Option ℕ
first_of p n = pick (first p n <? n) (Some (first p n)) None

pub first_some : (p : ℕ → Bool) (n i : ℕ) → i < n → first p n ≡ i → first_of p n ≡ Some i
unfolding first_of pick ◌<?◌
first_some p n i h e = rw (e, lt-ltb i n h)

pub first_none : (p : ℕ → Bool) (n : ℕ) → first p n ≡ n → first_of p n ≡ None
unfolding first_of pick ◌<?◌
first_none p n e = rw (e, le-ltb n n (omega arith))
