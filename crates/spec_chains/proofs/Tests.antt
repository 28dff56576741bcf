-- Chains of tests: what `or`, `and` and `pick` come to at a test that is known, and what a test of the rules is in the code's words. As a set, `chained`,
-- for `#[tactic(auto, using(spec_chains::proofs::Tests::chained), ..)]`. Assumes nothing.
use Rattle.std.specs.Prelude.{◌≡◌, Bool, true, false, ℕ, ltb, eqb, not, refl}
use Rattle.spec_tests.specs.Rules.{◌or◌, ◌and◌, ◌<?◌, ◌≡?◌, ◌≢?◌, pick}

pub or_true : (b : Bool) → (true or b) ≡ true
unfolding ◌or◌
or_true b = refl

pub or_false : (b : Bool) → (false or b) ≡ b
unfolding ◌or◌
or_false b = refl

pub and_true : (b : Bool) → (true and b) ≡ b
unfolding ◌and◌
and_true b = refl

pub and_false : (b : Bool) → (false and b) ≡ false
unfolding ◌and◌
and_false b = refl

pub pick_true : {A : Type 0} (a b : A) → pick true a b ≡ a
unfolding pick
pick_true a b = refl

pub pick_false : {A : Type 0} (a b : A) → pick false a b ≡ b
unfolding pick
pick_false a b = refl

pub lt_is : (a b : ℕ) → (a <? b) ≡ ltb a b
unfolding ◌<?◌
lt_is a b = refl

pub eq_is : (a b : ℕ) → (a ≡? b) ≡ eqb a b
unfolding ◌≡?◌
eq_is a b = refl

pub ne_is : (a b : ℕ) → (a ≢? b) ≡ not (eqb a b)
unfolding ◌≢?◌
ne_is a b = refl

pub ruleset chained = (or_true, or_false, and_true, and_false, pick_true, pick_false, lt_is, eq_is, ne_is)
