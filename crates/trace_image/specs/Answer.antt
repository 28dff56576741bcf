-- What the judgement says: nothing is wrong, refusal 11 at a word, or 12. Assumes nothing.
use Rattle.std.specs.Prelude.{Result, Ok, Err}
use Rattle.spec_tests.specs.Rules.{Answer, Fine, Refused}
use Rattle.trace_image.specs.declared.Refusal.{Refusal}
use Rattle.trace_image.specs.declared.Refusal.TheVariants as R

abbrev pub refusal_of : Refusal → Answer
refusal_of (R.Wrong p) = Refused 11 p 0
refusal_of R.Unfit = Refused 12 0 0

abbrev pub answer_of : Result (Unit {0}) Refusal → Answer
answer_of (Ok u) = Fine
answer_of (Err r) = refusal_of r
