-- What the check's answer says: nothing is wrong, or refusal 11 at a word. Assumes nothing.
use Rattle.std.specs.Prelude.{Result, Ok, Err}
use Rattle.spec_tests.specs.Rules.{Answer, Fine, Refused}
use Rattle.stored_check.specs.declared.WrongWord.{WrongWord}

unfoldable pub answer_of : Result (Unit {0}) WrongWord → Answer
answer_of (Ok u) = Fine
answer_of (Err w) = Refused 11 w.0 0
