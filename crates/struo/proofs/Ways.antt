-- A kept promise whose answer is written as its three numbers. Assumes nothing.
use mathlib.Core.Path.{◌≡◌, ap, ◌∙◌, subst}
use mathlib.Core.List.{List}
use Prim.Native.Nat.{ℕ}
use Rattle.spec_tests.specs.Rules.{Answer}
use Rattle.spec_call.specs.Call as Call
use Rattle.spec_call.specs.Call.{numbers_of}
use Rattle.struo.specs.Answers.{Answers}

pub answers : (s : List ℕ) (N P : ℕ) (buffer scratch answer buffer' scratch' : List ℕ) (a : Answer) → Call.Lowered s N P buffer scratch a buffer' scratch'
    → answer ≡ numbers_of a → Answers s N P buffer scratch answer buffer' scratch'
answers s N P buffer scratch answer buffer' scratch' a x e = record {
  numbers = e ∙ ap numbers_of x.answered;
  lowered = subst (λ (b : Answer). Call.Lowered s N P buffer scratch b buffer' scratch') x.answered x;
}
