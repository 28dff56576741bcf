-- A refusal of an image, whichever it is. Assumes nothing.
use Rattle.std.specs.Prelude.{ℕ, ◌≡◌, List, length, Result, Ok, Err}
use Rattle.std.proofs.Common.{ap, ◌∙◌}
use Rattle.std.specs.Result.{IsErr, IsErrAnd}
use Rattle.spec_tests.specs.Rules.{Fine}
use Rattle.spec_netlist.specs.Accept.{accepts}
use Rattle.law_told.specs.Told.{untrue}
use Rattle.stored_check.specs.Answer as stored
use Rattle.stored_check.specs.declared.WrongWord.{WrongWord}
use Rattle.spec_trace.specs.Opened.{opened}
use Rattle.trace_image.specs.declared.Refusal.{Refusal}
use Rattle.trace_image.specs.declared.Refusal.TheVariants as R
use Rattle.trace_image.specs.Answer.{refusal_of, answer_of}
use Rattle.trace_image.specs.Headed.{headed, opened_refused, opened_fine}
use Rattle.trace_image.specs.Whole.{image_words, words_given}

pub words_refused : (ws : List ℕ) (r : Refusal) → refusal_of r ≡ headed 1024 2048 ws → length ws ≡ image_words 1024 2048 ws
words_refused ws (R.Wrong p) e = words_given 1024 2048 ws 11 p 0 e
words_refused ws R.Unfit e = words_given 1024 2048 ws 12 0 0 e

refused : (ws : List ℕ) (r : Refusal) → refusal_of r ≡ headed 1024 2048 ws → refusal_of r ≡ opened 1024 2048 ws
refused ws (R.Wrong p) e = opened_refused 1024 2048 ws e
refused ws R.Unfit e = opened_refused 1024 2048 ws e

-- a refusal by the header goes on
pub header_refused : (ws : List ℕ) (r : Refusal) (x : Result (Unit {0}) Refusal) → IsErr x × IsErrAnd x (λ z. z ≡ r) → refusal_of r ≡ headed 1024 2048 ws → answer_of x ≡ opened 1024 2048 ws
header_refused ws r (Ok u) h e = untrue h.0
header_refused ws r (Err z) h e = ap refusal_of h.1 ∙ refused ws r e

-- the check of the words goes on, fine or refused
pub check_fine : (ws : List ℕ) (u : Unit {0}) → Fine ≡ headed 1024 2048 ws → stored.answer_of (Ok u) ≡ accepts ws → Fine ≡ opened 1024 2048 ws
unfolding stored.answer_of
check_fine ws u h e = opened_fine 1024 2048 ws h e

pub check_refused : (ws : List ℕ) (w : WrongWord) (x : Result (Unit {0}) Refusal) → IsErr x × IsErrAnd x (λ z. z ≡ R.Wrong w.0) → Fine ≡ headed 1024 2048 ws → stored.answer_of (Err w) ≡ accepts ws → answer_of x ≡ opened 1024 2048 ws
unfolding stored.answer_of
check_refused ws w (Ok u) h f e = untrue h.0
check_refused ws w (Err z) h f e = ap refusal_of h.1 ∙ opened_fine 1024 2048 ws f e
