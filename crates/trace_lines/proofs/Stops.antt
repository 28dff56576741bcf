-- A line that is refused uses up no bytes. Assumes nothing.
use Rattle.std.specs.Prelude.{ℕ, ◌≤◌, ◌<◌, ◌≡◌, refl, true, List, length, take, Result, Ok, Err}
use Rattle.std.proofs.Common.{arith, sym, ap, subst}
use Rattle.std.specs.Result.{IsErr, IsErrAnd}
use Rattle.law_told.specs.Told.{untrue}
use Rattle.trace_line.specs.declared.Tables.{Tables}
use Rattle.trace_line.specs.declared.State.{State}
use Rattle.trace_keep.specs.declared.Moments.{Moments}
use Rattle.trace_keep.specs.Bundles.{RoomyIn}
use Rattle.trace_answer.specs.declared.Last.{Last}
use Rattle.trace_answer.specs.Bundles.{Runs, AnswersBy}
use Rattle.trace_lines.specs.declared.Progress.{Progress}
use Rattle.trace_lines.specs.Answers.{LineEnd, answered}
use Rattle.trace_lines.specs.Bundles.{AnsweredBy, used_of, to_of, stop_of}

err_is : (r : Result Progress Last) (e : Last) → IsErr r × IsErrAnd r (λ x. x ≡ e) → r ≡ Err e
err_is (Ok x) e h = untrue h.0
err_is (Err x) e h = ap Err h.1

module _ (t : Tables) (k : ℕ) (bytes out : List ℕ) (at : ℕ) (s : State) (m : Moments) where
  answered_last : Runs t k s m → {i : ℕ} → LineEnd bytes i → i < length bytes → k ≤ 4294967294 → {l : List ℕ} → l ≡ take i bytes → (to : ℕ) (out' : List ℕ) (s' : State) (m' : Moments)
      → AnswersBy t k l out at s m to true out' s' m' → RoomyIn s' m' → AnsweredBy t k bytes out at s m 0 to true out' s' m'
  answered_last x r h few el to out' s' m' a room =
      let w = answered x.0 r h few el a room refl in
      record {
        up_to = omega arith;
        place = a.place;
        stops = w.stops;
        waits = λ y u. untrue (sym y);
        goes = λ y u. untrue (sym y);
        few = λ y u. untrue (sym y);
        underway = λ y u. untrue (sym y);
      }

  pub answered_err : Runs t k s m → {i : ℕ} → LineEnd bytes i → i < length bytes → k ≤ 4294967294 → {l : List ℕ} → l ≡ take i bytes → (e : Last) (out' : List ℕ) (s' : State) (m' : Moments)
      → AnswersBy t k l out at s m e.at true out' s' m' → RoomyIn s' m' → (r : Result Progress Last) → IsErr r × IsErrAnd r (λ x. x ≡ e)
      → AnsweredBy t k bytes out at s m (used_of r) (to_of at r) (stop_of r) out' s' m'
  answered_err x d h few el e out' s' m' a room r q =
      subst (λ (z : Result Progress Last). AnsweredBy t k bytes out at s m (used_of z) (to_of at z) (stop_of z) out' s' m') (sym (err_is r e q)) (answered_last x d h few el e.at out' s' m' a room)
