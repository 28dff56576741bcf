-- A refusal that goes on, and settings as any line. Assumes nothing.
use Rattle.std.specs.Prelude.{ℕ, ◌≡◌, refl, Bool, false, List, Result, Ok, Err}
use Rattle.std.proofs.Common.{sym, ap, subst}
use Rattle.std.specs.Result.{IsErr, IsErrAnd}
use Rattle.law_told.specs.Told.{untrue}
use Rattle.trace_line.specs.declared.Tables.{Tables}
use Rattle.trace_line.specs.declared.State.{State}
use Rattle.trace_keep.specs.declared.Moments.{Moments}
use Rattle.trace_answer.specs.declared.Refusal.{Refusal}
use Rattle.trace_answer.specs.declared.Refusal.TheVariants.{Name}
use Rattle.trace_answer.specs.Settings.{Refuses}
use Rattle.trace_answer.specs.Bundles.{SettlesOr, AnswersOr, SettlesBy, AnswersBy}

err_name : (r : Result ℕ Refusal) → IsErr r × IsErrAnd r (λ x. x ≡ Name) → r ≡ Err Name
err_name (Ok x) h = untrue h.0
err_name (Err e) h = ap Err h.1

module _ (t : Tables) (k : ℕ) (l out : List ℕ) (at : ℕ) (s : State) (m : Moments) where
  pub or_named : (r : Result ℕ Refusal) (s' : State) (m' : Moments) → IsErr r × IsErrAnd r (λ x. x ≡ Name)
      → ((to : ℕ) (stop : Bool) (o : List ℕ) → Refuses 15 k 0 out at o to stop → AnswersBy t k l out at s m to stop o s' m') → AnswersOr t k l out at s m r out s' m'
  or_named r s' m' h f = subst (λ (x : Result ℕ Refusal). AnswersOr t k l out at s m x out s' m') (sym (err_name r h)) (refl, f)

  -- what a settings line comes to
  pub or_settles : (r : Result ℕ Refusal) (out' : List ℕ) (s' : State) → SettlesOr t k l out at s r out' s'
      → ((to : ℕ) (stop : Bool) (o : List ℕ) → SettlesBy t k l out at s to stop o s' → AnswersBy t k l out at s m to stop o s' m) → AnswersOr t k l out at s m r out' s' m
  or_settles (Ok to) out' s' h f = f to false out' h
  or_settles (Err e) out' s' h f = (h.0, λ to stop o g. f to stop o (h.1 to stop o g))
