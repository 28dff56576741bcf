-- A call around the recursion that also keeps `Sure` (`Ran`), and how such calls follow each other. Assumes nothing.
use Rattle.std.specs.Prelude.{◌≡◌, refl, List, ℕ, Ok}
use Rattle.std.proofs.Common.{◌∙◌}
use Rattle.spec_model.specs.Builder.{Out, done, and_then}
use Rattle.spec_model.specs.Lowering.{State}
use Rattle.walk_view.specs.View.{walk_state, Ready, Sure, Kept, out_of, Phase}
use Rattle.walk_view.specs.Refusals.{Lowered}
use Rattle.walk_view.specs.Answers.{Refused, not_done}
use Rattle.walk_view.specs.Stores.{kept_same}
use Rattle.walk_view.specs.Phases.{phase_then, phase_out}

-- from net, w a call that the model describes answered r and left net', w'
pub record Ran (model : Out State) (s net w : List ℕ) (r : Lowered) (net' w' : List ℕ) : Type 0 where
  pub says : model ≡ out_of r (walk_state s net' w')
  pub ready : Ready s net' w'
  pub kept : Kept s net w net' w'
  pub sure : r ≡ Ok tt → Sure s net' w'

pub ran_phase : {model : Out State} {s net w net' w' : List ℕ} {r : Lowered} → Ran model s net w r net' w' → Phase model s net w r net' w'
ran_phase a = record { says = a.says; ready = a.ready; kept = a.kept }

pub phase_ran : {model : Out State} {s net w net' w' : List ℕ} {r : Lowered} → Phase model s net w r net' w' → (r ≡ Ok tt → Sure s net' w') → Ran model s net w r net' w'
phase_ran a i = record { says = a.says; ready = a.ready; kept = a.kept; sure = i }

pub ran_as : {model model' : Out State} {s net w net' w' : List ℕ} {r : Lowered} → model' ≡ model → Ran model s net w r net' w' → Ran model' s net w r net' w'
ran_as e a = record { says = e ∙ a.says; ready = a.ready; kept = a.kept; sure = a.sure }

-- ---- one call, then another ----

pub ran_refused : (model : Out State) (s net w : List ℕ) (x : Lowered) → Ready s net w → model ≡ out_of x (walk_state s net w) → Refused x → Ran model s net w x net w
ran_refused model s net w x r e q = record { says = e; ready = r; kept = kept_same s net w; sure = λ d. not_done x q d }

pub ran_none : (s net w : List ℕ) → Ready s net w → Sure s net w → Ran (done (walk_state s net w)) s net w (Ok tt) net w
ran_none s net w r i = record { says = refl; ready = r; kept = kept_same s net w; sure = λ e. i }

module _ {o : Out State} {s net w net₁ w₁ : List ℕ} {x : Lowered} (k : State → Out State) (a : Ran o s net w x net₁ w₁) where
  pub ran_then : {r : Lowered} {net₂ w₂ : List ℕ} → x ≡ Ok tt → Ran (k (walk_state s net₁ w₁)) s net₁ w₁ r net₂ w₂ → Ran (and_then o k) s net w r net₂ w₂
  ran_then e b = phase_ran (phase_then o k s net w net₁ w₁ x _ _ _ e (ran_phase a) (ran_phase b)) b.sure

  pub ran_out : Refused x → Ran (and_then o k) s net w x net₁ w₁
  ran_out q = phase_ran (phase_out o k s net w net₁ w₁ x q (ran_phase a)) (λ e. not_done x q e)
