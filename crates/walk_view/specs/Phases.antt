-- Phases of the lowering, one after another. Assumes nothing.
use Rattle.std.specs.Prelude.{◌≡◌, refl, List, ℕ, Ok}
use Rattle.std.proofs.Common.{ap, ◌∙◌}
use Rattle.spec_model.specs.Builder.{Out, refused, done, and_then}
use Rattle.spec_model.specs.Lowering.{State}
use Rattle.walk_view.specs.Refusals.{Lowered}
use Rattle.walk_view.specs.View.{walk_state, Ready, out_of, Phase}
use Rattle.walk_view.specs.Answers.{Refused, out}
use Rattle.walk_view.specs.Stores.{kept_same, kept_then}

pub then_then : (o : Out State) (f g : State → Out State) → and_then (and_then o f) g ≡ and_then o (λ st. and_then (f st) g)
then_then (refused n x y) f g = refl
then_then (done st) f g = refl

pub phase_none : (s net w : List ℕ) → Ready s net w → Phase (done (walk_state s net w)) s net w (Ok tt) net w
phase_none s net w h = record { says = refl; ready = h; kept = kept_same s net w }

pub phase_as : (m m' : Out State) (s net w net' w' : List ℕ) (r : Lowered) → m' ≡ m → Phase m s net w r net' w' → Phase m' s net w r net' w'
phase_as m m' s net w net' w' r e a = record { says = e ∙ a.says; ready = a.ready; kept = a.kept }

module _ (m : Out State) (k : State → Out State) (s net w net₁ w₁ : List ℕ) where
  pub phase_then : (x r : Lowered) (net₂ w₂ : List ℕ) → x ≡ Ok tt → Phase m s net w x net₁ w₁ → Phase (k (walk_state s net₁ w₁)) s net₁ w₁ r net₂ w₂
      → Phase (and_then m k) s net w r net₂ w₂
  phase_then x r net₂ w₂ e a b = record {
    says = ap (λ (o : Out State). and_then o k) (a.says ∙ ap (λ (y : Lowered). out_of y (walk_state s net₁ w₁)) e) ∙ b.says;
    ready = b.ready;
    kept = kept_then s net w net₁ w₁ net₂ w₂ a.kept b.kept;
  }

  pub phase_out : (r : Lowered) → Refused r → Phase m s net w r net₁ w₁ → Phase (and_then m k) s net w r net₁ w₁
  phase_out r q a = record {
    says = ap (λ (o : Out State). and_then o k) a.says ∙ out r q k (walk_state s net₁ w₁) (walk_state s net₁ w₁);
    ready = a.ready;
    kept = a.kept;
  }
