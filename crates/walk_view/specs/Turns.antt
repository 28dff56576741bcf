-- A phase for each of the records 0, .. , n - 1 in turn, and the loop that runs it: start, more, out, end. Assumes nothing.
use Rattle.std.specs.Prelude.{◌≡◌, refl, List, ℕ, zero, suc, ◌+◌, ◌-◌, ◌≤◌, ◌<◌, Ok}
use Rattle.std.proofs.Common.{sym, ap, ◌∙◌, arith, add-one}
use Rattle.spec_model.specs.Builder.{Out, done, and_then}
use Rattle.spec_model.specs.Lowering.{State}
use Rattle.walk_view.specs.Refusals.{Lowered}
use Rattle.walk_view.specs.View.{walk_state, Ready, Kept, out_of, Phase}
use Rattle.walk_view.specs.Answers.{Refused}
use Rattle.walk_view.specs.Stores.{kept_same, kept_then}
use Rattle.walk_view.specs.Phases.{phase_out}

-- f i, .. , f (i + n - 1)
unfoldable pub in_turn : (ℕ → State → Out State) → ℕ → ℕ → State → Out State
in_turn f i zero st = done st
in_turn f i (suc n) st = and_then (f i st) (λ st₁. in_turn f (suc i) n st₁)

pub turn_none : (f : ℕ → State → Out State) (i : ℕ) (st : State) → in_turn f i 0 st ≡ done st
unfolding in_turn
turn_none f i st = refl

pub turn_more : (f : ℕ → State → Out State) (i n : ℕ) (st : State) → in_turn f i (suc n) st ≡ and_then (f i st) (λ st₁. in_turn f (suc i) n st₁)
unfolding in_turn
turn_more f i n st = refl

-- before record i of n: model is what is left
pub record Turning (model : Out State) (f : ℕ → State → Out State) (n : ℕ) (s net₀ w₀ net w : List ℕ) (i : ℕ) : Type 0 where
  pub within : i ≤ n
  pub says : model ≡ in_turn f i (n - i) (walk_state s net w)
  pub ready : Ready s net w
  pub kept : Kept s net₀ w₀ net w

pub turning_start : (model : Out State) (f : ℕ → State → Out State) (n m : ℕ) (s net w : List ℕ) → n ≡ m → model ≡ in_turn f 0 m (walk_state s net w) → Ready s net w
    → Turning model f n s net w net w 0
turning_start model f n m s net w q e h =
    let z : m ≡ n - 0 = omega arith in
    record { within = omega arith; says = e ∙ ap (λ (k : ℕ). in_turn f 0 k (walk_state s net w)) z; ready = h; kept = kept_same s net w }

module _ (model : Out State) (f : ℕ → State → Out State) (n : ℕ) (s net₀ w₀ net w : List ℕ) (i : ℕ) (g : Turning model f n s net₀ w₀ net w i) where
  opened : i < n → model ≡ and_then (f i (walk_state s net w)) (λ st₁. in_turn f (suc i) (n - suc i) st₁)
  opened h =
      let e : n - i ≡ suc (n - suc i) = omega arith in
      g.says ∙ ap (λ (k : ℕ). in_turn f i k (walk_state s net w)) e ∙ turn_more f i (n - suc i) (walk_state s net w)

  pub turning_more : (x : Lowered) (net₁ w₁ : List ℕ) → i < n → x ≡ Ok tt → Phase (f i (walk_state s net w)) s net w x net₁ w₁
      → Turning model f n s net₀ w₀ net₁ w₁ (i + 1)
  turning_more x net₁ w₁ h e a = record {
    within = omega arith;
    says = opened h ∙ ap (λ (o : Out State). and_then o (λ st₁. in_turn f (suc i) (n - suc i) st₁)) (a.says ∙ ap (λ (y : Lowered). out_of y (walk_state s net₁ w₁)) e)
        ∙ ap (λ (k : ℕ). in_turn f k (n - k) (walk_state s net₁ w₁)) (sym (add-one i));
    ready = a.ready;
    kept = kept_then s net₀ w₀ net w net₁ w₁ g.kept a.kept;
  }

  pub turning_out : (x : Lowered) (net₁ w₁ : List ℕ) → i < n → Refused x → Phase (f i (walk_state s net w)) s net w x net₁ w₁ → Phase model s net₀ w₀ x net₁ w₁
  turning_out x net₁ w₁ h q a =
      let b = phase_out (f i (walk_state s net w)) (λ st₁. in_turn f (suc i) (n - suc i) st₁) s net w net₁ w₁ x q a in
      record { says = opened h ∙ b.says; ready = b.ready; kept = kept_then s net₀ w₀ net w net₁ w₁ g.kept b.kept }

  pub turning_end : n ≤ i → Phase model s net₀ w₀ (Ok tt) net w
  turning_end h =
      let e : n - i ≡ 0 = omega arith in
      record { says = g.says ∙ ap (λ (k : ℕ). in_turn f i k (walk_state s net w)) e ∙ turn_none f i (walk_state s net w); ready = g.ready; kept = g.kept }
