-- A list of steps that is lowered by calls of the walk, one by one. `StepsAt`: from the words net₀, w₀ on, of the steps all there is rest left
-- at net, w; laws steps_start, steps_next, steps_out, steps_end. `GivesAll`: what lowering the whole list gives; steps_list and steps_stop take
-- such a call as one step of a longer list. Assumes nothing.
use Rattle.std.specs.Prelude.{◌≡◌, ℕ, suc, ◌+◌, ◌-◌, ◌≤◌, ◌<◌, Ok}
use Rattle.std.proofs.Math.Path.{refl, sym, ap}
use Rattle.std.proofs.Common.{◌∙◌, subst, arith}
use Rattle.std.proofs.Math.Bool.{false}
use mathlib.Core.List.{List, [], ◌∷◌, ◌++◌}
use Rattle.spec_rules.specs.Image.{decode}
use Rattle.spec_model.specs.Builder.{Out, refused, done, and_then, from}
use Rattle.spec_model.specs.Lowering.{State, Need, Bit, Step, Always, Unless, signal_steps, lower_steps, lower_need, plenty, lower_all}
use Rattle.walk_view.specs.Met.{step_need, AllMet, Grows, all_grow}
use Rattle.walk_view.specs.View.{walk_state, Ready, Sure, Kept, out_of, There, Gives}
use Rattle.walk_view.specs.Refusals.{Lowered}
use Rattle.walk_invariant.specs.Sure.{sure_done}
use Rattle.walk_view.specs.Stores.{kept_same, kept_then}
use Rattle.walk_view.specs.Phases.{then_then}
use Rattle.walk_view.specs.Answers.{Refused, out, not_done}
use Rattle.walk_invariant.specs.Fuel.{cost_enough}

-- ---- the model's steps ----

module _ (rec : Need → State → Out State) where
  step_on : (x : Step) (ss : List Step) (st : State) → lower_steps rec false (x ∷ ss) st ≡ and_then (rec (step_need x) st) (λ st₁. lower_steps rec false ss st₁)
  unfolding lower_steps
  step_on (Always n) ss st = refl
  step_on (Unless c v n) ss st = refl

  steps_append : (ss ts : List Step) (st : State) → lower_steps rec false (ss ++ ts) st ≡ and_then (lower_steps rec false ss st) (λ st₁. lower_steps rec false ts st₁)
  unfolding lower_steps
  steps_append [] ts st = refl
  steps_append (Always n ∷ ss) ts st =
      ap (and_then (rec n st)) (λ i st₁. steps_append ss ts st₁ i) ∙ sym (then_then (rec n st) (λ st₁. lower_steps rec false ss st₁) (λ st₁. lower_steps rec false ts st₁))
  steps_append (Unless c v n ∷ ss) ts st =
      ap (and_then (rec n st)) (λ i st₁. steps_append ss ts st₁ i) ∙ sym (then_then (rec n st) (λ st₁. lower_steps rec false ss st₁) (λ st₁. lower_steps rec false ts st₁))

module _ (s : List ℕ) where
  all_none : (st : State) → lower_all (decode s) false [] st ≡ done st
  unfolding lower_all lower_steps
  all_none st = refl

  all_on : (x : Step) (ss : List Step) (st : State) (o : Out State) → lower_need (plenty (decode s)) (decode s) false (step_need x) st ≡ o
      → lower_all (decode s) false (x ∷ ss) st ≡ and_then o (λ st₁. lower_all (decode s) false ss st₁)
  unfolding lower_all
  all_on x ss st o e =
      step_on (λ n st'. lower_need (plenty (decode s)) (decode s) false n st') x ss st
      ∙ ap (λ (z : Out State). and_then z (λ st₁. lower_all (decode s) false ss st₁)) e

  pub all_append : (ss ts : List Step) (st : State) → lower_all (decode s) false (ss ++ ts) st ≡ and_then (lower_all (decode s) false ss st) (λ st₁. lower_all (decode s) false ts st₁)
  unfolding lower_all
  all_append ss ts st = steps_append (λ n st'. lower_need (plenty (decode s)) (decode s) false n st') ss ts st

pub met_append : (st : State) (ss ts : List Step) → AllMet st ss → AllMet st ts → AllMet st (ss ++ ts)
met_append st [] ts a b = b
met_append st (x ∷ ss) ts a b = (a.0, met_append st ss ts a.1 b)

-- ---- a call that lowers a list ----

pub record GivesAll (s net w : List ℕ) (ss : List Step) (r : Lowered) (net' w' : List ℕ) : Type 0 where
  pub says : lower_all (decode s) false ss (walk_state s net w) ≡ out_of r (walk_state s net' w')
  pub ready : Ready s net' w'
  pub sure : r ≡ Ok tt → Sure s net' w'
  pub kept : Kept s net w net' w'
  pub grows : Grows (walk_state s net w) (walk_state s net' w')
  pub meets : r ≡ Ok tt → AllMet (walk_state s net' w') ss

-- one need
pub gives_one : (s net w : List ℕ) (n : Need) (r : Lowered) (net' w' : List ℕ) → Ready s net w → Sure s net w → There s n → Gives s net w n r net' w'
    → GivesAll s net w (Always n ∷ []) r net' w'
gives_one s net w n r net' w' a i h g = record {
  says = all_on s (Always n) [] (walk_state s net w) _ (g.says (plenty (decode s)) (cost_enough s w n h)) ∙ ends r;
  ready = g.ready;
  sure = λ d. sure_done s net w net' w' n r d a.accepted i h g;
  kept = g.kept;
  grows = g.grows;
  meets = λ d. (g.meets d, tt);
}
  where
    ends : (r : Lowered) → and_then (out_of r (walk_state s net' w')) (λ st. lower_all (decode s) false [] st) ≡ out_of r (walk_state s net' w')
    ends r = ap (and_then (out_of r (walk_state s net' w'))) (λ i st. all_none s st i) ∙ then_done (out_of r (walk_state s net' w'))
      where
        then_done : (o : Out State) → and_then o (λ st. done st) ≡ o
        then_done (refused n x y) = refl
        then_done (done st) = refl

-- ---- within the list ----

pub record StepsAt (s net₀ w₀ : List ℕ) (all rest : List Step) (net w : List ℕ) : Type 0 where
  pub says : lower_all (decode s) false all (walk_state s net₀ w₀) ≡ lower_all (decode s) false rest (walk_state s net w)
  pub ready : Ready s net w
  pub sure : Sure s net w
  pub kept : Kept s net₀ w₀ net w
  pub grows : Grows (walk_state s net₀ w₀) (walk_state s net w)
  pub done_then : (st : State) → Grows (walk_state s net w) st → AllMet st rest → AllMet st all

pub steps_start : (s net w : List ℕ) (ss : List Step) → Ready s net w → Sure s net w → StepsAt s net w ss ss net w
steps_start s net w ss r i = record {
  says = refl;
  ready = r;
  sure = i;
  kept = kept_same s net w;
  grows = λ n m. m;
  done_then = λ st g m. m;
}

module _ (s net₀ w₀ : List ℕ) (all left : List Step) (net w : List ℕ) (h : StepsAt s net₀ w₀ all left net w) where
  -- ---- the next ones, lowered by one call ----

  module _ (ss rest : List Step) (split : left ≡ ss ++ rest) (r : Lowered) (net₁ w₁ : List ℕ) (g : GivesAll s net w ss r net₁ w₁) where
    list_says : lower_all (decode s) false all (walk_state s net₀ w₀) ≡ and_then (out_of r (walk_state s net₁ w₁)) (λ st₁. lower_all (decode s) false rest st₁)
    list_says =
        h.says ∙ ap (λ (ts : List Step). lower_all (decode s) false ts (walk_state s net w)) split ∙ all_append s ss rest (walk_state s net w)
        ∙ ap (λ (z : Out State). and_then z (λ st₁. lower_all (decode s) false rest st₁)) g.says

    pub steps_list : r ≡ Ok tt → StepsAt s net₀ w₀ all rest net₁ w₁
    steps_list d = record {
      says = list_says ∙ ap (λ (y : Lowered). and_then (out_of y (walk_state s net₁ w₁)) (λ st₁. lower_all (decode s) false rest st₁)) d;
      ready = g.ready;
      sure = g.sure d;
      kept = kept_then s net₀ w₀ net w net₁ w₁ h.kept g.kept;
      grows = λ n m. g.grows n (h.grows n m);
      done_then = λ st k m.
          h.done_then st (λ n q. k n (g.grows n q)) (subst (AllMet st) (sym split) (met_append st ss rest (all_grow (walk_state s net₁ w₁) st ss k (g.meets d)) m));
    }

    pub steps_stop : Refused r → GivesAll s net₀ w₀ all r net₁ w₁
    steps_stop q = record {
      says = list_says ∙ out r q (λ st₁. lower_all (decode s) false rest st₁) (walk_state s net₁ w₁) (walk_state s net₁ w₁);
      ready = g.ready;
      sure = λ d. not_done r q d;
      kept = kept_then s net₀ w₀ net w net₁ w₁ h.kept g.kept;
      grows = λ n m. g.grows n (h.grows n m);
      meets = λ d. not_done r q d;
    }

  -- ---- the next one, by a call of the walk ----

  module _ (n : Need) (rest : List Step) (split : left ≡ Always n ∷ rest) (here : There s n) (r : Lowered) (net₁ w₁ : List ℕ) (g : Gives s net w n r net₁ w₁) where
    pub steps_next : r ≡ Ok tt → StepsAt s net₀ w₀ all rest net₁ w₁
    steps_next d = steps_list (Always n ∷ []) rest split r net₁ w₁ (gives_one s net w n r net₁ w₁ h.ready h.sure here g) d

    pub steps_out : Refused r → GivesAll s net₀ w₀ all r net₁ w₁
    steps_out q = steps_stop (Always n ∷ []) rest split r net₁ w₁ (gives_one s net w n r net₁ w₁ h.ready h.sure here g) q

  pub steps_end : left ≡ [] → GivesAll s net₀ w₀ all (Ok tt) net w
  steps_end e = record {
    says = h.says ∙ ap (λ (ts : List Step). lower_all (decode s) false ts (walk_state s net w)) e ∙ all_none s (walk_state s net w);
    ready = h.ready;
    sure = λ d. h.sure;
    kept = h.kept;
    grows = h.grows;
    meets = λ d. h.done_then (walk_state s net w) (λ n m. m) (subst (AllMet (walk_state s net w)) (sym e) tt);
  }

-- ---- the bits of a signal, from bit b on ----

pub bits_start : (s net w : List ℕ) (p k : ℕ) → Ready s net w → Sure s net w → StepsAt s net w (signal_steps p 0 k) (signal_steps p 0 (k - 0)) net w
bits_start s net w p k r i =
    let n : k - 0 ≡ k = omega arith in
    rw n (steps_start s net w (signal_steps p 0 k) r i)

pub bits_next : (p b k : ℕ) → b < k → signal_steps p b (k - b) ≡ Always (Bit p b) ∷ signal_steps p (b + 1) (k - (b + 1))
unfolding signal_steps from
bits_next p b k h =
    let n : k - b ≡ suc (k - (b + 1)) = omega arith in
    let m : suc b ≡ b + 1 = omega arith in
    ap (signal_steps p b) n ∙ ap (λ (j : ℕ). Always (Bit p b) ∷ signal_steps p j (k - (b + 1))) m

pub bits_end : (p b k : ℕ) → k ≤ b → signal_steps p b (k - b) ≡ []
unfolding signal_steps from
bits_end p b k h = let n : k - b ≡ 0 = omega arith in ap (signal_steps p b) n
