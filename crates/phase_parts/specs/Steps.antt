-- Lists of steps, each lowered by a call, one after the other. Assumes nothing.
use Rattle.std.specs.Prelude.{◌≡◌, refl, false, List, [], ◌++◌, ℕ, Ok}
use Rattle.std.proofs.Common.{ap, ◌∙◌, subst}
use Rattle.spec_rtl.specs.Rtl.{Module}
use Rattle.spec_rules.specs.Image.{decode}
use Rattle.spec_model.specs.Builder.{Out, done}
use Rattle.spec_model.specs.Lowering.{State, Step, lower_steps, lower_all}
use Rattle.check_image.specs.Accepted.{Accepted}
use Rattle.law_module.proofs.Good.{good}
use Rattle.law_walk.specs.Kept.{WalkedTo, Walks}
use Rattle.law_walk.specs.Reads.{AllAsked, AllAfter}
use Rattle.law_walk.proofs.Walk.{all_walk}
use Rattle.law_phases.specs.Supply.{supply}
use Rattle.walk_view.specs.Met.{all_grow}
use Rattle.walk_view.specs.View.{walk_state, Ready, Sure, out_of}
use Rattle.walk_view.specs.Refusals.{Lowered}
use Rattle.walk_view.specs.Stores.{kept_same}
use Rattle.walk_view.specs.Answers.{Refused, not_done}
use Rattle.walk_invariant.specs.Steps.{all_append, met_append, GivesAll}
use Rattle.phase_parts.specs.Ran.{Ran, ran_as, ran_then, ran_out}

pub all_ran : {s net w net₁ w₁ : List ℕ} {ss : List Step} {x : Lowered} → GivesAll s net w ss x net₁ w₁ → Ran (lower_all (decode s) false ss (walk_state s net w)) s net w x net₁ w₁
all_ran g = record { says = g.says; ready = g.ready; kept = g.kept; sure = g.sure }

pub gives_none : (s net w : List ℕ) → Ready s net w → Sure s net w → GivesAll s net w [] (Ok tt) net w
unfolding lower_all lower_steps
gives_none s net w r i = record { says = refl; ready = r; sure = λ d. i; kept = kept_same s net w; grows = λ n m. m; meets = λ d. tt }

module _ {s net w net₁ w₁ : List ℕ} {ss : List Step} {x : Lowered} (ts : List Step) (a : GivesAll s net w ss x net₁ w₁) where
  pub gives_then : {r : Lowered} {net₂ w₂ : List ℕ} → x ≡ Ok tt → GivesAll s net₁ w₁ ts r net₂ w₂ → GivesAll s net w (ss ++ ts) r net₂ w₂
  gives_then e b =
      let r = ran_as (all_append s ss ts (walk_state s net w)) (ran_then (λ st₁. lower_all (decode s) false ts st₁) (all_ran a) e (all_ran b)) in
      record {
        says = r.says;
        ready = b.ready;
        sure = b.sure;
        kept = r.kept;
        grows = λ n m. b.grows n (a.grows n m);
        meets = λ d. met_append _ ss ts (all_grow _ _ ss b.grows (a.meets e)) (b.meets d);
      }

  pub gives_out : Refused x → GivesAll s net w (ss ++ ts) x net₁ w₁
  gives_out q =
      let r = ran_as (all_append s ss ts (walk_state s net w)) (ran_out (λ st₁. lower_all (decode s) false ts st₁) (all_ran a) q) in
      record { says = r.says; ready = a.ready; sure = a.sure; kept = a.kept; grows = a.grows; meets = λ d. not_done x q d }

-- what is there then
pub gives_after : {s net w net₁ w₁ : List ℕ} {ss : List Step} {x : Lowered} → Accepted s → Sure s net w → AllAsked (decode s) ss → GivesAll s net w ss x net₁ w₁ → x ≡ Ok tt
    → AllAfter false (walk_state s net₁ w₁) ss
gives_after {s} {net} {w} {net₁} {w₁} {ss} a i h g e =
    (kept (g.says ∙ ap (λ (y : Lowered). out_of y (walk_state s net₁ w₁)) e) (all_walk supply (decode s) (good s a) false ss (walk_state s net w) i h)).post
  where
    kept : {m : Module} {st st' : State} {P : State → Type 0} {o : Out State} → o ≡ done st' → Walks m st P o → WalkedTo m st P st'
    kept {m} {st} {P} e w = (subst (Walks m st P) e w).walks
