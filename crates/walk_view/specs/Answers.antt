-- Answers of the walk that are refusals, and what they make of the model's outcome. Assumes nothing.
use Rattle.std.specs.Prelude.{◌≡◌, refl, Ok, Err}
use Rattle.std.proofs.Common.{subst}
use Rattle.spec_model.specs.Builder.{Out, and_then}
use Rattle.spec_model.specs.Lowering.{State}
use Rattle.walk_view.specs.Refusals.{Lowered}
use Rattle.walk_view.specs.declared.Refusal.TheVariants.{Undriven, Loop, Reset, TooManyNets, ListFull}
use Rattle.walk_view.specs.View.{out_of}

abbrev pub Refused : Lowered → Type 0
Refused (Ok u) = ⊥
Refused (Err e) = Unit {0}

-- a refusal goes through, whatever the state
pub out : (x : Lowered) → Refused x → (k : State → Out State) (st st' : State) → and_then (out_of x st) k ≡ out_of x st'
out (Ok u) r k st st' = absurd r
out (Err (Undriven p b)) r k st st' = refl
out (Err (Loop p b)) r k st st' = refl
out (Err (Reset p b)) r k st st' = refl
out (Err TooManyNets) r k st st' = refl
out (Err ListFull) r k st st' = refl

pub not_done : (x : Lowered) → Refused x → x ≡ Ok tt → {A : Type 0} → A
not_done x r e = absurd (subst Refused e r)
