-- `Sure` stays: over a call of the recursion that is done (`sure_gives`) and over a mark. Assumes nothing.
use Rattle.std.specs.Prelude.{◌≡◌, false, List, ℕ, suc, Ok}
use Rattle.std.proofs.Common.{sym, ap, subst, ◌∙◌, arith}
use Rattle.spec_rtl.specs.Rtl.{Module}
use Rattle.spec_rules.specs.Image.{decode}
use Rattle.spec_model.specs.Builder.{Out, done}
use Rattle.spec_model.specs.Lowering.{State, Need, Bit, Whole, Range, mark, lower_need}
use Rattle.check_image.specs.Accepted.{Accepted}
use Rattle.net_view.specs.View.{netlist_of}
use Rattle.scratch_view.specs.View.{limit_of, state_of, Writes}
use Rattle.scratch_view.specs.Bounds.{expr_count, expr_width_law}
use Rattle.law_walk.specs.Kept.{WalkedTo, Inv, Walks}
use Rattle.law_walk.specs.Writes.{inv_mark}
use Rattle.law_walk.specs.Reads.{Asked}
use Rattle.law_walk.proofs.Walk.{need_walk}
use Rattle.law_phases.specs.Supply.{supply}
use Rattle.law_module.proofs.Good.{good}
use Rattle.walk_view.specs.View.{walk_state, Sure, cost_of, There, Gives}
use Rattle.walk_view.specs.Refusals.{Lowered}

-- what is in the image is in its module
pub there_asked : (s : List ℕ) (n : Need) → There s n → Asked (decode s) n
there_asked s (Bit p b) h = tt
there_asked s (Whole e) h = rw (expr_count s) h
there_asked s (Range e lsb k) h = (rw (expr_count s) h.0, rw (expr_width_law s e h.0) h.1)

-- a step of the walk that is done
walked : {m : Module} {st st' : State} {P : State → Type 0} (o : Out State) → o ≡ done st' → Walks m st P o → WalkedTo m st P st'
walked {m} {st} {P} o e w = (subst (Walks m st P) e w).walks

pub sure_gives : (s net w net' w' : List ℕ) (n : Need) → Accepted s → Sure s net w → There s n → Gives s net w n (Ok tt) net' w' → Sure s net' w'
sure_gives s net w net' w' n a i h g =
    (walked (lower_need (suc (cost_of s w n)) (decode s) false n (walk_state s net w)) (g.says (suc (cost_of s w n)) (omega arith))
    (need_walk supply (decode s) (good s a) false (suc (cost_of s w n)) n (walk_state s net w) i (there_asked s n h))).inv

-- the same of an answer that is known to be done
pub sure_done : (s net w net' w' : List ℕ) (n : Need) (r : Lowered) → r ≡ Ok tt → Accepted s → Sure s net w → There s n → Gives s net w n r net' w' → Sure s net' w'
sure_done s net w net' w' n r e a i h g = sure_gives s net w net' w' n a i h (subst (λ (x : Lowered). Gives s net w n x net' w') e g)

pub sure_marks : (s net w w' : List ℕ) (p b : ℕ) → Writes (λ st. mark st p b) s w w' → Sure s net w → Sure s net w'
sure_marks s net w w' p b h i =
    subst (Inv (decode s)) (sym (ap (λ (n : ℕ). state_of s (netlist_of n net) w') h.limit ∙ h.says (netlist_of (limit_of w) net)))
    (inv_mark (decode s) (walk_state s net w) p b i)
