-- What making the nets of an expression asks and gives, beside the tables and with them. Assumes nothing.
use Rattle.std.specs.Prelude.{◌≡◌, false, List, ℕ, Result}
use Rattle.spec_model.specs.Builder.{Made}
use Rattle.spec_model.specs.Lowering as model
use Rattle.spec_model.specs.Lowering.{with_netlist}
use Rattle.net_view.specs.View.{netlist_of}
use Rattle.net_fold.specs.Values.{filled_of}
use Rattle.net_nodes.specs.declared.Full.{Full}
use Rattle.scratch_view.specs.View.{limit_of}
use Rattle.expr_laws.specs.Exprs.{exprs_of}
use Rattle.walk_view.specs.Met.{AllMet}
use Rattle.walk_view.specs.Refusals.{Lowered}
use Rattle.walk_view.specs.View.{walk_state, Ready, Kept, Builds}

-- a model's nets, or its refusal, were made: of netlist words net and scratch w only netlist and index changed, to net' and w'
pub record Performed (model : Made (List ℕ)) (s net w : List ℕ) (r : Result (Unit {0}) Full) (out net' w' : List ℕ) : Type 0 where
  pub says : model ≡ filled_of r out (netlist_of (limit_of w) net')
  pub ready : Ready s net' w'
  pub kept : Kept s net w net' w'
  pub limit : limit_of w' ≡ limit_of w
  pub state : walk_state s net' w' ≡ with_netlist (walk_state s net w) (netlist_of (limit_of w) net')

-- ---- an expression, and a range of it ----

-- what is lowered before it is there
abbrev pub WholeMet : List ℕ → List ℕ → List ℕ → ℕ → Type 0
WholeMet s net w e = AllMet (walk_state s net w) (model.whole_steps (exprs_of s) e)

abbrev pub RangeMet : List ℕ → List ℕ → List ℕ → ℕ → ℕ → ℕ → Type 0
RangeMet s net w e lsb n = AllMet (walk_state s net w) (model.range_steps_of (exprs_of s) e lsb n)

-- it is made and kept
abbrev pub BuildsWhole : List ℕ → List ℕ → List ℕ → ℕ → Lowered → List ℕ → List ℕ → Type 0
BuildsWhole s net w e r net' w' = Builds (model.keep_whole (walk_state s net w) e (model.build_whole (exprs_of s) false (walk_state s net w) e)) s net w (model.Whole e) r net' w'

abbrev pub BuildsRange : List ℕ → List ℕ → List ℕ → ℕ → ℕ → ℕ → Lowered → List ℕ → List ℕ → Type 0
BuildsRange s net w e lsb n r net' w' =
    Builds (model.keep_range (walk_state s net w) e lsb (model.build_range (exprs_of s) false (walk_state s net w) e lsb n)) s net w (model.Range e lsb n) r net' w'
