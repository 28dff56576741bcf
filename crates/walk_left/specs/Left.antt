-- What is left to lower before an expression (`LeftOf`); what the first turn asks; what keeping a driven bit's net writes. Assumes nothing.
use Rattle.std.specs.Prelude.{◌≡◌, Bool, false, List, [], ◌++◌, ℕ, ◌*◌, ◌≤◌, ◌<◌, drop, Option, Some, None, Ok, Err}
use Rattle.spec_model.specs.Words.{Netlist}
use Rattle.spec_model.specs.Lowering as M
use Rattle.spec_model.specs.Lowering.{State, set_signal_bit, whole_net}
use Rattle.scratch_view.specs.View.{state_of, Writes}
use Rattle.walk_view.specs.Refusals.{Lowered}
use Rattle.walk_plan.specs.declared.Turn.{Turn}
use Rattle.walk_plan.specs.declared.Turn.TheVariants as T
use Rattle.walk_plan.specs.Plan.{needs_of, BitsThere, TurnOf, whole_needs}
use Rattle.walk_left.specs.declared.Left.{Left}
use Rattle.walk_left.specs.Needs.{NeedsMet}

-- ---- what is left to lower ----

-- rest is needs that the tables have met, followed by rest₁
pub record Skips (s w : List ℕ) (rest rest₁ : List M.Need) : Type 0 where
  pub skipped : List M.Need
  pub split : rest ≡ skipped ++ rest₁
  pub known : (l : Netlist) → NeedsMet (state_of s l w) skipped

-- where rest k at is left before turn k
abbrev pub LeftOf : List ℕ → List ℕ → (ℕ → ℕ → List M.Need) → ℕ → ℕ → Option Left → Type 0
LeftOf s w rest k at (Some x) = Skips s w (rest k at) (needs_of x.need ++ rest x.next x.at) × (k < x.next) × (x.next < 4294967296) × (x.at ≤ 1024 * x.next)
LeftOf s w rest k at None = Skips s w (rest k at) []

abbrev pub LeftIn : List ℕ → List ℕ → List M.Need → ℕ → Option Left → Type 0
LeftIn s w all k r = LeftOf s w (λ j i. drop j all) k 0 r

abbrev pub whole_rest : List ℕ → ℕ → ℕ → ℕ → List M.Need
whole_rest s e k at = drop k (whole_needs s e)

-- the bits that a turn takes are in the image
abbrev pub TurnThere : List ℕ → Turn → Type 0
TurnThere s (T.Lower n at) = Unit {0}
TurnThere s (T.Last n) = Unit {0}
TurnThere s (T.Bits p b n) = BitsThere s p b n
TurnThere s T.Build = Unit {0}

-- no list has as many needs as the number of the turn after the last one
abbrev pub LeavesTurn : List ℕ → List ℕ → Turn → ℕ → Option Left → Type 0
LeavesTurn s w turn k r = (rest : ℕ → ℕ → List M.Need) (at : ℕ) → rest 4294967295 0 ≡ [] → TurnOf s rest k at turn → LeftOf s w rest k at r

-- ---- what is there ----

-- only turn 0 asks the tables
abbrev pub FirstTurn : ℕ → Bool → Bool → Type 0
FirstTurn k r known = (k ≡ 0 → r ≡ known) × (0 < k → r ≡ false)

-- ---- a driven bit ----

-- bit b of signal p gets the net of bit o of expression e, where the expression is lowered
abbrev pub driven : Lowered → ℕ → ℕ → ℕ → ℕ → State → State
driven (Ok u) p b e o st = set_signal_bit st p b (whole_net st e o)
driven (Err r) p b e o st = st

pub record Keeps (s w : List ℕ) (p b e o : ℕ) (x r : Lowered) (w' : List ℕ) : Type 0 where
  pub same : r ≡ x
  pub writes : Writes (driven x p b e o) s w w'
