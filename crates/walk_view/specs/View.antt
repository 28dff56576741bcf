-- The walk's invariant over image, netlist words and scratch (`Ready`; `Sure` of the state that they hold, `walk_state`), and what a
-- call of the walk gives: `Builds` outside the recursion, `Gives` within it, `Phase` around it. Assumes nothing.
use Rattle.std.specs.Prelude.{◌≡◌, true, false, List, ℕ, ◌+◌, ◌*◌, ◌≤◌, ◌<◌, length, get_or, take, drop, Ok, Err}
use Rattle.spec_rules.specs.Image.{count_at_of, signal_width, expr_width, decode}
use Rattle.spec_model.specs.Builder.{Out, refused, done}
use Rattle.spec_model.specs.Ranges.{adder_width}
use Rattle.spec_model.specs.Lowering.{State, Need, Bit, Whole, Range, lower_need}
use Rattle.check_image.specs.Accepted.{Accepted}
use Rattle.expr_laws.specs.Exprs.{exprs_of}
use Rattle.expr_range_rows.specs.Rows.{narrow_word}
use Rattle.net_view.specs.View.{netlist_of}
use Rattle.net_index.specs.Index.{Held}
use Rattle.scratch_view.specs.View.{limit_of, expr_at, state_of, free, Laid}
use Rattle.law_walk.specs.Kept.{Inv}
use Rattle.walk_view.specs.Met.{met, Grows}
use Rattle.walk_view.specs.Refusals.{Lowered}
use Rattle.walk_view.specs.declared.Refusal.TheVariants.{Undriven, Loop, Reset, TooManyNets, ListFull}

-- ---- the words: image s, netlist words net, scratch w ----

-- the index part of the scratch
abbrev pub index_of : List ℕ → List ℕ
index_of w = take (4 * limit_of w) (drop 64 w)

abbrev pub walk_state : List ℕ → List ℕ → List ℕ → State
walk_state s net w = state_of s (netlist_of (limit_of w) net) w

-- word 6 of each expression is the width that its adder is narrowed to
abbrev pub Narrowed : List ℕ → List ℕ → Type 0
Narrowed s w = (e : ℕ) → e < count_at_of s 1 → get_or w (expr_at s (limit_of w) e 6) 0 ≡ narrow_word (adder_width (exprs_of s) e)

pub record Ready (s net w : List ℕ) : Type 0 where
  pub accepted : Accepted s
  pub laid : Laid s w
  pub held : Held (limit_of w) net (index_of w)
  pub narrowed : Narrowed s w

-- the nets in the tables are there and give the bits meant
abbrev pub Sure : List ℕ → List ℕ → List ℕ → Type 0
Sure s net w = Inv (decode s) (walk_state s net w)

-- what a call leaves as it was: lengths, fixed words; it unmarks nothing
pub record Kept (s net w net' w' : List ℕ) : Type 0 where
  pub net_long : length net' ≡ length net
  pub long : length w' ≡ length w
  pub fixed : take 64 w' ≡ take 64 w
  pub fewer : free s w' ≤ free s w

-- ---- answers ----

abbrev pub out_of : Lowered → State → Out State
out_of (Ok u) st = done st
out_of (Err (Undriven p b)) st = refused 6 p b
out_of (Err (Loop p b)) st = refused 7 p b
out_of (Err (Reset r b)) st = refused 8 r b
out_of (Err TooManyNets) st = refused 9 0 0
out_of (Err ListFull) st = refused 10 0 0

-- a call outside the recursion, for need n: from net, w it answered r and left net', w'
pub record Builds (model : Out State) (s net w : List ℕ) (n : Need) (r : Lowered) (net' w' : List ℕ) : Type 0 where
  pub says : model ≡ out_of r (walk_state s net' w')
  pub ready : Ready s net' w'
  pub kept : Kept s net w net' w'
  pub meets : r ≡ Ok tt → met (walk_state s net' w') n ≡ true
  pub grows : Grows (walk_state s net w) (walk_state s net' w')

-- what falls at each call, and more than which is enough fuel
abbrev pub rank_of : Need → ℕ
rank_of (Bit p b) = 0
rank_of (Whole e) = 2 * e + 1
rank_of (Range e lsb k) = 2 * e + 2

abbrev pub cost_of : List ℕ → List ℕ → Need → ℕ
cost_of s w n = free s w * (2 * count_at_of s 1 + 1) + rank_of n

-- what a need names is in the image
abbrev pub There : List ℕ → Need → Type 0
There s (Bit p b) = (p < count_at_of s 0) × (b < signal_width s p)
There s (Whole e) = e < count_at_of s 1
There s (Range e lsb k) = (e < count_at_of s 1) × (lsb + k ≤ expr_width s e)

-- a call of the recursion, for need n
pub record Gives (s net w : List ℕ) (n : Need) (r : Lowered) (net' w' : List ℕ) : Type 0 where
  pub says : (f : ℕ) → cost_of s w n < f → lower_need f (decode s) false n (walk_state s net w) ≡ out_of r (walk_state s net' w')
  pub ready : Ready s net' w'
  pub kept : Kept s net w net' w'
  pub meets : r ≡ Ok tt → met (walk_state s net' w') n ≡ true
  pub grows : Grows (walk_state s net w) (walk_state s net' w')

-- a call around the recursion: sources, memories, registers, outputs
pub record Phase (model : Out State) (s net w : List ℕ) (r : Lowered) (net' w' : List ℕ) : Type 0 where
  pub says : model ≡ out_of r (walk_state s net' w')
  pub ready : Ready s net' w'
  pub kept : Kept s net w net' w'
