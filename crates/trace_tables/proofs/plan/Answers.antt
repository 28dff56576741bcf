-- `trace_tables::plan` meets its contract. Assumes nothing.
use native.Mathlib.Omega.{arith}
use borrow.Author.Rules.{rules}
use Rattle.trace_tables.proofs.plan.Goals as goal

pub make_plan-requires : goal.make_plan-requires
make_plan-requires c = (c.requires.0, record { count = _; places = c.places-cells.ensures.places }, record { count = _; places = c.places-comparisons.ensures.places }, search rules, omega (arith, c.requires.1, c.requires.3))
