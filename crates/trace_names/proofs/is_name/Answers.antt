-- `trace_names::is_name` meets its contract. Assumes nothing.
use Rattle.trace_names.specs.Numbers.{good_name_law, empty_name, long_name}
use native.Mathlib.Omega.{arith}
use Rattle.trace_names.proofs.is_name.Goals as goal

pub returns-then-name-lt1 : goal.returns-then-name-lt1
returns-then-name-lt1 c = empty_name c.args.name.now c.if-name-lt1.true

pub returns-then-name-gt8 : goal.returns-then-name-gt8
returns-then-name-gt8 c = long_name c.args.name.now c.if-name-gt8.true

pub returns : goal.returns
returns c = good_name_law c.args.name.now (omega (arith, c.if-name-lt1.false)) c.if-name-gt8.false c.has_other_letter.ensures
