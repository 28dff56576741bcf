-- `stored_check::list_end` meets its contract. Assumes nothing.
use native.Mathlib.Omega.{arith}
use Rattle.stored_check.specs.Cut.{end_short, end_none, end_told}
use Rattle.stored_check.proofs.list_end.Goals as goal

pub returns-then-net-lt-HEADER_LENGTH : goal.returns-then-net-lt-HEADER_LENGTH
returns-then-net-lt-HEADER_LENGTH c = end_short c.args.net.now c.if-net-lt-HEADER_LENGTH.true

pub returns-then-end-lt-HEADER_LENGTH : goal.returns-then-end-lt-HEADER_LENGTH
returns-then-end-lt-HEADER_LENGTH c = end_none c.args.net.now (omega arith) c.if-end-lt-HEADER_LENGTH.true

pub returns : goal.returns
returns c = end_told c.args.net.now (omega arith) (omega arith)
