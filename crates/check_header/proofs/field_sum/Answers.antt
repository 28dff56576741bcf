-- `check_header::field_sum` meets its contract. The loop's invariant: the sum is that of the fields below r, each below 2 ^ 32. Assumes nothing.
use mathlib.Core.Path.{sym}
use native.Mathlib.Omega.{arith}
use Rattle.spec_tests.specs.Laws.{sum_none, sum_more}
use Rattle.check_header.specs.Header.{field_of}
use Rattle.check_header.proofs.field_sum.Goals as goal

pub loop-r-init : goal.loop-r-init
loop-r-init c = (omega arith, sym (sum_none _), omega arith)

pub loop-r-preserved : goal.loop-r-preserved
unfolding field_of
loop-r-preserved c = (omega arith, omega (arith, sum_more (field_of c.args.image.now c.args.k c.args.f) c.loop-r.r), omega arith)
