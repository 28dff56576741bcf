-- `stored_header::too_short` meets its contract. Assumes nothing.
use mathlib.Core.Path.{refl}
use native.Mathlib.Omega.{arith}
use Rattle.spec_tests.specs.Laws.{or_hit, or_skip, lt_yes, lt_no, lt_same}
use Rattle.stored_header.specs.Header.{too_short}
use Rattle.stored_header.proofs.too_short.Goals as goal

pub returns-then-net-lt-HEADER_LENGTH : goal.returns-then-net-lt-HEADER_LENGTH
unfolding too_short
returns-then-net-lt-HEADER_LENGTH c = or_hit _ (lt_yes _ _ (omega arith))

pub returns : goal.returns
unfolding too_short
returns c = or_skip (lt_no _ _ (omega arith)) (lt_same refl refl)
