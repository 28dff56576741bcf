-- `trace_image::is_other` meets its contract. Assumes nothing.
use mathlib.Core.Path.{refl}
use native.Mathlib.Omega.{arith}
use Rattle.spec_tests.specs.Laws.{lt_same}
use Rattle.trace_image.specs.Headed.{other_short, other_limit, other_words}
use Rattle.trace_image.proofs.is_other.Goals as goal

pub returns-then-net-lt-HEADER_LENGTH : goal.returns-then-net-lt-HEADER_LENGTH
returns-then-net-lt-HEADER_LENGTH c = other_short 1024 2048 _ (omega arith)

pub returns-then-limit_of-ne1024 : goal.returns-then-limit_of-ne1024
returns-then-limit_of-ne1024 c = other_limit 1024 2048 _ (omega (arith, c.if-net-lt-HEADER_LENGTH.false)) c.limit_of.ensures c.if-limit_of-ne1024.true

pub returns : goal.returns
returns c = other_words 1024 2048 _ (omega (arith, c.if-net-lt-HEADER_LENGTH.false)) c.limit_of.ensures c.if-limit_of-ne1024.false (lt_same refl refl)
