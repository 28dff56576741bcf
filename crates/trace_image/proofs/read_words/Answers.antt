-- `trace_image::read_words` meets its contract. Assumes nothing.
use native.Mathlib.Omega.{arith}
use Rattle.trace_image.specs.Words.{reading_end}
use Rattle.trace_image.proofs.read_words.Goals as goal

pub returns : goal.returns
returns c = reading_end c.loop-i.invariant.3 c.loop-i.invariant.0 (omega (arith, c.loop-i-test.false)) (omega (arith, c.loop-i.invariant.1, c.loop-i.invariant.2))
