-- `trace_fit::memory_bits` meets its contract. Assumes nothing.
use mathlib.Core.Path.{refl, sym, ◌∙◌}
use native.Mathlib.Omega.{arith}
use Rattle.spec_tests.specs.Laws.{sum_none, sum_more}
use Rattle.trace_fit.specs.Fit.{bits_at, bits_read}
use Rattle.trace_fit.proofs.memory_bits.Goals as goal

pub loop-place-init : goal.loop-place-init
loop-place-init c = (omega arith, (sym (sum_none _), omega arith))

pub loop-place-preserved : goal.loop-place-preserved
loop-place-preserved c = (omega (arith, c.loop-place-test.true), (sym (sum_more (bits_at c.args.net.now c.args.places.now) c.loop-place.place-index ∙ omega (arith, c.loop-place.invariant.1.0, bits_read c.args.net.now c.args.places.now c.loop-place.place-index refl c.part-r.ensures c.word_at.ensures c.word_at-in-loop-place.ensures)), omega (arith, c.loop-place.invariant.1.1, bits_read c.args.net.now c.args.places.now c.loop-place.place-index refl c.part-r.ensures c.word_at.ensures c.word_at-in-loop-place.ensures, c.requires.each _ c.loop-place-test.true)))
