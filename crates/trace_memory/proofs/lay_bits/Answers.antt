-- `trace_memory::lay_bits` meets its contract. Assumes nothing.
use mathlib.Core.Path.{refl, ap, ◌∙◌}
use lib.ListN.{length-set}
use Rattle.spec_rtl.specs.Word.{bit}
use Rattle.trace_step.specs.Words.{on}
use Rattle.trace_memory.specs.Spread.{lay_more, lay_end}
use Rattle.trace_memory.proofs.lay_bits.Goals as goal

pub loop-i-preserved : goal.loop-i-preserved
loop-i-preserved c = (simp length-set c.loop-i.invariant.0, lay_more (λ n. bit (on c.args.values.now n)) _ _ _ _ _ c.loop-i.invariant.1 c.loop-i-test.true (c.bit_of.ensures ∙ ap bit c.is_on.ensures) refl)

pub returns : goal.returns
returns c = lay_end (λ n. bit (on c.args.values.now n)) _ _ _ _ _ c.loop-i.invariant.1 c.loop-i-test.false
