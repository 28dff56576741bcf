-- `trace_step::load_registers` meets its contract. Assumes nothing.
use mathlib.Core.Path.{refl, sym, ◌∙◌}
use Rattle.trace_step.specs.Chains.{registers_none, registers_more}
use Rattle.trace_step.proofs.load_registers.Goals as goal

pub loop-place-init : goal.loop-place-init
loop-place-init c = (refl, registers_none _ _ _ _)

pub loop-place-preserved : goal.loop-place-preserved
loop-place-preserved c = (c.loop-place.invariant.0 ∙ sym c.load_register.auto.new, registers_more _ _ _ _ _ c.loop-place.invariant.1 refl c.part.ensures c.load_register.ensures)
