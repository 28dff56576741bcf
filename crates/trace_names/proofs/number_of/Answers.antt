-- `trace_names::number_of` meets its contract. Assumes nothing.
use Prim.Native.Nat.{◌+◌, ◌*◌}
use mathlib.Core.Path.{sym, ap, ◌∙◌}
use native.Mathlib.Omega.{arith}
use Rattle.trace_names.specs.Numbers.{number_none, number_step, number_small}
use Rattle.trace_names.proofs.number_of.Goals as goal

pub loop-i-init : goal.loop-i-init
loop-i-init c = (omega arith, sym (number_none c.args.name.now))

pub overflow_mul-n : goal.overflow_mul-n
overflow_mul-n c = omega (arith, c.loop-i.invariant.1, number_small c.args.name.now c.loop-i.i c.loop-i-test.true c.requires (λ j. omega (arith, c.shared_slice_known-1.given j)))

pub overflow_add-n : goal.overflow_add-n
overflow_add-n c = omega (arith, c.loop-i.invariant.1, c.byte.ensures.1, number_small c.args.name.now c.loop-i.i c.loop-i-test.true c.requires (λ j. omega (arith, c.shared_slice_known-1.given j)))

pub loop-i-preserved : goal.loop-i-preserved
loop-i-preserved c = (omega arith, ap (λ x. c.loop-i.n * 256 + x) c.byte.ensures.0 ∙ number_step c.args.name.now c.loop-i.i c.loop-i.n c.loop-i-test.true c.loop-i.invariant.0 c.loop-i.invariant.1)
