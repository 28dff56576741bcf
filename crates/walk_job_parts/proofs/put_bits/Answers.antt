-- `walk_job_parts::put_bits` meets its contract. Assumes nothing.
use native.Mathlib.Omega.{arith}
use Rattle.walk_job_parts.proofs.Bits.{put_start, put_more, put_all}
use Rattle.walk_job_parts.proofs.put_bits.Goals as goal

pub loop-i-init : goal.loop-i-init
loop-i-init c = put_start _ _ _ _

pub overflow_cast-i : goal.overflow_cast-i
overflow_cast-i c = omega (arith, c.loop-i.invariant.sized, c.requires.1)

pub overflow_add-lsb : goal.overflow_add-lsb
overflow_add-lsb c = omega (arith, c.loop-i.invariant.sized, c.requires.1)

pub constant_bit-requires : goal.constant_bit-requires
constant_bit-requires c = (c.requires.0, omega (arith, c.loop-i.invariant.sized, c.requires.1))

pub offset_bounds-out-i : goal.offset_bounds-out-i
offset_bounds-out-i c = omega (arith, c.loop-i.invariant.sized, c.requires.1)

pub bounds-out-i : goal.bounds-out-i
bounds-out-i c = omega (arith, c.loop-i.invariant.sized)

pub loop-i-preserved : goal.loop-i-preserved
loop-i-preserved c = put_more _ _ _ _ _ _ _ c.loop-i.invariant (omega (arith, c.loop-i.invariant.sized)) c.constant_bit.ensures

pub shape_of-out : goal.shape_of-out
shape_of-out c = c.loop-i.invariant.sized

pub returns : goal.returns
returns c = put_all _ _ _ _ _ _ c.loop-i.invariant (omega (arith, c.loop-i.invariant.sized)) (λ j. omega (arith, c.shared_slice_known-1.given j))
