-- `walk_job_parts::put_bits` meets its contract. Assumes nothing.
use Rattle.walk_job_parts.proofs.Bits.{Put}
use Rattle.walk_job_parts.proofs.put_bits.Given as goal

abbrev pub invariant-loop-i : goal.invariant-loop-i
invariant-loop-i l = Put l.image l.start l.lsb l.initial.out l.out l.i
