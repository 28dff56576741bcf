-- `walk_job_parts::add_constant_bits` meets its contract. Assumes nothing.
use Rattle.walk_job_parts.proofs.add_constant_bits.Goals as goal

pub returns : goal.returns
returns c =
    λ v h. rw (c.put_bits.ensures v h) at c.add_constants.ensures
