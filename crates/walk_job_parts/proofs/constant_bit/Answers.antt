-- `walk_job_parts::constant_bit` meets its contract. Assumes nothing.
use Rattle.walk_job_parts.proofs.constant_bit.Goals as goal

pub returns : goal.returns
returns c = rw c.list_word-x.ensures
