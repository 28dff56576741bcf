-- `check_names::name_hash` meets its contract. Assumes nothing.
use Rattle.check_names.specs.Names.{hash_at}
use Rattle.check_names.proofs.name_hash.Goals as goal

pub returns : goal.returns
unfolding hash_at
returns c = cc
