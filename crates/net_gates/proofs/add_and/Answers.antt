-- `net_gates::add_and` meets its contract. Assumes nothing.
use Rattle.net_gates.specs.Pairs.{and_is}
use Rattle.net_gates.proofs.Ways.{gives_by}
use Rattle.net_gates.proofs.add_and.Goals as goal

pub returns : goal.returns
returns c = gives_by _ _ _ _ _ _ (and_is _ _ _) c.and_or.ensures
