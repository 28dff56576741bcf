-- `net_gates::add_constant` meets its contract. Assumes nothing.
use Rattle.spec_model.specs.Builder.{add_constant}
use Rattle.net_gates.proofs.add_constant.Goals as goal

pub returns : goal.returns
unfolding add_constant
returns c = c.add_cached.ensures
