-- `net_nodes::push_node` meets its contract. Assumes nothing.
use Rattle.net_nodes.proofs.Laws.{pushed}
use Rattle.net_nodes.proofs.push_node.Goals as goal

pub returns : goal.returns
returns c = pushed c.args.net.now c.args.kind c.args.owner c.args.bit c.args.a c.args.b c.args.c
