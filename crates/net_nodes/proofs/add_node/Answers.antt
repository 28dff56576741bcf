-- `net_nodes::add_node` meets its contract. Assumes nothing.
use Rattle.spec_model.specs.Words.{absent, node}
use Rattle.net_nodes.proofs.Laws.{node_added, node_refused}
use Rattle.net_nodes.proofs.add_node.Goals as goal

pub returns-then-count-n : goal.returns-then-count-n
returns-then-count-n c =
    let a = c.args in
    node_added a.net.now a.n (node a.kind a.owner a.bit a.a absent absent) c.requires.0 _ c.requires.1 c.if-count-n.true
    (c.push_node.ensures a.n c.requires.0 c.if-count-n.true)

pub returns : goal.returns
returns c =
    let a = c.args in
    node_refused a.net.now a.n (node a.kind a.owner a.bit a.a absent absent) c.requires.0 c.if-count-n.false
