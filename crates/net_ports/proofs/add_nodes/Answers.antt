-- `net_ports::add_nodes` meets its contract. Assumes nothing.
use Rattle.net_index.specs.Index.{is_gate}
use Rattle.std.proofs.lemmas.Result.{err_from_is_err_and}
use Rattle.net_ports.proofs.Laws.{going_start, going_more, going_end, going_out}
use Rattle.net_ports.proofs.add_nodes.Goals as goal

pub loop-i-init : goal.loop-i-init
loop-i-init c = going_start _ _ _ _ _ c.requires.0

pub add_node-requires : goal.add_node-requires
unfolding is_gate
add_node-requires c = (c.loop-i.invariant.built, c.requires.1)

pub returns-in_err-add_node : goal.returns-in_err-add_node
returns-in_err-add_node c =
    let p = err_from_is_err_and c.from_residual.result c.from_residual.ensures.1 in
    rw (p.1, p.2) (going_out _ _ _ _ _ _ _ _ c.loop-i.invariant _ _ c.loop-i-test.true c.in_err-add_node.ensures)

pub loop-i-preserved : goal.loop-i-preserved
loop-i-preserved c = going_more _ _ _ _ _ _ _ _ c.loop-i.invariant _ _ c.loop-i-test.true c.add_node.auto.net c.in_ok-add_node.ensures

pub returns : goal.returns
returns c = going_end _ _ _ _ _ _ _ _ c.loop-i.invariant c.loop-i-test.false
