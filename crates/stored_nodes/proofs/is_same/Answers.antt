-- `stored_nodes::is_same` meets its contract. Assumes nothing.
use mathlib.Core.Path.{sym}
use native.Mathlib.Omega.{arith}
use Rattle.spec_tests.specs.Laws.{and_miss, and_skip, eq_yes, eq_no, eq_same}
use Rattle.spec_netlist.specs.Accept.{same_node}
use Rattle.stored_view.specs.Opened.{node_at}
use Rattle.stored_nodes.specs.Words.{node_kind}
use Rattle.stored_nodes.proofs.is_same.Goals as goal

pub returns-then-net-a : goal.returns-then-net-a
unfolding same_node
returns-then-net-a c =
    let j = c.args.j in
    let n = c.args.n in
    and_miss _ (eq_no _ _ (omega (arith, node_kind c.requires.0 j, node_kind c.requires.0 n)))

pub returns-then-net-a-2 : goal.returns-then-net-a-2
unfolding same_node
returns-then-net-a-2 c =
    let j = c.args.j in
    let n = c.args.n in
    and_skip (eq_yes _ _ (omega (arith, node_kind c.requires.0 j, node_kind c.requires.0 n)))
    (and_miss _ (eq_no _ _ (omega (arith, node_at c.requires.0 j 1, node_at c.requires.0 n 1))))

pub returns : goal.returns
unfolding same_node
returns c =
    let j = c.args.j in
    let n = c.args.n in
    and_skip (eq_yes _ _ (omega (arith, node_kind c.requires.0 j, node_kind c.requires.0 n)))
    (and_skip (eq_yes _ _ (omega (arith, node_at c.requires.0 j 1, node_at c.requires.0 n 1)))
    (eq_same (sym (node_at c.requires.0 j 2)) (sym (node_at c.requires.0 n 2))))
