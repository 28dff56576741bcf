-- `stored_nodes::first_word` meets its contract. The loop's invariant: no word of a node below n is wrong, the tree holds the nodes below n that belong to a record.
use Rattle.std.proofs.Common.{ℕ, ◌*◌, ◌≡◌, refl, ap, ◌∙◌, arith}
use Rattle.spec_netlist.specs.Accept.{nets, limit}
use Rattle.stored_view.specs.Clear.{cleared_word}
use Rattle.stored_view.specs.Found.{some_first}
use Rattle.spec_tests.specs.Laws.{from, begins}
use Rattle.stored_nodes.specs.Words.{wrong_node, node_found, node_clean, unused_found, unused_clean}
use Rattle.stored_nodes.specs.Lookup.{cleared}
use Rattle.stored_nodes.proofs.first_word.Goals as goal

pub loop-n-init : goal.loop-n-init
loop-n-init c = (begins _ _, cleared _ _ (λ x h. cleared_word c.args.table.now _ _ x c.requires.1 (c.fill.ensures.after (λ y e. e)) h))

pub overflow_add-result : goal.overflow_add-result
overflow_add-result c = omega (arith, (some_first _ c.in-Some.ensures.0).0)

pub returns-in-Some : goal.returns-in-Some
returns-in-Some c = node_found _ _ (omega (arith, c.requires.0.list_starts, c.requires.0.nodes_fit)) c.loop-n.invariant.0 c.in-Some.ensures.0

pub loop-n-preserved : goal.loop-n-preserved
loop-n-preserved c =
    (c.loop-n.invariant.0 ∙ node_clean _ _ (omega (arith, c.requires.0.list_starts, c.requires.0.nodes_fit)) c.in_default.ensures.0, c.in_default.ensures.1 refl)

pub returns-in_err-i : goal.returns-in_err-i
returns-in_err-i c =
    let z : c.loop-n.n ≡ nets c.args.net.now = omega arith in
    c.from_residual.ensures
    ∙ unused_clean c.requires.0 (c.loop-n.invariant.0 ∙ ap (λ (n : ℕ). from (wrong_node c.args.net.now) (6 * limit c.args.net.now) (6 * n)) z) c.in_err-i.ensures

pub returns : goal.returns
returns c =
    let z : c.loop-n.n ≡ nets c.args.net.now = omega arith in
    unused_found c.requires.0 (c.loop-n.invariant.0 ∙ ap (λ (n : ℕ). from (wrong_node c.args.net.now) (6 * limit c.args.net.now) (6 * n)) z) c.in_ok-i.ensures
