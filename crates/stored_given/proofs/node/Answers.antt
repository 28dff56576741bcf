-- `stored_given::node` meets its contract. Assumes nothing.
use Rattle.stored_given.specs.Records.{the_node, not_told_true, not_told_false}
use Rattle.std.proofs.Common.{Some}
use Rattle.spec_tests.specs.Laws.{pick_hit, pick_skip}
use mathlib.Core.Path.{refl, ap}
use mathlib.Core.Bool.{not}
use Rattle.stored_given.proofs.node.Goals as goal

pub returns-then-not-is_node : goal.returns-then-not-is_node
returns-then-not-is_node c = pick_skip _ (not_told_true c.is_node.ensures (ap not c.if-not-is_node.true)) refl

pub returns : goal.returns
returns c =
    let there = not_told_false c.is_node.ensures (ap not c.if-not-is_node.false) in
    pick_hit _ there (ap Some (the_node c.args.net.now c.args.n there c.node_word.ensures c.node_word-2.ensures c.node_word-3.ensures c.node_word-4.ensures c.node_word-5.ensures c.node_word-6.ensures))
