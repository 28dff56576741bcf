-- `net_nodes::constant_value` meets its contract. Assumes nothing.
use borrow.Author.Tests.{eq-eqb, ne_eqb}
use Rattle.spec_model.specs.Builder.{constant_value}
use Rattle.net_nodes.proofs.constant_value.Goals as goal

pub returns-then-node_word-eq-CONSTANT : goal.returns-then-node_word-eq-CONSTANT
unfolding constant_value
returns-then-node_word-eq-CONSTANT c n = rw (← c.node_word.ensures n, eq-eqb _ _ c.if-node_word-eq-CONSTANT.true, c.node_word-then-node_word-eq-CONSTANT.ensures n)

pub returns : goal.returns
unfolding constant_value
returns c n = rw (← c.node_word.ensures n, ne_eqb _ _ c.if-node_word-eq-CONSTANT.false)
