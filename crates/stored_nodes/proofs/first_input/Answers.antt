-- `stored_nodes::first_input` meets its contract. Assumes nothing.
use native.Mathlib.Omega.{arith}
use Rattle.stored_view.specs.Found.{below_hit, below_end}
use Rattle.stored_nodes.specs.Words.{node_kind, input_0, input_1, input_2, input_none}
use Rattle.stored_nodes.proofs.first_input.Goals as goal

pub wrong_input-requires : goal.wrong_input-requires
wrong_input-requires c =
    omega (arith, node_kind c.requires.0 c.args.n, c.requires.2)

pub returns-then-wrong_input : goal.returns-then-wrong_input
returns-then-wrong_input c =
    below_hit (omega arith) (input_0 c.requires.0 _ c.requires.1 c.wrong_input.ensures c.if-wrong_input.true)

pub wrong_input-requires-2 : goal.wrong_input-requires-2
wrong_input-requires-2 c =
    omega (arith, node_kind c.requires.0 c.args.n, c.requires.2)

pub returns-then-wrong_input-2 : goal.returns-then-wrong_input-2
returns-then-wrong_input-2 c =
    below_hit (omega arith) (input_1 c.requires.0 _ c.requires.1 c.wrong_input.ensures c.if-wrong_input.false c.wrong_input-2.ensures c.if-wrong_input-2.true)

pub wrong_input-requires-3 : goal.wrong_input-requires-3
wrong_input-requires-3 c =
    omega (arith, node_kind c.requires.0 c.args.n, c.requires.2)

pub returns-then-wrong_input-3 : goal.returns-then-wrong_input-3
returns-then-wrong_input-3 c =
    below_hit (omega arith) (input_2 c.requires.0 _ c.requires.1 c.wrong_input.ensures c.if-wrong_input.false c.wrong_input-2.ensures c.if-wrong_input-2.false
    c.wrong_input-3.ensures c.if-wrong_input-3.true)

pub returns : goal.returns
returns c =
    below_end (omega (
      arith,
      input_none c.requires.0 _ c.requires.1 c.wrong_input.ensures c.if-wrong_input.false c.wrong_input-2.ensures c.if-wrong_input-2.false
          c.wrong_input-3.ensures c.if-wrong_input-3.false,
    ))
