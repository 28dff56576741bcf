-- `stored_nodes::key` meets its contract. Assumes nothing.
use native.Mathlib.Omega.{arith}
use Rattle.stored_view.specs.Opened.{node_at}
use Rattle.stored_nodes.specs.Words.{node_kind}
use Rattle.stored_nodes.specs.Lookup.{key_read}
use Rattle.stored_nodes.proofs.key.Goals as goal

pub key_of-requires : goal.key_of-requires
key_of-requires c =
    let n = c.args.n in
    (omega (arith, node_kind c.requires.0 n, c.requires.2.kind), omega (arith, node_at c.requires.0 n 2, c.requires.2.bit))

pub returns : goal.returns
returns c = key_read c.requires.0 _ c.key_of.ensures
