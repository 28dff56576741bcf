-- `stored_nodes::root` meets its contract. Assumes nothing.
use Rattle.stored_nodes.specs.Lookup.{root_read}
use Rattle.stored_nodes.proofs.root.Goals as goal

pub returns : goal.returns
returns c = root_read _ _ c.mix-a.ensures c.mix-b.ensures c.mix.ensures c.bucket.ensures.0
