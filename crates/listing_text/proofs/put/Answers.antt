-- `listing_text::put` meets its contract. Assumes nothing.
use Rattle.std.proofs.Common.{arith}
use Rattle.listing_text.specs.Text.{wrote_copy}
use Rattle.listing_text.proofs.put.Goals as goal

pub returns : goal.returns
returns g c = wrote_copy c.args.out.now c.args.list.now _ _ _ _ c.requires c.min-n.ensures (omega arith) c.copy_from_slice.ensures.after
