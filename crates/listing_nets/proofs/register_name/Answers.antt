-- `listing_nets::register_name` meets its contract. Assumes nothing.
use Rattle.listing_nets.specs.Pieces.{register_wrote, unmarked}
use Rattle.listing_nets.proofs.register_name.Goals as goal

pub returns : goal.returns
returns c = register_wrote _ _ _ c.name-name.ensures c.record_field.ensures c.signal_width-w.ensures (unmarked _ _ _ c.bit_name.ensures)
