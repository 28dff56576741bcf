-- `listing_nets::signal_name` meets its contract. Assumes nothing.
use Rattle.listing_nets.specs.Pieces.{signal_wrote, unmarked}
use Rattle.listing_nets.proofs.signal_name.Goals as goal

pub returns : goal.returns
returns c = signal_wrote _ _ _ c.name-name.ensures c.signal_width-w.ensures (unmarked _ _ _ c.bit_name.ensures)
