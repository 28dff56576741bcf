-- `listing_nets::memory_name` meets its contract. Assumes nothing.
use Rattle.listing_nets.specs.Pieces.{memory_wrote, second_wrote, second_name, unmarked}
use Rattle.listing_nets.proofs.memory_name.Goals as goal

pub returns-then-bit-w : goal.returns-then-bit-w
returns-then-bit-w c =
    memory_wrote _ _ _ c.name-name.ensures c.record_field.ensures c.signal_width-w.ensures c.if-bit-w.true (unmarked _ _ _ c.bit_name.ensures)

pub returns : goal.returns
unfolding second_name
returns c =
    second_wrote _ _ _ c.name-name.ensures c.record_field.ensures c.signal_width-w.ensures c.if-bit-w.false c.bit_name-2.ensures
