-- `image_records::port_in` meets its contract. Assumes nothing.
use Rattle.image_records.specs.Others.{port_way}
use Rattle.image_records.proofs.port_in.Goals as goal

pub returns : goal.returns
returns c =
    port_way _ _ _ _ _ _ _ _ _ _ _ c.field-read_address.ensures c.field-read_data.ensures c.enable_in-read_enable.ensures c.field-write_address.ensures c.field-write_data.ensures c.control_in-write_enable.ensures c.field-clock.ensures c.field-edge.ensures
