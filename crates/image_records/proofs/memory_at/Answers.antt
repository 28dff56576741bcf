-- `image_records::memory_at` meets its contract. Assumes nothing.
use Rattle.image_records.specs.Others.{memory_way}
use Rattle.image_records.proofs.memory_at.Goals as goal

pub returns : goal.returns
returns c = memory_way _ _ _ _ _ _ _ c.section-part.ensures c.field-depth.ensures c.field-style.ensures c.port_in-first.ensures c.second_in-second.ensures
