-- `image_records::register_at` meets its contract. Assumes nothing.
use Rattle.image_records.specs.Others.{register_way}
use Rattle.image_records.proofs.register_at.Goals as goal

pub returns : goal.returns
returns c =
    register_way _ _ _ _ _ _ _ _ _ c.section-part.ensures c.field-target.ensures c.field-next.ensures c.field-clock.ensures c.field-edge.ensures c.enable_in-enable.ensures c.reset_in-reset.ensures
