-- `phase_memory_records::push_memory` meets its contract. Assumes nothing.
use Rattle.spec_rules.specs.Image.{decode}
use Rattle.net_view.specs.View.{netlist_of}
use Rattle.scratch_view.specs.View.{limit_of}
use Rattle.image_records.specs.Others.{memory_means}
use Rattle.walk_view.specs.View.{walk_state}
use Rattle.phase_memory_records.proofs.Laws.{record_good}
use Rattle.phase_memory_records.proofs.push_memory.Goals as goal

pub push-requires : goal.push-requires
push-requires c =
    let pre = c.requires in
    let a = c.args in
    let g = record_good (decode a.image.now) a.k (memory_means a.x) (walk_state a.image.now a.net.now a.scr.now) _ (c.put_memory-end.ensures.1 (netlist_of (limit_of a.scr.now) a.net.now)).says in
    (pre.0, pre.1, g.0, g.1, g.2)
