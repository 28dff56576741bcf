-- `phase_memory_records::put_signal` meets its contract. Assumes nothing.
use mathlib.Core.Path.{refl}
use Rattle.phase_memory_records.proofs.Laws.{signal_put}
use Rattle.phase_memory_records.proofs.put_signal.Goals as goal

pub returns : goal.returns
returns c =
    let pre = c.requires in
    let a = c.args in
    (c.signal_width-n.ensures, λ l. signal_put a.image.now a.scr.now l a.p pre.1 _ _ _ _ c.signal_width-n.ensures pre.2 refl (c.copy_signal.ensures l))
