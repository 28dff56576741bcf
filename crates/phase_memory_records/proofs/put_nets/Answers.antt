-- `phase_memory_records::put_nets` meets its contract. Assumes nothing.
use native.Mathlib.Omega.{arith}
use mathlib.Core.Path.{refl}
use Rattle.spec_rules.specs.Image.{decode}
use Rattle.scratch_view.specs.View.{state_of}
use Rattle.image_records.specs.Others.{port_means}
use Rattle.phase_memory_records.specs.Puts.{puts_front, puts_then, puts_as}
use Rattle.phase_memory_records.proofs.Laws.{widths_are, nets_are}
use Rattle.phase_memory_records.proofs.put_nets.Goals as goal

pub returns : goal.returns
unfolding port_means
returns c =
    let pre = c.requires in
    let a = c.args in
    let e = c.copy_from_slice.ensures.after in (
      omega (arith, c.put_read-n.ensures.0, c.put_write.ensures.0),
      λ l. puts_as (nets_are (decode a.image.now) (state_of a.image.now l a.scr.now) (port_means a.p) _
          (widths_are a.image.now a.scr.now l (port_means a.p) _ _ _ _ pre.0 pre.1 pre.2 c.expr_width.ensures c.signal_width.ensures c.expr_width-2.ensures c.expr_width-3.ensures))
          (puts_then _ (puts_then _ (puts_front _ e refl) (c.put_read-n.ensures.1 l)) (c.put_write.ensures.1 l)),
    )
