-- `phase_memory_records::put_port` meets its contract. Assumes nothing.
use native.Mathlib.Omega.{arith}
use mathlib.Core.Path.{◌∙◌}
use Rattle.spec_rules.specs.Image.{decode}
use Rattle.scratch_view.specs.View.{state_of}
use Rattle.image_records.specs.Others.{port_means}
use Rattle.phase_memory_records.specs.Puts.{puts_whole, puts_then, puts_as}
use Rattle.phase_memory_records.proofs.Laws.{tail_long, port_parts}
use Rattle.phase_memory_records.proofs.put_port.Goals as goal

pub returns : goal.returns
returns c =
    let a = c.args in
    (omega (arith, c.put_nets-at.ensures.0), λ l. puts_as (port_parts (decode a.image.now) (state_of a.image.now l a.scr.now) (port_means a.p)) (puts_then _ (c.put_nets-at.ensures.1 l) (puts_whole (c.copy_from_slice.ensures.after ∙ c.control_words.ensures l) (tail_long (state_of a.image.now l a.scr.now) (port_means a.p)))))
