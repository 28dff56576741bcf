-- `phase_parts::bit_net` meets its contract. Assumes nothing.
use mathlib.Core.Path.{◌∙◌}
use Rattle.scratch_view.specs.View.{state_of}
use Rattle.phase_parts.proofs.Laws.{net_is}
use Rattle.phase_parts.proofs.bit_net.Goals as goal

pub returns : goal.returns
returns c =
    let a = c.args in
    λ l. c.unwrap_or.ensures ∙ net_is (state_of a.image.now l a.scr.now) a.p a.b _ (c.signal_net.ensures l)
