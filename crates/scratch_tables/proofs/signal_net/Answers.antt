-- `scratch_tables::signal_net` meets its contract: the word at the place. Assumes nothing.
use mathlib.Core.Path.{sym, ◌∙◌}
use Rattle.scratch_tables.proofs.Ways.{net_way}
use Rattle.scratch_tables.proofs.signal_net.Goals as goal

pub returns : goal.returns
returns c = λ l.
    let at = c.signal_place-at in
    c.as_known.ensures ∙ sym (net_way c.args.image.now c.args.scr.now c.args.p c.args.b at.result c.requires.0 c.requires.1 c.requires.2 at.ensures l)
