-- `net_gates::plain_mux` meets its contract: each turn leaves the mux's node as it is, and none is left after the first. Assumes nothing.
use mathlib.Core.Path.{sym, ◌∙◌}
use Rattle.net_view.specs.View.{netlist_of}
use Rattle.net_gates.specs.Turns.{last_turn}
use Rattle.net_gates.proofs.plain_mux.Goals as goal

pub loop-m-smaller : goal.loop-m-smaller
loop-m-smaller c =
    last_turn (netlist_of 0 c.args.net.now) c.loop-m.m.condition _ (c.requires.1 0) (sym (c.kind_of.ensures 0) ∙ c.loop-m-test.true) (c.exchanged-m.ensures.0 0)
