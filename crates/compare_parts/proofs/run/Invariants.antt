-- `compare_parts::run` meets its contract. Assumes nothing.
use mathlib.Core.Path.{◌≡◌}
use lib.ListN.{length}
use Rattle.net_view.specs.View.{netlist_of}
use Rattle.net_index.specs.Index.{Held}
use Rattle.net_gates.specs.Nots.{PlainNots}
use Rattle.compare_parts.proofs.run.Given as goal

abbrev pub invariant-loop-at : goal.invariant-loop-at
invariant-loop-at l =
    (Held l.n l.net l.idx) × (PlainNots (netlist_of l.n l.net)) × (length l.net ≡ length l.initial.net) × (length l.idx ≡ length l.initial.idx) × (length l.results ≡ length l.initial.results)
