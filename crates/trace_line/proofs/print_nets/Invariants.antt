-- `trace_line::print_nets` meets its contract. Assumes nothing.
use mathlib.Core.List.{map}
use lib.ListN.{take}
use Rattle.spec_trace.specs.Trace.{digit}
use Rattle.listing_text.specs.Text.{Wrote}
use Rattle.trace_step.specs.Words.{on}
use Rattle.trace_line.proofs.print_nets.Given as goal

abbrev pub invariant-loop-net : goal.invariant-loop-net
invariant-loop-net l = Wrote l.initial.out l.at (map (λ n. digit (on l.values n)) (take l.net-index l.nets)) l.out l.to
