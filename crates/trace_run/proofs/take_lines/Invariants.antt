-- `trace_run::take_lines` meets its contract. Assumes nothing.
use Rattle.std.proofs.Common.{◌≡◌, ◌-◌, ◌<◌, false, length}
use Rattle.trace_line.specs.Bundles.{SameTables}
use Rattle.trace_keep.specs.Bundles.{SameKept}
use Rattle.trace_run.specs.Bundles.{RanBy}
use Rattle.trace_run.proofs.take_lines.Given as goal

abbrev pub invariant-lines : goal.invariant-lines
invariant-lines l = record {
  same : SameTables l.initial.state l.state × SameKept l.initial.kept l.kept;
  room : length l.out ≡ length l.initial.out;
  small : l.line < 4294967296;
  before : length l.state.before.now ≡ length l.state.values.now;
  ran : RanBy l.tables l.k l.bytes l.initial.state l.initial.kept l.used l.at l.line false false l.out l.state l.kept;
}

abbrev pub decreases-lines : goal.decreases-lines
decreases-lines l = length l.bytes - l.used
