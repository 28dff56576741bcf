-- The two cases of whether the text was printed. Assumes nothing.
use Rattle.std.proofs.Common.{◌≡◌, not, sym, ap, ◌∙◌}
use Rattle.trace_run.specs.Bundles.{stop_of}
use Rattle.trace.specs.Turn.{goes_written, goes_not}
use Rattle.trace.specs.Bundles.{goes_more}
use Rattle.trace.proofs.goes_on.Goals as goal
use Rattle.trace.proofs.goes_on.Goals.{in-Last, in_default}

pub returns-then-written : goal.returns-then-written
returns-then-written c =
    let says : c.match-matches.matches ≡ stop_of c.args.end = elim c.match-matches.branch [
      | in-Last w ↦ w.matches-is ∙ sym (ap stop_of w.in-Last.is)
      | in_default w ↦ w.matches-is ∙ sym (goes_more _ w.in_default.not-Last)
    ] in
    ap not says ∙ goes_written _ c.if-written.true

pub returns : goal.returns
returns c = goes_not _ c.if-written.false
