-- `trace_lines::next_line` meets its contract. Assumes nothing.
use mathlib.Core.Path.{refl}
use native.Mathlib.Omega.{arith}
use Rattle.trace_keep.specs.Slots.{roomy_same}
use Rattle.trace_lines.specs.Answers.{limited, waited, answered}
use Rattle.trace_lines.proofs.Stops.{answered_err}
use Rattle.trace_lines.proofs.next_line.Goals as goal

pub returns-in_default-clause-answered : goal.returns-in_default-clause-answered
returns-in_default-clause-answered c = waited c.requires.0.0 c.in_default.ensures refl refl refl c.wait.ensures.waits

pub returns-then-k-eq4294967295-clause-answered : goal.returns-then-k-eq4294967295-clause-answered
returns-then-k-eq4294967295-clause-answered c = limited c.requires.0.0 c.in-Some.ensures.0 c.in-Some.ensures.1 (omega arith) (refl, c.refuse.ensures)

pub returns-clause-answered : goal.returns-clause-answered
returns-clause-answered c =
    let l = c.in_ok-to.ensures.same in
    answered c.requires.0.0 c.in-Some.ensures.0 c.in-Some.ensures.1 (omega arith) refl c.in_ok-to.ensures.answers (roomy_same c.requires.0.0.room l.0.1.0 l.0.1.2 l.1.1.0 l.1.1.1) refl

pub returns-in_err-to-clause-answered : goal.returns-in_err-to-clause-answered
returns-in_err-to-clause-answered c =
    let l = c.in_err-to.ensures.same in
    answered_err c.args.tables.now c.args.k c.args.bytes.now c.args.out.now c.args.at c.args.state.now c.args.kept.now c.requires.0 c.in-Some.ensures.0 c.in-Some.ensures.1 (omega arith) refl _ _ c.any_line.new.state c.any_line.new.kept c.in_err-to.ensures.answers
    (roomy_same c.requires.0.0.room l.0.1.0 l.0.1.2 l.1.1.0 l.1.1.1) _ c.from_residual.ensures
