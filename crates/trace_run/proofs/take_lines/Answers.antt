-- `trace_run::take_lines` meets its contract. Assumes nothing.
use mathlib.Core.Path.{refl, sym, ◌∙◌}
use native.Mathlib.Omega.{arith}
use Rattle.trace_run.specs.Ran.{ran_stops, ran_goes, rest_is, room_there}
use Rattle.trace_run.proofs.take_lines.Goals as goal

pub returns-in-Err-clause-ran : goal.returns-in-Err-clause-ran
returns-in-Err-clause-ran c = ran_stops c.lines.invariant.ran (rest_is c.args.bytes.now c.lines.used) c.in-Err.ensures.answered (room_there c.has_room.ensures c.lines-test.true) refl c.lines.invariant.small

pub lines-preserved : goal.lines-preserved
lines-preserved c =
    let e = rw c.in-Ok-Line.field-0-is at c.in-Ok-Line.ensures in
    let p = c.lines.invariant.same in
    let q = e.same in
    record {
      same = (
        ((q.0.0.0 ∙ p.0.0.0, q.0.0.1 ∙ p.0.0.1, q.0.0.2 ∙ p.0.0.2), (q.0.1.0 ∙ p.0.1.0, q.0.1.1 ∙ p.0.1.1, q.0.1.2 ∙ p.0.1.2)),
        ((q.1.0.0 ∙ p.1.0.0, q.1.0.1 ∙ p.1.0.1), (q.1.1.0 ∙ p.1.1.0, q.1.1.1 ∙ p.1.1.1)),
      );
      room = c.next_line.auto.out ∙ c.lines.invariant.room;
      small = omega (arith, e.answered.few refl e.some);
      before = q.0.1.1 ∙ c.lines.invariant.before ∙ sym q.0.1.0;
      ran = ran_goes c.lines.invariant.ran (rest_is c.args.bytes.now c.lines.used) e.answered (room_there c.has_room.ensures c.lines-test.true) refl e.some;
    }
