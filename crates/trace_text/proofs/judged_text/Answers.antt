-- `trace_text::judged_text` meets its contract. Assumes nothing.
use mathlib.Core.Path.{refl, sym, ap}
use Rattle.std.proofs.Common.{ℕ, List}
use Rattle.spec_trace.specs.Named.{begun, text_from}
use native.Mathlib.Omega.{arith}
use Rattle.trace_open.specs.Begins.{tables_fresh}
use Rattle.trace_text.specs.Begins.{begins_same}
use Rattle.trace_text.specs.Input.{text_taken, text_err}
use Rattle.trace_text.proofs.judged_text.Goals as goal

pub lines_text-requires : goal.lines_text-requires
lines_text-requires c = tables_fresh c.in-Ok.ensures refl

pub returns-in-Ok : goal.returns-in-Ok
returns-in-Ok c =
    let t = c.in-Ok.ensures.tables c.in-Ok.tables refl in
    text_taken c.in-Ok.ensures c.args.trace.now refl (omega (arith, t.outputs_few)) (begins_same (ap (λ (n : List ℕ). text_from n 0 begun c.args.trace.now) (sym t.net)) c.lines_text.ensures)

pub returns-in-Err : goal.returns-in-Err
returns-in-Err c = text_err _ c.in-Err.ensures c.args.trace.now c.refusal_text.ensures
