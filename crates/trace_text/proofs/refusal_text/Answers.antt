-- `trace_text::refusal_text` meets its contract. Assumes nothing.
use native.Mathlib.Omega.{arith}
use Rattle.std.proofs.Common.{ap}
use Rattle.spec_trace.specs.Trace.{said}
use Rattle.trace_image.specs.Answer.{refusal_of}
use Rattle.trace_image.specs.declared.Refusal.{Refusal}
use Rattle.trace_text.specs.Begins.{begins_refusal, begins_same}
use Rattle.trace_text.proofs.refusal_text.Goals as goal

pub returns-in-Wrong : goal.returns-in-Wrong
returns-in-Wrong c =
    begins_same (ap (λ (r : Refusal). said (refusal_of r)) c.in-Wrong.is) (begins_refusal 11 _ (omega arith) (omega arith) (omega arith) c.put_refusal.ensures)

pub returns-in-Unfit : goal.returns-in-Unfit
returns-in-Unfit c =
    begins_same (ap (λ (r : Refusal). said (refusal_of r)) c.in-Unfit.is) (begins_refusal 12 0 (omega arith) (omega arith) (omega arith) c.put_refusal-in-Unfit.ensures)
