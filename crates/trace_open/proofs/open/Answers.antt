-- `trace_open::open` meets its contract. Assumes nothing.
use mathlib.Core.Path.{sym}
use Rattle.std.proofs.Common.{subst}
use Rattle.trace_image.specs.declared.Refusal.TheVariants as R
use Rattle.trace_open.specs.Opens.{accepted, judged_opens, Opens}
use Rattle.trace_open.proofs.Answered.{opened_by}
use Rattle.trace_open.proofs.open.Goals as goal

pub prepare-tables-requires : goal.prepare-tables-requires
prepare-tables-requires c = (let a = accepted c.args.net.now c.in-Ok.ensures in (a.0, a.1, a.2, c.requires.0, c.requires.1, c.requires.2, c.requires.3, c.requires.4))

pub returns-in-Ok : goal.returns-in-Ok
returns-in-Ok c = subst (λ x. Opens c.args.net.now x) (sym c.ok_or.ensures.value) (opened_by _ c.prepare-tables.result c.in-Ok.ensures c.prepare-tables.ensures)

pub returns-in-Err-Wrong : goal.returns-in-Err-Wrong
returns-in-Err-Wrong c = rw c.in-Err-Wrong.field-0-is (judged_opens (R.Wrong c.in-Err-Wrong.p) (rw c.in-Err-Wrong.field-0-is at c.in-Err-Wrong.ensures))

pub returns-in-Err-Unfit : goal.returns-in-Err-Unfit
returns-in-Err-Unfit c = judged_opens R.Unfit (rw c.in-Err-Unfit.field-0-is at c.in-Err-Unfit.ensures)
