-- `trace_image::judge` meets its contract. Assumes nothing.
use mathlib.Core.Path.{sym}
use native.Mathlib.Omega.{arith}
use Rattle.trace_image.specs.Headed.{heads}
use Rattle.trace_image.proofs.Refusals.{header_refused, check_fine, check_refused}
use Rattle.trace_image.proofs.judge.Goals as goal

pub returns-in_err-judge_header : goal.returns-in_err-judge_header
returns-in_err-judge_header c = header_refused _ _ _ c.from_residual.ensures c.in_err-judge_header.ensures

pub check-requires : goal.check-requires
check-requires c = (λ h. (let f = (heads 1024 2048 _ (sym c.in_ok-judge_header.ensures)).few_nets in omega arith), omega arith)

pub returns-in_err-check : goal.returns-in_err-check
returns-in_err-check c = check_refused _ _ _ c.from_residual-in_err-check.ensures c.in_ok-judge_header.ensures c.in_err-check.ensures

pub returns : goal.returns
returns c = check_fine _ c.in_ok-check.field-0 c.in_ok-judge_header.ensures c.in_ok-check.ensures
