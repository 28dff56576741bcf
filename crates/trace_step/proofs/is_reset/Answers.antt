-- `trace_step::is_reset` meets its contract. Assumes nothing.
use Rattle.trace_step.specs.Words.{on}
use Rattle.trace_step.specs.Chains.{reset_absent, reset_other, reset_its, kind_its, kind_other}
use Rattle.trace_step.proofs.is_reset.Goals as goal

pub returns-then-x : goal.returns-then-x
returns-then-x c = reset_absent c.args.asynchronous (on c.args.values.now) _ c.word_at-x.ensures c.if-x.true

pub returns-then-kind-asynchronous : goal.returns-then-kind-asynchronous
returns-then-kind-asynchronous c = reset_other c.args.asynchronous (on c.args.values.now) _ c.word_at-x.ensures c.if-x.false (kind_other _ c.word_at-kind.ensures c.if-kind-asynchronous.true)

pub returns : goal.returns
returns c = reset_its c.args.asynchronous (on c.args.values.now) _ c.word_at-x.ensures c.if-x.false (kind_its _ c.word_at-kind.ensures c.if-kind-asynchronous.false) c.word_at.ensures c.is_active.ensures
