-- `scratch_tables::net_word` meets its contract: a word as a net. Assumes nothing.
use mathlib.Core.Path.{sym}
use native.Mathlib.Omega.{arith}
use Rattle.scratch_view.specs.Laws.{net_word_some, net_word_none}
use Rattle.scratch_tables.proofs.net_word.Goals as goal

pub returns-then-x-eq0 : goal.returns-then-x-eq0
returns-then-x-eq0 c = sym (net_word_none c.args.x c.if-x-eq0.true)

pub returns-else-x-eq0 : goal.returns-else-x-eq0
returns-else-x-eq0 c = sym (net_word_some c.args.x (omega arith))
