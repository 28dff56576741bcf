-- `trace_answer::settings_line` meets its contract. Assumes nothing.
use mathlib.Core.Path.{refl}
use native.Mathlib.Omega.{arith}
use Rattle.trace_answer.specs.Settings.{settles_wrong, settles_clash, settles}
use Rattle.trace_answer.proofs.settings_line.Goals as goal

pub returns-then-is_wrong-clause-settles : goal.returns-then-is_wrong-clause-settles
returns-then-is_wrong-clause-settles c = (refl, λ to stop o f. settles_wrong c.requires.0.0 refl c.is_wrong.ensures c.if-is_wrong.true f)

pub returns-in-Err-clause-settles : goal.returns-in-Err-clause-settles
returns-in-Err-clause-settles c = (refl, λ to stop o f. settles_clash c.requires.0.0 refl c.is_wrong.ensures c.if-is_wrong.false c.in-Err.ensures.takes c.in-Err.ensures.memory f)

pub returns-clause-settles : goal.returns-clause-settles
returns-clause-settles c = settles c.requires.0.0 refl c.is_wrong.ensures c.if-is_wrong.false c.in_default.ensures.takes (omega arith) c.print_nets.ensures refl
