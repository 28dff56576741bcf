-- `lower::clear_refused` meets its contract. Assumes nothing.
use mathlib.Core.Path.{sym, ◌∙◌}
use Rattle.lower.proofs.Ends.{kept_refused, kept_done}
use Rattle.lower.proofs.clear_refused.Goals as goal

pub returns-then-is_err : goal.returns-then-is_err
returns-then-is_err c = c.clear.ensures ∙ kept_refused c.args.r (sym c.is_err.ensures.value ∙ c.if-is_err.true) c.args.net.now

pub returns-else-is_err : goal.returns-else-is_err
returns-else-is_err c = kept_done c.args.r (sym c.is_err.ensures.value ∙ c.if-is_err.false) c.args.net.now
