-- `struo::struo_check` meets its contract. Assumes nothing.
use mathlib.Core.Path.{ap, ◌∙◌}
use Rattle.spec_call.specs.Call.{numbers_of}
use Rattle.struo.proofs.struo_check.Goals as goal

pub returns : goal.returns
returns c = c.numbers.ensures ∙ ap numbers_of c.check.ensures
