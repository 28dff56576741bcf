-- `struo::struo_netlist_record` meets its contract. Assumes nothing.
use Rattle.std.proofs.Common.{Bool, ap, ◌∙◌}
use Rattle.spec_tests.specs.Rules.{pick}
use Rattle.stored_given.specs.Records.{given_or, given_told, no_record}
use Rattle.struo.proofs.struo_netlist_record.Goals as goal

pub returns : goal.returns
returns c = (
  c.flag.ensures ∙ ap (λ (b : Bool). pick b 1 0) (c.is_some.ensures ∙ given_told _ c.record-given.ensures),
  c.unwrap_or.ensures ∙ given_or c.record-given.ensures (λ q. no_record _ _ q),
)
