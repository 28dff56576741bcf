-- `struo::struo_netlist_node` meets its contract. Assumes nothing.
use Rattle.std.proofs.Common.{Bool, ap, ◌∙◌}
use Rattle.spec_tests.specs.Rules.{pick}
use Rattle.stored_given.specs.Records.{given_or, given_told, no_node}
use Rattle.struo.proofs.struo_netlist_node.Goals as goal

pub returns : goal.returns
returns c = (
  c.flag.ensures ∙ ap (λ (b : Bool). pick b 1 0) (c.is_some.ensures ∙ given_told _ c.node-given.ensures),
  c.unwrap_or.ensures ∙ given_or c.node-given.ensures (λ q. no_node _ _ q),
)
