-- What is proved of specs/Examples: The listing's example in docs/RULES.md, y = BitNot a: it is a good module, its lowering succeeds, and so demand 3 holds of its netlist. Assumes nothing.
use Rattle.std.specs.Prelude.{false}
use Rattle.std.proofs.Common.{arith}
use Rattle.spec_rules.specs.NetlistImage.{netlist}
use Rattle.spec_rules.specs.Step.{Demand3}
use Rattle.spec_model.specs.Words.{words}
use Rattle.law_demands.proofs.Demands.{demand3}
use Rattle.law_demands.specs.Examples.{end, good, inverter, succeeds}

pub agrees : Demand3 inverter (netlist (words 3 8 end.netlist))
agrees = demand3 inverter good false 3 8 (omega arith) end succeeds
