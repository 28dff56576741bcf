-- What is proved of specs/Steps: A cell's step of a netlist whose nets read lower ones is right: what the code computes is the value of each output net. Assumes nothing.
use Rattle.std.specs.Prelude.{ℕ, ◌+◌, ◌≤◌, ◌<◌, ◌≡◌, List}
use Rattle.std.proofs.Common.{arith}
use Rattle.spec_rules.specs.NetlistImage.{netlist}
use Rattle.law_told.specs.Ordered.{Ordered}
use Rattle.trace_pass.specs.Plan.{size, word, GateStep}
use Rattle.trace_pass.specs.Gates.{GateWords}
use Rattle.trace_pass.proofs.Gates.{gate_rule}
use Rattle.trace_pass.specs.Steps.{node_is}

pub gate_step : {ws t : List ℕ} {due : ℕ → ℕ} {i k : ℕ} → Ordered (netlist ws) → GateWords ws t due i k
    → (word t i 2 < size ws) × ((word t i 3 < size ws) × (word t i 4 < size ws))
    → ((j : ℕ) → j < size ws → due j ≤ i + 1 → (j ≡ word t i 0 → ⊥) → due j ≤ i) → GateStep ws t due i
gate_step {ws} {t} {due} {i} {k} o w x only = record {
  inputs = x;
  one = record { inside = omega (arith, w.inside, w.target); only = only; rule = gate_rule o (node_is ws k w.inside) w };
}
