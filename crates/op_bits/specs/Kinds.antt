-- The kinds of gate in the code and in the model, and what is made of a pair of bits. Assumes nothing.
use Rattle.std.specs.Prelude.{ℕ}
use Rattle.spec_model.specs.Words.{Netlist}
use Rattle.spec_model.specs.Builder.{Made}
use Rattle.spec_model.specs.Lowering.{add_gate, add_equal}
use Rattle.spec_model.specs.Ranges as M
use Rattle.op_bits.specs.declared.Gate.{Gate}
use Rattle.op_bits.specs.declared.Gate.TheVariants.{And, Or, Xor}
use Rattle.op_bits.specs.declared.Pair.{Pair}
use Rattle.op_bits.specs.declared.Pair.TheVariants as P

abbrev pub gate_of : Gate → M.Gate
gate_of And = M.AndGate
gate_of Or = M.OrGate
gate_of Xor = M.XorGate

abbrev pub pair_made : Pair → ℕ → ℕ → Netlist → Made ℕ
pair_made (P.Gate g) = add_gate (gate_of g)
pair_made P.Equal = add_equal
