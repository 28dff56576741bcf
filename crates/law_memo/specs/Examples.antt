-- Examples, computed: y is bits 0 to 1 and z bits 1 to 2 of ~a, lowered by ranges; then ~a is lowered whole, with the nets of expressions forgotten or not. Its three
-- bits have the nets that they had, and no net is made; so with a sum of two constants, whose cell is folded. Assumes nothing.
use Rattle.std.specs.Prelude.{ℕ, ◌≡◌, refl, Bool, true, false, List, [], ◌∷◌, length}
use Rattle.std.proofs.Math.Option.{Option, some}
use Rattle.spec_rtl.specs.Rtl as R
use Rattle.spec_rtl.specs.Rtl.{Module}
use Rattle.spec_model.specs.Words as Words
use Rattle.spec_model.specs.Builder as Builder
use Rattle.spec_model.specs.Builder.{Out, refused, done}
use Rattle.spec_model.specs.WordCells as WordCells
use Rattle.spec_model.specs.Ranges as Ranges
use Rattle.spec_model.specs.Lowering as L
use Rattle.spec_model.specs.Lowering.{State, lower_need, plenty, expression_net, lower_state}
use Rattle.law_memo.specs.Memo.{forgot}

computing : ℕ
unfolding Words.used Words.count Words.words Builder.add_node Builder.push Builder.node_for_net Builder.constant_value Builder.same Builder.find Builder.add_cached Builder.add_constant Builder.add_not Builder.add_and Builder.add_or Builder.add_xor Builder.add_mux Builder.each Builder.both Builder.from Builder.add_nodes Builder.add_recorded Builder.add_input_port Builder.add_output_port Builder.constant_values Builder.fold_constant_arithmetic Builder.add_arithmetic Builder.add_comparison WordCells.begins WordCells.find_cell WordCells.arithmetic WordCells.comparison Ranges.binary_range Ranges.range_at Ranges.adder_width L.level L.levels L.reduce_tree L.add_equal L.equal_words L.stages L.shift L.lower_unary L.lower_binary L.is_zero_expression L.carry_lsb L.add_operands L.operands_of L.set_signal_bit L.set_signal L.mark L.set_whole L.whole L.set_range L.signal_bit L.signal_net L.signal_nets L.whole_nets L.whole_net L.range_nets L.range_known L.signal_steps L.whole_steps L.pieces L.concat_pieces L.range_steps_of L.build_binary L.build_whole L.build_range L.lower_steps L.driver_of L.drive L.resolve_signal_bit L.keep_whole L.lower_expression L.keep_range L.lower_expression_range L.lower_need L.plenty L.lower_all L.start L.reserve_inputs L.reserve_registers L.reserve_memories L.reserve_sources L.connect_memories L.register_bits L.connect_registers L.connect_outputs L.lower_state L.expression_net L.lower_with L.lower
computing = 0

abbrev m : Module
m = record {
  signals = record { width = 3; dir = R.Input } ∷ record { width = 2; dir = R.Output } ∷ record { width = 2; dir = R.Output } ∷ [];
  exprs = record { width = 3; kind = R.Signal 0 0 } ∷ record { width = 3; kind = R.Un R.BitNot 0 } ∷ record { width = 2; kind = R.Slice 1 0 } ∷ record { width = 2; kind = R.Slice 1 1 } ∷ [];
  assigns = record { signal = 1; lsb = 0; width = 2; value = 2 } ∷ record { signal = 2; lsb = 0; width = 2; value = 3 } ∷ [];
  registers = [];
  memories = [];
}

-- nets made, and the nets of bits 0 to 2 of ~a
abbrev seen : Out State → List (Option ℕ)
seen (refused n x y) = []
seen (done st) = some (length st.netlist.nodes) ∷ expression_net st 1 0 ∷ expression_net st 1 1 ∷ expression_net st 1 2 ∷ []

abbrev again : Bool → Out State → Out State
again ob (refused n x y) = refused n x y
again ob (done st) = lower_need (plenty m) m ob (L.Whole 1) (forgot 0 m st)

by_ranges : seen (lower_state false m 16 64) ≡ some 10 ∷ some 3 ∷ some 4 ∷ some 7 ∷ []
unfolding computing
by_ranges = refl

ranges_again : seen (again false (lower_state false m 16 64)) ≡ some 10 ∷ some 3 ∷ some 4 ∷ some 7 ∷ []
unfolding computing
ranges_again = refl

-- from the end of the call itself
abbrev still : Out State → Out State
still (refused n x y) = refused n x y
still (done st) = lower_need (plenty m) m false (L.Whole 1) st

whole_still : seen (still (lower_state false m 16 64)) ≡ some 10 ∷ some 3 ∷ some 4 ∷ some 7 ∷ []
unfolding computing
whole_still = refl

-- with the flag
by_flag : seen (lower_state true m 16 64) ≡ some 10 ∷ some 3 ∷ some 4 ∷ some 7 ∷ []
unfolding computing
by_flag = refl

flag_again : seen (again true (lower_state true m 16 64)) ≡ some 10 ∷ some 3 ∷ some 4 ∷ some 7 ∷ []
unfolding computing
flag_again = refl

-- ---- y = 1 + 0: the cell is folded, and its key is not kept ----

abbrev sum : Module
sum = record {
  signals = record { width = 1; dir = R.Output } ∷ [];
  exprs = record { width = 1; kind = R.Constant 1 } ∷ record { width = 1; kind = R.Constant 0 } ∷ record { width = 1; kind = R.Bin R.Add 0 1 } ∷ [];
  assigns = record { signal = 0; lsb = 0; width = 1; value = 2 } ∷ [];
  registers = [];
  memories = [];
}

-- nets and records made, and the sum's net
abbrev sums : Out State → List (Option ℕ)
sums (refused n x y) = []
sums (done st) = some (length st.netlist.nodes) ∷ some (length st.netlist.records) ∷ expression_net st 2 0 ∷ []

abbrev sum_again : Out State → Out State
sum_again (refused n x y) = refused n x y
sum_again (done st) = lower_need (plenty sum) sum false (L.Whole 2) (forgot 0 sum st)

folded : sums (lower_state false sum 16 64) ≡ some 3 ∷ some 1 ∷ some 0 ∷ []
unfolding computing
folded = refl

folded_again : sums (sum_again (lower_state false sum 16 64)) ≡ some 3 ∷ some 1 ∷ some 0 ∷ []
unfolding computing
folded_again = refl
