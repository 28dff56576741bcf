-- The definitions that a case computes: to open this one is to open them all. Assumes nothing.
use Rattle.std.specs.Prelude.{ℕ}
use Rattle.spec_tests.specs.Rules as Rules
use Rattle.spec_rules.specs.Image as Image
use Rattle.spec_rules.specs.Checks as Checks
use Rattle.spec_rules.specs.NetlistImage as NetlistImage
use Rattle.spec_rules.specs.Promise as Promise
use Rattle.spec_rules.specs.Listing as Listing
use Rattle.spec_model.specs.Words as Words
use Rattle.spec_model.specs.Builder as Builder
use Rattle.spec_model.specs.WordCells as WordCells
use Rattle.spec_model.specs.Ranges as Ranges
use Rattle.spec_model.specs.Lowering as Lowering
use Rattle.spec_call.specs.Call as Call
use Rattle.bench.specs.Row as Row
use Rattle.bench.specs.Carried as Carried

unfoldable pub computing : ℕ
unfolding Rules.◌<?◌ Rules.◌≡?◌ Rules.◌≢?◌ Rules.◌or◌ Rules.◌and◌ Rules.pick Rules.outside Rules.up_to Rules.first Rules.any Rules.sum_to Rules.each Rules.list_of Rules.only Rules.same_text Rules.and_then Image.word_at Image.size_of Image.most_of Image.count_at_of Image.offset_at Image.bytes_of Image.start_of Image.part Image.field Image.list_word Image.name_of Image.signal_width Image.expr_width Image.direction Image.unary_of Image.binary_of Image.constant_words Image.constant_of Image.kind_of Image.control_of Image.optional Image.signal_at Image.expr_at Image.assign_at Image.register_of Image.register_at Image.port_of Image.memory_at Image.decode Checks.wrong_count Checks.wrong_field Checks.first_field Checks.header Checks.bad_name Checks.name_taken Checks.no_signal Checks.no_expr Checks.bad_bit Checks.bad_control Checks.not_zero Checks.bad_optional Checks.is_input Checks.assigned Checks.targeted Checks.read_into Checks.driven Checks.bad_signal Checks.bad_unary Checks.bad_binary Checks.late Checks.bad_concat Checks.bad_kind Checks.bad_expr Checks.bad_assign Checks.bad_value Checks.bad_reset Checks.bad_register Checks.bad_address Checks.bad_port Checks.bad_second Checks.bad_memory Checks.section Checks.records Checks.netlist_need Checks.signal_bits Checks.expr_bits Checks.scratch_need Checks.refuse Checks.checked NetlistImage.node_word NetlistImage.node_of NetlistImage.node_at_of NetlistImage.port_lists NetlistImage.port_length NetlistImage.record_length NetlistImage.split NetlistImage.records_of NetlistImage.records_with NetlistImage.register_bit_of NetlistImage.memory_port_of NetlistImage.memory_of NetlistImage.arithmetic_of NetlistImage.comparison_of NetlistImage.out_port_of NetlistImage.not_output NetlistImage.is_output_port NetlistImage.netlist Promise.over Promise.left Promise.answer Promise.buffer_after Promise.scratch_after Listing.digits Listing.decimal Listing.line Listing.together Listing.kind_word Listing.bit_name Listing.signal_name Listing.register_name Listing.memory_name Listing.owned Listing.inputs Listing.net_line Listing.record_line Listing.listing Listing.program Words.used Words.count Words.words Builder.add_node Builder.push Builder.node_for_net Builder.constant_value Builder.same Builder.find Builder.add_cached Builder.add_constant Builder.add_not Builder.add_and Builder.add_or Builder.add_xor Builder.add_mux Builder.each Builder.both Builder.from Builder.add_nodes Builder.add_recorded Builder.add_input_port Builder.add_output_port Builder.constant_values Builder.fold_constant_arithmetic Builder.add_arithmetic Builder.add_comparison WordCells.begins WordCells.find_cell WordCells.arithmetic WordCells.comparison Ranges.binary_range Ranges.range_at Ranges.adder_width Lowering.level Lowering.levels Lowering.reduce_tree Lowering.add_equal Lowering.equal_words Lowering.stages Lowering.shift Lowering.lower_unary Lowering.lower_binary Lowering.is_zero_expression Lowering.carry_lsb Lowering.add_operands Lowering.operands_of Lowering.set_signal_bit Lowering.set_signal Lowering.mark Lowering.set_whole Lowering.whole Lowering.set_range Lowering.signal_bit Lowering.signal_net Lowering.signal_nets Lowering.whole_nets Lowering.whole_net Lowering.range_nets Lowering.range_known Lowering.signal_steps Lowering.whole_steps Lowering.pieces Lowering.concat_pieces Lowering.range_steps_of Lowering.build_binary Lowering.build_whole Lowering.build_range Lowering.lower_steps Lowering.driver_of Lowering.drive Lowering.resolve_signal_bit Lowering.keep_whole Lowering.lower_expression Lowering.keep_range Lowering.lower_expression_range Lowering.lower_need Lowering.plenty Lowering.lower_all Lowering.start Lowering.reserve_inputs Lowering.reserve_registers Lowering.reserve_memories Lowering.reserve_sources Lowering.connect_memories Lowering.register_bits Lowering.connect_registers Lowering.connect_outputs Lowering.lower_state Lowering.expression_net Lowering.lower_with Lowering.lower Call.outcome Call.image_of Call.numbers_of Row.reply Carried.required Carried.whole Carried.seen_in
computing = 0
