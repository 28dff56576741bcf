-- The trace program by example: a register, a memory with two ports, named states, refusals 11 to 15. The netlists are words that the Rust
-- wrote.
use Rattle.std.specs.Prelude.{ℕ, zero, ◌+◌, ◌-◌, ◌/◌, ◌%◌, ◌≡◌, refl, List, [], ◌∷◌, ◌++◌, take, set}
use Rattle.spec_tests.specs.Rules.{◌<?◌, ◌≡?◌, ◌≢?◌, ◌or◌, ◌and◌, pick, outside, up_to, first, any, each, list_of, only, same_text, and_then}
use Rattle.spec_rules.specs.Image.{control_of, optional, register_of}
use Rattle.spec_rules.specs.Checks.{refuse}
use Rattle.spec_rules.specs.NetlistImage.{node_word, node_of, node_at_of, port_lists, port_length, record_length, split, records_of, records_with, register_bit_of, memory_port_of, memory_of, arithmetic_of, comparison_of, out_port_of, not_output, is_output_port, netlist}
use Rattle.spec_rules.specs.Clashing.{memory}
use Rattle.spec_rules.specs.Step.{clashing}
use Rattle.spec_rules.specs.Listing.{text, digits, decimal, line, together}
use Rattle.spec_netlist.specs.Accept.{wrong_header, belongs, most_owner, most_bit, input_count, wrong_owner, same_node, wrong_bit, wrong_input, wrong_node_word, ports_length, extent, member, second_data, own_nets, taken, count_of, wrong_level, not_above, first_wrong, no_net, no_optional, not_own_of, wrong_port, wrong_register, wrong_memory_port, wrong_memory, wrong_arithmetic, wrong_comparison, wrong_word, judged, header_answer, length_answer, nodes_answer, list_answer, alone, alone_answer, wrong_count, counts_answer, body_answer, accepts}
use Rattle.spec_netlist.specs.Examples.{register}
use Rattle.spec_trace.specs.Opened.{words_of, other_limits, opened, having, no_input, register_unfit, second_unfit, memory_unfit, bits_of, unfit, ports_with, nets_with}
use Rattle.spec_trace.specs.Trace.{setting_by, setting_of, wrong_line, digit, shown, reached, clash_at, settings_line, before, pieces, said, continued, traced}
use Rattle.spec_trace.specs.Named.{good_name, is_named, read_line, put, find, landed, joined, kept, restored, line_done, unless, trace_text}

-- all that is computed
computing : ℕ
unfolding clashing ◌<?◌ ◌≡?◌ ◌≢?◌ ◌or◌ ◌and◌ pick outside up_to first any each list_of only same_text and_then control_of optional register_of refuse node_word node_of node_at_of port_lists port_length record_length split records_of records_with register_bit_of memory_port_of memory_of arithmetic_of comparison_of out_port_of not_output is_output_port netlist digits decimal line together wrong_header belongs most_owner most_bit input_count wrong_owner same_node wrong_bit wrong_input wrong_node_word ports_length extent member second_data own_nets taken count_of wrong_level not_above first_wrong no_net no_optional not_own_of wrong_port wrong_register wrong_memory_port wrong_memory wrong_arithmetic wrong_comparison wrong_word judged header_answer length_answer nodes_answer list_answer alone alone_answer wrong_count counts_answer body_answer accepts words_of other_limits opened having no_input register_unfit second_unfit memory_unfit bits_of unfit ports_with nets_with setting_by setting_of wrong_line digit shown reached clash_at settings_line before pieces said continued traced good_name is_named read_line put find landed joined kept restored line_done unless trace_text
computing = zero

-- four bytes a word, low first
abbrev bytes : List ℕ → List ℕ
bytes [] = []
bytes (w ∷ ws) = w % 256 ∷ w / 256 % 256 ∷ w / 65536 % 256 ∷ w / 16777216 ∷ bytes ws

-- clk, en, d: at a rising edge with en the register takes d as it was before the step
register_run : trace_text 9 44 0 (bytes register ++ text "0000\n0111\n1111\n0100\n1100\n") ≡ text "00\n00\n11\n11\n00\n"
unfolding computing
register_run = refl

-- a trace without lines
no_lines : trace_text 9 44 0 (bytes register) ≡ text ""
unfolding computing
no_lines = refl

-- 13: a line of another length; earlier lines have been printed
short_line : trace_text 9 44 0 (bytes register ++ text "0000\n011\n") ≡ text "00\nrefused 13 1 0\n"
unfolding computing
short_line = refl

-- 13: another letter
other_letter : trace_text 9 44 0 (bytes register ++ text "0020\n") ≡ text "refused 13 0 0\n"
unfolding computing
other_letter = refl

-- 13: a line that does not end with byte 10
unended : trace_text 9 44 0 (bytes register ++ text "0000\n0111") ≡ text "00\nrefused 13 1 0\n"
unfolding computing
unended = refl

-- 12: another N
other_limit : trace_text 1024 44 0 (bytes register ++ text "0000\n") ≡ text "refused 12 0 0\n"
unfolding computing
other_limit = refl

-- 12 before 11's length: the words that the list needs are not there either
many_words : trace_text 9 43 0 (bytes (take 100 register)) ≡ text "refused 12 0 0\n"
unfolding computing
many_words = refl

-- 11: a cut word counts as none; its length
cut_word : trace_text 9 44 0 (take 455 (bytes register)) ≡ text "refused 11 113 0\n"
unfolding computing
cut_word = refl

-- 11 before 12: not all sixteen header words are there
few_words : trace_text 1024 2048 0 (take 63 (bytes register)) ≡ text "refused 11 15 0\n"
unfolding computing
few_words = refl

-- 12: the clock is no input net
unfit_clock : trace_text 9 44 0 (bytes (set register 88 4) ++ text "0000\n") ≡ text "refused 12 0 0\n"
unfolding computing
unfit_clock = refl

-- 12: a memory of 4 bits where 3 are taken
many_bits : trace_text 15 65 3 (bytes memory ++ text "00000\n") ≡ text "refused 12 0 0\n"
unfolding computing
many_bits = refl

-- clk, wa, wb, x: the first port stores 1 at 1, then both ports read the old words
memory_run : trace_text 15 65 4 (bytes memory ++ text "01010\n11010\n00011\n10011\n") ≡ text "0000\n0000\n0000\n1010\n"
unfolding computing
memory_run = refl

-- each port stores its own word
both_store : trace_text 15 65 4 (bytes memory ++ text "01110\n11110\n00010\n10010\n") ≡ text "0000\n0000\n0000\n1001\n"
unfolding computing
both_store = refl

-- 14: both store at 1 in line 3's step; what was printed before stays
clash : trace_text 15 65 4 (bytes memory ++ text "00011\n10011\n01111\n11111\n00011\n") ≡ text "0000\n0000\n0000\nrefused 14 3 0\n"
unfolding computing
clash = refl

-- 13's check of the line comes first
wrong_line_first : trace_text 15 65 4 (bytes memory ++ text "00011\n10011\n01111\n1111\n") ≡ text "0000\n0000\n0000\nrefused 13 3 0\n"
unfolding computing
wrong_line_first = refl

-- the first line makes no step
no_step : trace_text 15 65 4 (bytes memory ++ text "11111\n01111\n") ≡ text "0000\n0000\n"
unfolding computing
no_step = refl

-- ---- named states ----

-- clk, en, d: two endings from one moment, clk 0 and d 11; the first loads d, the second holds
two_endings : trace_text 9 44 0 (bytes register ++ text "0000\n0111\nkeep a\n1111\nback a\n1000\n") ≡ text "00\n00\n11\n11\n"
unfolding computing
two_endings = refl

-- the settings are restored too: after the back, clk 1 is an edge again
edge_again : trace_text 9 44 0 (bytes register ++ text "0111\nkeep a\n1000\n1000\nback a\n1000\n") ≡ text "00\n11\n11\n11\n"
unfolding computing
edge_again = refl

-- the registers are restored: en 0 holds what stood at the keep
held_again : trace_text 9 44 0 (bytes register ++ text "0000\nkeep a\n0111\n1000\nback a\n1000\n") ≡ text "00\n00\n11\n00\n"
unfolding computing
held_again = refl

-- the same name again replaces it
replaced : trace_text 9 44 0 (bytes register ++ text "0000\nkeep a\n0111\n1000\nkeep a\n0000\nback a\n0000\n") ≡ text "00\n00\n11\n11\n11\n"
unfolding computing
replaced = refl

-- a word that was stored after the keep is gone after the back
memory_again : trace_text 15 65 4 (bytes memory ++ text "01010\nkeep a\n11010\nback a\n00011\n10011\n") ≡ text "0000\n0000\n0000\n0000\n"
unfolding computing
memory_again = refl

-- 14 after a back, at its own line
clash_again : trace_text 15 65 4 (bytes memory ++ text "01111\nkeep ab\n00000\nback ab\n11111\n") ≡ text "0000\n0000\nrefused 14 4 0\n"
unfolding computing
clash_again = refl

-- 15: a name not kept
not_kept : trace_text 9 44 0 (bytes register ++ text "0000\nkeep a\nback b\n") ≡ text "00\nrefused 15 2 0\n"
unfolding computing
not_kept = refl

-- 15: a fifth name; a name that is held is none
fifth_name : trace_text 9 44 0 (bytes register ++ text "0000\nkeep a\nkeep b\nkeep c\nkeep d\nkeep a\nkeep e\n") ≡ text "00\nrefused 15 6 0\n"
unfolding computing
fifth_name = refl

-- 15: before the first settings line
keep_first : trace_text 9 44 0 (bytes register ++ text "keep a\n0000\n") ≡ text "refused 15 0 0\n"
unfolding computing
keep_first = refl

back_first : trace_text 9 44 0 (bytes register ++ text "back a\n0000\n") ≡ text "refused 15 0 0\n"
unfolding computing
back_first = refl

-- 13: nine letters, a capital, two blanks, no name, a blank behind it; also before the first settings line
nine_letters : trace_text 9 44 0 (bytes register ++ text "0000\nkeep abcdefgh\nkeep abcdefghi\n") ≡ text "00\nrefused 13 2 0\n"
unfolding computing
nine_letters = refl

capital : trace_text 9 44 0 (bytes register ++ text "keep A\n") ≡ text "refused 13 0 0\n"
unfolding computing
capital = refl

two_blanks : trace_text 9 44 0 (bytes register ++ text "0000\nkeep  a\n") ≡ text "00\nrefused 13 1 0\n"
unfolding computing
two_blanks = refl

no_name : trace_text 9 44 0 (bytes register ++ text "0000\nback \n") ≡ text "00\nrefused 13 1 0\n"
unfolding computing
no_name = refl

blank_behind : trace_text 9 44 0 (bytes register ++ text "0000\nkeep a\nback a \n") ≡ text "00\nrefused 13 2 0\n"
unfolding computing
blank_behind = refl

-- 13: its line end comes before 15
unended_back : trace_text 9 44 0 (bytes register ++ text "0000\nback a") ≡ text "00\nrefused 13 1 0\n"
unfolding computing
unended_back = refl
