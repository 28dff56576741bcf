-- Refusal 11 by example: images that the lowering writes are accepted, damaged ones refused at their first wrong word. The words above each
-- image say which reading it shows. Computed, no proof.
use Rattle.std.specs.Prelude.{ℕ, ◌+◌, ◌-◌, ◌≡◌, refl, List, [], ◌∷◌, ◌++◌, map, take, set}
use Rattle.spec_tests.specs.Rules.{Answer, Fine, Refused, ◌<?◌, ◌≡?◌, ◌≢?◌, ◌or◌, ◌and◌, pick, outside, up_to, first, any, only, and_then}
use Rattle.spec_rules.specs.Image.{absent, control_of, optional}
use Rattle.spec_rules.specs.NetlistImage.{node_word, port_lists, port_length, record_length, split, records_of, memory_port_of, memory_of}
use Rattle.spec_rules.specs.Clashing.{memory}
use Rattle.spec_netlist.specs.Accept.{wrong_header, belongs, most_owner, most_bit, input_count, wrong_owner, same_node, wrong_bit, wrong_input, wrong_node_word, ports_length, extent, member, second_data, own_nets, taken, count_of, wrong_level, not_above, first_wrong, no_net, no_optional, not_own_of, wrong_port, wrong_register, wrong_memory_port, wrong_memory, wrong_arithmetic, wrong_comparison, wrong_word, judged, header_answer, length_answer, nodes_answer, list_answer, alone, alone_answer, wrong_count, counts_answer, body_answer, accepts}

-- ---- images, as words that the Rust's lowering writes ----

-- y = ~a: N = 3, P = 8
abbrev inverter : List ℕ
inverter =
    1 ∷ 3 ∷ 16 ∷ 8 ∷ 34 ∷ 2 ∷ 0 ∷ 0 ∷ 0 ∷ 0 ∷ 0 ∷ 0 ∷ 0 ∷ 0 ∷ 0 ∷ 0 ∷ 0 ∷ 0 ∷ 0 ∷ 4294967295 ∷ 4294967295 ∷ 4294967295 ∷ 5 ∷ 4294967295 ∷
    4294967295 ∷ 0 ∷ 4294967295 ∷ 4294967295 ∷ 8 ∷ 1 ∷ 0 ∷ 1 ∷ 4294967295 ∷ 4294967295 ∷ 0 ∷ 0 ∷ 1 ∷ 0 ∷ 0 ∷ 1 ∷ 1 ∷ 2 ∷ []

-- K2: N = 22, P = 44
abbrev adder : List ℕ
adder =
    1 ∷ 22 ∷ 16 ∷ 44 ∷ 148 ∷ 3 ∷ 0 ∷ 0 ∷ 1 ∷ 0 ∷ 0 ∷ 0 ∷ 0 ∷ 0 ∷ 0 ∷ 0 ∷ 0 ∷ 0 ∷ 0 ∷ 4294967295 ∷ 4294967295 ∷ 4294967295 ∷ 0 ∷ 0 ∷ 1 ∷ 4294967295 ∷
    4294967295 ∷ 4294967295 ∷ 0 ∷ 0 ∷ 2 ∷ 4294967295 ∷ 4294967295 ∷ 4294967295 ∷ 0 ∷ 0 ∷ 3 ∷ 4294967295 ∷ 4294967295 ∷ 4294967295 ∷ 0 ∷ 1 ∷ 0 ∷
    4294967295 ∷ 4294967295 ∷ 4294967295 ∷ 0 ∷ 1 ∷ 1 ∷ 4294967295 ∷ 4294967295 ∷ 4294967295 ∷ 0 ∷ 1 ∷ 2 ∷ 4294967295 ∷ 4294967295 ∷ 4294967295 ∷ 0 ∷
    1 ∷ 3 ∷ 4294967295 ∷ 4294967295 ∷ 4294967295 ∷ 1 ∷ 0 ∷ 4294967295 ∷ 4294967295 ∷ 4294967295 ∷ 4294967295 ∷ 10 ∷ 0 ∷ 0 ∷ 4294967295 ∷ 4294967295 ∷
    4294967295 ∷ 10 ∷ 0 ∷ 1 ∷ 4294967295 ∷ 4294967295 ∷ 4294967295 ∷ 10 ∷ 0 ∷ 2 ∷ 4294967295 ∷ 4294967295 ∷ 4294967295 ∷ 10 ∷ 0 ∷ 3 ∷ 4294967295 ∷
    4294967295 ∷ 4294967295 ∷ 10 ∷ 0 ∷ 4 ∷ 4294967295 ∷ 4294967295 ∷ 4294967295 ∷ 8 ∷ 2 ∷ 0 ∷ 9 ∷ 4294967295 ∷ 4294967295 ∷ 8 ∷ 2 ∷ 1 ∷ 10 ∷
    4294967295 ∷ 4294967295 ∷ 8 ∷ 2 ∷ 2 ∷ 11 ∷ 4294967295 ∷ 4294967295 ∷ 8 ∷ 2 ∷ 3 ∷ 12 ∷ 4294967295 ∷ 4294967295 ∷ 8 ∷ 2 ∷ 4 ∷ 13 ∷ 4294967295 ∷
    4294967295 ∷ 8 ∷ 2 ∷ 5 ∷ 8 ∷ 4294967295 ∷ 4294967295 ∷ 8 ∷ 2 ∷ 6 ∷ 8 ∷ 4294967295 ∷ 4294967295 ∷ 8 ∷ 2 ∷ 7 ∷ 8 ∷ 4294967295 ∷ 4294967295 ∷ 0 ∷
    0 ∷ 4 ∷ 0 ∷ 1 ∷ 2 ∷ 3 ∷ 0 ∷ 1 ∷ 4 ∷ 4 ∷ 5 ∷ 6 ∷ 7 ∷ 3 ∷ 0 ∷ 5 ∷ 4294967295 ∷ 0 ∷ 1 ∷ 2 ∷ 3 ∷ 8 ∷ 4 ∷ 5 ∷ 6 ∷ 7 ∷ 8 ∷ 9 ∷ 10 ∷ 11 ∷ 12 ∷ 13 ∷ 0 ∷
    2 ∷ 8 ∷ 14 ∷ 15 ∷ 16 ∷ 17 ∷ 18 ∷ 19 ∷ 20 ∷ 21 ∷ []

-- inputs clk, en, d[2]; register q of 2 bits, rising, enable en; output q: N = 9, one node unused, P = 44
abbrev pub register : List ℕ
register =
    1 ∷ 8 ∷ 16 ∷ 44 ∷ 70 ∷ 4 ∷ 2 ∷ 0 ∷ 0 ∷ 0 ∷ 0 ∷ 0 ∷ 0 ∷ 0 ∷ 0 ∷ 0 ∷ 0 ∷ 0 ∷ 0 ∷ 4294967295 ∷ 4294967295 ∷ 4294967295 ∷ 0 ∷ 1 ∷ 0 ∷ 4294967295 ∷
    4294967295 ∷ 4294967295 ∷ 0 ∷ 2 ∷ 0 ∷ 4294967295 ∷ 4294967295 ∷ 4294967295 ∷ 0 ∷ 2 ∷ 1 ∷ 4294967295 ∷ 4294967295 ∷ 4294967295 ∷ 7 ∷ 0 ∷ 0 ∷
    4294967295 ∷ 4294967295 ∷ 4294967295 ∷ 7 ∷ 0 ∷ 1 ∷ 4294967295 ∷ 4294967295 ∷ 4294967295 ∷ 8 ∷ 3 ∷ 0 ∷ 4 ∷ 4294967295 ∷ 4294967295 ∷ 8 ∷ 3 ∷ 1 ∷
    5 ∷ 4294967295 ∷ 4294967295 ∷ 0 ∷ 0 ∷ 0 ∷ 0 ∷ 0 ∷ 0 ∷ 0 ∷ 0 ∷ 1 ∷ 0 ∷ 0 ∷ 1 ∷ 1 ∷ 1 ∷ 0 ∷ 2 ∷ 2 ∷ 2 ∷ 3 ∷ 1 ∷ 0 ∷ 0 ∷ 4 ∷ 2 ∷ 0 ∷ 0 ∷ 1 ∷ 0 ∷
    4294967295 ∷ 0 ∷ 0 ∷ 0 ∷ 1 ∷ 0 ∷ 1 ∷ 5 ∷ 3 ∷ 0 ∷ 0 ∷ 1 ∷ 0 ∷ 4294967295 ∷ 0 ∷ 0 ∷ 0 ∷ 0 ∷ 3 ∷ 2 ∷ 6 ∷ 7 ∷ []

-- inputs a[2], b[2]; outputs lt = a < b unsigned, nlt its inverse: N = 8, P = 26
abbrev compare : List ℕ
compare =
    1 ∷ 8 ∷ 16 ∷ 26 ∷ 64 ∷ 4 ∷ 0 ∷ 0 ∷ 0 ∷ 1 ∷ 0 ∷ 0 ∷ 0 ∷ 0 ∷ 0 ∷ 0 ∷ 0 ∷ 0 ∷ 0 ∷ 4294967295 ∷ 4294967295 ∷ 4294967295 ∷ 0 ∷ 0 ∷ 1 ∷ 4294967295 ∷
    4294967295 ∷ 4294967295 ∷ 0 ∷ 1 ∷ 0 ∷ 4294967295 ∷ 4294967295 ∷ 4294967295 ∷ 0 ∷ 1 ∷ 1 ∷ 4294967295 ∷ 4294967295 ∷ 4294967295 ∷ 11 ∷ 0 ∷ 0 ∷
    4294967295 ∷ 4294967295 ∷ 4294967295 ∷ 8 ∷ 2 ∷ 0 ∷ 4 ∷ 4294967295 ∷ 4294967295 ∷ 5 ∷ 4294967295 ∷ 4294967295 ∷ 4 ∷ 4294967295 ∷ 4294967295 ∷ 8 ∷
    3 ∷ 0 ∷ 6 ∷ 4294967295 ∷ 4294967295 ∷ 0 ∷ 0 ∷ 2 ∷ 0 ∷ 1 ∷ 0 ∷ 1 ∷ 2 ∷ 2 ∷ 3 ∷ 4 ∷ 0 ∷ 2 ∷ 0 ∷ 1 ∷ 2 ∷ 3 ∷ 4 ∷ 0 ∷ 2 ∷ 1 ∷ 5 ∷ 0 ∷ 3 ∷ 1 ∷ 7 ∷ []

-- ---- answers ----

abbrev at : ℕ → Answer
at i = Refused 11 i 0

computing : ℕ
unfolding ◌<?◌ ◌≡?◌ ◌≢?◌ ◌or◌ ◌and◌ pick outside up_to first any only and_then control_of optional node_word port_lists port_length record_length split records_of memory_port_of memory_of wrong_header belongs most_owner most_bit input_count wrong_owner same_node wrong_bit wrong_input wrong_node_word ports_length extent member second_data own_nets taken count_of wrong_level not_above first_wrong no_net no_optional not_own_of wrong_port wrong_register wrong_memory_port wrong_memory wrong_arithmetic wrong_comparison wrong_word judged header_answer length_answer nodes_answer list_answer alone alone_answer wrong_count counts_answer body_answer accepts
computing = 0

-- an image and its answer
abbrev Cases : Type 0
Cases = List (List ℕ × Answer)

abbrev images : Cases → List (List ℕ)
images = map (λ (c : List ℕ × Answer). c.0)

abbrev answers : Cases → List Answer
answers = map (λ (c : List ℕ × Answer). c.1)

abbrev inverter_cases : Cases
inverter_cases =
    -- as it was written
    (inverter, Fine)
    -- words behind the list words used are not read
    ∷ (inverter ++ (7 ∷ 8 ∷ []), Fine)
    -- edition 2
    ∷ (set inverter 0 2, at 0)
    -- four nets where N is 3: word 4, the later
    ∷ (set inverter 1 4, at 4)
    -- two nets: the third node's words are unused, and not 0
    ∷ (set inverter 1 2, at 28)
    -- a list offset that is no 16 + 6N
    ∷ (set inverter 4 35, at 4)
    -- one for N = 4: the slice ends too early, at its length
    ∷ (set inverter 4 40, at 42)
    -- a header word that must be 0
    ∷ (set inverter 10 1, at 10)
    -- three ports counted where there are two: judged last
    ∷ (set inverter 5 3, at 5)
    -- no such kind of node
    ∷ (set inverter 16 12, at 16)
    -- a signal past the last
    ∷ (set inverter 17 512, at 17)
    -- an input of bit 1, which its port lists as bit 0: the net's word in the record
    ∷ (set inverter 18 1, at 37)
    -- a gate that reads itself
    ∷ (set inverter 25 1, at 25)
    -- the output node as an input node: it reads a net
    ∷ (set inverter 28 0, at 31)
    -- the output node of another signal than its port's
    ∷ (set inverter 29 0, at 41)
    -- no such sort of record
    ∷ (set inverter 34 5, at 34)
    -- a port of two bits, which takes a word of the next record as its second net
    ∷ (set inverter 36 2, at 38)
    -- a port of nine bits does not fit: its first word
    ∷ (set inverter 36 9, at 34)
    -- four list words: the output node is left without a record, its kind word
    ∷ (set inverter 3 4, at 28)
    -- an output port that lists an input node
    ∷ (set inverter 41 0, at 41)
    -- a net listed twice: the second time
    ∷ (set (set inverter 39 0) 41 0, at 41)
    -- a node with an earlier one's kind, owner and bit: its bit
    ∷ (set (set (set (set inverter 22 0) 23 0) 24 0) 25 absent, at 24)
    -- a slice that ends before its last list word: its length
    ∷ (take 41 inverter, at 41)
    -- one that ends in the header
    ∷ (take 10 inverter, at 10)
    -- the header words that are there come first
    ∷ (take 3 (set inverter 1 70000), at 1)
    ∷ []

pub inverter_judged : map accepts (images inverter_cases) ≡ answers inverter_cases
unfolding computing
inverter_judged = refl

abbrev register_cases : Cases
register_cases =
    -- as it was written
    (register, Fine)
    -- an unused node's first word
    ∷ (set register 64 1, at 64)
    -- and its last
    ∷ (set register 69 5, at 69)
    -- no enable, of level 0
    ∷ (set register 90 absent, Fine)
    -- no enable, of level 1
    ∷ (set (set register 90 absent) 91 1, at 91)
    -- a reset by net 0
    ∷ (set register 92 0, Fine)
    -- a reset value and no reset
    ∷ (set register 95 1, at 95)
    -- the output of another bit
    ∷ (set register 86 5, at 86)
    -- bit 0 twice: the output's word, which is bit 1's
    ∷ (set register 98 0, at 99)
    -- one register bit counted where there are two
    ∷ (set register 6 1, at 6)
    ∷ []

pub register_judged : map accepts (images register_cases) ≡ answers register_cases
unfolding computing
register_judged = refl

abbrev memory_cases : Cases
memory_cases =
    -- as it was written
    (memory, Fine)
    -- no word deep
    ∷ (set memory 125 0, at 125)
    -- latency 2
    ∷ (set memory 127 2, at 127)
    -- three ports, whose third would be as long as the next words say: the record does not fit, its first word
    ∷ (set memory 128 3, at 123)
    -- three ports that fit, the third of no nets: the port count
    ∷ (set (set (set (set memory 128 3) 162 0) 163 0) 164 0, at 128)
    -- no port: six words, which fit: the port count
    ∷ (set memory 128 0, at 128)
    -- and six are the last list words used
    ∷ (set (set memory 128 0) 3 23, at 128)
    -- one port: the second's words are read as a record of sort 1, its output no register's
    ∷ (set memory 128 1, at 148)
    -- two read widths
    ∷ (set memory 146 3, at 146)
    -- a write width that is not the read width
    ∷ (set memory 132 1, at 132)
    -- an address of 33 bits, with which the record does not fit: its first word
    ∷ (set memory 129 33, at 123)
    -- read data that is another bit's
    ∷ (set memory 151 7, at 151)
    -- and the first port's
    ∷ (set memory 134 6, at 134)
    ∷ []

pub memory_judged : map accepts (images memory_cases) ≡ answers memory_cases
unfolding computing
memory_judged = refl

abbrev adder_cases : Cases
adder_cases =
    -- as it was written
    (adder, Fine)
    -- an operand that is the output: the output's word, the later
    ∷ (set adder 170 9, at 176)
    -- a carry above the outputs
    ∷ (set adder 165 20, at 176)
    -- a carry
    ∷ (set adder 165 0, Fine)
    -- an output of cell 1, where this is cell 0
    ∷ (set adder 71 1, at 176)
    -- no bit wide
    ∷ (set adder 164 0, at 164)
    ∷ []

pub adder_judged : map accepts (images adder_cases) ≡ answers adder_cases
unfolding computing
adder_judged = refl

abbrev compare_cases : Cases
compare_cases =
    -- as it was written
    (compare, Fine)
    ∷ []

pub compare_judged : map accepts (images compare_cases) ≡ answers compare_cases
unfolding computing
compare_judged = refl
