-- Q-6 by example: when a step has no defined end, and that module and netlist of one image meet it in the same step.
use Rattle.std.specs.Prelude.{ℕ, zero, ◌≡◌, refl, Bool, true, false, List, [], ◌∷◌, map, length, get_or, set}
use Rattle.std.proofs.Math.Option.{none, some}
use Rattle.spec_tests.specs.Rules.{◌<?◌, ◌≡?◌, ◌≢?◌, ◌or◌, ◌and◌, pick, outside, up_to, first, any, sum_to, each, list_of, only, same_text, and_then}
use Rattle.spec_rules.specs.Image.{word_at, size_of, most_of, count_at_of, offset_at, bytes_of, start_of, part, field, list_word, name_of, signal_width, expr_width, direction, unary_of, binary_of, constant_words, constant_of, kind_of, control_of, optional, signal_at, expr_at, assign_at, register_of, register_at, port_of, memory_at, decode}
use Rattle.spec_rules.specs.NetlistImage.{node_word, node_of, node_at_of, port_lists, port_length, record_length, split, records_of, records_with, register_bit_of, memory_port_of, memory_of, arithmetic_of, comparison_of, out_port_of, not_output, is_output_port, netlist}
use Rattle.spec_rules.specs.Step.{Setting, Contents, Access, Accesses, Reads, clashes, clashing, no_end, run, of_module, of_netlist}

-- all that is computed
unfoldable pub computing : ℕ
unfolding no_end clashing ◌<?◌ ◌≡?◌ ◌≢?◌ ◌or◌ ◌and◌ pick outside up_to first any sum_to each list_of only same_text and_then word_at size_of most_of count_at_of offset_at bytes_of start_of part field list_word name_of signal_width expr_width direction unary_of binary_of constant_words constant_of kind_of control_of optional signal_at expr_at assign_at register_of register_at port_of memory_at decode node_word node_of node_at_of port_lists port_length record_length split records_of records_with register_bit_of memory_port_of memory_of arithmetic_of comparison_of out_port_of not_output is_output_port netlist
computing = zero

-- ---- two ports ----

-- a port by its clock's edge, its write enable and the address; each writes the same word
access : Bool → Bool → ℕ → Access
access ticks writes at = record { ticks = ticks; reads = false; read_at_of = 0; writes = writes; write_at = at; written = λ i. true }

pub two : ℕ → Access → Access → Accesses
two depth a b = record { depth = depth; first = a; second = some b }

writes_3 : Access
writes_3 = access true true 3

-- "one address below the depth .., also if both words are equal"; another address; past the depth; the first or second port's clock or enable
both_ports : map clashes (two 4 writes_3 writes_3 ∷ two 4 writes_3 (access true true 2) ∷ two 3 writes_3 writes_3 ∷ two 4 (access false true 3) writes_3 ∷ two 4 writes_3 (access false true 3)
    ∷ two 4 (access true false 3) writes_3 ∷ two 4 writes_3 (access true false 3) ∷ record { depth = 4; first = writes_3; second = none } ∷ [])
    ≡ true ∷ false ∷ false ∷ false ∷ false ∷ false ∷ false ∷ false ∷ []
unfolding access two writes_3
both_ports = refl

-- memories 2 and 5 clash, memory 0 does not
some_clash : Reads
some_clash = record { register = λ k i. none; memory = λ k. get_or (some (two 3 writes_3 writes_3) ∷ none ∷ some (two 4 writes_3 writes_3) ∷ none ∷ none ∷ some (two 9 writes_3 writes_3) ∷ []) k none }

lowest : clashing some_clash ≡ 2
unfolding some_clash two writes_3 access computing
lowest = refl

no_memory : clashing (record { register = λ k i. none; memory = λ k. none }) ≡ 16
unfolding computing
no_memory = refl

-- ---- an image ----

-- inputs clk, wa, wb, x[2]; a memory of 2 words of 2 bits with two ports: the first writes x at x[0] if wa, the second ~x at x[1] if wb
abbrev pub image : List ℕ
image =
    2 ∷ 0 ∷ 0 ∷ 0 ∷ 103 ∷ 1 ∷ 0 ∷ 0 ∷ 6 ∷ 0 ∷ 0 ∷ 0 ∷ 64 ∷ 0 ∷ 0 ∷ 0 ∷ 4 ∷ 0 ∷ 0 ∷ 0 ∷ 160 ∷ 0 ∷ 0 ∷ 0 ∷ 0 ∷ 0 ∷ 0 ∷ 0 ∷ 240 ∷ 0 ∷ 0 ∷ 0 ∷ 0 ∷ 0 ∷ 0 ∷
    0 ∷ 240 ∷ 0 ∷ 0 ∷ 0 ∷ 0 ∷ 0 ∷ 0 ∷ 0 ∷ 240 ∷ 0 ∷ 0 ∷ 0 ∷ 1 ∷ 0 ∷ 0 ∷ 0 ∷ 240 ∷ 0 ∷ 0 ∷ 0 ∷ 11 ∷ 0 ∷ 0 ∷ 0 ∷ 92 ∷ 1 ∷ 0 ∷ 0 ∷ 0 ∷ 0 ∷ 0 ∷ 0 ∷ 3 ∷
    0 ∷ 0 ∷ 0 ∷ 1 ∷ 0 ∷ 0 ∷ 0 ∷ 1 ∷ 0 ∷ 0 ∷ 0 ∷ 3 ∷ 0 ∷ 0 ∷ 0 ∷ 2 ∷ 0 ∷ 0 ∷ 0 ∷ 1 ∷ 0 ∷ 0 ∷ 0 ∷ 1 ∷ 0 ∷ 0 ∷ 0 ∷ 5 ∷ 0 ∷ 0 ∷ 0 ∷ 2 ∷ 0 ∷ 0 ∷ 0 ∷ 1 ∷
    0 ∷ 0 ∷ 0 ∷ 1 ∷ 0 ∷ 0 ∷ 0 ∷ 7 ∷ 0 ∷ 0 ∷ 0 ∷ 1 ∷ 0 ∷ 0 ∷ 0 ∷ 2 ∷ 0 ∷ 0 ∷ 0 ∷ 1 ∷ 0 ∷ 0 ∷ 0 ∷ 8 ∷ 0 ∷ 0 ∷ 0 ∷ 1 ∷ 0 ∷ 0 ∷ 0 ∷ 2 ∷ 0 ∷ 0 ∷ 0 ∷ 2 ∷
    0 ∷ 0 ∷ 0 ∷ 9 ∷ 0 ∷ 0 ∷ 0 ∷ 1 ∷ 0 ∷ 0 ∷ 0 ∷ 2 ∷ 0 ∷ 0 ∷ 0 ∷ 2 ∷ 0 ∷ 0 ∷ 0 ∷ 0 ∷ 0 ∷ 0 ∷ 0 ∷ 1 ∷ 0 ∷ 0 ∷ 0 ∷ 3 ∷ 0 ∷ 0 ∷ 0 ∷ 0 ∷ 0 ∷ 0 ∷ 0 ∷ 0 ∷
    0 ∷ 0 ∷ 0 ∷ 0 ∷ 0 ∷ 0 ∷ 0 ∷ 1 ∷ 0 ∷ 0 ∷ 0 ∷ 3 ∷ 0 ∷ 0 ∷ 0 ∷ 1 ∷ 0 ∷ 0 ∷ 0 ∷ 0 ∷ 0 ∷ 0 ∷ 0 ∷ 0 ∷ 0 ∷ 0 ∷ 0 ∷ 2 ∷ 0 ∷ 0 ∷ 0 ∷ 3 ∷ 0 ∷ 0 ∷ 0 ∷ 0 ∷
    0 ∷ 0 ∷ 0 ∷ 0 ∷ 0 ∷ 0 ∷ 0 ∷ 2 ∷ 0 ∷ 0 ∷ 0 ∷ 2 ∷ 0 ∷ 0 ∷ 0 ∷ 0 ∷ 0 ∷ 0 ∷ 0 ∷ 2 ∷ 0 ∷ 0 ∷ 0 ∷ 0 ∷ 0 ∷ 0 ∷ 0 ∷ 10 ∷ 0 ∷ 0 ∷ 0 ∷ 1 ∷ 0 ∷ 0 ∷ 0 ∷ 2 ∷
    0 ∷ 0 ∷ 0 ∷ 2 ∷ 0 ∷ 0 ∷ 0 ∷ 0 ∷ 0 ∷ 0 ∷ 0 ∷ 1 ∷ 0 ∷ 0 ∷ 0 ∷ 0 ∷ 0 ∷ 0 ∷ 0 ∷ 4 ∷ 0 ∷ 0 ∷ 0 ∷ 255 ∷ 255 ∷ 255 ∷ 255 ∷ 0 ∷ 0 ∷ 0 ∷ 0 ∷ 0 ∷ 0 ∷ 0 ∷
    0 ∷ 2 ∷ 0 ∷ 0 ∷ 0 ∷ 1 ∷ 0 ∷ 0 ∷ 0 ∷ 0 ∷ 0 ∷ 0 ∷ 0 ∷ 0 ∷ 0 ∷ 0 ∷ 0 ∷ 0 ∷ 0 ∷ 0 ∷ 0 ∷ 1 ∷ 0 ∷ 0 ∷ 0 ∷ 1 ∷ 0 ∷ 0 ∷ 0 ∷ 5 ∷ 0 ∷ 0 ∷ 0 ∷ 255 ∷ 255 ∷
    255 ∷ 255 ∷ 0 ∷ 0 ∷ 0 ∷ 0 ∷ 1 ∷ 0 ∷ 0 ∷ 0 ∷ 3 ∷ 0 ∷ 0 ∷ 0 ∷ 2 ∷ 0 ∷ 0 ∷ 0 ∷ 0 ∷ 0 ∷ 0 ∷ 0 ∷ 0 ∷ 0 ∷ 0 ∷ 0 ∷ 0 ∷ 0 ∷ 0 ∷ 0 ∷ 99 ∷ 108 ∷ 107 ∷ 119 ∷
    97 ∷ 119 ∷ 98 ∷ 120 ∷ 113 ∷ 112 ∷ 109 ∷ []

-- its netlist as words that the Rust's lowering writes; outputs q, p: N = 15, P = 65
abbrev pub memory : List ℕ
memory =
    1 ∷ 15 ∷ 16 ∷ 65 ∷ 106 ∷ 6 ∷ 0 ∷ 1 ∷ 0 ∷ 0 ∷ 0 ∷ 0 ∷ 0 ∷ 0 ∷ 0 ∷ 0 ∷ 0 ∷ 0 ∷ 0 ∷ 4294967295 ∷ 4294967295 ∷ 4294967295 ∷ 0 ∷ 1 ∷ 0 ∷ 4294967295 ∷
    4294967295 ∷ 4294967295 ∷ 0 ∷ 2 ∷ 0 ∷ 4294967295 ∷ 4294967295 ∷ 4294967295 ∷ 0 ∷ 3 ∷ 0 ∷ 4294967295 ∷ 4294967295 ∷ 4294967295 ∷ 0 ∷ 3 ∷ 1 ∷
    4294967295 ∷ 4294967295 ∷ 4294967295 ∷ 9 ∷ 0 ∷ 0 ∷ 4294967295 ∷ 4294967295 ∷ 4294967295 ∷ 9 ∷ 0 ∷ 1 ∷ 4294967295 ∷ 4294967295 ∷ 4294967295 ∷ 9 ∷
    0 ∷ 2 ∷ 4294967295 ∷ 4294967295 ∷ 4294967295 ∷ 9 ∷ 0 ∷ 3 ∷ 4294967295 ∷ 4294967295 ∷ 4294967295 ∷ 5 ∷ 4294967295 ∷ 4294967295 ∷ 3 ∷ 4294967295 ∷
    4294967295 ∷ 5 ∷ 4294967295 ∷ 4294967295 ∷ 4 ∷ 4294967295 ∷ 4294967295 ∷ 8 ∷ 4 ∷ 0 ∷ 5 ∷ 4294967295 ∷ 4294967295 ∷ 8 ∷ 4 ∷ 1 ∷ 6 ∷ 4294967295 ∷
    4294967295 ∷ 8 ∷ 5 ∷ 0 ∷ 7 ∷ 4294967295 ∷ 4294967295 ∷ 8 ∷ 5 ∷ 1 ∷ 8 ∷ 4294967295 ∷ 4294967295 ∷ 0 ∷ 0 ∷ 1 ∷ 0 ∷ 0 ∷ 1 ∷ 1 ∷ 1 ∷ 0 ∷ 2 ∷ 1 ∷ 2 ∷
    0 ∷ 3 ∷ 2 ∷ 3 ∷ 4 ∷ 2 ∷ 0 ∷ 2 ∷ 0 ∷ 1 ∷ 2 ∷ 1 ∷ 2 ∷ 1 ∷ 2 ∷ 3 ∷ 5 ∷ 6 ∷ 3 ∷ 3 ∷ 4 ∷ 4294967295 ∷ 0 ∷ 1 ∷ 0 ∷ 0 ∷ 0 ∷ 1 ∷ 2 ∷ 1 ∷ 2 ∷ 4 ∷ 7 ∷ 8 ∷
    4 ∷ 9 ∷ 10 ∷ 4294967295 ∷ 0 ∷ 2 ∷ 0 ∷ 0 ∷ 0 ∷ 0 ∷ 4 ∷ 2 ∷ 11 ∷ 12 ∷ 0 ∷ 5 ∷ 2 ∷ 13 ∷ 14 ∷ []

-- clk, wa, wb, x
abbrev given : Bool → Bool → Bool → Bool → Bool → Setting
given clk wa wb x₀ x₁ p i = get_or (get_or ((clk ∷ []) ∷ (wa ∷ []) ∷ (wb ∷ []) ∷ (x₀ ∷ x₁ ∷ []) ∷ []) p []) i false

-- a start and four steps: a rising edge without a write, a falling one, a rising one with these inputs before it, a falling one
abbrev pub settings : Bool → Bool → List Setting
settings wb x₁ = given false false false true true ∷ given true false false true true ∷ given false true wb true x₁ ∷ given true true wb true x₁ ∷ given false true wb true x₁ ∷ []

unfoldable pub zeros : Contents
zeros = record { reg = λ k i. false; dat = λ k second i. false; mem = λ k at i. false }

abbrev pub lengths : List ℕ → List Setting → List ℕ
lengths words ts = length (run (of_module (decode image) (λ p i. false)) zeros ts) ∷ length (run (of_netlist (netlist words)) zeros ts) ∷ []

-- a netlist that runs on, the second port's write address being ~x[0]: it shows the same where the module does, and fails demand 3
abbrev pub other : List ℕ
other = set memory 152 9
