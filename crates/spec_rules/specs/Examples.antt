-- Demand 3 is no empty claim. The smallest image, y = ~a: its checks, listing, module; demand 3 holds for its netlist words and
-- fails for words in which the output reads a where it should read ~a. A register: a netlist right at the start only fails it.
use Rattle.std.specs.Prelude.{ℕ, zero, suc, ◌≡◌, refl, Bool, true, false, List, [], ◌∷◌}
use Rattle.std.proofs.Common.{arith}
use Rattle.std.proofs.Math.Option.{Option, none, some}
use Rattle.spec_rtl.specs.Rtl as R
use Rattle.spec_tests.specs.Rules.{Fine, Refused, ◌<?◌, ◌≡?◌, ◌≢?◌, ◌or◌, ◌and◌, pick, outside, up_to, first, any, sum_to, each, list_of, only, same_text, and_then}
use Rattle.spec_rules.specs.Image.{word_at, size_of, most_of, count_at_of, offset_at, bytes_of, start_of, part, field, list_word, name_of, signal_width, expr_width, direction, unary_of, binary_of, constant_words, constant_of, kind_of, control_of, optional, signal_at, expr_at, assign_at, register_of, register_at, port_of, memory_at, decode}
use Rattle.spec_rules.specs.Checks.{wrong_count, wrong_field, first_field, header, bad_name, name_taken, no_signal, no_expr, bad_bit, bad_control, not_zero, bad_optional, is_input, assigned, targeted, read_into, driven, bad_signal, bad_unary, bad_binary, late, bad_concat, bad_kind, bad_expr, bad_assign, bad_value, bad_reset, bad_register, bad_address, bad_port, bad_second, bad_memory, section, records, netlist_need, signal_bits, expr_bits, scratch_need, refuse, checked}
use Rattle.spec_rules.specs.NetlistImage as N
use Rattle.spec_rules.specs.NetlistImage.{node_word, node_of, node_at_of, port_lists, port_length, record_length, split, records_of, records_with, register_bit_of, memory_port_of, memory_of, arithmetic_of, comparison_of, out_port_of, not_output, is_output_port, netlist}
use Rattle.spec_rules.specs.Step.{Setting, Contents, Machine, Seen, act, onward, run}
use Rattle.spec_rules.specs.Listing.{text, digits, decimal, line, together, kind_word, bit_name, signal_name, register_name, memory_name, owned, inputs, net_line, record_line, listing}

abbrev pub image : List ℕ
image =
    2 ∷ 0 ∷ 0 ∷ 0 ∷ 154 ∷ 0 ∷ 0 ∷ 0 ∷ 2 ∷ 0 ∷ 0 ∷ 0 ∷ 64 ∷ 0 ∷ 0 ∷ 0 ∷ 2 ∷ 0 ∷ 0 ∷ 0 ∷ 96 ∷ 0 ∷ 0 ∷ 0 ∷ 0 ∷ 0 ∷ 0 ∷ 0 ∷ 136 ∷ 0 ∷ 0 ∷ 0 ∷ 1 ∷ 0 ∷ 0 ∷ 0 ∷ 136 ∷ 0 ∷ 0 ∷ 0
    ∷ 0 ∷ 0 ∷ 0 ∷ 0 ∷ 152 ∷ 0 ∷ 0 ∷ 0 ∷ 0 ∷ 0 ∷ 0 ∷ 0 ∷ 152 ∷ 0 ∷ 0 ∷ 0 ∷ 2 ∷ 0 ∷ 0 ∷ 0 ∷ 152 ∷ 0 ∷ 0 ∷ 0 ∷ 0 ∷ 0 ∷ 0 ∷ 0 ∷ 1 ∷ 0 ∷ 0 ∷ 0 ∷ 1 ∷ 0 ∷ 0 ∷ 0 ∷ 1 ∷ 0 ∷ 0 ∷ 0
    ∷ 1 ∷ 0 ∷ 0 ∷ 0 ∷ 1 ∷ 0 ∷ 0 ∷ 0 ∷ 1 ∷ 0 ∷ 0 ∷ 0 ∷ 2 ∷ 0 ∷ 0 ∷ 0 ∷ 0 ∷ 0 ∷ 0 ∷ 0 ∷ 1 ∷ 0 ∷ 0 ∷ 0 ∷ 0 ∷ 0 ∷ 0 ∷ 0 ∷ 0 ∷ 0 ∷ 0 ∷ 0 ∷ 0 ∷ 0 ∷ 0 ∷ 0 ∷ 2 ∷ 0 ∷ 0 ∷ 0
    ∷ 1 ∷ 0 ∷ 0 ∷ 0 ∷ 0 ∷ 0 ∷ 0 ∷ 0 ∷ 0 ∷ 0 ∷ 0 ∷ 0 ∷ 0 ∷ 0 ∷ 0 ∷ 0 ∷ 1 ∷ 0 ∷ 0 ∷ 0 ∷ 0 ∷ 0 ∷ 0 ∷ 0 ∷ 1 ∷ 0 ∷ 0 ∷ 0 ∷ 1 ∷ 0 ∷ 0 ∷ 0 ∷ 97 ∷ 121 ∷ []

-- N = 3, P = 8
abbrev pub right : List ℕ
right =
    1 ∷ 3 ∷ 16 ∷ 8 ∷ 34 ∷ 2 ∷ 0 ∷ 0 ∷ 0 ∷ 0 ∷ 0 ∷ 0 ∷ 0 ∷ 0 ∷ 0 ∷ 0 ∷ 0 ∷ 0 ∷ 0 ∷ 4294967295 ∷ 4294967295 ∷ 4294967295 ∷ 5 ∷ 4294967295 ∷ 4294967295 ∷ 0 ∷ 4294967295 ∷ 4294967295 ∷ 8 ∷ 1 ∷ 0 ∷ 1 ∷ 4294967295 ∷ 4294967295 ∷ 0 ∷ 0 ∷ 1 ∷ 0 ∷ 0 ∷ 1
    ∷ 1 ∷ 2 ∷ []

-- the Not replaced by its input: node 2, the output, reads net 0
abbrev pub wrong : List ℕ
wrong =
    1 ∷ 3 ∷ 16 ∷ 8 ∷ 34 ∷ 2 ∷ 0 ∷ 0 ∷ 0 ∷ 0 ∷ 0 ∷ 0 ∷ 0 ∷ 0 ∷ 0 ∷ 0 ∷ 0 ∷ 0 ∷ 0 ∷ 4294967295 ∷ 4294967295 ∷ 4294967295 ∷ 5 ∷ 4294967295 ∷ 4294967295 ∷ 0 ∷ 4294967295 ∷ 4294967295 ∷ 8 ∷ 1 ∷ 0 ∷ 0 ∷ 4294967295 ∷ 4294967295 ∷ 0 ∷ 0 ∷ 1 ∷ 0 ∷ 0 ∷ 1
    ∷ 1 ∷ 2 ∷ []

passes : checked image 3 8 42 102 ≡ Fine
unfolding ◌<?◌ ◌≡?◌ ◌≢?◌ ◌or◌ ◌and◌ pick outside up_to first any sum_to each list_of only same_text and_then word_at size_of most_of count_at_of offset_at bytes_of start_of part field list_word name_of signal_width expr_width direction unary_of binary_of constant_words constant_of kind_of control_of optional signal_at expr_at assign_at register_of register_at port_of memory_at decode wrong_count wrong_field first_field header bad_name name_taken no_signal no_expr bad_bit bad_control not_zero bad_optional is_input assigned targeted read_into driven bad_signal bad_unary bad_binary late bad_concat bad_kind bad_expr bad_assign bad_value bad_reset bad_register bad_address bad_port bad_second bad_memory section records netlist_need signal_bits expr_bits scratch_need refuse checked
passes = refl

too_small : checked image 3 8 42 101 ≡ Refused 5 0 0
unfolding ◌<?◌ ◌≡?◌ ◌≢?◌ ◌or◌ ◌and◌ pick outside up_to first any sum_to each list_of only same_text and_then word_at size_of most_of count_at_of offset_at bytes_of start_of part field list_word name_of signal_width expr_width direction unary_of binary_of constant_words constant_of kind_of control_of optional signal_at expr_at assign_at register_of register_at port_of memory_at decode wrong_count wrong_field first_field header bad_name name_taken no_signal no_expr bad_bit bad_control not_zero bad_optional is_input assigned targeted read_into driven bad_signal bad_unary bad_binary late bad_concat bad_kind bad_expr bad_assign bad_value bad_reset bad_register bad_address bad_port bad_second bad_memory section records netlist_need signal_bits expr_bits scratch_need refuse checked
too_small = refl

-- the listing's example in docs/RULES.md
listed : listing image Fine right ≡ text "nets 3 list 8\n0 input a\n1 not 0\n2 output y 1\nport a 0\nport y 2\n"
unfolding ◌<?◌ ◌≡?◌ ◌or◌ pick each list_of word_at size_of offset_at part field name_of signal_width node_word port_lists port_length record_length split records_of digits decimal line together kind_word bit_name signal_name register_name memory_name owned inputs net_line record_line listing
listed = refl

unfoldable pub m : R.Module
m = record {
  signals = record { width = 1; dir = R.Input } ∷ record { width = 1; dir = R.Output } ∷ [];
  exprs = record { width = 1; kind = R.Signal 0 0 } ∷ record { width = 1; kind = R.Un R.BitNot 0 } ∷ [];
  assigns = record { signal = 1; lsb = 0; width = 1; value = 1 } ∷ [];
  registers = [];
  memories = [];
}

-- the netlist whose output reads net o
unfoldable pub n : ℕ → N.Netlist
n o = record {
  nodes = N.Input 0 0 ∷ N.Not 0 ∷ N.Output o ∷ [];
  outputs = record { signal = 1; nets = 2 ∷ [] } ∷ [];
  registers = [];
  memories = [];
  arithmetic = [];
  comparisons = [];
}

pub the_module : decode image ≡ m
unfolding m ◌≡?◌ pick sum_to each list_of word_at size_of most_of count_at_of offset_at bytes_of start_of part field list_word name_of signal_width expr_width direction unary_of binary_of constant_words constant_of kind_of control_of optional signal_at expr_at assign_at register_of register_at port_of memory_at decode
the_module = refl

pub the_netlist : netlist right ≡ n 1
unfolding n ◌<?◌ ◌≡?◌ ◌≢?◌ ◌or◌ ◌and◌ pick up_to first any each list_of only optional control_of register_of node_word node_of node_at_of port_lists port_length record_length split records_of records_with register_bit_of memory_port_of memory_of arithmetic_of comparison_of out_port_of not_output is_output_port netlist
the_netlist = refl

pub the_other : netlist wrong ≡ n 0
unfolding n ◌<?◌ ◌≡?◌ ◌≢?◌ ◌or◌ ◌and◌ pick up_to first any each list_of only optional control_of register_of node_word node_of node_at_of port_lists port_length record_length split records_of records_with register_bit_of memory_port_of memory_of arithmetic_of comparison_of out_port_of not_output is_output_port netlist
the_other = refl

-- machines that read and show the same at every point run alike
pub run_alike : (a b : Machine)
    → ((s : Setting) (c : Contents) → a.outputs s c ≡ b.outputs s c)
    → ((s : Setting) (c : Contents) (t : Setting) → a.reads s c t ≡ b.reads s c t)
    → (c : Contents) (settings : List Setting) → run a c settings ≡ run b c settings
run_alike a b o r c [] = refl
run_alike a b o r c (s ∷ ts) = go s c ts
  where
    go : (s : Setting) (c : Contents) (ts : List Setting) → onward a s c ts ≡ onward b s c ts
    go s c [] = rw (o s c)
    go s c (t ∷ ts) = rw (o s c, r s c t, go t (act (b.reads s c t) c) ts)

-- output bit 0 of signal p after setting k
unfoldable pub shown : ℕ → ℕ → List Seen → Option Bool
shown p k [] = none
shown p zero (x ∷ xs) = x.outputs p 0
shown p (suc k) (x ∷ xs) = shown p k xs

pub differ : some true ≡ some false → ⊥
differ e = let z : ◌≡◌ {A = ℕ} 0 1 = cc in absurd (omega arith)

unfoldable pub empty : Contents
empty = record { reg = λ k i. false; dat = λ k second i. false; mem = λ k at i. false }

-- ---- signals clock, d, q; at the clock's rising edge q takes d ----

unfoldable pub r : R.Register
r = record { target = 2; next = 0; clock = 0; rising = true; enable = none; reset = none }

unfoldable pub q : R.Module
q = record {
  signals = record { width = 1; dir = R.Input } ∷ record { width = 1; dir = R.Input } ∷ record { width = 1; dir = R.Output } ∷ [];
  exprs = record { width = 1; kind = R.Signal 1 0 } ∷ [];
  assigns = [];
  registers = r ∷ [];
  memories = [];
}

-- a register that takes its own output: it holds
unfoldable pub held : N.Netlist
held = record {
  nodes = N.Input 0 0 ∷ N.Input 1 0 ∷ N.RegisterOutput 0 0 ∷ N.Output 2 ∷ [];
  outputs = record { signal = 2; nets = 3 ∷ [] } ∷ [];
  registers = record { index = 0; bit = 0; register = record { target = 2; next = 2; clock = 0; rising = true; enable = none; reset = none } } ∷ [];
  memories = [];
  arithmetic = [];
  comparisons = [];
}
