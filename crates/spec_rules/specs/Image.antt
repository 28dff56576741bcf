-- The module image of docs/FORMATS.md: its fields, header, sections and records, and the module that it stands for.
-- Readers are total: a byte past the end is 0. Assumes nothing.
use Rattle.std.specs.Prelude.{ℕ, ◌+◌, ◌*◌, ◌^◌, ◌/◌, ◌%◌, List, [], ◌∷◌, take, drop, get_or}
use Rattle.std.proofs.Math.Option.{Option, none, some}
use Rattle.spec_rtl.specs.Rtl as R
use Rattle.spec_rtl.specs.Rtl.{Module}
use Rattle.spec_tests.specs.Rules.{◌≡?◌, pick, sum_to, list_of}

-- "Absent is 4,294,967,295"
abbrev pub absent : ℕ
absent = 4294967295

-- "every field is 32 bits, little-endian, unsigned": the field at a byte
unfoldable pub word_at : List ℕ → ℕ → ℕ
word_at s at = get_or s at 0 + get_or s (at + 1) 0 * 256 + get_or s (at + 2) 0 * 65536 + get_or s (at + 3) 0 * 16777216

-- sections: 0 signals, 1 expressions, 2 list, 3 assignments, 4 registers, 5 memories, 6 names; bytes of a record, most records
unfoldable pub size_of : ℕ → ℕ
size_of k = get_or (16 ∷ 20 ∷ 4 ∷ 16 ∷ 48 ∷ 108 ∷ 1 ∷ []) k 0

unfoldable pub most_of : ℕ → ℕ
most_of k = get_or (512 ∷ 2048 ∷ 8192 ∷ 1024 ∷ 256 ∷ 16 ∷ 16384 ∷ []) k 0

-- "16 header fields: edition, total bytes, then count and byte offset of seven sections"
unfoldable pub count_at_of : List ℕ → ℕ → ℕ
count_at_of s k = word_at s (8 + 8 * k)

unfoldable pub offset_at : List ℕ → ℕ → ℕ
offset_at s k = word_at s (12 + 8 * k)

unfoldable pub bytes_of : List ℕ → ℕ → ℕ
bytes_of s k = count_at_of s k * size_of k

-- "Sections follow the header in this order, without gaps": where section k starts; of 7, where the last ends
unfoldable pub start_of : List ℕ → ℕ → ℕ
start_of s k = 64 + sum_to (bytes_of s) k

-- the part of the image that begins at section k's offset, and field f of record r there
unfoldable pub part : List ℕ → ℕ → List ℕ
part s k = drop (offset_at s k) s

unfoldable pub field : List ℕ → ℕ → ℕ → ℕ → ℕ
field s k r f = word_at (part s k) (r * size_of k + f * 4)

unfoldable pub list_word : List ℕ → ℕ → ℕ
list_word s i = field s 2 i 0

-- the name of record r of section k (signals, registers, memories: fields 0 and 1), a stretch of the image
unfoldable pub name_of : List ℕ → ℕ → ℕ → List ℕ
name_of s k r = take (field s k r 1) (drop (field s k r 0) (part s 6))

unfoldable pub signal_width : List ℕ → ℕ → ℕ
signal_width s r = field s 0 r 2

unfoldable pub expr_width : List ℕ → ℕ → ℕ
expr_width s r = field s 1 r 1

-- a memory's 27 fields: name, depth, then these; ten fields make a port
abbrev pub width_field : ℕ
width_field = 3

abbrev pub style_field : ℕ
style_field = 4

abbrev pub latency_field : ℕ
latency_field = 5

abbrev pub first_port : ℕ
first_port = 6

abbrev pub has_second : ℕ
has_second = 16

abbrev pub second_port : ℕ
second_port = 17

-- ---- the module ----

unfoldable pub direction : ℕ → R.Dir
direction n = pick (n ≡? 1) R.Input (pick (n ≡? 2) R.Output R.Internal)

unfoldable pub unary_of : ℕ → R.Unary
unary_of n = get_or (R.BitNot ∷ R.LogicNot ∷ R.ReduceOr ∷ R.ReduceAnd ∷ R.ReduceXor ∷ []) n R.BitNot

unfoldable pub binary_of : ℕ → R.Binary
binary_of n = get_or (R.And ∷ R.Or ∷ R.Xor ∷ R.Add ∷ R.Sub ∷ R.Mul ∷ R.Equal ∷ R.NotEqual ∷ R.LessU ∷ R.LessS ∷ R.LessEqU ∷ R.LessEqS
    ∷ R.GreaterU ∷ R.GreaterS ∷ R.GreaterEqU ∷ R.GreaterEqS ∷ R.ShiftL ∷ R.ShiftR ∷ R.ShiftA ∷ []) n R.And

-- "Constant: list start, 2 × ceil(width / 64) words, low first; bits above the width are ignored"
unfoldable pub constant_words : ℕ → ℕ
constant_words w = 2 * ((w + 63) / 64)

unfoldable pub constant_of : List ℕ → ℕ → ℕ → ℕ
constant_of s w start = sum_to (λ i. list_word s (start + i) * 2 ^ (32 * i)) (constant_words w) % 2 ^ w

-- kind, width, operands a, b, c
unfoldable pub kind_of : List ℕ → ℕ → ℕ → ℕ → ℕ → ℕ → R.Kind
kind_of s k w a b c =
    pick (k ≡? 0) (R.Signal a b)
    (pick (k ≡? 1) (R.Constant (constant_of s w a))
    (pick (k ≡? 2) (R.Un (unary_of a) b)
    (pick (k ≡? 3) (R.Bin (binary_of a) b c)
    (pick (k ≡? 4) (R.Mux a b c)
    (pick (k ≡? 5) (R.Concat (list_of b (λ i. list_word s (a + i))))
    (R.Slice a b))))))

-- a control's signal and its polarity (0 high); what may be absent
unfoldable pub control_of : ℕ → ℕ → R.Control
control_of p polarity = record { signal = p; level = polarity ≡? 0 }

unfoldable pub optional : {A : Type 0} → ℕ → A → Option A
optional n a = pick (n ≡? absent) none (some a)

unfoldable pub signal_at : List ℕ → ℕ → R.Sig
signal_at s r = record { width = signal_width s r; dir = direction (field s 0 r 3) }

unfoldable pub expr_at : List ℕ → ℕ → R.Expr
expr_at s r = record { width = expr_width s r; kind = kind_of s (field s 1 r 0) (expr_width s r) (field s 1 r 2) (field s 1 r 3) (field s 1 r 4) }

unfoldable pub assign_at : List ℕ → ℕ → R.Assign
assign_at s r = record { signal = field s 3 r 0; lsb = field s 3 r 1; width = field s 3 r 2; value = field s 3 r 3 }

-- target, next, clock, edge, enable and polarity, reset, polarity, mode, value: these ten fields, from a reader of them
unfoldable pub register_of : (ℕ → ℕ) → R.Register
register_of f = record {
  target = f 0;
  next = f 1;
  clock = f 2;
  rising = f 3 ≡? 0;
  enable = optional (f 4) (control_of (f 4) (f 5));
  reset = optional (f 6) (record { control = control_of (f 6) (f 7); asynchronous = f 8 ≡? 1; value = f 9 });
}

unfoldable pub register_at : List ℕ → ℕ → R.Register
register_at s r = register_of (λ i. field s 4 r (2 + i))

-- a port's ten fields
unfoldable pub port_of : (ℕ → ℕ) → R.Port
port_of f = record {
  read_address = f 0;
  read_data = f 1;
  read_enable = optional (f 2) (control_of (f 2) (f 3));
  write_address = f 4;
  write_data = f 5;
  write_enable = control_of (f 6) (f 7);
  clock = f 8;
  rising = f 9 ≡? 0;
}

unfoldable pub memory_at : List ℕ → ℕ → R.Memory
memory_at s r = record {
  depth = field s 5 r 2;
  style = field s 5 r style_field;
  first = port_of (λ i. field s 5 r (first_port + i));
  second = pick (field s 5 r has_second ≡? 0) none (some (port_of (λ i. field s 5 r (second_port + i))));
}

unfoldable pub decode : List ℕ → Module
decode s = record {
  signals = list_of (count_at_of s 0) (signal_at s);
  exprs = list_of (count_at_of s 1) (expr_at s);
  assigns = list_of (count_at_of s 3) (assign_at s);
  registers = list_of (count_at_of s 4) (register_at s);
  memories = list_of (count_at_of s 5) (memory_at s);
}
