-- Refusals 1 to 5 of docs/RULES.md. Each rule is a test that is true where the rule is broken. Assumes nothing.
use Rattle.std.specs.Prelude.{ℕ, ◌+◌, ◌*◌, ◌-◌, ◌/◌, ◌%◌, Bool, true, not, List, length, get_or}
use Rattle.spec_tests.specs.Rules.{◌<?◌, ◌≡?◌, ◌≢?◌, ◌or◌, ◌and◌, pick, outside, first, any, sum_to, same_text, Answer, Fine, Refused, and_then}
use Rattle.spec_rules.specs.Image.{absent, word_at, most_of, count_at_of, offset_at, start_of, field, list_word, name_of, signal_width, expr_width, constant_words, width_field, style_field, latency_field, first_port, has_second, second_port}

-- ---- 3: the header ----

-- "a count above its most"; "names that do not end at the total, 14"
unfoldable pub wrong_count : List ℕ → ℕ → Bool
wrong_count s k = most_of k <? count_at_of s k or (k ≡? 6 and start_of s 7 ≢? length s)

-- field 0 is the edition, 1 the total, then a count and an offset for each section
unfoldable pub wrong_field : List ℕ → ℕ → Bool
wrong_field s i =
    pick (i ≡? 0) (word_at s 0 ≢? 2)
    (pick (i ≡? 1) (word_at s 4 ≢? length s)
    (pick (i % 2 ≡? 0) (wrong_count s ((i - 2) / 2)) (offset_at s ((i - 2) / 2) ≢? start_of s ((i - 2) / 2))))

unfoldable pub first_field : List ℕ → ℕ
first_field s = pick (length s <? 64) 0 (first (wrong_field s) 16)

unfoldable pub header : List ℕ → Answer
header s = pick (first_field s <? 16) (Refused 3 (first_field s) 0) Fine

-- ---- 4: the rules that several sorts of record share ----

-- "Names: 1 to 64 bytes of 33 to 126"
unfoldable pub bad_name : List ℕ → ℕ → ℕ → Bool
bad_name s k r =
    outside (field s k r 1) 1 64
    or count_at_of s 6 <? field s k r 0 + field s k r 1
    or any (λ i. outside (get_or (name_of s k r) i 0) 33 126) (field s k r 1)

-- "none equal within signals, registers or memories"; against the later record
unfoldable pub name_taken : List ℕ → ℕ → ℕ → Bool
name_taken s k r = any (λ j. same_text (name_of s k j) (name_of s k r)) r

unfoldable pub no_signal : List ℕ → ℕ → Bool
no_signal s p = not (p <? count_at_of s 0)

unfoldable pub no_expr : List ℕ → ℕ → Bool
no_expr s e = not (e <? count_at_of s 1)

-- "clock and controls are 1 wide"
unfoldable pub bad_bit : List ℕ → ℕ → Bool
bad_bit s p = no_signal s p or signal_width s p ≢? 1

-- fields f and f + 1 of record r of section k: a control that must be there
unfoldable pub bad_control : List ℕ → ℕ → ℕ → ℕ → Bool
bad_control s k r f = bad_bit s (field s k r f) or 1 <? field s k r (f + 1)

-- "an absent control's other fields are 0": n of them
unfoldable pub not_zero : List ℕ → ℕ → ℕ → ℕ → ℕ → Bool
not_zero s k r f n = any (λ i. field s k r (f + i) ≢? 0) n

unfoldable pub bad_optional : List ℕ → ℕ → ℕ → ℕ → Bool
bad_optional s k r f = pick (field s k r f ≡? absent) (not_zero s k r (f + 1) 1) (bad_control s k r f)

-- ---- 4: drivers. "Assignments, register targets and read data drive; no bit has two drivers; inputs have one already" ----

unfoldable pub is_input : List ℕ → ℕ → Bool
is_input s p = field s 0 p 3 ≡? 1

-- one of the first n assignments drives one of the w bits of signal p from lsb on
unfoldable pub assigned : List ℕ → ℕ → ℕ → ℕ → ℕ → Bool
assigned s n p lsb w = any (λ j. field s 3 j 0 ≡? p and field s 3 j 1 <? lsb + w and lsb <? field s 3 j 1 + field s 3 j 2) n

-- signal p is the target of one of the first n registers; the read data of one of the first n memories
unfoldable pub targeted : List ℕ → ℕ → ℕ → Bool
targeted s n p = any (λ j. field s 4 j 2 ≡? p) n

unfoldable pub read_into : List ℕ → ℕ → ℕ → Bool
read_into s n p = any (λ j. field s 5 j (first_port + 1) ≡? p or (field s 5 j has_second ≡? 1 and field s 5 j (second_port + 1) ≡? p)) n

-- the whole of signal p has a driver before the first i registers and the first j memories end
unfoldable pub driven : List ℕ → ℕ → ℕ → ℕ → Bool
driven s i j p = is_input s p or assigned s (count_at_of s 3) p 0 (signal_width s p) or targeted s i p or read_into s j p

-- ---- 4: signals ----

unfoldable pub bad_signal : List ℕ → ℕ → Bool
bad_signal s r =
    bad_name s 0 r or name_taken s 0 r
    or outside (signal_width s r) 1 1024
    or 2 <? field s 0 r 3
    or 4096 <? sum_to (signal_width s) (r + 1)

-- ---- 4: expressions ----

-- "And, Or, Xor, Add, Sub, Mul, BitNot and Mux branches equal the result. Comparisons, LogicNot and reductions give 1;
-- compared sides are equal. A shift keeps its left width": operator, width, operands' widths
unfoldable pub bad_unary : ℕ → ℕ → ℕ → Bool
bad_unary op w x = 4 <? op or pick (op ≡? 0) (x ≢? w) (w ≢? 1)

unfoldable pub bad_binary : ℕ → ℕ → ℕ → ℕ → Bool
bad_binary op w x y =
    18 <? op
    or pick (op <? 6) (x ≢? w or y ≢? w)
    (pick (op <? 16) (w ≢? 1 or x ≢? y)
    (x ≢? w))

-- "Operands have lower numbers": operand e of record r
unfoldable pub late : ℕ → ℕ → Bool
late r e = not (e <? r)

-- "Concat has a part, and the parts sum"
unfoldable pub bad_concat : List ℕ → ℕ → ℕ → ℕ → ℕ → Bool
bad_concat s r w start count =
    count ≡? 0
    or count_at_of s 2 <? start + count
    or any (λ i. late r (list_word s (start + i))) count
    or sum_to (λ i. expr_width s (list_word s (start + i))) count ≢? w

-- record r of this kind, with width w and operands a, b, c; "unused ones 0"
unfoldable pub bad_kind : List ℕ → ℕ → ℕ → ℕ → ℕ → ℕ → ℕ → Bool
bad_kind s r k w a b c =
    pick (k ≡? 0) (no_signal s a or signal_width s a <? b + w or c ≢? 0)
    (pick (k ≡? 1) (count_at_of s 2 <? a + constant_words w or b ≢? 0 or c ≢? 0)
    (pick (k ≡? 2) (late r b or bad_unary a w (expr_width s b) or c ≢? 0)
    (pick (k ≡? 3) (late r b or late r c or bad_binary a w (expr_width s b) (expr_width s c))
    (pick (k ≡? 4) (late r a or late r b or late r c or expr_width s a ≢? 1 or expr_width s b ≢? w or expr_width s c ≢? w)
    (pick (k ≡? 5) (bad_concat s r w a b or c ≢? 0)
    (pick (k ≡? 6) (late r a or expr_width s a <? b + w or c ≢? 0)
    true))))))

unfoldable pub bad_expr : List ℕ → ℕ → Bool
bad_expr s r =
    outside (expr_width s r) 1 1024
    or 32768 <? sum_to (expr_width s) (r + 1)
    or bad_kind s r (field s 1 r 0) (expr_width s r) (field s 1 r 2) (field s 1 r 3) (field s 1 r 4)

-- ---- 4: assignments ----

-- signal p, lsb, width w, value e
unfoldable pub bad_assign : List ℕ → ℕ → Bool
bad_assign s r =
    let p = field s 3 r 0 in
    let lsb = field s 3 r 1 in
    let w = field s 3 r 2 in
    let e = field s 3 r 3 in
    no_signal s p or outside w 1 1024 or signal_width s p <? lsb + w
    or no_expr s e or expr_width s e ≢? w
    or is_input s p or assigned s r p lsb w

-- ---- 4: registers ----

-- "Next, reset value and target agree"
unfoldable pub bad_value : List ℕ → ℕ → ℕ → Bool
bad_value s e w = no_expr s e or expr_width s e ≢? w

unfoldable pub bad_reset : List ℕ → ℕ → ℕ → Bool
bad_reset s r w =
    pick (field s 4 r 8 ≡? absent) (not_zero s 4 r 9 3)
    (bad_control s 4 r 8 or 1 <? field s 4 r 10 or bad_value s (field s 4 r 11) w)

unfoldable pub bad_register : List ℕ → ℕ → Bool
bad_register s r =
    let p = field s 4 r 2 in
    bad_name s 4 r or name_taken s 4 r
    or no_signal s p
    or bad_value s (field s 4 r 3) (signal_width s p)
    or bad_bit s (field s 4 r 4) or 1 <? field s 4 r 5
    or bad_optional s 4 r 6
    or bad_reset s r (signal_width s p)
    or driven s r 0 p

-- ---- 4: memories ----

-- "address width 1 to 32"
unfoldable pub bad_address : List ℕ → ℕ → Bool
bad_address s e = no_expr s e or outside (expr_width s e) 1 32

-- the port whose fields begin at f, where the memory's data are w wide
unfoldable pub bad_port : List ℕ → ℕ → ℕ → ℕ → Bool
bad_port s r f w =
    bad_address s (field s 5 r f)
    or no_signal s (field s 5 r (f + 1)) or signal_width s (field s 5 r (f + 1)) ≢? w
    or bad_optional s 5 r (f + 2)
    or bad_address s (field s 5 r (f + 4))
    or bad_value s (field s 5 r (f + 5)) w
    or bad_control s 5 r (f + 6)
    or bad_bit s (field s 5 r (f + 8)) or 1 <? field s 5 r (f + 9)
    or driven s (count_at_of s 4) r (field s 5 r (f + 1))

-- "second port present (0 or 1), ten more (0 if none)"
unfoldable pub bad_second : List ℕ → ℕ → ℕ → ℕ → Bool
bad_second s r n w =
    pick (n ≡? 0) (not_zero s 5 r second_port 10)
    (pick (n ≡? 1) (bad_port s r second_port w or field s 5 r (second_port + 1) ≡? field s 5 r (first_port + 1))
    true)

-- "all read and write data of a memory have one width": that of the first port's read data. "A width that differs from the read data's is
-- refused under 4" (request Q-1): the word width of the record
unfoldable pub bad_memory : List ℕ → ℕ → Bool
bad_memory s r =
    let w = signal_width s (field s 5 r (first_port + 1)) in
    bad_name s 5 r or name_taken s 5 r
    or outside (field s 5 r 2) 1 65536
    or field s 5 r width_field ≢? w
    or 2 <? field s 5 r style_field
    or field s 5 r latency_field ≢? 1
    or bad_port s r first_port w
    or bad_second s r (field s 5 r has_second) w

-- ---- 4 and the whole ----

-- "Place: section, record; the first, in image order"
unfoldable pub section : List ℕ → ℕ → (ℕ → Bool) → Answer
section s k bad = let r = first bad (count_at_of s k) in pick (r <? count_at_of s k) (Refused 4 k r) Fine

unfoldable pub records : List ℕ → Answer
records s =
    and_then (section s 0 (bad_signal s)) (and_then (section s 1 (bad_expr s)) (and_then (section s 3 (bad_assign s))
    (and_then (section s 4 (bad_register s)) (section s 5 (bad_memory s)))))

-- words that the netlist buffer and the scratch must have
unfoldable pub netlist_need : ℕ → ℕ → ℕ
netlist_need N P = 16 + 6 * N + P

unfoldable pub signal_bits : List ℕ → ℕ
signal_bits s = sum_to (signal_width s) (count_at_of s 0)

unfoldable pub expr_bits : List ℕ → ℕ
expr_bits s = sum_to (expr_width s) (count_at_of s 1)

unfoldable pub scratch_need : List ℕ → ℕ → ℕ
scratch_need s N = 4 * signal_bits s + expr_bits s + 8 * count_at_of s 1 + 4 * N + 64

unfoldable pub refuse : Bool → ℕ → Answer
refuse t n = pick t (Refused n 0 0) Fine

-- "Checks run 1, 2, 3, 4, 5": image, net limit, list limit, words of the netlist buffer, words of the scratch
unfoldable pub checked : List ℕ → ℕ → ℕ → ℕ → ℕ → Answer
checked s N P netlist scratch =
    and_then (refuse (outside N 1 65535 or outside P 0 65535) 1)
    (and_then (refuse (netlist <? netlist_need N P) 2)
    (and_then (header s)
    (and_then (records s)
    (refuse (scratch <? scratch_need s N) 5))))
