-- A cell's step of a netlist whose nets read lower ones is right: what the code computes is the value of each output net. Assumes nothing.
use Rattle.std.specs.Prelude.{ℕ, zero, suc, ◌+◌, ◌*◌, ◌^◌, ◌/◌, ◌%◌, ◌≤◌, ◌<◌, ◌≡◌, refl, true, false, List, [], ◌∷◌, length, take, drop, get_or}
use Rattle.std.proofs.Common.{arith, sym, ap, ◌∙◌, take-take, get_or-take}
use Rattle.std.proofs.Math.Option.{none}
use Rattle.spec_rtl.specs.Word.{bit}
use Rattle.spec_tests.specs.Rules.{list_of}
use Rattle.spec_rules.specs.Image.{absent}
use Rattle.spec_rules.specs.NetlistImage as N
use Rattle.spec_rules.specs.NetlistImage.{netlist, node_at_of, node_word, arithmetic_of, comparison_of}
use Rattle.spec_rules.specs.Step.{Setting, Contents, net, node_value, arithmetic, comparison}
use Rattle.law_reads.specs.Reads as D
use Rattle.law_told.specs.Members.{member_here}
use Rattle.law_told.specs.Ordered.{Ordered, read_by, length_each, get_or_each}
use Rattle.law_reads.specs.Reads.{net_is, member_there}
use Rattle.spec_netlist.specs.Accept.{input_count, member}
use Rattle.trace_cells.specs.Digits.{Bits}
use Rattle.trace_cells.specs.Cells.{left_of, right_of, outs_of, total_of, lesser_of, greater_of, answer_of}
use Rattle.trace_pass.specs.Plan.{size, word, place, Settled, ArithmeticStep, ComparisonStep}
use Rattle.trace_pass.specs.Gates.{Computed, constant, and_gate, or_gate, xor_gate, not_gate, mux, output}
use Rattle.trace_pass.specs.Sums.{Agree, arithmetic_bit, comparison_bit}

-- the size is the header's net count, and a node is read from its six words
pub size_is : (ws : List ℕ) → size ws ≡ get_or ws 1 0
unfolding netlist list_of
size_is ws = length_each (node_at_of ws) 0 (get_or ws 1 0)

pub node_is : (ws : List ℕ) (k : ℕ) → k < size ws → D.node_of (netlist ws) k ≡ node_at_of ws k
unfolding netlist list_of
node_is ws k h = get_or_each (node_at_of ws) 0 (get_or ws 1 0) k (N.Constant false) (omega (arith, size_is ws)) ∙ (let e : 0 + k ≡ k = omega arith in ap (node_at_of ws) e)

-- nets that are there and due
pub record Due (ws : List ℕ) (due : ℕ → ℕ) (i : ℕ) (xs : List ℕ) : Type 0 where
  pub at : (m : ℕ) → m < length xs → (get_or xs m 0 < size ws) × (due (get_or xs m 0) ≤ i)

agree : {ws : List ℕ} {due : ℕ → ℕ} {i : ℕ} {s : Setting} {c : Contents} {v xs : List ℕ} → Settled ws due s c i v → Due ws due i xs → Agree v (net (netlist ws) s c) xs
agree {xs = xs} h d = record { at = λ m l. h.holds (get_or xs m 0) (d.at m l).0 (d.at m l).1 }

-- the record at a step's place is that of an arithmetic cell: its inputs are due, its outputs are that cell's nodes
pub record ArithmeticWords (ws t : List ℕ) (due : ℕ → ℕ) (i cell : ℕ) : Type 0 where
  pub number : get_or (netlist ws).arithmetic cell (record { operation = N.Add; carry = none; lhs = []; rhs = [] }) ≡ arithmetic_of (place ws t i)
  pub operation : get_or (place ws t i) 1 0 < 3
  pub same : length (right_of (place ws t i)) ≡ length (left_of (place ws t i))
  pub left : Due ws due i (left_of (place ws t i))
  pub right : Due ws due i (right_of (place ws t i))
  pub carry : (get_or (place ws t i) 3 0 ≡ absent → ⊥) → (get_or (place ws t i) 3 0 < size ws) × (due (get_or (place ws t i) 3 0) ≤ i)
  pub outs : (m : ℕ) → m < length (left_of (place ws t i)) → (get_or (outs_of (place ws t i)) m 0 < size ws) × (node_at_of ws (get_or (outs_of (place ws t i)) m 0) ≡ N.ArithmeticOutput cell m)

pub arithmetic_rule : {ws t : List ℕ} {due : ℕ → ℕ} {i cell : ℕ} → Ordered (netlist ws) → ArithmeticWords ws t due i cell
    → (s : Setting) (c : Contents) (v : List ℕ) → Bits v → Settled ws due s c i v → (m : ℕ) → m < length (left_of (place ws t i))
    → total_of (place ws t i) v / 2 ^ m % 2 ≡ bit (net (netlist ws) s c (get_or (outs_of (place ws t i)) m 0))
arithmetic_rule {ws} {t} {due} {i} {cell} o w s c v b h m l =
    let n = netlist ws in
    let r = place ws t i in
    let k = get_or (outs_of r) m 0 in
    arithmetic_bit r v (net n s c) (agree h w.left) (agree h w.right) w.same w.operation (λ z. h.holds (get_or r 3 0) (w.carry z).0 (w.carry z).1) m l
    ∙ sym (ap bit (net_is n o s c k (w.outs m l).0
    ∙ ap (node_value n s c (net n s c)) (node_is ws k (w.outs m l).0 ∙ (w.outs m l).1)
    ∙ ap (λ (x : N.Arithmetic). get_or (arithmetic (net n s c) x) m false) w.number))

pub record ComparisonWords (ws t : List ℕ) (due : ℕ → ℕ) (i cell : ℕ) : Type 0 where
  pub number : get_or (netlist ws).comparisons cell (record { relation = N.LessU; lhs = []; rhs = [] }) ≡ comparison_of (place ws t i)
  pub operation : get_or (place ws t i) 1 0 < 4
  pub same : length (greater_of (place ws t i)) ≡ length (lesser_of (place ws t i))
  pub some_bits : 0 < length (lesser_of (place ws t i))
  pub left : Due ws due i (lesser_of (place ws t i))
  pub right : Due ws due i (greater_of (place ws t i))
  pub inside : word t i 0 < size ws
  pub out : node_at_of ws (word t i 0) ≡ N.ComparisonOutput cell

pub comparison_rule : {ws t : List ℕ} {due : ℕ → ℕ} {i cell : ℕ} → Ordered (netlist ws) → ComparisonWords ws t due i cell
    → (s : Setting) (c : Contents) (v : List ℕ) → Bits v → Settled ws due s c i v → answer_of (place ws t i) v ≡ bit (net (netlist ws) s c (word t i 0))
comparison_rule {ws} {t} {due} {i} {cell} o w s c v b h =
    let n = netlist ws in
    let k = word t i 0 in
    comparison_bit (place ws t i) v (net n s c) (agree h w.left) (agree h w.right) w.same w.some_bits w.operation
    ∙ sym (ap bit (net_is n o s c k w.inside ∙ ap (node_value n s c (net n s c)) (node_is ws k w.inside ∙ w.out)
    ∙ ap (λ (x : N.Comparison). comparison (net n s c) x) w.number))

-- ---- the steps whole ----

-- lists of one length, inputs below outputs
pub record ArithmeticLists (r : List ℕ) : Type 0 where
  pub narrow : length (left_of r) ≤ 1024
  pub wide : length (outs_of r) ≡ length (left_of r)
  pub left_below : (a b : ℕ) → a < length (left_of r) → b < length (left_of r) → get_or (left_of r) a 0 < get_or (outs_of r) b 0
  pub right_below : (a b : ℕ) → a < length (left_of r) → b < length (left_of r) → get_or (right_of r) a 0 < get_or (outs_of r) b 0

bits_differ : (cell a b : ℕ) → N.ArithmeticOutput cell a ≡ N.ArithmeticOutput cell b → a ≡ b
bits_differ cell a b e = cc

pub arithmetic_step : {ws t : List ℕ} {due : ℕ → ℕ} {i cell : ℕ} → Ordered (netlist ws) → ArithmeticWords ws t due i cell → ArithmeticLists (place ws t i)
    → ((j : ℕ) → j < size ws → due j ≤ i + 1 → ((m : ℕ) → m < length (left_of (place ws t i)) → get_or (outs_of (place ws t i)) m 0 ≡ j → ⊥) → due j ≤ i)
    → ArithmeticStep ws t due i
arithmetic_step {ws} {t} {due} {i} {cell} o w x only = record {
  fits = λ v l. record {
    cell = record {
      right = w.same;
      wide = x.wide;
      inside = λ m h. omega (arith, (w.outs m h).0);
      left_in = λ m h. omega (arith, (w.left.at m h).0);
      right_in = λ m h. omega (arith, (w.right.at m (omega (arith, w.same))).0);
      left_other = λ a b h k e. absurd (omega (arith, x.left_below a b h (omega arith)));
      right_other = λ a b h k e. absurd (omega (arith, x.right_below a b h (omega arith)));
      apart = λ a b h k e. absurd (omega (arith, same_bit a b (omega arith) k e));
    };
    operation = w.operation;
    carry_in = λ z. omega (arith, (w.carry z).0);
    narrow = x.narrow;
  };
  only = only;
  rule = arithmetic_rule o w;
}
  where
    same_bit : (a b : ℕ) → a < length (left_of (place ws t i)) → b < length (left_of (place ws t i)) → get_or (outs_of (place ws t i)) a 0 ≡ get_or (outs_of (place ws t i)) b 0 → a ≡ b
    same_bit a b h k e = bits_differ cell a b (sym (w.outs a h).1 ∙ ap (node_at_of ws) e ∙ (w.outs b k).1)

pub comparison_step : {ws t : List ℕ} {due : ℕ → ℕ} {i cell : ℕ} → Ordered (netlist ws) → ComparisonWords ws t due i cell
    → ((j : ℕ) → j < size ws → due j ≤ i + 1 → (j ≡ word t i 0 → ⊥) → due j ≤ i) → ComparisonStep ws t due i
comparison_step {ws} {t} {due} {i} {cell} o w only = record {
  fits = λ v l. record {
    left_in = record { inside = λ m h. omega (arith, (w.left.at m h).0) };
    right_in = record { inside = λ m h. omega (arith, (w.right.at m h).0) };
    same = w.same;
    some_bits = w.some_bits;
  };
  one = record { inside = w.inside; only = only; rule = comparison_rule o w };
}

-- ---- a record cut from the list reads as the list does from its place on ----

cut : (w a n : ℕ) (l : List ℕ) → a + w ≤ n → take w (drop a (take n l)) ≡ take w (drop a l)
cut w zero n l h = take-take w n l (omega arith)
cut w (suc a) zero l h = absurd (omega arith)
cut w (suc a) (suc n) [] h = refl
cut w (suc a) (suc n) (x ∷ l) h = cut w a n l (omega arith)

pub arithmetic_cut : (n : ℕ) (l : List ℕ) → 4 + 3 * get_or l 2 0 ≤ n → arithmetic_of (take n l) ≡ arithmetic_of l
unfolding arithmetic_of
arithmetic_cut n l h = rw (get_or-take n l 1 0 (omega arith), get_or-take n l 2 0 (omega arith), get_or-take n l 3 0 (omega arith), cut (get_or l 2 0) 4 n l (omega arith), cut (get_or l 2 0) (4 + get_or l 2 0) n l (omega arith)) refl

pub comparison_cut : (n : ℕ) (l : List ℕ) → 4 + 2 * get_or l 2 0 ≤ n → comparison_of (take n l) ≡ comparison_of l
unfolding comparison_of
comparison_cut n l h = rw (get_or-take n l 1 0 (omega arith), get_or-take n l 2 0 (omega arith), cut (get_or l 2 0) 3 n l (omega arith), cut (get_or l 2 0) (3 + get_or l 2 0) n l (omega arith)) refl

-- ---- a gate's inputs are lower nets ----

pub record Lower (kind x y z k : ℕ) : Type 0 where
  pub first : 0 < input_count kind → x < k
  pub second : 1 < input_count kind → y < k
  pub third : 2 < input_count kind → z < k

by_kind : (n : N.Netlist) (o b x y z k kind : ℕ) → Computed kind → ((j : ℕ) → member j (read_by n (N.node_of kind o b x y z)) ≡ true → j < k) → Lower kind x y z k
unfolding read_by N.node_of input_count
by_kind n o b x y z k kind constant f = record { first = λ h. absurd (omega arith); second = λ h. absurd (omega arith); third = λ h. absurd (omega arith) }
by_kind n o b x y z k kind and_gate f = record { first = λ h. f x (member_here x (y ∷ [])); second = λ h. f y (member_there y x (y ∷ []) (member_here y [])); third = λ h. absurd (omega arith) }
by_kind n o b x y z k kind or_gate f = record { first = λ h. f x (member_here x (y ∷ [])); second = λ h. f y (member_there y x (y ∷ []) (member_here y [])); third = λ h. absurd (omega arith) }
by_kind n o b x y z k kind xor_gate f = record { first = λ h. f x (member_here x (y ∷ [])); second = λ h. f y (member_there y x (y ∷ []) (member_here y [])); third = λ h. absurd (omega arith) }
by_kind n o b x y z k kind not_gate f = record { first = λ h. f x (member_here x []); second = λ h. absurd (omega arith); third = λ h. absurd (omega arith) }
by_kind n o b x y z k kind mux f = record {
  first = λ h. f x (member_here x (y ∷ z ∷ []));
  second = λ h. f y (member_there y x (y ∷ z ∷ []) (member_here y (z ∷ [])));
  third = λ h. f z (member_there z x (y ∷ z ∷ []) (member_there z y (z ∷ []) (member_here z [])));
}
by_kind n o b x y z k kind output f = record { first = λ h. f x (member_here x []); second = λ h. absurd (omega arith); third = λ h. absurd (omega arith) }

pub gate_lower : (ws : List ℕ) (k : ℕ) → Ordered (netlist ws) → k < size ws → Computed (node_word ws k 0) → Lower (node_word ws k 0) (node_word ws k 3) (node_word ws k 4) (node_word ws k 5) k
unfolding node_at_of
gate_lower ws k o h g =
    by_kind (netlist ws) (node_word ws k 1) (node_word ws k 2) (node_word ws k 3) (node_word ws k 4) (node_word ws k 5) k (node_word ws k 0) g
    (λ j m. o.lower k j h (ap (λ (x : N.Node). member j (read_by (netlist ws) x)) (node_is ws k h) ∙ m))
