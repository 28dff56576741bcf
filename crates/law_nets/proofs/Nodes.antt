-- What is proved of specs/Nodes: Older nodes and records stay as they were, and a net's value is its node's rule at the values below it. Assumes nothing.
use Rattle.std.specs.Prelude.{◌≡◌, refl, false, [], ℕ, suc, ◌-◌, ◌≤◌, ◌<◌, length, get_or}
use Rattle.std.proofs.Common.{sym, ap, ◌∙◌, le_trans, not-suc-le-zero, arith}
use Rattle.std.proofs.Math.Option.{none}
use Rattle.spec_tests.specs.Rules.{only}
use Rattle.spec_rtl.specs.Table.{Low, entry_is}
use Rattle.spec_rules.specs.NetlistImage as N
use Rattle.spec_rules.specs.NetlistImage.{arithmetic_of, comparison_of}
use Rattle.spec_rules.specs.Step.{Setting, Contents, node_value}
use Rattle.spec_model.specs.Words.{absent, Node, Netlist, used}
use Rattle.net_view.specs.Laws.{empty}
use Rattle.word_laws.specs.Widths.{map_below}
use Rattle.law_nets.specs.Meaning.{decode, decoded, node_at_of, records_with, meaning_of, net_value}
use Rattle.law_nets.specs.Sound.{count, arithmetic_record, comparison_record, Wired, Sound, Grew, Later}
use Rattle.law_nets.specs.Nodes.{at_grew, carry_below, count_grew, decoded_get, get_or_map_in, length_decoded, no_node, node_at, node_grew, with_more, with_old}

-- ---- what is wired stays so ----

pub wired_grew : {l l' : Netlist} → Grew l l' → (k : ℕ) → k ≤ count l → (x : N.Node) → Wired l k x → Wired l' k x
wired_grew g k h (N.Input p i) w = w
wired_grew g k h (N.Constant b) w = w
wired_grew g k h (N.And a b) w = w
wired_grew g k h (N.Or a b) w = w
wired_grew g k h (N.Xor a b) w = w
wired_grew g k h (N.Not a) w = (w.0, rw (node_grew g a (omega arith)) w.1)
wired_grew g k h (N.Mux a b c) w = w
wired_grew g k h (N.RegisterOutput r i) w = w
wired_grew g k h (N.Output a) w = w
wired_grew g k h (N.MemoryOutput m i) w = w
wired_grew {l} {l'} g k h (N.ArithmeticOutput j i) w =
    let e : arithmetic_record l' j ≡ arithmetic_record l j = with_old g 3 j w.cell in
    record {
      cell = le_trans w.cell (with_more g 3);
      bit = rw e w.bit;
      listed = rw e w.listed;
      lhs = rw e w.lhs;
      rhs = rw e w.rhs;
      carry = rw e w.carry;
    }
wired_grew {l} {l'} g k h (N.ComparisonOutput j) w =
    let e : comparison_record l' j ≡ comparison_record l j = with_old g 4 j w.cell in
    record { cell = le_trans w.cell (with_more g 4); listed = rw e w.listed; lhs = rw e w.lhs; rhs = rw e w.rhs }

-- ---- values ----

pub cell_is : (l : Netlist) (j : ℕ) (d : N.Arithmetic) → j < length (records_with 3 l.records)
    → get_or (meaning_of l).arithmetic j d ≡ arithmetic_of (arithmetic_record l j)
unfolding meaning_of
cell_is l j d h = get_or_map_in arithmetic_of (records_with 3 l.records) j [] d h

pub compare_is : (l : Netlist) (j : ℕ) (d : N.Comparison) → j < length (records_with 4 l.records)
    → get_or (meaning_of l).comparisons j d ≡ comparison_of (comparison_record l j)
unfolding meaning_of
compare_is l j d h = get_or_map_in comparison_of (records_with 4 l.records) j [] d h

low : (l : Netlist) (s : Setting) (c : Contents) (k : ℕ) (x : N.Node) → Wired l k x → Low false (node_value (meaning_of l) s c) k x
low l s c k (N.Input p i) w g h e = refl
low l s c k (N.Constant b) w g h e = refl
low l s c k (N.And a b) w g h e = rw (e a w.0, e b w.1)
low l s c k (N.Or a b) w g h e = rw (e a w.0, e b w.1)
low l s c k (N.Xor a b) w g h e = rw (e a w.0, e b w.1)
low l s c k (N.Not a) w g h e = rw (e a w.0)
low l s c k (N.Mux a b d) w g h e = rw (e a w.0, e b w.1, e d w.2)
low l s c k (N.RegisterOutput r i) w g h e = refl
low l s c k (N.Output a) w g h e = e a w
low l s c k (N.MemoryOutput m i) w g h e = refl
low l s c k (N.ArithmeticOutput j i) w g h e =
    let x = arithmetic_of (arithmetic_record l j) in
    rw (
      cell_is l j (record { operation = N.Add; carry = none; lhs = []; rhs = [] }) w.cell,
      map_below g h k x.lhs w.lhs e,
      map_below g h k x.rhs w.rhs e,
      carry_below g h k x.carry w.carry e,
    )
low l s c k (N.ComparisonOutput j) w g h e =
    let x = comparison_of (comparison_record l j) in
    rw (
      compare_is l j (record { relation = N.LessU; lhs = []; rhs = [] }) w.cell,
      map_below g h k x.lhs w.lhs e,
      map_below g h k x.rhs w.rhs e,
    )

pub net_is : (l : Netlist) → Sound l → (k : ℕ) → k < count l → (s : Setting) (c : Contents)
    → net_value l s c k ≡ node_value (meaning_of l) s c (net_value l s c) (node_at_of l k)
unfolding net_value meaning_of
net_is l q k h s c =
    let e : get_or (decoded l.nodes) k (N.Constant false) ≡ node_at_of l k
    = decoded_get l.nodes k (count l - suc k) (N.Constant false) no_node h refl ∙ ap decode (sym (node_at l k h)) in
    entry_is false (node_value (meaning_of l) s c) (decoded l.nodes) k (N.Constant false) (omega (arith, length_decoded l.nodes))
    (rw e (low l s c k (node_at_of l k) (q.wired k h)))
    ∙ ap (node_value (meaning_of l) s c (net_value l s c)) e

-- the rule of a net in every later netlist
pub later_net : {l l' : Netlist} → Later l l' → (k : ℕ) → k < count l → (s : Setting) (c : Contents)
    → net_value l' s c k ≡ node_value (meaning_of l') s c (net_value l' s c) (node_at_of l k)
later_net {l} {l'} a k h s c =
    net_is l' a.sound k (le_trans h (count_grew a.grew)) s c ∙ ap (node_value (meaning_of l') s c (net_value l' s c)) (at_grew a.grew k h)

-- ---- the start ----

pub sound_empty : (n p : ℕ) → n ≤ absent → Sound (empty n p)
unfolding used records_with only
sound_empty n p h = record {
  few = omega arith;
  small = h;
  short = omega arith;
  formed = tt;
  wired = λ k b. absurd (not-suc-le-zero b);
  ports = λ j b. absurd (not-suc-le-zero b);
  arithmetic = λ j b. absurd (not-suc-le-zero b);
  comparison = λ j b. absurd (not-suc-le-zero b);
}
