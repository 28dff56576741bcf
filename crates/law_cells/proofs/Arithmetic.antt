-- What is proved of specs/Arithmetic: `arithmetic` of word_cells.rs: the nets that it gives stand for the operation on the operands' words, folded, found or made.
-- Assumes nothing.
use Rattle.std.specs.Prelude.{◌≡◌, Bool, false, List, ◌∷◌, ◌++◌, map, ℕ, ◌+◌, ◌-◌, ◌≤◌, ◌<◌, get_or}
use Rattle.std.proofs.Math.Path.{refl, ap}
use Rattle.std.proofs.Common.{sym, subst, ◌∙◌, le_trans, arith}
use Rattle.std.proofs.Math.Option.{Option, none, some}
use Rattle.std.proofs.Math.Nat.{zero-add}
use Rattle.std.proofs.Math.ListN.{length}
use Rattle.std.proofs.lemmas.List.{length-map}
use Rattle.spec_rtl.specs.Word.{bit}
use Rattle.spec_rules.specs.NetlistImage as N
use Rattle.spec_rules.specs.NetlistImage.{node_of, arithmetic_of}
use Rattle.spec_rules.specs.Step as S
use Rattle.spec_rules.specs.Step.{Setting, Contents, perhaps}
use Rattle.spec_model.specs.Words as W
use Rattle.spec_model.specs.Words.{absent, Node, source, Netlist, option_word, arithmetic_key}
use Rattle.spec_model.specs.Builder.{or_made, from, add_nodes, add_recorded, ArithmeticOp, Add, Subtract, Multiply, arithmetic_word, constant_values, carry_value, compute, fold_by, fold_constant_arithmetic, arithmetic_by, add_arithmetic}
use Rattle.spec_model.specs.WordCells.{find_cell, arithmetic, comparison}
use Rattle.word_laws.specs.Runs.{from_at, length_from}
use Rattle.net_view.specs.Formed.{formed_arithmetic}
use Rattle.word_laws.specs.Widths.{AllBelow}
use Rattle.law_nets.specs.Meaning.{decode, node_at_of, records_with, net_value}
use Rattle.law_nets.specs.Sound.{count, CarryBelow, arithmetic_record, arithmetic_outputs, width_word, ArithmeticCell, ComparisonCell, Wired, Sound, Later, StandsAll}
use Rattle.law_nets.specs.Run.{below_more, meets_map, Limit, Built, Run}
use Rattle.law_nets.proofs.Run.{later_trans, all_as, run_here, run_map}
use Rattle.law_nets.specs.Nodes.{arithmetic_grew, comparison_grew, get_or_map_in}
use Rattle.law_gates.specs.Nodes.{no_node}
use Rattle.law_gates.specs.Gates.{constant_later}
use Rattle.law_gates.specs.Many.{constants_run}
use Rattle.law_gates.specs.Added.{nodes_added, Recorded, recorded}
use Rattle.law_cells.specs.Records.{operation_of, operation_word, arithmetic_of_law, arithmetic_outputs_law, arithmetic_length}
use Rattle.law_cells.specs.Cells.{arithmetic_stands, found_cell, count_with, with_cell, grew_cell, count_cell, node_cell, cell_more, cell_new, cells_after, only_cell, sound_cell}
use Rattle.law_cells.specs.Arithmetic.{Carried, Computes, compute_is, values_later}

module _ (lhs rhs : List ℕ) (l : Netlist) (q : Sound l) (bl : AllBelow (count l) lhs) (br : AllBelow (count l) rhs) (same : length rhs ≡ length lhs) where
  module _ (op : ArithmeticOp) (carry : Option ℕ) (bc : CarryBelow (count l) carry) (once : Carried op carry) where
    abbrev key : List ℕ
    key = arithmetic_key (arithmetic_word op) lhs rhs carry

    low_carry : (n : ℕ) → count l ≤ n → CarryBelow n carry
    low_carry n h = go carry bc
      where
        go : (o : Option ℕ) → CarryBelow (count l) o → CarryBelow n o
        go none b = tt
        go (some k) b = le_trans b h

    -- a cell with this key in a sound netlist after l
    at_cell : (h : Netlist) → Sound h → (j : ℕ) → j < length (records_with 3 h.records) → (outs : List ℕ) → arithmetic_record h j ≡ key ++ outs
        → StandsAll h outs (Computes op lhs rhs carry)
    at_cell h qh j b outs e =
        let x : arithmetic_of (arithmetic_record h j) ≡ record { operation = operation_of op; carry = carry; lhs = lhs; rhs = rhs }
        = ap arithmetic_of e ∙ arithmetic_of_law lhs rhs outs same op carry (low_carry absent (le_trans q.few q.small)) in
        let v = arithmetic_stands h qh j b (ap (λ (z : N.Arithmetic). length z.lhs) x ∙ ap width_word (sym e)) in
        let o : arithmetic_outputs (arithmetic_record h j) ≡ outs = ap arithmetic_outputs e ∙ arithmetic_outputs_law lhs rhs outs same op carry in
        all_as (subst (λ (z : List ℕ). StandsAll h z (λ g s c. S.arithmetic (net_value g s c) (arithmetic_of (arithmetic_record h j)))) o v)
        (λ g y s c. ap (S.arithmetic (net_value g s c)) x ∙ compute_is (net_value g s c) op lhs rhs carry once)

    -- ---- made ----

    abbrev nodes : List Node
    nodes = map (source 10 (W.count 3 l.records)) (from 0 (length lhs))

    length_nodes : length nodes ≡ length lhs
    length_nodes = length-map (from 0 (length lhs)) (source 10 (W.count 3 l.records)) ∙ length_from 0 (length lhs)

    number : W.count 3 l.records ≡ length (records_with 3 l.records)
    number = count_with 3 l.records q.formed

    node_is : (i : ℕ) → i < length lhs → decode (get_or nodes i no_node) ≡ N.ArithmeticOutput (length (records_with 3 l.records)) i
    unfolding decode node_of
    node_is i h =
        ap decode (get_or_map_in (source 10 (W.count 3 l.records)) (from 0 (length lhs)) i 0 no_node (rw (length_from 0 (length lhs)) h))
        ∙ rw (from_at 0 (length lhs) i 0 h, zero-add i, number)

    module _ (ns : List ℕ) (en : ns ≡ from (count l) (length lhs)) where
      abbrev record' : List ℕ
      record' = key ++ ns

      abbrev after : Netlist
      after = with_cell nodes record' l

      length_nets : length ns ≡ length lhs
      length_nets = ap length en ∙ length_from (count l) (length lhs)

      net_at_law : (i : ℕ) → i < length lhs → get_or (arithmetic_outputs record') i absent ≡ count l + i
      net_at_law i h = ap (λ (z : List ℕ). get_or z i absent) (arithmetic_outputs_law lhs rhs ns same op carry ∙ en) ∙ from_at (count l) (length lhs) i absent h

      the_record : arithmetic_record after (length (records_with 3 l.records)) ≡ record'
      the_record = cell_new nodes record' l 3 refl

      the_node : (i : ℕ) → i < length lhs → node_at_of after (count l + i) ≡ N.ArithmeticOutput (length (records_with 3 l.records)) i
      the_node i h = node_cell nodes record' l i (rw length_nodes h) ∙ node_is i h

      the_cell : ArithmeticCell after (length (records_with 3 l.records)) record'
      the_cell = record {
        operation = operation_word op;
        width = arithmetic_length lhs rhs ns same op carry ∙ omega (arith, length_nets);
        carry = single op once;
        there = λ i h. rw (net_at_law i h, count_cell nodes record' l, length_nodes) (omega arith);
        outputs = λ i h. ap (node_at_of after) (net_at_law i h) ∙ the_node i h;
      }
        where
          single : (op : ArithmeticOp) → Carried op carry → (arithmetic_word op ≡ 0 → ⊥) → option_word carry ≡ absent
          single Add b n = absurd (n refl)
          single Subtract b n = ap option_word b
          single Multiply b n = ap option_word b

      the_cell_of : arithmetic_of record' ≡ record { operation = operation_of op; carry = carry; lhs = lhs; rhs = rhs }
      the_cell_of = arithmetic_of_law lhs rhs ns same op carry (low_carry absent (le_trans q.few q.small))

      new_node : (i : ℕ) → i < length nodes → Wired after (count l + i) (decode (get_or nodes i no_node))
      new_node i h =
          let h' : i < length lhs = rw length_nodes at h in
          rw (node_is i h') (record {
            cell = rw (cell_more nodes record' l 3 refl) (omega arith);
            bit = rw the_record h';
            listed = rw the_record (net_at_law i h');
            lhs = rw (the_record, the_cell_of) (below_more (count l) (count l + i) lhs (omega arith) bl);
            rhs = rw (the_record, the_cell_of) (below_more (count l) (count l + i) rhs (omega arith) br);
            carry = rw (the_record, the_cell_of) (low_carry (count l + i) (omega arith));
          })

      sound_after : count l + length nodes ≤ l.max_nets → W.used l.records + length record' ≤ l.max_list → Sound after
      sound_after room list = sound_cell nodes record' l q room list (formed_arithmetic (arithmetic_word op) lhs rhs (option_word carry) ns same length_nets) (omega arith) new_node
          (cells_after nodes record' l 3 (ArithmeticCell after) (λ j b. arithmetic_grew (grew_cell nodes record' l) j _ (q.arithmetic j b)) (λ e. the_cell))
          (cells_after nodes record' l 4 (ComparisonCell after) (λ j b. comparison_grew (grew_cell nodes record' l) j _ (q.comparison j b)) (λ e. absurd (omega arith)))

    made_run : Run l (λ zs l'. StandsAll l' zs (Computes op lhs rhs carry)) (add_recorded key (add_nodes (source 10 (W.count 3 l.records)) 0 (length lhs) l))
    made_run = record {
      run = meets_map Limit Limit (λ (r : List ℕ × Netlist). Recorded key nodes l r.0 r.1) (Built l (λ zs l'. StandsAll l' zs (Computes op lhs rhs carry)))
          (add_recorded key (add_nodes (source 10 (W.count 3 l.records)) 0 (length lhs) l))
          (recorded key nodes l (add_nodes (source 10 (W.count 3 l.records)) 0 (length lhs) l) (nodes_added (source 10 (W.count 3 l.records)) 0 (length lhs) l q.few))
          (λ n x y h. h) (λ r a. go r.0 r.1 a);
    }
      where
        go : (ns : List ℕ) (l' : Netlist) → Recorded key nodes l ns l' → Built l (λ zs l'. StandsAll l' zs (Computes op lhs rhs carry)) (ns, l')
        go ns l' a =
            let en : ns ≡ from (count l) (length lhs) = a.nets ∙ ap (from (count l)) length_nodes in
            let s = sound_after ns en a.room a.list in
            subst (λ (h : Netlist). Built l (λ zs l'. StandsAll l' zs (Computes op lhs rhs carry)) (ns, h)) (sym a.then) (record {
              later = record { grew = grew_cell nodes (record' ns en) l; sound = s };
              cells = only_cell nodes (record' ns en) l (omega arith);
              post = at_cell (after ns en) s (length (records_with 3 l.records)) (rw (cell_more nodes (record' ns en) l 3 refl) (omega arith)) ns (the_record ns en);
            })

    -- ---- folded ----

    carry_later : (v : Bool) → carry_value l carry ≡ some v → (h : Netlist) → Later l h → (s : Setting) (c : Contents) → perhaps false (net_value h s c) carry ≡ v
    carry_later v e = go carry bc e
      where
        go : (o : Option ℕ) → CarryBelow (count l) o → carry_value l o ≡ some v → (h : Netlist) → Later l h → (s : Setting) (c : Contents) → perhaps false (net_value h s c) o ≡ v
        go none b e h y s c = cc
        go (some n) b e h y s c = (constant_later l n v b e).is h y s c

    pub add_arithmetic_run : Run l (λ zs l'. StandsAll l' zs (Computes op lhs rhs carry)) (add_arithmetic op lhs rhs carry l)
    unfolding add_arithmetic fold_constant_arithmetic
    add_arithmetic_run = go (carry_value l carry) refl (constant_values l lhs) refl (constant_values l rhs) refl
      where
        go : (o : Option Bool) → carry_value l carry ≡ o → (a : Option (List Bool)) → constant_values l lhs ≡ a → (b : Option (List Bool)) → constant_values l rhs ≡ b
            → Run l (λ zs l'. StandsAll l' zs (Computes op lhs rhs carry)) (arithmetic_by (fold_by op o a b) op lhs rhs carry l)
        go none eo a ea b eb = made_run
        go (some v) eo none ea b eb = made_run
        go (some v) eo (some x) ea none eb = made_run
        go (some v) eo (some x) ea (some y) eb = run_map (constants_run (compute op x y v) l q) (λ zs l' g w. all_as w (λ h z s c.
            rw (
              (values_later l lhs x bl ea).are h (later_trans g z) s c,
              (values_later l rhs y br eb).are h (later_trans g z) s c,
              carry_later v eo h (later_trans g z) s c,
            )))

    pub arithmetic_run : Run l (λ zs l'. StandsAll l' zs (Computes op lhs rhs carry)) (arithmetic op lhs rhs carry l)
    unfolding arithmetic
    arithmetic_run = go (find_cell key l.records) refl
      where
        go : (o : Option (List ℕ)) → find_cell key l.records ≡ o → Run l (λ zs l'. StandsAll l' zs (Computes op lhs rhs carry)) (or_made o l (add_arithmetic op lhs rhs carry l))
        go (some outs) e =
            let f = found_cell 3 (arithmetic_word op ∷ length lhs ∷ option_word carry ∷ (lhs ++ rhs)) l.records outs e in
            run_here q (at_cell l q f.at f.inside outs f.is)
        go none e = add_arithmetic_run
