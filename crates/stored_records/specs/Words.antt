-- The test of each word of a port's, a register bit's and a cell's record, and the words of one test searched at once. Assumes nothing.
use Rattle.std.specs.Prelude.{ℕ, ◌+◌, ◌*◌, ◌-◌, ◌≤◌, ◌<◌, Bool, true, false, ◌≡◌, List, length, ltb, take, drop, position, Option, Some, None}
use Rattle.std.proofs.Math.Path.{refl, sym}
use Rattle.std.proofs.Common.{ap, ap₂, ◌∙◌, subst, arith, ltb-true}
use Rattle.std.proofs.Math.ListN.{get_or}
use Rattle.spec_tests.specs.Rules.{◌<?◌, ◌≡?◌, ◌≢?◌, ◌or◌, ◌and◌, pick, outside}
use Rattle.spec_tests.specs.Laws.{from, pick_hit, pick_skip, or_hit, or_skip, and_skip, lt_yes, lt_no, eq_no, ne_yes, inside}
use Rattle.spec_rules.specs.NetlistImage.{node_word}
use Rattle.spec_netlist.specs.Accept.{no_net, no_optional, wrong_level, not_own_of, wrong_port, wrong_register, wrong_arithmetic, wrong_comparison, count_of}
use Rattle.stored_view.specs.Own.{not_own_at}
use Rattle.spec_tests.specs.Options.{first_of}
use Rattle.stored_view.specs.Found.{below, below_at, one_hit, one_skip, nothing_left, part_word, stretch_found, stretch_clean, words_found, words_clean, own_found, own_clean}
use Rattle.stored_view.specs.Scan.{from_ext, stretch_hit, stretch_skip, at_hit, at_skip, at_end_law}
use Rattle.stored_records.specs.Above.{above_all, above_carry, not_above_law, not_above_carry}

-- the kinds that a port's nodes can have
pub kind_input : {k : ℕ} → k ≡ 0 → (k ≢? 0 and k ≢? 8) ≡ false
unfolding ◌≢?◌ ◌and◌
kind_input e = subst (λ (k : ℕ). (k ≢? 0 and k ≢? 8) ≡ false) (sym e) refl

pub kind_output : {k : ℕ} → k ≡ 8 → (k ≢? 0 and k ≢? 8) ≡ false
unfolding ◌≢?◌ ◌and◌
kind_output e = subst (λ (k : ℕ). (k ≢? 0 and k ≢? 8) ≡ false) (sym e) refl

-- word j of a cell's outputs is not its output of this number with bit j, or is below the least net that its inputs allow
abbrev pub wrong_in : List ℕ → List (List ℕ) → List ℕ → ℕ → ℕ → ℕ → Bool
wrong_in ws earlier outputs number least j = not_own_of ws earlier (get_or outputs j 0) 10 number j or get_or outputs j 0 <? least

module _ (ws : List ℕ) (earlier : List (List ℕ)) (l : List ℕ) where
  -- ---- a port ----

  pub port_signal : wrong_port ws earlier l 1 ≡ (511 <? get_or l 1 0)
  unfolding wrong_port pick ◌≡?◌
  port_signal = refl

  pub port_width : wrong_port ws earlier l 2 ≡ outside (get_or l 2 0) 1 1024
  unfolding wrong_port pick ◌≡?◌
  port_width = refl

  -- the words before its nets are right
  pub port_head : (511 <? get_or l 1 0) ≡ false → (outside (get_or l 2 0) 1 1024) ≡ false → {r : ℕ} → r ≡ from (wrong_port ws earlier l) (3 + get_or l 2 0) 3 → r ≡ from (wrong_port ws earlier l) (3 + get_or l 2 0) 1
  port_head e f q = at_skip _ _ 1 (omega arith) (port_signal ∙ e) (at_skip _ _ 2 (omega arith) (port_width ∙ f) q)

  -- its first node is of another kind
  pub port_kind : {k : ℕ} → outside (get_or l 2 0) 1 1024 ≡ false → k ≡ node_word ws (get_or l 3 0) 0 → (k ≡ 0 → ⊥) → (k ≡ 8 → ⊥) → 3 ≡ from (wrong_port ws earlier l) (3 + get_or l 2 0) 3
  unfolding wrong_port pick ◌≡?◌
  port_kind {k} w e a b =
      at_hit _ _ 3 (omega (arith, inside _ _ _ w)) (sym (or_hit _ (sym (and_skip (ne_yes _ 0 (λ z. a (e ∙ z))) (sym (ne_yes _ 8 (λ z. b (e ∙ z))))))))

  port_net : (k j : ℕ) → k ≡ node_word ws (get_or l 3 0) 0 → (k ≢? 0 and k ≢? 8) ≡ false → 3 ≤ j → wrong_port ws earlier l j ≡ not_own_at ws earlier l k (get_or l 1 0) 0 3 j
  unfolding wrong_port
  port_net k j e a h =
      sym
      (pick_skip _ (eq_no j 1 (λ z. omega arith))
      (pick_skip _ (eq_no j 2 (λ z. omega arith))
      (or_skip (ap (λ (n : ℕ). n ≢? 0 and n ≢? 8) (sym e) ∙ a)
      (ap₂ (λ (n b : ℕ). not_own_of ws earlier (get_or l j 0) n (get_or l 1 0) b) e (omega arith)))))

  -- its nets, all of the kind of its first
  pub port_nets_law : {k r : ℕ} → k ≡ node_word ws (get_or l 3 0) 0 → (k ≢? 0 and k ≢? 8) ≡ false → r ≡ from (not_own_at ws earlier l k (get_or l 1 0) 0 3) (3 + get_or l 2 0) 3
      → r ≡ from (wrong_port ws earlier l) (3 + get_or l 2 0) 3
  port_nets_law {k} {r} e a q = q ∙ from_ext _ _ _ _ (omega arith) (λ j h b. sym (port_net k j e a h))

  -- the place of that answer
  module _ (long : 3 + get_or l 2 0 ≤ length l) {k : ℕ} (kind : k ≡ node_word ws (get_or l 3 0) 0) (good : (k ≢? 0 and k ≢? 8) ≡ false) (e : (511 <? get_or l 1 0) ≡ false) (f : outside (get_or l 2 0) 1 1024 ≡ false) where
    abbrev own : ℕ → Bool
    own j = not_own_of ws earlier (get_or (take (3 + get_or l 2 0 - 3) (drop 3 l)) j 0) k (get_or l 1 0) (0 + j)

    pub port_found : {i : ℕ} → Some i ≡ first_of own (length (take (3 + get_or l 2 0 - 3) (drop 3 l))) → Some (3 + i) ≡ below (3 + get_or l 2 0) (from (wrong_port ws earlier l) (3 + get_or l 2 0) 1)
    port_found t =
        below_at _ (port_head e f refl)
        (own_found (wrong_port ws earlier l) _ l 3 _ (omega arith) (omega arith) long ws earlier k (get_or l 1 0) 0 (λ j h b. port_net k j kind good h) t)

    pub port_clean : None ≡ first_of own (length (take (3 + get_or l 2 0 - 3) (drop 3 l))) → None ≡ below (3 + get_or l 2 0) (from (wrong_port ws earlier l) (3 + get_or l 2 0) 1)
    port_clean t =
        below_at _ (port_head e f refl)
        (own_clean (wrong_port ws earlier l) _ l 3 _ (omega arith) (omega arith) long ws earlier k (get_or l 1 0) 0 (λ j h b. port_net k j kind good h) t (nothing_left _ _))

  -- ---- a register bit ----

  -- word i is wrong; it is right, and the rest answers
  pub register_hit : (i : ℕ) → ltb i 13 ≡ true → wrong_register ws earlier l i ≡ true → i ≡ from (wrong_register ws earlier l) 13 i
  register_hit i b e = at_hit _ 13 i (ltb-true i 13 b) e

  pub register_skip : (i : ℕ) → ltb i 13 ≡ true → wrong_register ws earlier l i ≡ false → {r : ℕ} → r ≡ from (wrong_register ws earlier l) 13 (i + 1) → r ≡ from (wrong_register ws earlier l) 13 i
  register_skip i b e q = at_skip _ 13 i (ltb-true i 13 b) e q

  pub register_index : wrong_register ws earlier l 1 ≡ (255 <? get_or l 1 0)
  unfolding wrong_register pick ◌≡?◌
  register_index = refl

  pub register_bit_law : wrong_register ws earlier l 2 ≡ (1023 <? get_or l 2 0)
  unfolding wrong_register pick ◌≡?◌
  register_bit_law = refl

  pub register_output : {own : Bool} → own ≡ not_own_of ws earlier (get_or l 3 0) 7 (get_or l 1 0) (get_or l 2 0) → wrong_register ws earlier l 3 ≡ own
  unfolding wrong_register pick ◌≡?◌
  register_output o = sym o

  pub register_data : wrong_register ws earlier l 4 ≡ no_net ws (get_or l 4 0)
  unfolding wrong_register pick ◌≡?◌ ◌or◌
  register_data = refl

  pub register_clock : wrong_register ws earlier l 5 ≡ no_net ws (get_or l 5 0)
  unfolding wrong_register pick ◌≡?◌ ◌or◌
  register_clock = refl

  pub register_edge : wrong_register ws earlier l 6 ≡ (1 <? get_or l 6 0)
  unfolding wrong_register pick ◌≡?◌ ◌or◌
  register_edge = refl

  pub register_enable : wrong_register ws earlier l 7 ≡ no_optional ws (get_or l 7 0)
  unfolding wrong_register pick ◌≡?◌ ◌or◌
  register_enable = refl

  pub register_enable_level : wrong_register ws earlier l 8 ≡ wrong_level (get_or l 7 0) (get_or l 8 0)
  unfolding wrong_register pick ◌≡?◌ ◌or◌
  register_enable_level = refl

  pub register_reset : wrong_register ws earlier l 9 ≡ no_optional ws (get_or l 9 0)
  unfolding wrong_register pick ◌≡?◌ ◌or◌
  register_reset = refl

  pub register_reset_level : wrong_register ws earlier l 10 ≡ wrong_level (get_or l 9 0) (get_or l 10 0)
  unfolding wrong_register pick ◌≡?◌ ◌or◌
  register_reset_level = refl

  pub register_reset_mode : wrong_register ws earlier l 11 ≡ wrong_level (get_or l 9 0) (get_or l 11 0)
  unfolding wrong_register pick ◌≡?◌ ◌or◌
  register_reset_mode = refl

  pub register_reset_value : wrong_register ws earlier l 12 ≡ wrong_level (get_or l 9 0) (get_or l 12 0)
  unfolding wrong_register pick ◌≡?◌ ◌or◌
  register_reset_value = refl

  -- ---- an arithmetic cell ----

  pub arithmetic_operation : wrong_arithmetic ws earlier l 1 ≡ (2 <? get_or l 1 0)
  unfolding wrong_arithmetic pick ◌≡?◌
  arithmetic_operation = refl

  pub arithmetic_width : wrong_arithmetic ws earlier l 2 ≡ outside (get_or l 2 0) 1 1024
  unfolding wrong_arithmetic pick ◌≡?◌
  arithmetic_width = refl

  pub arithmetic_carry : wrong_arithmetic ws earlier l 3 ≡ no_optional ws (get_or l 3 0)
  unfolding wrong_arithmetic pick ◌≡?◌
  arithmetic_carry = refl

  -- the words before its nets are right
  pub arithmetic_head : (2 <? get_or l 1 0) ≡ false → (outside (get_or l 2 0) 1 1024) ≡ false → (no_optional ws (get_or l 3 0)) ≡ false → {r : ℕ} → r ≡ from (wrong_arithmetic ws earlier l) (4 + 3 * get_or l 2 0) 4 → r ≡ from (wrong_arithmetic ws earlier l) (4 + 3 * get_or l 2 0) 1
  arithmetic_head e f g q = at_skip _ _ 1 (omega arith) (arithmetic_operation ∙ e) (at_skip _ _ 2 (omega arith) (arithmetic_width ∙ f) (at_skip _ _ 3 (omega arith) (arithmetic_carry ∙ g) q))

  arithmetic_input : (j : ℕ) → 4 ≤ j → j < 4 + 2 * get_or l 2 0 → wrong_arithmetic ws earlier l j ≡ no_net ws (get_or l j 0)
  unfolding wrong_arithmetic
  arithmetic_input j h b =
      sym
      (pick_skip _ (eq_no j 1 (λ z. omega arith))
      (pick_skip _ (eq_no j 2 (λ z. omega arith))
      (pick_skip _ (eq_no j 3 (λ z. omega arith))
      (pick_hit _ (lt_yes _ _ b) refl))))

  -- word j is not the output of cell number with bit j - a, or is below the least net that its inputs allow
  abbrev pub wrong_output : ℕ → ℕ → ℕ → ℕ → Bool
  wrong_output number least a j = not_own_of ws earlier (get_or l j 0) 10 number (j - a) or get_or l j 0 <? least

  -- that net
  abbrev arithmetic_least : ℕ
  arithmetic_least = above_all (above_carry (get_or l 3 0)) (take (2 * get_or l 2 0) (drop 4 l))

  arithmetic_output : (number least j : ℕ) → number ≡ count_of 3 earlier → least ≡ arithmetic_least → 4 + 2 * get_or l 2 0 ≤ j
      → wrong_arithmetic ws earlier l j ≡ wrong_output number least (4 + 2 * get_or l 2 0) j
  unfolding wrong_arithmetic
  arithmetic_output number least j e f h =
      sym
      (pick_skip _ (eq_no j 1 (λ z. omega arith))
      (pick_skip _ (eq_no j 2 (λ z. omega arith))
      (pick_skip _ (eq_no j 3 (λ z. omega arith))
      (pick_skip _ (lt_no _ _ h)
      (ap₂ (λ (a b : Bool). a or b) (ap (λ (n : ℕ). not_own_of ws earlier (get_or l j 0) 10 n (j - (4 + 2 * get_or l 2 0))) e)
      (ap (λ (n : ℕ). get_or l j 0 <? n) f ∙ sym (not_above_carry (get_or l j 0) (get_or l 3 0) (take (2 * get_or l 2 0) (drop 4 l)))))))))

  -- its inputs, one of which is no net
  pub arithmetic_inputs : {r : ℕ} → r ≡ from (λ j. no_net ws (get_or l j 0)) (4 + 2 * get_or l 2 0) 4 → r < 4 + 2 * get_or l 2 0
      → r ≡ from (wrong_arithmetic ws earlier l) (4 + 3 * get_or l 2 0) 4
  arithmetic_inputs q b = stretch_hit _ _ _ _ _ (omega arith) (omega arith) arithmetic_input q b

  -- all of them are nets, and its outputs answer
  pub arithmetic_outputs_law : {r s number m least : ℕ} → r ≡ from (λ j. no_net ws (get_or l j 0)) (4 + 2 * get_or l 2 0) 4 → 4 + 2 * get_or l 2 0 ≤ r
      → number ≡ count_of 3 earlier → m ≡ above_carry (get_or l 3 0) → least ≡ above_all m (take (4 + 2 * get_or l 2 0 - 4) (drop 4 l))
      → s ≡ from (wrong_output number least (4 + 2 * get_or l 2 0)) (4 + 2 * get_or l 2 0 + get_or l 2 0) (4 + 2 * get_or l 2 0)
      → s ≡ from (wrong_arithmetic ws earlier l) (4 + 3 * get_or l 2 0) 4
  arithmetic_outputs_law {r} {s} {number} {m} {least} q b e f g t =
      let z : 4 + 2 * get_or l 2 0 - 4 ≡ 2 * get_or l 2 0 = omega arith in
      let y : 4 + 2 * get_or l 2 0 + get_or l 2 0 ≡ 4 + 3 * get_or l 2 0 = omega arith in
      let d : least ≡ arithmetic_least = g ∙ ap₂ (λ (n k : ℕ). above_all n (take k (drop 4 l))) f z in
      stretch_skip _ _ _ _ _ (omega arith) (omega arith) arithmetic_input q b
      (t
      ∙ (from_ext _ (wrong_arithmetic ws earlier l) _ _ (omega arith) (λ j h k. sym (arithmetic_output number least j e d h))
      ∙ ap (λ (n : ℕ). from (wrong_arithmetic ws earlier l) n (4 + 2 * get_or l 2 0)) y))

  -- the place of the first that is no net; all are nets, and the place of the first wrong output
  module _ (long : 4 + 3 * get_or l 2 0 ≤ length l) (e : (2 <? get_or l 1 0) ≡ false) (f : (outside (get_or l 2 0) 1 1024) ≡ false) (g : (no_optional ws (get_or l 3 0)) ≡ false) where
    abbrev inputs : List ℕ
    inputs = take (4 + 2 * get_or l 2 0 - 4) (drop 4 l)

    abbrev outputs : List ℕ
    outputs = take (4 + 2 * get_or l 2 0 + get_or l 2 0 - (4 + 2 * get_or l 2 0)) (drop (4 + 2 * get_or l 2 0) l)

    pub arithmetic_input_found : {i : ℕ} → Some i ≡ position (no_net ws) inputs → Some (4 + i) ≡ below (4 + 3 * get_or l 2 0) (from (wrong_arithmetic ws earlier l) (4 + 3 * get_or l 2 0) 1)
    arithmetic_input_found t =
        below_at _ (arithmetic_head e f g refl) (words_found (wrong_arithmetic ws earlier l) _ l 4 _ (omega arith) (omega arith) (omega arith) (no_net ws) arithmetic_input t)

    module _ (clean : None ≡ position (no_net ws) inputs) {number m least : ℕ} (numbered : number ≡ count_of 3 earlier) (carry : m ≡ above_carry (get_or l 3 0)) (low : least ≡ above_all m inputs) where
      each : (j : ℕ) → j < 4 + 2 * get_or l 2 0 + get_or l 2 0 - (4 + 2 * get_or l 2 0) → wrong_arithmetic ws earlier l (4 + 2 * get_or l 2 0 + j) ≡ wrong_in ws earlier outputs number least j
      each j h =
          let z : 4 + 2 * get_or l 2 0 - 4 ≡ 2 * get_or l 2 0 = omega arith in
          let d : least ≡ arithmetic_least = low ∙ ap₂ (λ (n k : ℕ). above_all n (take k (drop 4 l))) carry z in
          let y : 4 + 2 * get_or l 2 0 + j - (4 + 2 * get_or l 2 0) ≡ j = omega arith in
          arithmetic_output number least (4 + 2 * get_or l 2 0 + j) numbered d (omega arith)
          ∙ ap₂ (λ (x b : ℕ). not_own_of ws earlier x 10 number b or x <? least) (sym (part_word l (4 + 2 * get_or l 2 0) (4 + 2 * get_or l 2 0 + get_or l 2 0) j h)) y

      goes : {r : Option ℕ} → r ≡ below (4 + 3 * get_or l 2 0) (from (wrong_arithmetic ws earlier l) (4 + 3 * get_or l 2 0) (4 + 2 * get_or l 2 0)) → r ≡ below (4 + 3 * get_or l 2 0) (from (wrong_arithmetic ws earlier l) (4 + 3 * get_or l 2 0) 1)
      goes t =
          below_at _ (arithmetic_head e f g refl) (words_clean (wrong_arithmetic ws earlier l) _ l 4 _ (omega arith) (omega arith) (omega arith) (no_net ws) arithmetic_input clean t)

      pub arithmetic_output_found : {i : ℕ} → Some i ≡ first_of (wrong_in ws earlier outputs number least) (length outputs)
          → Some (4 + 2 * get_or l 2 0 + i) ≡ below (4 + 3 * get_or l 2 0) (from (wrong_arithmetic ws earlier l) (4 + 3 * get_or l 2 0) 1)
      arithmetic_output_found t =
          goes (stretch_found (wrong_arithmetic ws earlier l) _ l _ _ (omega arith) (omega arith) (omega arith) (wrong_in ws earlier outputs number least) each t)

      pub arithmetic_output_clean : None ≡ first_of (wrong_in ws earlier outputs number least) (length outputs)
          → None ≡ below (4 + 3 * get_or l 2 0) (from (wrong_arithmetic ws earlier l) (4 + 3 * get_or l 2 0) 1)
      arithmetic_output_clean t =
          let y : 4 + 2 * get_or l 2 0 + get_or l 2 0 ≡ 4 + 3 * get_or l 2 0 = omega arith in
          goes
          (stretch_clean (wrong_arithmetic ws earlier l) _ l _ _ (omega arith) (omega arith) (omega arith) (wrong_in ws earlier outputs number least) each t
          (nothing_left (wrong_arithmetic ws earlier l) _ ∙ ap (λ (k : ℕ). below (4 + 3 * get_or l 2 0) (from (wrong_arithmetic ws earlier l) (4 + 3 * get_or l 2 0) k)) (sym y)))

  -- ---- a comparison ----

  pub comparison_operation : wrong_comparison ws earlier l 1 ≡ (3 <? get_or l 1 0)
  unfolding wrong_comparison pick ◌≡?◌
  comparison_operation = refl

  pub comparison_width : wrong_comparison ws earlier l 2 ≡ outside (get_or l 2 0) 1 1024
  unfolding wrong_comparison pick ◌≡?◌
  comparison_width = refl

  -- the words before its nets are right
  pub comparison_head : (3 <? get_or l 1 0) ≡ false → (outside (get_or l 2 0) 1 1024) ≡ false → {r : ℕ} → r ≡ from (wrong_comparison ws earlier l) (4 + 2 * get_or l 2 0) 3 → r ≡ from (wrong_comparison ws earlier l) (4 + 2 * get_or l 2 0) 1
  comparison_head e f q = at_skip _ _ 1 (omega arith) (comparison_operation ∙ e) (at_skip _ _ 2 (omega arith) (comparison_width ∙ f) q)

  comparison_input : (j : ℕ) → 3 ≤ j → j < 3 + 2 * get_or l 2 0 → wrong_comparison ws earlier l j ≡ no_net ws (get_or l j 0)
  unfolding wrong_comparison
  comparison_input j h b =
      sym
      (pick_skip _ (eq_no j 1 (λ z. omega arith))
      (pick_skip _ (eq_no j 2 (λ z. omega arith))
      (pick_hit _ (lt_yes _ _ b) refl)))

  comparison_output_law : (number least : ℕ) → number ≡ count_of 4 earlier → least ≡ above_all 0 (take (2 * get_or l 2 0) (drop 3 l))
      → wrong_comparison ws earlier l (3 + 2 * get_or l 2 0) ≡ (not_own_of ws earlier (get_or l (3 + 2 * get_or l 2 0) 0) 11 number 0 or get_or l (3 + 2 * get_or l 2 0) 0 <? least)
  unfolding wrong_comparison
  comparison_output_law number least e f =
      let x = get_or l (3 + 2 * get_or l 2 0) 0 in
      sym
      (pick_skip _ (eq_no _ 1 (λ z. omega arith))
      (pick_skip _ (eq_no _ 2 (λ z. omega arith))
      (pick_skip _ (lt_no _ _ (omega arith))
      (ap₂ (λ (a b : Bool). a or b) (ap (λ (n : ℕ). not_own_of ws earlier x 11 n 0) e)
      (ap (λ (n : ℕ). x <? n) f ∙ sym (not_above_law x (take (2 * get_or l 2 0) (drop 3 l))))))))

  pub comparison_inputs : {r : ℕ} → r ≡ from (λ j. no_net ws (get_or l j 0)) (3 + 2 * get_or l 2 0) 3 → r < 3 + 2 * get_or l 2 0
      → r ≡ from (wrong_comparison ws earlier l) (4 + 2 * get_or l 2 0) 3
  comparison_inputs q b = stretch_hit _ _ _ _ _ (omega arith) (omega arith) comparison_input q b

  -- all inputs are nets: the output is not its own, is not above them, is right
  module _ {r number : ℕ} (q : r ≡ from (λ j. no_net ws (get_or l j 0)) (3 + 2 * get_or l 2 0) 3) (b : 3 + 2 * get_or l 2 0 ≤ r) (e : number ≡ count_of 4 earlier) where
    over_inputs : {s : ℕ} → s ≡ from (wrong_comparison ws earlier l) (4 + 2 * get_or l 2 0) (3 + 2 * get_or l 2 0) → s ≡ from (wrong_comparison ws earlier l) (4 + 2 * get_or l 2 0) 3
    over_inputs t = stretch_skip _ _ _ _ _ (omega arith) (omega arith) comparison_input q b t

    pub comparison_other : {own : Bool} → own ≡ not_own_of ws earlier (get_or l (3 + 2 * get_or l 2 0) 0) 11 number 0 → own ≡ true → 3 + 2 * get_or l 2 0 ≡ from (wrong_comparison ws earlier l) (4 + 2 * get_or l 2 0) 3
    comparison_other o t = over_inputs (at_hit _ _ _ (omega arith) (comparison_output_law number _ e refl ∙ sym (or_hit _ (sym o ∙ t))))

    module _ {least : ℕ} (d : least ≡ above_all 0 (take (3 + 2 * get_or l 2 0 - 3) (drop 3 l))) {own : Bool} (o : own ≡ not_own_of ws earlier (get_or l (3 + 2 * get_or l 2 0) 0) 11 number 0) (t : own ≡ false) where
      is_low : wrong_comparison ws earlier l (3 + 2 * get_or l 2 0) ≡ (get_or l (3 + 2 * get_or l 2 0) 0 <? least)
      is_low =
          let z : 3 + 2 * get_or l 2 0 - 3 ≡ 2 * get_or l 2 0 = omega arith in
          comparison_output_law number least e (d ∙ ap (λ (k : ℕ). above_all 0 (take k (drop 3 l))) z) ∙ sym (or_skip (sym o ∙ t) refl)

      pub comparison_low : get_or l (3 + 2 * get_or l 2 0) 0 < least → 3 + 2 * get_or l 2 0 ≡ from (wrong_comparison ws earlier l) (4 + 2 * get_or l 2 0) 3
      comparison_low h = over_inputs (at_hit _ _ _ (omega arith) (is_low ∙ lt_yes _ _ h))

      pub comparison_right : least ≤ get_or l (3 + 2 * get_or l 2 0) 0 → 3 + 2 * get_or l 2 0 + 1 ≡ from (wrong_comparison ws earlier l) (4 + 2 * get_or l 2 0) 3
      comparison_right h =
          let z : 4 + 2 * get_or l 2 0 ≡ 3 + 2 * get_or l 2 0 + 1 = omega arith in
          over_inputs
          (at_skip _ _ _ (omega arith) (is_low ∙ lt_no _ _ h) (at_end_law (wrong_comparison ws earlier l) _ ∙ ap (λ (n : ℕ). from (wrong_comparison ws earlier l) n (3 + 2 * get_or l 2 0 + 1)) (sym z)))

  -- the place of the first input that is no net; all are nets, and the output answers
  module _ (long : 4 + 2 * get_or l 2 0 ≤ length l) (e : (3 <? get_or l 1 0) ≡ false) (f : (outside (get_or l 2 0) 1 1024) ≡ false) where
    pub comparison_input_found : {i : ℕ} → Some i ≡ position (no_net ws) (take (3 + 2 * get_or l 2 0 - 3) (drop 3 l)) → Some (3 + i) ≡ below (4 + 2 * get_or l 2 0) (from (wrong_comparison ws earlier l) (4 + 2 * get_or l 2 0) 1)
    comparison_input_found t =
        below_at _ (comparison_head e f refl) (words_found (wrong_comparison ws earlier l) _ l 3 _ (omega arith) (omega arith) (omega arith) (no_net ws) comparison_input t)

    module _ (clean : None ≡ position (no_net ws) (take (3 + 2 * get_or l 2 0 - 3) (drop 3 l))) {number least : ℕ} (numbered : number ≡ count_of 4 earlier) (low : least ≡ above_all 0 (take (3 + 2 * get_or l 2 0 - 3) (drop 3 l))) where
      past_inputs : {r : Option ℕ} → r ≡ below (4 + 2 * get_or l 2 0) (from (wrong_comparison ws earlier l) (4 + 2 * get_or l 2 0) (3 + 2 * get_or l 2 0)) → r ≡ below (4 + 2 * get_or l 2 0) (from (wrong_comparison ws earlier l) (4 + 2 * get_or l 2 0) 1)
      past_inputs t =
          below_at _ (comparison_head e f refl) (words_clean (wrong_comparison ws earlier l) _ l 3 _ (omega arith) (omega arith) (omega arith) (no_net ws) comparison_input clean t)

      the_output : {own : Bool} → own ≡ not_own_of ws earlier (get_or l (3 + 2 * get_or l 2 0) 0) 11 number 0 → wrong_comparison ws earlier l (3 + 2 * get_or l 2 0) ≡ (own or get_or l (3 + 2 * get_or l 2 0) 0 <? least)
      the_output {own} o =
          let z : 3 + 2 * get_or l 2 0 - 3 ≡ 2 * get_or l 2 0 = omega arith in
          comparison_output_law number least numbered (low ∙ ap (λ (k : ℕ). above_all 0 (take k (drop 3 l))) z) ∙ ap (λ (b : Bool). b or get_or l (3 + 2 * get_or l 2 0) 0 <? least) (sym o)

      pub comparison_output_wrong : {own : Bool} → own ≡ not_own_of ws earlier (get_or l (3 + 2 * get_or l 2 0) 0) 11 number 0 → (own or get_or l (3 + 2 * get_or l 2 0) 0 <? least) ≡ true
          → Some (3 + 2 * get_or l 2 0) ≡ below (4 + 2 * get_or l 2 0) (from (wrong_comparison ws earlier l) (4 + 2 * get_or l 2 0) 1)
      comparison_output_wrong o t = past_inputs (one_hit (wrong_comparison ws earlier l) _ _ (omega arith) (the_output o ∙ t))

      pub comparison_clean : {own : Bool} → own ≡ not_own_of ws earlier (get_or l (3 + 2 * get_or l 2 0) 0) 11 number 0 → (own or get_or l (3 + 2 * get_or l 2 0) 0 <? least) ≡ false
          → None ≡ below (4 + 2 * get_or l 2 0) (from (wrong_comparison ws earlier l) (4 + 2 * get_or l 2 0) 1)
      comparison_clean o t =
          let z : 4 + 2 * get_or l 2 0 ≡ 3 + 2 * get_or l 2 0 + 1 = omega arith in
          past_inputs
          (one_skip (wrong_comparison ws earlier l) _ _ (omega arith) (the_output o ∙ t)
          (nothing_left (wrong_comparison ws earlier l) _ ∙ ap (λ (k : ℕ). below (4 + 2 * get_or l 2 0) (from (wrong_comparison ws earlier l) (4 + 2 * get_or l 2 0) k)) z))
