-- What an arithmetic cell's and a comparison's record tell. Assumes nothing.
use Rattle.std.specs.Prelude.{ℕ, ◌+◌, ◌*◌, ◌-◌, ◌≤◌, ◌<◌, ◌≡◌, not, List, ◌++◌, length, take, drop}
use native.Mathlib.Omega.{arith}
use Rattle.std.proofs.Math.Path.{sym}
use Rattle.std.proofs.Common.{◌∙◌}
use Rattle.std.proofs.Math.Bool.{false}
use Rattle.std.proofs.Math.ListN.{get_or}
use Rattle.spec_tests.specs.Rules.{◌<?◌, ◌≡?◌, ◌≢?◌, ◌or◌, ◌and◌, pick}
use Rattle.spec_tests.specs.Laws.{or_no, no_lt, yes_lt, eq_yes, eq_no, ne_yes, lt_yes, lt_no, inside}
use Rattle.spec_rules.specs.Image.{absent}
use Rattle.spec_rules.specs.NetlistImage.{record_length}
use Rattle.spec_netlist.specs.Accept.{nets, count_of, no_net, no_optional, not_own_of, not_above, wrong_arithmetic, wrong_comparison}
use Rattle.law_told.specs.Told.{and_second, pick_yes, pick_no, RightHere}
use Rattle.law_told.specs.Owned.{not_false, Own, own, word_in, arithmetic_word_law, comparison_word_law}
use Rattle.law_told.specs.Ordered.{below_at}

pub some_net : (ws : List ℕ) (x : ℕ) → no_net ws x ≡ false → x < nets ws
unfolding no_net
some_net ws x e = yes_lt x (nets ws) (not_false (x <? nets ws) e)

pub some_optional : (ws : List ℕ) (x : ℕ) → no_optional ws x ≡ false → (x ≡ absent → ⊥) → x < nets ws
unfolding no_optional
some_optional ws x e n = some_net ws x (and_second (x ≢? absent) (no_net ws x) e (ne_yes x absent n))

pub record ArithmeticTold (ws : List ℕ) (earlier : List (List ℕ)) (r : List ℕ) : Type 0 where
  pub operation : get_or r 1 0 < 3
  pub some : 1 ≤ get_or r 2 0
  pub narrow : get_or r 2 0 ≤ 1024
  pub long : length r ≡ 4 + 3 * get_or r 2 0
  pub carry : (get_or r 3 0 ≡ absent → ⊥) → get_or r 3 0 < nets ws
  pub input : (i : ℕ) → i < 2 * get_or r 2 0 → get_or r (4 + i) 0 < nets ws
  pub output : (i : ℕ) → i < get_or r 2 0 → Own ws (get_or r (4 + 2 * get_or r 2 0 + i) 0) 10 (count_of 3 earlier) i
  pub above : (i j : ℕ) → i < get_or r 2 0 → j < 2 * get_or r 2 0 → get_or r (4 + j) 0 < get_or r (4 + 2 * get_or r 2 0 + i) 0
  pub carry_above : (i : ℕ) → i < get_or r 2 0 → (get_or r 3 0 ≡ absent → ⊥) → get_or r 3 0 < get_or r (4 + 2 * get_or r 2 0 + i) 0

arithmetic_length : (l : List ℕ) → get_or l 0 0 ≡ 3 → record_length l ≡ 4 + 3 * get_or l 2 0
unfolding record_length
arithmetic_length l e =
    pick_no (get_or l 0 0 ≡? 0) _ _ (eq_no _ 0 (λ z. omega arith)) ∙ pick_no (get_or l 0 0 ≡? 1) _ _ (eq_no _ 1 (λ z. omega arith))
    ∙ pick_no (get_or l 0 0 ≡? 2) _ _ (eq_no _ 2 (λ z. omega arith)) ∙ pick_yes (get_or l 0 0 ≡? 3) _ _ (eq_yes _ _ e)

module _ (ws : List ℕ) (earlier : List (List ℕ)) (r : List ℕ) (h : RightHere ws earlier r) (some : 0 < length r) where
  abbrev L : List ℕ
  L = r ++ h.rest

  module _ (t : get_or r 0 0 ≡ 3) where
    first : get_or L 0 0 ≡ 3
    first = word_in ws earlier r h 0 some ∙ t

    long : length r ≡ 4 + 3 * get_or L 2 0
    long = let e = arithmetic_length L first in let a = h.fit in let b = h.long in omega arith

    right : (i : ℕ) → (i ≡ 0 → ⊥) → i < length r → wrong_arithmetic ws earlier L i ≡ false
    right i n l = sym (arithmetic_word_law ws earlier L i n first) ∙ h.right i l

    wide : get_or L 2 0 ≡ get_or r 2 0
    wide = word_in ws earlier r h 2 (let l = long in omega arith)

    carry_is : get_or L 3 0 ≡ get_or r 3 0
    carry_is = word_in ws earlier r h 3 (let l = long in omega arith)

    operation_of_law : get_or r 1 0 < 3
    unfolding wrong_arithmetic ◌≡?◌ pick
    operation_of_law =
        let l = long in
        let a = word_in ws earlier r h 1 (omega arith) in
        let b = no_lt 2 (get_or L 1 0) (right 1 (λ z. omega arith) (omega arith)) in
        omega arith

    width_of : (1 ≤ get_or r 2 0) × (get_or r 2 0 ≤ 1024)
    unfolding wrong_arithmetic ◌≡?◌ pick
    width_of =
        let l = long in
        let w = wide in
        let b = inside (get_or L 2 0) 1 1024 (right 2 (λ z. omega arith) (omega arith)) in
        let lo = b.0 in
        let hi = b.1 in
        (omega arith, omega arith)

    carry_of_law : (get_or r 3 0 ≡ absent → ⊥) → get_or r 3 0 < nets ws
    unfolding wrong_arithmetic ◌≡?◌ pick
    carry_of_law n =
        let l = long in
        let e = carry_is in
        let b = some_optional ws (get_or L 3 0) (right 3 (λ z. omega arith) (omega arith)) (λ z. n (sym e ∙ z)) in
        omega arith

    input_of : (i : ℕ) → i < 2 * get_or r 2 0 → get_or r (4 + i) 0 < nets ws
    unfolding wrong_arithmetic
    input_of i b =
        let l = long in
        let w = wide in
        let a = word_in ws earlier r h (4 + i) (omega arith) in
        let e = sym (pick_no (4 + i ≡? 1) _ _ (eq_no (4 + i) 1 (λ z. omega arith)) ∙ pick_no (4 + i ≡? 2) _ _ (eq_no (4 + i) 2 (λ z. omega arith))
        ∙ pick_no (4 + i ≡? 3) _ _ (eq_no (4 + i) 3 (λ z. omega arith)) ∙ pick_yes (4 + i <? 4 + 2 * get_or L 2 0) _ _ (lt_yes (4 + i) (4 + 2 * get_or L 2 0) (omega arith)))
        ∙ right (4 + i) (λ z. omega arith) (omega arith) in
        let g = some_net ws (get_or L (4 + i) 0) e in
        omega arith

    record Out (i : ℕ) : Type 0 where
      pub own : Own ws (get_or r (4 + 2 * get_or r 2 0 + i) 0) 10 (count_of 3 earlier) i
      pub carry : (get_or r 3 0 ≢? absent and not (get_or r 3 0 <? get_or r (4 + 2 * get_or r 2 0 + i) 0)) ≡ false
      pub above : not_above (get_or r (4 + 2 * get_or r 2 0 + i) 0) (take (2 * get_or L 2 0) (drop 4 L)) ≡ false

    out_of : (i : ℕ) → i < get_or r 2 0 → Out i
    unfolding wrong_arithmetic
    out_of i b =
        let l = long in
        let w = wide in
        let j = 4 + 2 * get_or r 2 0 + i in
        let x : get_or L j 0 ≡ get_or r j 0 = word_in ws earlier r h j (omega arith) in
        let e = sym (pick_no (j ≡? 1) _ _ (eq_no j 1 (λ z. omega arith)) ∙ pick_no (j ≡? 2) _ _ (eq_no j 2 (λ z. omega arith))
        ∙ pick_no (j ≡? 3) _ _ (eq_no j 3 (λ z. omega arith)) ∙ pick_no (j <? 4 + 2 * get_or L 2 0) _ _ (lt_no j (4 + 2 * get_or L 2 0) (omega arith)))
        ∙ right j (λ z. omega arith) (omega arith) in
        let p = or_no e in
        let q = or_no p.1 in
        let z : j - (4 + 2 * get_or L 2 0) ≡ i = omega arith in
        let o : not_own_of ws earlier (get_or r j 0) 10 (count_of 3 earlier) i ≡ false = rw (x, z) at p.0 in
        record { own = own ws earlier (get_or r j 0) 10 (count_of 3 earlier) i o; carry = rw (x, carry_is) at q.0; above = rw x at q.1 }

    pub arithmetic_told : ArithmeticTold ws earlier r
    arithmetic_told = record {
      operation = operation_of_law;
      some = width_of.0;
      narrow = width_of.1;
      long = let l = long in let w = wide in omega arith;
      carry = carry_of_law;
      input = input_of;
      output = λ i b. (out_of i b).own;
      above = λ i j b d. (let l = long in let w = wide in below_at r h.rest (get_or r (4 + 2 * get_or r 2 0 + i) 0) 4 (2 * get_or L 2 0) (out_of i b).above j (omega arith) (omega arith));
      carry_above = λ i b n. yes_lt (get_or r 3 0) (get_or r (4 + 2 * get_or r 2 0 + i) 0)
          (not_false _ (and_second (get_or r 3 0 ≢? absent) _ (out_of i b).carry (ne_yes (get_or r 3 0) absent n)));
    }

pub record ComparisonTold (ws : List ℕ) (earlier : List (List ℕ)) (r : List ℕ) : Type 0 where
  pub operation : get_or r 1 0 < 4
  pub some : 1 ≤ get_or r 2 0
  pub narrow : get_or r 2 0 ≤ 1024
  pub long : length r ≡ 4 + 2 * get_or r 2 0
  pub input : (i : ℕ) → i < 2 * get_or r 2 0 → get_or r (3 + i) 0 < nets ws
  pub output : Own ws (get_or r (3 + 2 * get_or r 2 0) 0) 11 (count_of 4 earlier) 0
  pub above : (j : ℕ) → j < 2 * get_or r 2 0 → get_or r (3 + j) 0 < get_or r (3 + 2 * get_or r 2 0) 0

comparison_length : (l : List ℕ) → get_or l 0 0 ≡ 4 → record_length l ≡ 4 + 2 * get_or l 2 0
unfolding record_length
comparison_length l e =
    pick_no (get_or l 0 0 ≡? 0) _ _ (eq_no _ 0 (λ z. omega arith)) ∙ pick_no (get_or l 0 0 ≡? 1) _ _ (eq_no _ 1 (λ z. omega arith))
    ∙ pick_no (get_or l 0 0 ≡? 2) _ _ (eq_no _ 2 (λ z. omega arith)) ∙ pick_no (get_or l 0 0 ≡? 3) _ _ (eq_no _ 3 (λ z. omega arith))
    ∙ pick_yes (get_or l 0 0 ≡? 4) _ _ (eq_yes _ _ e)

module _ (ws : List ℕ) (earlier : List (List ℕ)) (r : List ℕ) (h : RightHere ws earlier r) (some : 0 < length r) (t : get_or r 0 0 ≡ 4) where
  abbrev M : List ℕ
  M = r ++ h.rest

  its_first : get_or M 0 0 ≡ 4
  its_first = word_in ws earlier r h 0 some ∙ t

  its_long : length r ≡ 4 + 2 * get_or M 2 0
  its_long = let e = comparison_length M its_first in let a = h.fit in let b = h.long in omega arith

  its_right : (i : ℕ) → (i ≡ 0 → ⊥) → i < length r → wrong_comparison ws earlier M i ≡ false
  its_right i n l = let f = its_first in sym (comparison_word_law ws earlier M i n (omega arith)) ∙ h.right i l

  its_wide : get_or M 2 0 ≡ get_or r 2 0
  its_wide = word_in ws earlier r h 2 (let l = its_long in omega arith)

  relation_of_law : get_or r 1 0 < 4
  unfolding wrong_comparison ◌≡?◌ pick
  relation_of_law =
      let l = its_long in
      let a = word_in ws earlier r h 1 (omega arith) in
      let b = no_lt 3 (get_or M 1 0) (its_right 1 (λ z. omega arith) (omega arith)) in
      omega arith

  its_width : (1 ≤ get_or r 2 0) × (get_or r 2 0 ≤ 1024)
  unfolding wrong_comparison ◌≡?◌ pick
  its_width =
      let l = its_long in
      let w = its_wide in
      let b = inside (get_or M 2 0) 1 1024 (its_right 2 (λ z. omega arith) (omega arith)) in
      let lo = b.0 in
      let hi = b.1 in
      (omega arith, omega arith)

  its_input : (i : ℕ) → i < 2 * get_or r 2 0 → get_or r (3 + i) 0 < nets ws
  unfolding wrong_comparison
  its_input i b =
      let l = its_long in
      let w = its_wide in
      let a = word_in ws earlier r h (3 + i) (omega arith) in
      let e = sym (pick_no (3 + i ≡? 1) _ _ (eq_no (3 + i) 1 (λ z. omega arith)) ∙ pick_no (3 + i ≡? 2) _ _ (eq_no (3 + i) 2 (λ z. omega arith))
      ∙ pick_yes (3 + i <? 3 + 2 * get_or M 2 0) _ _ (lt_yes (3 + i) (3 + 2 * get_or M 2 0) (omega arith)))
      ∙ its_right (3 + i) (λ z. omega arith) (omega arith) in
      let g = some_net ws (get_or M (3 + i) 0) e in
      omega arith

  its_output : Own ws (get_or r (3 + 2 * get_or r 2 0) 0) 11 (count_of 4 earlier) 0 × (not_above (get_or r (3 + 2 * get_or r 2 0) 0) (take (2 * get_or M 2 0) (drop 3 M)) ≡ false)
  unfolding wrong_comparison
  its_output =
      let l = its_long in
      let w = its_wide in
      let j = 3 + 2 * get_or r 2 0 in
      let x : get_or M j 0 ≡ get_or r j 0 = word_in ws earlier r h j (omega arith) in
      let e = sym (pick_no (j ≡? 1) _ _ (eq_no j 1 (λ z. omega arith)) ∙ pick_no (j ≡? 2) _ _ (eq_no j 2 (λ z. omega arith))
      ∙ pick_no (j <? 3 + 2 * get_or M 2 0) _ _ (lt_no j (3 + 2 * get_or M 2 0) (omega arith)))
      ∙ its_right j (λ z. omega arith) (omega arith) in
      let p = or_no e in
      let o : not_own_of ws earlier (get_or r j 0) 11 (count_of 4 earlier) 0 ≡ false = rw x at p.0 in
      (own ws earlier (get_or r j 0) 11 (count_of 4 earlier) 0 o, rw x at p.1)

  pub comparison_told : ComparisonTold ws earlier r
  comparison_told = record {
    operation = relation_of_law;
    some = its_width.0;
    narrow = its_width.1;
    long = let l = its_long in let w = its_wide in omega arith;
    input = its_input;
    output = its_output.0;
    above = λ j d. (let l = its_long in let w = its_wide in below_at r h.rest (get_or r (3 + 2 * get_or r 2 0) 0) 3 (2 * get_or M 2 0) its_output.1 j (omega arith) (omega arith));
  }
