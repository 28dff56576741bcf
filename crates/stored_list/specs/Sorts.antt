-- A record's words after its first, by its sort: the test of a word, and the record's length. Assumes nothing.
use Rattle.std.specs.Prelude.{ℕ, ◌+◌, ◌*◌, ◌<◌, ◌≤◌, Bool, true, false, not, ◌≡◌, List, length, get_or, Option, Some}
use Rattle.std.proofs.Common.{true≢false, ap, ap₂, ◌∙◌, arith}
use Rattle.std.proofs.Math.Path.{refl, sym}
use Rattle.spec_tests.specs.Rules.{◌<?◌, ◌or◌, first}
use Rattle.spec_tests.specs.Laws.{from, begins, here, passed, or_no, pick_hit, pick_skip, eq_yes, eq_no, no_lt}
use Rattle.spec_rules.specs.NetlistImage.{record_length}
use Rattle.spec_netlist.specs.Accept.{extent, wrong_port, wrong_register, wrong_memory, wrong_arithmetic, wrong_comparison, wrong_word}
use Rattle.law_told.specs.Told.{other_extent, length_some}
use Rattle.spec_tests.specs.Options.{first_of, first_some}
use Rattle.stored_view.specs.Scan.{from_ext}
use Rattle.stored_view.specs.Found.{below, first_of_below}

-- what the first word's test tells
pub fits_no : {a : Bool} → not a ≡ true → a ≡ false
fits_no {a = true} e = absurd (true≢false (sym e))
fits_no {a = false} e = refl

pub fits_yes : {a : Bool} → not a ≡ false → a ≡ true
fits_yes {a = true} e = refl
fits_yes {a = false} e = absurd (true≢false e)

pub fits_told : (l : List ℕ) → not ((4 <? get_or l 0 0) or (length l <? extent l)) ≡ true → (get_or l 0 0 ≤ 4) × (extent l ≤ length l)
fits_told l e =
    let n = or_no (fits_no e) in
    (no_lt 4 (get_or l 0 0) n.0, no_lt (length l) (extent l) n.1)

-- a record's length by its sort
module _ (l : List ℕ) where
  port_length_law : get_or l 0 0 ≡ 0 → 3 + get_or l 2 0 ≡ record_length l
  unfolding record_length
  port_length_law e = pick_hit _ (eq_yes _ _ e) refl

  register_length : get_or l 0 0 ≡ 1 → 13 ≡ record_length l
  unfolding record_length
  register_length e = pick_skip _ (eq_no _ 0 (λ z. omega arith)) (pick_hit _ (eq_yes _ _ e) refl)

  arithmetic_length : get_or l 0 0 ≡ 3 → 4 + 3 * get_or l 2 0 ≡ record_length l
  unfolding record_length
  arithmetic_length e =
      pick_skip _ (eq_no _ 0 (λ z. omega arith)) (pick_skip _ (eq_no _ 1 (λ z. omega arith)) (pick_skip _ (eq_no _ 2 (λ z. omega arith)) (pick_hit _ (eq_yes _ _ e) refl)))

  comparison_length : get_or l 0 0 ≡ 4 → 4 + 2 * get_or l 2 0 ≡ record_length l
  unfolding record_length
  comparison_length e =
      pick_skip _ (eq_no _ 0 (λ z. omega arith)) (pick_skip _ (eq_no _ 1 (λ z. omega arith)) (pick_skip _ (eq_no _ 2 (λ z. omega arith))
      (pick_skip _ (eq_no _ 3 (λ z. omega arith)) (pick_hit _ (eq_yes _ _ e) refl))))

  -- one that fits is there
  module _ (fits : not ((4 <? get_or l 0 0) or (length l <? extent l)) ≡ true) where
    there : (get_or l 0 0 ≡ 2 → ⊥) → record_length l ≤ length l
    there n =
        let e = other_extent l n in
        let f = (fits_told l fits).1 in
        omega arith

    pub port_there : get_or l 0 0 ≡ 0 → 3 + get_or l 2 0 ≤ length l
    port_there e = omega (arith, port_length_law e, there (λ z. omega arith))

    pub register_there : get_or l 0 0 ≡ 1 → 13 ≤ length l
    register_there e = omega (arith, register_length e, there (λ z. omega arith))

    pub arithmetic_there : get_or l 0 0 ≡ 3 → 4 + 3 * get_or l 2 0 ≤ length l
    arithmetic_there e = omega (arith, arithmetic_length e, there (λ z. omega arith))

    pub comparison_there : get_or l 0 0 ≡ 4 → 4 + 2 * get_or l 2 0 ≤ length l
    comparison_there e = omega (arith, comparison_length e, there (λ z. omega arith))

module _ (ws : List ℕ) (earlier : List (List ℕ)) (l : List ℕ) where
  pub word_first : wrong_word ws earlier l 0 ≡ ((4 <? get_or l 0 0) or (length l <? extent l))
  unfolding wrong_word
  word_first = sym (pick_hit _ (eq_yes 0 0 refl) refl)

  -- the first word is wrong
  pub first_wrong_law : not ((4 <? get_or l 0 0) or (length l <? extent l)) ≡ false → 0 ≡ first (wrong_word ws earlier l) (record_length l)
  first_wrong_law e = sym (begins (wrong_word ws earlier l) (record_length l) ∙ here _ _ 0 (length_some l) (word_first ∙ fits_yes e))

  -- it is right, and the tests of the others are those of the sort
  module _ (fits : not ((4 <? get_or l 0 0) or (length l <? extent l)) ≡ true) where
    by : (test : ℕ → Bool) (k : ℕ) → k ≡ record_length l → ((i : ℕ) → 0 < i → wrong_word ws earlier l i ≡ test i) → {r : ℕ} → r ≡ from test k 1 → r ≡ first (wrong_word ws earlier l) (record_length l)
    by test k e same q =
        let s = length_some l in
        q
        ∙ (ap (λ (n : ℕ). from test n 1) e
        ∙ sym (begins (wrong_word ws earlier l) (record_length l)
        ∙ (passed _ _ 0 s (word_first ∙ fits_no fits) ∙ from_ext (wrong_word ws earlier l) test (record_length l) 1 s (λ j a b. same j a))))

    pub port_first : get_or l 0 0 ≡ 0 → {r : ℕ} → r ≡ from (wrong_port ws earlier l) (3 + get_or l 2 0) 1 → r ≡ first (wrong_word ws earlier l) (record_length l)
    unfolding wrong_word
    port_first e = by (wrong_port ws earlier l) _ (port_length_law l e) (λ i h. sym (pick_skip _ (eq_no i 0 (λ z. omega arith)) (pick_hit _ (eq_yes _ _ e) refl)))

    pub register_first : get_or l 0 0 ≡ 1 → {r : ℕ} → r ≡ from (wrong_register ws earlier l) 13 1 → r ≡ first (wrong_word ws earlier l) (record_length l)
    unfolding wrong_word
    register_first e =
        by (wrong_register ws earlier l) _ (register_length l e)
        (λ i h. sym (pick_skip _ (eq_no i 0 (λ z. omega arith)) (pick_skip _ (eq_no _ 0 (λ z. omega arith)) (pick_hit _ (eq_yes _ _ e) refl))))

    pub memory_first : get_or l 0 0 ≡ 2 → {r : ℕ} → r ≡ from (wrong_memory ws earlier l) (record_length l) 1 → r ≡ first (wrong_word ws earlier l) (record_length l)
    unfolding wrong_word
    memory_first e =
        by (wrong_memory ws earlier l) _ refl
        (λ i h. sym (pick_skip _ (eq_no i 0 (λ z. omega arith)) (pick_skip _ (eq_no _ 0 (λ z. omega arith)) (pick_skip _ (eq_no _ 1 (λ z. omega arith)) (pick_hit _ (eq_yes _ _ e) refl)))))

    pub arithmetic_first : get_or l 0 0 ≡ 3 → {r : ℕ} → r ≡ from (wrong_arithmetic ws earlier l) (4 + 3 * get_or l 2 0) 1 → r ≡ first (wrong_word ws earlier l) (record_length l)
    unfolding wrong_word
    arithmetic_first e =
        by (wrong_arithmetic ws earlier l) _ (arithmetic_length l e)
        (λ i h. sym (pick_skip _ (eq_no i 0 (λ z. omega arith)) (pick_skip _ (eq_no _ 0 (λ z. omega arith)) (pick_skip _ (eq_no _ 1 (λ z. omega arith)) (pick_skip _ (eq_no _ 2 (λ z. omega arith)) (pick_hit _ (eq_yes _ _ e) refl))))))

    pub comparison_first : get_or l 0 0 ≡ 4 → {r : ℕ} → r ≡ from (wrong_comparison ws earlier l) (4 + 2 * get_or l 2 0) 1 → r ≡ first (wrong_word ws earlier l) (record_length l)
    unfolding wrong_word
    comparison_first e =
        by (wrong_comparison ws earlier l) _ (comparison_length l e)
        (λ i h. sym (pick_skip _ (eq_no i 0 (λ z. omega arith)) (pick_skip _ (eq_no _ 0 (λ z. omega arith)) (pick_skip _ (eq_no _ 1 (λ z. omega arith)) (pick_skip _ (eq_no _ 2 (λ z. omega arith)) (pick_skip _ (eq_no _ 3 (λ z. omega arith)) refl))))))

    -- ---- the place of the first wrong word, if there is one ----

    told_by : {k m : ℕ} {r : Option ℕ} → k ≡ record_length l → m ≡ first (wrong_word ws earlier l) (record_length l) → r ≡ below k m → r ≡ first_of (wrong_word ws earlier l) (record_length l)
    told_by e f q = q ∙ (ap₂ below e (f ∙ begins (wrong_word ws earlier l) (record_length l)) ∙ sym (first_of_below (wrong_word ws earlier l) (record_length l)))

    pub port_found : get_or l 0 0 ≡ 0 → {r : Option ℕ} → r ≡ below (3 + get_or l 2 0) (from (wrong_port ws earlier l) (3 + get_or l 2 0) 1) → r ≡ first_of (wrong_word ws earlier l) (record_length l)
    port_found e q = told_by (port_length_law l e) (port_first e refl) q

    pub register_found : get_or l 0 0 ≡ 1 → {r : Option ℕ} → r ≡ below 13 (from (wrong_register ws earlier l) 13 1) → r ≡ first_of (wrong_word ws earlier l) (record_length l)
    register_found e q = told_by (register_length l e) (register_first e refl) q

    pub memory_found : get_or l 0 0 ≡ 2 → {r : Option ℕ} → r ≡ below (record_length l) (from (wrong_memory ws earlier l) (record_length l) 1) → r ≡ first_of (wrong_word ws earlier l) (record_length l)
    memory_found e q = told_by refl (memory_first e refl) q

    pub arithmetic_found : get_or l 0 0 ≡ 3 → {r : Option ℕ} → r ≡ below (4 + 3 * get_or l 2 0) (from (wrong_arithmetic ws earlier l) (4 + 3 * get_or l 2 0) 1) → r ≡ first_of (wrong_word ws earlier l) (record_length l)
    arithmetic_found e q = told_by (arithmetic_length l e) (arithmetic_first e refl) q

    pub comparison_found : get_or l 0 0 ≡ 4 → {r : Option ℕ} → r ≡ below (4 + 2 * get_or l 2 0) (from (wrong_comparison ws earlier l) (4 + 2 * get_or l 2 0) 1) → r ≡ first_of (wrong_word ws earlier l) (record_length l)
    comparison_found e q = told_by (comparison_length l e) (comparison_first e refl) q

  -- its first word is wrong
  pub first_word_found : not ((4 <? get_or l 0 0) or (length l <? extent l)) ≡ false → Some 0 ≡ first_of (wrong_word ws earlier l) (record_length l)
  first_word_found e = sym (first_some (wrong_word ws earlier l) (record_length l) 0 (length_some l) (sym (first_wrong_law e)))
