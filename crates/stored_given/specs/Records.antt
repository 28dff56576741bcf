-- The tests of `is_record` one after the other, and that a record given ends with the list words used. Assumes nothing.
use Rattle.std.specs.Prelude.{ℕ, ◌+◌, ◌-◌, ◌<◌, ◌≤◌, Bool, true, false, ◌≡◌, length, take, drop, Option, Some, None, unwrap_or}
use Rattle.std.specs.Option.{is_some}
use Rattle.std.proofs.Math.Bool.{not}
use Rattle.std.proofs.Common.{true≢false, sym, ◌∙◌}
use Rattle.std.proofs.Math.Path.{refl, ap}
use mathlib.Core.List.{List, [], ◌∷◌}
use native.Mathlib.Omega.{arith}
use Rattle.std.proofs.Math.ListN.{get_or, length-take}
use Rattle.spec_tests.specs.Rules.{◌<?◌, pick}
use Rattle.spec_tests.specs.Laws.{and_miss, and_skip, and_yes, pick_hit, pick_skip, lt_yes, lt_no, yes_lt, no_lt}
use Rattle.spec_rules.specs.NetlistImage.{node_word, record_length}
use Rattle.spec_netlist.specs.Accept.{used, list_at_of}
use Rattle.spec_netlist.specs.Given.{list_from, is_node, node_given, is_record, record_given}

module _ (ws : List ℕ) (p : ℕ) where
  pub list_none : used ws ≤ p → [] ≡ list_from ws p
  list_none h = let n : 0 ≡ used ws - p = omega arith in ap (λ (k : ℕ). take k (drop (list_at_of ws + p) ws)) n

  pub past_used : used ws ≤ p → false ≡ is_record ws p
  unfolding is_record
  past_used h = and_miss _ (lt_no p (used ws) h)

  module _ {l : List ℕ} (e : l ≡ list_from ws p) (h : p < used ws) where
    first_word : get_or l 0 0 ≡ get_or (list_from ws p) 0 0
    first_word = ap (λ (s : List ℕ). get_or s 0 0) e

    pub other_sort : 4 < get_or l 0 0 → false ≡ is_record ws p
    unfolding is_record
    other_sort n = and_skip (lt_yes p (used ws) h) (and_miss _ (lt_no _ 5 (omega (arith, first_word))))

    pub by_length : get_or l 0 0 ≤ 4 → not (length l <? record_length l) ≡ is_record ws p
    unfolding is_record
    by_length n = and_skip (lt_yes p (used ws) h) (and_skip (lt_yes _ 5 (omega (arith, first_word))) (ap (λ (s : List ℕ). not (length s <? record_length s)) e))

  not_yes : {b : Bool} → not b ≡ true → b ≡ false
  not_yes {b = true} q = absurd (true≢false (sym q))
  not_yes {b = false} q = refl

  pub ends : is_record ws p ≡ true → p + record_length (list_from ws p) ≤ used ws
  unfolding is_record
  ends q =
      let a = and_yes q in
      let s = yes_lt p (used ws) a.0 in
      let f = no_lt _ _ (not_yes (and_yes a.1).1) in
      let n = length-take (used ws - p) (drop (list_at_of ws + p) ws) in
      omega arith

  pub no_record : is_record ws p ≡ false → 0 ∷ 0 ∷ 0 ∷ [] ≡ record_given ws p
  unfolding record_given
  no_record q = pick_skip _ q refl

  pub the_record : is_record ws p ≡ true → {l : List ℕ} → l ≡ list_from ws p → {k : ℕ} → k ≡ record_length l → get_or l 0 0 ∷ k ∷ (p + k) ∷ [] ≡ record_given ws p
  unfolding record_given
  the_record q {l} e {k} f = ap (λ (n : ℕ). get_or l 0 0 ∷ n ∷ (p + n) ∷ []) f ∙ (ap (λ (s : List ℕ). get_or s 0 0 ∷ record_length s ∷ (p + record_length s) ∷ []) e ∙ pick_hit _ q refl)

pub no_node : (ws : List ℕ) (n : ℕ) → is_node ws n ≡ false → 0 ∷ 0 ∷ 0 ∷ 0 ∷ 0 ∷ 0 ∷ [] ≡ node_given ws n
unfolding node_given
no_node ws n q = pick_skip _ q refl

pub the_node : (ws : List ℕ) (n : ℕ) → is_node ws n ≡ true → {a b c d e f : ℕ} → a ≡ node_word ws n 0 → b ≡ node_word ws n 1 → c ≡ node_word ws n 2 → d ≡ node_word ws n 3
    → e ≡ node_word ws n 4 → f ≡ node_word ws n 5 → a ∷ b ∷ c ∷ d ∷ e ∷ f ∷ [] ≡ node_given ws n
unfolding node_given
the_node ws n q a b c d e f = rw (a, b, c, d, e, f) (pick_hit _ q refl)

-- `if !f(x)`: what f then answered
pub not_told_true : {b a : Bool} → b ≡ a → not b ≡ true → a ≡ false
not_told_true {b = true} e q = absurd (true≢false (sym q))
not_told_true {b = false} e q = sym e

pub not_told_false : {b a : Bool} → b ≡ a → not b ≡ false → a ≡ true
not_told_false {b = true} e q = sym e
not_told_false {b = false} e q = absurd (true≢false q)

-- what is given or, where nothing is, as many zeros; whether something is given
pub given_or : {b : Bool} {xs zeros : List ℕ} {o : Option (List ℕ)} → o ≡ pick b (Some xs) None → (b ≡ false → zeros ≡ xs) → unwrap_or o zeros ≡ xs
unfolding pick
given_or {b = true} {xs} {zeros} e f = ap (λ (x : Option (List ℕ)). unwrap_or x zeros) e
given_or {b = false} {xs} {zeros} e f = ap (λ (x : Option (List ℕ)). unwrap_or x zeros) e ∙ f refl

pub given_told : {b : Bool} (xs : List ℕ) {o : Option (List ℕ)} → o ≡ pick b (Some xs) None → is_some o ≡ b
unfolding pick
given_told {b = true} xs e = ap is_some e
given_told {b = false} xs e = ap is_some e
