-- The stages of the check in their order: what follows each, and how a wrong word of one answers for the rest. Assumes nothing.
use Rattle.std.specs.Prelude.{ℕ, zero, suc, ◌+◌, ◌*◌, ◌<◌, ◌≤◌, min, Bool, true, false, not, ◌≡◌, refl, List, [], ◌∷◌, length, get_or}
use Rattle.std.proofs.Common.{true≢false, ◌∙◌, arith}
use Rattle.std.proofs.Math.Path.{sym, ap}
use Rattle.spec_tests.specs.Rules.{◌<?◌, pick, first, Answer, Fine, Refused, and_then}
use Rattle.spec_tests.specs.Laws.{pick_hit, pick_skip, lt_yes, lt_no, ne_yes, ne_no, first_most}
use Rattle.spec_rules.specs.NetlistImage.{node_word, records_of}
use Rattle.spec_netlist.specs.Accept.{nets, used, list_at_of, limit, belongs, wrong_header, first_wrong, alone, wrong_count, header_answer, length_answer, nodes_answer, list_answer, alone_answer, counts_answer, body_answer, accepts}
use Rattle.check_image.specs.Checked.{then_fine, then_refused}
use Rattle.stored_view.specs.Opened.{Opened, Counted}
use Rattle.stored_header.specs.Header.{too_short}
use Rattle.stored_nodes.specs.Words.{wrong_node, node_kind}

-- from a stage on
abbrev pub from_left : List ℕ → Answer
from_left ws = and_then (alone_answer ws) (counts_answer ws)

abbrev pub from_list_of : List ℕ → Answer
from_list_of ws = and_then (list_answer ws) (from_left ws)

abbrev pub from_nodes : List ℕ → Answer
from_nodes ws = and_then (nodes_answer ws) (from_list_of ws)

-- the first wrong word of a stretch
pub wrong_at : (p : ℕ → Bool) (place n : ℕ) {r : ℕ} → r ≡ first p n → r < n → first_wrong p place n ≡ Refused 11 (place + r) 0
unfolding first_wrong
wrong_at p place n {r} e h = sym (pick_hit _ (lt_yes (first p n) n (omega arith)) (ap (λ (k : ℕ). Refused 11 (place + k) 0) e))

pub wrong_none : (p : ℕ → Bool) (place n : ℕ) {r : ℕ} → r ≡ first p n → n ≤ r → first_wrong p place n ≡ Fine
unfolding first_wrong
wrong_none p place n {r} e h = sym (pick_skip _ (lt_no (first p n) n (omega arith)) refl)

module _ (ws : List ℕ) where
  -- nodes left without a record
  pub left_wrong : {n : ℕ} → n ≡ first (alone ws) (nets ws) → n < nets ws → Refused 11 (16 + 6 * n) 0 ≡ from_left ws
  unfolding alone_answer
  left_wrong {n} e h =
      then_refused _ 11 (16 + 6 * n) 0 (sym (pick_hit _ (lt_yes (first (alone ws) (nets ws)) (nets ws) (omega arith)) (ap (λ (k : ℕ). Refused 11 (16 + 6 * k) 0) e)))

  pub left_right : {n : ℕ} {a : Answer} → n ≡ first (alone ws) (nets ws) → nets ws ≤ n → a ≡ counts_answer ws → a ≡ from_left ws
  unfolding alone_answer
  left_right {n} e h q = then_fine (sym (pick_skip _ (lt_no (first (alone ws) (nets ws)) (nets ws) (omega arith)) refl)) q

  -- counts
  pub count_wrong : {t : ℕ} → t ≡ first (wrong_count ws) 5 → t < 5 → Refused 11 (5 + t) 0 ≡ counts_answer ws
  unfolding counts_answer
  count_wrong e h = sym (wrong_at (wrong_count ws) 5 5 e h)

  pub count_right : {t : ℕ} → t ≡ first (wrong_count ws) 5 → 5 ≤ t → Fine ≡ counts_answer ws
  unfolding counts_answer
  count_right e h = sym (wrong_none (wrong_count ws) 5 5 e h)

  -- the list
  pub list_wrong : {i : ℕ} → list_answer ws ≡ pick (i <? used ws) (Refused 11 (list_at_of ws + i) 0) Fine → i < used ws → Refused 11 (list_at_of ws + i) 0 ≡ from_list_of ws
  list_wrong {i} e h = then_refused _ 11 (list_at_of ws + i) 0 (e ∙ sym (pick_hit _ (lt_yes i (used ws) h) refl))

  pub list_right : {i : ℕ} {a : Answer} → list_answer ws ≡ pick (i <? used ws) (Refused 11 (list_at_of ws + i) 0) Fine → used ws ≤ i → a ≡ from_left ws → a ≡ from_list_of ws
  list_right {i} e h q = then_fine (e ∙ sym (pick_skip _ (lt_no i (used ws) h) refl)) q

  -- the nodes
  pub nodes_wrong : {i : ℕ} → i ≡ first (wrong_node ws) (6 * limit ws) → i < 6 * limit ws → Refused 11 (16 + i) 0 ≡ from_nodes ws
  unfolding nodes_answer
  nodes_wrong {i} e h = then_refused _ 11 (16 + i) 0 (wrong_at (wrong_node ws) 16 (6 * limit ws) e h)

  pub nodes_right : {i : ℕ} {a : Answer} → i ≡ first (wrong_node ws) (6 * limit ws) → 6 * limit ws ≤ i → a ≡ from_list_of ws → a ≡ from_nodes ws
  unfolding nodes_answer
  nodes_right e h q = then_fine (wrong_none (wrong_node ws) 16 (6 * limit ws) e h) q

  -- header and length
  pub header_wrong : {i : ℕ} → i ≡ first (wrong_header ws) (min 16 (length ws)) → i < min 16 (length ws) → Refused 11 i 0 ≡ accepts ws
  unfolding accepts header_answer
  header_wrong {i} e h = then_refused _ 11 i 0 (wrong_at (wrong_header ws) 0 (min 16 (length ws)) e h ∙ ap (λ (k : ℕ). Refused 11 k 0) (omega arith))

  pub header_right : {i : ℕ} {a : Answer} → i ≡ first (wrong_header ws) (min 16 (length ws)) → min 16 (length ws) ≤ i → a ≡ and_then (length_answer ws) (from_nodes ws) → a ≡ accepts ws
  unfolding accepts header_answer body_answer
  header_right e h q = then_fine (wrong_none (wrong_header ws) 0 (min 16 (length ws)) e h) q

  pub length_wrong : too_short ws ≡ true → Refused 11 (length ws) 0 ≡ and_then (length_answer ws) (from_nodes ws)
  unfolding length_answer too_short
  length_wrong e = then_refused _ 11 (length ws) 0 (sym (pick_hit _ e refl))

  pub length_right : {a : Answer} → too_short ws ≡ false → a ≡ from_nodes ws → a ≡ and_then (length_answer ws) (from_nodes ws)
  unfolding length_answer too_short
  length_right e q = then_fine (sym (pick_skip _ e refl)) q

-- a count in the header beside that of the records
pub count_differs : (ws counts : List ℕ) (t : ℕ) → Counted (records_of ws) counts → t < 5 → (get_or ws (5 + t) 0 ≡ get_or counts t 0 → ⊥) → wrong_count ws t ≡ true
unfolding wrong_count
count_differs ws counts t c h n = ne_yes _ _ (λ e. n (e ∙ sym (c.says t h)))

pub count_agrees : (ws counts : List ℕ) (t : ℕ) → Counted (records_of ws) counts → t < 5 → get_or ws (5 + t) 0 ≡ get_or counts t 0 → wrong_count ws t ≡ false
unfolding wrong_count
count_agrees ws counts t c h e = ne_no _ _ (e ∙ c.says t h)

-- a node's kind as it is read
pub kind_other : (ws : List ℕ) (n : ℕ) → Opened ws → {b : Bool} → b ≡ belongs (get_or ws (16 + 6 * n) 0) → not b ≡ true → belongs (node_word ws n 0) ≡ false
kind_other ws n o {b = true} e q = absurd (true≢false (sym q))
kind_other ws n o {b = false} e q = ap belongs (node_kind o n) ∙ sym e

pub kind_owned : (ws : List ℕ) (n : ℕ) → Opened ws → {b : Bool} → b ≡ belongs (get_or ws (16 + 6 * n) 0) → not b ≡ false → belongs (node_word ws n 0) ≡ true
kind_owned ws n o {b = true} e q = ap belongs (node_kind o n) ∙ sym e
kind_owned ws n o {b = false} e q = absurd (true≢false q)

-- counts at the start
pub zeros : (t : ℕ) → get_or {A = ℕ} (0 ∷ 0 ∷ 0 ∷ 0 ∷ 0 ∷ []) t 0 ≡ 0
zeros zero = refl
zeros (suc zero) = refl
zeros (suc (suc zero)) = refl
zeros (suc (suc (suc zero))) = refl
zeros (suc (suc (suc (suc zero)))) = refl
zeros (suc (suc (suc (suc (suc t))))) = refl

-- no header word that is there is wrong
pub header_passed : (ws : List ℕ) {i n : ℕ} → i ≡ first (wrong_header ws) (min 16 (length ws)) → n ≡ min 16 (length ws) → n ≤ i → first (wrong_header ws) (min 16 (length ws)) ≡ min 16 (length ws)
header_passed ws e q h = omega (arith, first_most (wrong_header ws) (min 16 (length ws)))
