-- What is judged by the first sixteen words: refusal 11 of a word, 12 of N and of the list words, 11 where they are not all there. Where
-- they pass, the rest is judged as any netlist image is. Assumes nothing.
use Rattle.std.specs.Prelude.{ℕ, ◌+◌, ◌*◌, ◌≤◌, ◌<◌, min, ◌≡◌, Bool, List, length}
use native.Mathlib.Omega.{arith}
use Rattle.std.proofs.Math.Path.{refl, sym, ap}
use Rattle.std.proofs.Common.{◌∙◌}
use Rattle.std.proofs.Math.Bool.{true, false, not}
use Rattle.spec_tests.specs.Rules.{◌<?◌, pick, first, Answer, Fine, Refused, and_then}
use Rattle.spec_tests.specs.Laws.{pick_hit, pick_skip, or_hit, or_skip, or_no, and_miss, and_skip, lt_yes, lt_no, yes_lt, no_lt, ne_yes, ne_no, no_ne, first_most}
use Rattle.spec_rules.specs.Checks.{refuse}
use Rattle.spec_netlist.specs.Accept.{nets, used, list_at_of, limit, wrong_header, first_wrong, header_answer, length_answer, body_answer, accepts}
use Rattle.spec_trace.specs.Opened.{other_limits, opened}
use Rattle.check_image.specs.Checked.{then_fine, then_refused}
use Rattle.law_told.specs.Told.{refused_fine, then_both, pick_fine, and_second}
use Rattle.stored_header.specs.Header.{header_offset}
use Rattle.stored_check.specs.Stages.{wrong_at, wrong_none}

refuse_none : (t : Bool) (n : ℕ) → refuse t n ≡ Fine → t ≡ false
unfolding refuse pick
refuse_none true n e = refused_fine e
refuse_none false n e = refl

abbrev there : List ℕ → ℕ
there ws = min 16 (length ws)

unfoldable pub short_answer : List ℕ → Answer
short_answer ws = pick (length ws <? 16) (Refused 11 (length ws) 0) Fine

pub short_none : (ws : List ℕ) → 16 ≤ length ws → short_answer ws ≡ Fine
unfolding short_answer
short_none ws h = sym (pick_skip _ (lt_no _ _ h) refl)

module _ (N P : ℕ) (ws : List ℕ) where
  unfoldable pub headed : Answer
  headed =
      let limits = and_then (refuse (other_limits N P ws) 12) (short_answer ws) in
      and_then (header_answer ws) limits

  -- ---- N and the list words ----

  pub other_short : length ws < 16 → false ≡ other_limits N P ws
  unfolding other_limits
  other_short h = and_miss _ (ap not (lt_yes _ _ h))

  module _ (l : 16 ≤ length ws) where
    pub other_limit : {k : ℕ} → k ≡ limit ws → (k ≡ N → ⊥) → true ≡ other_limits N P ws
    unfolding other_limits
    other_limit e n = and_skip (ap not (lt_no _ _ l)) (or_hit _ (ne_yes _ _ (λ q. n (e ∙ q))))

    pub other_words : {k : ℕ} → k ≡ limit ws → k ≡ N → {b : Bool} → b ≡ (P <? used ws) → b ≡ other_limits N P ws
    unfolding other_limits
    other_words e n q = and_skip (ap not (lt_no _ _ l)) (or_skip (ne_no _ _ (sym e ∙ n)) q)

  -- ---- the answer, stage by stage ----

  pub head_wrong : {i : ℕ} → i ≡ first (wrong_header ws) (there ws) → i < there ws → Refused 11 i 0 ≡ headed
  unfolding headed header_answer
  head_wrong {i} e h = then_refused _ 11 i 0 (wrong_at (wrong_header ws) 0 (there ws) e h ∙ ap (λ (k : ℕ). Refused 11 k 0) (omega arith))

  module _ {i : ℕ} (e : i ≡ first (wrong_header ws) (there ws)) (h : there ws ≤ i) where
    fine : header_answer ws ≡ Fine
    unfolding header_answer
    fine = wrong_none (wrong_header ws) 0 (there ws) e h

    pub head_other : other_limits N P ws ≡ true → Refused 12 0 0 ≡ headed
    unfolding headed refuse
    head_other t = then_fine fine (then_refused _ 12 0 0 (sym (pick_hit _ t refl)))

    module _ (t : other_limits N P ws ≡ false) where
      past : {a : Answer} → a ≡ short_answer ws → a ≡ headed
      unfolding headed refuse
      past q = then_fine fine (then_fine (sym (pick_skip _ t refl)) q)

      pub head_short : length ws < 16 → Refused 11 (length ws) 0 ≡ headed
      unfolding short_answer
      head_short l = past (pick_hit _ (lt_yes _ _ l) refl)

      pub head_right : 16 ≤ length ws → Fine ≡ headed
      head_right l = past (sym (short_none ws l))

  -- ---- what follows where nothing is wrong ----

  pub record Heads : Type 0 where
    pub long : 16 ≤ length ws
    pub few_nets : nets ws ≤ N
    pub list_starts : list_at_of ws ≡ 16 + 6 * N
    pub few_words_of : used ws ≤ P

  pub heads : headed ≡ Fine → Heads
  unfolding headed header_answer first_wrong short_answer other_limits
  heads q =
      let a = then_both (header_answer ws) _ q in
      let b = then_both (refuse (other_limits N P ws) 12) (short_answer ws) a.1 in
      let l = no_lt (length ws) 16 (pick_fine (length ws <? 16) (length ws) Fine b.1).0 in
      let n : there ws ≡ 16 = omega arith in
      let f = no_lt _ _ (pick_fine (first (wrong_header ws) (there ws) <? there ws) (0 + first (wrong_header ws) (there ws)) Fine a.0).0 in
      let m = first_most (wrong_header ws) 16 in
      let s = ap (first (wrong_header ws)) n in
      let o = header_offset ws (omega arith) in
      let g = or_no (and_second (not (length ws <? 16)) _ (refuse_none (other_limits N P ws) 12 b.0) (ap not (lt_no _ _ l))) in
      let e = no_ne (limit ws) N g.0 in
      let u = no_lt P (used ws) g.1 in
      let i = o.is in
      let k = o.enough in
      record { long = l; few_nets = omega arith; list_starts = omega arith; few_words_of = u }

  -- ---- the whole judgement ----

  short_body : length ws < 16 → Refused 11 (length ws) 0 ≡ body_answer ws
  unfolding body_answer length_answer
  short_body l = then_refused _ 11 (length ws) 0 (sym (pick_hit _ (sym (or_hit _ (lt_yes _ _ l))) refl))

  stages : (a : Answer) (b c : Bool) → (length ws <? 16) ≡ c
      → and_then a (and_then (refuse b 12) (body_answer ws)) ≡ and_then (and_then a (and_then (refuse b 12) (pick c (Refused 11 (length ws) 0) Fine))) (and_then a (body_answer ws))
  unfolding and_then refuse pick
  stages (Refused n x y) b c e = refl
  stages Fine true c e = refl
  stages Fine false true e = sym (short_body (yes_lt _ _ e))
  stages Fine false false e = refl

  pub opened_headed : opened N P ws ≡ and_then headed (accepts ws)
  unfolding opened headed accepts short_answer
  opened_headed = stages (header_answer ws) (other_limits N P ws) (length ws <? 16) refl

  pub opened_fine : Fine ≡ headed → {a : Answer} → a ≡ accepts ws → a ≡ opened N P ws
  opened_fine e q = then_fine (sym e) q ∙ sym opened_headed

  pub opened_refused : {n a b : ℕ} → Refused n a b ≡ headed → Refused n a b ≡ opened N P ws
  opened_refused {n} {a} {b} e = then_refused (accepts ws) n a b (sym e) ∙ sym opened_headed
