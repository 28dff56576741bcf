-- One law carries a computed row over to every call that keeps the promise. Assumes nothing.
use Rattle.std.specs.Prelude.{ℕ, ◌+◌, ◌*◌, ◌≤◌, ◌<◌, Bool, true, List, ◌++◌, map, ◌≡◌, refl, length, take, drop, get_or, replicate}
use Rattle.std.proofs.Math.Path.{sym, ap}
use Rattle.std.proofs.Common.{◌∙◌, length-drop, drop_at}
use native.Mathlib.Omega.{arith}
use Rattle.std.proofs.Math.ListN.{get_or-append}
use Rattle.std.proofs.lemmas.List.{take-append-le, drop-append-le}
use Rattle.spec_tests.specs.Rules.{◌<?◌, ◌≡?◌, ◌and◌, Answer, Fine, Refused, and_then}
use Rattle.spec_tests.specs.Laws.{lt_yes, lt_no, yes_lt, yes_eq, and_yes}
use Rattle.spec_rules.specs.Image.{decode}
use Rattle.spec_rules.specs.Checks.{checked, netlist_need, scratch_need}
use Rattle.spec_rules.specs.NetlistImage as Net
use Rattle.spec_rules.specs.NetlistImage.{records_of, records_with}
use Rattle.spec_rules.specs.Promise as Promise
use Rattle.spec_rules.specs.Promise.{left, over}
use Rattle.spec_model.specs.Builder.{Out}
use Rattle.spec_model.specs.Words.{Netlist}
use Rattle.spec_model.specs.Lowering.{lower}
use Rattle.spec_call.specs.Call.{outcome, image_of, numbers_of}
use Rattle.check_image.specs.Checked.{then_fine, then_refused, then_both, refuse_yes, refuse_no}
use Rattle.law_call.specs.Further.{Whole}
use Rattle.law_call.proofs.Further.{netlist_same}
use Rattle.bench.specs.Row.{Question, Numbers, Nets, AdderWidths, Carries, Outputs, ResetValue, output_number, reply, Row, words, room, Shows, Refuses, RowHolds, Promised}

-- ---- a row computed from the image's bytes ----

-- the n required words after an answer of the lowering
unfoldable pub required : Answer → ℕ → List ℕ → List ℕ
required Fine n ws = ws
required (Refused k a b) n ws = replicate n 0

-- they are n words, header, nodes and list records within them
unfoldable pub whole : List ℕ → ℕ → Bool
whole w n = length w ≡? n and get_or w 2 0 + 6 * get_or w 1 0 <? n + 1 and get_or w 4 0 + get_or w 3 0 <? n + 1

pub record Seen : Type 0 where
  pub checks : Answer
  pub numbers : List ℕ
  pub whole : Bool
  pub header : List ℕ
  pub found : List ℕ

abbrev pub lowered : Row → Out Netlist
lowered r = lower (decode r.image) r.limits.0 r.limits.1

unfoldable pub seen_in : Row → Answer → List ℕ → Seen
seen_in r a w = record {
  checks = checked r.image r.limits.0 r.limits.1 (words r) (room r);
  numbers = numbers_of a;
  whole = whole w (words r);
  header = take 16 w;
  found = reply r.asked (numbers_of a) w;
}

abbrev pub left_words : Row → List ℕ
left_words r = required (outcome (lowered r)) (words r) (image_of r.limits.0 r.limits.1 (lowered r))

-- what the definitions give, and what the row says
abbrev pub seen : Row → Seen
seen r = seen_in r (outcome (lowered r)) (left_words r)

abbrev pub said : Row → Seen
said r = record { checks = Fine; numbers = r.answer; whole = true; header = r.header; found = r.found }

-- ---- the words that follow do not matter ----

records_same : (w rest : List ℕ) → Whole w → records_of (w ++ rest) ≡ records_of w
unfolding records_of
records_same w rest h =
    let d : drop (get_or w 4 0) (w ++ rest) ≡ drop (get_or w 4 0) w ++ rest = drop-append-le (get_or w 4 0) w rest (omega (arith, h.list)) in
    let t : take (get_or w 3 0) (drop (get_or w 4 0) w ++ rest) ≡ take (get_or w 3 0) (drop (get_or w 4 0) w)
    = take-append-le (get_or w 3 0) (drop (get_or w 4 0) w) rest (omega (arith, h.list, length-drop (get_or w 4 0) w)) in
    rw (get_or-append w rest 0 3 (omega (arith, h.header)), get_or-append w rest 0 4 (omega (arith, h.header)), d, t)

reply_same : (q : Question) (n w rest : List ℕ) → Whole w → reply q n (w ++ rest) ≡ reply q n w
unfolding reply records_with
reply_same Numbers n w rest h = refl
reply_same Nets n w rest h = rw (get_or-append w rest 0 1 (omega (arith, h.header)))
reply_same AdderWidths n w rest h = rw (records_same w rest h)
reply_same Carries n w rest h = rw (records_same w rest h)
reply_same (Outputs width ps) n w rest h = ap (λ (l : Net.Netlist). map (output_number width l) ps) (netlist_same w h rest)
reply_same ResetValue n w rest h = rw (records_same w rest h)

whole_tells : (w : List ℕ) (n : ℕ) → 16 ≤ n → whole w n ≡ true → (length w ≡ n) × Whole w
unfolding whole
whole_tells w n l e =
    let a = and_yes e in
    let b = and_yes a.1 in
    let k = yes_eq _ _ a.0 in
    let x = yes_lt _ _ b.0 in
    let y = yes_lt _ _ b.1 in
    (k, record { header = omega arith; nodes = omega arith; list = omega arith })

-- ---- the checks, with buffers of any length ----

module _ (s : List ℕ) (N P : ℕ) (fine : checked s N P (netlist_need N P) (scratch_need s N) ≡ Fine) where
  checks_long : (b c : ℕ) → netlist_need N P ≤ b → scratch_need s N ≤ c → checked s N P b c ≡ Fine
  unfolding checked
  checks_long b c h k =
      let x = lt_no b _ h in
      let y = lt_no c _ k in
      let x' = lt_no (netlist_need N P) (netlist_need N P) (omega arith) in
      let y' = lt_no (scratch_need s N) (scratch_need s N) (omega arith) in
      rw (x, y) (rw (x', y') at fine)

  checks_short : (b c : ℕ) → b < netlist_need N P → checked s N P b c ≡ Refused 2 0 0
  unfolding checked
  checks_short b c h =
      let x = then_both _ _ fine in
      sym (then_fine x.0 (then_refused _ 2 0 0 (refuse_yes 2 (lt_yes b (netlist_need N P) h))))

  checks_tight : (b c : ℕ) → netlist_need N P ≤ b → c < scratch_need s N → checked s N P b c ≡ Refused 5 0 0
  unfolding checked
  checks_tight b c h k =
      let x = then_both _ _ fine in
      let y = then_both _ _ x.1 in
      let z = then_both _ _ y.1 in
      let v = then_both _ _ z.1 in
      let w = refuse_yes 5 (lt_yes c (scratch_need s N) k) in
      sym (then_fine x.0 (then_fine (refuse_no 2 (lt_no b (netlist_need N P) h)) (then_fine z.0 (then_fine v.0 (sym w)))))

-- ---- the law ----

then_is : (c a : Answer) → c ≡ Fine → and_then c a ≡ a
unfolding and_then
then_is c a e = rw e

left_is : (c a : Answer) (n : ℕ) (ws buffer : List ℕ) → c ≡ Fine → left c a n ws buffer ≡ required a n ws ++ drop n buffer
unfolding left over required
left_is c Fine n ws buffer e = rw e
left_is c (Refused k x y) n ws buffer e = rw e

required_zero : (a : Answer) (n : ℕ) → required a n (replicate n 0) ≡ replicate n 0
unfolding required
required_zero Fine n = refl
required_zero (Refused k x y) n = refl

module _ (r : Row) (e : seen r ≡ said r) where
  fine : checked r.image r.limits.0 r.limits.1 (words r) (room r) ≡ Fine
  unfolding seen_in
  fine = ap (λ (x : Seen). x.checks) e

  is_numbers : numbers_of (outcome (lowered r)) ≡ r.answer
  unfolding seen_in
  is_numbers = ap (λ (x : Seen). x.numbers) e

  is_whole_law : whole (left_words r) (words r) ≡ true
  unfolding seen_in
  is_whole_law = ap (λ (x : Seen). x.whole) e

  is_header : take 16 (left_words r) ≡ r.header
  unfolding seen_in
  is_header = ap (λ (x : Seen). x.header) e

  is_found : reply r.asked (numbers_of (outcome (lowered r))) (left_words r) ≡ r.found
  unfolding seen_in
  is_found = ap (λ (x : Seen). x.found) e

  many : 16 ≤ words r
  unfolding netlist_need
  many = omega arith

  tells : (length (left_words r) ≡ words r) × Whole (left_words r)
  tells = whole_tells (left_words r) (words r) many is_whole_law

  module _ (buffer scratch answer buffer' scratch' : List ℕ) (p : Promised r buffer scratch answer buffer' scratch') where
    module _ (h : words r ≤ length buffer) (k : room r ≤ length scratch) where
      passed : checked r.image r.limits.0 r.limits.1 (length buffer) (length scratch) ≡ Fine
      passed = checks_long r.image r.limits.0 r.limits.1 fine (length buffer) (length scratch) h k

      answer_is : answer ≡ numbers_of (outcome (lowered r))
      unfolding Promise.answer
      answer_is = p.numbers ∙ ap numbers_of (p.kept.answered ∙ then_is _ _ passed)

      buffer_is : buffer' ≡ left_words r ++ drop (words r) buffer
      unfolding Promise.buffer_after
      buffer_is = p.kept.left_buffer ∙ left_is _ (outcome (lowered r)) (words r) _ buffer passed

      scratch_is : scratch' ≡ replicate (room r) 0 ++ drop (room r) scratch
      unfolding Promise.scratch_after
      scratch_is = p.kept.left_scratch ∙ left_is _ (outcome (lowered r)) (room r) _ scratch passed ∙ rw (required_zero (outcome (lowered r)) (room r))

      shows : Shows r buffer scratch answer buffer' scratch'
      shows = record {
        numbers = answer_is ∙ is_numbers;
        heading = rw buffer_is (take-append-le 16 (left_words r) (drop (words r) buffer) (omega (arith, many, tells.0)) ∙ is_header);
        replies = rw (answer_is, buffer_is) (reply_same r.asked _ (left_words r) (drop (words r) buffer) tells.1 ∙ is_found);
        further = rw buffer_is (drop_at (left_words r) (drop (words r) buffer) (words r) tells.0);
        cleared = scratch_is;
      }

    -- the checks refuse: no buffer is touched
    refuses : (n : ℕ) → checked r.image r.limits.0 r.limits.1 (length buffer) (length scratch) ≡ Refused n 0 0 → Refuses n buffer scratch answer buffer' scratch'
    unfolding Promise.answer Promise.buffer_after Promise.scratch_after and_then left numbers_of
    refuses n q =
        let e : p.given ≡ Refused n 0 0 = p.kept.answered ∙ rw q in
        record { refused = p.numbers ∙ ap numbers_of e; same_buffer = p.kept.left_buffer ∙ rw q; same_scratch = p.kept.left_scratch ∙ rw q }

pub carried : (r : Row) → seen r ≡ said r → RowHolds r (Promised r)
carried r e = record {
  long = λ buffer scratch answer buffer' scratch' h k p. shows r e buffer scratch answer buffer' scratch' p h k;
  short_buffer = λ buffer scratch answer buffer' scratch' h p. refuses r e buffer scratch answer buffer' scratch' p 2 (checks_short r.image r.limits.0 r.limits.1 (fine r e) _ _ h);
  short_scratch = λ buffer scratch answer buffer' scratch' h k p. refuses r e buffer scratch answer buffer' scratch' p 5 (checks_tight r.image r.limits.0 r.limits.1 (fine r e) _ _ h k);
}
