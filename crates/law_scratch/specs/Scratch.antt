-- Request Q-10: "Netlist and refusals are identical for every image and limits that the old scratch was large enough for." The promise with the former
-- sum stands here beside the present one. Where that call was not refused by 5, answer and netlist buffer are the same, and so is the scratch up to the
-- present sum; the words after it, which were cleared, are beyond now and stay as they were. Assumes nothing.
use Rattle.std.specs.Prelude.{ℕ, ◌+◌, ◌*◌, ◌≤◌, ◌≡◌, Bool, true, false, List, ◌++◌, length, drop, replicate}
use Rattle.std.proofs.Math.Path.{refl, ap}
use Rattle.std.proofs.Common.{sym, ◌∙◌, append_assoc, arith, take_at, drop_at}
use Rattle.std.proofs.Math.ListN.{take}
use Rattle.std.proofs.lemmas.List.{length-replicate, replicate-append-replicate}
use Rattle.spec_tests.specs.Rules.{◌<?◌, ◌or◌, pick, outside, Answer, Fine, Refused, and_then}
use Rattle.spec_tests.specs.Laws.{lt_no, no_lt}
use Rattle.spec_rules.specs.Image.{decode, count_at_of}
use Rattle.spec_rules.specs.Checks.{netlist_need, scratch_need, signal_bits, expr_bits, header, records, refuse, checked}
use Rattle.spec_rules.specs.Promise.{left, over}
use Rattle.spec_rules.specs.Promise as Promise
use Rattle.spec_model.specs.Lowering.{lower}
use Rattle.spec_call.specs.Call as Call
use Rattle.spec_call.specs.Call.{outcome, image_of}

-- ---- the promise with the former sum ----

-- "4 × signal bits + 2 × expression bits + 8 × expressions + 4N + 64 words"
unfoldable pub former_need : List ℕ → ℕ → ℕ
former_need s N = 4 * signal_bits s + 2 * expr_bits s + 8 * count_at_of s 1 + 4 * N + 64

unfoldable pub former_checked : List ℕ → ℕ → ℕ → ℕ → ℕ → Answer
former_checked s N P netlist scratch =
    and_then (refuse (outside N 1 65535 or outside P 0 65535) 1)
    (and_then (refuse (netlist <? netlist_need N P) 2)
    (and_then (header s)
    (and_then (records s)
    (refuse (scratch <? former_need s N) 5))))

module _ (s : List ℕ) (N P : ℕ) (buffer scratch : List ℕ) where
  abbrev formerly : Answer
  formerly = former_checked s N P (length buffer) (length scratch)

  abbrev pub former_answer : Answer
  former_answer = and_then formerly (outcome (lower (decode s) N P))

  abbrev pub former_buffer : List ℕ
  former_buffer = left formerly (outcome (lower (decode s) N P)) (netlist_need N P) (image_of N P (lower (decode s) N P)) buffer

  abbrev pub former_scratch : List ℕ
  former_scratch = left formerly (outcome (lower (decode s) N P)) (former_need s N) (replicate (former_need s N) 0) scratch

-- ---- against the present one ----

-- one word less for each bit of an expression
pub saved : (s : List ℕ) (N : ℕ) → scratch_need s N + expr_bits s ≡ former_need s N
unfolding scratch_need former_need
saved s N = omega arith

fits : (s : List ℕ) (N scratch : ℕ) → (scratch <? former_need s N) ≡ false → (scratch <? scratch_need s N) ≡ false
fits s N scratch e = lt_no scratch (scratch_need s N) (omega (arith, no_lt scratch (former_need s N) e, saved s N))

-- the checks before 5 are the same
chain : (a b c d : Answer) (t t' : Bool) → (t ≡ false → t' ≡ false) → (and_then a (and_then b (and_then c (and_then d (refuse t 5)))) ≡ Refused 5 0 0 → ⊥)
    → and_then a (and_then b (and_then c (and_then d (refuse t' 5)))) ≡ and_then a (and_then b (and_then c (and_then d (refuse t 5))))
unfolding refuse pick and_then
chain (Refused k x y) b c d t t' f g = refl
chain Fine (Refused k x y) c d t t' f g = refl
chain Fine Fine (Refused k x y) d t t' f g = refl
chain Fine Fine Fine (Refused k x y) t t' f g = refl
chain Fine Fine Fine Fine true t' f g = absurd (g refl)
chain Fine Fine Fine Fine false t' f g = rw (f refl)

module _ (s : List ℕ) (N P : ℕ) (buffer scratch : List ℕ) where
  -- the call was not refused for its scratch
  unrefused : (former_checked s N P (length buffer) (length scratch) ≡ Refused 5 0 0 → ⊥)
      → checked s N P (length buffer) (length scratch) ≡ former_checked s N P (length buffer) (length scratch)
  unfolding former_checked checked
  unrefused g = chain _ _ _ _ (length scratch <? former_need s N) (length scratch <? scratch_need s N) (fits s N (length scratch)) g

  -- the scratch has that sum's words, whatever the answer
  large : former_need s N ≤ length scratch → checked s N P (length buffer) (length scratch) ≡ former_checked s N P (length buffer) (length scratch)
  unfolding former_checked checked
  large h = rw (lt_no (length scratch) (former_need s N) h, lt_no (length scratch) (scratch_need s N) (omega (arith, saved s N)))

module _ (s : List ℕ) (N P : ℕ) (buffer scratch : List ℕ) (alike : checked s N P (length buffer) (length scratch) ≡ former_checked s N P (length buffer) (length scratch)) where
  same_answer : Call.answer s N P buffer scratch ≡ former_answer s N P buffer scratch
  unfolding Promise.answer
  same_answer = ap (λ (c : Answer). and_then c (outcome (lower (decode s) N P))) alike

  same_buffer : Call.buffer_after s N P buffer scratch ≡ former_buffer s N P buffer scratch
  unfolding Promise.buffer_after
  same_buffer = ap (λ (c : Answer). left c (outcome (lower (decode s) N P)) (netlist_need N P) (image_of N P (lower (decode s) N P)) buffer) alike

  begin : (n k : ℕ) → take n (replicate n 0 ++ drop n scratch) ≡ take n (replicate (n + k) 0 ++ drop (n + k) scratch)
  begin n k =
      take_at (replicate n 0) (drop n scratch) n (length-replicate n 0)
      ∙ sym (ap (λ (ws : List ℕ). take n (ws ++ drop (n + k) scratch)) (sym (replicate-append-replicate n k 0))
      ∙ ap (take n) (append_assoc (replicate n 0) (replicate k 0) (drop (n + k) scratch))
      ∙ take_at (replicate n 0) (replicate k 0 ++ drop (n + k) scratch) n (length-replicate n 0))

  -- both begin with as many zeros, where the checks pass
  zeros : (n k : ℕ) (c o : Answer) → take n (left c o n (replicate n 0) scratch) ≡ take n (left c o (n + k) (replicate (n + k) 0) scratch)
  unfolding left over
  zeros n k (Refused x y z) o = refl
  zeros n k Fine Fine = begin n k
  zeros n k Fine (Refused x y z) = begin n k

  same_scratch : take (scratch_need s N) (Call.scratch_after s N P buffer scratch) ≡ take (scratch_need s N) (former_scratch s N P buffer scratch)
  unfolding Promise.scratch_after
  same_scratch =
      ap (λ (c : Answer). take (scratch_need s N) (left c (outcome (lower (decode s) N P)) (scratch_need s N) (replicate (scratch_need s N) 0) scratch)) alike
      ∙ zeros (scratch_need s N) (expr_bits s) (former_checked s N P (length buffer) (length scratch)) (outcome (lower (decode s) N P))
      ∙ ap (λ (n : ℕ). take (scratch_need s N) (left (former_checked s N P (length buffer) (length scratch)) (outcome (lower (decode s) N P)) n (replicate n 0) scratch)) (saved s N)

-- answer, netlist buffer, and the scratch up to the present sum
pub record Same (s : List ℕ) (N P : ℕ) (buffer scratch : List ℕ) : Type 0 where
  pub answer : Call.answer s N P buffer scratch ≡ former_answer s N P buffer scratch
  pub left_buffer_law : Call.buffer_after s N P buffer scratch ≡ former_buffer s N P buffer scratch
  pub left_scratch_law : take (scratch_need s N) (Call.scratch_after s N P buffer scratch) ≡ take (scratch_need s N) (former_scratch s N P buffer scratch)

same : (s : List ℕ) (N P : ℕ) (buffer scratch : List ℕ) → checked s N P (length buffer) (length scratch) ≡ former_checked s N P (length buffer) (length scratch) → Same s N P buffer scratch
same s N P buffer scratch e = record {
  answer = same_answer s N P buffer scratch e;
  left_buffer_law = same_buffer s N P buffer scratch e;
  left_scratch_law = same_scratch s N P buffer scratch e;
}

-- where the call was not refused by 5
pub same_unrefused : (s : List ℕ) (N P : ℕ) (buffer scratch : List ℕ) → (former_checked s N P (length buffer) (length scratch) ≡ Refused 5 0 0 → ⊥) → Same s N P buffer scratch
same_unrefused s N P buffer scratch g = same s N P buffer scratch (unrefused s N P buffer scratch g)

-- where the scratch has the former words
pub same_large : (s : List ℕ) (N P : ℕ) (buffer scratch : List ℕ) → former_need s N ≤ length scratch → Same s N P buffer scratch
same_large s N P buffer scratch h = same s N P buffer scratch (large s N P buffer scratch h)

-- ---- the words from the present sum on ----

left_beyond : (c o : Answer) (n : ℕ) (buffer : List ℕ) → drop n (left c o n (replicate n 0) buffer) ≡ drop n buffer
unfolding left over
left_beyond (Refused k a b) o n buffer = refl
left_beyond Fine Fine n buffer = drop_at (replicate n 0) (drop n buffer) n (length-replicate n 0)
left_beyond Fine (Refused k a b) n buffer = drop_at (replicate n 0) (drop n buffer) n (length-replicate n 0)

-- whatever the answer and the scratch's length
pub untouched : (s : List ℕ) (N P : ℕ) (buffer scratch : List ℕ) → drop (scratch_need s N) (Call.scratch_after s N P buffer scratch) ≡ drop (scratch_need s N) scratch
unfolding Promise.scratch_after
untouched s N P buffer scratch = left_beyond (checked s N P (length buffer) (length scratch)) (outcome (lower (decode s) N P)) (scratch_need s N) scratch
