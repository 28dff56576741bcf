-- Bytes that are held: moved to the front of their buffer, and what is said of them at the input's end. Assumes nothing.
use Rattle.std.specs.Prelude.{ℕ, ◌+◌, ◌≤◌, ◌<◌, ◌≡◌, refl, List, [], ◌∷◌, ◌++◌, length, take, drop, get_or, set}
use Rattle.std.proofs.Common.{add-one, arith, sym, ap, ◌∙◌, length-set, length-drop, take-suc, take-suc-set, get_or-drop, get_or-set_other}
use Rattle.spec_tests.specs.Rules.{◌≡?◌, pick, Refused}
use Rattle.spec_tests.specs.Laws.{pick_hit, pick_skip, eq_yes, eq_no}
use Rattle.spec_trace.specs.Trace.{said}
use Rattle.listing_text.specs.Text.{Wrote, wrote_none, wrote_same, refusal_text}
use Rattle.trace_answer.specs.Settings.{said_is}

-- ---- the input's end ----

-- bytes that are left are a line without its end
unfoldable pub end_text : ℕ → ℕ → List ℕ
end_text left k = pick (left ≡? 0) [] (said (Refused 13 k 0))

pub end_none : {at : ℕ} {o : List ℕ} (left k : ℕ) → at ≤ length o → left ≡ 0 → Wrote o at (end_text left k) o at
unfolding end_text
end_none {at} {o} left k h e = wrote_same (sym (pick_hit _ (eq_yes left 0 e) refl)) (wrote_none o at h)

pub end_some : {at r : ℕ} {o o' : List ℕ} (left k : ℕ) → (left ≡ 0 → ⊥) → Wrote o at (refusal_text 13 k 0) o' r → Wrote o at (end_text left k) o' r
unfolding end_text
end_some left k e w = wrote_same (sym (pick_skip _ (eq_no left 0 e) (sym (said_is 13 k 0)))) w

-- ---- the move ----

-- i of them have been moved
pub record Moved (old : List ℕ) (from : ℕ) (bytes : List ℕ) (i : ℕ) : Type 0 where
  pub long : length bytes ≡ length old
  pub front : take i bytes ≡ take i (drop from old)
  pub rest : (j : ℕ) → i ≤ j → get_or bytes j 0 ≡ get_or old j 0

pub moved_none : (old : List ℕ) (from : ℕ) → Moved old from old 0
moved_none old from = record { long = refl; front = refl; rest = λ j h. refl }

pub moved_more : {old bytes : List ℕ} {from i x : ℕ} → Moved old from bytes i → from + i < length old → x ≡ get_or bytes (from + i) 0 → Moved old from (set bytes i x) (i + 1)
moved_more {old} {bytes} {from} {i} {x} m h e = record {
  long = length-set bytes i x ∙ m.long;
  front = rw add-one (
      let l = m.long in
      let d = length-drop from old in
      take-suc-set bytes i x (omega arith)
      ∙ ap (λ (l : List ℕ). l ++ (x ∷ [])) m.front
      ∙ ap (λ (y : ℕ). take i (drop from old) ++ (y ∷ [])) (e ∙ m.rest (from + i) (omega arith) ∙ sym (get_or-drop from old i 0))
      ∙ sym (take-suc (drop from old) i 0 (omega arith)));
  rest = λ j k. get_or-set_other bytes i j x 0 (λ z. absurd (omega arith)) ∙ m.rest j (omega arith);
}
