-- The list's records up to list word p are judged: what is known of the answer, of the records so far, of marks and counts. Assumes nothing.
use Rattle.std.specs.Prelude.{ℕ, zero, suc, ◌+◌, ◌-◌, ◌<◌, ◌≤◌, Bool, true, false, ◌≡◌, refl, List, [], ◌∷◌, ◌++◌, length, take, drop, get_or, Option, Some, None}
use Rattle.std.proofs.Common.{true≢false, sym, ◌∙◌, subst, append-nil, append_assoc, length-append, length-take, length-drop, eq-or-lt_of_le, ⊎_elim, drop-drop, get_or-take}
use Rattle.std.proofs.Math.Path.{ap, ap₂}
use native.Mathlib.Omega.{arith}
use Rattle.spec_tests.specs.Rules.{◌<?◌, ◌≡?◌, ◌≢?◌, pick, first, up_to, only, Answer, Fine, Refused}
use Rattle.spec_tests.specs.Laws.{none, first_most, pick_hit, pick_skip, lt_yes, lt_no, eq_yes, ne_no, no_lt, yes_eq, no_eq, or_no}
use Rattle.spec_rules.specs.NetlistImage.{record_length, split, records_of}
use Rattle.spec_netlist.specs.Accept.{nets, used, list_at_of, ports_length, extent, count_of, taken, wrong_word, judged, list_answer}
use Rattle.law_told.specs.Walked.{drop_take}
use Rattle.law_told.specs.Told.{length_some, other_extent, memory_length_law}
use Rattle.law_told.proofs.Told.{right_extent, fits}
use Rattle.stored_list.specs.Sorts.{word_first}
use Rattle.spec_tests.specs.Options.{first_of}
use Rattle.stored_view.specs.Found.{some_first, none_first}
use Rattle.stored_view.specs.Opened.{Opened, Marked, Counted}

-- the list words used from list word p on
abbrev pub list_from : List ℕ → ℕ → List ℕ
list_from ws p = take (used ws - p) (drop (list_at_of ws + p) ws)

pub record Walking (ws : List ℕ) (p : ℕ) (marks counts : List ℕ) : Type 0 where
  pub earlier : List (List ℕ)
  pub left : ℕ
  pub enough : used ws ≤ p + left
  pub few : length earlier ≤ p
  pub within : p ≤ used ws
  pub answer : list_answer ws ≡ judged ws left earlier (list_at_of ws + p) (list_from ws p)
  pub records : records_of ws ≡ earlier ++ split left (list_from ws p)
  pub marked : Marked ws earlier marks
  pub counted : Counted earlier counts

-- ---- at the start ----

module _ (ws marks counts : List ℕ) (clear : (x : ℕ) → x < nets ws → get_or marks x 0 ≡ 0) (zeros : (t : ℕ) → get_or counts t 0 ≡ 0) where
  start_list : take (used ws) (drop (list_at_of ws) ws) ≡ list_from ws 0
  start_list =
      let n : used ws ≡ used ws - 0 = omega arith in
      let k : list_at_of ws ≡ list_at_of ws + 0 = omega arith in
      ap₂ (λ (i j : ℕ). take i (drop j ws)) n k

  start_answer : list_answer ws ≡ judged ws (used ws) [] (list_at_of ws + 0) (list_from ws 0)
  unfolding list_answer
  start_answer = let k : list_at_of ws ≡ list_at_of ws + 0 = omega arith in ap₂ (judged ws (used ws) []) k start_list

  start_records : records_of ws ≡ [] ++ split (used ws) (list_from ws 0)
  unfolding records_of
  start_records = ap (split (used ws)) start_list

  start_marked : (x : ℕ) → x < nets ws → (get_or marks x 0 ≢? 0) ≡ taken [] x
  unfolding taken
  start_marked x h = ne_no _ 0 (clear x h)

  start_counted : (t : ℕ) → t < 5 → get_or counts t 0 ≡ count_of t []
  unfolding count_of only
  start_counted t h = zeros t

  pub start : Walking ws 0 marks counts
  start = record {
    earlier = [];
    left = used ws;
    enough = omega arith;
    few = omega arith;
    within = omega arith;
    answer = start_answer;
    records = start_records;
    marked = record { says = start_marked };
    counted = record { says = start_counted };
  }

-- ---- one record ----

up_to_early : (p : ℕ → Bool) (i k j : ℕ) → i ≤ j → j < i + k → p j ≡ true → up_to p i k ≤ j
unfolding up_to pick
up_to_early p i zero j a b e = absurd (omega arith)
up_to_early p i (suc k) j a b e = go (p i) refl (up_to_early p (suc i) k j)
  where
    go : (t : Bool) → p i ≡ t → (suc i ≤ j → j < suc i + k → p j ≡ true → up_to p (suc i) k ≤ j) → pick t i (up_to p (suc i) k) ≤ j
    go true q ih = a
    go false q ih = ⊎_elim (λ (s : i ≡ j). absurd (true≢false (sym e ∙ (ap p (sym s) ∙ q)))) (λ (s : i < j). ih s (omega arith) e) (eq-or-lt_of_le a)

-- the first wrong word is not after one that is wrong
first_early : (p : ℕ → Bool) (n j : ℕ) → j < n → p j ≡ true → first p n ≤ j
unfolding first
first_early p n j h e = up_to_early p 0 n j (omega arith) (omega arith) e

judged_turn : (ws : List ℕ) (n : ℕ) (earlier : List (List ℕ)) (place : ℕ) (l : List ℕ) → 0 < length l
    → judged ws (suc n) earlier place l ≡ pick (first (wrong_word ws earlier l) (record_length l) <? record_length l) (Refused 11 (place + first (wrong_word ws earlier l) (record_length l)) 0)
    (judged ws n (earlier ++ (take (record_length l) l ∷ [])) (place + record_length l) (drop (record_length l) l))
unfolding judged
judged_turn ws n earlier place [] h = absurd (omega arith)
judged_turn ws n earlier place (x ∷ l) h = refl

split_turn : (n : ℕ) (l : List ℕ) → 0 < length l → split (suc n) l ≡ take (record_length l) l ∷ split n (drop (record_length l) l)
unfolding split
split_turn n [] h = absurd (omega arith)
split_turn n (x ∷ l) h = refl

judged_end : (ws : List ℕ) (n : ℕ) (earlier : List (List ℕ)) (place : ℕ) → judged ws n earlier place [] ≡ Fine
unfolding judged
judged_end ws zero earlier place = refl
judged_end ws (suc n) earlier place = refl

split_end : (n : ℕ) → split n [] ≡ []
unfolding split
split_end zero = refl
split_end (suc n) = refl

six : (l : List ℕ) → get_or l 0 0 ≡ 2 → 6 ≤ extent l
unfolding extent
six l e =
    let x : 6 + ports_length (get_or l 5 0) (drop 6 l) ≡ pick (get_or l 0 0 ≡? 2) (6 + ports_length (get_or l 5 0) (drop 6 l)) (record_length l) = pick_hit _ (eq_yes _ _ e) refl in
    omega arith

-- a wrong word is there, also in a record that does not fit
module _ (ws : List ℕ) (earlier : List (List ℕ)) (l : List ℕ) (some : 0 < length l) where
  abbrev wrong : ℕ → Bool
  wrong = wrong_word ws earlier l

  first_there : first wrong (record_length l) < record_length l → first wrong (record_length l) < length l
  first_there h = go (wrong 0) refl
    where
      -- a memory with another port count has its first six words
      ports : extent l ≤ length l → wrong 5 ≡ true → (t : Bool) → (get_or l 0 0 ≡? 2) ≡ t → first wrong (record_length l) < length l
      ports f e true q =
          let m = memory_length_law l (yes_eq _ _ q) in
          let s = first_early wrong (record_length l) 5 (omega arith) e in
          let x = six l (yes_eq _ _ q) in
          omega arith
      ports f e false q = let x = other_extent l (no_eq _ _ q) in omega arith

      fifth : extent l ≤ length l → (t : Bool) → wrong 5 ≡ t → first wrong (record_length l) < length l
      fifth f true e = ports f e (get_or l 0 0 ≡? 2) refl
      fifth f false e = let x = right_extent ws earlier l (λ z. e) in omega arith

      go : (t : Bool) → wrong 0 ≡ t → first wrong (record_length l) < length l
      go true e = let m = first_early wrong (record_length l) 0 (length_some l) e in omega arith
      go false e = fifth (no_lt (length l) (extent l) (or_no (sym (word_first ws earlier l) ∙ e)).1) (wrong 5) refl

-- the list words from p on, where the list is in the slice
from_length : (ws : List ℕ) (p : ℕ) → Opened ws → p ≤ used ws → length (list_from ws p) ≡ used ws - p
from_length ws p o h =
    let a = length-take (used ws - p) (drop (list_at_of ws + p) ws) in
    let b = length-drop (list_at_of ws + p) ws in
    let c = o.list_fits in
    omega arith

from_dropped : (ws : List ℕ) (p k : ℕ) → drop k (list_from ws p) ≡ list_from ws (p + k)
from_dropped ws p k =
    let n : used ws - p - k ≡ used ws - (p + k) = omega arith in
    let j : list_at_of ws + p + k ≡ list_at_of ws + (p + k) = omega arith in
    drop_take k (used ws - p) (drop (list_at_of ws + p) ws)
    ∙ (ap (take (used ws - p - k)) (drop-drop k (list_at_of ws + p) ws) ∙ ap₂ (λ (a b : ℕ). take a (drop b ws)) n j)

module _ {ws : List ℕ} {p : ℕ} {marks counts : List ℕ} (w : Walking ws p marks counts) (o : Opened ws) (h : p < used ws) where
  abbrev l : List ℕ
  l = list_from ws p

  abbrev k : ℕ
  k = record_length l

  abbrev i : ℕ
  i = first (wrong_word ws w.earlier l) k

  some : 0 < length l
  some = let e = from_length ws p o w.within in omega arith

  at_turn : list_answer ws ≡ pick (i <? k) (Refused 11 (list_at_of ws + p + i) 0) (judged ws (w.left - 1) (w.earlier ++ (take k l ∷ [])) (list_at_of ws + p + k) (drop k l))
  at_turn =
      let n : w.left ≡ suc (w.left - 1) = let q = w.enough in omega arith in
      w.answer ∙ (ap (λ (m : ℕ). judged ws m w.earlier (list_at_of ws + p) l) n ∙ judged_turn ws (w.left - 1) w.earlier (list_at_of ws + p) l some)

  pub turn_wrong : {r : ℕ} → r ≡ i → r < k → list_answer ws ≡ pick (p + r <? used ws) (Refused 11 (list_at_of ws + (p + r)) 0) Fine
  turn_wrong {r} e b =
      let e' : first (wrong_word ws w.earlier l) k ≡ r = sym e in
      let t = first_there ws w.earlier l some (omega arith) in
      let n = from_length ws p o w.within in
      at_turn
      ∙ (sym (pick_hit _ (lt_yes i k (omega arith)) refl)
      ∙ (ap (λ (j : ℕ). Refused 11 j 0) (omega arith) ∙ pick_hit _ (lt_yes (p + r) (used ws) (omega arith)) refl))

  module _ {r : ℕ} (e : r ≡ i) (b : k ≤ r) where
    right : (j : ℕ) → j < k → wrong_word ws w.earlier l j ≡ false
    right = none (wrong_word ws w.earlier l) k (let m = first_most (wrong_word ws w.earlier l) k in omega arith)

    pub turn_fits : p + k ≤ used ws
    turn_fits =
        let f = fits ws w.earlier l right in
        let n = from_length ws p o w.within in
        omega arith

    pub turn_next : {marks' counts' : List ℕ} → Marked ws (w.earlier ++ (take k l ∷ [])) marks' → Counted (w.earlier ++ (take k l ∷ [])) counts' → Walking ws (p + k) marks' counts'
    turn_next m c = record {
      earlier = w.earlier ++ (take k l ∷ []);
      left = w.left - 1;
      enough = let q = w.enough in let s = length_some l in omega arith;
      few = let q = w.few in let s = length_some l in let a = length-append w.earlier (take k l ∷ []) in omega arith;
      within = turn_fits;
      answer = at_turn ∙ (sym (pick_skip _ (lt_no i k (omega arith)) refl) ∙ ap₂ (judged ws (w.left - 1) (w.earlier ++ (take k l ∷ []))) (omega arith) (from_dropped ws p k));
      records =
          let n : w.left ≡ suc (w.left - 1) = let q = w.enough in omega arith in
          w.records
          ∙ (ap (λ (m : ℕ). w.earlier ++ split m l) n
          ∙ (ap (λ (s : List (List ℕ)). w.earlier ++ s) (split_turn (w.left - 1) l some ∙ ap (λ (s : List ℕ). take k l ∷ split (w.left - 1) s) (from_dropped ws p k))
          ∙ sym (append_assoc w.earlier (take k l ∷ []) (split (w.left - 1) (list_from ws (p + k))))));
      marked = m;
      counted = c;
    }

-- the same of what the loop has read: l are the list words from p on, k the record's length, r its first wrong word
module _ {ws : List ℕ} {p : ℕ} {marks counts : List ℕ} (w : Walking ws p marks counts) (o : Opened ws) (h : p < used ws) {l : List ℕ} (e : l ≡ list_from ws p) where
  pub met_some : 0 < length l
  met_some = let s = some w o h in omega (arith, ap length e)

  pub met_short : length l ≤ 65535
  met_short =
      let s = from_length ws p o w.within in
      let u = o.few_words_of in
      omega (arith, ap length e)

  module _ {k r : ℕ} (q : k ≡ record_length l) (f : r ≡ first (wrong_word ws w.earlier l) (record_length l)) where
    found : r ≡ first (wrong_word ws w.earlier (list_from ws p)) (record_length (list_from ws p))
    found = f ∙ ap (λ (s : List ℕ). first (wrong_word ws w.earlier s) (record_length s)) e

    long : k ≡ record_length (list_from ws p)
    long = q ∙ ap record_length e

    pub met_wrong : r < k → list_answer ws ≡ pick (p + r <? used ws) (Refused 11 (list_at_of ws + (p + r)) 0) Fine
    met_wrong b = turn_wrong w o h found (omega (arith, long))

    pub met_inside : r < k → p + r < used ws
    met_inside b =
        let t = first_there ws w.earlier (list_from ws p) (some w o h) (omega (arith, long, found)) in
        let n = from_length ws p o w.within in
        omega (arith, found)

    module _ (b : k ≤ r) {g : List ℕ} (z : g ≡ take k l) where
      pub met_fits : p + k ≤ used ws
      met_fits = omega (arith, long, turn_fits w o h found (omega (arith, long)))

      pub met_some_more : 0 < k
      met_some_more = omega (arith, q, length_some l)

      pub met_sort : get_or g 0 0 < 5
      met_sort =
          let s = right w o h found (omega (arith, long)) 0 (length_some (list_from ws p)) in
          let t = no_lt 4 (get_or (list_from ws p) 0 0) (or_no (sym (word_first ws w.earlier (list_from ws p)) ∙ s)).0 in
          let y : get_or g 0 0 ≡ get_or (list_from ws p) 0 0 = ap (λ (x : List ℕ). get_or x 0 0) z ∙ (get_or-take k l 0 0 (omega (arith, q, length_some l)) ∙ ap (λ (x : List ℕ). get_or x 0 0) e) in
          omega arith

      same_record : g ≡ take (record_length (list_from ws p)) (list_from ws p)
      same_record = z ∙ ap₂ take long e

      pub met_next : {marks' counts' : List ℕ} → Marked ws (w.earlier ++ (g ∷ [])) marks' → Counted (w.earlier ++ (g ∷ [])) counts' → Walking ws (p + k) marks' counts'
      met_next {marks'} {counts'} m c =
          subst (λ (n : ℕ). Walking ws (p + n) marks' counts') (sym long)
          (turn_next w o h found (omega (arith, long))
          (subst (λ (x : List ℕ). Marked ws (w.earlier ++ (x ∷ [])) marks') same_record m)
          (subst (λ (x : List ℕ). Counted (w.earlier ++ (x ∷ [])) counts') same_record c))

-- ---- at the end ----

module _ {ws : List ℕ} {p : ℕ} {marks counts : List ℕ} (w : Walking ws p marks counts) (o : Opened ws) (h : used ws ≤ p) where
  last_list : list_from ws p ≡ []
  last_list = let n : used ws - p ≡ 0 = omega arith in ap (λ (m : ℕ). take m (drop (list_at_of ws + p) ws)) n

  pub last_answer : list_answer ws ≡ pick (used ws <? used ws) (Refused 11 (list_at_of ws + used ws) 0) Fine
  last_answer =
      w.answer
      ∙ (ap (judged ws w.left w.earlier (list_at_of ws + p)) last_list ∙ (judged_end ws w.left w.earlier (list_at_of ws + p) ∙ pick_skip _ (lt_no (used ws) (used ws) (omega arith)) refl))

  last_records : w.earlier ≡ records_of ws
  last_records = sym (w.records ∙ (ap (λ (s : List (List ℕ)). w.earlier ++ s) (ap (split w.left) last_list ∙ split_end w.left) ∙ append-nil w.earlier))

  pub last_marked : Marked ws (records_of ws) marks
  last_marked = subst (λ (rs : List (List ℕ)). Marked ws rs marks) last_records w.marked

  pub last_counted : Counted (records_of ws) counts
  last_counted = subst (λ (rs : List (List ℕ)). Counted rs counts) last_records w.counted

-- ---- few records so far: counts have room ----

count_few : (t : ℕ) (rs : List (List ℕ)) → count_of t rs ≤ length rs
unfolding count_of only pick
count_few t [] = omega arith
count_few t (r ∷ rs) = go (get_or r 0 0 ≡? t) (count_few t rs)
  where
    go : (b : Bool) → length (only (λ s. get_or s 0 0 ≡? t) rs) ≤ length rs → length (pick b (r ∷ only (λ s. get_or s 0 0 ≡? t) rs) (only (λ s. get_or s 0 0 ≡? t) rs)) ≤ suc (length rs)
    go true q = omega arith
    go false q = omega arith

pub counts_room : {ws : List ℕ} {p : ℕ} {marks counts : List ℕ} → Walking ws p marks counts → Opened ws → (t : ℕ) → t < 5 → get_or counts t 0 < 4294967295
counts_room w o t h =
    let c = w.counted.says t h in
    let f = count_few t w.earlier in
    let g = w.few in
    let v = w.within in
    let u = o.few_words_of in
    omega arith

-- ---- the place found ----

-- the list's answer for the list word that is wrong, if there is one
abbrev pub told_at : List ℕ → Option ℕ → Answer
told_at ws (Some i) = Refused 11 (list_at_of ws + i) 0
told_at ws None = Fine

module _ {ws : List ℕ} {p : ℕ} {marks counts : List ℕ} (w : Walking ws p marks counts) (o : Opened ws) where
  module _ (h : p < used ws) {l : List ℕ} (e : l ≡ list_from ws p) where
    pub met_found : {i : ℕ} → Some i ≡ first_of (wrong_word ws w.earlier l) (record_length l) → list_answer ws ≡ told_at ws (Some (p + i))
    met_found t =
        let s = some_first _ t in
        met_wrong w o h e refl s.1 s.0 ∙ sym (pick_hit _ (lt_yes _ _ (met_inside w o h e refl s.1 s.0)) refl)

    pub met_room : {i : ℕ} → Some i ≡ first_of (wrong_word ws w.earlier l) (record_length l) → p + i < used ws
    met_room t = let s = some_first _ t in met_inside w o h e refl s.1 s.0

    pub met_clean : {k : ℕ} → k ≡ record_length l → None ≡ first_of (wrong_word ws w.earlier l) (record_length l) → k ≤ first (wrong_word ws w.earlier l) (record_length l)
    met_clean q t = omega (arith, q, none_first _ t)

  pub last_told : used ws ≤ p → list_answer ws ≡ told_at ws None
  last_told h = last_answer w o h ∙ sym (pick_skip _ (lt_no (used ws) (used ws) (omega arith)) refl)
