-- The records of one sort by their number. Assumes nothing.
use Rattle.std.specs.Prelude.{ℕ, zero, suc, ◌+◌, ◌≤◌, ◌<◌, ◌≡◌, refl, Bool, true, false, List, [], ◌∷◌, ◌++◌, length, take, drop, get_or}
use Rattle.std.proofs.Common.{not-suc-le-zero, arith, sym, ap, ◌∙◌, append_assoc, length-append}
use Rattle.spec_tests.specs.Rules.{◌≡?◌, pick, only, Fine}
use Rattle.spec_tests.specs.Laws.{eq_yes, yes_eq}
use Rattle.spec_rules.specs.NetlistImage.{record_length, split, records_of, records_with}
use Rattle.spec_netlist.specs.Accept.{used, list_at_of, count_of, accepts}
use Rattle.law_told.specs.Told.{pick_yes, Told, length_some, RightHere, Right}
use Rattle.law_told.proofs.Told.{records_right}
use Rattle.law_told.specs.Ordered.{only_append}

abbrev pub of_sort : ℕ → List (List ℕ) → List (List ℕ)
of_sort t rs = only (λ r. get_or r 0 0 ≡? t) rs

-- record number i of sort t
pub record Found (ws : List ℕ) (t i : ℕ) : Type 0 where
  pub earlier : List (List ℕ)
  pub r : List ℕ
  pub later : List (List ℕ)
  pub place : records_of ws ≡ earlier ++ (r ∷ later)
  pub is : get_or (records_with t ws) i [] ≡ r
  pub number : count_of t earlier ≡ i
  pub sort : get_or r 0 0 ≡ t
  pub here : RightHere ws earlier r

record Somewhere (ws : List ℕ) (t : ℕ) (earlier rs : List (List ℕ)) (i : ℕ) : Type 0 where
  pub before : List (List ℕ)
  pub r : List ℕ
  pub later : List (List ℕ)
  pub place : earlier ++ rs ≡ before ++ (r ∷ later)
  pub is : get_or (of_sort t rs) i [] ≡ r
  pub number : length (of_sort t before) ≡ length (of_sort t earlier) + i
  pub sort : get_or r 0 0 ≡ t
  pub here : RightHere ws before r

pub sort_one : (t : ℕ) (rs : List (List ℕ)) (r : List ℕ) → (get_or r 0 0 ≡? t) ≡ true → of_sort t (rs ++ (r ∷ [])) ≡ of_sort t rs ++ (r ∷ [])
unfolding only
sort_one t rs r e = only_append (λ r. get_or r 0 0 ≡? t) rs (r ∷ []) ∙ ap (λ (z : List (List ℕ)). of_sort t rs ++ z) (pick_yes (get_or r 0 0 ≡? t) (r ∷ []) [] e)

some_where : (ws : List ℕ) (t : ℕ) (earlier rs : List (List ℕ)) → Right ws earlier rs → (i : ℕ) → i < length (of_sort t rs) → Somewhere ws t earlier rs i
unfolding only pick
some_where ws t earlier [] h i l = absurd (not-suc-le-zero l)
some_where ws t earlier (x ∷ xs) h i l = go (get_or x 0 0 ≡? t) refl i l (λ j m. some_where ws t (earlier ++ (x ∷ [])) xs h.1 j m)
  where
    on : (b : Bool) (j k : ℕ) → (get_or x 0 0 ≡? t) ≡ b → length (of_sort t (earlier ++ (x ∷ []))) + j ≡ length (of_sort t earlier) + k → Somewhere ws t (earlier ++ (x ∷ [])) xs j
        → get_or (pick b (x ∷ of_sort t xs) (of_sort t xs)) k [] ≡ get_or (of_sort t xs) j [] → Somewhere ws t earlier (x ∷ xs) k
    on b j k e n s g = record {
      before = s.before;
      r = s.r;
      later = s.later;
      place = sym (append_assoc earlier (x ∷ []) xs) ∙ s.place;
      is = ap (λ (z : Bool). get_or (pick z (x ∷ of_sort t xs) (of_sort t xs)) k []) e ∙ g ∙ s.is;
      number = s.number ∙ n;
      sort = s.sort;
      here = s.here;
    }

    go : (b : Bool) → (get_or x 0 0 ≡? t) ≡ b → (i : ℕ) → i < length (pick b (x ∷ of_sort t xs) (of_sort t xs))
        → ((j : ℕ) → j < length (of_sort t xs) → Somewhere ws t (earlier ++ (x ∷ [])) xs j) → Somewhere ws t earlier (x ∷ xs) i
    go true e zero l ih = record {
      before = earlier;
      r = x;
      later = xs;
      place = refl;
      is = ap (λ (z : Bool). get_or (pick z (x ∷ of_sort t xs) (of_sort t xs)) 0 []) e;
      number = omega arith;
      sort = yes_eq (get_or x 0 0) t e;
      here = h.0;
    }
    go true e (suc i) l ih =
        let n = ap length (sort_one t earlier x e) ∙ length-append (of_sort t earlier) (x ∷ []) in
        let z : length (x ∷ []) ≡ 1 = refl in
        on true i (suc i) e (omega arith) (ih i (omega arith)) refl
    go false e i l ih =
        let n : of_sort t (earlier ++ (x ∷ [])) ≡ of_sort t earlier ++ [] = only_append (λ r. get_or r 0 0 ≡? t) earlier (x ∷ []) ∙ ap (λ (z : Bool). of_sort t earlier ++ pick z (x ∷ []) []) e in
        let m = ap length n ∙ length-append (of_sort t earlier) [] in
        let z : length {A = List ℕ} [] ≡ 0 = refl in
        on false i i e (omega arith) (ih i l) refl

pub found : (ws : List ℕ) → Told ws → (t i : ℕ) → i < length (records_with t ws) → Found ws t i
unfolding records_with count_of only
found ws told t i l =
    let s = some_where ws t [] (records_of ws) (records_right ws told) i l in
    let z : 0 + i ≡ i = omega arith in
    record { earlier = s.before; r = s.r; later = s.later; place = s.place; is = s.is; number = s.number ∙ z; sort = s.sort; here = s.here }

-- a record's number among those of its sort
at_number : {A : Type 0} (xs : List A) (r : A) (ys : List A) (d : A) → get_or (xs ++ (r ∷ ys)) (length xs) d ≡ r
at_number [] r ys d = refl
at_number (x ∷ xs) r ys d = at_number xs r ys d

pub numbered : (ws : List ℕ) (t : ℕ) (earlier : List (List ℕ)) (r : List ℕ) (later : List (List ℕ)) → records_of ws ≡ earlier ++ (r ∷ later) → get_or r 0 0 ≡ t
    → (count_of t earlier < length (records_with t ws)) × (get_or (records_with t ws) (count_of t earlier) [] ≡ r)
unfolding records_with count_of only
numbered ws t earlier r later e s =
    let f : of_sort t (records_of ws) ≡ of_sort t earlier ++ (r ∷ of_sort t later) =
    ap (of_sort t) e ∙ only_append (λ r. get_or r 0 0 ≡? t) earlier (r ∷ later)
    ∙ ap (λ (z : List (List ℕ)). of_sort t earlier ++ z) (pick_yes (get_or r 0 0 ≡? t) (r ∷ of_sort t later) (of_sort t later) (eq_yes (get_or r 0 0) t s)) in
    let n = ap length f ∙ length-append (of_sort t earlier) (r ∷ of_sort t later) in
    let z : length (r ∷ of_sort t later) ≡ suc (length (of_sort t later)) = refl in
    (omega arith, ap (λ (z : List (List ℕ)). get_or z (length (of_sort t earlier)) []) f ∙ at_number (of_sort t earlier) r (of_sort t later) [])

-- a record has a word
pub has_word : {ws : List ℕ} {earlier : List (List ℕ)} {r : List ℕ} → RightHere ws earlier r → 0 < length r
has_word {r = r} h = let s = length_some (r ++ h.rest) in let f = h.fit in let l = h.long in omega arith

-- there are no more records of a sort than list words
sort_most : (t : ℕ) (rs : List (List ℕ)) → length (of_sort t rs) ≤ length rs
unfolding only pick
sort_most t [] = omega arith
sort_most t (r ∷ rs) = go (get_or r 0 0 ≡? t) (sort_most t rs)
  where
    go : (b : Bool) → length (of_sort t rs) ≤ length rs → length (pick b (r ∷ of_sort t rs) (of_sort t rs)) ≤ suc (length rs)
    go true h = omega arith
    go false h = omega arith

split_most : (n : ℕ) (l : List ℕ) → length (split n l) ≤ n
unfolding split
split_most zero l = omega arith
split_most (suc n) [] = omega arith
split_most (suc n) (x ∷ l) = let h = split_most n (drop (record_length (x ∷ l)) (x ∷ l)) in omega arith

pub count_few : (ws : List ℕ) → accepts ws ≡ Fine → (t : ℕ) → length (records_with t ws) ≤ used ws
unfolding records_with records_of only
count_few ws ok t = let a = sort_most t (split (used ws) (take (used ws) (drop (list_at_of ws) ws))) in let b = split_most (used ws) (take (used ws) (drop (list_at_of ws) ws)) in omega arith
