-- A walk over the records of an accepted netlist that keeps the places of those of one sort. Assumes nothing.
use Rattle.std.specs.Prelude.{ℕ, ◌+◌, ◌-◌, ◌≤◌, ◌<◌, ◌≡◌, refl, Bool, true, false, List, [], ◌∷◌, ◌++◌, length, take, drop, get_or, set}
use Rattle.std.proofs.Common.{not-suc-le-zero, arith, sym, ap, subst, ◌∙◌, append_assoc, append-nil, take-append-drop, length-append, get_or-set_same, get_or-set_other}
use Rattle.std.proofs.Math.Decide.{dec_lt}
use Rattle.std.proofs.Math.ListN.{get_or-append}
use Rattle.spec_tests.specs.Rules.{◌≡?◌, pick, only, Fine}
use Rattle.spec_rules.specs.NetlistImage.{record_length, records_of, records_with}
use Rattle.spec_model.specs.Words.{list_words}
use Rattle.spec_netlist.specs.Accept.{used, list_at_of, accepts}
use Rattle.spec_netlist.specs.Given.{list_from, record_from, record_given}
use Rattle.law_told.specs.Told.{pick_yes, told, list_starts_law, few_words, length_some}
use Rattle.law_told.specs.Ordered.{only_append}
use Rattle.law_told.specs.Given.{Gives, list_append}
use Rattle.law_told.proofs.Given.{given_records, given_end}
use Rattle.trace_walk.specs.Places.{Begins, Placed, Places}

abbrev of_sort : ℕ → List (List ℕ) → List (List ℕ)
of_sort sort rs = only (λ r. get_or r 0 0 ≡? sort) rs

-- the records up to list word p have been met, and n places are kept
pub record Walking (ws : List ℕ) (sort p n : ℕ) (out : List ℕ) : Type 0 where
  pub earlier : List (List ℕ)
  pub later : List (List ℕ)
  pub all : records_of ws ≡ earlier ++ later
  pub place : p ≡ length (list_words earlier)
  pub few : n ≤ p
  pub kept : Placed ws (of_sort sort earlier) out n

pub start : (ws : List ℕ) (sort : ℕ) (out : List ℕ) → Walking ws sort 0 0 out
unfolding only
start ws sort out = record {
  earlier = [];
  later = records_of ws;
  all = refl;
  place = refl;
  few = omega arith;
  kept = record { count = refl; at = λ i h. absurd (not-suc-le-zero h) };
}

-- ---- one record more ----

split_off : (ws : List ℕ) → accepts ws ≡ Fine → {sort p n : ℕ} {out : List ℕ} (w : Walking ws sort p n out) → p < used ws
    → {P : Type 0} → ((r : List ℕ) (later' : List (List ℕ)) → w.later ≡ r ∷ later' → P) → P
split_off ws ok {p = p} w h {P} k = go w.later refl
  where
    go : (xs : List (List ℕ)) → w.later ≡ xs → P
    go [] e =
        let a : length (list_words (records_of ws)) ≡ length (list_words w.earlier) + 0 =
        ap (λ (z : List (List ℕ)). length (list_words z)) (w.all ∙ ap (λ (z : List (List ℕ)). w.earlier ++ z) e) ∙ ap length (list_append w.earlier []) ∙ length-append (list_words w.earlier) [] in
        let b = (given_end ws ok).0 in
        let c = w.place in
        absurd (omega arith)
    go (r ∷ xs) e = k r xs e

-- the record that begins at list word p
pub record Met (ws : List ℕ) (earlier : List (List ℕ)) (p : ℕ) : Type 0 where
  pub r : List ℕ
  pub later : List (List ℕ)
  pub all : records_of ws ≡ earlier ++ (r ∷ later)
  pub sort : get_or (list_from ws p) 0 0 ≡ get_or r 0 0
  pub long : record_length (list_from ws p) ≡ length r
  pub begins : Begins ws (list_at_of ws + p) r
  pub ends : p + length r ≤ used ws
  pub some : 0 < length r

begins_at : (ws : List ℕ) (p : ℕ) (r : List ℕ) → record_from ws p ≡ r → Begins ws (list_at_of ws + p) r
unfolding record_from
begins_at ws p r e =
    let L = list_from ws p in
    let D = drop (list_at_of ws + p) ws in
    record {
      rest = drop (record_length L) L ++ drop (used ws - p) D;
      is = sym (take-append-drop (used ws - p) D) ∙ ap (λ (z : List ℕ). z ++ drop (used ws - p) D) (sym (take-append-drop (record_length L) L) ∙ ap (λ (z : List ℕ). z ++ drop (record_length L) L) e)
          ∙ append_assoc r (drop (record_length L) L) (drop (used ws - p) D);
    }

given_words : (ws : List ℕ) (p : ℕ) (r : List ℕ) → Gives ws p r → (get_or (list_from ws p) 0 0 ≡ get_or r 0 0) × (record_length (list_from ws p) ≡ length r)
unfolding record_given
given_words ws p r g =
    let e = sym (pick_yes _ _ _ g.begins) ∙ g.given in
    (ap (λ (z : List ℕ). get_or z 0 0) e, ap (λ (z : List ℕ). get_or z 1 0) e)

-- a record has a word
some_words : (ws : List ℕ) → accepts ws ≡ Fine → (a : List (List ℕ)) (r : List ℕ) (b : List (List ℕ)) → records_of ws ≡ a ++ (r ∷ b) → 0 < length r
some_words ws ok a r b e =
    let p = length (list_words a) in
    let g = (given_words ws p r (given_records ws ok a r b e)).1 in
    let s = length_some (list_from ws p) in
    omega arith

pub met : (ws : List ℕ) → accepts ws ≡ Fine → {sort p n : ℕ} {out : List ℕ} (w : Walking ws sort p n out) → p < used ws → Met ws w.earlier p
met ws ok {p = p} w h = split_off ws ok w h (λ r later' e.
    let all = w.all ∙ ap (λ (z : List (List ℕ)). w.earlier ++ z) e in
    let g = subst (λ (z : ℕ). Gives ws z r) (sym w.place) (given_records ws ok w.earlier r later' all) in
    let a : length (list_words (records_of ws)) ≡ length (list_words w.earlier) + (length r + length (list_words later')) =
    ap (λ (z : List (List ℕ)). length (list_words z)) all ∙ ap length (list_append w.earlier (r ∷ later')) ∙ length-append (list_words w.earlier) (r ++ list_words later')
    ∙ ap (λ (z : ℕ). length (list_words w.earlier) + z) (length-append r (list_words later')) in
    let b = (given_end ws ok).0 in
    let c = w.place in
    let l = (given_words ws p r g).1 in
    let s = length_some (list_from ws p) in
    record {
      r = r;
      later = later';
      all = all;
      sort = (given_words ws p r g).0;
      long = l;
      begins = begins_at ws p r g.words;
      ends = omega arith;
      some = omega arith;
    })

-- a list with one element more
at_last : {A : Type 0} (xs : List A) (x d : A) → get_or (xs ++ (x ∷ [])) (length xs) d ≡ x
at_last [] x d = refl
at_last (y ∷ xs) x d = at_last xs x d

placed_more : {ws : List ℕ} {rs : List (List ℕ)} {out : List ℕ} {n : ℕ} → Placed ws rs out n → n < length out → (r : List ℕ) (a : ℕ) → Begins ws a r → Placed ws (rs ++ (r ∷ [])) (set out n a) (n + 1)
placed_more {ws} {rs} {out} {n} p h r a b = record {
  count = let c = p.count in let l = length-append rs (r ∷ []) in let z : length (r ∷ []) ≡ 1 = refl in omega arith;
  at = λ i l. elim (dec_lt i n) [
    | yes m ↦ (
        let c = p.count in
        subst (λ (z : List ℕ). Begins ws (get_or (set out n a) i 0) z) (sym (get_or-append rs (r ∷ []) [] i (omega arith)))
        (subst (λ (z : ℕ). Begins ws z (get_or rs i [])) (sym (get_or-set_other out n i a 0 (λ e. absurd (omega arith)))) (p.at i m)))
    | no m ↦ (
        let c = p.count in
        let e : i ≡ n = omega arith in
        let f : get_or (set out n a) i 0 ≡ a = ap (λ (k : ℕ). get_or (set out n a) k 0) e ∙ get_or-set_same out n a 0 h in
        let g : get_or (rs ++ (r ∷ [])) i [] ≡ r = ap (λ (k : ℕ). get_or (rs ++ (r ∷ [])) k []) (e ∙ c) ∙ at_last rs r [] in
        subst (λ (z : ℕ). Begins ws z (get_or (rs ++ (r ∷ [])) i [])) (sym f) (subst (λ (z : List ℕ). Begins ws a z) (sym g) b))
  ];
}

sort_more : (sort : ℕ) (rs : List (List ℕ)) (r : List ℕ) → of_sort sort (rs ++ (r ∷ [])) ≡ pick (get_or r 0 0 ≡? sort) (of_sort sort rs ++ (r ∷ [])) (of_sort sort rs)
unfolding only pick
sort_more sort rs r = only_append (λ r. get_or r 0 0 ≡? sort) rs (r ∷ []) ∙ go (get_or r 0 0 ≡? sort)
  where
    go : (b : Bool) → only (λ r. get_or r 0 0 ≡? sort) rs ++ pick b (r ∷ []) [] ≡ pick b (only (λ r. get_or r 0 0 ≡? sort) rs ++ (r ∷ [])) (only (λ r. get_or r 0 0 ≡? sort) rs)
    go true = refl
    go false = append-nil (only (λ r. get_or r 0 0 ≡? sort) rs)

-- the walk goes on
next : (ws : List ℕ) → accepts ws ≡ Fine → {sort p n : ℕ} {out : List ℕ} (w : Walking ws sort p n out) → (h : p < used ws) → n < length out
    → (l : List ℕ) → l ≡ list_from ws p → (k : ℕ) → k ≡ record_length l → (a : ℕ) → a ≡ list_at_of ws + p
    → (n' : ℕ) → n' ≡ pick (get_or l 0 0 ≡? sort) (n + 1) n → (out' : List ℕ) → out' ≡ pick (get_or l 0 0 ≡? sort) (set out n a) out → Walking ws sort (p + k) n' out'
unfolding pick
next ws ok {sort} {p} {n} {out} w h room l el k ek a ea n' en out' eo =
    let m = met ws ok w h in
    let r = m.r in
    let s : get_or l 0 0 ≡ get_or r 0 0 = ap (λ (z : List ℕ). get_or z 0 0) el ∙ m.sort in
    let g : k ≡ length r = ek ∙ ap record_length el ∙ m.long in
    let q = m.some in
    let c = w.place in
    let f = w.few in
    let z : length (list_words (w.earlier ++ (r ∷ []))) ≡ length (list_words w.earlier) + length r =
    ap length (list_append w.earlier (r ∷ [])) ∙ length-append (list_words w.earlier) (r ++ []) ∙ ap (λ (z : List ℕ). length (list_words w.earlier) + length z) (append-nil r) in
    record {
      earlier = w.earlier ++ (r ∷ []);
      later = m.later;
      all = m.all ∙ sym (append_assoc w.earlier (r ∷ []) m.later);
      place = omega arith;
      few = few_more (get_or l 0 0 ≡? sort) en (omega arith) (omega arith);
      kept = subst (λ (z : List (List ℕ)). Placed ws z out' n') (sym (sort_more sort w.earlier r ∙ ap (λ (z : ℕ). pick (z ≡? sort) (of_sort sort w.earlier ++ (r ∷ [])) (of_sort sort w.earlier)) (sym s)))
          (kept_more (get_or l 0 0 ≡? sort) en eo (subst (λ (z : ℕ). Begins ws z r) (sym ea) m.begins));
    }
  where
    few_more : (b : Bool) → n' ≡ pick b (n + 1) n → n ≤ p → 0 < k → n' ≤ p + k
    few_more true e f q = omega arith
    few_more false e f q = omega arith

    kept_more : (b : Bool) → n' ≡ pick b (n + 1) n → out' ≡ pick b (set out n a) out → Begins ws a (met ws ok w h).r
        → Placed ws (pick b (of_sort sort w.earlier ++ ((met ws ok w h).r ∷ [])) (of_sort sort w.earlier)) out' n'
    kept_more true e f q = rw (e, f) (placed_more w.kept room (met ws ok w h).r a q)
    kept_more false e f q = rw (e, f) w.kept

inside : (ws : List ℕ) → accepts ws ≡ Fine → {sort p n : ℕ} {out : List ℕ} (w : Walking ws sort p n out) → p < used ws → (l : List ℕ) → l ≡ list_from ws p → (k : ℕ) → k ≡ record_length l
    → (p + k ≤ used ws) × (0 < k)
inside ws ok {p = p} w h l el k ek =
    let m = met ws ok w h in
    let g : k ≡ length m.r = ek ∙ ap record_length el ∙ m.long in
    let e = m.ends in
    let s = m.some in
    (omega arith, omega arith)

-- all records have been met
pub end : (ws : List ℕ) → accepts ws ≡ Fine → {sort p n : ℕ} {out : List ℕ} → Walking ws sort p n out → used ws ≤ p → Places ws sort out n
unfolding records_with
end ws ok {sort} {p} {n} {out} w h = subst (λ (z : List (List ℕ)). Placed ws (only (λ r. get_or r 0 0 ≡? sort) z) out n) (sym all) w.kept
  where
    none_left : (xs : List (List ℕ)) → w.later ≡ xs → xs ≡ []
    none_left [] e = refl
    none_left (r ∷ xs) e =
        let all = w.all ∙ ap (λ (z : List (List ℕ)). w.earlier ++ z) e in
        let a : length (list_words (records_of ws)) ≡ length (list_words w.earlier) + (length r + length (list_words xs)) =
        ap (λ (z : List (List ℕ)). length (list_words z)) all ∙ ap length (list_append w.earlier (r ∷ xs)) ∙ length-append (list_words w.earlier) (r ++ list_words xs)
        ∙ ap (λ (z : ℕ). length (list_words w.earlier) + z) (length-append r (list_words xs)) in
        let b = (given_end ws ok).0 in
        let c = w.place in
        let s = some_words ws ok w.earlier r xs all in
        absurd (omega arith)

    all : records_of ws ≡ w.earlier
    all = w.all ∙ ap (λ (z : List (List ℕ)). w.earlier ++ z) (none_left w.later refl) ∙ append-nil w.earlier

-- there are no more places than list words
pub places_few : (ws : List ℕ) → accepts ws ≡ Fine → {sort p n : ℕ} {out : List ℕ} → Walking ws sort p n out → n ≤ used ws
places_few ws ok w =
    let a = ap (λ (z : List (List ℕ)). length (list_words z)) w.all ∙ ap length (list_append w.earlier w.later) ∙ length-append (list_words w.earlier) (list_words w.later) in
    let b = (given_end ws ok).0 in
    let c = w.place in
    let d = w.few in
    omega arith

-- numbers of 32 bits hold every place
pub near : (ws : List ℕ) → accepts ws ≡ Fine → (list_at_of ws ≤ 393226) × (used ws ≤ 65535)
near ws ok =
    let t = told ws ok in
    let s = list_starts_law ws t in
    let a = s.0 in
    let b = s.1 in
    (omega arith, few_words ws t)

-- the same with the header's words as they were read
module _ (ws : List ℕ) (ok : accepts ws ≡ Fine) {sort p n list end : ℕ} {out : List ℕ} (w : Walking ws sort p n out) (at : list ≡ list_at_of ws) (to : end ≡ used ws) (h : p < end)
    {l : List ℕ} (el : l ≡ take (end - p) (drop (list + p) ws)) {k : ℕ} (ek : k ≡ record_length l) where
  from_here : l ≡ list_from ws p
  from_here = el ∙ ap (λ (z : ℕ). take (z - p) (drop (list + p) ws)) to ∙ ap (λ (z : ℕ). take (used ws - p) (drop (z + p) ws)) at

  pub met_inside : (p + k ≤ end) × (0 < k)
  met_inside = let i = inside ws ok w (omega arith) l from_here k ek in let a = i.0 in (omega arith, i.1)

  pub met_next : n < length out → {n' : ℕ} {out' : List ℕ} → (n' ≡ pick (get_or l 0 0 ≡? sort) (n + 1) n) × (out' ≡ pick (get_or l 0 0 ≡? sort) (set out n (list + p)) out) → Walking ws sort (p + k) n' out'
  met_next room {n'} {out'} e = next ws ok w (omega arith) room l from_here k ek (list + p) (ap (λ (z : ℕ). z + p) at) n' e.0 out' e.1
