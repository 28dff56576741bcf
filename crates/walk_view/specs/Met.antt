-- What is lowered already in a state of the lowering model, and that the model's stores take none of it back. Assumes nothing.
use Rattle.std.specs.Prelude.{◌≡◌, Bool, true, ◌⊎◌, ℕ, zero, suc, ◌+◌, ◌≤◌, ◌<◌, length, set, take, drop}
use Rattle.std.proofs.Math.Path.{refl}
use Rattle.std.proofs.Common.{sym, ap, ◌∙◌, true≢false, inl, inr, arith, get_or-set_same, length-take-le, take_at, drop_at}
use mathlib.Core.List.{List, [], ◌∷◌, ◌++◌, map, append_assoc}
use Rattle.std.proofs.Math.Logic.{⊎_elim}
use Rattle.std.proofs.Math.Option.{Option, none, some}
use Rattle.std.proofs.Math.ListN.{get_or}
use Rattle.std.proofs.lemmas.List.{length-map}
use Rattle.spec_tests.specs.Laws.{is_some}
use Rattle.spec_model.specs.Words.{Netlist}
use Rattle.spec_model.specs.Lowering.{State, Need, Bit, Whole, Range, Step, Always, Unless, cell, put, with_netlist, mark, set_signal_bit, set_whole, set_range, signal_bit, whole, all_some, known_by, ranges_by, range_known}

-- a signal's bit has a net, an expression is lowered whole, all bits of a range have nets
unfoldable pub met : State → Need → Bool
met st (Bit p b) = is_some (signal_bit st p b)
met st (Whole e) = is_some (whole st e)
met st (Range e lsb w) = range_known st e lsb w

abbrev pub step_need : Step → Need
step_need (Always n) = n
step_need (Unless c v n) = n

-- the need of step k; past the end any
abbrev pub need_at : List Step → ℕ → Need
need_at ss k = step_need (get_or ss k (Always (Whole 0)))

-- each step's need is met
abbrev pub AllMet : State → List Step → Type 0
AllMet st [] = Unit {0}
AllMet st (x ∷ ss) = (met st (step_need x) ≡ true) × AllMet st ss

-- what is lowered in st is lowered in st'
abbrev pub Grows : State → State → Type 0
Grows st st' = (n : Need) → met st n ≡ true → met st' n ≡ true

pub met_at : (st : State) (ss : List Step) (k : ℕ) → AllMet st ss → k < length ss → met st (need_at ss k) ≡ true
met_at st [] k a h = absurd (omega arith)
met_at st (x ∷ ss) zero a h = a.0
met_at st (x ∷ ss) (suc k) a h = met_at st ss k a.1 (omega arith)

pub all_grow : (st st' : State) (ss : List Step) → Grows st st' → AllMet st ss → AllMet st' ss
all_grow st st' [] g a = tt
all_grow st st' (x ∷ ss) g a = (g (step_need x) a.0, all_grow st st' ss g a.1)

pub all_append : (st : State) (ss ts : List Step) → AllMet st (ss ++ ts) → AllMet st ss × AllMet st ts
all_append st [] ts a = (tt, a)
all_append st (x ∷ ss) ts a = let r = all_append st ss ts a.1 in ((a.0, r.0), r.1)

-- ---- the model's stores take nothing back ----

-- a store into a list: what is read is the new element or the old one
set_or : {A : Type 0} (l : List A) (i j : ℕ) (a d : A) → ((i ≡ j) × (get_or (set l i a) j d ≡ a)) ⊎ (get_or (set l i a) j d ≡ get_or l j d)
set_or [] i j a d = inr refl
set_or (x ∷ l) zero zero a d = inl (refl, refl)
set_or (x ∷ l) zero (suc j) a d = inr refl
set_or (x ∷ l) (suc i) zero a d = inr refl
set_or (x ∷ l) (suc i) (suc j) a d = ⊎_elim (λ (p : (i ≡ j) × (get_or (set l i a) j d ≡ a)). inl (ap suc p.0, p.1)) (λ p. inr p) (set_or l i j a d)

pub grows_mark : (st : State) (p b : ℕ) → Grows st (mark st p b)
unfolding mark met signal_bit whole range_known
grows_mark st p b (Bit q c) h = h
grows_mark st p b (Whole e) h = h
grows_mark st p b (Range e l w) h = h

pub grows_netlist : (st : State) (l : Netlist) → Grows st (with_netlist st l)
unfolding met signal_bit whole range_known
grows_netlist st l (Bit q c) h = h
grows_netlist st l (Whole e) h = h
grows_netlist st l (Range e k w) h = h

-- a row in which one entry is put
some_put : (t : List (List (Option ℕ))) (p b q c n : ℕ) → is_some (cell none t q c) ≡ true → is_some (cell none (put t p b (some n)) q c) ≡ true
some_put t p b q c n h =
    ⊎_elim
    (λ (r : (p ≡ q) × (get_or (put t p b (some n)) q [] ≡ set (get_or t p []) b (some n))).
    rw r.1
    (⊎_elim (λ (e : (b ≡ c) × (get_or (set (get_or t p []) b (some n)) c none ≡ some n)). ap is_some e.1)
    (λ (e : get_or (set (get_or t p []) b (some n)) c none ≡ get_or (get_or t p []) c none). ap is_some e ∙ ap (λ (k : ℕ). is_some (get_or (get_or t k []) c none)) r.0 ∙ h)
    (set_or (get_or t p []) b c (some n) none)))
    (λ (r : get_or (put t p b (some n)) q [] ≡ get_or t q []). rw r h)
    (set_or t p q (set (get_or t p []) b (some n)) [])

pub grows_signal : (st : State) (p b n : ℕ) → Grows st (set_signal_bit st p b n)
unfolding set_signal_bit met signal_bit whole range_known
grows_signal st p b n (Bit q c) h = some_put st.signal_bits p b q c n h
grows_signal st p b n (Whole e) h = h
grows_signal st p b n (Range e l w) h = h

no_row : (w l : ℕ) → all_some (take w (drop l [])) ≡ true
no_row zero zero = refl
no_row zero (suc l) = refl
no_row (suc w) zero = refl
no_row (suc w) (suc l) = refl

known_none : (o : Option (List ℕ)) (w l : ℕ) → known_by o (take w (drop l [])) ≡ true
known_none none w l = no_row w l
known_none (some ns) w l = refl

pub grows_whole : (st : State) (e : ℕ) (ns : List ℕ) → Grows st (set_whole st e ns)
unfolding set_whole met signal_bit whole range_known
grows_whole st e ns (Bit q c) h = h
grows_whole st e ns (Whole d) h =
    ⊎_elim (λ (r : (e ≡ d) × (get_or (set st.expression_bits e (some ns)) d none ≡ some ns)). ap is_some r.1)
    (λ (r : get_or (set st.expression_bits e (some ns)) d none ≡ get_or st.expression_bits d none). ap is_some r ∙ h)
    (set_or st.expression_bits e d (some ns) none)
grows_whole st e ns (Range d l w) h =
    ⊎_elim (λ (r : (e ≡ d) × (get_or (set st.expression_bits e (some ns)) d none ≡ some ns)). rw r.1)
    (λ (r : get_or (set st.expression_bits e (some ns)) d none ≡ get_or st.expression_bits d none).
    rw r
    (⊎_elim (λ (q : (e ≡ d) × (get_or (set st.expression_ranges e []) d [] ≡ [])). rw q.1 (known_none (get_or st.expression_bits d none) w l))
    (λ (q : get_or (set st.expression_ranges e []) d [] ≡ get_or st.expression_ranges d []). rw q h)
    (set_or st.expression_ranges e d [] [])))
    (set_or st.expression_bits e d (some ns) none)

-- ---- rows of a range ----

-- each entry of the first row that is there is there in the second
abbrev Covers : List (Option ℕ) → List (Option ℕ) → Type 0
Covers [] ys = all_some ys ≡ true
Covers (x ∷ xs) [] = Unit {0}
Covers (x ∷ xs) (y ∷ ys) = (is_some x ≡ true → is_some y ≡ true) × Covers xs ys

all_cons : (x : Option ℕ) (xs : List (Option ℕ)) → all_some (x ∷ xs) ≡ true → (is_some x ≡ true) × (all_some xs ≡ true)
all_cons none xs h = absurd (true≢false (sym h))
all_cons (some n) xs h = (refl, h)

cons_all : (x : Option ℕ) (xs : List (Option ℕ)) → is_some x ≡ true → all_some xs ≡ true → all_some (x ∷ xs) ≡ true
cons_all none xs a h = absurd (true≢false (sym a))
cons_all (some n) xs a h = h

all_covers : (xs : List (Option ℕ)) → Covers xs xs
all_covers [] = refl
all_covers (x ∷ xs) = ((λ h. h), all_covers xs)

take_all_some : (w : ℕ) (ys : List (Option ℕ)) → all_some ys ≡ true → all_some (take w ys) ≡ true
take_all_some zero ys h = refl
take_all_some (suc w) [] h = refl
take_all_some (suc w) (y ∷ ys) h = let p = all_cons y ys h in cons_all y (take w ys) p.0 (take_all_some w ys p.1)

drop_all_some : (l : ℕ) (ys : List (Option ℕ)) → all_some ys ≡ true → all_some (drop l ys) ≡ true
drop_all_some zero ys h = h
drop_all_some (suc l) [] h = refl
drop_all_some (suc l) (y ∷ ys) h = drop_all_some l ys (all_cons y ys h).1

covers_take : (w : ℕ) (xs ys : List (Option ℕ)) → Covers xs ys → all_some (take w xs) ≡ true → all_some (take w ys) ≡ true
covers_take w [] ys c h = take_all_some w ys c
covers_take zero (x ∷ xs) ys c h = refl
covers_take (suc w) (x ∷ xs) [] c h = refl
covers_take (suc w) (x ∷ xs) (y ∷ ys) c h =
    let p = all_cons x (take w xs) h in
    cons_all y (take w ys) (c.0 p.0) (covers_take w xs ys c.1 p.1)

covers_drop : (l w : ℕ) (xs ys : List (Option ℕ)) → Covers xs ys → all_some (take w (drop l xs)) ≡ true → all_some (take w (drop l ys)) ≡ true
covers_drop zero w xs ys c h = covers_take w xs ys c h
covers_drop (suc l) w [] ys c h = take_all_some w (drop (suc l) ys) (drop_all_some (suc l) ys c)
covers_drop (suc l) w (x ∷ xs) [] c h = no_row w (suc l)
covers_drop (suc l) w (x ∷ xs) (y ∷ ys) c h = covers_drop l w xs ys c.1 h

somes : (ns : List ℕ) (ys : List (Option ℕ)) → all_some ys ≡ true → all_some (map some ns ++ ys) ≡ true
somes [] ys h = h
somes (n ∷ ns) ys h = somes ns ys h

drop_none : (l : ℕ) → all_some (drop l []) ≡ true
drop_none zero = refl
drop_none (suc l) = refl

-- the nets ns over the row from its start on, and from lsb on
covers_start : (xs : List (Option ℕ)) (ns : List ℕ) → Covers xs (map some ns ++ drop (length ns) xs)
covers_start xs [] = all_covers xs
covers_start [] (n ∷ ns) = somes ns (drop (suc (length ns)) []) (drop_none (suc (length ns)))
covers_start (x ∷ xs) (n ∷ ns) = ((λ h. refl), covers_start xs ns)

covers_range : (xs : List (Option ℕ)) (lsb : ℕ) (ns : List ℕ) → lsb ≤ length xs → Covers xs (take lsb xs ++ map some ns ++ drop (lsb + length ns) xs)
covers_range xs zero ns h =
    let e : 0 + length ns ≡ length ns = omega arith in
    rw e (covers_start xs ns)
covers_range [] (suc lsb) ns h = absurd (omega arith)
covers_range (x ∷ xs) (suc lsb) ns h =
    let e : suc lsb + length ns ≡ suc (lsb + length ns) = omega arith in
    rw e ((λ p. p), covers_range xs lsb ns (omega arith))

-- a range of expression e is kept; the row is long enough where e is not whole
module _ (st : State) (e lsb : ℕ) (ns : List ℕ) (room : whole st e ≡ none → lsb + length ns ≤ length (get_or st.expression_ranges e [])) where
  kept_row : (o : Option (List ℕ)) → whole st e ≡ o → (l w : ℕ) → known_by o (take w (drop l (get_or st.expression_ranges e []))) ≡ true
      → known_by o (take w (drop l (ranges_by o (get_or st.expression_ranges e []) lsb ns))) ≡ true
  kept_row (some all) q l w h = refl
  kept_row none q l w h =
      let r = room q in
      covers_drop l w _ _ (covers_range (get_or st.expression_ranges e []) lsb ns (omega arith)) h

  pub grows_range : Grows st (set_range st e lsb ns)
  unfolding set_range met signal_bit range_known whole
  grows_range (Bit q c) h = h
  grows_range (Whole d) h = h
  grows_range (Range d l w) h =
      ⊎_elim
      (λ (r : (e ≡ d) × (get_or (set st.expression_ranges e (ranges_by (get_or st.expression_bits e none) (get_or st.expression_ranges e []) lsb ns)) d []
      ≡ ranges_by (get_or st.expression_bits e none) (get_or st.expression_ranges e []) lsb ns)).
      rw (r.1, ← r.0) (kept_row (get_or st.expression_bits e none) refl l w (rw (← r.0) at h)))
      (λ (r : get_or (set st.expression_ranges e (ranges_by (get_or st.expression_bits e none) (get_or st.expression_ranges e []) lsb ns)) d []
      ≡ get_or st.expression_ranges d []). rw r h)
      (set_or st.expression_ranges e d (ranges_by (get_or st.expression_bits e none) (get_or st.expression_ranges e []) lsb ns) [])

  new_row : (o : Option (List ℕ)) → whole st e ≡ o → known_by o (take (length ns) (drop lsb (ranges_by o (get_or st.expression_ranges e []) lsb ns))) ≡ true
  new_row (some all) q = refl
  new_row none q =
      let r = room q in
      let row = get_or st.expression_ranges e [] in
      let d : drop lsb (take lsb row ++ map some ns ++ drop (lsb + length ns) row) ≡ map some ns ++ drop (lsb + length ns) row =
      ap (drop lsb) (append_assoc (take lsb row) (map some ns) (drop (lsb + length ns) row))
      ∙ drop_at (take lsb row) (map some ns ++ drop (lsb + length ns) row) lsb (length-take-le lsb row (omega arith)) in
      let t : take (length ns) (map some ns ++ drop (lsb + length ns) row) ≡ map some ns = take_at (map some ns) (drop (lsb + length ns) row) (length ns) (length-map ns some) in
      rw (d, t) (all_some_law ns)
    where
      all_some_law : (ns : List ℕ) → all_some (map some ns) ≡ true
      all_some_law [] = refl
      all_some_law (n ∷ ns) = all_some_law ns

  pub meets_range : e < length st.expression_ranges → met (set_range st e lsb ns) (Range e lsb (length ns)) ≡ true
  unfolding set_range met range_known whole
  meets_range u =
      rw (get_or-set_same st.expression_ranges e (ranges_by (get_or st.expression_bits e none) (get_or st.expression_ranges e []) lsb ns) [] u)
      (new_row (get_or st.expression_bits e none) refl)

pub meets_whole : (st : State) (e : ℕ) (ns : List ℕ) → e < length st.expression_bits → met (set_whole st e ns) (Whole e) ≡ true
unfolding set_whole met whole
meets_whole st e ns u = ap is_some (get_or-set_same st.expression_bits e (some ns) none u)

pub meets_signal : (st : State) (p b n : ℕ) → p < length st.signal_bits → b < length (get_or st.signal_bits p []) → met (set_signal_bit st p b n) (Bit p b) ≡ true
unfolding set_signal_bit met signal_bit
meets_signal st p b n u v =
    rw (get_or-set_same st.signal_bits p (set (get_or st.signal_bits p []) b (some n)) [] u) (ap is_some (get_or-set_same (get_or st.signal_bits p []) b (some n) none v))
