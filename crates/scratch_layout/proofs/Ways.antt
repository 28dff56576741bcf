-- The steps in which the scratch is laid out: their loops, and what they come to. Assumes nothing.
use mathlib.Core.Path.{◌≡◌, refl, sym, ap, ◌∙◌, subst}
use mathlib.Core.Bool.{Bool, true, false, cond, true≢false}
use mathlib.Core.List.{List, [], ◌∷◌, map, ◌++◌}
use mathlib.Core.Logic.{⊎_elim}
use mathlib.Core.Option.{Option, none}
use Prim.Native.Nat.{ℕ, zero, suc, ◌+◌, ◌*◌, ◌-◌, ◌≤◌, ◌<◌}
use native.Mathlib.Nat.{sub_self, sub-zero, eq-or-lt_of_le}
use native.Mathlib.Omega.{arith}
use lib.ListN.{take, drop, length, get_or, set, replicate, length-set, length-replicate, length-drop}
use Rattle.std.proofs.Common.{length-take-le}
use Rattle.std.proofs.Math.Decide.{dec_lt}
use borrow.Author.Rules.{rules}
use Rattle.std.proofs.slice.Indexed.{places}
use lib.Seq.{get_or-set_same, get_or-set_other, paste}
use Rattle.spec_tests.specs.Rules.{each, list_of, sum_to}
use Rattle.spec_rtl.specs.Rtl as R
use Rattle.spec_rtl.specs.Rtl.{by_assign}
use Rattle.spec_rules.specs.Image as I
use Rattle.spec_rules.specs.Image.{count_at_of, field, signal_width, expr_width, assign_at, signal_at, decode}
use Rattle.spec_rules.specs.Checks.{signal_bits, scratch_need}
use Rattle.spec_model.specs.Lowering as M
use Rattle.spec_model.specs.Lowering.{expr_driver, driver_of}
use Rattle.scratch_view.specs.Rows.{list_of_agree, at_list_of, length_list_of, map_list_of, replicate_list_of, same_or, stretch_apart, rows}
use Rattle.scratch_view.specs.View.{limit_of, signal_column, expr_column, bit_column, signal_bit, driver_at, first_at, expr_at, bit_at, known, is_set, is_whole, whole_at, ranges_at, state_at, free_at, driver_word, Sized, LaidAt}
use Rattle.scratch_view.specs.Laws.{Stored, stored_paste, need_is, signal_inside, signal_ends, signals_few, is_set_yes, is_set_no, known_none, whole_none, ranges_there, free_all}
use Rattle.scratch_view.specs.Drivers.{covers, covered, covers_yes}
use Rattle.scratch_layout.specs.Stages.{HeadedAt, Fixed, FirstsAt, Starts, Indexed, Started}

-- ---- cleared words ----

zeros : (n j : ℕ) → ◌≡◌ {A = ℕ} (get_or (replicate n 0) j 0) 0
zeros zero j = refl
zeros (suc n) zero = refl
zeros (suc n) (suc j) = zeros n j

blank_at : (w : List ℕ) (j : ℕ) → w ≡ replicate (length w) 0 → get_or w j 0 ≡ 0
blank_at w j e = ap (λ (x : List ℕ). get_or x j 0) e ∙ zeros (length w) j

-- ---- the fixed words ----

abbrev four : List ℕ → ℕ → ℕ → ℕ → ℕ → List ℕ
four w a b c d = set (set (set (set w 0 a) 1 b) 2 c) 3 d

four_at : (w : List ℕ) (a b c d : ℕ) → 4 < length w
    → (get_or (four w a b c d) 0 0 ≡ a) × ((get_or (four w a b c d) 1 0 ≡ b) × ((get_or (four w a b c d) 2 0 ≡ c) × (get_or (four w a b c d) 3 0 ≡ d)))
four_at [] a b c d h = absurd (omega arith)
four_at (_ ∷ []) a b c d h = absurd (omega arith)
four_at (_ ∷ _ ∷ []) a b c d h = absurd (omega arith)
four_at (_ ∷ _ ∷ _ ∷ []) a b c d h = absurd (omega arith)
four_at (_ ∷ _ ∷ _ ∷ _ ∷ w) a b c d h = (refl, (refl, (refl, refl)))

four_other : (w : List ℕ) (a b c d j : ℕ) → 3 < j → get_or (four w a b c d) j 0 ≡ get_or w j 0
four_other w a b c d j u =
    get_or-set_other (set (set (set w 0 a) 1 b) 2 c) 3 j d 0 (λ z. absurd (omega arith))
    ∙ get_or-set_other (set (set w 0 a) 1 b) 2 j c 0 (λ z. absurd (omega arith))
    ∙ get_or-set_other (set w 0 a) 1 j b 0 (λ z. absurd (omega arith))
    ∙ get_or-set_other w 0 j a 0 (λ z. absurd (omega arith))

four_long : (w : List ℕ) (a b c d : ℕ) → length (four w a b c d) ≡ length w
four_long w a b c d = simp length-set

module _ (s : List ℕ) (n : ℕ) (w : List ℕ) (z : Sized s) (l : n ≤ 65535) (long : length w ≡ scratch_need s n) (blank : w ≡ replicate (length w) 0)
    (b c d : ℕ) (p : b ≡ signal_bits s) (q : c ≡ expr_column s n) (r : d ≡ bit_column s n) where
  five : 4 < length w
  five = omega (arith, need_is s n)

  pub fixed_off : (ob : Bool) → ob ≡ false → Fixed s n ob (four w n b c d)
  fixed_off ob off =
      let f = four_at w n b c d five in
      record {
        headed = record { image = z; limited = l; long = four_long w n b c d ∙ long ∙ need_is s n; limit = f.0; bits = f.1.0 ∙ p; exprs = f.1.1.0 ∙ q; nets = f.1.1.1 ∙ r };
        flag = is_set_no _ (four_other w n b c d 4 (omega arith) ∙ blank_at w 4 blank) ∙ sym off;
        rest = λ j u. four_other w n b c d j (omega arith) ∙ blank_at w j blank;
      }

  pub fixed_on : (ob : Bool) → ob ≡ true → Fixed s n ob (set (four w n b c d) 4 1)
  fixed_on ob on =
      let f = four_at w n b c d five in
      let v = four w n b c d in
      let o : (j : ℕ) → (j ≡ 4 → ⊥) → get_or (set v 4 1) j 0 ≡ get_or v j 0 = λ j x. get_or-set_other v 4 j 1 0 x in
      record {
        headed = record {
          image = z;
          limited = l;
          long = length-set v 4 1 ∙ four_long w n b c d ∙ long ∙ need_is s n;
          limit = o 0 (λ x. absurd (omega arith)) ∙ f.0;
          bits = o 1 (λ x. absurd (omega arith)) ∙ f.1.0 ∙ p;
          exprs = o 2 (λ x. absurd (omega arith)) ∙ f.1.1.0 ∙ q;
          nets = o 3 (λ x. absurd (omega arith)) ∙ f.1.1.1 ∙ r;
        };
        flag = ap is_set (get_or-set_same v 4 1 0 (omega (arith, four_long w n b c d, five))) ∙ is_set_yes 1 (λ x. absurd (omega arith)) ∙ sym on;
        rest = λ j u. o j (λ x. absurd (omega arith)) ∙ four_other w n b c d j (omega arith) ∙ blank_at w j blank;
      }

-- ---- first bits ----

-- e expressions have theirs
pub record StartsAt (s : List ℕ) (n : ℕ) (w w' : List ℕ) (e : ℕ) : Type 0 where
  pub below : e ≤ count_at_of s 1
  pub long : length w' ≡ length w
  pub starts : (e' : ℕ) → e' < e → get_or w' (expr_at s n e' 0) 0 ≡ sum_to (expr_width s) e'
  pub other : (j : ℕ) → ((e' : ℕ) → e' < e → j ≡ expr_at s n e' 0 → ⊥) → get_or w' j 0 ≡ get_or w j 0

pub starts_begin : (s : List ℕ) (n : ℕ) (w : List ℕ) → StartsAt s n w w 0
starts_begin s n w = record { below = omega arith; long = refl; starts = λ e u. absurd (omega arith); other = λ j o. refl }

pub starts_turn : (s : List ℕ) (n : ℕ) (w w' : List ℕ) (e at x : ℕ) → HeadedAt s n w → StartsAt s n w w' e → e < count_at_of s 1 → at ≡ expr_at s n e 0 → x ≡ sum_to (expr_width s) e
    → StartsAt s n w (set w' at x) (e + 1)
starts_turn s n w w' e at x h st u p q =
    let room : at < length w' = omega (arith, h.long, st.long) in
    record {
      below = omega arith;
      long = length-set w' at x ∙ st.long;
      starts = λ e' v. ⊎_elim
          (λ (z : e' ≡ e).
          let m : expr_at s n e' 0 ≡ at = omega arith in
          ap (λ (j : ℕ). get_or (set w' at x) j 0) m ∙ get_or-set_same w' at x 0 room ∙ q ∙ ap (sum_to (expr_width s)) (sym z))
          (λ (z : e' < e). get_or-set_other w' at (expr_at s n e' 0) x 0 (λ y. absurd (omega arith)) ∙ st.starts e' z)
          (eq-or-lt_of_le {n = e'} {m = e} (omega arith));
      other = λ j o. get_or-set_other w' at j x 0 (λ y. o e (omega arith) (y ∙ p)) ∙ st.other j (λ e' v y. o e' (omega arith) y);
    }

pub starts_end : (s : List ℕ) (n : ℕ) (w w' : List ℕ) (e : ℕ) → StartsAt s n w w' e → count_at_of s 1 ≤ e → Starts s n w w'
starts_end s n w w' e st u = record {
  long = st.long;
  starts = λ e' v. st.starts e' (omega arith);
  other = λ j o. st.other j (λ e' v y. o e' (omega (arith, st.below)) y);
}

abbrev put : ℕ → ℕ → List ℕ → List ℕ → List ℕ
put at n w xs = take at w ++ (xs ++ drop n (drop at w))

put_long : (at n : ℕ) (w xs : List ℕ) → at + n ≤ length w → length xs ≡ n → length (put at n w xs) ≡ length w
put_long at n w xs h l = search (rules, places)

put_low : (at n j : ℕ) (w xs : List ℕ) → at + n ≤ length w → length xs ≡ n → j < at → get_or (put at n w xs) j 0 ≡ get_or w j 0
put_low at n j w xs h l u = search (rules, places)

put_inside : (at n i : ℕ) (w xs : List ℕ) → at + n ≤ length w → length xs ≡ n → i < n → get_or (put at n w xs) (at + i) 0 ≡ get_or xs i 0
put_inside at n i w xs h l u = search (rules, places)

put_high : (at n j : ℕ) (w xs : List ℕ) → at + n ≤ length w → length xs ≡ n → at + n ≤ j → get_or (put at n w xs) j 0 ≡ get_or w j 0
put_high at n j w xs h l u = search (rules, places)

-- the n words from at on are replaced
pub stored_put : (at n : ℕ) (v : ℕ → ℕ) (w xs : List ℕ) → at + n ≤ length w → length xs ≡ n → ((i : ℕ) → i < n → get_or xs i 0 ≡ v i) → Stored at n v w (put at n w xs)
stored_put at n v w xs h l e = record {
  long = put_long at n w xs h l;
  inside = λ i u. put_inside at n i w xs h l u ∙ e i u;
  other = λ j o. elim (dec_lt j at) [
    | yes u ↦ put_low at n j w xs h l u
    | no u ↦ elim (dec_lt j (at + n)) [ yes z ↦ absurd (o (j - at) (omega arith) (omega arith)) | no z ↦ put_high at n j w xs h l (omega arith) ]
  ];
}

pub stored_put_at : (at at' n k : ℕ) (v : ℕ → ℕ) (w xs : List ℕ) → at + n ≤ length w → at ≡ at' → k ≡ n → length xs ≡ length (take k (drop at w)) → ((i : ℕ) → i < n → get_or xs i 0 ≡ v i)
    → Stored at' n v w (take at w ++ (xs ++ drop k (drop at w)))
stored_put_at at at' n k v w xs h p q l e =
    let long : length xs ≡ n = l ∙ ap (λ (m : ℕ). length (take m (drop at w))) q ∙ length-take-le n (drop at w) (omega (arith, length-drop at w)) in
    rw q (subst (λ (j : ℕ). Stored j n v w (put at n w xs)) p (stored_put at n v w xs h long e))

-- ---- drivers ----

pub drivers_end : (w w' : List ℕ) (at at' k base : ℕ) → at + k ≤ length w → at ≡ at' → w' ≡ paste w at (list_of k (λ i. base + i)) k → Stored at' k (λ i. base + i) w w'
drivers_end w w' at at' k base fits p e =
    let vs = list_of k (λ i. base + i) in
    let st = stored_paste w at k vs fits (omega (arith, length_list_of k (λ i. base + i))) in
    subst (λ (j : ℕ). Stored j k (λ i. base + i) w w') p
    (subst (λ (x : List ℕ). Stored at k (λ i. base + i) w x) (sym e)
    (record { long = st.long; inside = λ i u. st.inside i u ∙ at_list_of k (λ i. base + i) i 0 u; other = st.other }))

-- what drives a bit among the assignments from a on
abbrev from : List ℕ → ℕ → ℕ → ℕ → Option (ℕ × ℕ)
from s a p b = expr_driver (by_assign (each (assign_at s) a (count_at_of s 3 - a)) p b)

-- the assignments from a on are stored
pub record IndexedAt (s : List ℕ) (n : ℕ) (w w' : List ℕ) (a : ℕ) : Type 0 where
  pub below : a ≤ count_at_of s 3
  pub firsts : FirstsAt s n w'
  pub long : length w' ≡ length w
  pub drivers : (p b : ℕ) → p < count_at_of s 0 → b < signal_width s p → get_or w' (driver_at s n p b) 0 ≡ driver_word (from s a p b)
  pub other : (j : ℕ) → ((i : ℕ) → i < signal_bits s → j ≡ signal_column n + signal_bits s + i → ⊥) → get_or w' j 0 ≡ get_or w j 0

none_from : (s : List ℕ) (p b : ℕ) → driver_word (from s (count_at_of s 3) p b) ≡ 0
unfolding each driver_word
none_from s p b = rw (sub_self (count_at_of s 3))

pub index_begin : (s : List ℕ) (n : ℕ) (w : List ℕ) (a : ℕ) → a ≡ count_at_of s 3 → FirstsAt s n w → ((i : ℕ) → i < signal_bits s → get_or w (signal_column n + signal_bits s + i) 0 ≡ 0)
    → IndexedAt s n w w a
index_begin s n w a q h z = record {
  below = omega arith;
  firsts = h;
  long = refl;
  drivers = λ p b u v. z (signal_bit s p b) (signal_inside s p b u v) ∙ sym (none_from s p b) ∙ ap (λ (x : ℕ). driver_word (from s x p b)) (sym q);
  other = λ j o. refl;
}

-- a store into the driver column keeps first bits and fixed words
firsts_kept : (s : List ℕ) (n : ℕ) (w w' : List ℕ) → FirstsAt s n w → length w' ≡ length w
    → ((j : ℕ) → ((i : ℕ) → i < signal_bits s → j ≡ signal_column n + signal_bits s + i → ⊥) → get_or w' j 0 ≡ get_or w j 0) → FirstsAt s n w'
firsts_kept s n w w' h l o =
    let d = h.headed in
    record {
      headed = record {
        image = d.image;
        limited = d.limited;
        long = l ∙ d.long;
        limit = o 0 (λ i u z. absurd (omega arith)) ∙ d.limit;
        bits = o 1 (λ i u z. absurd (omega arith)) ∙ d.bits;
        exprs = o 2 (λ i u z. absurd (omega arith)) ∙ d.exprs;
        nets = o 3 (λ i u z. absurd (omega arith)) ∙ d.nets;
      };
      firsts = λ p u. o _ (λ i v z. absurd (omega arith)) ∙ h.firsts p u;
    }

one_from : (s : List ℕ) (a p b : ℕ) → a < count_at_of s 3
    → from s a p b ≡ expr_driver (cond (covers s a p b) (R.FromExpr (field s 3 a 3) (b - field s 3 a 1)) (by_assign (each (assign_at s) (suc a) (count_at_of s 3 - suc a)) p b))
unfolding each assign_at
one_from s a p b u =
    let e : count_at_of s 3 - a ≡ suc (count_at_of s 3 - suc a) = omega arith in
    rw e

module _ (s : List ℕ) (n : ℕ) (w w₁ w' : List ℕ) (a : ℕ) (u : a < count_at_of s 3) (ix : IndexedAt s n w w₁ (suc a))
    (st : Stored (driver_at s n (field s 3 a 0) (field s 3 a 1)) (field s 3 a 2) (λ i. (field s 3 a 3 + 1) * 1024 + i) w₁ w') where
  here : (p b : ℕ) → p < count_at_of s 0 → b < signal_width s p → (t : Bool) → covers s a p b ≡ t
      → get_or w' (driver_at s n p b) 0 ≡ driver_word (expr_driver (cond t (R.FromExpr (field s 3 a 3) (b - field s 3 a 1)) (by_assign (each (assign_at s) (suc a) (count_at_of s 3 - suc a)) p b)))
  unfolding driver_word
  here p b x y true e =
      let c = covered s a p b e in
      let i = b - field s 3 a 1 in
      let f : sum_to (signal_width s) (field s 3 a 0) ≡ sum_to (signal_width s) p = ap (sum_to (signal_width s)) c.0 in
      let m : driver_at s n p b ≡ driver_at s n (field s 3 a 0) (field s 3 a 1) + i = omega (arith, c.1.0) in
      ap (λ (j : ℕ). get_or w' j 0) m ∙ st.inside i (omega (arith, c.1.0, c.1.1))
  here p b x y false e =
      st.other _ (λ i v z. ⊎_elim
      (λ (q : p ≡ field s 3 a 0).
      let f : sum_to (signal_width s) p ≡ sum_to (signal_width s) (field s 3 a 0) = ap (sum_to (signal_width s)) q in
      let m : b ≡ field s 3 a 1 + i = omega arith in
      true≢false (sym (covers_yes s a p b (sym q) (omega arith) (omega arith)) ∙ e))
      (λ (q : p ≡ field s 3 a 0 → ⊥). stretch_apart (signal_width s) (field s 3 a 0) (field s 3 a 1 + i) p b (omega (arith, (ix.firsts.headed.image.drives a u).inside)) y q (omega arith))
      (same_or p (field s 3 a 0)))
      ∙ ix.drivers p b x y

  elsewhere : (j : ℕ) → ((i : ℕ) → i < signal_bits s → j ≡ signal_column n + signal_bits s + i → ⊥) → get_or w' j 0 ≡ get_or w₁ j 0
  elsewhere j o =
      let d = ix.firsts.headed.image.drives a u in
      st.other j (λ i v z. o (signal_bit s (field s 3 a 0) (field s 3 a 1 + i)) (signal_inside s (field s 3 a 0) (field s 3 a 1 + i) d.signal (omega (arith, d.inside))) (omega arith))

  pub index_turn : IndexedAt s n w w' a
  index_turn = record {
    below = omega arith;
    firsts = firsts_kept s n w₁ w' ix.firsts st.long elsewhere;
    long = st.long ∙ ix.long;
    drivers = λ p b x y. here p b x y (covers s a p b) refl ∙ ap driver_word (sym (one_from s a p b u));
    other = λ j o. elsewhere j o ∙ ix.other j o;
  }

pub index_end : (s : List ℕ) (n : ℕ) (w w' : List ℕ) (a : ℕ) → IndexedAt s n w w' a → a ≤ 0 → Indexed s n w w'
unfolding driver_of decode list_of
index_end s n w w' a ix u =
    let z : a ≡ 0 = omega arith in
    record {
      long = ix.long;
      drivers = λ p b x y. ix.drivers p b x y ∙ ap (λ (i : ℕ). driver_word (from s i p b)) z ∙ ap (λ (k : ℕ). driver_word (expr_driver (by_assign (each (assign_at s) 0 k) p b))) (sub-zero (count_at_of s 3));
      other = ix.other;
    }

-- ---- what the code of an assignment needs ----

pub record AssignPlace (s w : List ℕ) (a p lsb k v : ℕ) : Type 0 where
  pub seat : p < signal_bits s
  pub first : get_or w (64 + 4 * get_or w 0 0 + 3 * get_or w 1 0 + p) 0 ≡ sum_to (signal_width s) (field s 3 a 0)
  pub ends : get_or w (64 + 4 * get_or w 0 0 + 3 * get_or w 1 0 + p) 0 + lsb + k ≤ signal_bits s
  pub value : v < 2048
  pub most : signal_bits s ≤ 4096
  pub limit : get_or w 0 0 ≤ 65535
  pub bits : get_or w 1 0 ≡ signal_bits s
  pub long : 64 + 4 * get_or w 0 0 + 4 * signal_bits s ≤ length w

pub assign_place : (s w : List ℕ) (a p lsb k v : ℕ) → FirstsAt s (limit_of w) w → a < count_at_of s 3 → p ≡ field s 3 a 0 → lsb ≡ field s 3 a 1 → k ≡ field s 3 a 2 → v ≡ field s 3 a 3
    → AssignPlace s w a p lsb k v
assign_place s w a p lsb k v h u x y z q =
    let d = h.headed.image.drives a u in
    let m : 64 + 4 * get_or w 0 0 + 3 * get_or w 1 0 + p ≡ first_at s (limit_of w) (field s 3 a 0) = omega (arith, h.headed.bits) in
    let f : get_or w (64 + 4 * get_or w 0 0 + 3 * get_or w 1 0 + p) 0 ≡ sum_to (signal_width s) (field s 3 a 0) = ap (λ (j : ℕ). get_or w j 0) m ∙ h.firsts (field s 3 a 0) d.signal in
    record {
      seat = omega (arith, d.signal, signals_few s h.headed.image);
      first = f;
      ends = omega (arith, signal_ends s (field s 3 a 0) d.signal, d.inside);
      value = omega (arith, d.value, h.headed.image.exprs);
      most = h.headed.image.signal_bits;
      limit = h.headed.limited;
      bits = h.headed.bits;
      long = omega (arith, h.headed.long);
    }

pub assign_way : (s w w' : List ℕ) (a p lsb k v : ℕ) → AssignPlace s w a p lsb k v → p ≡ field s 3 a 0 → lsb ≡ field s 3 a 1 → k ≡ field s 3 a 2 → v ≡ field s 3 a 3
    → w' ≡ paste w (64 + 4 * get_or w 0 0 + get_or w 1 0 + (get_or w (64 + 4 * get_or w 0 0 + 3 * get_or w 1 0 + p) 0 + lsb)) (list_of k (λ i. (v + 1) * 1024 + i)) k
    → Stored (driver_at s (limit_of w) (field s 3 a 0) (field s 3 a 1)) (field s 3 a 2) (λ i. (field s 3 a 3 + 1) * 1024 + i) w w'
assign_way s w w' a p lsb k v r x y z q e =
    let at = 64 + 4 * get_or w 0 0 + get_or w 1 0 + (get_or w (64 + 4 * get_or w 0 0 + 3 * get_or w 1 0 + p) 0 + lsb) in
    let m : at ≡ driver_at s (limit_of w) (field s 3 a 0) (field s 3 a 1) = omega (arith, r.first, r.bits) in
    subst (λ (j : ℕ). Stored (driver_at s (limit_of w) (field s 3 a 0) (field s 3 a 1)) (field s 3 a 2) (λ i. (j + 1) * 1024 + i) w w') q
    (subst (λ (j : ℕ). Stored (driver_at s (limit_of w) (field s 3 a 0) (field s 3 a 1)) j (λ i. (v + 1) * 1024 + i) w w') z
    (drivers_end w w' at (driver_at s (limit_of w) (field s 3 a 0) (field s 3 a 1)) k ((v + 1) * 1024) (omega (arith, r.ends, r.bits, r.long)) m e))

pub firsts_own : (s : List ℕ) (n : ℕ) (w : List ℕ) → FirstsAt s n w → FirstsAt s (limit_of w) w
firsts_own s n w h = subst (λ (m : ℕ). FirstsAt s m w) (sym h.headed.limit) h

pub index_step : (s : List ℕ) (n : ℕ) (w w₁ w' : List ℕ) (a : ℕ) → 0 < a → IndexedAt s n w w₁ a
    → Stored (driver_at s (limit_of w₁) (field s 3 (a - 1) 0) (field s 3 (a - 1) 1)) (field s 3 (a - 1) 2) (λ i. (field s 3 (a - 1) 3 + 1) * 1024 + i) w₁ w' → IndexedAt s n w w' (a - 1)
index_step s n w w₁ w' a h ix st =
    let e : a ≡ suc (a - 1) = omega arith in
    index_turn s n w w₁ w' (a - 1) (omega (arith, ix.below)) (subst (λ (i : ℕ). IndexedAt s n w w₁ i) e ix)
    (subst (λ (m : ℕ). Stored (driver_at s m (field s 3 (a - 1) 0) (field s 3 (a - 1) 1)) (field s 3 (a - 1) 2) (λ i. (field s 3 (a - 1) 3 + 1) * 1024 + i) w₁ w') ix.firsts.headed.limit st)

-- ---- the steps together ----

pub headed_own : (s : List ℕ) (n : ℕ) (w : List ℕ) → HeadedAt s n w → HeadedAt s (limit_of w) w
headed_own s n w h = subst (λ (m : ℕ). HeadedAt s m w) (sym h.limit) h

headed_kept : (s : List ℕ) (n : ℕ) (w w' : List ℕ) → HeadedAt s n w → length w' ≡ length w → ((j : ℕ) → j < 4 → get_or w' j 0 ≡ get_or w j 0) → HeadedAt s n w'
headed_kept s n w w' h l o = record {
  image = h.image;
  limited = h.limited;
  long = l ∙ h.long;
  limit = o 0 (omega arith) ∙ h.limit;
  bits = o 1 (omega arith) ∙ h.bits;
  exprs = o 2 (omega arith) ∙ h.exprs;
  nets = o 3 (omega arith) ∙ h.nets;
}

-- first bits of signals stand; all else but fixed words and first bits is 0
pub record Laying (s : List ℕ) (n : ℕ) (ob : Bool) (w : List ℕ) : Type 0 where
  pub firsts : FirstsAt s n w
  pub flag : is_set (get_or w 4 0) ≡ ob
  pub zero : (j : ℕ) → 4 < j → ((i : ℕ) → i < signal_bits s → j ≡ signal_column n + 3 * signal_bits s + i → ⊥) → ((e : ℕ) → e < count_at_of s 1 → j ≡ expr_at s n e 0 → ⊥) → get_or w j 0 ≡ 0

pub after_firsts : (s : List ℕ) (n : ℕ) (ob : Bool) (w w' : List ℕ) → Fixed s n ob w → Stored (first_at s (limit_of w) 0) (count_at_of s 0) (sum_to (signal_width s)) w w' → Laying s n ob w'
after_firsts s n ob w w' h st₀ =
    let st : Stored (first_at s n 0) (count_at_of s 0) (sum_to (signal_width s)) w w' = subst (λ (m : ℕ). Stored (first_at s m 0) (count_at_of s 0) (sum_to (signal_width s)) w w') h.headed.limit st₀ in
    let few = signals_few s h.headed.image in
    record {
      firsts = record {
        headed = headed_kept s n w w' h.headed st.long (λ j u. st.other j (λ i v z. absurd (omega arith)));
        firsts = λ p u. (let m : first_at s n p ≡ first_at s n 0 + p = omega arith in ap (λ (j : ℕ). get_or w' j 0) m ∙ st.inside p u);
      };
      flag = ap is_set (st.other 4 (λ i v z. absurd (omega arith))) ∙ h.flag;
      zero = λ j u o q. st.other j (λ i v z. o i (omega arith) (omega arith)) ∙ h.rest j u;
    }

pub after_starts : (s : List ℕ) (n : ℕ) (ob : Bool) (w w' : List ℕ) → Laying s n ob w → Starts s (limit_of w) w w' → Laying s n ob w' × Starts s n w w'
after_starts s n ob w w' h st₀ =
    let st : Starts s n w w' = subst (λ (m : ℕ). Starts s m w w') h.firsts.headed.limit st₀ in
    let few = signals_few s h.firsts.headed.image in (
      record {
        firsts = record {
          headed = headed_kept s n w w' h.firsts.headed st.long (λ j u. st.other j (λ e v z. absurd (omega arith)));
          firsts = λ p u. st.other _ (λ e v z. absurd (omega arith)) ∙ h.firsts.firsts p u;
        };
        flag = ap is_set (st.other 4 (λ e v z. absurd (omega arith))) ∙ h.flag;
        zero = λ j u o q. st.other j q ∙ h.zero j u o q;
      },
      st,
    )

pub column_zero : (s : List ℕ) (n : ℕ) (ob : Bool) (w : List ℕ) → Laying s n ob w → (i : ℕ) → i < signal_bits s → get_or w (signal_column (limit_of w) + signal_bits s + i) 0 ≡ 0
column_zero s n ob w h i u =
    let m : signal_column (limit_of w) + signal_bits s + i ≡ signal_column n + signal_bits s + i = ap (λ (k : ℕ). signal_column k + signal_bits s + i) h.firsts.headed.limit in
    ap (λ (j : ℕ). get_or w j 0) m ∙ h.zero _ (omega arith) (λ i' v z. absurd (omega arith)) (λ e v z. absurd (omega arith))

module _ (s : List ℕ) (n : ℕ) (ob : Bool) (w₀ w w' : List ℕ) (h : Laying s n ob w) (st : Starts s n w₀ w) (ix₀ : Indexed s (limit_of w) w w') where
  ix : Indexed s n w w'
  ix = subst (λ (m : ℕ). Indexed s m w w') h.firsts.headed.limit ix₀

  -- a word that no step stored
  still : (j : ℕ) → 4 < j → ((i : ℕ) → i < signal_bits s → j ≡ signal_column n + signal_bits s + i → ⊥) → ((i : ℕ) → i < signal_bits s → j ≡ signal_column n + 3 * signal_bits s + i → ⊥)
      → ((e : ℕ) → e < count_at_of s 1 → j ≡ expr_at s n e 0 → ⊥) → get_or w' j 0 ≡ 0
  still j u a b c = ix.other j a ∙ h.zero j u b c

  nets_none : (j : ℕ) → j < signal_bits s → get_or w' (signal_column n + j) 0 ≡ 0
  nets_none j u = still _ (omega arith) (λ i v z. absurd (omega arith)) (λ i v z. absurd (omega arith)) (λ e v z. absurd (omega arith))

  marks_none : (j : ℕ) → j < signal_bits s → get_or w' (signal_column n + 2 * signal_bits s + j) 0 ≡ 0
  marks_none j u = still _ (omega arith) (λ i v z. absurd (omega arith)) (λ i v z. absurd (omega arith)) (λ e v z. absurd (omega arith))

  flags_none : (e : ℕ) → e < count_at_of s 1 → get_or w' (expr_at s n e 1) 0 ≡ 0
  flags_none e u = still _ (omega arith) (λ i v z. absurd (omega arith)) (λ i v z. absurd (omega arith)) (λ e' v z. absurd (omega arith))

  bits_none : (j : ℕ) → get_or w' (bit_column s n + j) 0 ≡ 0
  bits_none j = still _ (omega arith) (λ i v z. absurd (omega arith)) (λ i v z. absurd (omega arith)) (λ e v z. absurd (omega arith))

  not_whole : (e : ℕ) → e < count_at_of s 1 → is_whole s n w' e ≡ false
  not_whole e u = is_set_no _ (flags_none e u)

  laid_at : LaidAt s n w'
  laid_at =
      let f = firsts_kept s n w w' h.firsts ix.long ix.other in
      let d = f.headed in
      record {
        image = d.image;
        limited = d.limited;
        long = d.long;
        limit = d.limit;
        bits = d.bits;
        exprs = d.exprs;
        nets = d.nets;
        firsts = f.firsts;
        starts = λ e u. ix.other _ (λ i v z. absurd (omega arith)) ∙ st.starts e u;
        drivers = ix.drivers;
        signal_nets = λ j u. omega (arith, nets_none j u);
        expr_nets = λ j u. omega (arith, bits_none j);
        wholes = λ e b u v q. absurd (true≢false (sym q ∙ not_whole e u));
      }

  none_rows : {A : Type 0} (a : A) (g : ℕ → A) → ((j : ℕ) → j < signal_bits s → g j ≡ a) → rows (signal_width s) (count_at_of s 0) g ≡ map (λ x. replicate x.width a) (decode s).signals
  unfolding rows decode signal_at
  none_rows a g z =
      list_of_agree (count_at_of s 0) (λ i. list_of (signal_width s i) (λ j. g (sum_to (signal_width s) i + j))) (λ i. replicate (signal_width s i) a)
      (λ i u. list_of_agree (signal_width s i) (λ j. g (sum_to (signal_width s) i + j)) (λ j. a) (λ j v. z _ (signal_inside s i j u v)) ∙ sym (replicate_list_of (signal_width s i) a))
      ∙ sym (map_list_of (λ x. replicate x.width a) (count_at_of s 0) (signal_at s))

  wholes_none : list_of (count_at_of s 1) (whole_at s n w') ≡ map (λ x. none) (decode s).exprs
  unfolding decode
  wholes_none = list_of_agree (count_at_of s 1) (whole_at s n w') (λ e. none) (λ e u. whole_none s n w' e (not_whole e u)) ∙ sym (map_list_of (λ x. none) (count_at_of s 1) (I.expr_at s))

  ranges_none : list_of (count_at_of s 1) (ranges_at s n w') ≡ map (λ x. replicate x.width none) (decode s).exprs
  unfolding decode I.expr_at
  ranges_none =
      list_of_agree (count_at_of s 1) (ranges_at s n w') (λ e. replicate (expr_width s e) none)
      (λ e u. ranges_there s n w' e (not_whole e u)
      ∙ list_of_agree (expr_width s e) (λ b. known (get_or w' (bit_at s n e b) 0)) (λ b. none) (λ b v. known_none _ (bits_none _))
      ∙ sym (replicate_list_of (expr_width s e) none))
      ∙ sym (map_list_of (λ x. replicate x.width none) (count_at_of s 1) (I.expr_at s))

  state_at_law : (p : ℕ) → state_at s n (record { max_nets = n; max_list = p; nodes = []; records = [] }) w' ≡ M.start (decode s) n p
  unfolding M.start
  state_at_law p = λ j. M.state (record { max_nets = n; max_list = p; nodes = []; records = [] })
      (none_rows none (λ i. known (get_or w' (signal_column n + i) 0)) (λ i u. known_none _ (nets_none i u)) j)
      (none_rows false (λ i. is_set (get_or w' (signal_column n + 2 * signal_bits s + i) 0)) (λ i u. is_set_no _ (marks_none i u)) j)
      (wholes_none j) (ranges_none j)

  pub ready_way : Started s n ob w'
  ready_way =
      let q : get_or w' 0 0 ≡ n = laid_at.limit in
      record {
        laid = subst (λ (m : ℕ). LaidAt s m w') (sym q) laid_at;
        limit = q;
        flag = ap is_set (ix.other 4 (λ i v z. absurd (omega arith))) ∙ h.flag;
        state = λ p. ap (λ (m : ℕ). state_at s m (record { max_nets = n; max_list = p; nodes = []; records = [] }) w') q ∙ state_at_law p;
        free = ap (λ (m : ℕ). free_at s m w') q ∙ free_all s n w' marks_none;
        index = λ j u v. still j u (λ i x z. absurd (omega arith)) (λ i x z. absurd (omega arith)) (λ e x z. absurd (omega arith));
      }

-- a cleared list is 0 throughout
pub cleared : (w w' : List ℕ) → w' ≡ replicate (length w) 0 → (length w' ≡ length w) × (w' ≡ replicate (length w') 0)
cleared w w' e =
    let l : length w' ≡ length w = ap length e ∙ length-replicate (length w) 0 in
    (l, e ∙ ap (λ (k : ℕ). replicate k 0) (sym l))
