-- For each way through a function of the tables, from what is known there to what it promises. Assumes nothing.
use mathlib.Core.Path.{◌≡◌, refl, sym, ap, ◌∙◌, subst}
use mathlib.Core.Bool.{Bool, true, false, not}
use mathlib.Core.List.{List, [], ◌∷◌, ◌++◌, map, append_assoc, append-nil}
use mathlib.Core.Option.{Option, none, some}
use Prim.Native.Nat.{ℕ, zero, suc, ◌+◌, ◌*◌, ◌-◌, ◌/◌, ◌%◌, ◌≤◌, ◌<◌}
use native.Mathlib.Nat.{sub-zero, zero-add}
use native.Mathlib.Numerals.{add-one}
use native.Mathlib.Omega.{arith}
use lib.Dec.{eqb}
use lib.ListN.{length, get_or, set, take, drop, length-drop, drop_of_length-le}
use lib.Seq.{take_all, drop-drop, paste}
use borrow.Rule.Slice.PartMut.{put_mid}
use borrow.Author.Tests.{eqb-true, eqb-false}
use Rattle.std.specs.Prelude as Code
use Rattle.std.specs.Prelude.{SomeIff, Some, None}
use Rattle.spec_tests.specs.Options.{option_of}
use Rattle.spec_tests.specs.Rules.{each, list_of, sum_to}
use Rattle.spec_rules.specs.Image.{count_at_of, signal_width, expr_width, decode}
use Rattle.spec_model.specs.Words.{Netlist, absent}
use Rattle.spec_model.specs.Lowering as M
use Rattle.spec_model.specs.Lowering.{cell, driver_of}
use Rattle.scratch_view.specs.View.{limit_of, net_at, driver_at, mark_at, first_at, expr_at, bit_at, known, net_word, is_set, is_whole, state_of, driver_word, Laid, Writes, Marks}
use Rattle.scratch_view.specs.Laws.{known_some, known_none, is_set_yes, is_set_no, Stored, stored_one, stored_paste, store_net, store_mark, store_signal, store_whole, store_range}
use Rattle.scratch_view.specs.Reads.{read_signal, read_mark, read_signals, read_range, whole_net_law, known_range}
use Rattle.scratch_view.specs.Rows.{at_list_of}
use Rattle.scratch_view.specs.Copies.{PastedAt, paste_turn}
use Rattle.scratch_view.specs.Drivers.{driver_inside, inside_low, word_none, word_some}
use Rattle.scratch_tables.specs.Answers.{SignalPlace, ExprPlace, ExprNet, Small}

-- the code's test of a word
pub test : (x : ℕ) → not (eqb x 0) ≡ is_set x
test x = go (eqb x 0) refl
  where
    go : (t : Bool) → eqb x 0 ≡ t → not t ≡ is_set x
    go true e = sym (is_set_no x (eqb-true x 0 e))
    go false e = sym (is_set_yes x (eqb-false x 0 e))

-- a word less one, where there is one less, is the net that it says
pub known_is : (x : ℕ) (o : Code.Option ℕ) → SomeIff o (1 ≤ x) (x - 1) → option_of o ≡ known x
known_is x (Some n) h = ap (λ (k : ℕ). some k) h.1 ∙ sym (known_some x h.0)
known_is x None h = sym (known_none x (omega arith))

-- ---- places ----

module _ (s w : List ℕ) (h : Laid s w) where
  pub first_word : (p : ℕ) → p < count_at_of s 0 → get_or w (64 + 4 * get_or w 0 0 + 3 * get_or w 1 0 + p) 0 ≡ sum_to (signal_width s) p
  first_word p u =
      let m : 64 + 4 * get_or w 0 0 + 3 * get_or w 1 0 + p ≡ first_at s (limit_of w) p = omega (arith, h.bits) in
      ap (λ (j : ℕ). get_or w j 0) m ∙ h.firsts p u

  pub start_word : (e : ℕ) → e < count_at_of s 1 → get_or w (get_or w 2 0 + 8 * e) 0 ≡ sum_to (expr_width s) e
  start_word e u =
      let m : get_or w 2 0 + 8 * e ≡ expr_at s (limit_of w) e 0 = omega (arith, h.exprs) in
      ap (λ (j : ℕ). get_or w j 0) m ∙ h.starts e u

-- ---- signal bits ----

module _ (s w : List ℕ) (p b r : ℕ) (h : Laid s w) (u : p < count_at_of s 0) (v : b < signal_width s p) (a : SignalPlace s w p b r) where
  pub net_way : (l : Netlist) → M.signal_bit (state_of s l w) p b ≡ known (get_or w r 0)
  net_way l = read_signal s (limit_of w) l w p u b v ∙ ap (λ (j : ℕ). known (get_or w j 0)) (sym a.at)

  pub keep_way : (x : ℕ) → x < 65535 → Writes (λ st. M.set_signal_bit st p b x) s w (set w r (x + 1))
  keep_way x small =
      let at = net_at s (limit_of w) p b in
      let room : at < length w = omega (arith, h.long, a.ends) in
      subst (λ (j : ℕ). Writes (λ st. M.set_signal_bit st p b x) s w (set w j (x + 1))) (sym a.at)
      (subst (λ (y : ℕ). Writes (λ st. M.set_signal_bit st p b x) s w (set w at y)) (sym (add-one x))
      (store_net s w (set w at (suc x)) p b x h u v small (stored_one at (suc x) w room)))

  mark_place : r + 2 * get_or w 1 0 ≡ mark_at s (limit_of w) p b
  mark_place = omega (arith, h.bits, a.at)

  pub mark_way : Marks s p b w (set w (r + 2 * get_or w 1 0) 1)
  mark_way =
      let at = mark_at s (limit_of w) p b in
      let room : at < length w = omega (arith, h.long, a.ends) in
      subst (λ (j : ℕ). Marks s p b w (set w j 1)) (sym mark_place) (store_mark s w (set w at 1) p b h u v (stored_one at 1 w room))

  pub marked_way : (l : Netlist) → not (eqb (get_or w (r + 2 * get_or w 1 0) 0) 0) ≡ cell false (state_of s l w).resolving p b
  marked_way l =
      test (get_or w (r + 2 * get_or w 1 0) 0) ∙ ap (λ (j : ℕ). is_set (get_or w j 0)) mark_place ∙ sym (read_mark s (limit_of w) l w p u b v)

  driver_word_law : get_or w (r + get_or w 1 0) 0 ≡ driver_word (driver_of (decode s) p b)
  driver_word_law =
      let m : r + get_or w 1 0 ≡ driver_at s (limit_of w) p b = omega (arith, h.bits, a.at) in
      ap (λ (j : ℕ). get_or w j 0) m ∙ h.drivers p b u v

  pub undriven_way : get_or w (r + get_or w 1 0) 0 ≡ 0 → none ≡ driver_of (decode s) p b
  undriven_way e = sym (word_none (driver_of (decode s) p b) (sym driver_word_law ∙ e))

  pub driven_way : (get_or w (r + get_or w 1 0) 0 ≡ 0 → ⊥)
      → (1 ≤ get_or w (r + get_or w 1 0) 0 / 1024) × (driver_of (decode s) p b ≡ some (get_or w (r + get_or w 1 0) 0 / 1024 - 1, get_or w (r + get_or w 1 0) 0 % 1024))
  driven_way e =
      word_some (driver_of (decode s) p b) (get_or w (r + get_or w 1 0) 0)
      (inside_low s b (driver_of (decode s) p b) (driver_inside s p b h.image) (omega (arith, h.image.signal_most p u))) driver_word_law e

-- ---- expression bits ----

pub whole_way : (s w : List ℕ) (e : ℕ) → Laid s w → not (eqb (get_or w (get_or w 2 0 + 8 * e + 1) 0) 0) ≡ is_whole s (limit_of w) w e
whole_way s w e h =
    let m : get_or w 2 0 + 8 * e + 1 ≡ expr_at s (limit_of w) e 1 = omega (arith, h.exprs) in
    test (get_or w (get_or w 2 0 + 8 * e + 1) 0) ∙ ap (λ (j : ℕ). is_set (get_or w j 0)) m

pub expr_net_way : (s w : List ℕ) (e b r x : ℕ) → e < count_at_of s 1 → b < expr_width s e → ExprPlace s w e b r → x ≡ net_word (get_or w r 0) → ExprNet s w e b x
expr_net_way s w e b r x u v a q =
    let n = limit_of w in
    let y : x ≡ net_word (get_or w (bit_at s n e b) 0) = q ∙ ap (λ (j : ℕ). net_word (get_or w j 0)) a.at in
    let m : bit_at s n e b ≡ bit_at s n e b + 0 = omega arith in
    record {
      range = λ l. y ∙ sym (ap (λ (xs : List ℕ). get_or xs 0 absent) (read_range s n l w e u b 1 (omega arith))
          ∙ at_list_of 1 (λ i. net_word (get_or w (bit_at s n e b + i) 0)) 0 absent (omega arith) ∙ ap (λ (j : ℕ). net_word (get_or w j 0)) (sym m));
      whole = λ l z. y ∙ sym (whole_net_law s n l w e u b v z);
    }

-- ---- whether words hold nets ----

-- i of the n words from at on are passed
pub record KnownAt (w : List ℕ) (at n i : ℕ) : Type 0 where
  pub below : i ≤ n
  pub left : M.all_some (list_of n (λ j. known (get_or w (at + j) 0))) ≡ M.all_some (each (λ j. known (get_or w (at + j) 0)) i (n - i))

module _ (w : List ℕ) (at n : ℕ) where
  pub known_begins : KnownAt w at n 0
  unfolding list_of
  known_begins = record { below = omega arith; left = ap (λ (k : ℕ). M.all_some (each (λ j. known (get_or w (at + j) 0)) 0 k)) (sym (sub-zero n)) }

  one_known : (i : ℕ) → i < n → each (λ j. known (get_or w (at + j) 0)) i (n - i) ≡ known (get_or w (at + i) 0) ∷ each (λ j. known (get_or w (at + j) 0)) (i + 1) (n - (i + 1))
  unfolding each
  one_known i u =
      let e : n - i ≡ suc (n - suc i) = omega arith in
      rw (e, add-one)

  pub known_stops : (i : ℕ) → KnownAt w at n i → i < n → get_or w (at + i) 0 ≡ 0 → false ≡ M.all_some (list_of n (λ j. known (get_or w (at + j) 0)))
  known_stops i h u e =
      sym (h.left ∙ ap M.all_some (one_known i u)
      ∙ ap (λ (o : Option ℕ). M.all_some (o ∷ each (λ j. known (get_or w (at + j) 0)) (i + 1) (n - (i + 1)))) (known_none (get_or w (at + i) 0) e))

  pub known_turn : (i : ℕ) → KnownAt w at n i → i < n → (get_or w (at + i) 0 ≡ 0 → ⊥) → KnownAt w at n (i + 1)
  known_turn i h u e = record {
    below = omega arith;
    left = h.left ∙ ap M.all_some (one_known i u)
        ∙ ap (λ (o : Option ℕ). M.all_some (o ∷ each (λ j. known (get_or w (at + j) 0)) (i + 1) (n - (i + 1)))) (known_some (get_or w (at + i) 0) (positive (get_or w (at + i) 0) e));
  }
    where
      positive : (x : ℕ) → (x ≡ 0 → ⊥) → 0 < x
      positive zero q = absurd (q refl)
      positive (suc x) q = omega arith

  pub known_ends : (i : ℕ) → KnownAt w at n i → n ≤ i → true ≡ M.all_some (list_of n (λ j. known (get_or w (at + j) 0)))
  unfolding each
  known_ends i h u =
      let e : n - i ≡ 0 = omega (arith, h.below) in
      sym (h.left ∙ ap (λ (k : ℕ). M.all_some (each (λ j. known (get_or w (at + j) 0)) i k)) e)

-- ---- copies ----

pub net_at_law : (w : List ℕ) (at n i : ℕ) → i < n → net_word (get_or w (at + i) 0) ≡ get_or (list_of n (λ j. net_word (get_or w (at + j) 0))) i 0
net_at_law w at n i u = sym (at_list_of n (λ j. net_word (get_or w (at + j) 0)) i 0 u)

pub sucs_at : (nets : List ℕ) (i : ℕ) → i < length nets → suc (get_or nets i 0) ≡ get_or (map suc nets) i 0
sucs_at [] i u = absurd (omega arith)
sucs_at (x ∷ xs) zero u = refl
sucs_at (x ∷ xs) (suc i) u = sucs_at xs i (omega arith)

pub sucs_long : (nets : List ℕ) → length (map suc nets) ≡ length nets
sucs_long [] = refl
sucs_long (x ∷ xs) = ap suc (sucs_long xs)

pub fill_turn : (d nets : List ℕ) (n : ℕ) (out out' : List ℕ) (i : ℕ) → PastedAt d 0 (map suc nets) n out i → i < n → n ≤ length d → n ≤ length nets
    → out' ≡ set out i (suc (get_or nets i 0)) → PastedAt d 0 (map suc nets) n out' (i + 1)
fill_turn d nets n out out' i h u fits long e =
    subst (λ (o : List ℕ). PastedAt d 0 (map suc nets) n o (i + 1)) (ap (λ (j : ℕ). set out j (suc (get_or nets i 0))) (zero-add i) ∙ sym e)
    (paste_turn d 0 (map suc nets) n out i (suc (get_or nets i 0)) h u (omega arith) (omega (arith, sucs_long nets)) (sucs_at nets i (omega arith)))

module _ (s w : List ℕ) (r lsb n : ℕ) (out out' : List ℕ) (to : ℕ) (c : out' ≡ paste out to (list_of n (λ i. net_word (get_or w (r + i) 0))) n) where
  pub copy_signal_way : (p : ℕ) → p < count_at_of s 0 → lsb + n ≤ signal_width s p → SignalPlace s w p lsb r → (l : Netlist) → out' ≡ paste out to (M.signal_nets (state_of s l w) p lsb n) n
  copy_signal_way p u v a l =
      c ∙ ap (λ (j : ℕ). paste out to (list_of n (λ i. net_word (get_or w (j + i) 0))) n) a.at
      ∙ ap (λ (xs : List ℕ). paste out to xs n) (sym (read_signals s (limit_of w) l w p lsb n u v))

  pub copy_range_way : (e : ℕ) → e < count_at_of s 1 → lsb + n ≤ expr_width s e → ExprPlace s w e lsb r → (l : Netlist) → out' ≡ paste out to (M.range_nets (state_of s l w) e lsb n) n
  copy_range_way e u v a l =
      c ∙ ap (λ (j : ℕ). paste out to (list_of n (λ i. net_word (get_or w (j + i) 0))) n) a.at
      ∙ ap (λ (xs : List ℕ). paste out to xs n) (sym (read_range s (limit_of w) l w e u lsb n v))

pub known_range_way : (s w : List ℕ) (e lsb n r : ℕ) (x : Bool) → e < count_at_of s 1 → lsb + n ≤ expr_width s e → is_whole s (limit_of w) w e ≡ false → ExprPlace s w e lsb r
    → x ≡ M.all_some (list_of n (λ i. known (get_or w (r + i) 0))) → (l : Netlist) → x ≡ M.range_known (state_of s l w) e lsb n
known_range_way s w e lsb n r x u v z a q l =
    q ∙ ap (λ (j : ℕ). M.all_some (list_of n (λ i. known (get_or w (j + i) 0)))) a.at ∙ sym (known_range s (limit_of w) l w e u lsb n v z)

-- ---- stretches ----

-- a part that came back filled: the whole with its stretch stored
pub filled : (w nets : List ℕ) (r n : ℕ) (m : List ℕ) → r + n ≤ length w → n ≤ length nets → m ≡ paste (take (length w - r) (drop r w)) 0 (map suc nets) n
    → Stored r n (λ i. suc (get_or nets i 0)) w (put_mid r (length w - r) w m)
filled w nets r n m fits long e =
    let part = drop r w in
    let all : take (length w - r) part ≡ part = take_all (length w - r) part (rw length-drop (omega arith)) in
    let nil : drop (length w - r) part ≡ [] = drop_of_length-le part {i = length w - r} (rw length-drop (omega arith)) in
    let vs = map suc nets in
    let rest : drop (0 + n) part ≡ drop (r + n) w = ap (λ (k : ℕ). drop k part) (zero-add n) ∙ drop-drop n r w in
    let m' : m ≡ take n vs ++ drop (r + n) w = e ∙ ap (λ (x : List ℕ). paste x 0 vs n) all ∙ ap (λ (x : List ℕ). take n vs ++ x) rest in
    let is : put_mid r (length w - r) w m ≡ paste w r vs n =
    ap (λ (x : List ℕ). take r w ++ (m ++ x)) nil ∙ ap (λ (x : List ℕ). take r w ++ x) (append-nil m ∙ m') ∙ sym (append_assoc (take r w) (take n vs) (drop (r + n) w)) in
    let st : Stored r n (λ i. get_or vs i 0) w (paste w r vs n) = stored_paste w r n vs fits (omega (arith, sucs_long nets)) in
    subst (λ (x : List ℕ). Stored r n (λ i. suc (get_or nets i 0)) w x) (sym is)
    (record { long = st.long; inside = λ i u. st.inside i u ∙ sym (sucs_at nets i (omega arith)); other = st.other })

module _ (s w nets m : List ℕ) (h : Laid s w) (small : Small (length nets) nets) where
  pub keep_signals_way : (p r : ℕ) → p < count_at_of s 0 → length nets ≡ signal_width s p → SignalPlace s w p 0 r → m ≡ paste (take (length w - r) (drop r w)) 0 (map suc nets) (length nets)
      → Writes (λ st. M.set_signal st p nets) s w (put_mid r (length w - r) w m)
  keep_signals_way p r u q a e =
      let w' = put_mid r (length w - r) w m in
      let st = filled w nets r (length nets) m (omega (arith, h.long, a.at, a.ends)) (omega arith) e in
      let st' : Stored (net_at s (limit_of w) p 0) (signal_width s p) (λ i. suc (get_or nets i 0)) w w' =
      subst (λ (k : ℕ). Stored (net_at s (limit_of w) p 0) k (λ i. suc (get_or nets i 0)) w w') q
      (subst (λ (j : ℕ). Stored j (length nets) (λ i. suc (get_or nets i 0)) w w') a.at st) in
      subst (λ (ns : List ℕ). Writes (λ st. M.set_signal st p ns) s w w') (take_all (signal_width s p) nets (omega arith))
      (store_signal s w w' nets p h u (omega arith) (λ i v. small i (omega arith)) st')

  pub keep_whole_way : (e r : ℕ) → e < count_at_of s 1 → length nets ≡ expr_width s e → ExprPlace s w e 0 r → m ≡ paste (take (length w - r) (drop r w)) 0 (map suc nets) (length nets)
      → Writes (λ st. M.set_whole st e nets) s w (set (put_mid r (length w - r) w m) (get_or w 2 0 + 8 * e + 1) 1)
  keep_whole_way e r u q a x =
      let w₁ = put_mid r (length w - r) w m in
      let flag = expr_at s (limit_of w) e 1 in
      let f : get_or w 2 0 + 8 * e + 1 ≡ flag = omega (arith, h.exprs) in
      let st = filled w nets r (length nets) m (omega (arith, h.long, a.at, a.ends)) (omega arith) x in
      let st' : Stored (bit_at s (limit_of w) e 0) (expr_width s e) (λ i. suc (get_or nets i 0)) w w₁ =
      subst (λ (k : ℕ). Stored (bit_at s (limit_of w) e 0) k (λ i. suc (get_or nets i 0)) w w₁) q
      (subst (λ (j : ℕ). Stored j (length nets) (λ i. suc (get_or nets i 0)) w w₁) a.at st) in
      subst (λ (ns : List ℕ). Writes (λ st. M.set_whole st e ns) s w (set w₁ (get_or w 2 0 + 8 * e + 1) 1)) (take_all (expr_width s e) nets (omega arith))
      (subst (λ (j : ℕ). Writes (λ st. M.set_whole st e (take (expr_width s e) nets)) s w (set w₁ j 1)) (sym f)
      (store_whole s w w₁ (set w₁ flag 1) nets e h u (omega arith) (λ i v. small i (omega arith)) st' (stored_one flag 1 w₁ (omega (arith, h.long, st.long)))))

  pub keep_range_way : (e lsb r : ℕ) → e < count_at_of s 1 → lsb + length nets ≤ expr_width s e → is_whole s (limit_of w) w e ≡ false → ExprPlace s w e lsb r
      → m ≡ paste (take (length w - r) (drop r w)) 0 (map suc nets) (length nets) → Writes (λ st. M.set_range st e lsb nets) s w (put_mid r (length w - r) w m)
  keep_range_way e lsb r u v z a x =
      let w' = put_mid r (length w - r) w m in
      subst (λ (ns : List ℕ). Writes (λ st. M.set_range st e lsb ns) s w w') (take_all (length nets) nets (omega arith))
      (store_range s w w' nets e lsb (length nets) h u v (omega arith) small z
      (subst (λ (j : ℕ). Stored j (length nets) (λ i. suc (get_or nets i 0)) w w') a.at (filled w nets r (length nets) m (omega (arith, h.long, a.at, a.ends)) (omega arith) x)))
