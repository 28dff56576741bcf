-- Laws of the scratch: what its tables read as, and what a store into one of them makes of the state. Assumes nothing.
use Rattle.std.specs.Prelude.{◌≡◌, refl, Bool, false, List, [], ◌∷◌, ◌++◌, map, ◌⊎◌, ℕ, zero, suc, ◌+◌, ◌*◌, ◌-◌, ◌≤◌, ◌<◌, min, length, get_or, set, take, drop}
use Rattle.std.proofs.Math.Path.{sym, ap}
use Rattle.std.proofs.Common.{ap₂, ◌∙◌, subst, true≢false, inl, inr, length-set, length-append, length-take, ext_get_or, get_or-set_same, get_or-set_other, get_or-take, get_or-drop, get_or-append-add, take_all}
use Rattle.std.proofs.Math.Bool.{true}
use Rattle.std.proofs.Math.Logic.{⊎_elim}
use Rattle.std.proofs.Math.Option.{Option, none, some}
use native.Mathlib.Omega.{arith}
use Rattle.std.proofs.Math.ListN.{get_or-append}
use Rattle.std.proofs.Math.Seq.{paste}
use Rattle.std.proofs.lemmas.List.Edits.{length-paste}
use Rattle.std.proofs.lemmas.List.{set-get_or}
use Rattle.spec_tests.specs.Rules.{list_of, sum_to}
use Rattle.spec_rules.specs.Image.{count_at_of, signal_width, expr_width}
use Rattle.spec_rules.specs.Checks.{signal_bits, expr_bits, scratch_need}
use Rattle.spec_model.specs.Words.{Netlist, absent}
use Rattle.spec_model.specs.Lowering as M
use Rattle.spec_model.specs.Lowering.{State, state, net_of, cell}
use Rattle.scratch_view.specs.Rows.{list_of_agree, at_list_of, is_list_of, set_list_of, map_list_of, length_list_of, sum_agree, sum_falls, stretch_before, stretch_apart, sum_most, same_or, rows_agree, set_rows, put_rows, cell_rows}
use Rattle.scratch_view.specs.View.{limit_of, signal_column, expr_column, bit_column, signal_bit, expr_bit, net_at, mark_at, expr_at, bit_at, known, net_word, is_set, whole_of, ranges_of, is_whole, signal_rows, mark_rows, whole_at, ranges_at, state_at, unset, free_at, Sized, LaidAt, Laid, Writes, Marks}

-- ---- words ----

pub known_some : (x : ℕ) → 0 < x → known x ≡ some (x - 1)
unfolding known
known_some zero h = absurd (omega arith)
known_some (suc x) h = let e : x ≡ suc x - 1 = omega arith in ap some e

pub known_none : (x : ℕ) → x ≡ 0 → known x ≡ none
unfolding known
known_none x h = rw h

pub known_suc : (x : ℕ) → known (suc x) ≡ some x
unfolding known
known_suc x = refl

pub net_word_suc : (x : ℕ) → net_word (suc x) ≡ x
unfolding net_word known
net_word_suc x = refl

pub net_word_some : (x : ℕ) → 0 < x → net_word x ≡ x - 1
unfolding net_word
net_word_some x h = ap net_of (known_some x h)

pub net_word_none : (x : ℕ) → x ≡ 0 → net_word x ≡ absent
unfolding net_word
net_word_none x h = ap net_of (known_none x h)

pub is_set_yes : (x : ℕ) → (x ≡ 0 → ⊥) → is_set x ≡ true
unfolding is_set
is_set_yes zero h = absurd (h refl)
is_set_yes (suc x) h = refl

pub is_set_no : (x : ℕ) → x ≡ 0 → is_set x ≡ false
unfolding is_set
is_set_no x h = rw h

set_not : (x : ℕ) → is_set x ≡ false → x ≡ 0
unfolding is_set
set_not zero h = refl
set_not (suc x) h = let z : ◌≡◌ {A = Bool} true false = h in let y : ◌≡◌ {A = ℕ} 0 1 = cc in absurd (omega arith)

unset_none : (x : ℕ) → (x ≡ 0 → ⊥) → unset x ≡ unset 1
unfolding unset
unset_none zero h = absurd (h refl)
unset_none (suc x) h = refl

unset_most : (x : ℕ) → unset x ≤ 1
unfolding unset
unset_most zero = omega arith
unset_most (suc x) = omega arith

-- ---- sizes ----

pub need_is : (s : List ℕ) (n : ℕ) → scratch_need s n ≡ bit_column s n + expr_bits s
unfolding scratch_need
need_is s n = omega arith

pub signal_inside : (s : List ℕ) (p b : ℕ) → p < count_at_of s 0 → b < signal_width s p → signal_bit s p b < signal_bits s
unfolding signal_bits
signal_inside s p b h u = omega (arith, stretch_before (signal_width s) p (count_at_of s 0) h)

pub signal_ends : (s : List ℕ) (p : ℕ) → p < count_at_of s 0 → signal_bit s p (signal_width s p) ≤ signal_bits s
unfolding signal_bits
signal_ends s p h = stretch_before (signal_width s) p (count_at_of s 0) h

pub expr_ends : (s : List ℕ) (e : ℕ) → e < count_at_of s 1 → expr_bit s e (expr_width s e) ≤ expr_bits s
unfolding expr_bits
expr_ends s e h = stretch_before (expr_width s) e (count_at_of s 1) h

pub bits_are : (s : List ℕ) → signal_bits s ≡ sum_to (signal_width s) (count_at_of s 0)
unfolding signal_bits
bits_are s = refl

bits_below : (s : List ℕ) (j : ℕ) → j < sum_to (signal_width s) (count_at_of s 0) → j < signal_bits s
unfolding signal_bits
bits_below s j u = u

pub signals_few : (s : List ℕ) → Sized s → count_at_of s 0 ≤ signal_bits s
unfolding signal_bits
signals_few s z = sum_most (signal_width s) (count_at_of s 0) (λ p h. z.signal_some p h)

-- ---- stores ----

-- w becomes w' by k words from at on, the values v
pub record Stored (at k : ℕ) (v : ℕ → ℕ) (w w' : List ℕ) : Type 0 where
  pub long : length w' ≡ length w
  pub inside : (i : ℕ) → i < k → get_or w' (at + i) 0 ≡ v i
  pub other : (j : ℕ) → ((i : ℕ) → i < k → j ≡ at + i → ⊥) → get_or w' j 0 ≡ get_or w j 0

pub stored_one : (at x : ℕ) (w : List ℕ) → at < length w → Stored at 1 (λ i. x) w (set w at x)
stored_one at x w h = record {
  long = length-set w at x;
  inside = λ i u. let e : at + i ≡ at = omega arith in ap (λ (j : ℕ). get_or (set w at x) j 0) e ∙ get_or-set_same w at x 0 h;
  other = λ j o. get_or-set_other w at j x 0 (λ z. o 0 (omega arith) (omega arith));
}

below_or : (a b : ℕ) → (a < b) ⊎ (b ≤ a)
below_or a zero = inr (omega arith)
below_or zero (suc b) = inl (omega arith)
below_or (suc a) (suc b) = ⊎_elim (λ (x : a < b). inl (omega arith)) (λ (x : b ≤ a). inr (omega arith)) (below_or a b)

app_assoc : {A : Type 0} (a b c : List A) → (a ++ b) ++ c ≡ a ++ (b ++ c)
app_assoc [] b c = refl
app_assoc (x ∷ a) b c = ap (λ (t : List _). x ∷ t) (app_assoc a b c)

-- k elements of vs pasted at a place; d past an end
module _ {A : Type 0} (d : A) (w : List A) (at k : ℕ) (vs : List A) (h : at + k ≤ length w) (u : k ≤ length vs) where
  pasted_in : (i : ℕ) → i < k → get_or (paste w at vs k) (at + i) d ≡ get_or vs i d
  pasted_in i v =
      let la : length (take at w) ≡ at = length-take at w ∙ omega arith in
      let lv : length (take k vs) ≡ k = length-take k vs ∙ omega arith in
      ap (λ (m : ℕ). get_or (paste w at vs k) (m + i) d) (sym la)
      ∙ ap (λ (xs : List A). get_or xs (length (take at w) + i) d) (app_assoc (take at w) (take k vs) (drop (at + k) w))
      ∙ get_or-append-add (take at w) (take k vs ++ drop (at + k) w) i d
      ∙ get_or-append (take k vs) (drop (at + k) w) d i (omega arith)
      ∙ get_or-take k vs i d v

  pasted_before : (j : ℕ) → j < at → get_or (paste w at vs k) j d ≡ get_or w j d
  pasted_before j v =
      let la : length (take at w) ≡ at = length-take at w ∙ omega arith in
      let lv : length (take at w ++ take k vs) ≡ length (take at w) + length (take k vs) = length-append (take at w) (take k vs) in
      get_or-append (take at w ++ take k vs) (drop (at + k) w) d j (omega arith)
      ∙ get_or-append (take at w) (take k vs) d j (omega arith)
      ∙ get_or-take at w j d v

  pasted_after : (j : ℕ) → at + k ≤ j → get_or (paste w at vs k) j d ≡ get_or w j d
  pasted_after j v =
      let la : length (take at w) ≡ at = length-take at w ∙ omega arith in
      let lk : length (take k vs) ≡ k = length-take k vs ∙ omega arith in
      let lv : length (take at w ++ take k vs) ≡ at + k = length-append (take at w) (take k vs) ∙ omega arith in
      let e : j ≡ length (take at w ++ take k vs) + (j - (at + k)) = omega arith in
      let e' : at + k + (j - (at + k)) ≡ j = omega arith in
      ap (λ (m : ℕ). get_or (paste w at vs k) m d) e
      ∙ get_or-append-add (take at w ++ take k vs) (drop (at + k) w) (j - (at + k)) d
      ∙ get_or-drop (at + k) w (j - (at + k)) d
      ∙ ap (λ (m : ℕ). get_or w m d) e'

  pasted_other : (j : ℕ) → ((i : ℕ) → i < k → j ≡ at + i → ⊥) → get_or (paste w at vs k) j d ≡ get_or w j d
  pasted_other j o =
      ⊎_elim (λ (v : j < at). pasted_before j v)
      (λ (v : at ≤ j). ⊎_elim (λ (x : j < at + k). absurd (o (j - at) (omega arith) (omega arith))) (λ (x : at + k ≤ j). pasted_after j x) (below_or j (at + k)))
      (below_or j at)

pub stored_paste : (w : List ℕ) (at k : ℕ) (vs : List ℕ) → at + k ≤ length w → k ≤ length vs → Stored at k (λ i. get_or vs i 0) w (paste w at vs k)
stored_paste w at k vs h u = record { long = length-paste w at vs k h u; inside = pasted_in 0 w at k vs h u; other = pasted_other 0 w at k vs h u }

-- ---- what stays ----

take_agree : (m : ℕ) (w w' : List ℕ) → length w' ≡ length w → ((j : ℕ) → j < m → get_or w' j 0 ≡ get_or w j 0) → take m w' ≡ take m w
take_agree m w w' l h =
    let a : length (take m w') ≡ min m (length w') = length-take m w' in
    let b : length (take m w) ≡ min m (length w) = length-take m w in
    ext_get_or 0 (take m w') (take m w) (omega arith) (λ j u.
    let v : j < m = omega arith in
    get_or-take m w' j 0 v ∙ h j v ∙ sym (get_or-take m w j 0 v))

-- the words that no writer of a table changes, and nets that stay small
pub record Unwritten (s : List ℕ) (n : ℕ) (w w' : List ℕ) : Type 0 where
  pub long : length w' ≡ length w
  pub fixed : (j : ℕ) → j < signal_column n → get_or w' j 0 ≡ get_or w j 0
  pub drivers : (j : ℕ) → j < signal_bits s → get_or w' (signal_column n + signal_bits s + j) 0 ≡ get_or w (signal_column n + signal_bits s + j) 0
  pub firsts : (j : ℕ) → j < signal_bits s → get_or w' (signal_column n + 3 * signal_bits s + j) 0 ≡ get_or w (signal_column n + 3 * signal_bits s + j) 0
  pub exprs : (e k : ℕ) → e < count_at_of s 1 → k < 8 → (k ≡ 1 → ⊥) → get_or w' (expr_at s n e k) 0 ≡ get_or w (expr_at s n e k) 0
  pub signal_nets : (j : ℕ) → j < signal_bits s → get_or w' (signal_column n + j) 0 ≤ 65535
  pub expr_nets : (j : ℕ) → j < expr_bits s → get_or w' (bit_column s n + j) 0 ≤ 65535
  pub wholes : (e b : ℕ) → e < count_at_of s 1 → b < expr_width s e → is_whole s n w' e ≡ true → 0 < get_or w' (bit_at s n e b) 0

pub kept_laid : (s : List ℕ) (n : ℕ) (w w' : List ℕ) → LaidAt s n w → Unwritten s n w w' → LaidAt s n w'
kept_laid s n w w' h k = record {
  image = h.image;
  limited = h.limited;
  long = k.long ∙ h.long;
  limit = k.fixed 0 (omega arith) ∙ h.limit;
  bits = k.fixed 1 (omega arith) ∙ h.bits;
  exprs = k.fixed 2 (omega arith) ∙ h.exprs;
  nets = k.fixed 3 (omega arith) ∙ h.nets;
  firsts = λ p u. k.firsts p (omega (arith, signals_few s h.image)) ∙ h.firsts p u;
  starts = λ e u. k.exprs e 0 u (omega arith) (λ z. absurd (omega arith)) ∙ h.starts e u;
  drivers = λ p b u v. k.drivers (signal_bit s p b) (signal_inside s p b u v) ∙ h.drivers p b u v;
  signal_nets = k.signal_nets;
  expr_nets = k.expr_nets;
  wholes = k.wholes;
}

-- the words of expression e agree
abbrev pub ExprSame : List ℕ → ℕ → List ℕ → List ℕ → ℕ → Type 0
ExprSame s n w w' e = (get_or w' (expr_at s n e 1) 0 ≡ get_or w (expr_at s n e 1) 0) × ((b : ℕ) → b < expr_width s e → get_or w' (bit_at s n e b) 0 ≡ get_or w (bit_at s n e b) 0)

pub still_whole : (s : List ℕ) (n : ℕ) (w w' : List ℕ) (e b : ℕ) → LaidAt s n w → ExprSame s n w w' e → e < count_at_of s 1 → b < expr_width s e → is_whole s n w' e ≡ true
    → 0 < get_or w' (bit_at s n e b) 0
still_whole s n w w' e b h x u v q = subst (λ (m : ℕ). 0 < m) (sym (x.1 b v)) (h.wholes e b u v (sym (ap is_set x.0) ∙ q))

pub writes : (op : State → State) (s w w' : List ℕ) → Laid s w → Unwritten s (limit_of w) w w'
    → ((l : Netlist) → state_at s (limit_of w) l w' ≡ op (state_at s (limit_of w) l w)) → free_at s (limit_of w) w' ≤ free_at s (limit_of w) w → Writes op s w w'
writes op s w w' h k e f =
    let n = limit_of w in
    let q : limit_of w' ≡ n = k.fixed 0 (omega arith) in
    record {
      says = λ l. ap (λ (m : ℕ). state_at s m l w') q ∙ e l;
      laid = subst (λ (m : ℕ). LaidAt s m w') (sym q) (kept_laid s n w w' h k);
      limit = q;
      fixed = take_agree (64 + 4 * n) w w' k.long (λ j u. k.fixed j u);
      plan = λ e i u a b. k.exprs e i u b (λ z. absurd (omega arith));
      fewer = subst (λ (m : ℕ). free_at s m w' ≤ free_at s n w) (sym q) f;
    }

-- ---- the state's parts, where words agree ----

module _ (s : List ℕ) (n : ℕ) (w w' : List ℕ) where
  pub signals_stay : ((j : ℕ) → j < signal_bits s → get_or w' (signal_column n + j) 0 ≡ get_or w (signal_column n + j) 0) → signal_rows s n w' ≡ signal_rows s n w
  unfolding signal_bits
  signals_stay h =
      rows_agree (signal_width s) (count_at_of s 0) (λ j. known (get_or w' (signal_column n + j) 0)) (λ j. known (get_or w (signal_column n + j) 0)) (λ j u. ap known (h j u))

  pub marks_stay : ((j : ℕ) → j < signal_bits s → get_or w' (signal_column n + 2 * signal_bits s + j) 0 ≡ get_or w (signal_column n + 2 * signal_bits s + j) 0) → mark_rows s n w' ≡ mark_rows s n w
  marks_stay h =
      rows_agree (signal_width s) (count_at_of s 0) (λ j. is_set (get_or w' (signal_column n + 2 * signal_bits s + j) 0))
      (λ j. is_set (get_or w (signal_column n + 2 * signal_bits s + j) 0)) (λ j u. ap is_set (h j (bits_below s j u)))

  pub free_stays : ((j : ℕ) → j < signal_bits s → get_or w' (signal_column n + 2 * signal_bits s + j) 0 ≡ get_or w (signal_column n + 2 * signal_bits s + j) 0) → free_at s n w' ≡ free_at s n w
  unfolding free_at
  free_stays h =
      sum_agree (λ j. unset (get_or w' (signal_column n + 2 * signal_bits s + j) 0)) (λ j. unset (get_or w (signal_column n + 2 * signal_bits s + j) 0)) (signal_bits s) (λ j u. ap unset (h j u))

  whole_stays : (e : ℕ) → ExprSame s n w w' e → whole_at s n w' e ≡ whole_at s n w e
  whole_stays e h =
      ap₂ whole_of (ap is_set h.0) (list_of_agree (expr_width s e) (λ b. net_word (get_or w' (bit_at s n e b) 0)) (λ b. net_word (get_or w (bit_at s n e b) 0)) (λ b u. ap net_word (h.1 b u)))

  ranges_stay : (e : ℕ) → ExprSame s n w w' e → ranges_at s n w' e ≡ ranges_at s n w e
  ranges_stay e h =
      ap₂ ranges_of (ap is_set h.0) (list_of_agree (expr_width s e) (λ b. known (get_or w' (bit_at s n e b) 0)) (λ b. known (get_or w (bit_at s n e b) 0)) (λ b u. ap known (h.1 b u)))

  pub wholes_stay : ((e : ℕ) → e < count_at_of s 1 → ExprSame s n w w' e) → list_of (count_at_of s 1) (whole_at s n w') ≡ list_of (count_at_of s 1) (whole_at s n w)
  wholes_stay h = list_of_agree (count_at_of s 1) (whole_at s n w') (whole_at s n w) (λ e u. whole_stays e (h e u))

  pub rangeses_stay : ((e : ℕ) → e < count_at_of s 1 → ExprSame s n w w' e) → list_of (count_at_of s 1) (ranges_at s n w') ≡ list_of (count_at_of s 1) (ranges_at s n w)
  rangeses_stay h = list_of_agree (count_at_of s 1) (ranges_at s n w') (ranges_at s n w) (λ e u. ranges_stay e (h e u))

-- ---- stores into the tables ----

-- a signal's net
module _ (s w w' : List ℕ) (p b x : ℕ) (h : Laid s w) (u : p < count_at_of s 0) (v : b < signal_width s p) (small : x < 65535)
    (st : Stored (net_at s (limit_of w) p b) 1 (λ i. suc x) w w') where
  here_net : signal_bit s p b < signal_bits s
  here_net = signal_inside s p b u v

  net_exprs : (e : ℕ) → e < count_at_of s 1 → ExprSame s (limit_of w) w w' e
  net_exprs e a = (st.other _ (λ i c z. absurd (omega (arith, here_net))), λ b' d. st.other _ (λ i c z. absurd (omega (arith, here_net))))

  net_kept : Unwritten s (limit_of w) w w'
  net_kept = record {
    long = st.long;
    fixed = λ j a. st.other j (λ i c z. absurd (omega arith));
    drivers = λ j a. st.other _ (λ i c z. absurd (omega (arith, here_net)));
    firsts = λ j a. st.other _ (λ i c z. absurd (omega (arith, here_net)));
    exprs = λ e k a d q. st.other _ (λ i c z. absurd (omega (arith, here_net)));
    signal_nets = λ j a. ⊎_elim
        (λ (z : j ≡ signal_bit s p b).
        let e : signal_column (limit_of w) + j ≡ net_at s (limit_of w) p b + 0 = omega arith in
        let y : get_or w' (signal_column (limit_of w) + j) 0 ≡ suc x = ap (λ (m : ℕ). get_or w' m 0) e ∙ st.inside 0 (omega arith) in
        omega arith)
        (λ (z : j ≡ signal_bit s p b → ⊥).
        let y : get_or w' (signal_column (limit_of w) + j) 0 ≡ get_or w (signal_column (limit_of w) + j) 0 = st.other _ (λ i c q. z (omega arith)) in
        omega (arith, h.signal_nets j a))
        (same_or j (signal_bit s p b));
    expr_nets = λ j a.
        let y : get_or w' (bit_column s (limit_of w) + j) 0 ≡ get_or w (bit_column s (limit_of w) + j) 0 = st.other _ (λ i c z. absurd (omega (arith, here_net))) in
        omega (arith, h.expr_nets j a);
    wholes = λ e b' a d q. still_whole s (limit_of w) w w' e b' h (net_exprs e a) a d q;
  }

  net_marks : (j : ℕ) → j < signal_bits s → get_or w' (signal_column (limit_of w) + 2 * signal_bits s + j) 0 ≡ get_or w (signal_column (limit_of w) + 2 * signal_bits s + j) 0
  net_marks j a = st.other _ (λ i c z. absurd (omega (arith, here_net)))

  pub store_net : Writes (λ q. M.set_signal_bit q p b x) s w w'
  unfolding M.set_signal_bit
  store_net =
      let n = limit_of w in
      writes _ s w w' h net_kept
      (λ l j. state l
      (sym (put_rows (signal_width s) (count_at_of s 0) (λ j. known (get_or w (signal_column n + j) 0)) (λ j. known (get_or w' (signal_column n + j) 0)) p b (some x) u v
      (let e : signal_column n + signal_bit s p b ≡ net_at s n p b + 0 = omega arith in
      ap (λ (m : ℕ). known (get_or w' m 0)) e ∙ ap known (st.inside 0 (omega arith)) ∙ known_suc x)
      (λ m o. ap known (st.other _ (λ i c z. o (omega arith))))) j)
      (marks_stay s n w w' net_marks j)
      (wholes_stay s n w w' net_exprs j)
      (rangeses_stay s n w w' net_exprs j))
      (omega (arith, free_stays s n w w' net_marks))

-- a mark
module _ (s w w' : List ℕ) (p b : ℕ) (h : Laid s w) (u : p < count_at_of s 0) (v : b < signal_width s p)
    (st : Stored (mark_at s (limit_of w) p b) 1 (λ i. 1) w w') where
  here_mark : signal_bit s p b < signal_bits s
  here_mark = signal_inside s p b u v

  mark_nets : (j : ℕ) → j < signal_bits s → get_or w' (signal_column (limit_of w) + j) 0 ≡ get_or w (signal_column (limit_of w) + j) 0
  mark_nets j a = st.other _ (λ i c z. absurd (omega (arith, here_mark)))

  mark_exprs : (e : ℕ) → e < count_at_of s 1 → ExprSame s (limit_of w) w w' e
  mark_exprs e a = (st.other _ (λ i c z. absurd (omega (arith, here_mark))), λ b' d. st.other _ (λ i c z. absurd (omega (arith, here_mark))))

  mark_kept : Unwritten s (limit_of w) w w'
  mark_kept = record {
    long = st.long;
    fixed = λ j a. st.other j (λ i c z. absurd (omega arith));
    drivers = λ j a. st.other _ (λ i c z. absurd (omega (arith, here_mark)));
    firsts = λ j a. st.other _ (λ i c z. absurd (omega (arith, here_mark)));
    exprs = λ e k a d q. st.other _ (λ i c z. absurd (omega (arith, here_mark)));
    signal_nets = λ j a. omega (arith, mark_nets j a, h.signal_nets j a);
    expr_nets = λ j a.
        let y : get_or w' (bit_column s (limit_of w) + j) 0 ≡ get_or w (bit_column s (limit_of w) + j) 0 = st.other _ (λ i c z. absurd (omega (arith, here_mark))) in
        omega (arith, h.expr_nets j a);
    wholes = λ e b' a d q. still_whole s (limit_of w) w w' e b' h (mark_exprs e a) a d q;
  }

  mark_word : get_or w' (mark_at s (limit_of w) p b) 0 ≡ 1
  mark_word = let e : mark_at s (limit_of w) p b ≡ mark_at s (limit_of w) p b + 0 = omega arith in ap (λ (m : ℕ). get_or w' m 0) e ∙ st.inside 0 (omega arith)

  marked_word : cell false (mark_rows s (limit_of w) w) p b ≡ is_set (get_or w (mark_at s (limit_of w) p b) 0)
  marked_word = cell_rows (signal_width s) (count_at_of s 0) (λ j. is_set (get_or w (signal_column (limit_of w) + 2 * signal_bits s + j) 0)) false p b u v

  free_less : get_or w (mark_at s (limit_of w) p b) 0 ≡ 0 → suc (free_at s (limit_of w) w') ≡ free_at s (limit_of w) w
  unfolding free_at unset
  free_less e =
      let n = limit_of w in
      sum_falls (λ j. unset (get_or w (signal_column n + 2 * signal_bits s + j) 0)) (λ j. unset (get_or w' (signal_column n + 2 * signal_bits s + j) 0)) (signal_bits s) (signal_bit s p b) here_mark
      (ap unset e) (ap unset mark_word) (λ j a q. ap unset (st.other _ (λ i c z. q (omega arith))))

  free_same : (get_or w (mark_at s (limit_of w) p b) 0 ≡ 0 → ⊥) → free_at s (limit_of w) w' ≡ free_at s (limit_of w) w
  unfolding free_at
  free_same o =
      let n = limit_of w in
      sum_agree (λ j. unset (get_or w' (signal_column n + 2 * signal_bits s + j) 0)) (λ j. unset (get_or w (signal_column n + 2 * signal_bits s + j) 0)) (signal_bits s)
      (λ j a. ⊎_elim
      (λ (z : j ≡ signal_bit s p b).
      let e : signal_column n + 2 * signal_bits s + j ≡ mark_at s n p b = omega arith in
      ap (λ (m : ℕ). unset (get_or w' m 0)) e ∙ ap unset mark_word ∙ sym (ap (λ (m : ℕ). unset (get_or w m 0)) e ∙ unset_none _ o))
      (λ (z : j ≡ signal_bit s p b → ⊥). ap unset (st.other _ (λ i c q. z (omega arith))))
      (same_or j (signal_bit s p b)))

  free_fewer : free_at s (limit_of w) w' ≤ free_at s (limit_of w) w
  free_fewer =
      ⊎_elim (λ (z : get_or w (mark_at s (limit_of w) p b) 0 ≡ 0). omega (arith, free_less z))
      (λ (z : get_or w (mark_at s (limit_of w) p b) 0 ≡ 0 → ⊥). omega (arith, free_same z)) (same_or (get_or w (mark_at s (limit_of w) p b) 0) 0)

  mark_writes : Writes (λ q. M.mark q p b) s w w'
  unfolding M.mark
  mark_writes =
      let n = limit_of w in
      writes _ s w w' h mark_kept
      (λ l j. state l
      (signals_stay s n w w' mark_nets j)
      (sym (put_rows (signal_width s) (count_at_of s 0) (λ j. is_set (get_or w (signal_column n + 2 * signal_bits s + j) 0)) (λ j. is_set (get_or w' (signal_column n + 2 * signal_bits s + j) 0)) p b true u v
      (ap is_set mark_word ∙ is_set_yes 1 (λ z. absurd (omega arith)))
      (λ m o. ap is_set (st.other _ (λ i c z. o (omega arith))))) j)
      (wholes_stay s n w w' mark_exprs j)
      (rangeses_stay s n w w' mark_exprs j))
      free_fewer

  pub store_mark : Marks s p b w w'
  store_mark = record {
    writes = mark_writes;
    falls = λ e.
        let q : limit_of w' ≡ limit_of w = mark_kept.fixed 0 (omega arith) in
        ap (λ (m : ℕ). suc (free_at s m w')) q ∙ free_less (set_not _ (sym marked_word ∙ e));
  }

-- nets stored one more than they are, in a stretch: what they read as
module _ (w' ns : List ℕ) (at k : ℕ) (long : k ≤ length ns) (here : (i : ℕ) → i < k → get_or w' (at + i) 0 ≡ suc (get_or ns i 0)) where
  nets_there : list_of k (λ i. net_word (get_or w' (at + i) 0)) ≡ take k ns
  nets_there =
      sym (is_list_of 0 k (λ i. net_word (get_or w' (at + i) 0)) (take k ns) (length-take k ns ∙ omega arith)
      (λ j u. get_or-take k ns j 0 u ∙ sym (ap net_word (here j u) ∙ net_word_suc (get_or ns j 0))))

  somes_there : list_of k (λ i. known (get_or w' (at + i) 0)) ≡ map some (take k ns)
  somes_there =
      let e : take k ns ≡ list_of k (λ i. get_or ns i 0) = is_list_of 0 k (λ i. get_or ns i 0) (take k ns) (length-take k ns ∙ omega arith) (λ j u. get_or-take k ns j 0 u) in
      sym (ap (map some) e ∙ map_list_of some k (λ i. get_or ns i 0)
      ∙ list_of_agree k (λ i. some (get_or ns i 0)) (λ i. known (get_or w' (at + i) 0)) (λ j u. sym (ap known (here j u) ∙ known_suc (get_or ns j 0))))

-- all nets of a signal
module _ (s w w' ns : List ℕ) (p : ℕ) (h : Laid s w) (u : p < count_at_of s 0) (long : signal_width s p ≤ length ns)
    (small : (i : ℕ) → i < signal_width s p → get_or ns i 0 < 65535)
    (st : Stored (net_at s (limit_of w) p 0) (signal_width s p) (λ i. suc (get_or ns i 0)) w w') where
  here_signal : signal_bit s p (signal_width s p) ≤ signal_bits s
  here_signal = signal_ends s p u

  signal_exprs : (e : ℕ) → e < count_at_of s 1 → ExprSame s (limit_of w) w w' e
  signal_exprs e a = (st.other _ (λ i c z. absurd (omega (arith, here_signal))), λ b' d. st.other _ (λ i c z. absurd (omega (arith, here_signal))))

  signal_kept : Unwritten s (limit_of w) w w'
  signal_kept = record {
    long = st.long;
    fixed = λ j a. st.other j (λ i c z. absurd (omega arith));
    drivers = λ j a. st.other _ (λ i c z. absurd (omega (arith, here_signal)));
    firsts = λ j a. st.other _ (λ i c z. absurd (omega (arith, here_signal)));
    exprs = λ e k a d q. st.other _ (λ i c z. absurd (omega (arith, here_signal)));
    signal_nets = λ j a. ⊎_elim
        (λ (z : j < signal_bit s p 0).
        let y : get_or w' (signal_column (limit_of w) + j) 0 ≡ get_or w (signal_column (limit_of w) + j) 0 = st.other _ (λ i c q. absurd (omega arith)) in
        omega (arith, h.signal_nets j a))
        (λ (z : signal_bit s p 0 ≤ j). ⊎_elim
        (λ (x : j < signal_bit s p (signal_width s p)).
        let e : signal_column (limit_of w) + j ≡ net_at s (limit_of w) p 0 + (j - signal_bit s p 0) = omega arith in
        let y : get_or w' (signal_column (limit_of w) + j) 0 ≡ suc (get_or ns (j - signal_bit s p 0) 0) = ap (λ (m : ℕ). get_or w' m 0) e ∙ st.inside (j - signal_bit s p 0) (omega arith) in
        omega (arith, small (j - signal_bit s p 0) (omega arith)))
        (λ (x : signal_bit s p (signal_width s p) ≤ j).
        let y : get_or w' (signal_column (limit_of w) + j) 0 ≡ get_or w (signal_column (limit_of w) + j) 0 = st.other _ (λ i c q. absurd (omega arith)) in
        omega (arith, h.signal_nets j a))
        (below_or j (signal_bit s p (signal_width s p))))
        (below_or j (signal_bit s p 0));
    expr_nets = λ j a.
        let y : get_or w' (bit_column s (limit_of w) + j) 0 ≡ get_or w (bit_column s (limit_of w) + j) 0 = st.other _ (λ i c z. absurd (omega (arith, here_signal))) in
        omega (arith, h.expr_nets j a);
    wholes = λ e b' a d q. still_whole s (limit_of w) w w' e b' h (signal_exprs e a) a d q;
  }

  signal_marks : (j : ℕ) → j < signal_bits s → get_or w' (signal_column (limit_of w) + 2 * signal_bits s + j) 0 ≡ get_or w (signal_column (limit_of w) + 2 * signal_bits s + j) 0
  signal_marks j a = st.other _ (λ i c z. absurd (omega (arith, here_signal)))

  signal_row : map some (take (signal_width s p) ns) ≡ list_of (signal_width s p) (λ j. known (get_or w' (signal_column (limit_of w) + signal_bit s p j) 0))
  signal_row =
      sym (somes_there w' ns (net_at s (limit_of w) p 0) (signal_width s p) long (λ i c. st.inside i c))
      ∙ list_of_agree (signal_width s p) (λ i. known (get_or w' (net_at s (limit_of w) p 0 + i) 0)) (λ j. known (get_or w' (signal_column (limit_of w) + signal_bit s p j) 0))
      (λ j c. let e : net_at s (limit_of w) p 0 + j ≡ signal_column (limit_of w) + signal_bit s p j = omega arith in ap (λ (m : ℕ). known (get_or w' m 0)) e)

  pub store_signal : Writes (λ q. M.set_signal q p (take (signal_width s p) ns)) s w w'
  unfolding M.set_signal
  store_signal =
      let n = limit_of w in
      writes _ s w w' h signal_kept
      (λ l j. state l
      (sym (set_rows (signal_width s) (count_at_of s 0) (λ j. known (get_or w (signal_column n + j) 0)) (λ j. known (get_or w' (signal_column n + j) 0)) p
      (map some (take (signal_width s p) ns)) signal_row
      (λ i' j' a q c. ap known (st.other _ (λ i d z. stretch_apart (signal_width s) p i i' j' d c q (omega arith))))) j)
      (marks_stay s n w w' signal_marks j)
      (wholes_stay s n w w' signal_exprs j)
      (rangeses_stay s n w w' signal_exprs j))
      (omega (arith, free_stays s n w w' signal_marks))

-- words of expression e's stretch, from bit lsb on; f is what its flag becomes
module _ (s w w' ns : List ℕ) (e lsb k f : ℕ) (h : Laid s w) (u : e < count_at_of s 1) (fits : lsb + k ≤ expr_width s e) (long : k ≤ length ns)
    (small : (i : ℕ) → i < k → get_or ns i 0 < 65535)
    (len : length w' ≡ length w)
    (inside : (i : ℕ) → i < k → get_or w' (bit_at s (limit_of w) e lsb + i) 0 ≡ suc (get_or ns i 0))
    (flag : get_or w' (expr_at s (limit_of w) e 1) 0 ≡ f)
    (other : (j : ℕ) → (j ≡ expr_at s (limit_of w) e 1 → ⊥) → ((i : ℕ) → i < k → j ≡ bit_at s (limit_of w) e lsb + i → ⊥) → get_or w' j 0 ≡ get_or w j 0)
    (full : (b : ℕ) → b < expr_width s e → is_whole s (limit_of w) w' e ≡ true → 0 < get_or w' (bit_at s (limit_of w) e b) 0) where
  low : (j : ℕ) → j < expr_column s (limit_of w) → get_or w' j 0 ≡ get_or w j 0
  low j a = other j (λ z. absurd (omega arith)) (λ i c z. absurd (omega arith))

  others_same : (e' : ℕ) → e' < count_at_of s 1 → (e' ≡ e → ⊥) → ExprSame s (limit_of w) w w' e'
  others_same e' a q = (
    other _ (λ z. q (omega arith)) (λ i c z. absurd (omega arith)),
    λ b d. other _ (λ z. absurd (omega arith)) (λ i c z. stretch_apart (expr_width s) e (lsb + i) e' b (omega arith) d q (omega arith)),
  )

  expr_kept : Unwritten s (limit_of w) w w'
  expr_kept = record {
    long = len;
    fixed = λ j a. low j (omega arith);
    drivers = λ j a. low _ (omega arith);
    firsts = λ j a. low _ (omega arith);
    exprs = λ e' k' a d q. other _ (λ z. q (omega arith)) (λ i c z. absurd (omega arith));
    signal_nets = λ j a. omega (arith, low (signal_column (limit_of w) + j) (omega arith), h.signal_nets j a);
    expr_nets = λ j a. ⊎_elim
        (λ (z : j < expr_bit s e lsb).
        let y : get_or w' (bit_column s (limit_of w) + j) 0 ≡ get_or w (bit_column s (limit_of w) + j) 0 = other _ (λ q. absurd (omega arith)) (λ i c q. absurd (omega arith)) in
        omega (arith, h.expr_nets j a))
        (λ (z : expr_bit s e lsb ≤ j). ⊎_elim
        (λ (x : j < expr_bit s e lsb + k).
        let m : bit_column s (limit_of w) + j ≡ bit_at s (limit_of w) e lsb + (j - expr_bit s e lsb) = omega arith in
        let y : get_or w' (bit_column s (limit_of w) + j) 0 ≡ suc (get_or ns (j - expr_bit s e lsb) 0) = ap (λ (i : ℕ). get_or w' i 0) m ∙ inside (j - expr_bit s e lsb) (omega arith) in
        omega (arith, small (j - expr_bit s e lsb) (omega arith)))
        (λ (x : expr_bit s e lsb + k ≤ j).
        let y : get_or w' (bit_column s (limit_of w) + j) 0 ≡ get_or w (bit_column s (limit_of w) + j) 0 = other _ (λ q. absurd (omega arith)) (λ i c q. absurd (omega arith)) in
        omega (arith, h.expr_nets j a))
        (below_or j (expr_bit s e lsb + k)))
        (below_or j (expr_bit s e lsb));
    wholes = λ e' b a d q. ⊎_elim
        (λ (z : e' ≡ e). subst (λ (x : ℕ). b < expr_width s x → is_whole s (limit_of w) w' x ≡ true → 0 < get_or w' (bit_at s (limit_of w) x b) 0) (sym z) (λ d' q'. full b d' q') d q)
        (λ (z : e' ≡ e → ⊥). still_whole s (limit_of w) w w' e' b h (others_same e' a z) a d q)
        (same_or e' e);
  }

  expr_marks : (j : ℕ) → j < signal_bits s → get_or w' (signal_column (limit_of w) + 2 * signal_bits s + j) 0 ≡ get_or w (signal_column (limit_of w) + 2 * signal_bits s + j) 0
  expr_marks j a = low _ (omega arith)

  expr_writes : (op : State → State)
      → ((l : Netlist) → state l (signal_rows s (limit_of w) w) (mark_rows s (limit_of w) w) (list_of (count_at_of s 1) (whole_at s (limit_of w) w')) (list_of (count_at_of s 1) (ranges_at s (limit_of w) w')) ≡ op (state_at s (limit_of w) l w))
      → Writes op s w w'
  expr_writes op q =
      let n = limit_of w in
      writes op s w w' h expr_kept
      (λ l. (λ j. state l (signals_stay s n w w' (λ j a. low _ (omega arith)) j) (marks_stay s n w w' expr_marks j) (list_of (count_at_of s 1) (whole_at s n w')) (list_of (count_at_of s 1) (ranges_at s n w'))) ∙ q l)
      (omega (arith, free_stays s n w w' expr_marks))

whole_entry : (s : List ℕ) (n : ℕ) (w ns : List ℕ) (e : ℕ) → is_whole s n w e ≡ true → expr_width s e ≤ length ns
    → ((i : ℕ) → i < expr_width s e → get_or w (bit_at s n e 0 + i) 0 ≡ suc (get_or ns i 0)) → whole_at s n w e ≡ some (take (expr_width s e) ns)
unfolding whole_of
whole_entry s n w ns e f long h =
    ap₂ whole_of f
    (list_of_agree (expr_width s e) (λ b. net_word (get_or w (bit_at s n e b) 0)) (λ i. net_word (get_or w (bit_at s n e 0 + i) 0))
    (λ b u. let m : bit_at s n e b ≡ bit_at s n e 0 + b = omega arith in ap (λ (i : ℕ). net_word (get_or w i 0)) m)
    ∙ nets_there w ns (bit_at s n e 0) (expr_width s e) long h)

ranges_gone : (s : List ℕ) (n : ℕ) (w : List ℕ) (e : ℕ) → is_whole s n w e ≡ true → ranges_at s n w e ≡ []
unfolding ranges_of
ranges_gone s n w e f = ap (λ (t : Bool). ranges_of t (list_of (expr_width s e) (λ b. known (get_or w (bit_at s n e b) 0)))) f

pub whole_none : (s : List ℕ) (n : ℕ) (w : List ℕ) (e : ℕ) → is_whole s n w e ≡ false → whole_at s n w e ≡ none
unfolding whole_of
whole_none s n w e f = ap (λ (t : Bool). whole_of t (list_of (expr_width s e) (λ b. net_word (get_or w (bit_at s n e b) 0)))) f

pub whole_some : (s : List ℕ) (n : ℕ) (w : List ℕ) (e : ℕ) → is_whole s n w e ≡ true → whole_at s n w e ≡ some (list_of (expr_width s e) (λ b. net_word (get_or w (bit_at s n e b) 0)))
unfolding whole_of
whole_some s n w e f = ap (λ (t : Bool). whole_of t (list_of (expr_width s e) (λ b. net_word (get_or w (bit_at s n e b) 0)))) f

pub ranges_there : (s : List ℕ) (n : ℕ) (w : List ℕ) (e : ℕ) → is_whole s n w e ≡ false → ranges_at s n w e ≡ list_of (expr_width s e) (λ b. known (get_or w (bit_at s n e b) 0))
unfolding ranges_of
ranges_there s n w e f = ap (λ (t : Bool). ranges_of t (list_of (expr_width s e) (λ b. known (get_or w (bit_at s n e b) 0)))) f

-- a whole expression: its stretch, then its flag
pub store_whole : (s w w₁ w' ns : List ℕ) (e : ℕ) → Laid s w → e < count_at_of s 1 → expr_width s e ≤ length ns
    → ((i : ℕ) → i < expr_width s e → get_or ns i 0 < 65535)
    → Stored (bit_at s (limit_of w) e 0) (expr_width s e) (λ i. suc (get_or ns i 0)) w w₁ → Stored (expr_at s (limit_of w) e 1) 1 (λ i. 1) w₁ w'
    → Writes (λ q. M.set_whole q e (take (expr_width s e) ns)) s w w'
unfolding M.set_whole
store_whole s w w₁ w' ns e h u long small st st' =
    let n = limit_of w in
    let len : length w' ≡ length w = st'.long ∙ st.long in
    let inside : (i : ℕ) → i < expr_width s e → get_or w' (bit_at s n e 0 + i) 0 ≡ suc (get_or ns i 0) = λ i c. st'.other _ (λ i' c' z. absurd (omega arith)) ∙ st.inside i c in
    let flag : get_or w' (expr_at s n e 1) 0 ≡ 1 =
    (let m : expr_at s n e 1 ≡ expr_at s n e 1 + 0 = omega arith in ap (λ (i : ℕ). get_or w' i 0) m ∙ st'.inside 0 (omega arith)) in
    let other : (j : ℕ) → (j ≡ expr_at s n e 1 → ⊥) → ((i : ℕ) → i < expr_width s e → j ≡ bit_at s n e 0 + i → ⊥) → get_or w' j 0 ≡ get_or w j 0 =
    λ j a b. st'.other j (λ i c z. a (omega arith)) ∙ st.other j b in
    let is : is_whole s n w' e ≡ true = ap is_set flag ∙ is_set_yes 1 (λ z. absurd (omega arith)) in
    let full : (b : ℕ) → b < expr_width s e → is_whole s n w' e ≡ true → 0 < get_or w' (bit_at s n e b) 0 =
    λ b c q. (let m : bit_at s n e b ≡ bit_at s n e 0 + b = omega arith in omega (arith, ap (λ (i : ℕ). get_or w' i 0) m ∙ inside b c)) in
    let same = others_same s w w' ns e 0 (expr_width s e) 1 h u (omega arith) long small len inside flag other full in
    expr_writes s w w' ns e 0 (expr_width s e) 1 h u (omega arith) long small len inside flag other full (λ q. M.set_whole q e (take (expr_width s e) ns))
    (λ l j. state l (signal_rows s n w) (mark_rows s n w)
    (sym (set_list_of (count_at_of s 1) (whole_at s n w) (whole_at s n w') e (some (take (expr_width s e) ns)) (whole_entry s n w' ns e is long inside)
    (λ e' a q. whole_stays s n w w' e' (same e' a q))) j)
    (sym (set_list_of (count_at_of s 1) (ranges_at s n w) (ranges_at s n w') e [] (ranges_gone s n w' e is) (λ e' a q. ranges_stay s n w w' e' (same e' a q))) j))

-- a row with ns in the place of its entries from lsb on, as a list by a function
range_row_law : (s : List ℕ) (w w' ns : List ℕ) (e lsb k n : ℕ) → lsb + k ≤ expr_width s e → k ≤ length ns
    → ((i : ℕ) → i < k → get_or w' (bit_at s n e lsb + i) 0 ≡ suc (get_or ns i 0))
    → ((j : ℕ) → ((i : ℕ) → i < k → j ≡ lsb + i → ⊥) → j < expr_width s e → get_or w' (bit_at s n e j) 0 ≡ get_or w (bit_at s n e j) 0)
    → take lsb (list_of (expr_width s e) (λ b. known (get_or w (bit_at s n e b) 0))) ++ map some (take k ns) ++ drop (lsb + length (take k ns)) (list_of (expr_width s e) (λ b. known (get_or w (bit_at s n e b) 0)))
    ≡ list_of (expr_width s e) (λ b. known (get_or w' (bit_at s n e b) 0))
range_row_law s w w' ns e lsb k n fits long inside other =
    let row = list_of (expr_width s e) (λ b. known (get_or w (bit_at s n e b) 0)) in
    let lk : length (take k ns) ≡ k = length-take k ns ∙ omega arith in
    let vs = list_of k (λ i. known (get_or w' (bit_at s n e lsb + i) 0)) in
    let vk : length vs ≡ k = length_list_of k (λ i. known (get_or w' (bit_at s n e lsb + i) 0)) in
    let lr : length row ≡ expr_width s e = length_list_of (expr_width s e) (λ b. known (get_or w (bit_at s n e b) 0)) in
    let h : lsb + k ≤ length row = omega arith in
    let a : map some (take k ns) ≡ take k vs = sym (somes_there w' ns (bit_at s n e lsb) k long inside) ∙ sym (take_all k vs (omega arith)) in
    ap₂ (λ (x : List (Option ℕ)) (m : ℕ). take lsb row ++ x ++ drop (lsb + m) row) a lk
    ∙ is_list_of none (expr_width s e) (λ b. known (get_or w' (bit_at s n e b) 0)) (paste row lsb vs k) (length-paste row lsb vs k h (omega arith) ∙ lr)
    (λ j u. ⊎_elim
    (λ (z : j < lsb). pasted_before none row lsb k vs h (omega arith) j z ∙ at_list_of (expr_width s e) (λ b. known (get_or w (bit_at s n e b) 0)) j none u
    ∙ sym (ap known (other j (λ i c q. absurd (omega arith)) u)))
    (λ (z : lsb ≤ j). ⊎_elim
    (λ (x : j < lsb + k).
    let m : j ≡ lsb + (j - lsb) = omega arith in
    let m' : bit_at s n e lsb + (j - lsb) ≡ bit_at s n e j = omega arith in
    ap (λ (i : ℕ). get_or (paste row lsb vs k) i none) m ∙ pasted_in none row lsb k vs h (omega arith) (j - lsb) (omega arith)
    ∙ at_list_of k (λ i. known (get_or w' (bit_at s n e lsb + i) 0)) (j - lsb) none (omega arith) ∙ ap (λ (i : ℕ). known (get_or w' i 0)) m')
    (λ (x : lsb + k ≤ j). pasted_after none row lsb k vs h (omega arith) j x ∙ at_list_of (expr_width s e) (λ b. known (get_or w (bit_at s n e b) 0)) j none u
    ∙ sym (ap known (other j (λ i c q. absurd (omega arith)) u)))
    (below_or j (lsb + k)))
    (below_or j lsb))

pub read_whole : (s : List ℕ) (n : ℕ) (l : Netlist) (w : List ℕ) (e : ℕ) → e < count_at_of s 1 → M.whole (state_at s n l w) e ≡ whole_at s n w e
unfolding M.whole
read_whole s n l w e u = at_list_of (count_at_of s 1) (whole_at s n w) e none u

pub read_ranges : (s : List ℕ) (n : ℕ) (w : List ℕ) (e : ℕ) → e < count_at_of s 1 → get_or (list_of (count_at_of s 1) (ranges_at s n w)) e [] ≡ ranges_at s n w e
read_ranges s n w e u = at_list_of (count_at_of s 1) (ranges_at s n w) e [] u

-- a range of an expression that is not whole
pub store_range : (s w w' ns : List ℕ) (e lsb k : ℕ) → Laid s w → e < count_at_of s 1 → lsb + k ≤ expr_width s e → k ≤ length ns
    → ((i : ℕ) → i < k → get_or ns i 0 < 65535) → is_whole s (limit_of w) w e ≡ false
    → Stored (bit_at s (limit_of w) e lsb) k (λ i. suc (get_or ns i 0)) w w' → Writes (λ q. M.set_range q e lsb (take k ns)) s w w'
unfolding M.set_range
store_range s w w' ns e lsb k h u fits long small not st =
    let n = limit_of w in
    let flag : get_or w' (expr_at s n e 1) 0 ≡ get_or w (expr_at s n e 1) 0 = st.other _ (λ i c z. absurd (omega arith)) in
    let other : (j : ℕ) → (j ≡ expr_at s n e 1 → ⊥) → ((i : ℕ) → i < k → j ≡ bit_at s n e lsb + i → ⊥) → get_or w' j 0 ≡ get_or w j 0 = λ j a b. st.other j b in
    let is : is_whole s n w' e ≡ false = ap is_set flag ∙ not in
    let full : (b : ℕ) → b < expr_width s e → is_whole s n w' e ≡ true → 0 < get_or w' (bit_at s n e b) 0 = λ b c q. absurd (true≢false (sym q ∙ is)) in
    let same = others_same s w w' ns e lsb k _ h u fits long small st.long st.inside flag other full in
    let row : ranges_at s n w' e ≡ M.ranges_by (M.whole (state_at s n (record { max_nets = 0; max_list = 0; nodes = []; records = [] }) w) e) (get_or (list_of (count_at_of s 1) (ranges_at s n w)) e []) lsb (take k ns) =
    ranges_there s n w' e is
    ∙ sym (ap₂ (λ (o : Option (List ℕ)) (r : List (Option ℕ)). M.ranges_by o r lsb (take k ns)) (read_whole s n _ w e u ∙ whole_none s n w e not) (read_ranges s n w e u ∙ ranges_there s n w e not)
    ∙ range_row_law s w w' ns e lsb k n fits long st.inside (λ j o c. st.other _ (λ i d z. o i d (omega arith)))) in
    expr_writes s w w' ns e lsb k _ h u fits long small st.long st.inside flag other full (λ q. M.set_range q e lsb (take k ns))
    (λ l j. state l (signal_rows s n w) (mark_rows s n w)
    (list_of_agree (count_at_of s 1) (whole_at s n w') (whole_at s n w)
    (λ e' a. ⊎_elim (λ (q : e' ≡ e). subst (λ (x : ℕ). whole_at s n w' x ≡ whole_at s n w x) (sym q) (whole_none s n w' e is ∙ sym (whole_none s n w e not)))
    (λ (q : e' ≡ e → ⊥). whole_stays s n w w' e' (same e' a q)) (same_or e' e)) j)
    (sym (set_list_of (count_at_of s 1) (ranges_at s n w) (ranges_at s n w') e
    (M.ranges_by (M.whole (state_at s n l w) e) (get_or (list_of (count_at_of s 1) (ranges_at s n w)) e []) lsb (take k ns))
    (row ∙ ap (λ (o : Option (List ℕ)). M.ranges_by o (get_or (list_of (count_at_of s 1) (ranges_at s n w)) e []) lsb (take k ns)) (read_whole s n _ w e u ∙ sym (read_whole s n l w e u)))
    (λ e' a q. ranges_stay s n w w' e' (same e' a q))) j))

-- a range of a whole expression: nothing is stored
pub skip_range : (s w ns : List ℕ) (e lsb : ℕ) → Laid s w → e < count_at_of s 1 → is_whole s (limit_of w) w e ≡ true → Writes (λ q. M.set_range q e lsb ns) s w w
unfolding M.set_range
skip_range s w ns e lsb h u is =
    let n = limit_of w in
    let ranges = list_of (count_at_of s 1) (ranges_at s n w) in
    writes _ s w w h
    (record {
      long = refl;
      fixed = λ j a. refl;
      drivers = λ j a. refl;
      firsts = λ j a. refl;
      exprs = λ e k a b q. refl;
      signal_nets = h.signal_nets;
      expr_nets = h.expr_nets;
      wholes = h.wholes;
    })
    (λ l j. state l (signal_rows s n w) (mark_rows s n w) (list_of (count_at_of s 1) (whole_at s n w))
    (sym (ap (λ (o : Option (List ℕ)). set ranges e (M.ranges_by o (get_or ranges e []) lsb ns)) (read_whole s n l w e u ∙ whole_some s n w e is) ∙ set-get_or ranges e []) j))
    (omega arith)

-- ---- the measure ----

sum_ones : (f : ℕ → ℕ) (n : ℕ) → ((j : ℕ) → j < n → f j ≡ 1) → sum_to f n ≡ n
unfolding sum_to
sum_ones f zero h = refl
sum_ones f (suc n) h = omega (arith, sum_ones f n (λ j u. h j (omega arith)), h n (omega arith))

sum_units : (f : ℕ → ℕ) (n : ℕ) → ((j : ℕ) → j < n → f j ≤ 1) → sum_to f n ≤ n
unfolding sum_to
sum_units f zero h = omega arith
sum_units f (suc n) h = omega (arith, sum_units f n (λ j u. h j (omega arith)), h n (omega arith))

pub free_all : (s : List ℕ) (n : ℕ) (w : List ℕ) → ((j : ℕ) → j < signal_bits s → get_or w (signal_column n + 2 * signal_bits s + j) 0 ≡ 0) → free_at s n w ≡ signal_bits s
unfolding free_at unset
free_all s n w h = sum_ones (λ j. unset (get_or w (signal_column n + 2 * signal_bits s + j) 0)) (signal_bits s) (λ j u. ap unset (h j u))

pub free_most : (s : List ℕ) (n : ℕ) (w : List ℕ) → free_at s n w ≤ signal_bits s
unfolding free_at
free_most s n w = sum_units (λ j. unset (get_or w (signal_column n + 2 * signal_bits s + j) 0)) (signal_bits s) (λ j u. unset_most (get_or w (signal_column n + 2 * signal_bits s + j) 0))
