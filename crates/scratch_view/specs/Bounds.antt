-- Nets in the tables are numbers of nets, and the sizes of the image are those of its module. Assumes nothing.
use Rattle.std.specs.Prelude.{◌≡◌, refl, Bool, true, false, List, ◌∷◌, ℕ, zero, suc, ◌+◌, ◌-◌, ◌≤◌, ◌<◌, length, get_or}
use Rattle.std.proofs.Common.{sym, ◌∙◌, subst, true≢false, zero-add, arith}
use Rattle.std.proofs.Math.Path.{ap}
use Rattle.std.proofs.Math.Option.{Option, none, some}
use Rattle.spec_tests.specs.Rules.{each, list_of, sum_to}
use Rattle.spec_tests.specs.Laws.{sum_none}
use Rattle.spec_rtl.specs.Rtl as R
use Rattle.spec_rules.specs.Image as I
use Rattle.spec_rules.specs.Image.{count_at_of, signal_width, expr_width, decode}
use Rattle.spec_rules.specs.Checks.{signal_bits}
use Rattle.spec_model.specs.Words.{Netlist}
use Rattle.spec_model.specs.Lowering as M
use Rattle.spec_model.specs.Ranges.{width_at}
use Rattle.scratch_view.specs.Rows.{at_list_of, length_list_of, sum_suc}
use Rattle.scratch_view.specs.View.{limit_of, signal_bit, expr_bit, net_at, bit_at, known, net_word, is_whole, state_of, Laid}
use Rattle.scratch_view.specs.Laws.{net_word_some, signal_inside, expr_ends, read_whole, whole_none, whole_some, bits_are}
use Rattle.scratch_view.specs.Reads.{read_signal, read_signals, read_range, whole_nets_law, known_range}

-- ---- nets ----

known_is : (y x : ℕ) → known y ≡ some x → y ≡ suc x
unfolding known
known_is zero x e = let z : ◌≡◌ {A = ℕ} 0 1 = cc in absurd (omega arith)
known_is (suc y) x e = let z : y ≡ x = cc in ap suc z

-- all words hold nets
all_words : (f : ℕ → ℕ) (k : ℕ) → M.all_some (list_of k (λ j. known (f j))) ≡ true → (i : ℕ) → i < k → 0 < f i
unfolding list_of each known
all_words f k e i x = subst (λ (j : ℕ). 0 < f j) (zero-add i) (go 0 k e i x)
  where
    first : (y : ℕ) (os : List (Option ℕ)) → M.all_some (known y ∷ os) ≡ true → (0 < y) × (M.all_some os ≡ true)
    first zero os e = absurd (true≢false (sym e))
    first (suc y) os e = (omega arith, e)

    go : (b k : ℕ) → M.all_some (each (λ j. known (f j)) b k) ≡ true → (i : ℕ) → i < k → 0 < f (b + i)
    go b zero e i x = absurd (omega arith)
    go b (suc k) e zero x = let m : b ≡ b + 0 = omega arith in subst (λ (j : ℕ). 0 < f j) m (first (f b) (each (λ j. known (f j)) (suc b) k) e).0
    go b (suc k) e (suc i) x = let m : suc b + i ≡ b + suc i = omega arith in subst (λ (j : ℕ). 0 < f j) m (go (suc b) k (first (f b) (each (λ j. known (f j)) (suc b) k) e).1 i (omega arith))

pub signal_small : (s w : List ℕ) (l : Netlist) (p b x : ℕ) → Laid s w → p < count_at_of s 0 → b < signal_width s p → M.signal_bit (state_of s l w) p b ≡ some x → x < 65535
signal_small s w l p b x h u v e =
    let y : get_or w (net_at s (limit_of w) p b) 0 ≡ suc x = known_is _ x (sym (read_signal s (limit_of w) l w p u b v) ∙ e) in
    omega (arith, h.signal_nets (signal_bit s p b) (signal_inside s p b u v))

module _ (s w : List ℕ) (l : Netlist) (e : ℕ) (h : Laid s w) (u : e < count_at_of s 1) where
  word_small : (b : ℕ) → b < expr_width s e → 0 < get_or w (bit_at s (limit_of w) e b) 0 → net_word (get_or w (bit_at s (limit_of w) e b) 0) < 65535
  word_small b v q = omega (arith, net_word_some (get_or w (bit_at s (limit_of w) e b) 0) q, h.expr_nets (expr_bit s e b) (omega (arith, expr_ends s e u)))

  pub whole_small : is_whole s (limit_of w) w e ≡ true → (i : ℕ) → i < expr_width s e → get_or (M.whole_nets (state_of s l w) e) i 0 < 65535
  whole_small q i v =
      let n = limit_of w in
      let m : bit_at s n e 0 + i ≡ bit_at s n e i = omega arith in
      let y : get_or (M.whole_nets (state_of s l w) e) i 0 ≡ net_word (get_or w (bit_at s n e i) 0) =
      ap (λ (xs : List ℕ). get_or xs i 0) (whole_nets_law s n l w e u q) ∙ at_list_of (expr_width s e) (λ j. net_word (get_or w (bit_at s n e 0 + j) 0)) i 0 v
      ∙ ap (λ (j : ℕ). net_word (get_or w j 0)) m in
      omega (arith, word_small i v (h.wholes e i u v q))

  -- every bit of a known range has a word
  known_words : (lsb k : ℕ) → lsb + k ≤ expr_width s e → M.range_known (state_of s l w) e lsb k ≡ true → (i : ℕ) → i < k → 0 < get_or w (bit_at s (limit_of w) e lsb + i) 0
  known_words lsb k v q i x = go (is_whole s (limit_of w) w e) refl
    where
      go : (t : Bool) → is_whole s (limit_of w) w e ≡ t → 0 < get_or w (bit_at s (limit_of w) e lsb + i) 0
      go true z =
          let m : bit_at s (limit_of w) e (lsb + i) ≡ bit_at s (limit_of w) e lsb + i = omega arith in
          subst (λ (j : ℕ). 0 < get_or w j 0) m (h.wholes e (lsb + i) u (omega arith) z)
      go false z = all_words (λ j. get_or w (bit_at s (limit_of w) e lsb + j) 0) k (sym (known_range s (limit_of w) l w e u lsb k v z) ∙ q) i x

  pub range_small : (lsb k : ℕ) → lsb + k ≤ expr_width s e → M.range_known (state_of s l w) e lsb k ≡ true → (i : ℕ) → i < k → get_or (M.range_nets (state_of s l w) e lsb k) i 0 < 65535
  range_small lsb k v q i x =
      let n = limit_of w in
      let m : bit_at s n e lsb + i ≡ bit_at s n e (lsb + i) = omega arith in
      let y : get_or (M.range_nets (state_of s l w) e lsb k) i 0 ≡ net_word (get_or w (bit_at s n e (lsb + i)) 0) =
      ap (λ (xs : List ℕ). get_or xs i 0) (read_range s n l w e u lsb k v) ∙ at_list_of k (λ j. net_word (get_or w (bit_at s n e lsb + j) 0)) i 0 x ∙ ap (λ (j : ℕ). net_word (get_or w j 0)) m in
      omega (arith, word_small (lsb + i) (omega arith) (subst (λ (j : ℕ). 0 < get_or w j 0) m (known_words lsb k v q i x)))

  -- whole or not, in the model's words
  pub is_whole_law : is_whole s (limit_of w) w e ≡ true → M.whole (state_of s l w) e ≡ some (M.whole_nets (state_of s l w) e)
  unfolding M.whole_nets
  is_whole_law q =
      let x = read_whole s (limit_of w) l w e u ∙ whole_some s (limit_of w) w e q in
      x ∙ ap (λ (o : Option (List ℕ)). some (M.nets_of o)) (sym x)

  pub not_whole : is_whole s (limit_of w) w e ≡ false → M.whole (state_of s l w) e ≡ none
  not_whole q = read_whole s (limit_of w) l w e u ∙ whole_none s (limit_of w) w e q

  pub whole_told : (ns : List ℕ) → M.whole (state_of s l w) e ≡ some ns → is_whole s (limit_of w) w e ≡ true
  whole_told ns q = go (is_whole s (limit_of w) w e) refl
    where
      go : (t : Bool) → is_whole s (limit_of w) w e ≡ t → t ≡ true
      go true z = refl
      go false z = let x = not_whole z in let y : ◌≡◌ {A = ℕ} 0 1 = cc in absurd (omega arith)

  -- a whole expression is the range of all its bits
  pub whole_range : is_whole s (limit_of w) w e ≡ true → M.whole_nets (state_of s l w) e ≡ M.range_nets (state_of s l w) e 0 (expr_width s e)
  whole_range q = whole_nets_law s (limit_of w) l w e u q ∙ sym (read_range s (limit_of w) l w e u 0 (expr_width s e) (omega arith))

  pub range_long : (lsb k : ℕ) → lsb + k ≤ expr_width s e → length (M.range_nets (state_of s l w) e lsb k) ≡ k
  range_long lsb k v = ap length (read_range s (limit_of w) l w e u lsb k v) ∙ length_list_of k (λ i. net_word (get_or w (bit_at s (limit_of w) e lsb + i) 0))

  pub whole_long : is_whole s (limit_of w) w e ≡ true → length (M.whole_nets (state_of s l w) e) ≡ expr_width s e
  whole_long q = ap length (whole_range q) ∙ range_long 0 (expr_width s e) (omega arith)

pub signals_long : (s w : List ℕ) (l : Netlist) (p lsb k : ℕ) → p < count_at_of s 0 → lsb + k ≤ signal_width s p → length (M.signal_nets (state_of s l w) p lsb k) ≡ k
signals_long s w l p lsb k u v = ap length (read_signals s (limit_of w) l w p lsb k u v) ∙ length_list_of k (λ i. net_word (get_or w (net_at s (limit_of w) p lsb + i) 0))

-- ---- sizes ----

pub expr_count : (s : List ℕ) → length (decode s).exprs ≡ count_at_of s 1
unfolding decode
expr_count s = length_list_of (count_at_of s 1) (I.expr_at s)

pub expr_width_law : (s : List ℕ) (e : ℕ) → e < count_at_of s 1 → width_at (decode s).exprs e ≡ expr_width s e
unfolding decode I.expr_at
expr_width_law s e u = ap (λ (x : R.Expr). x.width) (at_list_of (count_at_of s 1) (I.expr_at s) e (record { width = 0; kind = R.Constant 0 }) u)

pub signal_width_law : (s : List ℕ) (p : ℕ) → p < count_at_of s 0 → M.signal_width (decode s) p ≡ signal_width s p
unfolding decode I.signal_at
signal_width_law s p u = ap (λ (x : R.Sig). x.width) (at_list_of (count_at_of s 0) (I.signal_at s) p (record { width = 0; dir = R.Internal }) u)

sums_from : (s : List ℕ) (i k : ℕ) → sum_to (signal_width s) (i + k) ≡ sum_to (signal_width s) i + M.sum_widths (each (I.signal_at s) i k)
unfolding each I.signal_at
sums_from s i zero = let m : i + 0 ≡ i = omega arith in ap (sum_to (signal_width s)) m ∙ omega arith
sums_from s i (suc k) =
    let m : i + suc k ≡ suc i + k = omega arith in
    omega (arith, ap (sum_to (signal_width s)) m, sums_from s (suc i) k, sum_suc (signal_width s) i)

pub signal_sum : (s : List ℕ) → M.sum_widths (decode s).signals ≡ signal_bits s
unfolding decode list_of
signal_sum s = omega (arith, sums_from s 0 (count_at_of s 0), ap (sum_to (signal_width s)) (zero-add (count_at_of s 0)), sum_none (signal_width s), bits_are s)
