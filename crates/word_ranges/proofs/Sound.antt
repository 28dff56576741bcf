-- What is proved of specs/Sound: Every range of the table holds what its expression's word can be, for every valuation of the signals; so an Add's word is below
-- 2 to the width that it is narrowed to. Assumes nothing.
use Rattle.std.specs.Prelude.{◌≡◌, Bool, false, cond, ◌||◌, List, [], map, ℕ, zero, suc, ◌^◌, ◌≤◌, ◌<◌, leb, length, get_or}
use Rattle.std.proofs.Math.Path.{refl}
use Rattle.std.proofs.Common.{◌∙◌, append-nil, not-suc-le-zero, arith, leb→le}
use Rattle.std.proofs.Math.Option.{Option, none, some}
use Rattle.spec_rtl.specs.Word.{value, length_bits, value_bits}
use Rattle.spec_rtl.specs.Ops.{xor_b, join_w, slice_w}
use Rattle.spec_rtl.specs.Table.{entry_is}
use Rattle.spec_rtl.specs.Rtl as R
use Rattle.spec_rtl.specs.Rtl.{Expr, Kind, Valuation, word, word1, binary}
use Rattle.spec_model.specs.Ranges.{expr_at, width_at, Range, point, mux_range, slice_range_of, one, two, join_range, kind_range, range_rule, range_at, binary_range, class_of, adder_width}
use Rattle.word_laws.specs.Shift.{length_tab}
use Rattle.word_laws.specs.Values.{slice_wide}
use Rattle.word_laws.specs.Widths.{BelowE, BinWidth, WidthOk, Formed, un_width, bin_width, cond_width, join_width, word_is, word_width}
use Rattle.word_ranges.specs.Rows.{Sound, full_sound, point_sound, choose, add_sound, sub_sound, and_sound, or_sound, slice_sound, join_l, join_l_is}
use Rattle.word_ranges.specs.Sound.{SoundO, at_width, join_sound, low_r, mux_sound, narrowed, small}

bin_sound : (op : R.Binary) (w : ℕ) (l r : Range) (a b : List Bool) → w ≤ 64 → BinWidth op w (length a) (length b) → Sound (length a) l a → Sound (length b) r b → Sound w (binary_range (class_of op) w l r) (binary op a b)
unfolding binary_range
bin_sound R.And w l r a b h o p q = and_sound w l r a b (at_width l a o.0 p) (at_width r b o.1 q)
bin_sound R.Add w l r a b h o p q = add_sound w l r a b h (at_width l a o.0 p) (at_width r b o.1 q)
bin_sound R.Sub w l r a b h o p q = sub_sound w l r a b h (at_width l a o.0 p) (at_width r b o.1 q)
bin_sound R.Or w l r a b h o p q = or_sound ◌||◌ refl w l r a b h (at_width l a o.0 p) (at_width r b o.1 q)
bin_sound R.Xor w l r a b h o p q = or_sound xor_b refl w l r a b h (at_width l a o.0 p) (at_width r b o.1 q)
bin_sound R.Mul w l r a b h o p q = full_sound w _ (bin_width R.Mul w a b o)
bin_sound R.Equal w l r a b h o p q = full_sound w _ (bin_width R.Equal w a b o)
bin_sound R.NotEqual w l r a b h o p q = full_sound w _ (bin_width R.NotEqual w a b o)
bin_sound R.LessU w l r a b h o p q = full_sound w _ (bin_width R.LessU w a b o)
bin_sound R.LessS w l r a b h o p q = full_sound w _ (bin_width R.LessS w a b o)
bin_sound R.LessEqU w l r a b h o p q = full_sound w _ (bin_width R.LessEqU w a b o)
bin_sound R.LessEqS w l r a b h o p q = full_sound w _ (bin_width R.LessEqS w a b o)
bin_sound R.GreaterU w l r a b h o p q = full_sound w _ (bin_width R.GreaterU w a b o)
bin_sound R.GreaterS w l r a b h o p q = full_sound w _ (bin_width R.GreaterS w a b o)
bin_sound R.GreaterEqU w l r a b h o p q = full_sound w _ (bin_width R.GreaterEqU w a b o)
bin_sound R.GreaterEqS w l r a b h o p q = full_sound w _ (bin_width R.GreaterEqS w a b o)
bin_sound R.ShiftL w l r a b h o p q = full_sound w _ (bin_width R.ShiftL w a b o)
bin_sound R.ShiftR w l r a b h o p q = full_sound w _ (bin_width R.ShiftR w a b o)
bin_sound R.ShiftA w l r a b h o p q = full_sound w _ (bin_width R.ShiftA w a b o)

kind_sound : (v : Valuation) (u : ℕ → List Bool) (g : ℕ → Option Range) (f : ℕ → ℕ) (e w : ℕ) (k : Kind) → w ≤ 64 → BelowE e k → WidthOk f w k
    → ((j : ℕ) → j < e → (length (u j) ≡ f j) × SoundO (f j) (g j) (u j)) → Sound w (kind_range g f w k) (word1 v u w k)
kind_sound v u g f e w (R.Signal s lsb) h b o q = full_sound w _ (length_tab w _)
kind_sound v u g f e w (R.Constant n) h b o q = point_sound w _ _ (length_bits w n) (value_bits w n)
kind_sound v u g f e w (R.Un op a) h b o q = full_sound w _ (un_width op w (u a) (rw (q a b).0 o))
kind_sound v u g f e w (R.Bin op a c) h b o q = go (g a) (q a b.0).1 (g c) (q c b.1).1
  where
    o' : BinWidth op w (length (u a)) (length (u c))
    o' = rw ((q a b.0).0, (q c b.1).0) o

    go : (l : Option Range) → SoundO (f a) l (u a) → (r : Option Range) → SoundO (f c) r (u c) → Sound w (two w l r (binary_range (class_of op) w)) (binary op (u a) (u c))
    go none s r t = full_sound w _ (bin_width op w (u a) (u c) o')
    go (some l) s none t = full_sound w _ (bin_width op w (u a) (u c) o')
    go (some l) s (some r) t = bin_sound op w l r (u a) (u c) h o' (rw (q a b.0).0 s) (rw (q c b.1).0 t)
kind_sound v u g f e w (R.Mux c t d) h b o q = go (g t) (q t b.1).1 (g d) (q d b.2).1
  where
    lt : length (u t) ≡ w
    lt = (q t b.1).0 ∙ o.1

    ld : length (u d) ≡ w
    ld = (q d b.2).0 ∙ o.2

    go : (y : Option Range) → SoundO (f t) y (u t) → (n : Option Range) → SoundO (f d) n (u d) → Sound w (two w y n (mux_range (g c))) (cond (get_or (u c) 0 false) (u t) (u d))
    go none s n z = full_sound w _ (cond_width (get_or (u c) 0 false) w (u t) (u d) lt ld)
    go (some y) s none z = full_sound w _ (cond_width (get_or (u c) 0 false) w (u t) (u d) lt ld)
    go (some y) s (some n) z = mux_sound w (f c) (g c) y n (u c) (u t) (u d) (q c b.0).1 (rw (← o.1) s) (rw (← o.2) z)
kind_sound v u g f e w (R.Concat ps) h b o q = go (join_range g f ps (some (point 0))) (join_sound g f u e ps b q (some (point 0)) [] (record { wide = refl; low = omega arith; high = omega arith; fits = omega arith }))
  where
    j : join_l [] (map u ps) ≡ join_w (map u ps)
    j = join_l_is [] (map u ps) ∙ append-nil (join_w (map u ps))

    lw : length (join_w (map u ps)) ≡ w
    lw = join_width u f e ps b (λ i k. (q i k).0) ∙ o

    go : (r : Option Range) → SoundO (length (join_l [] (map u ps))) r (join_l [] (map u ps)) → Sound w (one w r (λ x. x)) (join_w (map u ps))
    go none s = full_sound w _ lw
    go (some r) s = rw (j, lw) at s
kind_sound v u g f e w (R.Slice a lsb) h b o q = go (g a) (q a b).1
  where
    go : (r : Option Range) → SoundO (f a) r (u a) → Sound w (one w r (slice_range_of lsb w)) (slice_w lsb w (u a))
    go none s = full_sound w _ (slice_wide lsb w (u a) (rw (q a b).0 o))
    go (some r) s = slice_sound (f a) lsb w r (u a) o s

module _ (xs : List Expr) (f : Formed xs) where
  pub range_is : (e : ℕ) → e < length xs → range_at xs e ≡ range_rule (width_at xs) (range_at xs) (expr_at xs e)
  unfolding range_at
  range_is e h = entry_is none (range_rule (width_at xs)) xs e (record { width = 0; kind = R.Constant 0 }) h
      (λ g k q. rw (low_r (width_at xs) e (width_at xs e) (expr_at xs e).kind (f.low e h) g k q))

  pub range_sound : (v : Valuation) (e : ℕ) → e < length xs → SoundO (width_at xs e) (range_at xs e) (word xs v e)
  range_sound v e h = upto (suc e) e (omega arith) h
    where
      upto : (n e : ℕ) → e < n → e < length xs → SoundO (width_at xs e) (range_at xs e) (word xs v e)
      upto zero e l h = absurd (not-suc-le-zero l)
      upto (suc n) e l h = rw (range_is e h, word_is xs v e h (f.low e h)) (choose (λ (o : Option Range). SoundO (width_at xs e) o (word1 v (word xs v) (width_at xs e) (expr_at xs e).kind))
          (leb (width_at xs e) 64) (some (kind_range (range_at xs) (width_at xs) (width_at xs e) (expr_at xs e).kind)) none
          (λ t. kind_sound v (word xs v) (range_at xs) (width_at xs) e (width_at xs e) (expr_at xs e).kind (leb→le (width_at xs e) 64 t) (f.low e h) (f.wide e h)
          (λ j k. (word_width xs f v j (omega arith), upto n j (omega arith) (omega arith))))
          (λ _. tt))

  -- what narrowing needs: the word is below 2 ^ j, whatever the signals are
  pub narrow_fits : (v : Valuation) (e j : ℕ) → e < length xs → adder_width xs e ≡ some j → (value (word xs v e) < 2 ^ j) × (j < width_at xs e)
  unfolding adder_width
  narrow_fits v e j h q = narrowed (width_at xs e) (range_at xs e) j (word xs v e) (range_sound v e h)
      (small (width_at xs e) _ j (leb (width_at xs e) 64) refl (rw (range_is e h) at q)) q
