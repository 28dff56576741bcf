-- `is_zero_expression` and `carry_lsb`: an expression that is zero has the number 0, one with a carry the number of that carry's
-- bit 0, for every valuation of the signals. Assumes nothing.
use Rattle.std.specs.Prelude.{◌≡◌, Bool, List, [], ◌∷◌, map, ℕ, zero, suc, ◌^◌, ◌%◌, ◌≤◌, ◌<◌, T, ltb, length, get_or, drop}
use Rattle.std.proofs.Math.Path.{refl}
use Rattle.std.proofs.Common.{sym, ap, ◌∙◌, not-suc-le-zero, arith, ltb→lt, drop_of_length-le}
use Rattle.std.proofs.Math.Bool.{true, false, cond}
use Rattle.std.proofs.Math.Option.{Option, none, some}
use Rattle.std.proofs.Math.Dec.{eqb, eqb→eq}
use Rattle.spec_rtl.specs.Word.{value, bits, bit, value_bits, value_append, value_drop}
use Rattle.spec_rtl.specs.Ops.{join_w}
use Rattle.spec_rtl.specs.Table.{entry_is}
use Rattle.spec_rtl.specs.Rtl as R
use Rattle.spec_rtl.specs.Rtl.{Expr, Kind, Valuation, word, word1}
use Rattle.spec_model.specs.Ranges.{expr_at, width_at}
use Rattle.spec_model.specs.Lowering.{all_zero, zero_kind, zero_rule, is_zero_expression, carry_parts, carry_kind, carry_lsb}
use Rattle.word_laws.specs.Add.{value_lsb}
use Rattle.word_laws.specs.Widths.{AllBelow, BelowE, Formed, word_is, word_width}
use Rattle.word_ranges.specs.Rows.{and_l, and_r}

all_low : (e : ℕ) (ps : List ℕ) → AllBelow e ps → (g h : ℕ → Bool) → ((j : ℕ) → j < e → g j ≡ h j) → all_zero g ps ≡ all_zero h ps
all_low e [] b g h q = refl
all_low e (p ∷ ps) b g h q = rw (q p b.0, all_low e ps b.1 g h q)

low_z : (e w : ℕ) (k : Kind) → BelowE e k → (g h : ℕ → Bool) → ((j : ℕ) → j < e → g j ≡ h j) → zero_kind g w k ≡ zero_kind h w k
low_z e w (R.Signal s lsb) b g h q = refl
low_z e w (R.Constant n) b g h q = refl
low_z e w (R.Un op a) b g h q = refl
low_z e w (R.Bin op a c) b g h q = refl
low_z e w (R.Mux c t d) b g h q = refl
low_z e w (R.Concat ps) b g h q = all_low e ps b g h q
low_z e w (R.Slice a lsb) b g h q = refl

join_zero : (z : ℕ → Bool) (u : ℕ → List Bool) (e : ℕ) (ps : List ℕ) → AllBelow e ps → ((j : ℕ) → j < e → T (z j) → value (u j) ≡ 0) → T (all_zero z ps) → value (join_w (map u ps)) ≡ 0
join_zero z u e [] b h t = refl
join_zero z u e (p ∷ ps) b h t = value_append (join_w (map u ps)) (u p) ∙ rw (join_zero z u e ps b.1 h (and_r (z p) (all_zero z ps) t), h p b.0 (and_l (z p) (all_zero z ps) t)) (omega arith)

kind_zero : (v : Valuation) (u : ℕ → List Bool) (z : ℕ → Bool) (e w : ℕ) (k : Kind) → BelowE e k → ((j : ℕ) → j < e → T (z j) → value (u j) ≡ 0) → T (zero_kind z w k) → value (word1 v u w k) ≡ 0
kind_zero v u z e w (R.Signal s lsb) b h t = absurd t
kind_zero v u z e w (R.Constant n) b h t = value_bits w n ∙ eqb→eq (n % 2 ^ w) 0 t
kind_zero v u z e w (R.Un op a) b h t = absurd t
kind_zero v u z e w (R.Bin op a c) b h t = absurd t
kind_zero v u z e w (R.Mux c x d) b h t = absurd t
kind_zero v u z e w (R.Concat ps) b h t = join_zero z u e ps b h t
kind_zero v u z e w (R.Slice a lsb) b h t = absurd t

-- a word one bit wide has its bit for its number
pub one_bit : (a : List Bool) → length a ≡ 1 → value a ≡ bit (get_or a 0 false)
one_bit a l = value_lsb a (ap value (drop_of_length-le a {i = 1} (omega arith)))

pub no_carry : {c : ℕ} → ◌≡◌ {A = Option ℕ} none (some c) → ⊥
no_carry p = let z : ◌≡◌ {A = ℕ} 0 1 = cc in omega arith

-- what a test that passed, or failed, leaves of a choice
pub taken : {A : Type 0} (b : Bool) (x : A) (c : A) → cond b (some x) none ≡ some c → T b × (x ≡ c)
taken true x c p = (tt, cc)
taken false x c p = absurd (let z : ◌≡◌ {A = ℕ} 0 1 = cc in omega arith)

pub passed : {A : Type 0} (b : Bool) (r : Option A) (c : A) → cond b r none ≡ some c → T b × (r ≡ some c)
passed true r c p = (tt, p)
passed false r c p = absurd (let z : ◌≡◌ {A = ℕ} 0 1 = cc in omega arith)

module _ (xs : List Expr) (f : Formed xs) where
  pub zero_is : (e : ℕ) → e < length xs → is_zero_expression xs e ≡ zero_rule (is_zero_expression xs) (expr_at xs e)
  unfolding is_zero_expression
  zero_is e h = entry_is false zero_rule xs e (record { width = 0; kind = R.Constant 0 }) h (λ g k q. low_z e (width_at xs e) (expr_at xs e).kind (f.low e h) g k q)

  pub zero_sound : (v : Valuation) (e : ℕ) → e < length xs → T (is_zero_expression xs e) → value (word xs v e) ≡ 0
  zero_sound v e h t = upto (suc e) e (omega arith) h t
    where
      upto : (n e : ℕ) → e < n → e < length xs → T (is_zero_expression xs e) → value (word xs v e) ≡ 0
      upto zero e l h t = absurd (not-suc-le-zero l)
      upto (suc n) e l h t = rw (word_is xs v e h (f.low e h)) (kind_zero v (word xs v) (is_zero_expression xs) e (width_at xs e) (expr_at xs e).kind (f.low e h)
          (λ j k. upto n j (omega arith) (omega arith)) (rw (zero_is e h) at t))

  -- the last part, one bit wide, under parts that are zero
  parts_sound : (v : Valuation) (e : ℕ) (ps : List ℕ) (c : ℕ) → e < length xs → AllBelow e ps → carry_parts xs ps ≡ some c
      → (value (join_w (map (word xs v) ps)) ≡ bit (get_or (word xs v c) 0 false)) × (c < e)
  parts_sound v e [] c h b q = absurd (no_carry q)
  parts_sound v e (p ∷ []) c h b q =
      let t = taken (eqb (width_at xs p) 1) p c q in
      let w : length (word xs v p) ≡ 1 = word_width xs f v p (omega (arith, b.0)) ∙ eqb→eq (width_at xs p) 1 t.0 in
      (rw (← t.1) (one_bit (word xs v p) w), rw (← t.1) b.0)
  parts_sound v e (p ∷ q ∷ ps) c h b r =
      let t = passed (is_zero_expression xs p) (carry_parts xs (q ∷ ps)) c r in
      let s = parts_sound v e (q ∷ ps) c h b.1 t.1 in
      let z = zero_sound v p (omega (arith, b.0)) t.0 in
      (value_append (join_w (map (word xs v) (q ∷ ps))) (word xs v p) ∙ rw (s.0, z) (omega arith), s.1)

  kind_carry : (v : Valuation) (e : ℕ) (k : Kind) (c : ℕ) → e < length xs → (expr_at xs e).kind ≡ k → BelowE e k → carry_kind xs e (width_at xs e) k ≡ some c
      → (value (word1 v (word xs v) (width_at xs e) k) ≡ bit (get_or (word xs v c) 0 false)) × (c ≤ e)
  kind_carry v e (R.Signal s lsb) c h x b q = absurd (no_carry q)
  kind_carry v e (R.Constant n) c h x b q =
      let t = taken (ltb (n % 2 ^ width_at xs e) 2) e c q in
      let l = ltb→lt (n % 2 ^ width_at xs e) 2 t.0 in
      let w : word xs v e ≡ bits (width_at xs e) n = word_is xs v e h (rw x tt) ∙ rw x in
      let d : value (drop 1 (word xs v e)) ≡ 0 = value_drop 1 (word xs v e) ∙ rw (w, value_bits (width_at xs e) n) (omega arith) in
      (ap value (sym w) ∙ rw (← t.1) (value_lsb (word xs v e) d), omega (arith, t.1))
  kind_carry v e (R.Un op a) c h x b q = absurd (no_carry q)
  kind_carry v e (R.Bin op a a') c h x b q = absurd (no_carry q)
  kind_carry v e (R.Mux a t d) c h x b q = absurd (no_carry q)
  kind_carry v e (R.Concat ps) c h x b q = let s = parts_sound v e ps c h b q in (s.0, omega (arith, s.1))
  kind_carry v e (R.Slice a lsb) c h x b q = absurd (no_carry q)

  pub carry_sound : (v : Valuation) (e c : ℕ) → e < length xs → carry_lsb xs e ≡ some c
      → (value (word xs v e) ≡ bit (get_or (word xs v c) 0 false)) × (c ≤ e)
  unfolding carry_lsb
  carry_sound v e c h q = go (eqb (width_at xs e) 1) refl q
    where
      go : (b : Bool) → eqb (width_at xs e) 1 ≡ b → cond b (some e) (carry_kind xs e (width_at xs e) (expr_at xs e).kind) ≡ some c
          → (value (word xs v e) ≡ bit (get_or (word xs v c) 0 false)) × (c ≤ e)
      go true t p =
          let z : e ≡ c = cc in
          (rw (← z) (one_bit (word xs v e) (word_width xs f v e h ∙ eqb→eq (width_at xs e) 1 (rw t tt))), omega arith)
      go false t p = rw (word_is xs v e h (f.low e h)) (kind_carry v e (expr_at xs e).kind c h refl (f.low e h) p)
