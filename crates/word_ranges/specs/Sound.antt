-- Every range of the table holds what its expression's word can be, for every valuation of the signals; so an Add's word is below
-- 2 to the width that it is narrowed to. Assumes nothing.
use Rattle.std.specs.Prelude.{◌≡◌, Bool, true, false, cond, List, [], ◌∷◌, ◌++◌, map, ℕ, ◌+◌, ◌*◌, ◌^◌, ◌≤◌, ◌<◌, max, eqb, leb, ltb, length, get_or}
use Rattle.std.proofs.Math.Path.{refl}
use Rattle.std.proofs.Common.{sym, subst, arith, eqb→eq, leb→le, ltb→lt, pow_mono}
use Rattle.std.proofs.Math.Option.{Option, none, some}
use Rattle.spec_rtl.specs.Word.{value}
use Rattle.spec_rtl.specs.Rtl as R
use Rattle.spec_rtl.specs.Rtl.{Kind}
use Rattle.spec_model.specs.Ranges.{Range, point, hull, is_point, mux_range, join_by, join_range, kind_range, bit_len, narrow_by}
use Rattle.word_laws.specs.Widths.{AllBelow, BelowE}
use Rattle.word_ranges.specs.Rows.{Sound, choose, and_l, and_r, hull_sound, join_step, join_l, bit_len_fits}

abbrev pub SoundO : ℕ → Option Range → List Bool → Type 0
SoundO w none a = Unit {0}
SoundO w (some r) a = Sound w r a

low_false : (a : List Bool) → value a ≡ 0 → get_or a 0 false ≡ false
low_false [] h = refl
low_false (true ∷ a) h = absurd (omega arith)
low_false (false ∷ a) h = refl

low_true : (a : List Bool) → value a ≡ 1 → get_or a 0 false ≡ true
low_true [] h = absurd (omega arith)
low_true (true ∷ a) h = refl
low_true (false ∷ a) h = absurd (omega arith)

pub at_width : (r : Range) (a : List Bool) {n w : ℕ} → n ≡ w → Sound n r a → Sound w r a
at_width r a e s = subst (λ (k : ℕ). Sound k r a) e s

pub mux_sound : (w k : ℕ) (c : Option Range) (y n : Range) (x a b : List Bool) → SoundO k c x → Sound w y a → Sound w n b → Sound w (mux_range c y n) (cond (get_or x 0 false) a b)
mux_sound w k none y n x a b s p q = hull_sound w y n (get_or x 0 false) a b p q
mux_sound w k (some c) y n x a b s p q = choose (λ (r : Range). Sound w r (cond (get_or x 0 false) a b)) (is_point 0 c) n (cond (is_point 1 c) y (hull y n))
    (λ t. rw (low_false x (let e = eqb→eq c.hi 0 (and_r (eqb c.lo 0) (eqb c.hi 0) t) in omega (arith, s.high))) q)
    (λ _. choose (λ (r : Range). Sound w r (cond (get_or x 0 false) a b)) (is_point 1 c) y (hull y n)
    (λ t. rw (low_true x (let e = eqb→eq c.lo 1 (and_l (eqb c.lo 1) (eqb c.hi 1) t) in let f = eqb→eq c.hi 1 (and_r (eqb c.lo 1) (eqb c.hi 1) t) in omega (arith, s.low, s.high))) p)
    (λ _. hull_sound w y n (get_or x 0 false) a b p q))

pub join_sound : (g : ℕ → Option Range) (f : ℕ → ℕ) (u : ℕ → List Bool) (e : ℕ) (ps : List ℕ) → AllBelow e ps → ((j : ℕ) → j < e → (length (u j) ≡ f j) × SoundO (f j) (g j) (u j))
    → (acc : Option Range) (b : List Bool) → SoundO (length b) acc b → SoundO (length (join_l b (map u ps))) (join_range g f ps acc) (join_l b (map u ps))
join_sound g f u e [] l h acc b s = s
join_sound g f u e (p ∷ ps) l h none b s = tt
join_sound g f u e (p ∷ ps) l h (some acc) b s = join_sound g f u e ps l.1 h (join_by (g p) (f p) acc) (u p ++ b) (part (g p) (h p l.0).1)
  where
    part : (o : Option Range) → SoundO (f p) o (u p) → SoundO (length (u p ++ b)) (join_by o (f p) acc) (u p ++ b)
    part none t = tt
    part (some r) t = let z = join_step (length b) (f p) acc r b (u p) s t in subst (λ (n : ℕ). Sound n (record { lo = acc.lo * 2 ^ f p + r.lo; hi = acc.hi * 2 ^ f p + r.hi }) (u p ++ b)) (sym z.wide) z

join_low : (f : ℕ → ℕ) (e : ℕ) (ps : List ℕ) → AllBelow e ps → (g h : ℕ → Option Range) → ((j : ℕ) → j < e → g j ≡ h j) → (acc : Option Range) → join_range g f ps acc ≡ join_range h f ps acc
join_low f e [] b g h q acc = refl
join_low f e (p ∷ ps) b g h q none = refl
join_low f e (p ∷ ps) b g h q (some acc) = rw (q p b.0) (join_low f e ps b.1 g h q (join_by (h p) (f p) acc))

pub low_r : (f : ℕ → ℕ) (e w : ℕ) (k : Kind) → BelowE e k → (g h : ℕ → Option Range) → ((j : ℕ) → j < e → g j ≡ h j) → kind_range g f w k ≡ kind_range h f w k
low_r f e w (R.Signal s lsb) b g h q = refl
low_r f e w (R.Constant n) b g h q = refl
low_r f e w (R.Un op a) b g h q = refl
low_r f e w (R.Bin op a c) b g h q = rw (q a b.0, q c b.1)
low_r f e w (R.Mux c t d) b g h q = rw (q c b.0, q t b.1, q d b.2)
low_r f e w (R.Concat ps) b g h q = rw (join_low f e ps b g h q (some (point 0)))
low_r f e w (R.Slice a lsb) b g h q = rw (q a b)

no_width : {j : ℕ} → ◌≡◌ {A = Option ℕ} none (some j) → ⊥
no_width p = let z : ◌≡◌ {A = ℕ} 0 1 = cc in omega arith

pub narrowed : (w : ℕ) (o : Option Range) (j : ℕ) (a : List Bool) → SoundO w o a → w ≤ 64 → narrow_by w o ≡ some j → (value a < 2 ^ j) × (j < w)
narrowed w none j a s h q = absurd (no_width q)
narrowed w (some r) j a s h q = go (ltb (max 1 (bit_len 64 r.hi)) w) refl q
  where
    go : (b : Bool) → ltb (max 1 (bit_len 64 r.hi)) w ≡ b → cond b (some (max 1 (bit_len 64 r.hi))) none ≡ some j → (value a < 2 ^ j) × (j < w)
    go false t p = absurd (no_width p)
    go true t p =
        let e : max 1 (bit_len 64 r.hi) ≡ j = cc in
        let f = bit_len_fits 64 r.hi (omega (arith, s.fits, pow_mono h)) in
        let l = ltb→lt (max 1 (bit_len 64 r.hi)) w (rw t tt) in
        (omega (arith, s.high, pow_mono (bound e)), omega arith)
      where
        bound : max 1 (bit_len 64 r.hi) ≡ j → bit_len 64 r.hi ≤ j
        bound e = omega arith

pub small : (w : ℕ) (r : Range) (j : ℕ) (b : Bool) → leb w 64 ≡ b → narrow_by w (cond b (some r) none) ≡ some j → w ≤ 64
small w r j true t q = leb→le w 64 (rw t tt)
small w r j false t q = absurd (no_width q)
