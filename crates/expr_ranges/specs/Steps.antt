-- What the rows of the range table ask and give, by the way each function returns. Assumes nothing.
use Rattle.std.specs.Prelude.{◌≡◌, refl, Bool, true, false, cond, List, [], ◌∷◌, ℕ, suc, ◌+◌, ◌*◌, ◌-◌, ◌^◌, ◌%◌, ◌≤◌, ◌<◌, leb, length}
use Rattle.std.proofs.Math.Path.{sym}
use Rattle.std.proofs.Common.{ap, ap₂, ◌∙◌, mul-le-mul_right, add-one, arith, leb→le, le→leb, pow-add, pow_mono, pow_pos}
use Rattle.std.proofs.Math.Option.{Option, none, some}
use Rattle.std.proofs.Math.Nat.{mod-mod}
use Rattle.std.proofs.Math.Arith.{lt→nleb}
use Rattle.spec_tests.specs.Rules.{list_of}
use Rattle.spec_rules.specs.Image.{count_at_of, expr_width, list_word, constant_of}
use Rattle.spec_model.specs.Ranges as model
use Rattle.spec_model.specs.Ranges.{range_at, width_at, kind_range, join_range}
use Rattle.image_records.specs.Expr.{kind_means, binary_means, Decoded}
use Rattle.image_records.specs.declared.Expression.{Expression}
use Rattle.image_records.specs.declared.UnaryOp.{UnaryOp}
use Rattle.image_records.specs.declared.BinaryOp.{BinaryOp}
use Rattle.image_records.specs.declared.ExprKind.TheVariants as K
use Rattle.word_laws.specs.Shift.{T_true, T_false}
use Rattle.word_laws.specs.Widths.{sum_of}
use Rattle.word_ranges.specs.Rows.{Sound}
use Rattle.word_ranges.specs.Sound.{SoundO}
use Rattle.word_ranges.proofs.Sound.{range_is, range_sound}
use Rattle.expr_range_rows.specs.Rows.{and_range, narrow_word}
use Rattle.image_records.specs.OpClass.{op_class_of, class_range, range_class}
use Rattle.image_records.specs.declared.OpClass.{OpClass}
use Rattle.image_records.specs.declared.OpClass.TheVariants.{Ands}
use Rattle.expr_laws.specs.Listed.{below_list_of, onward, onward_all, onward_cons, onward_none}
use Rattle.expr_laws.specs.Exprs.{exprs_of, Readable, in_exprs, width_at_law, width_least, width_read, kind_read, low_read, wide_read, listed_read}
use Rattle.expr_ranges.specs.Table.{range_in, put_row, range_or, Bounded, filled, filled_range, length_filled}

-- ---- what the model's ranges are ----

-- by the kind of e, where it has at most 64 bits
abbrev pub range_by : List ℕ → ℕ → model.Range
range_by s e = kind_range (range_at (exprs_of s)) (width_at (exprs_of s)) (expr_width s e) (model.expr_at (exprs_of s) e).kind

abbrev pub row_range : List ℕ → ℕ → model.Range
row_range s e = range_or (range_at (exprs_of s) e)

abbrev pub row_width : List ℕ → ℕ → ℕ
row_width s e = narrow_word (model.adder_width (exprs_of s) e)

module _ (s : List ℕ) (g : Readable s) (e : ℕ) (h : e < count_at_of s 1) where
  range_read : range_at (exprs_of s) e ≡ cond (leb (expr_width s e) 64) (some (range_by s e)) none
  range_read = range_is (exprs_of s) g.formed e (in_exprs s g e h) ∙ rw (width_at_law s g e h)

  pub range_some : expr_width s e ≤ 64 → range_at (exprs_of s) e ≡ some (range_by s e)
  range_some l = range_read ∙ rw (T_true (leb (expr_width s e) 64) (le→leb (expr_width s e) 64 l))

  pub range_none : 64 < expr_width s e → range_at (exprs_of s) e ≡ none
  range_none l = range_read ∙ rw (T_false (leb (expr_width s e) 64) (lt→nleb (expr_width s e) 64 l))

  -- the least is not above the largest, which fits the width
  pub range_bounds : (r : model.Range) → range_at (exprs_of s) e ≡ some r → (r.lo ≤ r.hi) × (r.hi < 2 ^ expr_width s e)
  range_bounds r q =
      let z : SoundO (width_at (exprs_of s) e) (range_at (exprs_of s) e) _ = range_sound (exprs_of s) g.formed (λ _ _. false) e (in_exprs s g e h) in
      let y : Sound (expr_width s e) r _ = rw (q, width_at_law s g e h) at z in
      (omega (arith, y.low, y.high), y.fits)

  pub range_small : (r : model.Range) → range_at (exprs_of s) e ≡ some r → expr_width s e ≤ 64
  range_small r q = go (leb (expr_width s e) 64) refl
    where
      go : (b : Bool) → leb (expr_width s e) 64 ≡ b → expr_width s e ≤ 64
      go true t = leb→le (expr_width s e) 64 (rw t tt)
      go false t = absurd (let c : ◌≡◌ {A = Option model.Range} none (some r) = sym (range_read ∙ rw t) ∙ q in let z : ◌≡◌ {A = ℕ} 0 1 = cc in omega arith)

  pub row_bounded : Bounded (exprs_of s) e
  row_bounded = go (range_at (exprs_of s) e) refl
    where
      go : (o : Option model.Range) → range_at (exprs_of s) e ≡ o → ((range_or o).lo < 2 ^ 64) × ((range_or o).hi < 2 ^ 64)
      go none q = omega arith
      go (some r) q =
          let b = range_bounds r q in
          let m = pow_mono (range_small r q) in
          (omega (arith, b.0, b.1, m), omega (arith, b.1, m))

-- ---- what is asked of the table ----

-- the row of an expression is written
pub record Row (s t : List ℕ) (e : ℕ) : Type 0 where
  pub readable : Readable s
  pub inside : e < count_at_of s 1
  pub room : e * 8 + 8 ≤ length t
  pub row : range_in t e ≡ range_or (range_at (exprs_of s) e)

-- the rows before n are written
pub record Rows (s t : List ℕ) (n : ℕ) : Type 0 where
  pub readable : Readable s
  pub inside : n < count_at_of s 1
  pub room : count_at_of s 1 * 8 ≤ length t
  pub rows : (j : ℕ) → j < n → range_in t j ≡ range_or (range_at (exprs_of s) j)

pub row_at : (s t : List ℕ) (n : ℕ) → Rows s t n → (j : ℕ) → j < n → Row s t j
row_at s t n g j h = record { readable = g.readable; inside = omega (arith, g.inside); room = omega (arith, g.inside, g.room); row = g.rows j h }

pub record TwoRows (s t : List ℕ) (a b width : ℕ) : Type 0 where
  pub left : Row s t a
  pub right : Row s t b
  pub least : 1 ≤ width
  pub most : width ≤ 64

pub record MuxRows (s t : List ℕ) (c a b width : ℕ) : Type 0 where
  pub condition : Row s t c
  pub yes_row : Row s t a
  pub no_row : Row s t b
  pub least : 1 ≤ width
  pub most : width ≤ 64

pub record SliceRow (s t : List ℕ) (a lsb width : ℕ) : Type 0 where
  pub input : Row s t a
  pub fits : lsb + width ≤ expr_width s a
  pub least : 1 ≤ width
  pub most : width ≤ 64

abbrev pub parts_of : List ℕ → ℕ → ℕ → List ℕ
parts_of s start n = list_of n (λ i. list_word s (start + i))

pub record RowList (s t : List ℕ) (start n width : ℕ) : Type 0 where
  pub room : start + n ≤ 8192
  pub rows : (i : ℕ) → i < n → Row s t (list_word s (start + i))
  pub sum : sum_of (width_at (exprs_of s)) (parts_of s start n) ≡ width
  pub least : 1 ≤ width
  pub most : width ≤ 64

abbrev pub parts_range : List ℕ → ℕ → ℕ → ℕ → model.Range
parts_range s start n w = model.one w (join_range (range_at (exprs_of s)) (width_at (exprs_of s)) (parts_of s start n) (some (model.point 0))) (λ r. r)

-- ---- the answers ----

module _ (s t : List ℕ) (e : ℕ) (g : Row s t e) where
  pub known_wide : 64 < expr_width s e → none ≡ range_at (exprs_of s) e
  known_wide l = sym (range_none s g.readable e g.inside l)

  pub known_of : (r : model.Range) → expr_width s e ≤ 64 → r ≡ range_in t e → some r ≡ range_at (exprs_of s) e
  known_of r l q =
      let z = range_some s g.readable e g.inside l in
      let y : range_or (range_at (exprs_of s) e) ≡ range_by s e = rw z in
      ap some (q ∙ g.row ∙ y) ∙ sym z

  pub ordered : (r : model.Range) → some r ≡ range_at (exprs_of s) e → r.lo ≤ r.hi
  ordered r q = (range_bounds s g.readable e g.inside r (sym q)).0

pub by_class : (op : BinaryOp) (w : ℕ) (l r : model.Range) (c : OpClass) → op_class_of op ≡ c → class_range c w l r ≡ model.binary_range (model.class_of (binary_means op)) w l r
by_class op w l r c e = sym (range_class op w l r ∙ ap (λ (c : OpClass). class_range c w l r) e)

pub and_class : (w : ℕ) (l r : model.Range) → and_range l r ≡ class_range Ands w l r
unfolding model.binary_range
and_class w l r = refl

-- operands with and without a range
module _ (w : ℕ) (f : model.Range → model.Range → model.Range) where
  pub two_none : (q : Option model.Range) {o : Option model.Range} → o ≡ none → model.full w ≡ model.two w o q f
  two_none q e = ap (λ (o : Option model.Range). model.two w o q f) (sym e)

  pub two_second : {o q : Option model.Range} {l : model.Range} → o ≡ some l → q ≡ none → model.full w ≡ model.two w o q f
  two_second e d = ap₂ (λ (o q : Option model.Range). model.two w o q f) (sym e) (sym d)

  pub two_both : {o q : Option model.Range} {l r : model.Range} → o ≡ some l → q ≡ some r → f l r ≡ model.two w o q f
  two_both e d = ap₂ (λ (o q : Option model.Range). model.two w o q f) (sym e) (sym d)

module _ (w : ℕ) (f : model.Range → model.Range) where
  pub one_none : {o : Option model.Range} → o ≡ none → model.full w ≡ model.one w o f
  one_none e = ap (λ (o : Option model.Range). model.one w o f) (sym e)

  pub one_some : {o : Option model.Range} {r : model.Range} → o ≡ some r → f r ≡ model.one w o f
  one_some e = ap (λ (o : Option model.Range). model.one w o f) (sym e)

-- ---- Concat ----

-- the parts from i on
abbrev pub from : List ℕ → ℕ → ℕ → ℕ → List ℕ
from s start n i = onward (λ j. list_word s (start + j)) n i

-- what is joined so far, and what is left to join
pub record Joining (s : List ℕ) (start n w i : ℕ) (acc : model.Range) : Type 0 where
  pub same : join_range (range_at (exprs_of s)) (width_at (exprs_of s)) (parts_of s start n) (some (model.point 0))
      ≡ join_range (range_at (exprs_of s)) (width_at (exprs_of s)) (from s start n i) (some acc)
  pub order : acc.lo ≤ acc.hi
  pub left : sum_of (width_at (exprs_of s)) (from s start n i) ≤ w
  pub fits : acc.hi < 2 ^ (w - sum_of (width_at (exprs_of s)) (from s start n i))

module _ (s t : List ℕ) (start n w : ℕ) (g : RowList s t start n w) where
  pub join_begins : Joining s start n w 0 (model.point 0)
  join_begins =
      let e : sum_of (width_at (exprs_of s)) (from s start n 0) ≡ w = rw (onward_all (λ j. list_word s (start + j)) n) at g.sum in
      record { same = rw (onward_all (λ j. list_word s (start + j)) n); order = omega arith; left = omega arith; fits = omega (arith, pow_pos (w - sum_of (width_at (exprs_of s)) (from s start n 0))) }

  pub join_ends : (i : ℕ) (acc : model.Range) → n ≤ i → Joining s start n w i acc → acc ≡ parts_range s start n w
  join_ends i acc h z =
      let e : join_range (range_at (exprs_of s)) (width_at (exprs_of s)) (parts_of s start n) (some (model.point 0)) ≡ some acc
      = z.same ∙ rw (onward_none (λ j. list_word s (start + j)) n i h) in
      rw e

  module _ (i : ℕ) (acc : model.Range) (h : i < n) (z : Joining s start n w i acc) (p : ℕ) (q : p ≡ list_word s (start + i)) where
    part_row : Row s t p
    part_row = rw q (g.rows i h)

    step : from s start n i ≡ p ∷ from s start n (i + 1)
    step = onward_cons (λ j. list_word s (start + j)) n i h ∙ rw (← q)

    width_of : width_at (exprs_of s) p ≡ expr_width s p
    width_of = width_at_law s part_row.readable p part_row.inside

    sums : sum_of (width_at (exprs_of s)) (from s start n i) ≡ sum_of (width_at (exprs_of s)) (from s start n (i + 1)) + expr_width s p
    sums = rw step (rw width_of)

    next : (o : Option model.Range) → range_at (exprs_of s) p ≡ o
        → join_range (range_at (exprs_of s)) (width_at (exprs_of s)) (from s start n i) (some acc)
        ≡ join_range (range_at (exprs_of s)) (width_at (exprs_of s)) (from s start n (i + 1)) (model.join_by o (width_at (exprs_of s) p) acc)
    next o e =
        ap (λ (l : List ℕ). join_range (range_at (exprs_of s)) (width_at (exprs_of s)) l (some acc)) step
        ∙ ap (λ (o : Option model.Range). join_range (range_at (exprs_of s)) (width_at (exprs_of s)) (from s start n (i + 1)) (model.join_by o (width_at (exprs_of s) p) acc)) e

    pub join_stops : none ≡ range_at (exprs_of s) p → model.full w ≡ parts_range s start n w
    join_stops o =
        let e : join_range (range_at (exprs_of s)) (width_at (exprs_of s)) (parts_of s start n) (some (model.point 0)) ≡ none
        = z.same ∙ next none (sym o) ∙ nothing (from s start n (i + 1)) in
        rw e
      where
        nothing : (ps : List ℕ) → join_range (range_at (exprs_of s)) (width_at (exprs_of s)) ps none ≡ none
        nothing [] = refl
        nothing (x ∷ ps) = refl

    module _ (r : model.Range) (k : some r ≡ range_at (exprs_of s) p) where
      below : r.hi < 2 ^ expr_width s p
      below = (range_bounds s part_row.readable p part_row.inside r (sym k)).1

      joined_fits : acc.hi * 2 ^ expr_width s p + r.hi < 2 ^ (w - sum_of (width_at (exprs_of s)) (from s start n (i + 1)))
      joined_fits =
          let e : w - sum_of (width_at (exprs_of s)) (from s start n (i + 1)) ≡ (w - sum_of (width_at (exprs_of s)) (from s start n i)) + expr_width s p = omega (arith, sums, z.left) in
          rw (e, pow-add 2 (w - sum_of (width_at (exprs_of s)) (from s start n i)) (expr_width s p))
          (room acc.hi (2 ^ (w - sum_of (width_at (exprs_of s)) (from s start n i))) (2 ^ expr_width s p) r.hi z.fits below)
        where
          room : (a m p x : ℕ) → a < m → x < p → a * p + x < m * p
          room a m p x l k = let y : suc a * p ≤ m * p = mul-le-mul_right p l in omega arith

      pub join_asked : (acc.lo * 2 ^ expr_width s p + r.lo < 2 ^ 64) × (acc.hi * 2 ^ expr_width s p + r.hi < 2 ^ 64) × (expr_width s p ≤ 64)
      join_asked =
          let o = (range_bounds s part_row.readable p part_row.inside r (sym k)).0 in
          let y : acc.lo * 2 ^ expr_width s p ≤ acc.hi * 2 ^ expr_width s p = mul-le-mul_right (2 ^ expr_width s p) z.order in
          let m : 2 ^ (w - sum_of (width_at (exprs_of s)) (from s start n (i + 1))) ≤ 2 ^ 64 = pow_mono {i = w - sum_of (width_at (exprs_of s)) (from s start n (i + 1))} {j = 64} (omega (arith, g.most)) in
          (omega (arith, joined_fits), omega (arith, joined_fits), omega (arith, sums, z.left, g.most))

      pub join_passes : Joining s start n w (i + 1) (record { lo = acc.lo * 2 ^ expr_width s p + r.lo; hi = acc.hi * 2 ^ expr_width s p + r.hi })
      join_passes =
          let o = (range_bounds s part_row.readable p part_row.inside r (sym k)).0 in
          let y : acc.lo * 2 ^ expr_width s p ≤ acc.hi * 2 ^ expr_width s p = mul-le-mul_right (2 ^ expr_width s p) z.order in
          record {
            same = z.same ∙ next (some r) (sym k) ∙ rw width_of;
            order = omega arith;
            left = omega (arith, sums, z.left);
            fits = joined_fits;
          }

-- ---- by the kind of an expression that was read ----

constant_mod : (s : List ℕ) (w start : ℕ) → constant_of s w start % 2 ^ w ≡ constant_of s w start
unfolding constant_of
constant_mod s w start = mod-mod _ (2 ^ w)

module _ (s t : List ℕ) (e : ℕ) (g : Rows s t e) (l : expr_width s e ≤ 64) (x : Expression) (d : Decoded s e x) where
  width_is : x.width ≡ expr_width s e
  width_is = width_read s g.readable e g.inside x d

  least : 1 ≤ x.width
  least = rw width_is (width_least s g.readable e g.inside)

  most : x.width ≤ 64
  most = rw width_is l

  pub width_asked : (1 ≤ x.width) × (x.width ≤ 64)
  width_asked = (least, most)

  by_kind : range_by s e ≡ kind_range (range_at (exprs_of s)) (width_at (exprs_of s)) x.width (kind_means s x.width x.kind)
  by_kind = rw (kind_read s g.readable e g.inside x d, ← width_is)

  pub constant_asked : {start : ℕ} → x.kind ≡ K.Constant start → (1 ≤ x.width) × (x.width ≤ 64) × (start ≤ 8192)
  constant_asked k = let y = rw k at (listed_read s g.readable e g.inside x d) in (least, most, omega arith)

  pub constant_range : {start : ℕ} → x.kind ≡ K.Constant start → model.point (constant_of s x.width start) ≡ range_by s e
  unfolding kind_means
  constant_range {start} k = sym (by_kind ∙ rw (k, constant_mod s x.width start))

  pub binary_asked : {op : BinaryOp} {a b : ℕ} → x.kind ≡ K.Binary op a b → TwoRows s t a b x.width
  unfolding kind_means
  binary_asked k =
      let y = rw k at (low_read s g.readable e g.inside x d) in
      record { left = row_at s t e g _ y.0; right = row_at s t e g _ y.1; least = least; most = most }

  pub binary_range_law : {op : BinaryOp} {a b : ℕ} → x.kind ≡ K.Binary op a b
      → model.two x.width (range_at (exprs_of s) a) (range_at (exprs_of s) b) (model.binary_range (model.class_of (binary_means op)) x.width) ≡ range_by s e
  unfolding kind_means
  binary_range_law k = sym (by_kind ∙ rw k)

  pub mux_asked : {c a b : ℕ} → x.kind ≡ K.Mux c a b → MuxRows s t c a b x.width
  unfolding kind_means
  mux_asked k =
      let y = rw k at (low_read s g.readable e g.inside x d) in
      record { condition = row_at s t e g _ y.0; yes_row = row_at s t e g _ y.1; no_row = row_at s t e g _ y.2; least = least; most = most }

  pub mux_range_law : {c a b : ℕ} → x.kind ≡ K.Mux c a b
      → model.two x.width (range_at (exprs_of s) a) (range_at (exprs_of s) b) (model.mux_range (range_at (exprs_of s) c)) ≡ range_by s e
  unfolding kind_means
  mux_range_law k = sym (by_kind ∙ rw k)

  pub slice_asked : {a lsb : ℕ} → x.kind ≡ K.Slice a lsb → SliceRow s t a lsb x.width
  unfolding kind_means
  slice_asked {a} k =
      let y : a < e = rw k at (low_read s g.readable e g.inside x d) in
      let u = rw k at (wide_read s g.readable e g.inside x d) in
      let v = width_at_law s g.readable a (omega (arith, g.inside)) in
      record { input = row_at s t e g a y; fits = omega (arith, width_is); least = least; most = most }

  pub slice_range : {a lsb : ℕ} → x.kind ≡ K.Slice a lsb → model.one x.width (range_at (exprs_of s) a) (model.slice_range_of lsb x.width) ≡ range_by s e
  unfolding kind_means
  slice_range k = sym (by_kind ∙ rw k)

  pub concat_asked : {start n : ℕ} → x.kind ≡ K.Concat start n → RowList s t start n x.width
  unfolding kind_means
  concat_asked {start} {n} k =
      let y = rw k at (low_read s g.readable e g.inside x d) in
      let u : sum_of (width_at (exprs_of s)) (parts_of s start n) ≡ expr_width s e = rw k at (wide_read s g.readable e g.inside x d) in
      record {
        room = rw k at (listed_read s g.readable e g.inside x d);
        rows = λ i h. row_at s t e g (list_word s (start + i)) (below_list_of e n (λ j. list_word s (start + j)) i y h);
        sum = u ∙ sym width_is;
        least = least;
        most = most;
      }

  pub concat_range : {start n : ℕ} → x.kind ≡ K.Concat start n → parts_range s start n x.width ≡ range_by s e
  unfolding kind_means
  concat_range k = sym (by_kind ∙ rw k)

  pub signal_range : {p lsb : ℕ} → x.kind ≡ K.Signal p lsb → model.full x.width ≡ range_by s e
  unfolding kind_means
  signal_range k = sym (by_kind ∙ rw k)

  pub unary_range : {op : UnaryOp} {a : ℕ} → x.kind ≡ K.Unary op a → model.full x.width ≡ range_by s e
  unfolding kind_means
  unary_range k = sym (by_kind ∙ rw k)

-- ---- a row, and all rows ----

module _ (s t : List ℕ) (e : ℕ) (g : Rows s t e) where
  pub row_wide : 64 < expr_width s e → put_row t e (model.point 0) 0 ≡ put_row t e (row_range s e) (row_width s e)
  unfolding model.adder_width
  row_wide l = let z = range_none s g.readable e g.inside l in rw z

  pub row_small : (r : model.Range) (k : ℕ) → expr_width s e ≤ 64 → r ≡ range_by s e → k ≡ narrow_word (model.narrow_by (expr_width s e) (some r))
      → put_row t e r k ≡ put_row t e (row_range s e) (row_width s e)
  unfolding model.adder_width
  row_small r k l p q =
      let z = range_some s g.readable e g.inside l in
      let w = width_at_law s g.readable e g.inside in
      rw (z, w, ← p, q)

pub rows_filled : (s t : List ℕ) (e : ℕ) → Readable s → count_at_of s 1 * 8 ≤ length t → e < count_at_of s 1 → (u : List ℕ) → u ≡ filled (exprs_of s) e t → Rows s u e
rows_filled s t e g h l u q = record {
  readable = g;
  inside = l;
  room = rw (q, length_filled (exprs_of s) e t) h;
  rows = λ j k. rw q (filled_range (exprs_of s) e t (λ i m. row_bounded s g i (omega arith)) (omega arith) j k);
}

pub filled_more : (s t : List ℕ) (e : ℕ) (u : List ℕ) → u ≡ filled (exprs_of s) e t → put_row u e (row_range s e) (row_width s e) ≡ filled (exprs_of s) (e + 1) t
unfolding filled
filled_more s t e u q = rw (add-one e, q)
