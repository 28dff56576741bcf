-- What the steps of an expression, or of a range of it, read together is all that it reads (flag false). Assumes nothing.
use Rattle.std.specs.Prelude.{◌≡◌, ◌⊎◌, Bool, T, eqb, length}
use Rattle.std.proofs.Math.Path.{refl, subst, fun_ext}
use Rattle.std.proofs.Common.{sym, ap, ◌∙◌, inl, inr, ⊎_elim, not-suc-le-zero}
use Rattle.std.proofs.Math.Bool.{true, false, cond}
use mathlib.Core.List.{List, [], ◌∷◌, ◌++◌, map}
use Rattle.std.proofs.Math.Option.{Option, none, some}
use Prim.Native.Nat.{ℕ, zero, suc, ◌+◌, ◌-◌, ◌≤◌, ◌<◌, ◌^◌, ◌%◌, min, max}
use Rattle.std.proofs.Math.Decide.{dec_lt}
use native.Mathlib.Omega.{arith}
use Rattle.std.proofs.Math.Dec.{ltb}
use borrow.Author.Tests.{ltb-true, ltb-false, lt-ltb, le-ltb}
use Rattle.spec_rtl.specs.Table.{entry_is}
use Rattle.spec_rtl.specs.Rtl as R
use Rattle.spec_rtl.specs.Rtl.{Expr, Kind, Unary, Binary}
use Rattle.spec_model.specs.Builder.{from}
use Rattle.spec_model.specs.Ranges.{expr_at, width_at}
use Rattle.spec_model.specs.Ranges.{class_of}
use Rattle.spec_model.specs.Lowering.{Need, Bit, Whole, Range, Step, Always, Unless, signal_steps, wholes, backwards, Operands, operands_of, operand_steps, fused, add_kind, add_operands, carry_lsb, carry_kind, carry_parts, is_zero_expression, zero_kind, all_zero, is_add, kind_steps, whole_steps, kind_range_steps, range_steps_of, concat_pieces, Piece, pieces}
use Rattle.word_laws.specs.Widths as W
use Rattle.word_laws.specs.Widths.{AllBelow, BelowE, WidthOk, Formed}
use Rattle.word_ranges.specs.Rows.{and_l, and_r}
use Rattle.word_ranges.specs.Carry.{no_carry, taken, passed, zero_is}
use Rattle.spec_needs.specs.Reads.{Place, by_bit₂, width_of, whole, sum_of, of_parts_of, of_kind, read_rule, bit_reads}
use Rattle.spec_needs.specs.Needs.{In}

-- ---- the reads of an expression are its rule's ----

whole_same : (w : ℕ) (g h : ℕ → List Place) → g ≡ h → whole w g ≡ whole w h
whole_same w g h e = ap (whole w) e

parts_same : (e : ℕ) (ps : List ℕ) (f : ℕ → ℕ) (g h : ℕ → ℕ → List Place) (i : ℕ) → AllBelow e ps → ((j : ℕ) → j < e → g j ≡ h j) → of_parts_of g f ps i ≡ of_parts_of h f ps i
parts_same e [] f g h i b q = refl
parts_same e (p ∷ ps) f g h i b q = rw (parts_same e ps f g h i b.1 q, q p b.0)

low : (f : ℕ → ℕ) (e : ℕ) (x : Kind) → BelowE e x → (g h : ℕ → ℕ → List Place) → ((j : ℕ) → j < e → g j ≡ h j) → (i : ℕ) → of_kind f g x i ≡ of_kind f h x i
low f e (R.Signal s lsb) b g h q i = refl
low f e (R.Constant n) b g h q i = refl
low f e (R.Un op a) b g h q i = rw (q a b)
low f e (R.Bin op a c) b g h q i = rw (q a b.0, q c b.1)
low f e (R.Mux c t d) b g h q i = rw (q c b.0, q t b.1, q d b.2)
low f e (R.Concat ps) b g h q i = parts_same e ps f g h i b q
low f e (R.Slice a lsb) b g h q i = rw (q a b)

pub opened : (xs : List Expr) (e : ℕ) → e < length xs → BelowE e (expr_at xs e).kind
    → (i : ℕ) → bit_reads xs e i ≡ of_kind (width_of xs) (bit_reads xs) (expr_at xs e).kind i
unfolding bit_reads
opened xs e h b i =
    ap (λ (r : ℕ → List Place). r i) (entry_is (λ (j : ℕ). []) (read_rule (width_of xs)) xs e (record { width = 0; kind = R.Constant 0 }) h
    (λ g h q. fun_ext (λ j. low (width_of xs) e (expr_at xs e).kind b g h q j)))

-- ---- lists of places ----

pub in_append : (x : Place) (xs ys : List Place) → In x (xs ++ ys) → In x xs ⊎ In x ys
in_append x [] ys h = inr h
in_append x (y ∷ xs) ys (inl e) = inl (inl e)
in_append x (y ∷ xs) ys (inr h) = ⊎_elim (λ a. inl (inr a)) (λ b. inr b) (in_append x xs ys h)

pub in_left : (x : Place) (xs ys : List Place) → In x xs → In x (xs ++ ys)
in_left x [] ys h = elim h [ ]
in_left x (y ∷ xs) ys (inl e) = inl e
in_left x (y ∷ xs) ys (inr h) = inr (in_left x xs ys h)

pub in_right : (x : Place) (xs ys : List Place) → In x ys → In x (xs ++ ys)
in_right x [] ys h = h
in_right x (y ∷ xs) ys h = inr (in_right x xs ys h)

module _ (P : Place → Type 0) where
  abbrev pub All : List Place → Type 0
  All xs = (x : Place) → In x xs → P x

  pub all_append : (xs ys : List Place) → All xs → All ys → All (xs ++ ys)
  all_append xs ys a b = λ x h. ⊎_elim (a x) (b x) (in_append x xs ys h)

  pub all_whole : (w : ℕ) (g : ℕ → List Place) → ((i : ℕ) → i < w → All (g i)) → All (whole w g)
  all_whole zero g h = λ x e. absurd e
  all_whole (suc w) g h = all_append (whole w g) (g w) (all_whole w g (λ i l. h i (omega arith))) (h w (omega arith))

  pub whole_all : (w : ℕ) (g : ℕ → List Place) → All (whole w g) → (i : ℕ) → i < w → All (g i)
  whole_all zero g a i h = absurd (not-suc-le-zero h)
  whole_all (suc w) g a i h = elim (dec_lt i w) [
    | yes l ↦ whole_all w g (λ x q. a x (in_left x (whole w g) (g w) q)) i l
    | no l ↦ (let e : w ≡ i = omega arith in subst (λ (j : ℕ). All (g j)) e (λ x q. a x (in_right x (whole w g) (g w) q)))
  ]

-- ---- what a need reads, and its steps ----

module _ (xs : List Expr) (P : Place → Type 0) where
  -- all that bit i of e reads has P
  abbrev pub Ok : ℕ → ℕ → Type 0
  Ok e i = All P (bit_reads xs e i)

  abbrev pub Every : ℕ → Type 0
  Every e = (i : ℕ) → i < width_at xs e → Ok e i

  abbrev pub NeedOk : Need → Type 0
  NeedOk (Bit s b) = P (s, b)
  NeedOk (Whole e) = Every e
  NeedOk (Range e lsb w) = (i : ℕ) → lsb ≤ i → i < lsb + w → Ok e i

  abbrev pub step_need : Step → Need
  step_need (Always n) = n
  step_need (Unless c v n) = n

  abbrev pub AllOk : List Step → Type 0
  AllOk [] = Unit {0}
  AllOk (s ∷ ss) = NeedOk (step_need s) × AllOk ss

  abbrev pub piece_step : Piece → Step
  piece_step p = Always (Range p.part p.lsb p.width)

  bits_ok : (s b w : ℕ) → AllOk (signal_steps s b w) → (i : ℕ) → b ≤ i → i < b + w → P (s, i)
  unfolding signal_steps from
  bits_ok s b zero h i l u = absurd (omega arith)
  bits_ok s b (suc w) h i l u = elim (dec_lt b i) [
    | yes q ↦ bits_ok s (suc b) w h.1 i (omega arith) (omega arith)
    | no q ↦ (let e : b ≡ i = omega arith in subst (λ (j : ℕ). P (s, j)) e h.0)
  ]

  ok_bits : (s b w : ℕ) → ((i : ℕ) → b ≤ i → i < b + w → P (s, i)) → AllOk (signal_steps s b w)
  unfolding signal_steps from
  ok_bits s b zero h = tt
  ok_bits s b (suc w) h = (h b (omega arith) (omega arith), ok_bits s (suc b) w (λ i l u. h i (omega arith) (omega arith)))

  one : (x : Place) → P x → All P (x ∷ [])
  one x p y (inl e) = subst P (sym e) p
  one x p y (inr h) = absurd h

  -- the parts of a Concat
  abbrev pub Parts : List ℕ → Type 0
  Parts [] = Unit {0}
  Parts (p ∷ ps) = Every p × Parts ps

  turned_parts : (ps acc : List ℕ) → AllOk (wholes (backwards ps acc)) → Parts ps × AllOk (wholes acc)
  turned_parts [] acc h = (tt, h)
  turned_parts (p ∷ ps) acc h = let r = turned_parts ps (p ∷ acc) h in ((r.1.0, r.0), r.1.1)

  parts_turned : (ps acc : List ℕ) → Parts ps → AllOk (wholes acc) → AllOk (wholes (backwards ps acc))
  parts_turned [] acc p a = a
  parts_turned (q ∷ ps) acc p a = parts_turned ps (q ∷ acc) p.1 (p.0, a)

  pub parts_ok : (ps : List ℕ) → Parts ps → (i : ℕ) → i < sum_of (width_of xs) ps → All P (of_parts_of (bit_reads xs) (width_of xs) ps i)
  parts_ok [] p i h = absurd (not-suc-le-zero h)
  parts_ok (q ∷ ps) p i h = go (ltb i (sum_of (width_of xs) ps)) refl (parts_ok ps p.1 i)
    where
      go : (t : Bool) → ltb i (sum_of (width_of xs) ps) ≡ t → (i < sum_of (width_of xs) ps → All P (of_parts_of (bit_reads xs) (width_of xs) ps i))
          → All P (cond t (of_parts_of (bit_reads xs) (width_of xs) ps i) (bit_reads xs q (i - sum_of (width_of xs) ps)))
      go true t r = r (ltb-true i (sum_of (width_of xs) ps) t)
      go false t r = p.0 (i - sum_of (width_of xs) ps) (omega (arith, ltb-false i (sum_of (width_of xs) ps) t))

  ok_parts : (ps : List ℕ) → ((i : ℕ) → i < sum_of (width_of xs) ps → All P (of_parts_of (bit_reads xs) (width_of xs) ps i)) → Parts ps
  ok_parts [] h = tt
  ok_parts (q ∷ ps) h = (
    (λ i l.
        let n = sum_of (width_of xs) ps in
        let e : n + i - n ≡ i = omega arith in
        let t : ltb (n + i) n ≡ false = le-ltb (n + i) n (omega arith) in
        let r : All P (cond (ltb (n + i) n) (of_parts_of (bit_reads xs) (width_of xs) ps (n + i)) (bit_reads xs q (n + i - n))) = h (n + i) (omega arith) in
        rw (t, e) at r),
    ok_parts ps (λ i l.
        let t : ltb i (sum_of (width_of xs) ps) ≡ true = lt-ltb i (sum_of (width_of xs) ps) l in
        let r : All P (cond (ltb i (sum_of (width_of xs) ps)) (of_parts_of (bit_reads xs) (width_of xs) ps i) (bit_reads xs q (i - sum_of (width_of xs) ps))) = h i (omega arith) in
        rw t at r),
  )

  -- ---- an expression and its rule ----

  module _ (f : Formed xs) where
    module _ (e : ℕ) (here : e < length xs) (k : Kind) (x : (expr_at xs e).kind ≡ k) where
      is : (i : ℕ) → bit_reads xs e i ≡ of_kind (width_of xs) (bit_reads xs) k i
      is i = opened xs e here (f.low e here) i ∙ ap (λ (q : Kind). of_kind (width_of xs) (bit_reads xs) q i) x

      pub by_rule : (i : ℕ) → All P (of_kind (width_of xs) (bit_reads xs) k i) → Ok e i
      by_rule i a = subst (All P) (sym (is i)) a

      pub to_rule : (i : ℕ) → Ok e i → All P (of_kind (width_of xs) (bit_reads xs) k i)
      to_rule i a = subst (All P) (is i) a

    pub every : (a : ℕ) → Every a → All P (whole (width_of xs a) (bit_reads xs a))
    every a h = all_whole P (width_of xs a) (bit_reads xs a) h

    every_of : (a : ℕ) → All P (whole (width_of xs a) (bit_reads xs a)) → Every a
    every_of a h = whole_all P (width_of xs a) (bit_reads xs a) h

    left_of_law : (ps qs : List Place) → All P (ps ++ qs) → All P ps
    left_of_law ps qs h = λ x q. h x (in_left x ps qs q)

    right_of : (ps qs : List Place) → All P (ps ++ qs) → All P qs
    right_of ps qs h = λ x q. h x (in_right x ps qs q)

    pub pair : (a b : ℕ) → Every a → Every b → All P (whole (width_of xs a) (bit_reads xs a) ++ whole (width_of xs b) (bit_reads xs b))
    pair a b p q = all_append P (whole (width_of xs a) (bit_reads xs a)) (whole (width_of xs b) (bit_reads xs b)) (every a p) (every b q)

    pair_of : (a b : ℕ) → All P (whole (width_of xs a) (bit_reads xs a) ++ whole (width_of xs b) (bit_reads xs b)) → Every a × Every b
    pair_of a b h =
        let p = whole (width_of xs a) (bit_reads xs a) in
        let q = whole (width_of xs b) (bit_reads xs b) in
        (every_of a (left_of_law p q h), every_of b (right_of p q h))

    -- ---- zero expressions read nothing; a carry reads all of its expression ----

    nothing : All P []
    nothing x h = absurd h

    zero_parts : (z : ℕ → Bool) (e : ℕ) (ps : List ℕ) → AllBelow e ps → ((j : ℕ) → j < e → T (z j) → Every j) → T (all_zero z ps) → Parts ps
    zero_parts z e [] b h t = tt
    zero_parts z e (p ∷ ps) b h t = (h p b.0 (and_l (z p) (all_zero z ps) t), zero_parts z e ps b.1 h (and_r (z p) (all_zero z ps) t))

    pub sums : (ps : List ℕ) → sum_of (width_of xs) ps ≡ W.sum_of (width_at xs) ps
    sums [] = refl
    sums (p ∷ ps) = rw (sums ps) (omega arith)

    zero_kind_law : (e : ℕ) (here : e < length xs) (k : Kind) (x : (expr_at xs e).kind ≡ k) → BelowE e k → WidthOk (width_at xs) (width_at xs e) k
        → ((j : ℕ) → j < e → T (is_zero_expression xs j) → Every j) → T (zero_kind (is_zero_expression xs) (width_at xs e) k) → Every e
    zero_kind_law e here (R.Signal s lsb) x b w h t i u = absurd t
    zero_kind_law e here (R.Constant n) x b w h t i u = by_rule e here (R.Constant n) x i nothing
    zero_kind_law e here (R.Un op a) x b w h t i u = absurd t
    zero_kind_law e here (R.Bin op a c) x b w h t i u = absurd t
    zero_kind_law e here (R.Mux c y d) x b w h t i u = absurd t
    zero_kind_law e here (R.Concat ps) x b w h t i u =
        by_rule e here (R.Concat ps) x i (parts_ok ps (zero_parts (is_zero_expression xs) e ps b h t) i (omega (arith, sums ps)))
    zero_kind_law e here (R.Slice a lsb) x b w h t i u = absurd t

    pub zeros : (n e : ℕ) → e < n → e < length xs → T (is_zero_expression xs e) → Every e
    zeros zero e l h t = absurd (not-suc-le-zero l)
    zeros (suc n) e l h t = zero_kind_law e h (expr_at xs e).kind refl (f.low e h) (f.wide e h) (λ j k q. zeros n j (omega arith) (omega arith) q) (rw (zero_is xs f e h) at t)

    carry_parts_law : (e : ℕ) (ps : List ℕ) (c : ℕ) → e < length xs → AllBelow e ps → carry_parts xs ps ≡ some c → Every c → Parts ps
    carry_parts_law e [] c h b q z = tt
    carry_parts_law e (p ∷ []) c h b q z = let t = taken (eqb (width_at xs p) 1) p c q in (subst Every (sym t.1) z, tt)
    carry_parts_law e (p ∷ r ∷ ps) c h b q z =
        let t = passed (is_zero_expression xs p) (carry_parts xs (r ∷ ps)) c q in
        (zeros (suc p) p (omega arith) (omega (arith, b.0)) t.0, carry_parts_law e (r ∷ ps) c h b.1 t.1 z)

    carry_kind_law : (e : ℕ) (here : e < length xs) (k : Kind) (x : (expr_at xs e).kind ≡ k) → BelowE e k → WidthOk (width_at xs) (width_at xs e) k → (c : ℕ)
        → carry_kind xs e (width_at xs e) k ≡ some c → Every c → Every e
    carry_kind_law e here (R.Signal s lsb) x b w c q z = absurd (no_carry q)
    carry_kind_law e here (R.Constant n) x b w c q z = let t = taken (ltb (n % 2 ^ width_at xs e) 2) e c q in subst Every (sym t.1) z
    carry_kind_law e here (R.Un op a) x b w c q z = absurd (no_carry q)
    carry_kind_law e here (R.Bin op a d) x b w c q z = absurd (no_carry q)
    carry_kind_law e here (R.Mux d y g) x b w c q z = absurd (no_carry q)
    carry_kind_law e here (R.Concat ps) x b w c q z = λ i u.
        by_rule e here (R.Concat ps) x i (parts_ok ps (carry_parts_law e ps c here b q z) i (omega (arith, sums ps)))
    carry_kind_law e here (R.Slice a lsb) x b w c q z = absurd (no_carry q)

    -- where c is the carry of e
    pub carries : (e c : ℕ) → e < length xs → carry_lsb xs e ≡ some c → Every c → Every e
    unfolding carry_lsb
    carries e c h q z = go (eqb (width_at xs e) 1) q
      where
        go : (t : Bool) → cond t (some e) (carry_kind xs e (width_at xs e) (expr_at xs e).kind) ≡ some c → Every e
        go true p = let y : e ≡ c = cc in subst Every (sym y) z
        go false p = carry_kind_law e h (expr_at xs e).kind refl (f.low e h) (f.wide e h) c p z

    -- ---- a fused Add reads what its operands and its carry read ----

    add_of : (op : Binary) (l r : ℕ) (d : ℕ × ℕ) → cond (is_add (class_of op)) (some (l, r)) none ≡ some d → (op ≡ R.Add) × (◌≡◌ {A = ℕ × ℕ} (l, r) d)
    add_of R.And l r d q = absurd (let z : ◌≡◌ {A = ℕ} 0 1 = cc in omega arith)
    add_of R.Or l r d q = absurd (let z : ◌≡◌ {A = ℕ} 0 1 = cc in omega arith)
    add_of R.Xor l r d q = absurd (let z : ◌≡◌ {A = ℕ} 0 1 = cc in omega arith)
    add_of R.Add l r d q = (refl, cc)
    add_of R.Sub l r d q = absurd (let z : ◌≡◌ {A = ℕ} 0 1 = cc in omega arith)
    add_of R.Mul l r d q = absurd (let z : ◌≡◌ {A = ℕ} 0 1 = cc in omega arith)
    add_of R.Equal l r d q = absurd (let z : ◌≡◌ {A = ℕ} 0 1 = cc in omega arith)
    add_of R.NotEqual l r d q = absurd (let z : ◌≡◌ {A = ℕ} 0 1 = cc in omega arith)
    add_of R.LessU l r d q = absurd (let z : ◌≡◌ {A = ℕ} 0 1 = cc in omega arith)
    add_of R.LessS l r d q = absurd (let z : ◌≡◌ {A = ℕ} 0 1 = cc in omega arith)
    add_of R.LessEqU l r d q = absurd (let z : ◌≡◌ {A = ℕ} 0 1 = cc in omega arith)
    add_of R.LessEqS l r d q = absurd (let z : ◌≡◌ {A = ℕ} 0 1 = cc in omega arith)
    add_of R.GreaterU l r d q = absurd (let z : ◌≡◌ {A = ℕ} 0 1 = cc in omega arith)
    add_of R.GreaterS l r d q = absurd (let z : ◌≡◌ {A = ℕ} 0 1 = cc in omega arith)
    add_of R.GreaterEqU l r d q = absurd (let z : ◌≡◌ {A = ℕ} 0 1 = cc in omega arith)
    add_of R.GreaterEqS l r d q = absurd (let z : ◌≡◌ {A = ℕ} 0 1 = cc in omega arith)
    add_of R.ShiftL l r d q = absurd (let z : ◌≡◌ {A = ℕ} 0 1 = cc in omega arith)
    add_of R.ShiftR l r d q = absurd (let z : ◌≡◌ {A = ℕ} 0 1 = cc in omega arith)
    add_of R.ShiftA l r d q = absurd (let z : ◌≡◌ {A = ℕ} 0 1 = cc in omega arith)

    -- an Add of l and r
    sum_kind : (a : ℕ) (k : Kind) (d : ℕ × ℕ) → (expr_at xs a).kind ≡ k → add_kind k ≡ some d → (expr_at xs a).kind ≡ R.Bin R.Add d.0 d.1
    sum_kind a (R.Signal s lsb) d x q = absurd (let z : ◌≡◌ {A = ℕ} 0 1 = cc in omega arith)
    sum_kind a (R.Constant n) d x q = absurd (let z : ◌≡◌ {A = ℕ} 0 1 = cc in omega arith)
    sum_kind a (R.Un op c) d x q = absurd (let z : ◌≡◌ {A = ℕ} 0 1 = cc in omega arith)
    sum_kind a (R.Bin op l r) d x q =
        let t = add_of op l r d q in
        x ∙ ap (λ (o : Binary). R.Bin o l r) t.0 ∙ ap (λ (p : ℕ × ℕ). R.Bin R.Add p.0 p.1) t.1
    sum_kind a (R.Mux c t e) d x q = absurd (let z : ◌≡◌ {A = ℕ} 0 1 = cc in omega arith)
    sum_kind a (R.Concat ps) d x q = absurd (let z : ◌≡◌ {A = ℕ} 0 1 = cc in omega arith)
    sum_kind a (R.Slice c lsb) d x q = absurd (let z : ◌≡◌ {A = ℕ} 0 1 = cc in omega arith)

    pub sum_every : (a : ℕ) (d : ℕ × ℕ) → a < length xs → add_operands xs a ≡ some d → Every d.0 → Every d.1 → Every a
    unfolding add_operands
    sum_every a d h q l r = λ i u. by_rule a h (R.Bin R.Add d.0 d.1) (sum_kind a (expr_at xs a).kind d refl q) i (pair d.0 d.1 l r)

    fused_ok : (a b : ℕ) → a < length xs → b < length xs → (p : Option (ℕ × ℕ)) → add_operands xs a ≡ p → (c : Option ℕ) → carry_lsb xs b ≡ c → (o : Operands)
        → (AllOk (operand_steps o) → Every a × Every b) → AllOk (operand_steps (fused p c o)) → Every a × Every b
    fused_ok a b ha hb none x c y o k h = k h
    fused_ok a b ha hb (some d) x none y o k h = k h
    fused_ok a b ha hb (some d) x (some c) y o k h = (sum_every a d ha x h.0 h.1.0, carries b c hb y h.1.1.0)

    swap : {A B : Type 0} → A × B → B × A
    swap p = (p.1, p.0)

    -- an Add and its steps
    pub add_ok : (a b : ℕ) → a < length xs → b < length xs → AllOk (operand_steps (operands_of xs R.Add a b)) → Every a × Every b
    unfolding operands_of
    add_ok a b ha hb h =
        fused_ok a b ha hb (add_operands xs a) refl (carry_lsb xs b) refl _
        (λ k. swap (fused_ok b a hb ha (add_operands xs b) refl (carry_lsb xs a) refl (record { lhs = a; rhs = b; carry = none }) (λ q. (q.1.0, q.0)) k)) h

    -- ---- the pieces of a Concat ----

    module _ (lsb end : ℕ) where
      -- of the part p that begins at bit o, what the range takes
      abbrev Taken : ℕ → ℕ → Type 0
      Taken p o = (j : ℕ) → j < width_at xs p → lsb ≤ o + j → o + j < end → Ok p j

      -- parts, the least significant first, from bit o on; and the most significant first, above bit o
      abbrev Upward : ℕ → List ℕ → Type 0
      Upward o [] = Unit {0}
      Upward o (p ∷ ps) = Taken p o × Upward (o + width_at xs p) ps

      abbrev Downward : ℕ → List ℕ → Type 0
      Downward o [] = Unit {0}
      Downward o (p ∷ ps) = Taken p (o + sum_of (width_of xs) ps) × Downward o ps

      turned_up : (ps acc : List ℕ) (o : ℕ) → Upward o (backwards ps acc) → Downward o ps × Upward (o + sum_of (width_of xs) ps) acc
      turned_up [] acc o h = let e : o + 0 ≡ o = omega arith in (tt, rw e h)
      turned_up (p ∷ ps) acc o h =
          let r = turned_up ps (p ∷ acc) o h in
          let e : o + sum_of (width_of xs) ps + width_at xs p ≡ o + (width_of xs p + sum_of (width_of xs) ps) = omega arith in
          ((r.1.0, r.0), rw e at r.1.1)

      pieces_up : (o : ℕ) (ps : List ℕ) → AllOk (map piece_step (pieces xs lsb end o ps)) → Upward o ps
      unfolding pieces
      pieces_up o [] h = tt
      pieces_up o (p ∷ ps) h = go (ltb (max lsb o) (min end (o + width_at xs p))) refl (pieces_up (o + width_at xs p) ps) h
        where
          go : (t : Bool) → ltb (max lsb o) (min end (o + width_at xs p)) ≡ t
              → (AllOk (map piece_step (pieces xs lsb end (o + width_at xs p) ps)) → Upward (o + width_at xs p) ps)
              → AllOk (map piece_step (cond t (record { part = p; lsb = max lsb o - o; width = min end (o + width_at xs p) - max lsb o } ∷ pieces xs lsb end (o + width_at xs p) ps) (pieces xs lsb end (o + width_at xs p) ps)))
              → Taken p o × Upward (o + width_at xs p) ps
          go true t r h = ((λ j l a b. h.0 j (omega arith) (omega arith)), r h.1)
          go false t r h = ((λ j l a b. absurd (no (max lsb o) (min end (o + width_at xs p)) (o + j) (ltb-false (max lsb o) (min end (o + width_at xs p)) t) (omega arith) (omega arith))), r h)
            where
              no : (lo hi k : ℕ) → hi ≤ lo → lo ≤ k → k < hi → ⊥
              no lo hi k a b c = omega arith

      down_ok : (ps : List ℕ) → Downward 0 ps → (i : ℕ) → lsb ≤ i → i < end → i < sum_of (width_of xs) ps → All P (of_parts_of (bit_reads xs) (width_of xs) ps i)
      down_ok [] h i l u v = absurd (not-suc-le-zero v)
      down_ok (q ∷ ps) h i l u v = go (ltb i (sum_of (width_of xs) ps)) refl (down_ok ps h.1 i l u)
        where
          go : (t : Bool) → ltb i (sum_of (width_of xs) ps) ≡ t → (i < sum_of (width_of xs) ps → All P (of_parts_of (bit_reads xs) (width_of xs) ps i))
              → All P (cond t (of_parts_of (bit_reads xs) (width_of xs) ps i) (bit_reads xs q (i - sum_of (width_of xs) ps)))
          go true t r = r (ltb-true i (sum_of (width_of xs) ps) t)
          go false t r =
              let g = ltb-false i (sum_of (width_of xs) ps) t in
              h.0 (i - sum_of (width_of xs) ps) (omega arith) (omega arith) (omega arith)

      ok_down : (ps : List ℕ) → ((i : ℕ) → lsb ≤ i → i < end → i < sum_of (width_of xs) ps → All P (of_parts_of (bit_reads xs) (width_of xs) ps i)) → Downward 0 ps
      ok_down [] h = tt
      ok_down (q ∷ ps) h = (
        (λ j l a b.
            let n = sum_of (width_of xs) ps in
            let e : n + j - n ≡ j = omega arith in
            let t : ltb (n + j) n ≡ false = le-ltb (n + j) n (omega arith) in
            let r : All P (cond (ltb (n + j) n) (of_parts_of (bit_reads xs) (width_of xs) ps (n + j)) (bit_reads xs q (n + j - n))) = h (n + j) (omega arith) (omega arith) (omega arith) in
            rw (t, e) at r),
        ok_down ps (λ i l u v.
            let t : ltb i (sum_of (width_of xs) ps) ≡ true = lt-ltb i (sum_of (width_of xs) ps) v in
            let r : All P (cond (ltb i (sum_of (width_of xs) ps)) (of_parts_of (bit_reads xs) (width_of xs) ps i) (bit_reads xs q (i - sum_of (width_of xs) ps))) = h i l u (omega arith) in
            rw t at r),
      )

      up_turned : (ps acc : List ℕ) (o : ℕ) → Downward o ps → Upward (o + sum_of (width_of xs) ps) acc → Upward o (backwards ps acc)
      up_turned [] acc o d h = let e : o + 0 ≡ o = omega arith in rw e at h
      up_turned (p ∷ ps) acc o d h =
          let e : o + sum_of (width_of xs) ps + width_at xs p ≡ o + (width_of xs p + sum_of (width_of xs) ps) = omega arith in
          up_turned ps (p ∷ acc) o d.1 (d.0, rw e h)

      up_pieces : (o : ℕ) (ps : List ℕ) → Upward o ps → AllOk (map piece_step (pieces xs lsb end o ps))
      unfolding pieces
      up_pieces o [] h = tt
      up_pieces o (p ∷ ps) h = go (ltb (max lsb o) (min end (o + width_at xs p))) refl (up_pieces (o + width_at xs p) ps h.1)
        where
          go : (t : Bool) → ltb (max lsb o) (min end (o + width_at xs p)) ≡ t → AllOk (map piece_step (pieces xs lsb end (o + width_at xs p) ps))
              → AllOk (map piece_step (cond t (record { part = p; lsb = max lsb o - o; width = min end (o + width_at xs p) - max lsb o } ∷ pieces xs lsb end (o + width_at xs p) ps) (pieces xs lsb end (o + width_at xs p) ps)))
          go true t r = let z = ltb-true (max lsb o) (min end (o + width_at xs p)) t in ((λ j a b. h.0 j (omega arith) (omega arith) (omega arith)), r)
          go false t r = r

    -- ---- by kind: if all that the steps need is so, all that the expression reads is so ----

    module _ (e : ℕ) (here : e < length xs) where
      abbrev rule : Kind → ℕ → List Place
      rule k i = of_kind (width_of xs) (bit_reads xs) k i

      un_whole : (op : Unary) (a : ℕ) → W.UnWidth op (width_at xs e) (width_at xs a) → Every a → (i : ℕ) → i < width_at xs e → All P (rule (R.Un op a) i)
      un_whole R.BitNot a w h i u = h i (omega arith)
      un_whole R.LogicNot a w h i u = every a h
      un_whole R.ReduceOr a w h i u = every a h
      un_whole R.ReduceAnd a w h i u = every a h
      un_whole R.ReduceXor a w h i u = every a h

      bin_whole : (op : Binary) (a b : ℕ) → a < length xs → b < length xs → W.BinWidth op (width_at xs e) (width_at xs a) (width_at xs b) → AllOk (operand_steps (operands_of xs op a b))
          → (i : ℕ) → i < width_at xs e → All P (rule (R.Bin op a b) i)
      unfolding operands_of
      bin_whole R.And a b ha hb w h i u = all_append P (bit_reads xs a i) (bit_reads xs b i) (h.0 i (omega (arith, w.0))) (h.1.0 i (omega (arith, w.1)))
      bin_whole R.Or a b ha hb w h i u = all_append P (bit_reads xs a i) (bit_reads xs b i) (h.0 i (omega (arith, w.0))) (h.1.0 i (omega (arith, w.1)))
      bin_whole R.Xor a b ha hb w h i u = all_append P (bit_reads xs a i) (bit_reads xs b i) (h.0 i (omega (arith, w.0))) (h.1.0 i (omega (arith, w.1)))
      bin_whole R.Add a b ha hb w h i u = let r = add_ok a b ha hb h in pair a b r.0 r.1
      bin_whole R.Sub a b ha hb w h i u = pair a b h.0 h.1.0
      bin_whole R.Mul a b ha hb w h i u = pair a b h.0 h.1.0
      bin_whole R.Equal a b ha hb w h i u = pair a b h.0 h.1.0
      bin_whole R.NotEqual a b ha hb w h i u = pair a b h.0 h.1.0
      bin_whole R.LessU a b ha hb w h i u = pair a b h.0 h.1.0
      bin_whole R.LessS a b ha hb w h i u = pair a b h.0 h.1.0
      bin_whole R.LessEqU a b ha hb w h i u = pair a b h.0 h.1.0
      bin_whole R.LessEqS a b ha hb w h i u = pair a b h.0 h.1.0
      bin_whole R.GreaterU a b ha hb w h i u = pair a b h.0 h.1.0
      bin_whole R.GreaterS a b ha hb w h i u = pair a b h.0 h.1.0
      bin_whole R.GreaterEqU a b ha hb w h i u = pair a b h.0 h.1.0
      bin_whole R.GreaterEqS a b ha hb w h i u = pair a b h.0 h.1.0
      bin_whole R.ShiftL a b ha hb w h i u = pair a b h.0 h.1.0
      bin_whole R.ShiftR a b ha hb w h i u = pair a b h.0 h.1.0
      bin_whole R.ShiftA a b ha hb w h i u = pair a b h.0 h.1.0

      kind_whole : (k : Kind) → BelowE e k → WidthOk (width_at xs) (width_at xs e) k → AllOk (kind_steps xs (width_at xs e) k) → (i : ℕ) → i < width_at xs e → All P (rule k i)
      kind_whole (R.Signal s lsb) b w h i u = one (s, lsb + i) (bits_ok s lsb (width_at xs e) h (lsb + i) (omega arith) (omega arith))
      kind_whole (R.Constant n) b w h i u = nothing
      kind_whole (R.Un op a) b w h i u = un_whole op a w h.0 i u
      kind_whole (R.Bin op a c) b w h i u = bin_whole op a c (omega (arith, b.0)) (omega (arith, b.1)) w h i u
      kind_whole (R.Mux c t d) b w h i u =
          all_append P (whole (width_of xs c) (bit_reads xs c)) (bit_reads xs t i ++ bit_reads xs d i) (every c h.0)
          (all_append P (bit_reads xs t i) (bit_reads xs d i) (h.1.0 i (omega (arith, w.1))) (h.1.1.0 i (omega (arith, w.2))))
      kind_whole (R.Concat ps) b w h i u = parts_ok ps (turned_parts ps [] h).0 i (omega (arith, sums ps))
      kind_whole (R.Slice a lsb) b w h i u = h.0 (lsb + i) (omega arith) (omega arith)

      pub whole_covers : AllOk (whole_steps xs e) → Every e
      unfolding whole_steps
      whole_covers h i u = by_rule e here (expr_at xs e).kind refl i (kind_whole (expr_at xs e).kind (f.low e here) (f.wide e here) h i u)

      -- ---- a range of it ----

      module _ (lsb w : ℕ) (fits : lsb + w ≤ width_at xs e) where
        un_range : (op : Unary) (a : ℕ) → (expr_at xs e).kind ≡ R.Un op a → AllOk (kind_range_steps xs e lsb w (R.Un op a)) → (i : ℕ) → lsb ≤ i → i < lsb + w → Ok e i
        un_range R.BitNot a x h i l u = by_rule e here (R.Un R.BitNot a) x i (h.0 i l u)
        un_range R.LogicNot a x h i l u = h.0 i (omega arith)
        un_range R.ReduceOr a x h i l u = h.0 i (omega arith)
        un_range R.ReduceAnd a x h i l u = h.0 i (omega arith)
        un_range R.ReduceXor a x h i l u = h.0 i (omega arith)

        gate_range : (op : Binary) (a b : ℕ) → (expr_at xs e).kind ≡ R.Bin op a b → by_bit₂ op ≡ true → NeedOk (Range a lsb w) → NeedOk (Range b lsb w)
            → (i : ℕ) → lsb ≤ i → i < lsb + w → Ok e i
        gate_range op a b x t p q i l u =
            let r : All P (bit_reads xs a i ++ bit_reads xs b i) = all_append P (bit_reads xs a i) (bit_reads xs b i) (p i l u) (q i l u) in
            by_rule e here (R.Bin op a b) x i
            (subst (λ (z : Bool). All P (cond z (bit_reads xs a i ++ bit_reads xs b i) (whole (width_of xs a) (bit_reads xs a) ++ whole (width_of xs b) (bit_reads xs b)))) (sym t) r)

        bin_range : (op : Binary) (a b : ℕ) → (expr_at xs e).kind ≡ R.Bin op a b → AllOk (kind_range_steps xs e lsb w (R.Bin op a b)) → (i : ℕ) → lsb ≤ i → i < lsb + w → Ok e i
        bin_range R.And a b x h i l u = gate_range R.And a b x refl h.0 h.1.0 i l u
        bin_range R.Or a b x h i l u = gate_range R.Or a b x refl h.0 h.1.0 i l u
        bin_range R.Xor a b x h i l u = gate_range R.Xor a b x refl h.0 h.1.0 i l u
        bin_range R.Add a b x h i l u = h.0 i (omega arith)
        bin_range R.Sub a b x h i l u = h.0 i (omega arith)
        bin_range R.Mul a b x h i l u = h.0 i (omega arith)
        bin_range R.Equal a b x h i l u = h.0 i (omega arith)
        bin_range R.NotEqual a b x h i l u = h.0 i (omega arith)
        bin_range R.LessU a b x h i l u = h.0 i (omega arith)
        bin_range R.LessS a b x h i l u = h.0 i (omega arith)
        bin_range R.LessEqU a b x h i l u = h.0 i (omega arith)
        bin_range R.LessEqS a b x h i l u = h.0 i (omega arith)
        bin_range R.GreaterU a b x h i l u = h.0 i (omega arith)
        bin_range R.GreaterS a b x h i l u = h.0 i (omega arith)
        bin_range R.GreaterEqU a b x h i l u = h.0 i (omega arith)
        bin_range R.GreaterEqS a b x h i l u = h.0 i (omega arith)
        bin_range R.ShiftL a b x h i l u = h.0 i (omega arith)
        bin_range R.ShiftR a b x h i l u = h.0 i (omega arith)
        bin_range R.ShiftA a b x h i l u = h.0 i (omega arith)

        kind_range_law : (k : Kind) → (expr_at xs e).kind ≡ k → WidthOk (width_at xs) (width_at xs e) k → AllOk (kind_range_steps xs e lsb w k) → (i : ℕ) → lsb ≤ i → i < lsb + w → Ok e i
        unfolding concat_pieces
        kind_range_law (R.Signal s l) x v h i y u = by_rule e here (R.Signal s l) x i (one (s, l + i) (bits_ok s (l + lsb) w h (l + i) (omega arith) (omega arith)))
        kind_range_law (R.Constant n) x v h i y u = by_rule e here (R.Constant n) x i nothing
        kind_range_law (R.Un op a) x v h i y u = un_range op a x h i y u
        kind_range_law (R.Bin op a b) x v h i y u = bin_range op a b x h i y u
        kind_range_law (R.Mux d t g) x v h i y u =
            by_rule e here (R.Mux d t g) x i
            (all_append P (whole (width_of xs d) (bit_reads xs d)) (bit_reads xs t i ++ bit_reads xs g i) (every d h.0)
            (all_append P (bit_reads xs t i) (bit_reads xs g i) (h.1.0 i y u) (h.1.1.0 i y u)))
        kind_range_law (R.Concat ps) x v h i y u =
            by_rule e here (R.Concat ps) x i
            (down_ok lsb (lsb + w) ps (turned_up lsb (lsb + w) ps [] 0 (pieces_up lsb (lsb + w) 0 (backwards ps []) h)).0 i y u (omega (arith, sums ps)))
        kind_range_law (R.Slice a l) x v h i y u = by_rule e here (R.Slice a l) x i (h.0 (l + i) (omega arith) (omega arith))

        pub range_covers : AllOk (range_steps_of xs e lsb w) → NeedOk (Range e lsb w)
        unfolding range_steps_of
        range_covers h = kind_range_law (expr_at xs e).kind refl (f.wide e here) h

    -- ---- the other way: all that an expression reads is so, then all that its steps need ----

    last_part : (ps : List ℕ) (c : ℕ) → carry_parts xs ps ≡ some c → Parts ps → Every c
    last_part [] c q h = absurd (no_carry q)
    last_part (p ∷ []) c q h = subst Every (taken (eqb (width_at xs p) 1) p c q).1 h.0
    last_part (p ∷ r ∷ ps) c q h = last_part (r ∷ ps) c (passed (is_zero_expression xs p) (carry_parts xs (r ∷ ps)) c q).1 h.1

    of_carry : (e c : ℕ) → e < length xs → carry_lsb xs e ≡ some c → Every e → Every c
    unfolding carry_lsb
    of_carry e c h q z = go (eqb (width_at xs e) 1) q
      where
        kind : (k : Kind) → (expr_at xs e).kind ≡ k → WidthOk (width_at xs) (width_at xs e) k → carry_kind xs e (width_at xs e) k ≡ some c → Every c
        kind (R.Signal s lsb) x w q = absurd (no_carry q)
        kind (R.Constant n) x w q = subst Every (taken (ltb (n % 2 ^ width_at xs e) 2) e c q).1 z
        kind (R.Un op a) x w q = absurd (no_carry q)
        kind (R.Bin op a d) x w q = absurd (no_carry q)
        kind (R.Mux d y g) x w q = absurd (no_carry q)
        kind (R.Concat ps) x w q = last_part ps c q (ok_parts ps (λ i u. to_rule e h (R.Concat ps) x i (z i (omega (arith, sums ps)))))
        kind (R.Slice a lsb) x w q = absurd (no_carry q)

        go : (t : Bool) → cond t (some e) (carry_kind xs e (width_at xs e) (expr_at xs e).kind) ≡ some c → Every c
        go true p = let y : e ≡ c = cc in subst Every y z
        go false p = kind (expr_at xs e).kind refl (f.wide e h) p

    of_sum : (a : ℕ) (d : ℕ × ℕ) → a < length xs → add_operands xs a ≡ some d → Every a → Every d.0 × Every d.1
    unfolding add_operands
    of_sum a d h q z = pair_of d.0 d.1 (to_rule a h (R.Bin R.Add d.0 d.1) (sum_kind a (expr_at xs a).kind d refl q) 0 (z 0 (f.least a h)))

    ok_fused : (a b : ℕ) → a < length xs → b < length xs → (p : Option (ℕ × ℕ)) → add_operands xs a ≡ p → (c : Option ℕ) → carry_lsb xs b ≡ c → (o : Operands)
        → AllOk (operand_steps o) → Every a → Every b → AllOk (operand_steps (fused p c o))
    ok_fused a b ha hb none x c y o k u v = k
    ok_fused a b ha hb (some d) x none y o k u v = k
    ok_fused a b ha hb (some d) x (some c) y o k u v = let r = of_sum a d ha x u in (r.0, (r.1, (of_carry b c hb y v, tt)))

    ok_add : (a b : ℕ) → a < length xs → b < length xs → Every a → Every b → AllOk (operand_steps (operands_of xs R.Add a b))
    unfolding operands_of
    ok_add a b ha hb u v =
        ok_fused a b ha hb (add_operands xs a) refl (carry_lsb xs b) refl _
        (ok_fused b a hb ha (add_operands xs b) refl (carry_lsb xs a) refl (record { lhs = a; rhs = b; carry = none }) (u, (v, tt)) v u) u v

    module _ (e : ℕ) (here : e < length xs) where
      abbrev law : Kind → ℕ → List Place
      law k i = of_kind (width_of xs) (bit_reads xs) k i

      whole_un : (op : Unary) (a : ℕ) → W.UnWidth op (width_at xs e) (width_at xs a) → ((i : ℕ) → i < width_at xs e → All P (law (R.Un op a) i)) → Every a
      whole_un R.BitNot a w h = λ i u. h i (omega arith)
      whole_un R.LogicNot a w h = every_of a (h 0 (f.least e here))
      whole_un R.ReduceOr a w h = every_of a (h 0 (f.least e here))
      whole_un R.ReduceAnd a w h = every_of a (h 0 (f.least e here))
      whole_un R.ReduceXor a w h = every_of a (h 0 (f.least e here))

      gate_of_law : (a b : ℕ) → width_at xs a ≡ width_at xs e → width_at xs b ≡ width_at xs e → ((i : ℕ) → i < width_at xs e → All P (bit_reads xs a i ++ bit_reads xs b i)) → Every a × Every b
      gate_of_law a b p q h =
          ((λ i u. left_of_law (bit_reads xs a i) (bit_reads xs b i) (h i (omega arith))), (λ i u. right_of (bit_reads xs a i) (bit_reads xs b i) (h i (omega arith))))

      two : (a b : ℕ) → Every a × Every b → Every a × (Every b × Unit {0})
      two a b p = (p.0, (p.1, tt))

      whole_bin : (op : Binary) (a b : ℕ) → a < length xs → b < length xs → W.BinWidth op (width_at xs e) (width_at xs a) (width_at xs b)
          → ((i : ℕ) → i < width_at xs e → All P (law (R.Bin op a b) i)) → AllOk (operand_steps (operands_of xs op a b))
      unfolding operands_of
      whole_bin R.And a b ha hb w h = two a b (gate_of_law a b w.0 w.1 h)
      whole_bin R.Or a b ha hb w h = two a b (gate_of_law a b w.0 w.1 h)
      whole_bin R.Xor a b ha hb w h = two a b (gate_of_law a b w.0 w.1 h)
      whole_bin R.Add a b ha hb w h = let r = pair_of a b (h 0 (f.least e here)) in ok_add a b ha hb r.0 r.1
      whole_bin R.Sub a b ha hb w h = two a b (pair_of a b (h 0 (f.least e here)))
      whole_bin R.Mul a b ha hb w h = two a b (pair_of a b (h 0 (f.least e here)))
      whole_bin R.Equal a b ha hb w h = two a b (pair_of a b (h 0 (f.least e here)))
      whole_bin R.NotEqual a b ha hb w h = two a b (pair_of a b (h 0 (f.least e here)))
      whole_bin R.LessU a b ha hb w h = two a b (pair_of a b (h 0 (f.least e here)))
      whole_bin R.LessS a b ha hb w h = two a b (pair_of a b (h 0 (f.least e here)))
      whole_bin R.LessEqU a b ha hb w h = two a b (pair_of a b (h 0 (f.least e here)))
      whole_bin R.LessEqS a b ha hb w h = two a b (pair_of a b (h 0 (f.least e here)))
      whole_bin R.GreaterU a b ha hb w h = two a b (pair_of a b (h 0 (f.least e here)))
      whole_bin R.GreaterS a b ha hb w h = two a b (pair_of a b (h 0 (f.least e here)))
      whole_bin R.GreaterEqU a b ha hb w h = two a b (pair_of a b (h 0 (f.least e here)))
      whole_bin R.GreaterEqS a b ha hb w h = two a b (pair_of a b (h 0 (f.least e here)))
      whole_bin R.ShiftL a b ha hb w h = two a b (pair_of a b (h 0 (f.least e here)))
      whole_bin R.ShiftR a b ha hb w h = two a b (pair_of a b (h 0 (f.least e here)))
      whole_bin R.ShiftA a b ha hb w h = two a b (pair_of a b (h 0 (f.least e here)))

      at_one : (x : Place) → All P (x ∷ []) → P x
      at_one x h = h x (inl refl)

      whole_kind : (k : Kind) → BelowE e k → WidthOk (width_at xs) (width_at xs e) k → ((i : ℕ) → i < width_at xs e → All P (law k i)) → AllOk (kind_steps xs (width_at xs e) k)
      whole_kind (R.Signal s lsb) b w h =
          ok_bits s lsb (width_at xs e) (λ i l u. let q : lsb + (i - lsb) ≡ i = omega arith in subst (λ (j : ℕ). P (s, j)) q (at_one (s, lsb + (i - lsb)) (h (i - lsb) (omega arith))))
      whole_kind (R.Constant n) b w h = tt
      whole_kind (R.Un op a) b w h = (whole_un op a w h, tt)
      whole_kind (R.Bin op a c) b w h = whole_bin op a c (omega (arith, b.0)) (omega (arith, b.1)) w h
      whole_kind (R.Mux c t d) b w h =
          let part : (i : ℕ) → i < width_at xs e → All P (bit_reads xs t i ++ bit_reads xs d i)
          = λ i u. right_of (whole (width_of xs c) (bit_reads xs c)) (bit_reads xs t i ++ bit_reads xs d i) (h i u) in
          let r = gate_of_law t d w.1 w.2 part in
          (every_of c (left_of_law (whole (width_of xs c) (bit_reads xs c)) (bit_reads xs t 0 ++ bit_reads xs d 0) (h 0 (f.least e here))), (r.0, (r.1, tt)))
      whole_kind (R.Concat ps) b w h = parts_turned ps [] (ok_parts ps (λ i u. h i (omega (arith, sums ps)))) tt
      whole_kind (R.Slice a lsb) b w h = ((λ i l u. let q : lsb + (i - lsb) ≡ i = omega arith in subst (λ (j : ℕ). Ok a j) q (h (i - lsb) (omega arith))), tt)

      pub whole_covered : Every e → AllOk (whole_steps xs e)
      unfolding whole_steps
      whole_covered h = whole_kind (expr_at xs e).kind (f.low e here) (f.wide e here) (λ i u. to_rule e here (expr_at xs e).kind refl i (h i u))

      -- ---- a range of it ----

      module _ (lsb w : ℕ) (some_bit : 1 ≤ w) (fits : lsb + w ≤ width_at xs e) (h : NeedOk (Range e lsb w)) where
        -- of a kind whose bits all read the same
        alike : (k : Kind) → (expr_at xs e).kind ≡ k → ((i j : ℕ) → law k i ≡ law k j) → Every e
        alike k x q i u = by_rule e here k x i (subst (All P) (q lsb i) (to_rule e here k x lsb (h lsb (omega arith) (omega arith))))

        range_un : (op : Unary) (a : ℕ) → (expr_at xs e).kind ≡ R.Un op a → AllOk (kind_range_steps xs e lsb w (R.Un op a))
        range_un R.BitNot a x = ((λ i l u. to_rule e here (R.Un R.BitNot a) x i (h i l u)), tt)
        range_un R.LogicNot a x = (alike (R.Un R.LogicNot a) x (λ i j. refl), tt)
        range_un R.ReduceOr a x = (alike (R.Un R.ReduceOr a) x (λ i j. refl), tt)
        range_un R.ReduceAnd a x = (alike (R.Un R.ReduceAnd a) x (λ i j. refl), tt)
        range_un R.ReduceXor a x = (alike (R.Un R.ReduceXor a) x (λ i j. refl), tt)

        range_gate_law : (a b : ℕ) → ((i : ℕ) → lsb ≤ i → i < lsb + w → All P (bit_reads xs a i ++ bit_reads xs b i)) → NeedOk (Range a lsb w) × (NeedOk (Range b lsb w) × Unit {0})
        range_gate_law a b r =
            ((λ i l u. left_of_law (bit_reads xs a i) (bit_reads xs b i) (r i l u)), ((λ i l u. right_of (bit_reads xs a i) (bit_reads xs b i) (r i l u)), tt))

        range_bin : (op : Binary) (a b : ℕ) → (expr_at xs e).kind ≡ R.Bin op a b → AllOk (kind_range_steps xs e lsb w (R.Bin op a b))
        range_bin R.And a b x = range_gate_law a b (λ i l u. to_rule e here (R.Bin R.And a b) x i (h i l u))
        range_bin R.Or a b x = range_gate_law a b (λ i l u. to_rule e here (R.Bin R.Or a b) x i (h i l u))
        range_bin R.Xor a b x = range_gate_law a b (λ i l u. to_rule e here (R.Bin R.Xor a b) x i (h i l u))
        range_bin R.Add a b x = (alike (R.Bin R.Add a b) x (λ i j. refl), tt)
        range_bin R.Sub a b x = (alike (R.Bin R.Sub a b) x (λ i j. refl), tt)
        range_bin R.Mul a b x = (alike (R.Bin R.Mul a b) x (λ i j. refl), tt)
        range_bin R.Equal a b x = (alike (R.Bin R.Equal a b) x (λ i j. refl), tt)
        range_bin R.NotEqual a b x = (alike (R.Bin R.NotEqual a b) x (λ i j. refl), tt)
        range_bin R.LessU a b x = (alike (R.Bin R.LessU a b) x (λ i j. refl), tt)
        range_bin R.LessS a b x = (alike (R.Bin R.LessS a b) x (λ i j. refl), tt)
        range_bin R.LessEqU a b x = (alike (R.Bin R.LessEqU a b) x (λ i j. refl), tt)
        range_bin R.LessEqS a b x = (alike (R.Bin R.LessEqS a b) x (λ i j. refl), tt)
        range_bin R.GreaterU a b x = (alike (R.Bin R.GreaterU a b) x (λ i j. refl), tt)
        range_bin R.GreaterS a b x = (alike (R.Bin R.GreaterS a b) x (λ i j. refl), tt)
        range_bin R.GreaterEqU a b x = (alike (R.Bin R.GreaterEqU a b) x (λ i j. refl), tt)
        range_bin R.GreaterEqS a b x = (alike (R.Bin R.GreaterEqS a b) x (λ i j. refl), tt)
        range_bin R.ShiftL a b x = (alike (R.Bin R.ShiftL a b) x (λ i j. refl), tt)
        range_bin R.ShiftR a b x = (alike (R.Bin R.ShiftR a b) x (λ i j. refl), tt)
        range_bin R.ShiftA a b x = (alike (R.Bin R.ShiftA a b) x (λ i j. refl), tt)

        range_kind_law : (k : Kind) → (expr_at xs e).kind ≡ k → WidthOk (width_at xs) (width_at xs e) k → AllOk (kind_range_steps xs e lsb w k)
        unfolding concat_pieces
        range_kind_law (R.Signal s l) x v =
            ok_bits s (l + lsb) w (λ i y u. let q : l + (i - l) ≡ i = omega arith in
            subst (λ (j : ℕ). P (s, j)) q (at_one (s, l + (i - l)) (to_rule e here (R.Signal s l) x (i - l) (h (i - l) (omega arith) (omega arith)))))
        range_kind_law (R.Constant n) x v = tt
        range_kind_law (R.Un op a) x v = range_un op a x
        range_kind_law (R.Bin op a b) x v = range_bin op a b x
        range_kind_law (R.Mux c t d) x v =
            let at : (i : ℕ) → lsb ≤ i → i < lsb + w → All P (law (R.Mux c t d) i) = λ i l u. to_rule e here (R.Mux c t d) x i (h i l u) in (
              every_of c (left_of_law (whole (width_of xs c) (bit_reads xs c)) (bit_reads xs t lsb ++ bit_reads xs d lsb) (at lsb (omega arith) (omega arith))),
              range_gate_law t d (λ i l u. right_of (whole (width_of xs c) (bit_reads xs c)) (bit_reads xs t i ++ bit_reads xs d i) (at i l u)),
            )
        range_kind_law (R.Concat ps) x v =
            up_pieces lsb (lsb + w) 0 (backwards ps [])
            (up_turned lsb (lsb + w) ps [] 0 (ok_down lsb (lsb + w) ps (λ i l u z. to_rule e here (R.Concat ps) x i (h i l u))) tt)
        range_kind_law (R.Slice a l) x v =
            ((λ i y u. let q : l + (i - l) ≡ i = omega arith in subst (λ (j : ℕ). Ok a j) q (to_rule e here (R.Slice a l) x (i - l) (h (i - l) (omega arith) (omega arith)))), tt)

        pub range_covered : AllOk (range_steps_of xs e lsb w)
        unfolding range_steps_of
        range_covered = range_kind_law (expr_at xs e).kind refl (f.wide e here)

-- ---- what has P has Q ----

module _ (xs : List Expr) {P Q : Place → Type 0} (k : (x : Place) → P x → Q x) where
  pub need_map : (n : Need) → NeedOk xs P n → NeedOk xs Q n
  need_map (Bit s b) h = k (s, b) h
  need_map (Whole e) h = λ i u x y. k x (h i u x y)
  need_map (Range e lsb w) h = λ i l u x y. k x (h i l u x y)

  pub steps_map : (ss : List Step) → AllOk xs P ss → AllOk xs Q ss
  steps_map [] h = tt
  steps_map (Always n ∷ ss) h = (need_map n h.0, steps_map ss h.1)
  steps_map (Unless c v n ∷ ss) h = (need_map n h.0, steps_map ss h.1)
