-- What a refusal of the walk tells (flag false). 6: needs lead from what was to be lowered to the bit that it names, which is undriven. 7: to a
-- bit that is driven by an expression and needs itself, or was open before: marked and without a net. Any other is for want of room.
-- After a success no more bits are open than before. Assumes nothing.
use Rattle.std.specs.Prelude.{◌≡◌, Bool, cond, ltb, length}
use Rattle.std.proofs.Math.Path.{refl, subst}
use Rattle.std.proofs.Common.{not-suc-le-zero, arith, ltb-true}
use Rattle.std.proofs.Math.Bool.{true, false}
use mathlib.Core.List.{List, [], ◌∷◌, map}
use Rattle.std.proofs.Math.Option.{Option, none, some}
use Prim.Native.Nat.{ℕ, zero, suc, ◌+◌, ◌-◌, ◌≤◌, ◌<◌, min, max}
use Rattle.std.proofs.Math.Decide.{dec_lt}
use Rattle.spec_rtl.specs.Rtl as R
use Rattle.spec_rtl.specs.Rtl.{Expr, Kind, Unary}
use Rattle.spec_model.specs.Builder.{from}
use Rattle.spec_model.specs.Ranges.{Gate, class_of, expr_at, width_at}
use Rattle.spec_model.specs.Lowering.{Need, Bit, Whole, Range, Step, Always, whole, signal_steps, wholes, Operands, operands_of, operand_steps, backwards, Piece, pieces, concat_pieces, gate_of, gate_steps, kind_steps, whole_steps, kind_range_steps, range_steps_of}
use Rattle.word_laws.specs.Widths.{Formed}
use Rattle.law_walk.specs.Reads.{need_of}
use Rattle.spec_needs.specs.Reads.{Place}
use Rattle.spec_needs.specs.Reads as reads
use Rattle.spec_needs.specs.Needs.{In}
use Rattle.law_needs.specs.Covers.{in_left, in_right}

pub in_whole : (w : ℕ) (g : ℕ → List Place) (i : ℕ) (y : Place) → i < w → In y (g i) → In y (reads.whole w g)
in_whole zero g i y h q = absurd (not-suc-le-zero h)
in_whole (suc w) g i y h q = elim (dec_lt i w) [
  | yes l ↦ in_left y (reads.whole w g) (g w) (in_whole w g i y l q)
  | no l ↦ (let e : i ≡ w = omega arith in in_right y (reads.whole w g) (g w) (subst (λ (j : ℕ). In y (g j)) e q))
]

-- ---- steps ----

-- a range of at least one bit
abbrev pub Some : Need → Type 0
Some (Bit s b) = Unit {0}
Some (Whole e) = Unit {0}
Some (Range e lsb w) = 1 ≤ w

abbrev pub AllSome : List Step → Type 0
AllSome [] = Unit {0}
AllSome (s ∷ ss) = Some (need_of s) × AllSome ss

-- steps of an expression, and of a range of some bits, ask for ranges of some bits
some_bits : (s b w : ℕ) → AllSome (signal_steps s b w)
unfolding signal_steps from
some_bits s b zero = tt
some_bits s b (suc w) = (tt, some_bits s (suc b) w)

some_wholes : (ps : List ℕ) → AllSome (wholes ps)
some_wholes [] = tt
some_wholes (p ∷ ps) = (tt, some_wholes ps)

some_operands : (o : Operands) → AllSome (operand_steps o)
some_operands o = go o.carry
  where
    go : (c : Option ℕ) → AllSome (elim c [ none ↦ wholes (o.lhs ∷ o.rhs ∷ []) | some d ↦ wholes (o.lhs ∷ o.rhs ∷ d ∷ []) ])
    go none = some_wholes (o.lhs ∷ o.rhs ∷ [])
    go (some d) = some_wholes (o.lhs ∷ o.rhs ∷ d ∷ [])

some_pieces : (xs : List Expr) (lsb end at : ℕ) (ps : List ℕ) → AllSome (map (λ (p : Piece). Always (Range p.part p.lsb p.width)) (pieces xs lsb end at ps))
unfolding pieces
some_pieces xs lsb end at [] = tt
some_pieces xs lsb end at (p ∷ ps) = go (ltb (max lsb at) (min end (at + width_at xs p))) refl (some_pieces xs lsb end (at + width_at xs p) ps)
  where
    go : (t : Bool) → ltb (max lsb at) (min end (at + width_at xs p)) ≡ t
        → AllSome (map (λ (p : Piece). Always (Range p.part p.lsb p.width)) (pieces xs lsb end (at + width_at xs p) ps))
        → AllSome (map (λ (p : Piece). Always (Range p.part p.lsb p.width)) (cond t (record { part = p; lsb = max lsb at - at; width = min end (at + width_at xs p) - max lsb at } ∷ pieces xs lsb end (at + width_at xs p) ps) (pieces xs lsb end (at + width_at xs p) ps)))
    go true t r = let h = ltb-true (max lsb at) (min end (at + width_at xs p)) t in (omega arith, r)
    go false t r = r

pub some_whole : (xs : List Expr) → Formed xs → (e : ℕ) → e < length xs → AllSome (whole_steps xs e)
unfolding whole_steps
some_whole xs f e h = go (expr_at xs e).kind
  where
    go : (k : Kind) → AllSome (kind_steps xs (width_at xs e) k)
    go (R.Signal s lsb) = some_bits s lsb (width_at xs e)
    go (R.Constant n) = tt
    go (R.Un op a) = (tt, tt)
    go (R.Bin op a b) = some_operands (operands_of xs op a b)
    go (R.Mux c t d) = (tt, (tt, (tt, tt)))
    go (R.Concat ps) = some_wholes (backwards ps [])
    go (R.Slice a lsb) = (f.least e h, tt)

pub some_range : (xs : List Expr) (e lsb w : ℕ) → 1 ≤ w → AllSome (range_steps_of xs e lsb w)
unfolding range_steps_of concat_pieces
some_range xs e lsb w h = go (expr_at xs e).kind
  where
    un : (op : Unary) (a : ℕ) → AllSome (kind_range_steps xs e lsb w (R.Un op a))
    un R.BitNot a = (h, tt)
    un R.LogicNot a = (tt, tt)
    un R.ReduceOr a = (tt, tt)
    un R.ReduceAnd a = (tt, tt)
    un R.ReduceXor a = (tt, tt)

    gate : (o : Option Gate) (a b : ℕ) → AllSome (gate_steps o e a b lsb w)
    gate none a b = (tt, tt)
    gate (some g) a b = (h, (h, tt))

    go : (k : Kind) → AllSome (kind_range_steps xs e lsb w k)
    go (R.Signal s l) = some_bits s (l + lsb) w
    go (R.Constant n) = tt
    go (R.Un op a) = un op a
    go (R.Bin op a b) = gate (gate_of (class_of op)) a b
    go (R.Mux c t d) = (tt, (h, (h, tt)))
    go (R.Concat ps) = some_pieces xs lsb (lsb + w) 0 (backwards ps [])
    go (R.Slice a l) = (h, tt)
