-- What is proved of specs/Ranks: The rank of a need, and that each of its steps has a lower one: operands have lower numbers. Assumes nothing.
use Rattle.std.specs.Prelude.{◌≡◌, Bool, cond, ltb, length}
use Rattle.std.proofs.Math.Path.{refl}
use Rattle.std.proofs.Math.Bool.{true, false}
use mathlib.Core.List.{List, [], ◌∷◌}
use Rattle.std.proofs.Math.Option.{Option, none, some}
use Prim.Native.Nat.{ℕ, zero, suc, ◌+◌, ◌*◌, ◌-◌, ◌<◌, min, max}
use native.Mathlib.Omega.{arith}
use Rattle.spec_rtl.specs.Rtl as R
use Rattle.spec_rtl.specs.Rtl.{Module, Expr, Kind}
use Rattle.spec_model.specs.Builder.{from}
use Rattle.spec_model.specs.Ranges.{expr_at, width_at, class_of, Gate}
use Rattle.spec_model.specs.Lowering.{Need, Bit, Whole, Range, Step, Always, Operands, operands_of, operand_steps, wholes, signal_steps, backwards, is_bit_not, gate_of, gate_steps, pieces, concat_pieces, kind_steps, whole_steps, kind_range_steps, range_steps_of}
use Rattle.word_laws.specs.Widths.{AllBelow, BelowE, Formed}
use Rattle.word_ranges.specs.Fusion.{CarryBelow}
use Rattle.word_ranges.proofs.Fusion.{operands}
use Rattle.law_walk.specs.Reads.{Asked, need_of, AllAsked}
use Rattle.law_walk.specs.Parts.{below_turned, piece_steps}
use Rattle.law_fuel.specs.Ranks.{AllRank, most, rank}

pub asked_rank : (m : Module) (n : Need) → Asked m n → rank n < most m
asked_rank m (Bit s b) h = omega arith
asked_rank m (Whole e) h = omega arith
asked_rank m (Range e lsb w) h = omega (arith, h.0)

pub all_rank : (m : Module) (ss : List Step) → AllAsked m ss → AllRank (most m) ss
all_rank m [] h = tt
all_rank m (s ∷ ss) h = (asked_rank m (need_of s) h.0, all_rank m ss h.1)

-- ---- the steps of a need ----

bits_rank : (g s b w : ℕ) → 0 < g → AllRank g (signal_steps s b w)
unfolding signal_steps from
bits_rank g s b zero h = tt
bits_rank g s b (suc w) h = (h, bits_rank g s (suc b) w h)

module _ (g e : ℕ) (less : 2 * e < g) where
  wholes_rank : (ps : List ℕ) → AllBelow e ps → AllRank g (wholes ps)
  wholes_rank [] h = tt
  wholes_rank (p ∷ ps) h = (omega (arith, h.0), wholes_rank ps h.1)

  pieces_rank : (xs : List Expr) (lsb end at : ℕ) (ps : List ℕ) → AllBelow e ps → AllRank g (piece_steps (pieces xs lsb end at ps))
  unfolding pieces
  pieces_rank xs lsb end at [] h = tt
  pieces_rank xs lsb end at (p ∷ ps) h =
      go (ltb (max lsb at) (min end (at + width_at xs p))) (pieces_rank xs lsb end (at + width_at xs p) ps h.1)
    where
      go : (t : Bool) → AllRank g (piece_steps (pieces xs lsb end (at + width_at xs p) ps))
          → AllRank g (piece_steps (cond t (record { part = p; lsb = max lsb at - at; width = min end (at + width_at xs p) - max lsb at } ∷ pieces xs lsb end (at + width_at xs p) ps) (pieces xs lsb end (at + width_at xs p) ps)))
      go true r = (omega (arith, h.0), r)
      go false r = r

  operands_rank : (o : Operands) → o.lhs < e → o.rhs < e → CarryBelow e o.carry → AllRank g (operand_steps o)
  operands_rank o a b c = go o.carry c
    where
      go : (q : Option ℕ) → CarryBelow e q → AllRank g (elim q [ none ↦ wholes (o.lhs ∷ o.rhs ∷ []) | some d ↦ wholes (o.lhs ∷ o.rhs ∷ d ∷ []) ])
      go none c = (omega arith, (omega arith, tt))
      go (some d) c = (omega arith, (omega arith, (omega arith, tt)))

module _ (xs : List Expr) (f : Formed xs) (e : ℕ) (here : e < length xs) where
  kind_rank : (w : ℕ) (k : Kind) → (expr_at xs e).kind ≡ k → BelowE e k → AllRank (rank (Whole e)) (kind_steps xs w k)
  kind_rank w (R.Signal s lsb) x b = bits_rank (2 * e + 1) s lsb w (omega arith)
  kind_rank w (R.Constant n) x b = tt
  kind_rank w (R.Un op a) x b = (omega arith, tt)
  kind_rank w (R.Bin op a c) x b =
      let o = operands xs f (λ s j. false) e here op a c x in
      operands_rank (2 * e + 1) e (omega arith) (operands_of xs op a c) o.lhs_below o.rhs_below o.carry_below
  kind_rank w (R.Mux c t d) x b = (omega (arith, b.0), (omega (arith, b.1), (omega (arith, b.2), tt)))
  kind_rank w (R.Concat ps) x b = wholes_rank (2 * e + 1) e (omega arith) (backwards ps []) (below_turned e ps [] b tt)
  kind_rank w (R.Slice a lsb) x b = (omega arith, tt)

  pub whole_rank : AllRank (rank (Whole e)) (whole_steps xs e)
  unfolding whole_steps
  whole_rank = kind_rank (width_at xs e) (expr_at xs e).kind refl (f.low e here)

  module _ (lsb w : ℕ) where
    not_rank : (t : Bool) (a : ℕ) → a < e → AllRank (rank (Range e lsb w)) (cond t (Always (Range a lsb w) ∷ []) (wholes (e ∷ [])))
    not_rank true a b = (omega arith, tt)
    not_rank false a b = (omega arith, tt)

    gate_rank : (o : Option Gate) (a c : ℕ) → a < e → c < e → AllRank (rank (Range e lsb w)) (gate_steps o e a c lsb w)
    gate_rank none a c p q = (omega arith, tt)
    gate_rank (some g) a c p q = (omega arith, (omega arith, tt))

    range_kind_rank : (k : Kind) → BelowE e k → AllRank (rank (Range e lsb w)) (kind_range_steps xs e lsb w k)
    unfolding concat_pieces
    range_kind_rank (R.Signal s l) b = bits_rank (2 * e + 2) s (l + lsb) w (omega arith)
    range_kind_rank (R.Constant n) b = tt
    range_kind_rank (R.Un op a) b = not_rank (is_bit_not op) a b
    range_kind_rank (R.Bin op a c) b = gate_rank (gate_of (class_of op)) a c b.0 b.1
    range_kind_rank (R.Mux c t d) b = (omega (arith, b.0), (omega (arith, b.1), (omega (arith, b.2), tt)))
    range_kind_rank (R.Concat ps) b = pieces_rank (2 * e + 2) e (omega arith) xs lsb (lsb + w) 0 (backwards ps []) (below_turned e ps [] b tt)
    range_kind_rank (R.Slice a l) b = (omega arith, tt)

    pub range_rank : AllRank (rank (Range e lsb w)) (range_steps_of xs e lsb w)
    unfolding range_steps_of
    range_rank = range_kind_rank (expr_at xs e).kind (f.low e here)
