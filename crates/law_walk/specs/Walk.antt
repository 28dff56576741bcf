-- The walk: one step of it from what is lowered below, then all of it by induction on the bound. Assumes nothing.
use Rattle.std.specs.Prelude.{◌≡◌, Bool, get_or}
use Rattle.std.proofs.Math.Path.{refl, ap}
use Rattle.std.proofs.Common.{sym, ◌∙◌}
use Rattle.std.proofs.Math.Bool.{false}
use mathlib.Core.List.{List, [], ◌∷◌}
use Rattle.std.proofs.Math.Option.{Option, none, some}
use Prim.Native.Nat.{ℕ, zero, suc, ◌+◌, ◌≤◌, ◌<◌}
use native.Mathlib.Omega.{arith}
use Rattle.std.proofs.Math.ListN.{length}
use Rattle.spec_rtl.specs.Ops.{slice_w}
use Rattle.spec_rtl.specs.Rtl as R
use Rattle.spec_rtl.specs.Rtl.{Valuation, Module, Kind, Unary, Binary, by_assign}
use Rattle.spec_model.specs.Words.{Netlist}
use Rattle.spec_model.specs.Builder.{from}
use Rattle.spec_model.specs.Ranges.{expr_at, width_at, class_of, Gate}
use Rattle.spec_model.specs.Lowering.{signal_width, Operands, operands_of, operand_steps, wholes, signal_steps, backwards, gate_of, gate_steps, concat_pieces, kind_steps, whole_steps, kind_range_steps, range_steps_of}
use Rattle.word_laws.specs.Widths.{AllBelow, BelowE, Formed, WidthOk}
use Rattle.word_ranges.specs.Fusion.{CarryBelow}
use Rattle.word_ranges.proofs.Fusion.{operands}
use Rattle.law_nets.specs.Meaning.{net_value}
use Rattle.law_nets.specs.Sound.{count}
use Rattle.law_walk.specs.Good.{Undriven}
use Rattle.law_walk.specs.Kept.{Table, NetsGive}
use Rattle.law_walk.specs.Reads.{AllAsked, map_at, below_at}
use Rattle.law_walk.specs.Parts.{gate_wide, below_turned, pieces_asked}

-- ---- what the steps ask ----

pub bits_asked : (m : Module) (s b w : ℕ) → AllAsked m (signal_steps s b w)
unfolding signal_steps from
bits_asked m s b zero = tt
bits_asked m s b (suc w) = (tt, bits_asked m s (suc b) w)

wholes_asked : (m : Module) (ps : List ℕ) → AllBelow (length m.exprs) ps → AllAsked m (wholes ps)
wholes_asked m [] h = tt
wholes_asked m (p ∷ ps) h = (h.0, wholes_asked m ps h.1)

below_more : (n k : ℕ) (ps : List ℕ) → n ≤ k → AllBelow n ps → AllBelow k ps
below_more n k [] h b = tt
below_more n k (p ∷ ps) h b = (omega (arith, b.0), below_more n k ps h b.1)

module _ (m : Module) (f : Formed m.exprs) (e : ℕ) (here : e < length m.exprs) where
  operands_asked : (o : Operands) → o.lhs < e → o.rhs < e → CarryBelow e o.carry → AllAsked m (operand_steps o)
  operands_asked o a b c = go o.carry c
    where
      go : (q : Option ℕ) → CarryBelow e q → AllAsked m (elim q [ none ↦ wholes (o.lhs ∷ o.rhs ∷ []) | some d ↦ wholes (o.lhs ∷ o.rhs ∷ d ∷ []) ])
      go none c = (omega arith, (omega arith, tt))
      go (some d) c = (omega arith, (omega arith, (omega arith, tt)))

  kind_asked : (k : Kind) → (expr_at m.exprs e).kind ≡ k → BelowE e k → WidthOk (width_at m.exprs) (width_at m.exprs e) k
      → AllAsked m (kind_steps m.exprs (width_at m.exprs e) k)
  kind_asked (R.Signal s lsb) x b w = bits_asked m s lsb (width_at m.exprs e)
  kind_asked (R.Constant n) x b w = tt
  kind_asked (R.Un op a) x b w = (omega arith, tt)
  kind_asked (R.Bin op a c) x b w =
      let o = operands m.exprs f (λ s j. false) e here op a c x in
      operands_asked (operands_of m.exprs op a c) o.lhs_below o.rhs_below o.carry_below
  kind_asked (R.Mux c t d) x b w = (omega (arith, b.0), (omega (arith, b.1), (omega (arith, b.2), tt)))
  kind_asked (R.Concat ps) x b w =
      wholes_asked m (backwards ps []) (below_turned (length m.exprs) ps [] (below_more e (length m.exprs) ps (omega arith) b) tt)
  kind_asked (R.Slice a lsb) x b w = ((omega arith, w), tt)

  pub whole_asked : AllAsked m (whole_steps m.exprs e)
  unfolding whole_steps
  whole_asked = kind_asked (expr_at m.exprs e).kind refl (f.low e here) (f.wide e here)

  module _ (lsb w : ℕ) (fits : lsb + w ≤ width_at m.exprs e) where
    un_asked : (op : Unary) (a : ℕ) → BelowE e (R.Un op a) → WidthOk (width_at m.exprs) (width_at m.exprs e) (R.Un op a)
        → AllAsked m (kind_range_steps m.exprs e lsb w (R.Un op a))
    un_asked R.BitNot a b k = ((omega arith, omega arith), tt)
    un_asked R.LogicNot a b k = (here, tt)
    un_asked R.ReduceOr a b k = (here, tt)
    un_asked R.ReduceAnd a b k = (here, tt)
    un_asked R.ReduceXor a b k = (here, tt)

    gate_asked : (op : Binary) (a c : ℕ) → (o : Option Gate) → gate_of (class_of op) ≡ o → BelowE e (R.Bin op a c)
        → WidthOk (width_at m.exprs) (width_at m.exprs e) (R.Bin op a c) → AllAsked m (gate_steps o e a c lsb w)
    gate_asked op a c none q b k = (here, tt)
    gate_asked op a c (some g) q b k =
        let n = gate_wide (width_at m.exprs) (width_at m.exprs e) a c op g q k in
        ((omega (arith, b.0), omega (arith, n.0)), ((omega (arith, b.1), omega (arith, n.1)), tt))

    range_kind_asked : (k : Kind) → BelowE e k → WidthOk (width_at m.exprs) (width_at m.exprs e) k → AllAsked m (kind_range_steps m.exprs e lsb w k)
    unfolding concat_pieces
    range_kind_asked (R.Signal s l) b k = bits_asked m s (l + lsb) w
    range_kind_asked (R.Constant n) b k = tt
    range_kind_asked (R.Un op a) b k = un_asked op a b k
    range_kind_asked (R.Bin op a c) b k = gate_asked op a c (gate_of (class_of op)) refl b k
    range_kind_asked (R.Mux c t d) b k =
        (omega (arith, b.0), ((omega (arith, b.1), omega (arith, k.1)), ((omega (arith, b.2), omega (arith, k.2)), tt)))
    range_kind_asked (R.Concat ps) b k =
        pieces_asked m lsb (lsb + w) 0 (backwards ps []) (below_turned (length m.exprs) ps [] (below_more e (length m.exprs) ps (omega arith) b) tt)
    range_kind_asked (R.Slice a l) b k = ((omega arith, omega arith), tt)

    pub range_asked : AllAsked m (range_steps_of m.exprs e lsb w)
    unfolding range_steps_of
    range_asked = range_kind_asked (expr_at m.exprs e).kind (f.low e here) (f.wide e here)

-- ---- a signal bit's driver ----

-- the assignment that drives a bit
pub record Assigned (m : Module) (s b e o : ℕ) : Type 0 where
  pub here : s < length m.signals
  pub inside : b < signal_width m s
  pub value : e < length m.exprs
  pub bit : o < width_at m.exprs e
  pub undriven : Undriven m s
  pub by : by_assign m.assigns s b ≡ R.FromExpr e o

-- ---- one bit of a word ----

pub head_eq : {a b : Bool} → ◌≡◌ {A = List Bool} (a ∷ []) (b ∷ []) → a ≡ b
head_eq p = cc

pub one_of : {l : Netlist} {t : Table} {ns : List ℕ} {w : Valuation → List Bool} → NetsGive l t ns w → (i d : ℕ) → i < length ns
    → NetsGive l t (get_or ns i d ∷ []) (λ v. get_or (w v) i false ∷ [])
one_of {l} {ns} h i d n = record {
  there = (below_at (count l) ns i d n h.there, tt);
  holds = λ k a s c v g. ap (λ (x : Bool). x ∷ []) (sym (map_at (net_value k s c) ns i d false n) ∙ ap (λ (x : List Bool). get_or x i false) (h.holds k a s c v g));
}

pub first_of : (i : ℕ) (a : List Bool) → get_or (slice_w i 1 a) 0 false ≡ get_or a i false
first_of zero [] = refl
first_of zero (x ∷ a) = refl
first_of (suc i) [] = refl
first_of (suc i) (x ∷ a) = first_of i a
