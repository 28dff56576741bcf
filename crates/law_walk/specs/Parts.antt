-- What is made of a range of an expression, once its steps are done, stands for the slice of its word. Assumes nothing.
use Rattle.std.specs.Prelude.{◌≡◌, Bool, true, false, cond, ltb, length}
use Rattle.std.proofs.Math.Path.{refl, sym}
use Rattle.std.proofs.Common.{◌∙◌, arith, ltb-true}
use mathlib.Core.List.{List, [], ◌∷◌, ◌++◌, map, append_assoc, append-nil}
use Rattle.std.proofs.Math.Option.{some}
use Prim.Native.Nat.{ℕ, ◌+◌, ◌-◌, ◌≤◌, ◌<◌, min, max}
use Rattle.std.proofs.Math.Decide.{dec_lt}
use Rattle.spec_rtl.specs.Ops.{join_w, map2}
use Rattle.spec_rtl.specs.Rtl as R
use Rattle.spec_rtl.specs.Rtl.{Module, Binary, binary}
use Rattle.spec_model.specs.Ranges.{width_at, class_of, Gate, AndGate, OrGate, XorGate}
use Rattle.spec_model.specs.Lowering.{Step, Always, Range, Piece, pieces, backwards, gate_of}
use Rattle.word_laws.specs.Widths.{AllBelow, WidthOk}
use Rattle.law_walk.specs.Tables.{none_some, some_eq}
use Rattle.law_walk.specs.Reads.{AllAsked}
use Rattle.law_walk.specs.Gates.{gate_op}

-- ---- the numbers of a piece: a part of n bits that begins at bit at ----

pub piece_fits : (lo hi at n : ℕ) → lo < hi → at ≤ lo → hi ≤ at + n → lo - at + (hi - lo) ≤ n
piece_fits lo hi at n a b c = omega arith

pub piece_low : (lsb at : ℕ) → max lsb at - at ≡ lsb - at
piece_low lsb at = omega arith

-- (apart: with more in reach omega would have too many cases)
before_width : (end at n : ℕ) → min (end - at) (n - 0) ≡ min end (at + n) - at
before_width end at n = omega arith

inside_width : (end at n d : ℕ) → min (end - (at + d)) (n - d) ≡ min end (at + n) - (at + d)
inside_width end at n d = omega arith

pub piece_width : (lsb end at n : ℕ) → min (end - max lsb at) (n - (lsb - at)) ≡ min end (at + n) - max lsb at
piece_width lsb end at n = elim (dec_lt lsb at) [
  | yes h ↦ (let p : max lsb at ≡ at = omega arith in let q : lsb - at ≡ 0 = omega arith in rw (p, q) (before_width end at n))
  | no h ↦ (
      let p : max lsb at ≡ at + (lsb - at) = omega arith in
      rw p (inside_width end at n (lsb - at)))
]

pub rest_low : (lsb at n : ℕ) → lsb - at - n ≡ lsb - (at + n)
rest_low lsb at n = omega arith

after_width : (end at n : ℕ) → end - at - (n - 0) ≡ end - (at + n)
after_width end at n = omega arith

past_width : (end at n d : ℕ) → end - (at + d) - (n - d) ≡ end - max (at + d) (at + n)
past_width end at n d = omega arith

pub rest_width : (lsb end at n : ℕ) → end - max lsb at - (n - (lsb - at)) ≡ end - max lsb (at + n)
rest_width lsb end at n = elim (dec_lt lsb at) [
  | yes h ↦ (
      let p : max lsb at ≡ at = omega arith in
      let q : lsb - at ≡ 0 = omega arith in
      let r : max lsb (at + n) ≡ at + n = omega arith in
      rw (p, q, r) (after_width end at n))
  | no h ↦ (
      let p : max lsb at ≡ at + (lsb - at) = omega arith in
      let q : max lsb (at + n) ≡ max (at + (lsb - at)) (at + n) = omega arith in
      rw (p, q) (past_width end at n (lsb - at)))
]

-- ---- a Concat's parts, the least significant first ----

abbrev pub flat : (ℕ → List Bool) → List ℕ → List Bool
flat g [] = []
flat g (p ∷ ps) = g p ++ flat g ps

turn : (g : ℕ → List Bool) (ps acc : List ℕ) → join_w (map g ps) ++ flat g acc ≡ flat g (backwards ps acc)
turn g [] acc = refl
turn g (p ∷ ps) acc = append_assoc (join_w (map g ps)) (g p) (flat g acc) ∙ turn g ps (p ∷ acc)

pub joined : (g : ℕ → List Bool) (ps : List ℕ) → join_w (map g ps) ≡ flat g (backwards ps [])
joined g ps = sym (append-nil (join_w (map g ps))) ∙ turn g ps []

pub below_turned : (e : ℕ) (ps acc : List ℕ) → AllBelow e ps → AllBelow e acc → AllBelow e (backwards ps acc)
below_turned e [] acc h k = k
below_turned e (p ∷ ps) acc h k = below_turned e ps (p ∷ acc) h.1 (h.0, k)

abbrev pub piece_steps : List Piece → List Step
piece_steps ps = map (λ p. Always (Range p.part p.lsb p.width)) ps

-- each piece stays inside its part
pub pieces_asked : (m : Module) (lsb end at : ℕ) (ps : List ℕ) → AllBelow (length m.exprs) ps → AllAsked m (piece_steps (pieces m.exprs lsb end at ps))
unfolding pieces
pieces_asked m lsb end at [] h = tt
pieces_asked m lsb end at (p ∷ ps) h =
    go (ltb (max lsb at) (min end (at + width_at m.exprs p))) refl (pieces_asked m lsb end (at + width_at m.exprs p) ps h.1)
  where
    go : (t : Bool) → ltb (max lsb at) (min end (at + width_at m.exprs p)) ≡ t → AllAsked m (piece_steps (pieces m.exprs lsb end (at + width_at m.exprs p) ps))
        → AllAsked m (piece_steps (cond t (record { part = p; lsb = max lsb at - at; width = min end (at + width_at m.exprs p) - max lsb at } ∷ pieces m.exprs lsb end (at + width_at m.exprs p) ps) (pieces m.exprs lsb end (at + width_at m.exprs p) ps)))
    go true t r = ((h.0, piece_fits (max lsb at) (min end (at + width_at m.exprs p)) at (width_at m.exprs p) (ltb-true _ _ t) (omega arith) (omega arith)), r)
    go false t r = r

-- a gate's operator bit by bit
pub gate_word : (op : Binary) (k : Gate) → gate_of (class_of op) ≡ some k → (a b : List Bool) → binary op a b ≡ map2 (gate_op k) a b
gate_word R.And k e a b = let q : AndGate ≡ k = some_eq e in rw (← q)
gate_word R.Or k e a b = let q : OrGate ≡ k = some_eq e in rw (← q)
gate_word R.Xor k e a b = let q : XorGate ≡ k = some_eq e in rw (← q)
gate_word R.Add k e a b = absurd (none_some e)
gate_word R.Sub k e a b = absurd (none_some e)
gate_word R.Mul k e a b = absurd (none_some e)
gate_word R.Equal k e a b = absurd (none_some e)
gate_word R.NotEqual k e a b = absurd (none_some e)
gate_word R.LessU k e a b = absurd (none_some e)
gate_word R.LessS k e a b = absurd (none_some e)
gate_word R.LessEqU k e a b = absurd (none_some e)
gate_word R.LessEqS k e a b = absurd (none_some e)
gate_word R.GreaterU k e a b = absurd (none_some e)
gate_word R.GreaterS k e a b = absurd (none_some e)
gate_word R.GreaterEqU k e a b = absurd (none_some e)
gate_word R.GreaterEqS k e a b = absurd (none_some e)
gate_word R.ShiftL k e a b = absurd (none_some e)
gate_word R.ShiftR k e a b = absurd (none_some e)
gate_word R.ShiftA k e a b = absurd (none_some e)

-- a gate's sides have its width
pub gate_wide : (g : ℕ → ℕ) (w a b : ℕ) (op : Binary) (k : Gate) → gate_of (class_of op) ≡ some k → WidthOk g w (R.Bin op a b) → (g a ≡ w) × (g b ≡ w)
gate_wide g w a b R.And k e h = h
gate_wide g w a b R.Or k e h = h
gate_wide g w a b R.Xor k e h = h
gate_wide g w a b R.Add k e h = absurd (none_some e)
gate_wide g w a b R.Sub k e h = absurd (none_some e)
gate_wide g w a b R.Mul k e h = absurd (none_some e)
gate_wide g w a b R.Equal k e h = absurd (none_some e)
gate_wide g w a b R.NotEqual k e h = absurd (none_some e)
gate_wide g w a b R.LessU k e h = absurd (none_some e)
gate_wide g w a b R.LessS k e h = absurd (none_some e)
gate_wide g w a b R.LessEqU k e h = absurd (none_some e)
gate_wide g w a b R.LessEqS k e h = absurd (none_some e)
gate_wide g w a b R.GreaterU k e h = absurd (none_some e)
gate_wide g w a b R.GreaterS k e h = absurd (none_some e)
gate_wide g w a b R.GreaterEqU k e h = absurd (none_some e)
gate_wide g w a b R.GreaterEqS k e h = absurd (none_some e)
gate_wide g w a b R.ShiftL k e h = absurd (none_some e)
gate_wide g w a b R.ShiftR k e h = absurd (none_some e)
gate_wide g w a b R.ShiftA k e h = absurd (none_some e)
