-- What is proved of specs/Parts: What is made of a range of an expression, once its steps are done, stands for the slice of its word. Assumes nothing.
use Rattle.std.specs.Prelude.{◌≡◌, Bool, true, false, not, cond, ltb, length, get_or, take, drop}
use Rattle.std.proofs.Math.Path.{refl, sym, ap}
use Rattle.std.proofs.Common.{◌∙◌, arith, ltb-true, ltb-false}
use mathlib.Core.List.{List, [], ◌∷◌, ◌++◌}
use Rattle.std.proofs.Math.Option.{Option, none, some}
use Prim.Native.Nat.{ℕ, ◌+◌, ◌-◌, ◌≤◌, ◌<◌, min, max}
use Rattle.std.proofs.Math.Seq.{take-nil, drop-nil}
use Rattle.spec_rtl.specs.Word.{bits}
use Rattle.spec_rtl.specs.Ops.{slice_w}
use Rattle.spec_rtl.specs.Rtl as R
use Rattle.spec_rtl.specs.Rtl.{Module, Valuation, Kind, Unary, Binary, word, word1}
use Rattle.spec_model.specs.Words.{Netlist}
use Rattle.spec_model.specs.Ranges.{expr_at, width_at, class_of, Gate}
use Rattle.spec_model.specs.Lowering.{State, Range, pieces, concat_pieces, backwards, gate_of, gate_steps, whole, range_nets, piece_nets, range_gate, kind_range_steps, range_steps_of, range_kind, build_range}
use Rattle.word_laws.specs.Shift.{tab_ext}
use Rattle.word_laws.specs.Slices.{map_slice, map2_slice, cond_slice, tab_slice, slice_slice, append_slice}
use Rattle.word_laws.specs.Values.{slice_wide}
use Rattle.word_laws.specs.Widths.{AllBelow, BelowE, Formed, WidthOk, word_is, word_width}
use Rattle.law_nets.specs.Run.{cells_refl}
use Rattle.law_nets.proofs.Run.{later_refl}
use Rattle.law_walk.specs.Tables.{Has}
use Rattle.law_walk.specs.Kept.{NetsGive, Inv, Makes, makes_done, makes_map}
use Rattle.law_walk.specs.Writes.{holds_length}
use Rattle.law_walk.specs.Reads.{After, AllAfter, holds_as, holds_nil, holds_append}
use Rattle.law_walk.proofs.ReadsLaws.{read_range, whole_after}
use Rattle.law_walk.proofs.ReadsLaws.{read_bits}
use Rattle.law_walk.specs.Gates.{Gates, gate_op, gives_holds}
use Rattle.law_walk.proofs.Wholes.{mux_made}
use Rattle.law_walk.specs.Parts.{below_turned, flat, gate_wide, gate_word, joined, piece_fits, piece_low, piece_steps, piece_width, rest_low, rest_width}

module _ (G : Gates) (m : Module) (f : Formed m.exprs) (ob : Bool) (st : State) (i : Inv m st) where
  pieces_made : (lsb end at : ℕ) (ps : List ℕ) → AllBelow (length m.exprs) ps → AllAfter ob st (piece_steps (pieces m.exprs lsb end at ps))
      → NetsGive st.netlist st.signal_bits (piece_nets st (pieces m.exprs lsb end at ps))
      (λ v. slice_w (lsb - at) (end - max lsb at) (flat (word m.exprs v) ps))
  unfolding pieces
  pieces_made lsb end at [] b h = holds_as holds_nil (λ v. sym (rw (drop-nil {A = Bool} (lsb - at)) (take-nil {A = Bool} (end - max lsb at))))
  pieces_made lsb end at (p ∷ ps) b h =
      go (ltb (max lsb at) (min end (at + width_at m.exprs p))) refl (pieces_made lsb end (at + width_at m.exprs p) ps b.1) h
    where
      cut : (v : Valuation) → slice_w (max lsb at - at) (min end (at + width_at m.exprs p) - max lsb at) (word m.exprs v p)
          ++ slice_w (lsb - (at + width_at m.exprs p)) (end - max lsb (at + width_at m.exprs p)) (flat (word m.exprs v) ps)
          ≡ slice_w (lsb - at) (end - max lsb at) (word m.exprs v p ++ flat (word m.exprs v) ps)
      cut v =
          let l = word_width m.exprs f v p b.0 in
          sym (append_slice (lsb - at) (end - max lsb at) (word m.exprs v p) (flat (word m.exprs v) ps)
          ∙ rw (l, piece_width lsb end at (width_at m.exprs p), rest_low lsb at (width_at m.exprs p), rest_width lsb end at (width_at m.exprs p), piece_low lsb at))

      nothing : (lo hi : ℕ) → hi ≤ lo → hi - lo ≡ 0
      nothing lo hi h = omega arith

      go : (t : Bool) → ltb (max lsb at) (min end (at + width_at m.exprs p)) ≡ t
          → (AllAfter ob st (piece_steps (pieces m.exprs lsb end (at + width_at m.exprs p) ps))
          → NetsGive st.netlist st.signal_bits (piece_nets st (pieces m.exprs lsb end (at + width_at m.exprs p) ps))
          (λ v. slice_w (lsb - (at + width_at m.exprs p)) (end - max lsb (at + width_at m.exprs p)) (flat (word m.exprs v) ps)))
          → AllAfter ob st (piece_steps (cond t (record { part = p; lsb = max lsb at - at; width = min end (at + width_at m.exprs p) - max lsb at } ∷ pieces m.exprs lsb end (at + width_at m.exprs p) ps) (pieces m.exprs lsb end (at + width_at m.exprs p) ps)))
          → NetsGive st.netlist st.signal_bits
          (piece_nets st (cond t (record { part = p; lsb = max lsb at - at; width = min end (at + width_at m.exprs p) - max lsb at } ∷ pieces m.exprs lsb end (at + width_at m.exprs p) ps) (pieces m.exprs lsb end (at + width_at m.exprs p) ps)))
          (λ v. slice_w (lsb - at) (end - max lsb at) (word m.exprs v p ++ flat (word m.exprs v) ps))
      go true t r h =
          holds_as (holds_append (read_range m st i f p (max lsb at - at) (min end (at + width_at m.exprs p) - max lsb at) b.0
          (piece_fits (max lsb at) (min end (at + width_at m.exprs p)) at (width_at m.exprs p) (ltb-true (max lsb at) (min end (at + width_at m.exprs p)) t) (omega arith) (omega arith)) h.0) (r h.1)) cut
      go false t r h =
          let z = nothing (max lsb at) (min end (at + width_at m.exprs p)) (ltb-false (max lsb at) (min end (at + width_at m.exprs p)) t) in
          holds_as (r h) (λ v. rw z at (cut v))

  module _ (e lsb w : ℕ) (here : e < length m.exprs) (fits : lsb + w ≤ width_at m.exprs e) where
    abbrev MadeSlice : List ℕ → Netlist → Type 0
    MadeSlice ns l = NetsGive l st.signal_bits ns (λ v. slice_w lsb w (word m.exprs v e))

    module _ (k : Kind) (x : (expr_at m.exprs e).kind ≡ k) where
      is : (v : Valuation) → slice_w lsb w (word1 v (word m.exprs v) (width_at m.exprs e) k) ≡ slice_w lsb w (word m.exprs v e)
      is v = ap (slice_w lsb w) (sym (word_is m.exprs v e here (f.low e here) ∙ rw x))

      low : BelowE e k
      low = rw x at (f.low e here)

      wide : WidthOk (width_at m.exprs) (width_at m.exprs e) k
      wide = rw x at (f.wide e here)

    -- the range of the expression itself, which is there whole
    own : Has (whole st e) → NetsGive st.netlist st.signal_bits (range_nets st e lsb w) (λ v. slice_w lsb w (word m.exprs v e))
    own h = read_range m st i f e lsb w here fits (whole_after m st i f e lsb w h)

    -- a range of an operand of the same width
    module _ (a : ℕ) (b : a < e) (same : width_at m.exprs a ≡ width_at m.exprs e) (h : After st (Range a lsb w)) where
      side : NetsGive st.netlist st.signal_bits (range_nets st a lsb w) (λ v. slice_w lsb w (word m.exprs v a))
      side = read_range m st i f a lsb w (omega arith) (omega arith) h

      side_length : length (range_nets st a lsb w) ≡ w
      side_length = holds_length i.sound side w (λ v. slice_wide lsb w (word m.exprs v a) (omega (arith, word_width m.exprs f v a (omega arith))))

    un_made : (op : Unary) (a : ℕ) → (expr_at m.exprs e).kind ≡ R.Un op a → AllAfter ob st (kind_range_steps m.exprs e lsb w (R.Un op a))
        → Makes st.netlist MadeSlice (range_kind m.exprs ob st e lsb w (width_at m.exprs e) (R.Un op a))
    un_made R.BitNot a x h =
        let p = side a (low (R.Un R.BitNot a) x) (wide (R.Un R.BitNot a) x) h.0 in
        gives_holds _ (G.nots (range_nets st a lsb w) st.netlist i.sound p.there)
        (λ l d s c v g. rw (p.holds l d s c v g) (sym (map_slice not lsb w (word m.exprs v a)) ∙ is (R.Un R.BitNot a) x v))
    un_made R.LogicNot a x h = makes_done (later_refl i.sound) cells_refl (own h.0)
    un_made R.ReduceOr a x h = makes_done (later_refl i.sound) cells_refl (own h.0)
    un_made R.ReduceAnd a x h = makes_done (later_refl i.sound) cells_refl (own h.0)
    un_made R.ReduceXor a x h = makes_done (later_refl i.sound) cells_refl (own h.0)

    gate_made : (op : Binary) (a b : ℕ) → (expr_at m.exprs e).kind ≡ R.Bin op a b → (o : Option Gate) → gate_of (class_of op) ≡ o → AllAfter ob st (gate_steps o e a b lsb w)
        → Makes st.netlist MadeSlice (range_gate o st e a b lsb w)
    gate_made op a b x none q h = makes_done (later_refl i.sound) cells_refl (own h.0)
    gate_made op a b x (some k) q h =
        let n = gate_wide (width_at m.exprs) (width_at m.exprs e) a b op k q (wide (R.Bin op a b) x) in
        let y = low (R.Bin op a b) x in
        let p = side a y.0 n.0 h.0 in
        let r = side b y.1 n.1 h.1.0 in
        gives_holds _ (G.gates k (range_nets st a lsb w) (range_nets st b lsb w) st.netlist i.sound p.there r.there
        (side_length a y.0 n.0 h.0 ∙ sym (side_length b y.1 n.1 h.1.0)))
        (λ l d s c v g. rw (p.holds l d s c v g, r.holds l d s c v g)
        (sym (map2_slice (gate_op k) lsb w (word m.exprs v a) (word m.exprs v b)) ∙ ap (slice_w lsb w) (sym (gate_word op k q (word m.exprs v a) (word m.exprs v b))) ∙ is (R.Bin op a b) x v))

    kind_made : (k : Kind) → (expr_at m.exprs e).kind ≡ k → AllAfter ob st (kind_range_steps m.exprs e lsb w k)
        → Makes st.netlist MadeSlice (range_kind m.exprs ob st e lsb w (width_at m.exprs e) k)
    unfolding concat_pieces
    kind_made (R.Signal s b) x h =
        makes_done (later_refl i.sound) cells_refl (holds_as (read_bits m st i ob s (b + lsb) w h)
        (λ v. sym (tab_slice lsb w (width_at m.exprs e) (λ j. v s (b + j)) fits
        ∙ tab_ext w _ _ (λ j _. ap (v s) {x = b + (lsb + j)} {y = b + lsb + j} (omega arith))) ∙ is (R.Signal s b) x v))
    kind_made (R.Constant n) x h =
        gives_holds _ (G.constants (take w (drop lsb (bits (width_at m.exprs e) n))) st.netlist i.sound) (λ l a s c v g. is (R.Constant n) x v)
    kind_made (R.Un op a) x h = un_made op a x h
    kind_made (R.Bin op a b) x h = gate_made op a b x (gate_of (class_of op)) refl h
    kind_made (R.Mux c t d) x h =
        let b = low (R.Mux c t d) x in
        let n = wide (R.Mux c t d) x in
        makes_map _ (mux_made G m f ob st i c (omega (arith, b.0)) h.0 (range_nets st t lsb w) (range_nets st d lsb w)
        (λ v. slice_w lsb w (word m.exprs v t)) (λ v. slice_w lsb w (word m.exprs v d)) (After st (Range t lsb w)) (After st (Range d lsb w))
        (side t b.1 n.1) (side d b.2 n.2) (λ p q. side_length t b.1 n.1 p ∙ sym (side_length d b.2 n.2 q)) h.1.0 h.1.1.0)
        (λ ns l a p. holds_as p (λ v. sym (cond_slice (get_or (word m.exprs v c) 0 false) lsb w (word m.exprs v t) (word m.exprs v d)) ∙ is (R.Mux c t d) x v))
    kind_made (R.Concat ps) x h =
        makes_done (later_refl i.sound) cells_refl (holds_as (pieces_made lsb (lsb + w) 0 (backwards ps [])
        (below_turned (length m.exprs) ps [] (more ps (low (R.Concat ps) x)) tt) h)
        (λ v. rw (low0 lsb, width0 lsb w) (ap (slice_w lsb w) (sym (joined (word m.exprs v) ps)) ∙ is (R.Concat ps) x v)))
      where
        more : (qs : List ℕ) → AllBelow e qs → AllBelow (length m.exprs) qs
        more [] b = tt
        more (q ∷ qs) b = (omega (arith, b.0), more qs b.1)

        low0 : (n : ℕ) → n - 0 ≡ n
        low0 n = omega arith

        width0 : (n k : ℕ) → n + k - max n 0 ≡ k
        width0 n k = omega arith
    kind_made (R.Slice a b) x h =
        let y = low (R.Slice a b) x in
        let n = wide (R.Slice a b) x in
        makes_done (later_refl i.sound) cells_refl (holds_as (read_range m st i f a (b + lsb) w (omega arith) (omega arith) h.0)
        (λ v. sym (slice_slice b lsb w (width_at m.exprs e) (word m.exprs v a) fits) ∙ is (R.Slice a b) x v))

    -- what `lower_expression_range` makes stands for the slice
    pub range_made : AllAfter ob st (range_steps_of m.exprs e lsb w)
        → Makes st.netlist (λ ns l. NetsGive l st.signal_bits ns (λ v. slice_w lsb w (word m.exprs v e))) (build_range m.exprs ob st e lsb w)
    unfolding range_steps_of build_range
    range_made h = kind_made (expr_at m.exprs e).kind refl h
