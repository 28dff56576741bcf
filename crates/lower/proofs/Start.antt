-- The start of the walk: a laid scratch with the adders' widths in it, and an empty netlist, hold the model's first state. Assumes nothing.
use mathlib.Core.Path.{◌≡◌, refl, sym, ap, ◌∙◌, subst}
use mathlib.Core.Bool.{false}
use mathlib.Core.List.{List, [], ◌++◌, append-nil}
use Prim.Native.Nat.{ℕ, zero, suc, ◌+◌, ◌*◌, ◌-◌, ◌≤◌, ◌<◌}
use native.Mathlib.Omega.{arith}
use lib.ListN.{length, get_or, take, drop, length-take, length-drop, length-replicate, drop_of_length-le, get_or-append}
use lib.Seq.{ext_get_or, get_or-take, get_or-drop, get_or-append-add, length-take-le}
use borrow.Rule.Slice.PartMut.{put_mid, same_len_mid}
use Rattle.spec_rtl.specs.Rtl.{Expr}
use Rattle.spec_rules.specs.Image.{count_at_of, decode}
use Rattle.spec_model.specs.Words.{Netlist}
use Rattle.spec_model.specs.Lowering.{start}
use Rattle.check_image.specs.Accepted.{Accepted}
use Rattle.expr_laws.specs.Exprs.{exprs_of}
use Rattle.expr_ranges.specs.Table.{filled, filled_width, filled_kept, length_filled}
use Rattle.net_view.specs.View.{room, netlist_of}
use Rattle.net_view.specs.Laws.{zeros, empty, Holds}
use Rattle.net_index.specs.Index.{Held}
use Rattle.net_index.specs.Start.{held_start}
use Rattle.scratch_view.specs.View.{limit_of, expr_column, expr_at, state_of}
use Rattle.scratch_view.specs.Frame.{Stays, Same, stays}
use Rattle.scratch_layout.specs.Stages as layout
use Rattle.walk_view.specs.View.{index_of, walk_state, Narrowed}
use Rattle.lower.specs.Lower.{Prepared}

-- ---- the last words of a list, lent and put back as m ----

module _ (w m : List ℕ) (r : ℕ) (here : r ≤ length w) where
  before_part : (j : ℕ) → j < r → get_or (put_mid r (length w - r) w m) j 0 ≡ get_or w j 0
  before_part j h =
      let l : length (take r w) ≡ r = length-take-le r w here in
      get_or-append (take r w) _ 0 j (omega arith) ∙ get_or-take r w j 0 h

  in_part : (i : ℕ) → get_or (put_mid r (length w - r) w m) (r + i) 0 ≡ get_or m i 0
  in_part i =
      let l : length (take r w) ≡ r = length-take-le r w here in
      let nil : drop (length w - r) (drop r w) ≡ [] = drop_of_length-le (drop r w) {i = length w - r} (rw length-drop (omega arith)) in
      ap (λ (x : List ℕ). get_or (take r w ++ (m ++ x)) (r + i) 0) nil
      ∙ ap (λ (x : List ℕ). get_or (take r w ++ x) (r + i) 0) (append-nil m)
      ∙ ap (λ (k : ℕ). get_or (take r w ++ m) (k + i) 0) (sym l)
      ∙ get_or-append-add (take r w) m i 0

-- ---- the adders' widths ----

-- the scratch after `adder_widths` on the words from the expressions' on
abbrev widened : List ℕ → List ℕ → ℕ → List ℕ
widened s w r = put_mid r (length w - r) w (filled (exprs_of s) (count_at_of s 1) (take (length w - r) (drop r w)))

module _ (s : List ℕ) (n : ℕ) (w : List ℕ) (h : layout.Started s n false w) (r : ℕ) (at : r ≡ get_or w 2 0) where
  abbrev xs : List Expr
  xs = exprs_of s

  abbrev part : List ℕ
  part = take (length w - r) (drop r w)

  is : r ≡ expr_column s (limit_of w)
  is = at ∙ h.laid.exprs

  here : r ≤ length w
  here = omega (arith, is, h.laid.long)

  part_long : length part ≡ length w - r
  part_long = length-take (length w - r) (drop r w) ∙ omega (arith, length-drop r w)

  pub rows_fit : count_at_of s 1 * 8 ≤ length part
  rows_fit = omega (arith, is, part_long, h.laid.long)

  part_word : (i : ℕ) → i < length w - r → get_or part i 0 ≡ get_or w (r + i) 0
  part_word i u = get_or-take (length w - r) (drop r w) i 0 u ∙ get_or-drop r w i 0

  long : length (widened s w r) ≡ length w
  long = same_len_mid r (length w - r) w (filled xs (count_at_of s 1) part) (length_filled xs (count_at_of s 1) part)

  low : (j : ℕ) → j < expr_column s (limit_of w) → get_or (widened s w r) j 0 ≡ get_or w j 0
  low j u = before_part w (filled xs (count_at_of s 1) part) r here j (omega (arith, is))

  row : (i : ℕ) → get_or (widened s w r) (r + i) 0 ≡ get_or (filled xs (count_at_of s 1) part) i 0
  row i = in_part w (filled xs (count_at_of s 1) part) r here i

  -- words 0 and 1 of a row, and what lies past the rows
  other : (j i : ℕ) → j ≡ r + i → i < length w - r → ((e k : ℕ) → e < count_at_of s 1 → k < 5 → i ≡ e * 8 + 2 + k → ⊥) → get_or (widened s w r) j 0 ≡ get_or w j 0
  other j i e u o =
      ap (λ (k : ℕ). get_or (widened s w r) k 0) e ∙ row i ∙ filled_kept xs (count_at_of s 1) part i o ∙ part_word i u ∙ ap (λ (k : ℕ). get_or w k 0) (sym e)

  same : Same s (limit_of w) w (widened s w r)
  same = record {
    long = long;
    fixed = λ j u. low j (omega arith);
    signals = λ j u. low _ (omega arith);
    exprs = λ e k u v. other _ (8 * e + k) (omega (arith, is)) (omega (arith, is, h.laid.long)) (λ e' k' u' v' q. omega arith);
    bits = λ j u. other _ (8 * count_at_of s 1 + j) (omega (arith, is)) (omega (arith, is, h.laid.long)) (λ e k u' v q. omega arith);
  }

  stayed : Stays s w (widened s w r)
  stayed = stays s w (widened s w r) h.laid same

  narrowed : Narrowed s (widened s w r)
  narrowed e u =
      let l = stayed.limit in
      let j : expr_at s (limit_of (widened s w r)) e 6 ≡ r + (e * 8 + 6) = omega (arith, is) in
      ap (λ (k : ℕ). get_or (widened s w r) k 0) j ∙ row (e * 8 + 6)
      ∙ filled_width xs (count_at_of s 1) part rows_fit e u

  index : index_of (widened s w r) ≡ zeros (4 * limit_of w)
  index =
      let l : limit_of (widened s w r) ≡ limit_of w = stayed.limit in
      let d : length (drop 64 (widened s w r)) ≡ length w - 64 = length-drop 64 (widened s w r) ∙ omega (arith, long) in
      let t : length (take (4 * limit_of w) (drop 64 (widened s w r))) ≡ 4 * limit_of w = length-take-le (4 * limit_of w) (drop 64 (widened s w r)) (omega (arith, h.laid.long)) in
      ap (λ (k : ℕ). take (4 * k) (drop 64 (widened s w r))) l
      ∙ ext_get_or 0 (take (4 * limit_of w) (drop 64 (widened s w r))) (zeros (4 * limit_of w)) (t ∙ sym (length-replicate (4 * limit_of w) 0)) (λ i u.
      let v : i < 4 * limit_of w = omega arith in
      get_or-take (4 * limit_of w) (drop 64 (widened s w r)) i 0 v ∙ get_or-drop 64 (widened s w r) i 0 ∙ low (64 + i) (omega arith)
      ∙ h.index (64 + i) (omega arith) (omega (arith, h.limit)) ∙ sym (zero_at (4 * limit_of w) i))
    where
      zero_at : (k i : ℕ) → get_or (zeros k) i 0 ≡ 0
      zero_at zero i = refl
      zero_at (suc k) zero = refl
      zero_at (suc k) (suc i) = zero_at k i

  -- ---- with an empty netlist ----

  module _ (g : Accepted s) (p : ℕ) (net : List ℕ) (v : Holds n (empty n p) net) where
    room_is : room n net ≡ p
    room_is = ap (λ (l : Netlist). l.max_list) v.view

    limit_is : limit_of (widened s w r) ≡ n
    limit_is = stayed.limit ∙ h.limit

    held : Held (limit_of (widened s w r)) net (index_of (widened s w r))
    held =
        let i : index_of (widened s w r) ≡ zeros (4 * n) = index ∙ ap (λ (k : ℕ). zeros (4 * k)) h.limit in
        subst (λ (k : ℕ). Held k net (index_of (widened s w r))) (sym limit_is) (subst (λ (x : List ℕ). Held n net x) (sym i) (held_start n p net v))

    first_state : walk_state s net (widened s w r) ≡ start (decode s) n p
    first_state =
        ap (λ (k : ℕ). state_of s (netlist_of k net) (widened s w r)) limit_is
        ∙ stayed.says (netlist_of n net)
        ∙ ap (λ (l : Netlist). state_of s l w) v.view
        ∙ h.state p

    begun : Prepared s n p net (widened s w r)
    begun = record {
      begun = record {
        ready = record { accepted = g; laid = stayed.laid; held = held; narrowed = narrowed };
        state = first_state ∙ ap (λ (k : ℕ). start (decode s) n k) (sym room_is) ∙ ap (λ (k : ℕ). start (decode s) k (room k net)) (sym limit_is);
      };
      limit = limit_is;
      list = room_is;
    }

    pub prepared : (m : List ℕ) → m ≡ filled xs (count_at_of s 1) part → Prepared s n p net (put_mid r (length w - r) w m)
    prepared m e = subst (λ (x : List ℕ). Prepared s n p net (put_mid r (length w - r) w x)) (sym e) begun
