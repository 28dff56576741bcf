-- By kind: the nets that the lowering makes of a whole expression, or of a range of it, are derived from those below it. Assumes nothing.
use Rattle.std.specs.Prelude.{◌≡◌, ◌⊎◌, Bool, false, ℕ, ◌+◌, ◌-◌, ◌≤◌, ◌<◌, get_or, take, drop}
use Rattle.std.proofs.Math.Path.{refl, subst}
use Rattle.std.proofs.Common.{sym, add-zero}
use Rattle.std.proofs.Math.Logic.{⊎_map}
use mathlib.Core.List.{List, [], ◌∷◌}
use Rattle.std.proofs.Math.Option.{Option, none, some}
use native.Mathlib.Omega.{arith}
use Rattle.std.proofs.Math.ListN.{length, get_elem?}
use Rattle.spec_rtl.specs.Word.{bits}
use Rattle.spec_rtl.specs.Rtl as R
use Rattle.spec_rtl.specs.Rtl.{Module, Valuation, Kind, Unary, Binary}
use Rattle.spec_model.specs.Words.{Netlist, absent}
use Rattle.spec_model.specs.Builder.{refused, done, Made, both}
use Rattle.spec_model.specs.Ranges.{expr_at, width_at, class_of, Gate, AndGate, OrGate, XorGate}
use Rattle.spec_model.specs.Lowering.{State, signal_steps, signal_nets, whole_steps, build_whole, range_steps_of, build_range, add_gate, is_bit_not, gate_of, gate_steps, Operands, operands_of, operand_steps, backwards, whole, whole_nets, whole_net, range_nets, signal_bit, expression_net, lower_unary, lower_binary, build_operands, build_binary, build_kind, kind_steps, range_kind, range_gate, kind_range_steps}
use Rattle.word_laws.specs.Widths.{BelowE, Formed, WidthOk}
use Rattle.word_ranges.specs.Fusion.{CarryBelow}
use Rattle.word_ranges.proofs.Fusion.{operands}
use Rattle.law_nets.specs.Run.{below_more, Meets}
use Rattle.law_walk.specs.Tables.{none_some, some_eq, Has}
use Rattle.law_walk.specs.Kept.{Any, Inv}
use Rattle.law_walk.specs.Reads.{AllAfter}
use Rattle.law_walk.proofs.Wholes.{has_all}
use Rattle.law_walk.specs.Parts.{below_turned, gate_wide}
use Rattle.law_repeats.specs.Again.{Stays, stays_refl, Again, Repeats}
use Rattle.law_repeats.proofs.Operators.{again_un}
use Rattle.law_memo.specs.Along.{Along, along_whole, along_slice}
use Rattle.law_memo.specs.Derived.{cell_of, binary_of, narrow_to, gateless, only_whole, Nets, Carry}
use Rattle.law_memo.specs.Later.{binary_again, nets_below}
use Rattle.law_memo.specs.Reads.{nets_there, whole_nets_law, range_along}
use Rattle.law_memo.specs.Built.{Bit, Derives, IsNet, constants_derived, nots_derived, gate_derived, mux_derived, signals_derived, slice_derived, parts_derived, concat_derived}

-- ---- the binary operators, of the nets read ----

abbrev pub carry_of : State → Option ℕ → Option ℕ
carry_of st none = none
carry_of st (some c) = some (whole_net st c 0)

operands_made : (op : Binary) (n : Option ℕ) (st : State) (o : Operands)
    → build_operands op n st o ≡ cell_of op n (whole_nets st o.lhs) (whole_nets st o.rhs) (carry_of st o.carry) st.netlist
operands_made op n st o = go o.carry
  where
    go : (c : Option ℕ) → build_operands op n st (record { lhs = o.lhs; rhs = o.rhs; carry = c })
        ≡ cell_of op n (whole_nets st o.lhs) (whole_nets st o.rhs) (carry_of st c) st.netlist
    go none = refl
    go (some c) = refl

pub binary_made : (es : List R.Expr) (st : State) (e : ℕ) (op : Binary) (a b : ℕ)
    → build_binary es st e (width_at es e) op a b
    ≡ binary_of es e op (whole_nets st (operands_of es op a b).lhs) (whole_nets st (operands_of es op a b).rhs) (carry_of st (operands_of es op a b).carry) st.netlist
unfolding build_binary
binary_made es st e op a b = rw (operands_made op (narrow_to es e op) st (operands_of es op a b)) refl

-- a gate for each bit
pub gates_made : (es : List R.Expr) (st : State) (e w : ℕ) (op : Binary) (a b : ℕ) (g : Gate) → gate_of (class_of op) ≡ some g
    → build_binary es st e w op a b ≡ both (add_gate g) (whole_nets st a) (whole_nets st b) st.netlist
unfolding build_binary operands_of lower_binary
gates_made es st e w R.And a b g q = let z : AndGate ≡ g = some_eq q in rw (← z) refl
gates_made es st e w R.Or a b g q = let z : OrGate ≡ g = some_eq q in rw (← z) refl
gates_made es st e w R.Xor a b g q = let z : XorGate ≡ g = some_eq q in rw (← z) refl
gates_made es st e w R.Add a b g q = absurd (none_some q)
gates_made es st e w R.Sub a b g q = absurd (none_some q)
gates_made es st e w R.Mul a b g q = absurd (none_some q)
gates_made es st e w R.Equal a b g q = absurd (none_some q)
gates_made es st e w R.NotEqual a b g q = absurd (none_some q)
gates_made es st e w R.LessU a b g q = absurd (none_some q)
gates_made es st e w R.LessS a b g q = absurd (none_some q)
gates_made es st e w R.LessEqU a b g q = absurd (none_some q)
gates_made es st e w R.LessEqS a b g q = absurd (none_some q)
gates_made es st e w R.GreaterU a b g q = absurd (none_some q)
gates_made es st e w R.GreaterS a b g q = absurd (none_some q)
gates_made es st e w R.GreaterEqU a b g q = absurd (none_some q)
gates_made es st e w R.GreaterEqS a b g q = absurd (none_some q)
gates_made es st e w R.ShiftL a b g q = absurd (none_some q)
gates_made es st e w R.ShiftR a b g q = absurd (none_some q)
gates_made es st e w R.ShiftA a b g q = absurd (none_some q)

-- the operands of a gate are plain
pub gate_operands : (es : List R.Expr) (op : Binary) (a b : ℕ) (g : Gate) → gate_of (class_of op) ≡ some g → operands_of es op a b ≡ record { lhs = a; rhs = b; carry = none }
unfolding operands_of
gate_operands es R.And a b g q = refl
gate_operands es R.Or a b g q = refl
gate_operands es R.Xor a b g q = refl
gate_operands es R.Add a b g q = absurd (none_some q)
gate_operands es R.Sub a b g q = refl
gate_operands es R.Mul a b g q = refl
gate_operands es R.Equal a b g q = refl
gate_operands es R.NotEqual a b g q = refl
gate_operands es R.LessU a b g q = refl
gate_operands es R.LessS a b g q = refl
gate_operands es R.LessEqU a b g q = refl
gate_operands es R.LessEqS a b g q = refl
gate_operands es R.GreaterU a b g q = refl
gate_operands es R.GreaterS a b g q = refl
gate_operands es R.GreaterEqU a b g q = refl
gate_operands es R.GreaterEqS a b g q = refl
gate_operands es R.ShiftL a b g q = refl
gate_operands es R.ShiftR a b g q = refl
gate_operands es R.ShiftA a b g q = refl

module _ (m : Module) (f : Formed m.exprs) (ob : Bool) (st : State) (i : Inv m st) where
  abbrev pub AreNets : ℕ → List ℕ → Type 0
  AreNets e ns = Nets m (expression_net st) e ns

  pub read_nets : (e : ℕ) → e < length m.exprs → Has (whole st e) → AreNets e (whole_nets st e)
  read_nets e here h = whole_nets_law m st i f e here h

  -- the carry's net, where there is one
  abbrev pub CarryWhole : Option ℕ → Type 0
  CarryWhole none = Unit {0}
  CarryWhole (some c) = (c < length m.exprs) × Has (whole st c)

  pub read_carry : (c : Option ℕ) → CarryWhole c → Carry m (expression_net st) c (carry_of st c)
  unfolding whole_net
  read_carry none h = tt
  read_carry (some c) h = record { all = whole_nets st c; nets = read_nets c h.0 h.1; first = refl }

  -- bit 0 of a whole expression
  pub bit0_net : (c : ℕ) → c < length m.exprs → Has (whole st c) → IsNet m f ob st i c 0 (whole_net st c 0)
  unfolding whole_net
  bit0_net c here h = go (whole_nets st c) (read_nets c here h).wide (read_nets c here h).are
    where
      go : (ns : List ℕ) → length ns ≡ width_at m.exprs c → Along (IsNet m f ob st i c) 0 ns → IsNet m f ob st i c 0 (get_or ns 0 absent)
      go [] n a = absurd (omega (arith, f.least c here))
      go (x ∷ ns) n a = a.0

  -- a list that one call makes
  module _ (g : Netlist → Made (List ℕ)) (k : Kind) (e : ℕ) where
    call_derived : Again g st.netlist → ((l : Netlist) (rs : List ℕ) → g l ≡ done (rs, l) → Stays st.netlist l → (b n : ℕ) → get_elem? rs b ≡ some n → Bit m f ob st i l k e b n)
        → Meets Any (Derives m f ob st i k e 0) (g st.netlist)
    call_derived a h = go (g st.netlist) a.again
      where
        go : (o : Made (List ℕ)) → Repeats g st.netlist o → Meets Any (Derives m f ob st i k e 0) o
        go (refused x y z) q = tt
        go (done r) q = (q.0, along_whole (Bit m f ob st i r.1 k e) r.0 (h r.1 r.0 (q.1 r.1 (stays_refl r.1)) q.0))

  un_derived : (op : Unary) (a e : ℕ) → is_bit_not op ≡ false → a < length m.exprs → Has (whole st a)
      → Meets Any (Derives m f ob st i (R.Un op a) e 0) (lower_unary op (whole_nets st a) st.netlist)
  un_derived op a e q here h =
      let ns = read_nets a here h in
      call_derived (lower_unary op (whole_nets st a)) (R.Un op a) e
      (again_un op (whole_nets st a) st.netlist i.sound (nets_below m f ob st.netlist i.sound (signal_bit st) (expression_net st) (nets_there m st i) ns))
      (λ l rs z s b n w. rw q (record { xs = whole_nets st a; nets = ns; gives = record { all = rs; made = z; at = w } }))

  bin_derived : (op : Binary) (a b e : ℕ) → gate_of (class_of op) ≡ none → e < length m.exprs → (expr_at m.exprs e).kind ≡ R.Bin op a b
      → Has (whole st (operands_of m.exprs op a b).lhs) → Has (whole st (operands_of m.exprs op a b).rhs) → CarryWhole (operands_of m.exprs op a b).carry
      → Meets Any (Derives m f ob st i (R.Bin op a b) e 0) (build_binary m.exprs st e (width_at m.exprs e) op a b)
  bin_derived op a b e q here k hx hy hc =
      let v : Valuation = λ s j. false in
      let o = operands_of m.exprs op a b in
      let z = operands m.exprs f v e here op a b k in
      let xs = read_nets o.lhs (omega (arith, z.lhs_below)) hx in
      let ys = read_nets o.rhs (omega (arith, z.rhs_below)) hy in
      let c = read_carry o.carry hc in
      subst (Meets Any (Derives m f ob st i (R.Bin op a b) e 0)) (sym (binary_made m.exprs st e op a b))
      (call_derived (binary_of m.exprs e op (whole_nets st o.lhs) (whole_nets st o.rhs) (carry_of st o.carry)) (R.Bin op a b) e
      (binary_again m f ob st.netlist i.sound (signal_bit st) (expression_net st) (nets_there m st i) e here op a b k (whole_nets st o.lhs) (whole_nets st o.rhs) (carry_of st o.carry) xs ys c)
      (λ l rs y s j n w. rw q (record {
        xs = whole_nets st o.lhs;
        ys = whole_nets st o.rhs;
        carry = carry_of st o.carry;
        left = xs;
        right = ys;
        with = c;
        gives = record { all = rs; made = y; at = w };
      })))

  -- ---- whole ----

  pub split_operands : (e : ℕ) → e < length m.exprs → (o : Operands) → CarryBelow e o.carry → AllAfter ob st (operand_steps o)
      → Has (whole st o.lhs) × Has (whole st o.rhs) × CarryWhole o.carry
  split_operands e here o b h = go o.carry b h
    where
      go : (c : Option ℕ) → CarryBelow e c → AllAfter ob st (operand_steps (record { lhs = o.lhs; rhs = o.rhs; carry = c })) → Has (whole st o.lhs) × Has (whole st o.rhs) × CarryWhole c
      go none b h = (h.0, h.1.0, tt)
      go (some c) b h = (h.0, h.1.0, (omega arith, h.1.1.0))

  module _ (e : ℕ) (here : e < length m.exprs) where
    bin_kind : (op : Binary) (a b : ℕ) → (expr_at m.exprs e).kind ≡ R.Bin op a b → BelowE e (R.Bin op a b) → (g : Option Gate) → gate_of (class_of op) ≡ g
        → AllAfter ob st (operand_steps (operands_of m.exprs op a b))
        → Meets Any (Derives m f ob st i (R.Bin op a b) e 0) (build_binary m.exprs st e (width_at m.exprs e) op a b)
    bin_kind op a b x low (some g) q h =
        let z : AllAfter ob st (operand_steps (record { lhs = a; rhs = b; carry = none })) = rw (gate_operands m.exprs op a b g q) at h in
        subst (Meets Any (Derives m f ob st i (R.Bin op a b) e 0)) (sym (gates_made m.exprs st e (width_at m.exprs e) op a b g q))
        (gate_derived m f ob st i g op e a b 0 q (whole_nets st a) (whole_nets st b) (read_nets a (omega (arith, low.0)) z.0).are (read_nets b (omega (arith, low.1)) z.1.0).are)
    bin_kind op a b x low none q h =
        let v : Valuation = λ s j. false in
        let z = split_operands e here (operands_of m.exprs op a b) (operands m.exprs f v e here op a b x).carry_below h in
        bin_derived op a b e q here x z.0 z.1 z.2

    whole_kind : (k : Kind) → (expr_at m.exprs e).kind ≡ k → BelowE e k → AllAfter ob st (kind_steps m.exprs (width_at m.exprs e) k)
        → Meets Any (Derives m f ob st i k e 0) (build_kind m.exprs ob st e (width_at m.exprs e) k)
    unfolding lower_unary
    whole_kind (R.Signal s lsb) x low h = (
      stays_refl st.netlist,
      subst (λ (y : ℕ). AllAfter ob st (signal_steps s y (width_at m.exprs e)) → Along (Bit m f ob st i st.netlist (R.Signal s lsb) e) 0 (signal_nets st s y (width_at m.exprs e)))
          (add-zero lsb) (signals_derived m f ob st i s lsb e 0 (width_at m.exprs e)) h,
    )
    whole_kind (R.Constant c) x low h =
        constants_derived m f ob st i e c 0 (bits (width_at m.exprs e) c)
        (along_whole (λ j v. get_elem? (bits (width_at m.exprs e) c) j ≡ some v) (bits (width_at m.exprs e) c) (λ j v z. z))
    whole_kind (R.Un R.BitNot a) x low h = nots_derived m f ob st i e a 0 (whole_nets st a) (read_nets a (omega arith) h.0).are
    whole_kind (R.Un R.LogicNot a) x low h = un_derived R.LogicNot a e refl (omega arith) h.0
    whole_kind (R.Un R.ReduceOr a) x low h = un_derived R.ReduceOr a e refl (omega arith) h.0
    whole_kind (R.Un R.ReduceAnd a) x low h = un_derived R.ReduceAnd a e refl (omega arith) h.0
    whole_kind (R.Un R.ReduceXor a) x low h = un_derived R.ReduceXor a e refl (omega arith) h.0
    whole_kind (R.Bin op a b) x low h = bin_kind op a b x low (gate_of (class_of op)) refl h
    whole_kind (R.Mux c t d) x low h =
        mux_derived m f ob st i c t d e 0 (whole_nets st t) (whole_nets st d) (bit0_net c (omega (arith, low.0)) h.0)
        (⊎_map (λ p. p) (λ z. (read_nets t (omega (arith, low.1)) z).are) h.1.0) (⊎_map (λ p. p) (λ z. (read_nets d (omega (arith, low.2)) z).are) h.1.1.0)
    whole_kind (R.Concat ps) x low h = (
      stays_refl st.netlist,
      parts_derived m f ob st i ps e (below_more e (length m.exprs) (backwards ps []) (omega arith) (below_turned e ps [] low tt)) (has_all ob st (backwards ps []) h),
    )
    whole_kind (R.Slice a lsb) x low h =
        let wide : lsb + width_at m.exprs e ≤ width_at m.exprs a = rw x at (f.wide e here) in
        let z : lsb ≡ lsb + 0 = omega arith in (
          stays_refl st.netlist,
          slice_derived m f ob st i a lsb e 0 (range_nets st a lsb (width_at m.exprs e))
              (subst (λ (y : ℕ). Along (IsNet m f ob st i a) y (range_nets st a lsb (width_at m.exprs e))) z (range_along m st i f a (omega arith) lsb (width_at m.exprs e) wide h.0)),
        )

    pub whole_derived : AllAfter ob st (whole_steps m.exprs e) → Meets Any (Derives m f ob st i (expr_at m.exprs e).kind e 0) (build_whole m.exprs ob st e)
    unfolding whole_steps build_whole
    whole_derived h = whole_kind (expr_at m.exprs e).kind refl (f.low e here) h

    -- ---- a range ----

    module _ (lsb w : ℕ) (fits : lsb + w ≤ width_at m.exprs e) where
      bin_range : (op : Binary) (a b : ℕ) → WidthOk (width_at m.exprs) (width_at m.exprs e) (R.Bin op a b) → BelowE e (R.Bin op a b) → (g : Option Gate) → gate_of (class_of op) ≡ g → gateless g ≡ false
          → AllAfter ob st (gate_steps g e a b lsb w) → Meets Any (Derives m f ob st i (R.Bin op a b) e lsb) (range_gate g st e a b lsb w)
      bin_range op a b wide low (some g) q z h =
          let v = gate_wide (width_at m.exprs) (width_at m.exprs e) a b op g q wide in
          gate_derived m f ob st i g op e a b lsb q (range_nets st a lsb w) (range_nets st b lsb w)
          (range_along m st i f a (omega (arith, low.0)) lsb w (omega (arith, v.0)) h.0) (range_along m st i f b (omega (arith, low.1)) lsb w (omega (arith, v.1)) h.1.0)
      bin_range op a b wide low none q z h = let u : ◌≡◌ {A = ℕ} 0 1 = cc in absurd (omega arith)

      range_kind_law : (k : Kind) → WidthOk (width_at m.exprs) (width_at m.exprs e) k → BelowE e k → only_whole k ≡ false → AllAfter ob st (kind_range_steps m.exprs e lsb w k)
          → Meets Any (Derives m f ob st i k e lsb) (range_kind m.exprs ob st e lsb w (width_at m.exprs e) k)
      range_kind_law (R.Signal s p) wide low z h = (stays_refl st.netlist, signals_derived m f ob st i s p e lsb w h)
      range_kind_law (R.Constant c) wide low z h =
          constants_derived m f ob st i e c lsb (take w (drop lsb (bits (width_at m.exprs e) c)))
          (along_slice (λ j v. get_elem? (bits (width_at m.exprs e) c) j ≡ some v) lsb w (bits (width_at m.exprs e) c)
          (along_whole (λ j v. get_elem? (bits (width_at m.exprs e) c) j ≡ some v) (bits (width_at m.exprs e) c) (λ j v y. y)))
      range_kind_law (R.Un R.BitNot a) wide low z h = nots_derived m f ob st i e a lsb (range_nets st a lsb w) (range_along m st i f a (omega arith) lsb w (omega arith) h.0)
      range_kind_law (R.Un R.LogicNot a) wide low z h = let u : ◌≡◌ {A = ℕ} 0 1 = cc in absurd (omega arith)
      range_kind_law (R.Un R.ReduceOr a) wide low z h = let u : ◌≡◌ {A = ℕ} 0 1 = cc in absurd (omega arith)
      range_kind_law (R.Un R.ReduceAnd a) wide low z h = let u : ◌≡◌ {A = ℕ} 0 1 = cc in absurd (omega arith)
      range_kind_law (R.Un R.ReduceXor a) wide low z h = let u : ◌≡◌ {A = ℕ} 0 1 = cc in absurd (omega arith)
      range_kind_law (R.Bin op a b) wide low z h = bin_range op a b wide low (gate_of (class_of op)) refl z h
      range_kind_law (R.Mux c t d) wide low z h =
          mux_derived m f ob st i c t d e lsb (range_nets st t lsb w) (range_nets st d lsb w) (bit0_net c (omega (arith, low.0)) h.0)
          (⊎_map (λ p. p) (λ y. range_along m st i f t (omega (arith, low.1)) lsb w (omega (arith, wide.1)) y) h.1.0)
          (⊎_map (λ p. p) (λ y. range_along m st i f d (omega (arith, low.2)) lsb w (omega (arith, wide.2)) y) h.1.1.0)
      range_kind_law (R.Concat ps) wide low z h = (
        stays_refl st.netlist,
        concat_derived m f ob st i ps e lsb w (below_more e (length m.exprs) (backwards ps []) (omega arith) (below_turned e ps [] low tt)) h,
      )
      range_kind_law (R.Slice a p) wide low z h = (
        stays_refl st.netlist,
        slice_derived m f ob st i a p e lsb (range_nets st a (p + lsb) w) (range_along m st i f a (omega arith) (p + lsb) w (omega arith) h.0),
      )

      pub range_derived : only_whole (expr_at m.exprs e).kind ≡ false → AllAfter ob st (range_steps_of m.exprs e lsb w)
          → Meets Any (Derives m f ob st i (expr_at m.exprs e).kind e lsb) (build_range m.exprs ob st e lsb w)
      unfolding range_steps_of build_range
      range_derived z h = range_kind_law (expr_at m.exprs e).kind (f.wide e here) (f.low e here) z h
