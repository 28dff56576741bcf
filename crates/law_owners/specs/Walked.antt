-- The walk adds gates, constants and cells only: it keeps what holds of a netlist with any of these more. Assumes nothing.
use Rattle.std.specs.Prelude.{Bool, take, drop}
use Rattle.std.proofs.Math.Bool.{true, false, cond}
use mathlib.Core.List.{List, [], ◌∷◌}
use Rattle.std.proofs.Math.Option.{Option, none, some}
use Prim.Native.Nat.{ℕ, zero, suc}
use Rattle.spec_rtl.specs.Word.{bits}
use Rattle.spec_rtl.specs.Rtl as R
use Rattle.spec_rtl.specs.Rtl.{Module, Expr, Kind, Binary}
use Rattle.spec_model.specs.Words.{Netlist}
use Rattle.spec_model.specs.Builder as B
use Rattle.spec_model.specs.Builder.{Out, refused, done, and_then, Made, is_value, add_constant}
use Rattle.spec_model.specs.WordCells.{arithmetic}
use Rattle.spec_model.specs.Ranges.{expr_at, width_at, Gate, class_of, adder_width}
use Rattle.spec_model.specs.Lowering.{State, is_add, is_bit_not, Need, Bit, Whole, Range, Step, Always, Unless, Operands, operands_of, gate_of, cell, set_signal_bit, mark, set_whole, set_range, signal_bit, whole, whole_nets, whole_net, range_nets, range_known, whole_steps, range_steps_of, truncated, selected, driven_by, resized, lower_binary, build_operands, build_binary, build_mux, build_kind, build_whole, range_gate, range_kind, build_range, unless, lower_steps, driver_of, drive, resolve_signal_bit, keep_whole, lower_expression, keep_range, lower_expression_range, lower_by, lower_need, plenty, lower_all}
use Rattle.law_owners.specs.Ends.{Ends, ends_done, ends_refused, ends_then, ends_if}
use Rattle.law_owners.specs.Kept.{Closed, Leaves, constant_kept, constants_kept, nots_kept, gates_kept, muxes_kept, arithmetic_kept, unary_kept, binary_kept}

-- an answer is a state whose netlist has it
abbrev pub Walked : (Netlist → Type 0) → Out State → Type 0
Walked K o = Ends (λ st. K st.netlist) o

module _ (K : Netlist → Type 0) where
  pub keep_whole_law : (st : State) (e : ℕ) (r : Made (List ℕ)) → Leaves K r → Walked K (keep_whole st e r)
  unfolding keep_whole set_whole
  keep_whole_law st e r k = ends_then r k (λ (ns, l) h. ends_done h)

  pub keep_range_law : (st : State) (e lsb : ℕ) (r : Made (List ℕ)) → Leaves K r → Walked K (keep_range st e lsb r)
  unfolding keep_range set_range
  keep_range_law st e lsb r k = ends_then r k (λ (ns, l) h. ends_done h)

  module _ (S : List ℕ → Type 0) (closed : Closed K S) where
    -- ---- what is made of finished operands ----

    pub resized_kept : (o : Option ℕ) (w : ℕ) (r : Made (List ℕ)) → Leaves K r → Leaves K (resized o w r)
    resized_kept none w r k = k
    resized_kept (some n) w r k = ends_then r k (λ (ns, l) h. ends_then (add_constant false l) (constant_kept K S closed false l h) (λ q i. ends_done i))

    pub operands_kept : (op : Binary) (narrow : Option ℕ) (st : State) (o : Operands) → S (truncated narrow (whole_nets st o.lhs)) → S (truncated narrow (whole_nets st o.rhs))
        → K st.netlist → Leaves K (build_operands op narrow st o)
    operands_kept op narrow st o p q h = go o.carry
      where
        go : (c : Option ℕ) → Leaves {A = List ℕ} K (elim c [
          | none ↦ lower_binary op (truncated narrow (whole_nets st o.lhs)) (truncated narrow (whole_nets st o.rhs)) st.netlist
          | some d ↦ arithmetic B.Add (truncated narrow (whole_nets st o.lhs)) (truncated narrow (whole_nets st o.rhs)) (some (whole_net st d 0)) st.netlist
        ])
        go none = binary_kept K S closed op _ _ st.netlist p q h
        go (some d) = arithmetic_kept K S closed B.Add _ _ (some (whole_net st d 0)) st.netlist p h

    pub mux_made : (o : Option Bool) (c : ℕ) (ts es : List ℕ) (l : Netlist) → K l → Leaves K (build_mux o c ts es l)
    mux_made (some v) c ts es l h = ends_done h
    mux_made none c ts es l h = muxes_kept K S closed c ts es l h

    range_gate_kept : (g : Option Gate) (st : State) (e a b lsb w : ℕ) → K st.netlist → Leaves K (range_gate g st e a b lsb w)
    range_gate_kept none st e a b lsb w h = ends_done h
    range_gate_kept (some g) st e a b lsb w h = gates_kept K S closed g (range_nets st a lsb w) (range_nets st b lsb w) st.netlist h

    range_kind_kept : (xs : List Expr) (ob : Bool) (st : State) (e lsb w v : ℕ) (k : Kind) → K st.netlist → Leaves K (range_kind xs ob st e lsb w v k)
    range_kind_kept xs ob st e lsb w v (R.Signal s l) h = ends_done h
    range_kind_kept xs ob st e lsb w v (R.Constant n) h = constants_kept K S closed (take w (drop lsb (bits v n))) st.netlist h
    range_kind_kept xs ob st e lsb w v (R.Un op a) h = ends_if (is_bit_not op) (nots_kept K S closed (range_nets st a lsb w) st.netlist h) (ends_done h)
    range_kind_kept xs ob st e lsb w v (R.Bin op a b) h = range_gate_kept (gate_of (class_of op)) st e a b lsb w h
    range_kind_kept xs ob st e lsb w v (R.Mux c t f) h = mux_made (selected ob st c) (whole_net st c 0) (range_nets st t lsb w) (range_nets st f lsb w) st.netlist h
    range_kind_kept xs ob st e lsb w v (R.Concat ps) h = ends_done h
    range_kind_kept xs ob st e lsb w v (R.Slice a l) h = ends_done h

    pub range_kept : (xs : List Expr) (ob : Bool) (st : State) (e lsb w : ℕ) → K st.netlist → Leaves K (build_range xs ob st e lsb w)
    unfolding build_range
    range_kept xs ob st e lsb w h = range_kind_kept xs ob st e lsb w (width_at xs e) (expr_at xs e).kind h

module _ (K : Netlist → Type 0) (S : List ℕ → Type 0) (closed : Closed K S) (every : (xs : List ℕ) → S xs) where
  bin_kept : (xs : List Expr) (st : State) (e w : ℕ) (op : Binary) (a b : ℕ) → K st.netlist → Leaves K (build_binary xs st e w op a b)
  unfolding build_binary
  bin_kept xs st e w op a b h =
      let narrow = cond (is_add (class_of op)) (adder_width xs e) none in
      resized_kept K S closed narrow w (build_operands op narrow st (operands_of xs op a b)) (operands_kept K S closed op narrow st (operands_of xs op a b) (every _) (every _) h)

  kind_kept : (xs : List Expr) (ob : Bool) (st : State) (e w : ℕ) (k : Kind) → K st.netlist → Leaves K (build_kind xs ob st e w k)
  kind_kept xs ob st e w (R.Signal s lsb) h = ends_done h
  kind_kept xs ob st e w (R.Constant n) h = constants_kept K S closed (bits w n) st.netlist h
  kind_kept xs ob st e w (R.Un op a) h = unary_kept K S closed op (whole_nets st a) st.netlist h
  kind_kept xs ob st e w (R.Bin op a b) h = bin_kept xs st e w op a b h
  kind_kept xs ob st e w (R.Mux c t f) h = mux_made K S closed (selected ob st c) (whole_net st c 0) (whole_nets st t) (whole_nets st f) st.netlist h
  kind_kept xs ob st e w (R.Concat ps) h = ends_done h
  kind_kept xs ob st e w (R.Slice a lsb) h = ends_done h

  whole_kept : (xs : List Expr) (ob : Bool) (st : State) (e : ℕ) → K st.netlist → Leaves K (build_whole xs ob st e)
  unfolding build_whole
  whole_kept xs ob st e h = kind_kept xs ob st e (width_at xs e) (expr_at xs e).kind h

  -- ---- the recursion ----

  module _ (m : Module) (ob : Bool) (rec : Need → State → Out State) (spec : (n : Need) (st : State) → K st.netlist → Walked K (rec n st)) where
    unless_walked : (t : Bool) (n : Need) (st : State) → K st.netlist → Walked K (unless t rec n st)
    unless_walked true n st h = ends_done h
    unless_walked false n st h = spec n st h

    pub steps_walked : (ss : List Step) (st : State) → K st.netlist → Walked K (lower_steps rec ob ss st)
    unfolding lower_steps
    steps_walked [] st h = ends_done h
    steps_walked (Always n ∷ ss) st h = ends_then (rec n st) (spec n st h) (λ st₁ k. steps_walked ss st₁ k)
    steps_walked (Unless c v n ∷ ss) st h =
        ends_then (unless (is_value v (selected ob st c)) rec n st) (unless_walked (is_value v (selected ob st c)) n st h) (λ st₁ k. steps_walked ss st₁ k)

    drive_walked : (s b e o : ℕ) (st : State) → K st.netlist → Walked K (drive rec ob s b e o st)
    unfolding drive mark set_signal_bit
    drive_walked s b e o st h = ends_then (rec (driven_by ob e o) (mark st s b)) (spec (driven_by ob e o) (mark st s b) h) (λ st₁ k. ends_done k)

    bit_walked : (s b : ℕ) (st : State) → K st.netlist → Walked K (resolve_signal_bit rec m ob s b st)
    unfolding resolve_signal_bit
    bit_walked s b st h = go (signal_bit st s b) (driver_of m s b) (cell false st.resolving s b)
      where
        go : (o : Option ℕ) (q : Option (ℕ × ℕ)) (t : Bool) → Walked K (elim o [
          | some n ↦ done st
          | none ↦ elim q [
            | none ↦ refused 6 s b
            | some d ↦ elim t [ true ↦ refused 7 s b | false ↦ drive rec ob s b d.0 d.1 st ]
          ]
        ])
        go (some n) q t = ends_done h
        go none none t = ends_refused
        go none (some d) true = ends_refused
        go none (some d) false = drive_walked s b d.0 d.1 st h

    expression_walked : (e : ℕ) (st : State) → K st.netlist → Walked K (lower_expression rec m ob e st)
    unfolding lower_expression
    expression_walked e st h = go (whole st e)
      where
        go : (o : Option (List ℕ)) → Walked K (elim o [
          | some ns ↦ done st
          | none ↦ and_then (lower_steps rec ob (whole_steps m.exprs e) st) (λ st₁. keep_whole st₁ e (build_whole m.exprs ob st₁ e))
        ])
        go (some ns) = ends_done h
        go none =
            ends_then (lower_steps rec ob (whole_steps m.exprs e) st) (steps_walked (whole_steps m.exprs e) st h)
            (λ st₁ k. keep_whole_law K st₁ e (build_whole m.exprs ob st₁ e) (whole_kept m.exprs ob st₁ e k))

    range_walked : (e lsb w : ℕ) (st : State) → K st.netlist → Walked K (lower_expression_range rec m ob e lsb w st)
    unfolding lower_expression_range
    range_walked e lsb w st h = go (range_known st e lsb w)
      where
        go : (t : Bool) → Walked K (elim t [
          | true ↦ done st
          | false ↦ and_then (lower_steps rec ob (range_steps_of m.exprs e lsb w) st) (λ st₁. keep_range st₁ e lsb (build_range m.exprs ob st₁ e lsb w))
        ])
        go true = ends_done h
        go false =
            ends_then (lower_steps rec ob (range_steps_of m.exprs e lsb w) st) (steps_walked (range_steps_of m.exprs e lsb w) st h)
            (λ st₁ k. keep_range_law K st₁ e lsb (build_range m.exprs ob st₁ e lsb w) (range_kept K S closed m.exprs ob st₁ e lsb w k))

    by_walked : (n : Need) (st : State) → K st.netlist → Walked K (lower_by rec m ob n st)
    by_walked (Bit s b) st h = bit_walked s b st h
    by_walked (Whole e) st h = expression_walked e st h
    by_walked (Range e lsb w) st h = range_walked e lsb w st h

  need_walked : (f : ℕ) (m : Module) (ob : Bool) (n : Need) (st : State) → K st.netlist → Walked K (lower_need f m ob n st)
  unfolding lower_need
  need_walked zero m ob n st h = ends_refused
  need_walked (suc f) m ob n st h = by_walked m ob (λ n' st'. lower_need f m ob n' st') (λ n' st' k. need_walked f m ob n' st' k) n st h

  pub all_walked : (m : Module) (ob : Bool) (ss : List Step) (st : State) → K st.netlist → Walked K (lower_all m ob ss st)
  unfolding lower_all
  all_walked m ob ss st h = steps_walked m ob (λ n st'. lower_need (plenty m) m ob n st') (λ n st' k. need_walked (plenty m) m ob n st' k) ss st h
