-- What is proved of specs/Relowered: One step of lowering again, from a state with the same netlist and signal bits and some of the expressions' nets: the steps of an expression whose bits have
-- nets have nets themselves, and are lowered if each of them is. Assumes nothing.
use Rattle.std.specs.Prelude.{◌≡◌, Bool, cond, ltb, length}
use Rattle.std.proofs.Math.Path.{refl, subst}
use Rattle.std.proofs.Common.{sym, ap, ◌∙◌, inl, inr, true≢false}
use Rattle.std.proofs.Math.Bool.{true, false}
use mathlib.Core.List.{List, [], ◌∷◌}
use Rattle.std.proofs.Math.Option.{Option, none, some}
use Prim.Native.Nat.{ℕ, zero, suc, ◌+◌, ◌*◌, ◌-◌, ◌≤◌, ◌<◌, min, max}
use native.Mathlib.Omega.{arith}
use Rattle.spec_rtl.specs.Rtl as R
use Rattle.spec_rtl.specs.Rtl.{Module, Valuation, Kind, Binary}
use Rattle.spec_model.specs.Words.{Netlist}
use Rattle.spec_model.specs.Builder.{Out, done, and_then, constant_value, is_value, from}
use Rattle.spec_model.specs.Ranges.{expr_at, width_at, class_of, Gate}
use Rattle.spec_model.specs.Lowering.{State, Need, Whole, Range, Step, Always, Unless, whole, signal_bit, selected, unless, whole_nets, expression_net, gate_of, gate_steps, Operands, operands_of, operand_steps, wholes, backwards, signal_steps, pieces, concat_pieces, whole_steps, kind_steps, range_steps_of, kind_range_steps, lower_steps}
use Rattle.word_laws.specs.Widths.{AllBelow, BelowE, Formed, WidthOk, sum_of}
use Rattle.word_ranges.specs.Fusion.{CarryBelow}
use Rattle.word_ranges.proofs.Fusion.{operands}
use Rattle.law_walk.specs.Tables.{some_eq, Has}
use Rattle.law_walk.specs.Good.{Good}
use Rattle.law_walk.specs.Kept.{Inv, Walks}
use Rattle.law_walk.specs.Reads.{Asked, AllAsked}
use Rattle.law_walk.specs.Parts.{gate_wide, below_turned, piece_steps}
use Rattle.law_walk.specs.Walk.{whole_asked, range_asked}
use Rattle.law_walk.proofs.Walk.{Lowers}
use Rattle.law_phases.specs.Supply.{supply}
use Rattle.law_memo.specs.Along.{along_get}
use Rattle.law_memo.specs.Repeated.{Bits}
use Rattle.law_memo.specs.Derived.{side_of, gateless, only_whole, Net, Nets, Carry, UnBit, BinBit, MuxBit, PartBit, KindBit}
use Rattle.law_memo.specs.Later.{Knows}
use Rattle.law_memo.specs.Reads.{whole_nets_law, elem_there}
use Rattle.law_memo.specs.Kinds.{gate_operands, bit0_net}
use Rattle.law_memo.specs.Walked.{IsSteady}
use Rattle.law_memo.specs.Memo.{HasNets}
use Rattle.law_memo.specs.Nothing.{side_of_law}
use Rattle.law_memo.specs.Relowered.{cost_of, has, is_mux, sum_turned, up}

pub nets_have : (m : Module) (st : State) (a : ℕ) (xs : List ℕ) → Nets m (expression_net st) a xs → HasNets m st (Whole a)
nets_have m st a xs h b k = let t = elem_there xs b (omega (arith, h.wide)) in has (along_get (Net m (expression_net st) a) xs b t.value t.is h.are)

module _ (m : Module) (f : Formed m.exprs) (ob : Bool) (st : State) where
  abbrev pub KnownBit : Kind → ℕ → ℕ → ℕ → Type 0
  KnownBit k e b n = KindBit m ob st.netlist (signal_bit st) (expression_net st) k e b n

  -- each of these steps has nets, and a fuel is enough for it; a Mux's steps are not of these
  abbrev AllKnown : ℕ → List Step → Type 0
  AllKnown g [] = Unit {0}
  AllKnown g (Always n ∷ ss) = HasNets m st n × (cost_of n < g) × AllKnown g ss
  AllKnown g (Unless c v n ∷ ss) = ⊥

  -- ---- the steps of an expression whose bits have derived nets ----

  signals_known : (g s b w : ℕ) → 0 < g → ((j : ℕ) → b ≤ j → j < b + w → Has (signal_bit st s j)) → AllKnown g (signal_steps s b w)
  unfolding signal_steps from
  signals_known g s b zero z h = tt
  signals_known g s b (suc w) z h = (h b (omega arith) (omega arith), z, signals_known g s (suc b) w z (λ j x y. h j (omega arith) (omega arith)))

  -- bits from lsb on, moved down
  moved : (lsb b w : ℕ) (g : ℕ → Option ℕ) → ((j : ℕ) → b ≤ j → j < b + w → Has (g (lsb + j))) → (j : ℕ) → lsb + b ≤ j → j < lsb + b + w → Has (g j)
  moved lsb b w g h j x y = let z : lsb + (j - lsb) ≡ j = omega arith in subst (λ (k : ℕ). Has (g k)) z (h (j - lsb) (omega arith) (omega arith))

  -- ---- a Concat ----

  abbrev PartsBit : List ℕ → ℕ → ℕ → Type 0
  PartsBit ps b n = PartBit m ob st.netlist (signal_bit st) (expression_net st) ps b n

  in_part : (p : ℕ) (ps : List ℕ) (b n : ℕ) → b < width_at m.exprs p → PartsBit (p ∷ ps) b n → Has (expression_net st p b)
  in_part p ps b n h (inl x) = has x.1
  in_part p ps b n h (inr x) = absurd (omega (arith, x.0))

  past_part : (p : ℕ) (ps : List ℕ) (b n : ℕ) → width_at m.exprs p ≤ b → PartsBit (p ∷ ps) b n → PartsBit ps (b - width_at m.exprs p) n
  past_part p ps b n h (inl x) = absurd (omega (arith, x.0))
  past_part p ps b n h (inr x) = x.1

  parts_known : (g e : ℕ) → 2 * e + 1 ≤ g → (ps : List ℕ) → AllBelow e ps → Bits (PartsBit ps) 0 (sum_of (width_at m.exprs) ps) → AllKnown g (wholes ps)
  parts_known g e c [] l d = tt
  parts_known g e c (p ∷ ps) l d = (
    (λ b h. let r = d b (omega arith) (omega arith) in in_part p ps b r.0 h r.1),
    omega (arith, l.0),
    parts_known g e c ps l.1 (λ j x y.
        let r = d (width_at m.exprs p + j) (omega arith) (omega arith) in
        let z : width_at m.exprs p + j - width_at m.exprs p ≡ j = omega arith in
        (r.0, subst (λ (k : ℕ). PartsBit ps k r.0) z (past_part p ps (width_at m.exprs p + j) r.0 (omega arith) r.1))),
  )

  pieces_known : (g e : ℕ) → 2 * e + 1 ≤ g → (lsb end at : ℕ) (ps : List ℕ) → AllBelow e ps → ((b : ℕ) → lsb ≤ b → at ≤ b → b < end → (n : ℕ) × PartsBit ps (b - at) n)
      → AllKnown g (piece_steps (pieces m.exprs lsb end at ps))
  unfolding pieces
  pieces_known g e c lsb end at [] l d = tt
  pieces_known g e c lsb end at (p ∷ ps) l d =
      go (ltb (max lsb at) (min end (at + width_at m.exprs p))) refl
      (pieces_known g e c lsb end (at + width_at m.exprs p) ps l.1 (λ b x y z.
      let r = d b x (omega arith) z in
      let q : b - at - width_at m.exprs p ≡ b - (at + width_at m.exprs p) = omega arith in
      (r.0, subst (λ (k : ℕ). PartsBit ps k r.0) q (past_part p ps (b - at) r.0 (omega arith) r.1))))
    where
      inside : (b : ℕ) → max lsb at - at ≤ b → b < max lsb at - at + (min end (at + width_at m.exprs p) - max lsb at) → Has (expression_net st p b)
      inside b x y =
          let u : at + b < min end (at + width_at m.exprs p) = up (max lsb at) (min end (at + width_at m.exprs p)) at b (omega arith) x y in
          let r = d (at + b) (omega arith) (omega arith) (omega arith) in
          let z : at + b - at ≡ b = omega arith in
          in_part p ps b r.0 (omega arith) (subst (λ (k : ℕ). PartsBit (p ∷ ps) k r.0) z r.1)

      go : (t : Bool) → ltb (max lsb at) (min end (at + width_at m.exprs p)) ≡ t → AllKnown g (piece_steps (pieces m.exprs lsb end (at + width_at m.exprs p) ps))
          → AllKnown g (piece_steps (cond t (record { part = p; lsb = max lsb at - at; width = min end (at + width_at m.exprs p) - max lsb at } ∷ pieces m.exprs lsb end (at + width_at m.exprs p) ps) (pieces m.exprs lsb end (at + width_at m.exprs p) ps)))
      go true q r = (inside, omega (arith, l.0), r)
      go false q r = r

  -- ---- by kind, but for a Mux ----

  module _ (g e : ℕ) (here : e < length m.exprs) (fuel : 2 * e + 1 ≤ g) where
    one_have : (op : R.Unary) (a : ℕ) → Bits (λ b n. UnBit m ob st.netlist (signal_bit st) (expression_net st) false op a b n) 0 (width_at m.exprs e) → HasNets m st (Whole a)
    one_have op a d = let r = (d 0 (omega arith) (omega (arith, f.least e here))).1 in nets_have m st a r.xs r.nets

    operands_known : (o : Operands) → o.lhs < e → o.rhs < e → CarryBelow e o.carry → HasNets m st (Whole o.lhs) → HasNets m st (Whole o.rhs) → (c : Option ℕ)
        → Carry m (expression_net st) o.carry c → AllKnown g (operand_steps o)
    operands_known o l r u x y c z = go o.carry u c z
      where
        go : (q : Option ℕ) → CarryBelow e q → (c : Option ℕ) → Carry m (expression_net st) q c → AllKnown g (operand_steps (record { lhs = o.lhs; rhs = o.rhs; carry = q }))
        go none u c z = (x, omega arith, (y, omega arith, tt))
        go (some d) u none z = absurd z
        go (some d) u (some n) z = (x, omega arith, (y, omega arith, (nets_have m st d z.all z.nets, omega arith, tt)))

    bin_known : (op : Binary) (a b : ℕ) → (expr_at m.exprs e).kind ≡ R.Bin op a b → BelowE e (R.Bin op a b) → WidthOk (width_at m.exprs) (width_at m.exprs e) (R.Bin op a b)
        → (q : Option Gate) → gate_of (class_of op) ≡ q → Bits (λ j n. BinBit m ob st.netlist (signal_bit st) (expression_net st) q e op a b j n) 0 (width_at m.exprs e)
        → AllKnown g (operand_steps (operands_of m.exprs op a b))
    bin_known op a b x low wide (some k) q d =
        let v = gate_wide (width_at m.exprs) (width_at m.exprs e) a b op k q wide in
        subst (λ (o : Operands). AllKnown g (operand_steps o)) (sym (gate_operands m.exprs op a b k q))
        ((λ j h. has (d j (omega arith) (omega (arith, v.0))).1.left), omega (arith, low.0), ((λ j h. has (d j (omega arith) (omega (arith, v.1))).1.right), omega (arith, low.1), tt))
    bin_known op a b x low wide none q d =
        let v : Valuation = λ s j. false in
        let t = operands m.exprs f v e here op a b x in
        let o = operands_of m.exprs op a b in
        let r = (d 0 (omega arith) (omega (arith, f.least e here))).1 in
        operands_known o t.lhs_below t.rhs_below t.carry_below (nets_have m st o.lhs r.xs r.left) (nets_have m st o.rhs r.ys r.right) r.carry r.with

    whole_known : (k : Kind) → (expr_at m.exprs e).kind ≡ k → BelowE e k → WidthOk (width_at m.exprs) (width_at m.exprs e) k → is_mux k ≡ false
        → Bits (KnownBit k e) 0 (width_at m.exprs e) → AllKnown g (kind_steps m.exprs (width_at m.exprs e) k)
    whole_known (R.Signal s lsb) x low wide z d =
        signals_known g s lsb (width_at m.exprs e) (omega arith)
        (λ j u v. moved lsb 0 (width_at m.exprs e) (signal_bit st s) (λ b p q. has (d b p q).1) j (omega arith) (omega arith))
    whole_known (R.Constant n) x low wide z d = tt
    whole_known (R.Un R.BitNot a) x low wide z d = ((λ j h. has (d j (omega arith) (omega arith)).1.here), omega arith, tt)
    whole_known (R.Un R.LogicNot a) x low wide z d = (one_have R.LogicNot a d, omega arith, tt)
    whole_known (R.Un R.ReduceOr a) x low wide z d = (one_have R.ReduceOr a d, omega arith, tt)
    whole_known (R.Un R.ReduceAnd a) x low wide z d = (one_have R.ReduceAnd a d, omega arith, tt)
    whole_known (R.Un R.ReduceXor a) x low wide z d = (one_have R.ReduceXor a d, omega arith, tt)
    whole_known (R.Bin op a b) x low wide z d = bin_known op a b x low wide (gate_of (class_of op)) refl d
    whole_known (R.Mux c t v) x low wide z d = absurd (true≢false z)
    whole_known (R.Concat ps) x low wide z d =
        let n : width_at m.exprs e ≡ sum_of (width_at m.exprs) (backwards ps []) = sym wide ∙ sym (sum_turned (width_at m.exprs) ps [] ∙ omega arith) in
        parts_known g e fuel (backwards ps []) (below_turned e ps [] low tt) (λ j u v. d j u (omega arith))
    whole_known (R.Slice a lsb) x low wide z d =
        ((λ j u v. moved lsb 0 (width_at m.exprs e) (expression_net st a) (λ b p q. has (d b p q).1) j (omega arith) (omega arith)), omega arith, tt)

    -- ---- a range ----

    module _ (lsb w : ℕ) (fits : lsb + w ≤ width_at m.exprs e) (fuel' : 2 * e + 2 ≤ g) (all : only_whole (expr_at m.exprs e).kind ≡ true → HasNets m st (Whole e)) where
      whole_itself : only_whole (expr_at m.exprs e).kind ≡ true → AllKnown g (wholes (e ∷ []))
      whole_itself q = (all q, omega arith, tt)

      bin_range_known : (op : Binary) (a b : ℕ) → (expr_at m.exprs e).kind ≡ R.Bin op a b → BelowE e (R.Bin op a b) → (q : Option Gate) → gate_of (class_of op) ≡ q
          → Bits (λ j n. BinBit m ob st.netlist (signal_bit st) (expression_net st) q e op a b j n) lsb w → AllKnown g (gate_steps q e a b lsb w)
      bin_range_known op a b x low (some k) q d =
          ((λ j u v. has (d j u v).1.left), omega (arith, low.0), ((λ j u v. has (d j u v).1.right), omega (arith, low.1), tt))
      bin_range_known op a b x low none q d = whole_itself (ap only_whole x ∙ ap gateless q)

      concat_known : (ps : List ℕ) → AllBelow e ps → Bits (PartsBit (backwards ps [])) lsb w → AllKnown g (piece_steps (concat_pieces m.exprs ps lsb w))
      unfolding concat_pieces
      concat_known ps low d = pieces_known g e fuel lsb (lsb + w) 0 (backwards ps []) (below_turned e ps [] low tt)
          (λ b u v x. let z : b ≡ b - 0 = omega arith in let r = d b u x in (r.0, subst (λ (k : ℕ). PartsBit (backwards ps []) k r.0) z r.1))

      range_known_law : (k : Kind) → (expr_at m.exprs e).kind ≡ k → BelowE e k → is_mux k ≡ false → Bits (KnownBit k e) lsb w → AllKnown g (kind_range_steps m.exprs e lsb w k)
      range_known_law (R.Signal s p) x low z d = signals_known g s (p + lsb) w (omega arith) (moved p lsb w (signal_bit st s) (λ b u v. has (d b u v).1))
      range_known_law (R.Constant n) x low z d = tt
      range_known_law (R.Un R.BitNot a) x low z d = ((λ j u v. has (d j u v).1.here), omega arith, tt)
      range_known_law (R.Un R.LogicNot a) x low z d = whole_itself (ap only_whole x)
      range_known_law (R.Un R.ReduceOr a) x low z d = whole_itself (ap only_whole x)
      range_known_law (R.Un R.ReduceAnd a) x low z d = whole_itself (ap only_whole x)
      range_known_law (R.Un R.ReduceXor a) x low z d = whole_itself (ap only_whole x)
      range_known_law (R.Bin op a b) x low z d = bin_range_known op a b x low (gate_of (class_of op)) refl d
      range_known_law (R.Mux c t v) x low z d = absurd (true≢false z)
      range_known_law (R.Concat ps) x low z d = concat_known ps low d
      range_known_law (R.Slice a p) x low z d = (moved p lsb w (expression_net st a) (λ b u v. has (d b u v).1), omega arith, tt)

-- ---- lowered again ----

module _ (m : Module) (good : Good m) (ob : Bool) (st : State) (i : Inv m st) (s : IsSteady m good ob st) where
  -- a state with less: the same netlist and signal bits, and of the expressions' nets some
  pub record Part (su : State) : Type 0 where
    pub inv : Inv m su
    pub steady : IsSteady m good ob su
    pub same : su.netlist ≡ st.netlist
    pub bits : su.signal_bits ≡ st.signal_bits
    pub nets : Knows (expression_net su) (expression_net st)

  pub derived_bits : (e b w : ℕ) → ((j : ℕ) → b ≤ j → j < b + w → Has (expression_net st e j)) → Bits (KnownBit m good.exprs ob st (expr_at m.exprs e).kind e) b w
  derived_bits e b w h j x y = let k = h j x y in (k.value, s.derived e j k.value k.is)

  -- it ends in such a state, and what was whole is whole
  pub record Relowers (su : State) (o : Out State) : Type 0 where
    pub after : State
    pub says : o ≡ done after
    pub part : Part after
    pub wholes : (e : ℕ) (ns : List ℕ) → whole su e ≡ some ns → whole after e ≡ some ns

  pub here_again : {su : State} → Part su → Relowers su (done su)
  here_again {su} p = record { after = su; says = refl; part = p; wholes = λ e ns h. h }

  again_bind : {su : State} {o : Out State} (k : State → Out State) (r : Relowers su o) → Relowers r.after (k r.after) → Relowers su (and_then o k)
  again_bind k r h = record {
    after = h.after;
    says = ap (λ o. and_then o k) r.says ∙ h.says;
    part = h.part;
    wholes = λ e ns q. h.wholes e ns (r.wholes e ns q);
  }

  -- at the end of what a walk did
  pub post : {su : State} {P : State → Type 0} {o : Out State} → Walks m su P o → (r : Relowers su o) → P r.after
  post {su} {P} w r = (subst (Walks m su P) r.says w).walks.post

  abbrev pub Relower : ℕ → (Need → State → Out State) → Type 0
  Relower g rec = (n : Need) (su : State) → Part su → Asked m n → HasNets m st n → cost_of n < g → Relowers su (rec n su)

  module _ (g : ℕ) (rec : Need → State → Out State) (spec : Lowers supply m good ob rec) (again : Relower g rec) where
    steps_again : (ss : List Step) (su : State) → Part su → AllAsked m ss → AllKnown m good.exprs ob st g ss → Relowers su (lower_steps rec ob ss su)
    unfolding lower_steps
    steps_again [] su p a k = here_again p
    steps_again (Always n ∷ ss) su p a k =
        let r = again n su p a.0 k.0 k.1 in
        again_bind (λ su₁. lower_steps rec ob ss su₁) r (steps_again ss r.after r.part a.1 k.2)
    steps_again (Unless c v n ∷ ss) su p a k = absurd k

    -- ---- a Mux ----

    module _ (c test : ℕ) (is : expression_net st c 0 ≡ some test) (low : c < length m.exprs) where
      abbrev side : Option Bool
      side = side_of ob (constant_value st.netlist test)

      chosen : (su : State) → Part su → Has (whole su c) → selected ob su c ≡ side
      chosen su p h =
          side_of_law m good.exprs ob su p.inv (signal_bit st) (expression_net st) p.nets ob c test (bit0_net m good.exprs ob su p.inv c low h) is
          ∙ ap (λ (l : Netlist). side_of ob (constant_value l test)) p.same

      unless_again : (v : Bool) (n : Need) (su : State) → Part su → Has (whole su c) → Asked m n → (is_value v side ≡ false → HasNets m st n) → cost_of n < g
          → Relowers su (unless (is_value v (selected ob su c)) rec n su)
      unless_again v n su p h a k q = go (is_value v (selected ob su c)) refl
        where
          go : (t : Bool) → is_value v (selected ob su c) ≡ t → Relowers su (unless t rec n su)
          go true z = here_again p
          go false z = again n su p a (k (ap (is_value v) (sym (chosen su p h)) ∙ z)) q

      mux_steps : (x y : Need) (su : State) → Part su → Asked m x → Asked m y → HasNets m st (Whole c) → (is_value false side ≡ false → HasNets m st x) → (is_value true side ≡ false → HasNets m st y)
          → cost_of (Whole c) < g → cost_of x < g → cost_of y < g → Relowers su (lower_steps rec ob (Always (Whole c) ∷ Unless c false x ∷ Unless c true y ∷ []) su)
      unfolding lower_steps
      mux_steps x y su p ax ay kc kx ky qc qx qy =
          let r = again (Whole c) su p low kc qc in
          let h = post (spec (Whole c) su p.inv low) r in
          let t = unless_again false x r.after r.part h ax kx qx in
          let h' : Has (whole t.after c) = record { value = h.value; is = t.wholes c h.value h.is } in
          let u = unless_again true y t.after t.part h' ay ky qy in
          again_bind _ r (again_bind _ t (again_bind _ u (here_again u.part)))

    -- ---- the steps of an expression ----

    module _ (e : ℕ) (here : e < length m.exprs) where
      then_side : (t d : ℕ) (o : Option Bool) (x b n : ℕ) → is_value false o ≡ false → MuxBit m ob st.netlist (signal_bit st) (expression_net st) o x t d b n → Has (expression_net st t b)
      then_side t d none x b n q h = record { value = h.x; is = h.left }
      then_side t d (some true) x b n q h = record { value = n; is = h }
      then_side t d (some false) x b n q h = absurd (true≢false q)

      else_side : (t d : ℕ) (o : Option Bool) (x b n : ℕ) → is_value true o ≡ false → MuxBit m ob st.netlist (signal_bit st) (expression_net st) o x t d b n → Has (expression_net st d b)
      else_side t d none x b n q h = record { value = h.y; is = h.right }
      else_side t d (some true) x b n q h = absurd (true≢false q)
      else_side t d (some false) x b n q h = record { value = n; is = h }

      module _ (c t d b w : ℕ) (z : Bits (KnownBit m good.exprs ob st (R.Mux c t d) e) b w) (test : ℕ) (is : expression_net st c 0 ≡ some test) where
        same_side : (j : ℕ) (x : b ≤ j) (y : j < b + w) → side_of ob (constant_value st.netlist (z j x y).1.test) ≡ side_of ob (constant_value st.netlist test)
        same_side j x y = ap (λ (n : ℕ). side_of ob (constant_value st.netlist n)) (some_eq (sym (z j x y).1.is ∙ is))

        then_known : is_value false (side_of ob (constant_value st.netlist test)) ≡ false → (j : ℕ) → b ≤ j → j < b + w → Has (expression_net st t j)
        then_known q j x y = then_side t d (side_of ob (constant_value st.netlist (z j x y).1.test)) (z j x y).1.test j (z j x y).0 (ap (is_value false) (same_side j x y) ∙ q) (z j x y).1.gives

        else_known : is_value true (side_of ob (constant_value st.netlist test)) ≡ false → (j : ℕ) → b ≤ j → j < b + w → Has (expression_net st d j)
        else_known q j x y = else_side t d (side_of ob (constant_value st.netlist (z j x y).1.test)) (z j x y).1.test j (z j x y).0 (ap (is_value true) (same_side j x y) ∙ q) (z j x y).1.gives

      -- the condition has one bit
      condition_known : (c test : ℕ) → width_at m.exprs c ≡ 1 → expression_net st c 0 ≡ some test → HasNets m st (Whole c)
      condition_known c test q h b k = let z : b ≡ 0 = omega arith in subst (λ (j : ℕ). Has (expression_net st c j)) (sym z) (record { value = test; is = h })

      pub whole_steps_law : (su : State) → Part su → 2 * e + 1 ≤ g → HasNets m st (Whole e) → Relowers su (lower_steps rec ob (whole_steps m.exprs e) su)
      unfolding whole_steps
      whole_steps_law su p q h =
          go (expr_at m.exprs e).kind refl (good.exprs.low e here) (good.exprs.wide e here) (derived_bits e 0 (width_at m.exprs e) (λ j x y. h j (omega arith)))
          (whole_asked m good.exprs e here)
        where
          plain : (k : Kind) → (expr_at m.exprs e).kind ≡ k → BelowE e k → WidthOk (width_at m.exprs) (width_at m.exprs e) k → is_mux k ≡ false
              → Bits (KnownBit m good.exprs ob st k e) 0 (width_at m.exprs e) → AllAsked m (kind_steps m.exprs (width_at m.exprs e) k)
              → Relowers su (lower_steps rec ob (kind_steps m.exprs (width_at m.exprs e) k) su)
          plain k x low wide c z a =
              steps_again (kind_steps m.exprs (width_at m.exprs e) k) su p a (whole_known m good.exprs ob st g e here q k x low wide c z)

          go : (k : Kind) → (expr_at m.exprs e).kind ≡ k → BelowE e k → WidthOk (width_at m.exprs) (width_at m.exprs e) k
              → Bits (KnownBit m good.exprs ob st k e) 0 (width_at m.exprs e) → AllAsked m (kind_steps m.exprs (width_at m.exprs e) k)
              → Relowers su (lower_steps rec ob (kind_steps m.exprs (width_at m.exprs e) k) su)
          go (R.Mux c t d) x low wide z a =
              let r = (z 0 (omega arith) (omega (arith, good.exprs.least e here))).1 in
              mux_steps c r.test r.is a.0 (Whole t) (Whole d) su p a.1.0 a.1.1.0 (condition_known c r.test wide.0 r.is)
              (λ v j y. then_known c t d 0 (width_at m.exprs e) z r.test r.is v j (omega arith) (omega (arith, wide.1)))
              (λ v j y. else_known c t d 0 (width_at m.exprs e) z r.test r.is v j (omega arith) (omega (arith, wide.2)))
              (omega (arith, low.0)) (omega (arith, low.1)) (omega (arith, low.2))
          go (R.Signal v lsb) x low wide z a = plain (R.Signal v lsb) x low wide refl z a
          go (R.Constant n) x low wide z a = plain (R.Constant n) x low wide refl z a
          go (R.Un op v) x low wide z a = plain (R.Un op v) x low wide refl z a
          go (R.Bin op v w) x low wide z a = plain (R.Bin op v w) x low wide refl z a
          go (R.Concat ps) x low wide z a = plain (R.Concat ps) x low wide refl z a
          go (R.Slice v lsb) x low wide z a = plain (R.Slice v lsb) x low wide refl z a

      pub range_steps : (lsb w : ℕ) → 1 ≤ w → lsb + w ≤ width_at m.exprs e → (su : State) → Part su → 2 * e + 2 ≤ g → HasNets m st (Range e lsb w) → Relowers su (lower_steps rec ob (range_steps_of m.exprs e lsb w) su)
      unfolding range_steps_of
      range_steps lsb w one fits su p q h =
          go (expr_at m.exprs e).kind refl (good.exprs.low e here) (good.exprs.wide e here) (derived_bits e lsb w h) (range_asked m good.exprs e here lsb w fits)
        where
          fuel : 2 * e + 1 ≤ g
          fuel = omega arith

          all : only_whole (expr_at m.exprs e).kind ≡ true → HasNets m st (Whole e)
          all k b x =
              let t = h lsb (omega arith) (omega arith) in
              let r = s.only e lsb t.value k t.is in
              let y = whole_nets_law m st i good.exprs e here r in
              nets_have m st e (whole_nets st e) y b x

          plain : (k : Kind) → (expr_at m.exprs e).kind ≡ k → BelowE e k → is_mux k ≡ false → Bits (KnownBit m good.exprs ob st k e) lsb w
              → AllAsked m (kind_range_steps m.exprs e lsb w k) → Relowers su (lower_steps rec ob (kind_range_steps m.exprs e lsb w k) su)
          plain k x low c z a =
              steps_again (kind_range_steps m.exprs e lsb w k) su p a (range_known_law m good.exprs ob st g e here fuel lsb w fits q all k x low c z)

          go : (k : Kind) → (expr_at m.exprs e).kind ≡ k → BelowE e k → WidthOk (width_at m.exprs) (width_at m.exprs e) k
              → Bits (KnownBit m good.exprs ob st k e) lsb w → AllAsked m (kind_range_steps m.exprs e lsb w k)
              → Relowers su (lower_steps rec ob (kind_range_steps m.exprs e lsb w k) su)
          go (R.Mux c t d) x low wide z a =
              let r = (z lsb (omega arith) (omega arith)).1 in
              mux_steps c r.test r.is a.0 (Range t lsb w) (Range d lsb w) su p a.1.0 a.1.1.0 (condition_known c r.test wide.0 r.is)
              (λ v. then_known c t d lsb w z r.test r.is v) (λ v. else_known c t d lsb w z r.test r.is v)
              (omega (arith, low.0)) (omega (arith, low.1)) (omega (arith, low.2))
          go (R.Signal v l) x low wide z a = plain (R.Signal v l) x low refl z a
          go (R.Constant n) x low wide z a = plain (R.Constant n) x low refl z a
          go (R.Un op v) x low wide z a = plain (R.Un op v) x low refl z a
          go (R.Bin op v y) x low wide z a = plain (R.Bin op v y) x low refl z a
          go (R.Concat ps) x low wide z a = plain (R.Concat ps) x low refl z a
          go (R.Slice v l) x low wide z a = plain (R.Slice v l) x low refl z a
