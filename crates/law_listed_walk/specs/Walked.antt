-- The walk keeps what holds of all nodes and records, and adds gates, constants and cells only. Assumes nothing.
use Rattle.std.specs.Prelude.{◌≡◌, Bool, ltb, length}
use Rattle.std.proofs.Math.Path.{refl}
use Rattle.std.proofs.Math.Bool.{true, false, cond}
use mathlib.Core.List.{List, [], ◌∷◌}
use Rattle.std.proofs.Math.Option.{Option, none, some}
use Prim.Native.Nat.{ℕ, zero, suc, ◌+◌, ◌≤◌, ◌<◌, max}
use Rattle.std.proofs.Common.{arith, length-take}
use Rattle.spec_rtl.specs.Word.{bits}
use Rattle.spec_rtl.specs.Rtl as R
use Rattle.spec_rtl.specs.Rtl.{Module, Expr, Kind, Binary}
use Rattle.spec_model.specs.Builder as B
use Rattle.spec_model.specs.Builder.{Out, refused, done, and_then, is_value}
use Rattle.spec_model.specs.Ranges as Rg
use Rattle.spec_model.specs.Ranges.{expr_at, width_at, class_of, narrow_by, adder_width}
use Rattle.spec_model.specs.Lowering.{State, is_add, Need, Bit, Whole, Range, Step, Always, Unless, Operands, operands_of, operand_steps, wholes, kind_steps, cell, set_signal_bit, mark, signal_bit, whole, whole_nets, whole_net, range_known, whole_steps, range_steps_of, truncated, selected, driven_by, build_operands, build_binary, build_kind, build_whole, build_range, unless, lower_steps, driver_of, drive, resolve_signal_bit, keep_whole, lower_expression, keep_range, lower_expression_range, lower_by, lower_need, plenty, lower_all}
use Rattle.word_laws.specs.Widths.{Formed}
use Rattle.word_ranges.proofs.Fusion.{operands}
use Rattle.law_walk.specs.Tables.{Has, none_some, some_eq}
use Rattle.law_walk.specs.Good.{Good}
use Rattle.law_walk.specs.Kept.{Inv, Walks}
use Rattle.law_walk.specs.Kept as K
use Rattle.law_walk.specs.Writes.{inv_mark}
use Rattle.law_walk.specs.Reads.{Asked, AllAsked, AllAfter}
use Rattle.law_walk.proofs.ReadsLaws.{whole_length}
use Rattle.law_walk.specs.Walk.{whole_asked, range_asked}
use Rattle.law_walk.proofs.Walk.{assigned, Lowers, steps_walk, need_walk}
use Rattle.law_phases.specs.Supply.{supply}
use Rattle.law_owners.specs.Ends.{Ends, ends_done, ends_refused, ends_then}
use Rattle.law_owners.specs.Kept.{Leaves, constants_kept, unary_kept}
use Rattle.law_owners.specs.Walked.{Walked, keep_whole_law, keep_range_law, resized_kept, operands_kept, mux_made, range_kept}
use Rattle.law_listed_walk.specs.Shape.{Fine}
use Rattle.law_listed_walk.specs.Keeps.{Sized, closed}

-- two facts of one outcome
pub ends_both : {m : Module} {st : State} {P Q : State → Type 0} (o : Out State) → Walks m st P o → Ends Q o → Ends (λ st'. K.WalkedTo m st P st' × Q st') o
ends_both (refused n x y) w e = ends_refused
ends_both (done st') w e = ends_done (w.walks, e.ends)

drop_post : {m : Module} {st : State} {P Q : State → Type 0} (o : Out State) → Ends (λ st'. K.WalkedTo m st P st' × Q st') o → Ends (λ st'. Inv m st' × Q st') o
drop_post (refused n x y) e = ends_refused
drop_post (done st') e = let k = e.ends in ends_done (k.0.inv, k.1)

-- a narrowed Add has a bit at least
narrow_least : (w : ℕ) (o : Option Rg.Range) (k : ℕ) → narrow_by w o ≡ some k → 1 ≤ k
narrow_least w none k e = absurd (none_some e)
narrow_least w (some r) k e = go (max 1 (Rg.bit_len 64 r.hi)) (omega arith) (ltb (max 1 (Rg.bit_len 64 r.hi)) w) e
  where
    go : (j : ℕ) → 1 ≤ j → (t : Bool) → cond t (some j) none ≡ some k → 1 ≤ k
    go j h true e = let z : j ≡ k = some_eq e in omega arith
    go j h false e = absurd (none_some e)

adder_least : (xs : List Expr) (e k : ℕ) (t : Bool) → cond t (adder_width xs e) none ≡ some k → 1 ≤ k
unfolding adder_width
adder_least xs e k true q = narrow_least (width_at xs e) (Rg.range_at xs e) k q
adder_least xs e k false q = absurd (none_some q)

module _ (n : ℕ) where
  module _ (m : Module) (f : Formed m.exprs) (bound : (e : ℕ) → e < length m.exprs → width_at m.exprs e ≤ 1024) (ob : Bool) (st : State) (i : Inv m st) (h : Fine n st.netlist) where
    sized : (c : Option ℕ) → ((k : ℕ) → c ≡ some k → 1 ≤ k) → (e : ℕ) → e < length m.exprs → Has (whole st e) → Sized (truncated c (whole_nets st e))
    sized none g e b w = let z = whole_length m st i f e b w in let y = f.least e b in let u = bound e b in record { least = omega arith; most = omega arith }
    sized (some k) g e b w =
        let z = whole_length m st i f e b w in
        let y = f.least e b in
        let u = bound e b in
        let t = length-take k (whole_nets st e) in
        let v = g k refl in
        record { least = omega arith; most = omega arith }

    both_have : (o : Operands) (c : Option ℕ) → AllAfter ob st (elim c [ none ↦ wholes (o.lhs ∷ o.rhs ∷ []) | some d ↦ wholes (o.lhs ∷ o.rhs ∷ d ∷ []) ])
        → Has (whole st o.lhs) × Has (whole st o.rhs)
    both_have o none a = (a.0, a.1.0)
    both_have o (some d) a = (a.0, a.1.0)

    bin_kept : (e : ℕ) → e < length m.exprs → (op : Binary) (a b : ℕ) → (expr_at m.exprs e).kind ≡ R.Bin op a b → AllAfter ob st (operand_steps (operands_of m.exprs op a b))
        → Leaves (Fine n) (build_binary m.exprs st e (width_at m.exprs e) op a b)
    unfolding build_binary
    bin_kept e here op a b x g =
        let narrow = cond (is_add (class_of op)) (adder_width m.exprs e) none in
        let o = operands_of m.exprs op a b in
        let d = operands m.exprs f (λ s j. false) e here op a b x in
        let u = d.lhs_below in
        let v = d.rhs_below in
        let w = both_have o o.carry g in
        let least : (k : ℕ) → cond (is_add (class_of op)) (adder_width m.exprs e) none ≡ some k → 1 ≤ k = λ k q. adder_least m.exprs e k (is_add (class_of op)) q in
        resized_kept (Fine n) Sized (closed n) narrow (width_at m.exprs e) (build_operands op narrow st o)
        (operands_kept (Fine n) Sized (closed n) op narrow st o (sized narrow least o.lhs (omega arith) w.0) (sized narrow least o.rhs (omega arith) w.1) h)

    kind_kept : (e : ℕ) → e < length m.exprs → (k : Kind) → (expr_at m.exprs e).kind ≡ k → AllAfter ob st (kind_steps m.exprs (width_at m.exprs e) k)
        → Leaves (Fine n) (build_kind m.exprs ob st e (width_at m.exprs e) k)
    kind_kept e b (R.Signal s lsb) x g = ends_done h
    kind_kept e b (R.Constant k) x g = constants_kept (Fine n) Sized (closed n) (bits (width_at m.exprs e) k) st.netlist h
    kind_kept e b (R.Un op a) x g = unary_kept (Fine n) Sized (closed n) op (whole_nets st a) st.netlist h
    kind_kept e b (R.Bin op a c) x g = bin_kept e b op a c x g
    kind_kept e b (R.Mux c t d) x g = mux_made (Fine n) Sized (closed n) (selected ob st c) (whole_net st c 0) (whole_nets st t) (whole_nets st d) st.netlist h
    kind_kept e b (R.Concat ps) x g = ends_done h
    kind_kept e b (R.Slice a lsb) x g = ends_done h

    whole_kept : (e : ℕ) → e < length m.exprs → AllAfter ob st (whole_steps m.exprs e) → Leaves (Fine n) (build_whole m.exprs ob st e)
    unfolding build_whole whole_steps
    whole_kept e b g = kind_kept e b (expr_at m.exprs e).kind refl g

  -- ---- the recursion ----

  module _ (m : Module) (good : Good m) (bound : (e : ℕ) → e < length m.exprs → width_at m.exprs e ≤ 1024) (ob : Bool) where
    abbrev Fines : (Need → State → Out State) → Type 0
    Fines rec = (k : Need) (st : State) → Inv m st → Asked m k → Fine n st.netlist → Walked (Fine n) (rec k st)

    module _ (rec : Need → State → Out State) (low : Lowers supply m good ob rec) (spec : Fines rec) where
      steps_fine : (ss : List Step) (st : State) → Inv m st → AllAsked m ss → Fine n st.netlist → Walked (Fine n) (lower_steps rec ob ss st)
      unfolding lower_steps
      steps_fine [] st i a h = ends_done h
      steps_fine (Always k ∷ ss) st i a h = ends_then (rec k st) (ends_both (rec k st) (low k st i a.0) (spec k st i a.0 h)) (λ st₁ q. steps_fine ss st₁ q.0.inv a.1 q.1)
      steps_fine (Unless c v k ∷ ss) st i a h =
          ends_then (unless (is_value v (selected ob st c)) rec k st) (skip (is_value v (selected ob st c))) (λ st₁ q. steps_fine ss st₁ q.0 a.1 q.1)
        where
          skip : (t : Bool) → Ends (λ st'. Inv m st' × Fine n st'.netlist) (unless t rec k st)
          skip true = ends_done (i, h)
          skip false = drop_post (rec k st) (ends_both (rec k st) (low k st i a.0) (spec k st i a.0 h))

      drive_fine : (s b e o : ℕ) (st : State) → Inv m st → e < length m.exprs → o < width_at m.exprs e → Fine n st.netlist → Walked (Fine n) (drive rec ob s b e o st)
      unfolding drive mark set_signal_bit
      drive_fine s b e o st i p q h = ends_then (rec (driven_by ob e o) (mark st s b)) (spec (driven_by ob e o) (mark st s b) (inv_mark m st s b i) (asked ob) h) (λ st₁ k. ends_done k)
        where
          asked : (t : Bool) → Asked m (driven_by t e o)
          asked false = p
          asked true = (p, omega arith)

      bit_fine : (s b : ℕ) (st : State) → Inv m st → Fine n st.netlist → Walked (Fine n) (resolve_signal_bit rec m ob s b st)
      unfolding resolve_signal_bit
      bit_fine s b st i h = go (signal_bit st s b) (driver_of m s b) refl (cell false st.resolving s b)
        where
          go : (o : Option ℕ) (q : Option (ℕ × ℕ)) → driver_of m s b ≡ q → (t : Bool) → Walked (Fine n) (elim o [
            | some k ↦ done st
            | none ↦ elim q [
              | none ↦ refused 6 s b
              | some d ↦ elim t [ true ↦ refused 7 s b | false ↦ drive rec ob s b d.0 d.1 st ]
            ]
          ])
          go (some k) q e t = ends_done h
          go none none e t = ends_refused
          go none (some d) e true = ends_refused
          go none (some d) e false = let x = assigned m s b good d e in drive_fine s b d.0 d.1 st i x.value x.bit h

      expression_fine : (e : ℕ) (st : State) → Inv m st → e < length m.exprs → Fine n st.netlist → Walked (Fine n) (lower_expression rec m ob e st)
      unfolding lower_expression
      expression_fine e st i b h = go (whole st e)
        where
          go : (o : Option (List ℕ)) → Walked (Fine n) (elim o [
            | some ns ↦ done st
            | none ↦ and_then (lower_steps rec ob (whole_steps m.exprs e) st) (λ st₁. keep_whole st₁ e (build_whole m.exprs ob st₁ e))
          ])
          go (some ns) = ends_done h
          go none =
              let a = whole_asked m good.exprs e b in
              ends_then (lower_steps rec ob (whole_steps m.exprs e) st)
              (ends_both (lower_steps rec ob (whole_steps m.exprs e) st) (steps_walk supply m good ob rec low (whole_steps m.exprs e) st i a) (steps_fine (whole_steps m.exprs e) st i a h))
              (λ st₁ q. keep_whole_law (Fine n) st₁ e (build_whole m.exprs ob st₁ e) (whole_kept m good.exprs bound ob st₁ q.0.inv q.1 e b q.0.post))

      range_fine : (e lsb w : ℕ) (st : State) → Inv m st → e < length m.exprs → lsb + w ≤ width_at m.exprs e → Fine n st.netlist → Walked (Fine n) (lower_expression_range rec m ob e lsb w st)
      unfolding lower_expression_range
      range_fine e lsb w st i b fits h = go (range_known st e lsb w)
        where
          go : (t : Bool) → Walked (Fine n) (elim t [
            | true ↦ done st
            | false ↦ and_then (lower_steps rec ob (range_steps_of m.exprs e lsb w) st) (λ st₁. keep_range st₁ e lsb (build_range m.exprs ob st₁ e lsb w))
          ])
          go true = ends_done h
          go false =
              ends_then (lower_steps rec ob (range_steps_of m.exprs e lsb w) st) (steps_fine (range_steps_of m.exprs e lsb w) st i (range_asked m good.exprs e b lsb w fits) h)
              (λ st₁ k. keep_range_law (Fine n) st₁ e lsb (build_range m.exprs ob st₁ e lsb w) (range_kept (Fine n) Sized (closed n) m.exprs ob st₁ e lsb w k))

      by_fine : Fines (lower_by rec m ob)
      by_fine (Bit s b) st i a h = bit_fine s b st i h
      by_fine (Whole e) st i a h = expression_fine e st i a h
      by_fine (Range e lsb w) st i a h = range_fine e lsb w st i a.0 a.1 h

    need_fine : (f : ℕ) → Fines (lower_need f m ob)
    unfolding lower_need
    need_fine zero k st i a h = ends_refused
    need_fine (suc f) k st i a h = by_fine (λ n' st'. lower_need f m ob n' st') (need_walk supply m good ob f) (need_fine f) k st i a h

    pub all_fine : (ss : List Step) (st : State) → Inv m st → AllAsked m ss → Fine n st.netlist → Walked (Fine n) (lower_all m ob ss st)
    unfolding lower_all
    all_fine ss st i a h = steps_fine (λ k st'. lower_need (plenty m) m ob k st') (need_walk supply m good ob (plenty m)) (need_fine (plenty m)) ss st i a h
