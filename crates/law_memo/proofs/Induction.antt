-- What is proved of specs/Induction: What has nets is lowered again, by induction on the fuel: it is done, makes nothing, and ends in a state with some of the nets that were there. Assumes nothing.
use Rattle.std.specs.Prelude.{◌≡◌, refl, ◌⊎◌, Bool, ℕ, zero, suc, ◌+◌, ◌*◌, ◌≤◌, ◌<◌, length}
use Rattle.std.proofs.Common.{sym, ◌∙◌, inl, inr, true≢false, arith}
use Rattle.std.proofs.Math.Path.{ap, subst}
use Rattle.std.proofs.Math.Bool.{true, false}
use mathlib.Core.List.{List}
use Rattle.std.proofs.Math.Option.{Option, none, some}
use Rattle.spec_rtl.specs.Rtl.{Module}
use Rattle.spec_model.specs.Words.{Netlist}
use Rattle.spec_model.specs.Builder.{Out, done, and_then}
use Rattle.spec_model.specs.Ranges.{expr_at, width_at}
use Rattle.spec_model.specs.Lowering.{State, Need, Bit, Whole, Range, cell, whole, with_netlist, set_whole, set_range, signal_bit, expression_net, whole_steps, range_steps_of, range_known, build_whole, build_range, lower_steps, keep_whole, keep_range, lower_need}
use Rattle.law_walk.specs.Tables.{none_some, Has}
use Rattle.law_walk.specs.Good.{Good}
use Rattle.law_nets.specs.Run.{Meets}
use Rattle.law_walk.specs.Kept.{Any, Inv, Walks}
use Rattle.law_walk.specs.Reads.{Asked, After, AllAfter}
use Rattle.law_walk.specs.Walk.{whole_asked, range_asked}
use Rattle.law_walk.proofs.Walk.{steps_walk, need_walk}
use Rattle.law_phases.specs.Supply.{supply}
use Rattle.law_repeats.specs.Again.{Stays, stays_refl}
use Rattle.law_memo.specs.Along.{Along}
use Rattle.law_memo.specs.Repeated.{Bits}
use Rattle.law_memo.specs.Derived.{only_whole, KindBit, derived_single}
use Rattle.law_memo.specs.Later.{Knows}
use Rattle.law_memo.specs.Reads.{net_bit}
use Rattle.law_memo.specs.Built.{Derives}
use Rattle.law_memo.specs.Kinds.{whole_derived}
use Rattle.law_memo.specs.Steady.{Onward, DerivedAt, derived_onward, whole_old, net_kept, range_old}
use Rattle.law_memo.specs.Walked.{IsSteady, IsKept, need_keep, Ranged, ranged, stepped}
use Rattle.law_memo.specs.Nothing.{Nothing, whole_nothing, range_nothing}
use Rattle.law_memo.specs.Memo.{HasNets}
use Rattle.law_memo.proofs.Relowered.{whole_steps_law, range_steps}
use Rattle.law_memo.proofs.Relowered.{KnownBit, Part, Relowers, post, Relower, derived_bits}
use Rattle.law_memo.specs.Induction.{bit_done, bit_there, no_bits, range_done, range_keep, range_long, range_step, whole_done, whole_keep, whole_step}

module _ (m : Module) (good : Good m) (ob : Bool) (st : State) (i : Inv m st) (s : IsSteady m good ob st) where
  abbrev IsPart : State → Type 0
  IsPart su = Part m good ob st i s su

  abbrev IsAgain : State → Out State → Type 0
  IsAgain su o = Relowers m good ob st i s su o

  -- from the whole outcome: what the walk keeps, and that nothing was made
  assemble : (g : ℕ) (n : Need) (su su' : State) → IsPart su → Asked m n → lower_need g m ob n su ≡ done su' → su'.netlist ≡ st.netlist → su'.signal_bits ≡ st.signal_bits
      → (Inv m su' → Knows (expression_net su') (expression_net st)) → IsAgain su (lower_need g m ob n su)
  assemble g n su su' p a q l b k =
      let w = (subst (Walks m su (λ x. After x n)) q (need_walk supply m good ob g n su p.inv a)).walks in
      let h = subst (Meets Any (IsKept m good ob su)) q (need_keep m good ob g n su p.inv p.steady a) in
      record {
        after = su';
        says = q;
        part = record { inv = w.inv; steady = h.steady; same = l; bits = b; nets = k w.inv };
        wholes = w.grew.wholes;
      }

  -- a state with less comes before
  part_onward : (su : State) → IsPart su → Onward su st
  unfolding signal_bit
  part_onward su p = record {
    stays = subst (Stays su.netlist) p.same (stays_refl su.netlist);
    bits = λ q j n h. ap (λ (t : List (List (Option ℕ))). cell none t q j) (sym p.bits) ∙ h;
    nets = p.nets;
  }

  -- a net that is derived there is the one that was there
  derived_is : (su : State) → IsPart su → (e b n : ℕ) → e < length m.exprs → DerivedAt m good.exprs ob su.netlist su e b n → Has (expression_net st e b) → expression_net st e b ≡ some n
  derived_is su p e b n here d h =
      let d' = derived_onward m good.exprs ob su st p.inv (part_onward su p) e b n here d in
      let q = derived_single m ob st.netlist (signal_bit st) (expression_net st) e b h.value n (s.derived e b h.value h.is) d' in
      h.is ∙ ap some q

  -- the derived bits, over the netlist of the state with less
  bits_there : (su : State) → IsPart su → (e : ℕ) (b w : ℕ) → Bits (KnownBit m good.exprs ob st (expr_at m.exprs e).kind e) b w
      → Bits (KindBit m ob su.netlist (signal_bit st) (expression_net st) (expr_at m.exprs e).kind e) b w
  bits_there su p e b w d = subst (λ (l : Netlist). Bits (KindBit m ob l (signal_bit st) (expression_net st) (expr_at m.exprs e).kind e) b w) (sym p.same) d

  module _ (g : ℕ) (again : Relower m good ob st i s g (lower_need g m ob)) where
    bit_again : (q b : ℕ) (su : State) → IsPart su → HasNets m st (Bit q b) → IsAgain su (lower_need (suc g) m ob (Bit q b) su)
    bit_again q b su p h = assemble (suc g) (Bit q b) su su p tt says p.same p.bits (λ j. p.nets)
      where
        there : signal_bit su q b ≡ some h.value
        there = bit_there su st q b p.bits ∙ h.is

        says : lower_need (suc g) m ob (Bit q b) su ≡ done su
        says = bit_done g m ob q b su h.value there

    -- ---- an expression ----

    module _ (e : ℕ) (here : e < length m.exprs) where
      -- what is kept of it: of the nets that were there
      whole_less : (su : State) (ns : List ℕ) → IsPart su → HasNets m st (Whole e) → Along (DerivedAt m good.exprs ob su.netlist su e) 0 ns
          → Inv m (set_whole (with_netlist su su.netlist) e ns) → Knows (expression_net (set_whole (with_netlist su su.netlist) e ns)) (expression_net st)
      whole_less su ns p h d j x b n q = go (whole_old m good.exprs ob su su.netlist e ns p.inv p.inv j here p.steady (stays_refl su.netlist) d x b n q)
        where
          go : (expression_net su x b ≡ some n) ⊎ ((x ≡ e) × DerivedAt m good.exprs ob su.netlist su e b n) → expression_net st x b ≡ some n
          go (inl z) = p.nets x b n z
          go (inr z) =
              let c : b < width_at m.exprs e = net_bit m (set_whole (with_netlist su su.netlist) e ns) j good.exprs e here b n
              (ap (λ (y : ℕ). expression_net (set_whole (with_netlist su su.netlist) e ns) y b) (sym z.0) ∙ q) in
              ap (λ (y : ℕ). expression_net st y b) z.0 ∙ derived_is su p e b n here z.1 (h b c)

      module _ (su : State) (p : IsPart su) (h : HasNets m st (Whole e)) (q : 2 * e + 1 ≤ g) (z : whole su e ≡ none) where
        steps : IsAgain su (lower_steps (lower_need g m ob) ob (whole_steps m.exprs e) su)
        steps = whole_steps_law m good ob st i s g (lower_need g m ob) (need_walk supply m good ob g) again e here su p q h

        all_after : AllAfter ob steps.after (whole_steps m.exprs e)
        all_after = post m good ob st i s (steps_walk supply m good ob (lower_need g m ob) (need_walk supply m good ob g) (whole_steps m.exprs e) su p.inv (whole_asked m good.exprs e here)) steps

        made : Nothing (build_whole m.exprs ob steps.after e) steps.after.netlist
        made = whole_nothing m good.exprs ob steps.after steps.part.inv (signal_bit st) (expression_net st) steps.part.nets e here all_after
            (bits_there steps.after steps.part e 0 (width_at m.exprs e) (derived_bits m good ob st i s e 0 (width_at m.exprs e) (λ j x y. h j (omega arith))))

        derived : Along (DerivedAt m good.exprs ob steps.after.netlist steps.after e) 0 made.0
        derived = (subst (Meets Any (Derives m good.exprs ob steps.after steps.part.inv (expr_at m.exprs e).kind e 0)) made.1
            (whole_derived m good.exprs ob steps.after steps.part.inv e here all_after)).1

        says : lower_need (suc g) m ob (Whole e) su ≡ done (set_whole (with_netlist steps.after steps.after.netlist) e made.0)
        says = whole_step g m ob e su z ∙ ap (λ o. and_then o (λ st₁. keep_whole st₁ e (build_whole m.exprs ob st₁ e))) steps.says ∙ whole_keep steps.after e made.1

        whole_made : IsAgain su (lower_need (suc g) m ob (Whole e) su)
        unfolding set_whole
        whole_made = assemble (suc g) (Whole e) su (set_whole (with_netlist steps.after steps.after.netlist) e made.0) p here says steps.part.same steps.part.bits
            (whole_less steps.after made.0 steps.part h derived)

      whole_again : (su : State) → IsPart su → HasNets m st (Whole e) → 2 * e + 1 ≤ g → IsAgain su (lower_need (suc g) m ob (Whole e) su)
      whole_again su p h q = go (whole su e) refl
        where
          go : (o : Option (List ℕ)) → whole su e ≡ o → IsAgain su (lower_need (suc g) m ob (Whole e) su)
          go (some ns) z = assemble (suc g) (Whole e) su su p here (whole_done g m ob e su ns z) p.same p.bits (λ j. p.nets)
          go none z = whole_made su p h q z

      -- ---- a range of it ----

      module _ (lsb w : ℕ) (fits : lsb + w ≤ width_at m.exprs e) where
        range_less : (su : State) (ns : List ℕ) → IsPart su → HasNets m st (Range e lsb w) → length ns ≡ w → (only_whole (expr_at m.exprs e).kind ≡ true → Has (whole su e))
            → (only_whole (expr_at m.exprs e).kind ≡ false → Along (DerivedAt m good.exprs ob su.netlist su e) lsb ns)
            → Inv m (set_range (with_netlist su su.netlist) e lsb ns) → Knows (expression_net (set_range (with_netlist su su.netlist) e lsb ns)) (expression_net st)
        range_less su ns p h k v d j x b n q = go (whole su e) refl (only_whole (expr_at m.exprs e).kind) refl
          where
            fit : lsb + length ns ≤ width_at m.exprs e
            fit = omega arith

            new : (expression_net su x b ≡ some n) ⊎ ((x ≡ e) × ((lsb ≤ b) × (b < lsb + length ns) × DerivedAt m good.exprs ob su.netlist su e b n)) → expression_net st x b ≡ some n
            new (inl z) = p.nets x b n z
            new (inr z) = ap (λ (y : ℕ). expression_net st y b) z.0 ∙ derived_is su p e b n here z.1.2 (h b z.1.0 (omega (arith, z.1.1)))

            go : (o : Option (List ℕ)) → whole su e ≡ o → (t : Bool) → only_whole (expr_at m.exprs e).kind ≡ t → expression_net st x b ≡ some n
            go (some ks) z t c = p.nets x b n (net_kept m good.exprs ob su su.netlist e lsb ns p.inv p.inv j here fit p.steady (stays_refl su.netlist) ks z x b n q)
            go none z true c = absurd (none_some (sym z ∙ (v c).is))
            go none z false c = new (range_old m good.exprs ob su su.netlist e lsb ns p.inv p.inv j here fit p.steady (stays_refl su.netlist) z c (d c) x b n q)

        module _ (su : State) (p : IsPart su) (one : 1 ≤ w) (h : HasNets m st (Range e lsb w)) (q : 2 * e + 2 ≤ g) (z : range_known su e lsb w ≡ false) where
          steps_r : IsAgain su (lower_steps (lower_need g m ob) ob (range_steps_of m.exprs e lsb w) su)
          steps_r = range_steps m good ob st i s g (lower_need g m ob) (need_walk supply m good ob g) again e here lsb w one fits su p q h

          after_r : AllAfter ob steps_r.after (range_steps_of m.exprs e lsb w)
          after_r = post m good ob st i s (steps_walk supply m good ob (lower_need g m ob) (need_walk supply m good ob g) (range_steps_of m.exprs e lsb w) su p.inv (range_asked m good.exprs e here lsb w fits)) steps_r

          made_r : Nothing (build_range m.exprs ob steps_r.after e lsb w) steps_r.after.netlist
          made_r = range_nothing m good.exprs ob steps_r.after steps_r.part.inv (signal_bit st) (expression_net st) steps_r.part.nets e here lsb w fits after_r
              (bits_there steps_r.after steps_r.part e lsb w (derived_bits m good ob st i s e lsb w h))

          derived_r : only_whole (expr_at m.exprs e).kind ≡ false → Along (DerivedAt m good.exprs ob steps_r.after.netlist steps_r.after e) lsb made_r.0
          derived_r = (subst (Meets Any (Ranged m good ob steps_r.after steps_r.part.inv steps_r.part.steady e here lsb w fits)) made_r.1
              (ranged m good ob steps_r.after steps_r.part.inv steps_r.part.steady e here lsb w fits after_r)).1

          says_r : lower_need (suc g) m ob (Range e lsb w) su ≡ done (set_range (with_netlist steps_r.after steps_r.after.netlist) e lsb made_r.0)
          says_r = range_step g m ob e lsb w su z ∙ ap (λ o. and_then o (λ st₁. keep_range st₁ e lsb (build_range m.exprs ob st₁ e lsb w))) steps_r.says ∙ range_keep steps_r.after e lsb made_r.1

          -- as many nets as bits
          long : length made_r.0 ≡ w
          long = range_long m good ob steps_r.after steps_r.part.inv e here lsb w fits after_r made_r.0 made_r.1

          range_made : IsAgain su (lower_need (suc g) m ob (Range e lsb w) su)
          unfolding set_range
          range_made = assemble (suc g) (Range e lsb w) su (set_range (with_netlist steps_r.after steps_r.after.netlist) e lsb made_r.0) p (here, fits) says_r steps_r.part.same steps_r.part.bits
              (range_less steps_r.after made_r.0 steps_r.part h long (λ c. stepped m good ob steps_r.after steps_r.part.inv steps_r.part.steady e here lsb w fits c after_r) derived_r)

        range_again : (su : State) → IsPart su → HasNets m st (Range e lsb w) → 2 * e + 2 ≤ g → IsAgain su (lower_need (suc g) m ob (Range e lsb w) su)
        range_again su p h q = go (range_known su e lsb w) refl w refl
          where
            go : (t : Bool) → range_known su e lsb w ≡ t → (v : ℕ) → w ≡ v → IsAgain su (lower_need (suc g) m ob (Range e lsb w) su)
            go true z v y = assemble (suc g) (Range e lsb w) su su p (here, fits) (range_done g m ob e lsb w su z) p.same p.bits (λ j. p.nets)
            go false z zero y = absurd (true≢false (sym (no_bits su e lsb) ∙ ap (range_known su e lsb) (sym y) ∙ z))
            go false z (suc v) y = range_made su p (omega arith) h q z

  -- ---- all of it ----

  pub need_again : (g : ℕ) → Relower m good ob st i s g (lower_need g m ob)
  need_again zero n su p a h q = absurd (omega arith)
  need_again (suc g) (Bit b j) su p a h q = bit_again g (need_again g) b j su p h
  need_again (suc g) (Whole e) su p a h q = whole_again g (need_again g) e a su p h (omega arith)
  need_again (suc g) (Range e lsb w) su p a h q = range_again g (need_again g) e a.0 lsb w a.1 su p h (omega arith)
