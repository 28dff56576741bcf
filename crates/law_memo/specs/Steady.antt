-- A steady state: each expression's bit that has a net has the one that is derived from the nets below it. Whatever the lowering writes, the state
-- stays steady, and no bit's net changes. Assumes nothing.
use Rattle.std.specs.Prelude.{◌≡◌, ◌⊎◌, Bool, true, false, ℕ, ◌+◌, ◌≤◌, ◌<◌, length}
use Rattle.std.proofs.Math.Path.{refl, ap, ap₂, subst}
use Rattle.std.proofs.Common.{sym, ◌∙◌, inr, true≢false, arith}
use Rattle.std.proofs.Math.Logic.{inl, ⊎_map}
use mathlib.Core.List.{List, [], map}
use Rattle.std.proofs.Math.Option.{Option, none, some}
use Rattle.std.proofs.Math.Decide.{ℕ_discrete}
use Rattle.std.proofs.Math.ListN.{get_or, get_elem?}
use Rattle.std.proofs.Math.Seq.{get_or-set_other}
use Rattle.std.proofs.lemmas.List.Edits.{sets}
use Rattle.spec_rtl.specs.Rtl.{Module}
use Rattle.spec_model.specs.Words.{Netlist}
use Rattle.spec_model.specs.Ranges.{expr_at, width_at}
use Rattle.spec_model.specs.Lowering.{State, cell, whole, with_netlist, set_whole, set_range, expression_net, signal_bit}
use Rattle.word_laws.specs.Widths.{Formed}
use Rattle.law_nets.specs.Nodes.{count_grew}
use Rattle.law_walk.specs.Tables.{some_eq, Has, has_sets}
use Rattle.law_walk.specs.Kept.{Inv}
use Rattle.law_walk.specs.Writes.{whole_same, range_sets}
use Rattle.law_repeats.specs.Again.{Stays, stays_refl, stays_trans}
use Rattle.law_memo.specs.Along.{Along, along_get, along_within, written}
use Rattle.law_memo.specs.Derived.{only_whole, Derived, derived_single}
use Rattle.law_memo.specs.Later.{There, Knows, derived_later}
use Rattle.law_memo.specs.Reads.{whole_net_law, net_whole, range_net, net_range, nets_there, net_here, net_bit, held_net}

-- st' comes after st: the netlist gives what it gave, and each bit that has a net has the same one
pub record Onward (st st' : State) : Type 0 where
  pub stays : Stays st.netlist st'.netlist
  pub bits : Knows (signal_bit st) (signal_bit st')
  pub nets : Knows (expression_net st) (expression_net st')

pub onward_refl : {st : State} → Onward st st
onward_refl {st} = record { stays = stays_refl st.netlist; bits = λ e b n h. h; nets = λ e b n h. h }

pub onward_trans : {st st' st'' : State} → Onward st st' → Onward st' st'' → Onward st st''
onward_trans a b = record {
  stays = stays_trans a.stays b.stays;
  bits = λ p j n h. b.bits p j n (a.bits p j n h);
  nets = λ e j n h. b.nets e j n (a.nets e j n h);
}

module _ (m : Module) (f : Formed m.exprs) (ob : Bool) where
  -- over another netlist
  abbrev pub DerivedAt : Netlist → State → ℕ → ℕ → ℕ → Type 0
  DerivedAt l st e b n = Derived m ob l (signal_bit st) (expression_net st) e b n

  pub record Steady (st : State) : Type 0 where
    pub derived : (e b n : ℕ) → expression_net st e b ≡ some n → DerivedAt st.netlist st e b n
    pub only : (e b n : ℕ) → only_whole (expr_at m.exprs e).kind ≡ true → expression_net st e b ≡ some n → Has (whole st e)

  -- what is derived is derived later
  pub derived_onward : (st st' : State) → Inv m st → Onward st st' → (e b n : ℕ) → e < length m.exprs → DerivedAt st.netlist st e b n → DerivedAt st'.netlist st' e b n
  derived_onward st st' i o e b n here h =
      derived_later m f ob st.netlist i.sound (signal_bit st) (expression_net st) (nets_there m st i) st'.netlist o.stays (signal_bit st') (expression_net st') o.bits e here (λ a j k low x. o.nets a j k x) b n h

  pub record Keeps (st st' : State) : Type 0 where
    pub onward : Onward st st'
    pub steady : Steady st'

  pub keeps_refl : {st : State} → Steady st → Keeps st st
  keeps_refl s = record { onward = onward_refl; steady = s }

  pub keeps_trans : {st st' st'' : State} → Onward st st' → Keeps st' st'' → Keeps st st''
  keeps_trans a b = record { onward = onward_trans a b.onward; steady = b.steady }

  -- a write: each net that is there now was there, or is derived
  module _ (st st' : State) (i : Inv m st) (i' : Inv m st') (s : Steady st) (stays : Stays st.netlist st'.netlist) (bits : Knows (signal_bit st) (signal_bit st'))
      (held : (e b n : ℕ) → expression_net st e b ≡ some n → Has (expression_net st' e b))
      (old : (e b n : ℕ) → expression_net st' e b ≡ some n → (expression_net st e b ≡ some n) ⊎ DerivedAt st'.netlist st e b n)
      (only : (e b n : ℕ) → only_whole (expr_at m.exprs e).kind ≡ true → expression_net st' e b ≡ some n → Has (whole st' e)) where
    there : There st'.netlist (expression_net st)
    there e b n h = omega (arith, nets_there m st i e b n h, count_grew stays.grew)

    first : (e b n : ℕ) → expression_net st e b ≡ some n → DerivedAt st'.netlist st e b n
    first e b n h =
        derived_later m f ob st.netlist i.sound (signal_bit st) (expression_net st) (nets_there m st i) st'.netlist stays (signal_bit st) (expression_net st) (λ p j k x. x)
        e (net_here m st i e b n h) (λ a j k low x. x) b n (s.derived e b n h)

    same : (e b n k : ℕ) → expression_net st e b ≡ some n → (expression_net st e b ≡ some k) ⊎ DerivedAt st'.netlist st e b k → n ≡ k
    same e b n k h (inl q) = some_eq (sym h ∙ q)
    same e b n k h (inr d) = derived_single m ob st'.netlist (signal_bit st) (expression_net st) e b n k (first e b n h) d

    nets : Knows (expression_net st) (expression_net st')
    nets e b n h =
        let k = held e b n h in
        k.is ∙ ap some (sym (same e b n k.value h (old e b k.value k.is)))

    now : (e b n : ℕ) → e < length m.exprs → DerivedAt st'.netlist st e b n → DerivedAt st'.netlist st' e b n
    now e b n here d =
        derived_later m f ob st'.netlist i'.sound (signal_bit st) (expression_net st) there st'.netlist (stays_refl st'.netlist) (signal_bit st') (expression_net st') bits e here (λ a j k low x. nets a j k x) b n d

    derived : (e b n : ℕ) → expression_net st' e b ≡ some n → DerivedAt st'.netlist st' e b n
    derived e b n h = now e b n (net_here m st' i' e b n h) (go (old e b n h))
      where
        go : (expression_net st e b ≡ some n) ⊎ DerivedAt st'.netlist st e b n → DerivedAt st'.netlist st e b n
        go (inl q) = first e b n q
        go (inr d) = d

    pub write_keeps : Keeps st st'
    write_keeps = record { onward = record { stays = stays; bits = bits; nets = nets }; steady = record { derived = derived; only = only } }

  -- ---- the writes ----

  -- the nets of expressions stay as they are
  module _ (st st' : State) (i : Inv m st) (i' : Inv m st') (s : Steady st) (stays : Stays st.netlist st'.netlist) (bits : Knows (signal_bit st) (signal_bit st'))
      (wholes : st'.expression_bits ≡ st.expression_bits) (ranges : st'.expression_ranges ≡ st.expression_ranges) where
    net_same : (e b : ℕ) → expression_net st' e b ≡ expression_net st e b
    unfolding expression_net whole
    net_same e b = ap₂ (λ (x : List (Option (List ℕ))) (y : List (List (Option ℕ))). elim (get_or x e none) [ some ns ↦ get_elem? ns b | none ↦ cell none y e b ]) wholes ranges

    whole_is : (e : ℕ) → whole st' e ≡ whole st e
    unfolding whole
    whole_is e = ap (λ (x : List (Option (List ℕ))). get_or x e none) wholes

    pub same_keeps : Keeps st st'
    same_keeps = write_keeps st st' i i' s stays bits (λ e b n h. record { value = n; is = net_same e b ∙ h }) (λ e b n h. inl (sym (net_same e b) ∙ h))
        (λ e b n q h. let w = s.only e b n q (sym (net_same e b) ∙ h) in record { value = w.value; is = whole_is e ∙ w.is })

  -- an expression's nets as a whole, over the netlist l
  module _ (st : State) (l : Netlist) (e : ℕ) (ns : List ℕ) (i : Inv m st) (i₁ : Inv m (with_netlist st l)) (i' : Inv m (set_whole (with_netlist st l) e ns)) (here : e < length m.exprs)
      (s : Steady st) (stays : Stays st.netlist l) (new : Along (DerivedAt l st e) 0 ns) where
    other_net : (x b : ℕ) → (x ≡ e → ⊥) → expression_net (set_whole (with_netlist st l) e ns) x b ≡ expression_net st x b
    unfolding expression_net whole set_whole
    other_net x b g = ap₂ (λ (o : Option (List ℕ)) (r : List (Option ℕ)). elim o [ some ks ↦ get_elem? ks b | none ↦ get_or r b none ])
        (get_or-set_other st.expression_bits e x (some ns) none g) (get_or-set_other st.expression_ranges e x [] [] g)

    other_whole : (x : ℕ) → (x ≡ e → ⊥) → whole (set_whole (with_netlist st l) e ns) x ≡ whole st x
    unfolding whole set_whole
    other_whole x g = get_or-set_other st.expression_bits e x (some ns) none g

    is_whole_law : whole (set_whole (with_netlist st l) e ns) e ≡ some ns
    is_whole_law = whole_same m (with_netlist st l) e ns i₁ here

    -- a net that is there now was there, or is one of these
    pub whole_old : (x b n : ℕ) → expression_net (set_whole (with_netlist st l) e ns) x b ≡ some n → (expression_net st x b ≡ some n) ⊎ ((x ≡ e) × DerivedAt l st e b n)
    whole_old x b n h = elim (ℕ_discrete x e) [
      | yes q ↦ inr (
        q,
        along_get (DerivedAt l st e) ns b n
            (net_whole (set_whole (with_netlist st l) e ns) e ns is_whole_law b n (ap (λ (y : ℕ). expression_net (set_whole (with_netlist st l) e ns) y b) (sym q) ∙ h)) new,
      )
      | no g ↦ inl (sym (other_net x b g) ∙ h)
    ]

    pub whole_keeps : Keeps st (set_whole (with_netlist st l) e ns)
    unfolding signal_bit set_whole
    whole_keeps = write_keeps st (set_whole (with_netlist st l) e ns) i i' s stays (λ p j n h. h) held old only
      where
        held : (x b n : ℕ) → expression_net st x b ≡ some n → Has (expression_net (set_whole (with_netlist st l) e ns) x b)
        held x b n h = elim (ℕ_discrete x e) [
          | yes q ↦ (
              let b' : b < width_at m.exprs e = subst (λ (y : ℕ). b < width_at m.exprs y) q (net_bit m st i f x (net_here m st i x b n h) b n h) in
              let t = held_net m (set_whole (with_netlist st l) e ns) i' f e here b b' (rw is_whole_law tt) in
              record { value = t.value; is = ap (λ (y : ℕ). expression_net (set_whole (with_netlist st l) e ns) y b) q ∙ t.is })
          | no g ↦ record { value = n; is = other_net x b g ∙ h }
        ]

        old : (x b n : ℕ) → expression_net (set_whole (with_netlist st l) e ns) x b ≡ some n → (expression_net st x b ≡ some n) ⊎ DerivedAt l st x b n
        old x b n h = ⊎_map (λ q. q) (λ q. subst (λ (y : ℕ). DerivedAt l st y b n) (sym q.0) q.1) (whole_old x b n h)

        only : (x b n : ℕ) → only_whole (expr_at m.exprs x).kind ≡ true → expression_net (set_whole (with_netlist st l) e ns) x b ≡ some n → Has (whole (set_whole (with_netlist st l) e ns) x)
        only x b n k h = elim (ℕ_discrete x e) [
          | yes q ↦ record { value = ns; is = ap (whole (set_whole (with_netlist st l) e ns)) q ∙ is_whole_law }
          | no g ↦ (let w = s.only x b n k (sym (other_net x b g) ∙ h) in record { value = w.value; is = other_whole x g ∙ w.is })
        ]

  -- the nets of a range of an expression, over the netlist l; where the whole is there, they are not kept
  module _ (st : State) (l : Netlist) (e lsb : ℕ) (ns : List ℕ) (i : Inv m st) (i₁ : Inv m (with_netlist st l)) (i' : Inv m (set_range (with_netlist st l) e lsb ns)) (here : e < length m.exprs)
      (fits : lsb + length ns ≤ width_at m.exprs e) (s : Steady st) (stays : Stays st.netlist l) where
    range_other_net : (x b : ℕ) → (x ≡ e → ⊥) → expression_net (set_range (with_netlist st l) e lsb ns) x b ≡ expression_net st x b
    unfolding expression_net whole set_range
    range_other_net x b g = ap (λ (r : List (Option ℕ)). elim (get_or st.expression_bits x none) [ some ks ↦ get_elem? ks b | none ↦ get_or r b none ])
        (get_or-set_other st.expression_ranges e x _ [] g)

    whole_kept : (x : ℕ) → whole (set_range (with_netlist st l) e lsb ns) x ≡ whole st x
    unfolding whole set_range
    whole_kept x = refl

    kept_only : (x b n : ℕ) → (expression_net (set_range (with_netlist st l) e lsb ns) x b ≡ some n → expression_net st x b ≡ some n)
        → only_whole (expr_at m.exprs x).kind ≡ true → expression_net (set_range (with_netlist st l) e lsb ns) x b ≡ some n → Has (whole (set_range (with_netlist st l) e lsb ns) x)
    kept_only x b n g k h = let w = s.only x b n k (g h) in record { value = w.value; is = whole_kept x ∙ w.is }

    -- the whole is there
    module _ (ks : List ℕ) (q : whole st e ≡ some ks) where
      pub net_kept : (x b n : ℕ) → expression_net (set_range (with_netlist st l) e lsb ns) x b ≡ some n → expression_net st x b ≡ some n
      net_kept x b n h = elim (ℕ_discrete x e) [
        | yes p ↦ (
            let h' = ap (λ (y : ℕ). expression_net (set_range (with_netlist st l) e lsb ns) y b) (sym p) ∙ h in
            ap (λ (y : ℕ). expression_net st y b) p ∙ whole_net_law st e ks q b n (net_whole (set_range (with_netlist st l) e lsb ns) e ks (whole_kept e ∙ q) b n h'))
        | no g ↦ sym (range_other_net x b g) ∙ h
      ]

      kept_net : (x b n : ℕ) → expression_net st x b ≡ some n → expression_net (set_range (with_netlist st l) e lsb ns) x b ≡ some n
      kept_net x b n h = elim (ℕ_discrete x e) [
        | yes p ↦ (
            let h' = ap (λ (y : ℕ). expression_net st y b) (sym p) ∙ h in
            ap (λ (y : ℕ). expression_net (set_range (with_netlist st l) e lsb ns) y b) p ∙ whole_net_law (set_range (with_netlist st l) e lsb ns) e ks (whole_kept e ∙ q) b n (net_whole st e ks q b n h'))
        | no g ↦ range_other_net x b g ∙ h
      ]

      pub known_keeps : Keeps st (set_range (with_netlist st l) e lsb ns)
      unfolding signal_bit set_range
      known_keeps = write_keeps st (set_range (with_netlist st l) e lsb ns) i i' s stays (λ p j n h. h) (λ x b n h. record { value = n; is = kept_net x b n h })
          (λ x b n h. inl (net_kept x b n h)) (λ x b n k h. kept_only x b n (net_kept x b n) k h)

    -- it is not
    module _ (q : whole st e ≡ none) (k : only_whole (expr_at m.exprs e).kind ≡ false) (new : Along (DerivedAt l st e) lsb ns) where
      no_whole : whole (with_netlist st l) e ≡ none
      unfolding whole
      no_whole = q

      row_is : get_or (set_range (with_netlist st l) e lsb ns).expression_ranges e [] ≡ sets (get_or st.expression_ranges e []) lsb (map some ns)
      row_is = range_sets m (with_netlist st l) e lsb ns i₁ f here fits no_whole

      -- a bit of the range
      abbrev New : ℕ → ℕ → Type 0
      New b n = (lsb ≤ b) × (b < lsb + length ns) × DerivedAt l st e b n

      row_old : (b n : ℕ) → expression_net (set_range (with_netlist st l) e lsb ns) e b ≡ some n → (expression_net st e b ≡ some n) ⊎ New b n
      row_old b n h = ⊎_map (range_net st e q b n) (λ z. z) (written New ns (get_or st.expression_ranges e []) lsb (along_within (DerivedAt l st e) lsb ns new) b n
          (ap (λ (r : List (Option ℕ)). get_or r b none) (sym row_is) ∙ net_range (set_range (with_netlist st l) e lsb ns) e (whole_kept e ∙ q) b n h))

      pub range_old : (x b n : ℕ) → expression_net (set_range (with_netlist st l) e lsb ns) x b ≡ some n → (expression_net st x b ≡ some n) ⊎ ((x ≡ e) × New b n)
      range_old x b n h = elim (ℕ_discrete x e) [
        | yes p ↦ ⊎_map (λ z. ap (λ (y : ℕ). expression_net st y b) p ∙ z) (λ z. (p, z)) (row_old b n (ap (λ (y : ℕ). expression_net (set_range (with_netlist st l) e lsb ns) y b) (sym p) ∙ h))
        | no g ↦ inl (sym (range_other_net x b g) ∙ h)
      ]

      row_held : (b n : ℕ) → expression_net st e b ≡ some n → Has (expression_net (set_range (with_netlist st l) e lsb ns) e b)
      row_held b n h =
          let t = has_sets ns (get_or st.expression_ranges e []) lsb b (record { value = n; is = net_range st e q b n h }) in
          record { value = t.value; is = range_net (set_range (with_netlist st l) e lsb ns) e (whole_kept e ∙ q) b t.value (ap (λ (r : List (Option ℕ)). get_or r b none) row_is ∙ t.is) }

      pub range_keeps : Keeps st (set_range (with_netlist st l) e lsb ns)
      unfolding signal_bit set_range
      range_keeps = write_keeps st (set_range (with_netlist st l) e lsb ns) i i' s stays (λ p j n h. h) held old only
        where
          held : (x b n : ℕ) → expression_net st x b ≡ some n → Has (expression_net (set_range (with_netlist st l) e lsb ns) x b)
          held x b n h = elim (ℕ_discrete x e) [
            | yes p ↦ (
                let t = row_held b n (ap (λ (y : ℕ). expression_net st y b) (sym p) ∙ h) in
                record { value = t.value; is = ap (λ (y : ℕ). expression_net (set_range (with_netlist st l) e lsb ns) y b) p ∙ t.is })
            | no g ↦ record { value = n; is = range_other_net x b g ∙ h }
          ]

          old : (x b n : ℕ) → expression_net (set_range (with_netlist st l) e lsb ns) x b ≡ some n → (expression_net st x b ≡ some n) ⊎ DerivedAt l st x b n
          old x b n h = ⊎_map (λ z. z) (λ z. subst (λ (y : ℕ). DerivedAt l st y b n) (sym z.0) z.1.2) (range_old x b n h)

          only : (x b n : ℕ) → only_whole (expr_at m.exprs x).kind ≡ true → expression_net (set_range (with_netlist st l) e lsb ns) x b ≡ some n → Has (whole (set_range (with_netlist st l) e lsb ns) x)
          only x b n c h = elim (ℕ_discrete x e) [
            | yes p ↦ absurd (true≢false (sym c ∙ ap (λ (y : ℕ). only_whole (expr_at m.exprs y).kind) p ∙ k))
            | no g ↦ kept_only x b n (λ y. sym (range_other_net x b g) ∙ y) c h
          ]
