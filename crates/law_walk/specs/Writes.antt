-- Each write of the lowering keeps what it must: a later netlist, the nets of an expression or of a range of it, a mark, a signal bit's net. Assumes nothing.
use Rattle.std.proofs.Math.Path.{◌≡◌, refl, sym, ap}
use Rattle.std.proofs.Common.{◌∙◌, not-suc-le-zero}
use Rattle.std.proofs.Math.Logic.{⊎_elim}
use Rattle.std.specs.Prelude.{Bool, ℕ, zero, suc, ◌+◌, ◌≤◌, ◌<◌, get_or}
use Rattle.std.proofs.Math.Bool.{true, false}
use mathlib.Core.List.{List, [], map}
use Rattle.std.proofs.Math.Option.{Option, none, some}
use Rattle.std.proofs.Math.Decide.{ℕ_discrete}
use native.Mathlib.Omega.{arith}
use Rattle.std.proofs.Math.ListN.{length, length-set}
use Rattle.std.proofs.lemmas.List.{length-map}
use Rattle.std.proofs.Math.Seq.{get_or-set_same, get_or-set_other, length-sets}
use Rattle.std.proofs.lemmas.List.Edits.{sets, sets-eq}
use Rattle.spec_rtl.specs.Ops.{slice_w}
use Rattle.spec_rtl.specs.Rtl.{Module, Valuation, word, driver}
use Rattle.spec_rules.specs.Step.{Setting, Contents, rounds, bit_by, perhaps}
use Rattle.spec_model.specs.Words.{Netlist}
use Rattle.spec_model.specs.Ranges.{width_at}
use Rattle.spec_model.specs.Lowering.{State, cell, put, whole, with_netlist, set_whole, set_range, ranges_by, set_signal_bit, mark, signal_width}
use Rattle.word_laws.specs.Widths.{Formed}
use Rattle.law_nets.specs.Meaning.{net_value}
use Rattle.law_nets.specs.Sound.{Cells, count, Sound, Later}
use Rattle.law_nets.specs.Run.{cells_refl}
use Rattle.law_nets.proofs.Run.{later_refl, later_trans, later_count}
use Rattle.law_walk.specs.Tables.{none_some, some_eq, Has, same_cell, put_shaped, put_same, put_other, filled, filled_put, has_sets, known_sets, fits_sets, below_sets}
use Rattle.law_walk.specs.Kept.{Table, Agrees, More, more_refl, more_trans, NetsGive, holds_later, RowGives, row_later, Wide, Held, Inv, Grew}

-- ---- how many nets stand for a word ----

-- the valuation that the nets' values make
abbrev table_values : (ℕ → Bool) → Table → Valuation
table_values g t p i = perhaps false g (cell none t p i)

table_agrees : (g : ℕ → Bool) (t : Table) → Agrees g (table_values g t) t
table_agrees g t = record { at = λ p i n e. ap (perhaps false g) e }

pub holds_length : {l : Netlist} {t : Table} {ns : List ℕ} {w : Valuation → List Bool} → Sound l → NetsGive l t ns w → (k : ℕ) → ((v : Valuation) → length (w v) ≡ k)
    → length ns ≡ k
holds_length {l} {t} {ns} q x k f =
    let s : Setting = λ p i. false in
    let c : Contents = record { reg = λ k i. false; dat = λ k b i. false; mem = λ k a i. false } in
    let g = net_value l s c in
    sym (length-map ns g) ∙ ap length (x.holds l (later_refl q) s c (table_values g t) (table_agrees g t)) ∙ f (table_values g t)

module _ (m : Module) where
  -- ---- the netlist ----

  pub inv_netlist : (st : State) (l : Netlist) → Inv m st → Later st.netlist l → Inv m (with_netlist st l)
  unfolding whole
  inv_netlist st l i a = record {
    sound = a.sound;
    bits = i.bits;
    marks = i.marks;
    nets = λ p b n e. omega (arith, i.nets p b n e, later_count a);
    settles = record { settles = λ h k w s c u n f. i.settles.settles h (later_trans a k) w s c u n f };
    entries = i.entries;
    rows = i.rows;
    wholes = λ e ns q. holds_later a more_refl (i.wholes e ns q);
    cells = i.cells;
    ranges = λ e. row_later a more_refl (i.ranges e);
  }

  pub grew_netlist : (st : State) (l : Netlist) → Later st.netlist l → Cells st.netlist l → Grew st (with_netlist st l)
  unfolding whole
  grew_netlist st l a c = record {
    later = a;
    cells = c;
    more = more_refl;
    framed = record { marks = λ p i e. e; bits = λ p i e. refl };
    wholes = λ e ns h. h;
    held = λ e b h. h;
  }

  -- ---- a whole expression ----

  module _ (st : State) (e : ℕ) (ns : List ℕ) (i : Inv m st) (here : e < length m.exprs) where
    pub whole_same : whole (set_whole st e ns) e ≡ some ns
    unfolding whole set_whole
    whole_same = get_or-set_same st.expression_bits e (some ns) none (omega (arith, i.entries))

    whole_other : (x : ℕ) → (x ≡ e → ⊥) → whole (set_whole st e ns) x ≡ whole st x
    unfolding whole set_whole
    whole_other x g = get_or-set_other st.expression_bits e x (some ns) none g

    row_same : get_or (set_whole st e ns).expression_ranges e [] ≡ []
    unfolding set_whole
    row_same = get_or-set_same st.expression_ranges e [] [] (omega (arith, i.rows))

    row_other : (x : ℕ) → (x ≡ e → ⊥) → get_or (set_whole st e ns).expression_ranges x [] ≡ get_or st.expression_ranges x []
    unfolding set_whole
    row_other x g = get_or-set_other st.expression_ranges e x [] [] g

    pub inv_whole : NetsGive st.netlist st.signal_bits ns (λ v. word m.exprs v e) → Inv m (set_whole st e ns)
    unfolding set_whole
    inv_whole h = record {
      sound = i.sound;
      bits = i.bits;
      marks = i.marks;
      nets = i.nets;
      settles = i.settles;
      entries = length-set st.expression_bits e (some ns) ∙ i.entries;
      rows = length-set st.expression_ranges e [] ∙ i.rows;
      wholes = λ x ks q. wholes x ks q (ℕ_discrete x e);
      cells = λ x b q. cells x b q (ℕ_discrete x e);
      ranges = λ x. ranges x (ℕ_discrete x e);
    }
      where
        wholes : (x : ℕ) (ks : List ℕ) → whole (set_whole st e ns) x ≡ some ks → Dec (x ≡ e) → NetsGive st.netlist st.signal_bits ks (λ v. word m.exprs v x)
        wholes x ks q (yes p) =
            let r : ns ≡ ks = some_eq (sym whole_same ∙ ap (whole (set_whole st e ns)) (sym p) ∙ q) in
            rw (p, ← r) h
        wholes x ks q (no g) = i.wholes x ks (sym (whole_other x g) ∙ q)

        cells : (x : ℕ) → x < length m.exprs → whole (set_whole st e ns) x ≡ none → Dec (x ≡ e)
            → length (get_or (set_whole st e ns).expression_ranges x []) ≡ width_at m.exprs x
        cells x b q (yes p) = absurd (none_some (sym q ∙ ap (whole (set_whole st e ns)) p ∙ whole_same))
        cells x b q (no g) = ap length (row_other x g) ∙ i.cells x b (sym (whole_other x g) ∙ q)

        ranges : (x : ℕ) → Dec (x ≡ e) → RowGives st.netlist st.signal_bits (get_or (set_whole st e ns).expression_ranges x []) (λ v. word m.exprs v x)
        ranges x (yes p) = rw (p, row_same) (record { there = λ b n q. absurd (none_some q); holds = λ l a s c v g. record { fits = λ b n q. absurd (none_some q) } })
        ranges x (no g) = rw (row_other x g) (i.ranges x)

    -- the expression had no nets when its lowering began
    pub grew_whole : {st₀ : State} → Grew st₀ st → whole st₀ e ≡ none → Grew st₀ (set_whole st e ns)
    unfolding set_whole
    grew_whole {st₀} g z = record {
      later = g.later;
      cells = g.cells;
      more = g.more;
      framed = record { marks = g.framed.marks; bits = g.framed.bits };
      wholes = λ x ks h. wholes x ks h (ℕ_discrete x e);
      held = λ x b h. held x b (g.held x b h) (ℕ_discrete x e);
    }
      where
        wholes : (x : ℕ) (ks : List ℕ) → whole st₀ x ≡ some ks → Dec (x ≡ e) → whole (set_whole st e ns) x ≡ some ks
        wholes x ks h (yes p) = absurd (none_some (sym z ∙ ap (whole st₀) (sym p) ∙ h))
        wholes x ks h (no q) = whole_other x q ∙ g.wholes x ks h

        held : (x b : ℕ) → Held st x b → Dec (x ≡ e) → Held (set_whole st e ns) x b
        held x b h (yes p) = rw (ap (whole (set_whole st e ns)) p ∙ whole_same) tt
        held x b h (no q) = rw (whole_other x q, row_other x q) h

    pub has_whole : Has (whole (set_whole st e ns) e)
    has_whole = record { value = ns; is = whole_same }

  -- ---- a range of an expression ----

  module _ (st : State) (e lsb : ℕ) (ns : List ℕ) (i : Inv m st) (f : Formed m.exprs) (here : e < length m.exprs) (fits : lsb + length ns ≤ width_at m.exprs e) where
    range_whole : (x : ℕ) → whole (set_range st e lsb ns) x ≡ whole st x
    unfolding whole set_range
    range_whole x = refl

    range_other : (x : ℕ) → (x ≡ e → ⊥) → get_or (set_range st e lsb ns).expression_ranges x [] ≡ get_or st.expression_ranges x []
    unfolding set_range
    range_other x g = get_or-set_other st.expression_ranges e x _ [] g

    range_row_law : get_or (set_range st e lsb ns).expression_ranges e [] ≡ ranges_by (whole st e) (get_or st.expression_ranges e []) lsb ns
    unfolding set_range
    range_row_law = get_or-set_same st.expression_ranges e _ [] (omega (arith, i.rows))

    -- the row where the whole is not there
    pub range_sets : whole st e ≡ none → get_or (set_range st e lsb ns).expression_ranges e [] ≡ sets (get_or st.expression_ranges e []) lsb (map some ns)
    range_sets q =
        let r = get_or st.expression_ranges e [] in
        let k : length (map some ns) ≡ length ns = length-map ns (λ (n : ℕ). some n) in
        let h : lsb + length (map some ns) ≤ length r = omega (arith, i.cells e here q) in
        range_row_law ∙ rw q (sym (sets-eq (map some ns) r lsb h ∙ rw k))

    range_stays : (ks : List ℕ) → whole st e ≡ some ks → get_or (set_range st e lsb ns).expression_ranges e [] ≡ get_or st.expression_ranges e []
    range_stays ks q = range_row_law ∙ rw q

    pub inv_range : NetsGive st.netlist st.signal_bits ns (λ v. slice_w lsb (length ns) (word m.exprs v e)) → Inv m (set_range st e lsb ns)
    unfolding set_range
    inv_range h = record {
      sound = i.sound;
      bits = i.bits;
      marks = i.marks;
      nets = i.nets;
      settles = i.settles;
      entries = i.entries;
      rows = length-set st.expression_ranges e _ ∙ i.rows;
      wholes = λ x ks q. i.wholes x ks (sym (range_whole x) ∙ q);
      cells = λ x b q. cells x b q (ℕ_discrete x e);
      ranges = λ x. ranges x (ℕ_discrete x e) (whole st e) refl;
    }
      where
        cells : (x : ℕ) → x < length m.exprs → whole (set_range st e lsb ns) x ≡ none → Dec (x ≡ e)
            → length (get_or (set_range st e lsb ns).expression_ranges x []) ≡ width_at m.exprs x
        cells x b q (yes p) =
            let q' : whole st e ≡ none = ap (whole st) (sym p) ∙ sym (range_whole x) ∙ q in
            rw p (ap length (range_sets q') ∙ length-sets (get_or st.expression_ranges e []) lsb (map some ns) ∙ i.cells e here q')
        cells x b q (no g) = ap length (range_other x g) ∙ i.cells x b (sym (range_whole x) ∙ q)

        ranges : (x : ℕ) → Dec (x ≡ e) → (o : Option (List ℕ)) → whole st e ≡ o
            → RowGives st.netlist st.signal_bits (get_or (set_range st e lsb ns).expression_ranges x []) (λ v. word m.exprs v x)
        ranges x (yes p) (some ks) q = rw (p, range_stays ks q) (i.ranges e)
        ranges x (yes p) none q = rw (p, range_sets q) (record {
          there = below_sets (count st.netlist) ns (get_or st.expression_ranges e []) lsb h.there (i.ranges e).there;
          holds = λ l a s c v g. fits_sets (net_value l s c) ns (get_or st.expression_ranges e []) (word m.exprs v e) lsb
              ((i.ranges e).holds l a s c v g) (sym (h.holds l a s c v g));
        })
        ranges x (no g) o q = rw (range_other x g) (i.ranges x)

    range_held : (x b : ℕ) → Dec (x ≡ e) → (o : Option (List ℕ)) → whole st e ≡ o → Held st x b → Held (set_range st e lsb ns) x b
    range_held x b (yes p) (some ks) q h = rw (ap (whole (set_range st e lsb ns)) p ∙ range_whole e ∙ q) tt
    range_held x b (yes p) none q h = rw (p, range_whole e, q, range_sets q) (has_sets ns (get_or st.expression_ranges e []) lsb b (rw (p, q) at h))
    range_held x b (no g) o q h = rw (range_whole x, range_other x g) h

    pub grew_range : Grew st (set_range st e lsb ns)
    unfolding set_range
    grew_range = record {
      later = later_refl i.sound;
      cells = cells_refl;
      more = more_refl;
      framed = record { marks = λ p b q. q; bits = λ p b q. refl };
      wholes = λ x ks h. range_whole x ∙ h;
      held = λ x b h. range_held x b (ℕ_discrete x e) (whole st e) refl h;
    }

    pub has_range : (b : ℕ) → lsb ≤ b → b < lsb + length ns → Held (set_range st e lsb ns) e b
    has_range b h k = go (whole st e) refl
      where
        go : (o : Option (List ℕ)) → whole st e ≡ o → Held (set_range st e lsb ns) e b
        go (some ks) q = rw (range_whole e, q) tt
        go none q = rw (range_whole e, q, range_sets q) ((known_sets ns (get_or st.expression_ranges e []) lsb (omega (arith, i.cells e here q))).known b h k)

  -- ---- marks ----

  module _ (st : State) (s b : ℕ) (i : Inv m st) where
    pub inv_mark : Inv m (mark st s b)
    unfolding whole mark
    inv_mark = record {
      sound = i.sound;
      bits = i.bits;
      marks = put_shaped st.resolving s b true i.marks;
      nets = i.nets;
      settles = i.settles;
      entries = i.entries;
      rows = i.rows;
      wholes = i.wholes;
      cells = i.cells;
      ranges = i.ranges;
    }

    pub marked : s < length m.signals → b < signal_width m s → cell false (mark st s b).resolving s b ≡ true
    unfolding mark
    marked h k = put_same false st.resolving s b true (omega (arith, i.marks.rows)) (omega (arith, i.marks.cells s h))

  -- ---- a signal bit's net ----

  module _ (st : State) (s b n : ℕ) (i : Inv m st) (here : s < length m.signals) (inside : b < signal_width m s) (free : cell none st.signal_bits s b ≡ none) where
    bit_same : cell none (put st.signal_bits s b (some n)) s b ≡ some n
    bit_same = put_same none st.signal_bits s b (some n) (omega (arith, i.bits.rows)) (omega (arith, i.bits.cells s here))

    pub bit_more : More st.signal_bits (put st.signal_bits s b (some n))
    bit_more = record { more = λ p j k e. put_other none st.signal_bits s b (some n) p j (apart p j k e) ∙ e }
      where
        apart : (p j k : ℕ) → cell none st.signal_bits p j ≡ some k → (p ≡ s) × (j ≡ b) → ⊥
        apart p j k e x = none_some (sym free ∙ (rw (x.0, x.1) at e))

    -- the bit's driver gives the net's value, whatever agrees
    pub inv_bit : n < count st.netlist
        → ((h : Netlist) → Later st.netlist h → (x : Setting) (c : Contents) (v : Valuation) → Agrees (net_value h x c) v st.signal_bits
        → bit_by m x c v s b (driver m s b) ≡ net_value h x c n)
        → Inv m (set_signal_bit st s b n)
    unfolding whole set_signal_bit
    inv_bit there d = record {
      sound = i.sound;
      bits = put_shaped st.signal_bits s b (some n) i.bits;
      marks = i.marks;
      nets = nets;
      settles = record { settles = settles };
      entries = i.entries;
      rows = i.rows;
      wholes = λ e ns q. holds_later (later_refl i.sound) bit_more (i.wholes e ns q);
      cells = i.cells;
      ranges = λ e. row_later (later_refl i.sound) bit_more (i.ranges e);
    }
      where
        nets : (p j k : ℕ) → cell none (put st.signal_bits s b (some n)) p j ≡ some k → k < count st.netlist
        nets p j k e = ⊎_elim
            (λ (x : (p ≡ s) × (j ≡ b)).
            let r : n ≡ k = some_eq (sym bit_same ∙ (rw (x.0, x.1) at e)) in
            rw (← r) there)
            (λ (x : (p ≡ s) × (j ≡ b) → ⊥). i.nets p j k (sym (put_other none st.signal_bits s b (some n) p j x) ∙ e))
            (same_cell p j s b)

        agrees : (h : Netlist) → Later st.netlist h → Wide m h → (x : Setting) (c : Contents) (u : Valuation) (q : ℕ) → filled st.signal_bits < q → (p j k : ℕ)
            → cell none (put st.signal_bits s b (some n)) p j ≡ some k → rounds m x c u (suc q) p j ≡ net_value h x c k
        agrees h a w x c u q f p j k e = ⊎_elim
            (λ (y : (p ≡ s) × (j ≡ b)).
            let r : n ≡ k = some_eq (sym bit_same ∙ (rw (y.0, y.1) at e)) in
            rw (y.0, y.1, ← r) (d h a x c (rounds m x c u q) (i.settles.settles h a w x c u q f)))
            (λ (y : (p ≡ s) × (j ≡ b) → ⊥).
            (i.settles.settles h a w x c u (suc q) (omega arith)).at p j k (sym (put_other none st.signal_bits s b (some n) p j y) ∙ e))
            (same_cell p j s b)

        settles : (h : Netlist) → Later st.netlist h → Wide m h → (x : Setting) (c : Contents) (u : Valuation) (q : ℕ) → filled (put st.signal_bits s b (some n)) < q
            → Agrees (net_value h x c) (rounds m x c u q) (put st.signal_bits s b (some n))
        settles h a w x c u zero f = absurd (not-suc-le-zero f)
        settles h a w x c u (suc q) f =
            let y = filled_put st.signal_bits s b n (omega (arith, i.bits.rows)) (omega (arith, i.bits.cells s here)) free in
            record { at = agrees h a w x c u q (omega arith) }

    pub grew_bit : cell false st.resolving s b ≡ true → {st₀ : State} → Grew (mark st₀ s b) st → cell false st₀.resolving s b ≡ false
        → Grew st₀ (set_signal_bit st s b n)
    unfolding whole mark set_signal_bit
    grew_bit q {st₀} g z = record {
      later = g.later;
      cells = g.cells;
      more = more_trans g.more bit_more;
      framed = record {
        marks = λ p j e. g.framed.marks p j (put_other false st₀.resolving s b true p j (apart p j e) ∙ e);
        bits = λ p j e. put_other none st.signal_bits s b (some n) p j (apart p j e)
            ∙ g.framed.bits p j (put_other false st₀.resolving s b true p j (apart p j e) ∙ e);
      };
      wholes = g.wholes;
      held = g.held;
    }
      where
        apart : (p j : ℕ) → cell false st₀.resolving p j ≡ true → (p ≡ s) × (j ≡ b) → ⊥
        apart p j e x =
            let y : cell false st₀.resolving s b ≡ true = rw (x.0, x.1) at e in
            let k : ◌≡◌ {A = ℕ} 0 1 = cc in omega arith

    pub has_bit : Has (cell none (set_signal_bit st s b n).signal_bits s b)
    unfolding set_signal_bit
    has_bit = record { value = n; is = bit_same }
