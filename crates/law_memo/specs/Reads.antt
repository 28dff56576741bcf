-- The tables of a state that the lowering keeps: an expression's nets as it reads them, whole or by a range, are those that the tables know. Assumes nothing.
use Rattle.std.specs.Prelude.{◌≡◌, ℕ, zero, suc, ◌+◌, ◌≤◌, ◌<◌, take, drop}
use Rattle.std.proofs.Math.Path.{refl, ap}
use Rattle.std.proofs.Common.{sym, ◌∙◌, not-suc-le-zero, le_of_suc-le-suc, arith, length-drop}
use mathlib.Core.List.{List, [], ◌∷◌, map}
use Rattle.std.proofs.Math.Option.{Option, none, some}
use Rattle.std.proofs.Math.ListN.{length, get_or, get_elem?, length-take}
use Rattle.std.proofs.lemmas.List.{length-map}
use Rattle.spec_rtl.specs.Rtl.{Module}
use Rattle.spec_model.specs.Ranges.{width_at}
use Rattle.spec_model.specs.Lowering.{State, Range, cell, net_of, whole, whole_nets, range_nets, range_by, expression_net}
use Rattle.word_laws.specs.Widths.{AllBelow, Formed}
use Rattle.law_nets.specs.Sound.{count}
use Rattle.law_walk.specs.Tables.{none_some, Has, Known}
use Rattle.law_walk.specs.Kept.{Inv, Held, HeldBy}
use Rattle.law_walk.specs.Reads.{After}
use Rattle.law_walk.proofs.ReadsLaws.{whole_length}
use Rattle.law_phases.specs.Sources.{inside}
use Rattle.law_memo.specs.Along.{Along, Cell, along_map, along_whole, along_slice, row_along}
use Rattle.law_memo.specs.Derived.{Net, Nets}
use Rattle.law_memo.specs.Later.{There}

pub elem_below : (k : ℕ) (ns : List ℕ) (i n : ℕ) → AllBelow k ns → get_elem? ns i ≡ some n → n < k
elem_below k [] i n h e = absurd (none_some e)
elem_below k (x ∷ ns) zero n h e = let q : x ≡ n = cc in rw (← q) h.0
elem_below k (x ∷ ns) (suc i) n h e = elem_below k ns i n h.1 e

-- what is read by index is there
some_inside : {A : Type 0} (xs : List (Option A)) (i : ℕ) (a : A) → get_or xs i none ≡ some a → i < length xs
some_inside [] i a e = absurd (none_some e)
some_inside (x ∷ xs) zero a e = omega arith
some_inside (x ∷ xs) (suc i) a e = omega (arith, some_inside xs i a e)

cell_inside : (t : List (List (Option ℕ))) (i j n : ℕ) → cell none t i j ≡ some n → i < length t
cell_inside [] i j n e = absurd (none_some e)
cell_inside (r ∷ t) zero j n e = omega arith
cell_inside (r ∷ t) (suc i) j n e = omega (arith, cell_inside t i j n e)

pub elem_there : {A : Type 0} (xs : List A) (i : ℕ) → i < length xs → Has (get_elem? xs i)
elem_there [] i h = absurd (not-suc-le-zero h)
elem_there (x ∷ xs) zero h = record { value = x; is = refl }
elem_there (x ∷ xs) (suc i) h = elem_there xs i (le_of_suc-le-suc h)

module _ (st : State) where
  -- a net by what is known of its expression
  net_is : (e b : ℕ) (o : Option (List ℕ)) → whole st e ≡ o → expression_net st e b ≡ elim o [ some ns ↦ get_elem? ns b | none ↦ cell none st.expression_ranges e b ]
  unfolding expression_net
  net_is e b o q = ap (λ (x : Option (List ℕ)). elim x [ some ns ↦ get_elem? ns b | none ↦ cell none st.expression_ranges e b ]) q

  pub whole_net_law : (e : ℕ) (ns : List ℕ) → whole st e ≡ some ns → (b n : ℕ) → get_elem? ns b ≡ some n → expression_net st e b ≡ some n
  whole_net_law e ns q b n h = net_is e b (some ns) q ∙ h

  pub net_whole : (e : ℕ) (ns : List ℕ) → whole st e ≡ some ns → (b n : ℕ) → expression_net st e b ≡ some n → get_elem? ns b ≡ some n
  net_whole e ns q b n h = sym (net_is e b (some ns) q) ∙ h

  pub range_net : (e : ℕ) → whole st e ≡ none → (b n : ℕ) → cell none st.expression_ranges e b ≡ some n → expression_net st e b ≡ some n
  range_net e q b n h = net_is e b none q ∙ h

  pub net_range : (e : ℕ) → whole st e ≡ none → (b n : ℕ) → expression_net st e b ≡ some n → cell none st.expression_ranges e b ≡ some n
  net_range e q b n h = sym (net_is e b none q) ∙ h

  whole_inside : (e : ℕ) (ns : List ℕ) → whole st e ≡ some ns → e < length st.expression_bits
  unfolding whole
  whole_inside e ns q = some_inside st.expression_bits e ns q

module _ (m : Module) (st : State) (i : Inv m st) where
  pub nets_there : There st.netlist (expression_net st)
  nets_there e b n h = go (whole st e) refl
    where
      go : (o : Option (List ℕ)) → whole st e ≡ o → n < count st.netlist
      go (some ns) q = elem_below (count st.netlist) ns b n (i.wholes e ns q).there (net_whole st e ns q b n h)
      go none q = (i.ranges e).there b n (net_range st e q b n h)

  pub net_here : (e b n : ℕ) → expression_net st e b ≡ some n → e < length m.exprs
  net_here e b n h = go (whole st e) refl
    where
      go : (o : Option (List ℕ)) → whole st e ≡ o → e < length m.exprs
      go (some ns) q = omega (arith, whole_inside st e ns q, i.entries)
      go none q = omega (arith, cell_inside st.expression_ranges e b n (net_range st e q b n h), i.rows)

  module _ (f : Formed m.exprs) (e : ℕ) (here : e < length m.exprs) where
    length_of : (ns : List ℕ) → whole st e ≡ some ns → length ns ≡ width_at m.exprs e
    unfolding whole_nets
    length_of ns q = let r = whole_length m st i f e here (record { value = ns; is = q }) in rw q at r

    pub net_bit : (b n : ℕ) → expression_net st e b ≡ some n → b < width_at m.exprs e
    net_bit b n h = go (whole st e) refl
      where
        go : (o : Option (List ℕ)) → whole st e ≡ o → b < width_at m.exprs e
        go (some ns) q = omega (arith, inside ns b n (net_whole st e ns q b n h), length_of ns q)
        go none q = omega (arith, some_inside (get_or st.expression_ranges e []) b n (net_range st e q b n h), i.cells e here q)

    pub held_net : (b : ℕ) → b < width_at m.exprs e → Held st e b → Has (expression_net st e b)
    held_net b k h = go (whole st e) refl h
      where
        go : (o : Option (List ℕ)) → whole st e ≡ o → HeldBy o (cell none st.expression_ranges e b) → Has (expression_net st e b)
        go (some ns) q z = let t = elem_there ns b (omega (arith, length_of ns q)) in record { value = t.value; is = whole_net_law st e ns q b t.value t.is }
        go none q z = record { value = z.value; is = range_net st e q b z.value z.is }

    -- the nets of the whole
    pub whole_nets_law : Has (whole st e) → Nets m (expression_net st) e (whole_nets st e)
    unfolding whole_nets
    whole_nets_law h = rw h.is (record {
      wide = length_of h.value h.is;
      are = along_whole (Net m (expression_net st) e) h.value (λ b n q. whole_net_law st e h.value h.is b n q);
    })

    -- the nets of a range
    module _ (lsb w : ℕ) (fits : lsb + w ≤ width_at m.exprs e) (h : After st (Range e lsb w)) where
      known : whole st e ≡ none → Known (get_or st.expression_ranges e []) lsb w
      known q = record { known = λ j x y. rw q at (h j x y) }

      pub range_along : Along (λ b n. expression_net st e b ≡ some n) lsb (range_nets st e lsb w)
      unfolding range_nets
      range_along = go (whole st e) refl
        where
          go : (o : Option (List ℕ)) → whole st e ≡ o → Along (λ b n. expression_net st e b ≡ some n) lsb (range_by o st e lsb w)
          go (some ns) q =
              along_slice (λ b n. expression_net st e b ≡ some n) lsb w ns
              (along_whole (λ b n. expression_net st e b ≡ some n) ns (λ b n z. whole_net_law st e ns q b n z))
          go none q =
              let r = get_or st.expression_ranges e [] in
              along_map (Cell r) (λ b n. expression_net st e b ≡ some n) (λ b n z. range_net st e q b n z) lsb (map net_of (take w (drop lsb r)))
              (row_along r lsb w (omega (arith, i.cells e here q)) (known q))

      pub range_length : length (range_nets st e lsb w) ≡ w
      unfolding range_nets
      range_length = go (whole st e) refl
        where
          cut : {A : Type 0} (xs : List A) → length xs ≡ width_at m.exprs e → length (take w (drop lsb xs)) ≡ w
          cut xs n = length-take w (drop lsb xs) ∙ rw (length-drop lsb xs) (omega arith)

          go : (o : Option (List ℕ)) → whole st e ≡ o → length (range_by o st e lsb w) ≡ w
          go (some ns) q = cut ns (length_of ns q)
          go none q = let r = get_or st.expression_ranges e [] in length-map (take w (drop lsb r)) net_of ∙ cut r (i.cells e here q)
