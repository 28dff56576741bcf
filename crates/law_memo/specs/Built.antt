-- For each sort of builder call, and for nets that are there already: what is made of operands' nets is derived from them, from whichever bit on. Assumes nothing.
use Rattle.std.specs.Prelude.{◌≡◌, ◌⊎◌, Bool}
use Rattle.std.proofs.Math.Path.{refl, subst}
use Rattle.std.proofs.Common.{sym, ◌∙◌, inl, inr, add-zero, zero-add}
use Rattle.std.proofs.Math.Bool.{true, false, cond}
use mathlib.Core.List.{List, [], ◌∷◌, ◌++◌, append_assoc, append-nil}
use Rattle.std.proofs.Math.Option.{Option, none, some}
use Prim.Native.Nat.{ℕ, zero, suc, ◌+◌, ◌-◌, ◌≤◌, ◌<◌, min, max}
use Rattle.std.proofs.Math.Decide.{dec_lt}
use native.Mathlib.Omega.{arith}
use borrow.Author.Tests.{ltb-true, ltb-false}
use Rattle.std.proofs.Math.Dec.{ltb}
use Rattle.std.proofs.Math.ListN.{length, get_elem?}
use Rattle.spec_rtl.specs.Word.{bits}
use Rattle.spec_rtl.specs.Rtl as R
use Rattle.spec_rtl.specs.Rtl.{Module, Kind, Binary}
use Rattle.spec_model.specs.Words.{Netlist}
use Rattle.spec_model.specs.Builder.{constant_value, is_value, add_constant, add_not, add_mux, each, both, from}
use Rattle.spec_model.specs.Ranges.{width_at, class_of, Gate}
use Rattle.spec_model.specs.Lowering.{State, add_gate, gate_of, backwards, whole_nets, whole_net, range_nets, signal_bit, signal_net, signal_nets, signal_steps, selected, build_mux, expression_net, part_nets, Piece, pieces, concat_pieces, piece_nets}
use Rattle.word_laws.specs.Widths.{AllBelow, Formed}
use Rattle.law_nets.specs.Sound.{count}
use Rattle.law_nets.specs.Run.{Meets, meets_map}
use Rattle.law_walk.specs.Kept.{Any, Inv}
use Rattle.law_walk.specs.Reads.{AllAfter}
use Rattle.law_walk.specs.Wholes.{AllHas}
use Rattle.law_walk.specs.Parts.{piece_steps, piece_fits}
use Rattle.law_repeats.specs.Again.{Stays, stays_refl, value_stays, below_stays}
use Rattle.law_repeats.proofs.Gates.{again_constant, again_not, again_gate, again_mux}
use Rattle.law_memo.specs.Along.{Along, along_map, along_from, along_back, along_append}
use Rattle.law_memo.specs.Repeated.{each_repeated, both_repeated, From2, zip, zip2}
use Rattle.law_memo.specs.Derived.{side_of, Nets, PartBit, KindBit}
use Rattle.law_memo.specs.Later.{along_below}
use Rattle.law_memo.specs.Reads.{elem_below, nets_there, net_bit, whole_nets_law, range_along, range_length}

below_later : (n : ℕ) (l l' : Netlist) → Stays l l' → n < count l → n < count l'
below_later n l l' s h = (below_stays s (n ∷ []) (h, tt)).0

-- a Concat's parts, the least significant first
abbrev pub flat : (ℕ → List ℕ) → List ℕ → List ℕ
flat g [] = []
flat g (p ∷ ps) = g p ++ flat g ps

turn : (st : State) (ps acc : List ℕ) → part_nets st ps ++ flat (whole_nets st) acc ≡ flat (whole_nets st) (backwards ps acc)
turn st [] acc = refl
turn st (p ∷ ps) acc = append_assoc (part_nets st ps) (whole_nets st p) (flat (whole_nets st) acc) ∙ turn st ps (p ∷ acc)

turned : (st : State) (ps : List ℕ) → part_nets st ps ≡ flat (whole_nets st) (backwards ps [])
turned st ps = sym (append-nil (part_nets st ps)) ∙ turn st ps []

along_from_on : {A : Type 0} (P Q : ℕ → A → Type 0) (c b : ℕ) (ns : List A) → c ≤ b → ((j : ℕ) (n : A) → c ≤ j → P j n → Q j n) → Along P b ns → Along Q b ns
along_from_on P Q c b [] h f a = tt
along_from_on P Q c b (n ∷ ns) h f a = (f b n h a.0, along_from_on P Q c (suc b) ns (omega arith) f a.1)

-- ---- the numbers of a piece of a part of w bits that begins at bit at ----

seam : (lsb end at w k : ℕ) → max lsb at < min end (at + w) → at + w < end → k ≡ min end (at + w) - max lsb at → max lsb (at + w) ≡ max lsb at + k
seam lsb end at w k a b c =
    let hi : min end (at + w) ≡ at + w = omega arith in
    let up : max lsb (at + w) ≡ at + w = omega arith in
    rw (c, hi, up) (omega arith)

skipped : (lsb end at w : ℕ) → min end (at + w) ≤ max lsb at → at + w < end → 1 ≤ w → max lsb (at + w) ≡ max lsb at
skipped lsb end at w a b c = omega arith

module _ (m : Module) (f : Formed m.exprs) (ob : Bool) (st : State) (i : Inv m st) where
  -- net n is derived for bit b of expression e of kind k, over the netlist l
  abbrev pub Bit : Netlist → Kind → ℕ → ℕ → ℕ → Type 0
  Bit l k e b n = KindBit m ob l (signal_bit st) (expression_net st) k e b n

  -- so are the nets made from bit b on
  abbrev pub Derives : Kind → ℕ → ℕ → List ℕ × Netlist → Type 0
  Derives k e b r = Stays st.netlist r.1 × Along (Bit r.1 k e) b r.0

  abbrev pub IsNet : ℕ → ℕ → ℕ → Type 0
  IsNet e b n = expression_net st e b ≡ some n

  net_below : (a b : ℕ) (xs : List ℕ) → Along (IsNet a) b xs → (n j : ℕ) → get_elem? xs j ≡ some n → n < count st.netlist
  net_below a b xs h n j q = elem_below (count st.netlist) xs j n (along_below (count st.netlist) (IsNet a) (nets_there m st i a) b xs h) q

  -- ---- one net a bit ----

  pub constants_derived : (e c b : ℕ) (vs : List Bool) → Along (λ j v. get_elem? (bits (width_at m.exprs e) c) j ≡ some v) b vs
      → Meets Any (Derives (R.Constant c) e b) (each add_constant vs st.netlist)
  constants_derived e c b vs a = meets_map Any Any _ _ (each add_constant vs st.netlist)
      (each_repeated add_constant (λ v l. Unit {0}) (λ v l h. again_constant v l) (λ v l l' s h. h) vs st.netlist (λ v j q. tt)) (λ x y z h. h)
      (λ r h. (h.0, zip (λ j v. get_elem? (bits (width_at m.exprs e) c) j ≡ some v) add_constant r.1 b vs r.0 a h.1))

  pub nots_derived : (e a b : ℕ) (xs : List ℕ) → Along (IsNet a) b xs → Meets Any (Derives (R.Un R.BitNot a) e b) (each add_not xs st.netlist)
  nots_derived e a b xs h = meets_map Any Any _ _ (each add_not xs st.netlist)
      (each_repeated add_not (λ n l. n < count l) again_not (λ n l l' s k. below_later n l l' s k) xs st.netlist (net_below a b xs h)) (λ x y z k. k)
      (λ r k. (k.0, zip (IsNet a) add_not r.1 b xs r.0 h k.1))

  gates_derived : (g : Gate) (x y b : ℕ) (xs ys : List ℕ) → Along (IsNet x) b xs → Along (IsNet y) b ys
      → Meets Any (λ r. Stays st.netlist r.1 × Along (λ j n. From2 (IsNet x j) (IsNet y j) (add_gate g) r.1 n) b r.0) (both (add_gate g) xs ys st.netlist)
  gates_derived g x y b xs ys p q = meets_map Any Any _ _ (both (add_gate g) xs ys st.netlist)
      (both_repeated (add_gate g) (λ n l. n < count l) (again_gate g) (λ n l l' s k. below_later n l l' s k) xs ys st.netlist (net_below x b xs p) (net_below y b ys q)) (λ x y z k. k)
      (λ r k. (k.0, zip2 (IsNet x) (IsNet y) (add_gate g) r.1 b xs ys r.0 p q k.1))

  pub gate_derived : (g : Gate) (op : Binary) (e x y b : ℕ) → gate_of (class_of op) ≡ some g → (xs ys : List ℕ) → Along (IsNet x) b xs → Along (IsNet y) b ys
      → Meets Any (Derives (R.Bin op x y) e b) (both (add_gate g) xs ys st.netlist)
  gate_derived g op e x y b w xs ys p q = meets_map Any Any _ _ (both (add_gate g) xs ys st.netlist) (gates_derived g x y b xs ys p q) (λ x y z k. k)
      (λ r k. (k.0, along_map (λ j n. From2 (IsNet x j) (IsNet y j) (add_gate g) r.1 n) (Bit r.1 (R.Bin op x y) e) (λ j n h. rw w h) b r.0 k.1))

  -- ---- a Mux ----

  side_is : (o : Bool) (c : ℕ) → selected o st c ≡ side_of o (constant_value st.netlist (whole_net st c 0))
  side_is false c = refl
  side_is true c = refl

  pub mux_derived : (c t d e b : ℕ) (ts es : List ℕ) → IsNet c 0 (whole_net st c 0)
      → (is_value false (selected ob st c) ≡ true) ⊎ Along (IsNet t) b ts → (is_value true (selected ob st c) ≡ true) ⊎ Along (IsNet d) b es
      → Meets Any (Derives (R.Mux c t d) e b) (build_mux (selected ob st c) (whole_net st c 0) ts es st.netlist)
  mux_derived c t d e b ts es h x y = go (selected ob st c) refl x y
    where
      test : ℕ
      test = whole_net st c 0

      there : test < count st.netlist
      there = nets_there m st i c 0 test h

      alone : (v : Bool) (ns : List ℕ) → selected ob st c ≡ some v → Along (IsNet (cond v t d)) b ns → Along (Bit st.netlist (R.Mux c t d) e) b ns
      alone v ns q a = along_map (IsNet (cond v t d)) (Bit st.netlist (R.Mux c t d) e)
          (λ j n z. record { test = test; is = h; gives = rw (sym (side_is ob c) ∙ q) z }) b ns a

      go : (o : Option Bool) → selected ob st c ≡ o → (is_value false o ≡ true) ⊎ Along (IsNet t) b ts → (is_value true o ≡ true) ⊎ Along (IsNet d) b es
          → Meets Any (Derives (R.Mux c t d) e b) (build_mux o test ts es st.netlist)
      go none q (inl z) y = let u : ◌≡◌ {A = ℕ} 0 1 = cc in absurd (omega arith)
      go none q (inr p) (inl z) = let u : ◌≡◌ {A = ℕ} 0 1 = cc in absurd (omega arith)
      go none q (inr p) (inr r) = meets_map Any Any _ _ (both (add_mux test) ts es st.netlist)
          (both_repeated (add_mux test) (λ n l. test < count l) (λ x y l k z. again_mux test x y l k) (λ n l l' s k. below_later test l l' s k) ts es st.netlist (λ n j z. there) (λ n j z. there))
          (λ x y z k. k)
          (λ w k. (
            k.0,
            along_map (λ j n. From2 (IsNet t j) (IsNet d j) (add_mux test) w.1 n) (Bit w.1 (R.Mux c t d) e)
                (λ j n z. record { test = test; is = h; gives = rw (value_stays k.0 test there, sym (side_is ob c) ∙ q) z }) b w.0
                (zip2 (IsNet t) (IsNet d) (add_mux test) w.1 b ts es w.0 p r k.1),
          ))
      go (some true) q (inl z) y = let u : ◌≡◌ {A = ℕ} 0 1 = cc in absurd (omega arith)
      go (some true) q (inr p) y = (stays_refl st.netlist, alone true ts q p)
      go (some false) q x (inl z) = let u : ◌≡◌ {A = ℕ} 0 1 = cc in absurd (omega arith)
      go (some false) q x (inr p) = (stays_refl st.netlist, alone false es q p)

  -- ---- nets that are there already ----

  signals_along : (s b w : ℕ) → AllAfter ob st (signal_steps s b w) → Along (λ j n. signal_bit st s j ≡ some n) b (signal_nets st s b w)
  unfolding signal_steps signal_nets signal_net from signal_bit
  signals_along s b zero h = tt
  signals_along s b (suc w) h = (rw h.0.is refl, signals_along s (suc b) w h.1)

  -- from bit lsb of the signal on
  pub signals_derived : (s lsb e b w : ℕ) → AllAfter ob st (signal_steps s (lsb + b) w) → Along (Bit st.netlist (R.Signal s lsb) e) b (signal_nets st s (lsb + b) w)
  signals_derived s lsb e b w h = along_from (λ j n. signal_bit st s j ≡ some n) lsb b (signal_nets st s (lsb + b) w) (signals_along s (lsb + b) w h)

  pub slice_derived : (a lsb e b : ℕ) (ns : List ℕ) → Along (IsNet a) (lsb + b) ns → Along (Bit st.netlist (R.Slice a lsb) e) b ns
  slice_derived a lsb e b ns h = along_from (IsNet a) lsb b ns h

  -- ---- a Concat ----

  abbrev PartsBit : List ℕ → ℕ → ℕ → Type 0
  PartsBit ps b n = PartBit m ob st.netlist (signal_bit st) (expression_net st) ps b n

  abbrev AllNets : (ℕ → List ℕ) → List ℕ → Type 0
  AllNets g [] = Unit {0}
  AllNets g (p ∷ ps) = Nets m (expression_net st) p (g p) × AllNets g ps

  later_parts : (p : ℕ) (ps : List ℕ) (b n : ℕ) → PartsBit ps b n → PartsBit (p ∷ ps) (width_at m.exprs p + b) n
  later_parts p ps b n h = let z : b ≡ width_at m.exprs p + b - width_at m.exprs p = omega arith in inr (omega arith, subst (λ (j : ℕ). PartsBit ps j n) z h)

  flat_derived : (g : ℕ → List ℕ) (ps : List ℕ) → AllBelow (length m.exprs) ps → AllNets g ps → Along (PartsBit ps) 0 (flat g ps)
  flat_derived g [] b h = tt
  flat_derived g (p ∷ ps) b h =
      along_append (PartsBit (p ∷ ps)) 0 (g p) (flat g ps)
      (along_map (IsNet p) (PartsBit (p ∷ ps)) (λ j n z. inl (net_bit m st i f p b.0 j n z, z)) 0 (g p) h.0.are)
      (subst (λ (j : ℕ). Along (PartsBit (p ∷ ps)) j (flat g ps)) (add-zero (width_at m.exprs p) ∙ sym h.0.wide ∙ sym (zero-add (length (g p))))
      (along_back (PartsBit (p ∷ ps)) (width_at m.exprs p) 0 (flat g ps)
      (along_map (PartsBit ps) (λ j n. PartsBit (p ∷ ps) (width_at m.exprs p + j) n) (later_parts p ps) 0 (flat g ps) (flat_derived g ps b.1 h.1))))

  all_nets : (ps : List ℕ) → AllBelow (length m.exprs) ps → AllHas st ps → AllNets (whole_nets st) ps
  all_nets [] b h = tt
  all_nets (p ∷ ps) b h = (whole_nets_law m st i f p b.0 h.0, all_nets ps b.1 h.1)

  pub parts_derived : (ps : List ℕ) (e : ℕ) → AllBelow (length m.exprs) (backwards ps []) → AllHas st (backwards ps []) → Along (Bit st.netlist (R.Concat ps) e) 0 (part_nets st ps)
  parts_derived ps e b h =
      subst (λ (ns : List ℕ). Along (PartsBit (backwards ps [])) 0 ns) (sym (turned st ps)) (flat_derived (whole_nets st) (backwards ps []) b (all_nets (backwards ps []) b h))

  -- ---- a range of a Concat ----

  -- past the end there are no pieces
  no_pieces : (lsb end at : ℕ) (ps : List ℕ) → end ≤ at → pieces m.exprs lsb end at ps ≡ []
  unfolding pieces
  no_pieces lsb end at [] h = refl
  no_pieces lsb end at (p ∷ ps) h = go (ltb (max lsb at) (min end (at + width_at m.exprs p))) refl (no_pieces lsb end (at + width_at m.exprs p) ps (omega arith))
    where
      go : (t : Bool) → ltb (max lsb at) (min end (at + width_at m.exprs p)) ≡ t → pieces m.exprs lsb end (at + width_at m.exprs p) ps ≡ []
          → cond t (record { part = p; lsb = max lsb at - at; width = min end (at + width_at m.exprs p) - max lsb at } ∷ pieces m.exprs lsb end (at + width_at m.exprs p) ps) (pieces m.exprs lsb end (at + width_at m.exprs p) ps) ≡ []
      go true q r = absurd (omega (arith, ltb-true (max lsb at) (min end (at + width_at m.exprs p)) q))
      go false q r = r

  module _ (p : ℕ) (ps : List ℕ) (at : ℕ) where
    -- a part more before them
    onward : (b : ℕ) (ns : List ℕ) → at + width_at m.exprs p ≤ b → Along (λ j n. PartsBit ps (j - (at + width_at m.exprs p)) n) b ns
        → Along (λ j n. PartsBit (p ∷ ps) (j - at) n) b ns
    onward b ns h a = along_from_on (λ j n. PartsBit ps (j - (at + width_at m.exprs p)) n) (λ j n. PartsBit (p ∷ ps) (j - at) n) (at + width_at m.exprs p) b ns h
        (λ j n k x. let z : j - (at + width_at m.exprs p) ≡ j - at - width_at m.exprs p = omega arith in inr (omega arith, subst (λ (y : ℕ). PartsBit ps y n) z x)) a

    -- a piece of the part
    in_part : (lo : ℕ) (ns : List ℕ) → p < length m.exprs → at ≤ lo → Along (IsNet p) (lo - at) ns → Along (λ j n. PartsBit (p ∷ ps) (j - at) n) lo ns
    in_part lo ns h k a =
        let z : at + (lo - at) ≡ lo = omega arith in
        subst (λ (y : ℕ). Along (λ j n. PartsBit (p ∷ ps) (j - at) n) y ns) z
        (along_back (λ j n. PartsBit (p ∷ ps) (j - at) n) at (lo - at) ns
        (along_map (IsNet p) (λ j n. PartsBit (p ∷ ps) (at + j - at) n)
        (λ j n x. let y : j ≡ at + j - at = omega arith in subst (λ (u : ℕ). PartsBit (p ∷ ps) u n) y (inl (net_bit m st i f p h j n x, x))) (lo - at) ns a))

  -- the pieces from bit lsb to bit end, of parts that begin at bit at
  pieces_derived : (lsb end at : ℕ) (ps : List ℕ) → AllBelow (length m.exprs) ps → AllAfter ob st (piece_steps (pieces m.exprs lsb end at ps))
      → Along (λ b n. PartsBit ps (b - at) n) (max lsb at) (piece_nets st (pieces m.exprs lsb end at ps))
  unfolding pieces
  pieces_derived lsb end at [] b h = tt
  pieces_derived lsb end at (p ∷ ps) b h =
      go (ltb (max lsb at) (min end (at + width_at m.exprs p))) refl (dec_lt (at + width_at m.exprs p) end) (pieces_derived lsb end (at + width_at m.exprs p) ps b.1) h
    where
      go : (t : Bool) → ltb (max lsb at) (min end (at + width_at m.exprs p)) ≡ t → Dec (at + width_at m.exprs p < end)
          → (AllAfter ob st (piece_steps (pieces m.exprs lsb end (at + width_at m.exprs p) ps))
          → Along (λ j n. PartsBit ps (j - (at + width_at m.exprs p)) n) (max lsb (at + width_at m.exprs p)) (piece_nets st (pieces m.exprs lsb end (at + width_at m.exprs p) ps)))
          → AllAfter ob st (piece_steps (cond t (record { part = p; lsb = max lsb at - at; width = min end (at + width_at m.exprs p) - max lsb at } ∷ pieces m.exprs lsb end (at + width_at m.exprs p) ps) (pieces m.exprs lsb end (at + width_at m.exprs p) ps)))
          → Along (λ j n. PartsBit (p ∷ ps) (j - at) n) (max lsb at) (piece_nets st (cond t (record { part = p; lsb = max lsb at - at; width = min end (at + width_at m.exprs p) - max lsb at } ∷ pieces m.exprs lsb end (at + width_at m.exprs p) ps) (pieces m.exprs lsb end (at + width_at m.exprs p) ps)))
      go true q (yes e) ih h =
          let lt = ltb-true (max lsb at) (min end (at + width_at m.exprs p)) q in
          let fits = piece_fits (max lsb at) (min end (at + width_at m.exprs p)) at (width_at m.exprs p) lt (omega arith) (omega arith) in
          let ns = range_nets st p (max lsb at - at) (min end (at + width_at m.exprs p) - max lsb at) in
          let n = range_length m st i f p b.0 (max lsb at - at) (min end (at + width_at m.exprs p) - max lsb at) fits h.0 in
          let rest = piece_nets st (pieces m.exprs lsb end (at + width_at m.exprs p) ps) in
          along_append (λ j n. PartsBit (p ∷ ps) (j - at) n) (max lsb at) ns rest
          (in_part p ps at (max lsb at) ns b.0 (omega arith) (range_along m st i f p b.0 (max lsb at - at) (min end (at + width_at m.exprs p) - max lsb at) fits h.0))
          (subst (λ (y : ℕ). Along (λ j n. PartsBit (p ∷ ps) (j - at) n) y rest) (seam lsb end at (width_at m.exprs p) (length ns) lt e n)
          (onward p ps at (max lsb (at + width_at m.exprs p)) rest (omega arith) (ih h.1)))
      go true q (no e) ih h =
          let lt = ltb-true (max lsb at) (min end (at + width_at m.exprs p)) q in
          let fits = piece_fits (max lsb at) (min end (at + width_at m.exprs p)) at (width_at m.exprs p) lt (omega arith) (omega arith) in
          let ns = range_nets st p (max lsb at - at) (min end (at + width_at m.exprs p) - max lsb at) in
          along_append (λ j n. PartsBit (p ∷ ps) (j - at) n) (max lsb at) ns (piece_nets st (pieces m.exprs lsb end (at + width_at m.exprs p) ps))
          (in_part p ps at (max lsb at) ns b.0 (omega arith) (range_along m st i f p b.0 (max lsb at - at) (min end (at + width_at m.exprs p) - max lsb at) fits h.0))
          (subst (λ (qs : List Piece). Along (λ j n. PartsBit (p ∷ ps) (j - at) n) (max lsb at + length ns) (piece_nets st qs))
          (sym (no_pieces lsb end (at + width_at m.exprs p) ps (omega arith))) tt)
      go false q (yes e) ih h =
          subst (λ (y : ℕ). Along (λ j n. PartsBit (p ∷ ps) (j - at) n) y (piece_nets st (pieces m.exprs lsb end (at + width_at m.exprs p) ps)))
          (skipped lsb end at (width_at m.exprs p) (ltb-false (max lsb at) (min end (at + width_at m.exprs p)) q) e (f.least p b.0))
          (onward p ps at (max lsb (at + width_at m.exprs p)) (piece_nets st (pieces m.exprs lsb end (at + width_at m.exprs p) ps)) (omega arith) (ih h))
      go false q (no e) ih h =
          subst (λ (qs : List Piece). Along (λ j n. PartsBit (p ∷ ps) (j - at) n) (max lsb at) (piece_nets st qs))
          (sym (no_pieces lsb end (at + width_at m.exprs p) ps (omega arith))) tt

  pub concat_derived : (ps : List ℕ) (e lsb w : ℕ) → AllBelow (length m.exprs) (backwards ps []) → AllAfter ob st (piece_steps (concat_pieces m.exprs ps lsb w))
      → Along (Bit st.netlist (R.Concat ps) e) lsb (piece_nets st (concat_pieces m.exprs ps lsb w))
  unfolding concat_pieces
  concat_derived ps e lsb w b h =
      let z : max lsb 0 ≡ lsb = omega arith in
      let a = subst (λ (y : ℕ). Along (λ j n. PartsBit (backwards ps []) (j - 0) n) y (piece_nets st (pieces m.exprs lsb (lsb + w) 0 (backwards ps [])))) z (pieces_derived lsb (lsb + w) 0 (backwards ps []) b h) in
      along_map (λ j n. PartsBit (backwards ps []) (j - 0) n) (Bit st.netlist (R.Concat ps) e)
      (λ j n x. let y : j - 0 ≡ j = omega arith in subst (λ (u : ℕ). PartsBit (backwards ps []) u n) y x) lsb (piece_nets st (pieces m.exprs lsb (lsb + w) 0 (backwards ps []))) a
