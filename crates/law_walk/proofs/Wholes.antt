-- What is proved of specs/Wholes: What is made of a whole expression, once its steps are done, stands for its word. Assumes nothing.
use Rattle.std.specs.Prelude.{◌≡◌, ◌⊎◌, Bool, true, cond, ℕ, ◌-◌, ◌<◌, length, take, replicate}
use Rattle.std.proofs.Math.Path.{refl, sym, ap}
use Rattle.std.proofs.Common.{◌∙◌, inl, inr, arith}
use Rattle.std.proofs.Math.Bool.{false}
use mathlib.Core.List.{List, [], ◌∷◌, ◌++◌, map}
use Rattle.std.proofs.Math.Option.{Option, none, some}
use Rattle.std.proofs.Math.ListN.{get_or}
use Rattle.spec_rtl.specs.Word.{bits}
use Rattle.spec_rtl.specs.Ops.{join_w}
use Rattle.spec_rtl.specs.Rtl as R
use Rattle.spec_rtl.specs.Rtl.{Module, Valuation, Kind, Binary, word, word1}
use Rattle.spec_rules.specs.Step.{Setting, Contents}
use Rattle.spec_model.specs.Words.{Netlist, absent}
use Rattle.spec_model.specs.Builder.{Made, done, and_then, add_constant, constant_value, is_value}
use Rattle.spec_model.specs.Ranges.{expr_at, width_at, class_of, adder_width}
use Rattle.spec_model.specs.Lowering.{selected, build_mux, State, is_add, Operands, operands_of, whole, whole_nets, whole_net, wholes, operand_steps, backwards, kind_steps, whole_steps, truncated, resized, build_operands, build_binary, part_nets, build_kind, build_whole}
use Rattle.word_laws.specs.Widths.{BelowE, BinWidth, Formed, WidthOk, word_is, word_width}
use Rattle.word_ranges.specs.Fusion.{cell_word, carry_bit, Operate, Narrowed}
use Rattle.word_ranges.proofs.Fusion.{operands, narrowed}
use Rattle.law_nets.specs.Meaning.{net_value}
use Rattle.law_nets.specs.Sound.{count, Later}
use Rattle.law_nets.specs.Run.{cells_refl}
use Rattle.law_nets.proofs.Run.{later_refl}
use Rattle.law_walk.specs.Tables.{none_some, Has}
use Rattle.law_walk.specs.Kept.{Agrees, more_refl, NetsGive, holds_later, Inv, Makes, makes_done, makes_map, makes_bind}
use Rattle.law_walk.specs.Writes.{holds_length}
use Rattle.law_walk.specs.Reads.{AllAfter, map_append, map_at, below_at, below_append, holds_as, holds_nil, holds_append}
use Rattle.law_walk.proofs.ReadsLaws.{whole_length, read_range}
use Rattle.law_walk.proofs.ReadsLaws.{read_whole, read_bits}
use Rattle.law_walk.specs.Gates.{Gates, gives_holds}
use Rattle.law_walk.specs.Wholes.{AllHas, Taken, below_replicate, cell_length, fusion, holds_truncated, map_replicate, narrowed_add, plain, taken, truncated_length, truncated_w, truncated_width, turned}

pub has_all : (ob : Bool) (st : State) (ps : List ℕ) → AllAfter ob st (wholes ps) → AllHas st ps
has_all ob st [] h = tt
has_all ob st (p ∷ ps) h = (h.0, has_all ob st ps h.1)

module _ (G : Gates) (m : Module) (f : Formed m.exprs) (ob : Bool) (st : State) (i : Inv m st) where
  -- bit 0 of a whole expression
  module _ (c : ℕ) (here : c < length m.exprs) (h : Has (whole st c)) where
    some_bit : 0 < length (whole_nets st c)
    some_bit = omega (arith, whole_length m st i f c here h, f.least c here)

    pub bit0_there : whole_net st c 0 < count st.netlist
    unfolding whole_net
    bit0_there = below_at (count st.netlist) (whole_nets st c) 0 absent some_bit (read_whole m st i c h).there

    pub bit0 : (l : Netlist) → Later st.netlist l → (s : Setting) (x : Contents) (v : Valuation) → Agrees (net_value l s x) v st.signal_bits
        → net_value l s x (whole_net st c 0) ≡ get_or (word m.exprs v c) 0 false
    unfolding whole_net
    bit0 l a s x v g = sym (map_at (net_value l s x) (whole_nets st c) 0 absent false some_bit)
        ∙ ap (λ (w : List Bool). get_or w 0 false) ((read_whole m st i c h).holds l a s x v g)

  -- ---- a Mux: both sides, or the one that a constant condition takes ----

  chosen : (o : Bool) (c : ℕ) (b : Bool) → selected o st c ≡ some b → constant_value st.netlist (whole_net st c 0) ≡ some b
  chosen true c b e = e
  chosen false c b e = absurd (none_some e)

  module _ (c : ℕ) (here : c < length m.exprs) (h : Has (whole st c)) (ts es : List ℕ) (wt we : Valuation → List Bool) where
    abbrev MuxMade : List ℕ → Netlist → Type 0
    MuxMade ns l = NetsGive l st.signal_bits ns (λ v. cond (get_or (word m.exprs v c) 0 false) (wt v) (we v))

    -- the condition is the constant b
    one_side : (b : Bool) → selected ob st c ≡ some b → NetsGive st.netlist st.signal_bits (cond b ts es) (λ v. cond b (wt v) (we v))
        → Makes st.netlist MuxMade (done (cond b ts es, st.netlist))
    one_side b e p =
        let k = G.known st.netlist (whole_net st c 0) b (bit0_there c here h) (chosen ob c b e) in
        makes_done (later_refl i.sound) cells_refl (record {
          there = p.there;
          holds = λ l a s d v g. p.holds l a s d v g ∙ ap (λ (t : Bool). cond t (wt v) (we v)) (sym (k.is l a s d) ∙ bit0 c here h l a s d v g);
        })

    pub mux_made : (A B : Type 0) → (A → NetsGive st.netlist st.signal_bits ts wt) → (B → NetsGive st.netlist st.signal_bits es we) → (A → B → length ts ≡ length es)
        → (is_value false (selected ob st c) ≡ true) ⊎ A → (is_value true (selected ob st c) ≡ true) ⊎ B
        → Makes st.netlist MuxMade (build_mux (selected ob st c) (whole_net st c 0) ts es st.netlist)
    mux_made A B p q n x y = go (selected ob st c) refl x y
      where
        go : (o : Option Bool) → selected ob st c ≡ o → (is_value false o ≡ true) ⊎ A → (is_value true o ≡ true) ⊎ B
            → Makes st.netlist MuxMade (build_mux o (whole_net st c 0) ts es st.netlist)
        go none e (inl z) y = let u : ◌≡◌ {A = ℕ} 0 1 = cc in absurd (omega arith)
        go none e (inr a) (inl z) = let u : ◌≡◌ {A = ℕ} 0 1 = cc in absurd (omega arith)
        go none e (inr a) (inr b) =
            gives_holds _ (G.mux (whole_net st c 0) ts es st.netlist i.sound (bit0_there c here h) (p a).there (q b).there (n a b))
            (λ l j s z v g. rw ((p a).holds l j s z v g, (q b).holds l j s z v g, bit0 c here h l j s z v g))
        go (some true) e (inl z) y = let u : ◌≡◌ {A = ℕ} 0 1 = cc in absurd (omega arith)
        go (some true) e (inr a) y = one_side true e (p a)
        go (some false) e x (inl z) = let u : ◌≡◌ {A = ℕ} 0 1 = cc in absurd (omega arith)
        go (some false) e x (inr b) = one_side false e (q b)

  -- ---- the operands' cell ----

  abbrev CarryHas : Option ℕ → Type 0
  CarryHas none = Unit {0}
  CarryHas (some c) = (c < length m.exprs) × Has (whole st c)

  -- widths of the operands at their cell
  abbrev CellWidth : Binary → ℕ → ℕ → Option ℕ → Type 0
  CellWidth op a b none = (w : ℕ) × BinWidth op w a b
  CellWidth op a b (some c) = a ≡ b

  abbrev CellMade : Binary → Option ℕ → ℕ → ℕ → Option ℕ → List ℕ → Netlist → Type 0
  CellMade op n x y c ns l =
      NetsGive l st.signal_bits ns (λ v. cell_word op (truncated_w n (word m.exprs v x)) (truncated_w n (word m.exprs v y)) (carry_bit (word m.exprs v) c))

  cell_made : (op : Binary) (n : Option ℕ) (x y : ℕ) (c : Option ℕ) → Has (whole st x) → Has (whole st y) → CarryHas c
      → CellWidth op (length (truncated n (whole_nets st x))) (length (truncated n (whole_nets st y))) c
      → Makes st.netlist (CellMade op n x y c) (build_operands op n st (record { lhs = x; rhs = y; carry = c }))
  cell_made op n x y none hx hy hc w =
      let p = holds_truncated n (read_whole m st i x hx) in
      let q = holds_truncated n (read_whole m st i y hy) in
      gives_holds _ (G.bin op w.0 (truncated n (whole_nets st x)) (truncated n (whole_nets st y)) st.netlist i.sound p.there q.there w.1)
      (λ h a s d v g. rw (p.holds h a s d v g, q.holds h a s d v g))
  cell_made op n x y (some c) hx hy hc w =
      let p = holds_truncated n (read_whole m st i x hx) in
      let q = holds_truncated n (read_whole m st i y hy) in
      gives_holds _ (G.carry (truncated n (whole_nets st x)) (truncated n (whole_nets st y)) (whole_net st c 0) st.netlist i.sound p.there q.there
      (bit0_there c hc.0 hc.1) w)
      (λ h a s d v g. rw (p.holds h a s d v g, q.holds h a s d v g, bit0 c hc.0 hc.1 h a s d v g))

  module _ (e : ℕ) (here : e < length m.exprs) where
    abbrev MadeWord : List ℕ → Netlist → Type 0
    MadeWord ns l = NetsGive l st.signal_bits ns (λ v. word m.exprs v e)

    -- ---- filled up ----

    fill : (k : ℕ) (ns : List ℕ) (l : Netlist) (w : Valuation → List Bool) → Later st.netlist l → NetsGive l st.signal_bits ns w → length ns ≡ k
        → ((v : Valuation) → word m.exprs v e ≡ w v ++ replicate (width_at m.exprs e - k) false)
        → Makes l MadeWord (and_then (add_constant false l) (λ (z, l₁). done (ns ++ replicate (width_at m.exprs e - length ns) z, l₁)))
    fill k ns l w a p n q = makes_bind (add_constant false l) _ (G.constant false l a.sound) (λ z l₁ b r.
        makes_done (later_refl b.sound) cells_refl (record {
          there = below_append (count l₁) ns _ (holds_later b more_refl p).there (below_replicate (count l₁) (width_at m.exprs e - length ns) z r.there);
          holds = λ h c s d v g. map_append (net_value h s d) ns _
              ∙ rw (map_replicate (net_value h s d) (width_at m.exprs e - length ns) z, r.is h c s d, (holds_later b more_refl p).holds h c s d v g, n) (sym (q v));
        }))

    resized_made : (op : Binary) (a b : ℕ) → (expr_at m.exprs e).kind ≡ R.Bin op a b → (n : Option ℕ) → cond (is_add (class_of op)) (adder_width m.exprs e) none ≡ n
        → (x y : ℕ) (c : Option ℕ) → ((v : Valuation) → Operate m.exprs v e (width_at m.exprs e) op (record { lhs = x; rhs = y; carry = c }))
        → (o : Made (List ℕ)) → Makes st.netlist (CellMade op n x y c) o → Makes st.netlist MadeWord (resized n (width_at m.exprs e) o)
    resized_made op a b k none q x y c t o r = makes_map o r (λ ns l d p. holds_as p (λ v. sym (t v).gives))
    resized_made op a b k (some j) q x y c t o r = makes_bind o _ r (λ ns l d p.
        fill j ns l _ d p
        (holds_length d.sound p j (λ v. cell_length op (take j (word m.exprs v x)) (take j (word m.exprs v y)) (carry_bit (word m.exprs v) c) add ∙ (nar v).left))
        (λ v. (nar v).sum ∙ rw (← add)))
      where
        picked : (op ≡ R.Add) × (adder_width m.exprs e ≡ some j)
        picked = narrowed_add m.exprs e op j q

        add : op ≡ R.Add
        add = picked.0

        nar : (v : Valuation) → Narrowed j (width_at m.exprs e) (take j (word m.exprs v x)) (take j (word m.exprs v y)) (carry_bit (word m.exprs v) c) (word m.exprs v e)
        nar v = narrowed m.exprs f v e here op a b k j add picked.1 (record { lhs = x; rhs = y; carry = c }) (t v)

    -- ---- by kind ----

    module _ (k : Kind) (x : (expr_at m.exprs e).kind ≡ k) where
      is : (v : Valuation) → word1 v (word m.exprs v) (width_at m.exprs e) k ≡ word m.exprs v e
      is v = sym (word_is m.exprs v e here (f.low e here) ∙ rw x)

      low : BelowE e k
      low = rw x at (f.low e here)

      wide : WidthOk (width_at m.exprs) (width_at m.exprs e) k
      wide = rw x at (f.wide e here)

    bin_made : (op : Binary) (a b : ℕ) → (expr_at m.exprs e).kind ≡ R.Bin op a b → (n : Option ℕ) → cond (is_add (class_of op)) (adder_width m.exprs e) none ≡ n
        → (o : Operands) → ((v : Valuation) → Operate m.exprs v e (width_at m.exprs e) op o) → Taken op a b o → AllAfter ob st (operand_steps o)
        → Makes st.netlist MadeWord (resized n (width_at m.exprs e) (build_operands op n st o))
    bin_made op a b x n q o t plain h = resized_made op a b x n q a b none t _ (cell_made op n a b none h.0 h.1.0 tt (truncated_width m.exprs e op (width_at m.exprs e) (whole_nets st a) (whole_nets st b) whole_width n q))
      where
        la : length (whole_nets st a) ≡ width_at m.exprs a
        la = whole_length m st i f a (omega (arith, (low (R.Bin op a b) x).0)) h.0

        lb : length (whole_nets st b) ≡ width_at m.exprs b
        lb = whole_length m st i f b (omega (arith, (low (R.Bin op a b) x).1)) h.1.0

        whole_width : BinWidth op (width_at m.exprs e) (length (whole_nets st a)) (length (whole_nets st b))
        whole_width = rw (la, lb) (wide (R.Bin op a b) x)
    bin_made op a b x n q o t (fusion {x = p} {y = r} {c = c} add) h =
        let v : Valuation = λ s j. false in
        let d = t v in
        let lp = whole_length m st i f p (omega (arith, d.lhs_below)) h.0 in
        let lr = whole_length m st i f r (omega (arith, d.rhs_below)) h.1.0 in
        let wp = sym (word_width m.exprs f v p (omega (arith, d.lhs_below))) ∙ d.lhs_wide add in
        let wr = sym (word_width m.exprs f v r (omega (arith, d.rhs_below))) ∙ d.rhs_wide add in
        resized_made op a b x n q p r (some c) t _
        (cell_made op n p r (some c) h.0 h.1.0 (omega (arith, d.carry_below), h.1.1.0) (truncated_length n (whole_nets st p) (whole_nets st r) (lp ∙ wp ∙ sym wr ∙ sym lr)))

    parts_made : (ps : List ℕ) → AllHas st ps → NetsGive st.netlist st.signal_bits (part_nets st ps) (λ v. join_w (map (word m.exprs v) ps))
    parts_made [] h = holds_nil
    parts_made (p ∷ ps) h = holds_append (parts_made ps h.1) (read_whole m st i p h.0)

    kind_made : (k : Kind) → (expr_at m.exprs e).kind ≡ k → AllAfter ob st (kind_steps m.exprs (width_at m.exprs e) k)
        → Makes st.netlist MadeWord (build_kind m.exprs ob st e (width_at m.exprs e) k)
    unfolding build_binary
    kind_made (R.Signal s lsb) x h =
        makes_done (later_refl i.sound) cells_refl (holds_as (read_bits m st i ob s lsb (width_at m.exprs e) h) (is (R.Signal s lsb) x))
    kind_made (R.Constant n) x h =
        gives_holds _ (G.constants (bits (width_at m.exprs e) n) st.netlist i.sound) (λ l a s c v g. is (R.Constant n) x v)
    kind_made (R.Un op a) x h =
        let p = read_whole m st i a h.0 in
        gives_holds _ (G.un op (whole_nets st a) st.netlist i.sound p.there) (λ l d s c v g. rw (p.holds l d s c v g) (is (R.Un op a) x v))
    kind_made (R.Bin op a b) x h =
        bin_made op a b x (cond (is_add (class_of op)) (adder_width m.exprs e) none) refl (operands_of m.exprs op a b)
        (λ v. operands m.exprs f v e here op a b x) (taken m.exprs op a b) h
    kind_made (R.Mux c t d) x h =
        let b = low (R.Mux c t d) x in
        let w = wide (R.Mux c t d) x in
        makes_map _ (mux_made c (omega (arith, b.0)) h.0 (whole_nets st t) (whole_nets st d) (λ v. word m.exprs v t) (λ v. word m.exprs v d)
        (Has (whole st t)) (Has (whole st d)) (read_whole m st i t) (read_whole m st i d)
        (λ p q. whole_length m st i f t (omega (arith, b.1)) p ∙ w.1 ∙ sym w.2 ∙ sym (whole_length m st i f d (omega (arith, b.2)) q)) h.1.0 h.1.1.0)
        (λ ns l a p. holds_as p (is (R.Mux c t d) x))
    kind_made (R.Concat ps) x h =
        makes_done (later_refl i.sound) cells_refl (holds_as (parts_made ps (turned st ps [] (has_all ob st (backwards ps []) h)).0) (is (R.Concat ps) x))
    kind_made (R.Slice a lsb) x h =
        makes_done (later_refl i.sound) cells_refl
        (holds_as (read_range m st i f a lsb (width_at m.exprs e) (omega (arith, low (R.Slice a lsb) x)) (wide (R.Slice a lsb) x) h.0) (is (R.Slice a lsb) x))

    -- what `lower_expression` makes stands for the expression
    pub whole_made : AllAfter ob st (whole_steps m.exprs e) → Makes st.netlist (λ ns l. NetsGive l st.signal_bits ns (λ v. word m.exprs v e)) (build_whole m.exprs ob st e)
    unfolding whole_steps build_whole
    whole_made h = kind_made (expr_at m.exprs e).kind refl h
