-- Where each bit of an expression has a derived net, building it of its operands' nets makes nothing. Assumes nothing.
use Rattle.std.specs.Prelude.{◌≡◌, ◌⊎◌, Bool, true, false, cond, List, ℕ, ◌+◌, ◌≤◌, ◌<◌, length, take, drop}
use Rattle.std.proofs.Math.Path.{refl}
use Rattle.std.proofs.Common.{sym, ap, subst, ◌∙◌, inl, inr, true≢false, arith}
use Rattle.std.proofs.Math.Logic.{⊎_map}
use Rattle.std.proofs.Math.Option.{Option, none, some}
use Rattle.std.proofs.Math.ListN.{get_elem?}
use Rattle.spec_rtl.specs.Word.{bits, length_bits}
use Rattle.spec_rtl.specs.Rtl as R
use Rattle.spec_rtl.specs.Rtl.{Module, Valuation, Kind, Unary, Binary}
use Rattle.spec_model.specs.Words.{Netlist}
use Rattle.spec_model.specs.Builder.{done, Made, constant_value, is_value, add_constant, add_not, add_mux, each, both}
use Rattle.spec_model.specs.Ranges.{expr_at, width_at, class_of, Gate}
use Rattle.spec_model.specs.Lowering.{State, Range, add_gate, is_bit_not, gate_of, gate_steps, operands_of, operand_steps, whole_nets, whole_net, range_nets, signal_nets, part_nets, piece_nets, concat_pieces, selected, build_mux, expression_net, lower_unary, build_binary, build_kind, kind_steps, range_kind, range_gate, kind_range_steps, whole_steps, build_whole, range_steps_of, build_range}
use Rattle.word_laws.specs.Values.{slice_wide}
use Rattle.word_laws.specs.Widths.{BelowE, Formed, WidthOk}
use Rattle.word_ranges.proofs.Fusion.{operands}
use Rattle.law_walk.specs.Tables.{some_eq}
use Rattle.law_walk.specs.Kept.{Inv}
use Rattle.law_walk.specs.Reads.{After, AllAfter}
use Rattle.law_walk.specs.Parts.{gate_wide}
use Rattle.law_memo.specs.Along.{Along, along_map, along_whole, along_slice}
use Rattle.law_memo.specs.Repeated.{From2, Bits, unzip, unzip2, each_again, both_again}
use Rattle.law_memo.specs.Derived.{side_of, Tables, Net, net_single, Nets, nets_same, Carry, carry_same, binary_of, UnBit, BinBit, MuxBit, KindBit}
use Rattle.law_memo.specs.Later.{Knows}
use Rattle.law_memo.specs.Reads.{range_along, range_length}
use Rattle.law_memo.specs.Kinds.{AreNets, carry_of, read_nets, read_carry, bit0_net, split_operands, gates_made, gate_operands, binary_made}

-- an answer in the netlist l itself
abbrev pub Nothing : Made (List ℕ) → Netlist → Type 0
Nothing o l = (ns : List ℕ) × (o ≡ done (ns, l))

-- the first of some bits
first_bit : {D : ℕ → ℕ → Type 0} (w : ℕ) → 1 ≤ w → Bits D 0 w → (n : ℕ) × D 0 n
first_bit w h d = d 0 (omega arith) (omega arith)

module _ (m : Module) (f : Formed m.exprs) (ob : Bool) (su : State) (i : Inv m su) (sig net : Tables) (known : Knows (expression_net su) net) where
  abbrev DerivedBits : Kind → ℕ → ℕ → ℕ → Type 0
  DerivedBits k e b w = Bits (KindBit m ob su.netlist sig net k e) b w

  along_known : (a b : ℕ) (ns : List ℕ) → Along (λ j n. expression_net su a j ≡ some n) b ns → Along (Net m net a) b ns
  along_known a b ns h = along_map (λ j n. expression_net su a j ≡ some n) (Net m net a) (λ j n x. known a j n x) b ns h

  nets_known : {a : ℕ} {ns : List ℕ} → Nets m (expression_net su) a ns → Nets m net a ns
  nets_known {a} {ns} h = record { wide = h.wide; are = along_known a 0 ns h.are }

  carry_known : (c n : Option ℕ) → Carry m (expression_net su) c n → Carry m net c n
  carry_known none none h = tt
  carry_known none (some n) h = absurd h
  carry_known (some c) none h = absurd h
  carry_known (some c) (some n) h = record { all = h.all; nets = nets_known h.nets; first = h.first }

  -- ---- one net a bit ----

  constants_nothing : (e c b w : ℕ) (vs : List Bool) → length vs ≡ w → Along (λ j v. get_elem? (bits (width_at m.exprs e) c) j ≡ some v) b vs → DerivedBits (R.Constant c) e b w
      → Nothing (each add_constant vs su.netlist) su.netlist
  constants_nothing e c b w vs n a d =
      let r = unzip (λ j v. get_elem? (bits (width_at m.exprs e) c) j ≡ some v) (λ j v u x y. some_eq (sym x ∙ y)) add_constant su.netlist b vs a (λ j x y. d j x (omega arith)) in
      (r.0, each_again add_constant su.netlist vs r.0 r.1)

  nots_nothing : (e a b w : ℕ) (xs : List ℕ) → length xs ≡ w → Along (Net m net a) b xs → DerivedBits (R.Un R.BitNot a) e b w → Nothing (each add_not xs su.netlist) su.netlist
  nots_nothing e a b w xs n h d =
      let r = unzip (Net m net a) (net_single m net a) add_not su.netlist b xs h (λ j x y. d j x (omega arith)) in
      (r.0, each_again add_not su.netlist xs r.0 r.1)

  gates_nothing : (g : Gate) (x y b w : ℕ) (xs ys : List ℕ) → length xs ≡ w → length ys ≡ w → Along (Net m net x) b xs → Along (Net m net y) b ys
      → Bits (λ j n. From2 (Net m net x j) (Net m net y j) (add_gate g) su.netlist n) b w → Nothing (both (add_gate g) xs ys su.netlist) su.netlist
  gates_nothing g x y b w xs ys n k p q d =
      let r = unzip2 (Net m net x) (Net m net y) (net_single m net x) (net_single m net y) (add_gate g) su.netlist b xs ys (n ∙ sym k) p q (λ j u v. d j u (omega arith)) in
      (r.0, both_again (add_gate g) su.netlist xs ys r.0 r.1)

  gate_bits : (g : Gate) (op : Binary) (e x y b w : ℕ) → gate_of (class_of op) ≡ some g → DerivedBits (R.Bin op x y) e b w
      → Bits (λ j n. From2 (Net m net x j) (Net m net y j) (add_gate g) su.netlist n) b w
  gate_bits g op e x y b w q d j u v = let r = d j u v in (r.0, (rw q at r.1))

  -- ---- a Mux ----

  -- the condition's net, as it is read and as the tables know it
  pub side_of_law : (o : Bool) (c n : ℕ) → expression_net su c 0 ≡ some (whole_net su c 0) → Net m net c 0 n → selected o su c ≡ side_of o (constant_value su.netlist n)
  side_of_law false c n h k = refl
  side_of_law true c n h k = ap (constant_value su.netlist) (some_eq (sym (known c 0 (whole_net su c 0) h) ∙ k))

  mux_nothing : (c t d e b w : ℕ) (ts es : List ℕ) → expression_net su c 0 ≡ some (whole_net su c 0)
      → (is_value false (selected ob su c) ≡ true) ⊎ ((length ts ≡ w) × Along (Net m net t) b ts) → (is_value true (selected ob su c) ≡ true) ⊎ ((length es ≡ w) × Along (Net m net d) b es)
      → DerivedBits (R.Mux c t d) e b w → Nothing (build_mux (selected ob su c) (whole_net su c 0) ts es su.netlist) su.netlist
  mux_nothing c t d e b w ts es h x y z = go (selected ob su c) refl x y
    where
      one : selected ob su c ≡ none → Bits (λ j n. From2 (Net m net t j) (Net m net d j) (add_mux (whole_net su c 0)) su.netlist n) b w
      one q j u v =
          let r = z j u v in
          let s : whole_net su c 0 ≡ r.1.test = some_eq (sym (known c 0 (whole_net su c 0) h) ∙ r.1.is) in
          let g : MuxBit m ob su.netlist sig net none r.1.test t d j r.0 = rw (sym (side_of_law ob c r.1.test h r.1.is) ∙ q) at r.1.gives in
          (r.0, subst (λ (k : ℕ). From2 (Net m net t j) (Net m net d j) (add_mux k) su.netlist r.0) (sym s) g)

      go : (o : Option Bool) → selected ob su c ≡ o → (is_value false o ≡ true) ⊎ ((length ts ≡ w) × Along (Net m net t) b ts) → (is_value true o ≡ true) ⊎ ((length es ≡ w) × Along (Net m net d) b es)
          → Nothing (build_mux o (whole_net su c 0) ts es su.netlist) su.netlist
      go (some v) q x y = (cond v ts es, refl)
      go none q (inl a) y = absurd (true≢false (sym a))
      go none q (inr a) (inl p) = absurd (true≢false (sym p))
      go none q (inr a) (inr p) =
          let r = unzip2 (Net m net t) (Net m net d) (net_single m net t) (net_single m net d) (add_mux (whole_net su c 0)) su.netlist b ts es (a.0 ∙ sym p.0) a.1 p.1
          (λ j u v. one q j u (omega (arith, a.0))) in
          (r.0, both_again (add_mux (whole_net su c 0)) su.netlist ts es r.0 r.1)

  -- ---- an operator that one call makes ----

  un_nothing : (op : Unary) (a e w : ℕ) → is_bit_not op ≡ false → 1 ≤ w → AreNets m f ob su i a (whole_nets su a) → DerivedBits (R.Un op a) e 0 w
      → Nothing (lower_unary op (whole_nets su a) su.netlist) su.netlist
  un_nothing op a e w q h n d =
      let r = first_bit w h d in
      let o = subst (λ (t : Bool). UnBit m ob su.netlist sig net t op a 0 r.0) q r.1 in
      (o.gives.all, ap (λ (xs : List ℕ). lower_unary op xs su.netlist) (nets_same m net (nets_known n) o.nets) ∙ o.gives.made)

  bin_nothing : (op : Binary) (a b e w : ℕ) → gate_of (class_of op) ≡ none → 1 ≤ w → AreNets m f ob su i (operands_of m.exprs op a b).lhs (whole_nets su (operands_of m.exprs op a b).lhs)
      → AreNets m f ob su i (operands_of m.exprs op a b).rhs (whole_nets su (operands_of m.exprs op a b).rhs)
      → Carry m (expression_net su) (operands_of m.exprs op a b).carry (carry_of su (operands_of m.exprs op a b).carry) → DerivedBits (R.Bin op a b) e 0 w
      → Nothing (build_binary m.exprs su e (width_at m.exprs e) op a b) su.netlist
  bin_nothing op a b e w q h x y c d =
      let r = first_bit w h d in
      let o = subst (λ (g : Option Gate). BinBit m ob su.netlist sig net g e op a b 0 r.0) q r.1 in
      let p = operands_of m.exprs op a b in
      let xs = nets_same m net (nets_known x) o.left in
      let ys = nets_same m net (nets_known y) o.right in
      let cs = carry_same m net p.carry (carry_of su p.carry) o.carry (carry_known p.carry (carry_of su p.carry) c) o.with in
      (o.gives.all, binary_made m.exprs su e op a b ∙ same_call xs ys cs ∙ o.gives.made)
    where
      same_call : {xs xs' ys ys' : List ℕ} {c c' : Option ℕ} → xs ≡ xs' → ys ≡ ys' → c ≡ c' → binary_of m.exprs e op xs ys c su.netlist ≡ binary_of m.exprs e op xs' ys' c' su.netlist
      same_call p q r = rw (p, q, r) refl

  -- ---- by kind ----

  module _ (e : ℕ) (here : e < length m.exprs) where
    bin_whole : (op : Binary) (a b : ℕ) → (expr_at m.exprs e).kind ≡ R.Bin op a b → BelowE e (R.Bin op a b) → WidthOk (width_at m.exprs) (width_at m.exprs e) (R.Bin op a b)
        → (g : Option Gate) → gate_of (class_of op) ≡ g → AllAfter ob su (operand_steps (operands_of m.exprs op a b)) → DerivedBits (R.Bin op a b) e 0 (width_at m.exprs e)
        → Nothing (build_binary m.exprs su e (width_at m.exprs e) op a b) su.netlist
    bin_whole op a b x low wide (some g) q h d =
        let z : AllAfter ob su (operand_steps (record { lhs = a; rhs = b; carry = none })) = rw (gate_operands m.exprs op a b g q) at h in
        let v = gate_wide (width_at m.exprs) (width_at m.exprs e) a b op g q wide in
        let xs = nets_known (read_nets m f ob su i a (omega (arith, low.0)) z.0) in
        let ys = nets_known (read_nets m f ob su i b (omega (arith, low.1)) z.1.0) in
        let r = gates_nothing g a b 0 (width_at m.exprs e) (whole_nets su a) (whole_nets su b) (xs.wide ∙ v.0) (ys.wide ∙ v.1) xs.are ys.are (gate_bits g op e a b 0 (width_at m.exprs e) q d) in
        (r.0, gates_made m.exprs su e (width_at m.exprs e) op a b g q ∙ r.1)
    bin_whole op a b x low wide none q h d =
        let v : Valuation = λ s j. false in
        let o = operands_of m.exprs op a b in
        let t = operands m.exprs f v e here op a b x in
        let z = split_operands m f ob su i e here o t.carry_below h in
        bin_nothing op a b e (width_at m.exprs e) q (f.least e here) (read_nets m f ob su i o.lhs (omega (arith, t.lhs_below)) z.0) (read_nets m f ob su i o.rhs (omega (arith, t.rhs_below)) z.1)
        (read_carry m f ob su i o.carry z.2) d

    whole_kind : (k : Kind) → (expr_at m.exprs e).kind ≡ k → BelowE e k → WidthOk (width_at m.exprs) (width_at m.exprs e) k → AllAfter ob su (kind_steps m.exprs (width_at m.exprs e) k)
        → DerivedBits k e 0 (width_at m.exprs e) → Nothing (build_kind m.exprs ob su e (width_at m.exprs e) k) su.netlist
    unfolding lower_unary
    whole_kind (R.Signal s lsb) x low wide h d = (signal_nets su s lsb (width_at m.exprs e), refl)
    whole_kind (R.Constant c) x low wide h d =
        constants_nothing e c 0 (width_at m.exprs e) (bits (width_at m.exprs e) c) (length_bits (width_at m.exprs e) c)
        (along_whole (λ j v. get_elem? (bits (width_at m.exprs e) c) j ≡ some v) (bits (width_at m.exprs e) c) (λ j v z. z)) d
    whole_kind (R.Un R.BitNot a) x low wide h d =
        let ns = nets_known (read_nets m f ob su i a (omega arith) h.0) in
        nots_nothing e a 0 (width_at m.exprs e) (whole_nets su a) (ns.wide ∙ wide) ns.are d
    whole_kind (R.Un R.LogicNot a) x low wide h d = un_nothing R.LogicNot a e (width_at m.exprs e) refl (f.least e here) (read_nets m f ob su i a (omega arith) h.0) d
    whole_kind (R.Un R.ReduceOr a) x low wide h d = un_nothing R.ReduceOr a e (width_at m.exprs e) refl (f.least e here) (read_nets m f ob su i a (omega arith) h.0) d
    whole_kind (R.Un R.ReduceAnd a) x low wide h d = un_nothing R.ReduceAnd a e (width_at m.exprs e) refl (f.least e here) (read_nets m f ob su i a (omega arith) h.0) d
    whole_kind (R.Un R.ReduceXor a) x low wide h d = un_nothing R.ReduceXor a e (width_at m.exprs e) refl (f.least e here) (read_nets m f ob su i a (omega arith) h.0) d
    whole_kind (R.Bin op a b) x low wide h d = bin_whole op a b x low wide (gate_of (class_of op)) refl h d
    whole_kind (R.Mux c t v) x low wide h d =
        mux_nothing c t v e 0 (width_at m.exprs e) (whole_nets su t) (whole_nets su v) (bit0_net m f ob su i c (omega (arith, low.0)) h.0)
        (⊎_map (λ p. p) (λ z. let ns = nets_known (read_nets m f ob su i t (omega (arith, low.1)) z) in (ns.wide ∙ wide.1, ns.are)) h.1.0)
        (⊎_map (λ p. p) (λ z. let ns = nets_known (read_nets m f ob su i v (omega (arith, low.2)) z) in (ns.wide ∙ wide.2, ns.are)) h.1.1.0) d
    whole_kind (R.Concat ps) x low wide h d = (part_nets su ps, refl)
    whole_kind (R.Slice a lsb) x low wide h d = (range_nets su a lsb (width_at m.exprs e), refl)

    pub whole_nothing : AllAfter ob su (whole_steps m.exprs e) → Bits (KindBit m ob su.netlist sig net (expr_at m.exprs e).kind e) 0 (width_at m.exprs e)
        → Nothing (build_whole m.exprs ob su e) su.netlist
    unfolding whole_steps build_whole
    whole_nothing h d = whole_kind (expr_at m.exprs e).kind refl (f.low e here) (f.wide e here) h d

    -- ---- a range ----

    module _ (lsb w : ℕ) (fits : lsb + w ≤ width_at m.exprs e) where
      -- the nets of a range of an operand of the same width
      read_range : (a : ℕ) → a < length m.exprs → lsb + w ≤ width_at m.exprs a → After su (Range a lsb w) → (length (range_nets su a lsb w) ≡ w) × Along (Net m net a) lsb (range_nets su a lsb w)
      read_range a low wide h = (range_length m su i f a low lsb w wide h, along_known a lsb (range_nets su a lsb w) (range_along m su i f a low lsb w wide h))

      bin_range : (op : Binary) (a b : ℕ) → BelowE e (R.Bin op a b) → WidthOk (width_at m.exprs) (width_at m.exprs e) (R.Bin op a b) → (g : Option Gate) → gate_of (class_of op) ≡ g
          → AllAfter ob su (gate_steps g e a b lsb w) → DerivedBits (R.Bin op a b) e lsb w → Nothing (range_gate g su e a b lsb w) su.netlist
      bin_range op a b low wide none q h d = (range_nets su e lsb w, refl)
      bin_range op a b low wide (some g) q h d =
          let v = gate_wide (width_at m.exprs) (width_at m.exprs e) a b op g q wide in
          let xs = read_range a (omega (arith, low.0)) (omega (arith, v.0)) h.0 in
          let ys = read_range b (omega (arith, low.1)) (omega (arith, v.1)) h.1.0 in
          gates_nothing g a b lsb w (range_nets su a lsb w) (range_nets su b lsb w) xs.0 ys.0 xs.1 ys.1 (gate_bits g op e a b lsb w q d)

      range_kind_law : (k : Kind) → BelowE e k → WidthOk (width_at m.exprs) (width_at m.exprs e) k → AllAfter ob su (kind_range_steps m.exprs e lsb w k) → DerivedBits k e lsb w
          → Nothing (range_kind m.exprs ob su e lsb w (width_at m.exprs e) k) su.netlist
      range_kind_law (R.Signal s p) low wide h d = (signal_nets su s (p + lsb) w, refl)
      range_kind_law (R.Constant c) low wide h d =
          let vs = bits (width_at m.exprs e) c in
          let n = length_bits (width_at m.exprs e) c in
          constants_nothing e c lsb w (take w (drop lsb vs)) (slice_wide lsb w vs (omega (arith, n)))
          (along_slice (λ j v. get_elem? (bits (width_at m.exprs e) c) j ≡ some v) lsb w vs (along_whole (λ j v. get_elem? (bits (width_at m.exprs e) c) j ≡ some v) vs (λ j v y. y))) d
      range_kind_law (R.Un R.BitNot a) low wide h d =
          let xs = read_range a (omega arith) (omega arith) h.0 in
          nots_nothing e a lsb w (range_nets su a lsb w) xs.0 xs.1 d
      range_kind_law (R.Un R.LogicNot a) low wide h d = (range_nets su e lsb w, refl)
      range_kind_law (R.Un R.ReduceOr a) low wide h d = (range_nets su e lsb w, refl)
      range_kind_law (R.Un R.ReduceAnd a) low wide h d = (range_nets su e lsb w, refl)
      range_kind_law (R.Un R.ReduceXor a) low wide h d = (range_nets su e lsb w, refl)
      range_kind_law (R.Bin op a b) low wide h d = bin_range op a b low wide (gate_of (class_of op)) refl h d
      range_kind_law (R.Mux c t v) low wide h d =
          mux_nothing c t v e lsb w (range_nets su t lsb w) (range_nets su v lsb w) (bit0_net m f ob su i c (omega (arith, low.0)) h.0)
          (⊎_map (λ p. p) (read_range t (omega (arith, low.1)) (omega (arith, wide.1))) h.1.0) (⊎_map (λ p. p) (read_range v (omega (arith, low.2)) (omega (arith, wide.2))) h.1.1.0) d
      range_kind_law (R.Concat ps) low wide h d = (piece_nets su (concat_pieces m.exprs ps lsb w), refl)
      range_kind_law (R.Slice a p) low wide h d = (range_nets su a (p + lsb) w, refl)

      pub range_nothing : AllAfter ob su (range_steps_of m.exprs e lsb w) → Bits (KindBit m ob su.netlist sig net (expr_at m.exprs e).kind e) lsb w
          → Nothing (build_range m.exprs ob su e lsb w) su.netlist
      unfolding range_steps_of build_range
      range_nothing h d = range_kind_law (expr_at m.exprs e).kind (f.low e here) (f.wide e here) h d
