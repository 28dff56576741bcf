-- A derived net is derived in every later state: the tables know what they knew, and builder calls give what they gave. Assumes nothing.
use Rattle.std.specs.Prelude.{◌≡◌, refl, Bool, true, false, List, [], ◌∷◌, ℕ, suc, ◌+◌, ◌-◌, ◌<◌, length}
use Rattle.std.proofs.Common.{sym, ◌∙◌, inl, inr, arith}
use Rattle.std.proofs.Math.Option.{Option, none, some}
use Rattle.spec_rtl.specs.Rtl as R
use Rattle.spec_rtl.specs.Rtl.{Module, Valuation, Kind, Unary, Binary}
use Rattle.spec_model.specs.Words.{Netlist, absent}
use Rattle.spec_model.specs.Builder as B
use Rattle.spec_model.specs.Builder.{Made, constant_value, add_not, add_mux}
use Rattle.spec_model.specs.Ranges.{expr_at, width_at, class_of, Gate}
use Rattle.spec_model.specs.Lowering.{add_gate, is_bit_not, gate_of, Operands, operands_of, backwards, lower_unary, truncated}
use Rattle.word_laws.specs.Widths.{AllBelow, BelowE, BinWidth, Formed, word_width}
use Rattle.word_ranges.specs.Fusion.{CarryBelow, Operate}
use Rattle.word_ranges.proofs.Fusion.{operands}
use Rattle.law_nets.specs.Sound.{count, Sound}
use Rattle.law_walk.specs.Reads.{below_at, below_slice}
use Rattle.law_walk.specs.Parts.{below_turned}
use Rattle.law_walk.specs.Wholes.{truncated_length, truncated_width, Taken, plain, fusion, taken}
use Rattle.law_repeats.specs.Again.{Stays, value_stays, Again, repeats}
use Rattle.law_repeats.proofs.Gates.{again_constant, again_not, again_gate, again_mux}
use Rattle.law_repeats.proofs.Operators.{again_un, again_bin, again_carry, again_resized}
use Rattle.law_memo.specs.Along.{Along, along_map}
use Rattle.law_memo.specs.Repeated.{From, From2}
use Rattle.law_memo.specs.Derived.{narrow_to, cell_of, binary_of, side_of, OfAll, Tables, Net, Nets, CarryNet, Carry, UnBit, BinBit, MuxBit, PartBit, KindBit, Derived}

-- the nets of a table are there
abbrev pub There : Netlist → Tables → Type 0
There l t = (e b n : ℕ) → t e b ≡ some n → n < count l

-- what one table knows, the other knows
abbrev pub Knows : Tables → Tables → Type 0
Knows t t' = (e b n : ℕ) → t e b ≡ some n → t' e b ≡ some n

pub along_below : (k : ℕ) (P : ℕ → ℕ → Type 0) → ((b n : ℕ) → P b n → n < k) → (b : ℕ) (ns : List ℕ) → Along P b ns → AllBelow k ns
along_below k P h b [] a = tt
along_below k P h b (n ∷ ns) a = (h b n a.0, along_below k P h (suc b) ns a.1)

below_truncated : (k : ℕ) (n : Option ℕ) (xs : List ℕ) → AllBelow k xs → AllBelow k (truncated n xs)
below_truncated k none xs h = h
below_truncated k (some j) xs h = below_slice k 0 j xs h

module _ (m : Module) (f : Formed m.exprs) (ob : Bool) (l : Netlist) (q : Sound l) (sig net : Tables) (there : There l net) where
  pub nets_below : {e : ℕ} {ns : List ℕ} → Nets m net e ns → AllBelow (count l) ns
  nets_below {e} {ns} a = along_below (count l) (Net m net e) (there e) 0 ns a.are

  -- ---- the cell of an operator, made again ----

  module _ (e : ℕ) (here : e < length m.exprs) where
    pub carry_below : (c d : ℕ) → c < length m.exprs → CarryNet m net c d → d < count l
    carry_below c d h k =
        let n : 0 < length k.all = omega (arith, k.nets.wide, f.least c h) in
        rw (← k.first) (below_at (count l) k.all 0 absent n (nets_below k.nets))

    cell_again : (op : Binary) (a b : ℕ) → (expr_at m.exprs e).kind ≡ R.Bin op a b → (o : Operands)
        → ((v : Valuation) → Operate m.exprs v e (width_at m.exprs e) op o) → Taken op a b o → (xs ys : List ℕ) (c : Option ℕ)
        → Nets m net o.lhs xs → Nets m net o.rhs ys → Carry m net o.carry c → (n : Option ℕ) → narrow_to m.exprs e op ≡ n
        → Again (cell_of op n xs ys c) l
    cell_again op a b x o t plain xs ys none hx hy hc n e₁ =
        let whole_width : BinWidth op (width_at m.exprs e) (length xs) (length ys) = rw (hx.wide, hy.wide) (rw x at (f.wide e here)) in
        let w = truncated_width m.exprs e op (width_at m.exprs e) xs ys whole_width n e₁ in
        again_bin op w.0 (truncated n xs) (truncated n ys) l q (below_truncated (count l) n xs (nets_below hx)) (below_truncated (count l) n ys (nets_below hy)) w.1
    cell_again op a b x o t plain xs ys (some d) hx hy hc n e₁ = absurd hc
    cell_again op a b x o t (fusion add) xs ys none hx hy hc n e₁ = absurd hc
    cell_again op a b x o t (fusion {x = p} {y = r} {c = c} add) xs ys (some d) hx hy hc n e₁ =
        let v : Valuation = λ s j. false in
        let z = t v in
        let wp = sym (word_width m.exprs f v p (omega (arith, z.lhs_below))) ∙ z.lhs_wide add in
        let wr = sym (word_width m.exprs f v r (omega (arith, z.rhs_below))) ∙ z.rhs_wide add in
        again_carry (truncated n xs) (truncated n ys) d l q
        (carry_below c d (omega (arith, z.carry_below)) hc) (truncated_length n xs ys (hx.wide ∙ wp ∙ sym wr ∙ sym hy.wide))

    pub binary_again : (op : Binary) (a b : ℕ) → (expr_at m.exprs e).kind ≡ R.Bin op a b → (xs ys : List ℕ) (c : Option ℕ)
        → Nets m net (operands_of m.exprs op a b).lhs xs → Nets m net (operands_of m.exprs op a b).rhs ys
        → Carry m net (operands_of m.exprs op a b).carry c → Again (binary_of m.exprs e op xs ys c) l
    binary_again op a b x xs ys c hx hy hc =
        again_resized (narrow_to m.exprs e op) (width_at m.exprs e) (cell_of op (narrow_to m.exprs e op) xs ys c) l
        (cell_again op a b x (operands_of m.exprs op a b) (λ v. operands m.exprs f v e here op a b x) (taken m.exprs op a b) xs ys c hx hy hc (narrow_to m.exprs e op) refl)

  -- ---- later ----

  -- what the tables know of signal bits and of the expressions below e, they know
  module _ (l' : Netlist) (s : Stays l l') (sig' net' : Tables) (more : Knows sig sig') (e : ℕ) (here : e < length m.exprs)
      (known : (a b n : ℕ) → a < e → net a b ≡ some n → net' a b ≡ some n) where
    nets_later : {a : ℕ} {ns : List ℕ} → a < e → Nets m net a ns → Nets m net' a ns
    nets_later {a} {ns} low h = record { wide = h.wide; are = along_map (Net m net a) (Net m net' a) (λ b n x. known a b n low x) 0 ns h.are }

    carry_later : (c n : Option ℕ) → CarryBelow e c → Carry m net c n → Carry m net' c n
    carry_later none none low h = tt
    carry_later none (some n) low h = absurd h
    carry_later (some c) none low h = absurd h
    carry_later (some c) (some n) low h = record { all = h.all; nets = nets_later low h.nets; first = h.first }

    from_later : (a b n : ℕ) → a < e → (g : ℕ → Netlist → Made ℕ) → ((x : ℕ) → x < count l → Again (g x) l) → From (Net m net a b) g l n → From (Net m net' a b) g l' n
    from_later a b n low g k h = record { x = h.x; here = known a b h.x low h.here; made = repeats (k h.x (there a b h.x h.here)) h.made l' s }

    from2_later : (a c b n : ℕ) → a < e → c < e → (g : ℕ → ℕ → Netlist → Made ℕ) → ((x y : ℕ) → x < count l → y < count l → Again (g x y) l)
        → From2 (Net m net a b) (Net m net c b) g l n → From2 (Net m net' a b) (Net m net' c b) g l' n
    from2_later a c b n low low' g k h = record {
      x = h.x;
      y = h.y;
      left = known a b h.x low h.left;
      right = known c b h.y low' h.right;
      made = repeats (k h.x h.y (there a b h.x h.left) (there c b h.y h.right)) h.made l' s;
    }

    all_later : (g : Netlist → Made (List ℕ)) (b n : ℕ) → Again g l → OfAll (g l) l b n → OfAll (g l') l' b n
    all_later g b n a h = record { all = h.all; made = repeats a h.made l' s; at = h.at }

    un_later : (t : Bool) (op : Unary) (a b n : ℕ) → a < e → UnBit m ob l sig net t op a b n → UnBit m ob l' sig' net' t op a b n
    un_later true op a b n low h = from_later a b n low add_not (λ x p. again_not x l p) h
    un_later false op a b n low h = record {
      xs = h.xs;
      nets = nets_later low h.nets;
      gives = all_later (lower_unary op h.xs) b n (again_un op h.xs l q (nets_below h.nets)) h.gives;
    }

    bin_later : (g : Option Gate) (op : Binary) (x y : ℕ) → (expr_at m.exprs e).kind ≡ R.Bin op x y → BelowE e (R.Bin op x y) → (b n : ℕ)
        → BinBit m ob l sig net g e op x y b n → BinBit m ob l' sig' net' g e op x y b n
    bin_later (some g) op x y k low b n h = from2_later x y b n low.0 low.1 (add_gate g) (λ i j p r. again_gate g i j l p r) h
    bin_later none op x y k low b n h =
        let v : Valuation = λ p j. false in
        let z = operands m.exprs f v e here op x y k in
        record {
          xs = h.xs;
          ys = h.ys;
          carry = h.carry;
          left = nets_later z.lhs_below h.left;
          right = nets_later z.rhs_below h.right;
          with = carry_later (operands_of m.exprs op x y).carry h.carry z.carry_below h.with;
          gives = all_later (binary_of m.exprs e op h.xs h.ys h.carry) b n (binary_again e here op x y k h.xs h.ys h.carry h.left h.right h.with) h.gives;
        }

    mux_later : (o : Option Bool) (c t d b n : ℕ) → t < e → d < e → c < count l → MuxBit m ob l sig net o c t d b n → MuxBit m ob l' sig' net' o c t d b n
    mux_later (some true) c t d b n low low' h x = known t b n low x
    mux_later (some false) c t d b n low low' h x = known d b n low' x
    mux_later none c t d b n low low' h x = from2_later t d b n low low' (add_mux c) (λ i j p r. again_mux c i j l h) x

    part_later : (ps : List ℕ) (b n : ℕ) → AllBelow e ps → PartBit m ob l sig net ps b n → PartBit m ob l' sig' net' ps b n
    part_later [] b n low h = h
    part_later (p ∷ ps) b n low (inl h) = inl (h.0, known p b n low.0 h.1)
    part_later (p ∷ ps) b n low (inr h) = inr (h.0, part_later ps (b - width_at m.exprs p) n low.1 h.1)

    kind_later : (k : Kind) → (expr_at m.exprs e).kind ≡ k → BelowE e k → (b n : ℕ) → KindBit m ob l sig net k e b n → KindBit m ob l' sig' net' k e b n
    kind_later (R.Signal p lsb) k low b n h = more p (lsb + b) n h
    kind_later (R.Constant c) k low b n h = record { x = h.x; here = h.here; made = repeats (again_constant h.x l) h.made l' s }
    kind_later (R.Un op a) k low b n h = un_later (is_bit_not op) op a b n low h
    kind_later (R.Bin op x y) k low b n h = bin_later (gate_of (class_of op)) op x y k low b n h
    kind_later (R.Mux c t d) k low b n h =
        let z = there c 0 h.test h.is in
        record {
          test = h.test;
          is = known c 0 h.test low.0 h.is;
          gives = rw (value_stays s h.test z) (mux_later (side_of ob (constant_value l h.test)) h.test t d b n low.1 low.2 z h.gives);
        }
    kind_later (R.Concat ps) k low b n h = part_later (backwards ps []) b n (below_turned e ps [] low tt) h
    kind_later (R.Slice a lsb) k low b n h = known a (lsb + b) n low h

    pub derived_later : (b n : ℕ) → Derived m ob l sig net e b n → Derived m ob l' sig' net' e b n
    derived_later b n h = kind_later (expr_at m.exprs e).kind refl (f.low e here) b n h
