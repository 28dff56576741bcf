-- A plan: five words a step. Step i is a gate (net, table of eight bits, three nets), an arithmetic cell (.., 256, the place of its record in
-- the image) or a comparison (net, 257, the place). What a plan must be, and that its steps settle every net. Assumes nothing.
use Rattle.std.specs.Prelude.{ℕ, zero, suc, ◌+◌, ◌*◌, ◌-◌, ◌^◌, ◌/◌, ◌%◌, ◌≤◌, ◌<◌, ◌≡◌, refl, Bool, true, false, List, length, drop, get_or, set}
use Rattle.std.proofs.Common.{not-suc-le-zero, arith, sym, ap, ◌∙◌, subst, length-set, get_or-set_same, get_or-set_other}
use Rattle.std.proofs.Math.Decide.{dec_lt, ℕ_discrete}
use Rattle.std.proofs.Math.Path.{subst⁻¹}
use Rattle.spec_rtl.specs.Word.{bit}
use Rattle.spec_tests.specs.Rules.{pick, ◌<?◌, ◌≡?◌}
use Rattle.spec_rules.specs.NetlistImage.{netlist}
use Rattle.spec_rules.specs.Step.{Setting, Contents, net}
use Rattle.law_reads.specs.Reads.{node_of, is_source}
use Rattle.trace_cells.specs.Digits.{Bits, Writes, bits_set}
use Rattle.trace_cells.specs.Cells.{ArithmeticFits, left_of, outs_of, total_of, Compares, lesser_of, greater_of, answer_of, answer, top_of}

abbrev pub size : List ℕ → ℕ
size ws = length (netlist ws).nodes

-- the bit of a table that three bits choose
unfoldable pub chosen : ℕ → ℕ → ℕ → ℕ → ℕ
chosen q a b c = q / 2 ^ (a + 2 * b + 4 * c) % 2

-- word f of step i
abbrev pub word : List ℕ → ℕ → ℕ → ℕ
word t i f = get_or t (5 * i + f) 0

-- the record of a cell's step
abbrev pub place : List ℕ → List ℕ → ℕ → List ℕ
place ws t i = drop (word t i 2) ws

-- ---- one step on the words ----

pub record Ready (ws t : List ℕ) (i : ℕ) (v : List ℕ) : Type 0 where
  pub long : 5 * i + 5 ≤ length t
  pub bits : Bits v
  pub gate : word t i 1 < 256 → ((word t i 0 < length v) × (word t i 2 < length v)) × ((word t i 3 < length v) × (word t i 4 < length v))
  pub arithmetic : word t i 1 ≡ 256 → ArithmeticFits (place ws t i) v
  pub comparison : 256 < word t i 1 → (word t i 0 < length v) × Compares (lesser_of (place ws t i)) (greater_of (place ws t i)) v

pub record Done (ws t : List ℕ) (i : ℕ) (v v' : List ℕ) : Type 0 where
  pub gate : word t i 1 < 256 → v' ≡ set v (word t i 0) (chosen (word t i 1) (get_or v (word t i 2) 0) (get_or v (word t i 3) 0) (get_or v (word t i 4) 0))
  pub arithmetic : word t i 1 ≡ 256 → Writes (outs_of (place ws t i)) v v' (λ m. total_of (place ws t i) v / 2 ^ m % 2) (length (left_of (place ws t i)))
  pub comparison : 256 < word t i 1 → v' ≡ set v (word t i 0) (answer_of (place ws t i) v)

-- ---- what the words mean ----

-- every net that is due by step i has its value
pub record Settled (ws : List ℕ) (due : ℕ → ℕ) (s : Setting) (c : Contents) (i : ℕ) (v : List ℕ) : Type 0 where
  pub holds : (j : ℕ) → j < size ws → due j ≤ i → get_or v j 0 ≡ bit (net (netlist ws) s c j)

-- every source has its value: inputs, register and memory outputs, constants
pub record Loaded (ws : List ℕ) (s : Setting) (c : Contents) (v : List ℕ) : Type 0 where
  pub holds : (j : ℕ) → j < size ws → is_source (node_of (netlist ws) j) ≡ true → get_or v j 0 ≡ bit (net (netlist ws) s c j)

pub record Valued (ws : List ℕ) (s : Setting) (c : Contents) (v : List ℕ) : Type 0 where
  pub holds : (j : ℕ) → j < size ws → get_or v j 0 ≡ bit (net (netlist ws) s c j)

module _ (ws t : List ℕ) (due : ℕ → ℕ) (i : ℕ) where
  -- a step that gives one net the value f of the table
  pub record One (f : List ℕ → ℕ) : Type 0 where
    pub inside : word t i 0 < size ws
    pub only : (j : ℕ) → j < size ws → due j ≤ i + 1 → (j ≡ word t i 0 → ⊥) → due j ≤ i
    pub rule : (s : Setting) (c : Contents) (v : List ℕ) → Bits v → Settled ws due s c i v → f v ≡ bit (net (netlist ws) s c (word t i 0))

  abbrev pub gate_of : List ℕ → ℕ
  gate_of v = chosen (word t i 1) (get_or v (word t i 2) 0) (get_or v (word t i 3) 0) (get_or v (word t i 4) 0)

  pub record GateStep : Type 0 where
    pub inputs : (word t i 2 < size ws) × ((word t i 3 < size ws) × (word t i 4 < size ws))
    pub one : One gate_of

  pub record ArithmeticStep : Type 0 where
    pub fits : (v : List ℕ) → size ws ≤ length v → ArithmeticFits (place ws t i) v
    pub only : (j : ℕ) → j < size ws → due j ≤ i + 1 → ((m : ℕ) → m < length (left_of (place ws t i)) → get_or (outs_of (place ws t i)) m 0 ≡ j → ⊥) → due j ≤ i
    pub rule : (s : Setting) (c : Contents) (v : List ℕ) → Bits v → Settled ws due s c i v → (m : ℕ) → m < length (left_of (place ws t i))
        → total_of (place ws t i) v / 2 ^ m % 2 ≡ bit (net (netlist ws) s c (get_or (outs_of (place ws t i)) m 0))

  pub record ComparisonStep : Type 0 where
    pub fits : (v : List ℕ) → size ws ≤ length v → Compares (lesser_of (place ws t i)) (greater_of (place ws t i)) v
    pub one : One (answer_of (place ws t i))

-- a plan of count steps: what is due at once is a source, and every net is due by the end
pub record Plan (ws t : List ℕ) (count : ℕ) : Type 0 where
  pub due : ℕ → ℕ
  pub long : 5 * count ≤ length t
  pub sources : (j : ℕ) → j < size ws → due j ≤ 0 → is_source (node_of (netlist ws) j) ≡ true
  pub ends : (j : ℕ) → j < size ws → due j ≤ count
  pub gate : (i : ℕ) → i < count → word t i 1 < 256 → GateStep ws t due i
  pub arithmetic : (i : ℕ) → i < count → word t i 1 ≡ 256 → ArithmeticStep ws t due i
  pub comparison : (i : ℕ) → i < count → 256 < word t i 1 → ComparisonStep ws t due i

pub ready : {ws t : List ℕ} {count : ℕ} → Plan ws t count → (i : ℕ) → i < count → (v : List ℕ) → size ws ≤ length v → Bits v → Ready ws t i v
ready {ws} {t} p i h v l b = record {
  long = omega (arith, p.long);
  bits = b;
  gate = λ q. (let g = p.gate i h q in let x = g.inputs in let o = g.one.inside in ((omega arith, omega arith), (omega arith, omega arith)));
  arithmetic = λ q. (p.arithmetic i h q).fits v l;
  comparison = λ q. (let g = p.comparison i h q in let o = g.one.inside in (omega arith, g.fits v l));
}

-- ---- a step settles what is due ----

among : {P : Type 0} (xs : List ℕ) (j k : ℕ) → ((m : ℕ) → m < k → get_or xs m 0 ≡ j → P) → (((m : ℕ) → m < k → get_or xs m 0 ≡ j → ⊥) → P) → P
among xs j zero f g = g (λ m h e. absurd (not-suc-le-zero h))
among xs j (suc k) f g = elim (ℕ_discrete (get_or xs k 0) j) [
  | yes e ↦ f k (omega arith) e
  | no e ↦ among xs j k (λ m h. f m (omega arith)) (λ a. g (λ m h z. elim (dec_lt m k) [
    | yes l ↦ a m l z
    | no l ↦ (let y : m ≡ k = omega arith in e (ap (λ (n : ℕ). get_or xs n 0) (sym y) ∙ z))
  ]))
]

module _ {ws t : List ℕ} {due : ℕ → ℕ} {i : ℕ} {s : Setting} {c : Contents} {v : List ℕ} (l : size ws ≤ length v) (b : Bits v) (g : Settled ws due s c i v) where
  settle_one : (f : List ℕ → ℕ) → One ws t due i f → (v' : List ℕ) → v' ≡ set v (word t i 0) (f v) → Settled ws due s c (i + 1) v'
  settle_one f o v' e = record {
    holds = λ j h d. elim (ℕ_discrete j (word t i 0)) [
      | yes z ↦ (let y : word t i 0 < length v = omega (arith, o.inside) in rw (e, z) (get_or-set_same v (word t i 0) (f v) 0 y ∙ o.rule s c v b g))
      | no z ↦ rw e (get_or-set_other v (word t i 0) j (f v) 0 z ∙ g.holds j h (o.only j h d z))
    ];
  }

  settle_cell : ArithmeticStep ws t due i → (v' : List ℕ)
      → Writes (outs_of (place ws t i)) v v' (λ m. total_of (place ws t i) v / 2 ^ m % 2) (length (left_of (place ws t i))) → Settled ws due s c (i + 1) v'
  settle_cell o v' w = record {
    holds = λ j h d. among (outs_of (place ws t i)) j (length (left_of (place ws t i)))
        (λ m k e. ap (λ (n : ℕ). get_or v' n 0) (sym e) ∙ w.made m k ∙ o.rule s c v b g m k ∙ ap (λ (n : ℕ). bit (net (netlist ws) s c n)) e)
        (λ none_is. w.kept j none_is ∙ g.holds j h (o.only j h d none_is));
  }

-- ---- the run ----

-- after i steps of a plan
pub record Running (ws t : List ℕ) (count : ℕ) (v v' : List ℕ) (i : ℕ) : Type 0 where
  pub up_to : i ≤ count
  pub long : length v' ≡ length v
  pub wide : size ws ≤ length v
  pub bits : Bits v'
  pub plan : Plan ws t count
  pub settled : (s : Setting) (c : Contents) → Loaded ws s c v → Settled ws plan.due s c i v'

pub running_start : {ws t : List ℕ} {count : ℕ} {v : List ℕ} → Plan ws t count → size ws ≤ length v → Bits v → Running ws t count v v 0
running_start {ws} {v = v} p l b = record {
  up_to = omega arith;
  long = refl;
  wide = l;
  bits = b;
  plan = p;
  settled = λ s c h. record { holds = λ j k d. h.holds j k (p.sources j k d) };
}

pub running_ready : {ws t : List ℕ} {count : ℕ} {v v' : List ℕ} {i : ℕ} → Running ws t count v v' i → i < count → Ready ws t i v'
running_ready {v' = v'} {i = i} g h = ready g.plan i h v' (omega (arith, g.wide, g.long)) g.bits

-- the three kinds of steps
kinds : {P : Type 0} (q : ℕ) → (q < 256 → P) → (q ≡ 256 → P) → (256 < q → P) → P
kinds q f g h = elim (dec_lt q 256) [
  | yes l ↦ f l
  | no l ↦ elim (dec_lt 256 q) [
    | yes m ↦ h m
    | no m ↦ g (omega arith)
  ]
]

chosen_low : (q a b c : ℕ) → chosen q a b c < 2
unfolding chosen
chosen_low q a b c = omega arith

done_long : {ws t : List ℕ} {i : ℕ} {v v' : List ℕ} → Done ws t i v v' → length v' ≡ length v
done_long {ws} {t} {i} {v} {v'} d = kinds (word t i 1) (λ q. ap length (d.gate q) ∙ simp length-set) (λ q. (d.arithmetic q).long) (λ q. ap length (d.comparison q) ∙ simp length-set)

pub running_more : {ws t : List ℕ} {count : ℕ} {v v' v'' : List ℕ} {i : ℕ} → Running ws t count v v' i → i < count → Done ws t i v' v'' → Bits v'' → Running ws t count v v'' (i + 1)
running_more {ws} {t} {count} {v} {v'} {v''} {i} g h d b =
    let l : size ws ≤ length v' = omega (arith, g.wide, g.long) in
    record {
      up_to = omega arith;
      long = done_long d ∙ g.long;
      wide = g.wide;
      bits = b;
      plan = g.plan;
      settled = λ s c k. kinds (word t i 1)
          (λ q. settle_one l g.bits (g.settled s c k) (gate_of ws t g.plan.due i) (g.plan.gate i h q).one v'' (d.gate q))
          (λ q. settle_cell l g.bits (g.settled s c k) (g.plan.arithmetic i h q) v'' (d.arithmetic q))
          (λ q. settle_one l g.bits (g.settled s c k) (answer_of (place ws t i)) (g.plan.comparison i h q).one v'' (d.comparison q));
    }

pub running_end : {ws t : List ℕ} {count : ℕ} {v v' : List ℕ} {i : ℕ} → Running ws t count v v' i → count ≤ i → (s : Setting) (c : Contents) → Loaded ws s c v → Valued ws s c v'
running_end {i = i} g h s c k = record { holds = λ j l. (g.settled s c k).holds j l (omega (arith, g.plan.ends j l, g.up_to)) }

-- ---- a step's words as they are read ----

pub gate_set : (v : List ℕ) (k b n : ℕ) → b ≡ n → b < 2 → Bits v → (set v k b ≡ set v k n) × Bits (set v k b)
gate_set v k b n e h g = (ap (λ (x : ℕ). set v k x) e, record { low = bits_set v k b g.low h })

pick_low : (t : Bool) (a b : ℕ) → a < 2 → b < 2 → pick t a b < 2
unfolding pick
pick_low true a b h g = h
pick_low false a b h g = g

answer_low : (operation : ℕ) (lhs rhs v : List ℕ) → Bits v → answer operation lhs rhs v < 2
unfolding answer
answer_low operation lhs rhs v b =
    pick_low (operation <? 2) _ _ (omega arith)
    (pick_low (top_of lhs v ≡? top_of rhs v) _ _ (omega arith) (b.low (get_or lhs (length lhs - 1) 0)))

pub compared_set : (v r : List ℕ) (k b : ℕ) → b ≡ answer_of r v → Bits v → (set v k b ≡ set v k (answer_of r v)) × Bits (set v k b)
compared_set v r k b e g = gate_set v k b (answer_of r v) e (rw e (answer_low (get_or r 1 0) (lesser_of r) (greater_of r) v g)) g

module _ {ws t : List ℕ} {i : ℕ} {v : List ℕ} (g : Ready ws t i v) where
  pub gate_fits : (k q x y z : ℕ) → k ≡ word t i 0 → q ≡ word t i 1 → x ≡ word t i 2 → y ≡ word t i 3 → z ≡ word t i 4 → q < 256
      → Bits v × (((k < length v) × (x < length v)) × ((y < length v) × (z < length v)))
  gate_fits k q x y z ek eq ex ey ez h = let f = g.gate (rw eq at h) in (g.bits, ((omega arith, omega arith), (omega arith, omega arith)))

  pub gate_done : (k q x y z : ℕ) (v' : List ℕ) → k ≡ word t i 0 → q ≡ word t i 1 → x ≡ word t i 2 → y ≡ word t i 3 → z ≡ word t i 4 → q < 256
      → v' ≡ set v k (chosen q (get_or v x 0) (get_or v y 0) (get_or v z 0)) → Done ws t i v v'
  gate_done k q x y z v' ek eq ex ey ez h e = record {
    gate = λ l. e ∙ rw (ek, eq, ex, ey, ez) refl;
    arithmetic = λ l. absurd (omega arith);
    comparison = λ l. absurd (omega arith);
  }

  pub arithmetic_fits : (q p : ℕ) (r : List ℕ) → q ≡ word t i 1 → p ≡ word t i 2 → r ≡ drop p ws → q ≡ 256 → ArithmeticFits r v
  arithmetic_fits q p r eq ep er h = rw (er, ep) (g.arithmetic (sym eq ∙ h))

  pub arithmetic_done : (q p : ℕ) (r v' : List ℕ) → q ≡ word t i 1 → p ≡ word t i 2 → r ≡ drop p ws → q ≡ 256
      → Writes (outs_of r) v v' (λ m. total_of r v / 2 ^ m % 2) (length (left_of r)) → Done ws t i v v' × Bits v'
  arithmetic_done q p r v' eq ep er h w =
      let z : r ≡ place ws t i = er ∙ ap (λ (n : ℕ). drop n ws) ep in (
        record {
          gate = λ l. absurd (omega arith);
          arithmetic = λ l. subst (λ (r : List ℕ). Writes (outs_of r) v v' (λ m. total_of r v / 2 ^ m % 2) (length (left_of r))) z w;
          comparison = λ l. absurd (omega arith);
        },
        record { low = w.bits },
      )

  pub comparison_fits : (k q p : ℕ) (r : List ℕ) → k ≡ word t i 0 → q ≡ word t i 1 → p ≡ word t i 2 → r ≡ drop p ws → 256 ≤ q → (q ≡ 256 → ⊥)
      → (k < length v) × (Compares (lesser_of r) (greater_of r) v × Bits v)
  comparison_fits k q p r ek eq ep er h n =
      let b : 256 < q = other q h n in
      let f = g.comparison (rw eq at b) in
      let a = f.0 in
      let z : r ≡ place ws t i = er ∙ ap (λ (n : ℕ). drop n ws) ep in
      (omega arith, (subst⁻¹ (λ (r : List ℕ). Compares (lesser_of r) (greater_of r) v) z f.1, g.bits))
    where
      other : (q : ℕ) → 256 ≤ q → (q ≡ 256 → ⊥) → 256 < q
      other q h n = elim (dec_lt 256 q) [
        | yes l ↦ l
        | no l ↦ absurd (n (omega arith))
      ]

  pub comparison_done : (k q p : ℕ) (r v' : List ℕ) → k ≡ word t i 0 → q ≡ word t i 1 → p ≡ word t i 2 → r ≡ drop p ws → 256 ≤ q → (q ≡ 256 → ⊥)
      → v' ≡ set v k (answer_of r v) → Done ws t i v v'
  comparison_done k q p r v' ek eq ep er h n e =
      let z : r ≡ place ws t i = er ∙ ap (λ (n : ℕ). drop n ws) ep in
      record {
        gate = λ l. absurd (omega arith);
        arithmetic = λ l. absurd (n (eq ∙ l));
        comparison = λ l. e ∙ ap (λ (m : ℕ). set v m (answer_of r v)) ek ∙ ap (λ (r : List ℕ). set v (word t i 0) (answer_of r v)) z;
      }
