-- Gates: the net that each call gives stands for its operation on its operands' nets, folded or not, found or made. Assumes nothing.
use Rattle.std.specs.Prelude.{◌≡◌, refl, Bool, true, false, not, cond, ◌&&◌, ◌||◌, ℕ, ◌<◌, min, max, eqb}
use Rattle.std.proofs.Common.{sym, ap, subst, ◌∙◌, arith, eqb-true}
use Rattle.std.proofs.Math.Bool.{not-not, and_comm, and_self, or_comm, or_self}
use Rattle.std.proofs.Math.Option.{Option, none, some}
use Rattle.std.proofs.Math.Decide.{dec_lt}
use Rattle.std.proofs.lemmas.Bool.{eqb-false}
use Rattle.spec_tests.specs.Rules.{◌≡?◌}
use Rattle.spec_rtl.specs.Ops.{xor_b}
use Rattle.spec_rules.specs.NetlistImage as N
use Rattle.spec_rules.specs.NetlistImage.{node_of}
use Rattle.spec_rules.specs.Step.{Setting, Contents, node_value}
use Rattle.spec_model.specs.Words.{absent, Node, node, gate, Netlist}
use Rattle.spec_model.specs.Builder.{Made, done, node_for_net, constant_of, constant_value, is_value, is_constant, add_cached, add_constant, not_by, add_not, add_and, add_or, add_xor}
use Rattle.law_nets.specs.Meaning.{decode, meaning_of, net_value}
use Rattle.law_nets.specs.Sound.{count, Plain, Wired, Sound, Stands}
use Rattle.law_nets.specs.Run.{Run}
use Rattle.law_nets.proofs.Run.{later_trans, stands_as, run_here, run_map}
use Rattle.law_nets.proofs.Nodes.{later_net}
use Rattle.law_gates.specs.Nodes.{run_if, Is, Bitless, cached_run}

-- ---- what a node is ----

constant_node : (x : Node) (b : Bool) → constant_of x ≡ some b → decode x ≡ N.Constant b
unfolding decode node_of ◌≡?◌
constant_node x b e = go (eqb x.kind 1) refl e
  where
    go : (t : Bool) → eqb x.kind 1 ≡ t → cond t (some (eqb x.owner 1)) none ≡ some b → node_of x.kind x.owner x.bit x.in0 x.in1 x.in2 ≡ N.Constant b
    go true k e = let z : eqb x.owner 1 ≡ b = cc in rw (eqb-true x.kind 1 k) (ap N.Constant z)
    go false k e = let z : ◌≡◌ {A = ℕ} 0 1 = cc in absurd (omega arith)

not_node : (x : Node) → eqb x.kind 5 ≡ true → decode x ≡ N.Not x.in0
unfolding decode node_of
not_node x e = rw (eqb-true x.kind 5 e)

plain : (x : Node) → constant_of x ≡ none → eqb x.kind 5 ≡ false → Plain x
plain x e f = record { constant = go (eqb x.kind 1) refl e; inverter = eqb-false x.kind 5 f }
  where
    go : (t : Bool) → eqb x.kind 1 ≡ t → ◌≡◌ {A = Option Bool} (cond t (some (eqb x.owner 1)) none) none → x.kind ≡ 1 → ⊥
    go true k e = let z : ◌≡◌ {A = ℕ} 0 1 = cc in absurd (omega arith)
    go false k e = eqb-false x.kind 1 k

-- a net whose node is a constant, or a Not, in every later netlist
pub constant_later : (l : Netlist) (k : ℕ) (b : Bool) → k < count l → constant_value l k ≡ some b → Stands l k (λ h s c. b)
unfolding constant_value
constant_later l k b h e = record {
  there = h;
  is = λ g a s c. later_net a k h s c ∙ ap (node_value (meaning_of g) s c (net_value g s c)) (constant_node (node_for_net l k) b e);
}

pub not_later : (l : Netlist) (k : ℕ) → k < count l → eqb (node_for_net l k).kind 5 ≡ true → Stands l k (λ h s c. not (net_value h s c (node_for_net l k).in0))
not_later l k h e = record {
  there = h;
  is = λ g a s c. later_net a k h s c ∙ ap (node_value (meaning_of g) s c (net_value g s c)) (not_node (node_for_net l k) e);
}

pub not_below : (l : Netlist) → Sound l → (k : ℕ) → k < count l → eqb (node_for_net l k).kind 5 ≡ true → (node_for_net l k).in0 < k
not_below l q k h e = (subst (λ (x : N.Node). Wired l k x) (not_node (node_for_net l k) e) (q.wired k h)).0

is_constant_law : (v : Bool) (l : Netlist) (k : ℕ) → is_constant v l k ≡ true → constant_value l k ≡ some v
is_constant_law v l k e = go v (constant_value l k) e
  where
    go : (v : Bool) (o : Option Bool) → is_value v o ≡ true → o ≡ some v
    go v none e = let z : ◌≡◌ {A = ℕ} 0 1 = cc in absurd (omega arith)
    go true (some true) e = refl
    go true (some false) e = let z : ◌≡◌ {A = ℕ} 0 1 = cc in absurd (omega arith)
    go false (some true) e = let z : ◌≡◌ {A = ℕ} 0 1 = cc in absurd (omega arith)
    go false (some false) e = refl

-- ---- constants and Not ----

pub constant_run : (v : Bool) (l : Netlist) → Sound l → Run l (λ z l'. Stands l' z (λ h s c. v)) (add_constant v l)
unfolding add_constant decode node_of ◌≡?◌
constant_run true l q = cached_run (node 1 1 absent absent absent absent) l q tt (λ b. refl)
constant_run false l q = cached_run (node 1 0 absent absent absent absent) l q tt (λ b. refl)

pub not_run : (a : ℕ) (l : Netlist) → Sound l → a < count l → Run l (λ z l'. Stands l' z (λ h s c. not (net_value h s c a))) (add_not a l)
unfolding add_not constant_value decode node_of
not_run a l q h = go (constant_of (node_for_net l a)) refl
  where
    go : (o : Option Bool) → constant_of (node_for_net l a) ≡ o → Run l (λ z l'. Stands l' z (λ h s c. not (net_value h s c a))) (not_by o (node_for_net l a) a l)
    go (some b) e = run_map (constant_run (not b) l q) (λ z l' g v. stands_as v (λ k x s c. ap not (sym ((constant_later l a b h e).is k (later_trans g x) s c))))
    go none e = run_if (eqb (node_for_net l a).kind 5)
        (λ t. run_here q (record {
          there = omega (arith, not_below l q a h t);
          is = λ k x s c. sym (ap not ((not_later l a h t).is k x s c) ∙ not-not (net_value k s c (node_for_net l a).in0));
        }))
        (λ t. cached_run (gate 5 a absent absent) l q (h, plain (node_for_net l a) e t) (λ b. refl))

-- ---- And, Or ----

pub min_max : (f : Bool → Bool → Bool) → ((x y : Bool) → f x y ≡ f y x) → (g : ℕ → Bool) (x y : ℕ) → f (g (min x y)) (g (max x y)) ≡ f (g x) (g y)
min_max f comm g x y = elim (dec_lt x y) [
  | yes l ↦ (let p : min x y ≡ x = omega arith in let q : max x y ≡ y = omega arith in rw (p, q))
  | no l ↦ (let p : min x y ≡ y = omega arith in let q : max x y ≡ x = omega arith in rw (p, q) (comm (g y) (g x)))
]

-- op of two nets
abbrev pub Op2 : (Bool → Bool → Bool) → ℕ → ℕ → ℕ → Netlist → Type 0
Op2 op a b z l = Stands l z (λ h s c. op (net_value h s c a) (net_value h s c b))

-- a gate of two nets with op's value, whose pair is put in order
pub record Gate2 (op : Bool → Bool → Bool) (kind : ℕ) : Type 0 where
  pub comm : (x y : Bool) → op x y ≡ op y x
  pub wired : (l : Netlist) (k a b : ℕ) → a < k → b < k → Wired l k (decode (gate kind a b absent))
  pub bitless : (a b : ℕ) → Bitless (gate kind a b absent)
  pub is : (a b : ℕ) (h : Netlist) (s : Setting) (c : Contents) → Is (gate kind a b absent) h s c ≡ op (net_value h s c a) (net_value h s c b)

pair_run : {op : Bool → Bool → Bool} {kind : ℕ} → Gate2 op kind → (a b : ℕ) (l : Netlist) → Sound l → a < count l → b < count l
    → Run l (Op2 op a b) (add_cached (gate kind (min a b) (max a b) absent) l)
pair_run {op} {kind} g a b l q ha hb =
    run_map (cached_run (gate kind (min a b) (max a b) absent) l q (g.wired l (count l) (min a b) (max a b) (omega arith) (omega arith)) (g.bitless (min a b) (max a b)))
    (λ z l' y v. stands_as v (λ h x s c. g.is (min a b) (max a b) h s c ∙ min_max op g.comm (net_value h s c) a b))

and_gate : Gate2 ◌&&◌ 2
unfolding decode node_of
and_gate = record { comm = and_comm; wired = λ l k a b ha hb. (ha, hb); bitless = λ a b x. refl; is = λ a b h s c. refl }

or_gate : Gate2 ◌||◌ 3
unfolding decode node_of
or_gate = record { comm = or_comm; wired = λ l k a b ha hb. (ha, hb); bitless = λ a b x. refl; is = λ a b h s c. refl }

xor_comm : (x y : Bool) → xor_b x y ≡ xor_b y x
xor_comm true true = refl
xor_comm true false = refl
xor_comm false true = refl
xor_comm false false = refl

xor_gate : Gate2 xor_b 4
unfolding decode node_of
xor_gate = record { comm = xor_comm; wired = λ l k a b ha hb. (ha, hb); bitless = λ a b x. refl; is = λ a b h s c. refl }

or_cases : (x y : Bool) → (x || y) ≡ true → (P : Type 0) → (x ≡ true → P) → (y ≡ true → P) → P
or_cases true y e P f g = f refl
or_cases false y e P f g = g e

-- And and Or fold alike: v absorbs, not v is the unit
module _ (op : Bool → Bool → Bool) (kind : ℕ) (gate2 : Gate2 op kind) (v : Bool) (absorbs : (x : Bool) → op v x ≡ v) (unit : (x : Bool) → op (not v) x ≡ x) (self : (x : Bool) → op x x ≡ x) where
  abbrev folded : ℕ → ℕ → Netlist → Made ℕ
  folded a b l =
      cond (eqb a b) (done (a, l))
      (cond (is_constant v l a || is_constant v l b) (add_constant v l)
      (cond (is_constant (not v) l a) (done (b, l))
      (cond (is_constant (not v) l b) (done (a, l))
      (add_cached (gate kind (min a b) (max a b) absent) l))))

  folded_run : (a b : ℕ) (l : Netlist) → Sound l → a < count l → b < count l → Run l (Op2 op a b) (folded a b l)
  folded_run a b l q ha hb = run_if (eqb a b)
      (λ t. run_here q (record { there = ha; is = λ h x s c. rw (← eqb-true a b t) (sym (self (net_value h s c a))) }))
      (λ _. run_if (is_constant v l a || is_constant v l b)
      (λ t. run_map (constant_run v l q) (λ z l' g w. stands_as w (λ h x s c. or_cases (is_constant v l a) (is_constant v l b) t (v ≡ op (net_value h s c a) (net_value h s c b))
      (λ e. rw ((constant_later l a v ha (is_constant_law v l a e)).is h (later_trans g x) s c) (sym (absorbs (net_value h s c b))))
      (λ e. rw ((constant_later l b v hb (is_constant_law v l b e)).is h (later_trans g x) s c) (sym (gate2.comm (net_value h s c a) v ∙ absorbs (net_value h s c a)))))))
      (λ _. run_if (is_constant (not v) l a)
      (λ t. run_here q (record { there = hb; is = λ h x s c. rw ((constant_later l a (not v) ha (is_constant_law (not v) l a t)).is h x s c) (sym (unit (net_value h s c b))) }))
      (λ _. run_if (is_constant (not v) l b)
      (λ t. run_here q (record {
        there = ha;
        is = λ h x s c. rw ((constant_later l b (not v) hb (is_constant_law (not v) l b t)).is h x s c) (sym (gate2.comm (net_value h s c a) (not v) ∙ unit (net_value h s c a)));
      }))
      (λ _. pair_run gate2 a b l q ha hb))))

pub and_run : (a b : ℕ) (l : Netlist) → Sound l → a < count l → b < count l → Run l (Op2 ◌&&◌ a b) (add_and a b l)
unfolding add_and
and_run a b l q ha hb = folded_run ◌&&◌ 2 and_gate false (λ x. refl) (λ x. refl) and_self a b l q ha hb

pub or_run : (a b : ℕ) (l : Netlist) → Sound l → a < count l → b < count l → Run l (Op2 ◌||◌ a b) (add_or a b l)
unfolding add_or
or_run a b l q ha hb = folded_run ◌||◌ 3 or_gate true (λ x. refl) (λ x. refl) or_self a b l q ha hb

-- ---- Xor ----

xor_self : (x : Bool) → false ≡ xor_b x x
xor_self true = refl
xor_self false = refl

xor_false : (x : Bool) → x ≡ xor_b x false
xor_false true = refl
xor_false false = refl

xor_true : (x : Bool) → not x ≡ xor_b x true
xor_true true = refl
xor_true false = refl

pub xor_run : (a b : ℕ) (l : Netlist) → Sound l → a < count l → b < count l → Run l (Op2 xor_b a b) (add_xor a b l)
unfolding add_xor
xor_run a b l q ha hb = run_if (eqb a b)
    (λ t. run_map (constant_run false l q) (λ z l' g w. stands_as w (λ h x s c. rw (← eqb-true a b t) (xor_self (net_value h s c a)))))
    (λ _. run_if (is_constant false l a)
    (λ t. run_here q (record { there = hb; is = λ h x s c. rw ((constant_later l a false ha (is_constant_law false l a t)).is h x s c) }))
    (λ _. run_if (is_constant false l b)
    (λ t. run_here q (record { there = ha; is = λ h x s c. rw ((constant_later l b false hb (is_constant_law false l b t)).is h x s c) (xor_false (net_value h s c a)) }))
    (λ _. run_if (is_constant true l a)
    (λ t. run_map (not_run b l q hb) (λ z l' g w. stands_as w (λ h x s c. rw ((constant_later l a true ha (is_constant_law true l a t)).is h (later_trans g x) s c))))
    (λ _. run_if (is_constant true l b)
    (λ t. run_map (not_run a l q ha) (λ z l' g w. stands_as w (λ h x s c. rw ((constant_later l b true hb (is_constant_law true l b t)).is h (later_trans g x) s c) (xor_true (net_value h s c a)))))
    (λ _. pair_run xor_gate a b l q ha hb)))))

-- ---- Mux ----

pub cond_self : (c x : Bool) → x ≡ cond c x x
cond_self true x = refl
cond_self false x = refl

pub cond_not : (c x y : Bool) → cond c y x ≡ cond (not c) x y
cond_not true x y = refl
cond_not false x y = refl

abbrev pub Mux : ℕ → ℕ → ℕ → ℕ → Netlist → Type 0
Mux d a b z l = Stands l z (λ h s c. cond (net_value h s c d) (net_value h s c a) (net_value h s c b))
