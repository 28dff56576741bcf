-- One node more, made or found. Assumes nothing.
use Rattle.std.specs.Prelude.{◌≡◌, refl, Bool, true, false, cond, ◌&&◌, List, [], ◌∷◌, ℕ, zero, suc, ◌-◌, ◌<◌, eqb, ltb, length, get_or}
use Rattle.std.proofs.Common.{sym, ap, ◌∙◌, append-nil, ⊎_elim, eq-or-lt_of_le, le_trans, arith, eqb-true, ltb-true}
use Rattle.std.proofs.Math.Option.{Option, none, some}
use Rattle.spec_rules.specs.NetlistImage.{node_of}
use Rattle.spec_rules.specs.Step.{node_value}
use Rattle.spec_model.specs.Words.{absent, Node, gate, Netlist}
use Rattle.spec_model.specs.Builder.{Made, add_node, same, find, or_made, add_cached, node_for_net}
use Rattle.net_view.specs.Laws.{with_node}
use Rattle.law_nets.specs.Meaning.{decode, node_at_of, meaning_of, net_value}
use Rattle.law_nets.specs.Sound.{count, Wired, Sound, Grew, At, Stands}
use Rattle.law_nets.specs.Run.{Limit, Run}
use Rattle.law_nets.proofs.Run.{run_done, run_here}
use Rattle.law_nets.specs.Nodes.{count_grew, node_at, at_grew, arithmetic_grew, comparison_grew}
use Rattle.law_nets.proofs.Nodes.{wired_grew, later_net}

-- a test decides a call
pub run_if : {A : Type 0} {l : Netlist} {P : A → Netlist → Type 0} {x y : Made A} (t : Bool) → (t ≡ true → Run l P x) → (t ≡ false → Run l P y)
    → Run l P (cond t x y)
run_if true f g = f refl
run_if false f g = g refl

abbrev pub no_node : Node
no_node = gate absent absent absent absent

-- ---- one node more ----

pub grew_node : (x : Node) (l : Netlist) → Grew l (with_node x l)
grew_node x l = record { nets = refl; list = refl; added = x ∷ []; nodes = refl; pushed = []; records = sym (append-nil l.records) }

pub newest : (x : Node) (l : Netlist) → node_for_net (with_node x l) (count l) ≡ x
newest x l =
    node_at (with_node x l) (count l) (omega arith)
    ∙ ap (λ (i : ℕ). get_or (x ∷ l.nodes) i no_node) {x = suc (count l) - suc (count l)} {y = 0} (omega arith)

pub sound_node : (x : Node) (l : Netlist) → Sound l → count l < l.max_nets → Wired (with_node x l) (count l) (decode x) → Sound (with_node x l)
sound_node x l q h w = record {
  few = h;
  small = q.small;
  short = q.short;
  formed = q.formed;
  wired = λ k b. ⊎_elim
      (λ (e : k ≡ count l). rw e (rw (newest x l) w))
      (λ (b : k < count l). rw (at_grew (grew_node x l) k b) (wired_grew (grew_node x l) k (omega arith) (node_at_of l k) (q.wired k b)))
      (eq-or-lt_of_le (omega arith));
  ports = λ j b i h. le_trans (q.ports j b i h) (count_grew (grew_node x l));
  arithmetic = λ j b. arithmetic_grew (grew_node x l) j _ (q.arithmetic j b);
  comparison = λ j b. comparison_grew (grew_node x l) j _ (q.comparison j b);
}

-- what a node says of its net
abbrev pub Is : Node → At Bool
Is x h s c = node_value (meaning_of h) s c (net_value h s c) (decode x)

pub is_node_law : (x : Node) (l : Netlist) (k : ℕ) → k < count l → node_at_of l k ≡ decode x → Stands l k (Is x)
is_node_law x l k b e = record { there = b; is = λ h a s c. later_net a k b s c ∙ ap (node_value (meaning_of h) s c (net_value h s c)) e }

pub node_run : (x : Node) (l : Netlist) → Sound l → Wired l (count l) (decode x) → Run l (λ k l'. Stands l' k (Is x)) (add_node x l)
unfolding add_node
node_run x l q w = run_if (ltb (count l) l.max_nets)
    (λ t. run_done (record { grew = grew_node x l; sound = sound_node x l q (ltb-true (count l) l.max_nets t) (wired_grew (grew_node x l) (count l) (omega arith) (decode x) w) }) (record { cells = λ t h. refl })
    (is_node_law x (with_node x l) (count l) (omega arith) (ap decode (newest x l))))
    (λ t. record { run = Limit.nets })

-- ---- a node that is found ----

-- nodes that are alike but for their bit decode alike
abbrev pub Bitless : Node → Type 0
Bitless x = (b : ℕ) → node_of x.kind x.owner b x.in0 x.in1 x.in2 ≡ decode x

same_decode : (x y : Node) → Bitless x → same x y ≡ true → decode y ≡ decode x
unfolding same decode
same_decode x y b h =
    go (eqb x.kind y.kind) refl (eqb x.in0 y.in0) refl (eqb x.in1 y.in1) refl (eqb x.in2 y.in2) refl (eqb x.owner y.owner) refl h
  where
    go : (p : Bool) → eqb x.kind y.kind ≡ p → (q : Bool) → eqb x.in0 y.in0 ≡ q → (r : Bool) → eqb x.in1 y.in1 ≡ r
        → (s : Bool) → eqb x.in2 y.in2 ≡ s → (t : Bool) → eqb x.owner y.owner ≡ t → (p && q && r && s && t) ≡ true
        → node_of y.kind y.owner y.bit y.in0 y.in1 y.in2 ≡ decode x
    go true e₀ true e₁ true e₂ true e₃ true e₄ h = rw (
      ← eqb-true x.kind y.kind e₀,
      ← eqb-true x.in0 y.in0 e₁,
      ← eqb-true x.in1 y.in1 e₂,
      ← eqb-true x.in2 y.in2 e₃,
      ← eqb-true x.owner y.owner e₄,
    ) (b y.bit)
    go true e₀ true e₁ true e₂ true e₃ false e₄ h = let z : ◌≡◌ {A = ℕ} 0 1 = cc in absurd (omega arith)
    go true e₀ true e₁ true e₂ false e₃ t e₄ h = let z : ◌≡◌ {A = ℕ} 0 1 = cc in absurd (omega arith)
    go true e₀ true e₁ false e₂ s e₃ t e₄ h = let z : ◌≡◌ {A = ℕ} 0 1 = cc in absurd (omega arith)
    go true e₀ false e₁ r e₂ s e₃ t e₄ h = let z : ◌≡◌ {A = ℕ} 0 1 = cc in absurd (omega arith)
    go false e₀ q e₁ r e₂ s e₃ t e₄ h = let z : ◌≡◌ {A = ℕ} 0 1 = cc in absurd (omega arith)

-- net k of the nodes ns is alike x
record Found (x : Node) (ns : List Node) (k : ℕ) : Type 0 where
  pub inside : k < length ns
  pub alike : (j : ℕ) → j ≡ length ns - suc k → same x (get_or ns j no_node) ≡ true

found : (x : Node) (ns : List Node) (k : ℕ) → find x ns ≡ some k → Found x ns k
unfolding find
found x [] k e = let z : ◌≡◌ {A = ℕ} 0 1 = cc in absurd (omega arith)
found x (y ∷ ys) k e = go (same x y) refl (found x ys k) e
  where
    later : Found x ys k → (j : ℕ) → j ≡ length (y ∷ ys) - suc k → same x (get_or (y ∷ ys) j no_node) ≡ true
    later f zero e = absurd (omega (arith, f.inside))
    later f (suc j) e = f.alike j (omega arith)

    now : same x y ≡ true → k ≡ length ys → (j : ℕ) → j ≡ length (y ∷ ys) - suc k → same x (get_or (y ∷ ys) j no_node) ≡ true
    now h q zero e = h
    now h q (suc j) e = absurd (omega arith)

    go : (t : Bool) → same x y ≡ t → (find x ys ≡ some k → Found x ys k) → elim t [ true ↦ some (length ys) | false ↦ find x ys ] ≡ some k → Found x (y ∷ ys) k
    go true h r p = let q : k ≡ length ys = cc in record { inside = omega arith; alike = now h q }
    go false h r p = let f = r p in record { inside = omega (arith, f.inside); alike = later f }

pub cached_run : (x : Node) (l : Netlist) → Sound l → Wired l (count l) (decode x) → Bitless x → Run l (λ k l'. Stands l' k (Is x)) (add_cached x l)
unfolding add_cached
cached_run x l q w b = go (find x l.nodes) refl
  where
    go : (o : Option ℕ) → find x l.nodes ≡ o → Run l (λ k l'. Stands l' k (Is x)) (or_made o l (add_node x l))
    go (some k) e =
        let f = found x l.nodes k e in
        run_here q (is_node_law x l k f.inside
        (ap decode (node_at l k f.inside) ∙ same_decode x (get_or l.nodes (count l - suc k) no_node) b (f.alike (count l - suc k) refl)))
    go none e = node_run x l q w
