-- A register's next bit on words is what the step rule gives. Assumes nothing.
use Rattle.std.specs.Prelude.{ℕ, ◌<◌, ◌≡◌, refl, Bool, true, false, not, ◌&&◌, List, [], ◌∷◌, eqb, length}
use Rattle.std.proofs.Common.{arith, ◌∙◌}
use Rattle.std.proofs.Math.Path.{sym, ap}
use Rattle.std.proofs.Math.Option.{Option, none, some, map}
use Rattle.std.proofs.Math.ListN.{get_or}
use Rattle.spec_rtl.specs.Word.{bit}
use Rattle.spec_rtl.specs.Ops.{xor_b}
use Rattle.spec_rtl.specs.Rtl as R
use Rattle.spec_tests.specs.Rules.{◌≡?◌, ◌or◌, ◌and◌, pick, Fine}
use Rattle.spec_tests.specs.Laws.{or_no, no_ne, no_eq, yes_eq, eq_yes, ne_yes}
use Rattle.spec_rules.specs.Image.{absent, optional, control_of, register_of}
use Rattle.spec_rules.specs.NetlistImage as N
use Rattle.spec_rules.specs.NetlistImage.{node_word, records_with, register_bit_of, netlist}
use Rattle.spec_rules.specs.Step.{Setting, Contents, Load, edge, active, perhaps, enabled, resets, register_next, net_load, reset_bit, act, net, of_netlist}
use Rattle.spec_netlist.specs.Accept.{accepts}
use Rattle.spec_trace.specs.Opened.{no_input, register_unfit}
use Rattle.law_told.specs.Told.{untrue, and_second}
use Rattle.trace_pass.specs.Plan.{size, Valued}
use Rattle.trace_pass.specs.Steps.{size_is}
use Rattle.trace_step.specs.Words.{on, register_bit}
use Rattle.trace_sim.specs.Sources.{on_bit, input_net, register_net, register_at_law, find_register}

resets_same : (asynchronous : Bool) (g h : ℕ → Bool) (r : List ℕ) → ((get_or r 9 0 ≡ absent → ⊥) → not (xor_b asynchronous (get_or r 11 0 ≡? 1)) ≡ true → g (get_or r 9 0) ≡ h (get_or r 9 0))
    → resets asynchronous g (register_bit_of r).register.reset ≡ resets asynchronous h (register_bit_of r).register.reset
unfolding register_bit_of register_of optional pick control_of
resets_same asynchronous g h r f = go (get_or r 9 0 ≡? absent) refl (not (xor_b asynchronous (get_or r 11 0 ≡? 1))) refl
  where
    x : R.Reset
    x = record { control = control_of (get_or r 9 0) (get_or r 10 0); asynchronous = get_or r 11 0 ≡? 1; value = get_or r 12 0 }

    go : (b : Bool) → (get_or r 9 0 ≡? absent) ≡ b → (d : Bool) → not (xor_b asynchronous (get_or r 11 0 ≡? 1)) ≡ d
        → perhaps false (λ (y : R.Reset). not (xor_b asynchronous y.asynchronous) && active g y.control) (pick b none (some x))
        ≡ perhaps false (λ (y : R.Reset). not (xor_b asynchronous y.asynchronous) && active h y.control) (pick b none (some x))
    go true e d q = refl
    go false e true q = ap (λ (z : Bool). not (xor_b asynchronous (get_or r 11 0 ≡? 1)) && not (xor_b (get_or r 10 0 ≡? 0) z)) (f (no_eq _ _ e) q)
    go false e false q = ap (λ (z : Bool). z && active g (control_of (get_or r 9 0) (get_or r 10 0))) q ∙ sym (ap (λ (z : Bool). z && active h (control_of (get_or r 9 0) (get_or r 10 0))) q)

pub enabled_same : (g h : ℕ → Bool) (x level : ℕ) → ((x ≡ absent → ⊥) → g x ≡ h x) → enabled g (optional x (control_of x level)) ≡ enabled h (optional x (control_of x level))
unfolding optional pick control_of
enabled_same g h x level f = go (x ≡? absent) refl
  where
    go : (b : Bool) → (x ≡? absent) ≡ b → enabled g (pick b none (some (control_of x level))) ≡ enabled h (pick b none (some (control_of x level)))
    go true e = refl
    go false e = ap (λ (z : Bool). not (xor_b (level ≡? 0) z)) (f (no_eq _ _ e))

abbrev made : Bool → Bool → Bool → Bool → Bool → Bool → Load
made a b c d e f = record { ticks = a; synchronous = b; enabled = c; next = d; asynchronous = e; value = f }

tick_same : (g h g' h' : ℕ → Bool) (r : List ℕ) → g (get_or r 5 0) ≡ g' (get_or r 5 0) → h (get_or r 5 0) ≡ h' (get_or r 5 0)
    → edge (register_bit_of r).register.rising (g (register_bit_of r).register.clock) (h (register_bit_of r).register.clock)
    ≡ edge (register_bit_of r).register.rising (g' (register_bit_of r).register.clock) (h' (register_bit_of r).register.clock)
unfolding register_bit_of register_of
tick_same g h g' h' r a b = ap (λ (z : Bool). edge (get_or r 6 0 ≡? 0) z (h (get_or r 5 0))) a ∙ ap (edge (get_or r 6 0 ≡? 0) (g' (get_or r 5 0))) b

enable_same : (g g' : ℕ → Bool) (r : List ℕ) → ((get_or r 7 0 ≡ absent → ⊥) → g (get_or r 7 0) ≡ g' (get_or r 7 0)) → enabled g (register_bit_of r).register.enable ≡ enabled g' (register_bit_of r).register.enable
unfolding register_bit_of register_of
enable_same g g' r e = enabled_same g g' (get_or r 7 0) (get_or r 8 0) e

next_same : (g g' : ℕ → Bool) (r : List ℕ) → g (get_or r 4 0) ≡ g' (get_or r 4 0) → g (register_bit_of r).register.next ≡ g' (register_bit_of r).register.next
unfolding register_bit_of register_of
next_same g g' r e = e

load_same : (g h g' h' : ℕ → Bool) (r : List ℕ) → g (get_or r 5 0) ≡ g' (get_or r 5 0) → h (get_or r 5 0) ≡ h' (get_or r 5 0) → g (get_or r 4 0) ≡ g' (get_or r 4 0)
    → ((get_or r 7 0 ≡ absent → ⊥) → g (get_or r 7 0) ≡ g' (get_or r 7 0)) → ((get_or r 9 0 ≡ absent → ⊥) → g (get_or r 9 0) ≡ g' (get_or r 9 0))
    → ((get_or r 9 0 ≡ absent → ⊥) → get_or r 11 0 ≡ 1 → h (get_or r 9 0) ≡ h' (get_or r 9 0)) → net_load g h (register_bit_of r) ≡ net_load g' h' (register_bit_of r)
load_same g h g' h' r a b d e f k =
    ap (λ (z : Bool). made z (resets false g x) (enabled g y) (g (register_bit_of r).register.next) (resets true h x) w) (tick a b)
    ∙ ap (λ (z : Bool). made u z (enabled g y) (g (register_bit_of r).register.next) (resets true h x) w) (resets_same false g g' r (λ n q. f n))
    ∙ ap (λ (z : Bool). made u (resets false g' x) z (g (register_bit_of r).register.next) (resets true h x) w) (enables e)
    ∙ ap (λ (z : Bool). made u (resets false g' x) (enabled g' y) z (resets true h x) w) (nexts d)
    ∙ ap (λ (z : Bool). made u (resets false g' x) (enabled g' y) (g' (register_bit_of r).register.next) z w) (resets_same true h h' r (λ n q. k n (mode (get_or r 11 0 ≡? 1) refl q)))
  where
    x : Option R.Reset
    x = (register_bit_of r).register.reset

    y : Option R.Control
    y = (register_bit_of r).register.enable

    w : Bool
    w = reset_bit (λ b. eqb b 1 ∷ []) (register_bit_of r).register.reset 0

    u : Bool
    u = edge (register_bit_of r).register.rising (g' (register_bit_of r).register.clock) (h' (register_bit_of r).register.clock)

    tick : g (get_or r 5 0) ≡ g' (get_or r 5 0) → h (get_or r 5 0) ≡ h' (get_or r 5 0) → edge (register_bit_of r).register.rising (g (register_bit_of r).register.clock) (h (register_bit_of r).register.clock) ≡ u
    tick a b = tick_same g h g' h' r a b

    enables : ((get_or r 7 0 ≡ absent → ⊥) → g (get_or r 7 0) ≡ g' (get_or r 7 0)) → enabled g y ≡ enabled g' y
    enables e = enable_same g g' r e

    nexts : g (get_or r 4 0) ≡ g' (get_or r 4 0) → g (register_bit_of r).register.next ≡ g' (register_bit_of r).register.next
    nexts d = next_same g g' r d

    mode : (b : Bool) → (get_or r 11 0 ≡? 1) ≡ b → not (xor_b true b) ≡ true → get_or r 11 0 ≡ 1
    mode true e q = yes_eq _ _ e
    mode false e q = untrue q

-- what a fit register's record tells of its clock and reset
fit_clock : (ws r : List ℕ) → register_unfit ws r ≡ false → node_word ws (get_or r 5 0) 0 ≡ 0
unfolding register_unfit no_input
fit_clock ws r e = no_ne _ _ (or_no e).0

fit_reset : (ws r : List ℕ) → register_unfit ws r ≡ false → (get_or r 9 0 ≡ absent → ⊥) → get_or r 11 0 ≡ 1 → node_word ws (get_or r 9 0) 0 ≡ 0
unfolding register_unfit no_input
fit_reset ws r e n m = no_ne _ _ (and_second _ _ (and_second _ _ (or_no e).1 (ne_yes _ _ n)) (eq_yes _ _ m))

module _ (ws : List ℕ) (ok : accepts ws ≡ Fine) (s t : Setting) (c : Contents) where
  abbrev g : ℕ → Bool
  g = net (netlist ws) s c

  abbrev h : ℕ → Bool
  h = net (netlist ws) t c

  abbrev after : Contents
  after = act ((of_netlist (netlist ws)).reads s c t) c

  pub on_old : {v : List ℕ} → Valued ws s c v → (j : ℕ) → j < size ws → on v j ≡ g j
  on_old {v} x j l = ap (λ (k : ℕ). k ≡? 1) (x.holds j l) ∙ on_bit (g j)

  -- the inputs of the new setting stand in w
  pub record Inputs (w : List ℕ) : Type 0 where
    pub at : (j : ℕ) → j < size ws → node_word ws j 0 ≡ 0 → get_or w j 0 ≡ bit (t (node_word ws j 1) (node_word ws j 2))

  pub on_new : {w : List ℕ} → Inputs w → (j : ℕ) → j < size ws → node_word ws j 0 ≡ 0 → on w j ≡ h j
  on_new x j l k = ap (λ (z : ℕ). z ≡? 1) (x.at j l k) ∙ on_bit (t (node_word ws j 1) (node_word ws j 2)) ∙ sym (input_net ws ok t c j l k)

  pub register_wanted : {v w : List ℕ} → Valued ws s c v → Inputs w → (m : ℕ) (l : m < length (records_with 1 ws)) → register_unfit ws (register_at_law ws ok m l).it.r ≡ false
      → register_bit v w (register_at_law ws ok m l).it.r ≡ net (netlist ws) t after (get_or (register_at_law ws ok m l).it.r 3 0)
  unfolding register_bit
  register_wanted {v} {w} x y m l fit =
      let a = register_at_law ws ok m l in
      let r = a.it.r in
      let u = a.told in
      let z = size_is ws in
      let o = u.output in
      let here : get_or r 3 0 < size ws = (let q = o.there in omega arith) in
      let old : on v (get_or r 3 0) ≡ c.reg (get_or r 1 0) (get_or r 2 0) =
      on_old x (get_or r 3 0) here ∙ register_net ws ok s c (get_or r 3 0) here o.kind ∙ ap (λ (k : ℕ). c.reg k (node_word ws (get_or r 3 0) 2)) o.owner ∙ ap (c.reg (get_or r 1 0)) o.bit in
      let clock : get_or r 5 0 < size ws = (let q = u.clock in omega arith) in
      let next : get_or r 4 0 < size ws = (let q = u.next in omega arith) in
      let same : net_load (on v) (on w) (register_bit_of r) ≡ net_load g h (register_bit_of r) =
      load_same (on v) (on w) g h r (on_old x (get_or r 5 0) clock) (on_new y (get_or r 5 0) clock (fit_clock ws r fit)) (on_old x (get_or r 4 0) next)
      (λ n. on_old x (get_or r 7 0) (let q = u.enable n in omega arith)) (λ n. on_old x (get_or r 9 0) (let q = u.reset n in omega arith))
      (λ n q. on_new y (get_or r 9 0) (let q = u.reset n in omega arith) (fit_reset ws r fit n q)) in
      ap (λ (k : Load). register_next k (on v (get_or r 3 0))) same ∙ ap (register_next (net_load g h (register_bit_of r))) old
      ∙ sym (register_net ws ok t after (get_or r 3 0) here o.kind ∙ ap (λ (k : ℕ). after.reg k (node_word ws (get_or r 3 0) 2)) o.owner ∙ ap (after.reg (get_or r 1 0)) o.bit
      ∙ ap (λ (k : Option N.RegisterBit). perhaps (c.reg (get_or r 1 0) (get_or r 2 0)) (λ q. register_next q (c.reg (get_or r 1 0) (get_or r 2 0))) (map (net_load g h) k)) (find_register ws ok m l))
