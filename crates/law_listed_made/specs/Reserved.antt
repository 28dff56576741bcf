-- `reserve_sources`: each node of an input, a register or a memory is the net of its bit, and each such bit has its node. Assumes nothing.
use Prim.Native.Nat.{ℕ, zero, suc, ◌+◌, ◌-◌, ◌≤◌, ◌<◌}
use Rattle.std.proofs.Common.{not-suc-le-zero, lt-ltb, le-ltb, inr, ⊎_elim, ◌∙◌}
use native.Mathlib.Omega.{arith}
use Rattle.std.proofs.Math.Decide.{dec_lt, ℕ_discrete}
use Rattle.std.specs.Prelude.{◌⊎◌, ◌≡◌, replicate}
use Rattle.std.proofs.Math.Logic.{inl}
use Rattle.std.proofs.Math.Path.{refl, sym, ap, subst}
use mathlib.Core.List.{List, [], ◌∷◌, ◌++◌, map}
use Rattle.std.proofs.Math.Option.{Option, none, some}
use Rattle.std.proofs.Math.ListN.{length, get_or, get_elem?, length-map}
use Rattle.spec_tests.specs.Rules.{only}
use Rattle.spec_rtl.specs.Rtl as R
use Rattle.spec_rtl.specs.Rtl.{Module, Sig, Dir, Register, Memory, Port, dir_of}
use Rattle.spec_model.specs.Words.{Node, Netlist, source}
use Rattle.spec_model.specs.Builder as B
use Rattle.spec_model.specs.Builder.{Out, refused, done, node_for_net, from, add_nodes, add_input_port, add_recorded}
use Rattle.spec_model.specs.Lowering.{State, cell, with_netlist, set_signal, signal_width, start, reserve, reserve_input, reserve_inputs, reserve_bits, reserve_registers, reserve_second, reserve_memories, reserve_sources}
use Rattle.net_view.specs.Laws.{with_record}
use Rattle.law_nets.specs.Meaning.{records_with}
use Rattle.law_nets.specs.Sound.{count, Grew}
use Rattle.law_nets.specs.Run.{grew_refl, grew_trans, Meets, Limit}
use Rattle.law_gates.specs.Nodes.{no_node}
use Rattle.word_laws.specs.Runs.{length_from, from_at}
use Rattle.law_gates.specs.Added.{with_nodes, grew_nodes, count_nodes, nodes_limits, node_added, NodesAdded, nodes_added, Recorded, recorded, recorded_node, recorded_net, recorded_count, recorded_others}
use Rattle.law_gates.specs.Sources.{length_nodes}
use Rattle.law_gates.specs.Ports.{input_nodes}
use Rattle.law_walk.specs.Tables.{none_some}
use Rattle.law_walk.specs.Good.{Good}
use Rattle.law_walk.specs.Kept.{More, more_refl, more_trans}
use Rattle.law_phases.specs.Sources.{inside, got}
use Rattle.law_phases.specs.Registers.{bits_of}
use Rattle.law_owners.specs.Ends.{Ends, ends_done, ends_refused, ends_then}
use Rattle.law_listed.specs.Listed.{sort_of, records}
use Rattle.law_listed_walk.specs.Shape.{Shape, Fine, shape_input, shape_register, shape_memory}
use Rattle.law_listed_made.specs.Place.{Bounds, is_input, before, before_more, port_place, place_input, Source, Made, target, first_wide, second_data, second_wide, signal_of, bit_of, bits}
use Rattle.law_listed_made.specs.Grow.{ports_same, made_later}
use Rattle.law_listed_made.specs.Pushes.{port_later, ports_pushed, ports_more}
use Rattle.law_listed_made.specs.Rows.{Sources, sources_map, fine_nodes, fine_record, node_of_law, row_more, row_made, row_sources}

-- from st on: what holds, and that nets and nodes stay
pub record Went (m : Module) (P : ℕ → Type 0) (ps : ℕ) (st : State) (st' : State) : Type 0 where
  pub sources : Sources m P ps st'
  pub more : More st.signal_bits st'.signal_bits
  pub grew : Grew st.netlist st'.netlist

pub ends_map : {A : Type 0} {P Q : A → Type 0} (o : Out A) → Ends P o → ((a : A) → P a → Q a) → Ends Q o
ends_map (refused n x y) w f = ends_refused
ends_map (done a) w f = ends_done (f a w.ends)

zero_source : Source 0 → ⊥
zero_source (inl e) = omega arith
zero_source (inr e) = omega arith

not_zero_law : (k : ℕ) → Source k → sort_of k ≡ 0 → ⊥
not_zero_law k (inl e) z = let y : sort_of 7 ≡ 0 = ap sort_of (sym e) ∙ z in omega arith
not_zero_law k (inr e) z = let y : sort_of 9 ≡ 0 = ap sort_of (sym e) ∙ z in omega arith

module _ (m : Module) (good : Good m) (bound : Bounds m) where
  -- ---- nodes for the bits of a register's target or of read data ----

  module _ (P : ℕ → Type 0) (ps : ℕ) (st : State) (c : Sources m P ps st) (s : ℕ) (here : s < length m.signals) (free : P s → ⊥) (kd o b : ℕ) (src : Source kd)
      (shape : (i : ℕ) → i < signal_width m s → Shape (source kd o (b + i)))
      (seat : (i : ℕ) → i < signal_width m s → (signal_of m kd o (b + i) ≡ s) × (bit_of m kd o (b + i) ≡ i) × (b + i < bits m kd o)) where
    abbrev w : ℕ
    w = signal_width m s

    abbrev xs : List Node
    xs = map (source kd o) (from b w)

    abbrev l : Netlist
    l = st.netlist

    abbrev Then : State → Type 0
    Then st' = Went m (λ p. P p ⊎ (p ≡ s)) ps st st' × ((i : ℕ) → i < w → Made m st' kd o (b + i))

    one : (ns : List ℕ) (l' : Netlist) → NodesAdded xs l ns l' → Then (set_signal (with_netlist st l') s ns)
    unfolding set_signal
    one ns l' a =
        let n : length xs ≡ w = length_nodes (source kd o) b w in
        let g : Grew l l' = subst (λ (h : Netlist). Grew l h) (sym a.then) (grew_nodes xs l) in
        let c' : count l' ≡ count l + w = ap count a.then ∙ count_nodes xs l ∙ omega arith in
        let lim = nodes_limits xs l in
        let mx : l'.max_nets ≡ l.max_nets = ap (λ (h : Netlist). h.max_nets) a.then ∙ lim.0 in
        let rec : l'.records ≡ l.records = ap (λ (h : Netlist). h.records) a.then ∙ lim.2 in
        let long : length ns ≡ w = ap length a.nets ∙ length_from (count l) (length xs) ∙ n in
        let nets : (i : ℕ) → i < w → get_or ns i 0 ≡ count l + i = λ i h. ap (λ (z : List ℕ). get_or z i 0) a.nets ∙ from_at (count l) (length xs) i 0 (omega arith) in
        let nodes : (i : ℕ) → i < w → node_for_net l' (count l + i) ≡ source kd o (b + i)
        = λ i h. ap (λ (k : Netlist). node_for_net k (count l + i)) a.then ∙ node_added xs l i (omega arith) ∙ node_of_law (source kd o) b w i h in
        let room = a.room in
        let fine₁ : Fine l.max_nets (with_nodes xs l) = fine_nodes l.max_nets xs l room (λ i h. let v : i < w = omega arith in rw (node_of_law (source kd o) b w i v) (shape i v)) c.fine in
        let fine : Fine l'.max_nets l' = subst (λ (h : Netlist). Fine h.max_nets h) (sym a.then) (rw lim.0 fine₁) in
        let new : (k : ℕ) → count l ≤ k → k < count l' → sort_of (node_for_net l' k).kind ≡ 0 → ⊥ = λ k h j z.
        let i = k - count l in
        let e : count l + i ≡ k = omega arith in
        let x : node_for_net l' k ≡ source kd o (b + i) = ap (node_for_net l') (sym e) ∙ nodes i (omega arith) in
        not_zero_law kd src (ap (λ (y : Node). sort_of y.kind) (sym x) ∙ z) in
        let ports = ports_same g m (ap (records_with 0) rec) new c.ports in (
          record {
            sources = row_sources m P ps st c s here free kd o b w ns l' g long c' nets nodes (λ z. seat) ps (omega arith) fine ports
                (ap (λ (rs : List (List ℕ)). length (records_with 0 rs)) rec ∙ c.port_count) (ap (λ (rs : List (List ℕ)). length (records_with 1 rs)) rec ∙ c.registers)
                (ap (λ (rs : List (List ℕ)). length (records_with 2 rs)) rec ∙ c.memories);
            more = row_more m P ps st c s here free kd o b w ns l' g long c' nets nodes (λ z. seat);
            grew = g;
          },
          row_made m P ps st c s here free kd o b w ns l' g long c' nets nodes (λ z. seat) src,
        )

    pub bits_reserved : Ends Then (reserve_bits m kd o b s st)
    bits_reserved = go (add_nodes (source kd o) b w l) (nodes_added (source kd o) b w l c.few)
      where
        go : (r : B.Made (List ℕ)) → Meets Limit (λ (r : List ℕ × Netlist). NodesAdded xs l r.0 r.1) r → Ends Then (reserve st s r)
        go (refused n x y) a = ends_refused
        go (done r) a = ends_done (one r.0 r.1 a)

  -- ---- inputs ----

  abbrev Inputs : ℕ → ℕ → Type 0
  Inputs s p = (p < s) × (dir_of m p ≡ R.Input)

  module _ (st : State) (s : ℕ) (c : Sources m (Inputs s) (before is_input m s) st) (here : s < length m.signals) (dir : dir_of m s ≡ R.Input) where
    abbrev v : ℕ
    v = signal_width m s

    abbrev ys : List Node
    ys = input_nodes s v

    abbrev k : Netlist
    k = st.netlist

    input_one : (ns : List ℕ) (l' : Netlist) → Recorded (0 ∷ s ∷ v ∷ []) ys k ns l' → Went m (λ p. Inputs s p ⊎ (p ≡ s)) (suc (before is_input m s)) st (set_signal (with_netlist st l') s ns)
    unfolding set_signal
    input_one ns l' a =
        let key : List ℕ = 0 ∷ s ∷ v ∷ [] in
        let n : length ys ≡ v = length_nodes (source 0 s) 0 v in
        let least = good.signals s here in
        let most = bound.widths s in
        let few = bound.signals in
        let g : Grew k l' = port_later m s v ys k ns l' a in
        let c' : count l' ≡ count k + v = recorded_count key ys k ns l' a ∙ omega arith in
        let lim = nodes_limits ys k in
        let mx : l'.max_nets ≡ k.max_nets = ap (λ (h : Netlist). h.max_nets) a.then ∙ lim.0 in
        let long : length ns ≡ v = ap length a.nets ∙ length_from (count k) (length ys) ∙ n in
        let nets : (i : ℕ) → i < v → get_or ns i 0 ≡ count k + i = λ i h. recorded_net key ys k ns l' a i 0 (omega arith) in
        let nodes : (i : ℕ) → i < v → node_for_net l' (count k + i) ≡ source 0 s (0 + i)
        = λ i h. recorded_node key ys k ns l' a i (omega arith) ∙ node_of_law (source 0 s) 0 v i h in
        let room = a.room in
        let fine₁ : Fine k.max_nets (with_nodes ys k) = fine_nodes k.max_nets ys k room (λ i h. let u : i < v = omega arith in rw (node_of_law (source 0 s) 0 v i u) (shape_input s (0 + i) (omega arith) (omega arith))) c.fine in
        let fine₂ : Fine k.max_nets (with_record (key ++ ns) (with_nodes ys k)) = fine_record k.max_nets (key ++ ns) (with_nodes ys k) (record { least = λ z. absurd (omega arith); most = λ z. absurd (omega arith) }) fine₁ in
        let fine : Fine l'.max_nets l' = subst (λ (h : Netlist). Fine l'.max_nets h) (sym a.then) (subst (λ (z : ℕ). Fine z (with_record (key ++ ns) (with_nodes ys k))) (sym mx) fine₂) in
        let are : (i : ℕ) → i < v → ((get_or ys i no_node).kind ≡ 0) × ((get_or ys i no_node).owner ≡ s) × ((get_or ys i no_node).bit ≡ i) = λ i h.
        let x = node_of_law (source 0 s) 0 v i h in
        (ap (λ (y : Node). y.kind) x, ap (λ (y : Node). y.owner) x, ap (λ (y : Node). y.bit) x ∙ omega arith) in
        let place : port_place m s ≡ records k 0 = place_input m s dir ∙ sym c.port_count in
        let ports = ports_pushed m s v ys k ns l' a n least most (omega arith) 0 (inl refl) are place c.ports in
        record {
          sources = row_sources m (Inputs s) (before is_input m s) st c s here (λ z. let y = z.0 in omega arith) 0 s 0 v ns l' g long c' nets nodes (λ z. absurd (zero_source z)) (suc (before is_input m s)) (omega arith) fine ports
              (ports_more m s v ys k ns l' a n least most (omega arith) 0 (inl refl) are place ∙ ap suc c.port_count)
              (ap length (recorded_others key ys k ns l' a 1 (λ z. omega arith)) ∙ c.registers) (ap length (recorded_others key ys k ns l' a 2 (λ z. omega arith)) ∙ c.memories);
          more = row_more m (Inputs s) (before is_input m s) st c s here (λ z. let y = z.0 in omega arith) 0 s 0 v ns l' g long c' nets nodes (λ z. absurd (zero_source z));
          grew = g;
        }

    input_reserved : Ends (Went m (λ p. Inputs s p ⊎ (p ≡ s)) (suc (before is_input m s)) st) (reserve st s (add_input_port s v k))
    unfolding add_input_port
    input_reserved = go (add_recorded (0 ∷ s ∷ v ∷ []) (add_nodes (source 0 s) 0 v k)) (recorded (0 ∷ s ∷ v ∷ []) ys k (add_nodes (source 0 s) 0 v k) (nodes_added (source 0 s) 0 v k c.few))
      where
        go : (r : B.Made (List ℕ)) → Meets Limit (λ (r : List ℕ × Netlist). Recorded (0 ∷ s ∷ v ∷ []) ys k r.0 r.1) r → Ends (Went m (λ p. Inputs s p ⊎ (p ≡ s)) (suc (before is_input m s)) st) (reserve st s r)
        go (refused n x y) a = ends_refused
        go (done r) a = ends_done (input_one r.0 r.1 a)

  inputs_reserved : (s : ℕ) (xs : List Sig) → ((j : ℕ) (x : Sig) → get_elem? xs j ≡ some x → get_elem? m.signals (s + j) ≡ some x) → (st : State)
      → Sources m (Inputs s) (before is_input m s) st → Ends (Sources m (Inputs (s + length xs)) (before is_input m (s + length xs))) (reserve_inputs s xs st)
  unfolding reserve_inputs
  inputs_reserved s [] f st c = let z : s ≡ s + 0 = omega arith in ends_done (rw (← z) c)
  inputs_reserved s (x ∷ xs) f st c =
      let z : s + suc (length xs) ≡ suc s + length xs = omega arith in
      rw z (ends_then (reserve_input x.dir s x.width st) (one x.dir refl)
      (λ st₁ c₁. inputs_reserved (suc s) xs (λ j y e. let v : s + suc j ≡ suc s + j = omega arith in rw v at (f (suc j) y e)) st₁ c₁))
    where
      at : get_elem? m.signals s ≡ some x
      at = let z : s + 0 ≡ s = omega arith in rw z at (f 0 x refl)

      is : get_or m.signals s (record { width = 0; dir = R.Internal }) ≡ x
      is = got m.signals s x (record { width = 0; dir = R.Internal }) at

      next : (p : ℕ) → Inputs s p → Inputs (suc s) p
      next p h = (let y = h.0 in omega arith, h.1)

      one : (d : Dir) → x.dir ≡ d → Ends (Sources m (Inputs (suc s)) (before is_input m (suc s))) (reserve_input d s x.width st)
      one R.Internal e = ends_done (sources_map next (sym (before_more is_input m s ∙ rw (ap (λ (y : Sig). y.dir) is ∙ e) (omega arith))) c)
      one R.Output e = ends_done (sources_map next (sym (before_more is_input m s ∙ rw (ap (λ (y : Sig). y.dir) is ∙ e) (omega arith))) c)
      one R.Input e =
          let d : dir_of m s ≡ R.Input = ap (λ (y : Sig). y.dir) is ∙ e in
          let w : signal_width m s ≡ x.width = ap (λ (y : Sig). y.width) is in
          rw (← w) (ends_map _ (input_reserved st s c (inside m.signals s x at) d) (λ st₁ a. sources_map
          (λ p h. ⊎_elim (λ (y : Inputs s p). next p y) (λ (y : p ≡ s). (omega arith, ap (dir_of m) y ∙ d)) h) (sym (before_more is_input m s ∙ rw d (omega arith))) a.sources))

  -- ---- registers ----

  -- p is the target of a register before the k-th
  pub record IsTarget (k p : ℕ) : Type 0 where
    pub number : ℕ
    pub register : Register
    pub here : get_elem? m.registers number ≡ some register
    pub early : number < k
    pub is : register.target ≡ p

  abbrev Targets : ℕ → ℕ → Type 0
  Targets k p = (dir_of m p ≡ R.Input) ⊎ IsTarget k p

  pub record Bits (P : ℕ → Type 0) (ps rs ms : ℕ) (st : State) : Type 0 where
    pub sources : Sources m P ps st
    pub registers : (o b : ℕ) → o < rs → b < bits_of m o → Made m st 7 o b
    pub memories : (o b : ℕ) → o < ms → b < bits m 9 o → Made m st 9 o b

  module _ (ps k : ℕ) (r : Register) (at : get_elem? m.registers k ≡ some r) (st : State) (c : Bits (Targets k) ps k 0 st) where
    target_free : Targets k r.target → ⊥
    target_free (inl e) = (good.registers k r at).input e
    target_free (inr t) =
        let e = (good.registers k r at).only t.number t.register t.here t.is in
        let h = t.early in
        omega arith

    register_reserved : Ends (Bits (Targets (suc k)) ps (suc k) 0) (reserve_bits m 7 k 0 r.target st)
    register_reserved =
        let s = r.target in
        let q = good.registers k r at in
        let w = bound.widths s in
        let n = bound.registers in
        let j = inside m.registers k r at in
        let wide : bits_of m k ≡ signal_width m s = rw at in
        ends_map _ (bits_reserved (Targets k) ps st c.sources s q.inside target_free 7 k 0 (inl refl) (λ i h. shape_register k (0 + i) (omega arith) (omega arith))
        (λ i h. (rw at, omega arith, (let u : 0 + i < bits_of m k = omega arith in u)))) (λ st₁ a. record {
          sources = sources_map (λ p y. ⊎_elim (λ (z : Targets k p). old p z) (λ (z : p ≡ s). inr (record { number = k; register = r; here = at; early = omega arith; is = sym z })) y) refl a.0.sources;
          registers = λ o b h e. made o b st₁ a.0 a.1 h e (ℕ_discrete o k);
          memories = λ o b h e. absurd (not-suc-le-zero h);
        })
      where
        old : (p : ℕ) → Targets k p → Targets (suc k) p
        old p (inl e) = inl e
        old p (inr t) = inr (record { number = t.number; register = t.register; here = t.here; early = (let h = t.early in omega arith); is = t.is })

        made : (o b : ℕ) (st₁ : State) → Went m (λ p. Targets k p ⊎ (p ≡ r.target)) ps st st₁ → ((i : ℕ) → i < signal_width m r.target → Made m st₁ 7 k (0 + i)) → o < suc k → b < bits_of m o → Dec (o ≡ k) → Made m st₁ 7 o b
        made o b st₁ a f h e (yes z) =
            let u : b < bits_of m k = rw z at e in
            let v : bits_of m k ≡ signal_width m r.target = rw at in
            let y : 0 + b ≡ b = omega arith in
            rw z (rw y at (f b (omega arith)))
        made o b st₁ a f h e (no z) = made_later a.grew a.more (c.registers o b (omega arith) e)

  registers_reserved : (ps k : ℕ) (rs : List Register) → ((j : ℕ) (r : Register) → get_elem? rs j ≡ some r → get_elem? m.registers (k + j) ≡ some r) → (st : State)
      → Bits (Targets k) ps k 0 st → Ends (Bits (Targets (k + length rs)) ps (k + length rs) 0) (reserve_registers m k rs st)
  unfolding reserve_registers
  registers_reserved ps k [] f st c = let z : k ≡ k + 0 = omega arith in ends_done (rw (← z) c)
  registers_reserved ps k (r ∷ rs) f st c =
      let z : k + suc (length rs) ≡ suc k + length rs = omega arith in
      let at : get_elem? m.registers k ≡ some r = let y : k + 0 ≡ k = omega arith in rw y at (f 0 r refl) in
      rw z (ends_then (reserve_bits m 7 k 0 r.target st) (register_reserved ps k r at st c)
      (λ st₁ c₁. registers_reserved ps (suc k) rs (λ j y e. let v : k + suc j ≡ suc k + j = omega arith in rw v at (f (suc j) y e)) st₁ c₁))

  -- ---- memories ----

  -- p is read data of a memory before the k-th
  pub record IsData (k p : ℕ) : Type 0 where
    pub number : ℕ
    pub memory : Memory
    pub here : get_elem? m.memories number ≡ some memory
    pub early : number < k
    pub is : (memory.first.read_data ≡ p) ⊎ ((q : Port) × (memory.second ≡ some q) × (q.read_data ≡ p))

  abbrev Datas : ℕ → ℕ → Type 0
  Datas k p = Targets (length m.registers) p ⊎ IsData k p

  module _ (ps k : ℕ) (x : Memory) (at : get_elem? m.memories k ≡ some x) (st : State) (c : Bits (Datas k) ps (length m.registers) k st) where
    abbrev n : ℕ
    n = length m.registers

    port_free : (p : Port) → ((dir_of m p.read_data ≡ R.Input) → ⊥) → ((j : ℕ) (r : Register) → get_elem? m.registers j ≡ some r → r.target ≡ p.read_data → ⊥) → Targets n p.read_data → ⊥
    port_free p a b (inl e) = a e
    port_free p a b (inr t) = b t.number t.register t.here t.is

    first_free : Datas k x.first.read_data → ⊥
    first_free (inl t) = let g = (good.memories k x at).first in port_free x.first g.input g.registers t
    first_free (inr t) = ⊎_elim
        (λ (e : t.memory.first.read_data ≡ x.first.read_data). (let z = (good.memories k x at).first_first t.number t.memory t.here e in let h = t.early in omega arith))
        (λ (e : (q : Port) × (t.memory.second ≡ some q) × (q.read_data ≡ x.first.read_data)). (good.memories k x at).second_first t.number t.memory e.0 t.here e.1 e.2) t.is

    abbrev First : State → Type 0
    First st₁ = Went m (λ p. Datas k p ⊎ (p ≡ x.first.read_data)) ps st st₁ × ((i : ℕ) → i < signal_width m x.first.read_data → Made m st₁ 9 k (0 + i))

    first_reserved : Ends First (reserve_bits m 9 k 0 x.first.read_data st)
    first_reserved =
        let s = x.first.read_data in
        let w = bound.widths s in
        let n = bound.memories in
        let j = inside m.memories k x at in
        let wide : first_wide m k ≡ signal_width m s = rw at in
        bits_reserved (Datas k) ps st c.sources s (good.memories k x at).first.inside first_free 9 k 0 (inr refl) (λ i h. shape_memory k (0 + i) (omega arith) (omega arith))
        (λ i h. let y : 0 + i < first_wide m k = omega arith in let t = lt-ltb (0 + i) (first_wide m k) y in (rw t (rw at), rw t (omega arith), omega arith))

    second_free : (p : Port) → x.second ≡ some p → (Datas k p.read_data ⊎ (p.read_data ≡ x.first.read_data)) → ⊥
    second_free p q (inl (inl t)) = let g = (good.memories k x at).second p q in port_free p g.input g.registers t
    second_free p q (inl (inr t)) = ⊎_elim
        (λ (e : t.memory.first.read_data ≡ p.read_data). (good.memories t.number t.memory t.here).second_first k x p at q (sym e))
        (λ (e : (u : Port) × (t.memory.second ≡ some u) × (u.read_data ≡ p.read_data)). (let z = (good.memories k x at).second_second t.number t.memory e.0 p t.here e.1 q e.2 in let h = t.early in omega arith)) t.is
    second_free p q (inr e) = (good.memories k x at).second_first k x p at q e

    old_data : (p : ℕ) → Datas k p → Datas (suc k) p
    old_data p (inl t) = inl t
    old_data p (inr t) = inr (record { number = t.number; memory = t.memory; here = t.here; early = (let h = t.early in omega arith); is = t.is })

    first_data_law : (p : ℕ) → (Datas k p ⊎ (p ≡ x.first.read_data)) → Datas (suc k) p
    first_data_law p (inl t) = old_data p t
    first_data_law p (inr e) = inr (record { number = k; memory = x; here = at; early = omega arith; is = inl (sym e) })

    -- the bits of memory k, those of its first port being there
    all_made : (st₁ st₂ : State) → First st₁ → Grew st₁.netlist st₂.netlist → More st₁.signal_bits st₂.signal_bits
        → ((i : ℕ) → i < second_wide m k → Made m st₂ 9 k (first_wide m k + i)) → (o b : ℕ) → o < suc k → b < bits m 9 o → Made m st₂ 9 o b
    all_made st₁ st₂ a g w f o b h e = go (ℕ_discrete o k) (dec_lt b (first_wide m k))
      where
        go : Dec (o ≡ k) → Dec (b < first_wide m k) → Made m st₂ 9 o b
        go (no z) y = made_later (grew_trans a.0.grew g) (more_trans a.0.more w) (c.memories o b (omega arith) e)
        go (yes z) (yes y) =
            let v : first_wide m k ≡ signal_width m x.first.read_data = rw at in
            let u : 0 + b ≡ b = omega arith in
            let q : Made m st₂ 9 k (0 + b) = made_later {st = st₁} {st' = st₂} g w (a.1 b (omega arith)) in
            rw z (rw u at q)
        go (yes z) (no y) =
            let v : b < bits m 9 k = rw z at e in
            let u : first_wide m k + (b - first_wide m k) ≡ b = omega arith in
            rw z (rw u at (f (b - first_wide m k) (omega arith)))

    second_reserved : (st₁ : State) → First st₁ → (q : Option Port) → x.second ≡ q
        → Ends (Bits (Datas (suc k)) ps n (suc k)) (reserve_second m k (signal_width m x.first.read_data) q st₁)
    second_reserved st₁ a none e =
        let z : second_wide m k ≡ 0 = rw (at, e) in
        ends_done (record {
          sources = sources_map first_data_law refl a.0.sources;
          registers = λ o b h y. made_later a.0.grew a.0.more (c.registers o b h y);
          memories = all_made st₁ st₁ a (grew_refl st₁.netlist) more_refl (λ i h. absurd (omega arith));
        })
    second_reserved st₁ a (some p) e =
        let s = p.read_data in
        let g = (good.memories k x at).second p e in
        let w1 = bound.widths x.first.read_data in
        let w2 = bound.widths s in
        let m16 = bound.memories in
        let j = inside m.memories k x at in
        let f1 : first_wide m k ≡ signal_width m x.first.read_data = rw at in
        let f2 : second_wide m k ≡ signal_width m s = rw (at, e) in
        let f3 : second_data m k ≡ s = rw (at, e) in
        ends_map _ (bits_reserved (λ p. Datas k p ⊎ (p ≡ x.first.read_data)) ps st₁ a.0.sources s g.inside (second_free p e) 9 k (signal_width m x.first.read_data) (inr refl)
        (λ i h. shape_memory k (signal_width m x.first.read_data + i) (omega arith) (omega arith))
        (λ i h.
        let t = le-ltb (signal_width m x.first.read_data + i) (first_wide m k) (omega arith) in
        (rw t f3, rw t (omega arith), omega arith))) (λ st₂ b. record {
          sources = sources_map (λ y z. ⊎_elim (λ (u : Datas k y ⊎ (y ≡ x.first.read_data)). first_data_law y u)
              (λ (u : y ≡ s). inr (record { number = k; memory = x; here = at; early = omega arith; is = inr (p, e, sym u) })) z) refl b.0.sources;
          registers = λ o i h y. made_later {st = st₁} {st' = st₂} b.0.grew b.0.more (made_later {st = st} {st' = st₁} a.0.grew a.0.more (c.registers o i h y));
          memories = all_made st₁ st₂ a b.0.grew b.0.more (λ i h. rw f1 (b.1 i (omega arith)));
        })

  memories_reserved : (ps k : ℕ) (xs : List Memory) → ((j : ℕ) (x : Memory) → get_elem? xs j ≡ some x → get_elem? m.memories (k + j) ≡ some x) → (st : State)
      → Bits (Datas k) ps (length m.registers) k st → Ends (Bits (Datas (k + length xs)) ps (length m.registers) (k + length xs)) (reserve_memories m k xs st)
  unfolding reserve_memories
  memories_reserved ps k [] f st c = let z : k ≡ k + 0 = omega arith in ends_done (rw (← z) c)
  memories_reserved ps k (x ∷ xs) f st c =
      let z : k + suc (length xs) ≡ suc k + length xs = omega arith in
      let at : get_elem? m.memories k ≡ some x = let y : k + 0 ≡ k = omega arith in rw y at (f 0 x refl) in
      rw z (ends_then (reserve_bits m 9 k 0 x.first.read_data st) (first_reserved ps k x at st c) (λ st₁ a.
      ends_then (reserve_second m k (signal_width m x.first.read_data) x.second st₁) (second_reserved ps k x at st c st₁ a x.second refl)
      (λ st₂ c₂. memories_reserved ps (suc k) xs (λ j y e. let v : k + suc j ≡ suc k + j = omega arith in rw v at (f (suc j) y e)) st₂ c₂)))

  -- ---- all ----

  blank : {A : Type 0} (w : A → ℕ) (xs : List A) (p i n : ℕ) → cell none (map (λ x. replicate (w x) none) xs) p i ≡ some n → ⊥
  blank w [] p i n e = none_some e
  blank w (x ∷ xs) zero i n e = row (w x) i e
    where
      row : (k i : ℕ) → get_or (replicate {A = Option ℕ} k none) i none ≡ some n → ⊥
      row zero i e = none_some e
      row (suc k) zero e = none_some e
      row (suc k) (suc i) e = row k i e
  blank w (x ∷ xs) (suc p) i n e = blank w xs p i n e

  started : (N P : ℕ) → Sources m (Inputs 0) (before is_input m 0) (start m N P)
  unfolding start records_with only before
  started N P = record {
    few = omega arith;
    rows = length-map m.signals _;
    fine = record { nodes = tt; records = tt };
    filled = λ p i n e. absurd (blank (λ (s : Sig). s.width) m.signals p i n e);
    seats = λ k h. absurd (not-suc-le-zero h);
    ports = record { records = λ j h. absurd (not-suc-le-zero h); placed = λ j h. absurd (not-suc-le-zero h); nodes = λ k h. absurd (not-suc-le-zero h) };
    port_count = refl;
    registers = refl;
    memories = refl;
  }

  self : {A : Type 0} (ys : List A) (j : ℕ) (x : A) → get_elem? ys j ≡ some x → get_elem? ys (0 + j) ≡ some x
  self ys j x e = let z : 0 + j ≡ j = omega arith in rw z e

  abbrev pub Ready : State → Type 0
  Ready st = Bits (Datas (length m.memories)) (before is_input m (length m.signals)) (length m.registers) (length m.memories) st

  pub sources_ready : (N P : ℕ) → Ends Ready (reserve_sources m (start m N P))
  unfolding reserve_sources
  sources_ready N P =
      let z1 : 0 + length m.signals ≡ length m.signals = omega arith in
      let z2 : 0 + length m.registers ≡ length m.registers = omega arith in
      let z3 : 0 + length m.memories ≡ length m.memories = omega arith in
      ends_then (reserve_inputs 0 m.signals (start m N P)) (inputs_reserved 0 m.signals (self m.signals) (start m N P) (started N P)) (λ st₁ c₁.
      ends_then (reserve_registers m 0 m.registers st₁) (registers_reserved (before is_input m (length m.signals)) 0 m.registers (self m.registers) st₁ (record {
        sources = sources_map (λ p h. inl h.1) (ap (before is_input m) z1) c₁;
        registers = λ o b h. absurd (not-suc-le-zero h);
        memories = λ o b h. absurd (not-suc-le-zero h);
      })) (λ st₂ c₂.
      ends_map _ (memories_reserved (before is_input m (length m.signals)) 0 m.memories (self m.memories) st₂ (record {
        sources = sources_map (λ p h. inl (rw z2 at h)) refl c₂.sources;
        registers = rw z2 at c₂.registers;
        memories = λ o b h. absurd (not-suc-le-zero h);
      })) (λ st₃ c₃. rw z3 at c₃)))
