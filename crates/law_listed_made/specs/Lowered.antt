-- `connect_outputs`, and the whole lowering: what it ends with is listed. Assumes nothing.
use Prim.Native.Nat.{ℕ, zero, suc, ◌+◌, ◌-◌, ◌≤◌, ◌<◌}
use native.Mathlib.Omega.{arith}
use Rattle.std.proofs.Math.Decide.{dec_lt}
use Rattle.std.proofs.Common.{inl, inr, sym, ap, subst, ◌∙◌}
use Rattle.std.specs.Prelude.{◌≡◌, refl, Bool, false, get_or}
use mathlib.Core.List.{List, [], ◌∷◌, ◌++◌}
use Rattle.std.proofs.Math.Option.{none, some}
use Rattle.std.proofs.Math.ListN.{length, get_elem?}
use Rattle.spec_rtl.specs.Rtl as R
use Rattle.spec_rtl.specs.Rtl.{Module, Sig, Dir, dir_of}
use Rattle.spec_model.specs.Words.{Node, Netlist, absent, bit_word}
use Rattle.spec_model.specs.Builder as B
use Rattle.spec_model.specs.Builder.{Out, refused, done, node_for_net, from, add_output_port}
use Rattle.spec_model.specs.Lowering.{State, with_netlist, signal_width, signal_nets, signal_steps, start, lower_all, reserve_sources, connect_memories, connect_registers, connect_output, connect_outputs, lower_state}
use Rattle.net_view.specs.Laws.{with_record}
use Rattle.law_nets.specs.Sound.{count}
use Rattle.law_nets.specs.Run.{Meets, Limit}
use Rattle.law_gates.specs.Nodes.{no_node}
use Rattle.law_gates.specs.Added.{pairs, with_nodes, nodes_limits, recorded_node, recorded_count, recorded_others}
use Rattle.law_gates.specs.Ports.{output_node, output_nodes, output_node_law, OutputPort, output_port_run}
use Rattle.law_walk.specs.Good.{Good}
use Rattle.law_walk.specs.Kept.{more_refl}
use Rattle.law_walk.specs.Writes.{inv_netlist}
use Rattle.law_walk.specs.Reads.{AllAfter}
use Rattle.law_walk.proofs.ReadsLaws.{read_bits}
use Rattle.law_walk.specs.Walk.{bits_asked}
use Rattle.law_phases.specs.Pushed.{nets_length}
use Rattle.law_phases.specs.Sources as S
use Rattle.law_phases.specs.Sources.{inside, got, started, sources_run}
use Rattle.law_phases.proofs.Sources.{connected}
use Rattle.law_phases.specs.Registers.{bits_of}
use Rattle.law_owners.specs.Ends.{Ends, ends_done, ends_refused, ends_then}
use Rattle.law_listed.specs.Listed.{records}
use Rattle.law_listed_walk.specs.Shape.{Fine, shape_output}
use Rattle.law_listed_made.specs.Place.{Bounds, is_input, is_output, before, before_more, before_none, place, port_place, place_output, Source, base, base_none, bits}
use Rattle.law_listed_made.specs.Grow.{registers_same, memories_same, made_later, seats_later}
use Rattle.law_listed_made.specs.Pushes.{ports_pushed, ports_more}
use Rattle.law_listed_made.specs.Rows.{fine_nodes, fine_record}
use Rattle.law_listed_made.specs.Reserved.{Ready, ends_map, sources_ready}
use Rattle.law_listed_made.specs.Going.{Going, meets_ends, going_walk, registers_all}
use Rattle.law_listed_made.specs.MemoryMade.{memories_all}

length_pairs : (x : ℕ → ℕ → Node) (b : ℕ) (xs : List ℕ) → length (pairs x (from b (length xs)) xs) ≡ length xs
unfolding from
length_pairs x b [] = refl
length_pairs x b (y ∷ xs) = ap suc (length_pairs x (suc b) xs)

module _ (m : Module) (good : Good m) (bound : Bounds m) (ob : Bool) where
  -- ports before signal s, all inputs being there
  abbrev pub ports : ℕ → ℕ
  ports s = before is_input m (length m.signals) + before is_output m s

  module _ (s rs ms : ℕ) (st : State) (dir : dir_of m s ≡ R.Output) (here : s < length m.signals) (c : Going m (ports s) rs ms st) where
    abbrev l : Netlist
    l = st.netlist

    abbrev w : ℕ
    w = signal_width m s

    abbrev xs : List ℕ
    xs = signal_nets st s 0 w

    output_made : (ns : List ℕ) (l' : Netlist) → OutputPort s xs l (ns, l') → Going m (suc (ports s)) rs ms (with_netlist st l')
    output_made ns l' p =
        let a = p.made in
        let key : List ℕ = 0 ∷ s ∷ length xs ∷ [] in
        let ys = output_nodes s xs in
        let n : length xs ≡ w = nets_length st s 0 w in
        let k : length ys ≡ length xs = length_pairs (output_node s) 0 xs in
        let least = good.signals s here in
        let most = bound.widths s in
        let few = bound.signals in
        let g = p.later.grew in
        let lim = nodes_limits ys l in
        let cn = recorded_count key ys l ns l' a in
        let mx : l'.max_nets ≡ l.max_nets = ap (λ (h : Netlist). h.max_nets) a.then ∙ lim.0 in
        let fine₁ : Fine l.max_nets (with_nodes ys l) = fine_nodes l.max_nets ys l a.room (λ i h. let u : i < length xs = omega arith in rw (output_node_law s xs i u) (shape_output s i _ (omega arith) (omega arith))) c.fine in
        let fine₂ : Fine l.max_nets (with_record (key ++ ns) (with_nodes ys l)) = fine_record l.max_nets (key ++ ns) (with_nodes ys l) (record { least = λ z. absurd (omega arith); most = λ z. absurd (omega arith) }) fine₁ in
        let fine : Fine l'.max_nets l' = subst (λ (h : Netlist). Fine l'.max_nets h) (sym a.then) (subst (λ (z : ℕ). Fine z (with_record (key ++ ns) (with_nodes ys l))) (sym mx) fine₂) in
        let are : (i : ℕ) → i < length xs → ((get_or ys i no_node).kind ≡ 8) × ((get_or ys i no_node).owner ≡ s) × ((get_or ys i no_node).bit ≡ i) = λ i h.
        let x = output_node_law s xs i h in
        (ap (λ (y : Node). y.kind) x, ap (λ (y : Node). y.owner) x, ap (λ (y : Node). y.bit) x) in
        let place : port_place m s ≡ records l 0 = place_output m s dir ∙ sym c.port_count in
        let pushed = ports_pushed m s (length xs) ys l ns l' a k (omega arith) (omega arith) (omega arith) 8 (inr refl) are place c.ports in
        let more = ports_more m s (length xs) ys l ns l' a k (omega arith) (omega arith) (omega arith) 8 (inr refl) are place in
        let kind : (j : ℕ) → count l ≤ j → j < count l' → (node_for_net l' j).kind ≡ 8 = λ j h i.
        let d = j - count l in
        let e : count l + d ≡ j = omega arith in
        let u : d < length xs = omega arith in
        ap (λ (z : ℕ). (node_for_net l' z).kind) (sym e) ∙ ap (λ (y : Node). y.kind) (recorded_node key ys l ns l' a d (omega arith)) ∙ (are d u).0 in
        let e1 = recorded_others key ys l ns l' a 1 (λ z. omega arith) in
        let e2 = recorded_others key ys l ns l' a 2 (λ z. omega arith) in
        record {
          inv = inv_netlist m st l' c.inv p.later;
          fine = fine;
          seats = seats_later {m = m} {st = st} {st' = with_netlist st l'} g more_refl (λ j h i q. absurd (eight (node_for_net l' j).kind (kind j h i) q)) c.seats;
          made = λ o b h. made_later {st = st} {st' = with_netlist st l'} g more_refl (c.made o b h);
          stored = λ o b h. made_later {st = st} {st' = with_netlist st l'} g more_refl (c.stored o b h);
          ports = pushed;
          port_count = more ∙ ap suc c.port_count;
          registers = registers_same g m e1 c.registers;
          register_count = ap length e1 ∙ c.register_count;
          memories = memories_same g m e2 c.memories;
          memory_count = ap length e2 ∙ c.memory_count;
        }
      where
        eight : (k : ℕ) → k ≡ 8 → Source k → ⊥
        eight k e (inl z) = omega arith
        eight k e (inr z) = omega arith

    output_one : AllAfter ob st (signal_steps s 0 w) → Ends (Going m (suc (ports s)) rs ms) (B.and_then (add_output_port s xs l) (λ (ns, l'). done (with_netlist st l')))
    output_one h = go (add_output_port s xs l) (output_port_run s xs l c.inv.sound (read_bits m st c.inv ob s 0 w h).there)
      where
        go : (o : B.Made (List ℕ)) → Meets Limit (OutputPort s xs l) o → Ends (Going m (suc (ports s)) rs ms) (B.and_then o (λ (ns, l'). done (with_netlist st l')))
        go (refused n x y) p = ends_refused
        go (done r) p = ends_done (output_made r.0 r.1 p)

  outputs_all : (rs ms s : ℕ) (ys : List Sig) → ((j : ℕ) (x : Sig) → get_elem? ys j ≡ some x → get_elem? m.signals (s + j) ≡ some x) → (st : State)
      → Going m (ports s) rs ms st → Ends (Going m (ports (s + length ys)) rs ms) (connect_outputs m ob s ys st)
  unfolding connect_outputs
  outputs_all rs ms s [] f st c = let z : s ≡ s + 0 = omega arith in ends_done (rw (← z) c)
  outputs_all rs ms s (x ∷ ys) f st c =
      let z : s + suc (length ys) ≡ suc s + length ys = omega arith in
      rw z (ends_then (connect_output m ob x.dir s x.width st) (one x.dir refl)
      (λ st₁ c₁. outputs_all rs ms (suc s) ys (λ j y e. let v : s + suc j ≡ suc s + j = omega arith in rw v at (f (suc j) y e)) st₁ c₁))
    where
      at : get_elem? m.signals s ≡ some x
      at = let z : s + 0 ≡ s = omega arith in rw z at (f 0 x refl)

      is : get_or m.signals s (record { width = 0; dir = R.Internal }) ≡ x
      is = got m.signals s x (record { width = 0; dir = R.Internal }) at

      none_more : (d : Dir) → dir_of m s ≡ d → is_output d ≡ false → ports s ≡ ports (suc s)
      none_more d e o =
          let b = before_more is_output m s in
          let q : bit_word (is_output (dir_of m s)) ≡ 0 = ap (λ (y : Dir). bit_word (is_output y)) e ∙ ap bit_word o in
          omega arith

      one : (d : Dir) → x.dir ≡ d → Ends (Going m (ports (suc s)) rs ms) (connect_output m ob d s x.width st)
      one R.Internal e = ends_done (rw (← none_more R.Internal (ap (λ (y : Sig). y.dir) is ∙ e) refl) c)
      one R.Input e = ends_done (rw (← none_more R.Input (ap (λ (y : Sig). y.dir) is ∙ e) refl) c)
      one R.Output e =
          let d : dir_of m s ≡ R.Output = ap (λ (y : Sig). y.dir) is ∙ e in
          let w : signal_width m s ≡ x.width = ap (λ (y : Sig). y.width) is in
          let b = before_more is_output m s in
          let q : bit_word (is_output (dir_of m s)) ≡ 1 = ap (λ (y : Dir). bit_word (is_output y)) d in
          let p : suc (ports s) ≡ ports (suc s) = omega arith in
          rw (← w, ← p) (ends_then (lower_all m ob (signal_steps s 0 (signal_width m s)) st)
          (going_walk m good bound ob (ports s) rs ms (signal_steps s 0 (signal_width m s)) st (bits_asked m s 0 (signal_width m s)) c)
          (λ st₁ q. output_one s rs ms st₁ d (inside m.signals s x at) q.0 q.1))

  -- ---- the whole ----

  abbrev pub Whole : State → Type 0
  Whole st = Going m (ports (length m.signals)) (base m (length m.registers)) (length m.memories) st

  past : {A : Type 0} (xs : List A) (k : ℕ) → length xs ≤ k → get_elem? xs k ≡ none
  past [] k h = refl
  past (x ∷ xs) zero h = absurd (omega arith)
  past (x ∷ xs) (suc k) h = past xs k (omega arith)

  pub bits_there : (o b : ℕ) → b < bits_of m o → o < length m.registers
  bits_there o b h = go (dec_lt o (length m.registers))
    where
      go : Dec (o < length m.registers) → o < length m.registers
      go (yes z) = z
      go (no z) = absurd (let e : bits_of m o ≡ 0 = rw (past m.registers o (omega arith)) in omega arith)

  pub data_there : (o b : ℕ) → b < bits m 9 o → o < length m.memories
  data_there o b h = go (dec_lt o (length m.memories))
    where
      go : Dec (o < length m.memories) → o < length m.memories
      go (yes z) = z
      go (no z) = absurd (let e : bits m 9 o ≡ 0 = rw (past m.memories o (omega arith)) in omega arith)

  begun : (lim : ℕ × ℕ) (st : State) → S.Reserved m lim st → Ready m good bound st → Going m (ports 0) (base m 0) 0 st
  begun lim st i c =
      let q = c.sources in
      record {
        inv = (connected m lim st i).inv;
        fine = q.fine;
        seats = q.seats;
        made = λ o b h. c.registers o b (bits_there o b h) h;
        stored = λ o b h. c.memories o b (data_there o b h) h;
        ports = q.ports;
        port_count = q.port_count ∙ (let z = before_none is_output m in omega arith);
        registers = (let z = q.registers in record { records = λ j h. absurd (omega arith); placed = λ j h. absurd (omega arith); bit = λ j h. absurd (omega arith) });
        register_count = q.registers ∙ sym (base_none m);
        memories = (let z = q.memories in record { records = λ j h. absurd (omega arith); placed = λ j h. absurd (omega arith); wide = λ j h. absurd (omega arith) });
        memory_count = q.memories;
      }

  both : {A : Type 0} {P Q : A → Type 0} (o : Out A) → Ends P o → Ends Q o → Ends (λ a. P a × Q a) o
  both (refused n x y) a b = ends_refused
  both (done z) a b = ends_done (a.ends, b.ends)

  self : {A : Type 0} (ys : List A) (j : ℕ) (x : A) → get_elem? ys j ≡ some x → get_elem? ys (0 + j) ≡ some x
  self ys j x e = let z : 0 + j ≡ j = omega arith in rw z e

  pub lowered : (N P : ℕ) → N ≤ absent → Ends Whole (lower_state ob m N P)
  unfolding lower_state
  lowered N P h =
      let z1 : 0 + length m.signals ≡ length m.signals = omega arith in
      let z2 : 0 + length m.registers ≡ length m.registers = omega arith in
      let z3 : 0 + length m.memories ≡ length m.memories = omega arith in
      ends_then (reserve_sources m (start m N P))
      (both _ (meets_ends _ (sources_run m good (N, P) (start m N P) (started m N P h))) (sources_ready m good bound N P)) (λ st₁ q.
      ends_then (connect_memories m ob 0 m.memories st₁) (memories_all m good bound ob (ports 0) (base m 0) 0 m.memories (self m.memories) st₁ (begun (N, P) st₁ q.0 q.1)) (λ st₂ c₂.
      ends_then (connect_registers m ob 0 m.registers st₂) (registers_all m good bound ob (ports 0) (0 + length m.memories) 0 m.registers (self m.registers) st₂ c₂) (λ st₃ c₃.
      ends_map _ (outputs_all (base m (0 + length m.registers)) (0 + length m.memories) 0 m.signals (self m.signals) st₃ c₃) (λ st₄ c₄. rw (z1, z2, z3) at c₄))))
