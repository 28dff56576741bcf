-- What is proved of specs/Memories: `connect_memories`: each memory's record has the nets of its addresses, data and controls. Assumes nothing.
use Rattle.std.specs.Prelude.{◌≡◌, refl, Bool}
use Rattle.std.proofs.Common.{ap, ap₂}
use mathlib.Core.List.{List, [], ◌∷◌, ◌++◌}
use Rattle.std.proofs.Math.Option.{Option, none, some}
use Prim.Native.Nat.{ℕ, suc, ◌+◌}
use native.Mathlib.Omega.{arith}
use Rattle.std.proofs.Math.ListN.{length, get_elem?}
use Rattle.spec_rtl.specs.Rtl.{Module, Memory, Port}
use Rattle.spec_rules.specs.NetlistImage as N
use Rattle.spec_rules.specs.NetlistImage.{memory_of}
use Rattle.spec_model.specs.Lowering.{State, signal_width, signal_net, signal_nets, whole_nets, net_control, option_control, memory_steps, ports_words, push_record, lower_all, connect_memories}
use Rattle.net_view.specs.View.{Formed}
use Rattle.net_view.specs.Formed.{Ported, formed_memory, formed_memory₂}
use Rattle.net_view.specs.Laws.{with_record}
use Rattle.law_nets.specs.Run.{Meets, meets_bind}
use Rattle.law_walk.specs.Good.{Good}
use Rattle.law_walk.specs.Kept.{Any, more_refl, Inv, WalkedTo}
use Rattle.law_walk.specs.Writes.{inv_netlist}
use Rattle.law_walk.specs.Reads.{AllAfter}
use Rattle.law_walk.proofs.ReadsLaws.{read_whole}
use Rattle.law_walk.specs.Gates.{Gates}
use Rattle.law_walk.proofs.Walk.{all_walk}
use Rattle.law_records.specs.Back.{ported, port_back, memory_back, memory_back₂}
use Rattle.law_phases.specs.Made.{limited_later, SamePort, SameSecond, SameMemory, Connected}
use Rattle.law_phases.proofs.Made.{memory_later, registers_later, outputs_later, connected_grew, one_memory}
use Rattle.law_phases.specs.Pushed.{bit_is, control_same, control_there, nets_length, memories_one, registers_left, outputs_left, pushed}
use Rattle.law_phases.specs.Memories.{PortAfter, SecondAfter, cell_of, first_ready, steps_asked, words_in, words_in_law}

module _ (m : Module) (ob : Bool) (st : State) (i : Inv m st) where
  port_same : (p : Port) → PortAfter m ob st p → SamePort m st.netlist st.signal_bits p (cell_of m st p)
  port_same p h = record {
    read_address = read_whole m st i p.read_address h.words.0;
    write_address = read_whole m st i p.write_address h.words.1.0;
    write_data = read_whole m st i p.write_data h.words.1.1.0;
    read_enable = control_same m ob st i p.read_enable h.read;
    write_enable = (bit_is m ob st i p.write_enable.signal h.write.0, refl);
    clock = bit_is m ob st i p.clock h.clock.0;
    rising = refl;
  }

  port_ported : (p : Port) → Ported (words_in m st p)
  port_ported p =
      ported (whole_nets st p.read_address) (signal_nets st p.read_data 0 (signal_width m p.read_data)) (whole_nets st p.write_address) (whole_nets st p.write_data)
      (option_control st p.read_enable) (net_control st p.write_enable) (signal_net st p.clock 0) p.rising

  back : (p : Port) → PortAfter m ob st p → (rest : List ℕ) → N.memory_port_of (words_in m st p ++ rest) ≡ cell_of m st p
  back p h rest =
      port_back (whole_nets st p.read_address) (signal_nets st p.read_data 0 (signal_width m p.read_data)) (whole_nets st p.write_address) (whole_nets st p.write_data)
      (option_control st p.read_enable) (net_control st p.write_enable) (signal_net st p.clock 0) p.rising rest (control_there m ob st i p.read_enable h.read)

  -- a memory's record
  abbrev pub words_for : ℕ → Memory → List ℕ
  words_for k x = 2 ∷ k ∷ x.depth ∷ x.style ∷ 1 ∷ ports_words m st x.first x.second

  pub record Recorded (k : ℕ) (x : Memory) : Type 0 where
    pub formed : Formed (words_for k x)
    pub index : (memory_of (words_for k x)).index ≡ k
    pub same : SameMemory m st.netlist st.signal_bits x (memory_of (words_for k x))

  pub recorded : (k : ℕ) (x : Memory) → PortAfter m ob st x.first → SecondAfter m ob st x.second → Recorded k x
  recorded k x h g = go x.second refl g
    where
      at : (r : List ℕ) (o : Option Port) (s : Option N.MemoryPort) → x.second ≡ o → words_for k x ≡ r → Formed r
          → memory_of r ≡ record { index = k; depth = x.depth; first = cell_of m st x.first; second = s }
          → SameSecond m st.netlist st.signal_bits o s → Recorded k x
      at r o s e w f b n = record {
        formed = rw w f;
        index = rw (w, b);
        same = rw (w, b) (record { depth = refl; wide = nets_length st x.first.read_data 0 (signal_width m x.first.read_data); first = port_same x.first h; second = rw e n });
      }

      go : (o : Option Port) → x.second ≡ o → SecondAfter m ob st o → Recorded k x
      go none e g = at (2 ∷ k ∷ x.depth ∷ x.style ∷ 1 ∷ 1 ∷ words_in m st x.first) none none e (rw e (ap (λ (a : List ℕ). 2 ∷ k ∷ x.depth ∷ x.style ∷ 1 ∷ 1 ∷ a) (words_in_law m st x.first)))
          (formed_memory k x.depth x.style 1 (words_in m st x.first) (port_ported x.first))
          (memory_back k x.depth x.style 1 (words_in m st x.first) (cell_of m st x.first) (back x.first h [])) tt
      go (some q) e g = at (2 ∷ k ∷ x.depth ∷ x.style ∷ 1 ∷ 2 ∷ (words_in m st x.first ++ words_in m st q)) (some q) (some (cell_of m st q)) e
          (rw e (ap₂ (λ (a b : List ℕ). 2 ∷ k ∷ x.depth ∷ x.style ∷ 1 ∷ 2 ∷ (a ++ b)) (words_in_law m st x.first) (words_in_law m st q)))
          (formed_memory₂ k x.depth x.style 1 (words_in m st x.first) (words_in m st q) (port_ported x.first) (port_ported q))
          (memory_back₂ k x.depth x.style 1 (words_in m st x.first) (words_in m st q) (cell_of m st x.first) (cell_of m st q) (port_ported x.first)
          (back x.first h (words_in m st q)) (back q g [])) (port_same q g)

module _ (G : Gates) (m : Module) (good : Good m) (ob : Bool) (lim : ℕ × ℕ) where
  pub memory_pushed : (k : ℕ) (b : ℕ → ℕ) (n : ℕ) (x : Memory) (st : State) → get_elem? m.memories k ≡ some x → Connected m lim st k b n → AllAfter ob st (memory_steps x)
      → Meets Any (λ st'. Connected m lim st' (suc k) b n) (push_record (2 ∷ k ∷ x.depth ∷ x.style ∷ 1 ∷ ports_words m st x.first x.second) st)
  memory_pushed k b n x st e c h =
      let y = first_ready m ob st x h in
      let r = recorded m ob st c.inv k x y.0 y.1 in
      let w : List ℕ = 2 ∷ k ∷ x.depth ∷ x.style ∷ 1 ∷ ports_words m st x.first x.second in
      pushed (λ st'. Connected m lim st' (suc k) b n) w st c.inv.sound r.formed (omega arith) (omega arith) (λ a. record {
        limited = limited_later lim a c.limited;
        inv = inv_netlist m st (with_record w st.netlist) c.inv a;
        memories = one_memory m st.netlist (with_record w st.netlist) st.signal_bits a k x (memory_of w) e r.index (memory_later m a more_refl x (memory_of w) r.same)
            (memories_one w st.netlist refl) c.memories;
        registers = registers_later a more_refl (registers_left w st.netlist (λ z. omega arith)) c.registers;
        outputs = outputs_later a more_refl (outputs_left w st.netlist a c.inv.sound (λ z. omega arith)) c.outputs;
      })

  pub memories_walk : (k : ℕ) (b : ℕ → ℕ) (n : ℕ) (xs : List Memory) → ((j : ℕ) (x : Memory) → get_elem? xs j ≡ some x → get_elem? m.memories (k + j) ≡ some x)
      → (st : State) → Connected m lim st k b n → Meets Any (λ st'. Connected m lim st' (k + length xs) b n) (connect_memories m ob k xs st)
  unfolding connect_memories
  memories_walk k b n [] f st c = let z : k + 0 ≡ k = omega arith in rw z c
  memories_walk k b n (x ∷ xs) f st c =
      let e : get_elem? m.memories k ≡ some x = let z : k + 0 ≡ k = omega arith in rw z at (f 0 x refl) in
      let g = good.memories k x e in
      let w = all_walk G m good ob (memory_steps x) st c.inv (steps_asked m x g.first g.second) in
      meets_bind Any (WalkedTo m st (λ st'. AllAfter ob st' (memory_steps x))) (λ st'. Connected m lim st' (k + suc (length xs)) b n) (lower_all m ob (memory_steps x) st) _ w.walks (λ st₁ q.
      meets_bind Any (λ st'. Connected m lim st' (suc k) b n) (λ st'. Connected m lim st' (k + suc (length xs)) b n)
      (push_record (2 ∷ k ∷ x.depth ∷ x.style ∷ 1 ∷ ports_words m st₁ x.first x.second) st₁) _
      (memory_pushed k b n x st₁ e (connected_grew c q.inv q.grew) q.post)
      (λ st₂ c₂. let z : k + suc (length xs) ≡ suc k + length xs = omega arith in
      rw z (memories_walk (suc k) b n xs (λ j y p. let v : k + suc j ≡ suc k + j = omega arith in rw v at (f (suc j) y p)) st₂ c₂)))
