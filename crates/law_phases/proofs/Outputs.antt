-- What is proved of specs/Outputs: `connect_outputs`, and with it all of `lower`: what holds of the state at its end. Assumes nothing.
use Rattle.std.specs.Prelude.{◌≡◌, Bool, get_or}
use Rattle.std.proofs.Math.Path.{refl, ap}
use Rattle.std.proofs.Common.{◌∙◌, zero-add, not-suc-le-zero}
use mathlib.Core.List.{List, [], ◌∷◌, map}
use Rattle.std.proofs.Math.Option.{some}
use Prim.Native.Nat.{ℕ, suc, ◌+◌, ◌≤◌, ◌<◌}
use Rattle.std.proofs.Math.Decide.{ℕ_discrete}
use native.Mathlib.Omega.{arith}
use Rattle.std.proofs.Math.ListN.{length, get_elem?}
use Rattle.spec_rtl.specs.Rtl as R
use Rattle.spec_rtl.specs.Rtl.{Module, Sig, Dir, dir_of}
use Rattle.spec_rules.specs.NetlistImage.{memory_of, register_bit_of}
use Rattle.spec_model.specs.Words.{Netlist, absent}
use Rattle.spec_model.specs.Builder.{refused, done, and_then, Made, add_output_port}
use Rattle.spec_model.specs.Lowering.{State, with_netlist, signal_width, signal_nets, signal_steps, lower_all, start, reserve_sources, connect_memories, connect_registers, connect_output, connect_outputs, lower_state}
use Rattle.word_laws.specs.Shift.{tab_ext}
use Rattle.law_nets.specs.Meaning.{meaning_of}
use Rattle.law_nets.specs.Run.{Meets, meets_bind, meets_map, Limit}
use Rattle.law_nets.proofs.Run.{later_trans}
use Rattle.law_gates.specs.Added.{recorded_others}
use Rattle.law_gates.specs.Ports.{OutputPort, output_port_run, output_nodes}
use Rattle.law_gates.proofs.Ports.{output_outputs}
use Rattle.law_walk.specs.Good.{Good}
use Rattle.law_walk.specs.Kept.{Any, more_refl, WalkedTo}
use Rattle.law_walk.specs.Writes.{inv_netlist}
use Rattle.law_walk.specs.Reads.{AllAfter}
use Rattle.law_walk.proofs.ReadsLaws.{read_bits}
use Rattle.law_walk.specs.Walk.{bits_asked}
use Rattle.law_walk.proofs.Walk.{all_walk}
use Rattle.law_phases.specs.Supply.{supply}
use Rattle.law_phases.specs.Made.{limited_later, Connected}
use Rattle.law_phases.proofs.Made.{memories_later, registers_later, connected_grew, one_output}
use Rattle.law_phases.specs.Sources.{got, Reserved, started, sources_run}
use Rattle.law_phases.proofs.Sources.{connected}
use Rattle.law_phases.proofs.Memories.{memories_walk}
use Rattle.law_phases.specs.Registers.{bits_of}
use Rattle.law_phases.proofs.Registers.{registers_walk}
use Rattle.law_phases.proofs.Registers.{AllBits}

module _ (m : Module) (good : Good m) (ob : Bool) (lim : ℕ × ℕ) where
  -- a signal that is no output
  pub no_output : (p k : ℕ) (f : ℕ → ℕ) (st : State) → (dir_of m p ≡ R.Output → ⊥) → Connected m lim st k f p → Connected m lim st k f (suc p)
  no_output p k f st d c = record {
    limited = c.limited;
    inv = c.inv;
    memories = c.memories;
    registers = c.registers;
    outputs = record {
      made = λ q h e. c.outputs.made q (less q h e (ℕ_discrete q p)) e;
      rest = λ q h. c.outputs.rest q (λ x. h (omega arith, x.1));
    };
  }
    where
      less : (q : ℕ) → q < suc p → dir_of m q ≡ R.Output → Dec (q ≡ p) → q < p
      less q h e (yes z) = absurd (d (rw z at e))
      less q h e (no z) = omega arith

  module _ (p k : ℕ) (f : ℕ → ℕ) (st : State) (d : dir_of m p ≡ R.Output) (c : Connected m lim st k f p) (h : AllAfter ob st (signal_steps p 0 (signal_width m p))) where
    port_made : (r : List ℕ × Netlist) → OutputPort p (signal_nets st p 0 (signal_width m p)) st.netlist r → Connected m lim (with_netlist st r.1) k f (suc p)
    unfolding meaning_of
    port_made r o =
        let a = o.later in
        let b = read_bits m st c.inv ob p 0 (signal_width m p) h in
        let key : List ℕ = 0 ∷ p ∷ length (signal_nets st p 0 (signal_width m p)) ∷ [] in
        let ns = output_nodes p (signal_nets st p 0 (signal_width m p)) in
        record {
          limited = limited_later lim a c.limited;
          inv = inv_netlist m st r.1 c.inv a;
          memories = memories_later a more_refl (ap (map memory_of) (recorded_others key ns st.netlist r.0 r.1 o.made 2 (λ z. omega arith))) c.memories;
          registers = registers_later a more_refl (ap (map register_bit_of) (recorded_others key ns st.netlist r.0 r.1 o.made 1 (λ z. omega arith))) c.registers;
          outputs = one_output m st.netlist r.1 st.signal_bits a p (record { signal = p; nets = r.0 }) d refl (record {
            there = o.stands.there;
            holds = λ l g s x v q. o.stands.are l g s x ∙ b.holds l (later_trans a g) s x v q ∙ tab_ext (signal_width m p) _ _ (λ i _. ap (v p) (zero-add i));
          }) (output_outputs p st.netlist r.0 r.1 (signal_nets st p 0 (signal_width m p)) c.inv.sound o) c.outputs;
        }

    pub port_run : Meets Any (λ st'. Connected m lim st' k f (suc p))
        (and_then (add_output_port p (signal_nets st p 0 (signal_width m p)) st.netlist) (λ (ns, l). done (with_netlist st l)))
    port_run = go (add_output_port p (signal_nets st p 0 (signal_width m p)) st.netlist)
        (output_port_run p (signal_nets st p 0 (signal_width m p)) st.netlist c.inv.sound (read_bits m st c.inv ob p 0 (signal_width m p) h).there)
      where
        go : (o : Made (List ℕ)) → Meets Limit (OutputPort p (signal_nets st p 0 (signal_width m p)) st.netlist) o
            → Meets Any (λ st'. Connected m lim st' k f (suc p)) (and_then o (λ (ns, l). done (with_netlist st l)))
        go (refused n x y) w = tt
        go (done r) w = port_made r w

  output_walk : (p k : ℕ) (f : ℕ → ℕ) (x : Sig) (st : State) → get_elem? m.signals p ≡ some x → Connected m lim st k f p
      → Meets Any (λ st'. Connected m lim st' k f (suc p)) (connect_output m ob x.dir p x.width st)
  output_walk p k f x st e c = go x.dir (ap (λ (y : Sig). y.dir) is)
    where
      is : get_or m.signals p (record { width = 0; dir = R.Internal }) ≡ x
      is = got m.signals p x (record { width = 0; dir = R.Internal }) e

      wide : signal_width m p ≡ x.width
      wide = ap (λ (y : Sig). y.width) is

      go : (d : Dir) → dir_of m p ≡ d → Meets Any (λ st'. Connected m lim st' k f (suc p)) (connect_output m ob d p x.width st)
      go R.Internal q = no_output p k f st (λ z. let y : ◌≡◌ {A = ℕ} 0 1 = cc in omega arith) c
      go R.Input q = no_output p k f st (λ z. let y : ◌≡◌ {A = ℕ} 0 1 = cc in omega arith) c
      go R.Output q =
          let w = all_walk supply m good ob (signal_steps p 0 (signal_width m p)) st c.inv (bits_asked m p 0 (signal_width m p)) in
          rw (← wide) (meets_bind Any (WalkedTo m st (λ st'. AllAfter ob st' (signal_steps p 0 (signal_width m p)))) (λ st'. Connected m lim st' k f (suc p))
          (lower_all m ob (signal_steps p 0 (signal_width m p)) st) _ w.walks (λ st₁ g. port_run p k f st₁ q (connected_grew c g.inv g.grew) g.post))

  outputs_walk : (p : ℕ) (ys : List Sig) → ((j : ℕ) (x : Sig) → get_elem? ys j ≡ some x → get_elem? m.signals (p + j) ≡ some x) → (k : ℕ) (f : ℕ → ℕ) (st : State)
      → Connected m lim st k f p → Meets Any (λ st'. Connected m lim st' k f (p + length ys)) (connect_outputs m ob p ys st)
  unfolding connect_outputs
  outputs_walk p [] g k f st c = let z : p + 0 ≡ p = omega arith in rw z c
  outputs_walk p (x ∷ ys) g k f st c =
      let e : get_elem? m.signals p ≡ some x = let z : p + 0 ≡ p = omega arith in rw z at (g 0 x refl) in
      meets_bind Any (λ st'. Connected m lim st' k f (suc p)) (λ st'. Connected m lim st' k f (p + suc (length ys))) (connect_output m ob x.dir p x.width st) _ (output_walk p k f x st e c)
      (λ st₁ c₁. let z : p + suc (length ys) ≡ suc p + length ys = omega arith in
      rw z (outputs_walk (suc p) ys (λ j y q. let v : p + suc j ≡ suc p + j = omega arith in rw v at (g (suc j) y q)) k f st₁ c₁))

  -- all memories, all bits of registers and all outputs are connected
  pub record Lowered (st : State) : Type 0 where
    pub bits : ℕ → ℕ
    pub connected : Connected m lim st (length m.memories) bits (length m.signals)
    pub all : (k : ℕ) → bits k ≡ bits_of m k

  self : {A : Type 0} (ys : List A) (j : ℕ) (x : A) → get_elem? ys j ≡ some x → get_elem? ys (0 + j) ≡ some x
  self ys j x e = rw (zero-add j) e

  pub lowered : lim.0 ≤ absent → Meets Any Lowered (lower_state ob m lim.0 lim.1)
  unfolding lower_state
  lowered h =
      let n = lim.0 in
      let p = lim.1 in
      meets_bind Any (Reserved m lim) Lowered (reserve_sources m (start m n p)) _ (sources_run m good lim (start m n p) (started m n p h)) (λ st₁ i₁.
      meets_bind Any (λ st'. Connected m lim st' (0 + length m.memories) (λ j. 0) 0) Lowered (connect_memories m ob 0 m.memories st₁) _
      (memories_walk supply m good ob lim 0 (λ j. 0) 0 m.memories (self m.memories) st₁ (connected m lim st₁ i₁)) (λ st₂ c₂.
      meets_bind Any (AllBits m good ob lim (length m.memories) 0) Lowered (connect_registers m ob 0 m.registers st₂) _
      (registers_walk m good ob lim supply 0 m.registers (self m.registers) (zero-add (length m.registers)) (length m.memories) 0 (λ j. 0)
      (λ x b. absurd (not-suc-le-zero b)) (λ x b. refl) st₂ (rw (zero-add (length m.memories)) at c₂)) (λ st₃ d.
      meets_map Any Any (λ st'. Connected m lim st' (length m.memories) d.bits (0 + length m.signals)) Lowered (connect_outputs m ob 0 m.signals st₃)
      (outputs_walk 0 m.signals (self m.signals) (length m.memories) d.bits st₃ d.connected) (λ x y z q. q)
      (λ st₄ c₄. record { bits = d.bits; connected = rw (zero-add (length m.signals)) at c₄; all = d.all }))))
