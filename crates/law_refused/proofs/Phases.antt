-- What is proved of specs/Phases: Memories, registers and outputs, one after another: each refusal told, and what they need served where there is none. Assumes nothing.
use Rattle.std.specs.Prelude.{◌≡◌, Bool, cond, ltb, get_or, take}
use Rattle.std.proofs.Math.Path.{refl, ap, fun_ext}
use Rattle.std.proofs.Common.{sym, subst, ◌∙◌, not-suc-le-zero, le_of_suc-le-suc}
use Rattle.std.proofs.Math.Bool.{false}
use mathlib.Core.List.{List, [], ◌∷◌, ◌++◌}
use Rattle.std.proofs.Math.Option.{Option, none, some}
use Prim.Native.Nat.{ℕ, zero, suc, ◌+◌, ◌-◌, ◌≤◌, ◌<◌}
use native.Mathlib.Omega.{arith}
use Rattle.std.proofs.Math.ListN.{length, get_elem?}
use Rattle.spec_rtl.specs.Rtl as R
use Rattle.spec_rtl.specs.Rtl.{Module, Sig, Dir, Reset, Register, Memory}
use Rattle.spec_model.specs.Words.{Node, absent, gate, bit_word}
use Rattle.spec_model.specs.Builder.{Out, refused, done, and_then, Made, node_for_net, constant_of, constant_value, add_output_port}
use Rattle.spec_model.specs.Lowering.{State, start, reserve_sources, reset_steps, control_steps, bit_step, wholes, whole, whole_nets, whole_net, with_netlist, signal_width, signal_nets, signal_steps, memory_steps, register_steps, ports_words, lower_all, push_record, net_control, push_register, reset_by, register_bit, register_bits, connect_memories, connect_registers, connect_output, connect_outputs}
use Rattle.spec_answers.specs.Refusals.{before, NotConstant}
use Rattle.law_nets.specs.Run.{Meets, meets_bind, meets_map, Limit}
use Rattle.law_walk.specs.Tables.{none_some, Has}
use Rattle.law_walk.specs.Good.{Good}
use Rattle.law_walk.specs.Kept.{Any}
use Rattle.law_walk.specs.Reads.{AllAfter}
use Rattle.law_walk.proofs.ReadsLaws.{whole_length}
use Rattle.law_needs.specs.Room.{Roomy, refused_by_law, output_room}
use Rattle.law_needs.specs.Inside.{Within}
use Rattle.law_phases.specs.Supply.{supply}
use Rattle.law_phases.specs.Made.{Connected}
use Rattle.law_phases.proofs.Made.{connected_grew}
use Rattle.law_phases.specs.Sources.{got}
use Rattle.law_phases.proofs.Memories.{memory_pushed}
use Rattle.law_phases.proofs.Registers.{Done, bits_run}
use Rattle.law_phases.proofs.Outputs.{port_run}
use Rattle.law_phases.proofs.Outputs.{no_output}
use Rattle.law_refused.specs.Stands.{Strays, room, Stands, stands_netlist, AllGot, got_split, AllServed, served_stays, further_refl, further_trans, further_netlist, LoweredTo, all_lowered}
use Rattle.law_refused.specs.Starts.{memory_starting, register_starting, output_starting}
use Rattle.law_refused.specs.Phases.{Passed, Pushed, all_passed, both_meet, named, push_pushed, pushed_further, pushed_refl, pushed_stands, pushed_trans, regroup}

module _ (m : Module) (good : Good m) (within : Within m) (lim : ℕ × ℕ) where
  -- ---- memories ----

  abbrev pub MemoriesServed : List Memory → State → Type 0
  MemoriesServed xs st = (j : ℕ) (x : Memory) → get_elem? xs j ≡ some x → AllServed m st (memory_steps x)

  memory_one : (k : ℕ) (b : ℕ → ℕ) (n : ℕ) (x : Memory) → get_elem? m.memories k ≡ some x → (st : State) → Connected m lim st k b n → Stands m st
      → Meets (Strays m) (λ st'. Connected m lim st' (suc k) b n × Passed m st (λ st''. AllServed m st'' (memory_steps x)) st')
      (and_then (lower_all m false (memory_steps x) st) (λ st₁. push_record (2 ∷ k ∷ x.depth ∷ x.style ∷ 1 ∷ ports_words m st₁ x.first x.second) st₁))
  memory_one k b n x e st c s =
      meets_bind (Strays m) (LoweredTo m st (memory_steps x)) _ (lower_all m false (memory_steps x) st) _ (all_lowered m good within (memory_steps x) st c.inv s (memory_starting m good within k x e)) (λ st₁ q.
      let r : List ℕ = 2 ∷ k ∷ x.depth ∷ x.style ∷ 1 ∷ ports_words m st₁ x.first x.second in
      let c₁ = connected_grew c q.walked.inv q.walked.grew in
      both_meet Any (Strays m) (λ st'. Connected m lim st' (suc k) b n) (Passed m st (λ st''. AllServed m st'' (memory_steps x))) (push_record r st₁)
      (memory_pushed supply m good false lim k b n x st₁ e c₁ q.walked.post)
      (meets_map Limit (Strays m) (Pushed st₁) (Passed m st (λ st''. AllServed m st'' (memory_steps x))) (push_record r st₁) (push_pushed r st₁) (λ a y z h. room h)
      (λ st₂ p. record { stands = pushed_stands m p q.stands; further = further_trans q.further (pushed_further p); post = served_stays (pushed_further p) q.served })))

  no_memory : (k : ℕ) (st : State) → connect_memories m false k [] st ≡ done st
  unfolding connect_memories
  no_memory k st = refl

  more_memories : (b : ℕ → ℕ) (n : ℕ) (Q : State → Type 0) (k : ℕ) (x : Memory) (xs : List Memory) (st : State) → get_elem? m.memories k ≡ some x → Connected m lim st k b n → Stands m st
      → ((st₁ : State) → Connected m lim st₁ (suc k) b n → Passed m st (λ st''. AllServed m st'' (memory_steps x)) st₁ → Meets (Strays m) Q (connect_memories m false (suc k) xs st₁))
      → Meets (Strays m) Q (connect_memories m false k (x ∷ xs) st)
  unfolding connect_memories
  more_memories b n Q k x xs st e c s h =
      regroup (Strays m) (λ st'. Connected m lim st' (suc k) b n × Passed m st (λ st''. AllServed m st'' (memory_steps x)) st') Q
      (lower_all m false (memory_steps x) st) (λ st₁. push_record (2 ∷ k ∷ x.depth ∷ x.style ∷ 1 ∷ ports_words m st₁ x.first x.second) st₁) (λ st₂. connect_memories m false (suc k) xs st₂)
      (memory_one k b n x e st c s) (λ st₂ q. h st₂ q.0 q.1)

  pub memories_passed : (k : ℕ) (b : ℕ → ℕ) (n : ℕ) (xs : List Memory) → ((j : ℕ) (x : Memory) → get_elem? xs j ≡ some x → get_elem? m.memories (k + j) ≡ some x)
      → (st : State) → Connected m lim st k b n → Stands m st → Meets (Strays m) (λ st'. Connected m lim st' (k + length xs) b n × Passed m st (MemoriesServed xs) st') (connect_memories m false k xs st)
  memories_passed k b n xs f st c s =
      all_passed m (Strays m) m.memories (λ i u. Connected m lim u i b n) (λ i x u. AllServed m u (memory_steps x)) (λ i x u v g h. served_stays g h) (connect_memories m false) no_memory (more_memories b n) k xs f st c s

  -- ---- a register's bits ----

  -- what a refusal of bits b, b + 1, .., w of them, of register k tells
  pub data BitFault (st : State) (k : ℕ) (r : Register) (b w : ℕ) : ℕ → ℕ → ℕ → Type 0 where
    full : {c x y : ℕ} → Limit c x y → BitFault st k r b w c x y
    other : {i : ℕ} (x : Reset) → r.reset ≡ some x → b ≤ i → i < b + w → constant_value st.netlist (whole_net st x.value i) ≡ none → BitFault st k r b w 8 k i

  pub same_constant : {st st' : State} → Pushed st st' → (e i : ℕ) → constant_value st'.netlist (whole_net st' e i) ≡ constant_value st.netlist (whole_net st e i)
  unfolding constant_value node_for_net whole_net whole_nets whole
  same_constant {st} p e i =
      ap (λ (x : State). constant_value x.netlist (whole_net x e i)) p.is
      ∙ ap (λ (xs : List Node). constant_of (cond (ltb (whole_net st e i) (length xs)) (get_or xs (length xs - suc (whole_net st e i)) (gate absent absent absent absent)) (gate absent absent absent absent))) p.nodes

  later_fault : {st st' : State} {k : ℕ} {r : Register} {b w c x y : ℕ} → Pushed st st' → BitFault st' k r (suc b) w c x y → BitFault st k r b (suc w) c x y
  later_fault p (full l) = full l
  later_fault p (other {i} x e u v n) = other {i = i} x e (omega arith) (omega arith) (sym (same_constant p x.value i) ∙ n)

  pub bit_pushed : (k : ℕ) (r : Register) (b w : ℕ) (st : State) → Meets (BitFault st k r b (suc w)) (Pushed st) (register_bit r.reset k r b st)
  bit_pushed k r b w st = go r.reset refl
    where
      full_or : (q : Option Reset) → Meets (BitFault st k r b (suc w)) (Pushed st) (push_register k r b st q)
      full_or q = meets_map Limit (BitFault st k r b (suc w)) (Pushed st) (Pushed st) (push_register k r b st q) (push_pushed _ st) (λ c x y h. full h) (λ st' h. h)

      constant : (x : Reset) → r.reset ≡ some x → (o : Option Bool) → constant_value st.netlist (whole_net st x.value b) ≡ o → Meets (BitFault st k r b (suc w)) (Pushed st) (reset_by o k r b st x)
      constant x e none n = other {i = b} x e (omega arith) (omega arith) n
      constant x e (some v) n = full_or (some (record { control = net_control st x.control; asynchronous = x.asynchronous; value = bit_word v }))

      go : (o : Option Reset) → r.reset ≡ o → Meets (BitFault st k r b (suc w)) (Pushed st) (register_bit o k r b st)
      go none e = full_or none
      go (some x) e = constant x e (constant_value st.netlist (whole_net st x.value b)) refl

  bits_pushed : (k : ℕ) (r : Register) (w b : ℕ) (st : State) → Meets (BitFault st k r b w) (Pushed st) (register_bits k r b w st)
  unfolding register_bits
  bits_pushed k r zero b st = pushed_refl st
  bits_pushed k r (suc w) b st =
      meets_bind (BitFault st k r b (suc w)) (Pushed st) (Pushed st) (register_bit r.reset k r b st) _ (bit_pushed k r b w st) (λ st₁ p.
      meets_map (BitFault st₁ k r (suc b) w) (BitFault st k r b (suc w)) (Pushed st₁) (Pushed st) (register_bits k r (suc b) w st₁) (bits_pushed k r w (suc b) st₁) (λ c x y h. later_fault p h)
      (λ st₂ q. pushed_trans p q))

  -- ---- registers ----

  -- a refusal of the whole lowering
  pub data Faults : ℕ → ℕ → ℕ → Type 0 where
    stray : {c x y : ℕ} → Strays m c x y → Faults c x y
    other : {k b : ℕ} → NotConstant m k b → Faults 8 k b

  abbrev pub RegistersServed : List Register → State → Type 0
  RegistersServed rs st = (j : ℕ) (r : Register) → get_elem? rs j ≡ some r → AllServed m st (register_steps r)

  -- all memories and the registers before k are connected
  pub record Until (j k : ℕ) (st : State) : Type 0 where
    pub bits : ℕ → ℕ
    pub connected : Connected m lim st j bits 0
    pub rest : (x : ℕ) → k ≤ x → bits x ≡ 0
    pub come : before m lim.0 lim.1 k ≡ done st

  at_wide : (ns : List ℕ) (i : ℕ) → i < length ns → get_elem? ns i ≡ some (get_or ns i absent)
  at_wide [] i h = absurd (not-suc-le-zero h)
  at_wide (n ∷ ns) zero h = refl
  at_wide (n ∷ ns) (suc i) h = at_wide ns i (le_of_suc-le-suc h)

  at_net : (st : State) (e i : ℕ) → i < length (whole_nets st e) → get_elem? (whole_nets st e) i ≡ some (whole_net st e i)
  unfolding whole_net
  at_net st e i h = at_wide (whole_nets st e) i h

  -- the reset value is lowered whole
  reset_whole : (r : Register) (st : State) → AllServed m st (register_steps r) → (z : Reset) → r.reset ≡ some z → Has (whole st z.value)
  reset_whole r st h z f = subst (λ (o : Option Reset). AllGot st (wholes (r.next ∷ []) ++ bit_step r.clock ++ control_steps r.enable ++ reset_steps o) → Has (whole st z.value)) (sym f)
      (λ g. (got_split st (wholes (r.next ∷ []) ++ bit_step r.clock ++ control_steps r.enable) (reset_steps (some z)) g).1.0) h.got

  -- ---- the registers before one more ----

  then_then : (o : Out State) (g f f' h : State → Out State) → ((st : State) → f st ≡ and_then (f' st) h) → and_then o (λ a. and_then (g a) f) ≡ and_then (and_then o (λ a. and_then (g a) f')) h
  then_then (refused c x y) g f f' h e = refl
  then_then (done a) g f f' h e = go (g a)
    where
      go : (o : Out State) → and_then o f ≡ and_then (and_then o f') h
      go (refused c x y) = refl
      go (done b) = e b

  then_done : (o : Out State) → and_then o (λ st. done st) ≡ o
  then_done (refused c x y) = refl
  then_done (done a) = refl

  abbrev pub connect_one : ℕ → Register → State → Out State
  connect_one k r st = and_then (lower_all m false (register_steps r) st) (λ st₁. register_bits k r 0 (signal_width m r.target) st₁)

  one_more : (xs : List Register) (k j : ℕ) (r : Register) (st : State) → k + length xs ≡ j
      → connect_registers m false k (xs ++ (r ∷ [])) st ≡ and_then (connect_registers m false k xs st) (connect_one j r)
  unfolding connect_registers
  one_more [] k j r st e =
      let z : k ≡ j = omega arith in
      rw z (ap (and_then (lower_all m false (register_steps r) st)) {x = λ st₁. and_then (register_bits j r 0 (signal_width m r.target) st₁) (λ st₂. done st₂)} {y = λ st₁. register_bits j r 0 (signal_width m r.target) st₁}
      (fun_ext (λ st₁. then_done (register_bits j r 0 (signal_width m r.target) st₁))))
  one_more (x ∷ xs) k j r st e =
      then_then (lower_all m false (register_steps x) st) (λ st₁. register_bits k x 0 (signal_width m x.target) st₁) (λ st₂. connect_registers m false (suc k) (xs ++ (r ∷ [])) st₂)
      (λ st₂. connect_registers m false (suc k) xs st₂) (connect_one j r) (λ st₁. one_more xs (suc k) j r st₁ (omega arith))

  take_more : {A : Type 0} (xs : List A) (k : ℕ) (x : A) → get_elem? xs k ≡ some x → (take (suc k) xs ≡ take k xs ++ (x ∷ [])) × (length (take k xs) ≡ k)
  take_more [] k x e = absurd (none_some e)
  take_more (y ∷ xs) zero x e = let q : y ≡ x = cc in (rw q, refl)
  take_more (y ∷ xs) (suc k) x e = let r = take_more xs k x e in (ap (λ (zs : List _). y ∷ zs) r.0, ap suc r.1)

  pub before_more : (k : ℕ) (r : Register) → get_elem? m.registers k ≡ some r → before m lim.0 lim.1 (suc k) ≡ and_then (before m lim.0 lim.1 k) (connect_one k r)
  unfolding before
  before_more k r e =
      let t = take_more m.registers k r e in
      let z : 0 + length (take k m.registers) ≡ k = omega (arith, t.1) in
      rw t.0 (then_then (reserve_sources m (start m lim.0 lim.1)) (λ a. connect_memories m false 0 m.memories a) (λ b. connect_registers m false 0 (take k m.registers ++ (r ∷ [])) b)
      (λ b. connect_registers m false 0 (take k m.registers) b) (connect_one k r) (λ st'. one_more (take k m.registers) 0 k r st' z))

  come_more : (k : ℕ) (r : Register) → get_elem? m.registers k ≡ some r → (st st₁ st₂ : State) → before m lim.0 lim.1 k ≡ done st → lower_all m false (register_steps r) st ≡ done st₁
      → register_bits k r 0 (signal_width m r.target) st₁ ≡ done st₂ → before m lim.0 lim.1 (suc k) ≡ done st₂
  come_more k r e st st₁ st₂ p q w =
      before_more k r e ∙ ap (λ (o : Out State). and_then o (connect_one k r)) p ∙ ap (λ (o : Out State). and_then o (λ st'. register_bits k r 0 (signal_width m r.target) st')) q ∙ w

  register_one : (j k : ℕ) (r : Register) → get_elem? m.registers k ≡ some r → (st : State) → Until j k st → Stands m st
      → Meets Faults (λ st'. Until j (suc k) st' × Passed m st (λ st''. AllServed m st'' (register_steps r)) st')
      (and_then (lower_all m false (register_steps r) st) (λ st₁. register_bits k r 0 (signal_width m r.target) st₁))
  register_one j k r e st u s =
      meets_bind Faults (λ st₁. LoweredTo m st (register_steps r) st₁ × (lower_all m false (register_steps r) st ≡ done st₁)) _ (lower_all m false (register_steps r) st) _
      (meets_map (Strays m) Faults (λ st₁. LoweredTo m st (register_steps r) st₁ × (lower_all m false (register_steps r) st ≡ done st₁)) _ (lower_all m false (register_steps r) st)
      (named (Strays m) (LoweredTo m st (register_steps r)) (lower_all m false (register_steps r) st) (all_lowered m good within (register_steps r) st u.connected.inv s (register_starting m good within k r e)))
      (λ c x y h. stray h) (λ st₁ h. h)) (λ st₁ q.
      let w = signal_width m r.target in
      let c₁ = connected_grew u.connected q.0.walked.inv q.0.walked.grew in
      let d = bits_run m good false lim k r e w 0 j 0 u.bits st₁ (u.rest k (omega arith)) (omega arith) c₁ q.0.walked.post in
      let p = named Faults (Pushed st₁) (register_bits k r 0 w st₁) (meets_map (BitFault st₁ k r 0 w) Faults (Pushed st₁) (Pushed st₁) (register_bits k r 0 w st₁) (bits_pushed k r w 0 st₁)
      (λ c x y h. told st₁ q.0 q.1 c x y h) (λ st₂ h. h)) in
      meets_map Faults Faults (λ st₂. Done m good false lim k r e j 0 u.bits (0 + w) st₂ × (Pushed st₁ st₂ × (register_bits k r 0 w st₁ ≡ done st₂))) _ (register_bits k r 0 w st₁)
      (both_meet Any Faults (Done m good false lim k r e j 0 u.bits (0 + w)) (λ st₂. Pushed st₁ st₂ × (register_bits k r 0 w st₁ ≡ done st₂)) (register_bits k r 0 w st₁) d p) (λ c x y h. h)
      (λ st₂ h. (
        record {
          bits = h.0.bits;
          connected = h.0.connected;
          rest = λ x l. h.0.others x (λ z. omega arith) ∙ u.rest x (omega arith);
          come = come_more k r e st st₁ st₂ u.come q.1 h.1.1;
        },
        record {
          stands = pushed_stands m h.1.0 q.0.stands;
          further = further_trans q.0.further (pushed_further h.1.0);
          post = served_stays (pushed_further h.1.0) q.0.served;
        },
      )))
    where
      told : (st₁ : State) → LoweredTo m st (register_steps r) st₁ → lower_all m false (register_steps r) st ≡ done st₁ → (c x y : ℕ) → BitFault st₁ k r 0 (signal_width m r.target) c x y → Faults c x y
      told st₁ q l c x y (full h) = stray (room h)
      told st₁ q l c x y (other {i} z f a b n) =
          let g = (good.registers k r e).reset z f in
          let v = reset_whole r st₁ q.served z f in
          let t = whole_length m st₁ q.walked.inv good.exprs z.value g.0 v in
          other {k = k} {b = i} (record {
            register = r;
            is = e;
            reset = z;
            has = f;
            there = omega arith;
            nets = lim.0;
            words = lim.1;
            so_far = st₁;
            reached = rw u.come l;
            net = whole_net st₁ z.value i;
            its = at_net st₁ z.value i (omega (arith, t, g.1));
            other = n;
          })

  no_register : (k : ℕ) (st : State) → connect_registers m false k [] st ≡ done st
  unfolding connect_registers
  no_register k st = refl

  more_registers : (j : ℕ) (Q : State → Type 0) (k : ℕ) (r : Register) (rs : List Register) (st : State) → get_elem? m.registers k ≡ some r → Until j k st → Stands m st
      → ((st₁ : State) → Until j (suc k) st₁ → Passed m st (λ st''. AllServed m st'' (register_steps r)) st₁ → Meets Faults Q (connect_registers m false (suc k) rs st₁))
      → Meets Faults Q (connect_registers m false k (r ∷ rs) st)
  unfolding connect_registers
  more_registers j Q k r rs st e u s h =
      regroup Faults (λ st'. Until j (suc k) st' × Passed m st (λ st''. AllServed m st'' (register_steps r)) st') Q
      (lower_all m false (register_steps r) st) (λ st₁. register_bits k r 0 (signal_width m r.target) st₁) (λ st₂. connect_registers m false (suc k) rs st₂) (register_one j k r e st u s) (λ st₂ q. h st₂ q.0 q.1)

  pub registers_passed : (j k : ℕ) (rs : List Register) → ((i : ℕ) (r : Register) → get_elem? rs i ≡ some r → get_elem? m.registers (k + i) ≡ some r) → (st : State) → Until j k st → Stands m st
      → Meets Faults (λ st'. Until j (k + length rs) st' × Passed m st (RegistersServed rs) st') (connect_registers m false k rs st)
  registers_passed j k rs f st u s =
      all_passed m Faults m.registers (Until j) (λ i r v. AllServed m v (register_steps r)) (λ i r v w g h. served_stays g h) (connect_registers m false) no_register (more_registers j) k rs f st u s

  -- ---- outputs ----

  abbrev pub OutputsServed : ℕ → List Sig → State → Type 0
  OutputsServed p xs st = (j : ℕ) (x : Sig) → get_elem? xs j ≡ some x → x.dir ≡ R.Output → AllServed m st (signal_steps (p + j) 0 x.width)

  -- signal p, if it is an output
  abbrev OneServed : ℕ → Sig → State → Type 0
  OneServed p x st = x.dir ≡ R.Output → AllServed m st (signal_steps p 0 x.width)

  output_one : (p k : ℕ) (f : ℕ → ℕ) (x : Sig) → get_elem? m.signals p ≡ some x → (st : State) → Connected m lim st k f p → Stands m st
      → Meets (Strays m) (λ st'. Connected m lim st' k f (suc p) × Passed m st (OneServed p x) st') (connect_output m false x.dir p x.width st)
  output_one p k f x e st c s = go x.dir refl
    where
      is : get_or m.signals p (record { width = 0; dir = R.Internal }) ≡ x
      is = got m.signals p x (record { width = 0; dir = R.Internal }) e

      wide : signal_width m p ≡ x.width
      wide = ap (λ (y : Sig). y.width) is

      none_served : (x.dir ≡ R.Output → ⊥) → Connected m lim st k f (suc p) × Passed m st (OneServed p x) st
      none_served d = (no_output m good false lim p k f st (λ z. d (sym (ap (λ (y : Sig). y.dir) is) ∙ z)) c, record { stands = s; further = further_refl; post = λ z. absurd (d z) })

      port : (st₁ : State) → LoweredTo m st (signal_steps p 0 x.width) st₁ → x.dir ≡ R.Output
          → Meets (Strays m) (λ st'. Connected m lim st' k f (suc p) × Passed m st (OneServed p x) st') (and_then (add_output_port p (signal_nets st₁ p 0 x.width) st₁.netlist) (λ (ns, l). done (with_netlist st₁ l)))
      port st₁ q d =
          let c₁ = connected_grew c q.walked.inv q.walked.grew in
          let a = subst (λ (w : ℕ). AllAfter false st₁ (signal_steps p 0 w)) (sym wide) q.walked.post in
          both_meet Any (Strays m) (λ st'. Connected m lim st' k f (suc p)) (Passed m st (OneServed p x)) (and_then (add_output_port p (signal_nets st₁ p 0 x.width) st₁.netlist) (λ (ns, l). done (with_netlist st₁ l)))
          (subst (λ (w : ℕ). Meets Any (λ st'. Connected m lim st' k f (suc p)) (and_then (add_output_port p (signal_nets st₁ p 0 w) st₁.netlist) (λ (ns, l). done (with_netlist st₁ l)))) wide
          (port_run m good false lim p k f st₁ (ap (λ (y : Sig). y.dir) is ∙ d) c₁ a))
          (made (add_output_port p (signal_nets st₁ p 0 x.width) st₁.netlist) (output_room p (signal_nets st₁ p 0 x.width) st₁.netlist))
        where
          made : (o : Made (List ℕ)) → Roomy o → Meets (Strays m) (Passed m st (OneServed p x)) (and_then o (λ (ns, l). done (with_netlist st₁ l)))
          made (refused y z w) h = room (refused_by_law h y z w refl)
          made (done r) h = record {
            stands = stands_netlist m st₁ r.1 q.stands;
            further = further_trans q.further (further_netlist st₁ r.1);
            post = λ z. served_stays (further_netlist st₁ r.1) q.served;
          }

      go : (d : Dir) → x.dir ≡ d → Meets (Strays m) (λ st'. Connected m lim st' k f (suc p) × Passed m st (OneServed p x) st') (connect_output m false d p x.width st)
      go R.Internal d = none_served (λ z. let y : ◌≡◌ {A = ℕ} 0 1 = cc in omega arith)
      go R.Input d = none_served (λ z. let y : ◌≡◌ {A = ℕ} 0 1 = cc in omega arith)
      go R.Output d =
          meets_bind (Strays m) (LoweredTo m st (signal_steps p 0 x.width)) (λ st'. Connected m lim st' k f (suc p) × Passed m st (OneServed p x) st') (lower_all m false (signal_steps p 0 x.width) st) _
          (all_lowered m good within (signal_steps p 0 x.width) st c.inv s (output_starting m good within p x e d wide)) (λ st₁ q. port st₁ q d)

  no_output_left : (p : ℕ) (st : State) → connect_outputs m false p [] st ≡ done st
  unfolding connect_outputs
  no_output_left p st = refl

  more_outputs : (k : ℕ) (f : ℕ → ℕ) (Q : State → Type 0) (p : ℕ) (x : Sig) (xs : List Sig) (st : State) → get_elem? m.signals p ≡ some x → Connected m lim st k f p → Stands m st
      → ((st₁ : State) → Connected m lim st₁ k f (suc p) → Passed m st (OneServed p x) st₁ → Meets (Strays m) Q (connect_outputs m false (suc p) xs st₁))
      → Meets (Strays m) Q (connect_outputs m false p (x ∷ xs) st)
  unfolding connect_outputs
  more_outputs k f Q p x xs st e c s h =
      meets_bind (Strays m) (λ st'. Connected m lim st' k f (suc p) × Passed m st (OneServed p x) st') Q (connect_output m false x.dir p x.width st) _ (output_one p k f x e st c s) (λ st₁ q. h st₁ q.0 q.1)

  pub outputs_passed : (p k : ℕ) (f : ℕ → ℕ) (xs : List Sig) → ((j : ℕ) (x : Sig) → get_elem? xs j ≡ some x → get_elem? m.signals (p + j) ≡ some x) → (st : State)
      → Connected m lim st k f p → Stands m st → Meets (Strays m) (λ st'. Connected m lim st' k f (p + length xs) × Passed m st (OutputsServed p xs) st') (connect_outputs m false p xs st)
  outputs_passed p k f xs g st c s =
      all_passed m (Strays m) m.signals (λ i u. Connected m lim u k f i) OneServed (λ i x u v r h d. served_stays r (h d)) (connect_outputs m false) no_output_left (more_outputs k f) p xs g st c s
