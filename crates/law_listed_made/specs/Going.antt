-- From reserved sources on: what holds of the state, that the walk keeps it, and a register's record pushed. Assumes nothing.
use Prim.Native.Nat.{ℕ, zero, suc, ◌+◌, ◌≤◌, ◌<◌}
use native.Mathlib.Omega.{arith}
use Rattle.std.proofs.Common.{inl, inr, sym, ap, ◌∙◌}
use Rattle.std.specs.Prelude.{◌≡◌, refl, Bool, true, false, get_or}
use mathlib.Core.List.{List, [], ◌∷◌, ◌++◌}
use Rattle.std.proofs.Math.Option.{Option, none, some}
use Rattle.std.proofs.Math.ListN.{length, get_elem?}
use Rattle.spec_rtl.specs.Rtl.{Module, Control, Reset, Register}
use Rattle.spec_model.specs.Words.{Netlist, absent, bit_word, low_word, control_words, reset_words}
use Rattle.spec_model.specs.Builder.{Out, refused, done, node_for_net, constant_value}
use Rattle.spec_model.specs.Lowering.{State, Step, cell, with_netlist, signal_width, signal_bit, signal_net, whole_net, whole_nets, net_control, option_control, wholes, bit_step, control_steps, reset_steps, register_steps, push_register, reset_by, register_bit, register_bits, connect_registers, lower_all}
use Rattle.net_view.specs.Formed.{formed_register}
use Rattle.net_view.specs.Laws.{with_record}
use Rattle.law_nets.specs.Sound.{count, Later}
use Rattle.law_nets.specs.Run.{Meets}
use Rattle.law_nets.specs.Nodes.{with_same}
use Rattle.law_gates.specs.Added.{grew_record}
use Rattle.law_walk.specs.Good.{Good}
use Rattle.law_walk.specs.Kept.{Any, Inv, more_refl}
use Rattle.law_walk.specs.Writes.{inv_netlist}
use Rattle.law_walk.specs.Reads.{AllAsked, AllAfter, below_at}
use Rattle.law_walk.proofs.ReadsLaws.{whole_length}
use Rattle.law_walk.proofs.ReadsLaws.{read_whole}
use Rattle.law_walk.proofs.Walk.{all_walk}
use Rattle.law_phases.specs.Supply.{supply}
use Rattle.law_phases.specs.Pushed.{after_append, all_after_netlist, bit_is, pushed}
use Rattle.law_phases.specs.Sources.{inside}
use Rattle.law_phases.specs.Registers.{steps_asked, words_long, bits_of}
use Rattle.law_owners.specs.Ends.{Ends, ends_done, ends_refused, ends_then}
use Rattle.law_listed.specs.Listed.{sort_of, Own, Level, RegisterRecord, MemoryRecord, records}
use Rattle.spec_netlist.specs.Accept.{own_nets}
use Rattle.law_listed_walk.specs.Shape.{Fine, fine_from, fine_loose}
use Rattle.law_listed_walk.specs.Walked.{ends_both, all_fine}
use Rattle.law_listed_made.specs.Place.{Bounds, Source, Seat, Made, Ports, Registers, Memories, base, base_more, signal_of, bit_of, bits}
use Rattle.law_listed_made.specs.Grow.{ports_same, registers_same, memories_same, made_later, seats_later}
use Rattle.law_listed_made.specs.Pushes.{registers_pushed, memories_pushed}
use Rattle.law_listed_made.specs.Rows.{fine_record}
use Rattle.law_listed_made.specs.Reserved.{ends_map}

-- ps ports, rs bits of registers and ms memories have their records
pub record Going (m : Module) (ps rs ms : ℕ) (st : State) : Type 0 where
  pub inv : Inv m st
  pub fine : Fine st.netlist.max_nets st.netlist
  pub seats : (k : ℕ) → k < count st.netlist → Source (node_for_net st.netlist k).kind → Seat m st k (node_for_net st.netlist k)
  pub made : (o b : ℕ) → b < bits_of m o → Made m st 7 o b
  pub stored : (o b : ℕ) → b < bits m 9 o → Made m st 9 o b
  pub ports : Ports m st.netlist
  pub port_count : records st.netlist 0 ≡ ps
  pub registers : Registers m st.netlist
  pub register_count : records st.netlist 1 ≡ rs
  pub memories : Memories m st.netlist
  pub memory_count : records st.netlist 2 ≡ ms

pub meets_ends : {A : Type 0} {P : A → Type 0} (o : Out A) → Meets Any P o → Ends P o
meets_ends (refused n x y) h = ends_refused
meets_ends (done a) h = ends_done h

loose_source : (k : ℕ) → 3 ≤ sort_of k → Source k → ⊥
loose_source k h (inl e) = let z : sort_of k ≡ 1 = ap sort_of e in omega arith
loose_source k h (inr e) = let z : sort_of k ≡ 2 = ap sort_of e in omega arith

module _ (m : Module) (good : Good m) (bound : Bounds m) (ob : Bool) where
  pub going_walk : (ps rs ms : ℕ) (ss : List Step) (st : State) → AllAsked m ss → Going m ps rs ms st → Ends (λ st'. Going m ps rs ms st' × AllAfter ob st' ss) (lower_all m ob ss st)
  going_walk ps rs ms ss st a c =
      let n = count st.netlist in
      let w = all_walk supply m good ob ss st c.inv a in
      let f = all_fine n m good bound.exprs ob ss st c.inv a (fine_from n (omega arith) c.fine) in
      ends_map (lower_all m ob ss st) (ends_both (lower_all m ob ss st) w f) (λ st' q.
      let k = q.0 in
      let g = k.grew.later.grew in
      let e = k.grew.cells.cells in
      let new : (j : ℕ) → n ≤ j → j < count st'.netlist → 3 ≤ sort_of (node_for_net st'.netlist j).kind = λ j h i. fine_loose q.1 j i h in (
        record {
          inv = k.inv;
          fine = fine_from st'.netlist.max_nets k.inv.sound.few q.1;
          seats = seats_later {m = m} {st = st} {st' = st'} g k.grew.more (λ j h i s. absurd (loose_source _ (new j h i) s)) c.seats;
          made = λ o b h. made_later {st = st} {st' = st'} g k.grew.more (c.made o b h);
          stored = λ o b h. made_later {st = st} {st' = st'} g k.grew.more (c.stored o b h);
          ports = ports_same g m (e 0 (omega arith)) (λ j h i z. let u = new j h i in omega arith) c.ports;
          port_count = ap length (e 0 (omega arith)) ∙ c.port_count;
          registers = registers_same g m (e 1 (omega arith)) c.registers;
          register_count = ap length (e 1 (omega arith)) ∙ c.register_count;
          memories = memories_same g m (e 2 (omega arith)) c.memories;
          memory_count = ap length (e 2 (omega arith)) ∙ c.memory_count;
        },
        k.post,
      ))

  -- ---- a record of a register or a memory ----

  module _ (ps rs ms : ℕ) (st : State) (c : Going m ps rs ms st) (r : List ℕ) (a : Later st.netlist (with_record r st.netlist)) where
    abbrev l : Netlist
    l = st.netlist

    abbrev st' : State
    st' = with_netlist st (with_record r st.netlist)

    record Others : Type 0 where
      pub inv : Inv m st'
      pub fine : Fine l.max_nets (with_record r l)
      pub seats : (k : ℕ) → k < count l → Source (node_for_net (with_record r l) k).kind → Seat m st' k (node_for_net (with_record r l) k)
      pub made : (o b : ℕ) → b < bits_of m o → Made m st' 7 o b
      pub stored : (o b : ℕ) → b < bits m 9 o → Made m st' 9 o b

    others : get_or r 0 0 < 3 → Others
    others s =
        let g = grew_record r l in
        record {
          inv = inv_netlist m st (with_record r l) c.inv a;
          fine = fine_record l.max_nets r l (record { least = λ z. absurd (omega arith); most = λ z. absurd (omega arith) }) c.fine;
          seats = seats_later {m = m} {st = st} {st' = st'} g more_refl (λ k h i s. absurd (omega arith)) c.seats;
          made = λ o b h. made_later {st = st} {st' = st'} g more_refl (c.made o b h);
          stored = λ o b h. made_later {st = st} {st' = st'} g more_refl (c.stored o b h);
        }

    pub going_register : get_or r 0 0 ≡ 1 → RegisterRecord l r → base m (get_or r 1 0) + get_or r 2 0 ≡ rs → get_or r 2 0 < bits_of m (get_or r 1 0) → Going m ps (suc rs) ms st'
    going_register t q e b =
        let g = grew_record r l in
        let o = others (omega arith) in
        let p = registers_pushed m r l t q (e ∙ sym c.register_count) b c.registers in
        let e0 = with_same 0 l.records r (λ z. omega arith) in
        let e2 = with_same 2 l.records r (λ z. omega arith) in
        record {
          inv = o.inv;
          fine = o.fine;
          seats = o.seats;
          made = o.made;
          stored = o.stored;
          ports = ports_same g m e0 (λ k h i z. absurd (omega arith)) c.ports;
          port_count = ap length e0 ∙ c.port_count;
          registers = p.0;
          register_count = p.1 ∙ ap suc c.register_count;
          memories = memories_same g m e2 c.memories;
          memory_count = ap length e2 ∙ c.memory_count;
        }

    pub going_memory : get_or r 0 0 ≡ 2 → MemoryRecord l r → get_or r 1 0 ≡ ms → length (own_nets r) ≡ bits m 9 ms → Going m ps rs (suc ms) st'
    going_memory t q e b =
        let g = grew_record r l in
        let o = others (omega arith) in
        let d = c.memory_count in
        let p = memories_pushed m r l t q (e ∙ sym d) (b ∙ ap (bits m 9) (sym d)) c.memories in
        let e0 = with_same 0 l.records r (λ z. omega arith) in
        let e1 = with_same 1 l.records r (λ z. omega arith) in
        record {
          inv = o.inv;
          fine = o.fine;
          seats = o.seats;
          made = o.made;
          stored = o.stored;
          ports = ports_same g m e0 (λ k h i z. absurd (omega arith)) c.ports;
          port_count = ap length e0 ∙ c.port_count;
          registers = registers_same g m e1 c.registers;
          register_count = ap length e1 ∙ c.register_count;
          memories = p.0;
          memory_count = p.1 ∙ ap suc c.memory_count;
        }

-- ---- the words of a register's record ----

pub low_small : (b : Bool) → low_word b ≤ 1
low_small true = omega arith
low_small false = omega arith

pub bit_small : (b : Bool) → bit_word b ≤ 1
bit_small true = omega arith
bit_small false = omega arith

abbrev pub ControlThere : Netlist → Option Control → Type 0
ControlThere l none = Unit {0}
ControlThere l (some c) = c.signal < count l

abbrev ResetThere : Netlist → Option Reset → Type 0
ResetThere l none = Unit {0}
ResetThere l (some r) = (r.control.signal < count l) × (r.value ≤ 1)

pub there_level : (l : Netlist) (x v : ℕ) → count l ≤ absent → x < count l → v ≤ 1 → Level x v
there_level l x v s h k = record { none = λ e. absurd (omega arith); some = k }

pub none_level : Level absent 0
none_level = record { none = λ e. refl; some = omega arith }

register_words : (l : Netlist) → count l ≤ absent → (k b x n c e : ℕ) (o : Option Control) (q : Option Reset) → k ≤ 255 → b ≤ 1023 → Own l x 7 k b → n < count l → c < count l → e ≤ 1
    → ControlThere l o → ResetThere l q → RegisterRecord l (1 ∷ k ∷ b ∷ x ∷ n ∷ c ∷ e ∷ (control_words o ++ reset_words q))
register_words l s k b x n c e none none h1 h2 w p u v ho hq = record {
  index = h1;
  bit = h2;
  long = refl;
  own = w;
  next = p;
  clock = u;
  edge = v;
  enable = inl refl;
  enable_level = none_level;
  reset = inl refl;
  reset_level = none_level;
  mode = none_level;
  value = none_level;
}
register_words l s k b x n c e none (some r) h1 h2 w p u v ho hq = record {
  index = h1;
  bit = h2;
  long = refl;
  own = w;
  next = p;
  clock = u;
  edge = v;
  enable = inl refl;
  enable_level = none_level;
  reset = inr hq.0;
  reset_level = there_level l _ _ s hq.0 (low_small r.control.level);
  mode = there_level l _ _ s hq.0 (bit_small r.asynchronous);
  value = there_level l _ _ s hq.0 hq.1;
}
register_words l s k b x n c e (some d) none h1 h2 w p u v ho hq = record {
  index = h1;
  bit = h2;
  long = refl;
  own = w;
  next = p;
  clock = u;
  edge = v;
  enable = inr ho;
  enable_level = there_level l _ _ s ho (low_small d.level);
  reset = inl refl;
  reset_level = none_level;
  mode = none_level;
  value = none_level;
}
register_words l s k b x n c e (some d) (some r) h1 h2 w p u v ho hq = record {
  index = h1;
  bit = h2;
  long = refl;
  own = w;
  next = p;
  clock = u;
  edge = v;
  enable = inr ho;
  enable_level = there_level l _ _ s ho (low_small d.level);
  reset = inr hq.0;
  reset_level = there_level l _ _ s hq.0 (low_small r.control.level);
  mode = there_level l _ _ s hq.0 (bit_small r.asynchronous);
  value = there_level l _ _ s hq.0 hq.1;
}

pub control_here : (m : Module) (ob : Bool) (st : State) → Inv m st → (o : Option Control) → AllAfter ob st (control_steps o) → ControlThere st.netlist (option_control st o)
control_here m ob st i none h = tt
control_here m ob st i (some c) h = (bit_is m ob st i c.signal h.0).there.0

net_is : (st : State) (s b n : ℕ) → cell none st.signal_bits s b ≡ some n → signal_net st s b ≡ n
unfolding signal_net signal_bit
net_is st s b n e = rw e

-- the net of a signal's bit is the node that was made for it
pub own_net : (m : Module) (st : State) (s i k o b : ℕ) → signal_of m k o b ≡ s → bit_of m k o b ≡ i → Made m st k o b → Own st.netlist (signal_net st s i) k o b
own_net m st s i k o b p q h = rw (net_is st s i h.net (rw (p, q) at h.here)) h.own

module _ (m : Module) (good : Good m) (bound : Bounds m) (ob : Bool) where
  module _ (ps ms k : ℕ) (r : Register) (at : get_elem? m.registers k ≡ some r) where
    abbrev Then : ℕ → State → Type 0
    Then b st = Going m ps (base m k + b) ms st × AllAfter ob st (register_steps r)

    module _ (b : ℕ) (fits : b < signal_width m r.target) (st : State) (c : Then b st) where
      i : Inv m st
      i = c.0.inv

      after : AllAfter ob st (wholes (r.next ∷ []) ++ bit_step r.clock ++ control_steps r.enable) × AllAfter ob st (reset_steps r.reset)
      after = after_append ob st (wholes (r.next ∷ []) ++ bit_step r.clock ++ control_steps r.enable) (reset_steps r.reset) c.1

      after₂ : AllAfter ob st (wholes (r.next ∷ []) ++ bit_step r.clock) × AllAfter ob st (control_steps r.enable)
      after₂ = after_append ob st (wholes (r.next ∷ []) ++ bit_step r.clock) (control_steps r.enable) after.0

      next_there : whole_net st r.next b < count st.netlist
      unfolding whole_net
      next_there =
          let g = good.registers k r at in
          let h = after₂.0.0 in
          let z = whole_length m st i good.exprs r.next g.next h in
          let y = g.wide in
          below_at (count st.netlist) (whole_nets st r.next) b absent (omega arith) (read_whole m st i r.next h).there

      push_one : (q : Option Reset) → ResetThere st.netlist q → Ends (Then (suc b)) (push_register k r b st q)
      push_one q hq =
          let o = option_control st r.enable in
          let v : List ℕ = 1 ∷ k ∷ b ∷ signal_net st r.target b ∷ whole_net st r.next b ∷ signal_net st r.clock 0 ∷ low_word r.rising ∷ (control_words o ++ reset_words q) in
          let s = i.sound in
          let small : count st.netlist ≤ absent = (let s0 = s.few in let s1 = s.small in omega arith) in
          let j = inside m.registers k r at in
          let n = bound.registers in
          let w = bound.widths r.target in
          let wide : bits_of m k ≡ signal_width m r.target = rw at in
          let bit : b < bits_of m k = omega arith in
          let rec = register_words st.netlist small k b (signal_net st r.target b) (whole_net st r.next b) (signal_net st r.clock 0) (low_word r.rising) o q (omega arith) (omega arith)
          (own_net m st r.target b 7 k b (rw at) refl (c.0.made k b bit)) next_there (bit_is m ob st i r.clock after₂.0.1.0).there.0 (low_small r.rising)
          (control_here m ob st i r.enable after₂.1) hq in
          meets_ends _ (pushed (Then (suc b)) v st s (formed_register _ (words_long k b (signal_net st r.target b) (whole_net st r.next b) (signal_net st r.clock 0) (low_word r.rising) o q)) (omega arith) (omega arith)
          (λ a. (
            let z : base m k + suc b ≡ suc (base m k + b) = omega arith in rw z (going_register m good bound ob ps (base m k + b) ms st c.0 v a refl rec refl bit),
            all_after_netlist ob st (with_record v st.netlist) s a (register_steps r) c.1,
          )))

      reset_one : (x : Reset) → r.reset ≡ some x → (o : Option Bool) → Ends (Then (suc b)) (reset_by o k r b st x)
      reset_one x e none = ends_refused
      reset_one x e (some v) =
          let y : AllAfter ob st (reset_steps (some x)) = rw e at after.1 in
          push_one (some (record { control = net_control st x.control; asynchronous = x.asynchronous; value = bit_word v })) ((bit_is m ob st i x.control.signal y.1.0).there.0, bit_small v)

      bit_one : Ends (Then (suc b)) (register_bit r.reset k r b st)
      bit_one = go r.reset refl
        where
          go : (o : Option Reset) → r.reset ≡ o → Ends (Then (suc b)) (register_bit o k r b st)
          go none e = push_one none tt
          go (some x) e = reset_one x e (constant_value st.netlist (whole_net st x.value b))

    bits_all : (w b : ℕ) → b + w ≤ signal_width m r.target → (st : State) → Then b st → Ends (Then (b + w)) (register_bits k r b w st)
    unfolding register_bits
    bits_all zero b h st c = let z : b ≡ b + 0 = omega arith in ends_done (rw (← z) c)
    bits_all (suc w) b h st c =
        let z : b + suc w ≡ suc b + w = omega arith in
        rw z (ends_then (register_bit r.reset k r b st) (bit_one b (omega arith) st c) (λ st₁ c₁. bits_all w (suc b) (omega arith) st₁ c₁))

  pub registers_all : (ps ms k : ℕ) (rs : List Register) → ((j : ℕ) (r : Register) → get_elem? rs j ≡ some r → get_elem? m.registers (k + j) ≡ some r) → (st : State)
      → Going m ps (base m k) ms st → Ends (Going m ps (base m (k + length rs)) ms) (connect_registers m ob k rs st)
  unfolding connect_registers
  registers_all ps ms k [] f st c = let z : k ≡ k + 0 = omega arith in ends_done (rw (← z) c)
  registers_all ps ms k (r ∷ rs) f st c =
      let z : k + suc (length rs) ≡ suc k + length rs = omega arith in
      let at : get_elem? m.registers k ≡ some r = let y : k + 0 ≡ k = omega arith in rw y at (f 0 r refl) in
      let w = signal_width m r.target in
      let b0 : base m k + 0 ≡ base m k = omega arith in
      let e : base m k + (0 + w) ≡ base m (suc k) = (let u : bits_of m k ≡ w = rw at in let v = base_more m k in omega arith) in
      rw z (ends_then (lower_all m ob (register_steps r) st) (going_walk m good bound ob ps (base m k) ms (register_steps r) st (steps_asked m k r (good.registers k r at)) c) (λ st₁ q.
      ends_then (register_bits k r 0 w st₁) (bits_all ps ms k r at w 0 (omega arith) st₁ (rw b0 q.0, q.1)) (λ st₂ q₂.
      registers_all ps ms (suc k) rs (λ j y e. let v : k + suc j ≡ suc k + j = omega arith in rw v at (f (suc j) y e)) st₂ (rw e at q₂.0))))
