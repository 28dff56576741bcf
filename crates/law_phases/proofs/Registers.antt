-- What is proved of specs/Registers: `connect_registers`: each bit of each register has its record, with the nets of its next value and controls. Assumes nothing.
use Rattle.std.specs.Prelude.{◌≡◌, Bool, eqb, length}
use Rattle.std.proofs.Math.Path.{refl, sym, ap}
use Rattle.std.proofs.Common.{◌∙◌, eq-eqb, ne_eqb}
use Rattle.std.proofs.Math.Bool.{false, cond}
use mathlib.Core.List.{List, [], ◌∷◌, ◌++◌}
use Rattle.std.proofs.Math.Option.{Option, none, some}
use Prim.Native.Nat.{ℕ, zero, suc, ◌+◌, ◌≤◌, ◌<◌}
use Rattle.std.proofs.Math.Decide.{ℕ_discrete, dec_lt}
use native.Mathlib.Omega.{arith}
use Rattle.std.proofs.Math.ListN.{get_or, get_elem?}
use Rattle.spec_rtl.specs.Rtl.{Module, Reset, Register, Valuation, word}
use Rattle.spec_rules.specs.NetlistImage.{register_bit_of}
use Rattle.spec_rules.specs.Step.{Setting, Contents}
use Rattle.spec_model.specs.Words.{Netlist, absent, bit_word, low_word, control_words, reset_words}
use Rattle.spec_model.specs.Builder.{constant_value}
use Rattle.spec_model.specs.Ranges.{width_at}
use Rattle.spec_model.specs.Lowering.{State, whole, signal_width, signal_net, whole_net, whole_nets, net_control, option_control, reset_steps, register_steps, push_register, reset_by, register_bit, register_bits, lower_all, connect_registers}
use Rattle.net_view.specs.Formed.{formed_register}
use Rattle.net_view.specs.Laws.{with_record}
use Rattle.law_nets.specs.Meaning.{net_value}
use Rattle.law_nets.specs.Sound.{count, Later}
use Rattle.law_nets.specs.Run.{Meets, meets_bind, meets_map}
use Rattle.law_gates.specs.Gates.{constant_later}
use Rattle.law_walk.specs.Tables.{Has}
use Rattle.law_walk.specs.Good.{Good, GoodRegister}
use Rattle.law_walk.specs.Kept.{Any, Agrees, more_refl, NetsGive, Inv, WalkedTo}
use Rattle.law_walk.specs.Writes.{inv_netlist}
use Rattle.law_walk.specs.Reads.{AllAfter, below_at, map_at}
use Rattle.law_walk.proofs.ReadsLaws.{whole_length}
use Rattle.law_walk.proofs.ReadsLaws.{read_whole}
use Rattle.law_walk.specs.Gates.{Gates}
use Rattle.law_walk.proofs.Walk.{all_walk}
use Rattle.law_records.specs.Back.{ThereReset, register_back}
use Rattle.law_phases.specs.Made.{limited_later, IsConstant, SameReset, SameBit, Connected}
use Rattle.law_phases.proofs.Made.{bit_later, memories_later, outputs_later, connected_grew, one_bit}
use Rattle.law_phases.specs.Pushed.{all_after_netlist, bit_is, net_there, control_same, control_there, memories_left, registers_one, outputs_left, pushed}
use Rattle.law_phases.specs.Registers.{bit_back, bits_of, ready, steps_asked, words_long}

module _ (m : Module) (good : Good m) (ob : Bool) (lim : ℕ × ℕ) where
  module _ (st : State) (i : Inv m st) (e : ℕ) (here : e < length m.exprs) (h : Has (whole st e)) (b : ℕ) (fits : b < width_at m.exprs e) where
    into : b < length (whole_nets st e)
    into = omega (arith, whole_length m st i good.exprs e here h)

    net_there' : whole_net st e b < count st.netlist
    unfolding whole_net
    net_there' = below_at (count st.netlist) (whole_nets st e) b absent into (read_whole m st i e h).there

    net_value_law : (l : Netlist) → Later st.netlist l → (s : Setting) (c : Contents) (v : Valuation) → Agrees (net_value l s c) v st.signal_bits
        → net_value l s c (whole_net st e b) ≡ get_or (word m.exprs v e) b false
    unfolding whole_net
    net_value_law l a s c v g = sym (map_at (net_value l s c) (whole_nets st e) b absent false into) ∙ ap (λ (w : List Bool). get_or w b false) ((read_whole m st i e h).holds l a s c v g)

    pub net_holds : NetsGive st.netlist st.signal_bits (whole_net st e b ∷ []) (λ v. get_or (word m.exprs v e) b false ∷ [])
    net_holds = record { there = (net_there', tt); holds = λ l a s c v g. rw (net_value_law l a s c v g) }

    pub net_constant : (x : Bool) → constant_value st.netlist (whole_net st e b) ≡ some x → IsConstant m st.netlist st.signal_bits e b (bit_word x)
    net_constant x q = record {
      is = λ l a s c v g.
          sym (net_value_law l a s c v g) ∙ (constant_later st.netlist (whole_net st e b) x net_there' q).is l a s c ∙ sym (bit_back x);
    }

  module _ (k : ℕ) (r : Register) (at : get_elem? m.registers k ≡ some r) where
    abbrev One : ℕ → ℕ → (ℕ → ℕ) → ℕ → State → Type 0
    One j n f b st' = Connected m lim st' j (λ x. cond (eqb x k) (suc b) (f x)) n × AllAfter ob st' (register_steps r)

    module _ (j n : ℕ) (f : ℕ → ℕ) (st : State) (c : Connected m lim st j f n) (h : AllAfter ob st (register_steps r)) (w : f k < signal_width m r.target) where
      g : GoodRegister m k r
      g = good.registers k r at

      -- its next bit, pushed
      bit_pushed : (q : Option Reset) → ThereReset q → SameReset m st.netlist st.signal_bits (f k) r.reset q → Meets Any (One j n f (f k)) (push_register k r (f k) st q)
      bit_pushed q t s =
          let y = ready ob st r h in
          let i = c.inv in
          let o = option_control st r.enable in
          let v : List ℕ = 1 ∷ k ∷ f k ∷ signal_net st r.target (f k) ∷ whole_net st r.next (f k) ∷ signal_net st r.clock 0 ∷ low_word r.rising ∷ (control_words o ++ reset_words q) in
          let back = register_back k (f k) (signal_net st r.target (f k)) (whole_net st r.next (f k)) (signal_net st r.clock 0) r.rising o q
          (control_there m ob st i r.enable y.enable) t in
          let same : SameBit m st.netlist st.signal_bits (f k) r (register_bit_of v) = rw back (record {
            next = net_holds st i r.next g.next y.next (f k) (omega (arith, g.wide));
            clock = bit_is m ob st i r.clock y.clock.0;
            rising = refl;
            enable = control_same m ob st i r.enable y.enable;
            reset = s;
          }) in
          pushed (One j n f (f k)) v st i.sound (formed_register _ (words_long k (f k) (signal_net st r.target (f k)) (whole_net st r.next (f k)) (signal_net st r.clock 0) (low_word r.rising) o q)) (omega arith) (omega arith) (λ a. (
            record {
              limited = limited_later lim a c.limited;
              inv = inv_netlist m st (with_record v st.netlist) i a;
              memories = memories_later a more_refl (memories_left v st.netlist (λ z. omega arith)) c.memories;
              registers = one_bit m st.netlist (with_record v st.netlist) st.signal_bits a k r (register_bit_of v) f at (rw back) (rw back)
                  (bit_later m a more_refl (f k) r (register_bit_of v) same) (registers_one v st.netlist refl) c.registers;
              outputs = outputs_later a more_refl (outputs_left v st.netlist a i.sound (λ z. omega arith)) c.outputs;
            },
            all_after_netlist ob st (with_record v st.netlist) i.sound a (register_steps r) h,
          ))

      reset_run : (x : Reset) → r.reset ≡ some x → (o : Option Bool) → constant_value st.netlist (whole_net st x.value (f k)) ≡ o → Meets Any (One j n f (f k)) (reset_by o k r (f k) st x)
      reset_run x e none q = tt
      reset_run x e (some v) q =
          let y : AllAfter ob st (reset_steps (some x)) = rw e at (ready ob st r h).reset in
          let z = g.reset x e in
          bit_pushed (some (record { control = net_control st x.control; asynchronous = x.asynchronous; value = bit_word v }))
          (net_there m ob st c.inv x.control.signal y.1.0)
          (rw e (bit_is m ob st c.inv x.control.signal y.1.0, refl, refl, net_constant st c.inv x.value z.0 y.0 (f k) (omega (arith, z.1)) v q))

      bit_run : Meets Any (One j n f (f k)) (register_bit r.reset k r (f k) st)
      bit_run = go r.reset refl
        where
          go : (o : Option Reset) → r.reset ≡ o → Meets Any (One j n f (f k)) (register_bit o k r (f k) st)
          go none e = bit_pushed none tt (rw e tt)
          go (some x) e = reset_run x e (constant_value st.netlist (whole_net st x.value (f k))) refl

    -- its first e bits are done, and no other register's
    pub record Done (j n : ℕ) (f : ℕ → ℕ) (e : ℕ) (st : State) : Type 0 where
      pub bits : ℕ → ℕ
      pub connected : Connected m lim st j bits n
      pub here : bits k ≡ e
      pub others : (x : ℕ) → (x ≡ k → ⊥) → bits x ≡ f x

    pub bits_run : (w b j n : ℕ) (f : ℕ → ℕ) (st : State) → f k ≡ b → b + w ≤ signal_width m r.target → Connected m lim st j f n → AllAfter ob st (register_steps r)
        → Meets Any (Done j n f (b + w)) (register_bits k r b w st)
    unfolding register_bits
    bits_run zero b j n f st e h c a = record { bits = f; connected = c; here = e ∙ omega arith; others = λ x d. refl }
    bits_run (suc w) b j n f st e h c a =
        meets_bind Any (One j n f b) (Done j n f (b + suc w)) (register_bit r.reset k r b st) _ (rw (← e) (bit_run j n f st c a (omega arith))) (λ st₁ p.
        meets_map Any Any (Done j n (λ x. cond (eqb x k) (suc b) (f x)) (suc b + w)) (Done j n f (b + suc w)) (register_bits k r (suc b) w st₁)
        (bits_run w (suc b) j n (λ x. cond (eqb x k) (suc b) (f x)) st₁ (rw (eq-eqb k k refl)) (omega arith) p.0 p.1) (λ x y z q. q)
        (λ st₂ d. record {
          bits = d.bits;
          connected = d.connected;
          here = d.here ∙ omega arith;
          others = λ x u. d.others x u ∙ rw (ne_eqb x k u);
        }))

  -- ---- all registers ----

  pub record AllBits (j n : ℕ) (st : State) : Type 0 where
    pub bits : ℕ → ℕ
    pub connected : Connected m lim st j bits n
    pub all : (k : ℕ) → bits k ≡ bits_of m k

  past : {A : Type 0} (xs : List A) (k : ℕ) → length xs ≤ k → get_elem? xs k ≡ none
  past [] k h = refl
  past (x ∷ xs) zero h = absurd (omega arith)
  past (x ∷ xs) (suc k) h = past xs k (omega arith)

  module _ (G : Gates) where
    pub registers_walk : (k : ℕ) (rs : List Register) → ((j : ℕ) (r : Register) → get_elem? rs j ≡ some r → get_elem? m.registers (k + j) ≡ some r)
        → k + length rs ≡ length m.registers → (j n : ℕ) (f : ℕ → ℕ) → ((x : ℕ) → x < k → f x ≡ bits_of m x) → ((x : ℕ) → k ≤ x → f x ≡ 0)
        → (st : State) → Connected m lim st j f n → Meets Any (AllBits j n) (connect_registers m ob k rs st)
    unfolding connect_registers
    registers_walk k [] g e j n f lo hi st c = record { bits = f; connected = c; all = λ x. all x (dec_lt x k) }
      where
        all : (x : ℕ) → Dec (x < k) → f x ≡ bits_of m x
        all x (yes h) = lo x h
        all x (no h) = hi x (omega arith) ∙ rw (past m.registers x (omega arith))
    registers_walk k (r ∷ rs) g e j n f lo hi st c =
        let at : get_elem? m.registers k ≡ some r = let z : k + 0 ≡ k = omega arith in rw z at (g 0 r refl) in
        let w = all_walk G m good ob (register_steps r) st c.inv (steps_asked m k r (good.registers k r at)) in
        meets_bind Any (WalkedTo m st (λ st'. AllAfter ob st' (register_steps r))) (AllBits j n) (lower_all m ob (register_steps r) st) _ w.walks (λ st₁ q.
        meets_bind Any (Done k r at j n f (0 + signal_width m r.target)) (AllBits j n) (register_bits k r 0 (signal_width m r.target) st₁) _
        (bits_run k r at (signal_width m r.target) 0 j n f st₁ (hi k (omega arith)) (omega arith) (connected_grew c q.inv q.grew) q.post)
        (λ st₂ d. registers_walk (suc k) rs (λ x y p. let v : k + suc x ≡ suc k + x = omega arith in rw v at (g (suc x) y p)) (omega arith) j n d.bits
        (λ x h. low at d.bits d.here d.others x h (ℕ_discrete x k)) (λ x h. d.others x (λ z. omega arith) ∙ hi x (omega arith)) st₂ d.connected))
      where
        low : get_elem? m.registers k ≡ some r → (b : ℕ → ℕ) → b k ≡ 0 + signal_width m r.target → ((x : ℕ) → (x ≡ k → ⊥) → b x ≡ f x) → (x : ℕ) → x < suc k → Dec (x ≡ k) → b x ≡ bits_of m x
        low at b h o x l (yes z) = rw (z, at) (h ∙ omega arith)
        low at b h o x l (no z) = o x z ∙ lo x (omega arith)
