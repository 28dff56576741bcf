-- Every state that the call goes through is steady, and in a later one each bit that has a net has the same one. Assumes nothing.
use Rattle.std.specs.Prelude.{◌≡◌, Bool, List, ◌∷◌, map, ℕ, ◌≤◌, ◌<◌, get_or, replicate}
use Rattle.std.proofs.Math.Path.{refl}
use Rattle.std.proofs.Common.{sym, ap, subst, ◌∙◌, arith}
use Rattle.std.proofs.Math.Option.{Option, none, some}
use Rattle.spec_rtl.specs.Rtl as R
use Rattle.spec_rtl.specs.Rtl.{Module, Expr, Memory, Register, Reset}
use Rattle.spec_model.specs.Words.{absent, Netlist, bit_word, low_word}
use Rattle.spec_model.specs.Builder.{Out, refused, done, and_then, push, constant_value, add_output_port}
use Rattle.spec_model.specs.Lowering.{State, Need, cell, mark, with_netlist, whole, whole_net, signal_net, signal_nets, signal_steps, signal_bit, expression_net, lower_need, start, net_control, option_control, push_record, memory_steps, ports_words, register_bit, reset_by, push_register}
use Rattle.net_view.specs.View.{Formed}
use Rattle.net_view.specs.Formed.{formed_register}
use Rattle.law_nets.specs.Run.{Meets, Limit}
use Rattle.net_view.specs.Laws.{with_record}
use Rattle.law_gates.specs.Ports.{OutputPort, output_port_run}
use Rattle.law_walk.specs.Tables.{none_some}
use Rattle.law_walk.specs.Good.{Good}
use Rattle.law_walk.specs.Kept.{Any, Inv, Walks}
use Rattle.law_walk.specs.Writes.{inv_netlist, inv_mark}
use Rattle.law_walk.specs.Reads.{Asked, After, AllAfter}
use Rattle.law_walk.proofs.ReadsLaws.{read_bits}
use Rattle.law_walk.proofs.Walk.{need_walk}
use Rattle.law_phases.specs.Supply.{supply}
use Rattle.law_phases.specs.Sources.{Reserved, started, sources_run, none_at, blank}
use Rattle.law_phases.proofs.Sources.{connected}
use Rattle.law_phases.specs.Pushed.{pushed}
use Rattle.law_phases.specs.Memories.{first_ready}
use Rattle.law_phases.proofs.Memories.{recorded}
use Rattle.law_phases.specs.Registers.{words_long}
use Rattle.law_repeats.specs.Again.{Stays}
use Rattle.law_repeats.proofs.Added.{push_stays, output_port_stays}
use Rattle.law_memo.specs.Reads.{net_range}
use Rattle.law_memo.specs.Steady.{Onward, onward_refl, onward_trans, same_keeps}
use Rattle.law_memo.specs.Walked.{IsSteady, IsKept, need_keep, mark_kept}
use Rattle.law_memo.specs.Memo.{Onwards, here, marked, lowered, memory, register, output, Reached}

-- no expression's bit has a net
pub nothing_known : (m : Module) (st : State) → st.expression_bits ≡ map (λ x. none) m.exprs → st.expression_ranges ≡ map (λ (x : Expr). replicate x.width none) m.exprs
    → (e b n : ℕ) → expression_net st e b ≡ some n → ⊥
unfolding whole
nothing_known m st w r e b n h =
    let no_whole : whole st e ≡ none = ap (λ (t : List (Option (List ℕ))). get_or t e none) w ∙ none_at m.exprs e in
    let no_cell = ap (λ (t : List (List (Option ℕ))). cell none t e b) r ∙ blank (λ (x : Expr). x.width) m.exprs e b in
    none_some (sym no_cell ∙ net_range st e no_whole b n h)

module _ (m : Module) (good : Good m) (ob : Bool) where
  -- what the lowering keeps, and that it is steady
  pub record SteadyInv (st : State) : Type 0 where
    pub inv : Inv m st
    pub steady : IsSteady m good ob st

  pub kept_blank : (st : State) → Inv m st → ((e b n : ℕ) → expression_net st e b ≡ some n → ⊥) → SteadyInv st
  kept_blank st i h = record { inv = i; steady = record { derived = λ e b n q. absurd (h e b n q); only = λ e b n k q. absurd (h e b n q) } }

  -- from a state that is kept to one that comes after it
  pub record Goes (st st' : State) : Type 0 where
    pub onward : Onward st st'
    pub kept : SteadyInv st'

  -- a netlist that has grown, beside the same tables
  netlist_goes : (st : State) (l : Netlist) → SteadyInv st → Inv m (with_netlist st l) → Stays st.netlist l → Goes st (with_netlist st l)
  unfolding signal_bit
  netlist_goes st l k i s =
      let h = same_keeps m good.exprs ob st (with_netlist st l) k.inv i k.steady s (λ p j n h. h) refl refl in
      record { onward = h.onward; kept = record { inv = i; steady = h.steady } }

  -- a record of a register's bit or of a memory
  push_goes : (r : List ℕ) (st : State) → SteadyInv st → Formed r → 0 < get_or r 0 0 → get_or r 0 0 < 3 → Meets Any (Goes st) (push_record r st)
  push_goes r st k f a b = go (push r st.netlist) refl (pushed (Inv m) r st k.inv.sound f a b (λ z. inv_netlist m st (with_record r st.netlist) k.inv z))
    where
      go : (o : Out Netlist) → push r st.netlist ≡ o → Meets Any (Inv m) (and_then o (λ l. done (with_netlist st l))) → Meets Any (Goes st) (and_then o (λ l. done (with_netlist st l)))
      go (refused n x y) q i = tt
      go (done l) q i = netlist_goes st l k i (push_stays r (λ z. omega arith) q)

  memory_goes : (k : ℕ) (x : Memory) (st : State) → SteadyInv st → AllAfter ob st (memory_steps x)
      → Meets Any (Goes st) (push_record (2 ∷ k ∷ x.depth ∷ x.style ∷ 1 ∷ ports_words m st x.first x.second) st)
  memory_goes k x st h a =
      let y = first_ready m ob st x a in
      push_goes (2 ∷ k ∷ x.depth ∷ x.style ∷ 1 ∷ ports_words m st x.first x.second) st h (recorded m ob st h.inv k x y.0 y.1).formed (omega arith) (omega arith)

  register_goes : (k : ℕ) (r : Register) (b : ℕ) (st : State) → SteadyInv st → Meets Any (Goes st) (register_bit r.reset k r b st)
  register_goes k r b st h = go r.reset
    where
      bit : (q : Option Reset) → Meets Any (Goes st) (push_register k r b st q)
      bit q =
          push_goes _ st h (formed_register _ (words_long k b (signal_net st r.target b) (whole_net st r.next b) (signal_net st r.clock 0) (low_word r.rising) (option_control st r.enable) q))
          (omega arith) (omega arith)

      by : (o : Option Bool) (x : Reset) → Meets Any (Goes st) (reset_by o k r b st x)
      by none x = tt
      by (some v) x = bit (some (record { control = net_control st x.control; asynchronous = x.asynchronous; value = bit_word v }))

      go : (o : Option Reset) → Meets Any (Goes st) (register_bit o k r b st)
      go none = bit none
      go (some x) = by (constant_value st.netlist (whole_net st x.value b)) x

  output_goes : (s w : ℕ) (ns : List ℕ) (l : Netlist) (st : State) → SteadyInv st → AllAfter ob st (signal_steps s 0 w) → add_output_port s (signal_nets st s 0 w) st.netlist ≡ done (ns, l)
      → Goes st (with_netlist st l)
  output_goes s w ns l st k a q =
      let o = subst (Meets Limit (OutputPort s (signal_nets st s 0 w) st.netlist)) q
      (output_port_run s (signal_nets st s 0 w) st.netlist k.inv.sound (read_bits m st k.inv ob s 0 w a).there) in
      netlist_goes st l k (inv_netlist m st l k.inv o.later) (output_port_stays s (signal_nets st s 0 w) ns q)

  need_goes : (st : State) (f : ℕ) (n : Need) → SteadyInv st → Asked m n → Meets Any (Goes st) (lower_need f m ob n st)
  need_goes st f n k a = go (lower_need f m ob n st) (need_walk supply m good ob f n st k.inv a) (need_keep m good ob f n st k.inv k.steady a)
    where
      go : (o : Out State) → Walks m st (λ x. After x n) o → Meets Any (IsKept m good ob st) o → Meets Any (Goes st) o
      go (refused x y z) w h = tt
      go (done st') w h = record { onward = h.onward; kept = record { inv = w.walks.inv; steady = h.steady } }

  mark_goes : (st : State) (s b : ℕ) → SteadyInv st → Goes st (mark st s b)
  mark_goes st s b k =
      let h = mark_kept m good ob st k.inv k.steady s b in
      record { onward = h.onward; kept = record { inv = inv_mark m st s b k.inv; steady = h.steady } }

  further : {st st₁ st₂ : State} → Goes st st₁ → Goes st₁ st₂ → Goes st st₂
  further a b = record { onward = onward_trans a.onward b.onward; kept = b.kept }

  pub goes : {st st' : State} → SteadyInv st → Onwards m ob st st' → Goes st st'
  goes k here = record { onward = onward_refl; kept = k }
  goes k (marked {st₁ = st₁} s b x) = let g = goes k x in further g (mark_goes st₁ s b g.kept)
  goes k (lowered {st₁ = st₁} f need a x q) = let g = goes k x in further g (subst (Meets Any (Goes st₁)) q (need_goes st₁ f need g.kept a))
  goes k (memory {st₁ = st₁} j y a x q) = let g = goes k x in further g (subst (Meets Any (Goes st₁)) q (memory_goes j y st₁ g.kept a))
  goes k (register {st₁ = st₁} j r b x q) = let g = goes k x in further g (subst (Meets Any (Goes st₁)) q (register_goes j r b st₁ g.kept))
  goes k (output {st₁ = st₁} s w ns l a x q) = let g = goes k x in further g (output_goes s w ns l st₁ g.kept a q)

  pub reached_kept : (n p : ℕ) → n ≤ absent → {st : State} → Reached m ob n p st → SteadyInv st
  reached_kept n p h r =
      let x = subst (Meets Any (Reserved m (n, p))) r.reserved (sources_run m good (n, p) (start m n p) (started m n p h)) in
      (goes (kept_blank r.first (connected m (n, p) r.first x).inv (nothing_known m r.first x.wholes x.rows)) r.onwards).kept
