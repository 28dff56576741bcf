-- What is proved of specs/Constants: Where the lowering comes to its end under some limits, no register has a reset bit that is not a constant net, under whatever limits that is
-- asked. Assumes nothing.
use Rattle.std.specs.Prelude.{◌≡◌, Bool, length}
use Rattle.std.proofs.Common.{sym, ◌∙◌}
use Rattle.std.proofs.Math.Path.{ap, subst}
use Rattle.std.proofs.Math.Bool.{false}
use mathlib.Core.List.{List}
use Rattle.std.proofs.Math.Option.{Option, none, some}
use Prim.Native.Nat.{ℕ, zero, suc, ◌+◌, ◌-◌, ◌≤◌, ◌<◌}
use Rattle.std.proofs.Math.Decide.{ℕ_discrete}
use native.Mathlib.Omega.{arith}
use Rattle.spec_rtl.specs.Rtl.{Module, Reset, Register}
use Rattle.spec_model.specs.Builder.{Out, refused, done, and_then, constant_value, node_for_net}
use Rattle.spec_model.specs.Lowering.{State, whole, whole_nets, whole_net, signal_width, register_steps, lower_all, start, reserve_sources, reset_by, register_bit, register_bits, connect_memories, connect_registers, lower_state}
use Rattle.spec_answers.specs.Refusals.{before, up_to, NotConstant}
use Rattle.law_nets.specs.Run.{Meets}
use Rattle.law_walk.specs.Good.{Good}
use Rattle.law_needs.specs.Inside.{Within}
use Rattle.law_limits.specs.Bounds.{states, limited_state}
use Rattle.law_limits.specs.Larger.{not_done}
use Rattle.law_limits.proofs.Larger.{larger}
use Rattle.law_phases.specs.Sources.{inside}
use Rattle.law_limits.proofs.Phases.{limits}
use Rattle.law_refused.specs.Phases.{Pushed}
use Rattle.law_refused.proofs.Phases.{same_constant, BitFault, bit_pushed, connect_one, before_more}
use Rattle.law_refused.specs.Constants.{done_first, get_or_is, take_all, there, up_to_bounds}

-- the same first two: what follows them
met : (o : Out State) (f g : State → Out State) (st far : State) → and_then o (λ u. and_then (f u) g) ≡ done st → and_then o f ≡ done far → g far ≡ done st
met (refused c x y) f g st far p q = absurd (not_done q)
met (done u) f g st far p q = sym (ap (λ (o : Out State). and_then o g) q) ∙ p

module _ (m : Module) (good : Good m) (within : Within m) (lim : ℕ × ℕ) where
  abbrev come : ℕ → Out State
  come k = before m lim.0 lim.1 k

  -- ---- a lowering that comes to its end has passed every register ----

  come_all : (st : State) → lower_state false m lim.0 lim.1 ≡ done st → (st' : State) × (come (length m.registers) ≡ done st')
  unfolding lower_state before
  come_all st e =
      let a = done_first (reserve_sources m (start m lim.0 lim.1)) _ st e in
      let b = done_first (connect_memories m false 0 m.memories a.0) _ st a.2 in
      let c = done_first (connect_registers m false 0 m.registers b.0) _ st b.2 in (
        c.0,
        ap (λ (rs : List Register). and_then (reserve_sources m (start m lim.0 lim.1)) (λ st₁. and_then (connect_memories m false 0 m.memories st₁) (λ st₂. connect_registers m false 0 rs st₂))) (take_all m.registers)
            ∙ ap (λ (o : Out State). and_then o (λ st₁. and_then (connect_memories m false 0 m.memories st₁) (λ st₂. connect_registers m false 0 m.registers st₂))) a.1
            ∙ ap (λ (o : Out State). and_then o (λ st₂. connect_registers m false 0 m.registers st₂)) b.1 ∙ c.1,
      )

  come_down : (d k : ℕ) → k + d ≡ length m.registers → (st : State) → come (k + d) ≡ done st → (st' : State) × (come k ≡ done st')
  come_down zero k h st e = let z : k + 0 ≡ k = omega arith in (st, ap come (sym z) ∙ e)
  come_down (suc d) k h st e =
      let z : k + suc d ≡ suc k + d = omega arith in
      let a = come_down d (suc k) (omega arith) st (ap come (sym z) ∙ e) in
      let r = there m.registers k (omega arith) in
      let b = done_first (come k) (connect_one m good within lim k r.0) a.0 (sym (before_more m good within lim k r.0 r.1) ∙ a.1) in
      (b.0, b.1)

  -- ---- a bit that is no constant is not passed ----

  not_first : (k : ℕ) (r : Register) (x : Reset) → r.reset ≡ some x → (b : ℕ) (st st₁ : State) → constant_value st.netlist (whole_net st x.value b) ≡ none
      → register_bit r.reset k r b st ≡ done st₁ → ⊥
  not_first k r x f b st st₁ n d =
      not_done (ap (λ (c : Option Bool). reset_by c k r b st x) (sym n) ∙ ap (λ (o : Option Reset). register_bit o k r b st) (sym f) ∙ d)

  not_passed : (k : ℕ) (r : Register) (x : Reset) → r.reset ≡ some x → (w b i : ℕ) (st st' : State) → b ≤ i → i < b + w → constant_value st.netlist (whole_net st x.value i) ≡ none
      → register_bits k r b w st ≡ done st' → ⊥
  unfolding register_bits
  not_passed k r x f zero b i st st' l u n e = omega arith
  not_passed k r x f (suc w) b i st st' l u n e =
      let a = done_first (register_bit r.reset k r b st) (λ st₁. register_bits k r (suc b) w st₁) st' e in
      let p : Pushed st a.0 = subst (λ (o : Out State). Meets (BitFault m good within lim st k r b (suc w)) (Pushed st) o) a.1 (bit_pushed m good within lim k r b w st) in
      elim (ℕ_discrete i b) [
        | yes z ↦ not_first k r x f b st a.0 (ap (λ (j : ℕ). constant_value st.netlist (whole_net st x.value j)) (sym z) ∙ n) a.1
        | no z ↦ not_passed k r x f w (suc b) i a.0 st' (omega arith) (omega arith) (same_constant m good within lim p x.value i ∙ n) a.2
      ]

module _ (m : Module) (good : Good m) (within : Within m) (N P : ℕ) (st : State) (e : lower_state false m N P ≡ done st) (k b : ℕ) (x : NotConstant m k b) where
  -- limits as large as both
  abbrev lim : ℕ × ℕ
  lim = (N + x.nets, P + x.words)

  abbrev far : State
  far = limited_state lim.0 lim.1 x.so_far

  reached : up_to m lim.0 lim.1 k x.register ≡ done far
  reached = larger states (up_to_bounds m k x.register) x.nets x.words (omega arith) (omega arith) lim.0 lim.1 (omega arith) (omega arith) x.so_far x.reached

  ended : lower_state false m lim.0 lim.1 ≡ done (limited_state lim.0 lim.1 st)
  ended = larger states (limits false m) N P (omega arith) (omega arith) lim.0 lim.1 (omega arith) (omega arith) st e

  not_here : constant_value far.netlist (whole_net far x.reset.value b) ≡ none
  unfolding whole_net whole_nets whole constant_value node_for_net
  not_here = ap (λ (n : ℕ). constant_value x.so_far.netlist n) (get_or_is (whole_nets x.so_far x.reset.value) b x.net x.its) ∙ x.other

  here : k < length m.registers
  here = inside m.registers k x.register x.is

  pub none_other : ⊥
  none_other =
      let a = come_all m good within lim (limited_state lim.0 lim.1 st) ended in
      let d : suc k + (length m.registers - suc k) ≡ length m.registers = omega (arith, here) in
      let c = come_down m good within lim (length m.registers - suc k) (suc k) d a.0 (ap (before m lim.0 lim.1) d ∙ a.1) in
      let h = met (before m lim.0 lim.1 k) (λ u. lower_all m false (register_steps x.register) u) (λ u. register_bits k x.register 0 (signal_width m x.register.target) u) c.0 far
      (sym (before_more m good within lim k x.register x.is) ∙ c.1) reached in
      not_passed m good within lim k x.register x.reset x.has (signal_width m x.register.target) 0 b far c.0 (omega arith) (omega (arith, x.there)) not_here h
