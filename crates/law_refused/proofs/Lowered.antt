-- What is proved of specs/Lowered: The whole lowering: what its refusals tell; where it comes to its end, every needed bit has a net, is driven, by an expression lowered whole,
-- and does not need itself. Assumes nothing.
use Rattle.std.proofs.Math.Path.{◌≡◌, sym}
use Rattle.std.specs.Prelude.{refl, Bool, ℕ, ◌+◌, ◌≤◌}
use Rattle.std.proofs.Common.{subst, ◌∙◌, zero-add, arith}
use Rattle.std.proofs.Math.Bool.{true, false}
use Rattle.std.proofs.Math.ListN.{length}
use Rattle.spec_rtl.specs.Rtl as R
use Rattle.spec_rtl.specs.Rtl.{Module}
use Rattle.spec_model.specs.Words.{absent}
use Rattle.spec_model.specs.Builder.{Out, refused, done}
use Rattle.spec_model.specs.Lowering.{State, whole, start, reserve_sources, connect_memories, connect_registers, connect_outputs, lower_state, signal_steps}
use Rattle.spec_needs.specs.Reads.{Place}
use Rattle.spec_needs.specs.Needs.{In, starts, Needed}
use Rattle.spec_answers.specs.Refusals.{before, Undriven, Looping}
use Rattle.law_nets.specs.Run.{Meets, meets_bind, meets_map, Limit}
use Rattle.law_walk.specs.Tables.{none_some}
use Rattle.law_walk.specs.Good.{Good}
use Rattle.law_walk.specs.Kept.{Any}
use Rattle.law_needs.specs.Safe.{safe_here, all_safe, no_loop}
use Rattle.law_needs.specs.Inside.{Within, Sourced}
use Rattle.law_phases.specs.Made.{Connected}
use Rattle.law_phases.specs.Sources.{blank, none_at, Reserved, started, sources_run}
use Rattle.law_phases.proofs.Sources.{connected}
use Rattle.law_refused.specs.Sources.{Reserving, self, sources}
use Rattle.law_refused.specs.Stands.{Served, SafeIn, safe_source, Strays, room, Stands, AllServed, served_stays}
use Rattle.law_refused.specs.Starts.{memory_needs_law, register_needs_law, steps_memory, steps_register, output_bits_law, starts_all}
use Rattle.law_refused.specs.Phases.{named, Passed}
use Rattle.law_refused.proofs.Phases.{stray}
use Rattle.law_refused.proofs.Phases.{MemoriesServed, Faults, RegistersServed, OutputsServed, Until, memories_passed, registers_passed, outputs_passed}
use Rattle.law_refused.specs.Lowered.{unmarked}

-- what holds of the state at the end
pub record Accepts (m : Module) (good : Good m) (within : Within m) (lim : ℕ × ℕ) (st : State) : Type 0 where
  pub stands : Stands m st
  pub memories : MemoriesServed m good within lim m.memories st
  pub registers : RegistersServed m good within lim m.registers st
  pub outputs : OutputsServed m good within lim 0 m.signals st

module _ (m : Module) (good : Good m) (within : Within m) (lim : ℕ × ℕ) where
  abbrev Fault : ℕ → ℕ → ℕ → Type 0
  Fault = Faults m good within lim

  sources_stand : (st : State) → Reserved m lim st → Reserving m st → Sourced m st → Stands m st
  unfolding whole
  sources_stand st i r s = record {
    sourced = s;
    right = record {
      bits = λ p b n e. safe_source m good st p b (record { value = n; is = e }) (r.only p b n e);
      wholes = λ e ns q. absurd (none_some (sym (rw i.wholes (none_at m.exprs e)) ∙ q));
      ranges = λ e b n q. absurd (none_some (sym (rw i.rows (blank (λ (x : R.Expr). x.width) m.exprs e b)) ∙ q));
    };
    shut = λ x o. let z : ◌≡◌ {A = Bool} false true = sym (rw i.marks (unmarked m.signals x.0 x.1)) ∙ o.0 in let y : ◌≡◌ {A = ℕ} 0 1 = cc in omega arith;
  }

  -- sources, and that they are these
  sources_passed : lim.0 ≤ absent → Meets Fault (λ st. (Reserved m lim st × Stands m st) × (reserve_sources m (start m lim.0 lim.1) ≡ done st)) (reserve_sources m (start m lim.0 lim.1))
  sources_passed h =
      named Fault (λ st. Reserved m lim st × Stands m st) (reserve_sources m (start m lim.0 lim.1)) (join (reserve_sources m (start m lim.0 lim.1))
      (sources_run m good lim (start m lim.0 lim.1) (started m lim.0 lim.1 h)) (sources m good lim.0 lim.1))
    where
      join : (o : Out State) → Meets Any (Reserved m lim) o → Meets Limit (λ st. Reserving m st × Sourced m st) o → Meets Fault (λ st. Reserved m lim st × Stands m st) o
      join (refused c x y) a b = stray (room b)
      join (done st) a b = (a, sources_stand st a b.0 b.1)

  until_start : (st₁ st₂ : State) → reserve_sources m (start m lim.0 lim.1) ≡ done st₁ → connect_memories m false 0 m.memories st₁ ≡ done st₂
      → before m lim.0 lim.1 0 ≡ done st₂
  unfolding before connect_registers
  until_start st₁ st₂ p q = rw (p, q)

  pub lowering : lim.0 ≤ absent → Meets Fault (Accepts m good within lim) (lower_state false m lim.0 lim.1)
  unfolding lower_state
  lowering h =
      let k = length m.memories in
      meets_bind Fault (λ st. (Reserved m lim st × Stands m st) × (reserve_sources m (start m lim.0 lim.1) ≡ done st)) (Accepts m good within lim) (reserve_sources m (start m lim.0 lim.1)) _
      (sources_passed h) (λ st₁ a.
      meets_bind Fault (λ st. (Connected m lim st (0 + k) (λ j. 0) 0 × Passed m st₁ (MemoriesServed m good within lim m.memories) st) × (connect_memories m false 0 m.memories st₁ ≡ done st)) (Accepts m good within lim)
      (connect_memories m false 0 m.memories st₁) _
      (named Fault _ (connect_memories m false 0 m.memories st₁) (meets_map (Strays m) Fault (λ st. Connected m lim st (0 + k) (λ j. 0) 0 × Passed m st₁ (MemoriesServed m good within lim m.memories) st) _
      (connect_memories m false 0 m.memories st₁)
      (memories_passed m good within lim 0 (λ j. 0) 0 m.memories (self m.memories) st₁ (connected m lim st₁ a.0.0) a.0.1) (λ c x y s. stray s) (λ st s. s))) (λ st₂ b.
      meets_bind Fault (λ st. Until m good within lim (0 + k) (0 + length m.registers) st × Passed m st₂ (RegistersServed m good within lim m.registers) st) (Accepts m good within lim)
      (connect_registers m false 0 m.registers st₂) _
      (registers_passed m good within lim (0 + k) 0 m.registers (self m.registers) st₂
      (record { bits = λ j. 0; connected = b.0.0; rest = λ x l. refl; come = until_start st₁ st₂ a.1 b.1 }) b.0.1.stands) (λ st₃ c.
      meets_map (Strays m) Fault (λ st. Connected m lim st (0 + k) c.0.bits (0 + length m.signals) × Passed m st₃ (OutputsServed m good within lim 0 m.signals) st) (Accepts m good within lim)
      (connect_outputs m false 0 m.signals st₃)
      (outputs_passed m good within lim 0 (0 + k) c.0.bits m.signals (self m.signals) st₃ c.0.connected c.1.stands) (λ x y z s. stray s)
      (λ st₄ d. record {
        stands = d.1.stands;
        memories = λ j x e. served_stays d.1.further (served_stays c.1.further (b.0.1.post j x e));
        registers = λ j r e. served_stays d.1.further (c.1.post j r e);
        outputs = d.1.post;
      }))))

  -- ---- a lowering that is refused ----

  pub told : lim.0 ≤ absent → (c x y : ℕ) → lower_state false m lim.0 lim.1 ≡ refused c x y → Fault c x y
  told h c x y e = subst (λ (o : Out State). Meets Fault (Accepts m good within lim) o) e (lowering h)

  -- ---- a lowering that comes to its end ----

  module _ (h : lim.0 ≤ absent) (st : State) (e : lower_state false m lim.0 lim.1 ≡ done st) where
    pub accepts : Accepts m good within lim st
    accepts = subst (λ (o : Out State). Meets Fault (Accepts m good within lim) o) e (lowering h)

    starts_safe : (x : Place) → In x (starts m) → SafeIn m st x
    starts_safe = starts_all m (SafeIn m st)
        (λ k x q. let r = steps_memory m (SafeIn m st) x (accepts.memories k x q).safes in memory_needs_law m (SafeIn m st) x r.0 r.1)
        (λ k r q. register_needs_law m (SafeIn m st) r (steps_register m (SafeIn m st) r (accepts.registers k r q).safes))
        (λ k x q d. output_bits_law m (SafeIn m st) k x.width (subst (λ (j : ℕ). AllServed m st (signal_steps j 0 x.width)) (zero-add k) (accepts.outputs k x q d)).safes)

    needed_safe : (x : Place) → Needed m x → SafeIn m st x
    needed_safe x n = all_safe m (Served m st) starts_safe n

    -- every needed bit has a net, is driven, and its driver is lowered whole
    pub needed_served : (x : Place) → Needed m x → Served m st x
    needed_served x n = safe_here m (Served m st) (needed_safe x n)

    pub none_undriven : (p b : ℕ) → Undriven m p b → ⊥
    none_undriven p b u = (needed_served (p, b) u.needed).driven u.nothing

    pub none_looping : (p b : ℕ) → Looping m p b → ⊥
    none_looping p b u = no_loop m (Served m st) (needed_safe (p, b) u.needed) u.itself
