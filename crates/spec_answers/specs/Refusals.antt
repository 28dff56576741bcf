-- What refusals 6, 7 and 8 say of a module, in the terms of docs/RULES.md. Assumes nothing.
use Rattle.std.specs.Prelude.{ℕ, ◌<◌, ◌≡◌, false, take}
use Rattle.std.proofs.Math.Option.{none, some}
use Rattle.std.proofs.Math.ListN.{get_elem?}
use Rattle.spec_rtl.specs.Rtl as R
use Rattle.spec_rtl.specs.Rtl.{Module, driver}
use Rattle.spec_rules.specs.Step.{width_of}
use Rattle.spec_model.specs.Builder.{Out, done, and_then, constant_value}
use Rattle.spec_model.specs.Lowering.{State, whole_nets, register_steps, lower_all, start, reserve_sources, connect_memories, connect_registers}
use Rattle.spec_needs.specs.Needs.{Needed, Needs}

-- 6: "a bit that is needed has no driver": bit b of signal p
pub record Undriven (m : Module) (p b : ℕ) : Type 0 where
  pub there : b < width_of m p
  pub nothing : driver m p b ≡ R.Nothing
  pub needed : Needed m (p, b)

-- 7: "a bit that is needed needs itself: a combinational loop": bit b of signal p, driven by bit o of expression e
pub record Looping (m : Module) (p b : ℕ) : Type 0 where
  pub there : b < width_of m p
  pub e : ℕ
  pub o : ℕ
  pub driven : driver m p b ≡ R.FromExpr e o
  pub needed : Needed m (p, b)
  pub itself : Needs m (p, b) (p, b)

-- the lowering as far as the registers before register k, and as far as what a register after them needs
unfoldable pub before : Module → ℕ → ℕ → ℕ → Out State
before m N P k =
    and_then (reserve_sources m (start m N P)) (λ st₁.
    and_then (connect_memories m false 0 m.memories st₁) (λ st₂. connect_registers m false 0 (take k m.registers) st₂))

abbrev pub up_to : Module → ℕ → ℕ → ℕ → R.Register → Out State
up_to m N P k r = and_then (before m N P k) (λ st. lower_all m false (register_steps r) st)

-- 8: "a bit of a reset value is no constant net": bit b of register k, in the netlist made so far. The limits are any under
-- which the lowering comes so far
pub record NotConstant (m : Module) (k b : ℕ) : Type 0 where
  pub register : R.Register
  pub is : get_elem? m.registers k ≡ some register
  pub reset : R.Reset
  pub has : register.reset ≡ some reset
  pub there : b < width_of m register.target
  pub nets : ℕ
  pub words : ℕ
  pub so_far : State
  pub reached : up_to m nets words k register ≡ done so_far
  pub net : ℕ
  pub its : get_elem? (whole_nets so_far reset.value) b ≡ some net
  pub other : constant_value so_far.netlist net ≡ none
