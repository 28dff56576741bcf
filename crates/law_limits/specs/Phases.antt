-- What each phase of the lowering, and the whole of it, comes to under limits. Assumes nothing.
use Rattle.std.specs.Prelude.{◌≡◌}
use Rattle.std.proofs.Math.Path.{refl, ap}
use Rattle.std.proofs.Common.{ap₂}
use mathlib.Core.List.{◌∷◌, ◌++◌}
use Rattle.std.proofs.Math.Option.{Option, none, some}
use Prim.Native.Nat.{ℕ}
use Rattle.spec_rtl.specs.Rtl.{Module, Control, Port}
use Rattle.spec_model.specs.Lowering.{State, signal_bit, signal_net, signal_nets, whole, whole_nets, option_control, port_words, ports_words}
use Rattle.law_limits.specs.Bounds.{limited_state}

-- ---- records ----

module _ (N P : ℕ) (st : State) where
  pub control_alike : (c : Option Control) → option_control (limited_state N P st) c ≡ option_control st c
  unfolding signal_net signal_bit
  control_alike none = refl
  control_alike (some c) = refl

  port_alike : (m : Module) (p : Port) → port_words m (limited_state N P st) p ≡ port_words m st p
  unfolding signal_nets signal_net signal_bit whole_nets whole
  port_alike m p = rw (control_alike p.read_enable)

  pub ports_alike : (m : Module) (p : Port) (q : Option Port) → ports_words m (limited_state N P st) p q ≡ ports_words m st p q
  ports_alike m p none = ap (λ ws. 1 ∷ ws) (port_alike m p)
  ports_alike m p (some q) = ap₂ (λ ws vs. 2 ∷ ws ++ vs) (port_alike m p) (port_alike m q)
