-- `phase_signals::resolve_signal` meets its contract. Assumes nothing.
use Prim.Native.Nat.{◌-◌}
use Rattle.spec_model.specs.Lowering.{signal_steps}
use Rattle.walk_invariant.specs.Steps.{StepsAt}
use Rattle.phase_signals.proofs.resolve_signal.Given as goal

abbrev pub invariant-loop-b : goal.invariant-loop-b
invariant-loop-b l = StepsAt l.image l.initial.net l.initial.scr (signal_steps l.p 0 l.w) (signal_steps l.p l.b (l.w - l.b)) l.net l.scr
