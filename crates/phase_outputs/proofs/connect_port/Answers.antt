-- `phase_outputs::connect_port` meets its contract. Assumes nothing.
use mathlib.Core.Path.{refl}
use Rattle.walk_view.proofs.Errors.{err_is}
use native.Mathlib.Omega.{arith}
use Rattle.spec_rules.specs.Image.{decode}
use Rattle.law_walk.specs.Walk.{bits_asked}
use Rattle.phase_parts.specs.Ran.{ran_then, ran_out}
use Rattle.phase_parts.specs.Steps.{all_ran, gives_after}
use Rattle.phase_outputs.specs.Outputs.{port_turn}
use Rattle.phase_outputs.proofs.connect_port.Goals as goal

pub returns-in_err-resolve_signal : goal.returns-in_err-resolve_signal
returns-in_err-resolve_signal c =
    rw (err_is _ _ c.from_residual.ensures) (ran_out (port_turn c.args.p c.args.n) (all_ran c.in_err-resolve_signal.ensures) tt)

pub add_port-requires : goal.add_port-requires
add_port-requires c =
    let pre = c.requires in
    let a = c.args in
    let g = c.in_ok-resolve_signal in (
      g.ensures.ready,
      g.ensures.sure refl,
      pre.2,
      pre.3,
      omega (arith, pre.3, (pre.0.accepted.signals a.p pre.2).width.1),
      gives_after pre.0.accepted pre.1 (bits_asked (decode a.image.now) a.p 0 a.n) g.ensures refl,
    )

pub returns : goal.returns
returns c =
    let a = c.args in
    ran_then (port_turn a.p a.n) (all_ran c.in_ok-resolve_signal.ensures) refl c.add_port.ensures
