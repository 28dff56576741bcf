-- `phase_signals::lower_control` meets its contract. Assumes nothing.
use native.Mathlib.Omega.{arith}
use Rattle.spec_model.specs.Lowering.{Bit}
use Rattle.walk_invariant.specs.Steps.{gives_one}
use Rattle.phase_parts.specs.Steps.{gives_none}
use Rattle.phase_parts.specs.Parts.{there_present, steps_absent, steps_present}
use Rattle.phase_signals.proofs.lower_control.Goals as goal

pub resolve_signal_bit-requires : goal.resolve_signal_bit-requires
resolve_signal_bit-requires c =
    let pre = c.requires in
    let a = c.args in
    let h = there_present a.e a.image.now c.in-Some.c c.in-Some.is pre.2 in
    (pre.0, pre.1, h.there, omega (arith, h.one))

pub returns-in-None : goal.returns-in-None
returns-in-None c =
    let pre = c.requires in
    let a = c.args in
    rw (steps_absent a.e c.in-None.is) (gives_none a.image.now a.net.now a.scr.now pre.0 pre.1)

pub returns-in-Some : goal.returns-in-Some
returns-in-Some c =
    let pre = c.requires in
    let a = c.args in
    let h = there_present a.e a.image.now c.in-Some.c c.in-Some.is pre.2 in
    rw (steps_present a.e c.in-Some.c c.in-Some.is)
    (gives_one a.image.now a.net.now a.scr.now (Bit c.in-Some.c.signal 0) _ _ _ pre.0 pre.1 (h.there, omega (arith, h.one)) c.resolve_signal_bit.ensures)
