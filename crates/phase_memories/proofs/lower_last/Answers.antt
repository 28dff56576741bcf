-- `phase_memories::lower_last` meets its contract. Assumes nothing.
use mathlib.Core.Path.{refl}
use native.Mathlib.Omega.{arith}
use mathlib.Core.List.{◌++◌}
use Rattle.spec_model.specs.Lowering.{Bit, bit_step, enable_steps}
use Rattle.image_records.specs.Others.{port_means}
use Rattle.walk_view.proofs.Errors.{err_is}
use Rattle.walk_invariant.specs.Steps.{gives_one}
use Rattle.phase_parts.specs.Steps.{gives_then, gives_out}
use Rattle.phase_memories.proofs.lower_last.Goals as goal

pub returns-in_err-lower_words : goal.returns-in_err-lower_words
returns-in_err-lower_words c =
    let p = port_means c.args.p in
    rw (err_is _ _ c.from_residual.ensures) (gives_out (enable_steps p ++ bit_step p.clock) c.in_err-lower_words.ensures tt)

pub lower_enables-requires : goal.lower_enables-requires
lower_enables-requires c =
    let g = c.in_ok-lower_words.ensures in
    (g.ready, g.sure refl, c.requires.2)

pub returns-in_err-lower_enables : goal.returns-in_err-lower_enables
returns-in_err-lower_enables c =
    let p = port_means c.args.p in
    rw (err_is _ _ c.from_residual-in_err-lower_enables.ensures) (gives_out (bit_step p.clock) (gives_then (enable_steps p) c.in_ok-lower_words.ensures refl c.in_err-lower_enables.ensures) tt)

pub resolve_signal_bit-requires : goal.resolve_signal_bit-requires
unfolding port_means
resolve_signal_bit-requires c =
    let pre = c.requires in
    let g = c.in_ok-lower_enables.ensures in
    (g.ready, g.sure refl, pre.2.clock.there, omega (arith, pre.2.clock.one))

pub returns : goal.returns
unfolding port_means
returns c =
    let pre = c.requires in
    let a = c.args in
    let g = c.in_ok-lower_enables.ensures in
    gives_then (bit_step a.p.clock) (gives_then (enable_steps (port_means a.p)) c.in_ok-lower_words.ensures refl g) refl
    (gives_one a.image.now _ _ (Bit a.p.clock 0) _ _ _ g.ready (g.sure refl) (pre.2.clock.there, omega (arith, pre.2.clock.one)) c.resolve_signal_bit.ensures)
