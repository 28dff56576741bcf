-- `phase_memories::lower_first` meets its contract. Assumes nothing.
use mathlib.Core.Path.{refl}
use native.Mathlib.Omega.{arith}
use mathlib.Core.List.{◌++◌}
use Rattle.spec_model.specs.Lowering.{Bit, bit_step, enable_steps}
use Rattle.image_records.specs.Others.{port_means}
use Rattle.walk_view.proofs.Errors.{err_is}
use Rattle.walk_invariant.specs.Steps.{gives_one}
use Rattle.phase_parts.specs.Steps.{gives_then, gives_out}
use Rattle.phase_memories.proofs.lower_first.Goals as goal

pub returns-in_err-lower_words : goal.returns-in_err-lower_words
returns-in_err-lower_words c =
    let p = port_means c.args.p in
    rw (err_is _ _ c.from_residual.ensures) (gives_out (bit_step p.clock ++ enable_steps p) c.in_err-lower_words.ensures tt)

pub resolve_signal_bit-requires : goal.resolve_signal_bit-requires
unfolding port_means
resolve_signal_bit-requires c =
    let pre = c.requires in
    let g = c.in_ok-lower_words.ensures in
    (g.ready, g.sure refl, pre.2.clock.there, omega (arith, pre.2.clock.one))

pub returns-in_err-resolve_signal_bit : goal.returns-in_err-resolve_signal_bit
unfolding port_means
returns-in_err-resolve_signal_bit c =
    let pre = c.requires in
    let a = c.args in
    let g = c.in_ok-lower_words.ensures in
    rw (err_is _ _ c.from_residual-in_err-resolve_signal_bit.ensures) (gives_out (enable_steps (port_means a.p))
    (gives_then (bit_step a.p.clock) g refl (gives_one a.image.now _ _ (Bit a.p.clock 0) _ _ _ g.ready (g.sure refl) (pre.2.clock.there, omega (arith, pre.2.clock.one)) c.in_err-resolve_signal_bit.ensures)) tt)

pub lower_enables-requires : goal.lower_enables-requires
unfolding port_means
lower_enables-requires c =
    let pre = c.requires in
    let a = c.args in
    let g = c.in_ok-lower_words.ensures in
    let k = gives_one a.image.now _ _ (Bit a.p.clock 0) _ _ _ g.ready (g.sure refl) (pre.2.clock.there, omega (arith, pre.2.clock.one)) c.in_ok-resolve_signal_bit.ensures in
    (k.ready, k.sure refl, pre.2)

pub returns : goal.returns
unfolding port_means
returns c =
    let pre = c.requires in
    let a = c.args in
    let g = c.in_ok-lower_words.ensures in
    gives_then (enable_steps (port_means a.p))
    (gives_then (bit_step a.p.clock) g refl (gives_one a.image.now _ _ (Bit a.p.clock 0) _ _ _ g.ready (g.sure refl) (pre.2.clock.there, omega (arith, pre.2.clock.one)) c.in_ok-resolve_signal_bit.ensures))
    refl c.lower_enables.ensures
