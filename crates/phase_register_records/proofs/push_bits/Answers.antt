-- `phase_register_records::push_bits` meets its contract. Assumes nothing.
use mathlib.Core.Path.{refl, sym, ◌∙◌}
use Rattle.std.specs.Prelude.{Err}
use Rattle.walk_view.proofs.Errors.{err_is}
use native.Mathlib.Omega.{arith}
use Rattle.image_records.specs.Others.{register_means}
use Rattle.scratch_view.specs.Bounds.{signal_width_law}
use Rattle.walk_view.specs.Answers.{not_done}
use Rattle.walk_view.specs.Turns.{turning_start, turning_more, turning_out, turning_end}
use Rattle.phase_parts.specs.Ran.{ran_phase, phase_ran}
use Rattle.phase_register_records.proofs.Laws.{bits_turns}
use Rattle.phase_register_records.proofs.push_bits.Goals as goal

pub loop-b-init : goal.loop-b-init
unfolding register_means
loop-b-init c =
    let a = c.args in
    let r = register_means a.x in
    (turning_start _ _ _ _ _ _ _ (c.signal_width-n.ensures ∙ sym (signal_width_law a.image.now r.target c.requires.2.target)) (bits_turns a.k r 0 _ _) c.requires.0, c.requires.1)

pub push_bit-requires : goal.push_bit-requires
unfolding register_means
push_bit-requires c =
    let pre = c.requires in
    let q = c.loop-b in
    (q.invariant.0.ready, q.invariant.1, pre.2, pre.3, omega (arith, c.loop-b-test.true, c.signal_width-n.ensures))

pub returns-in_err-push_bit : goal.returns-in_err-push_bit
unfolding register_means
returns-in_err-push_bit c =
    let x = Err c.in_err-push_bit.field-0.0 in
    rw (err_is _ _ c.from_residual.ensures) (phase_ran (turning_out _ _ _ _ _ _ _ _ _ c.loop-b.invariant.0 x _ _ c.loop-b-test.true tt (ran_phase c.in_err-push_bit.ensures)) (λ e. not_done x tt e))

pub loop-b-preserved : goal.loop-b-preserved
unfolding register_means
loop-b-preserved c =
    (turning_more _ _ _ _ _ _ _ _ _ c.loop-b.invariant.0 _ _ _ c.loop-b-test.true refl (ran_phase c.in_ok-push_bit.ensures), c.in_ok-push_bit.ensures.sure refl)

pub returns : goal.returns
unfolding register_means
returns c = phase_ran (turning_end _ _ _ _ _ _ _ _ _ c.loop-b.invariant.0 c.loop-b-test.false) (λ e. c.loop-b.invariant.1)
