-- `phase_memories::lower_memory` meets its contract. Assumes nothing.
use mathlib.Core.Path.{refl}
use Rattle.spec_model.specs.Lowering.{second_steps}
use Rattle.image_records.specs.Others.{second_means, memory_means}
use Rattle.walk_view.proofs.Errors.{err_is}
use Rattle.phase_parts.specs.Steps.{gives_none, gives_then, gives_out}
use Rattle.phase_memory_records.proofs.Laws.{there_second}
use Rattle.phase_memories.proofs.lower_memory.Goals as goal

pub lower_first-requires : goal.lower_first-requires
unfolding memory_means
lower_first-requires c = (c.requires.0, c.requires.1, c.requires.2.first)

pub returns-in_err-lower_first : goal.returns-in_err-lower_first
unfolding memory_means
returns-in_err-lower_first c =
    rw (err_is _ _ c.from_residual.ensures) (gives_out (second_steps (second_means c.args.x.second)) c.in_err-lower_first.ensures tt)

pub returns-in-None : goal.returns-in-None
unfolding memory_means second_means
returns-in-None c =
    let g = c.in_ok-lower_first.ensures in
    rw c.in-None.is (gives_then _ g refl (gives_none _ _ _ g.ready (g.sure refl)))

pub lower_last-requires : goal.lower_last-requires
lower_last-requires c =
    let g = c.in_ok-lower_first.ensures in
    (g.ready, g.sure refl, there_second c.args.x c.in-Some.p c.in-Some.is _ c.requires.2)

pub returns-in-Some : goal.returns-in-Some
unfolding memory_means second_means
returns-in-Some c = rw c.in-Some.is (gives_then _ c.in_ok-lower_first.ensures refl c.lower_last.ensures)
