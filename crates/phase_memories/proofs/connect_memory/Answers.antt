-- `phase_memories::connect_memory` meets its contract. Assumes nothing.
use mathlib.Core.Path.{refl, sym, subst}
use Rattle.spec_rules.specs.Image.{decode}
use Rattle.spec_model.specs.Lowering.{push_record}
use Rattle.image_records.specs.Others.{memory_means}
use Rattle.walk_view.specs.View.{walk_state}
use Rattle.walk_view.proofs.Errors.{err_is}
use Rattle.phase_parts.specs.Ran.{ran_as, ran_then, ran_out}
use Rattle.phase_parts.specs.Steps.{all_ran}
use Rattle.phase_memory_records.specs.Memories.{memory_words, MemoryThere}
use Rattle.phase_memories.proofs.Laws.{memory_there, memory_whole, turn_as}
use Rattle.phase_memories.proofs.connect_memory.Goals as goal

pub lower_memory-requires : goal.lower_memory-requires
lower_memory-requires c =
    let pre = c.requires in
    let a = c.args in
    (pre.0, pre.1, subst (MemoryThere a.image.now) (sym c.memory_at-x.ensures) (memory_there a.image.now a.k pre.0.accepted pre.2))

pub returns-in_err-lower_memory : goal.returns-in_err-lower_memory
returns-in_err-lower_memory c =
    let a = c.args in
    let x = c.memory_at-x in
    rw (err_is _ _ c.from_residual.ensures) (ran_as (turn_as a.image.now a.k x.result (walk_state a.image.now a.net.now a.scr.now) x.ensures)
    (ran_out (λ st. push_record (memory_words (decode a.image.now) a.k (memory_means x.result) st) st) (all_ran c.in_err-lower_memory.ensures) tt))

pub push_memory-requires : goal.push_memory-requires
push_memory-requires c =
    let pre = c.requires in
    let a = c.args in
    let g = c.in_ok-lower_memory.ensures in
    let h = subst (MemoryThere a.image.now) (sym c.memory_at-x.ensures) (memory_there a.image.now a.k pre.0.accepted pre.2) in
    (g.ready, g.sure refl, h, memory_whole h g refl)

pub returns : goal.returns
returns c =
    let a = c.args in
    let x = c.memory_at-x in
    ran_as (turn_as a.image.now a.k x.result (walk_state a.image.now a.net.now a.scr.now) x.ensures)
    (ran_then (λ st. push_record (memory_words (decode a.image.now) a.k (memory_means x.result) st) st) (all_ran c.in_ok-lower_memory.ensures) refl c.push_memory.ensures)
