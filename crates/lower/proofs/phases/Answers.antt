-- `lower::phases` meets its contract. Assumes nothing.
use mathlib.Core.Path.{◌∙◌}
use Rattle.std.specs.Prelude.{Err}
use Rattle.std.proofs.lemmas.Result.{err_from_is_err_and}
use Rattle.lower.proofs.Stages.{sure_1, sure_2, sure_3, refused_1, refused_2, refused_3, ended}
use Rattle.lower.proofs.phases.Goals as goal

pub returns-in_err-reserve_sources : goal.returns-in_err-reserve_sources
returns-in_err-reserve_sources c =
    let a = c.args in
    let p = err_from_is_err_and c.from_residual.result c.from_residual.ensures.1 in
    rw (p.1, p.2) (refused_1 a.image.now a.net.now a.scr.now c.requires (Err c.in_err-reserve_sources.field-0.0) _ _ tt c.in_err-reserve_sources.ensures)

pub connect_memories-requires : goal.connect_memories-requires
connect_memories-requires c =
    let a = c.args in
    let x = c.in_ok-reserve_sources.ensures in
    (x.ready, sure_1 a.image.now a.net.now a.scr.now c.requires _ _ x)

pub returns-in_err-connect_memories : goal.returns-in_err-connect_memories
returns-in_err-connect_memories c =
    let a = c.args in
    let p = err_from_is_err_and c.from_residual-in_err-connect_memories.result c.from_residual-in_err-connect_memories.ensures.1 in
    rw (p.1, p.2) (refused_2 a.image.now a.net.now a.scr.now c.requires _ _ c.in_ok-reserve_sources.ensures
    (Err c.in_err-connect_memories.field-0.0) _ _ tt c.in_err-connect_memories.ensures)

pub connect_registers-requires : goal.connect_registers-requires
connect_registers-requires c =
    let a = c.args in
    let y = c.in_ok-connect_memories.ensures in
    (y.ready, sure_2 a.image.now a.net.now a.scr.now c.requires _ _ c.in_ok-reserve_sources.ensures _ _ y)

pub returns-in_err-connect_registers : goal.returns-in_err-connect_registers
returns-in_err-connect_registers c =
    let a = c.args in
    let p = err_from_is_err_and c.from_residual-in_err-connect_registers.result c.from_residual-in_err-connect_registers.ensures.1 in
    rw (p.1, p.2) (refused_3 a.image.now a.net.now a.scr.now c.requires _ _ c.in_ok-reserve_sources.ensures _ _ c.in_ok-connect_memories.ensures
    (Err c.in_err-connect_registers.field-0.0) _ _ tt c.in_err-connect_registers.ensures)

pub connect_outputs-requires : goal.connect_outputs-requires
connect_outputs-requires c =
    let a = c.args in
    let z = c.in_ok-connect_registers.ensures in
    (z.ready, sure_3 a.image.now a.net.now a.scr.now c.requires _ _ c.in_ok-reserve_sources.ensures _ _ c.in_ok-connect_memories.ensures _ _ z)

pub shape_of-net : goal.shape_of-net
shape_of-net c =
    c.connect_outputs.ensures.kept.net_long ∙ c.connect_registers.ensures.kept.net_long ∙ c.connect_memories.ensures.kept.net_long ∙ c.reserve_sources.ensures.kept.net_long

pub shape_of-scr : goal.shape_of-scr
shape_of-scr c =
    c.connect_outputs.ensures.kept.long ∙ c.connect_registers.ensures.kept.long ∙ c.connect_memories.ensures.kept.long ∙ c.reserve_sources.ensures.kept.long

pub returns : goal.returns
returns c =
    let a = c.args in
    let o = c.connect_outputs in
    ended a.image.now a.net.now a.scr.now c.requires _ _ c.in_ok-reserve_sources.ensures _ _ c.in_ok-connect_memories.ensures
    _ _ c.in_ok-connect_registers.ensures o.result _ _ o.ensures
