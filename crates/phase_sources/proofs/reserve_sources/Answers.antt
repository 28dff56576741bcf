-- `phase_sources::reserve_sources` meets its contract. Assumes nothing.
use mathlib.Core.Path.{refl}
use Rattle.walk_view.proofs.Errors.{err_is}
use Rattle.phase_sources.proofs.Laws.{sources_inputs, sources_registers, sources_all}
use Rattle.phase_sources.proofs.reserve_sources.Goals as goal

pub returns-in_err-reserve_inputs : goal.returns-in_err-reserve_inputs
returns-in_err-reserve_inputs c =
    rw (err_is _ _ c.from_residual.ensures) (sources_inputs _ _ _ _ _ _ c.in_err-reserve_inputs.ensures tt)

pub returns-in_err-reserve_registers : goal.returns-in_err-reserve_registers
returns-in_err-reserve_registers c =
    rw (err_is _ _ c.from_residual-in_err-reserve_registers.ensures) (sources_registers _ _ _ _ _ _ c.in_ok-reserve_inputs.ensures _ _ _ refl c.in_err-reserve_registers.ensures tt)

pub returns : goal.returns
returns c =
    sources_all _ _ _ _ _ _ c.in_ok-reserve_inputs.ensures _ _ _ refl c.in_ok-reserve_registers.ensures _ _ _ refl c.reserve_memories.ensures
