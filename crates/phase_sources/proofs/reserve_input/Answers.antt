-- `phase_sources::reserve_input` meets its contract. Assumes nothing.
use Rattle.phase_sources.proofs.Laws.{input_width, input_none, input_port}
use Rattle.phase_sources.proofs.reserve_input.Goals as goal

pub reserve_port-requires : goal.reserve_port-requires
reserve_port-requires c =
    (c.requires.0, c.requires.1, input_width _ c.args.net.now c.args.scr.now _ _ c.signal_at-x.ensures)

pub returns-in-Internal : goal.returns-in-Internal
returns-in-Internal c =
    input_none _ _ _ _ _ c.signal_at-x.ensures c.in-Internal.is c.requires.0

pub returns-in-Input : goal.returns-in-Input
returns-in-Input c =
    input_port _ _ _ _ _ c.signal_at-x.ensures _ _ _ c.in-Input.is c.reserve_port.ensures
