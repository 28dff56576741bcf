-- `phase_sources::reserve_port` meets its contract. Assumes nothing.
use Rattle.phase_sources.proofs.Laws.{reserved}
use Rattle.phase_sources.proofs.reserve_port.Goals as goal

pub returns : goal.returns
returns c =
    reserved _ c.args.p c.args.n _ _ _ _ c.requires.0 c.add_input_port.auto.net _ _ c.in_ok-first.ensures c.keep_run.ensures c.keep_run.auto.scr
