-- `compare_parts::input_step` meets its contract. Assumes nothing.
use Rattle.compare_parts.proofs.Laws.{runs, keeps_input}
use Rattle.compare_parts.proofs.input_step.Goals as goal

pub returns : goal.returns
returns c =
    let made = c.add_input_port.ensures in
    runs _ (keeps_input _ _ _ c.requires.1) (made.held _ c.requires.0) made.says
