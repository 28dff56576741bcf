-- `compare_parts::gate_step` meets its contract. Assumes nothing.
use Rattle.net_gates.specs.Nots.{keeps_constant, keeps_mux}
use Rattle.compare_parts.proofs.Laws.{there, gives, keeps_not, keeps_and, keeps_or, keeps_xor}
use Rattle.compare_parts.proofs.gate_step.Goals as goal

pub returns-then-net-eq0 : goal.returns-then-net-eq0
returns-then-net-eq0 c = gives (keeps_constant _ _ c.requires.1) c.add_constant.ensures

pub returns-in-0 : goal.returns-in-0
returns-in-0 c = gives (keeps_constant _ _ c.requires.1) c.add_constant-in-0.ensures

pub returns-in-1 : goal.returns-in-1
returns-in-1 c = gives (keeps_not _ _ (there _ _ c.some_net-x.ensures) c.requires.1) c.add_not.ensures

pub returns-in-2 : goal.returns-in-2
returns-in-2 c = gives (keeps_and _ _ _ c.requires.1) c.add_and.ensures

pub returns-in-3 : goal.returns-in-3
returns-in-3 c = gives (keeps_or _ _ _ c.requires.1) c.add_or.ensures

pub returns-in-4 : goal.returns-in-4
returns-in-4 c = gives (keeps_xor _ _ _ (there _ _ c.some_net-x.ensures) (there _ _ c.some_net-y.ensures) c.requires.1) c.add_xor.ensures

pub returns-in_default : goal.returns-in_default
returns-in_default c = gives (keeps_mux _ _ _ _ c.requires.1) c.add_mux.ensures
