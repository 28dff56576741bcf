-- `op_shifts::shift_stages` meets its contract. Assumes nothing.
use Rattle.spec_model.specs.Lowering.{stages}
use Rattle.net_view.specs.View.{netlist_of}
use Rattle.op_shifts.specs.Kinds.{shift_of}
use Rattle.op_shifts.proofs.Laws.{Staging}
use Rattle.op_shifts.proofs.shift_stages.Given as goal

abbrev pub invariant-loop-select : goal.invariant-loop-select
invariant-loop-select l = Staging (stages (shift_of l.kind) l.z 0 l.amount l.initial.xs (netlist_of l.n l.initial.net)) (shift_of l.kind) l.z l.n l.initial.net l.initial.xs l.amount l.net l.idx l.xs l.distance l.select-index
