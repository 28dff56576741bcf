-- The tables as they are made are those of a run before its first line. Assumes nothing.
use Rattle.std.proofs.Common.{arith, refl, sym, ap, ◌∙◌, length}
use Rattle.trace_open.specs.Begins.{underway_at}
use Rattle.trace.proofs.take_trace.Goals as goal

pub run-requires : goal.run-requires
run-requires c = (
  (underway_at refl refl c.value_table-values.ensures c.memory_table-memory.ensures c.name_table-names.ensures c.kept_table-slots.ensures c.requires.0, ap length (c.value_table-before.ensures ∙ sym c.value_table-values.ensures)),
  omega (arith, c.requires.1),
)
