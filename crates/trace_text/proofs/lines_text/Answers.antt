-- `trace_text::lines_text` meets its contract. Assumes nothing.
use mathlib.Core.Path.{refl, sym, ap, ◌∙◌}
use native.Mathlib.Omega.{arith}
use lib.ListN.{length}
use Rattle.trace_run.specs.Bundles.{wait_of, stop_of}
use Rattle.trace_open.specs.Begins.{underway_at, zero_at}
use Rattle.trace_text.specs.Begins.{lines_last, lines_wait, lines_cut}
use Rattle.trace_text.proofs.lines_text.Goals as goal

pub take_lines-r-requires : goal.take_lines-r-requires
take_lines-r-requires c = (underway_at refl refl c.value_table-values.ensures c.memory_table-memory.ensures c.name_table-names.ensures c.kept_table-slots.ensures c.requires, ap length (c.value_table-before.ensures ∙ sym c.value_table-values.ensures))

pub returns-in-Wait : goal.returns-in-Wait
returns-in-Wait c =
    lines_wait (underway_at refl refl c.value_table-values.ensures c.memory_table-memory.ensures c.name_table-names.ensures c.kept_table-slots.ensures c.requires) (zero_at 1024 c.value_table-values.ensures) (zero_at 65536 c.memory_table-memory.ensures)
    (zero_at 4 c.name_table-names.ensures) _ (c.take_lines-r.ensures.ran, c.take_lines-r.ensures.stopped) (ap stop_of c.in-Wait.is) (ap wait_of c.in-Wait.is) _ refl (omega arith) c.put_end.ensures

pub returns-in-Full : goal.returns-in-Full
returns-in-Full c =
    lines_cut (underway_at refl refl c.value_table-values.ensures c.memory_table-memory.ensures c.name_table-names.ensures c.kept_table-slots.ensures c.requires) (zero_at 1024 c.value_table-values.ensures) (zero_at 65536 c.memory_table-memory.ensures)
    (zero_at 4 c.name_table-names.ensures) _ (c.take_lines-r.ensures.ran, c.take_lines-r.ensures.stopped) (ap stop_of c.in-Full.is) (ap wait_of c.in-Full.is)

pub returns-in-Last : goal.returns-in-Last
returns-in-Last c =
    lines_last (underway_at refl refl c.value_table-values.ensures c.memory_table-memory.ensures c.name_table-names.ensures c.kept_table-slots.ensures c.requires) (zero_at 1024 c.value_table-values.ensures) (zero_at 65536 c.memory_table-memory.ensures)
    (zero_at 4 c.name_table-names.ensures) _ (c.take_lines-r.ensures.ran, c.take_lines-r.ensures.stopped) (ap stop_of c.in-Last.is)
