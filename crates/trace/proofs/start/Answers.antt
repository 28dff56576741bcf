-- What a trace's tables must be is what opening an image leaves. Assumes nothing.
use Rattle.std.proofs.Common.{refl}
use Rattle.trace_open.specs.Begins.{tables_fresh}
use Rattle.trace.proofs.start.Goals as goal

pub take_trace-requires : goal.take_trace-requires
take_trace-requires c = (tables_fresh c.in-Ok.ensures refl, (c.in-Ok.ensures.tables c.in-Ok.tables refl).inputs_few)
