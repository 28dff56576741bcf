-- `trace_line::begin` meets its contract. Assumes nothing.
use mathlib.Core.Path.{refl}
use Rattle.trace_line.proofs.Standing.{begin_ready, begin_after}
use Rattle.trace_line.proofs.begin.Goals as goal

pub run-requires : goal.run-requires
run-requires c = begin_ready c.requires.0 c.args.line.now refl c.load_line.ensures

pub returns-clause-goes : goal.returns-clause-goes
returns-clause-goes c = begin_after c.requires.0 c.args.line.now refl c.load_line.ensures c.run.ensures c.run.auto.values
