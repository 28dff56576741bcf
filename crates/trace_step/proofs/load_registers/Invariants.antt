-- `trace_step::load_registers` meets its contract. Assumes nothing.
use mathlib.Core.Path.{◌≡◌}
use lib.ListN.{length}
use Rattle.trace_step.specs.Words.{registers_done}
use Rattle.trace_step.proofs.load_registers.Given as goal

abbrev pub invariant-loop-place : goal.invariant-loop-place
invariant-loop-place l = (length l.initial.new ≡ length l.new) × (l.new ≡ registers_done l.net l.old l.places l.place-index l.initial.new)
