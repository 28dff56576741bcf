-- `trace_keep::back` meets its contract. Assumes nothing.
use native.Mathlib.Omega.{arith}
use mathlib.Core.Logic.{inl, inr}
use mathlib.Core.Path.{refl}
use Rattle.trace_names.proofs.Searches.{place_some, place_none}
use Rattle.trace_keep.specs.Kept.{back_none, back_done}
use Rattle.trace_keep.proofs.back.Goals as goal

pub returns-in_default : goal.returns-in_default
returns-in_default c = back_none c.requires.0 c.requires.1 c.requires.2 c.number_of-n.ensures (place_none c.in_default.ensures) (inl refl) _ _

pub load-requires : goal.load-requires
load-requires c = (c.requires.0, omega (arith, c.requires.1.values_long), c.requires.1.memory_long, c.requires.1.slots_long, omega (arith, c.requires.1.four, (place_some {names = c.args.names.now} c.in-Some.ensures).1))

pub offset_bounds-names-held : goal.offset_bounds-names-held
offset_bounds-names-held c = omega (arith, c.requires.1.four, (place_some {names = c.args.names.now} c.in-Some.ensures).1)

pub bounds-names-held : goal.bounds-names-held
bounds-names-held c = (place_some {names = c.args.names.now} c.in-Some.ensures).1

pub returns-then-names-held : goal.returns-then-names-held
returns-then-names-held c = back_none c.requires.0 c.requires.1 c.requires.2 c.number_of-n.ensures (place_some c.in-Some.ensures).0 (inr c.if-names-held.true) _ _

pub returns : goal.returns
returns c = back_done c.requires.0 c.requires.1 c.requires.2 c.number_of-n.ensures (place_some c.in-Some.ensures).0 c.if-names-held.false c.load.ensures
