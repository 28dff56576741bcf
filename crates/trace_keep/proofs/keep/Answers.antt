-- `trace_keep::keep` meets its contract. Assumes nothing.
use native.Mathlib.Omega.{arith}
use mathlib.Core.Path.{refl}
use Rattle.trace_names.proofs.Searches.{place_some, place_none}
use Rattle.trace_keep.specs.Kept.{keep_first, keep_full, keep_done}
use Rattle.trace_keep.proofs.keep.Goals as goal

pub returns-then-k-eq0-clause-keeps : goal.returns-then-k-eq0-clause-keeps
returns-then-k-eq0-clause-keeps c = keep_first c.requires.0 c.requires.1 c.requires.2 c.if-k-eq0.true

pub returns-in_default-clause-keeps : goal.returns-in_default-clause-keeps
returns-in_default-clause-keeps c = keep_full c.requires.0 c.requires.1 c.requires.2 c.number_of-n.ensures (place_none c.in_default.ensures) (omega (arith, c.if-k-eq0.false)) refl

pub bounds-names-slot : goal.bounds-names-slot
bounds-names-slot c = (place_some {names = c.args.kept.now.names.now} c.in-Some.ensures).1

pub store-requires : goal.store-requires
store-requires c = (c.requires.0, omega (arith, c.requires.1.values_long), c.requires.1.memory_long, c.requires.1.slots_long, omega (arith, c.requires.1.four, (place_some {names = c.args.kept.now.names.now} c.in-Some.ensures).1))

pub returns-clause-keeps : goal.returns-clause-keeps
returns-clause-keeps c =
    let p = place_some c.in-Some.ensures in
    keep_done c.requires.0 c.requires.1 c.requires.2 c.number_of-n.ensures p.0 (omega (arith, c.if-k-eq0.false)) (λ e. absurd (omega (arith, p.1))) refl c.store.ensures

pub offset_bounds-names-slot : goal.offset_bounds-names-slot
offset_bounds-names-slot c = omega (arith, c.requires.1.four, (place_some {names = c.args.kept.now.names.now} c.in-Some.ensures).1)
