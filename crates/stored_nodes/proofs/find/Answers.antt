-- `stored_nodes::find` meets its contract. The loop's invariant: the search stands at slot `at`, `rest` is what is left of the key, and at most 47 nodes were passed.
use mathlib.Core.Path.{sym, ◌∙◌}
use native.Mathlib.Omega.{arith}
use Rattle.stored_nodes.specs.Lookup.{searches_start, searches_low, searches_more}
use Rattle.stored_nodes.proofs.find.Goals as goal

pub loop-depth-init : goal.loop-depth-init
loop-depth-init c = searches_start _ _ c.requires.1 c.key-rest.ensures c.root-at.ensures

pub is_same-requires : goal.is_same-requires
is_same-requires c =
    let s = c.loop-depth.invariant in
    (c.requires.0, omega (arith, searches_low _ _ s c.requires.4, c.requires.1), c.requires.1)

pub loop-depth-preserved : goal.loop-depth-preserved
loop-depth-preserved c =
    searches_more _ _ c.loop-depth.invariant c.requires.1 c.requires.2 c.requires.4 (omega arith) (sym c.is_same.ensures ∙ c.if-is_same.false) c.under-at.ensures
