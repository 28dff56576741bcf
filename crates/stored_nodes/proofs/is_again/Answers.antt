-- `stored_nodes::is_again` meets its contract. Assumes nothing.
use mathlib.Core.Bool.{true≢false}
use native.Mathlib.Omega.{arith}
use Rattle.stored_nodes.specs.Lookup.{again_yes, again_no, again_placed}
use Rattle.stored_nodes.proofs.is_again.Goals as goal

pub returns-then-table-at-ne0 : goal.returns-then-table-at-ne0
returns-then-table-at-ne0 c =
    (again_yes _ _ c.requires.4 c.find-at.ensures.0 (omega arith), λ e. absurd (true≢false e))

pub returns : goal.returns
returns c =
    let found = c.find-at.ensures.0 in
    (again_no _ _ c.requires.4 found c.requires.2 (omega arith), λ e. again_placed _ _ c.requires.4 found c.requires.2 (omega arith) c.requires.3)
