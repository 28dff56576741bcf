-- `net_cells::compute` meets its contract. Assumes nothing.
use mathlib.Core.Path.{◌≡◌, sym, subst, ◌∙◌}
use mathlib.Core.List.{List}
use mathlib.Core.Option.{none}
use Prim.Native.Nat.{ℕ, ◌+◌, ◌-◌}
use native.Mathlib.Omega.{arith}
use lib.ListN.{length, take}
use Rattle.spec_tests.specs.Options.{option_of}
use Rattle.spec_model.specs.Words.{arithmetic_key}
use Rattle.spec_model.specs.Builder.{arithmetic_word}
use Rattle.spec_model.specs.WordCells.{find_cell}
use Rattle.net_view.specs.View.{netlist_of}
use Rattle.net_index.specs.CellSearch.{Outputs, outputs}
use Rattle.net_fold.specs.Values.{op_of}
use Rattle.net_fold.proofs.Laws.{values_none, values_some}
use Rattle.net_cells.specs.Cells.{CellKey}
use Rattle.net_cells.proofs.Laws.{ready}
use Rattle.net_cells.proofs.ArithmeticWays.{arithmetic_key_law, shared, folds, makes}
use Rattle.net_cells.proofs.compute.Goals.{After-hash_key-h, In-None}
use Rattle.net_cells.proofs.compute.Goals as goal

-- the words in front are the cell's key
key_of : (c : After-hash_key-h) → let s = c.args in CellKey 10 (length s.lhs.now) (take (length s.cell.now - length s.lhs.now) s.cell.now)
key_of c =
    let s = c.args in
    subst (CellKey 10 (length s.lhs.now)) (sym c.requires.3) (arithmetic_key_law (arithmetic_word (op_of s.op)) s.lhs.now s.rhs.now (option_of s.carry) c.requires.1.right c.requires.1.some c.requires.1.few)

-- no cell has it
new : (c : In-None) → let s = c.args in find_cell (arithmetic_key (arithmetic_word (op_of s.op)) s.lhs.now s.rhs.now (option_of s.carry)) (netlist_of s.n s.net.now).records ≡ none
new c = let s = c.args in subst (λ (t : List ℕ). find_cell t (netlist_of s.n s.net.now).records ≡ none) c.requires.3 c.in-None.ensures

pub find_cell-requires : goal.find_cell-requires
find_cell-requires c =
    (c.requires.0, (key_of (goal.at.find_cell-requires c).After-hash_key-h).whole, c.hash_key-h.ensures.0, c.hash_key-h.ensures.1)

pub slice_bounds-copy-end : goal.slice_bounds-copy-end
slice_bounds-copy-end c =
    omega (arith, c.in-Some.ensures.within, (key_of (goal.at.slice_bounds-copy-end c).After-hash_key-h).outs, c.requires.1.result)

pub returns-then-fold_constant_arithmetic : goal.returns-then-fold_constant_arithmetic
returns-then-fold_constant_arithmetic c =
    let s = c.args in
    folds (op_of s.op) s.lhs.now s.rhs.now (option_of s.carry) s.n s.net.now s.idx.now (new (goal.at.returns-then-fold_constant_arithmetic c).In-None) _ _ _ c.add_constants.result _
    (values_some _ c.fold_constant_arithmetic.result _ (c.fold_constant_arithmetic.ensures s.n) c.if-fold_constant_arithmetic.true) c.add_constants.ensures

pub add_arithmetic-requires : goal.add_arithmetic-requires
add_arithmetic-requires c =
    let s = c.args in
    let lo = c.fold_constant_arithmetic.auto.out ∙ c.requires.1.result in (
      omega (arith, lo, c.requires.2),
      omega (arith, lo, c.requires.1.few),
      rw lo
          (ready s.n c.hash_key-h.result 10 (length s.lhs.now) _ s.net.now s.idx.now c.requires.0 (key_of (goal.at.add_arithmetic-requires c).After-hash_key-h) c.hash_key-h.ensures.0 c.hash_key-h.ensures.1 c.in-None.ensures),
    )

pub returns-in-Some : goal.returns-in-Some
unfolding outputs
returns-in-Some c =
    let s = c.args in
    let e : c.in-Some.p + length s.out.now - c.in-Some.p ≡ length s.out.now = omega arith in
    shared (op_of s.op) s.lhs.now s.rhs.now (option_of s.carry) s.n s.net.now s.idx.now _ _ c.requires.0 (subst (λ (t : List ℕ). Outputs s.n t s.net.now c.in-Some.p) c.requires.3 c.in-Some.ensures)
    (rw (e, c.requires.1.result) at c.copy.ensures)

pub returns-else-fold_constant_arithmetic : goal.returns-else-fold_constant_arithmetic
returns-else-fold_constant_arithmetic c =
    let s = c.args in
    let lo = c.fold_constant_arithmetic.auto.out ∙ c.requires.1.result in
    makes (op_of s.op) s.lhs.now s.rhs.now (option_of s.carry) s.n s.net.now s.idx.now (new (goal.at.returns-else-fold_constant_arithmetic c).In-None) _ _ _ c.add_arithmetic.result
    (values_none _ c.fold_constant_arithmetic.result _ (c.fold_constant_arithmetic.ensures s.n) c.if-fold_constant_arithmetic.false)
    (rw (lo, c.requires.3) at c.add_arithmetic.ensures)
