-- `walk_perform::perform_task` meets its contract. Assumes nothing.
use mathlib.Core.Path.{refl}
use native.Mathlib.Omega.{arith}
use Rattle.walk_operands.specs.Tasks.{task_made}
use Rattle.walk_perform.proofs.Laws.{width_by, unary_wide, binary_wide, binary_fit}
use Rattle.walk_perform.proofs.perform_task.Goals as goal

pub constant-requires : goal.constant-requires
constant-requires c =
    let f = rw c.in-Constant.is at c.requires.1 in
    (c.requires.0, omega (arith, f.2), omega (arith, f.0), f.1, c.requires.2)

pub unary-requires : goal.unary-requires
unary-requires c =
    let f = rw c.in-Unary.is at c.requires.1 in
    (c.requires.0, f.1, f.2)

pub binary-requires : goal.binary-requires
binary-requires c =
    let f = rw c.in-Binary.is at c.requires.1 in
    (c.requires.0, f.1, omega (arith, f.2, c.requires.3), f.2, omega (arith, f.4, c.requires.4), binary_fit c.in-Binary.op c.args.v c.in-Binary.j c.in-Binary.k f.0, c.requires.5)

pub carried-requires : goal.carried-requires
carried-requires c =
    let f = rw c.in-Carried.is at c.requires.1 in
    (c.requires.0, f.1, omega (arith, f.2, c.requires.3), f.2, omega (arith, f.2, c.requires.4), f.3)

pub returns-in-Copied : goal.returns-in-Copied
unfolding task_made
returns-in-Copied c =
    rw c.in-Copied.is (record { says = refl; held = c.requires.0 })

pub returns-in-Constant : goal.returns-in-Constant
unfolding task_made
returns-in-Constant c =
    rw c.in-Constant.is c.constant.ensures

pub returns-in-Unary : goal.returns-in-Unary
unfolding task_made
returns-in-Unary c =
    let f = rw c.in-Unary.is at c.requires.1 in
    rw c.in-Unary.is (width_by _ _ _ _ _ _ _ _ (unary_wide c.in-Unary.op c.args.v c.in-Unary.k f.0) c.unary.ensures)

pub returns-in-Binary : goal.returns-in-Binary
unfolding task_made
returns-in-Binary c =
    let f = rw c.in-Binary.is at c.requires.1 in
    rw c.in-Binary.is (width_by _ _ _ _ _ _ _ _ (binary_wide c.in-Binary.op c.args.v c.in-Binary.j c.in-Binary.k f.0) c.binary.ensures)

pub returns-in-Carried : goal.returns-in-Carried
unfolding task_made
returns-in-Carried c =
    let f = rw c.in-Carried.is at c.requires.1 in
    rw c.in-Carried.is (width_by _ _ _ _ _ _ _ _ f.0 c.carried.ensures)

pub returns-in-Mux : goal.returns-in-Mux
unfolding task_made
returns-in-Mux c =
    rw c.in-Mux.is c.mux.ensures
