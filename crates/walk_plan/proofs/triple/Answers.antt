-- `walk_plan::triple` meets its contract. Assumes nothing.
use Prim.Native.Nat.{◌≤◌}
use native.Mathlib.Omega.{arith}
use Rattle.walk_plan.specs.Plan.{triple_needs}
use Rattle.walk_plan.specs.Kinds.{none_left}
use Rattle.walk_plan.proofs.triple.Goals as goal

pub returns-then-k-eq0 : goal.returns-then-k-eq0
returns-then-k-eq0 c = λ s. (rw c.if-k-eq0.true, omega arith)

pub returns-then-k-eq1 : goal.returns-then-k-eq1
returns-then-k-eq1 c = λ s. (rw c.if-k-eq1.true, omega arith)

pub returns-then-k-eq2 : goal.returns-then-k-eq2
returns-then-k-eq2 c = λ s. rw c.if-k-eq2.true

pub returns : goal.returns
returns c = λ s.
    let a = c.args in
    let z : 3 ≤ a.k = omega (arith, c.if-k-eq0.false, c.if-k-eq1.false, c.if-k-eq2.false) in
    none_left (triple_needs a.a a.b a.c) a.k (omega arith)
