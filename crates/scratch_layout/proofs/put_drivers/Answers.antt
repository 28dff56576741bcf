-- `scratch_layout::put_drivers` meets its contract: invariant: so many drivers are pasted. Assumes nothing.
use mathlib.Core.Path.{sym}
use Prim.Native.Nat.{◌+◌}
use native.Mathlib.Omega.{arith}
use Rattle.spec_tests.specs.Rules.{list_of}
use Rattle.scratch_view.specs.Rows.{length_list_of, at_list_of}
use Rattle.scratch_view.specs.Copies.{paste_turn}
use Rattle.scratch_layout.proofs.put_drivers.Goals as goal

pub loop-i-preserved : goal.loop-i-preserved
loop-i-preserved c =
    let a = c.args in
    let l = c.loop-i in
    paste_turn a.scr.now a.at (list_of a.n (λ i. a.base + i)) a.n l.scr l.i (a.base + l.i) l.invariant c.loop-i-test.true c.requires.0
    (omega (arith, length_list_of a.n (λ i. a.base + i))) (sym (at_list_of a.n (λ i. a.base + i) l.i 0 c.loop-i-test.true))
