-- `walk_plan::binary_range_turn` meets its contract. Assumes nothing.
use mathlib.Core.Path.{◌≡◌, sym, ◌∙◌}
use mathlib.Core.Bool.{true, false}
use Prim.Native.Nat.{◌≤◌}
use native.Mathlib.Omega.{arith}
use Rattle.walk_plan.specs.Kinds.{none_left, binary_yes, binary_no, turn_for}
use Rattle.image_records.specs.OpClass.{bitwise}
use Rattle.walk_plan.proofs.binary_range_turn.Goals as goal

pub returns-then-not-is_bitwise : goal.returns-then-not-is_bitwise
returns-then-not-is_bitwise c = λ s.
    let a = c.args in
    let b : bitwise a.op ≡ false = sym c.is_bitwise.ensures ∙ c.if-not-is_bitwise.true in
    turn_for s _ _ a.k c.one.result (binary_no a.e a.a a.b a.lsb a.w a.op b) (c.one.ensures s)

pub returns-then-k-eq0 : goal.returns-then-k-eq0
returns-then-k-eq0 c = λ s.
    let a = c.args in
    let b : bitwise a.op ≡ true = sym c.is_bitwise.ensures ∙ c.if-not-is_bitwise.false in
    (rw (binary_yes a.e a.a a.b a.lsb a.w a.op b, c.if-k-eq0.true), omega arith)

pub returns-then-k-eq1 : goal.returns-then-k-eq1
returns-then-k-eq1 c = λ s.
    let a = c.args in
    let b : bitwise a.op ≡ true = sym c.is_bitwise.ensures ∙ c.if-not-is_bitwise.false in
    rw (binary_yes a.e a.a a.b a.lsb a.w a.op b, c.if-k-eq1.true)

pub returns : goal.returns
returns c = λ s.
    let a = c.args in
    let b : bitwise a.op ≡ true = sym c.is_bitwise.ensures ∙ c.if-not-is_bitwise.false in
    let z : 2 ≤ a.k = omega (arith, c.if-k-eq0.false, c.if-k-eq1.false) in
    rw (binary_yes a.e a.a a.b a.lsb a.w a.op b) (none_left _ a.k (omega arith))
