-- `stored_view::not_own` meets its contract. Assumes nothing.
use native.Mathlib.Omega.{arith}
use Rattle.stored_view.specs.Opened.{own_none, own_kind, own_owner, own_bit, own_marked}
use Rattle.spec_tests.specs.Rules.{◌≢?◌}
use Rattle.stored_view.proofs.not_own.Goals as goal

pub returns-then-net-x : goal.returns-then-net-x
returns-then-net-x c = λ earlier m. own_none _ earlier _ _ _ _ c.if-net-x.true

pub returns-then-net-at : goal.returns-then-net-at
returns-then-net-at c = λ earlier m. own_kind _ earlier _ _ _ _ c.requires.0 (omega arith) c.if-net-at.true

pub returns-then-net-at-2 : goal.returns-then-net-at-2
returns-then-net-at-2 c = λ earlier m. own_owner _ earlier _ _ _ _ c.requires.0 (omega arith) c.if-net-at.false c.if-net-at-2.true

pub returns-then-net-at-3 : goal.returns-then-net-at-3
returns-then-net-at-3 c = λ earlier m. own_bit _ earlier _ _ _ _ c.requires.0 (omega arith) c.if-net-at.false c.if-net-at-2.false c.if-net-at-3.true

pub returns : goal.returns
unfolding ◌≢?◌
returns c = λ earlier m. own_marked _ earlier _ _ _ _ c.requires.0 (omega arith) c.if-net-at.false c.if-net-at-2.false c.if-net-at-3.false m
