-- `walk_recursion::turn_range` meets its contract. Assumes nothing.
use mathlib.Core.Path.{refl}
use mathlib.Core.List.{[]}
use Rattle.std.specs.Prelude.{Ok, Err}
use Rattle.spec_model.specs.Lowering as M
use Rattle.net_view.specs.View.{netlist_of}
use Rattle.scratch_view.specs.View.{limit_of}
use Rattle.walk_recursion.specs.declared.Part.TheVariants as P
use Rattle.walk_recursion.proofs.Ways.{range_over, range_left, range_below, loop_pass, loop_met, loop_end, turn_refused}
use Rattle.walk_recursion.proofs.turn_range.Goals as goal

pub returns-then-range_known : goal.returns-then-range_known
returns-then-range_known c =
    let a = c.args in
    let i = a.image.now in
    let n = a.net.now in
    let w = a.scr.now in
    let known = c.range_known in
    λ net₀ w₀ h. range_over i net₀ w₀ a.e a.lsb a.w a.k a.at n w h known.result (known.ensures (netlist_of (limit_of w) n)) c.if-range_known.true

pub build_range-requires : goal.build_range-requires
build_range-requires c =
    let a = c.args in
    let pre = c.requires in
    let i = a.image.now in
    let n = a.net.now in
    let w = a.scr.now in
    let known = c.range_known in
    let none_yet = c.if-range_known.false in
    let first = known.ensures (netlist_of (limit_of w) n) in
    let left = rw c.in-None.is at c.range_left.ensures in
    let now-left = range_left i pre.net₀ pre.w₀ a.e a.lsb a.w a.k a.at n w pre.so known.result first none_yet in
    let over = loop_pass i pre.net₀ pre.w₀ (M.Range a.e a.lsb a.w) _ _ n w _ [] now-left.0 left in
    (over.ready, over.sure, pre.so.there.0, now-left.1, pre.so.there.1, loop_met i pre.net₀ pre.w₀ (M.Range a.e a.lsb a.w) _ _ _ [] n w n w over refl)

pub returns-in-Some : goal.returns-in-Some
returns-in-Some c =
    let a = c.args in
    let i = a.image.now in
    let n = a.net.now in
    let w = a.scr.now in
    let known = c.range_known in
    let none_yet = c.if-range_known.false in
    let first = known.ensures (netlist_of (limit_of w) n) in
    let left = rw c.in-Some.is at c.range_left.ensures in
    λ net₀ w₀ h. range_below i net₀ w₀ a.e a.lsb a.w a.k a.at n w c.in-Some.left (range_left i net₀ w₀ a.e a.lsb a.w a.k a.at n w h known.result first none_yet) left

pub returns-in_ok-build_range-in-None : goal.returns-in_ok-build_range-in-None
returns-in_ok-build_range-in-None c =
    let a = c.args in
    let i = a.image.now in
    let n = a.net.now in
    let w = a.scr.now in
    let left = rw c.in-None.is at c.range_left.ensures in
    λ net₀ w₀ h. loop_end i net₀ w₀ (M.Range a.e a.lsb a.w) _ _ _ [] n w _ _
    (loop_pass i net₀ w₀ (M.Range a.e a.lsb a.w) _ _ n w _ [] (range_left i net₀ w₀ a.e a.lsb a.w a.k a.at n w h c.range_known.result (c.range_known.ensures (netlist_of (limit_of w) n)) c.if-range_known.false).0 left) (Ok tt) refl c.in_ok-build_range-in-None.ensures

pub returns-in_err-build_range-in-None : goal.returns-in_err-build_range-in-None
returns-in_err-build_range-in-None c =
    let a = c.args in
    let i = a.image.now in
    let n = a.net.now in
    let w = a.scr.now in
    let left = rw c.in-None.is at c.range_left.ensures in
    λ net₀ w₀ h. turn_refused i net₀ w₀ (P.Range a.e a.lsb a.w) a.k c.from_residual.result c.in_err-build_range-in-None.field-0.0 _ _ c.from_residual.ensures
    (loop_end i net₀ w₀ (M.Range a.e a.lsb a.w) _ _ _ [] n w _ _
    (loop_pass i net₀ w₀ (M.Range a.e a.lsb a.w) _ _ n w _ [] (range_left i net₀ w₀ a.e a.lsb a.w a.k a.at n w h c.range_known.result (c.range_known.ensures (netlist_of (limit_of w) n)) c.if-range_known.false).0 left) (Err c.in_err-build_range-in-None.field-0.0) refl c.in_err-build_range-in-None.ensures)
