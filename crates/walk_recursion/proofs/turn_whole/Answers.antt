-- `walk_recursion::turn_whole` meets its contract. Assumes nothing.
use mathlib.Core.Path.{refl}
use mathlib.Core.List.{[]}
use Rattle.std.specs.Prelude.{Ok, Err}
use Rattle.spec_model.specs.Lowering as M
use Rattle.walk_recursion.specs.declared.Part.TheVariants as P
use Rattle.walk_recursion.proofs.Ways.{whole_over, whole_left, whole_below, loop_pass, loop_met, loop_end, turn_refused}
use Rattle.walk_recursion.proofs.turn_whole.Goals as goal

pub returns-then-whole_known : goal.returns-then-whole_known
returns-then-whole_known c =
    let a = c.args in
    let i = a.image.now in
    let n = a.net.now in
    let w = a.scr.now in
    let known = c.whole_known in
    λ net₀ w₀ h. whole_over i net₀ w₀ a.e a.k 0 n w h known.result known.ensures c.if-whole_known.true

pub build_whole-requires : goal.build_whole-requires
build_whole-requires c =
    let a = c.args in
    let pre = c.requires in
    let i = a.image.now in
    let n = a.net.now in
    let w = a.scr.now in
    let known = c.whole_known in
    let none_yet = c.if-whole_known.false in
    let left = rw c.in-None.is at c.whole_left.ensures in
    let now-left = whole_left i pre.net₀ pre.w₀ a.e a.k 0 n w pre.so known.result known.ensures none_yet in
    let over = loop_pass i pre.net₀ pre.w₀ (M.Whole a.e) _ _ n w _ [] now-left left in
    (over.ready, over.sure, pre.so.there, loop_met i pre.net₀ pre.w₀ (M.Whole a.e) _ _ _ [] n w n w over refl)

pub returns-in-Some : goal.returns-in-Some
returns-in-Some c =
    let a = c.args in
    let i = a.image.now in
    let n = a.net.now in
    let w = a.scr.now in
    let known = c.whole_known in
    let none_yet = c.if-whole_known.false in
    let left = rw c.in-Some.is at c.whole_left.ensures in
    λ net₀ w₀ h. whole_below i net₀ w₀ a.e a.k n w c.in-Some.left (whole_left i net₀ w₀ a.e a.k 0 n w h known.result known.ensures none_yet) left

pub returns-in_ok-build_whole-in-None : goal.returns-in_ok-build_whole-in-None
returns-in_ok-build_whole-in-None c =
    let a = c.args in
    let i = a.image.now in
    let n = a.net.now in
    let w = a.scr.now in
    let left = rw c.in-None.is at c.whole_left.ensures in
    λ net₀ w₀ h. loop_end i net₀ w₀ (M.Whole a.e) _ _ _ [] n w _ _
    (loop_pass i net₀ w₀ (M.Whole a.e) _ _ n w _ [] (whole_left i net₀ w₀ a.e a.k 0 n w h c.whole_known.result c.whole_known.ensures c.if-whole_known.false) left) (Ok tt) refl c.in_ok-build_whole-in-None.ensures

pub returns-in_err-build_whole-in-None : goal.returns-in_err-build_whole-in-None
returns-in_err-build_whole-in-None c =
    let a = c.args in
    let i = a.image.now in
    let n = a.net.now in
    let w = a.scr.now in
    let left = rw c.in-None.is at c.whole_left.ensures in
    λ net₀ w₀ h. turn_refused i net₀ w₀ (P.Whole a.e) a.k c.from_residual.result c.in_err-build_whole-in-None.field-0.0 _ _ c.from_residual.ensures
    (loop_end i net₀ w₀ (M.Whole a.e) _ _ _ [] n w _ _
    (loop_pass i net₀ w₀ (M.Whole a.e) _ _ n w _ [] (whole_left i net₀ w₀ a.e a.k 0 n w h c.whole_known.result c.whole_known.ensures c.if-whole_known.false) left) (Err c.in_err-build_whole-in-None.field-0.0) refl c.in_err-build_whole-in-None.ensures)
