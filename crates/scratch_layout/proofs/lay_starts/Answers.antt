-- `scratch_layout::lay_starts` meets its contract: invariant: the first bits of the expressions passed stand. Assumes nothing.
use mathlib.Core.Path.{◌≡◌, sym}
use Prim.Native.Nat.{◌+◌, ◌*◌, ◌<◌}
use native.Mathlib.Omega.{arith}
use lib.ListN.{get_or}
use Rattle.spec_tests.specs.Laws.{sum_none, sum_more}
use Rattle.spec_rules.specs.Image.{count_at_of, expr_width}
use Rattle.scratch_view.specs.View.{limit_of, expr_at}
use Rattle.scratch_view.specs.Laws.{expr_ends}
use Rattle.scratch_layout.proofs.Ways.{starts_begin, starts_turn, starts_end}
use Rattle.scratch_layout.proofs.lay_starts.Goals as goal

pub loop-e-init : goal.loop-e-init
loop-e-init c =
    let a = c.args in
    (sym (sum_none (expr_width a.image.now)), starts_begin a.image.now (limit_of a.scr.now) a.scr.now)

pub overflow_add-sum : goal.overflow_add-sum
overflow_add-sum c =
    let u : c.loop-e.e < count_at_of c.args.image.now 1 = omega arith in
    omega (arith, expr_ends c.args.image.now c.loop-e.e u, c.requires.image.expr_bits)

pub loop-e-preserved : goal.loop-e-preserved
loop-e-preserved c =
    let l = c.loop-e in
    let w = c.args.scr.now in
    let i = c.args.image.now in
    let u : l.e < count_at_of i 1 = omega arith in
    let p : get_or w 2 0 + 8 * l.e ≡ expr_at i (limit_of w) l.e 0 = omega (arith, c.requires.exprs) in
    (omega (arith, sum_more (expr_width i) l.e, c.expr_width-sum.ensures, l.invariant.0), starts_turn i (limit_of w) w l.scr l.e (get_or w 2 0 + 8 * l.e) l.sum c.requires l.invariant.1 u p l.invariant.0)

pub returns : goal.returns
returns c =
    let l = c.loop-e in
    starts_end c.args.image.now (limit_of c.args.scr.now) c.args.scr.now l.scr l.e l.invariant.1 (omega arith)
