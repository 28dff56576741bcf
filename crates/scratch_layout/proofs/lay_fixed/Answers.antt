-- `scratch_layout::lay_fixed` meets its contract: five stores. Assumes nothing.
use Prim.Native.Nat.{◌+◌, ◌*◌}
use native.Mathlib.Omega.{arith}
use lib.ListN.{length-set}
use Rattle.scratch_view.specs.Laws.{need_is}
use Rattle.scratch_layout.proofs.Ways.{fixed_on, fixed_off}
use Rattle.scratch_layout.proofs.lay_fixed.Goals as goal

pub bounds-scr-0 : goal.bounds-scr-0
bounds-scr-0 c = omega (arith, c.requires.2, need_is c.args.image.now c.args.n)

pub bounds-scr-1 : goal.bounds-scr-1
bounds-scr-1 c = simp length-set (omega (arith, c.requires.2, need_is c.args.image.now c.args.n))

pub bounds-scr-2 : goal.bounds-scr-2
bounds-scr-2 c = simp length-set (omega (arith, c.requires.2, need_is c.args.image.now c.args.n))

pub bounds-scr-3 : goal.bounds-scr-3
bounds-scr-3 c = simp length-set (omega (arith, c.requires.2, need_is c.args.image.now c.args.n))

pub bounds-scr-4 : goal.bounds-scr-4
bounds-scr-4 c = simp length-set (omega (arith, c.requires.2, need_is c.args.image.now c.args.n))

pub returns-then-ob : goal.returns-then-ob
returns-then-ob c =
    let a = c.args in
    let b = c.signal_bits-bits.result in
    let k = c.count.result in
    fixed_on a.image.now a.n a.scr.now c.requires.0 c.requires.1 c.requires.2 c.requires.3 b (64 + 4 * a.n + 4 * b) (64 + 4 * a.n + 4 * b + 8 * k) c.signal_bits-bits.ensures
    (omega (arith, c.signal_bits-bits.ensures)) (omega (arith, c.signal_bits-bits.ensures, c.count.ensures)) a.ob c.if-ob.true

pub returns-else-ob : goal.returns-else-ob
returns-else-ob c =
    let a = c.args in
    let b = c.signal_bits-bits.result in
    let k = c.count.result in
    fixed_off a.image.now a.n a.scr.now c.requires.0 c.requires.1 c.requires.2 c.requires.3 b (64 + 4 * a.n + 4 * b) (64 + 4 * a.n + 4 * b + 8 * k) c.signal_bits-bits.ensures
    (omega (arith, c.signal_bits-bits.ensures)) (omega (arith, c.signal_bits-bits.ensures, c.count.ensures)) a.ob c.if-ob.false
