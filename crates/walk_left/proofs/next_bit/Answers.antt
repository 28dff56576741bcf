-- `walk_left::next_bit` meets its contract. Assumes nothing.
use mathlib.Core.Path.{ap, ◌∙◌}
use mathlib.Core.Bool.{not}
use native.Mathlib.Omega.{arith}
use Rattle.walk_left.proofs.Lefts.{bits_begin, bits_on, bits_found, bits_over, bit_met}
use Rattle.walk_left.proofs.next_bit.Goals as goal

pub loop-k-init : goal.loop-k-init
loop-k-init c =
    let a = c.args in
    (bits_begin a.image.now a.scr.now a.p a.first a.n a.from, omega arith)

pub overflow_add-first : goal.overflow_add-first
overflow_add-first c = let pre = c.requires in omega (arith, pre.1.most, c.loop-k-test.true)

pub signal_net-requires : goal.signal_net-requires
signal_net-requires c =
    let pre = c.requires in
    (pre.0, pre.1.signal, omega (arith, pre.1.room, c.loop-k-test.true))

pub overflow_add-result : goal.overflow_add-result
overflow_add-result c = let pre = c.requires in omega (arith, pre.1.most, c.loop-k-test.true)

pub overflow_add-result-then-is_none : goal.overflow_add-result-then-is_none
overflow_add-result-then-is_none c = let pre = c.requires in omega (arith, pre.1.most, c.loop-k-test.true)

pub returns-then-is_none : goal.returns-then-is_none
returns-then-is_none c =
    let a = c.args in
    let q = c.loop-k in
    bits_found a.image.now a.scr.now a.p a.first a.n a.from q.k q.invariant.0 q.invariant.1 c.loop-k-test.true (omega (arith, c.requires.1.most))

pub loop-k-preserved : goal.loop-k-preserved
loop-k-preserved c =
    let a = c.args in
    let q = c.loop-k in
    let net = c.signal_net in (
      bits_on a.image.now a.scr.now a.p a.first a.n a.from q.k q.invariant.0 c.loop-k-test.true
          (bit_met a.image.now a.scr.now a.p _ net.result net.ensures (c.is_none.ensures ∙ ap not c.if-is_none.false)),
      omega (arith, q.invariant.1),
    )

pub returns : goal.returns
returns c =
    let a = c.args in
    let q = c.loop-k in
    bits_over a.image.now a.scr.now a.p a.first a.n a.from q.k q.invariant.0 (omega (arith, c.loop-k-test.false))
