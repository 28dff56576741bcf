-- `phase_memory_records::put_read` meets its contract. Assumes nothing.
use native.Mathlib.Omega.{arith}
use lib.ListN.{length}
use Rattle.image_records.specs.Others.{port_means}
use Rattle.phase_memory_records.specs.Puts.{puts_then}
use Rattle.phase_memory_records.proofs.Lent.{rest_fits}
use Rattle.phase_memory_records.proofs.put_read.Goals as goal

pub put_expr-n-requires : goal.put_expr-n-requires
unfolding port_means
put_expr-n-requires c =
    let pre = c.requires in
    (pre.0, pre.1.read_address.there, pre.2.read_address, omega (arith, pre.3, pre.1.read_address.most))

pub offset_bounds-out-n : goal.offset_bounds-out-n
unfolding port_means
offset_bounds-out-n c = omega (arith, c.requires.3, c.requires.1.read_address.most, c.put_expr-n.ensures.0, c.put_expr-n.auto.out)

pub slice_bounds-put_signal-count : goal.slice_bounds-put_signal-count
unfolding port_means
slice_bounds-put_signal-count c = omega (arith, c.requires.3, c.requires.1.read_address.most, c.put_expr-n.ensures.0, c.put_expr-n.auto.out)

pub slice_bounds-put_signal-start : goal.slice_bounds-put_signal-start
unfolding port_means
slice_bounds-put_signal-start c = omega (arith, c.requires.3, c.requires.1.read_address.most, c.put_expr-n.ensures.0, c.put_expr-n.auto.out)

pub put_signal-requires : goal.put_signal-requires
unfolding port_means
put_signal-requires c =
    let pre = c.requires in
    let m = pre.0.image.signal_most c.args.p.read_data pre.1.read_data in
    (pre.0, pre.1.read_data, rest_fits _ c.put_expr-n.result _ (length c.args.out.now) c.put_expr-n.auto.out (omega (arith, m, pre.3, pre.1.read_address.most, c.put_expr-n.ensures.0)))

pub overflow_add-result : goal.overflow_add-result
unfolding port_means
overflow_add-result c =
    let pre = c.requires in
    let m = pre.0.image.signal_most c.args.p.read_data pre.1.read_data in
    omega (arith, m, pre.1.read_address.most, c.put_expr-n.ensures.0, c.put_signal.ensures.0)

pub returns : goal.returns
unfolding port_means
returns c =
    let pre = c.requires in
    let m = pre.0.image.signal_most c.args.p.read_data pre.1.read_data in
    (omega (arith, pre.1.read_address.most, m, c.put_expr-n.ensures.0, c.put_signal.ensures.0), λ l. puts_then _ (c.put_expr-n.ensures.1 l) (c.put_signal.ensures.1 l))
