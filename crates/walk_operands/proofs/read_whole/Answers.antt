-- `walk_operands::read_whole` meets its contract. Assumes nothing.
use native.Mathlib.Omega.{arith}
use Rattle.walk_operands.proofs.WholeWays.{least, most, fit, signal_in, signal_read, slice_in, slice_read, constant_read, unary_in, unary_fit, unary_width_law, unary_made, binary_in, binary_fit, binary_made, mux_in, mux_made, parts_in, parts_wide, parts_read}
use Rattle.walk_operands.proofs.read_whole.Goals as goal

pub copy_signal-requires : goal.copy_signal-requires
copy_signal-requires c =
    let h = c.requires.0 in
    let d = c.expression_at-width.ensures in
    let i = signal_in _ _ _ h _ d _ _ c.in-Signal.is in
    (h.tabled.laid, i.0, i.1, omega (arith, fit _ _ _ h _ d c.requires.1))

pub unary_operand-requires : goal.unary_operand-requires
unary_operand-requires c =
    let h = c.requires.0 in
    let d = c.expression_at-width.ensures in
    (h.tabled.laid, unary_in _ _ _ h _ d _ _ c.in-Unary.is, unary_width_law _ _ _ h _ d _ _ c.in-Unary.is, least _ _ _ h _ d, fit _ _ _ h _ d c.requires.1, unary_fit _ _ _ h _ d _ _ c.in-Unary.is c.requires.1)

pub two_operands-requires : goal.two_operands-requires
two_operands-requires c =
    let h = c.requires.0 in
    let d = c.expression_at-width.ensures in
    let q = c.in-Binary.is in
    let i = binary_fit _ _ _ h _ d _ _ _ q c.requires.1 in
    (binary_in _ _ _ h _ d _ _ _ q, c.requires.1.most, i.0, i.1, c.requires.2)

pub mux_operands-requires : goal.mux_operands-requires
mux_operands-requires c =
    let h = c.requires.0 in
    let d = c.expression_at-width.ensures in
    (h.tabled.laid, mux_in _ _ _ h _ d _ _ _ c.in-Mux.is, least _ _ _ h _ d, fit _ _ _ h _ d c.requires.1, c.requires.2)

pub copy_parts-requires : goal.copy_parts-requires
copy_parts-requires c =
    let h = c.requires.0 in
    let d = c.expression_at-width.ensures in
    let i = parts_wide _ _ _ h _ d _ _ c.in-Concat.is in
    (h.tabled.laid, parts_in _ _ _ h _ d _ _ c.in-Concat.is, omega (arith, i, fit _ _ _ h _ d c.requires.1), omega (arith, i, most _ _ _ h _ d))

pub copy_range-requires : goal.copy_range-requires
copy_range-requires c =
    let h = c.requires.0 in
    let d = c.expression_at-width.ensures in
    let i = slice_in _ _ _ h _ d _ _ c.in-Slice.is in
    (h.tabled.laid, i.0, i.1, omega (arith, fit _ _ _ h _ d c.requires.1))

pub returns-in-Signal : goal.returns-in-Signal
returns-in-Signal c = signal_read _ _ _ c.requires.0 _ c.expression_at-width.ensures _ _ c.in-Signal.is c.requires.1 _ _ _ _ c.copy_signal.ensures c.copied.ensures

pub returns-in-Constant : goal.returns-in-Constant
returns-in-Constant c = constant_read _ _ _ c.requires.0 _ c.expression_at-width.ensures _ c.in-Constant.is c.requires.1 _ _

pub returns-in-Unary : goal.returns-in-Unary
returns-in-Unary c = unary_made _ _ _ c.requires.0 _ c.expression_at-width.ensures _ _ c.in-Unary.is _ _ _ (c.unary_operand.ensures _)

pub returns-in-Binary : goal.returns-in-Binary
returns-in-Binary c = binary_made _ _ _ c.requires.0 _ c.expression_at-width.ensures _ _ _ c.in-Binary.is _ _ _ c.two_operands.ensures

pub returns-in-Mux : goal.returns-in-Mux
returns-in-Mux c = mux_made _ _ _ c.requires.0 _ c.expression_at-width.ensures _ _ _ c.in-Mux.is _ _ _ c.mux_operands.ensures

pub returns-in-Concat : goal.returns-in-Concat
returns-in-Concat c = parts_read _ _ _ c.requires.0 _ c.expression_at-width.ensures _ _ c.in-Concat.is c.requires.1 _ _ _ c.copy_parts.ensures c.copied-in-Concat.ensures

pub returns-in-Slice : goal.returns-in-Slice
returns-in-Slice c = slice_read _ _ _ c.requires.0 _ c.expression_at-width.ensures _ _ c.in-Slice.is c.requires.1 _ _ _ _ c.copy_range.ensures c.copied-in-Slice.ensures
