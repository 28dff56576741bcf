-- `walk_operands::read_range` meets its contract. Assumes nothing.
use native.Mathlib.Omega.{arith}
use Rattle.walk_operands.proofs.ByKind.{own_range, signal_in, signal_few, signal_read, slice_in, slice_few, slice_read, constant_read, unary_in, unary_made, binary_in, binary_made, mux_in, mux_made, parts_in, parts_wide, pieces_read}
use Rattle.walk_operands.proofs.read_range.Goals as goal

pub overflow_add-first : goal.overflow_add-first
overflow_add-first c = omega (arith, signal_few _ _ _ _ _ c.requires.0 _ c.expression_at-width.ensures _ _ c.in-Signal.is)

pub copy_signal-requires : goal.copy_signal-requires
copy_signal-requires c =
    let h = c.requires.0 in
    let i = signal_in _ _ _ _ _ h _ c.expression_at-width.ensures _ _ c.in-Signal.is in
    (h.tabled.laid, i.0, i.1, omega (arith, c.requires.1))

pub range_unary-requires : goal.range_unary-requires
range_unary-requires c =
    let h = c.requires.0 in
    (h.tabled.laid, own_range _ _ _ _ _ h, unary_in _ _ _ _ _ h _ c.expression_at-width.ensures _ _ c.in-Unary.is, h.least, c.requires.1)

pub range_binary-requires : goal.range_binary-requires
range_binary-requires c =
    let h = c.requires.0 in
    let b = binary_in _ _ _ _ _ h _ c.expression_at-width.ensures _ _ _ c.in-Binary.is in
    (h.tabled.laid, own_range _ _ _ _ _ h, (λ q. (b q).0), (λ q. (b q).1), h.least, c.requires.1, c.requires.2)

pub range_mux-requires : goal.range_mux-requires
range_mux-requires c =
    let h = c.requires.0 in
    let m = mux_in _ _ _ _ _ h _ c.expression_at-width.ensures _ _ _ c.in-Mux.is in
    (h.tabled.laid, m.0, m.1, m.2, h.least, c.requires.1, c.requires.2)

pub copy_pieces-requires : goal.copy_pieces-requires
copy_pieces-requires c =
    let h = c.requires.0 in
    let i = parts_wide _ _ _ _ _ h _ c.expression_at-width.ensures _ _ c.in-Concat.is in
    (h.tabled.laid, parts_in _ _ _ _ _ h _ c.expression_at-width.ensures _ _ c.in-Concat.is, omega (arith, i, h.inside), omega (arith, i, h.tabled.readable.most _ h.tabled.inside), c.requires.1)

pub overflow_add-first-in-Slice : goal.overflow_add-first-in-Slice
overflow_add-first-in-Slice c = omega (arith, slice_few _ _ _ _ _ c.requires.0 _ c.expression_at-width.ensures _ _ c.in-Slice.is)

pub copy_range-requires : goal.copy_range-requires
copy_range-requires c =
    let h = c.requires.0 in
    let i = slice_in _ _ _ _ _ h _ c.expression_at-width.ensures _ _ c.in-Slice.is in
    (h.tabled.laid, i.there, i.inside, omega (arith, c.requires.1))

pub returns-in-Signal : goal.returns-in-Signal
returns-in-Signal c = signal_read _ _ _ _ _ c.requires.0 _ c.expression_at-width.ensures _ _ c.in-Signal.is c.requires.1 _ _ _ _ c.copy_signal.ensures c.copied.ensures

pub returns-in-Constant : goal.returns-in-Constant
returns-in-Constant c = constant_read _ _ _ _ _ c.requires.0 _ c.expression_at-width.ensures _ c.in-Constant.is c.requires.1 _ _

pub returns-in-Unary : goal.returns-in-Unary
returns-in-Unary c = unary_made _ _ _ _ _ c.requires.0 _ c.expression_at-width.ensures _ _ c.in-Unary.is _ _ _ (c.range_unary.ensures _)

pub returns-in-Binary : goal.returns-in-Binary
returns-in-Binary c = binary_made _ _ _ _ _ c.requires.0 _ c.expression_at-width.ensures _ _ _ c.in-Binary.is _ _ _ c.range_binary.ensures

pub returns-in-Mux : goal.returns-in-Mux
returns-in-Mux c = mux_made _ _ _ _ _ c.requires.0 _ c.expression_at-width.ensures _ _ _ c.in-Mux.is _ _ _ c.range_mux.ensures

pub returns-in-Concat : goal.returns-in-Concat
returns-in-Concat c = pieces_read _ _ _ _ _ c.requires.0 _ c.expression_at-width.ensures _ _ c.in-Concat.is c.requires.1 _ _ _ c.copy_pieces.ensures c.copied-in-Concat.ensures

pub returns-in-Slice : goal.returns-in-Slice
returns-in-Slice c = slice_read _ _ _ _ _ c.requires.0 _ c.expression_at-width.ensures _ _ c.in-Slice.is c.requires.1 _ _ _ _ c.copy_range.ensures c.copied-in-Slice.ensures
