-- `op_lower::lower_class` meets its contract. Assumes nothing.
use Rattle.std.proofs.lemmas.Result.{err_from_is_err_and}
use Rattle.op_lower.specs.Operators.{lower_class}
use Rattle.op_lower.proofs.Laws.{whole, made_done, made_out}
use Rattle.op_lower.proofs.lower_class.Goals as goal

pub returns-in-Bitwise : goal.returns-in-Bitwise
unfolding lower_class
returns-in-Bitwise c =
    let pairwise = c.pairwise in
    let s = c.args in
    rw c.in-Bitwise.is (whole _ _ _ s.xs.now _ _ _ pairwise.auto.xs pairwise.ensures)

pub returns-in-Arithmetic : goal.returns-in-Arithmetic
unfolding lower_class
returns-in-Arithmetic c =
    let lower-arithmetic = c.arithmetic in
    let s = c.args in
    rw c.in-Arithmetic.is (whole _ _ _ s.xs.now _ _ _ lower-arithmetic.auto.xs lower-arithmetic.ensures)

pub returns-in-Equal : goal.returns-in-Equal
unfolding lower_class
returns-in-Equal c =
    let equal_words = c.equal_words in
    rw c.in-Equal.is equal_words.ensures

pub returns-in-NotEqual : goal.returns-in-NotEqual
unfolding lower_class
returns-in-NotEqual c =
    let not-equal-words = c.not_equal_words in
    rw c.in-NotEqual.is not-equal-words.ensures

pub returns-in_err-xs-in-Compare : goal.returns-in_err-xs-in-Compare
unfolding lower_class
returns-in_err-xs-in-Compare c =
    let p = err_from_is_err_and c.from_residual.result c.from_residual.ensures.1 in
    rw (c.in-Compare.is, p.1, p.2) (made_out _ _ _ _ _ _ _ c.in_err-xs-in-Compare.ensures)

pub returns-in_ok-xs-in-Compare : goal.returns-in_ok-xs-in-Compare
unfolding lower_class
returns-in_ok-xs-in-Compare c = rw c.in-Compare.is (made_done _ _ _ _ _ c.args.xs.now c.requires.1 c.in_ok-xs-in-Compare.ensures)

pub returns-in_err-xs-in-CompareBack : goal.returns-in_err-xs-in-CompareBack
unfolding lower_class
returns-in_err-xs-in-CompareBack c =
    let p = err_from_is_err_and c.from_residual-in_err-xs-in-CompareBack.result c.from_residual-in_err-xs-in-CompareBack.ensures.1 in
    rw (c.in-CompareBack.is, p.1, p.2) (made_out _ _ _ _ _ _ _ c.in_err-xs-in-CompareBack.ensures)

pub returns-in_ok-xs-in-CompareBack : goal.returns-in_ok-xs-in-CompareBack
unfolding lower_class
returns-in_ok-xs-in-CompareBack c = rw c.in-CompareBack.is (made_done _ _ _ _ _ c.args.xs.now c.requires.1 c.in_ok-xs-in-CompareBack.ensures)

pub returns-in-Shift : goal.returns-in-Shift
unfolding lower_class
returns-in-Shift c =
    let shift = c.shift in
    let s = c.args in
    rw c.in-Shift.is (whole _ _ _ s.xs.now _ _ _ shift.auto.xs shift.ensures)
