-- The kinds of shift in the code and in the model. Assumes nothing.
use Rattle.spec_model.specs.Lowering as M
use Rattle.op_shifts.specs.declared.ShiftKind.{ShiftKind}
use Rattle.op_shifts.specs.declared.ShiftKind.TheVariants.{Left, Right, Arithmetic}

abbrev pub shift_of : ShiftKind → M.Shift
shift_of Left = M.LeftS
shift_of Right = M.RightS
shift_of Arithmetic = M.ArithmeticS
