-- `check_expressions::bad_fields` meets its contract. Assumes nothing.
use Rattle.check_expressions.specs.Kinds.{bad_fields}
use Rattle.check_expressions.proofs.bad_fields.Goals as goal

pub returns : goal.returns
unfolding bad_fields
returns c = rw (c.record_field.ensures, c.record_field-2.ensures, c.record_field-3.ensures, c.record_field-4.ensures) at c.bad_kind.ensures
