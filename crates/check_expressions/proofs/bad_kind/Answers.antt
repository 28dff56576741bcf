-- `check_expressions::bad_kind` meets its contract. Assumes nothing.
use mathlib.Core.Path.{◌∙◌}
use native.Mathlib.Omega.{arith}
use Rattle.check_expressions.specs.Kinds.{kind_read, kind_constant, kind_unary, kind_binary, kind_mux, kind_concat, kind_slice, kind_none}
use Rattle.check_expressions.proofs.bad_kind.Goals as goal

pub returns-in-0 : goal.returns-in-0
returns-in-0 c = c.bad_read.ensures ∙ kind_read _ _ _ _ _ _ _ c.in-0.is

pub returns-in-1 : goal.returns-in-1
returns-in-1 c = c.bad_constant.ensures ∙ kind_constant _ _ _ _ _ _ _ c.in-1.is

pub returns-in-2 : goal.returns-in-2
returns-in-2 c = c.bad_unary_of.ensures ∙ kind_unary _ _ _ _ _ _ _ c.in-2.is

pub returns-in-3 : goal.returns-in-3
returns-in-3 c = c.bad_binary_of.ensures ∙ kind_binary _ _ _ _ _ _ _ c.in-3.is

pub returns-in-4 : goal.returns-in-4
returns-in-4 c = c.bad_mux.ensures ∙ kind_mux _ _ _ _ _ _ _ c.in-4.is

pub returns-in-5 : goal.returns-in-5
returns-in-5 c = c.bad_concat_of.ensures ∙ kind_concat _ _ _ _ _ _ _ c.in-5.is

pub returns-in-6 : goal.returns-in-6
returns-in-6 c = c.bad_slice.ensures ∙ kind_slice _ _ _ _ _ _ _ c.in-6.is

pub returns-in_default : goal.returns-in_default
returns-in_default c = kind_none _ _ _ _ _ _ _ (omega arith)
