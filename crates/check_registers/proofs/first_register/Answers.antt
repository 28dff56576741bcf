-- `check_registers::first_register` meets its contract. Assumes nothing.
use mathlib.Core.Path.{sym, ap₂, ◌∙◌}
use Rattle.check_registers.specs.Register.{first_earlier}
use Rattle.check_names.specs.Earlier.{earlier_of, earlier_none}
use Rattle.check_registers.proofs.first_register.Goals as goal

pub returns : goal.returns
returns c = (
  c.earlier.ensures ∙ (ap₂ earlier_of c.first_name.ensures c.first_rest.ensures.0 ∙ sym (first_earlier _ _)),
  λ h. c.first_rest.ensures.1 (earlier_none _ _ (sym c.earlier.ensures ∙ h)),
)
