-- `check_memories::first_memory` meets its contract. Assumes nothing.
use mathlib.Core.Path.{sym, ap₂, ◌∙◌}
use Rattle.check_memories.specs.Memory.{first_earlier}
use Rattle.check_names.specs.Earlier.{earlier_of}
use Rattle.check_memories.proofs.first_memory.Goals as goal

pub returns : goal.returns
returns c = c.earlier.ensures ∙ (ap₂ earlier_of c.first_name.ensures c.first_rest.ensures ∙ sym (first_earlier _ _))
