-- `net_gate_index::mix` meets its contract. Assumes nothing.
use Rattle.net_index.specs.Index.{mixed}
use mathlib.Core.Path.{refl}
use Rattle.net_gate_index.proofs.mix.Goals as goal

pub returns : goal.returns
unfolding mixed
returns c = refl
