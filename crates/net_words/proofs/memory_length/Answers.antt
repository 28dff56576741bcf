-- `net_words::memory_length` meets its contract. Assumes nothing.
use native.Mathlib.Omega.{arith}
use Rattle.net_words.specs.Lengths.{memory_length}
use Rattle.net_words.proofs.memory_length.Goals as goal

pub returns : goal.returns
unfolding memory_length
returns c = (cc, omega arith)
