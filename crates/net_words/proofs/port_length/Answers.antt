-- `net_words::port_length` meets its contract. Assumes nothing.
use native.Mathlib.Omega.{arith}
use Rattle.spec_rules.specs.NetlistImage.{port_length, port_lists}
use Rattle.net_words.proofs.port_length.Goals as goal

pub returns : goal.returns
unfolding port_length port_lists
returns c = (omega arith, omega arith)
