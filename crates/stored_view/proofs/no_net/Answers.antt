-- `stored_view::no_net` meets its contract. Assumes nothing.
use Rattle.spec_tests.specs.Rules.{◌<?◌}
use Rattle.spec_netlist.specs.Accept.{no_net}
use mathlib.Core.Path.{refl}
use Rattle.stored_view.proofs.no_net.Goals as goal

pub returns : goal.returns
unfolding no_net ◌<?◌
returns c = refl
