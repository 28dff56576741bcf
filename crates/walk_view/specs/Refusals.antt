-- What a call of the walk answers: done, or a refusal.
use Rattle.std.specs.Prelude.{Result}
use Rattle.net_nodes.specs.declared.Full.{Full}
use Rattle.net_nodes.specs.declared.Full.TheVariants.{Nets, List}
use Rattle.walk_view.specs.declared.Refusal.{Refusal}
use Rattle.walk_view.specs.declared.Refusal.TheVariants.{TooManyNets, ListFull}

abbrev pub Lowered : Type 0
Lowered = Result (Unit {0}) Refusal

-- the netlist has no room
abbrev pub refusal_of : Full → Refusal
refusal_of Nets = TooManyNets
refusal_of List = ListFull
