-- `listing_nets::net_lines` meets its contract. Assumes nothing.
use Rattle.listing_nets.specs.Pieces.{Lines}
use Rattle.spec_rules.specs.Listing.{net_line}
use Rattle.listing_nets.proofs.net_lines.Given as goal

abbrev pub invariant-loop-n : goal.invariant-loop-n
invariant-loop-n l = Lines (net_line l.image l.net) l.count l.initial.out l.at l.out l.to l.n
