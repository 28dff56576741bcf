-- `listing_nets::inputs` meets its contract. Assumes nothing.
use Rattle.std.proofs.Common.{drop}
use Rattle.spec_rules.specs.Listing.{inputs}
use Rattle.listing_text.specs.Text.{Writing, spaced}
use Rattle.listing_nets.proofs.inputs.Given as goal

abbrev pub invariant-loop-net : goal.invariant-loop-net
invariant-loop-net l = Writing l.initial.out l.at (spaced (inputs l.nets)) l.out l.to (spaced (inputs (drop l.net-index l.nets)))
