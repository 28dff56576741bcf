-- `listing_nets::inputs` meets its contract. Assumes nothing.
use Rattle.listing_nets.specs.Pieces.{inputs_stop, inputs_next, inputs_end}
use Rattle.listing_nets.proofs.inputs.Goals as goal

pub returns-then-net : goal.returns-then-net
returns-then-net c = inputs_stop c.args.nets.now c.loop-net-test.true c.if-net.true c.loop-net.invariant

pub loop-net-preserved : goal.loop-net-preserved
loop-net-preserved c = inputs_next c.args.nets.now c.loop-net-test.true c.if-net.false c.loop-net.invariant c.put_number-to.ensures

pub returns : goal.returns
returns c = inputs_end c.args.nets.now c.loop-net-test.false c.loop-net.invariant
