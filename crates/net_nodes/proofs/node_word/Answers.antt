-- `net_nodes::node_word` meets its contract. Assumes nothing.
use Rattle.net_nodes.proofs.Laws.{word_there, word_past}
use Rattle.net_nodes.proofs.node_word.Goals as goal

pub returns-then-k-net : goal.returns-then-k-net
returns-then-k-net c = word_there c.args.net.now c.args.k c.args.f c.requires.1 c.if-k-net.true

pub returns : goal.returns
returns c = word_past c.args.net.now c.args.k c.args.f c.requires.1 c.if-k-net.false
