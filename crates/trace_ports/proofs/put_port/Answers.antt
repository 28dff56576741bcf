-- `trace_ports::put_port` meets its contract. Assumes nothing.
use Rattle.listing_text.specs.Text.{wrote_none, wrote_same}
use Rattle.trace_ports.specs.Ports.{port_other, port_of_kind}
use Rattle.trace_ports.proofs.put_port.Goals as goal

pub returns-then-node_word-kind : goal.returns-then-node_word-kind
returns-then-node_word-kind c = wrote_same (port_other _ _ _ _ _ c.part-l.ensures (rw c.word_at.ensures at c.node_word.ensures) c.if-node_word-kind.true) (wrote_none _ _ c.requires)

pub returns : goal.returns
returns c = wrote_same (port_of_kind _ _ _ _ _ _ _ c.part-l.ensures (rw c.word_at.ensures at c.node_word.ensures) c.if-node_word-kind.false c.word_at-2.ensures c.stretch.ensures) c.put_all.ensures
