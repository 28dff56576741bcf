-- `net_cell_index::key_length` meets its contract. Assumes nothing.
use Rattle.net_cell_index.proofs.Laws.{key_arithmetic, key_comparison}
use Rattle.net_cell_index.proofs.key_length.Goals as goal

pub returns-then-net-at-eq-ARITHMETIC_RECORD : goal.returns-then-net-at-eq-ARITHMETIC_RECORD
returns-then-net-at-eq-ARITHMETIC_RECORD c = key_arithmetic c.args.net.now c.args.at c.requires c.if-net-at-eq-ARITHMETIC_RECORD.true

pub returns-else-net-at-eq-ARITHMETIC_RECORD : goal.returns-else-net-at-eq-ARITHMETIC_RECORD
returns-else-net-at-eq-ARITHMETIC_RECORD c = key_comparison c.args.net.now c.args.at c.requires c.if-net-at-eq-ARITHMETIC_RECORD.false
