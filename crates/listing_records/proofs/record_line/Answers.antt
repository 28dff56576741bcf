-- `listing_records::record_line` meets its contract. Assumes nothing.
use mathlib.Core.Path.{sym, ◌∙◌}
use Rattle.listing_records.specs.Pieces.{record_port, record_cell}
use Rattle.listing_text.specs.Text.{wrote_same}
use Rattle.listing_records.proofs.record_line.Goals as goal

pub returns-then-word_at-eq-PORT_RECORD : goal.returns-then-word_at-eq-PORT_RECORD
returns-then-word_at-eq-PORT_RECORD c = wrote_same (record_port _ _ (sym c.word_at.ensures ∙ c.if-word_at-eq-PORT_RECORD.true)) c.port_line.ensures

pub returns : goal.returns
returns c = wrote_same (record_cell _ _ (λ e. c.if-word_at-eq-PORT_RECORD.false (c.word_at.ensures ∙ e))) c.cell_line.ensures
