-- `listing_text::decimal` meets its contract. Assumes nothing.
use Rattle.std.proofs.Common.{arith}
use Rattle.listing_text.specs.Text.{wrote_same, wrote_more, digits_one, digits_more}
use Rattle.listing_text.proofs.+decimal.Goals as goal

pub returns-then-n-lt10 : goal.returns-then-n-lt10
returns-then-n-lt10 t c = wrote_same (digits_one _ (omega arith)) c.put_byte.ensures

pub returns : goal.returns
returns t c = wrote_same (digits_more _ (omega arith)) (wrote_more c.decimal-to.ensures c.put_byte-2.ensures)
