-- `trace_open::words_by_header` meets its contract. Assumes nothing.
use Rattle.trace_open.specs.Image.{first_fit, first_words}
use Rattle.trace_open.proofs.words_by_header.Goals as goal

pub read_words-words-requires : goal.read_words-words-requires
read_words-words-requires c = first_fit c.args.input.now c.args.net.now c.stretch.ensures c.requires

pub returns : goal.returns
returns c = first_words c.args.input.now c.stretch.ensures c.read_words-words.ensures c.image_words.ensures
