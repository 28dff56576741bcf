-- `trace_open::read_image` meets its contract. Assumes nothing.
use Rattle.trace_open.specs.Image.{all_fit, all_words}
use Rattle.trace_open.proofs.read_image.Goals as goal

pub read_words-requires : goal.read_words-requires
read_words-requires c = all_fit c.args.input.now c.args.words c.args.net.now c.stretch.ensures c.requires.0 c.requires.1

pub returns : goal.returns
returns c = all_words c.args.input.now c.args.words c.stretch.ensures c.read_words.ensures
