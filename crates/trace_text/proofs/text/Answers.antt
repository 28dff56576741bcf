-- `trace_text::text` meets its contract. Assumes nothing.
use mathlib.Core.Path.{refl}
use native.Mathlib.Omega.{arith}
use Rattle.trace_text.specs.Input.{program_words}
use Rattle.trace_open.specs.Image.{few_words}
use Rattle.trace_text.proofs.text.Goals as goal

pub read_image-image-requires : goal.read_image-image-requires
read_image-image-requires c = (omega (arith, few_words c.args.input.now, c.words_by_header-words.ensures), omega (arith, c.image_table-net.ensures, c.words_by_header-words.auto.net))

pub overflow_mul-words : goal.overflow_mul-words
overflow_mul-words c = omega (arith, few_words c.args.input.now, c.words_by_header-words.ensures)

pub returns : goal.returns
returns c = program_words c.args.input.now c.words_by_header-words.result _ _ c.words_by_header-words.ensures c.read_image-image.ensures c.stretch-trace.ensures refl c.judged_text.ensures
