-- The first sixteen words say that the image has few enough words for both tables. Assumes nothing.
use Rattle.std.proofs.Common.{arith}
use Rattle.trace_open.specs.Image.{few_words}
use Rattle.trace.proofs.read_image.Goals as goal

pub overflow_mul-words : goal.overflow_mul-words
overflow_mul-words c = omega (arith, few_words c.stretch.result.now)

pub read_up_to-all-requires : goal.read_up_to-all-requires
read_up_to-all-requires c = omega (arith, few_words c.stretch.result.now)

pub read_image-requires : goal.read_image-requires
read_image-requires c = (omega (arith, few_words c.stretch.result.now), omega arith)
