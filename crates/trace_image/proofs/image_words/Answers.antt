-- `trace_image::image_words` meets its contract. Assumes nothing.
use mathlib.Core.Path.{ap₂, ◌∙◌}
use Prim.Native.Nat.{◌+◌}
use Rattle.trace_image.specs.Whole.{words_right}
use Rattle.trace_image.proofs.Refusals.{words_refused}
use Rattle.trace_image.proofs.image_words.Goals as goal

pub returns-in-Ok : goal.returns-in-Ok
returns-in-Ok c = ap₂ ◌+◌ c.word_at.ensures c.word_at-in-Ok.ensures ∙ words_right 1024 2048 _ c.in-Ok.ensures

pub returns-in-Err : goal.returns-in-Err
returns-in-Err c = words_refused _ _ c.in-Err.ensures
