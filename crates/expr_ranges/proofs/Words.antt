-- The word that stands for a width, if there is one. Assumes nothing.
use Rattle.std.specs.Prelude.{◌≡◌, ℕ, Option, Some, None, refl}
use Rattle.std.specs.Option.{unwrap_or}
use Rattle.spec_tests.specs.Options.{option_of}
use Rattle.expr_range_rows.specs.Rows.{narrow_word}

pub word_stored : (o : Option ℕ) → unwrap_or o 0 ≡ narrow_word (option_of o)
word_stored (Some k) = refl
word_stored None = refl
