-- The code's reset. Assumes nothing.
use Rattle.std.specs.Prelude.{◌≡◌, Option, Some, None}
use Rattle.std.proofs.Math.Option.{none, some}
use Rattle.image_records.specs.declared.Reset.{Reset}
use Rattle.image_records.specs.Others.{control_means, reset_means}
use Rattle.phase_register_records.specs.Registers.{reset_of}

pub absent_means : (o : Option Reset) → o ≡ None → reset_means o ≡ none
unfolding reset_means
absent_means o q = rw q

pub present_means : (o : Option Reset) (x : Reset) → o ≡ Some x → reset_means o ≡ some (reset_of x)
unfolding reset_means control_means
present_means o x q = rw q
