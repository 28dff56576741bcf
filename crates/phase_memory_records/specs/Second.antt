-- The code's second port. Assumes nothing.
use Rattle.std.specs.Prelude.{◌≡◌, Option, Some, None}
use Rattle.std.proofs.Math.Option.{none, some}
use Rattle.image_records.specs.declared.MemoryPort.{MemoryPort}
use Rattle.image_records.specs.Others.{port_means, second_means}

pub absent_means : (o : Option MemoryPort) → o ≡ None → second_means o ≡ none
unfolding second_means
absent_means o q = rw q

pub present_means : (o : Option MemoryPort) (p : MemoryPort) → o ≡ Some p → second_means o ≡ some (port_means p)
unfolding second_means
present_means o p q = rw q
