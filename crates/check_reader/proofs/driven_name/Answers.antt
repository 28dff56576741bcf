-- `check_reader::driven_name` meets its contract: what it calls has plain parameters, so its proof has no walk. Assumes nothing.
use mathlib.Core.Path.{ap}
use Rattle.spec_rtl.specs.Rtl.{Assign}
use Rattle.image_records.specs.Others.{assignment_means}
use Rattle.check_reader.proofs.driven_name.Goals as goal

pub returns : goal.returns
unfolding assignment_means
returns c = rw (ap (λ (x : Assign). x.signal) c.assignment_of-x.ensures) at c.signal_name_of.ensures
