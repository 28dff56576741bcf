-- What is proved of specs/Rows: The rows of the bench (docs/RULES.md), each computed by the checker from the image's bytes. K3, K4 and K10 stand as the bench writes
-- them, where constant operands fold (docs/DIFFERENCES.md, 1), with the number that their sum is; and primed, with operands that
-- have those values but no constant nets. Assumes nothing.
use Rattle.std.specs.Prelude.{◌≡◌, refl}
use Rattle.bench.specs.Carried.{seen, said}
use Rattle.bench.specs.Computing.{computing}
use Rattle.bench.specs.Rows.{k2}

pub k2_seen : seen k2 ≡ said k2
unfolding computing
k2_seen = refl
