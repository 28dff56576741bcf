-- What is proved of specs/Table: The joint table of the bench cases: for each row, what every call that keeps the lowering call's promise answers and leaves; and in
-- which rows the number that comes out is not the bench's. Assumes nothing.
use Rattle.std.specs.Prelude.{[], ◌∷◌, map, ◌≡◌, refl}
use Rattle.spec_tests.specs.Rules.{◌≡?◌, ◌and◌, pick, only, same_text}
use Rattle.bench.specs.Row.{Row, RowHolds, Promised}
use Rattle.bench.specs.Carried.{seen, said, carried}
use Rattle.bench.specs.Rows.{k1_seen, k3_seen, k3_sum_seen, k3'_seen, k4_seen, k4_sum_seen, k4'_seen, k5_seen, k6_seen, k7_seen, k8_seen, k9_seen, k10_seen, k10_sum_seen, k10'_seen, k11_seen, k12_seen}
use Rattle.bench.proofs.Rows.{k2_seen}
use Rattle.bench.specs.Table.{◌&◌, Each, differs, each, end, table}

every_seen : Each (λ r. seen r ≡ said r) table
every_seen =
    k1_seen & k2_seen & k3_seen & k3_sum_seen & k3'_seen & k4_seen & k4_sum_seen & k4'_seen & k5_seen & k6_seen & k7_seen & k8_seen & k9_seen & k10_seen & k10_sum_seen & k10'_seen & k11_seen & k12_seen & end

pub every_row : Each (λ r. RowHolds r (Promised r)) table
every_row = each carried table every_seen

-- they are the same in every row but those where constant operands fold
pub as_document : map (λ (r : Row). r.name) (only differs table) ≡ "K3" ∷ "K4" ∷ "K10" ∷ []
unfolding only same_text pick ◌and◌ ◌≡?◌
as_document = refl
