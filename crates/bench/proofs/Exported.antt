-- What is proved of specs/Exported: The same table for the exported call: what `struo_lower`, by its contract, answers and leaves. Assumes nothing.
use Rattle.bench.specs.Row.{RowHolds}
use Rattle.bench.specs.Table.{table, Each, each}
use Rattle.bench.proofs.Table.{every_row}
use Rattle.bench.specs.Exported.{Lowers, exported}

pub every_call : Each (λ r. RowHolds r (Lowers r)) table
every_call = each exported table every_row
