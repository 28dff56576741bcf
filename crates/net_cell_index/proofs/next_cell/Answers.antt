-- `net_cell_index::next_cell` meets its contract. Assumes nothing.
use native.Mathlib.Omega.{arith}
use mathlib.Core.Path.{ap, ◌∙◌}
use Prim.Native.Nat.{ℕ, ◌+◌, ◌*◌}
use lib.ListN.{get_or}
use Rattle.net_cell_index.proofs.Laws.{first_at_law, next_at}
use Rattle.net_cell_index.proofs.next_cell.Goals as goal

pub bounds-idx-n : goal.bounds-idx-n
bounds-idx-n c = omega (arith, first_at_law c.args.net.now c.args.at c.key_length-k.result c.key_length-k.ensures)

pub returns : goal.returns
returns c =
    ap (λ (o : ℕ). get_or c.args.idx.now (3 * c.args.n + o) 0) (first_at_law c.args.net.now c.args.at c.key_length-k.result c.key_length-k.ensures)
    ∙ next_at c.args.idx.now c.args.n _
