-- `net_cell_index::hash_key` meets its contract. Assumes nothing.
use mathlib.Core.Path.{ap, ◌∙◌}
use Prim.Native.Nat.{ℕ}
use native.Mathlib.Omega.{arith}
use Rattle.net_index.specs.Index.{bucket_of, hash_key}
use Rattle.net_cell_index.proofs.Laws.{hash_turn, hash_end}
use Rattle.net_cell_index.proofs.hash_key.Goals as goal

pub loop-x-preserved : goal.loop-x-preserved
loop-x-preserved c = (omega arith, hash_turn c.args.key.now c.loop-x.h c.mix-h.result c.loop-x.x-index (omega arith) c.loop-x.invariant.1 c.mix-h.ensures)

pub returns : goal.returns
unfolding hash_key
returns c =
    let a = c.args in (
      c.bucket.ensures.0
          ∙ ap (λ (h : ℕ). bucket_of a.n h) (hash_end a.key.now c.loop-x.h c.loop-x.x-index c.loop-x-test.false c.loop-x.invariant.1),
      c.bucket.ensures.1,
    )
