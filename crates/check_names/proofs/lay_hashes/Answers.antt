-- `check_names::lay_hashes` meets its contract. The loop's invariant: the hashes below i are stored. Assumes nothing.
use mathlib.Core.Path.{refl}
use native.Mathlib.Omega.{arith}
use lib.ListN.{length-set}
use Rattle.check_names.specs.Names.{hashed_none, hashed_more}
use Rattle.check_names.proofs.lay_hashes.Goals as goal

pub loop-i-init : goal.loop-i-init
loop-i-init c = (omega arith, refl, hashed_none _ _ _)

pub loop-i-preserved : goal.loop-i-preserved
loop-i-preserved c = (omega arith, simp length-set c.loop-i.invariant.1, hashed_more _ _ _ _ _ (omega arith) c.name_hash.ensures c.loop-i.invariant.2)
