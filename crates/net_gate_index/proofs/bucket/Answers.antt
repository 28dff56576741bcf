-- `net_gate_index::bucket` meets its contract. Assumes nothing.
use Prim.Native.Nat.{ℕ, ◌*◌, ◌/◌, ◌<◌}
use mathlib.Core.Path.{sym, subst}
use native.Mathlib.Omega.{arith}
use Rattle.net_index.specs.Laws.{bucket_less, bucket_is}
use Rattle.net_gate_index.proofs.bucket.Goals as goal

bucket-of : (n h : ℕ) → 0 < n → h < 4294967296 → h * n / 4294967296 < n
bucket-of n h p l = subst (λ (k : ℕ). k < n) (sym (bucket_is n h l)) (bucket_less n h p)

pub returns : goal.returns
returns c = (bucket_is _ _ (omega arith), bucket-of _ _ c.requires (omega arith))
