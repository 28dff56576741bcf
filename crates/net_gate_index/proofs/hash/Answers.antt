-- `net_gate_index::hash` meets its contract. Assumes nothing.
use mathlib.Core.Path.{ap, ◌∙◌}
use Rattle.net_index.specs.Index.{bucket_of, hash_node, hash_words}
use Prim.Native.Nat.{ℕ}
use Rattle.net_gate_index.proofs.Ways.{mixed_five}
use Rattle.net_gate_index.proofs.hash.Goals as goal

pub returns : goal.returns
unfolding hash_node hash_words
returns c =
    let s = c.args in (
      c.bucket.ensures.0
          ∙ ap (λ (h : ℕ). bucket_of s.n h)
          (mixed_five s.kind s.owner s.a s.b s.c _ _ _ _ _ c.mix.ensures c.mix-2.ensures c.mix-3.ensures c.mix-4.ensures c.mix-h.ensures),
      c.bucket.ensures.1,
    )
