-- The words of a netlist within its limits are read back as what it means. Assumes nothing.
use Rattle.std.specs.Prelude.{◌≡◌}
use Rattle.std.proofs.Math.Path.{refl, ap, ap₂}
use Rattle.std.proofs.Common.{◌∙◌, arith}
use mathlib.Core.List.{List, [], ◌∷◌, ◌++◌}
use Prim.Native.Nat.{ℕ, zero, suc, ◌+◌, ◌*◌, ◌-◌}
use Rattle.std.proofs.Math.Nat.{add-zero}
use Rattle.std.proofs.Math.ListN.{get_or}
use Rattle.spec_tests.specs.Rules as Q
use Rattle.spec_tests.specs.Rules.{◌or◌}
use Rattle.spec_rules.specs.NetlistImage as N
use Rattle.spec_rules.specs.NetlistImage.{node_word}
use Rattle.spec_model.specs.Words.{Node, Netlist, words}
use Rattle.net_view.specs.View as Held
use Rattle.net_view.specs.View.{nodes_of}
use Rattle.law_nets.specs.Meaning.{decode, decoded}

each_none : {A : Type 0} (f : ℕ → A) → Q.each f 0 0 ≡ []
unfolding Q.each
each_none f = refl

each_snoc : {A : Type 0} (f : ℕ → A) (i n : ℕ) → Q.each f i (suc n) ≡ Q.each f i n ++ (f (i + n) ∷ [])
unfolding Q.each
each_snoc f i zero = rw (add-zero i)
each_snoc f i (suc n) =
    let e : suc i + n ≡ i + suc n = omega arith in
    ap (λ (t : List _). f i ∷ t) (each_snoc f (suc i) n ∙ ap (λ (k : ℕ). Q.each f (suc i) n ++ (f k ∷ [])) e)

module _ (ws : List ℕ) (offset : get_or ws 2 0 ≡ 16) where
  pub word_is : (k f : ℕ) → node_word ws k f ≡ get_or ws (16 + 6 * k + f) 0
  unfolding node_word
  word_is k f = rw offset

  node_is : (k : ℕ) → N.node_at_of ws k ≡ decode (Held.node_at_of ws k)
  unfolding N.node_at_of Held.node_at_of decode
  node_is k = rw (word_is k 0, word_is k 1, word_is k 2, word_is k 3, word_is k 4, word_is k 5, add-zero (16 + 6 * k))

  pub nodes_are : (n : ℕ) → Q.each (N.node_at_of ws) 0 n ≡ decoded (nodes_of ws n)
  unfolding nodes_of decoded
  nodes_are zero = each_none (N.node_at_of ws)
  nodes_are (suc n) = each_snoc (N.node_at_of ws) 0 n ∙ ap₂ (λ (xs : List N.Node) (x : N.Node). xs ++ (x ∷ [])) (nodes_are n) (ap (N.node_at_of ws) {x = 0 + n} {y = n} (omega arith) ∙ node_is n)

pub offset_is : (n p : ℕ) (l : Netlist) → get_or (words n p l) 2 0 ≡ 16
unfolding words
offset_is n p l = refl
