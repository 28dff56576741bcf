-- What holds of all nodes and records, each by itself (`Fine`), holds with each node that has no name and with each cell of 1 to 1024 bits
-- more, so the builder's calls keep it. Assumes nothing.
use Rattle.std.specs.Prelude.{ℕ, ◌≤◌, List, ◌++◌, length}
use Rattle.std.proofs.Common.{arith}
use Rattle.spec_model.specs.Words.{Node, arithmetic_key, comparison_key}
use Rattle.law_owners.specs.Ends.{all_last}
use Rattle.law_owners.specs.Kept.{Adds, Puts, Closed}
use Rattle.law_listed_walk.specs.Shape.{Loose, Wide, Fine, loose_constant, loose_and, loose_or, loose_xor, loose_not, loose_mux, loose_arithmetic, loose_comparison}

-- the operands of a cell
pub record Sized (ns : List ℕ) : Type 0 where
  pub least : 1 ≤ length ns
  pub most : length ns ≤ 1024

module _ (n : ℕ) where
  adds : (x : Node) → Loose x → Adds (Fine n) x
  adds x q l h = record { nodes = (q.shape, λ z. q.loose, h.nodes); records = h.records }

  puts : (r : List ℕ) → Wide r → Puts (Fine n) r
  puts r t l h = record { nodes = h.nodes; records = all_last Wide l.records r h.records t }

  pub closed : Closed (Fine n) Sized
  closed = record {
    constant = λ v. adds _ (loose_constant v);
    both = λ x y. adds _ (loose_and x y);
    either = λ x y. adds _ (loose_or x y);
    differ = λ x y. adds _ (loose_xor x y);
    inverse = λ x. adds _ (loose_not x);
    choice = λ x y z. adds _ (loose_mux x y z);
    arithmetic = λ o xs s i b. adds _ (loose_arithmetic o i (let m = s.most in omega arith));
    comparison = λ o. adds _ (loose_comparison o 0 (omega arith));
    arithmetic_cell = λ op xs ys c s ns. puts (arithmetic_key op xs ys c ++ ns) (record { least = λ z. s.least; most = λ z. s.most });
    comparison_cell = λ op xs ys s ns. puts (comparison_key op xs ys ++ ns) (record { least = λ z. s.least; most = λ z. s.most });
  }
