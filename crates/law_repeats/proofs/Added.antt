-- What is proved of specs/Added: All stays where a node is added that was not found or is never looked for, and where a record is pushed that is no arithmetic cell or one
-- that is not folded: so where an output port is made or the record of a register's bit or of a memory is pushed. Assumes nothing.
use Rattle.std.specs.Prelude.{◌≡◌, Bool, true, false, cond, List, [], ◌∷◌, ℕ, ltb, get_or}
use Rattle.std.proofs.Common.{arith}
use Rattle.std.proofs.Math.ListN.{length}
use Rattle.spec_model.specs.Words.{absent, Node, node, Netlist}
use Rattle.spec_model.specs.Builder.{refused, done, add_node, push, from, add_nodes, add_output_port}
use Rattle.net_view.specs.Laws.{with_node}
use Rattle.law_repeats.specs.Again.{Looked, Stays, stays_refl}
use Rattle.law_repeats.specs.Added.{DoneStays, Keeps, keeps_both, keeps_done, keeps_each, keeps_recorded, other_kind, push_other, stays_node}

pub keeps_node : (x : Node) (l : Netlist) → (Looked x → ⊥) → Keeps l (add_node x l)
unfolding add_node
keeps_node x l h = record { keeps = go (ltb (length l.nodes) l.max_nets) }
  where
    go : (t : Bool) → DoneStays l (cond t (done (length l.nodes, with_node x l)) (refused 9 0 0))
    go true = stays_node x l (λ p. absurd (h p))
    go false = tt

pub keeps_nodes : (x : ℕ → Node) → ((i : ℕ) → Looked (x i) → ⊥) → (b w : ℕ) (l : Netlist) → Keeps l (add_nodes x b w l)
unfolding add_nodes
keeps_nodes x h b w l = keeps_each (λ i. add_node (x i)) (λ i l₁. keeps_node (x i) l₁ (h i)) (from b w) l

-- ---- as the lowering calls them ----

module _ {l l' : Netlist} where
  pub output_port_stays : (s : ℕ) (xs ns : List ℕ) → add_output_port s xs l ≡ done (ns, l') → Stays l l'
  unfolding add_output_port
  output_port_stays s xs ns e =
      keeps_done _ (keeps_recorded (0 ∷ s ∷ length xs ∷ []) l _ (λ ks. other_kind l _ (omega arith))
      (keeps_both (λ b x. add_node (node 8 s b x absent absent)) (λ b x l₁. keeps_node (node 8 s b x absent absent) l₁ (omega arith)) (from 0 (length xs)) xs l)) e

  -- a record of no arithmetic cell
  pub push_stays : (r : List ℕ) → (get_or r 0 0 ≡ 3 → ⊥) → push r l ≡ done l' → Stays l l'
  push_stays r h e = push_other r l' (stays_refl l) (other_kind l r h) e
