-- What is proved of specs/Ordered: An accepted netlist is ordered: gates, output nodes and cells read lower nets only. Assumes nothing.
use Rattle.std.specs.Prelude.{ℕ, ◌+◌, ◌<◌, ◌≡◌, false, List, ◌++◌, map}
use Rattle.std.proofs.Common.{arith, sym, ap, ◌∙◌}
use Rattle.std.proofs.Math.Bool.{true}
use Rattle.std.proofs.Math.ListN.{get_or}
use Rattle.spec_tests.specs.Rules.{◌or◌, list_of, Fine}
use Rattle.spec_rules.specs.NetlistImage as N
use Rattle.spec_rules.specs.NetlistImage.{node_word, node_at_of, records_with, arithmetic_of, comparison_of, netlist}
use Rattle.spec_netlist.specs.Accept.{nets, member, accepts}
use Rattle.law_told.specs.Told.{Told, told}
use Rattle.law_told.proofs.Told.{owner}
use Rattle.law_told.specs.Ordered.{Ordered, arithmetic_cell_law, arithmetic_lower, arithmetic_nets, belongs_cell, by_kind, cell_number, comparison_cell_law, comparison_lower, get_or_each, input_right, length_each, no_arithmetic, no_comparison, r, read_by}

pub ordered : (ws : List ℕ) → accepts ws ≡ Fine → Ordered (netlist ws)
unfolding netlist list_of node_at_of
ordered ws e = record { lower = λ k j h m. at k j (rw (length_each (node_at_of ws) 0 (nets ws)) at h) m }
  where
    t : Told ws
    t = told ws e

    cells : (k : ℕ) → k < nets ws → node_word ws k 0 ≡ 10 → (j : ℕ) → member j (arithmetic_nets (get_or (map arithmetic_of (records_with 3 ws)) (node_word ws k 1) no_arithmetic)) ≡ true → j < k
    cells k h f j m =
        let o = owner ws t k h (rw f (belongs_cell 10 (omega arith))) in
        let c = arithmetic_cell_law ws k o f in
        let n = cell_number arithmetic_of no_arithmetic ws 3 o.earlier o.r o.later o.place c.cell.sort in
        arithmetic_lower o.r o.here.rest k c.cell.long c.cell.owns.above c.carry j (ap (λ (x : N.Arithmetic). member j (arithmetic_nets x)) (sym n) ∙ rw c.cell.owns.owner at m)

    compares : (k : ℕ) → k < nets ws → node_word ws k 0 ≡ 11 → (j : ℕ)
        → member j ((get_or (map comparison_of (records_with 4 ws)) (node_word ws k 1) no_comparison).lhs ++ (get_or (map comparison_of (records_with 4 ws)) (node_word ws k 1) no_comparison).rhs) ≡ true → j < k
    compares k h f j m =
        let o = owner ws t k h (rw f (belongs_cell 11 (omega arith))) in
        let c = comparison_cell_law ws k o f in
        let l = c.long in
        let n = cell_number comparison_of no_comparison ws 4 o.earlier o.r o.later o.place c.sort in
        comparison_lower o.r o.here.rest k (omega arith) c.owns.above j (ap (λ (x : N.Comparison). member j (x.lhs ++ x.rhs)) (sym n) ∙ rw c.owns.owner at m)

    at : (k j : ℕ) → k < nets ws → member j (read_by (netlist ws) (get_or (netlist ws).nodes k (N.Constant false))) ≡ true → j < k
    at k j h m =
        by_kind (netlist ws) k (node_word ws k 0) (node_word ws k 1) (node_word ws k 2) (node_word ws k 3) (node_word ws k 4) (node_word ws k 5)
        (input_right ws t k h 0 (omega arith)) (input_right ws t k h 1 (omega arith)) (input_right ws t k h 2 (omega arith)) (cells k h) (compares k h) j
        (let z : k ≡ 0 + k = omega arith in
        ap (λ (x : N.Node). member j (read_by (netlist ws) x)) (ap (node_at_of ws) z ∙ sym (get_or_each (node_at_of ws) 0 (nets ws) k (N.Constant false) h)) ∙ m)
