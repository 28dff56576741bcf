-- What is known of a netlist's words once header and length have been judged, and what the marks of listed nets say. Assumes nothing.
use Rattle.std.specs.Prelude.{ℕ, ◌+◌, ◌*◌, ◌<◌, ◌≤◌, true, false, not, ◌≡◌, List, length}
use Rattle.std.proofs.Math.Path.{sym, ap}
use Rattle.std.proofs.Common.{◌∙◌, arith}
use Rattle.std.proofs.Math.ListN.{get_or}
use Rattle.spec_tests.specs.Rules.{◌≢?◌}
use Rattle.spec_tests.specs.Laws.{or_hit, or_skip, ne_yes, ne_no, lt_yes, lt_no}
use Rattle.spec_rules.specs.NetlistImage.{node_word}
use Rattle.spec_netlist.specs.Accept.{nets, used, list_at_of, limit, taken, count_of, no_net, not_own_of}

-- the sections fit into the slice
pub record Opened (ws : List ℕ) : Type 0 where
  pub nodes_at : get_or ws 2 0 ≡ 16
  pub list_starts : list_at_of ws ≡ 16 + 6 * limit ws
  pub nodes_fit : 16 + 6 * nets ws ≤ list_at_of ws
  pub list_fits : list_at_of ws + used ws ≤ length ws
  pub few_nets : nets ws ≤ 65535
  pub few_words_of : used ws ≤ 65535
  pub near : list_at_of ws ≤ 393226

pub node_at : {ws : List ℕ} → Opened ws → (n f : ℕ) → node_word ws n f ≡ get_or ws (16 + 6 * n + f) 0
unfolding node_word
node_at {ws} o n f = ap (λ (k : ℕ). get_or ws (k + 6 * n + f) 0) o.nodes_at

-- a net's mark is 0 exactly if no record so far lists it as its own
pub record Marked (ws : List ℕ) (earlier : List (List ℕ)) (marks : List ℕ) : Type 0 where
  pub says : (x : ℕ) → x < nets ws → (get_or marks x 0 ≢? 0) ≡ taken earlier x

-- the records so far, by sort
pub record Counted (earlier : List (List ℕ)) (counts : List ℕ) : Type 0 where
  pub says : (t : ℕ) → t < 5 → get_or counts t 0 ≡ count_of t earlier

-- ---- the tests on nets ----

pub net_none : (ws : List ℕ) (x : ℕ) → nets ws ≤ x → no_net ws x ≡ true
unfolding no_net
net_none ws x h = ap not (lt_no x (nets ws) h)

pub net_some : (ws : List ℕ) (x : ℕ) → x < nets ws → no_net ws x ≡ false
unfolding no_net
net_some ws x h = ap not (lt_yes x (nets ws) h)

-- net x is there, and words of its node: each that differs makes it no own net; then the marks decide
module _ (ws : List ℕ) (earlier : List (List ℕ)) (x k o b : ℕ) where
  pub own_none : nets ws ≤ x → true ≡ not_own_of ws earlier x k o b
  unfolding not_own_of
  own_none h = or_hit _ (net_none ws x h)

  module _ (p : Opened ws) (h : x < nets ws) where
    there : no_net ws x ≡ false
    there = net_some ws x h

    pub own_kind : (get_or ws (16 + 6 * x) 0 ≡ k → ⊥) → true ≡ not_own_of ws earlier x k o b
    unfolding not_own_of
    own_kind n = or_skip there (or_hit _ (ne_yes _ _ (λ e. n (kind ∙ e))))
      where
        kind : get_or ws (16 + 6 * x) 0 ≡ node_word ws x 0
        kind = ap (λ (i : ℕ). get_or ws i 0) (omega arith) ∙ sym (node_at p x 0)

    module _ (is : get_or ws (16 + 6 * x) 0 ≡ k) where
      kind_is_law : (node_word ws x 0 ≢? k) ≡ false
      kind_is_law = ne_no _ _ (node_at p x 0 ∙ (ap (λ (i : ℕ). get_or ws i 0) (omega arith) ∙ is))

      pub own_owner : (get_or ws (16 + 6 * x + 1) 0 ≡ o → ⊥) → true ≡ not_own_of ws earlier x k o b
      unfolding not_own_of
      own_owner n = or_skip there (or_skip kind_is_law (or_hit _ (ne_yes _ _ (λ e. n (sym (node_at p x 1) ∙ e)))))

      module _ (of : get_or ws (16 + 6 * x + 1) 0 ≡ o) where
        pub own_bit : (get_or ws (16 + 6 * x + 2) 0 ≡ b → ⊥) → true ≡ not_own_of ws earlier x k o b
        unfolding not_own_of
        own_bit n = or_skip there (or_skip kind_is_law (or_skip (ne_no _ _ (node_at p x 1 ∙ of)) (or_hit _ (ne_yes _ _ (λ e. n (sym (node_at p x 2) ∙ e))))))

        pub own_marked : (get_or ws (16 + 6 * x + 2) 0 ≡ b) → {marks : List ℕ} → Marked ws earlier marks → (get_or marks x 0 ≢? 0) ≡ not_own_of ws earlier x k o b
        unfolding not_own_of
        own_marked q m =
            or_skip there (or_skip kind_is_law (or_skip (ne_no _ _ (node_at p x 1 ∙ of)) (or_skip (ne_no _ _ (node_at p x 2 ∙ q)) (m.says x h))))
