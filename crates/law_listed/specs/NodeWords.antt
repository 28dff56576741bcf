-- Each word of a node is right. Assumes nothing.
use Prim.Native.Nat.{ℕ, zero, suc, ◌≤◌, ◌<◌}
use Rattle.std.proofs.Common.{arith, ◌∙◌}
use Rattle.std.proofs.Math.Decide.{dec_lt}
use Rattle.std.specs.Prelude.{◌≡◌, Bool, List, length}
use Rattle.std.proofs.Math.Path.{refl, sym, ap}
use Rattle.std.proofs.Math.Bool.{true, false, not}
use Rattle.spec_tests.specs.Rules.{◌<?◌, ◌≡?◌, ◌≢?◌, ◌or◌, ◌and◌, pick, any}
use Rattle.spec_tests.specs.Laws.{and_yes, and_miss, lt_yes, lt_no, eq_yes, eq_no, yes_eq, ne_no}
use Rattle.spec_rules.specs.NetlistImage.{node_word, node_of}
use Rattle.spec_model.specs.Words.{absent, Netlist}
use Rattle.spec_model.specs.Builder.{node_for_net}
use Rattle.law_nets.specs.Meaning.{decode}
use Rattle.law_nets.specs.Sound.{Wired, Sound}
use Rattle.spec_tests.specs.Any.{any_none}
use Rattle.spec_netlist.specs.Accept.{nets, belongs, most_bit, input_count, same_node, wrong_bit, wrong_input, wrong_node_word, alone, taken}
use Rattle.spec_netlist.specs.Given.{Same}
use Rattle.law_told.specs.Told.{neither, pick_yes, pick_no}
use Rattle.law_listed.specs.Listed.{Listed}
use Rattle.law_listed.specs.Whose.{single, in_one}

and_two : (a b : Bool) → b ≡ false → (a and b) ≡ false
unfolding ◌and◌
and_two true b e = e
and_two false b e = refl

module _ (l : Netlist) where
  -- the inputs that a kind has are lower nets
  lower : (j o b x y z k : ℕ) → Wired l k (node_of j o b x y z) → j ≤ 11
      → (0 < input_count j → x < k) × (1 < input_count j → y < k) × (2 < input_count j → z < k)
  unfolding node_of input_count
  lower zero o b x y z k w h = (λ z. absurd (omega arith), λ z. absurd (omega arith), λ z. absurd (omega arith))
  lower (suc zero) o b x y z k w h = (λ z. absurd (omega arith), λ z. absurd (omega arith), λ z. absurd (omega arith))
  lower (suc (suc zero)) o b x y z k w h = (λ z. w.0, λ z. w.1, λ z. absurd (omega arith))
  lower (suc (suc (suc zero))) o b x y z k w h = (λ z. w.0, λ z. w.1, λ z. absurd (omega arith))
  lower (suc (suc (suc (suc zero)))) o b x y z k w h = (λ z. w.0, λ z. w.1, λ z. absurd (omega arith))
  lower (suc (suc (suc (suc (suc zero))))) o b x y z k w h = (λ z. w.0, λ z. absurd (omega arith), λ z. absurd (omega arith))
  lower (suc (suc (suc (suc (suc (suc zero)))))) o b x y z k w h = (λ z. w.0, λ z. w.1, λ z. w.2)
  lower (suc (suc (suc (suc (suc (suc (suc zero))))))) o b x y z k w h = (λ z. absurd (omega arith), λ z. absurd (omega arith), λ z. absurd (omega arith))
  lower (suc (suc (suc (suc (suc (suc (suc (suc zero)))))))) o b x y z k w h = (λ z. w, λ z. absurd (omega arith), λ z. absurd (omega arith))
  lower (suc (suc (suc (suc (suc (suc (suc (suc (suc zero))))))))) o b x y z k w h = (λ z. absurd (omega arith), λ z. absurd (omega arith), λ z. absurd (omega arith))
  lower (suc (suc (suc (suc (suc (suc (suc (suc (suc (suc zero)))))))))) o b x y z k w h = (λ z. absurd (omega arith), λ z. absurd (omega arith), λ z. absurd (omega arith))
  lower (suc (suc (suc (suc (suc (suc (suc (suc (suc (suc (suc zero))))))))))) o b x y z k w h = (λ z. absurd (omega arith), λ z. absurd (omega arith), λ z. absurd (omega arith))
  lower (suc (suc (suc (suc (suc (suc (suc (suc (suc (suc (suc (suc j)))))))))))) o b x y z k w h = absurd (omega arith)

same_parts : (ws : List ℕ) (j k : ℕ) → same_node ws j k ≡ true → (node_word ws j 0 ≡ node_word ws k 0) × (node_word ws j 1 ≡ node_word ws k 1) × (node_word ws j 2 ≡ node_word ws k 2)
unfolding same_node
same_parts ws j k e =
    let a = and_yes e in
    let b = and_yes a.1 in
    (yes_eq (node_word ws j 0) (node_word ws k 0) a.0, yes_eq (node_word ws j 1) (node_word ws k 1) b.0, yes_eq (node_word ws j 2) (node_word ws k 2) b.1)

input_right : (n k i x : ℕ) → (i < input_count k → x < n) → (input_count k ≤ i → x ≡ absent) → wrong_input n k i x ≡ false
unfolding wrong_input
input_right n k i x p q = go (dec_lt i (input_count k))
  where
    go : Dec (i < input_count k) → pick (i <? input_count k) (not (x <? n)) (x ≢? absent) ≡ false
    go (yes h) = pick_yes (i <? input_count k) _ _ (lt_yes i (input_count k) h) ∙ ap not (lt_yes x n (p h))
    go (no h) = pick_no (i <? input_count k) _ _ (lt_no i (input_count k) (omega arith)) ∙ ne_no x absent (q (omega arith))

module _ (ws : List ℕ) (l : Netlist) (s : Same ws l) (place : ℕ → ℕ → ℕ → ℕ) (q : Sound l) (g : Listed l place) where
  module _ (k : ℕ) (h : k < length l.nodes) where
    in_nets : k < nets ws
    in_nets = let e = s.count in omega arith

    again : belongs (node_for_net l k).kind ≡ true → any (λ j. same_node ws j k) k ≡ false
    again b = any_none (λ j. same_node ws j k) k (λ j i. go j i (same_node ws j k) refl)
      where
        go : (j : ℕ) → j < k → (t : Bool) → same_node ws j k ≡ t → same_node ws j k ≡ false
        go j i false e = e
        go j i true e =
            let u : j < nets ws = (let z = s.count in omega arith) in
            let a = same_parts ws j k e in
            let z = single l place q g j k (omega arith) h b (sym (s.kind j u) ∙ a.0 ∙ s.kind k in_nets) (sym (s.owner j u) ∙ a.1 ∙ s.owner k in_nets) (sym (s.bit j u) ∙ a.2 ∙ s.bit k in_nets) in
            absurd (omega arith)

    bit_right : (b : Bool) → belongs (node_for_net l k).kind ≡ b → wrong_bit ws k (node_for_net l k).kind (node_for_net l k).bit ≡ false
    unfolding wrong_bit
    bit_right true e = pick_yes (belongs (node_for_net l k).kind) _ _ e
        ∙ neither _ _ (lt_no (most_bit (node_for_net l k).kind) (node_for_net l k).bit ((g.nodes k h).bit e)) (again e)
    bit_right false e = pick_no (belongs (node_for_net l k).kind) _ _ e ∙ ne_no (node_for_net l k).bit absent ((g.nodes k h).no_bit e)

    wired : (0 < input_count (node_for_net l k).kind → (node_for_net l k).in0 < k) × (1 < input_count (node_for_net l k).kind → (node_for_net l k).in1 < k)
        × (2 < input_count (node_for_net l k).kind → (node_for_net l k).in2 < k)
    unfolding decode
    wired = lower l _ _ _ _ _ _ k (q.wired k h) (g.nodes k h).kind

    pub node_right : (j : ℕ) → j < 6 → wrong_node_word ws k j ≡ false
    unfolding wrong_node_word
    node_right zero i = pick_no (not (k <? nets ws)) _ _ (ap not (lt_yes k (nets ws) in_nets)) ∙ pick_yes (0 ≡? 0) _ _ (eq_yes 0 0 refl)
        ∙ lt_no 11 (node_word ws k 0) (let a = s.kind k in_nets in let b = (g.nodes k h).kind in omega arith)
    node_right (suc zero) i = pick_no (not (k <? nets ws)) _ _ (ap not (lt_yes k (nets ws) in_nets)) ∙ pick_no (1 ≡? 0) _ _ (eq_no 1 0 (λ z. absurd (omega arith)))
        ∙ pick_yes (1 ≡? 1) _ _ (eq_yes 1 1 refl) ∙ rw (s.kind k in_nets, s.owner k in_nets) (g.nodes k h).owner
    node_right (suc (suc zero)) i = pick_no (not (k <? nets ws)) _ _ (ap not (lt_yes k (nets ws) in_nets)) ∙ pick_no (2 ≡? 0) _ _ (eq_no 2 0 (λ z. absurd (omega arith)))
        ∙ pick_no (2 ≡? 1) _ _ (eq_no 2 1 (λ z. absurd (omega arith))) ∙ pick_yes (2 ≡? 2) _ _ (eq_yes 2 2 refl)
        ∙ ap (λ (z : ℕ). wrong_bit ws k z (node_word ws k 2)) (s.kind k in_nets) ∙ ap (wrong_bit ws k (node_for_net l k).kind) (s.bit k in_nets) ∙ bit_right (belongs (node_for_net l k).kind) refl
    node_right (suc (suc (suc zero))) i = pick_no (not (k <? nets ws)) _ _ (ap not (lt_yes k (nets ws) in_nets)) ∙ pick_no (3 ≡? 0) _ _ (eq_no 3 0 (λ z. absurd (omega arith)))
        ∙ pick_no (3 ≡? 1) _ _ (eq_no 3 1 (λ z. absurd (omega arith))) ∙ pick_no (3 ≡? 2) _ _ (eq_no 3 2 (λ z. absurd (omega arith)))
        ∙ rw (s.kind k in_nets, s.in0 k in_nets) (input_right k (node_for_net l k).kind 0 (node_for_net l k).in0 wired.0 (g.nodes k h).in0)
    node_right (suc (suc (suc (suc zero)))) i = pick_no (not (k <? nets ws)) _ _ (ap not (lt_yes k (nets ws) in_nets)) ∙ pick_no (4 ≡? 0) _ _ (eq_no 4 0 (λ z. absurd (omega arith)))
        ∙ pick_no (4 ≡? 1) _ _ (eq_no 4 1 (λ z. absurd (omega arith))) ∙ pick_no (4 ≡? 2) _ _ (eq_no 4 2 (λ z. absurd (omega arith)))
        ∙ rw (s.kind k in_nets, s.in1 k in_nets) (input_right k (node_for_net l k).kind 1 (node_for_net l k).in1 wired.1 (g.nodes k h).in1)
    node_right (suc (suc (suc (suc (suc zero))))) i = pick_no (not (k <? nets ws)) _ _ (ap not (lt_yes k (nets ws) in_nets)) ∙ pick_no (5 ≡? 0) _ _ (eq_no 5 0 (λ z. absurd (omega arith)))
        ∙ pick_no (5 ≡? 1) _ _ (eq_no 5 1 (λ z. absurd (omega arith))) ∙ pick_no (5 ≡? 2) _ _ (eq_no 5 2 (λ z. absurd (omega arith)))
        ∙ rw (s.kind k in_nets, s.in2 k in_nets) (input_right k (node_for_net l k).kind 2 (node_for_net l k).in2 wired.2 (g.nodes k h).in2)
    node_right (suc (suc (suc (suc (suc (suc j)))))) i = absurd (omega arith)

    -- no node is left without a record
    pub owned_right : alone ws k ≡ false
    unfolding alone
    owned_right = rw (s.kind k in_nets, s.records) (go (belongs (node_for_net l k).kind) refl)
      where
        go : (b : Bool) → belongs (node_for_net l k).kind ≡ b → (belongs (node_for_net l k).kind and not (taken l.records k)) ≡ false
        go true e = and_two _ _ (ap not (in_one l place q g k h e))
        go false e = sym (and_miss _ e)
