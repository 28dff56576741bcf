-- What is proved of specs/RecordWords: Each word of a port's, a register's and a cell's record is right. Assumes nothing.
use Prim.Native.Nat.{ℕ, zero, suc, ◌+◌, ◌*◌, ◌-◌, ◌≤◌, ◌<◌}
use Rattle.std.proofs.Common.{inl, inr, ⊎_elim, ◌∙◌, length-take, length-drop, get_or-take}
use native.Mathlib.Omega.{arith}
use Rattle.std.proofs.Math.Decide.{dec_lt}
use Rattle.std.specs.Prelude.{◌⊎◌, ◌≡◌, false, List, ◌∷◌, ◌++◌, length, take, drop}
use Rattle.std.proofs.Math.Path.{refl, sym, ap}
use Rattle.std.proofs.Math.Bool.{not}
use Rattle.std.proofs.Math.Option.{some}
use Rattle.std.proofs.Math.ListN.{get_or, get_or-append}
use Rattle.std.proofs.Math.Seq.{get_or-drop}
use Rattle.spec_tests.specs.Rules.{◌<?◌, ◌≡?◌, ◌≢?◌, ◌or◌, ◌and◌, pick, outside}
use Rattle.spec_tests.specs.Laws.{and_miss, lt_yes, lt_no, eq_yes, eq_no, ne_no}
use Rattle.spec_rules.specs.NetlistImage as N
use Rattle.spec_rules.specs.NetlistImage.{node_word, arithmetic_of, comparison_of}
use Rattle.spec_model.specs.Words.{absent, Netlist}
use Rattle.spec_model.specs.Builder.{node_for_net}
use Rattle.word_laws.specs.Widths.{AllBelow}
use Rattle.law_nets.specs.Meaning.{decode}
use Rattle.law_nets.specs.Sound.{count, OfArithmetic, OfComparison, Sound}
use Rattle.spec_netlist.specs.Accept.{nets, belongs, most_bit, taken, count_of, not_above, no_net, no_optional, not_own_of, wrong_port, wrong_register, wrong_arithmetic, wrong_comparison}
use Rattle.spec_netlist.specs.Given.{Same}
use Rattle.law_told.specs.Told.{neither, pick_yes, pick_no}
use Rattle.law_listed.specs.Listed.{Own, Optional, PortRecord, RegisterRecord, Listed}
use Rattle.law_listed.specs.Parts.{arithmetic_node, comparison_node, same_default, member_at, own_port, own_register, own_arithmetic, own_comparison, number}
use Rattle.law_listed.specs.Whose.{fresh}
use Rattle.law_listed.specs.RecordWords.{and_second_no, below_above, below_get, below_join, carry_of_law, level_right, stretch, two_stretches}

module _ (ws : List ℕ) (l : Netlist) (s : Same ws l) (place : ℕ → ℕ → ℕ → ℕ) (q : Sound l) (g : Listed l place) where
  pub in_nets : (x : ℕ) → x < count l → x < nets ws
  in_nets x h = let e = s.count in omega arith

  pub net_right : (x : ℕ) → x < count l → no_net ws x ≡ false
  unfolding no_net
  net_right x h = ap not (lt_yes x (nets ws) (in_nets x h))

  pub optional_right : (x : ℕ) → Optional l x → no_optional ws x ≡ false
  unfolding no_optional
  optional_right x (inl e) = sym (and_miss (no_net ws x) (ne_no x absent e))
  optional_right x (inr h) = and_second_no (x ≢? absent) (no_net ws x) (net_right x h)

  pub not_own : (earlier : List (List ℕ)) (x k o b : ℕ) → Own l x k o b → taken earlier x ≡ false → not_own_of ws earlier x k o b ≡ false
  unfolding not_own_of
  not_own earlier x k o b w t =
      let h = in_nets x w.there in
      neither _ _ (net_right x w.there) (neither _ _ (ne_no (node_word ws x 0) k (s.kind x h ∙ w.kind))
      (neither _ _ (ne_no (node_word ws x 1) o (s.owner x h ∙ w.owner)) (neither _ _ (ne_no (node_word ws x 2) b (s.bit x h ∙ w.bit)) t)))

  -- a comparison's output has bit 0: no other bit is in range
  bit_zero : (x : ℕ) → x < count l → (node_for_net l x).kind ≡ 11 → (node_for_net l x).bit ≡ 0
  unfolding most_bit belongs ◌≡?◌ ◌<?◌ ◌or◌
  bit_zero x h e =
      let b = rw e at (g.nodes x h).bit in
      let z = b refl in
      omega arith

  -- a record with those before it and what follows
  module _ (earlier : List (List ℕ)) (r : List ℕ) (rs : List (List ℕ)) (e : l.records ≡ earlier ++ (r ∷ rs)) (rest : List ℕ) where
    abbrev L : List ℕ
    L = r ++ rest

    pub word_in : (i : ℕ) → i < length r → get_or (r ++ rest) i 0 ≡ get_or r i 0
    word_in i h = get_or-append r rest 0 i h

    -- ---- ports ----

    module _ (t : get_or r 0 0 ≡ 0) where
      port : PortRecord l r
      port = let n = number 0 earlier r rs l.records e t in rw n.is at (g.ports (count_of 0 earlier) n.there)

      port_fresh : (i : ℕ) → i < get_or r 2 0 → taken earlier (get_or r (3 + i) 0) ≡ false
      port_fresh i h =
          let k = port.long in
          let d = length-drop 3 r in
          let z = length-take (get_or r 2 0) (drop 3 r) in
          fresh l place q g earlier r rs e 0 (omega arith) t (get_or r (3 + i) 0)
          (rw (own_port r t) (member_at _ (take (get_or r 2 0) (drop 3 r)) i (omega arith) (get_or-take (get_or r 2 0) (drop 3 r) i 0 h ∙ get_or-drop 3 r i 0)))

      kind_of_law : node_word ws (get_or r 3 0) 0 ≡ (node_for_net l (get_or r 3 0)).kind
      kind_of_law = s.kind (get_or r 3 0) (in_nets (get_or r 3 0) (port.own 0 (let z = port.some in omega arith)).there)

      net_of_law : (i : ℕ) → i < get_or r 2 0 → ((node_word ws (get_or r 3 0) 0 ≢? 0 and node_word ws (get_or r 3 0) 0 ≢? 8)
          or not_own_of ws earlier (get_or r (3 + i) 0) (node_word ws (get_or r 3 0) 0) (get_or r 1 0) i) ≡ false
      net_of_law i h = rw kind_of_law (neither _ _
          (⊎_elim (λ (z : (node_for_net l (get_or r 3 0)).kind ≡ 0). sym (and_miss _ (ne_no (node_for_net l (get_or r 3 0)).kind 0 z)))
          (λ (z : (node_for_net l (get_or r 3 0)).kind ≡ 8). and_second_no _ _ (ne_no (node_for_net l (get_or r 3 0)).kind 8 z)) port.sort)
          (not_own earlier (get_or r (3 + i) 0) _ _ _ (port.own i h) (port_fresh i h)))

      pub port_right : (i : ℕ) → 0 < i → i < length r → wrong_port ws earlier L i ≡ false
      unfolding wrong_port outside
      port_right zero a h = absurd (omega arith)
      port_right (suc zero) a h = pick_yes (1 ≡? 1) _ _ (eq_yes 1 1 refl) ∙ rw (word_in 1 h) (lt_no 511 (get_or r 1 0) port.signal)
      port_right (suc (suc zero)) a h =
          pick_no (2 ≡? 1) _ _ (eq_no 2 1 (λ z. absurd (omega arith))) ∙ pick_yes (2 ≡? 2) _ _ (eq_yes 2 2 refl)
          ∙ rw (word_in 2 h) (neither _ _ (lt_no (get_or r 2 0) 1 port.some) (lt_no 1024 (get_or r 2 0) port.narrow))
      port_right (suc (suc (suc i))) a h =
          let k = port.long in
          let b : suc (suc (suc i)) ≡ 3 + i = omega arith in
          let c : suc (suc (suc i)) - 3 ≡ i = omega arith in
          pick_no (suc (suc (suc i)) ≡? 1) _ _ (eq_no (suc (suc (suc i))) 1 (λ z. absurd (omega arith)))
          ∙ pick_no (suc (suc (suc i)) ≡? 2) _ _ (eq_no (suc (suc (suc i))) 2 (λ z. absurd (omega arith)))
          ∙ rw (c, word_in (suc (suc (suc i))) h, word_in 1 (omega arith), word_in 3 (omega arith), b) (net_of_law i (omega arith))

    -- ---- registers ----

    module _ (t : get_or r 0 0 ≡ 1) where
      register : RegisterRecord l r
      register = let n = number 1 earlier r rs l.records e t in rw n.is at (g.registers (count_of 1 earlier) n.there)

      register_fresh : taken earlier (get_or r 3 0) ≡ false
      register_fresh =
          let k = register.long in
          let d = length-drop 3 r in
          let z = length-take 1 (drop 3 r) in
          fresh l place q g earlier r rs e 1 (omega arith) t (get_or r 3 0)
          (rw (own_register r t) (member_at _ (take 1 (drop 3 r)) 0 (omega arith) (get_or-take 1 (drop 3 r) 0 0 (omega arith) ∙ get_or-drop 3 r 0 0)))

      at : (i : ℕ) → i < 13 → get_or (r ++ rest) i 0 ≡ get_or r i 0
      at i h = word_in i (let k = register.long in omega arith)

      pub register_right : (i : ℕ) → 0 < i → i < length r → wrong_register ws earlier L i ≡ false
      unfolding wrong_register ◌≡?◌ pick ◌or◌
      register_right zero a h = absurd (omega arith)
      register_right (suc zero) a h = rw (at 1 (omega arith)) (lt_no 255 (get_or r 1 0) register.index)
      register_right (suc (suc zero)) a h = rw (at 2 (omega arith)) (lt_no 1023 (get_or r 2 0) register.bit)
      register_right (suc (suc (suc zero))) a h =
          rw (at 3 (omega arith), at 1 (omega arith), at 2 (omega arith)) (not_own earlier (get_or r 3 0) 7 (get_or r 1 0) (get_or r 2 0) register.own register_fresh)
      register_right (suc (suc (suc (suc zero)))) a h = rw (at 4 (omega arith)) (net_right (get_or r 4 0) register.next)
      register_right (suc (suc (suc (suc (suc zero))))) a h = rw (at 5 (omega arith)) (net_right (get_or r 5 0) register.clock)
      register_right (suc (suc (suc (suc (suc (suc zero)))))) a h = rw (at 6 (omega arith)) (lt_no 1 (get_or r 6 0) register.edge)
      register_right (suc (suc (suc (suc (suc (suc (suc zero))))))) a h = rw (at 7 (omega arith)) (optional_right (get_or r 7 0) register.enable)
      register_right (suc (suc (suc (suc (suc (suc (suc (suc zero)))))))) a h =
          rw (at 7 (omega arith), at 8 (omega arith)) (level_right (get_or r 7 0) (get_or r 8 0) register.enable_level)
      register_right (suc (suc (suc (suc (suc (suc (suc (suc (suc zero))))))))) a h = rw (at 9 (omega arith)) (optional_right (get_or r 9 0) register.reset)
      register_right (suc (suc (suc (suc (suc (suc (suc (suc (suc (suc zero)))))))))) a h =
          rw (at 9 (omega arith), at 10 (omega arith)) (level_right (get_or r 9 0) (get_or r 10 0) register.reset_level)
      register_right (suc (suc (suc (suc (suc (suc (suc (suc (suc (suc (suc zero))))))))))) a h =
          rw (at 9 (omega arith), at 11 (omega arith)) (level_right (get_or r 9 0) (get_or r 11 0) register.mode)
      register_right (suc (suc (suc (suc (suc (suc (suc (suc (suc (suc (suc (suc zero)))))))))))) a h =
          rw (at 9 (omega arith), at 12 (omega arith)) (level_right (get_or r 9 0) (get_or r 12 0) register.value)
      register_right (suc (suc (suc (suc (suc (suc (suc (suc (suc (suc (suc (suc (suc i))))))))))))) a h = let k = register.long in absurd (omega arith)

    -- ---- arithmetic cells ----

    module _ (t : get_or r 0 0 ≡ 3) where
      abbrev w : ℕ
      w = get_or r 2 0

      record Arithmetic : Type 0 where
        pub operation : get_or r 1 0 < 3
        pub some : 1 ≤ w
        pub narrow : w ≤ 1024
        pub long : length r ≡ 4 + 3 * w
        pub own : (i : ℕ) → i < w → Own l (get_or r (4 + 2 * w + i) 0) 10 (count_of 3 earlier) i
        pub lhs : (i : ℕ) → i < w → AllBelow (get_or r (4 + 2 * w + i) 0) (take w (drop 4 r))
        pub rhs : (i : ℕ) → i < w → AllBelow (get_or r (4 + 2 * w + i) 0) (take w (drop (4 + w) r))
        pub carry : (i : ℕ) → i < w → (get_or r 3 0 ≡ absent) ⊎ (get_or r 3 0 < get_or r (4 + 2 * w + i) 0)

      arithmetic : Arithmetic
      unfolding decode N.node_of arithmetic_of
      arithmetic =
          let m = number 3 earlier r rs l.records e t in
          let j = count_of 3 earlier in
          let c = rw m.is at (q.arithmetic j m.there) in
          let k = rw m.is at (g.arithmetic j m.there) in
          let z = c.width in
          let word : (i : ℕ) → i < w → get_or (drop (4 + 2 * w) r) i absent ≡ get_or r (4 + 2 * w + i) 0
          = λ i h. get_or-drop (4 + 2 * w) r i absent ∙ same_default r (4 + 2 * w + i) absent 0 (omega arith) in
          let there : (i : ℕ) → i < w → get_or r (4 + 2 * w + i) 0 < count l = λ i h. rw (word i h) at (c.there i h) in
          let out : (i : ℕ) → i < w → decode (node_for_net l (get_or r (4 + 2 * w + i) 0)) ≡ N.ArithmeticOutput j i = λ i h. rw (word i h) at (c.outputs i h) in
          let of : (i : ℕ) → i < w → OfArithmetic l (get_or r (4 + 2 * w + i) 0) j i = λ i h. rw (out i h) at (q.wired (get_or r (4 + 2 * w + i) 0) (there i h)) in
          record {
            operation = c.operation;
            some = k.0;
            narrow = k.1;
            long = c.width;
            own = λ i h. let b = arithmetic_node _ _ _ _ _ _ j i (out i h) in record { there = there i h; kind = b.0; owner = b.1; bit = b.2 };
            lhs = λ i h. rw m.is at (of i h).lhs;
            rhs = λ i h. rw m.is at (of i h).rhs;
            carry = λ i h. carry_of_law _ _ (rw m.is at (of i h).carry);
          }

      arithmetic_fresh : (i : ℕ) → i < w → taken earlier (get_or r (4 + 2 * w + i) 0) ≡ false
      arithmetic_fresh i h =
          let k = arithmetic.long in
          let d = length-drop (4 + 2 * w) r in
          let z = length-take w (drop (4 + 2 * w) r) in
          fresh l place q g earlier r rs e 3 (omega arith) t (get_or r (4 + 2 * w + i) 0)
          (rw (own_arithmetic r t) (member_at _ (take w (drop (4 + 2 * w) r)) i (omega arith) (get_or-take w (drop (4 + 2 * w) r) i 0 h ∙ get_or-drop (4 + 2 * w) r i 0)))

      inputs : (i : ℕ) → i < w → AllBelow (get_or r (4 + 2 * w + i) 0) (take (2 * w) (drop 4 r))
      inputs i h = rw (two_stretches r 4 w) (below_join _ (take w (drop 4 r)) (take w (drop (4 + w) r)) (arithmetic.lhs i h) (arithmetic.rhs i h))

      input_there : (i : ℕ) → 4 ≤ i → i < 4 + 2 * w → get_or r i 0 < count l
      input_there i a b =
          let k = arithmetic.long in
          let o = arithmetic.some in
          let d = length-drop 4 r in
          let z = length-take (2 * w) (drop 4 r) in
          let y : 4 + (i - 4) ≡ i = omega arith in
          let u = below_get _ (take (2 * w) (drop 4 r)) (i - 4) (omega arith) (inputs 0 (omega arith)) in
          let v : get_or (take (2 * w) (drop 4 r)) (i - 4) 0 ≡ get_or r i 0 = get_or-take (2 * w) (drop 4 r) (i - 4) 0 (omega arith) ∙ get_or-drop 4 r (i - 4) 0 ∙ ap (λ (x : ℕ). get_or r x 0) y in
          let m = (arithmetic.own 0 (omega arith)).there in
          omega arith

      carry_right : no_optional ws (get_or r 3 0) ≡ false
      carry_right =
          let o = arithmetic.some in
          let m = (arithmetic.own 0 (omega arith)).there in
          optional_right (get_or r 3 0) (⊎_elim (λ (z : get_or r 3 0 ≡ absent). inl z) (λ (z : get_or r 3 0 < get_or r (4 + 2 * w + 0) 0). inr (omega arith)) (arithmetic.carry 0 (omega arith)))

      carry_lower : (i : ℕ) → i < w → (get_or r 3 0 ≢? absent and not (get_or r 3 0 <? get_or r (4 + 2 * w + i) 0)) ≡ false
      carry_lower i h = ⊎_elim (λ (z : get_or r 3 0 ≡ absent). sym (and_miss _ (ne_no (get_or r 3 0) absent z)))
          (λ (z : get_or r 3 0 < get_or r (4 + 2 * w + i) 0). and_second_no _ _ (ap not (lt_yes (get_or r 3 0) (get_or r (4 + 2 * w + i) 0) z))) (arithmetic.carry i h)

      output_right : (i : ℕ) → i < w → (not_own_of ws earlier (get_or r (4 + 2 * w + i) 0) 10 (count_of 3 earlier) i
          or (get_or r 3 0 ≢? absent and not (get_or r 3 0 <? get_or r (4 + 2 * w + i) 0)) or not_above (get_or r (4 + 2 * w + i) 0) (take (2 * w) (drop 4 r))) ≡ false
      output_right i h = neither _ _ (not_own earlier _ 10 (count_of 3 earlier) i (arithmetic.own i h) (arithmetic_fresh i h)) (neither _ _ (carry_lower i h) (below_above _ _ (inputs i h)))

      arithmetic_late : (j : ℕ) → 4 ≤ j → j < length r → wrong_arithmetic ws earlier L j ≡ false
      unfolding wrong_arithmetic
      arithmetic_late j a h = go (dec_lt j (4 + 2 * w))
        where
          skip : wrong_arithmetic ws earlier L j ≡ pick (j <? 4 + 2 * get_or L 2 0) (no_net ws (get_or L j 0))
              (not_own_of ws earlier (get_or L j 0) 10 (count_of 3 earlier) (j - (4 + 2 * get_or L 2 0)) or (get_or L 3 0 ≢? absent and not (get_or L 3 0 <? get_or L j 0))
              or not_above (get_or L j 0) (take (2 * get_or L 2 0) (drop 4 L)))
          skip = pick_no (j ≡? 1) _ _ (eq_no j 1 (λ z. absurd (omega arith))) ∙ pick_no (j ≡? 2) _ _ (eq_no j 2 (λ z. absurd (omega arith)))
              ∙ pick_no (j ≡? 3) _ _ (eq_no j 3 (λ z. absurd (omega arith)))

          go : Dec (j < 4 + 2 * w) → wrong_arithmetic ws earlier L j ≡ false
          go (yes b) =
              let c : j < 4 + 2 * get_or L 2 0 = rw (word_in 2 (omega arith)) b in
              skip ∙ pick_yes (j <? 4 + 2 * get_or L 2 0) _ _ (lt_yes j (4 + 2 * get_or L 2 0) c) ∙ rw (word_in j h) (net_right (get_or r j 0) (input_there j (omega arith) b))
          go (no b) =
              let k = arithmetic.long in
              let i = j - (4 + 2 * w) in
              let y : j ≡ 4 + 2 * w + i = omega arith in
              let c : 4 + 2 * get_or L 2 0 ≤ j = rw (word_in 2 (omega arith)) (omega arith) in
              skip ∙ pick_no (j <? 4 + 2 * get_or L 2 0) _ _ (lt_no j (4 + 2 * get_or L 2 0) c)
              ∙ rw (word_in j h, word_in 2 (omega arith), word_in 3 (omega arith), stretch r rest 4 (2 * w) (omega arith))
              (ap (λ (x : ℕ). not_own_of ws earlier (get_or r x 0) 10 (count_of 3 earlier) i or (get_or r 3 0 ≢? absent and not (get_or r 3 0 <? get_or r x 0)) or not_above (get_or r x 0) (take (2 * w) (drop 4 r))) y
              ∙ output_right i (omega arith))

      pub arithmetic_right : (i : ℕ) → 0 < i → i < length r → wrong_arithmetic ws earlier L i ≡ false
      unfolding wrong_arithmetic outside
      arithmetic_right zero a h = absurd (omega arith)
      arithmetic_right (suc zero) a h = pick_yes (1 ≡? 1) _ _ (eq_yes 1 1 refl) ∙ rw (word_in 1 h) (lt_no 2 (get_or r 1 0) (let z = arithmetic.operation in omega arith))
      arithmetic_right (suc (suc zero)) a h =
          pick_no (2 ≡? 1) _ _ (eq_no 2 1 (λ z. absurd (omega arith))) ∙ pick_yes (2 ≡? 2) _ _ (eq_yes 2 2 refl)
          ∙ rw (word_in 2 h) (neither _ _ (lt_no (get_or r 2 0) 1 arithmetic.some) (lt_no 1024 (get_or r 2 0) arithmetic.narrow))
      arithmetic_right (suc (suc (suc zero))) a h =
          pick_no (3 ≡? 1) _ _ (eq_no 3 1 (λ z. absurd (omega arith))) ∙ pick_no (3 ≡? 2) _ _ (eq_no 3 2 (λ z. absurd (omega arith))) ∙ pick_yes (3 ≡? 3) _ _ (eq_yes 3 3 refl)
          ∙ rw (word_in 3 h) carry_right
      arithmetic_right (suc (suc (suc (suc j)))) a h = arithmetic_late (suc (suc (suc (suc j)))) (omega arith) h

    -- ---- comparison cells ----

    module _ (t : get_or r 0 0 ≡ 4) where
      abbrev v : ℕ
      v = get_or r 2 0

      record Comparison : Type 0 where
        pub operation : get_or r 1 0 < 4
        pub some : 1 ≤ v
        pub narrow : v ≤ 1024
        pub long : length r ≡ 4 + 2 * v
        pub own : Own l (get_or r (3 + 2 * v) 0) 11 (count_of 4 earlier) 0
        pub lhs : AllBelow (get_or r (3 + 2 * v) 0) (take v (drop 3 r))
        pub rhs : AllBelow (get_or r (3 + 2 * v) 0) (take v (drop (3 + v) r))

      comparison : Comparison
      unfolding decode N.node_of comparison_of
      comparison =
          let m = number 4 earlier r rs l.records e t in
          let j = count_of 4 earlier in
          let c = rw m.is at (q.comparison j m.there) in
          let k = rw m.is at (g.comparison j m.there) in
          let z = c.width in
          let x = get_or r (3 + 2 * v) 0 in
          let word : get_or r (3 + 2 * v) absent ≡ x = same_default r (3 + 2 * v) absent 0 (omega arith) in
          let there : x < count l = rw word at c.there in
          let out : decode (node_for_net l x) ≡ N.ComparisonOutput j = rw word at c.output in
          let of : OfComparison l x j = rw out at (q.wired x there) in
          let b = comparison_node _ _ _ _ _ _ j out in
          record {
            operation = c.operation;
            some = k.0;
            narrow = k.1;
            long = c.width;
            own = record { there = there; kind = b.0; owner = b.1; bit = bit_zero x there b.0 };
            lhs = rw m.is at of.lhs;
            rhs = rw m.is at of.rhs;
          }

      comparison_fresh : taken earlier (get_or r (3 + 2 * v) 0) ≡ false
      comparison_fresh =
          let k = comparison.long in
          let d = length-drop (3 + 2 * v) r in
          let z = length-take 1 (drop (3 + 2 * v) r) in
          let y : 3 + 2 * v + 0 ≡ 3 + 2 * v = omega arith in
          fresh l place q g earlier r rs e 4 (omega arith) t (get_or r (3 + 2 * v) 0)
          (rw (own_comparison r t) (member_at _ (take 1 (drop (3 + 2 * v) r)) 0 (omega arith)
          (get_or-take 1 (drop (3 + 2 * v) r) 0 0 (omega arith) ∙ get_or-drop (3 + 2 * v) r 0 0 ∙ ap (λ (x : ℕ). get_or r x 0) y)))

      operands : AllBelow (get_or r (3 + 2 * v) 0) (take (2 * v) (drop 3 r))
      operands = rw (two_stretches r 3 v) (below_join _ (take v (drop 3 r)) (take v (drop (3 + v) r)) comparison.lhs comparison.rhs)

      operand_there : (i : ℕ) → 3 ≤ i → i < 3 + 2 * v → get_or r i 0 < count l
      operand_there i a b =
          let k = comparison.long in
          let d = length-drop 3 r in
          let z = length-take (2 * v) (drop 3 r) in
          let y : 3 + (i - 3) ≡ i = omega arith in
          let u = below_get _ (take (2 * v) (drop 3 r)) (i - 3) (omega arith) operands in
          let x : get_or (take (2 * v) (drop 3 r)) (i - 3) 0 ≡ get_or r i 0 = get_or-take (2 * v) (drop 3 r) (i - 3) 0 (omega arith) ∙ get_or-drop 3 r (i - 3) 0 ∙ ap (λ (x : ℕ). get_or r x 0) y in
          let m = comparison.own.there in
          omega arith

      comparison_late : (j : ℕ) → 3 ≤ j → j < length r → wrong_comparison ws earlier L j ≡ false
      unfolding wrong_comparison
      comparison_late j a h = go (dec_lt j (3 + 2 * v))
        where
          skip : wrong_comparison ws earlier L j ≡ pick (j <? 3 + 2 * get_or L 2 0) (no_net ws (get_or L j 0))
              (not_own_of ws earlier (get_or L j 0) 11 (count_of 4 earlier) 0 or not_above (get_or L j 0) (take (2 * get_or L 2 0) (drop 3 L)))
          skip = pick_no (j ≡? 1) _ _ (eq_no j 1 (λ z. absurd (omega arith))) ∙ pick_no (j ≡? 2) _ _ (eq_no j 2 (λ z. absurd (omega arith)))

          go : Dec (j < 3 + 2 * v) → wrong_comparison ws earlier L j ≡ false
          go (yes b) =
              let c : j < 3 + 2 * get_or L 2 0 = rw (word_in 2 (omega arith)) b in
              skip ∙ pick_yes (j <? 3 + 2 * get_or L 2 0) _ _ (lt_yes j (3 + 2 * get_or L 2 0) c) ∙ rw (word_in j h) (net_right (get_or r j 0) (operand_there j (omega arith) b))
          go (no b) =
              let k = comparison.long in
              let y : j ≡ 3 + 2 * v = omega arith in
              let c : 3 + 2 * get_or L 2 0 ≤ j = rw (word_in 2 (omega arith)) (omega arith) in
              skip ∙ pick_no (j <? 3 + 2 * get_or L 2 0) _ _ (lt_no j (3 + 2 * get_or L 2 0) c)
              ∙ rw (word_in j h, word_in 2 (omega arith), stretch r rest 3 (2 * v) (omega arith))
              (ap (λ (x : ℕ). not_own_of ws earlier (get_or r x 0) 11 (count_of 4 earlier) 0 or not_above (get_or r x 0) (take (2 * v) (drop 3 r))) y
              ∙ neither _ _ (not_own earlier _ 11 (count_of 4 earlier) 0 comparison.own comparison_fresh) (below_above _ _ operands))

      pub comparison_right : (i : ℕ) → 0 < i → i < length r → wrong_comparison ws earlier L i ≡ false
      unfolding wrong_comparison outside
      comparison_right zero a h = absurd (omega arith)
      comparison_right (suc zero) a h = pick_yes (1 ≡? 1) _ _ (eq_yes 1 1 refl) ∙ rw (word_in 1 h) (lt_no 3 (get_or r 1 0) (let z = comparison.operation in omega arith))
      comparison_right (suc (suc zero)) a h =
          pick_no (2 ≡? 1) _ _ (eq_no 2 1 (λ z. absurd (omega arith))) ∙ pick_yes (2 ≡? 2) _ _ (eq_yes 2 2 refl)
          ∙ rw (word_in 2 h) (neither _ _ (lt_no (get_or r 2 0) 1 comparison.some) (lt_no 1024 (get_or r 2 0) comparison.narrow))
      comparison_right (suc (suc (suc j))) a h = comparison_late (suc (suc (suc j))) (omega arith) h
