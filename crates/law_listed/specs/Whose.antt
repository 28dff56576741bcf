-- A net that a record has as its own tells the record: so no two records have one net, and no two nodes one kind, owner and bit.
-- Assumes nothing.
use Rattle.std.specs.Prelude.{ℕ, zero, suc, ◌+◌, ◌*◌, ◌≤◌, ◌<◌, ◌⊎◌, ◌≡◌, Bool, true, false, List, [], ◌∷◌, ◌++◌, drop}
use native.Mathlib.Omega.{arith}
use Rattle.std.proofs.Common.{inl, inr, sym, ap₂, ◌∙◌, get_or-take}
use Rattle.std.proofs.Math.Logic.{⊎_elim}
use Rattle.std.proofs.Math.Path.{refl, ap}
use Rattle.std.proofs.Math.Option.{Option, none, some}
use Rattle.std.proofs.Math.ListN.{get_or, length-take, length-drop}
use Rattle.std.proofs.Math.Seq.{get_or-drop}
use Rattle.spec_tests.specs.Rules.{◌<?◌, ◌≡?◌, ◌or◌}
use Rattle.spec_tests.specs.Laws.{eq_yes, eq_no}
use Rattle.spec_rules.specs.NetlistImage.{MemoryPort, port_length, memory_port_of, memory_of}
use Rattle.spec_rules.specs.NetlistImage as N
use Rattle.net_view.specs.View.{AllFormed}
use Rattle.spec_model.specs.Words.{absent, Netlist}
use Rattle.spec_model.specs.Builder.{node_for_net}
use Rattle.law_nets.specs.Meaning.{decode}
use Rattle.law_nets.specs.Sound.{count, Sound}
use Rattle.spec_netlist.specs.Accept.{belongs, member, second_data, own_nets, taken, count_of}
use Rattle.law_told.specs.Members.{no_member, member_split}
use Rattle.law_told.specs.Told.{untrue, pick_yes, pick_no}
use Rattle.law_told.specs.Owned.{within}
use Rattle.law_listed.specs.Listed.{sort_of, seat_of, Own, PortWords, record_at, records, Stays, Listed}
use Rattle.law_listed.specs.Parts.{arithmetic_node, comparison_node, same_default, member_at, own_port, own_register, own_memory, own_arithmetic, own_comparison, with_sort, number, number_old, count_with, Taken, taken_by, taken_at}

-- which kinds belong to a record
kinds : (k : ℕ) → k ≤ 11 → belongs k ≡ true → (sort_of k < 3) ⊎ ((k ≡ 10) ⊎ (k ≡ 11))
unfolding belongs ◌≡?◌ ◌<?◌ ◌or◌
kinds zero h e = inl (omega arith)
kinds (suc zero) h e = untrue e
kinds (suc (suc zero)) h e = untrue e
kinds (suc (suc (suc zero))) h e = untrue e
kinds (suc (suc (suc (suc zero)))) h e = untrue e
kinds (suc (suc (suc (suc (suc zero))))) h e = untrue e
kinds (suc (suc (suc (suc (suc (suc zero)))))) h e = untrue e
kinds (suc (suc (suc (suc (suc (suc (suc zero))))))) h e = inl (omega arith)
kinds (suc (suc (suc (suc (suc (suc (suc (suc zero)))))))) h e = inl (omega arith)
kinds (suc (suc (suc (suc (suc (suc (suc (suc (suc zero))))))))) h e = inl (omega arith)
kinds (suc (suc (suc (suc (suc (suc (suc (suc (suc (suc zero)))))))))) h e = inr (inl refl)
kinds (suc (suc (suc (suc (suc (suc (suc (suc (suc (suc (suc zero))))))))))) h e = inr (inr refl)
kinds (suc (suc (suc (suc (suc (suc (suc (suc (suc (suc (suc (suc k)))))))))))) h e = absurd (omega arith)

same_net : (f : ℕ → ℕ → ℕ → ℕ) (k o b k' o' b' j n : ℕ) → k ≡ k' → o ≡ o' → b ≡ b' → f k o b ≡ j → f k' o' b' ≡ n → j ≡ n
same_net f k o b k' o' b' j n p q r u v = sym u ∙ rw (p, q, r) v

-- net x tells its record: the sort, and the number among those of that sort
pub record Whose (l : Netlist) (place : ℕ → ℕ → ℕ → ℕ) (t j x : ℕ) : Type 0 where
  pub there : x < count l
  pub sort : sort_of (node_for_net l x).kind ≡ t
  pub number : place t (node_for_net l x).owner (node_for_net l x).bit ≡ j

module _ (l : Netlist) (place : ℕ → ℕ → ℕ → ℕ) (q : Sound l) (g : Listed l place) where
  of_own : (t j x k o b : ℕ) → Own l x k o b → sort_of k ≡ t → place t o b ≡ j → Whose l place t j x
  of_own t j x k o b w s n = record {
    there = w.there;
    sort = ap sort_of w.kind ∙ s;
    number = ap₂ (place t) w.owner w.bit ∙ n;
  }

  port_whose : (j x : ℕ) → j < records l 0 → member x (own_nets (record_at l 0 j)) ≡ true → Whose l place 0 j x
  port_whose j x h e =
      let r = record_at l 0 j in
      let p = g.ports j h in
      let s = within x 3 (get_or r 2 0) r (ap (member x) (sym (own_port r (with_sort 0 l.records j h))) ∙ e) in
      let o : Own l x (node_for_net l (get_or r 3 0)).kind (get_or r 1 0) s.at = rw s.is at (p.own s.at s.narrow) in
      of_own 0 j x _ _ _ o (⊎_elim (λ (z : (node_for_net l (get_or r 3 0)).kind ≡ 0). ap sort_of z) (λ (z : (node_for_net l (get_or r 3 0)).kind ≡ 8). ap sort_of z) p.sort) (g.port_place j s.at h)

  register_whose : (j x : ℕ) → j < records l 1 → member x (own_nets (record_at l 1 j)) ≡ true → Whose l place 1 j x
  register_whose j x h e =
      let r = record_at l 1 j in
      let p = g.registers j h in
      let s = within x 3 1 r (ap (member x) (sym (own_register r (with_sort 1 l.records j h))) ∙ e) in
      let n = s.narrow in
      let z : 3 + s.at ≡ 3 = omega arith in
      let i : get_or r 3 0 ≡ x = ap (λ (k : ℕ). get_or r k 0) (sym z) ∙ s.is in
      of_own 1 j x _ _ _ (rw i at p.own) refl (g.register_place j h)

  -- the read data of one port
  data_whose : (j x m w base : ℕ) (p : List ℕ) → j < records l 2 → m ≡ get_or (record_at l 2 j) 1 0 → PortWords l m w base p → member x (memory_port_of p).read_data ≡ true → Whose l place 2 j x
  unfolding memory_port_of
  data_whose j x m w base p h f c e =
      let s = within x (4 + get_or p 0 0) (get_or p 1 0) p e in
      let o = c.own s.at (let n = s.narrow in let d = c.wide in omega arith) in
      of_own 2 j x _ _ _ (rw s.is at o) refl (ap (λ (z : ℕ). place 2 z (base + s.at)) f ∙ g.memory_place j (base + s.at) h)

  memory_whose : (j x : ℕ) → j < records l 2 → member x (own_nets (record_at l 2 j)) ≡ true → Whose l place 2 j x
  unfolding memory_of second_data
  memory_whose j x h e =
      let r = record_at l 2 j in
      let p = g.memories j h in
      member_split x (memory_port_of (drop 6 r)).read_data (second_data (memory_of r).second) (ap (member x) (sym (own_memory r (with_sort 2 l.records j h))) ∙ e)
      (λ a. data_whose j x _ _ 0 (drop 6 r) h refl p.first a)
      (λ a. ⊎_elim
      (λ (z : (get_or r 5 0 ≡ 1) × _). no_member x (ap (λ (o : Option MemoryPort). member x (second_data o)) (sym (pick_no (get_or r 5 0 ≡? 2) (some (memory_port_of (drop (6 + port_length (drop 6 r)) r))) none (eq_no (get_or r 5 0) 2 (λ y. let u = z.0 in absurd (omega arith))))) ∙ a))
      (λ (z : (get_or r 5 0 ≡ 2) × _). data_whose j x _ _ (get_or r 7 0) (drop (6 + port_length (drop 6 r)) r) h refl (p.second z.0)
      (ap (λ (o : Option MemoryPort). member x (second_data o)) (sym (pick_yes (get_or r 5 0 ≡? 2) (some (memory_port_of (drop (6 + port_length (drop 6 r)) r))) none (eq_yes (get_or r 5 0) 2 z.0))) ∙ a))
      p.ports)

  arithmetic_whose : (j x : ℕ) → j < records l 3 → member x (own_nets (record_at l 3 j)) ≡ true → Whose l place 3 j x
  unfolding decode N.node_of
  arithmetic_whose j x h e =
      let r = record_at l 3 j in
      let c = q.arithmetic j h in
      let w = get_or r 2 0 in
      let s = within x (4 + 2 * w) w r (ap (member x) (sym (own_arithmetic r (with_sort 3 l.records j h))) ∙ e) in
      let i : get_or (drop (4 + 2 * w) r) s.at absent ≡ x = get_or-drop (4 + 2 * w) r s.at absent ∙ same_default r (4 + 2 * w + s.at) absent 0 s.inside ∙ s.is in
      let n = arithmetic_node _ _ _ _ _ _ j s.at (rw i at (c.outputs s.at s.narrow)) in
      of_own 3 j x 10 j s.at (record { there = rw i at (c.there s.at s.narrow); kind = n.0; owner = n.1; bit = n.2 }) refl (g.cell_place j s.at).0

  comparison_whose : (j x : ℕ) → j < records l 4 → member x (own_nets (record_at l 4 j)) ≡ true → Whose l place 4 j x
  unfolding decode N.node_of
  comparison_whose j x h e =
      let r = record_at l 4 j in
      let c = q.comparison j h in
      let w = get_or r 2 0 in
      let s = within x (3 + 2 * w) 1 r (ap (member x) (sym (own_comparison r (with_sort 4 l.records j h))) ∙ e) in
      let a = s.narrow in
      let b = s.inside in
      let z : 3 + 2 * w + s.at ≡ 3 + 2 * w = omega arith in
      let i : get_or r (3 + 2 * w) absent ≡ x = same_default r (3 + 2 * w) absent 0 (omega arith) ∙ ap (λ (k : ℕ). get_or r k 0) (sym z) ∙ s.is in
      let n = comparison_node _ _ _ _ _ _ j (rw i at c.output) in
      of_own 4 j x 11 j _ (record { there = rw i at c.there; kind = n.0; owner = n.1; bit = refl }) refl (g.cell_place j _).1

  pub whose : (t j x : ℕ) → t < 5 → j < records l t → member x (own_nets (record_at l t j)) ≡ true → Whose l place t j x
  whose zero j x f h e = port_whose j x h e
  whose (suc zero) j x f h e = register_whose j x h e
  whose (suc (suc zero)) j x f h e = memory_whose j x h e
  whose (suc (suc (suc zero))) j x f h e = arithmetic_whose j x h e
  whose (suc (suc (suc (suc zero)))) j x f h e = comparison_whose j x h e
  whose (suc (suc (suc (suc (suc t))))) j x f h e = absurd (omega arith)

  -- ---- no record before has it ----

  formed_part : (earlier rs : List (List ℕ)) → AllFormed (earlier ++ rs) → AllFormed earlier
  formed_part [] rs f = tt
  formed_part (r ∷ earlier) rs f = (f.0, formed_part earlier rs f.1)

  pub fresh : (earlier : List (List ℕ)) (r : List ℕ) (rs : List (List ℕ)) → l.records ≡ earlier ++ (r ∷ rs) → (t : ℕ) → t < 5 → get_or r 0 0 ≡ t → (x : ℕ) → member x (own_nets r) ≡ true
      → taken earlier x ≡ false
  fresh earlier r rs e t f s x m = go (taken earlier x) refl
    where
      here : Whose l place t (count_of t earlier) x
      here =
          let n = number t earlier r rs l.records e s in
          whose t (count_of t earlier) x f n.there (ap (λ (z : List ℕ). member x (own_nets z)) n.is ∙ m)

      no : Taken earlier x → ⊥
      no k =
          let c = count_with k.sort earlier in
          let h = k.there in
          let o = number_old k.sort earlier (r ∷ rs) l.records e k.number (omega arith) in
          let w = whose k.sort k.number x k.five o.0 (ap (λ (z : List ℕ). member x (own_nets z)) o.1 ∙ k.owns) in
          let a : k.sort ≡ t = sym w.sort ∙ here.sort in
          let b : k.number ≡ count_of t earlier = sym w.number ∙ ap (λ (z : ℕ). place z (node_for_net l x).owner (node_for_net l x).bit) a ∙ here.number in
          let d : count_of k.sort earlier ≡ count_of t earlier = ap (λ (z : ℕ). count_of z earlier) a in
          omega arith

      go : (b : Bool) → taken earlier x ≡ b → taken earlier x ≡ false
      go false h = h
      go true h = absurd (no (taken_by earlier (formed_part earlier (r ∷ rs) (rw e at q.formed)) x h))

  -- ---- each net that belongs to a record stands in it ----

  abbrev Seated : ℕ → Type 0
  Seated k = let x = node_for_net l k in let t = sort_of x.kind in Stays l t (place t x.owner x.bit) (seat_of t x.bit) k

  arithmetic_seat : (k : ℕ) → k < count l → (node_for_net l k).kind ≡ 10 → Seated k
  unfolding decode N.node_of
  arithmetic_seat k h e =
      let x = node_for_net l k in
      let n : decode x ≡ N.ArithmeticOutput x.owner x.bit = rw e (refl) in
      let o = rw n at (q.wired k h) in
      let r = record_at l 3 x.owner in
      let w = get_or r 2 0 in
      let c = q.arithmetic x.owner o.cell in
      let v = own_arithmetic r (with_sort 3 l.records x.owner o.cell) in
      let d = length-drop (4 + 2 * w) r in
      let y = length-take w (drop (4 + 2 * w) r) in
      let u = c.width in
      let b = o.bit in
      let p = (g.cell_place x.owner x.bit).0 in
      let z : Stays l 3 x.owner x.bit k = record {
        there = o.cell;
        inside = rw v (omega arith);
        is = rw v (get_or-take w (drop (4 + 2 * w) r) x.bit 0 b ∙ same_default (drop (4 + 2 * w) r) x.bit 0 absent (omega arith) ∙ o.listed);
      } in
      rw (e, p) z

  comparison_seat : (k : ℕ) → k < count l → (node_for_net l k).kind ≡ 11 → Seated k
  unfolding decode N.node_of
  comparison_seat k h e =
      let x = node_for_net l k in
      let n : decode x ≡ N.ComparisonOutput x.owner = rw e (refl) in
      let o = rw n at (q.wired k h) in
      let r = record_at l 4 x.owner in
      let w = get_or r 2 0 in
      let c = q.comparison x.owner o.cell in
      let v = own_comparison r (with_sort 4 l.records x.owner o.cell) in
      let d = length-drop (3 + 2 * w) r in
      let y = length-take 1 (drop (3 + 2 * w) r) in
      let u = c.width in
      let p = (g.cell_place x.owner x.bit).1 in
      let a : 3 + 2 * w + 0 ≡ 3 + 2 * w = omega arith in
      let z : Stays l 4 x.owner 0 k = record {
        there = o.cell;
        inside = rw v (omega arith);
        is = rw v (get_or-take 1 (drop (3 + 2 * w) r) 0 0 (omega arith) ∙ get_or-drop (3 + 2 * w) r 0 0 ∙ ap (λ (i : ℕ). get_or r i 0) a
            ∙ same_default r (3 + 2 * w) 0 absent (omega arith) ∙ o.listed);
      } in
      rw (e, p) z

  pub seated : (k : ℕ) → k < count l → belongs (node_for_net l k).kind ≡ true → Seated k
  seated k h b = ⊎_elim (λ (z : sort_of (node_for_net l k).kind < 3). g.listed k h z)
      (λ (z : ((node_for_net l k).kind ≡ 10) ⊎ ((node_for_net l k).kind ≡ 11)). ⊎_elim (arithmetic_seat k h) (comparison_seat k h) z)
      (kinds (node_for_net l k).kind (g.nodes k h).kind b)

  -- no two nodes have one kind, owner and bit
  pub single : (j n : ℕ) → j < count l → n < count l → belongs (node_for_net l n).kind ≡ true → (node_for_net l j).kind ≡ (node_for_net l n).kind
      → (node_for_net l j).owner ≡ (node_for_net l n).owner → (node_for_net l j).bit ≡ (node_for_net l n).bit → j ≡ n
  single j n h m b p o c =
      let x = seated j h (ap belongs p ∙ b) in
      let y = seated n m b in
      same_net (λ k o b. get_or (own_nets (record_at l (sort_of k) (place (sort_of k) o b))) (seat_of (sort_of k) b) 0) _ _ _ _ _ _ j n p o c x.is y.is

  -- and each that belongs to a record is in one
  pub in_one : (k : ℕ) → k < count l → belongs (node_for_net l k).kind ≡ true → taken l.records k ≡ true
  in_one k h b =
      let x = seated k h b in
      taken_at l.records _ _ k x.there (member_at k _ _ x.inside x.is)
