-- What is lowered is listed, and so accepted. Assumes nothing.
use Rattle.std.specs.Prelude.{ℕ, zero, suc, ◌+◌, ◌≤◌, ◌<◌, ◌⊎◌, ◌≡◌, Bool, true, false, List, [], ◌∷◌, ◌++◌, drop}
use Rattle.std.proofs.Common.{not-suc-le-zero, le_of_suc-le-suc, inl, inr, subst, ◌∙◌, get_or-take}
use native.Mathlib.Omega.{arith}
use Rattle.std.proofs.Math.Decide.{dec_lt}
use Rattle.std.proofs.Math.Path.{refl, sym}
use Rattle.std.proofs.Math.Option.{Option, none, some}
use Rattle.std.proofs.Math.ListN.{length, get_or, length-take, length-drop}
use Rattle.std.proofs.Math.Seq.{get_or-drop}
use Rattle.spec_tests.specs.Rules.{◌<?◌, ◌≡?◌, ◌or◌, pick, only, Fine}
use Rattle.spec_tests.specs.Laws.{lt_no}
use Rattle.spec_rtl.specs.Rtl.{Module}
use Rattle.spec_rules.specs.NetlistImage as N
use Rattle.spec_model.specs.Words.{Netlist, absent, used, words}
use Rattle.spec_model.specs.Builder.{Out, done, node_for_net}
use Rattle.spec_model.specs.Lowering.{State, cell, lower_state}
use Rattle.net_view.specs.View.{AllFormed, Fit}
use Rattle.law_nets.specs.Meaning.{decode, records_with}
use Rattle.law_nets.specs.Sound.{count, Sound}
use Rattle.law_nets.specs.Run.{Meets}
use Rattle.law_walk.specs.Tables.{some_eq}
use Rattle.law_walk.specs.Good.{Good}
use Rattle.law_walk.specs.Kept.{Any}
use Rattle.law_phases.specs.Registers.{bits_of}
use Rattle.law_phases.proofs.Outputs as O
use Rattle.law_owners.specs.Ends.{All}
use Rattle.spec_netlist.specs.Accept.{own_nets, most_owner, wrong_owner, belongs, accepts}
use Rattle.spec_netlist.specs.Given.{Same}
use Rattle.law_written.specs.Written.{same}
use Rattle.law_listed.specs.Listed.{Shaped, sort_of, seat_of, record_at, records, Stays, Listed}
use Rattle.law_listed.specs.Parts.{with_sort, own_register}
use Rattle.law_listed.proofs.Fits.{listed_accepted}
use Rattle.law_listed.proofs.Further.{same_further, further_accepted}
use Rattle.law_listed_walk.specs.Shape.{Wide, fine_shape}
use Rattle.law_listed_made.specs.Place.{Bounds, place, base, base_below, base_one, signal_of, bit_of, bits}
use Rattle.law_listed_made.specs.MemoryMade.{memory_own}
use Rattle.law_listed_made.specs.Lowered.{Whole, bits_there, data_there, lowered}

sorts : (k : ℕ) → sort_of k < 3 → (sort_of k ≡ 0) ⊎ ((k ≡ 7) ⊎ (k ≡ 9))
sorts zero h = inl refl
sorts (suc zero) h = absurd (omega arith)
sorts (suc (suc zero)) h = absurd (omega arith)
sorts (suc (suc (suc zero))) h = absurd (omega arith)
sorts (suc (suc (suc (suc zero)))) h = absurd (omega arith)
sorts (suc (suc (suc (suc (suc zero))))) h = absurd (omega arith)
sorts (suc (suc (suc (suc (suc (suc zero)))))) h = absurd (omega arith)
sorts (suc (suc (suc (suc (suc (suc (suc zero))))))) h = inr (inl refl)
sorts (suc (suc (suc (suc (suc (suc (suc (suc zero)))))))) h = inl refl
sorts (suc (suc (suc (suc (suc (suc (suc (suc (suc zero))))))))) h = inr (inr refl)
sorts (suc (suc (suc (suc (suc (suc (suc (suc (suc (suc zero)))))))))) h = absurd (omega arith)
sorts (suc (suc (suc (suc (suc (suc (suc (suc (suc (suc (suc zero))))))))))) h = absurd (omega arith)
sorts (suc (suc (suc (suc (suc (suc (suc (suc (suc (suc (suc (suc k)))))))))))) h = absurd (omega arith)

-- ---- lists ----

all_with : (P : List ℕ → Type 0) (t : ℕ) (rs : List (List ℕ)) → All P rs → (j : ℕ) → j < length (records_with t rs) → P (get_or (records_with t rs) j [])
unfolding records_with only pick
all_with P t [] a j h = absurd (not-suc-le-zero h)
all_with P t (r ∷ rs) a j h = go (get_or r 0 0 ≡? t) j h (all_with P t rs a.1)
  where
    go : (b : Bool) (j : ℕ) → j < length (pick b (r ∷ records_with t rs) (records_with t rs)) → ((j : ℕ) → j < length (records_with t rs) → P (get_or (records_with t rs) j []))
        → P (get_or (pick b (r ∷ records_with t rs) (records_with t rs)) j [])
    go true zero h ih = a.0
    go true (suc j) h ih = ih j (le_of_suc-le-suc h)
    go false j h ih = ih j h

with_few : (t : ℕ) (rs : List (List ℕ)) → AllFormed rs → length (records_with t rs) ≤ used rs
unfolding records_with only used pick
with_few t [] f = omega arith
with_few t (r ∷ rs) f = go (get_or r 0 0 ≡? t) (with_few t rs f.1) f.0.some
  where
    go : (b : Bool) → length (records_with t rs) ≤ used rs → 0 < length r → length (pick b (r ∷ records_with t rs) (records_with t rs)) ≤ length r + used rs
    go true h k = omega arith
    go false h k = omega arith

same_net : (f : ℕ → ℕ → ℕ → Option ℕ) (k o b k' o' b' j n : ℕ) → k ≡ k' → o ≡ o' → b ≡ b' → f k o b ≡ some j → f k' o' b' ≡ some n → j ≡ n
same_net f k o b k' o' b' j n p q r u v = some_eq (sym u ∙ rw (p, q, r) v)

which : (z : ℕ) → 9 < z → z ≤ 11 → (z ≡ 10) ⊎ (z ≡ 11)
which z p r = go (dec_lt z 11)
  where
    go : Dec (z < 11) → (z ≡ 10) ⊎ (z ≡ 11)
    go (yes u) = inl (omega arith)
    go (no u) = inr (omega arith)

owner_cell : (k o : ℕ) → (k ≡ 10) ⊎ (k ≡ 11) → o ≤ absent → wrong_owner k o ≡ false
unfolding wrong_owner belongs most_owner ◌≡?◌ ◌<?◌ ◌or◌ pick
owner_cell k o (inl e) h = rw e (lt_no absent o h)
owner_cell k o (inr e) h = rw e (lt_no absent o h)

-- ---- the finished netlist ----

module _ (m : Module) (good : Good m) (bound : Bounds m) (ob : Bool) (st : State) (c : Whole m good bound ob st) (short : st.netlist.max_list ≤ 65535) where
  abbrev l : Netlist
  l = st.netlist

  q : Sound l
  q = c.inv.sound

  -- a cell's number is small
  cell_small : (k : ℕ) → k < count l → ((node_for_net l k).kind ≡ 10) ⊎ ((node_for_net l k).kind ≡ 11) → (node_for_net l k).owner ≤ absent
  unfolding decode N.node_of
  cell_small k h (inl y) =
      let n : decode (node_for_net l k) ≡ N.ArithmeticOutput (node_for_net l k).owner (node_for_net l k).bit = rw y refl in
      let o = (rw n at (q.wired k h)).cell in
      let f = with_few 3 l.records q.formed in
      let s = q.short in
      omega arith
  cell_small k h (inr y) =
      let n : decode (node_for_net l k) ≡ N.ComparisonOutput (node_for_net l k).owner = rw y refl in
      let o = (rw n at (q.wired k h)).cell in
      let f = with_few 4 l.records q.formed in
      let s = q.short in
      omega arith

  shaped : (k : ℕ) → k < count l → Shaped (node_for_net l k)
  shaped k h =
      let s = fine_shape c.fine k h in
      record {
        kind = s.kind;
        owner = own (dec_lt 9 (node_for_net l k).kind);
        bit = s.bit;
        no_bit = s.no_bit;
        in0 = s.in0;
        in1 = s.in1;
        in2 = s.in2;
      }
    where
      own : Dec (9 < (node_for_net l k).kind) → wrong_owner (node_for_net l k).kind (node_for_net l k).owner ≡ false
      own (yes z) = let y = which (node_for_net l k).kind z (fine_shape c.fine k h).kind in owner_cell (node_for_net l k).kind (node_for_net l k).owner y (cell_small k h y)
      own (no z) = (fine_shape c.fine k h).owner (omega arith)

  -- ---- where nodes stand ----

  cell_of_law : ℕ → ℕ → ℕ → Option ℕ
  cell_of_law k o b = cell none st.signal_bits (signal_of m k o b) (bit_of m k o b)

  register_seat : (k : ℕ) → k < count l → (node_for_net l k).kind ≡ 7 → Stays l 1 (base m (node_for_net l k).owner + (node_for_net l k).bit) 0 k
  unfolding cell_of_law
  register_seat k h e =
      let o = (node_for_net l k).owner in
      let b = (node_for_net l k).bit in
      let s = c.seats k h (inl e) in
      let fits : b < bits_of m o = rw e at s.bit in
      let j = base m o + b in
      let low = base_below m o (length m.registers) (bits_there m good bound ob o b fits) in
      let n = c.register_count in
      let there : j < records l 1 = omega arith in
      let r = record_at l 1 j in
      let p = c.registers.records j there in
      let d = base_one m (get_or r 1 0) o (get_or r 2 0) b (c.registers.bit j there) fits (c.registers.placed j there) in
      let w = p.own in
      let t = c.seats (get_or r 3 0) w.there (inl w.kind) in
      let x : get_or r 3 0 ≡ k = same_net cell_of_law _ _ _ _ _ _ (get_or r 3 0) k (w.kind ∙ sym e) (w.owner ∙ d.0) (w.bit ∙ d.1) t.here s.here in
      let v = own_register r (with_sort 1 l.records j there) in
      let lr = p.long in
      let ld = length-drop 3 r in
      let lt = length-take 1 (drop 3 r) in
      record {
        there = there;
        inside = rw v (omega arith);
        is = rw v (get_or-take 1 (drop 3 r) 0 0 (omega arith) ∙ get_or-drop 3 r 0 0 ∙ x);
      }

  memory_seat : (k : ℕ) → k < count l → (node_for_net l k).kind ≡ 9 → Stays l 2 (node_for_net l k).owner (node_for_net l k).bit k
  unfolding cell_of_law
  memory_seat k h e =
      let o = (node_for_net l k).owner in
      let b = (node_for_net l k).bit in
      let s = c.seats k h (inr e) in
      let fits : b < bits m 9 o = rw e at s.bit in
      let n = c.memory_count in
      let low = data_there m good bound ob o b fits in
      let there : o < records l 2 = omega arith in
      let r = record_at l 2 o in
      let p = c.memories.records o there in
      let i : b < length (own_nets r) = (let z = c.memories.wide o there in omega arith) in
      let w = memory_own l r (with_sort 2 l.records o there) p b i in
      let t = c.seats (get_or (own_nets r) b 0) w.there (inr w.kind) in
      let x : get_or (own_nets r) b 0 ≡ k = same_net cell_of_law _ _ _ _ _ _ (get_or (own_nets r) b 0) k (w.kind ∙ sym e) (w.owner ∙ c.memories.placed o there) w.bit t.here s.here in
      record { there = there; inside = i; is = x }

  pub is_listed : Listed l (place m)
  is_listed = record {
    nodes = shaped;
    ports = c.ports.records;
    port_place = λ j i h. c.ports.placed j h;
    registers = c.registers.records;
    register_place = c.registers.placed;
    memories = c.memories.records;
    memory_place = λ j i h. c.memories.placed j h;
    arithmetic = λ j h. wide 3 j h (omega arith);
    comparison = λ j h. wide 4 j h (omega arith);
    cell_place = λ o b. (refl, refl);
    listed = λ k h s. seat k h (sorts (node_for_net l k).kind s);
  }
    where
      wide : (t j : ℕ) → j < records l t → 3 ≤ t → (1 ≤ get_or (record_at l t j) 2 0) × (get_or (record_at l t j) 2 0 ≤ 1024)
      wide t j h s =
          let w = all_with Wide t l.records c.fine.records j h in
          let e = with_sort t l.records j h in
          (w.least (omega arith), w.most (omega arith))

      seat : (k : ℕ) → k < count l → (sort_of (node_for_net l k).kind ≡ 0) ⊎ (((node_for_net l k).kind ≡ 7) ⊎ ((node_for_net l k).kind ≡ 9))
          → let x = node_for_net l k in let t = sort_of x.kind in Stays l t (place m t x.owner x.bit) (seat_of t x.bit) k
      seat k h (inl e) = rw e (c.ports.nodes k h e)
      seat k h (inr (inl e)) = rw e (register_seat k h e)
      seat k h (inr (inr e)) = rw e (memory_seat k h e)

-- ---- acceptance ----

module _ (m : Module) (good : Good m) (bound : Bounds m) (ob : Bool) (n p : ℕ) (some : 0 < n) (few : n ≤ 65535) (short : p ≤ 65535) (st : State) (ok : lower_state ob m n p ≡ done st) where
  small : n ≤ absent
  small = omega arith

  ended : O.Lowered m good ob (n, p) st
  ended = subst (λ (o : Out State). Meets Any (O.Lowered m good ob (n, p)) o) ok (O.lowered m good ob (n, p) small)

  pub fit : Fit n p st.netlist
  fit =
      let q = ended.connected.inv.sound in
      let e = ended.connected.limited in
      record { nets = e.0; list = e.1; few = omega (arith, q.few, e.0); short = omega (arith, q.short, e.1); formed = q.formed }

  whole : Whole m good bound ob st
  whole = (rw ok at (lowered m good bound ob n p small)).ends

  pub lowered_accepted : accepts (words n p st.netlist) ≡ Fine
  lowered_accepted =
      let e = ended.connected.limited.1 in
      let l = is_listed m good bound ob st whole (omega arith) in
      listed_accepted n p st.netlist fit (place m) whole.inv.sound l some few short

  -- with any words behind them
  pub further : (rest : List ℕ) → (accepts (words n p st.netlist ++ rest) ≡ Fine) × Same (words n p st.netlist ++ rest) st.netlist
  further rest =
      let e = ended.connected.limited.1 in
      let l = is_listed m good bound ob st whole (omega arith) in
      (further_accepted n p st.netlist fit (place m) whole.inv.sound l some few short rest, same_further n p st.netlist fit (place m) whole.inv.sound l some few short rest)

  pub lowered_same : Same (words n p st.netlist) st.netlist
  lowered_same = same n p st.netlist fit
