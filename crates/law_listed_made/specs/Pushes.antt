-- One record more: a port with its nodes, a register's bit, a memory. Assumes nothing.
use Rattle.std.specs.Prelude.{ℕ, suc, ◌+◌, ◌-◌, ◌≤◌, ◌<◌, ◌⊎◌, ◌≡◌, refl, List, [], ◌∷◌, ◌++◌, length, take, get_or}
use Rattle.std.proofs.Common.{arith, sym, ap, subst, ◌∙◌, length-append, length-take, get_or-drop, get_or-take}
use Rattle.std.proofs.Math.Decide.{dec_lt}
use Rattle.std.proofs.Math.Seq.{get_or-append_seam}
use Rattle.spec_rtl.specs.Rtl.{Module}
use Rattle.spec_model.specs.Words.{Node, Netlist}
use Rattle.spec_model.specs.Builder.{node_for_net}
use Rattle.net_view.specs.Laws.{with_record}
use Rattle.law_nets.specs.Meaning.{records_with}
use Rattle.law_nets.specs.Sound.{count, Grew}
use Rattle.law_nets.specs.Run.{grew_trans}
use Rattle.law_nets.specs.Nodes.{node_grew, with_new, with_after}
use Rattle.law_gates.specs.Nodes.{no_node}
use Rattle.word_laws.specs.Runs.{length_from}
use Rattle.law_gates.specs.Added.{with_nodes, grew_nodes, nodes_limits, grew_record, Recorded, recorded_node, recorded_net, recorded_count, recorded_new}
use Rattle.law_phases.specs.Registers.{bits_of}
use Rattle.spec_netlist.specs.Accept.{own_nets}
use Rattle.law_listed.specs.Listed.{sort_of, Own, PortRecord, RegisterRecord, MemoryRecord, record_at, records, Stays}
use Rattle.law_listed.specs.Parts.{own_port}
use Rattle.law_listed_made.specs.Place.{Ports, Registers, Memories, port_place, base, bits}
use Rattle.law_listed_made.specs.Grow.{port_grew, register_grew, memory_grew, stays_grew}

last_of : (t : ℕ) (rs rs' : List (List ℕ)) (r : List ℕ) → records_with t rs' ≡ records_with t rs ++ (r ∷ [])
    → (length (records_with t rs') ≡ suc (length (records_with t rs))) × (get_or (records_with t rs') (length (records_with t rs)) [] ≡ r)
last_of t rs rs' r e = (
  ap length e ∙ length-append (records_with t rs) (r ∷ []) ∙ omega arith,
  ap (λ (z : List (List ℕ)). get_or z (length (records_with t rs)) []) e ∙ get_or-append_seam (records_with t rs) r [] [],
)

module _ (m : Module) (s w : ℕ) (xs : List Node) (l : Netlist) (ns : List ℕ) (l' : Netlist) (a : Recorded (0 ∷ s ∷ w ∷ []) xs l ns l') where
  abbrev key : List ℕ
  key = 0 ∷ s ∷ w ∷ []

  pub port_later : Grew l l'
  port_later = subst (λ (h : Netlist). Grew l h) (sym a.then) (grew_trans (grew_nodes xs l) (grew_record (key ++ ns) (with_nodes xs l)))

  records_are : l'.records ≡ l.records ++ ((key ++ ns) ∷ [])
  records_are = ap (λ (h : Netlist). h.records) a.then ∙ ap (λ (rs : List (List ℕ)). rs ++ ((key ++ ns) ∷ [])) (nodes_limits xs l).2

  module _ (wide : length xs ≡ w) (least : 1 ≤ w) (most : w ≤ 1024) (signal : s ≤ 511) (kd : ℕ) (kinds : (kd ≡ 0) ⊎ (kd ≡ 8))
      (are : (i : ℕ) → i < w → ((get_or xs i no_node).kind ≡ kd) × ((get_or xs i no_node).owner ≡ s) × ((get_or xs i no_node).bit ≡ i))
      (here : port_place m s ≡ records l 0) where
    net_at_law : (i : ℕ) → i < w → get_or (0 ∷ s ∷ w ∷ ns) (3 + i) 0 ≡ count l + i
    net_at_law i h = sym (get_or-drop 3 (0 ∷ s ∷ w ∷ ns) i 0) ∙ recorded_net key xs l ns l' a i 0 (omega arith)

    own_at : (i : ℕ) → i < w → Own l' (count l + i) kd s i
    own_at i h =
        let e = recorded_node key xs l ns l' a i (omega arith) in
        let q = are i h in
        let c = recorded_count key xs l ns l' a in
        record {
          there = omega arith;
          kind = ap (λ (y : Node). y.kind) e ∙ q.0;
          owner = ap (λ (y : Node). y.owner) e ∙ q.1;
          bit = ap (λ (y : Node). y.bit) e ∙ q.2;
        }

    nets_long : length ns ≡ w
    nets_long = ap length a.nets ∙ length_from (count l) (length xs) ∙ wide

    first_kind : (node_for_net l' (get_or (0 ∷ s ∷ w ∷ ns) 3 0)).kind ≡ kd
    first_kind =
        let e : get_or (0 ∷ s ∷ w ∷ ns) 3 0 ≡ count l + 0 = net_at_law 0 (omega arith) in
        ap (λ (k : ℕ). (node_for_net l' k).kind) e ∙ (own_at 0 (omega arith)).kind

    new_port : PortRecord l' (0 ∷ s ∷ w ∷ ns)
    new_port = record {
      signal = signal;
      some = least;
      narrow = most;
      long = (let n = nets_long in omega arith);
      sort = rw first_kind kinds;
      own = λ i h. rw (first_kind, net_at_law i h) (own_at i h);
    }

    pub ports_pushed : Ports m l → Ports m l'
    ports_pushed p = record {
      records = subst (λ (rs : List (List ℕ)). (j : ℕ) → j < length (records_with 0 rs) → PortRecord l' (get_or (records_with 0 rs) j [])) (sym records_are)
          (with_after 0 l.records (key ++ ns) (λ j r. PortRecord l' r) (λ j h. port_grew port_later _ (p.records j h)) (λ e. new_port));
      placed = λ j h. rw records_are (with_after 0 l.records (key ++ ns) (λ j r. port_place m (get_or r 1 0) ≡ j) p.placed (λ e. here) j (rw records_are at h));
      nodes = λ k h z. node k h z (dec_lt k (count l));
    }
      where
        node : (k : ℕ) → k < count l' → sort_of (node_for_net l' k).kind ≡ 0 → Dec (k < count l) → Stays l' 0 (port_place m (node_for_net l' k).owner) (node_for_net l' k).bit k
        node k h z (yes b) =
            let x = node_grew port_later k b in
            let u : sort_of (node_for_net l k).kind ≡ 0 = ap (λ (y : Node). sort_of y.kind) (sym x) ∙ z in
            rw x (stays_grew port_later 0 _ _ k (p.nodes k b u))
        node k h z (no b) =
            let c = recorded_count key xs l ns l' a in
            let i = k - count l in
            let e : count l + i ≡ k = omega arith in
            let v : i < w = omega arith in
            let o : Own l' k kd s i = rw e at (own_at i v) in
            let t = last_of 0 l.records l'.records (0 ∷ s ∷ w ∷ ns) (recorded_new key xs l ns l' a 0 refl) in
            let t0 = t.0 in
            let n = nets_long in
            let f : own_nets (record_at l' 0 (records l 0)) ≡ take w ns = ap own_nets t.1 ∙ own_port (0 ∷ s ∷ w ∷ ns) refl in
            let y = length-take w ns in
            let q : Stays l' 0 (records l 0) i k = record {
              there = omega arith;
              inside = rw f (omega arith);
              is = rw f (get_or-take w ns i 0 v ∙ recorded_net key xs l ns l' a i 0 (omega arith) ∙ e);
            } in
            rw (o.owner, o.bit, here) q

    pub ports_more : records l' 0 ≡ suc (records l 0)
    ports_more = (last_of 0 l.records l'.records (0 ∷ s ∷ w ∷ ns) (recorded_new key xs l ns l' a 0 refl)).0

-- ---- registers and memories ----

module _ (m : Module) (r : List ℕ) (l : Netlist) where
  pub registers_pushed : get_or r 0 0 ≡ 1 → RegisterRecord l r → base m (get_or r 1 0) + get_or r 2 0 ≡ records l 1 → get_or r 2 0 < bits_of m (get_or r 1 0) → Registers m l
      → Registers m (with_record r l) × (records (with_record r l) 1 ≡ suc (records l 1))
  registers_pushed t q e b p = (
    record {
      records = with_after 1 l.records r (λ j r. RegisterRecord (with_record r₀ l) r) (λ j h. register_grew (grew_record r₀ l) _ (p.records j h)) (λ z. register_grew (grew_record r₀ l) r q);
      placed = with_after 1 l.records r (λ j r. base m (get_or r 1 0) + get_or r 2 0 ≡ j) p.placed (λ z. e);
      bit = with_after 1 l.records r (λ j r. get_or r 2 0 < bits_of m (get_or r 1 0)) p.bit (λ z. b);
    },
    (last_of 1 l.records (l.records ++ (r ∷ [])) r (with_new 1 l.records r t)).0,
  )
    where
      r₀ : List ℕ
      r₀ = r

  pub memories_pushed : get_or r 0 0 ≡ 2 → MemoryRecord l r → get_or r 1 0 ≡ records l 2 → length (own_nets r) ≡ bits m 9 (records l 2) → Memories m l
      → Memories m (with_record r l) × (records (with_record r l) 2 ≡ suc (records l 2))
  memories_pushed t q e b p = (
    record {
      records = with_after 2 l.records r (λ j r. MemoryRecord (with_record r₀ l) r) (λ j h. memory_grew (grew_record r₀ l) _ (p.records j h)) (λ z. memory_grew (grew_record r₀ l) r q);
      placed = with_after 2 l.records r (λ j r. get_or r 1 0 ≡ j) p.placed (λ z. e);
      wide = with_after 2 l.records r (λ j r. length (own_nets r) ≡ bits m 9 j) p.wide (λ z. b);
    },
    (last_of 2 l.records (l.records ++ (r ∷ [])) r (with_new 2 l.records r t)).0,
  )
    where
      r₀ : List ℕ
      r₀ = r
