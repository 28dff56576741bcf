-- What is said of records and nodes stays so as nodes and records are added. Assumes nothing.
use Rattle.std.specs.Prelude.{ℕ, ◌≤◌, ◌<◌, ◌≡◌, List, get_or}
use Rattle.std.proofs.Common.{le_trans, arith, inl, inr, sym, ap, ◌∙◌}
use Rattle.std.proofs.Math.Decide.{dec_lt}
use Rattle.spec_rtl.specs.Rtl.{Module}
use Rattle.spec_model.specs.Words.{Node, Netlist}
use Rattle.spec_model.specs.Builder.{node_for_net}
use Rattle.spec_model.specs.Lowering.{State}
use Rattle.law_nets.specs.Meaning.{records_with}
use Rattle.law_nets.specs.Sound.{count, Grew}
use Rattle.law_nets.specs.Nodes.{node_grew, count_grew, with_old, with_more}
use Rattle.law_walk.specs.Kept.{More}
use Rattle.law_listed.specs.Listed.{sort_of, Own, Optional, PortRecord, RegisterRecord, PortWords, MemoryRecord, records, Stays}
use Rattle.law_listed_made.specs.Place.{Source, Seat, Made, Ports, Registers, Memories, port_place}

module _ {l l' : Netlist} (g : Grew l l') where
  pub own_grew : {x k o b : ℕ} → Own l x k o b → Own l' x k o b
  own_grew {x} w =
      let e = node_grew g x w.there in
      record {
        there = le_trans w.there (count_grew g);
        kind = ap (λ (y : Node). y.kind) e ∙ w.kind;
        owner = ap (λ (y : Node). y.owner) e ∙ w.owner;
        bit = ap (λ (y : Node). y.bit) e ∙ w.bit;
      }

  pub there_grew : {x : ℕ} → x < count l → x < count l'
  there_grew h = le_trans h (count_grew g)

  optional_grew : {x : ℕ} → Optional l x → Optional l' x
  optional_grew (inl e) = inl e
  optional_grew (inr h) = inr (there_grew h)

  pub port_grew : (r : List ℕ) → PortRecord l r → PortRecord l' r
  port_grew r p =
      let e : (node_for_net l' (get_or r 3 0)).kind ≡ (node_for_net l (get_or r 3 0)).kind = ap (λ (y : Node). y.kind) (node_grew g (get_or r 3 0) (p.own 0 (let z = p.some in omega arith)).there) in
      record {
        signal = p.signal;
        some = p.some;
        narrow = p.narrow;
        long = p.long;
        sort = rw e p.sort;
        own = λ i h. rw e (own_grew (p.own i h));
      }

  pub register_grew : (r : List ℕ) → RegisterRecord l r → RegisterRecord l' r
  register_grew r p = record {
    index = p.index;
    bit = p.bit;
    long = p.long;
    own = own_grew p.own;
    next = there_grew p.next;
    clock = there_grew p.clock;
    edge = p.edge;
    enable = optional_grew p.enable;
    enable_level = p.enable_level;
    reset = optional_grew p.reset;
    reset_level = p.reset_level;
    mode = p.mode;
    value = p.value;
  }

  words_grew : (m w base : ℕ) (o : List ℕ) → PortWords l m w base o → PortWords l' m w base o
  words_grew m w base o p = record {
    read = p.read;
    read_most = p.read_most;
    wide = p.wide;
    write = p.write;
    write_most = p.write_most;
    same = p.same;
    address = λ i h. there_grew (p.address i h);
    own = λ i h. own_grew (p.own i h);
    others = λ i h. there_grew (p.others i h);
    enable = optional_grew p.enable;
    enable_level = p.enable_level;
    control = there_grew p.control;
    level = p.level;
    clock = there_grew p.clock;
    edge = p.edge;
  }

  pub memory_grew : (r : List ℕ) → MemoryRecord l r → MemoryRecord l' r
  memory_grew r p = record {
    index = p.index;
    deep = p.deep;
    depth = p.depth;
    style = p.style;
    latency = p.latency;
    wide = p.wide;
    width = p.width;
    first = words_grew _ _ _ _ p.first;
    second = λ e. words_grew _ _ _ _ (p.second e);
    ports = p.ports;
  }

  pub stays_grew : (t j i k : ℕ) → Stays l t j i k → Stays l' t j i k
  stays_grew t j i k s =
      let e = with_old g t j s.there in
      record { there = le_trans s.there (with_more g t); inside = rw e s.inside; is = rw e s.is }

  -- ---- where no record of the sort is added ----

  module _ (m : Module) where
    pub ports_same : records_with 0 l'.records ≡ records_with 0 l.records → ((k : ℕ) → count l ≤ k → k < count l' → sort_of (node_for_net l' k).kind ≡ 0 → ⊥) → Ports m l → Ports m l'
    ports_same e n p = record {
      records = λ j h. rw e (port_grew _ (p.records j (rw e at h)));
      placed = λ j h. rw e (p.placed j (rw e at h));
      nodes = λ k h s. node k h s (dec_lt k (count l));
    }
      where
        node : (k : ℕ) → k < count l' → sort_of (node_for_net l' k).kind ≡ 0 → Dec (k < count l) → Stays l' 0 (port_place m (node_for_net l' k).owner) (node_for_net l' k).bit k
        node k h s (yes b) =
            let x = node_grew g k b in
            let u : sort_of (node_for_net l k).kind ≡ 0 = ap (λ (y : Node). sort_of y.kind) (sym x) ∙ s in
            rw x (stays_grew 0 _ _ k (p.nodes k b u))
        node k h s (no b) = absurd (n k (omega arith) h s)

    pub registers_same : records_with 1 l'.records ≡ records_with 1 l.records → Registers m l → Registers m l'
    registers_same e p = record {
      records = λ j h. rw e (register_grew _ (p.records j (rw e at h)));
      placed = λ j h. rw e (p.placed j (rw e at h));
      bit = λ j h. rw e (p.bit j (rw e at h));
    }

    pub memories_same : records_with 2 l'.records ≡ records_with 2 l.records → Memories m l → Memories m l'
    memories_same e p = record {
      records = λ j h. rw e (memory_grew _ (p.records j (rw e at h)));
      placed = λ j h. rw e (p.placed j (rw e at h));
      wide = λ j h. rw e (p.wide j (rw e at h));
    }

-- a bit that has its node has it later
pub made_later : {m : Module} {st st' : State} {k o b : ℕ} → Grew st.netlist st'.netlist → More st.signal_bits st'.signal_bits → Made m st k o b → Made m st' k o b
made_later g w h = record { net = h.net; here = w.more _ _ _ h.here; own = own_grew g h.own }

-- and a node its bit; nodes that are added are none of these
pub seats_later : {m : Module} {st st' : State} → Grew st.netlist st'.netlist → More st.signal_bits st'.signal_bits
    → ((k : ℕ) → count st.netlist ≤ k → k < count st'.netlist → Source (node_for_net st'.netlist k).kind → Seat m st' k (node_for_net st'.netlist k))
    → ((k : ℕ) → k < count st.netlist → Source (node_for_net st.netlist k).kind → Seat m st k (node_for_net st.netlist k))
    → (k : ℕ) → k < count st'.netlist → Source (node_for_net st'.netlist k).kind → Seat m st' k (node_for_net st'.netlist k)
seats_later {m} {st} {st'} g w n s k h q = go (dec_lt k (count st.netlist))
  where
    go : Dec (k < count st.netlist) → Seat m st' k (node_for_net st'.netlist k)
    go (yes b) =
        let e = node_grew g k b in
        let x : Source (node_for_net st.netlist k).kind = rw e at q in
        let y = s k b x in
        rw e (record { here = w.more _ _ _ y.here; bit = y.bit })
    go (no b) = n k (omega arith) h q
