-- Nodes made for all bits of a signal, while sources are reserved. Assumes nothing.
use Rattle.std.specs.Prelude.{ℕ, suc, ◌+◌, ◌-◌, ◌≤◌, ◌<◌, ◌⊎◌, ◌≡◌, List, [], ◌∷◌, map, length, get_or, set}
use native.Mathlib.Omega.{arith}
use Rattle.std.proofs.Math.Decide.{ℕ_discrete}
use Rattle.std.proofs.Common.{inl, inr, sym, ◌∙◌, get_or-set_same, get_or-set_other}
use Rattle.std.proofs.Math.Path.{refl, ap}
use Rattle.std.proofs.Math.Option.{Option, none, some}
use Rattle.std.proofs.Math.ListN.{length-set}
use Rattle.spec_rtl.specs.Rtl.{Module}
use Rattle.spec_model.specs.Words.{Node, Netlist, source}
use Rattle.spec_model.specs.Builder.{node_for_net, from}
use Rattle.spec_model.specs.Lowering.{State, cell, with_netlist, set_signal}
use Rattle.net_view.specs.Laws.{with_node, with_record}
use Rattle.law_nets.specs.Sound.{count, Grew}
use Rattle.law_nets.specs.Nodes.{get_or_map_in}
use Rattle.law_gates.specs.Nodes.{no_node}
use Rattle.word_laws.specs.Runs.{length_from, from_at}
use Rattle.law_gates.specs.Added.{with_nodes}
use Rattle.law_walk.specs.Kept.{More}
use Rattle.law_owners.specs.Ends.{all_last}
use Rattle.law_listed.specs.Listed.{records}
use Rattle.law_listed_walk.specs.Shape.{Shape, Wide, Fine}
use Rattle.law_listed_made.specs.Place.{Source, Seat, Made, Ports, signal_of, bit_of, bits}
use Rattle.law_listed_made.specs.Grow.{seats_later}

-- what holds while sources are reserved: P of each signal that has nets, ps ports so far
pub record Sources (m : Module) (P : ℕ → Type 0) (ps : ℕ) (st : State) : Type 0 where
  pub few : count st.netlist ≤ st.netlist.max_nets
  pub rows : length st.signal_bits ≡ length m.signals
  pub fine : Fine st.netlist.max_nets st.netlist
  pub filled : (p i n : ℕ) → cell none st.signal_bits p i ≡ some n → P p
  pub seats : (k : ℕ) → k < count st.netlist → Source (node_for_net st.netlist k).kind → Seat m st k (node_for_net st.netlist k)
  pub ports : Ports m st.netlist
  pub port_count : records st.netlist 0 ≡ ps
  pub registers : records st.netlist 1 ≡ 0
  pub memories : records st.netlist 2 ≡ 0

pub sources_map : {m : Module} {P Q : ℕ → Type 0} {ps qs : ℕ} {st : State} → ((p : ℕ) → P p → Q p) → ps ≡ qs → Sources m P ps st → Sources m Q qs st
sources_map f e i = record {
  few = i.few;
  rows = i.rows;
  fine = i.fine;
  filled = λ p j n h. f p (i.filled p j n h);
  seats = i.seats;
  ports = i.ports;
  port_count = i.port_count ∙ e;
  registers = i.registers;
  memories = i.memories;
}

-- ---- nodes of any kind, where net n is past the limit ----

pub fine_nodes : (n : ℕ) (xs : List Node) (l : Netlist) → count l + length xs ≤ n → ((i : ℕ) → i < length xs → Shape (get_or xs i no_node)) → Fine n l → Fine n (with_nodes xs l)
fine_nodes n [] l h s f = f
fine_nodes n (x ∷ xs) l h s f =
    fine_nodes n xs (with_node x l) (omega arith) (λ i b. s (suc i) (omega arith)) (record { nodes = (s 0 (omega arith), λ z. absurd (omega arith), f.nodes); records = f.records })

pub fine_record : (n : ℕ) (r : List ℕ) (l : Netlist) → Wide r → Fine n l → Fine n (with_record r l)
fine_record n r l w f = record { nodes = f.nodes; records = all_last Wide l.records r f.records w }

-- the nodes x b, x (b + 1), ..
pub node_of_law : (x : ℕ → Node) (b w i : ℕ) → i < w → get_or (map x (from b w)) i no_node ≡ x (b + i)
node_of_law x b w i h = get_or_map_in x (from b w) i 0 no_node (rw (length_from b w) h) ∙ ap x (from_at b w i 0 h)

-- ---- a row of the table ----

module _ (m : Module) (P : ℕ → Type 0) (ps : ℕ) (st : State) (c : Sources m P ps st) (s : ℕ) (here : s < length m.signals) (free : P s → ⊥)
    (kd o b w : ℕ) (ns : List ℕ) (l' : Netlist) (g : Grew st.netlist l') (long : length ns ≡ w) (wide : count l' ≡ count st.netlist + w)
    (nets : (i : ℕ) → i < w → get_or ns i 0 ≡ count st.netlist + i) (nodes : (i : ℕ) → i < w → node_for_net l' (count st.netlist + i) ≡ source kd o (b + i))
    (seat : Source kd → (i : ℕ) → i < w → (signal_of m kd o (b + i) ≡ s) × (bit_of m kd o (b + i) ≡ i) × (b + i < bits m kd o)) where
  abbrev n₀ : ℕ
  n₀ = count st.netlist

  abbrev t' : List (List (Option ℕ))
  t' = set st.signal_bits s (map some ns)

  blank : (j n : ℕ) → cell none st.signal_bits s j ≡ some n → ⊥
  blank j n e = free (c.filled s j n e)

  other : (p j : ℕ) → (p ≡ s → ⊥) → cell none t' p j ≡ cell none st.signal_bits p j
  other p j h = ap (λ (r : List (Option ℕ)). get_or r j none) (get_or-set_other st.signal_bits s p (map some ns) [] h)

  row : (i : ℕ) → i < w → cell none t' s i ≡ some (n₀ + i)
  row i h =
      ap (λ (r : List (Option ℕ)). get_or r i none) (get_or-set_same st.signal_bits s (map some ns) [] (let z = c.rows in omega arith))
      ∙ get_or_map_in some ns i 0 none (omega arith) ∙ ap some (nets i h)

  pub row_more : More st.signal_bits t'
  row_more = record { more = λ p j n e. go p j n e (ℕ_discrete p s) }
    where
      go : (p j n : ℕ) → cell none st.signal_bits p j ≡ some n → Dec (p ≡ s) → cell none t' p j ≡ some n
      go p j n e (yes h) = absurd (blank j n (rw h at e))
      go p j n e (no h) = other p j h ∙ e

  row_filled : (p j n : ℕ) → cell none t' p j ≡ some n → Dec (p ≡ s) → P p ⊎ (p ≡ s)
  row_filled p j n e (yes h) = inr h
  row_filled p j n e (no h) = inl (c.filled p j n (sym (other p j h) ∙ e))

  abbrev st' : State
  st' = set_signal (with_netlist st l') s ns

  bits_are : st'.signal_bits ≡ t'
  unfolding set_signal
  bits_are = refl

  netlist_is : st'.netlist ≡ l'
  unfolding set_signal
  netlist_is = refl

  new_seat : (k : ℕ) → n₀ ≤ k → k < count l' → Source (node_for_net l' k).kind → Seat m st' k (node_for_net l' k)
  unfolding set_signal
  new_seat k h j q =
      let i = k - n₀ in
      let e : n₀ + i ≡ k = omega arith in
      let v : i < w = omega arith in
      let x : node_for_net l' k ≡ source kd o (b + i) = ap (node_for_net l') (sym e) ∙ nodes i v in
      let y : Source kd = rw x at q in
      let z = seat y i v in
      rw x (record { here = rw (z.0, z.1) (row i v ∙ ap some e); bit = z.2 })

  pub row_made : Source kd → (i : ℕ) → i < w → Made m st' kd o (b + i)
  unfolding set_signal
  row_made y i h =
      let z = seat y i h in
      let x = nodes i h in
      record {
        net = n₀ + i;
        here = rw (z.0, z.1) (row i h);
        own = record { there = omega arith; kind = ap (λ (a : Node). a.kind) x; owner = ap (λ (a : Node). a.owner) x; bit = ap (λ (a : Node). a.bit) x };
      }

  pub row_sources : (qs : ℕ) → count l' ≤ l'.max_nets → Fine l'.max_nets l' → Ports m l' → records l' 0 ≡ qs → records l' 1 ≡ 0 → records l' 2 ≡ 0
      → Sources m (λ p. P p ⊎ (p ≡ s)) qs st'
  unfolding set_signal
  row_sources qs few fine ports count' r1 r2 = record {
    few = few;
    rows = length-set st.signal_bits s (map some ns) ∙ c.rows;
    fine = fine;
    filled = λ p j n e. row_filled p j n e (ℕ_discrete p s);
    seats = seats_later {m = m} {st = st} {st' = st'} g row_more new_seat c.seats;
    ports = ports;
    port_count = count';
    registers = r1;
    memories = r2;
  }
