-- What is to hold of a finished netlist beyond `Sound`, so that its words are accepted: each node's fields, each record's words, and that
-- each net that belongs to a record stands in the record of its sort, owner and bit, at its bit. Assumes nothing.
use Rattle.std.specs.Prelude.{ℕ, ◌+◌, ◌≤◌, ◌<◌, ◌≡◌, true, false, List, [], ◌∷◌, ◌⊎◌, length, drop, get_or}
use Rattle.spec_rules.specs.NetlistImage.{port_lists, port_length}
use Rattle.spec_model.specs.Words.{absent, Node, Netlist}
use Rattle.spec_model.specs.Builder.{node_for_net}
use Rattle.law_nets.specs.Meaning.{records_with}
use Rattle.law_nets.specs.Sound.{count, width_word}
use Rattle.spec_netlist.specs.Accept.{belongs, most_bit, input_count, own_nets, wrong_owner}

-- ---- nodes ----

-- a node's fields, but for its used inputs
pub record Shaped (x : Node) : Type 0 where
  pub kind : x.kind ≤ 11
  pub owner : wrong_owner x.kind x.owner ≡ false
  pub bit : belongs x.kind ≡ true → x.bit ≤ most_bit x.kind
  pub no_bit : belongs x.kind ≡ false → x.bit ≡ absent
  pub in0 : input_count x.kind ≤ 0 → x.in0 ≡ absent
  pub in1 : input_count x.kind ≤ 1 → x.in1 ≡ absent
  pub in2 : input_count x.kind ≤ 2 → x.in2 ≡ absent

-- the sort of record that a node of kind k belongs to
abbrev pub sort_of : ℕ → ℕ
sort_of k = get_or (0 ∷ 9 ∷ 9 ∷ 9 ∷ 9 ∷ 9 ∷ 9 ∷ 1 ∷ 0 ∷ 2 ∷ 3 ∷ 4 ∷ []) k 9

-- where in its record's own nets the net of bit b stands
abbrev pub seat_of : ℕ → ℕ → ℕ
seat_of t b = get_or (b ∷ 0 ∷ b ∷ b ∷ 0 ∷ []) t 0

-- net x is the node of kind k, owner o and bit b
pub record Own (l : Netlist) (x k o b : ℕ) : Type 0 where
  pub there : x < count l
  pub kind : (node_for_net l x).kind ≡ k
  pub owner : (node_for_net l x).owner ≡ o
  pub bit : (node_for_net l x).bit ≡ b

-- ---- records ----

-- a net, or none; a level beside it
abbrev pub Optional : Netlist → ℕ → Type 0
Optional l x = (x ≡ absent) ⊎ (x < count l)

pub record Level (x v : ℕ) : Type 0 where
  pub none : x ≡ absent → v ≡ 0
  pub some : v ≤ 1

pub record PortRecord (l : Netlist) (r : List ℕ) : Type 0 where
  pub signal : get_or r 1 0 ≤ 511
  pub some : 1 ≤ get_or r 2 0
  pub narrow : get_or r 2 0 ≤ 1024
  pub long : length r ≡ 3 + get_or r 2 0
  pub sort : ((node_for_net l (get_or r 3 0)).kind ≡ 0) ⊎ ((node_for_net l (get_or r 3 0)).kind ≡ 8)
  pub own : (i : ℕ) → i < get_or r 2 0 → Own l (get_or r (3 + i) 0) (node_for_net l (get_or r 3 0)).kind (get_or r 1 0) i

pub record RegisterRecord (l : Netlist) (r : List ℕ) : Type 0 where
  pub index : get_or r 1 0 ≤ 255
  pub bit : get_or r 2 0 ≤ 1023
  pub long : length r ≡ 13
  pub own : Own l (get_or r 3 0) 7 (get_or r 1 0) (get_or r 2 0)
  pub next : get_or r 4 0 < count l
  pub clock : get_or r 5 0 < count l
  pub edge : get_or r 6 0 ≤ 1
  pub enable : Optional l (get_or r 7 0)
  pub enable_level : Level (get_or r 7 0) (get_or r 8 0)
  pub reset : Optional l (get_or r 9 0)
  pub reset_level : Level (get_or r 9 0) (get_or r 10 0)
  pub mode : Level (get_or r 9 0) (get_or r 11 0)
  pub value : Level (get_or r 9 0) (get_or r 12 0)

-- the words p of a port of memory m, of data width w; its read data are the bits from base on
pub record PortWords (l : Netlist) (m w base : ℕ) (p : List ℕ) : Type 0 where
  pub read : 1 ≤ get_or p 0 0
  pub read_most : get_or p 0 0 ≤ 32
  pub wide : get_or p 1 0 ≡ w
  pub write : 1 ≤ get_or p 2 0
  pub write_most : get_or p 2 0 ≤ 32
  pub same : get_or p 3 0 ≡ w
  pub address : (i : ℕ) → i < get_or p 0 0 → get_or p (4 + i) 0 < count l
  pub own : (i : ℕ) → i < w → Own l (get_or p (4 + get_or p 0 0 + i) 0) 9 m (base + i)
  pub others : (i : ℕ) → i < get_or p 2 0 + get_or p 3 0 → get_or p (4 + get_or p 0 0 + get_or p 1 0 + i) 0 < count l
  pub enable : Optional l (get_or p (4 + port_lists p) 0)
  pub enable_level : Level (get_or p (4 + port_lists p) 0) (get_or p (4 + port_lists p + 1) 0)
  pub control : get_or p (4 + port_lists p + 2) 0 < count l
  pub level : get_or p (4 + port_lists p + 3) 0 ≤ 1
  pub clock : get_or p (4 + port_lists p + 4) 0 < count l
  pub edge : get_or p (4 + port_lists p + 5) 0 ≤ 1

pub record MemoryRecord (l : Netlist) (r : List ℕ) : Type 0 where
  pub index : get_or r 1 0 ≤ 15
  pub deep : 1 ≤ get_or r 2 0
  pub depth : get_or r 2 0 ≤ 65536
  pub style : get_or r 3 0 ≤ 2
  pub latency : get_or r 4 0 ≡ 1
  pub wide : 1 ≤ get_or r 7 0
  pub width : get_or r 7 0 ≤ 1024
  pub first : PortWords l (get_or r 1 0) (get_or r 7 0) 0 (drop 6 r)
  pub second : get_or r 5 0 ≡ 2 → PortWords l (get_or r 1 0) (get_or r 7 0) (get_or r 7 0) (drop (6 + port_length (drop 6 r)) r)
  pub ports : ((get_or r 5 0 ≡ 1) × (length r ≡ 6 + port_length (drop 6 r)))
      ⊎ ((get_or r 5 0 ≡ 2) × (length r ≡ 6 + port_length (drop 6 r) + port_length (drop (6 + port_length (drop 6 r)) r)))

-- ---- the netlist ----

-- the record of sort t that stands as number j among those of its sort
abbrev pub record_at : Netlist → ℕ → ℕ → List ℕ
record_at l t j = get_or (records_with t l.records) j []

abbrev pub records : Netlist → ℕ → ℕ
records l t = length (records_with t l.records)

-- net k stands in record j of sort t as its own net i
pub record Stays (l : Netlist) (t j i k : ℕ) : Type 0 where
  pub there : j < records l t
  pub inside : i < length (own_nets (record_at l t j))
  pub is : get_or (own_nets (record_at l t j)) i 0 ≡ k

-- place: the number among the records of sort t of the one with owner o and, of a register, bit b
pub record Listed (l : Netlist) (place : ℕ → ℕ → ℕ → ℕ) : Type 0 where
  pub nodes : (k : ℕ) → k < count l → Shaped (node_for_net l k)
  pub ports : (j : ℕ) → j < records l 0 → PortRecord l (record_at l 0 j)
  pub port_place : (j i : ℕ) → j < records l 0 → place 0 (get_or (record_at l 0 j) 1 0) i ≡ j
  pub registers : (j : ℕ) → j < records l 1 → RegisterRecord l (record_at l 1 j)
  pub register_place : (j : ℕ) → j < records l 1 → place 1 (get_or (record_at l 1 j) 1 0) (get_or (record_at l 1 j) 2 0) ≡ j
  pub memories : (j : ℕ) → j < records l 2 → MemoryRecord l (record_at l 2 j)
  pub memory_place : (j i : ℕ) → j < records l 2 → place 2 (get_or (record_at l 2 j) 1 0) i ≡ j
  pub arithmetic : (j : ℕ) → j < records l 3 → (1 ≤ width_word (record_at l 3 j)) × (width_word (record_at l 3 j) ≤ 1024)
  pub comparison : (j : ℕ) → j < records l 4 → (1 ≤ width_word (record_at l 4 j)) × (width_word (record_at l 4 j) ≤ 1024)
  pub cell_place : (o b : ℕ) → (place 3 o b ≡ o) × (place 4 o b ≡ o)
  -- input, output, register and memory nodes; cell outputs are `Sound`'s
  pub listed : (k : ℕ) → k < count l → sort_of (node_for_net l k).kind < 3
      → let x = node_for_net l k in let t = sort_of x.kind in Stays l t (place t x.owner x.bit) (seat_of t x.bit) k
