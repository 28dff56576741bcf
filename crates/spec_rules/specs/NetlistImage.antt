-- The netlist image of docs/FORMATS.md, read from its words alone: nodes, list records, and the netlist that they make.
-- Readers are total: a word past the end is 0. Assumes nothing.
use Rattle.std.specs.Prelude.{ℕ, zero, suc, ◌+◌, ◌*◌, Bool, false, not, List, [], ◌∷◌, map, length, take, drop, get_or}
use Rattle.std.proofs.Math.Option.{Option, none, some}
use Rattle.spec_rtl.specs.Rtl.{Control, Register}
use Rattle.spec_tests.specs.Rules.{◌<?◌, ◌≡?◌, ◌≢?◌, ◌or◌, pick, any, list_of, only}
use Rattle.spec_rules.specs.Image.{optional, control_of, register_of}

-- a node, in `NodeKind`'s order; nets are numbers. An output node's signal and bit are read by `not_output`
pub data Node : Type 0 where
  Input : (signal bit : ℕ) → Node
  Constant : Bool → Node
  And Or Xor : (a b : ℕ) → Node
  Not : (a : ℕ) → Node
  Mux : (condition then else : ℕ) → Node
  RegisterOutput : (register bit : ℕ) → Node
  Output : (a : ℕ) → Node
  MemoryOutput : (memory bit : ℕ) → Node
  ArithmeticOutput : (cell bit : ℕ) → Node
  ComparisonOutput : (cell : ℕ) → Node

-- in ArithmeticOp's and ComparisonOp's declared order
pub data Operation : Type 0 where
  Add Subtract Multiply : Operation

pub data Relation : Type 0 where
  LessU LessEqU LessS LessEqS : Relation

pub record Arithmetic : Type 0 where
  pub operation : Operation
  pub carry : Option ℕ
  pub lhs : List ℕ
  pub rhs : List ℕ

pub record Comparison : Type 0 where
  pub relation : Relation
  pub lhs : List ℕ
  pub rhs : List ℕ

-- register records as in the module, with nets in place of signals and expressions; a reset's value is 0 or 1
pub record RegisterBit : Type 0 where
  pub index : ℕ
  pub bit : ℕ
  pub register : Register

pub record MemoryPort : Type 0 where
  pub read_address : List ℕ
  pub read_data : List ℕ
  pub write_address : List ℕ
  pub write_data : List ℕ
  pub read_enable : Option Control
  pub write_enable : Control
  pub clock : ℕ
  pub rising : Bool

pub record MemoryCell : Type 0 where
  pub index : ℕ
  pub depth : ℕ
  pub first : MemoryPort
  pub second : Option MemoryPort

pub record OutPort : Type 0 where
  pub signal : ℕ
  pub nets : List ℕ

pub record Netlist : Type 0 where
  pub nodes : List Node
  pub outputs : List OutPort
  pub registers : List RegisterBit
  pub memories : List MemoryCell
  pub arithmetic : List Arithmetic
  pub comparisons : List Comparison

-- ---- nodes: "kind, owner index or constant value, bit, three inputs" ----

unfoldable pub node_word : List ℕ → ℕ → ℕ → ℕ
node_word ws n f = get_or ws (get_or ws 2 0 + 6 * n + f) 0

unfoldable pub node_of : ℕ → ℕ → ℕ → ℕ → ℕ → ℕ → Node
node_of kind owner bit x y z =
    get_or (Input owner bit ∷ Constant (owner ≡? 1) ∷ And x y ∷ Or x y ∷ Xor x y ∷ Not x ∷ Mux x y z ∷ RegisterOutput owner bit
    ∷ Output x ∷ MemoryOutput owner bit ∷ ArithmeticOutput owner bit ∷ ComparisonOutput owner ∷ []) kind (Constant false)

unfoldable pub node_at_of : List ℕ → ℕ → Node
node_at_of ws n = node_of (node_word ws n 0) (node_word ws n 1) (node_word ws n 2) (node_word ws n 3) (node_word ws n 4) (node_word ws n 5)

-- ---- list records ----

-- a port's words: "four widths, four net lists in field order, two controls, clock, edge"
unfoldable pub port_lists : List ℕ → ℕ
port_lists p = get_or p 0 0 + get_or p 1 0 + get_or p 2 0 + get_or p 3 0

unfoldable pub port_length : List ℕ → ℕ
port_length p = 4 + port_lists p + 6

-- the words of the record that a list begins with
unfoldable pub record_length : List ℕ → ℕ
record_length l =
    let w = get_or l 2 0 in
    let p = drop 6 l in
    pick (get_or l 0 0 ≡? 0) (3 + w)
    (pick (get_or l 0 0 ≡? 1) 13
    (pick (get_or l 0 0 ≡? 2) (6 + port_length p + pick (get_or l 5 0 ≡? 2) (port_length (drop (port_length p) p)) 0)
    (pick (get_or l 0 0 ≡? 3) (4 + 3 * w)
    (pick (get_or l 0 0 ≡? 4) (4 + 2 * w)
    (length l)))))

-- at most n records
unfoldable pub split : ℕ → List ℕ → List (List ℕ)
split zero l = []
split (suc n) [] = []
split (suc n) (x ∷ l) = take (record_length (x ∷ l)) (x ∷ l) ∷ split n (drop (record_length (x ∷ l)) (x ∷ l))

-- the records of a netlist image, each as its words; a record has one word at least
unfoldable pub records_of : List ℕ → List (List ℕ)
records_of ws = split (get_or ws 3 0) (take (get_or ws 3 0) (drop (get_or ws 4 0) ws))

-- those that begin with the word t
unfoldable pub records_with : ℕ → List ℕ → List (List ℕ)
records_with t ws = only (λ r. get_or r 0 0 ≡? t) (records_of ws)

-- "register (1, then 12 words: index, bit, output, data, clock, edge, enable, level, reset, level, asynchronous, value)"
-- "Absent controls in records are as in the module image."
unfoldable pub register_bit_of : List ℕ → RegisterBit
register_bit_of r = record { index = get_or r 1 0; bit = get_or r 2 0; register = register_of (λ i. get_or r (3 + i) 0) }

unfoldable pub memory_port_of : List ℕ → MemoryPort
memory_port_of p =
    let a = get_or p 0 0 in
    let b = get_or p 1 0 in
    let c = get_or p 2 0 in
    let e = 4 + port_lists p in
    record {
      read_address = take a (drop 4 p);
      read_data = take b (drop (4 + a) p);
      write_address = take c (drop (4 + a + b) p);
      write_data = take (get_or p 3 0) (drop (4 + a + b + c) p);
      read_enable = optional (get_or p e 0) (control_of (get_or p e 0) (get_or p (e + 1) 0));
      write_enable = control_of (get_or p (e + 2) 0) (get_or p (e + 3) 0);
      clock = get_or p (e + 4) 0;
      rising = get_or p (e + 5) 0 ≡? 0;
    }

-- "(2, index, depth, style, latency, port count; per port ..)"
unfoldable pub memory_of : List ℕ → MemoryCell
memory_of r = record {
  index = get_or r 1 0;
  depth = get_or r 2 0;
  first = memory_port_of (drop 6 r);
  second = pick (get_or r 5 0 ≡? 2) (some (memory_port_of (drop (6 + port_length (drop 6 r)) r))) none;
}

-- "(3, operation, width, carry or absent, lhs, rhs, outputs)"
unfoldable pub arithmetic_of : List ℕ → Arithmetic
arithmetic_of r = record {
  operation = get_or (Add ∷ Subtract ∷ Multiply ∷ []) (get_or r 1 0) Add;
  carry = optional (get_or r 3 0) (get_or r 3 0);
  lhs = take (get_or r 2 0) (drop 4 r);
  rhs = take (get_or r 2 0) (drop (4 + get_or r 2 0) r);
}

-- "(4, operation, width, lhs, rhs, output)"
unfoldable pub comparison_of : List ℕ → Comparison
comparison_of r = record {
  relation = get_or (LessU ∷ LessEqU ∷ LessS ∷ LessEqS ∷ []) (get_or r 1 0) LessU;
  lhs = take (get_or r 2 0) (drop 3 r);
  rhs = take (get_or r 2 0) (drop (3 + get_or r 2 0) r);
}

-- "port (0, signal, width, nets)": an output port's nets are output nodes (kind 8), net i with this signal and bit i
unfoldable pub out_port_of : List ℕ → OutPort
out_port_of r = record { signal = get_or r 1 0; nets = take (get_or r 2 0) (drop 3 r) }

unfoldable pub not_output : List ℕ → ℕ → ℕ → ℕ → Bool
not_output ws n p i = not (n <? get_or ws 1 0) or node_word ws n 0 ≢? 8 or node_word ws n 1 ≢? p or node_word ws n 2 ≢? i

unfoldable pub is_output_port : List ℕ → List ℕ → Bool
is_output_port ws r = not (any (λ i. not_output ws (get_or r (3 + i) 0) (get_or r 1 0) i) (get_or r 2 0))

unfoldable pub netlist : List ℕ → Netlist
netlist ws = record {
  nodes = list_of (get_or ws 1 0) (node_at_of ws);
  outputs = map out_port_of (only (is_output_port ws) (records_with 0 ws));
  registers = map register_bit_of (records_with 1 ws);
  memories = map memory_of (records_with 2 ws);
  arithmetic = map arithmetic_of (records_with 3 ws);
  comparisons = map comparison_of (records_with 4 ws);
}
