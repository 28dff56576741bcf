-- What holds of a netlist at every call of the builder, when one netlist comes later than another, and what a net stands for. Assumes nothing.
-- A fact about a net is stated for every later netlist, as a function of it, the setting and the contents: a gate's value is that of its
-- operands' values there, and a memory output's goes by the data width of the record that is pushed after its nodes.
use Rattle.std.specs.Prelude.{◌≡◌, Bool, List, [], ◌++◌, map, ℕ, ◌+◌, ◌*◌, ◌≤◌, ◌<◌, length, get_or, drop}
use Rattle.std.proofs.Math.Option.{Option, none, some}
use Rattle.spec_rules.specs.NetlistImage as N
use Rattle.spec_rules.specs.NetlistImage.{arithmetic_of, comparison_of}
use Rattle.spec_rules.specs.Step.{Setting, Contents}
use Rattle.spec_model.specs.Words.{absent, Node, Netlist, used}
use Rattle.spec_model.specs.Builder.{node_for_net}
use Rattle.net_view.specs.View.{AllFormed}
use Rattle.word_laws.specs.Widths.{AllBelow}
use Rattle.law_nets.specs.Meaning.{node_at_of, records_with, net_value}

abbrev pub count : Netlist → ℕ
count l = length l.nodes

abbrev pub CarryBelow : ℕ → Option ℕ → Type 0
CarryBelow k none = Unit {0}
CarryBelow k (some n) = n < k

-- ---- cells ----

-- the record of arithmetic cell j, of comparison cell j
abbrev pub arithmetic_record : Netlist → ℕ → List ℕ
arithmetic_record l j = get_or (records_with 3 l.records) j []

abbrev pub comparison_record : Netlist → ℕ → List ℕ
comparison_record l j = get_or (records_with 4 l.records) j []

abbrev pub width_word : List ℕ → ℕ
width_word r = get_or r 2 0

abbrev pub arithmetic_outputs : List ℕ → List ℕ
arithmetic_outputs r = drop (4 + 2 * width_word r) r

abbrev pub comparison_output : List ℕ → ℕ
comparison_output r = get_or r (3 + 2 * width_word r) absent

-- net k is output i of arithmetic cell j; the cell's inputs are lower nets
pub record OfArithmetic (l : Netlist) (k j i : ℕ) : Type 0 where
  pub cell : j < length (records_with 3 l.records)
  pub bit : i < width_word (arithmetic_record l j)
  pub listed : get_or (arithmetic_outputs (arithmetic_record l j)) i absent ≡ k
  pub lhs : AllBelow k (arithmetic_of (arithmetic_record l j)).lhs
  pub rhs : AllBelow k (arithmetic_of (arithmetic_record l j)).rhs
  pub carry : CarryBelow k (arithmetic_of (arithmetic_record l j)).carry

-- net k is the output of comparison cell j
pub record OfComparison (l : Netlist) (k j : ℕ) : Type 0 where
  pub cell : j < length (records_with 4 l.records)
  pub listed : comparison_output (comparison_record l j) ≡ k
  pub lhs : AllBelow k (comparison_of (comparison_record l j)).lhs
  pub rhs : AllBelow k (comparison_of (comparison_record l j)).rhs

-- the record r of arithmetic cell j lists its outputs; only an addition has a carry
pub record ArithmeticCell (l : Netlist) (j : ℕ) (r : List ℕ) : Type 0 where
  pub operation : get_or r 1 0 < 3
  pub width : length r ≡ 4 + 3 * width_word r
  pub carry : (get_or r 1 0 ≡ 0 → ⊥) → get_or r 3 0 ≡ absent
  pub there : (i : ℕ) → i < width_word r → get_or (arithmetic_outputs r) i absent < count l
  pub outputs : (i : ℕ) → i < width_word r → node_at_of l (get_or (arithmetic_outputs r) i absent) ≡ N.ArithmeticOutput j i

pub record ComparisonCell (l : Netlist) (j : ℕ) (r : List ℕ) : Type 0 where
  pub operation : get_or r 1 0 < 4
  pub width : length r ≡ 4 + 2 * width_word r
  pub there : comparison_output r < count l
  pub output : node_at_of l (comparison_output r) ≡ N.ComparisonOutput j

-- the nets of a port's record are there
abbrev pub PortNets : Netlist → List ℕ → Type 0
PortNets l r = (i : ℕ) → i < width_word r → get_or r (3 + i) 0 < count l

-- ---- nodes ----

-- neither a constant nor a Not
pub record Plain (x : Node) : Type 0 where
  pub constant : x.kind ≡ 1 → ⊥
  pub inverter : x.kind ≡ 5 → ⊥

-- the inputs of net k are lower nets; no Not has a Not or a constant as its input
abbrev pub Wired : Netlist → ℕ → N.Node → Type 0
Wired l k (N.Input p i) = Unit {0}
Wired l k (N.Constant b) = Unit {0}
Wired l k (N.And a b) = (a < k) × (b < k)
Wired l k (N.Or a b) = (a < k) × (b < k)
Wired l k (N.Xor a b) = (a < k) × (b < k)
Wired l k (N.Not a) = (a < k) × Plain (node_for_net l a)
Wired l k (N.Mux a b c) = (a < k) × (b < k) × (c < k)
Wired l k (N.RegisterOutput r i) = Unit {0}
Wired l k (N.Output a) = a < k
Wired l k (N.MemoryOutput m i) = Unit {0}
Wired l k (N.ArithmeticOutput j i) = OfArithmetic l k j i
Wired l k (N.ComparisonOutput j) = OfComparison l k j

-- ---- the netlist ----

pub record Sound (l : Netlist) : Type 0 where
  pub few : count l ≤ l.max_nets
  pub small : l.max_nets ≤ absent
  pub short : used l.records ≤ l.max_list
  pub formed : AllFormed l.records
  pub wired : (k : ℕ) → k < count l → Wired l k (node_at_of l k)
  pub ports : (j : ℕ) → j < length (records_with 0 l.records) → PortNets l (get_or (records_with 0 l.records) j [])
  pub arithmetic : (j : ℕ) → j < length (records_with 3 l.records) → ArithmeticCell l j (arithmetic_record l j)
  pub comparison : (j : ℕ) → j < length (records_with 4 l.records) → ComparisonCell l j (comparison_record l j)

-- nodes and records were added, nothing else
pub record Grew (l l' : Netlist) : Type 0 where
  pub nets : l'.max_nets ≡ l.max_nets
  pub list : l'.max_list ≡ l.max_list
  pub added : List Node
  pub nodes : l'.nodes ≡ added ++ l.nodes
  pub pushed : List (List ℕ)
  pub records : l'.records ≡ l.records ++ pushed

-- l' may come after l
pub record Later (l l' : Netlist) : Type 0 where
  pub grew : Grew l l'
  pub sound : Sound l'

-- the records of ports, registers and memories are as they were
pub record Cells (l l' : Netlist) : Type 0 where
  pub cells : (t : ℕ) → t < 3 → records_with t l'.records ≡ records_with t l.records

-- ---- what nets stand for ----

-- a value in each netlist, setting and contents
abbrev pub At : Type 0 → Type 0
At A = Netlist → Setting → Contents → A

-- net k is there, and its value is f, now and later
pub record Stands (l : Netlist) (k : ℕ) (f : At Bool) : Type 0 where
  pub there : k < count l
  pub is : (l' : Netlist) → Later l l' → (s : Setting) (c : Contents) → net_value l' s c k ≡ f l' s c

-- nets ks are there, and their word is w, now and later
pub record StandsAll (l : Netlist) (ks : List ℕ) (w : At (List Bool)) : Type 0 where
  pub there : AllBelow (count l) ks
  pub are : (l' : Netlist) → Later l l' → (s : Setting) (c : Contents) → map (net_value l' s c) ks ≡ w l' s c
