-- A netlist as it is built, and the netlist image (docs/FORMATS.md) as words. Assumes nothing.
use Rattle.std.specs.Prelude.{Bool, true, false, List, [], ◌∷◌, ◌++◌, ℕ, zero, suc, ◌+◌, ◌*◌, ◌-◌, length, replicate, get_or, eqb}
use Rattle.std.proofs.Math.Option.{Option, none, some}
use Rattle.spec_rtl.specs.Rtl.{Control, Reset}

abbrev pub absent : ℕ
absent = 4294967295

-- a node's six words. Kinds: 0 Input, 1 Constant, 2 And, 3 Or, 4 Xor, 5 Not, 6 Mux, 7 RegisterOutput, 8 Output, 9 MemoryOutput,
-- 10 ArithmeticOutput, 11 ComparisonOutput
pub record Node : Type 0 where
  pub kind : ℕ
  pub owner : ℕ
  pub bit : ℕ
  pub in0 : ℕ
  pub in1 : ℕ
  pub in2 : ℕ

abbrev pub node : ℕ → ℕ → ℕ → ℕ → ℕ → ℕ → Node
node k o b x y z = record { kind = k; owner = o; bit = b; in0 = x; in1 = y; in2 = z }

-- one without inputs, and one without an owner
abbrev pub source : ℕ → ℕ → ℕ → Node
source k o b = node k o b absent absent absent

abbrev pub gate : ℕ → ℕ → ℕ → ℕ → Node
gate k x y z = node k absent absent x y z

-- the limits N and P, the nodes (the newest first: a net's number is how many stand behind it), the list records in order, each as its words
pub record Netlist : Type 0 where
  pub max_nets : ℕ
  pub max_list : ℕ
  pub nodes : List Node
  pub records : List (List ℕ)

-- how many list words are used
unfoldable pub used : List (List ℕ) → ℕ
used [] = 0
used (r ∷ rs) = length r + used rs

abbrev pub bit_word : Bool → ℕ
bit_word false = 0
bit_word true = 1

-- how many records begin with the word k
unfoldable pub count : ℕ → List (List ℕ) → ℕ
count k [] = 0
count k (r ∷ rs) = bit_word (eqb (get_or r 0 absent) k) + count k rs

-- ---- list records; controls have nets in place of signals, a reset's value is 0 or 1 ----

-- edges and levels: 0 is rising, 0 is high
abbrev pub low_word : Bool → ℕ
low_word true = 0
low_word false = 1

abbrev pub option_word : Option ℕ → ℕ
option_word none = absent
option_word (some n) = n

abbrev pub control_words : Option Control → List ℕ
control_words none = absent ∷ 0 ∷ []
control_words (some c) = c.signal ∷ low_word c.level ∷ []

abbrev pub reset_words : Option Reset → List ℕ
reset_words none = absent ∷ 0 ∷ 0 ∷ 0 ∷ []
reset_words (some r) = control_words (some r.control) ++ (bit_word r.asynchronous ∷ r.value ∷ [])

-- arithmetic and comparison records up to their outputs
abbrev pub arithmetic_key : ℕ → List ℕ → List ℕ → Option ℕ → List ℕ
arithmetic_key op lhs rhs carry = 3 ∷ op ∷ length lhs ∷ option_word carry ∷ lhs ++ rhs

abbrev pub comparison_key : ℕ → List ℕ → List ℕ → List ℕ
comparison_key op lhs rhs = 4 ∷ op ∷ length lhs ∷ lhs ++ rhs

-- ---- the image ----

-- the nodes' words before rest
abbrev pub nodes_words : List Node → List ℕ → List ℕ
nodes_words [] rest = rest
nodes_words (x ∷ xs) rest = nodes_words xs (x.kind ∷ x.owner ∷ x.bit ∷ x.in0 ∷ x.in1 ∷ x.in2 ∷ rest)

abbrev pub list_words : List (List ℕ) → List ℕ
list_words [] = []
list_words (r ∷ rs) = r ++ list_words rs

abbrev pub header_words : ℕ → Netlist → List ℕ
header_words n l =
    1 ∷ length l.nodes ∷ 16 ∷ used l.records ∷ (16 + 6 * n) ∷ count 0 l.records ∷ count 1 l.records ∷ count 2 l.records ∷
    count 3 l.records ∷ count 4 l.records ∷ replicate 6 0

-- the netlist image for limits n and p
unfoldable pub words : ℕ → ℕ → Netlist → List ℕ
words n p l =
    header_words n l ++ nodes_words l.nodes (replicate (6 * (n - length l.nodes)) 0) ++
    list_words l.records ++ replicate (p - used l.records) 0
