-- The step rule of docs/RULES.md; each of its sentences stands at the definition that it is. The rule is written once, on values; a
-- module and a netlist only say what they read. Assumes nothing.
-- "the driver is needed whole", "What a Slice takes is read by bit: .." say which bits must have a value: refusals 6 and 7, in the
-- lowering model. Here every word is computed whole; a bit of it that depends on no looping or undriven bit is right in any case.
use Rattle.std.specs.Prelude.{ℕ, zero, suc, ◌+◌, ◌*◌, ◌-◌, ◌^◌, ◌≡◌, Bool, true, false, not, cond, ◌&&◌, ◌||◌, List, [], ◌∷◌, map, eqb, ltb, length, get_or}
use Rattle.std.proofs.Math.Option
use Rattle.std.proofs.Math.Option.{Option, none, some}
use Rattle.std.proofs.Math.ListN.{get_elem?}
use Rattle.spec_rtl.specs.Word.{bit, value, bits}
use Rattle.spec_rtl.specs.Ops.{xor_b, lt_u, le_u, lt_s, le_s}
use Rattle.spec_rtl.specs.Table.{entry}
use Rattle.spec_rtl.specs.Rtl as R
use Rattle.spec_rtl.specs.Rtl.{Module, Valuation, Driver, FromInput, FromRegister, FromData, FromExpr, Nothing, word, driver, dir_of}
use Rattle.spec_tests.specs.Rules.{◌<?◌, first}
use Rattle.spec_rules.specs.NetlistImage as N
use Rattle.spec_rules.specs.NetlistImage.{Netlist}

-- a setting of the inputs: signal, bit
abbrev pub Setting : Type 0
Setting = ℕ → ℕ → Bool

-- register bits: register, bit; read data: memory, is it the second port's, bit; memory words: memory, address, bit
pub record Contents : Type 0 where
  pub reg : ℕ → ℕ → Bool
  pub dat : ℕ → Bool → ℕ → Bool
  pub mem : ℕ → ℕ → ℕ → Bool

-- ---- the rule, on values ----

-- "A register or memory port whose clock input makes its edge acts ..": rising or not, the clock before the step and in the new inputs
abbrev pub edge : Bool → Bool → Bool → Bool
edge true before after = not before && after
edge false before after = before && not after

-- a control at the values of signals or nets
abbrev pub active : (ℕ → Bool) → R.Control → Bool
active g k = not (xor_b k.level (g k.signal))

-- d where there is nothing
abbrev pub perhaps : {A B : Type 0} → B → (A → B) → Option A → B
perhaps d f none = d
perhaps d f (some a) = f a

-- "absent or active enable"
abbrev pub enabled : (ℕ → Bool) → Option R.Control → Bool
enabled g k = perhaps true (active g) k

-- an active reset that is asynchronous or not
abbrev pub resets : Bool → (ℕ → Bool) → Option R.Reset → Bool
resets asynchronous g r = perhaps false (λ x. not (xor_b asynchronous x.asynchronous) && active g x.control) r

-- what a step reads for a register bit
pub record Load : Type 0 where
  pub ticks : Bool
  pub synchronous : Bool
  pub enabled : Bool
  pub next : Bool
  pub asynchronous : Bool
  pub value : Bool

-- g are the signals' (or nets') bits before the step, h in the new inputs; its bit of next and of the reset value
abbrev pub load : (ℕ → Bool) → (ℕ → Bool) → R.Register → Bool → Bool → Load
load g h r next value = record {
  ticks = edge r.rising (g r.clock) (h r.clock);
  synchronous = resets false g r.reset;
  enabled = enabled g r.enable;
  next = next;
  asynchronous = resets true h r.reset;
  value = value;
}

-- "Register: active synchronous reset gives its value; else absent or active enable gives next; else it holds."
-- "Then each register whose asynchronous reset is active in the new inputs takes its reset value, with or without an edge."
abbrev pub register_next : Load → Bool → Bool
register_next r old = cond r.asynchronous r.value (cond r.ticks (cond r.synchronous r.value (cond r.enabled r.next old)) old)

-- what a step reads for a memory port
pub record Access : Type 0 where
  pub ticks : Bool
  pub reads : Bool
  pub read_at_of : ℕ
  pub writes : Bool
  pub write_at : ℕ
  pub written : ℕ → Bool

-- "Memory: if read enable is absent or active, read data takes the old word, 0 past the depth"
abbrev pub read_next : ℕ → (ℕ → ℕ → Bool) → (ℕ → Bool) → Access → ℕ → Bool
read_next depth words old a i = cond (a.ticks && a.reads) (ltb a.read_at_of depth && words a.read_at_of i) (old i)

-- "an active write stores, past the depth nothing"
abbrev pub write_next : ℕ → (ℕ → ℕ → Bool) → Access → ℕ → ℕ → Bool
write_next depth words a at i = cond (a.ticks && a.writes && eqb a.write_at at && ltb at depth) (a.written i) (words at i)

pub record Accesses : Type 0 where
  pub depth : ℕ
  pub first : Access
  pub second : Option Access

-- all that a step reads: by register and bit, by memory; nothing where there is no such
pub record Reads : Type 0 where
  pub register : ℕ → ℕ → Option Load
  pub memory : ℕ → Option Accesses

abbrev pub data_next : (ℕ → ℕ → Bool) → Accesses → Bool → (ℕ → Bool) → ℕ → Bool
data_next words x false old = read_next x.depth words old x.first
data_next words x true old = perhaps old (read_next x.depth words old) x.second

-- the first port's write, then the second's. In a step with a defined end (below) the other order gives the same: law_demands.Clashes
abbrev pub words_next : (ℕ → ℕ → Bool) → Accesses → ℕ → ℕ → Bool
words_next words x = let w = write_next x.depth words x.first in perhaps w (write_next x.depth w) x.second

-- "Contents that no rule here changes stay."
abbrev pub act : Reads → Contents → Contents
act r c = record {
  reg = λ k i. perhaps (c.reg k i) (λ x. register_next x (c.reg k i)) (r.register k i);
  dat = λ k second. perhaps (c.dat k second) (λ x. data_next (c.mem k) x second (c.dat k second)) (r.memory k);
  mem = λ k. perhaps (c.mem k) (words_next (c.mem k)) (r.memory k);
}

-- Q-6: "A step in which both ports write to one address below the depth has no defined end, also if both words are equal."
abbrev pub writing : Access → Bool
writing a = a.ticks && a.writes

abbrev pub meets : ℕ → Access → Access → Bool
meets depth a b = writing a && writing b && eqb a.write_at b.write_at && ltb b.write_at depth

abbrev pub clashes : Accesses → Bool
clashes x = perhaps false (meets x.depth x.first) x.second

-- "the lowest such memory"; 16, the most memories there are, where there is none
unfoldable pub clashing : Reads → ℕ
clashing r = first (λ k. perhaps false clashes (r.memory k)) 16

unfoldable pub no_end : Reads → Bool
no_end r = clashing r <? 16

-- ---- a machine and its run ----

-- what a step reads, of the inputs and contents before it and the new inputs; the output bits, by signal and bit
pub record Machine : Type 0 where
  pub reads : Setting → Contents → Setting → Reads
  pub outputs : Setting → Contents → ℕ → ℕ → Option Bool

-- "Outputs are compared by signal and bit, register bits by register and bit, read data by memory, port and bit, memory words
-- by memory and address."
pub record Seen : Type 0 where
  pub outputs : ℕ → ℕ → Option Bool
  pub contents : Contents

abbrev pub seen : Machine → Setting → Contents → Seen
seen m s c = record { outputs = m.outputs s c; contents = c }

-- "A step sets all inputs anew." The run ends before the first step that has no defined end.
abbrev pub onward : Machine → Setting → Contents → List Setting → List Seen
onward m s c [] = seen m s c ∷ []
onward m s c (t ∷ ts) = seen m s c ∷ cond (no_end (m.reads s c t)) [] (onward m t (act (m.reads s c t) c) ts)

-- "The start makes no step and no reset acts there." What is seen after each setting of the list, the first being the start.
abbrev pub run : Machine → Contents → List Setting → List Seen
run m c [] = []
run m c (s ∷ ts) = onward m s c ts

-- ---- the module ----

-- "In the module an input bit is its bit of the setting, a register target or read data bit its bit of the contents."
-- "A combinational bit's value is that bit of its driver", here under the values v of the signals' bits
abbrev pub bit_by : Module → Setting → Contents → Valuation → ℕ → ℕ → Driver → Bool
bit_by m s c v p i FromInput = s p i
bit_by m s c v p i (FromRegister r) = c.reg r i
bit_by m s c v p i (FromData k second) = c.dat k second i
bit_by m s c v p i (FromExpr e o) = get_or (word m.exprs v e) o false
bit_by m s c v p i Nothing = v p i

-- every bit from its driver, n times, from the values u
abbrev pub rounds : Module → Setting → Contents → Valuation → ℕ → Valuation
rounds m s c u zero = u
rounds m s c u (suc n) = λ p i. bit_by m s c (rounds m s c u n) p i (driver m p i)

abbrev pub bit_count : List R.Sig → ℕ
bit_count [] = 0
bit_count (s ∷ ss) = s.width + bit_count ss

-- the values of the signals' bits: as many rounds as there are bits, and one. A bit that does not depend on a loop or on an
-- undriven bit has its value then, whatever u is; "A bit read nowhere needs no value."
abbrev pub settled : Module → Valuation → Setting → Contents → Valuation
settled m u s c = rounds m s c u (suc (bit_count m.signals))

abbrev pub width_of : Module → ℕ → ℕ
width_of m p = (get_or m.signals p (record { width = 0; dir = R.Internal })).width

-- bit i of the reset value, where words are those of its numbers
abbrev pub reset_bit : (ℕ → List Bool) → Option R.Reset → ℕ → Bool
reset_bit words r i = perhaps false (λ x. get_or (words x.value) i false) r

-- ".. acts on inputs and contents before the step.": v are the signals' bits before it, words the expressions', t the new inputs
module _ (words : ℕ → List Bool) (v : Valuation) (t : Setting) where
  abbrev pub module_load : ℕ → R.Register → Load
  module_load i r = load (λ p. v p 0) (λ p. t p 0) r (get_or (words r.next) i false) (reset_bit words r.reset i)

  abbrev pub module_access : R.Port → Access
  module_access p = record {
    ticks = edge p.rising (v p.clock 0) (t p.clock 0);
    reads = enabled (λ q. v q 0) p.read_enable;
    read_at_of = value (words p.read_address);
    writes = active (λ q. v q 0) p.write_enable;
    write_at = value (words p.write_address);
    written = λ i. get_or (words p.write_data) i false;
  }

  abbrev pub module_accesses : R.Memory → Accesses
  module_accesses x = record { depth = x.depth; first = module_access x.first; second = Option.map module_access x.second }

-- only the target's bits are register bits
abbrev pub module_reads : Module → Valuation → Setting → Reads
module_reads m v t = record {
  register = λ k i. perhaps none (λ r. cond (ltb i (width_of m r.target)) (some (module_load (word m.exprs v) v t i r)) none) (get_elem? m.registers k);
  memory = λ k. Option.map (module_accesses (word m.exprs v) v t) (get_elem? m.memories k);
}

abbrev pub is_output : R.Dir → Bool
is_output R.Internal = false
is_output R.Input = false
is_output R.Output = true

abbrev pub output_bit : Module → Valuation → ℕ → ℕ → Option Bool
output_bit m v p i = cond (is_output (dir_of m p) && ltb i (width_of m p)) (some (v p i)) none

-- u: what the combinational bits are before they are computed
abbrev pub of_module : Module → Valuation → Machine
of_module m u = record {
  reads = λ s c t. module_reads m (settled m u s c) t;
  outputs = λ s c. output_bit m (settled m u s c);
}

-- ---- the netlist ----

-- "an arithmetic cell its operation on its lists (bit 0 first) plus any carry, modulo 2 to its width"
abbrev pub result : N.Operation → List Bool → List Bool → ℕ
result N.Add a b = value a + value b
result N.Subtract a b = value a + (2 ^ length a - value b)
result N.Multiply a b = value a * value b

abbrev pub arithmetic : (ℕ → Bool) → N.Arithmetic → List Bool
arithmetic g x = bits (length x.lhs) (result x.operation (map g x.lhs) (map g x.rhs) + bit (perhaps false g x.carry))

-- "a comparison its operation's answer"
abbrev pub compare : N.Relation → List Bool → List Bool → Bool
compare N.LessU a b = lt_u a b
compare N.LessEqU a b = le_u a b
compare N.LessS a b = lt_s a b
compare N.LessEqS a b = le_s a b

abbrev pub comparison : (ℕ → Bool) → N.Comparison → Bool
comparison g x = compare x.relation (map g x.lhs) (map g x.rhs)

abbrev pub find_memory : List N.MemoryCell → ℕ → Option N.MemoryCell
find_memory [] k = none
find_memory (x ∷ xs) k = cond (eqb x.index k) (some x) (find_memory xs k)

abbrev pub data_width : Netlist → ℕ → ℕ
data_width n k = perhaps 0 (λ x. length x.first.read_data) (find_memory n.memories k)

-- "A second memory port's bits number on.": bit i of a memory of this data width
abbrev pub memory_bit : Contents → ℕ → ℕ → ℕ → Bool
memory_bit c k w i = cond (ltb i w) (c.dat k false i) (c.dat k true (i - w))

-- "In the netlist a constant has its value, an input node its bit of the setting, a register or memory output its bit of the
-- contents, a gate its kind's function of its inputs, an output node its input": one node, from the nets g below it
abbrev pub node_value : Netlist → Setting → Contents → (ℕ → Bool) → N.Node → Bool
node_value n s c g (N.Input p i) = s p i
node_value n s c g (N.Constant b) = b
node_value n s c g (N.And a b) = g a && g b
node_value n s c g (N.Or a b) = g a || g b
node_value n s c g (N.Xor a b) = xor_b (g a) (g b)
node_value n s c g (N.Not a) = not (g a)
node_value n s c g (N.Mux x a b) = cond (g x) (g a) (g b)
node_value n s c g (N.RegisterOutput r i) = c.reg r i
node_value n s c g (N.Output a) = g a
node_value n s c g (N.MemoryOutput k i) = memory_bit c k (data_width n k) i
node_value n s c g (N.ArithmeticOutput k i) = get_or (arithmetic g (get_or n.arithmetic k (record { operation = N.Add; carry = none; lhs = []; rhs = [] }))) i false
node_value n s c g (N.ComparisonOutput k) = comparison g (get_or n.comparisons k (record { relation = N.LessU; lhs = []; rhs = [] }))

-- the value of net k
abbrev pub net : Netlist → Setting → Contents → ℕ → Bool
net n s c k = entry false (node_value n s c) n.nodes k

-- "Records act as above on their nets, a register's for one bit.": g are the nets before the step, h under the new inputs
abbrev pub net_load : (ℕ → Bool) → (ℕ → Bool) → N.RegisterBit → Load
net_load g h r = load g h r.register (g r.register.next) (reset_bit (λ b. eqb b 1 ∷ []) r.register.reset 0)

abbrev pub net_access : (ℕ → Bool) → (ℕ → Bool) → N.MemoryPort → Access
net_access g h p = record {
  ticks = edge p.rising (g p.clock) (h p.clock);
  reads = enabled g p.read_enable;
  read_at_of = value (map g p.read_address);
  writes = active g p.write_enable;
  write_at = value (map g p.write_address);
  written = λ i. get_or (map g p.write_data) i false;
}

abbrev pub net_accesses : (ℕ → Bool) → (ℕ → Bool) → N.MemoryCell → Accesses
net_accesses g h x = record { depth = x.depth; first = net_access g h x.first; second = Option.map (net_access g h) x.second }

abbrev pub find_bit : List N.RegisterBit → ℕ → ℕ → Option N.RegisterBit
find_bit [] k i = none
find_bit (r ∷ rs) k i = cond (eqb r.index k && eqb r.bit i) (some r) (find_bit rs k i)

abbrev pub find_port : List N.OutPort → ℕ → List ℕ
find_port [] p = []
find_port (o ∷ os) p = cond (eqb o.signal p) o.nets (find_port os p)

abbrev pub of_netlist : Netlist → Machine
of_netlist n = record {
  reads = λ s c t. record {
    register = λ k i. Option.map (net_load (net n s c) (net n t c)) (find_bit n.registers k i);
    memory = λ k. Option.map (net_accesses (net n s c) (net n t c)) (find_memory n.memories k);
  };
  outputs = λ s c p i. Option.map (net n s c) (get_elem? (find_port n.outputs p) i);
}

-- ---- demand 3 ----

-- "A clock or reset is an input port if the signal it names has direction 1." Demand 3 asks it of clocks and asynchronous resets
abbrev pub IsInput : Module → ℕ → Type 0
IsInput m p = dir_of m p ≡ R.Input

pub record Ported (m : Module) : Type 0 where
  pub registers : (k : ℕ) (r : R.Register) → get_elem? m.registers k ≡ some r → IsInput m r.clock
  pub resets : (k : ℕ) (r : R.Register) (x : R.Reset) → get_elem? m.registers k ≡ some r → r.reset ≡ some x → x.asynchronous ≡ true → IsInput m x.control.signal
  pub memories : (k : ℕ) (x : R.Memory) → get_elem? m.memories k ≡ some x → IsInput m x.first.clock
  pub seconds : (k : ℕ) (x : R.Memory) (p : R.Port) → get_elem? m.memories k ≡ some x → x.second ≡ some p → IsInput m p.clock

-- "Demand 3 is one claim about the whole list of settings, not one for each step.": from all first contents, over every list of
-- settings, module and netlist show the same after each, whatever the combinational bits are before they are computed. Q-6: "The
-- equality of module and netlist is claimed up to the first such step, and both meet it in the same step": equal runs have one length,
-- and a run is shorter than its settings by the first step without a defined end and all that follow
abbrev pub Demand3 : Module → Netlist → Type 0
Demand3 m n = Ported m → (u : Valuation) (c : Contents) (settings : List Setting) → run (of_module m u) c settings ≡ run (of_netlist n) c settings

-- demand 2's second half, of a lowering that says which net it gave to bit b of expression e: under every setting and contents
-- that net has exactly the expression's bit
abbrev pub Demand2 : Module → Netlist → (ℕ → ℕ → Option ℕ) → Type 0
Demand2 m n nets =
    (u : Valuation) (s : Setting) (c : Contents) (e b k : ℕ) → nets e b ≡ some k → get_elem? (word m.exprs (settled m u s c) e) b ≡ some (net n s c k)
