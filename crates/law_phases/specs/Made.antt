-- What the records of memories, registers and output ports are to the module's, and that it stays so as the lowering goes on. Assumes nothing.
use Rattle.std.specs.Prelude.{◌≡◌, false, ◌&&◌, List, [], ◌∷◌, ℕ, ◌≤◌, ◌<◌, eqb, length, get_or}
use Rattle.std.proofs.Common.{◌∙◌}
use Rattle.std.proofs.Math.Option.{Option, none, some}
use Rattle.std.proofs.Math.ListN.{get_elem?}
use Rattle.spec_rtl.specs.Ops.{tab}
use Rattle.spec_rtl.specs.Rtl as R
use Rattle.spec_rtl.specs.Rtl.{Module, Valuation, Control, word, dir_of}
use Rattle.spec_rules.specs.NetlistImage as N
use Rattle.spec_rules.specs.Step.{Setting, Contents}
use Rattle.spec_model.specs.Words.{Netlist}
use Rattle.spec_model.specs.Lowering.{State, signal_width}
use Rattle.law_nets.specs.Meaning.{meaning_of, net_value}
use Rattle.law_nets.specs.Sound.{Later}
use Rattle.law_walk.specs.Kept.{Table, Agrees, NetsGive, Inv}
use Rattle.law_records.specs.Find.{find}

-- ---- one record ----

-- a net that has a signal's bit
abbrev pub IsBit : Netlist → Table → ℕ → ℕ → Type 0
IsBit l t n p = NetsGive l t (n ∷ []) (λ v. v p 0 ∷ [])

abbrev pub SameControl : Netlist → Table → Option Control → Option Control → Type 0
SameControl l t none none = Unit {0}
SameControl l t none (some y) = ⊥
SameControl l t (some x) none = ⊥
SameControl l t (some x) (some y) = IsBit l t y.signal x.signal × (y.level ≡ x.level)

pub record SamePort (m : Module) (l : Netlist) (t : Table) (p : R.Port) (q : N.MemoryPort) : Type 0 where
  pub read_address : NetsGive l t q.read_address (λ v. word m.exprs v p.read_address)
  pub write_address : NetsGive l t q.write_address (λ v. word m.exprs v p.write_address)
  pub write_data : NetsGive l t q.write_data (λ v. word m.exprs v p.write_data)
  pub read_enable : SameControl l t p.read_enable q.read_enable
  pub write_enable : SameControl l t (some p.write_enable) (some q.write_enable)
  pub clock : IsBit l t q.clock p.clock
  pub rising : q.rising ≡ p.rising

abbrev pub SameSecond : Module → Netlist → Table → Option R.Port → Option N.MemoryPort → Type 0
SameSecond m l t none none = Unit {0}
SameSecond m l t none (some q) = ⊥
SameSecond m l t (some p) none = ⊥
SameSecond m l t (some p) (some q) = SamePort m l t p q

pub record SameMemory (m : Module) (l : Netlist) (t : Table) (x : R.Memory) (y : N.MemoryCell) : Type 0 where
  pub depth : y.depth ≡ x.depth
  pub wide : length y.first.read_data ≡ signal_width m x.first.read_data
  pub first : SamePort m l t x.first y.first
  pub second : SameSecond m l t x.second y.second

-- bit i of expression e is the constant n
pub record IsConstant (m : Module) (l : Netlist) (t : Table) (e i n : ℕ) : Type 0 where
  pub is : (h : Netlist) → Later l h → (s : Setting) (c : Contents) (v : Valuation) → Agrees (net_value h s c) v t → get_or (word m.exprs v e) i false ≡ eqb n 1

abbrev pub SameReset : Module → Netlist → Table → ℕ → Option R.Reset → Option R.Reset → Type 0
SameReset m l t i none none = Unit {0}
SameReset m l t i none (some y) = ⊥
SameReset m l t i (some x) none = ⊥
SameReset m l t i (some x) (some y) =
    IsBit l t y.control.signal x.control.signal × (y.control.level ≡ x.control.level) × (y.asynchronous ≡ x.asynchronous) × IsConstant m l t x.value i y.value

pub record SameBit (m : Module) (l : Netlist) (t : Table) (i : ℕ) (r : R.Register) (b : N.RegisterBit) : Type 0 where
  pub next : NetsGive l t (b.register.next ∷ []) (λ v. get_or (word m.exprs v r.next) i false ∷ [])
  pub clock : IsBit l t b.register.clock r.clock
  pub rising : b.register.rising ≡ r.rising
  pub enable : SameControl l t r.enable b.register.enable
  pub reset : SameReset m l t i r.reset b.register.reset

-- ---- all records ----

pub record Found {A : Type 0} (o : Option A) (P : A → Type 0) : Type 0 where
  pub value : A
  pub is : o ≡ some value
  pub holds : P value

pub found_map : {A : Type 0} {o o' : Option A} {P Q : A → Type 0} → o' ≡ o → ((a : A) → P a → Q a) → Found o P → Found o' Q
found_map e f x = record { value = x.value; is = e ∙ x.is; holds = f x.value x.holds }

-- the record of memory j in this list
abbrev pub memory_in : List N.MemoryCell → ℕ → Option N.MemoryCell
memory_in ys j = find (λ y. eqb y.index j) ys

-- that of bit i of register j
abbrev pub bit_in : List N.RegisterBit → ℕ → ℕ → Option N.RegisterBit
bit_in ys j i = find (λ y. eqb y.index j && eqb y.bit i) ys

-- that of the output port p
abbrev pub port_in : List N.OutPort → ℕ → Option N.OutPort
port_in ys p = find (λ y. eqb y.signal p) ys

-- the first k memories have their records, and no others
pub record Memories (m : Module) (l : Netlist) (t : Table) (k : ℕ) : Type 0 where
  pub made : (j : ℕ) (x : R.Memory) → j < k → get_elem? m.memories j ≡ some x → Found (memory_in (meaning_of l).memories j) (SameMemory m l t x)
  pub rest : (j : ℕ) → k ≤ j → memory_in (meaning_of l).memories j ≡ none

-- of register j the first b j bits
pub record Registers (m : Module) (l : Netlist) (t : Table) (b : ℕ → ℕ) : Type 0 where
  pub made : (j i : ℕ) (r : R.Register) → i < b j → get_elem? m.registers j ≡ some r → Found (bit_in (meaning_of l).registers j i) (SameBit m l t i r)
  pub rest : (j i : ℕ) → b j ≤ i → bit_in (meaning_of l).registers j i ≡ none

-- the outputs among the first n signals have their ports, and no others
pub record Outputs (m : Module) (l : Netlist) (t : Table) (n : ℕ) : Type 0 where
  pub made : (p : ℕ) → p < n → dir_of m p ≡ R.Output → Found (port_in (meaning_of l).outputs p) (λ o. NetsGive l t o.nets (λ v. tab (signal_width m p) (v p)))
  pub rest : (p : ℕ) → ((p < n) × (dir_of m p ≡ R.Output) → ⊥) → port_in (meaning_of l).outputs p ≡ none

-- the limits on nets and list words
abbrev pub Limited : ℕ × ℕ → Netlist → Type 0
Limited lim l = (l.max_nets ≡ lim.0) × (l.max_list ≡ lim.1)

pub limited_later : (lim : ℕ × ℕ) {l l' : Netlist} → Later l l' → Limited lim l → Limited lim l'
limited_later lim a h = (a.grew.nets ∙ h.0, a.grew.list ∙ h.1)

pub record Connected (m : Module) (lim : ℕ × ℕ) (st : State) (k : ℕ) (b : ℕ → ℕ) (n : ℕ) : Type 0 where
  pub limited : Limited lim st.netlist
  pub inv : Inv m st
  pub memories : Memories m st.netlist st.signal_bits k
  pub registers : Registers m st.netlist st.signal_bits b
  pub outputs : Outputs m st.netlist st.signal_bits n
