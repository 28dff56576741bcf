-- Which record a node belongs to, and which bit of which signal it is: by the module alone. Assumes nothing.
use Rattle.std.specs.Prelude.{ℕ, zero, suc, ◌+◌, ◌-◌, ◌≤◌, ◌<◌, ◌⊎◌, ◌≡◌, refl, Bool, true, false, cond, [], ◌∷◌, eqb, ltb, length, get_or}
use Rattle.std.proofs.Common.{arith, ap}
use Rattle.std.proofs.Math.Decide.{dec_lt}
use Rattle.std.proofs.Math.Option.{Option, none, some}
use Rattle.std.proofs.Math.ListN.{get_elem?}
use Rattle.spec_rtl.specs.Rtl as R
use Rattle.spec_rtl.specs.Rtl.{Module, Dir, Register, Memory, Port, dir_of}
use Rattle.spec_rules.specs.Step.{perhaps}
use Rattle.spec_model.specs.Words.{Node, Netlist, bit_word}
use Rattle.spec_model.specs.Builder.{node_for_net}
use Rattle.spec_model.specs.Ranges.{width_at}
use Rattle.spec_model.specs.Lowering.{State, cell, signal_width}
use Rattle.law_nets.specs.Sound.{count}
use Rattle.law_phases.specs.Registers.{bits_of}
use Rattle.law_listed.specs.Listed.{sort_of, Own, PortRecord, RegisterRecord, MemoryRecord, record_at, records as howMany, Stays}
use Rattle.spec_netlist.specs.Accept.{own_nets}

-- ---- document 01's limits on a module ----

pub record PortBounds (m : Module) (p : Port) : Type 0 where
  pub read : width_at m.exprs p.read_address ≤ 32
  pub write : width_at m.exprs p.write_address ≤ 32
  pub wide : width_at m.exprs p.write_data ≡ signal_width m p.read_data

pub record MemoryBounds (m : Module) (x : Memory) : Type 0 where
  pub deep : 1 ≤ x.depth
  pub depth : x.depth ≤ 65536
  pub style : x.style ≤ 2
  pub first : PortBounds m x.first
  pub second : (p : Port) → x.second ≡ some p → PortBounds m p
  pub same : (p : Port) → x.second ≡ some p → signal_width m p.read_data ≡ signal_width m x.first.read_data

pub record Bounds (m : Module) : Type 0 where
  pub signals : length m.signals ≤ 512
  pub widths : (s : ℕ) → signal_width m s ≤ 1024
  pub registers : length m.registers ≤ 256
  pub memories : length m.memories ≤ 16
  pub exprs : (e : ℕ) → e < length m.exprs → width_at m.exprs e ≤ 1024
  pub memory : (k : ℕ) (x : Memory) → get_elem? m.memories k ≡ some x → MemoryBounds m x

-- ---- the number of a record ----

abbrev pub is_input : Dir → Bool
is_input R.Internal = false
is_input R.Input = true
is_input R.Output = false

abbrev pub is_output : Dir → Bool
is_output R.Internal = false
is_output R.Input = false
is_output R.Output = true

-- signals of a direction before signal s
unfoldable pub before : (Dir → Bool) → Module → ℕ → ℕ
before p m zero = 0
before p m (suc s) = before p m s + bit_word (p (dir_of m s))

-- inputs first, then outputs
unfoldable pub port_place : Module → ℕ → ℕ
port_place m s = cond (is_input (dir_of m s)) (before is_input m s) (before is_input m (length m.signals) + before is_output m s)

-- bits of registers before register k
unfoldable pub base : Module → ℕ → ℕ
base m zero = 0
base m (suc k) = base m k + bits_of m k

abbrev pub place : Module → ℕ → ℕ → ℕ → ℕ
place m t o b = get_or (port_place m o ∷ (base m o + b) ∷ o ∷ o ∷ o ∷ []) t 0

pub place_input : (m : Module) (s : ℕ) → dir_of m s ≡ R.Input → port_place m s ≡ before is_input m s
unfolding port_place
place_input m s e = rw e

pub place_output : (m : Module) (s : ℕ) → dir_of m s ≡ R.Output → port_place m s ≡ before is_input m (length m.signals) + before is_output m s
unfolding port_place
place_output m s e = rw e

pub before_more : (p : Dir → Bool) (m : Module) (s : ℕ) → before p m (suc s) ≡ before p m s + bit_word (p (dir_of m s))
unfolding before
before_more p m s = refl

pub before_none : (p : Dir → Bool) (m : Module) → before p m 0 ≡ 0
unfolding before
before_none p m = refl

pub base_more : (m : Module) (k : ℕ) → base m (suc k) ≡ base m k + bits_of m k
unfolding base
base_more m k = refl

pub base_none : (m : Module) → base m 0 ≡ 0
unfolding base
base_none m = refl

base_up : (m : Module) (k d : ℕ) → base m k ≤ base m (k + d)
base_up m k zero = let e : k + 0 ≡ k = omega arith in rw e (omega arith)
base_up m k (suc d) =
    let e : k + suc d ≡ suc (k + d) = omega arith in
    let h = base_up m k d in
    rw e (let z = base_more m (k + d) in omega arith)

pub base_below : (m : Module) (j k : ℕ) → j < k → base m j + bits_of m j ≤ base m k
base_below m j k h =
    let e : suc j + (k - suc j) ≡ k = omega arith in
    let u = base_up m (suc j) (k - suc j) in
    let z = base_more m j in
    let v : base m (suc j) ≤ base m k = rw e at u in
    omega arith

-- two bits with one place are one bit
pub base_one : (m : Module) (j k a b : ℕ) → a < bits_of m j → b < bits_of m k → base m j + a ≡ base m k + b → (j ≡ k) × (a ≡ b)
base_one m j k a b p q e = go (dec_lt j k) (dec_lt k j)
  where
    go : Dec (j < k) → Dec (k < j) → (j ≡ k) × (a ≡ b)
    go (yes h) y = absurd (let u = base_below m j k h in omega arith)
    go (no h) (yes y) = absurd (let u = base_below m k j y in omega arith)
    go (no h) (no y) =
        let z : j ≡ k = omega arith in
        let w : base m j ≡ base m k = ap (base m) z in
        (z, omega arith)

-- ---- the bit of a signal that a register's or a memory's node is ----

abbrev pub target : Module → ℕ → ℕ
target m o = perhaps 0 (λ (r : Register). r.target) (get_elem? m.registers o)

abbrev pub first_data : Module → ℕ → ℕ
first_data m o = perhaps 0 (λ (x : Memory). x.first.read_data) (get_elem? m.memories o)

abbrev pub first_wide : Module → ℕ → ℕ
first_wide m o = perhaps 0 (λ (x : Memory). signal_width m x.first.read_data) (get_elem? m.memories o)

abbrev pub second_of : Module → ℕ → Option Port
second_of m o = perhaps none (λ (x : Memory). x.second) (get_elem? m.memories o)

abbrev pub second_data : Module → ℕ → ℕ
second_data m o = perhaps 0 (λ (p : Port). p.read_data) (second_of m o)

abbrev pub second_wide : Module → ℕ → ℕ
second_wide m o = perhaps 0 (λ (p : Port). signal_width m p.read_data) (second_of m o)

-- of a node of kind 7 or 9 with owner o and bit b
abbrev pub signal_of : Module → ℕ → ℕ → ℕ → ℕ
signal_of m k o b = cond (eqb k 7) (target m o) (cond (ltb b (first_wide m o)) (first_data m o) (second_data m o))

abbrev pub bit_of : Module → ℕ → ℕ → ℕ → ℕ
bit_of m k o b = cond (eqb k 7) b (cond (ltb b (first_wide m o)) b (b - first_wide m o))

-- how many bits an owner has
abbrev pub bits : Module → ℕ → ℕ → ℕ
bits m k o = cond (eqb k 7) (bits_of m o) (first_wide m o + second_wide m o)

abbrev pub Source : ℕ → Type 0
Source k = (k ≡ 7) ⊎ (k ≡ 9)

-- node k is the net of its bit
pub record Seat (m : Module) (st : State) (k : ℕ) (x : Node) : Type 0 where
  pub here : cell none st.signal_bits (signal_of m x.kind x.owner x.bit) (bit_of m x.kind x.owner x.bit) ≡ some k
  pub bit : x.bit < bits m x.kind x.owner

-- bit b of owner o has its node
pub record Made (m : Module) (st : State) (k o b : ℕ) : Type 0 where
  pub net : ℕ
  pub here : cell none st.signal_bits (signal_of m k o b) (bit_of m k o b) ≡ some net
  pub own : Own st.netlist net k o b

-- ---- records ----

pub record Ports (m : Module) (l : Netlist) : Type 0 where
  pub records : (j : ℕ) → j < howMany l 0 → PortRecord l (record_at l 0 j)
  pub placed : (j : ℕ) → j < howMany l 0 → port_place m (get_or (record_at l 0 j) 1 0) ≡ j
  pub nodes : (k : ℕ) → k < count l → sort_of (node_for_net l k).kind ≡ 0 → Stays l 0 (port_place m (node_for_net l k).owner) (node_for_net l k).bit k

pub record Registers (m : Module) (l : Netlist) : Type 0 where
  pub records : (j : ℕ) → j < howMany l 1 → RegisterRecord l (record_at l 1 j)
  pub placed : (j : ℕ) → j < howMany l 1 → base m (get_or (record_at l 1 j) 1 0) + get_or (record_at l 1 j) 2 0 ≡ j
  pub bit : (j : ℕ) → j < howMany l 1 → get_or (record_at l 1 j) 2 0 < bits_of m (get_or (record_at l 1 j) 1 0)

pub record Memories (m : Module) (l : Netlist) : Type 0 where
  pub records : (j : ℕ) → j < howMany l 2 → MemoryRecord l (record_at l 2 j)
  pub placed : (j : ℕ) → j < howMany l 2 → get_or (record_at l 2 j) 1 0 ≡ j
  pub wide : (j : ℕ) → j < howMany l 2 → length (own_nets (record_at l 2 j)) ≡ bits m 9 j
