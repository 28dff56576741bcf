-- A module that the checks accept: what the laws of the lowering ask of it. Assumes nothing.
use Rattle.std.specs.Prelude.{◌≡◌, ℕ, ◌+◌, ◌≤◌, ◌<◌, length}
use Rattle.std.proofs.Math.Option.{some}
use Rattle.std.proofs.Math.ListN.{get_elem?}
use Rattle.spec_rtl.specs.Rtl as R
use Rattle.spec_rtl.specs.Rtl.{Module, Assign, Register, Memory, Port, dir_of}
use Rattle.spec_model.specs.Ranges.{width_at}
use Rattle.spec_model.specs.Lowering.{signal_width}
use Rattle.word_laws.specs.Widths.{Formed}

-- no register or memory drives signal p, and it is no input
pub record Undriven (m : Module) (p : ℕ) : Type 0 where
  pub input : dir_of m p ≡ R.Input → ⊥
  pub registers : (k : ℕ) (r : Register) → get_elem? m.registers k ≡ some r → r.target ≡ p → ⊥
  pub memories : (k : ℕ) (x : Memory) → get_elem? m.memories k ≡ some x → x.first.read_data ≡ p → ⊥
  pub seconds : (k : ℕ) (x : Memory) (q : Port) → get_elem? m.memories k ≡ some x → x.second ≡ some q → q.read_data ≡ p → ⊥

-- an assignment stays inside its signal, and its value has its width
pub record GoodAssign (m : Module) (a : Assign) : Type 0 where
  pub inside : a.signal < length m.signals
  pub fits : a.lsb + a.width ≤ signal_width m a.signal
  pub value : a.value < length m.exprs
  pub wide : width_at m.exprs a.value ≡ a.width
  pub undriven : Undriven m a.signal

-- register k: its target is no input and no other register's
pub record GoodRegister (m : Module) (k : ℕ) (r : Register) : Type 0 where
  pub inside : r.target < length m.signals
  pub input : dir_of m r.target ≡ R.Input → ⊥
  pub only : (j : ℕ) (q : Register) → get_elem? m.registers j ≡ some q → q.target ≡ r.target → j ≡ k
  pub next : r.next < length m.exprs
  pub wide : width_at m.exprs r.next ≡ signal_width m r.target
  pub reset : (x : R.Reset) → r.reset ≡ some x → (x.value < length m.exprs) × (width_at m.exprs x.value ≡ signal_width m r.target)

-- a port's read data is no input and no register's target
pub record GoodPort (m : Module) (p : Port) : Type 0 where
  pub inside : p.read_data < length m.signals
  pub input : dir_of m p.read_data ≡ R.Input → ⊥
  pub registers : (k : ℕ) (r : Register) → get_elem? m.registers k ≡ some r → r.target ≡ p.read_data → ⊥
  pub read_address : p.read_address < length m.exprs
  pub write_address : p.write_address < length m.exprs
  pub write_data : p.write_data < length m.exprs

-- memory k: no read data is another's
pub record GoodMemory (m : Module) (k : ℕ) (x : Memory) : Type 0 where
  pub first : GoodPort m x.first
  pub second : (q : Port) → x.second ≡ some q → GoodPort m q
  pub first_first : (j : ℕ) (y : Memory) → get_elem? m.memories j ≡ some y → y.first.read_data ≡ x.first.read_data → j ≡ k
  pub second_first : (j : ℕ) (y : Memory) (q : Port) → get_elem? m.memories j ≡ some y → y.second ≡ some q → q.read_data ≡ x.first.read_data → ⊥
  pub second_second : (j : ℕ) (y : Memory) (q p : Port) → get_elem? m.memories j ≡ some y → y.second ≡ some q → x.second ≡ some p → q.read_data ≡ p.read_data → j ≡ k

pub record Good (m : Module) : Type 0 where
  pub exprs : Formed m.exprs
  pub signals : (p : ℕ) → p < length m.signals → 1 ≤ signal_width m p
  pub assigns : (k : ℕ) (a : Assign) → get_elem? m.assigns k ≡ some a → GoodAssign m a
  pub registers : (k : ℕ) (r : Register) → get_elem? m.registers k ≡ some r → GoodRegister m k r
  pub memories : (k : ℕ) (x : Memory) → get_elem? m.memories k ≡ some x → GoodMemory m k x
