-- Demand 2 of a module and a netlist, whole: which nets the lowering gave to expressions and signal bits, that their values are the words and
-- bits meant, and which expressions and bits have them. Assumes nothing.
use Rattle.std.specs.Prelude.{ℕ, ◌≡◌, List, map}
use Rattle.std.proofs.Math.Option.{Option, none, some}
use Rattle.std.proofs.Math.ListN.{get_elem?}
use Rattle.spec_rtl.specs.Rtl as R
use Rattle.spec_rtl.specs.Rtl.{Module, Valuation, word, driver}
use Rattle.spec_rules.specs.NetlistImage.{Netlist}
use Rattle.spec_rules.specs.Step.{Setting, Contents, settled, net, Demand2}
use Rattle.spec_needs.specs.Needs.{Needed}

-- there is one
abbrev pub Is : {A : Type 0} → Option A → Type 0
Is {A} o = (a : A) × (o ≡ some a)

-- of these expressions all are lowered whole: what a reset, a memory port, a second port has in it
abbrev pub ResetWhole : (ℕ → Option (List ℕ)) → Option R.Reset → Type 0
ResetWhole whole none = Unit {0}
ResetWhole whole (some r) = Is (whole r.value)

abbrev pub PortWhole : (ℕ → Option (List ℕ)) → R.Port → Type 0
PortWhole whole p = Is (whole p.read_address) × Is (whole p.write_address) × Is (whole p.write_data)

abbrev pub SecondWhole : (ℕ → Option (List ℕ)) → Option R.Port → Type 0
SecondWhole whole none = Unit {0}
SecondWhole whole (some p) = PortWhole whole p

pub record Nets (m : Module) (n : Netlist) : Type 0 where
  -- the nets of an expression that is lowered whole, bit 0 first; the net of a bit of an expression, lowered whole or by a range; the net of
  -- a signal's bit
  pub whole : ℕ → Option (List ℕ)
  pub bit : ℕ → ℕ → Option ℕ
  pub signal : ℕ → ℕ → Option ℕ
  -- under every setting and contents they have, as a list, exactly the expression's word; exactly that bit of it; the signal's bit
  pub words : (u : Valuation) (s : Setting) (c : Contents) (e : ℕ) (ns : List ℕ) → whole e ≡ some ns → map (net n s c) ns ≡ word m.exprs (settled m u s c) e
  pub bits : Demand2 m n bit
  pub signals : (u : Valuation) (s : Setting) (c : Contents) (p b k : ℕ) → signal p b ≡ some k → settled m u s c p b ≡ net n s c k
  -- the bits of an expression that is lowered whole are known
  pub parts : (e : ℕ) (ns : List ℕ) (b : ℕ) → whole e ≡ some ns → bit e b ≡ get_elem? ns b
  -- whole are each register's next and reset value, each address and write data, and each expression that drives a needed bit; and every
  -- needed bit has a net
  pub nexts : (k : ℕ) (r : R.Register) → get_elem? m.registers k ≡ some r → Is (whole r.next)
  pub values : (k : ℕ) (r : R.Register) → get_elem? m.registers k ≡ some r → ResetWhole whole r.reset
  pub ports : (k : ℕ) (x : R.Memory) → get_elem? m.memories k ≡ some x → PortWhole whole x.first
  pub seconds : (k : ℕ) (x : R.Memory) → get_elem? m.memories k ≡ some x → SecondWhole whole x.second
  pub drivers : (p b e o : ℕ) → Needed m (p, b) → driver m p b ≡ R.FromExpr e o → Is (whole e)
  pub needed : (p b : ℕ) → Needed m (p, b) → Is (signal p b)
