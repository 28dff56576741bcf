-- Where the tables have their nets, and what reading a net of an expression gives.
use Rattle.std.specs.Prelude.{ℕ, ◌≤◌, ◌<◌, true, List, ◌≡◌, get_or}
use Rattle.spec_model.specs.Words.{Netlist, absent}
use Rattle.spec_model.specs.Lowering.{whole_net, range_nets}
use Rattle.spec_rules.specs.Image.{signal_width, expr_width}
use Rattle.spec_rules.specs.Checks.{signal_bits, expr_bits}
use Rattle.scratch_view.specs.View.{limit_of, signal_bit, expr_bit, net_at, bit_at, is_whole, state_of}

-- where bit b of signal p, and of expression e, has its net; its stretch ends within the table
pub record SignalPlace (s w : List ℕ) (p b r : ℕ) : Type 0 where
  pub at : r ≡ net_at s (limit_of w) p b
  pub ends : signal_bit s p (signal_width s p) ≤ signal_bits s

pub record ExprPlace (s w : List ℕ) (e b r : ℕ) : Type 0 where
  pub at : r ≡ bit_at s (limit_of w) e b
  pub ends : expr_bit s e (expr_width s e) ≤ expr_bits s

-- the first n nets are numbers of nets
abbrev pub Small : ℕ → List ℕ → Type 0
Small n nets = (i : ℕ) → i < n → get_or nets i 0 < 65535

-- r is the net of bit b of expression e: of the range of that bit, and of the whole where there is one
pub record ExprNet (s w : List ℕ) (e b r : ℕ) : Type 0 where
  pub range : (l : Netlist) → r ≡ get_or (range_nets (state_of s l w) e b 1) 0 absent
  pub whole : (l : Netlist) → is_whole s (limit_of w) w e ≡ true → r ≡ whole_net (state_of s l w) e b
