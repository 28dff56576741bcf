-- What acceptance tells, of the image (`Accepted`) and of the caller's numbers (`Room`): the facts that later code lives by.
use Rattle.std.specs.Prelude.{ℕ, zero, suc, ◌+◌, ◌≤◌, ◌<◌, List, Bool, ◌≡◌}
use Rattle.std.proofs.Common.{arith, add-one, lit<}
use Rattle.spec_tests.specs.Rules.{first, sum_to, Fine}
use Rattle.spec_tests.specs.Laws.{or_no, no_lt, inside, first_most, none, sum_none}
use Rattle.spec_rules.specs.Image.{most_of, count_at_of, signal_width, expr_width}
use Rattle.spec_rules.specs.Checks as rule
use Rattle.check_header.specs.Header.{Header, header_tells, not_refused}
use Rattle.check_signals.specs.Signals.{GoodSignal, good_signal}
use Rattle.check_expressions.specs.Good.{GoodExpr, good_exprs, good_expr}
use Rattle.check_drivers.specs.Bits.{SignalsFit}
use Rattle.check_assignments.specs.Good.{GoodAssign, good_assigns}
use Rattle.check_registers.specs.Good.{GoodRegister, good_registers}
use Rattle.check_memories.specs.Good.{GoodMemory, good_memories}
use Rattle.check_image.specs.Checked.{then_both}

-- how many records there are at most
pub record Counts (s : List ℕ) : Type 0 where
  pub signals : count_at_of s 0 ≤ 512
  pub exprs : count_at_of s 1 ≤ 2048
  pub list : count_at_of s 2 ≤ 8192
  pub assigns : count_at_of s 3 ≤ 1024
  pub registers : count_at_of s 4 ≤ 256
  pub memories : count_at_of s 5 ≤ 16
  pub names : count_at_of s 6 ≤ 16384

pub counts : (s : List ℕ) → Header s → Counts s
unfolding most_of
counts s h = record {
  signals = h.most 0 (lit< tt);
  exprs = h.most 1 (lit< tt);
  list = h.most 2 (lit< tt);
  assigns = h.most 3 (lit< tt);
  registers = h.most 4 (lit< tt);
  memories = h.most 5 (lit< tt);
  names = h.most 6 (lit< tt);
}

-- a sum that each record keeps below a bound
sum_bound : (f : ℕ → ℕ) (n b : ℕ) → ((r : ℕ) → r < n → sum_to f (r + 1) ≤ b) → sum_to f n ≤ b
sum_bound f zero b h = omega (arith, sum_none f)
sum_bound f (suc n) b h = rw add-one at (h n (omega arith))

pub signal_bits_law : (s : List ℕ) → first (rule.bad_signal s) (count_at_of s 0) ≡ count_at_of s 0 → rule.signal_bits s ≤ 4096
unfolding rule.signal_bits
signal_bits_law s e = sum_bound (signal_width s) (count_at_of s 0) 4096 (λ r h. (good_signal s r (none _ _ e r h)).total)

pub expr_bits_law : (s : List ℕ) → first (rule.bad_expr s) (count_at_of s 1) ≡ count_at_of s 1 → rule.expr_bits s ≤ 32768
unfolding rule.expr_bits
expr_bits_law s e = sum_bound (expr_width s) (count_at_of s 1) 32768 (λ r h. (good_expr s r (none _ _ e r h)).sum)

-- the checks' tables have room for signals that keep their rules
pub signals_fit : (s : List ℕ) → first (rule.bad_signal s) (count_at_of s 0) ≡ count_at_of s 0 → SignalsFit s
signals_fit s e = record { most = signal_bits_law s e; wide = λ p h. (good_signal s p (none _ _ e p h)).width.0 }

-- ---- acceptance ----

pub record Accepted (s : List ℕ) : Type 0 where
  pub header : Header s
  pub most : Counts s
  pub signals : (r : ℕ) → r < count_at_of s 0 → GoodSignal s r
  pub exprs : (r : ℕ) → r < count_at_of s 1 → GoodExpr s r
  pub assigns : (r : ℕ) → r < count_at_of s 3 → GoodAssign s r
  pub registers : (r : ℕ) → r < count_at_of s 4 → GoodRegister s r
  pub memories : (r : ℕ) → r < count_at_of s 5 → GoodMemory s r
  pub signal_bits_law : rule.signal_bits s ≤ 4096
  pub expr_bits_law : rule.expr_bits s ≤ 32768

pub record Room (s : List ℕ) (N P netlist scratch : ℕ) : Type 0 where
  pub some_net : 1 ≤ N
  pub nets : N ≤ 65535
  pub words : P ≤ 65535
  pub netlist_room : rule.netlist_need N P ≤ netlist
  pub scratch_room : rule.scratch_need s N ≤ scratch

none_bad : (s : List ℕ) (k : ℕ) (bad : ℕ → Bool) → rule.section s k bad ≡ Fine → first bad (count_at_of s k) ≡ count_at_of s k
unfolding rule.section
none_bad s k bad e =
    let h = no_lt _ _ (not_refused _ _ _ _ e) in
    omega (arith, first_most bad (count_at_of s k))

good : (s : List ℕ) → rule.header s ≡ Fine → rule.records s ≡ Fine → Accepted s
unfolding rule.records
good s h e =
    let a = then_both _ _ e in
    let b = then_both _ _ a.1 in
    let c = then_both _ _ b.1 in
    let d = then_both _ _ c.1 in
    let signals = none_bad s 0 (rule.bad_signal s) a.0 in
    let exprs = none_bad s 1 (rule.bad_expr s) b.0 in
    record {
      header = header_tells s h;
      most = counts s (header_tells s h);
      signals = λ r l. good_signal s r (none _ _ signals r l);
      exprs = good_exprs s exprs;
      assigns = good_assigns s (none_bad s 3 (rule.bad_assign s) c.0);
      registers = good_registers s (none_bad s 4 (rule.bad_register s) d.0);
      memories = good_memories s (none_bad s 5 (rule.bad_memory s) d.1);
      signal_bits_law = signal_bits_law s signals;
      expr_bits_law = expr_bits_law s exprs;
    }

pub accepted : (s : List ℕ) (N P netlist scratch : ℕ) → rule.checked s N P netlist scratch ≡ Fine → (Accepted s) × (Room s N P netlist scratch)
unfolding rule.checked rule.refuse
accepted s N P netlist scratch e =
    let a = then_both _ _ e in
    let b = then_both _ _ a.1 in
    let c = then_both _ _ b.1 in
    let d = then_both _ _ c.1 in
    let l = or_no (not_refused _ _ _ _ a.0) in (
      good s c.0 d.0,
      record {
        some_net = (inside _ _ _ l.0).0;
        nets = (inside _ _ _ l.0).1;
        words = (inside _ _ _ l.1).1;
        netlist_room = no_lt _ _ (not_refused _ _ _ _ b.0);
        scratch_room = no_lt _ _ (not_refused _ _ _ _ d.1);
      },
    )
