-- What a memory record that breaks no rule tells: `good_memory`.
use Rattle.std.specs.Prelude.{ℕ, ◌+◌, ◌≤◌, ◌<◌, Bool, true, false, List, ◌≡◌, refl}
use Rattle.std.proofs.Common.{true≢false, sym, ◌∙◌, arith}
use Rattle.spec_tests.specs.Rules.{◌≡?◌, first}
use Rattle.spec_tests.specs.Laws.{or_no, no_lt, no_eq, no_ne, yes_eq, eq_yes, eq_no, inside, none as first_none}
use Rattle.spec_rules.specs.Image.{count_at_of, field, signal_width, expr_width, width_field, style_field, latency_field, first_port, has_second, second_port}
use Rattle.spec_rules.specs.Checks.{bad_name, name_taken, bad_address, bad_port, bad_second, bad_memory}
use Rattle.check_names.specs.Names.{wrong_name}
use Rattle.check_references.specs.Tests.{pick_yes, pick_no}
use Rattle.check_references.specs.Good.{GoodBit, GoodValue, GoodControl, GoodOptional, is_signal, is_expr, good_bit, good_value, good_control, all_zero_law, good_optional}
use Rattle.check_drivers.specs.Good.{Undriven, undriven}
use Rattle.check_memories.specs.Memory.{bad_read, bad_write, bad_shape, bad_rest, port_halves, name_or_rest}

-- expression e is there and 1 to 32 wide
pub record GoodAddress (s : List ℕ) (e : ℕ) : Type 0 where
  pub there : e < count_at_of s 1
  pub least : 1 ≤ expr_width s e
  pub most : expr_width s e ≤ 32

good_address : (s : List ℕ) (e : ℕ) → bad_address s e ≡ false → GoodAddress s e
unfolding bad_address
good_address s e h =
    let i = inside _ _ _ (or_no h).1 in
    record { there = is_expr s e (or_no h).0; least = i.0; most = i.1 }

-- the port of record r whose fields begin at f, where the data are w wide
pub record GoodPort (s : List ℕ) (r f w : ℕ) : Type 0 where
  pub read_address_law : GoodAddress s (field s 5 r f)
  pub read_there : field s 5 r (f + 1) < count_at_of s 0
  pub read_width : signal_width s (field s 5 r (f + 1)) ≡ w
  pub read_enable_law : GoodOptional s 5 r (f + 2)
  pub write_address_law : GoodAddress s (field s 5 r (f + 4))
  pub write_data_law : GoodValue s (field s 5 r (f + 5)) w
  pub write_enable_law : GoodControl s 5 r (f + 6)
  pub clock : GoodBit s (field s 5 r (f + 8))
  pub edge : field s 5 r (f + 9) ≤ 1
  pub alone : Undriven s (count_at_of s 4) r (field s 5 r (f + 1))

good_port : (s : List ℕ) (r f w : ℕ) → bad_port s r f w ≡ false → GoodPort s r f w
unfolding bad_read bad_write
good_port s r f w h =
    let halves = or_no (port_halves s r f w ∙ h) in
    let a = or_no halves.0 in
    let b = or_no a.1 in
    let c = or_no b.1 in
    let rest = or_no halves.1 in
    let d = or_no rest.0 in
    let e = or_no d.1 in
    let g = or_no e.1 in
    let i = or_no g.1 in
    record {
      read_address_law = good_address s _ a.0;
      read_there = is_signal s _ b.0;
      read_width = no_ne _ _ c.0;
      read_enable_law = good_optional s 5 r _ c.1;
      write_address_law = good_address s _ d.0;
      write_data_law = good_value s _ w e.0;
      write_enable_law = good_control s 5 r _ g.0;
      clock = good_bit s _ i.0;
      edge = no_lt _ _ i.1;
      alone = undriven s _ r _ rest.1;
    }

-- a second port that is there
pub record GoodTwo (s : List ℕ) (r w : ℕ) : Type 0 where
  pub port : GoodPort s r second_port w
  pub other : field s 5 r (second_port + 1) ≡ field s 5 r (first_port + 1) → ⊥

-- k says whether there is a second port
pub record GoodSecond (s : List ℕ) (r k w : ℕ) : Type 0 where
  pub known : k ≤ 1
  pub none : k ≡ 0 → (i : ℕ) → i < 10 → field s 5 r (second_port + i) ≡ 0
  pub some : k ≡ 1 → GoodTwo s r w

good_second : (s : List ℕ) (r k w : ℕ) → bad_second s r k w ≡ false → GoodSecond s r k w
unfolding bad_second
good_second s r k w h = record {
  known = known (k ≡? 0) refl (k ≡? 1) refl;
  none = λ e. all_zero_law s 5 r second_port 10 (pick_yes _ (eq_yes _ _ e) h);
  some = λ e. let f = or_no (pick_yes _ (eq_yes _ _ e) (pick_no _ (eq_no _ _ (λ z. omega arith)) h)) in
      record { port = good_port s r second_port w f.0; other = no_eq _ _ f.1 };
}
  where
    known : (t : Bool) → (k ≡? 0) ≡ t → (u : Bool) → (k ≡? 1) ≡ u → k ≤ 1
    known true p u q = omega (arith, yes_eq k 0 p)
    known false p true q = omega (arith, yes_eq k 1 q)
    known false p false q = absurd (true≢false (pick_no _ q (pick_no _ p h)))

pub record GoodRest (s : List ℕ) (r w : ℕ) : Type 0 where
  pub depth_least : 1 ≤ field s 5 r 2
  pub depth_most : field s 5 r 2 ≤ 65536
  pub word : field s 5 r width_field ≡ w
  pub style : field s 5 r style_field ≤ 2
  pub latency : field s 5 r latency_field ≡ 1
  pub first_port_law : GoodPort s r first_port w
  pub second_port_law : GoodSecond s r (field s 5 r has_second) w

pub good_rest : (s : List ℕ) (r : ℕ) → bad_rest s r ≡ false → GoodRest s r (signal_width s (field s 5 r (first_port + 1)))
unfolding bad_shape bad_rest
good_rest s r h =
    let a = or_no (or_no h).0 in
    let b = or_no a.1 in
    let c = or_no b.1 in
    let d = or_no (or_no h).1 in
    let i = inside _ _ _ a.0 in
    record {
      depth_least = i.0;
      depth_most = i.1;
      word = no_ne _ _ b.0;
      style = no_lt _ _ c.0;
      latency = no_ne _ _ c.1;
      first_port_law = good_port s r first_port _ d.0;
      second_port_law = good_second s r _ _ d.1;
    }

pub record GoodMemory (s : List ℕ) (r : ℕ) : Type 0 where
  pub name : bad_name s 5 r ≡ false
  pub fresh : name_taken s 5 r ≡ false
  pub rest : GoodRest s r (signal_width s (field s 5 r (first_port + 1)))

pub good_memory : (s : List ℕ) (r : ℕ) → bad_memory s r ≡ false → GoodMemory s r
unfolding wrong_name
good_memory s r e =
    let f = or_no (sym (name_or_rest s r) ∙ e) in
    let n = or_no f.0 in
    record { name = n.0; fresh = n.1; rest = good_rest s r f.1 }

-- the section has no record that breaks a rule
pub good_memories : (s : List ℕ) → first (bad_memory s) (count_at_of s 5) ≡ count_at_of s 5 → (r : ℕ) → r < count_at_of s 5 → GoodMemory s r
good_memories s e r h = good_memory s r (first_none _ _ e r h)
