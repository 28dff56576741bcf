-- An accepted image decodes to a module that reads only inside its signals: `within`. Assumes nothing.
use Rattle.std.specs.Prelude.{ℕ, ◌+◌, ◌≤◌, ◌<◌, Bool, List, ◌≡◌, length}
use Rattle.std.proofs.Math.Bool.{true, false}
use Rattle.std.proofs.Math.Option.{Option, none, some}
use Rattle.std.proofs.Math.Path.{refl, ap}
use Rattle.std.proofs.Common.{sym, subst, ◌∙◌, arith}
use Rattle.spec_rtl.specs.Rtl as R
use Rattle.spec_tests.specs.Rules.{◌≡?◌, pick, list_of}
use Rattle.spec_tests.specs.Laws.{yes_eq, no_eq}
use Rattle.spec_rules.specs.Image as image
use Rattle.spec_rules.specs.Image.{absent, decode, count_at_of, field, first_port, has_second, second_port}
use Rattle.spec_model.specs.Ranges.{expr_at, width_at}
use Rattle.spec_model.specs.Lowering.{signal_width}
use Rattle.check_references.specs.Good.{GoodBit}
use Rattle.check_memories.specs.Good as memories
use Rattle.check_image.specs.Accepted.{Accepted}
use Rattle.law_accepted.specs.Decode.{expr_decoded, lengths}
use Rattle.law_walk.specs.Tables.{none_some, some_eq}
use Rattle.law_needs.specs.Inside.{Inside, ControlInside, ResetInside, PortInside, SecondInside, Within}
use Rattle.law_module.specs.Records.{register_at_law, memory_at_law, signal_width_law, expr_width_law}

-- ---- which expressions read a signal ----

-- the signal that a kind reads, and its first bit
abbrev read_of : R.Kind → Option (ℕ × ℕ)
read_of (R.Signal p l) = some (p, l)
read_of (R.Constant n) = none
read_of (R.Un op a) = none
read_of (R.Bin op a b) = none
read_of (R.Mux a b c) = none
read_of (R.Concat ps) = none
read_of (R.Slice a l) = none

no_read : (t : Bool) (x y : R.Kind) → read_of x ≡ none → read_of y ≡ none → read_of (pick t x y) ≡ none
unfolding pick
no_read true x y e f = e
no_read false x y e f = f

read_of_law : (t : Bool) (a b : ℕ) (x : R.Kind) (p l : ℕ) → read_of x ≡ none → read_of (pick t (R.Signal a b) x) ≡ some (p, l) → (t ≡ true) × (a ≡ p) × (b ≡ l)
unfolding pick
read_of_law true a b x p l n e = let f = some_eq e in (refl, ap (λ (y : ℕ × ℕ). y.0) f, ap (λ (y : ℕ × ℕ). y.1) f)
read_of_law false a b x p l n e = absurd (none_some (sym n ∙ e))

-- only kind 0 reads a signal, its operand a from bit b on
reads : (s : List ℕ) (k w a b c p l : ℕ) → image.kind_of s k w a b c ≡ R.Signal p l → (k ≡ 0) × (a ≡ p) × (b ≡ l)
unfolding image.kind_of
reads s k w a b c p l e =
    let concat = R.Concat (list_of b (λ i. image.list_word s (a + i))) in
    let n₅ = no_read (k ≡? 5) concat (R.Slice a b) refl refl in
    let n₃ = no_read (k ≡? 3) _ _ refl (no_read (k ≡? 4) _ _ refl n₅) in
    let n₁ = no_read (k ≡? 1) _ _ refl (no_read (k ≡? 2) _ _ refl n₃) in
    let r = read_of_law (k ≡? 0) a b _ p l n₁ (ap read_of e) in
    (yes_eq k 0 r.0, r.1, r.2)

module _ (s : List ℕ) (g : Accepted s) where
  read_inside : (e p l : ℕ) → e < length (decode s).exprs → (expr_at (decode s).exprs e).kind ≡ R.Signal p l
      → l + width_at (decode s).exprs e ≤ signal_width (decode s) p
  unfolding image.expr_at
  read_inside e p l h q =
      let there : e < count_at_of s 1 = rw (lengths s).exprs at h in
      let is = ap (λ (x : R.Expr). x.kind) (expr_decoded s e (record { width = 0; kind = R.Constant 0 }) there) in
      let r = reads s _ _ _ _ _ p l (sym is ∙ q) in
      let f = (g.exprs e there).kind.read r.0 in
      rw (← r.1, ← r.2, expr_width_law s e there, signal_width_law s (field s 1 e 2) f.there) f.room

  -- ---- clocks and controls ----

  bit_inside : (p : ℕ) → GoodBit s p → Inside (decode s) (p, 0)
  bit_inside p b = omega (arith, signal_width_law s p b.there, b.one)

  control_inside : (p q : ℕ) → ((p ≡ absent → ⊥) → GoodBit s p) → ControlInside (decode s) (image.optional p (image.control_of p q))
  unfolding image.optional image.control_of pick
  control_inside p q b = go (p ≡? absent) refl
    where
      go : (t : Bool) → (p ≡? absent) ≡ t → ControlInside (decode s) (pick t none (some (image.control_of p q)))
      go true z = tt
      go false z = bit_inside p (b (no_eq p absent z))

  -- ---- registers ----

  clock_inside : (k : ℕ) → k < count_at_of s 4 → Inside (decode s) ((image.register_at s k).clock, 0)
  unfolding image.register_at image.register_of
  clock_inside k h = bit_inside _ (g.registers k h).rest.clock

  enable_inside : (k : ℕ) → k < count_at_of s 4 → ControlInside (decode s) (image.register_at s k).enable
  unfolding image.register_at image.register_of
  enable_inside k h = control_inside _ _ (λ n. ((g.registers k h).rest.enable.some n).bit)

  reset_inside : (k : ℕ) → k < count_at_of s 4 → ResetInside (decode s) (image.register_at s k).reset
  unfolding image.register_at image.register_of image.optional image.control_of pick
  reset_inside k h = go (field s 4 k 8 ≡? absent) refl
    where
      go : (t : Bool) → (field s 4 k 8 ≡? absent) ≡ t
          → ResetInside (decode s)
          (pick t none (some (record { control = image.control_of (field s 4 k 8) (field s 4 k 9); asynchronous = field s 4 k 10 ≡? 1; value = field s 4 k 11 })))
      go true z = tt
      go false z = bit_inside _ ((g.registers k h).rest.reset.some (no_eq _ absent z)).control.bit

  -- ---- memories ----

  port_inside : (k f w : ℕ) → memories.GoodPort s k f w → PortInside (decode s) (image.port_of (λ i. field s 5 k (f + i)))
  unfolding image.port_of image.control_of
  port_inside k f w p = record {
    clock = bit_inside _ p.clock;
    writes = bit_inside _ p.write_enable_law.bit;
    reads = control_inside _ _ (λ n. (p.read_enable_law.some n).bit);
  }

  first_inside : (k : ℕ) → k < count_at_of s 5 → PortInside (decode s) (image.memory_at s k).first
  unfolding image.memory_at
  first_inside k h = port_inside k first_port _ (g.memories k h).rest.first_port_law

  second_inside : (k : ℕ) → k < count_at_of s 5 → SecondInside (decode s) (image.memory_at s k).second
  unfolding image.memory_at pick
  second_inside k h = go (field s 5 k has_second ≡? 0) refl
    where
      go : (t : Bool) → (field s 5 k has_second ≡? 0) ≡ t → SecondInside (decode s) (pick t none (some (image.port_of (λ i. field s 5 k (second_port + i)))))
      go true z = tt
      go false z = let f = (g.memories k h).rest.second_port_law in port_inside k second_port _ (f.some (omega (arith, f.known, no_eq _ 0 z))).port

  -- ---- the module ----

  pub within : Within (decode s)
  within = record {
    exprs = read_inside;
    clocks = λ k r e. let f = register_at_law s k r e in subst (λ x. Inside (decode s) (x.clock, 0)) f.is (clock_inside k f.there);
    enables = λ k r e. let f = register_at_law s k r e in subst (λ x. ControlInside (decode s) x.enable) f.is (enable_inside k f.there);
    resets = λ k r e. let f = register_at_law s k r e in subst (λ x. ResetInside (decode s) x.reset) f.is (reset_inside k f.there);
    firsts = λ k x e. let f = memory_at_law s k x e in subst (λ y. PortInside (decode s) y.first) f.is (first_inside k f.there);
    seconds = λ k x e. let f = memory_at_law s k x e in subst (λ y. SecondInside (decode s) y.second) f.is (second_inside k f.there);
  }
