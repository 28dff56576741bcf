-- The records of the decoded module, each by its number: what it is in the image. Assumes nothing.
use Rattle.std.specs.Prelude.{ℕ, zero, suc, ◌+◌, ◌<◌, Bool, true, false, List, ◌≡◌, length}
use Rattle.std.proofs.Math.Option.{none, some}
use Rattle.std.proofs.Math.Path.{refl, ap}
use Rattle.std.proofs.Common.{arith, add-zero, add-suc, suc-add, zero-add}
use Rattle.std.proofs.Math.ListN.{get_elem?}
use Rattle.spec_rtl.specs.Rtl as R
use Rattle.spec_rtl.specs.Rtl.{dir_of}
use Rattle.spec_tests.specs.Rules.{◌≡?◌, pick, each, list_of}
use Rattle.spec_tests.specs.Laws.{yes_eq, no_eq}
use Rattle.spec_rules.specs.Image as image
use Rattle.spec_rules.specs.Image.{absent, decode, count_at_of, field, has_second, second_port}
use Rattle.spec_model.specs.Ranges.{width_at}
use Rattle.spec_model.specs.Lowering.{signal_width}
use Rattle.law_walk.specs.Tables.{none_some, some_eq}
use Rattle.law_accepted.specs.Decode.{signal_decoded, expr_decoded, lengths}

-- x is entry k of the n entries f
pub record At {A : Type 0} (n : ℕ) (f : ℕ → A) (k : ℕ) (x : A) : Type 0 where
  pub there : k < n
  pub is : f k ≡ x

each_at : {A : Type 0} (f : ℕ → A) (i n k : ℕ) (x : A) → get_elem? (each f i n) k ≡ some x → (k < n) × (f (i + k) ≡ x)
unfolding each
each_at f i zero k x e = absurd (none_some e)
each_at f i (suc n) zero x e = (omega arith, rw (add-zero i) (some_eq e))
each_at f i (suc n) (suc k) x e = let r = each_at f (suc i) n k x e in (omega (arith, r.0), rw (add-suc i k, ← suc-add i k) r.1)

list_at : {A : Type 0} (n : ℕ) (f : ℕ → A) (k : ℕ) (x : A) → get_elem? (list_of n f) k ≡ some x → At n f k x
unfolding list_of
list_at n f k x e = let r = each_at f 0 n k x e in record { there = r.0; is = rw (zero-add k) at r.1 }

module _ (s : List ℕ) (k : ℕ) where
  pub assign_at_law : (a : R.Assign) → get_elem? (decode s).assigns k ≡ some a → At (count_at_of s 3) (image.assign_at s) k a
  unfolding decode
  assign_at_law a e = list_at _ _ k a e

  pub register_at_law : (r : R.Register) → get_elem? (decode s).registers k ≡ some r → At (count_at_of s 4) (image.register_at s) k r
  unfolding decode
  register_at_law r e = list_at _ _ k r e

  pub memory_at_law : (x : R.Memory) → get_elem? (decode s).memories k ≡ some x → At (count_at_of s 5) (image.memory_at s) k x
  unfolding decode
  memory_at_law x e = list_at _ _ k x e

-- ---- signals and expressions ----

module _ (s : List ℕ) (p : ℕ) (h : p < count_at_of s 0) where
  pub signal_there : p < length (decode s).signals
  signal_there = rw (lengths s).signals h

  pub signal_width_law : signal_width (decode s) p ≡ image.signal_width s p
  unfolding image.signal_at
  signal_width_law = ap (λ (x : R.Sig). x.width) (signal_decoded s p (record { width = 0; dir = R.Internal }) h)

  pub no_input_law : (field s 0 p 3 ≡ 1 → ⊥) → dir_of (decode s) p ≡ R.Input → ⊥
  unfolding image.signal_at image.direction pick
  no_input_law n e = n (go (field s 0 p 3 ≡? 1) refl (field s 0 p 3 ≡? 2) e₁)
    where
      e₁ : image.direction (field s 0 p 3) ≡ R.Input
      e₁ = cc (ap (λ (x : R.Sig). x.dir) (signal_decoded s p (record { width = 0; dir = R.Internal }) h))

      go : (t : Bool) → (field s 0 p 3 ≡? 1) ≡ t → (u : Bool) → pick t R.Input (pick u R.Output R.Internal) ≡ R.Input → field s 0 p 3 ≡ 1
      go true q u z = yes_eq _ 1 q
      go false q true z = let y : ◌≡◌ {A = ℕ} 0 1 = cc in absurd (omega arith)
      go false q false z = let y : ◌≡◌ {A = ℕ} 0 1 = cc in absurd (omega arith)

module _ (s : List ℕ) (e : ℕ) (h : e < count_at_of s 1) where
  pub expr_there : e < length (decode s).exprs
  expr_there = rw (lengths s).exprs h

  pub expr_width_law : width_at (decode s).exprs e ≡ image.expr_width s e
  unfolding image.expr_at
  expr_width_law = ap (λ (x : R.Expr). x.width) (expr_decoded s e (record { width = 0; kind = R.Constant 0 }) h)

-- ---- a memory's second port ----

pub record Second (s : List ℕ) (k : ℕ) (q : R.Port) : Type 0 where
  pub there : field s 5 k has_second ≡ 0 → ⊥
  pub is : image.port_of (λ i. field s 5 k (second_port + i)) ≡ q

-- ---- a register's reset ----

pub record ResetAt (s : List ℕ) (k : ℕ) (x : R.Reset) : Type 0 where
  pub there : field s 4 k 8 ≡ absent → ⊥
  pub value : field s 4 k 11 ≡ x.value

pub reset_at : (s : List ℕ) (k : ℕ) (x : R.Reset) → (image.register_at s k).reset ≡ some x → ResetAt s k x
unfolding image.register_at image.register_of image.optional pick
reset_at s k x e = go (field s 4 k 8 ≡? absent) refl e
  where
    go : (t : Bool) → (field s 4 k 8 ≡? absent) ≡ t
        → pick t none (some (record { control = image.control_of (field s 4 k 8) (field s 4 k 9); asynchronous = field s 4 k 10 ≡? 1; value = field s 4 k 11 })) ≡ some x
        → ResetAt s k x
    go true z e = absurd (none_some e)
    go false z e = record { there = no_eq _ absent z; value = ap (λ (y : R.Reset). y.value) (some_eq e) }
