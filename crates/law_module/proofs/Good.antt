-- What is proved of specs/Good: An accepted image decodes to a good module: `good`. Assumes nothing.
-- That no bit has two drivers is told once for each pair of records, by the later of the two.
use Rattle.std.specs.Prelude.{ℕ, ◌+◌, ◌<◌, List, ◌≡◌, length}
use Rattle.std.proofs.Math.Option.{some}
use Rattle.std.proofs.Math.Path.{sym, subst}
use Rattle.std.proofs.Common.{ap, ◌∙◌, arith, add-zero}
use Rattle.spec_rtl.specs.Rtl as R
use Rattle.spec_rules.specs.Image as image
use Rattle.spec_rules.specs.Image.{decode, count_at_of, field, first_port, has_second, second_port}
use Rattle.spec_model.specs.Ranges.{width_at}
use Rattle.check_references.specs.Good.{GoodValue}
use Rattle.check_drivers.specs.Good as drivers
use Rattle.check_assignments.specs.Good.{never_assigned}
use Rattle.check_memories.specs.Good as memories
use Rattle.check_image.specs.Accepted.{Accepted}
use Rattle.law_accepted.specs.Decode.{lengths}
use Rattle.law_accepted.specs.Formed.{readable}
use Rattle.law_walk.specs.Good.{Undriven, GoodAssign, GoodRegister, GoodPort, GoodMemory, Good}
use Rattle.law_module.specs.Records.{assign_at_law, register_at_law, memory_at_law, signal_there, signal_width_law, no_input_law, expr_there, expr_width_law, reset_at}
use Rattle.law_module.proofs.Records.{second_at}

module _ (s : List ℕ) (g : Accepted s) where
  -- ---- the drivers of the image, as it says them ----

  register_alone : (k : ℕ) → k < count_at_of s 4 → drivers.Undriven s k 0 (field s 4 k 2)
  register_alone k h = (g.registers k h).rest.alone

  first_alone : (k : ℕ) → k < count_at_of s 5 → drivers.Undriven s (count_at_of s 4) k (field s 5 k (first_port + 1))
  first_alone k h = (g.memories k h).rest.first_port_law.alone

  second : (k : ℕ) → k < count_at_of s 5 → (field s 5 k has_second ≡ 0 → ⊥) → memories.GoodTwo s k (image.signal_width s (field s 5 k (first_port + 1)))
  second k h n = let f = (g.memories k h).rest.second_port_law in f.some (omega (arith, f.known))

  second_alone : (k : ℕ) → k < count_at_of s 5 → (field s 5 k has_second ≡ 0 → ⊥) → drivers.Undriven s (count_at_of s 4) k (field s 5 k (second_port + 1))
  second_alone k h n = (second k h n).port.alone

  one : (k : ℕ) → k < count_at_of s 5 → (field s 5 k has_second ≡ 0 → ⊥) → field s 5 k has_second ≡ 1
  one k h n = omega (arith, (g.memories k h).rest.second_port_law.known)

  -- what has no driver by the rules is the signal of no assignment
  not_assigned : (i j a p : ℕ) → a < count_at_of s 3 → drivers.Undriven s i j p → field s 3 a 0 ≡ p → ⊥
  not_assigned i j a p h u e = never_assigned s a p (g.assigns a h) (u.no_assign a h) e

  targets : (j k : ℕ) → j < count_at_of s 4 → k < count_at_of s 4 → field s 4 j 2 ≡ field s 4 k 2 → j ≡ k
  targets j k h l e =
      let a : j < k → ⊥ = λ z. (register_alone k l).no_target j z e in
      let b : k < j → ⊥ = λ z. (register_alone j h).no_target k z (sym e) in
      omega arith

  firsts : (j k : ℕ) → j < count_at_of s 5 → k < count_at_of s 5 → field s 5 j (first_port + 1) ≡ field s 5 k (first_port + 1) → j ≡ k
  firsts j k h l e =
      let a : j < k → ⊥ = λ z. (first_alone k l).no_first j z e in
      let b : k < j → ⊥ = λ z. (first_alone j h).no_first k z (sym e) in
      omega arith

  second_not_first : (j k : ℕ) → j < count_at_of s 5 → k < count_at_of s 5 → (field s 5 j has_second ≡ 0 → ⊥) → field s 5 j (second_port + 1) ≡ field s 5 k (first_port + 1) → ⊥
  second_not_first j k h l n e =
      let a : j < k → ⊥ = λ z. (first_alone k l).no_second j z (one j h n) e in
      let b : k < j → ⊥ = λ z. (second_alone j h n).no_first k z (sym e) in
      let c : (j ≡ k → ⊥) = λ z. (second j h n).other (e ∙ ap (λ (i : ℕ). field s 5 i (first_port + 1)) (sym z)) in
      omega arith

  seconds : (j k : ℕ) → j < count_at_of s 5 → k < count_at_of s 5 → (field s 5 j has_second ≡ 0 → ⊥) → (field s 5 k has_second ≡ 0 → ⊥)
      → field s 5 j (second_port + 1) ≡ field s 5 k (second_port + 1) → j ≡ k
  seconds j k h l n o e =
      let a : j < k → ⊥ = λ z. (second_alone k l o).no_second j z (one j h n) e in
      let b : k < j → ⊥ = λ z. (second_alone j h n).no_second k z (one k l o) (sym e) in
      omega arith

  -- ---- assignments ----

  undriven : (a : ℕ) → a < count_at_of s 3 → Undriven (decode s) (field s 3 a 0)
  unfolding image.register_at image.register_of image.memory_at image.port_of
  undriven a h = record {
    input = no_input_law s _ (g.assigns a h).there (g.assigns a h).no_input_law;
    registers = λ k r e t. let f = register_at_law s k r e in
        not_assigned k 0 a _ h (register_alone k f.there) (sym (ap (λ (x : R.Register). x.target) f.is ∙ t));
    memories = λ k x e t. let f = memory_at_law s k x e in
        not_assigned (count_at_of s 4) k a _ h (first_alone k f.there) (sym (ap (λ (y : R.Memory). y.first.read_data) f.is ∙ t));
    seconds = λ k x q e t u. let f = memory_at_law s k x e in let z = second_at s k q (ap (λ (y : R.Memory). y.second) f.is ∙ t) in
        not_assigned (count_at_of s 4) k a _ h (second_alone k f.there z.there) (sym (ap (λ (y : R.Port). y.read_data) z.is ∙ u));
  }

  valued : (e w : ℕ) → GoodValue s e w → width_at (decode s).exprs e ≡ w
  valued e w v = expr_width_law s e v.there ∙ v.width

  good_assign : (a : ℕ) → a < count_at_of s 3 → GoodAssign (decode s) (image.assign_at s a)
  unfolding image.assign_at
  good_assign a h =
      let f = g.assigns a h in
      record {
        inside = signal_there s _ f.there;
        fits = rw (signal_width_law s (field s 3 a 0) f.there) f.room;
        value = expr_there s _ f.value.there;
        wide = valued _ _ f.value;
        undriven = undriven a h;
      }

  -- ---- registers ----

  good_reset : (k : ℕ) → k < count_at_of s 4 → (x : R.Reset) → (image.register_at s k).reset ≡ some x
      → (x.value < length (decode s).exprs) × (width_at (decode s).exprs x.value ≡ image.signal_width s (field s 4 k 2))
  good_reset k h x e = let r = reset_at s k x e in
      let v = ((g.registers k h).rest.reset.some r.there).value in
      rw (← r.value) (expr_there s _ v.there, valued _ _ v)

  good_register : (k : ℕ) → k < count_at_of s 4 → GoodRegister (decode s) k (image.register_at s k)
  unfolding image.register_at image.register_of
  good_register k h =
      let f = (g.registers k h).rest in
      let w = signal_width_law s (field s 4 k 2) f.there in
      record {
        inside = signal_there s _ f.there;
        input = no_input_law s _ f.there f.alone.no_input_law;
        only = λ j q e t. let r = register_at_law s j q e in targets j k r.there h (ap (λ (x : R.Register). x.target) r.is ∙ t);
        next = expr_there s _ f.next.there;
        wide = valued _ _ f.next ∙ sym w;
        reset = λ x e. let r = good_reset k h x e in (r.0, r.1 ∙ sym w);
      }

  -- ---- memories ----

  good_port : (k f w : ℕ) → k < count_at_of s 5 → memories.GoodPort s k f w → GoodPort (decode s) (image.port_of (λ i. field s 5 k (f + i)))
  unfolding image.port_of image.register_at image.register_of
  good_port k f w h p = record {
    inside = signal_there s _ p.read_there;
    input = no_input_law s _ p.read_there p.alone.no_input_law;
    registers = λ j r e t. let a = register_at_law s j r e in p.alone.no_target j a.there (ap (λ (x : R.Register). x.target) a.is ∙ t);
    read_address = rw (add-zero f) (expr_there s _ p.read_address_law.there);
    write_address = expr_there s _ p.write_address_law.there;
    write_data = expr_there s _ p.write_data_law.there;
  }

  good_memory : (k : ℕ) → k < count_at_of s 5 → GoodMemory (decode s) k (image.memory_at s k)
  unfolding image.memory_at image.port_of
  good_memory k h = record {
    first = good_port k first_port _ h (g.memories k h).rest.first_port_law;
    second = λ q e. let z = second_at s k q e in subst (GoodPort (decode s)) z.is (good_port k second_port _ h (second k h z.there).port);
    first_first = λ j y e t. let f = memory_at_law s j y e in firsts j k f.there h (ap (λ (x : R.Memory). x.first.read_data) f.is ∙ t);
    second_first = λ j y q e i t.
        let f = memory_at_law s j y e in
        let z = second_at s j q (ap (λ (x : R.Memory). x.second) f.is ∙ i) in
        second_not_first j k f.there h z.there (ap (λ (x : R.Port). x.read_data) z.is ∙ t);
    second_second = λ j y q p e i o t.
        let f = memory_at_law s j y e in
        let z = second_at s j q (ap (λ (x : R.Memory). x.second) f.is ∙ i) in
        let x = second_at s k p o in
        seconds j k f.there h z.there x.there (ap (λ (y : R.Port). y.read_data) z.is ∙ t ∙ sym (ap (λ (y : R.Port). y.read_data) x.is));
  }

  -- ---- the module ----

  pub good : Good (decode s)
  good = record {
    exprs = (readable s g).formed;
    signals = λ p h. let l = rw (lengths s).signals at h in rw (signal_width_law s p l) (g.signals p l).width.0;
    assigns = λ k a e. let f = assign_at_law s k a e in subst (GoodAssign (decode s)) f.is (good_assign k f.there);
    registers = λ k r e. let f = register_at_law s k r e in subst (GoodRegister (decode s) k) f.is (good_register k f.there);
    memories = λ k x e. let f = memory_at_law s k x e in subst (GoodMemory (decode s) k) f.is (good_memory k f.there);
  }
