-- What drives an input, a register's target and a memory port's read data. Assumes nothing.
use Rattle.std.specs.Prelude.{◌≡◌, refl, true, false, List, [], ◌∷◌, ℕ, zero, suc, ◌+◌}
use Rattle.std.proofs.Common.{sym, ap, ◌∙◌, add-zero, arith, eq-eqb, ne_eqb}
use Rattle.std.proofs.Math.Option.{Option, none, some}
use Rattle.std.proofs.Math.ListN.{get_elem?}
use Rattle.spec_rtl.specs.Rtl as R
use Rattle.spec_rtl.specs.Rtl.{Module, Register, Memory, Port, Driver, FromInput, FromRegister, FromData, by_memory, by_register_of, of_port, driver, dir_of}
use Rattle.law_walk.specs.Tables.{none_some, some_eq}
use Rattle.law_walk.specs.Good.{Good}
use Rattle.law_walk.proofs.Walk.{no_register, no_input_law}

pub input_driver : (m : Module) (p i : ℕ) → dir_of m p ≡ R.Input → driver m p i ≡ FromInput
input_driver m p i e = rw e

-- the only register with this target
by_register : (s k j : ℕ) (rs : List Register) (r : Register) (d : Driver) → get_elem? rs j ≡ some r → r.target ≡ s
    → ((i : ℕ) (q : Register) → get_elem? rs i ≡ some q → q.target ≡ s → i ≡ j) → by_register_of k rs s d ≡ FromRegister (k + j)
by_register s k j [] r d e t u = absurd (none_some e)
by_register s k zero (x ∷ rs) r d e t u =
    let q : x ≡ r = some_eq e in
    rw (eq-eqb x.target s (ap (λ (y : Register). y.target) q ∙ t), add-zero k)
by_register s k (suc j) (x ∷ rs) r d e t u =
    rw (ne_eqb x.target s (λ f. let z : ◌≡◌ {A = ℕ} 0 (suc j) = u 0 x refl f in omega arith))
    (by_register s (suc k) j rs r d e t (λ i q h f. let z : suc i ≡ suc j = u (suc i) q h f in omega arith)
    ∙ ap FromRegister {x = suc k + j} {y = k + suc j} (omega arith))

pub register_driver : (m : Module) → Good m → (k : ℕ) (r : Register) (i : ℕ) → get_elem? m.registers k ≡ some r → driver m r.target i ≡ FromRegister k
register_driver m g k r i e =
    let h = g.registers k r e in
    no_input_law m r.target i (dir_of m r.target) _ h.input
    ∙ by_register r.target 0 k m.registers r _ e refl (λ j q f t. h.only j q f t) ∙ ap FromRegister {x = 0 + k} {y = k} (omega arith)

-- the only memory whose first port reads into this signal, where no second port does
by_first : (s k j : ℕ) (ms : List Memory) (x : Memory) (d : Driver) → get_elem? ms j ≡ some x → x.first.read_data ≡ s
    → ((i : ℕ) (y : Memory) → get_elem? ms i ≡ some y → y.first.read_data ≡ s → i ≡ j)
    → ((i : ℕ) (y : Memory) (q : Port) → get_elem? ms i ≡ some y → y.second ≡ some q → q.read_data ≡ s → ⊥) → by_memory k ms s d ≡ FromData (k + j) false
by_first s k j [] x d e t u v = absurd (none_some e)
by_first s k zero (y ∷ ms) x d e t u v =
    let q : y ≡ x = some_eq e in
    rw (eq-eqb y.first.read_data s (ap (λ (z : Memory). z.first.read_data) q ∙ t), add-zero k)
by_first s k (suc j) (y ∷ ms) x d e t u v =
    rw (ne_eqb y.first.read_data s (λ f. let z : ◌≡◌ {A = ℕ} 0 (suc j) = u 0 y refl f in omega arith), second y.second refl)
    (by_first s (suc k) j ms x d e t (λ i q h f. let z : suc i ≡ suc j = u (suc i) q h f in omega arith) (λ i q p h f. v (suc i) q p h f)
    ∙ ap (λ (n : ℕ). FromData n false) {x = suc k + j} {y = k + suc j} (omega arith))
  where
    second : (o : Option Port) → y.second ≡ o → of_port o s ≡ false
    second none h = refl
    second (some q) h = ne_eqb q.read_data s (λ f. v 0 y q refl h f)

-- the only memory whose second port does, where no first port does
by_second : (s k j : ℕ) (ms : List Memory) (x : Memory) (p : Port) (d : Driver) → get_elem? ms j ≡ some x → x.second ≡ some p → p.read_data ≡ s
    → ((i : ℕ) (y : Memory) → get_elem? ms i ≡ some y → y.first.read_data ≡ s → ⊥)
    → ((i : ℕ) (y : Memory) (q : Port) → get_elem? ms i ≡ some y → y.second ≡ some q → q.read_data ≡ s → i ≡ j) → by_memory k ms s d ≡ FromData (k + j) true
by_second s k j [] x p d e w t u v = absurd (none_some e)
by_second s k zero (y ∷ ms) x p d e w t u v =
    let q : y ≡ x = some_eq e in
    rw (ne_eqb y.first.read_data s (u 0 y refl), ap (λ (z : Memory). z.second) q ∙ w, eq-eqb p.read_data s t, add-zero k)
by_second s k (suc j) (y ∷ ms) x p d e w t u v =
    rw (ne_eqb y.first.read_data s (u 0 y refl), second y.second refl)
    (by_second s (suc k) j ms x p d e w t (λ i q h f. u (suc i) q h f) (λ i q o h g f. let z : suc i ≡ suc j = v (suc i) q o h g f in omega arith)
    ∙ ap (λ (n : ℕ). FromData n true) {x = suc k + j} {y = k + suc j} (omega arith))
  where
    second : (o : Option Port) → y.second ≡ o → of_port o s ≡ false
    second none h = refl
    second (some q) h = ne_eqb q.read_data s (λ f. let z : ◌≡◌ {A = ℕ} 0 (suc j) = v 0 y q refl h f in omega arith)

pub first_driver : (m : Module) → Good m → (k : ℕ) (x : Memory) (i : ℕ) → get_elem? m.memories k ≡ some x → driver m x.first.read_data i ≡ FromData k false
first_driver m g k x i e =
    let h = g.memories k x e in
    let s = x.first.read_data in
    no_input_law m s i (dir_of m s) _ h.first.input ∙ no_register m s i 0 m.registers _ h.first.registers
    ∙ by_first s 0 k m.memories x _ e refl h.first_first h.second_first ∙ ap (λ (n : ℕ). FromData n false) {x = 0 + k} {y = k} (omega arith)

pub second_driver : (m : Module) → Good m → (k : ℕ) (x : Memory) (p : Port) (i : ℕ) → get_elem? m.memories k ≡ some x → x.second ≡ some p
    → driver m p.read_data i ≡ FromData k true
second_driver m g k x p i e w =
    let h = g.memories k x e in
    let q = h.second p w in
    let s = p.read_data in
    no_input_law m s i (dir_of m s) _ q.input ∙ no_register m s i 0 m.registers _ q.registers
    ∙ by_second s 0 k m.memories x p _ e w refl (λ j y f t. (g.memories j y f).second_first k x p e w (sym t)) (λ j y o f v t. h.second_second j y o p f v w t)
    ∙ ap (λ (n : ℕ). FromData n true) {x = 0 + k} {y = k} (omega arith)
