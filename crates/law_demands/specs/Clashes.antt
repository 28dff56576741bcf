-- Q-6: in a step with a defined end it does not matter which port of a memory writes first. Assumes nothing.
use Prim.Native.Nat.{ℕ, ◌≤◌}
use Rattle.std.proofs.Common.{arith, sym, ◌∙◌, eqb-true, eq-eqb}
use Rattle.std.proofs.Math.Decide.{dec_lt}
use Rattle.std.specs.Prelude.{◌≡◌, refl, true, cond, ◌&&◌, eqb, ltb}
use Rattle.std.proofs.Math.Path.{ap, fun_ext}
use Rattle.std.proofs.Math.Bool.{Bool, false}
use Rattle.std.proofs.Math.Option.{Option, none, some}
use Rattle.spec_tests.specs.Laws as tests
use Rattle.spec_tests.specs.Laws.{no_lt, first_most}
use Rattle.spec_rules.specs.Step.{Contents, perhaps, Access, Accesses, Reads, writing, meets, clashes, clashing, no_end, act, write_next, words_next}

-- a memory's words if the second port writes before the first
unfoldable pub words_turned : (ℕ → ℕ → Bool) → Accesses → ℕ → ℕ → Bool
words_turned words x = write_next x.depth (perhaps words (write_next x.depth words) x.second) x.first

and_both : (a b : Bool) → (a && b) ≡ true → (a ≡ true) × (b ≡ true)
and_both true b e = (refl, e)
and_both false b e = absurd (let y : ◌≡◌ {A = ℕ} 0 1 = cc in omega arith)

either_order : (p q : Bool) (y z w : Bool) → (p ≡ true → q ≡ true → ⊥) → cond q y (cond p z w) ≡ cond p z (cond q y w)
either_order true true y z w n = absurd (n refl refl)
either_order true false y z w n = refl
either_order false q y z w n = refl

-- the port stores at this address of a memory of this depth
abbrev stores : ℕ → Access → ℕ → Bool
stores depth a at = writing a && eqb a.write_at at && ltb at depth

stored : (depth : ℕ) (a : Access) (at : ℕ) → stores depth a at ≡ true → (writing a ≡ true) × ((a.write_at ≡ at) × (ltb at depth ≡ true))
stored depth a at f =
    let p = and_both (writing a && eqb a.write_at at) (ltb at depth) f in
    let q = and_both (writing a) (eqb a.write_at at) p.0 in
    (q.0, (eqb-true _ _ q.1, p.1))

never : (depth : ℕ) (a b : Access) → meets depth a b ≡ false → (at : ℕ) → stores depth a at ≡ true → stores depth b at ≡ true → ⊥
never depth a b e at g h =
    let p = stored depth a at g in
    let q = stored depth b at h in
    let c : meets depth a b ≡ true = rw (p.0, q.0, p.1.0, q.1.0, eq-eqb at at refl, q.1.1) refl in
    let y : ◌≡◌ {A = ℕ} 0 1 = cc in
    omega arith

pub any_order : (words : ℕ → ℕ → Bool) (x : Accesses) → clashes x ≡ false → words_next words x ≡ words_turned words x
unfolding words_turned
any_order words x e = go x.second refl
  where
    go : (o : Option Access) → x.second ≡ o
        → perhaps (write_next x.depth words x.first) (write_next x.depth (write_next x.depth words x.first)) o ≡ write_next x.depth (perhaps words (write_next x.depth words) o) x.first
    go none f = refl
    go (some b) f = fun_ext (λ at. fun_ext (λ i.
        either_order (stores x.depth x.first at) (stores x.depth b at) (b.written i) (x.first.written i) (words at i)
        (never x.depth x.first b (ap (perhaps false (meets x.depth x.first)) (sym f) ∙ e) at)))

-- ---- a step with a defined end, of a machine that has no memory with a number of 16 or more ----

module _ (r : Reads) (few : (k : ℕ) → 16 ≤ k → r.memory k ≡ none) (ends : no_end r ≡ false) where
  pub none_clashes : (k : ℕ) → perhaps false clashes (r.memory k) ≡ false
  unfolding no_end clashing
  none_clashes k = elim (dec_lt k 16) [
    | yes h ↦ (let p : ℕ → Bool = λ k. perhaps false clashes (r.memory k) in tests.none p 16 (let a = no_lt _ 16 ends in let b = first_most p 16 in omega arith) k h)
    | no h ↦ ap (perhaps false clashes) (few k (omega arith))
  ]

  pub step_any_order : (c : Contents) (k : ℕ) → (act r c).mem k ≡ perhaps (c.mem k) (words_turned (c.mem k)) (r.memory k)
  step_any_order c k = go (r.memory k) refl
    where
      go : (o : Option Accesses) → r.memory k ≡ o → perhaps (c.mem k) (words_next (c.mem k)) o ≡ perhaps (c.mem k) (words_turned (c.mem k)) o
      go none f = refl
      go (some x) f = any_order (c.mem k) x (ap (perhaps false clashes) (sym f) ∙ none_clashes k)
