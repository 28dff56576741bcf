-- The outputs of a cell are due by its step. Assumes nothing.
use Rattle.std.specs.Prelude.{ℕ, ◌+◌, ◌≤◌, ◌<◌, ◌≡◌, refl, Bool, true, false, ◌⊎◌, List, length, get_or, set}
use Rattle.std.proofs.Common.{not-suc-le-zero, arith, sym, ap, subst, ◌∙◌, inl, inr, ⊎_elim, get_or-set_same, get_or-set_other}
use Rattle.std.proofs.Math.Decide.{dec_lt, ℕ_discrete}
use Rattle.spec_tests.specs.Rules.{◌<?◌, pick}
use Rattle.spec_tests.specs.Laws.{yes_lt, no_lt}
use Rattle.trace_plan.specs.Building.{at, Given}

-- the first i nets of a list that had no value yet are due by step n
pub record Marked (outs due due' : List ℕ) (n i : ℕ) : Type 0 where
  pub given : Given due due' n (n + 1)
  pub kept : (k : ℕ) → ((m : ℕ) → m < i → get_or outs m 0 ≡ k → ⊥) → at due' k ≡ at due k
  pub made : (m : ℕ) → m < i → at due' (get_or outs m 0) ≤ n + 1

pub mark_start : (outs due : List ℕ) (n : ℕ) → Marked outs due due n 0
mark_start outs due n = record {
  given = record { fixed = λ k h. refl; fresh = λ k h. inl refl };
  kept = λ k f. refl;
  made = λ m h. absurd (not-suc-le-zero h);
}

-- one net
abbrev pub marked : ℕ → ℕ → List ℕ → List ℕ
marked k n due = pick (n <? at due k) (set due k (n + 1)) due

one_is : (k n : ℕ) (due : List ℕ) → k < length due → (x : ℕ) → (at (marked k n due) x ≡ at due x) ⊎ ((x ≡ k) × ((at (marked k n due) x ≡ n + 1) × (n < at due x)))
unfolding pick
one_is k n due h x = go (n <? at due k) refl
  where
    go : (b : Bool) → (n <? at due k) ≡ b → (at (pick b (set due k (n + 1)) due) x ≡ at due x) ⊎ ((x ≡ k) × ((at (pick b (set due k (n + 1)) due) x ≡ n + 1) × (n < at due x)))
    go true e = elim (ℕ_discrete x k) [
      | yes z ↦ inr (z, (ap (λ (i : ℕ). get_or (set due k (n + 1)) i 0) z ∙ get_or-set_same due k (n + 1) 0 h, (let l = yes_lt n (at due k) e in let y = ap (at due) z in omega arith)))
      | no z ↦ inl (get_or-set_other due k x (n + 1) 0 z)
    ]
    go false e = inl refl

one_most : (k n : ℕ) (due : List ℕ) → k < length due → at (marked k n due) k ≤ n + 1
unfolding pick
one_most k n due h = go (n <? at due k) refl
  where
    go : (b : Bool) → (n <? at due k) ≡ b → at (pick b (set due k (n + 1)) due) k ≤ n + 1
    go true e = let s = get_or-set_same due k (n + 1) 0 h in omega arith
    go false e = let l = no_lt n (at due k) e in omega arith

pub mark_more : {outs due due' : List ℕ} {n i : ℕ} → Marked outs due due' n i → (k : ℕ) → k ≡ get_or outs i 0 → k < length due' → (due'' : List ℕ) → due'' ≡ marked k n due' → Marked outs due due'' n (i + 1)
mark_more {outs} {due} {due'} {n} {i} w k ek h due'' e = rw e (record {
  given = record { fixed = fix; fresh = new };
  kept = λ x f. ⊎_elim (λ (a : at (marked k n due') x ≡ at due' x). a ∙ w.kept x (λ m l z. f m (omega arith) z))
      (λ (a : (x ≡ k) × ((at (marked k n due') x ≡ n + 1) × (n < at due' x))). absurd (f i (omega arith) (sym ek ∙ sym a.0))) (one_is k n due' h x);
  made = λ m l. elim (dec_lt m i) [
    | yes q ↦ ⊎_elim (λ (a : at (marked k n due') (get_or outs m 0) ≡ at due' (get_or outs m 0)). (let z = w.made m q in omega arith))
        (λ (a : (get_or outs m 0 ≡ k) × ((at (marked k n due') (get_or outs m 0) ≡ n + 1) × (n < at due' (get_or outs m 0)))). (let z = a.1.0 in omega arith)) (one_is k n due' h (get_or outs m 0))
    | no q ↦ (
        let z : m ≡ i = omega arith in
        let y : get_or outs m 0 ≡ k = ap (λ (j : ℕ). get_or outs j 0) z ∙ sym ek in
        let a = one_most k n due' h in
        let b = ap (at (marked k n due')) y in
        omega arith)
  ];
})
  where
    fix : (x : ℕ) → at due x ≤ n → at (marked k n due') x ≡ at due x
    fix x l = ⊎_elim (λ (a : at (marked k n due') x ≡ at due' x). a ∙ w.given.fixed x l)
        (λ (a : (x ≡ k) × ((at (marked k n due') x ≡ n + 1) × (n < at due' x))). absurd (let z = a.1.1 in let y = w.given.fixed x l in omega arith)) (one_is k n due' h x)

    new : (x : ℕ) → n < at due x → (at (marked k n due') x ≡ at due x) ⊎ (at (marked k n due') x ≡ n + 1)
    new x l = ⊎_elim (λ (a : at (marked k n due') x ≡ at due' x). ⊎_elim (λ (b : at due' x ≡ at due x). inl (a ∙ b)) (λ (b : at due' x ≡ n + 1). inr (a ∙ b)) (w.given.fresh x l))
        (λ (a : (x ≡ k) × ((at (marked k n due') x ≡ n + 1) × (n < at due' x))). inr a.1.0) (one_is k n due' h x)

pub mark_end : {outs due due' : List ℕ} {n i : ℕ} → Marked outs due due' n i → i ≤ length outs → length outs ≤ i → Marked outs due due' n (length outs)
mark_end {outs} {due} {due'} {n} {i} w h l = let e : i ≡ length outs = omega arith in subst (λ (k : ℕ). Marked outs due due' n k) e w
