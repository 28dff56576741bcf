-- Chains over the numbers below n that look for one with a property: what `find` and `any` answer, in the words `first_of` and `any`. Assumes nothing.
use Rattle.std.specs.Prelude.{◌≡◌, ℕ, ◌<◌, ◌≤◌, Bool, true, false, Option, Some, None, List, length, get_or}
use Rattle.std.proofs.Common.{sym, ap, ◌∙◌, arith, Bor}
use Rattle.std.specs.declared.ops.Range.{Range}
use Rattle.std.proofs.lemmas.Iterator.{YieldsList-from_range, first_from_Range, cases_from_any}
use Rattle.std.proofs.lemmas.List.FromFn.{length-range_with_len, get_or-range_with_len}
use Rattle.std.proofs.iter.Yields.{nat_range_steps}
use Rattle.std.specs.Fn.{Called, CalledAt}
use Rattle.std.specs.Iterator.{YieldsThen}
use Rattle.std.specs.List.{FoldsTo, AllWithin, HoldsAt, range_with_len}
use Rattle.std.specs.Option.{MatchOption}
use Rattle.std.specs.Bool.{⊤, MatchBool}
use denote.Param.Members.{Mut}
use Rattle.spec_tests.specs.Rules.{any}
use Rattle.spec_tests.specs.Laws.{found, ended}
use Rattle.spec_tests.specs.Any.{any_at, any_none}
use Rattle.spec_tests.specs.Options.{first_of, first_some, first_none}
use Rattle.spec_chains.specs.Search.{reached}

module _ {F : Type 0} (n : ℕ) (p : ℕ → Bool) where
  -- `(0..n).find(..)`, where the closure answers p
  pub first_by_find : {g : Mut F (Bor ℕ × Unit {0}) Bool} (s u : Range ℕ) (f : F) (r : Option ℕ)
      → (xs : List ℕ) × (j : F) × YieldsThen nat_range_steps s xs r u × FoldsTo (λ q x h. CalledAt g q x false h) f xs j × MatchOption r ⊤ (λ x. (h : F) × CalledAt g j x true h)
      → s ≡ record { start = 0; end = n }
      → ((x : ℕ) (q : F) → CalledAt g f x true q → p x ≡ true) → ((x : ℕ) (q : F) → CalledAt g f x false q → (q ≡ f) × (p x ≡ false))
      → r ≡ first_of p n
  first_by_find s u f r ran e yes' no' = by r (first_from_Range s u f r (λ x. p x ≡ true) (λ x. p x ≡ false) ran yes' no')
    where
      by : (o : Option ℕ) → MatchOption o ((k : ℕ) → s.start ≤ k → k < s.end → p k ≡ false) (λ i. (s.start ≤ i) × (i < s.end) × (p i ≡ true) × ((k : ℕ) → s.start ≤ k → k < i → p k ≡ false)) → o ≡ first_of p n
      by None h =
          let a = ap (λ (x : Range ℕ). x.start) e in
          let b = ap (λ (x : Range ℕ). x.end) e in
          sym (first_none p n (ended p n n (omega arith) (omega arith) (reached p n n (omega arith) (λ k l. h k (omega arith) (omega arith)))))
      by (Some i) h =
          let a = ap (λ (x : Range ℕ). x.start) e in
          let b = ap (λ (x : Range ℕ). x.end) e in
          let l : i < n = omega (arith, h.1) in
          sym (first_some p n i l (found p n i l (reached p n i (omega arith) (λ k m. h.3 k (omega arith) m)) h.2))

  -- `(0..n).any(..)`
  pub any_by_any : {g : Mut F (ℕ × Unit {0}) Bool} {s : Range ℕ} (u : Range ℕ) (f : F) (r : Bool)
      → (xs : List ℕ) × (o : Option ℕ) × (j : F) × YieldsThen nat_range_steps s xs o u × FoldsTo (λ q x h. Called g q (x, tt) false h) f xs j × MatchOption o (r ≡ false) (λ x. (r ≡ true) × ((h : F) × Called g j (x, tt) true h))
      → s ≡ record { start = 0; end = n }
      → ((x : ℕ) (q : F) → Called g f (x, tt) true q → p x ≡ true) → ((x : ℕ) (q : F) → Called g f (x, tt) false q → (q ≡ f) × (p x ≡ false))
      → r ≡ any p n
  any_by_any u f r ran e yes' no' = by r (cases_from_any u f r (λ x. p x ≡ true) (λ x. p x ≡ false) ran (YieldsList-from_range 0 n n e (omega arith)) yes' no')
    where
      all : List ℕ
      all = range_with_len 0 n

      at : (k : ℕ) → k < n → get_or all k 0 ≡ k
      at k l = get_or-range_with_len 0 n k 0 l ∙ omega arith

      by : (b : Bool) → MatchBool b ((k : ℕ) × (k < length all) × HoldsAt (λ x. p x ≡ true) all k) (AllWithin (λ x. p x ≡ false) all 0 (length all)) → b ≡ any p n
      by true h =
          let l : h.0 < n = omega (arith, length-range_with_len 0 n, h.1) in
          sym (any_at p n h.0 l (ap p (sym (at h.0 l)) ∙ h.2 0))
      by false h = sym (any_none p n (λ k l. ap p (sym (at k l)) ∙ h k 0 (omega arith) (omega (arith, length-range_with_len 0 n))))
