-- Two rules can be searched for one after the other: where either is first broken is the earlier of the two places.
use Rattle.std.specs.Prelude.{ℕ, zero, suc, ◌≤◌, min, Bool, true, false, Option, Some, None, ◌≡◌, refl}
use Rattle.std.specs.Option.{unwrap_or}
use Rattle.std.proofs.Common.{sym, ap, ◌∙◌, arith}
use Rattle.spec_tests.specs.Rules.{◌<?◌, ◌or◌, pick, up_to, first}
use Rattle.spec_tests.specs.Laws.{yes_lt, no_lt, first_most}
use Rattle.spec_tests.specs.Options.{first_of}

abbrev pub earlier_of : Option ℕ → Option ℕ → Option ℕ
earlier_of (Some x) (Some y) = Some (min x y)
earlier_of (Some x) None = Some x
earlier_of None b = b

-- of two numbers
sooner : ℕ → ℕ → ℕ
sooner a b = pick (a <? b) a b

sooner_same : (i x : ℕ) → i ≤ x → sooner i x ≡ i
unfolding sooner pick
sooner_same i x h = go (i <? x) refl
  where
    go : (t : Bool) → (i <? x) ≡ t → pick t i x ≡ i
    go true e = refl
    go false e = omega (arith, no_lt i x e)

sooner_right : (i x : ℕ) → i ≤ x → sooner x i ≡ i
unfolding sooner pick
sooner_right i x h = go (x <? i) refl
  where
    go : (t : Bool) → (x <? i) ≡ t → pick t x i ≡ i
    go true e = omega (arith, yes_lt x i e)
    go false e = refl

up_to_least : (p : ℕ → Bool) (i k : ℕ) → i ≤ up_to p i k
unfolding up_to pick
up_to_least p i zero = omega arith
up_to_least p i (suc k) = go (p i) (up_to_least p (suc i) k)
  where
    go : (b : Bool) → suc i ≤ up_to p (suc i) k → i ≤ pick b i (up_to p (suc i) k)
    go true ih = omega arith
    go false ih = omega arith

-- one step: i, or the earlier of two later places
either : (x y : Bool) (i a u v : ℕ) → suc i ≤ u → suc i ≤ v → a ≡ sooner u v → pick (x or y) i a ≡ sooner (pick x i u) (pick y i v)
unfolding pick ◌or◌
either true true i a u v hu hv e = sym (sooner_same i i (omega arith))
either true false i a u v hu hv e = sym (sooner_same i v (omega arith))
either false true i a u v hu hv e = sym (sooner_right i u (omega arith))
either false false i a u v hu hv e = e

up_to_either : (b p q : ℕ → Bool) (i k : ℕ) → ((r : ℕ) → b r ≡ (p r or q r)) → up_to b i k ≡ sooner (up_to p i k) (up_to q i k)
unfolding up_to
up_to_either b p q i zero e = sym (sooner_same i i (omega arith))
up_to_either b p q i (suc k) e =
    ap (λ (t : Bool). pick t i (up_to b (suc i) k)) (e i)
    ∙ either (p i) (q i) i _ _ _ (up_to_least p (suc i) k) (up_to_least q (suc i) k) (up_to_either b p q (suc i) k e)

sooner_first : (n x y : ℕ) → x ≤ n → y ≤ n → pick (sooner x y <? n) (Some (sooner x y)) None ≡ earlier_of (pick (x <? n) (Some x) None) (pick (y <? n) (Some y) None)
unfolding sooner pick
sooner_first n x y hx hy = go (x <? y) refl (x <? n) refl (y <? n) refl
  where
    go : (t : Bool) → (x <? y) ≡ t → (u : Bool) → (x <? n) ≡ u → (v : Bool) → (y <? n) ≡ v → pick (pick t x y <? n) (Some (pick t x y)) None ≡ earlier_of (pick u (Some x) None) (pick v (Some y) None)
    go true e true f true g = rw f (ap Some (omega (arith, yes_lt x y e)))
    go true e true f false g = rw f refl
    go true e false f true g = absurd (omega (arith, yes_lt x y e, yes_lt y n g, no_lt x n f))
    go true e false f false g = rw f refl
    go false e true f true g = rw g (ap Some (omega (arith, no_lt x y e)))
    go false e true f false g = absurd (omega (arith, no_lt x y e, yes_lt x n f, no_lt y n g))
    go false e false f true g = rw g refl
    go false e false f false g = rw g refl

-- rule b is broken where p or q is: it is first broken at the earlier of their first places
pub first_either : (b p q : ℕ → Bool) (n : ℕ) → ((r : ℕ) → b r ≡ (p r or q r)) → first_of b n ≡ earlier_of (first_of p n) (first_of q n)
unfolding first_of first
first_either b p q n e = ap (λ (i : ℕ). pick (i <? n) (Some i) None) (up_to_either b p q 0 n e) ∙ sooner_first n _ _ (first_most p n) (first_most q n)

-- where the earlier place is none, the second is
pub earlier_none : (a b : Option ℕ) → earlier_of a b ≡ None → b ≡ None
earlier_none (Some x) (Some y) e = cc
earlier_none (Some x) None e = cc
earlier_none None b e = e

-- where the earlier place is there, the second is not before it
pub earlier_second : (a b : Option ℕ) (i j : ℕ) → earlier_of a b ≡ Some i → b ≡ Some j → i ≤ j
earlier_second (Some x) (Some y) i j e f = omega (arith, ap (λ (o : Option ℕ). unwrap_or o 0) e, ap (λ (o : Option ℕ). unwrap_or o 0) f)
earlier_second (Some x) None i j e f = absurd cc
earlier_second None b i j e f = omega (arith, ap (λ (o : Option ℕ). unwrap_or o 0) (sym e ∙ f))

pub or_assoc : (a b c : Bool) → ((a or b) or c) ≡ (a or (b or c))
unfolding ◌or◌
or_assoc true b c = refl
or_assoc false b c = refl
