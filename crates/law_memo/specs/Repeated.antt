-- A builder's call for each net of a list, or for each pair of two: once done, each of them gives its net again and makes nothing. Assumes nothing.
use Rattle.std.specs.Prelude.{◌≡◌, refl, List, [], ◌∷◌, ℕ, suc, ◌+◌, ◌≤◌, ◌<◌, length}
use Rattle.std.proofs.Common.{ap, ap₂, ◌∙◌, arith}
use Rattle.std.proofs.Math.Option.{some}
use Rattle.std.proofs.Math.ListN.{get_elem?}
use Rattle.spec_model.specs.Words.{Netlist}
use Rattle.spec_model.specs.Builder.{Out, refused, done, and_then, Made, also, each, both}
use Rattle.law_nets.specs.Run.{Meets}
use Rattle.law_walk.specs.Kept.{Any}
use Rattle.law_repeats.specs.Again.{Stays, stays_refl, stays_trans, Repeats, Again}
use Rattle.law_memo.specs.Along.{Along, Single}

pub done_eq : {A : Type 0} {a b : A} → ◌≡◌ {A = Out A} (done a) (done b) → a ≡ b
done_eq p = cc

-- two answers at one netlist
pub answer_eq : {A : Type 0} {a b : A} {l : Netlist} → ◌≡◌ {A = Made A} (done (a, l)) (done (b, l)) → a ≡ b
answer_eq p = ap (λ r. r.0) (done_eq p)

-- n is what f makes of x at l, and nothing is made; for each of a list, for each pair of two
abbrev pub Repeated : {A : Type 0} → (A → Netlist → Made ℕ) → Netlist → List A → List ℕ → Type 0
Repeated f l [] [] = Unit {0}
Repeated f l [] (n ∷ ns) = ⊥
Repeated f l (x ∷ xs) [] = ⊥
Repeated f l (x ∷ xs) (n ∷ ns) = (f x l ≡ done (n, l)) × Repeated f l xs ns

abbrev pub Repeated2 : (ℕ → ℕ → Netlist → Made ℕ) → Netlist → List ℕ → List ℕ → List ℕ → Type 0
Repeated2 f l [] ys [] = Unit {0}
Repeated2 f l [] ys (n ∷ ns) = ⊥
Repeated2 f l (x ∷ xs) [] [] = Unit {0}
Repeated2 f l (x ∷ xs) [] (n ∷ ns) = ⊥
Repeated2 f l (x ∷ xs) (y ∷ ys) [] = ⊥
Repeated2 f l (x ∷ xs) (y ∷ ys) (n ∷ ns) = (f x y l ≡ done (n, l)) × Repeated2 f l xs ys ns

pub each_again : {A : Type 0} (f : A → Netlist → Made ℕ) (l : Netlist) (xs : List A) (ns : List ℕ) → Repeated f l xs ns → each f xs l ≡ done (ns, l)
unfolding each
each_again f l [] [] r = refl
each_again f l [] (n ∷ ns) r = absurd r
each_again f l (x ∷ xs) [] r = absurd r
each_again f l (x ∷ xs) (n ∷ ns) r =
    ap (λ (o : Made ℕ). and_then o (λ (k, l₁). also k (each f xs l₁))) r.0 ∙ ap (also n) (each_again f l xs ns r.1)

pub both_again : (f : ℕ → ℕ → Netlist → Made ℕ) (l : Netlist) (xs ys ns : List ℕ) → Repeated2 f l xs ys ns → both f xs ys l ≡ done (ns, l)
unfolding both
both_again f l [] ys [] r = refl
both_again f l [] ys (n ∷ ns) r = absurd r
both_again f l (x ∷ xs) [] [] r = refl
both_again f l (x ∷ xs) [] (n ∷ ns) r = absurd r
both_again f l (x ∷ xs) (y ∷ ys) [] r = absurd r
both_again f l (x ∷ xs) (y ∷ ys) (n ∷ ns) r =
    ap (λ (o : Made ℕ). and_then o (λ (k, l₁). also k (both f xs ys l₁))) r.0 ∙ ap (also n) (both_again f l xs ys ns r.1)

-- ---- what was done ----

-- P is what is asked of an operand, and stays
pub each_repeated : {A : Type 0} (f : A → Netlist → Made ℕ) (P : A → Netlist → Type 0) → ((a : A) (l : Netlist) → P a l → Again (f a) l)
    → ((a : A) (l l' : Netlist) → Stays l l' → P a l → P a l') → (xs : List A) (l : Netlist) → ((a : A) (i : ℕ) → get_elem? xs i ≡ some a → P a l)
    → Meets Any (λ r. Stays l r.1 × Repeated f r.1 xs r.0) (each f xs l)
unfolding each
each_repeated f P g k [] l h = (stays_refl l, tt)
each_repeated f P g k (x ∷ xs) l h = first (f x l) (g x l (h x 0 refl)).again (λ l₁ s. each_repeated f P g k xs l₁ (λ a i e. k a l l₁ s (h a (suc i) e)))
  where
    rest : (n : ℕ) (l₁ : Netlist) → Stays l l₁ → ((l'' : Netlist) → Stays l₁ l'' → f x l'' ≡ done (n, l'')) → (o : Made (List ℕ))
        → Meets Any (λ r. Stays l₁ r.1 × Repeated f r.1 xs r.0) o → Meets Any (λ r. Stays l r.1 × Repeated f r.1 (x ∷ xs) r.0) (also n o)
    rest n l₁ s t (refused a b c) m = tt
    rest n l₁ s t (done r) m = (stays_trans s m.0, (t r.1 m.0, m.1))

    first : (o : Made ℕ) → Repeats (f x) l o → ((l₁ : Netlist) → Stays l l₁ → Meets Any (λ r. Stays l₁ r.1 × Repeated f r.1 xs r.0) (each f xs l₁))
        → Meets Any (λ r. Stays l r.1 × Repeated f r.1 (x ∷ xs) r.0) (and_then o (λ (n, l₁). also n (each f xs l₁)))
    first (refused a b c) q ih = tt
    first (done r) q ih = rest r.0 r.1 q.0 q.1 (each f xs r.1) (ih r.1 q.0)

pub both_repeated : (f : ℕ → ℕ → Netlist → Made ℕ) (P : ℕ → Netlist → Type 0) → ((a b : ℕ) (l : Netlist) → P a l → P b l → Again (f a b) l)
    → ((a : ℕ) (l l' : Netlist) → Stays l l' → P a l → P a l') → (xs ys : List ℕ) (l : Netlist) → ((a i : ℕ) → get_elem? xs i ≡ some a → P a l)
    → ((a i : ℕ) → get_elem? ys i ≡ some a → P a l) → Meets Any (λ r. Stays l r.1 × Repeated2 f r.1 xs ys r.0) (both f xs ys l)
unfolding both
both_repeated f P g k [] ys l h j = (stays_refl l, tt)
both_repeated f P g k (x ∷ xs) [] l h j = (stays_refl l, tt)
both_repeated f P g k (x ∷ xs) (y ∷ ys) l h j =
    first (f x y l) (g x y l (h x 0 refl) (j y 0 refl)).again
    (λ l₁ s. both_repeated f P g k xs ys l₁ (λ a i e. k a l l₁ s (h a (suc i) e)) (λ a i e. k a l l₁ s (j a (suc i) e)))
  where
    rest : (n : ℕ) (l₁ : Netlist) → Stays l l₁ → ((l'' : Netlist) → Stays l₁ l'' → f x y l'' ≡ done (n, l'')) → (o : Made (List ℕ))
        → Meets Any (λ r. Stays l₁ r.1 × Repeated2 f r.1 xs ys r.0) o → Meets Any (λ r. Stays l r.1 × Repeated2 f r.1 (x ∷ xs) (y ∷ ys) r.0) (also n o)
    rest n l₁ s t (refused a b c) m = tt
    rest n l₁ s t (done r) m = (stays_trans s m.0, (t r.1 m.0, m.1))

    first : (o : Made ℕ) → Repeats (f x y) l o → ((l₁ : Netlist) → Stays l l₁ → Meets Any (λ r. Stays l₁ r.1 × Repeated2 f r.1 xs ys r.0) (both f xs ys l₁))
        → Meets Any (λ r. Stays l r.1 × Repeated2 f r.1 (x ∷ xs) (y ∷ ys) r.0) (and_then o (λ (n, l₁). also n (both f xs ys l₁)))
    first (refused a b c) q ih = tt
    first (done r) q ih = rest r.0 r.1 q.0 q.1 (both f xs ys r.1) (ih r.1 q.0)

-- ---- beside the bits ----

-- n comes of the net at a bit, of the nets at a bit of two
pub record From {A : Type 0} (P : A → Type 0) (f : A → Netlist → Made ℕ) (l : Netlist) (n : ℕ) : Type 0 where
  pub x : A
  pub here : P x
  pub made : f x l ≡ done (n, l)

pub record From2 (P Q : ℕ → Type 0) (f : ℕ → ℕ → Netlist → Made ℕ) (l : Netlist) (n : ℕ) : Type 0 where
  pub x : ℕ
  pub y : ℕ
  pub left : P x
  pub right : Q y
  pub made : f x y l ≡ done (n, l)

pub zip : {A : Type 0} (P : ℕ → A → Type 0) (f : A → Netlist → Made ℕ) (l : Netlist) (b : ℕ) (xs : List A) (ns : List ℕ) → Along P b xs → Repeated f l xs ns → Along (λ i n. From (P i) f l n) b ns
zip P f l b [] [] a r = tt
zip P f l b [] (n ∷ ns) a r = absurd r
zip P f l b (x ∷ xs) [] a r = tt
zip P f l b (x ∷ xs) (n ∷ ns) a r = (record { x = x; here = a.0; made = r.0 }, zip P f l (suc b) xs ns a.1 r.1)

pub zip2 : (P Q : ℕ → ℕ → Type 0) (f : ℕ → ℕ → Netlist → Made ℕ) (l : Netlist) (b : ℕ) (xs ys ns : List ℕ) → Along P b xs → Along Q b ys → Repeated2 f l xs ys ns
    → Along (λ i n. From2 (P i) (Q i) f l n) b ns
zip2 P Q f l b [] ys [] p q r = tt
zip2 P Q f l b [] ys (n ∷ ns) p q r = absurd r
zip2 P Q f l b (x ∷ xs) [] [] p q r = tt
zip2 P Q f l b (x ∷ xs) [] (n ∷ ns) p q r = absurd r
zip2 P Q f l b (x ∷ xs) (y ∷ ys) [] p q r = tt
zip2 P Q f l b (x ∷ xs) (y ∷ ys) (n ∷ ns) p q r =
    (record { x = x; y = y; left = p.0; right = q.0; made = r.0 }, zip2 P Q f l (suc b) xs ys ns p.1 q.1 r.1)

-- each of the bits b, b + 1, .., w of them, has such a net
abbrev pub Bits : (ℕ → ℕ → Type 0) → ℕ → ℕ → Type 0
Bits D b w = (i : ℕ) → b ≤ i → i < b + w → (n : ℕ) × D i n

pub unzip : {A : Type 0} (P : ℕ → A → Type 0) → Single P → (f : A → Netlist → Made ℕ) (l : Netlist) (b : ℕ) (xs : List A) → Along P b xs
    → Bits (λ i n. From (P i) f l n) b (length xs) → (ns : List ℕ) × Repeated f l xs ns
unzip P s f l b [] a h = ([], tt)
unzip {A} P s f l b (x ∷ xs) a h =
    let o = h b (omega arith) (omega arith) in
    let r = unzip P s f l (suc b) xs a.1 (λ i p q. h i (omega arith) (omega arith)) in
    (o.0 ∷ r.0, (ap (λ (z : A). f z l) (s b x o.1.x a.0 o.1.here) ∙ o.1.made, r.1))

pub unzip2 : (P Q : ℕ → ℕ → Type 0) → Single P → Single Q → (f : ℕ → ℕ → Netlist → Made ℕ) (l : Netlist) (b : ℕ) (xs ys : List ℕ) → length xs ≡ length ys
    → Along P b xs → Along Q b ys → Bits (λ i n. From2 (P i) (Q i) f l n) b (length xs) → (ns : List ℕ) × Repeated2 f l xs ys ns
unzip2 P Q s t f l b [] ys e p q h = ([], tt)
unzip2 P Q s t f l b (x ∷ xs) [] e p q h = absurd (omega arith)
unzip2 P Q s t f l b (x ∷ xs) (y ∷ ys) e p q h =
    let o = h b (omega arith) (omega arith) in
    let r = unzip2 P Q s t f l (suc b) xs ys (omega arith) p.1 q.1 (λ i u v. h i (omega arith) (omega arith)) in
    (o.0 ∷ r.0, (ap₂ (λ (z u : ℕ). f z u l) (s b x o.1.x p.0 o.1.left) (t b y o.1.y q.0 o.1.right) ∙ o.1.made, r.1))
