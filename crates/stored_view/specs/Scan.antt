-- Laws of `from p n i`, the first number from i on below n with p: one test after the other, and a stretch on which p is another test.
use Rattle.std.specs.Prelude.{ℕ, zero, suc, ◌+◌, ◌-◌, ◌<◌, ◌≤◌, Bool, true, false, ◌≡◌, refl}
use Rattle.std.proofs.Common.{sym, ap, ap₂, ◌∙◌, subst, arith}
use Rattle.spec_tests.specs.Laws.{from, here, passed, past}

-- a chain of tests: number i has p; it has not, and the rest answers
pub at_hit : (p : ℕ → Bool) (n i : ℕ) → i < n → p i ≡ true → i ≡ from p n i
at_hit p n i h e = sym (here p n i h e)

pub at_skip : (p : ℕ → Bool) (n i : ℕ) {r : ℕ} → i < n → p i ≡ false → r ≡ from p n (i + 1) → r ≡ from p n i
at_skip p n i h e q = q ∙ sym (passed p n i h e)

pub at_end_law : (p : ℕ → Bool) (n : ℕ) → n ≡ from p n n
at_end_law p n = sym (past p n)

-- over the stretch from a to e the test is q
abbrev Over : (ℕ → Bool) → (ℕ → Bool) → ℕ → ℕ → ℕ → Type 0
Over p q n e a = (from q e a < e → from q e a ≡ from p n a) × (e ≤ from q e a → from p n e ≡ from p n a)

over_turn : (p q : ℕ → Bool) (n e a : ℕ) → a < e → e ≤ n → p a ≡ q a → Over p q n e (a + 1) → (b : Bool) → q a ≡ b → Over p q n e a
over_turn p q n e a l m h ih true w =
    let x = here q e a (omega arith) w in
    let y = here p n a (omega arith) (h ∙ w) in
    ((λ b. x ∙ sym y), (λ b. absurd (omega arith)))
over_turn p q n e a l m h ih false w =
    let x = passed q e a (omega arith) w in
    let y = passed p n a (omega arith) (h ∙ w) in
    ((λ b. x ∙ (ih.0 (omega arith) ∙ sym y)), (λ b. ih.1 (omega arith) ∙ sym y))

over : (p q : ℕ → Bool) (n e k a : ℕ) → e ≡ a + k → e ≤ n → ((j : ℕ) → a ≤ j → j < e → p j ≡ q j) → Over p q n e a
over p q n e zero a s m h =
    let z : e ≡ a = omega arith in
    subst (Over p q n e) z ((λ b. absurd (omega (arith, past q e))), (λ b. refl))
over p q n e (suc k) a s m h =
    over_turn p q n e a (omega arith) m (h a (omega arith) (omega arith)) (over p q n e k (a + 1) (omega arith) m (λ j l b. h j (omega arith) b)) (q a) refl

pub stretch_hit : (p q : ℕ → Bool) (n a e : ℕ) → a ≤ e → e ≤ n → ((j : ℕ) → a ≤ j → j < e → p j ≡ q j) → {r : ℕ} → r ≡ from q e a → r < e → r ≡ from p n a
stretch_hit p q n a e l m h {r} g b = g ∙ (over p q n e (e - a) a (omega arith) m h).0 (omega arith)

pub stretch_skip : (p q : ℕ → Bool) (n a e : ℕ) → a ≤ e → e ≤ n → ((j : ℕ) → a ≤ j → j < e → p j ≡ q j) → {r : ℕ} → r ≡ from q e a → e ≤ r → {s : ℕ} → s ≡ from p n e → s ≡ from p n a
stretch_skip p q n a e l m h {r} g b {s} t = t ∙ (over p q n e (e - a) a (omega arith) m h).1 (omega arith)

-- two tests that agree from i on; q's numbers may stand d higher
moved_turn : (p q : ℕ → Bool) (d n a : ℕ) → a < n → p a ≡ q (d + a) → d + from p n (a + 1) ≡ from q (d + n) (d + (a + 1)) → (b : Bool) → q (d + a) ≡ b
    → d + from p n a ≡ from q (d + n) (d + a)
moved_turn p q d n a l h ih true w =
    let x = here p n a l (h ∙ w) in
    let y = here q (d + n) (d + a) (omega arith) w in
    omega arith
moved_turn p q d n a l h ih false w =
    let x = passed p n a l (h ∙ w) in
    let y = passed q (d + n) (d + a) (omega arith) w in
    let z : d + (a + 1) ≡ d + a + 1 = omega arith in
    ap (λ (i : ℕ). d + i) x ∙ (ih ∙ (ap (from q (d + n)) z ∙ sym y))

moved : (p q : ℕ → Bool) (d n k a : ℕ) → n ≡ a + k → ((j : ℕ) → a ≤ j → j < n → p j ≡ q (d + j)) → d + from p n a ≡ from q (d + n) (d + a)
moved p q d n zero a s h =
    let z : n ≡ a = omega arith in
    subst (λ (i : ℕ). d + from p n i ≡ from q (d + n) (d + i)) z (ap (λ (i : ℕ). d + i) (past p n) ∙ sym (past q (d + n)))
moved p q d n (suc k) a s h =
    moved_turn p q d n a (omega arith) (h a (omega arith) (omega arith)) (moved p q d n k (a + 1) (omega arith) (λ j l b. h j (omega arith) b)) (q (d + a)) refl

pub from_moved : (p q : ℕ → Bool) (d n i : ℕ) → i ≤ n → ((j : ℕ) → i ≤ j → j < n → p j ≡ q (d + j)) → d + from p n i ≡ from q (d + n) (d + i)
from_moved p q d n i l h = moved p q d n (n - i) i (omega arith) h

pub from_ext : (p q : ℕ → Bool) (n i : ℕ) → i ≤ n → ((j : ℕ) → i ≤ j → j < n → p j ≡ q j) → from p n i ≡ from q n i
from_ext p q n i l h =
    let e = from_moved p q 0 n i l (λ j a b. h j a b ∙ ap q (omega arith)) in
    let z : 0 + from p n i ≡ from p n i = omega arith in
    sym z ∙ (e ∙ ap₂ (from q) (omega arith) (omega arith))

-- a search from a on that has passed all numbers below n
pub at_last : (p : ℕ → Bool) (n a i : ℕ) → n ≤ i → i ≤ n → from p n a ≡ from p n i → n ≡ from p n a
at_last p n a i h l q =
    let e : i ≡ n = omega arith in
    sym (q ∙ (ap (from p n) e ∙ past p n))
