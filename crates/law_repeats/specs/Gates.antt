-- Constants and gates made again, one of them, a list, and one for each pair of two lists. Assumes nothing.
use Rattle.std.specs.Prelude.{◌≡◌, refl, Bool, cond, ◌||◌, List, [], ◌∷◌, ℕ, suc, ◌<◌, eqb}
use Rattle.std.proofs.Common.{ap, ap₂}
use Rattle.std.proofs.Math.Option.{some}
use Rattle.std.proofs.Math.ListN.{get_elem?}
use Rattle.spec_model.specs.Words.{Netlist}
use Rattle.spec_model.specs.Builder.{done, and_then, Made, is_value, is_constant, also, each, both}
use Rattle.word_laws.specs.Widths.{AllBelow}
use Rattle.law_nets.specs.Sound.{count}
use Rattle.law_repeats.specs.Again.{Stays, below_stays, value_stays, Again, again_here, again_bind, again_if}

-- an operand is the constant v, or is not
pub again_is : (v : Bool) (a : ℕ) (f g : Netlist → Made ℕ) (l : Netlist) → a < count l → Again f l → Again g l → Again (λ l'. cond (is_constant v l' a) (f l') (g l')) l
again_is v a f g l h x y = again_if (λ l'. is_constant v l' a) f g l (λ l'' s. ap (is_value v) (value_stays s a h)) (λ e. x) (λ e. y)

pub again_either : (v : Bool) (a b : ℕ) (f g : Netlist → Made ℕ) (l : Netlist) → a < count l → b < count l → Again f l → Again g l
    → Again (λ l'. cond (is_constant v l' a || is_constant v l' b) (f l') (g l')) l
again_either v a b f g l h k x y =
    again_if (λ l'. is_constant v l' a || is_constant v l' b) f g l (λ l'' s. ap₂ ◌||◌ (ap (is_value v) (value_stays s a h)) (ap (is_value v) (value_stays s b k))) (λ e. x) (λ e. y)

pub again_eq : (a b : ℕ) (f g : Netlist → Made ℕ) (l : Netlist) → Again f l → Again g l → Again (λ l'. cond (eqb a b) (f l') (g l')) l
again_eq a b f g l x y = again_if (λ l'. eqb a b) f g l (λ l'' s. refl) (λ e. x) (λ e. y)

-- ---- many ----

-- one net, and then others
pub again_cons : (f : Netlist → Made ℕ) (g : Netlist → Made (List ℕ)) (l : Netlist) → Again f l → ((l₁ : Netlist) → Stays l l₁ → Again g l₁)
    → Again (λ l'. and_then (f l') (λ (n, l₁). also n (g l₁))) l
again_cons f g l a b = again_bind f (λ n l₁. also n (g l₁)) l a (λ n l₁ q s. again_bind g (λ ns l₂. done (n ∷ ns, l₂)) l₁ (b l₁ s) (λ ns l₂ q₂ s₂. again_here (n ∷ ns) l₂))

-- P is what is asked of an operand, and stays
pub again_each : {A : Type 0} (f : A → Netlist → Made ℕ) (P : A → Netlist → Type 0) → ((a : A) (l : Netlist) → P a l → Again (f a) l)
    → ((a : A) (l l' : Netlist) → Stays l l' → P a l → P a l') → (xs : List A) (l : Netlist) → ((a : A) (i : ℕ) → get_elem? xs i ≡ some a → P a l) → Again (each f xs) l
unfolding each
again_each f P g k [] l h = again_here [] l
again_each f P g k (x ∷ xs) l h = again_cons (f x) (each f xs) l (g x l (h x 0 refl)) (λ l₁ s. again_each f P g k xs l₁ (λ a i e. k a l l₁ s (h a (suc i) e)))

pub again_both : (f : ℕ → ℕ → Netlist → Made ℕ) → ((a b : ℕ) (l : Netlist) → a < count l → b < count l → Again (f a b) l)
    → (xs ys : List ℕ) (l : Netlist) → AllBelow (count l) xs → AllBelow (count l) ys → Again (both f xs ys) l
unfolding both
again_both f g [] ys l p q = again_here [] l
again_both f g (x ∷ xs) [] l p q = again_here [] l
again_both f g (x ∷ xs) (y ∷ ys) l p q =
    again_cons (f x y) (both f xs ys) l (g x y l p.0 q.0) (λ l₁ s. again_both f g xs ys l₁ (below_stays s xs p.1) (below_stays s ys q.1))
