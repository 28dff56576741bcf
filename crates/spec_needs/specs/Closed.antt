-- Lists of bits that needs do not lead out of, by a computed test: what is needed, or what a bit needs, is on such a list where the first
-- needs are. Assumes nothing.
use Rattle.std.specs.Prelude.{◌≡◌, Bool, true, false, ◌&&◌, ◌||◌, List, [], ◌∷◌, T, eqb}
use Rattle.std.proofs.Common.{sym, subst, inl, inr, eqb→eq}
use Rattle.spec_rtl.specs.Rtl.{Module}
use Rattle.spec_needs.specs.Reads.{Place}
use Rattle.spec_needs.specs.Needs.{bit_needs, starts, In, Needed, start, further, Needs, once, through}

abbrev pub has : List Place → Place → Bool
has [] x = false
has (y ∷ ys) x = (eqb y.0 x.0 && eqb y.1 x.1) || has ys x

-- the first list has all of the second
abbrev pub all : List Place → List Place → Bool
all l [] = true
all l (x ∷ xs) = has l x && all l xs

-- and all that these bits need
abbrev pub shut : Module → List Place → List Place → Bool
shut m l [] = true
shut m l (x ∷ xs) = all l (bit_needs m x) && shut m l xs

both : (a b : Bool) → T (a && b) → T a × T b
both true b t = (tt, t)
both false b t = absurd t

has_in : (l k : List Place) (x : Place) → T (all l k) → In x k → T (has l x)
has_in l [] x t i = elim i [ ]
has_in l (y ∷ ys) x t (inl e) = subst (λ (z : Place). T (has l z)) (sym e) (both (has l y) (all l ys) t).0
has_in l (y ∷ ys) x t (inr i) = has_in l ys x (both (has l y) (all l ys) t).1 i

shut_at : (m : Module) (l k : List Place) (x : Place) → T (shut m l k) → T (has k x) → T (all l (bit_needs m x))
shut_at m l [] x t h = elim h [ ]
shut_at m l (y ∷ ys) x t h =
    let p = both (all l (bit_needs m y)) (shut m l ys) t in
    either (eqb y.0 x.0) (eqb y.1 x.1) (eqb→eq y.0 x.0) (eqb→eq y.1 x.1) p.0 (shut_at m l ys x p.1) h
  where
    either : (a b : Bool) → (T a → y.0 ≡ x.0) → (T b → y.1 ≡ x.1) → T (all l (bit_needs m y)) → (T (has ys x) → T (all l (bit_needs m x)))
        → T ((a && b) || has ys x) → T (all l (bit_needs m x))
    either true true f g n r h = subst (λ (z : Place). T (all l (bit_needs m z))) (λ i. (f tt i, g tt i)) n
    either true false f g n r h = r h
    either false b f g n r h = r h

pub needed_in : (m : Module) (l : List Place) → T (all l (starts m)) → T (shut m l l) → {x : Place} → Needed m x → T (has l x)
needed_in m l s t (start {x} i) = has_in l (starts m) x s i
needed_in m l s t (further {x} {y} n i) = has_in l (bit_needs m x) y (shut_at m l l x t (needed_in m l s t n)) i

pub needs_in : (m : Module) (l : List Place) (x : Place) → T (all l (bit_needs m x)) → T (shut m l l) → {y : Place} → Needs m x y → T (has l y)
needs_in m l x s t (once {y} i) = has_in l (bit_needs m x) y s i
needs_in m l x s t (through {y} {z} n i) = has_in l (bit_needs m y) z (shut_at m l l y t (needs_in m l x s t n)) i
