-- Shifts by stages of muxes. Assumes nothing.
use Rattle.std.specs.Prelude.{◌≡◌, refl, Bool, true, false, cond, ℕ, zero, suc, pred, ◌+◌, ◌-◌, ◌<◌, ltb, length, get_or}
use Rattle.std.proofs.Common.{sym, ◌∙◌, add_comm, add-zero, zero-add, arith}
use Rattle.std.proofs.Math.Path.{ap}
use mathlib.Core.List.{List, [], ◌∷◌, map}
use Rattle.std.proofs.Math.ListN.{length-map, get_or-map}
use Rattle.spec_rtl.specs.Ops.{tab, top, shl, shr}
use Rattle.spec_model.specs.Builder.{from}
use Rattle.spec_model.specs.Lowering.{Shift, LeftS, RightS, ArithmeticS, moved_down, shifted}
use Rattle.word_laws.specs.Runs.{length_from}
use Rattle.word_laws.specs.Widths.{AllBelow}
use Rattle.word_laws.specs.Shift.{tab_ext, stages_l, stages_r, stages_a}

-- ---- a word moved, and the nets of it ----

abbrev pub moved : Shift → ℕ → List Bool → List Bool
moved LeftS d a = shl a d
moved RightS d a = shr false a d
moved ArithmeticS d a = shr (top a) a d

from_tab : (f : ℕ → Bool) (b w : ℕ) → map f (from b w) ≡ tab w (λ i. f (b + i))
unfolding from
from_tab f b zero = refl
from_tab f b (suc w) =
    rw (add-zero b, from_tab f (suc b) w) (ap (λ (t : List Bool). f b ∷ t)
    (tab_ext w (λ i. f (suc b + i)) (λ i. f (b + suc i)) (λ i _. ap f (omega arith))))

pub map_from : (g : ℕ → Bool) (f : ℕ → ℕ) (w : ℕ) → map g (map f (from 0 w)) ≡ tab w (λ i. g (f i))
map_from g f w =
    join (from 0 w) ∙ from_tab (λ i. g (f i)) 0 w ∙ tab_ext w (λ i. g (f (0 + i))) (λ i. g (f i)) (λ i _. ap (λ (k : ℕ). g (f k)) (zero-add i))
  where
    join : (xs : List ℕ) → map g (map f xs) ≡ map (λ i. g (f i)) xs
    join [] = refl
    join (x ∷ xs) = rw (join xs)

pub map_down : (g : ℕ → Bool) (fill d : ℕ) (r : List ℕ) → map g (moved_down fill d r) ≡ shr (g fill) (map g r) d
map_down g fill d r =
    map_from g (λ i. get_or r (i + d) fill) (length r)
    ∙ rw (length-map r g) (tab_ext (length r) (λ i. g (get_or r (i + d) fill)) (λ i. get_or (map g r) (d + i) (g fill))
    (λ i _. sym (get_or-map g r (i + d) fill) ∙ ap (λ (k : ℕ). get_or (map g r) k (g fill)) (add_comm i d)))

get_or_below : (n : ℕ) (r : List ℕ) (z i : ℕ) → AllBelow n r → z < n → get_or r i z < n
get_or_below n [] z i b h = h
get_or_below n (x ∷ r) z zero b h = b.0
get_or_below n (x ∷ r) z (suc i) b h = get_or_below n r z i b.1 h

map_all : (n : ℕ) (f : ℕ → ℕ) (is : List ℕ) → ((i : ℕ) → f i < n) → AllBelow n (map f is)
map_all n f [] h = tt
map_all n f (i ∷ is) h = (h i, map_all n f is h)

pub shifted_below : (n : ℕ) (h : Shift) (z d : ℕ) (r : List ℕ) → z < n → AllBelow n r → AllBelow n (shifted h z d r)
shifted_below n LeftS z d r k b = map_all n (λ i. cond (ltb i d) z (get_or r (i - d) z)) (from 0 (length r)) (λ i. at i (ltb i d))
  where
    at : (i : ℕ) (t : Bool) → cond t z (get_or r (i - d) z) < n
    at i true = k
    at i false = get_or_below n r z (i - d) b k
shifted_below n RightS z d r k b = map_all n (λ i. get_or r (i + d) z) (from 0 (length r)) (λ i. get_or_below n r z (i + d) b k)
shifted_below n ArithmeticS z d r k b =
    map_all n (λ i. get_or r (i + d) (get_or r (pred (length r)) z)) (from 0 (length r))
    (λ i. get_or_below n r (get_or r (pred (length r)) z) (i + d) b (get_or_below n r z (pred (length r)) b k))

-- ---- stages ----

abbrev pub staged : Shift → ℕ → List Bool → List Bool → List Bool
staged LeftS k a n = stages_l k a n
staged RightS k a n = stages_r false k a n
staged ArithmeticS k a n = stages_a k a n

pub staged_nil : (h : Shift) (k : ℕ) (a : List Bool) → a ≡ staged h k a []
staged_nil LeftS k a = refl
staged_nil RightS k a = refl
staged_nil ArithmeticS k a = refl

pub length_shifted : (h : Shift) (z d : ℕ) (r : List ℕ) → length (shifted h z d r) ≡ length r
length_shifted LeftS z d r = length-map (from 0 (length r)) (λ i. cond (ltb i d) z (get_or r (i - d) z)) ∙ length_from 0 (length r)
length_shifted RightS z d r = length-map (from 0 (length r)) (λ i. get_or r (i + d) z) ∙ length_from 0 (length r)
length_shifted ArithmeticS z d r = length-map (from 0 (length r)) (λ i. get_or r (i + d) (get_or r (pred (length r)) z)) ∙ length_from 0 (length r)
