-- The operators of IEEE 1800 on two-valued words. Bit 0 stands first. Assumes nothing.
use Rattle.std.specs.Prelude.{Bool, true, false, not, cond, ◌&&◌, ◌||◌, ℕ, zero, suc, pred, ◌+◌, ◌*◌, ◌-◌, ◌^◌, eqb, ltb, leb, length, take, drop, get_or, ℤ, pos, ◌-ℤ◌}
use mathlib.Core.List.{List, [], ◌∷◌, ◌++◌, map, foldr}
use Rattle.std.specs.Int.Signed.{lt_z, le_z}
use Rattle.spec_rtl.specs.Word.{bit, value, bits}

abbrev pub xor_b : Bool → Bool → Bool
xor_b true b = not b
xor_b false b = b

abbrev pub map2 : (Bool → Bool → Bool) → List Bool → List Bool → List Bool
map2 f [] b = []
map2 f (x ∷ a) [] = []
map2 f (x ∷ a) (y ∷ b) = f x y ∷ map2 f a b

-- the word of width w with bit i at i
abbrev pub tab : ℕ → (ℕ → Bool) → List Bool
tab zero f = []
tab (suc w) f = f zero ∷ tab w (λ i. f (suc i))

abbrev pub top : List Bool → Bool
top a = get_or a (pred (length a)) false

-- the number of a word in two's complement
abbrev pub signed : List Bool → ℤ
signed a = pos (value a) -ℤ pos (cond (top a) (2 ^ length a) 0)

abbrev pub not_w : List Bool → List Bool
not_w a = map not a

abbrev pub and_w : List Bool → List Bool → List Bool
and_w a b = map2 ◌&&◌ a b

abbrev pub or_w : List Bool → List Bool → List Bool
or_w a b = map2 ◌||◌ a b

abbrev pub xor_w : List Bool → List Bool → List Bool
xor_w a b = map2 xor_b a b

abbrev pub add_w : List Bool → List Bool → List Bool
add_w a b = bits (length a) (value a + value b)

abbrev pub add_c : List Bool → List Bool → Bool → List Bool
add_c a b c = bits (length a) (value a + value b + bit c)

abbrev pub sub_w : List Bool → List Bool → List Bool
sub_w a b = bits (length a) (value a + (2 ^ length a - value b))

abbrev pub mul_w : List Bool → List Bool → List Bool
mul_w a b = bits (length a) (value a * value b)

abbrev pub eq_w : List Bool → List Bool → Bool
eq_w a b = eqb (value a) (value b)

abbrev pub lt_u : List Bool → List Bool → Bool
lt_u a b = ltb (value a) (value b)

abbrev pub le_u : List Bool → List Bool → Bool
le_u a b = leb (value a) (value b)

abbrev pub lt_s : List Bool → List Bool → Bool
lt_s a b = lt_z (signed a) (signed b)

abbrev pub le_s : List Bool → List Bool → Bool
le_s a b = le_z (signed a) (signed b)

-- bit i of a word moved up by n places is false below n, else bit i - n
abbrev pub shl : List Bool → ℕ → List Bool
shl a n = tab (length a) (λ i. cond (ltb i n) false (get_or a (i - n) false))

-- bit i of a word moved down by n places is bit n + i, and what is shifted in beyond the top
abbrev pub shr : Bool → List Bool → ℕ → List Bool
shr fill a n = tab (length a) (λ i. get_or a (n + i) fill)

abbrev pub any_r : List Bool → Bool
any_r a = foldr ◌||◌ false a

abbrev pub all_r : List Bool → Bool
all_r a = foldr ◌&&◌ true a

abbrev pub par_r : List Bool → Bool
par_r a = foldr xor_b false a

-- the first part is the most significant
abbrev pub join_w : List (List Bool) → List Bool
join_w [] = []
join_w (p ∷ ps) = join_w ps ++ p

abbrev pub slice_w : ℕ → ℕ → List Bool → List Bool
slice_w lsb w a = take w (drop lsb a)
