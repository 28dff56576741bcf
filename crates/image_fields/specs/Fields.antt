-- A field of a record, from the part of the image that begins at its section's offset.
use Rattle.std.specs.Prelude.{ℕ, zero, suc, ◌+◌, ◌*◌, ◌≤◌, ◌<◌, List, [], ◌∷◌, ◌≡◌, take, drop, get_or}
use Rattle.std.proofs.Common.{ap, ◌∙◌, mul-le-mul, le_of_lt, arith, get_or-take, get_or-drop, lit≤}
use Rattle.std.proofs.Math.ListN.{get_or-eq_default}
use Rattle.spec_rules.specs.Image.{word_at, size_of}

-- field f of record r of section k, whose part of the image is p
unfoldable pub field_in : List ℕ → ℕ → ℕ → ℕ → ℕ
field_in p k r f = word_at p (r * size_of k + f * 4)

-- a record has at most 108 bytes
pub size_most : (k : ℕ) → size_of k ≤ 108
unfolding size_of
size_most zero = lit≤ tt
size_most (suc zero) = lit≤ tt
size_most (suc (suc zero)) = lit≤ tt
size_most (suc (suc (suc zero))) = lit≤ tt
size_most (suc (suc (suc (suc zero)))) = lit≤ tt
size_most (suc (suc (suc (suc (suc zero))))) = lit≤ tt
size_most (suc (suc (suc (suc (suc (suc zero)))))) = lit≤ tt
size_most (suc (suc (suc (suc (suc (suc (suc k))))))) = lit≤ tt

pub size_none : (k : ℕ) → 7 ≤ k → size_of k ≡ 0
unfolding size_of
size_none k h = get_or-eq_default (16 ∷ 20 ∷ 4 ∷ 16 ∷ 48 ∷ 108 ∷ 1 ∷ []) 0 h

-- a 32-bit record number times a size is far below 2 ^ 64
pub scaled : (r n : ℕ) → r < 4294967296 → n ≤ 108 → r * n ≤ 463856467968
scaled r n hr hn = mul-le-mul (le_of_lt hr) hn

-- a byte, and the word, of the n bytes from a place on
pub byte_in : (s : List ℕ) (at n k j : ℕ) → k < n → at + k ≡ j → get_or (take n (drop at s)) k 0 ≡ get_or s j 0
byte_in s at n k j h e = get_or-take n (drop at s) k 0 h ∙ get_or-drop at s k 0 ∙ ap (λ (i : ℕ). get_or s i 0) e

pub word_in : (s : List ℕ) (at n k : ℕ) → k + 3 < n → word_at (take n (drop at s)) k ≡ word_at s (at + k)
unfolding word_at
word_in s at n k h = rw (
  byte_in s at n k (at + k) (omega arith) (omega arith),
  byte_in s at n (k + 1) (at + k + 1) (omega arith) (omega arith),
  byte_in s at n (k + 2) (at + k + 2) (omega arith) (omega arith),
  byte_in s at n (k + 3) (at + k + 3) (omega arith) (omega arith),
)
