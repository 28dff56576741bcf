-- A hash index over a netlist's constants and gates, and one over its word cells, in 4 n lent words: heads and next nodes, heads and next cells.
-- Numbers in it count from 1, 0 is none. Assumes nothing.
use Rattle.std.specs.Prelude.{◌≡◌, Bool, true, false, cond, ◌&&◌, ◌||◌, List, [], ◌∷◌, reverse, ℕ, suc, ◌+◌, ◌*◌, ◌/◌, ◌%◌, ◌≤◌, ◌<◌, length, get_or, take, drop, eqb, ltb}
use Rattle.std.proofs.Math.Option.{Option, none, some}
use Rattle.spec_model.specs.Words.{absent, Node, used}
use Rattle.spec_model.specs.WordCells.{begins, find_cell}
use Rattle.net_view.specs.View.{netlist_of, Built}

-- the hash of words, below 2 ^ 32
unfoldable pub mixed : ℕ → ℕ → ℕ
mixed h x = (h * 2654435761 + x) % 4294967296

unfoldable pub hash_words : ℕ → List ℕ → ℕ
hash_words h [] = h
hash_words h (x ∷ xs) = hash_words (mixed h x) xs

-- the bucket of a hash, of m: by its high digits
unfoldable pub bucket_of : ℕ → ℕ → ℕ
bucket_of m h = h % 4294967296 * m / 4294967296

-- ---- constants and gates ----

unfoldable pub hash_node : ℕ → Node → ℕ
hash_node m x = bucket_of m (hash_words 0 (x.kind ∷ x.in0 ∷ x.in1 ∷ x.in2 ∷ x.owner ∷ []))

unfoldable pub is_gate : Node → Bool
is_gate x = ltb 0 x.kind && ltb x.kind 7

unfoldable pub in_bucket : ℕ → ℕ → Node → Bool
in_bucket m h y = is_gate y && eqb (hash_node m y) h

-- the newest node of bucket h
unfoldable pub newest : ℕ → ℕ → List Node → ℕ
newest m h [] = 0
newest m h (y ∷ ys) = cond (in_bucket m h y) (suc (length ys)) (newest m h ys)

-- each gate's word leads to the next older of its bucket
abbrev pub Chained : ℕ → List Node → List ℕ → Type 0
Chained m [] idx = Unit {0}
Chained m (y ∷ ys) idx = (is_gate y ≡ true → get_or idx (m + length ys) 0 ≡ newest m (hash_node m y) ys) × Chained m ys idx

pub record Indexed (m : ℕ) (ns : List Node) (idx : List ℕ) : Type 0 where
  pub heads : (h : ℕ) → h < m → get_or idx h 0 ≡ newest m h ns
  pub chained : Chained m ns idx

-- ---- word cells ----

unfoldable pub is_cell : List ℕ → Bool
is_cell r = eqb (get_or r 0 absent) 3 || eqb (get_or r 0 absent) 4

-- how many words a cell's key has
unfoldable pub key_length : List ℕ → ℕ
key_length r = cond (eqb (get_or r 0 absent) 3) (4 + 2 * get_or r 2 0) (3 + 2 * get_or r 2 0)

-- a whole key
pub record Key (k : List ℕ) : Type 0 where
  pub cell : is_cell k ≡ true
  pub long : length k ≡ key_length k
  pub some : 4 ≤ length k

unfoldable pub key_of : List ℕ → List ℕ
key_of r = take (key_length r) r

-- a cell's first output net
unfoldable pub first_output : List ℕ → ℕ
first_output r = get_or r (key_length r) 0

unfoldable pub hash_key : ℕ → List ℕ → ℕ
hash_key m k = bucket_of m (hash_words 0 k)

unfoldable pub cell_bucket : ℕ → ℕ → List ℕ → Bool
cell_bucket m h r = is_cell r && eqb (hash_key m (key_of r)) h

-- the list position of the newest cell of bucket h; the records are given the newest first
unfoldable pub newest_cell : ℕ → ℕ → List (List ℕ) → ℕ
newest_cell m h [] = 0
newest_cell m h (r ∷ rs) = cond (cell_bucket m h r) (suc (used rs)) (newest_cell m h rs)

-- the newest cell with a key
unfoldable pub find_newest : List ℕ → List (List ℕ) → Option (List ℕ)
find_newest k [] = none
find_newest k (r ∷ rs) = elim (begins k r) [ true ↦ some (drop (length k) r) | false ↦ find_newest k rs ]

-- a cell's first output is below k, and its word leads to the next older cell of its bucket
pub record Linked (m k : ℕ) (r : List ℕ) (rs : List (List ℕ)) (idx : List ℕ) : Type 0 where
  pub whole : key_length r < length r
  pub below : first_output r < k
  pub next : get_or idx (m + first_output r) 0 ≡ newest_cell m (hash_key m (key_of r)) rs

abbrev pub CellsChained : ℕ → ℕ → List (List ℕ) → List ℕ → Type 0
CellsChained m k [] idx = Unit {0}
CellsChained m k (r ∷ rs) idx = (is_cell r ≡ true → Linked m k r rs idx) × CellsChained m k rs idx

-- of a netlist with k nets and the records rs. No two cells have one key
pub record CellsIndexed (m k : ℕ) (rs : List (List ℕ)) (idx : List ℕ) : Type 0 where
  pub heads : (h : ℕ) → h < m → get_or idx h 0 ≡ newest_cell m h (reverse rs)
  pub chained : CellsChained m k (reverse rs) idx
  pub single : (key : List ℕ) → Key key → find_cell key rs ≡ find_newest key (reverse rs)

-- ---- what every call of the builder keeps ----

pub record Held (n : ℕ) (w idx : List ℕ) : Type 0 where
  pub built : Built n w
  pub sized : length idx ≡ 4 * n
  pub gates : Indexed n (netlist_of n w).nodes idx
  pub cells : CellsIndexed n (length (netlist_of n w).nodes) (netlist_of n w).records (drop (2 * n) idx)
