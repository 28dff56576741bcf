-- Nets beside the bits that they stand at: bits b, b + 1, .. of something. Assumes nothing.
use Rattle.std.specs.Prelude.{◌≡◌, refl, ◌⊎◌, List, [], ◌∷◌, ◌++◌, map, ℕ, zero, suc, ◌+◌, ◌≤◌, ◌<◌, length, get_or, take, drop, set}
use Rattle.std.proofs.Common.{sym, ap, subst, ◌∙◌, inl, inr, add-zero, zero-add, arith, get_or-set_same, get_or-set_other}
use Rattle.std.proofs.Math.Option.{Option, none, some}
use Rattle.std.proofs.Math.Decide.{ℕ_discrete, dec_lt}
use Rattle.std.proofs.Math.ListN.{get_elem?}
use Rattle.std.proofs.lemmas.List.Edits.{sets}
use Rattle.std.proofs.Math.Seq.{set_out}
use Rattle.spec_model.specs.Lowering.{net_of}
use Rattle.law_walk.specs.Tables.{none_some, some_eq, has_none, Known, known_tail, known_next}

abbrev pub Along : {A : Type 0} → (ℕ → A → Type 0) → ℕ → List A → Type 0
Along P b [] = Unit {0}
Along P b (n ∷ ns) = P b n × Along P (suc b) ns

pub along_map : {A : Type 0} (P Q : ℕ → A → Type 0) → ((b : ℕ) (n : A) → P b n → Q b n) → (b : ℕ) (ns : List A) → Along P b ns → Along Q b ns
along_map P Q f b [] a = tt
along_map P Q f b (n ∷ ns) a = (f b n a.0, along_map P Q f (suc b) ns a.1)

-- the bits are those from b on, as many as there are
pub along_within : {A : Type 0} (P : ℕ → A → Type 0) (b : ℕ) (ns : List A) → Along P b ns → Along (λ j n. (b ≤ j) × (j < b + length ns) × P j n) b ns
along_within {A} P b ns a = go b ns (omega arith) (omega arith) a
  where
    go : (c : ℕ) (ks : List A) → b ≤ c → c + length ks ≤ b + length ns → Along P c ks → Along (λ j n. (b ≤ j) × (j < b + length ns) × P j n) c ks
    go c [] h k a = tt
    go c (n ∷ ks) h k a = ((omega arith, omega arith, a.0), go (suc c) ks (omega arith) (omega arith) a.1)

-- at most one net stands at a bit
abbrev pub Single : {A : Type 0} → (ℕ → A → Type 0) → Type 0
Single {A} P = (b : ℕ) (n k : A) → P b n → P b k → n ≡ k

pub along_same : {A : Type 0} (P : ℕ → A → Type 0) → Single P → (b : ℕ) (ns ks : List A) → length ns ≡ length ks → Along P b ns → Along P b ks → ns ≡ ks
along_same P s b [] [] l x y = refl
along_same P s b [] (k ∷ ks) l x y = absurd (omega arith)
along_same P s b (n ∷ ns) [] l x y = absurd (omega arith)
along_same P s b (n ∷ ns) (k ∷ ks) l x y = rw (s b n k x.0 y.0, along_same P s (suc b) ns ks (omega arith) x.1 y.1)

pub along_at : {A : Type 0} (P : ℕ → A → Type 0) (b : ℕ) (ns : List A) (i : ℕ) (n : A) → get_elem? ns i ≡ some n → Along P b ns → P (b + i) n
along_at P b [] i n e a = absurd (none_some e)
along_at P b (k ∷ ns) zero n e a = let q : k ≡ n = some_eq e in rw (add-zero b, ← q) a.0
along_at P b (k ∷ ns) (suc i) n e a = let q : b + suc i ≡ suc b + i = omega arith in rw q (along_at P (suc b) ns i n e a.1)

pub along_all : {A : Type 0} (P : ℕ → A → Type 0) (b : ℕ) (ns : List A) → ((i : ℕ) (n : A) → get_elem? ns i ≡ some n → P (b + i) n) → Along P b ns
along_all P b [] h = tt
along_all P b (n ∷ ns) h =
    (subst (λ (i : ℕ). P i n) (add-zero b) (h 0 n refl), along_all P (suc b) ns (λ i k e. let q : suc b + i ≡ b + suc i = omega arith in rw q (h (suc i) k e)))

-- from bit 0 on
pub along_get : {A : Type 0} (P : ℕ → A → Type 0) (ns : List A) (i : ℕ) (n : A) → get_elem? ns i ≡ some n → Along P 0 ns → P i n
along_get P ns i n e a = subst (λ (j : ℕ). P j n) (zero-add i) (along_at P 0 ns i n e a)

pub along_whole : {A : Type 0} (P : ℕ → A → Type 0) (ns : List A) → ((i : ℕ) (n : A) → get_elem? ns i ≡ some n → P i n) → Along P 0 ns
along_whole P ns h = along_all P 0 ns (λ i n e. subst (λ (j : ℕ). P j n) (sym (zero-add i)) (h i n e))

-- the same bits, numbered from c on
pub along_from : {A : Type 0} (P : ℕ → A → Type 0) (c b : ℕ) (ns : List A) → Along P (c + b) ns → Along (λ i n. P (c + i) n) b ns
along_from P c b [] a = tt
along_from P c b (n ∷ ns) a = (a.0, along_from P c (suc b) ns (let q : c + suc b ≡ suc (c + b) = omega arith in rw q a.1))

pub along_back : {A : Type 0} (P : ℕ → A → Type 0) (c b : ℕ) (ns : List A) → Along (λ i n. P (c + i) n) b ns → Along P (c + b) ns
along_back P c b [] a = tt
along_back P c b (n ∷ ns) a = (a.0, let q : suc (c + b) ≡ c + suc b = omega arith in rw q (along_back P c (suc b) ns a.1))

pub along_append : {A : Type 0} (P : ℕ → A → Type 0) (b : ℕ) (ns ks : List A) → Along P b ns → Along P (b + length ns) ks → Along P b (ns ++ ks)
along_append P b [] ks x y = subst (λ (i : ℕ). Along P i ks) (add-zero b) y
along_append P b (n ∷ ns) ks x y = (x.0, along_append P (suc b) ns ks x.1 (let q : suc b + length ns ≡ b + suc (length ns) = omega arith in rw q y))

pub along_take : {A : Type 0} (P : ℕ → A → Type 0) (b k : ℕ) (ns : List A) → Along P b ns → Along P b (take k ns)
along_take P b zero ns a = tt
along_take P b (suc k) [] a = tt
along_take P b (suc k) (n ∷ ns) a = (a.0, along_take P (suc b) k ns a.1)

pub along_drop : {A : Type 0} (P : ℕ → A → Type 0) (b k : ℕ) (ns : List A) → Along P b ns → Along P (b + k) (drop k ns)
along_drop P b zero ns a = subst (λ (i : ℕ). Along P i ns) (sym (add-zero b)) a
along_drop P b (suc k) [] a = tt
along_drop P b (suc k) (n ∷ ns) a = let q : b + suc k ≡ suc b + k = omega arith in rw q (along_drop P (suc b) k ns a.1)

pub along_slice : {A : Type 0} (P : ℕ → A → Type 0) (lsb w : ℕ) (ns : List A) → Along P 0 ns → Along P lsb (take w (drop lsb ns))
along_slice P lsb w ns a = along_take P lsb w (drop lsb ns) (subst (λ (j : ℕ). Along P j (drop lsb ns)) (zero-add lsb) (along_drop P 0 lsb ns a))

-- ---- rows ----

abbrev pub Cell : List (Option ℕ) → ℕ → ℕ → Type 0
Cell row b n = get_or row b none ≡ some n

cells_next : (o : Option ℕ) (row : List (Option ℕ)) (b : ℕ) (ns : List ℕ) → Along (Cell row) b ns → Along (Cell (o ∷ row)) (suc b) ns
cells_next o row b [] a = tt
cells_next o row b (n ∷ ns) a = (a.0, cells_next o row (suc b) ns a.1)

-- a stretch of a row that is known
pub row_along : (row : List (Option ℕ)) (lsb w : ℕ) → lsb + w ≤ length row → Known row lsb w → Along (Cell row) lsb (map net_of (take w (drop lsb row)))
row_along row zero zero h k = tt
row_along [] (suc lsb) w h k = absurd (omega arith)
row_along (o ∷ row) (suc lsb) w h k = cells_next o row lsb (map net_of (take w (drop lsb row))) (row_along row lsb w (omega arith) (known_tail k))
row_along [] zero (suc w) h k = absurd (omega arith)
row_along (none ∷ row) zero (suc w) h k = absurd (has_none (k.known 0 (omega arith) (omega arith)))
row_along (some n ∷ row) zero (suc w) h k = (refl, cells_next (some n) row 0 (map net_of (take w row)) (row_along row 0 w (omega arith) (known_next k)))

-- a stretch written: what is there after it was there, or is new
pub written : (P : ℕ → ℕ → Type 0) (ns : List ℕ) (row : List (Option ℕ)) (i : ℕ) → Along P i ns → (b k : ℕ) → get_or (sets row i (map some ns)) b none ≡ some k → (Cell row b k) ⊎ (P b k)
written P [] row i a b k e = inl e
written P (n ∷ ns) row i a b k e = go (written P ns (set row i (some n)) (suc i) a.1 b k e)
  where
    at : Dec (b ≡ i) → Dec (i < length row) → get_or (set row i (some n)) b none ≡ some k → (Cell row b k) ⊎ (P b k)
    at (yes p) (yes h) q = let r : n ≡ k = some_eq (sym (get_or-set_same row i (some n) none h) ∙ ap (λ (x : ℕ). get_or (set row i (some n)) x none) (sym p) ∙ q) in inr (rw (p, ← r) a.0)
    at (yes p) (no h) q = let f : length row ≤ i = omega arith in inl (rw (set_out row i (some n) f) at q)
    at (no p) d q = inl (sym (get_or-set_other row i b (some n) none p) ∙ q)

    go : (get_or (set row i (some n)) b none ≡ some k) ⊎ (P b k) → (Cell row b k) ⊎ (P b k)
    go (inl q) = at (ℕ_discrete b i) (dec_lt i (length row)) q
    go (inr p) = inr p
