-- Names: the rule of their bytes, the hash that tells unequal names apart, and what the search for a bad or equal name answers.
use Rattle.std.specs.Prelude.{ℕ, zero, suc, ◌+◌, ◌*◌, ◌%◌, ◌≤◌, ◌<◌, Bool, true, false, List, [], ◌∷◌, ◌≡◌, refl, fold, length, take, drop, get_or, set}
use Rattle.std.proofs.Common.{true≢false, sym, ap, ◌∙◌, arith, add-one, drop_of_length-le, length-set, drop-cons, get_or-set_same, get_or-set_other, ⊎_elim, eq-or-lt_of_le}
use Rattle.spec_tests.specs.Rules.{◌≡?◌, ◌or◌, outside, pick, up_to, first, any, same_text}
use Rattle.spec_tests.specs.Laws.{and_yes, and_miss, and_skip, lt_no, eq_yes, eq_no, yes_eq, no_eq}
use Rattle.spec_rules.specs.Image.{name_of}
use Rattle.spec_rules.specs.Checks.{bad_name, name_taken}

-- byte i of a name is no printing character
unfoldable pub bad_byte : List ℕ → ℕ → Bool
bad_byte t i = outside (get_or t i 0) 33 126

-- names of records j and r of section k are equal
unfoldable pub same_name : List ℕ → ℕ → ℕ → ℕ → Bool
same_name s k r j = same_text (name_of s k j) (name_of s k r)

-- the rule of names: a bad one, or one that an earlier record has
unfoldable pub wrong_name : List ℕ → ℕ → ℕ → Bool
wrong_name s k r = bad_name s k r or name_taken s k r

-- ---- hashes ----

unfoldable pub mixed : ℕ → ℕ → ℕ
mixed h b = (h * 16777619 + b) % 4294967296

unfoldable pub hash_from : ℕ → List ℕ → ℕ
hash_from h [] = h
hash_from h (b ∷ bs) = hash_from (mixed h b) bs

-- the hash of a name's first 64 bytes
unfoldable pub hash_at : List ℕ → ℕ → ℕ → ℕ
hash_at s k r = hash_from 0 (take 64 (name_of s k r))

pub hash_fold : (h : ℕ) (t : List ℕ) → fold mixed h t ≡ hash_from h t
unfolding hash_from
hash_fold h [] = refl
hash_fold h (b ∷ bs) = hash_fold (mixed h b) bs

pub hash_end : (h i : ℕ) (t : List ℕ) → length t ≤ i → hash_from h (drop i t) ≡ h
unfolding hash_from
hash_end h i t e = ap (hash_from h) (drop_of_length-le t e)

pub hash_more : (h i : ℕ) (t : List ℕ) → i < length t → hash_from h (drop i t) ≡ hash_from (mixed h (get_or t i 0)) (drop (i + 1) t)
unfolding hash_from
hash_more h i t e = rw (add-one, drop-cons t i 0)

-- ---- equal texts ----

pub same_equal : (a b : List ℕ) → same_text a b ≡ true → a ≡ b
unfolding same_text
same_equal [] [] e = refl
same_equal [] (b ∷ bs) e = absurd (true≢false (sym e))
same_equal (a ∷ as') [] e = absurd (true≢false (sym e))
same_equal (a ∷ as') (b ∷ bs) e = go (and_yes e) (same_equal as' bs)
  where
    go : ((a ≡? b) ≡ true) × (same_text as' bs ≡ true) → (same_text as' bs ≡ true → as' ≡ bs) → a ∷ as' ≡ b ∷ bs
    go p ih = let q = yes_eq a b p.0 in let r = ih p.1 in cc

pub same_length : (a b : List ℕ) → (length a ≡ length b → ⊥) → same_text a b ≡ false
same_length a b h = go (same_text a b) refl
  where
    go : (t : Bool) → same_text a b ≡ t → t ≡ false
    go true e = absurd (h (ap length (same_equal a b e)))
    go false e = refl

pub same_end : (a b : List ℕ) (i : ℕ) → length a ≡ length b → length a ≤ i → same_text (drop i a) (drop i b) ≡ true
unfolding same_text
same_end a b i e h =
    let x : drop i a ≡ [] = drop_of_length-le a h in
    let l : length b ≤ i = omega arith in
    let y : drop i b ≡ [] = drop_of_length-le b l in
    rw (x, y)

pub same_more : (a b : List ℕ) (i : ℕ) → i < length a → i < length b → get_or a i 0 ≡ get_or b i 0 → same_text (drop i a) (drop i b) ≡ same_text (drop (i + 1) a) (drop (i + 1) b)
unfolding same_text
same_more a b i ha hb e = rw (add-one, drop-cons a i 0, drop-cons b i 0) (sym (and_skip (eq_yes _ _ e) refl))

pub same_other : (a b : List ℕ) (i : ℕ) → i < length a → i < length b → (get_or a i 0 ≡ get_or b i 0 → ⊥) → same_text (drop i a) (drop i b) ≡ false
unfolding same_text
same_other a b i ha hb e = rw (drop-cons a i 0, drop-cons b i 0) (sym (and_miss _ (eq_no _ _ e)))

-- names with other hashes are not equal
pub other_hash : (s : List ℕ) (k r j : ℕ) → (hash_at s k j ≡ hash_at s k r → ⊥) → same_name s k r j ≡ false
unfolding same_name hash_at
other_hash s k r j h = go (same_text (name_of s k j) (name_of s k r)) refl
  where
    go : (t : Bool) → same_text (name_of s k j) (name_of s k r) ≡ t → t ≡ false
    go true e = absurd (h (ap (λ (t : List ℕ). hash_from 0 (take 64 t)) (same_equal _ _ e)))
    go false e = refl

-- word j is the hash of name j, for the first n records of section k
unfoldable pub Hashed : List ℕ → ℕ → ℕ → List ℕ → Type 0
Hashed s k n hs = (j : ℕ) → j < n → get_or hs j 0 ≡ hash_at s k j

pub hashed_none : (s : List ℕ) (k : ℕ) (hs : List ℕ) → Hashed s k 0 hs
unfolding Hashed
hashed_none s k hs j h = absurd (omega arith)

pub hashed_more : (s : List ℕ) (k i : ℕ) (hs : List ℕ) (v : ℕ) → i < length hs → v ≡ hash_at s k i → Hashed s k i hs → Hashed s k (i + 1) (set hs i v)
unfolding Hashed
hashed_more s k i hs v l e p j h = ⊎_elim (λ (q : j ≡ i). at q) (λ (q : j < i). before q) (eq-or-lt_of_le (omega arith))
  where
    at : j ≡ i → get_or (set hs i v) j 0 ≡ hash_at s k j
    at q = rw q (get_or-set_same hs i v 0 l ∙ e)

    before : j < i → get_or (set hs i v) j 0 ≡ hash_at s k j
    before q = get_or-set_other hs i j v 0 (λ (z : j ≡ i). omega arith) ∙ p j q

pub hashed_less : (s : List ℕ) (k i n : ℕ) (hs : List ℕ) → i ≤ n → Hashed s k n hs → Hashed s k i hs
unfolding Hashed
hashed_less s k i n hs l p j h = p j (omega arith)

pub hash_of : (s : List ℕ) (k n : ℕ) (hs : List ℕ) → Hashed s k n hs → (j : ℕ) → j < n → get_or hs j 0 ≡ hash_at s k j
unfolding Hashed
hash_of s k n hs p = p

-- a byte that is not 0 stands at the remainder of each of the first n hashes
unfoldable pub Seen : List ℕ → ℕ → ℕ → List ℕ → Type 0
Seen s k n seen = (j : ℕ) → j < n → get_or seen (hash_at s k j % length seen) 0 ≡ 0 → ⊥

pub seen_none : (s : List ℕ) (k : ℕ) (seen : List ℕ) → Seen s k 0 seen
unfolding Seen
seen_none s k seen j h = absurd (omega arith)

all_no : (p : ℕ → Bool) (i k : ℕ) → ((j : ℕ) → i ≤ j → j < i + k → p j ≡ false) → up_to p i k ≡ i + k
unfolding up_to pick
all_no p i zero h = omega arith
all_no p i (suc k) h = rw (h i (omega arith) (omega arith)) (omega (arith, all_no p (suc i) k (λ j l u. h j (omega arith) (omega arith))))

any_false : (p : ℕ → Bool) (n : ℕ) → ((j : ℕ) → j < n → p j ≡ false) → any p n ≡ false
unfolding any first
any_false p n h = lt_no _ _ (omega (arith, all_no p 0 n (λ j l u. h j (omega arith))))

-- record r, whose hash is v: a remainder that was not seen, so no earlier record has the name
pub unseen : (s : List ℕ) (k r : ℕ) (seen : List ℕ) (v : ℕ) → v ≡ hash_at s k r → Seen s k r seen → get_or seen (v % length seen) 0 ≡ 0 → name_taken s k r ≡ false
unfolding Seen name_taken same_name
unseen s k r seen v f p e = any_false _ r (λ j h. other_hash s k r j (λ q. p j h (ap (λ (x : ℕ). get_or seen (x % length seen) 0) (q ∙ sym f) ∙ e)))

one_more : (seen : List ℕ) (at x : ℕ) → at < length seen → (get_or seen x 0 ≡ 0 → ⊥) → get_or (set seen at 1) x 0 ≡ 0 → ⊥
one_more seen at x l o = go (x ≡? at) refl
  where
    go : (t : Bool) → (x ≡? at) ≡ t → get_or (set seen at 1) x 0 ≡ 0 → ⊥
    go true q z =
        let e : get_or (set seen at 1) x 0 ≡ 1 = ap (λ (i : ℕ). get_or (set seen at 1) i 0) (yes_eq x at q) ∙ get_or-set_same seen at 1 0 l in
        omega arith
    go false q z = o (sym (get_or-set_other seen at x 1 0 (no_eq x at q)) ∙ z)

-- it is seen now
pub seen_set : (s : List ℕ) (k r : ℕ) (seen : List ℕ) (v : ℕ) → v ≡ hash_at s k r → v % length seen < length seen → Seen s k r seen → Seen s k (r + 1) (set seen (v % length seen) 1)
unfolding Seen
seen_set s k r seen v e l p j h = rw (length-set seen (v % length seen) 1) (⊎_elim (λ (q : j ≡ r). now_seen q) (λ (q : j < r). one_more seen (v % length seen) _ l (p j q)) (eq-or-lt_of_le (omega arith)))
  where
    now_seen : j ≡ r → get_or (set seen (v % length seen) 1) (hash_at s k j % length seen) 0 ≡ 0 → ⊥
    now_seen q z =
        let same : hash_at s k j % length seen ≡ v % length seen = ap (λ (x : ℕ). x % length seen) (ap (hash_at s k) q ∙ sym e) in
        let one : get_or (set seen (v % length seen) 1) (hash_at s k j % length seen) 0 ≡ 1 = ap (λ (i : ℕ). get_or (set seen (v % length seen) 1) i 0) same ∙ get_or-set_same seen (v % length seen) 1 0 l in
        omega arith

-- or was before
pub seen_still : (s : List ℕ) (k r : ℕ) (seen : List ℕ) (v : ℕ) → v ≡ hash_at s k r → (get_or seen (v % length seen) 0 ≡ 0 → ⊥) → Seen s k r seen → Seen s k (r + 1) seen
unfolding Seen
seen_still s k r seen v e o p j h =
    ⊎_elim (λ (q : j ≡ r). λ z. o (ap (λ (x : ℕ). get_or seen (x % length seen) 0) (e ∙ ap (hash_at s k) (sym q)) ∙ z)) (λ (q : j < r). p j q) (eq-or-lt_of_le (omega arith))

-- ---- the search ----

pub taken_from : (s : List ℕ) (k r : ℕ) → name_taken s k r ≡ any (same_name s k r) r
unfolding name_taken same_name
taken_from s k r = refl
