-- How long the listing is at most: 140 bytes for each net and 81 for each list word, where no name has more than 64.
use Rattle.std.specs.Prelude.{ℕ, zero, suc, ◌+◌, ◌*◌, ◌/◌, ◌%◌, ◌^◌, max, ◌≤◌, ◌<◌, Bool, ◌≡◌, take, drop, get_or}
use Rattle.std.proofs.Math.Bool.{true, false}
use mathlib.Core.List.{List, [], ◌∷◌, ◌++◌, map}
use Rattle.std.proofs.Math.Path.{refl}
use Rattle.std.proofs.Common.{sym, ap, ◌∙◌, pow-suc, arith, length-drop, length-take, take-append-drop, get_or-drop, get_or-take}
use Rattle.std.proofs.Math.ListN.{length, length-append, get_or-eq_default}
use Rattle.spec_tests.specs.Rules.{◌<?◌, ◌≡?◌, ◌or◌, pick, each, list_of, Fine, Refused}
use Rattle.spec_tests.specs.Laws.{lt_yes, yes_lt, no_lt, yes_eq}
use Rattle.spec_rules.specs.Image.{absent, name_of}
use Rattle.spec_rules.specs.NetlistImage.{node_word, record_length, split, records_of}
use Rattle.spec_rules.specs.Listing.{text, digits, decimal, line, together, kind_word, bit_name, signal_name, register_name, memory_name, owned, inputs, net_line, record_line, listing}
use Rattle.listing_text.specs.Text.{spaced, line_spaced}
use Rattle.listing_nets.specs.Pieces.{first_line, net_line_law, first_line_law}
use Rattle.listing_records.specs.Split.{record_some}
use Rattle.listing_whole.specs.Whole.{refusal}

-- ---- numbers ----

digits_short : (f k n : ℕ) → n < 10 ^ suc k → length (digits f n) ≤ suc k
unfolding digits pick
digits_short zero k n h = omega arith
digits_short (suc f) zero n h =
    let l : n < 10 = h in
    rw (lt_yes n 10 l) (omega arith)
digits_short (suc f) (suc k) n h = go (n <? 10) (digits_short f k (n / 10) (omega (arith, pow-suc 10 (suc k))))
  where
    go : (b : Bool) → length (digits f (n / 10)) ≤ suc k → length (pick b ((48 + n) ∷ []) (digits f (n / 10) ++ ((48 + n % 10) ∷ []))) ≤ suc (suc k)
    go true i = omega arith
    go false i = rw length-append (omega arith)

-- a word is below 2 ^ 32
abbrev pub Small : ℕ → Type 0
Small n = n < 4294967296

abbrev pub AllSmall : List ℕ → Type 0
AllSmall l = (i : ℕ) → Small (get_or l i 0)

decimal_short : (n : ℕ) → Small n → length (decimal n) ≤ 10
unfolding decimal
decimal_short n h =
    let b : n < 10 ^ 10 = omega arith in
    digits_short (suc n) 9 n b

-- ---- words behind spaces ----

spaced_more : (w : List ℕ) (ws : List (List ℕ)) → length (spaced (w ∷ ws)) ≡ suc (length w) + length (spaced ws)
unfolding spaced
spaced_more w ws = length-append (32 ∷ w) (spaced ws)

spaced_none : length (spaced []) ≡ 0
unfolding spaced
spaced_none = refl

line_length : (w : List ℕ) (ws : List (List ℕ)) → length (line (w ∷ ws)) ≡ length w + length (spaced ws) + 1
line_length w ws = ap length (line_spaced w ws) ∙ length-append w (spaced ws ++ (10 ∷ [])) ∙ omega (arith, length-append (spaced ws) (10 ∷ []))

numbers_short : (ns : List ℕ) → AllSmall ns → length (spaced (map decimal ns)) ≤ 11 * length ns
numbers_short [] h = omega (arith, spaced_none)
numbers_short (n ∷ ns) h = omega (arith, spaced_more (decimal n) (map decimal ns), decimal_short n (h 0), numbers_short ns (λ i. h (suc i)))

inputs_short : (ns : List ℕ) → AllSmall ns → length (spaced (inputs ns)) ≤ 11 * length ns
unfolding inputs pick
inputs_short [] h = omega (arith, spaced_none)
inputs_short (n ∷ ns) h = go (n ≡? absent) (inputs_short ns (λ i. h (suc i)))
  where
    go : (t : Bool) → length (spaced (inputs ns)) ≤ 11 * length ns → length (spaced (pick t [] (decimal n ∷ inputs ns))) ≤ 11 * suc (length ns)
    go true i = omega (arith, spaced_none)
    go false i = omega (arith, spaced_more (decimal n) (inputs ns), decimal_short n (h 0))

-- ---- a word of a table ----

abbrev longest : List (List ℕ) → ℕ
longest [] = 0
longest (w ∷ ws) = max (length w) (longest ws)

table_short : (ws : List (List ℕ)) (k : ℕ) → length (get_or ws k []) ≤ longest ws
table_short [] k = omega arith
table_short (w ∷ ws) zero = omega arith
table_short (w ∷ ws) (suc k) = omega (arith, table_short ws k)

abbrev kind_words : List (List ℕ)
kind_words = text "input" ∷ text "constant" ∷ text "and" ∷ text "or" ∷ text "xor" ∷ text "not" ∷ text "mux" ∷ text "registeroutput"
    ∷ text "output" ∷ text "memoryoutput" ∷ text "arithmeticoutput" ∷ text "comparisonoutput" ∷ []

kind_short : (k : ℕ) → length (kind_word k) ≤ 16
unfolding kind_word
kind_short k = table_short kind_words k

abbrev record_words : List (List ℕ)
record_words = [] ∷ text "register" ∷ text "memory" ∷ text "arithmetic" ∷ text "comparison" ∷ []

-- ---- names ----

choose : {A : Type 0} (P : A → Type 0) (t : Bool) (a b : A) → (t ≡ true → P a) → (t ≡ false → P b) → P (pick t a b)
unfolding pick
choose P true a b f g = f refl
choose P false a b f g = g refl

bit_short : (name : List ℕ) (w bit : ℕ) → Small bit → length name ≤ 66 → length (bit_name name w bit) ≤ 78
unfolding bit_name
bit_short name w bit h l =
    choose (λ (t : List ℕ). length t ≤ 78) (w ≡? 1) _ _ (λ _. omega arith)
    (λ _. omega (arith, length-append name (text "[" ++ (decimal bit ++ text "]")), length-append (decimal bit) (text "]"), decimal_short bit h))

-- the names that a node of kind k and its owner is printed with have at most 64 bytes
pub record Named (s : List ℕ) (k owner : ℕ) : Type 0 where
  pub input : k ≡ 0 → length (name_of s 0 owner) ≤ 64
  pub output : k ≡ 8 → length (name_of s 0 owner) ≤ 64
  pub register : k ≡ 7 → length (name_of s 4 owner) ≤ 64
  pub memory : k ≡ 9 → length (name_of s 5 owner) ≤ 64

module _ (s : List ℕ) (k owner bit : ℕ) (named : Named s k owner) (so : Small owner) (sb : Small bit) where
  either : (k ≡? 0 or k ≡? 8) ≡ true → length (name_of s 0 owner) ≤ 64
  unfolding ◌or◌
  either e = go (k ≡? 0) refl e
    where
      go : (t : Bool) → (k ≡? 0) ≡ t → (t or k ≡? 8) ≡ true → length (name_of s 0 owner) ≤ 64
      go true q z = named.input (yes_eq k 0 q)
      go false q z = named.output (yes_eq k 8 z)

  one : (w : List ℕ) → length w ≤ 78 → length (spaced (w ∷ [])) ≤ 79
  one w h = omega (arith, spaced_more w [], spaced_none)

  signal_short : (k ≡? 0 or k ≡? 8) ≡ true → length (signal_name s owner bit) ≤ 78
  unfolding signal_name
  signal_short e = bit_short _ _ bit sb (omega (arith, either e))

  register_short : k ≡ 7 → length (register_name s owner bit) ≤ 78
  unfolding register_name
  register_short e = bit_short _ _ bit sb (omega (arith, named.register e))

  memory_short : k ≡ 9 → length (memory_name s owner bit) ≤ 78
  unfolding memory_name
  memory_short e =
      choose (λ (t : List ℕ). length t ≤ 78) _ _ _ (λ _. bit_short _ _ bit sb (omega (arith, named.memory e)))
      (λ _. bit_short _ _ _ (omega arith) (omega (arith, named.memory e, length-append (name_of s 5 owner) (text "_b"))))

  owned_short : length (spaced (owned s k owner bit)) ≤ 79
  unfolding owned
  owned_short =
      let P : List (List ℕ) → Type 0 = λ ws. length (spaced ws) ≤ 79 in
      choose P _ _ _ (λ e. one _ (signal_short e))
      (λ _. choose P _ _ _ (λ _. one _ (omega (arith, decimal_short owner so)))
      (λ _. choose P _ _ _ (λ e. one _ (register_short (yes_eq k 7 e)))
      (λ _. choose P _ _ _ (λ e. one _ (memory_short (yes_eq k 9 e)))
      (λ _. choose P _ _ _ (λ _. omega (arith, spaced_more (decimal owner) (decimal bit ∷ []), spaced_more (decimal bit) [], spaced_none, decimal_short owner so, decimal_short bit sb))
      (λ _. omega (arith, spaced_none))))))

-- ---- net lines ----

net_line_short : (s ws : List ℕ) (n : ℕ) → AllSmall ws → Small n → Named s (node_word ws n 0) (node_word ws n 1) → length (net_line s ws n) ≤ 140
unfolding node_word
net_line_short s ws n small h named =
    let k = kind_word (node_word ws n 0) in
    let a = spaced (owned s (node_word ws n 0) (node_word ws n 1) (node_word ws n 2)) in
    let b = spaced (inputs (node_word ws n 3 ∷ node_word ws n 4 ∷ node_word ws n 5 ∷ [])) in
    let e = ap length (net_line_law s ws n) in
    let e₁ = length-append (decimal n) ((32 ∷ k) ++ (a ++ (b ++ (10 ∷ [])))) in
    let e₂ = length-append (32 ∷ k) (a ++ (b ++ (10 ∷ []))) in
    let e₃ = length-append a (b ++ (10 ∷ [])) in
    let e₄ = length-append b (10 ∷ []) in
    let h₁ = decimal_short n h in
    let h₂ = kind_short (node_word ws n 0) in
    let h₃ = owned_short s (node_word ws n 0) (node_word ws n 1) (node_word ws n 2) named (small _) (small _) in
    let h₄ = inputs_short (node_word ws n 3 ∷ node_word ws n 4 ∷ node_word ws n 5 ∷ []) three in
    omega arith
  where
    three : AllSmall (node_word ws n 3 ∷ node_word ws n 4 ∷ node_word ws n 5 ∷ [])
    three zero = small _
    three (suc zero) = small _
    three (suc (suc zero)) = small _
    three (suc (suc (suc i))) = omega arith

each_short : (f : ℕ → List ℕ) (c i n : ℕ) → ((j : ℕ) → j < i + n → length (f j) ≤ c) → length (together (each f i n)) ≤ n * c
unfolding each together
each_short f c i zero h = omega arith
each_short f c i (suc n) h =
    omega (arith, length-append (f i) (together (each f (suc i) n)), h i (omega arith), each_short f c (suc i) n (λ j l. h j (omega arith)))

-- ---- record lines ----

-- the name that a port's record is printed with has at most 64 bytes
abbrev pub PortNamed : List ℕ → List ℕ → Type 0
PortNamed s r = get_or r 0 0 ≡ 0 → length (name_of s 0 (get_or r 1 0)) ≤ 64

abbrev pub PortsNamed : List ℕ → List (List ℕ) → Type 0
PortsNamed s [] = Unit {0}
PortsNamed s (r ∷ rs) = PortNamed s r × PortsNamed s rs

small_drop : (n : ℕ) (l : List ℕ) → AllSmall l → AllSmall (drop n l)
small_drop n l h i = rw (get_or-drop n l i 0) (h (n + i))

small_take : (n : ℕ) (l : List ℕ) → AllSmall l → AllSmall (take n l)
small_take n l h i = go (i <? n) refl
  where
    go : (t : Bool) → (i <? n) ≡ t → Small (get_or (take n l) i 0)
    go true e = rw (get_or-take n l i 0 (yes_lt i n e)) (h i)
    go false e = rw (get_or-eq_default (take n l) 0 {n = i} (omega (arith, no_lt i n e, length-take n l))) (omega arith)

record_short : (s r : List ℕ) → AllSmall r → PortNamed s r → 1 ≤ length r → length (record_line s r) ≤ 81 * length r
unfolding record_line
record_short s r small named h =
    choose (λ (t : List ℕ). length t ≤ 81 * length r) _ _ _
    (λ e. let ns = map decimal (drop 3 r) in omega (
      arith,
      line_length (text "port") (name_of s 0 (get_or r 1 0) ∷ ns),
      spaced_more (name_of s 0 (get_or r 1 0)) ns,
      named (yes_eq (get_or r 0 0) 0 e),
      numbers_short (drop 3 r) (small_drop 3 r small),
      length-drop 3 r,
    ))
    (λ _. omega (
      arith,
      line_length (get_or record_words (get_or r 0 0) []) (map decimal (drop 1 r)),
      table_short record_words (get_or r 0 0),
      numbers_short (drop 1 r) (small_drop 1 r small),
      length-drop 1 r,
    ))

records_short : (s : List ℕ) (n : ℕ) (l : List ℕ) → AllSmall l → PortsNamed s (split n l) → length (together (map (record_line s) (split n l))) ≤ 81 * length l
unfolding split together
records_short s zero l small named = omega arith
records_short s (suc n) [] small named = omega arith
records_short s (suc n) (x ∷ l) small named =
    let k = record_length (x ∷ l) in
    let r = take k (x ∷ l) in
    let rest = drop k (x ∷ l) in
    let p = record_some (x ∷ l) (omega arith) in
    let a = length-take k (x ∷ l) in
    let e : length r + length rest ≡ length (x ∷ l) = sym (length-append r rest) ∙ ap length (take-append-drop k (x ∷ l)) in
    let h = record_short s r (small_take k (x ∷ l) small) named.0 (omega arith) in
    let i = records_short s n rest (small_drop k (x ∷ l) small) named.1 in
    let z = length-append (record_line s r) (together (map (record_line s) (split n rest))) in
    omega arith

-- ---- the whole ----

first_short : (ws : List ℕ) → AllSmall ws → length (first_line ws) ≤ 32
first_short ws small =
    let a = decimal (get_or ws 1 0) in
    let b = decimal (get_or ws 3 0) in
    let e = ap length (first_line_law ws) in
    let f = length-append (32 ∷ a) ((32 ∷ text "list") ++ ((32 ∷ b) ++ (10 ∷ []))) in
    let g = length-append (32 ∷ b) (10 ∷ []) in
    omega (arith, decimal_short (get_or ws 1 0) (small 1), decimal_short (get_or ws 3 0) (small 3))

pub refusal_short : (n a b : ℕ) (s ws : List ℕ) → Small n → Small a → Small b → length (listing s (Refused n a b) ws) ≤ 41
refusal_short n a b s ws h i j =
    let e = ap length (refusal n a b s ws) in
    let f = length-append (32 ∷ decimal n) ((32 ∷ decimal a) ++ ((32 ∷ decimal b) ++ (10 ∷ []))) in
    let g = length-append (32 ∷ decimal a) ((32 ∷ decimal b) ++ (10 ∷ [])) in
    let k = length-append (32 ∷ decimal b) (10 ∷ []) in
    omega (arith, decimal_short n h, decimal_short a i, decimal_short b j)

pub listing_short : (s ws : List ℕ) → AllSmall ws → ((n : ℕ) → n < get_or ws 1 0 → Named s (node_word ws n 0) (node_word ws n 1)) → PortsNamed s (records_of ws)
    → length (listing s Fine ws) ≤ 32 + (get_or ws 1 0 * 140 + 81 * get_or ws 3 0)
unfolding listing list_of records_of first_line
listing_short s ws small nets ports =
    let l = take (get_or ws 3 0) (drop (get_or ws 4 0) ws) in
    let a = together (each (net_line s ws) 0 (get_or ws 1 0)) in
    let b = together (map (record_line s) (split (get_or ws 3 0) l)) in
    let e = length-append (first_line ws) (a ++ b) in
    let f = length-append a b in
    let h = first_short ws small in
    let i : length a ≤ get_or ws 1 0 * 140 = each_short (net_line s ws) 140 0 (get_or ws 1 0) (λ j q. net_line_short s ws j small (omega (arith, small 1)) (nets j (omega arith))) in
    let j : length b ≤ 81 * length l = records_short s (get_or ws 3 0) l (small_take (get_or ws 3 0) (drop (get_or ws 4 0) ws) (small_drop (get_or ws 4 0) ws small)) ports in
    let k = length-take (get_or ws 3 0) (drop (get_or ws 4 0) ws) in
    omega arith
