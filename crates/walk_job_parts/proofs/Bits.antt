-- The bits of a constant by its list words; a list filled bit by bit. Assumes nothing.
use mathlib.Core.Path.{◌≡◌, refl, sym, ap, ◌∙◌}
use mathlib.Core.Bool.{Bool, true, false}
use mathlib.Core.List.{List, ◌++◌}
use Prim.Native.Nat.{ℕ, zero, suc, ◌+◌, ◌*◌, ◌-◌, ◌^◌, ◌/◌, ◌%◌, ◌≤◌, ◌<◌, min}
use native.Mathlib.Nat.{div-one, mod-mod, le_of_suc-le-suc, not-suc-le-zero}
use native.Mathlib.Omega.{arith}
use borrow.Author.Tests.{eqb-true, eqb-false, leb-true, leb-false}
use lib.Dec.{eqb, leb}
use lib.ListN.{length, get_or, set, take, drop, length-set, length-map, length-drop, get_or-map}
use lib.Pow.{high, field, shr-shr}
use lib.Seq.{length-take-le, take_all, get_or-set_same, get_or-set_other, get_or-take, get_or-drop, ext_get_or}
use Rattle.spec_rtl.specs.Word.{odd, bits, length_bits, bits_eq}
use Rattle.spec_rules.specs.Image.{list_word, constant_words, constant_of}
use Rattle.net_fold.specs.Digits.{held}
use Rattle.spec_model.specs.Words.{Netlist}
use Rattle.spec_model.specs.Builder.{each, add_constant}
use Rattle.net_fold.specs.Values.{Fills}
use Rattle.std.specs.Prelude.{Result}
use Rattle.net_nodes.specs.declared.Full.{Full}
use Rattle.op_bits.proofs.Laws.{list_by}
use Rattle.expr_constants.specs.Constants.{Bytes, word_lt, front, front_lt, last_word}
use Rattle.walk_job_parts.proofs.Lent.{back_whole}

-- ---- bit i of a constant ----

pub bits_at_law : (v n i : ℕ) → i < v → get_or (bits v n) i false ≡ odd (n / 2 ^ i)
bits_at_law zero n i h = absurd (not-suc-le-zero h)
bits_at_law (suc v) n zero h = ap odd (sym (div-one n))
bits_at_law (suc v) n (suc i) h = bits_at_law v (n / 2) i (le_of_suc-le-suc h) ∙ ap odd (shr-shr n 1 i) ∙ ap (λ (x : ℕ). odd (n / 2 ^ x)) {x = 1 + i} {y = suc i} (omega arith)

-- bit b of the words that begin at start
abbrev pub word_bit : List ℕ → ℕ → ℕ → ℕ
word_bit s start b = list_word s (start + b / 32) / 2 ^ (b % 32) % 2

module _ (W : ℕ → ℕ) (small : (j : ℕ) → W j < 2 ^ 32) where
  word_bit_law : (k b : ℕ) → b / 32 < k → front W k / 2 ^ b % 2 ≡ W (b / 32) / 2 ^ (b % 32) % 2
  word_bit_law k b h =
      let q = b / 32 in
      let r = b % 32 in
      let l = last_word W small q k (1 + b) (omega arith) (omega arith) h in
      let e : 1 + b - q * 32 ≡ 1 + r = omega arith in
      let f : 32 * q + r ≡ b = omega arith in
      let t : front W q + W q % 2 ^ (1 + b - q * 32) * 2 ^ (32 * q) ≡ W q % 2 ^ (1 + r) * 2 ^ (32 * q) + front W q = rw e (omega arith) in
      sym (field (front W k) 1 b)
      ∙ ap (λ (x : ℕ). x / 2 ^ b) (l ∙ t)
      ∙ ap (λ (x : ℕ). (W q % 2 ^ (1 + r) * 2 ^ (32 * q) + front W q) / 2 ^ x) (sym f)
      ∙ sym (shr-shr (W q % 2 ^ (1 + r) * 2 ^ (32 * q) + front W q) (32 * q) r)
      ∙ ap (λ (x : ℕ). x / 2 ^ r) (high (W q % 2 ^ (1 + r)) (32 * q) (front_lt W small q))
      ∙ field (W q) 1 r

pub constant_bit : (s : List ℕ) → Bytes s → (start v b : ℕ) → b < v → get_or (bits v (constant_of s v start)) b false ≡ eqb (word_bit s start b) 1
unfolding constant_of constant_words
constant_bit s y start v b h =
    let W : ℕ → ℕ = λ j. list_word s (start + j) in
    let F = front W (2 * ((v + 63) / 64)) in
    let e : bits v (F % 2 ^ v) ≡ bits v F = bits_eq v (F % 2 ^ v) F (mod-mod F (2 ^ v)) in
    ap (λ (a : List Bool). get_or a b false) e
    ∙ bits_at_law v F b h
    ∙ ap (λ (x : ℕ). eqb x 1) (word_bit_law W (λ j. word_lt s y (start + j)) (2 * ((v + 63) / 64)) b (omega arith))

-- ---- a list filled with the bits from lsb on ----

pub record Put (s : List ℕ) (start lsb : ℕ) (out₀ out : List ℕ) (i : ℕ) : Type 0 where
  pub within : i ≤ length out₀
  pub sized : length out ≡ length out₀
  pub says : (k : ℕ) → k < i → get_or out k 0 ≡ word_bit s start (lsb + k)

module _ (s : List ℕ) (start lsb : ℕ) (out₀ : List ℕ) where
  pub put_start : Put s start lsb out₀ out₀ 0
  put_start = record { within = omega arith; sized = refl; says = λ k h. absurd (not-suc-le-zero h) }

  pub put_more : (out : List ℕ) (i x : ℕ) → Put s start lsb out₀ out i → i < length out → x ≡ word_bit s start (lsb + i) → Put s start lsb out₀ (set out i x) (i + 1)
  put_more out i x p h e = record {
    within = omega (arith, p.sized);
    sized = length-set out i x ∙ p.sized;
    says = λ k l. go k l (eqb k i) refl;
  }
    where
      go : (k : ℕ) → k < i + 1 → (t : Bool) → eqb k i ≡ t → get_or (set out i x) k 0 ≡ word_bit s start (lsb + k)
      go k l true q = let z : k ≡ i = eqb-true k i q in rw z (get_or-set_same out i x 0 h ∙ e)
      go k l false q = let n = eqb-false k i q in get_or-set_other out i k x 0 n ∙ p.says k (omega (arith, n))

  pub put_all : (out : List ℕ) (i : ℕ) → Put s start lsb out₀ out i → length out ≤ i → Bytes s → (v : ℕ) → lsb + length out₀ ≤ v
      → held out ≡ take (length out₀) (drop lsb (bits v (constant_of s v start)))
  put_all out i p h y v f =
      let bs = bits v (constant_of s v start) in
      let lb : length bs ≡ v = length_bits v (constant_of s v start) in
      let ld : length (drop lsb bs) ≡ v - lsb = length-drop lsb bs ∙ ap (λ (x : ℕ). x - lsb) lb in
      let lt : length (take (length out₀) (drop lsb bs)) ≡ length out₀ = length-take-le (length out₀) (drop lsb bs) (omega arith) in
      let lo : length (held out) ≡ length out₀ = length-map out (λ n. eqb n 1) ∙ p.sized in
      ext_get_or false (held out) (take (length out₀) (drop lsb bs)) (lo ∙ sym lt) (λ k l.
      get_or-map (λ n. eqb n 1) out k 0
      ∙ ap (λ (x : ℕ). eqb x 1) (p.says k (omega (arith, lo, p.sized)))
      ∙ sym (get_or-take (length out₀) (drop lsb bs) k false (omega (arith, lo)) ∙ get_or-drop lsb bs k false ∙ constant_bit s y start v (lsb + k) (omega (arith, lo))))

-- ---- at most w bits ----

take_within : (w k : ℕ) (bs : List Bool) → length bs ≡ k → take w bs ≡ take (min w k) bs
take_within w k bs e = go (leb w k) refl
  where
    go : (t : Bool) → leb w k ≡ t → take w bs ≡ take (min w k) bs
    go true q = let h = leb-true w k q in ap (λ (j : ℕ). take j bs) {x = w} {y = min w k} (omega arith)
    go false q = let h = leb-false w k q in take_all w bs (omega arith) ∙ sym (take_all (min w k) bs (omega arith))

pub back_constant : (w k : ℕ) (bs : List Bool) (l : Netlist) (n m : ℕ) (r : Result (Unit {0}) Full) (xs ns rest net idx : List ℕ) → length bs ≡ k → m ≡ min w k → m ≤ length xs → length ns ≡ length (take m xs)
    → Fills (each add_constant (take (length (take m xs)) bs) l) n r ns net idx → Fills (each add_constant (take w bs) l) n r (take (min w k) (ns ++ rest)) net idx
back_constant w k bs l n m r xs ns rest net idx b q h s g =
    let e = length-take-le m xs h ∙ q in
    list_by _ _ _ _ _ _ _ (ap (λ (t : List Bool). each add_constant t l) (take_within w k bs b)) (back_whole _ n r ns rest net idx (min w k) (s ∙ e) (rw e at g))
