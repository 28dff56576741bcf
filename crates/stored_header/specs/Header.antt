-- The header's list offset by itself, and what is known where the header's words and the slice's length are right. Assumes nothing.
use Rattle.std.specs.Prelude.{ℕ, ◌+◌, ◌*◌, ◌-◌, ◌/◌, ◌≤◌, ◌<◌, min, Bool, false, true, ◌≡◌, refl, List, length, get_or}
use Rattle.std.proofs.Common.{sym, ap, ap₂, ◌∙◌, arith, ⊎_elim}
use Rattle.spec_tests.specs.Rules.{◌<?◌, ◌≡?◌, ◌≢?◌, ◌or◌, pick, outside, first}
use Rattle.spec_tests.specs.Laws.{or_no, no_lt, no_ne, inside, none, yes_lt, or_yes}
use Rattle.spec_netlist.specs.Accept.{nets, used, list_at_of, wrong_header}
use Rattle.stored_view.specs.Opened.{Opened}

-- the slice ends too early
unfoldable pub too_short : List ℕ → Bool
too_short ws = length ws <? 16 or length ws <? list_at_of ws + used ws

-- the list offset is not 16 + 6N for an N from 1 to 65,535 that is at least the net count
unfoldable pub wrong_offset : ℕ → ℕ → Bool
wrong_offset n at = outside ((at - 16) / 6) 1 65535 or at ≢? 16 + 6 * ((at - 16) / 6) or (at - 16) / 6 <? n

-- words 1 to 4 of the header
word_1 : (ws : List ℕ) → wrong_header ws 1 ≡ (65535 <? nets ws)
unfolding wrong_header pick ◌≡?◌
word_1 ws = refl

word_2 : (ws : List ℕ) → wrong_header ws 2 ≡ (get_or ws 2 0 ≢? 16)
unfolding wrong_header pick ◌≡?◌
word_2 ws = refl

word_3 : (ws : List ℕ) → wrong_header ws 3 ≡ (65535 <? used ws)
unfolding wrong_header pick ◌≡?◌
word_3 ws = refl

word_4 : (ws : List ℕ) → wrong_header ws 4 ≡ wrong_offset (nets ws) (list_at_of ws)
unfolding wrong_header pick ◌≡?◌ wrong_offset
word_4 ws = refl

-- word 4 by its number, answered from the two words read
pub word_4_read : (ws : List ℕ) (i : ℕ) → i ≡ 4 → {n at : ℕ} → n ≡ nets ws → at ≡ get_or ws i 0 → {r : Bool} → r ≡ wrong_offset n at → r ≡ wrong_header ws i
word_4_read ws i e p q a = a ∙ (ap₂ wrong_offset p (q ∙ ap (λ (j : ℕ). get_or ws j 0) e) ∙ (sym (word_4 ws) ∙ ap (wrong_header ws) (sym e)))

pub record Offset (n at : ℕ) : Type 0 where
  pub most : (at - 16) / 6 ≤ 65535
  pub is : at ≡ 16 + 6 * ((at - 16) / 6)
  pub enough : n ≤ (at - 16) / 6

offset : (n at : ℕ) → wrong_offset n at ≡ false → Offset n at
unfolding wrong_offset
offset n at e =
    let h = or_no e in
    let k = or_no h.1 in
    record { most = (inside _ _ _ h.0).1; is = no_ne _ _ k.0; enough = no_lt _ _ k.1 }

-- the list offset where the sixteen words are right
pub header_offset : (ws : List ℕ) → first (wrong_header ws) 16 ≡ 16 → Offset (nets ws) (list_at_of ws)
header_offset ws e = offset (nets ws) (list_at_of ws) (rw (word_4 ws) at (none (wrong_header ws) 16 e 4 (omega arith)))

-- the sections fit where the sixteen words and the length are right
pub opens : (ws : List ℕ) → first (wrong_header ws) 16 ≡ 16 → too_short ws ≡ false → Opened ws
unfolding too_short
opens ws e s =
    let passes = none (wrong_header ws) 16 e in
    let o = header_offset ws e in
    record {
      nodes_at = no_ne _ _ (rw (word_2 ws) at (passes 2 (omega arith)));
      list_starts = o.is;
      nodes_fit = omega (arith, o.is, o.enough);
      list_fits = no_lt _ _ (or_no s).1;
      few_nets = no_lt _ _ (rw (word_1 ws) at (passes 1 (omega arith)));
      few_words_of = no_lt _ _ (rw (word_3 ws) at (passes 3 (omega arith)));
      near = omega (arith, o.is, o.most);
    }

-- a slice that ends too early has few words, where the header words that are there are right
pub short_few : (ws : List ℕ) → first (wrong_header ws) (min 16 (length ws)) ≡ min 16 (length ws) → too_short ws ≡ true → length ws < 4294967296
unfolding too_short
short_few ws e s = go (length ws <? 16) refl
  where
    go : (b : Bool) → (length ws <? 16) ≡ b → length ws < 4294967296
    go true q = omega (arith, yes_lt _ _ q)
    go false q =
        let l = no_lt (length ws) 16 q in
        let n : min 16 (length ws) ≡ 16 = omega arith in
        let right = ap (first (wrong_header ws)) (sym n) ∙ (e ∙ n) in
        let o = header_offset ws right in
        let u = no_lt _ _ (rw (word_3 ws) at (none (wrong_header ws) 16 right 3 (omega arith))) in
        ⊎_elim (λ (y : (length ws <? 16) ≡ true). omega (arith, yes_lt _ _ y)) (λ (y : (length ws <? list_at_of ws + used ws) ≡ true). omega (arith, yes_lt _ _ y, o.is, o.most, u)) (or_yes s)

-- the sixteen words are there and right
pub header_whole : (ws : List ℕ) → first (wrong_header ws) (min 16 (length ws)) ≡ min 16 (length ws) → too_short ws ≡ false → first (wrong_header ws) 16 ≡ 16
unfolding too_short
header_whole ws e s =
    let l = no_lt (length ws) 16 (or_no s).0 in
    let n : min 16 (length ws) ≡ 16 = omega arith in
    ap (first (wrong_header ws)) (sym n) ∙ (e ∙ n)
