-- A record, read from words that begin with it, is that record. Assumes nothing.
use Rattle.std.specs.Prelude.{ℕ, zero, suc, ◌+◌, ◌≤◌, ◌<◌, ◌≡◌, refl, Bool, true, false, List, [], ◌∷◌, ◌++◌, length, take, drop, get_or}
use Rattle.std.proofs.Common.{arith, ap, ◌∙◌, length-drop}
use Rattle.std.proofs.Math.Option.{Option, none, some}
use Rattle.std.proofs.Math.ListN.{get_or-append}
use Rattle.spec_tests.specs.Rules.{◌≡?◌, pick}
use Rattle.spec_tests.specs.Laws.{yes_eq}
use Rattle.spec_rules.specs.Image.{register_of}
use Rattle.spec_rules.specs.NetlistImage.{MemoryPort, MemoryCell, port_lists, port_length, register_bit_of, memory_port_of, memory_of}
use Rattle.law_sorts.specs.Memories.{MemoryTold, own_length}

-- a stretch that lies inside the first part
pub stretch_in : (p rest : List ℕ) (a w : ℕ) → a + w ≤ length p → take w (drop a (p ++ rest)) ≡ take w (drop a p)
stretch_in p rest zero w h = first p w h
  where
    first : (p : List ℕ) (w : ℕ) → 0 + w ≤ length p → take w (p ++ rest) ≡ take w p
    first p zero h = refl
    first [] (suc w) h = absurd (omega arith)
    first (x ∷ p) (suc w) h = ap (λ (z : List ℕ). x ∷ z) (first p w (omega arith))
stretch_in [] rest (suc a) w h = absurd (omega arith)
stretch_in (x ∷ p) rest (suc a) w h = stretch_in p rest a w (omega arith)

pub drop_in : (p rest : List ℕ) (a : ℕ) → a ≤ length p → drop a (p ++ rest) ≡ drop a p ++ rest
drop_in p rest zero h = refl
drop_in [] rest (suc a) h = absurd (omega arith)
drop_in (x ∷ p) rest (suc a) h = drop_in p rest a (omega arith)

pub register_cut : (r rest : List ℕ) → length r ≡ 13 → register_bit_of (r ++ rest) ≡ register_bit_of r
unfolding register_bit_of register_of
register_cut r rest l = rw (w 1 (omega arith), w 2 (omega arith), w 3 (omega arith), w 4 (omega arith), w 5 (omega arith), w 6 (omega arith), w 7 (omega arith), w 8 (omega arith), w 9 (omega arith), w 10 (omega arith), w 11 (omega arith), w 12 (omega arith))
  where
    w : (i : ℕ) → i < 13 → get_or (r ++ rest) i 0 ≡ get_or r i 0
    w i h = get_or-append r rest 0 i (omega arith)

pub lists_are : (p : List ℕ) → port_lists p ≡ get_or p 0 0 + get_or p 1 0 + get_or p 2 0 + get_or p 3 0
unfolding port_lists
lists_are p = refl

lists_in : (p rest : List ℕ) → 10 ≤ length p → port_lists (p ++ rest) ≡ port_lists p
unfolding port_lists
lists_in p rest h = rw (w 0 (omega arith), w 1 (omega arith), w 2 (omega arith), w 3 (omega arith))
  where
    w : (i : ℕ) → i < 10 → get_or (p ++ rest) i 0 ≡ get_or p i 0
    w i l = get_or-append p rest 0 i (omega arith)

pub length_in : (p rest : List ℕ) → port_length p ≤ length p → port_length (p ++ rest) ≡ port_length p
length_in p rest h = let a = own_length p in let b = own_length (p ++ rest) in let c = lists_in p rest (omega arith) in omega arith

pub port_cut : (p rest : List ℕ) → port_length p ≤ length p → memory_port_of (p ++ rest) ≡ memory_port_of p
unfolding memory_port_of
port_cut p rest h =
    let n = own_length p in
    let l = lists_in p rest (omega arith) in
    let s = lists_are p in
    let a = word 0 (omega arith) in
    let b = word 1 (omega arith) in
    let c = word 2 (omega arith) in
    let d = word 3 (omega arith) in
    rw (
      l,
      a,
      b,
      c,
      d,
      stretch_in p rest 4 (get_or p 0 0) (omega arith),
      stretch_in p rest (4 + get_or p 0 0) (get_or p 1 0) (omega arith),
      stretch_in p rest (4 + get_or p 0 0 + get_or p 1 0) (get_or p 2 0) (omega arith),
      stretch_in p rest (4 + get_or p 0 0 + get_or p 1 0 + get_or p 2 0) (get_or p 3 0) (omega arith),
      word (4 + port_lists p) (omega arith),
      word (4 + port_lists p + 1) (omega arith),
      word (4 + port_lists p + 2) (omega arith),
      word (4 + port_lists p + 3) (omega arith),
      word (4 + port_lists p + 4) (omega arith),
      word (4 + port_lists p + 5) (omega arith),
    )
  where
    word : (i : ℕ) → i < 10 + port_lists p → get_or (p ++ rest) i 0 ≡ get_or p i 0
    word i k = get_or-append p rest 0 i (let n = own_length p in omega arith)

none_both : (x y : Option MemoryPort) → pick false x none ≡ pick false y none
unfolding pick
none_both x y = refl

second_cut : (r rest : List ℕ) → 6 + port_length (drop 6 r) ≤ length r → (get_or r 5 0 ≡ 2 → port_length (drop (6 + port_length (drop 6 r)) r) ≤ length (drop (6 + port_length (drop 6 r)) r))
    → pick (get_or (r ++ rest) 5 0 ≡? 2) (some (memory_port_of (drop (6 + port_length (drop 6 (r ++ rest))) (r ++ rest)))) none
    ≡ pick (get_or r 5 0 ≡? 2) (some (memory_port_of (drop (6 + port_length (drop 6 r)) r))) none
second_cut r rest h two =
    let n = own_length (drop 6 r) in
    let d = length-drop 6 r in
    let f : port_length (drop 6 (r ++ rest)) ≡ port_length (drop 6 r) = ap port_length (drop_in r rest 6 (omega arith)) ∙ length_in (drop 6 r) rest (omega arith) in
    ap (λ (k : ℕ). pick (k ≡? 2) (some (memory_port_of (drop (6 + port_length (drop 6 (r ++ rest))) (r ++ rest)))) none) (get_or-append r rest 0 5 (omega arith))
    ∙ ap (λ (k : ℕ). pick (get_or r 5 0 ≡? 2) (some (memory_port_of (drop (6 + k) (r ++ rest)))) none) f
    ∙ ap (λ (k : List ℕ). pick (get_or r 5 0 ≡? 2) (some (memory_port_of k)) none) (drop_in r rest (6 + port_length (drop 6 r)) h)
    ∙ go (get_or r 5 0 ≡? 2) refl
  where
    go : (b : Bool) → (get_or r 5 0 ≡? 2) ≡ b → pick b (some (memory_port_of (drop (6 + port_length (drop 6 r)) r ++ rest))) none ≡ pick b (some (memory_port_of (drop (6 + port_length (drop 6 r)) r))) none
    go true e = ap (λ (x : MemoryPort). pick true (some x) none) (port_cut (drop (6 + port_length (drop 6 r)) r) rest (two (yes_eq _ _ e)))
    go false e = none_both _ _

abbrev cell : ℕ → ℕ → MemoryPort → Option MemoryPort → MemoryCell
cell i d f s = record { index = i; depth = d; first = f; second = s }

abbrev second : List ℕ → Option MemoryPort
second r = pick (get_or r 5 0 ≡? 2) (some (memory_port_of (drop (6 + port_length (drop 6 r)) r))) none

pub memory_cut : {ws : List ℕ} {earlier : List (List ℕ)} {r : List ℕ} → MemoryTold ws earlier r → (rest : List ℕ) → memory_of (r ++ rest) ≡ memory_of r
unfolding memory_of
memory_cut {r = r} t rest =
    let n = own_length (drop 6 r) in
    let l = t.first.long in
    let d = length-drop 6 r in
    let s = t.six in
    ap (λ (x : ℕ). cell x (get_or (r ++ rest) 2 0) (memory_port_of (drop 6 (r ++ rest))) (second (r ++ rest))) (get_or-append r rest 0 1 (omega arith))
    ∙ ap (λ (x : ℕ). cell (get_or r 1 0) x (memory_port_of (drop 6 (r ++ rest))) (second (r ++ rest))) (get_or-append r rest 0 2 (omega arith))
    ∙ ap (λ (x : MemoryPort). cell (get_or r 1 0) (get_or r 2 0) x (second (r ++ rest))) (ap memory_port_of (drop_in r rest 6 (omega arith)) ∙ port_cut (drop 6 r) rest l)
    ∙ ap (λ (x : Option MemoryPort). cell (get_or r 1 0) (get_or r 2 0) (memory_port_of (drop 6 r)) x) (second_cut r rest (omega arith) (λ e. (t.second e).long))
