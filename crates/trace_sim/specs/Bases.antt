-- Where the memories' bits begin, and that each lies below the end of all. Assumes nothing.
use Rattle.std.specs.Prelude.{ℕ, zero, suc, ◌+◌, ◌*◌, ◌-◌, ◌≤◌, ◌<◌, ◌≡◌, List, ◌++◌, length, drop, get_or}
use Rattle.std.proofs.Common.{arith, ap, subst, ◌∙◌, length-drop}
use Rattle.std.proofs.Math.ListN.{get_or-append}
use Rattle.spec_tests.specs.Rules.{Fine}
use Rattle.spec_tests.specs.Laws.{sum_more}
use Rattle.spec_rules.specs.NetlistImage.{records_with}
use Rattle.spec_netlist.specs.Accept.{accepts}
use Rattle.law_sorts.specs.Memories.{own_length}
use Rattle.trace_walk.specs.Places.{Begins, Places}
use Rattle.trace_fit.specs.Fit.{bits_at}
use Rattle.trace_step.specs.Words.{base_at}
use Rattle.trace_sim.specs.Sources.{memory_at_law}
use Rattle.trace_sim.specs.Laid.{row_before}

base_mono : (ws places : List ℕ) (a n : ℕ) → base_at ws places a ≤ base_at ws places (a + n)
base_mono ws places a zero = let e : base_at ws places a ≡ base_at ws places (a + 0) = ap (base_at ws places) (let z : a ≡ a + 0 = omega arith in z) in omega arith
base_mono ws places a (suc n) =
    let i = base_mono ws places a n in
    let m = sum_more (bits_at ws places) (a + n) in
    let e : base_at ws places (a + n + 1) ≡ base_at ws places (a + suc n) = ap (base_at ws places) (let z : a + n + 1 ≡ a + suc n = omega arith in z) in
    omega arith

pub base_le : (ws places : List ℕ) (a b : ℕ) → a ≤ b → base_at ws places a ≤ base_at ws places b
base_le ws places a b n = let m = base_mono ws places a (b - a) in let e : base_at ws places (a + (b - a)) ≡ base_at ws places b = ap (base_at ws places) (let z : a + (b - a) ≡ b = omega arith in z) in omega arith

module _ (ws : List ℕ) (ok : accepts ws ≡ Fine) {places : List ℕ} {count : ℕ} (p : Places ws 2 places count) where
  -- the bits of memory m, read at its place
  bits_are : (m : ℕ) (l : m < length (records_with 2 ws)) → bits_at ws places m ≡ get_or (memory_at_law ws ok m l).it.r 2 0 * get_or (memory_at_law ws ok m l).it.r 7 0
  bits_are m l =
      let a = memory_at_law ws ok m l in
      let q = p.count in
      let b = subst (λ (z : List ℕ). Begins ws (get_or places m 0) z) a.it.is (p.at m (omega arith)) in
      let n = own_length (drop 6 a.it.r) in
      let d = length-drop 6 a.it.r in
      let o = a.told.first.long in
      ap (λ (z : List ℕ). get_or z 2 0 * get_or z 7 0) b.is ∙ ap (λ (z : ℕ). z * get_or (a.it.r ++ b.rest) 7 0) (get_or-append a.it.r b.rest 0 2 (omega arith))
      ∙ ap (λ (z : ℕ). get_or a.it.r 2 0 * z) (get_or-append a.it.r b.rest 0 7 (omega arith))

  pub base_next : (m : ℕ) (l : m < length (records_with 2 ws)) → base_at ws places m + get_or (memory_at_law ws ok m l).it.r 2 0 * get_or (memory_at_law ws ok m l).it.r 7 0 ≡ base_at ws places (m + 1)
  base_next m l = let e = bits_are m l in let f = sum_more (bits_at ws places) m in omega arith

  -- a bit of memory m lies below the end of all
  pub bit_below : (m : ℕ) (l : m < length (records_with 2 ws)) (a b : ℕ) → a < get_or (memory_at_law ws ok m l).it.r 2 0 → b < get_or (memory_at_law ws ok m l).it.r 7 0
      → base_at ws places m + a * get_or (memory_at_law ws ok m l).it.r 7 0 + b < base_at ws places count
  bit_below m l a b h i =
      let n = base_next m l in
      let r = row_before a (get_or (memory_at_law ws ok m l).it.r 2 0) (get_or (memory_at_law ws ok m l).it.r 7 0) b h i in
      let q = p.count in
      let e = base_le ws places (m + 1) count (omega arith) in
      omega arith
