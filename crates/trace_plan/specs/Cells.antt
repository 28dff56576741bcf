-- A cell's step in the plan, at the first of its outputs that is met. Assumes nothing.
use Rattle.std.specs.Prelude.{ℕ, ◌+◌, ◌*◌, ◌≤◌, ◌<◌, ◌≡◌, List, ◌++◌, map, length, take, drop, get_or, set}
use Rattle.std.proofs.Common.{arith, sym, ap, subst, ◌∙◌, length-take, length-drop, length-append, get_or-take, get_or-drop, get_or-set_same, get_or-set_other}
use Rattle.std.proofs.Math.ListN.{get_or-append}
use Rattle.std.proofs.Math.Seq.{take-append_seam}
use Rattle.spec_tests.specs.Rules.{Fine}
use Rattle.spec_rules.specs.NetlistImage as N
use Rattle.spec_rules.specs.NetlistImage.{node_word, node_at_of, records_with, arithmetic_of, comparison_of, netlist}
use Rattle.spec_netlist.specs.Accept.{count_of, accepts}
use Rattle.law_told.specs.Told.{told}
use Rattle.law_told.proofs.Told.{owner}
use Rattle.law_told.specs.Owned.{Own, Within}
use Rattle.law_told.specs.Ordered.{no_arithmetic, no_comparison, belongs_cell, cell_number, arithmetic_cell_law, comparison_cell_law, arithmetic_there, comparison_there}
use Rattle.law_told.proofs.Ordered.{ordered}
use Rattle.law_sorts.specs.Found.{numbered}
use Rattle.law_sorts.specs.Cells.{ArithmeticTold, ComparisonTold, arithmetic_told, comparison_told}
use Rattle.trace_cells.specs.Digits.{Nets}
use Rattle.trace_cells.specs.Cells.{left_of, right_of, outs_of, lesser_of, greater_of}
use Rattle.trace_walk.specs.Places.{Begins, Places}
use Rattle.trace_pass.specs.Plan.{size, place}
use Rattle.trace_pass.specs.Steps.{size_is, ArithmeticWords, ArithmeticLists, ComparisonWords, arithmetic_step, comparison_step, arithmetic_cut, comparison_cut}
use Rattle.trace_plan.specs.Building.{at, Building, Given, Pushed, only_new, given_one, pushed}
use Rattle.trace_plan.specs.Marked.{Marked}
use Rattle.trace_plan.specs.Kinds.{few_nets_law}

-- a stretch of a record, read in the words that begin with it
stretch_length : (r rest : List ℕ) (a w : ℕ) → a + w ≤ length r → length (take w (drop a (r ++ rest))) ≡ w
stretch_length r rest a w h = let x = length-take w (drop a (r ++ rest)) in let y = length-drop a (r ++ rest) in let z = length-append r rest in omega arith

stretch_at : (r rest : List ℕ) (a w i : ℕ) → a + w ≤ length r → i < w → get_or (take w (drop a (r ++ rest))) i 0 ≡ get_or r (a + i) 0
stretch_at r rest a w i h l = get_or-take w (drop a (r ++ rest)) i 0 l ∙ get_or-drop a (r ++ rest) i 0 ∙ get_or-append r rest 0 (a + i) (omega arith)

-- the record of arithmetic output j, and where it begins
pub record ArithmeticAt (ws : List ℕ) (j p : ℕ) : Type 0 where
  pub earlier : List (List ℕ)
  pub r : List ℕ
  pub rest : List ℕ
  pub told : ArithmeticTold ws earlier r
  pub begins : drop p ws ≡ r ++ rest
  pub cell : node_word ws j 1 ≡ count_of 3 earlier
  pub number : get_or (map arithmetic_of (records_with 3 ws)) (count_of 3 earlier) no_arithmetic ≡ arithmetic_of r
  pub spot : Within j (4 + 2 * get_or r 2 0) (get_or r 2 0) r

pub arithmetic_at : (ws : List ℕ) → accepts ws ≡ Fine → {cells : List ℕ} {count : ℕ} → Places ws 3 cells count → (j : ℕ) → j < size ws → node_word ws j 0 ≡ 10
    → (p : ℕ) → p ≡ get_or cells (node_word ws j 1) 0 → ArithmeticAt ws j p
arithmetic_at ws ok {cells} {count} places j h k p ep =
    let t = told ws ok in
    let s = size_is ws in
    let o = owner ws t j (omega arith) (rw k (belongs_cell 10 (omega arith))) in
    let c = arithmetic_cell_law ws j o k in
    let q = c.cell.long in
    let m = numbered ws 3 o.earlier o.r o.later o.place c.cell.sort in
    let e = c.cell.owns.owner in
    let z = places.count in
    let g = places.at (count_of 3 o.earlier) (let y = m.0 in omega arith) in
    let f : Begins ws p o.r = subst (λ (x : ℕ). Begins ws x o.r) (ap (λ (i : ℕ). get_or cells i 0) (sym e) ∙ sym ep) (subst (λ (x : List ℕ). Begins ws (get_or cells (count_of 3 o.earlier) 0) x) m.1 g) in
    record {
      earlier = o.earlier;
      r = o.r;
      rest = f.rest;
      told = arithmetic_told ws o.earlier o.r o.here (omega arith) c.cell.sort;
      begins = f.is;
      cell = e;
      number = cell_number arithmetic_of no_arithmetic ws 3 o.earlier o.r o.later o.place c.cell.sort;
      spot = arithmetic_there ws j o c.cell.sort;
    }

module _ {ws : List ℕ} {j p : ℕ} (a : ArithmeticAt ws j p) where
  abbrev L : List ℕ
  L = a.r ++ a.rest

  wide : get_or L 2 0 ≡ get_or a.r 2 0
  wide = get_or-append a.r a.rest 0 2 (let l = a.told.long in omega arith)

  abbrev w : ℕ
  w = get_or a.r 2 0

  left_is : left_of L ≡ take w (drop 4 L)
  left_is = ap (λ (x : ℕ). take x (drop 4 L)) wide

  right_is : right_of L ≡ take w (drop (4 + w) L)
  right_is = ap (λ (x : ℕ). take x (drop (4 + x) L)) wide

  pub outs_is : outs_of L ≡ take w (drop (4 + 2 * w) L)
  outs_is = ap (λ (x : ℕ). take x (drop (4 + 2 * x) L)) wide

  left_length : length (left_of L) ≡ w
  left_length = ap length left_is ∙ stretch_length a.r a.rest 4 w (let l = a.told.long in omega arith)

  right_length : length (right_of L) ≡ w
  right_length = ap length right_is ∙ stretch_length a.r a.rest (4 + w) w (let l = a.told.long in omega arith)

  pub outs_length : length (outs_of L) ≡ w
  outs_length = ap length outs_is ∙ stretch_length a.r a.rest (4 + 2 * w) w (let l = a.told.long in omega arith)

  left_at : (i : ℕ) → i < w → get_or (left_of L) i 0 ≡ get_or a.r (4 + i) 0
  left_at i h = ap (λ (x : List ℕ). get_or x i 0) left_is ∙ stretch_at a.r a.rest 4 w i (let l = a.told.long in omega arith) h

  right_at : (i : ℕ) → i < w → get_or (right_of L) i 0 ≡ get_or a.r (4 + (w + i)) 0
  right_at i h =
      let e : 4 + w + i ≡ 4 + (w + i) = omega arith in
      ap (λ (x : List ℕ). get_or x i 0) right_is ∙ stretch_at a.r a.rest (4 + w) w i (let l = a.told.long in omega arith) h ∙ ap (λ (x : ℕ). get_or a.r x 0) e

  pub outs_at : (i : ℕ) → i < w → get_or (outs_of L) i 0 ≡ get_or a.r (4 + 2 * w + i) 0
  outs_at i h = ap (λ (x : List ℕ). get_or x i 0) outs_is ∙ stretch_at a.r a.rest (4 + 2 * w) w i (let l = a.told.long in omega arith) h

-- its outputs are nets
pub arithmetic_nets_law : {ws : List ℕ} {j p : ℕ} → ArithmeticAt ws j p → (outs : List ℕ) → outs ≡ outs_of (drop p ws) → (most : ℕ) → size ws ≤ most → Nets outs most
arithmetic_nets_law {ws} {j} {p} a outs e most h = record {
  inside = λ i l. (
      let s = size_is ws in
      let f : outs ≡ outs_of (a.r ++ a.rest) = e ∙ ap outs_of a.begins in
      let n = ap length f in
      let m = outs_length a in
      let g = ap (λ (x : List ℕ). get_or x i 0) f in
      let o = outs_at a i (omega arith) in
      let t = (a.told.output i (omega arith)).there in
      omega arith);
}

node_arithmetic : (ws : List ℕ) (x cell i : ℕ) → Own ws x 10 cell i → node_at_of ws x ≡ N.ArithmeticOutput cell i
unfolding node_at_of N.node_of
node_arithmetic ws x cell i o = rw (o.kind, o.owner, o.bit)

pub arithmetic_built : {ws t t' due due' : List ℕ} {n j p : ℕ} → accepts ws ≡ Fine → (a : ArithmeticAt ws j p) → Building ws t due n j → j < size ws
    → {outs : List ℕ} → outs ≡ outs_of (drop p ws) → Marked outs due due' n (length outs) → {o y z : ℕ} → Pushed t t' n o 256 p y z → Building ws t' due' (n + 1) (j + 1)
unfolding netlist
arithmetic_built {ws} {t} {t'} {due} {due'} {n} {j} {p} ok a b h {outs} eo m {o} {y} {z} u =
    let s = a.spot in
    let q = s.narrow in
    let i = outs_length a in
    let e : at due' j ≡ at due' (get_or outs s.at 0) = ap (at due') (sym s.is ∙ sym (outs_at a s.at q) ∙ ap (λ (x : List ℕ). get_or x s.at 0) (sym outs_here)) in
    let f = m.made s.at (let l = ap length outs_here in omega arith) in
    pushed b h m.given (omega arith) u (λ l. absurd (omega arith)) (λ l. arithmetic_step (ordered ws ok) words lists only) (λ l. absurd (omega arith))
  where
    here : place ws t' n ≡ a.r ++ a.rest
    here = ap (λ (x : ℕ). drop x ws) u.third ∙ a.begins

    outs_here : outs ≡ outs_of (a.r ++ a.rest)
    outs_here = eo ∙ ap outs_of a.begins

    -- an input of the cell is lower than j, and due
    due_input : (x : ℕ) → x < j → (x < size ws) × (at due' x ≤ n)
    due_input x l = let c = b.met x l in let d = m.given.fixed x c in (omega arith, omega arith)

    below_j : (i : ℕ) → i < 2 * get_or a.r 2 0 → get_or a.r (4 + i) 0 < j
    below_j i l = let c = a.told.above a.spot.at i a.spot.narrow l in let d = a.spot.is in omega arith

    words : ArithmeticWords ws t' (at due') n (count_of 3 a.earlier)
    words = record {
      number = a.number ∙ ap arithmetic_of (sym (take-append_seam a.r a.rest)) ∙ arithmetic_cut (length a.r) (a.r ++ a.rest) (let l = a.told.long in let c = wide a in omega arith) ∙ ap arithmetic_of (sym here);
      operation = rw here (let l = a.told.long in let c = get_or-append a.r a.rest 0 1 (omega arith) in let d = a.told.operation in omega arith);
      same = rw here (right_length a ∙ sym (left_length a));
      left = rw here (record { at = λ i l. (let c = left_length a in let d = left_at a i (omega arith) in rw d (due_input (get_or a.r (4 + i) 0) (below_j i (omega arith)))) });
      right = rw here (record { at = λ i l. (let c = right_length a in let d = right_at a i (omega arith) in rw d (due_input (get_or a.r (4 + (get_or a.r 2 0 + i)) 0) (below_j (get_or a.r 2 0 + i) (omega arith)))) });
      carry = rw here (λ x. (
          let l = a.told.long in
          let c = get_or-append a.r a.rest 0 3 (omega arith) in
          let d = a.told.carry_above a.spot.at a.spot.narrow (λ y. x (c ∙ y)) in
          let e = a.spot.is in
          rw c (due_input (get_or a.r 3 0) (omega arith))));
      outs = rw here (λ i l. (
          let c = left_length a in
          let d = outs_at a i (omega arith) in
          let o = a.told.output i (omega arith) in
          let s = size_is ws in
          let k = o.there in
          rw d (omega arith, node_arithmetic ws (get_or a.r (4 + 2 * get_or a.r 2 0 + i) 0) (count_of 3 a.earlier) i o)));
    }

    lists : ArithmeticLists (place ws t' n)
    lists = rw here (record {
      narrow = (let c = left_length a in let d = a.told.narrow in omega arith);
      wide = outs_length a ∙ sym (left_length a);
      left_below = λ x y l k. (let c = left_length a in let d = left_at a x (omega arith) in let e = outs_at a y (omega arith) in let f = a.told.above y x (omega arith) (omega arith) in omega arith);
      right_below = λ x y l k. (let c = left_length a in let d = right_at a x (omega arith) in let e = outs_at a y (omega arith) in let f = a.told.above y (get_or a.r 2 0 + x) (omega arith) (omega arith) in omega arith);
    })

    only : (k : ℕ) → k < size ws → at due' k ≤ n + 1 → ((i : ℕ) → i < length (left_of (place ws t' n)) → get_or (outs_of (place ws t' n)) i 0 ≡ k → ⊥) → at due' k ≤ n
    only k l d f = only_new due' b (few_nets_law ws ok) k l
        (m.kept k (λ i c e. f i (let x = ap (λ (r : List ℕ). length (left_of r)) here in let y = left_length a in let z = outs_length a in let v = ap length outs_here in omega arith)
        (ap (λ (r : List ℕ). get_or (outs_of r) i 0) here ∙ ap (λ (r : List ℕ). get_or r i 0) (sym outs_here) ∙ e))) d

-- ---- comparisons ----

pub record ComparisonAt (ws : List ℕ) (j p : ℕ) : Type 0 where
  pub earlier : List (List ℕ)
  pub r : List ℕ
  pub rest : List ℕ
  pub told : ComparisonTold ws earlier r
  pub begins : drop p ws ≡ r ++ rest
  pub cell : node_word ws j 1 ≡ count_of 4 earlier
  pub number : get_or (map comparison_of (records_with 4 ws)) (count_of 4 earlier) no_comparison ≡ comparison_of r
  pub is : get_or r (3 + 2 * get_or r 2 0) 0 ≡ j

pub comparison_at : (ws : List ℕ) → accepts ws ≡ Fine → {cells : List ℕ} {count : ℕ} → Places ws 4 cells count → (j : ℕ) → j < size ws → node_word ws j 0 ≡ 11
    → (p : ℕ) → p ≡ get_or cells (node_word ws j 1) 0 → ComparisonAt ws j p
comparison_at ws ok {cells} {count} places j h k p ep =
    let t = told ws ok in
    let s = size_is ws in
    let o = owner ws t j (omega arith) (rw k (belongs_cell 11 (omega arith))) in
    let c = comparison_cell_law ws j o k in
    let q = c.long in
    let v = c.sort in
    let m = numbered ws 4 o.earlier o.r o.later o.place c.sort in
    let e = c.owns.owner in
    let z = places.count in
    let g = places.at (count_of 4 o.earlier) (let y = m.0 in omega arith) in
    let f : Begins ws p o.r = subst (λ (x : ℕ). Begins ws x o.r) (ap (λ (i : ℕ). get_or cells i 0) (sym e) ∙ sym ep) (subst (λ (x : List ℕ). Begins ws (get_or cells (count_of 4 o.earlier) 0) x) m.1 g) in
    let i = comparison_there ws j o (omega arith) in
    let n = i.narrow in
    let x : 3 + 2 * get_or o.r 2 0 ≡ 3 + 2 * get_or o.r 2 0 + i.at = omega arith in
    record {
      earlier = o.earlier;
      r = o.r;
      rest = f.rest;
      told = comparison_told ws o.earlier o.r o.here (omega arith) c.sort;
      begins = f.is;
      cell = e;
      number = cell_number comparison_of no_comparison ws 4 o.earlier o.r o.later o.place c.sort;
      is = ap (λ (y : ℕ). get_or o.r y 0) x ∙ i.is;
    }

module _ {ws : List ℕ} {j p : ℕ} (a : ComparisonAt ws j p) where
  abbrev M : List ℕ
  M = a.r ++ a.rest

  broad : get_or M 2 0 ≡ get_or a.r 2 0
  broad = get_or-append a.r a.rest 0 2 (let l = a.told.long in omega arith)

  abbrev v : ℕ
  v = get_or a.r 2 0

  lesser_is : lesser_of M ≡ take v (drop 3 M)
  lesser_is = ap (λ (x : ℕ). take x (drop 3 M)) broad

  greater_is : greater_of M ≡ take v (drop (3 + v) M)
  greater_is = ap (λ (x : ℕ). take x (drop (3 + x) M)) broad

  lesser_length : length (lesser_of M) ≡ v
  lesser_length = ap length lesser_is ∙ stretch_length a.r a.rest 3 v (let l = a.told.long in omega arith)

  greater_length : length (greater_of M) ≡ v
  greater_length = ap length greater_is ∙ stretch_length a.r a.rest (3 + v) v (let l = a.told.long in omega arith)

  lesser_at : (i : ℕ) → i < v → get_or (lesser_of M) i 0 ≡ get_or a.r (3 + i) 0
  lesser_at i h = ap (λ (x : List ℕ). get_or x i 0) lesser_is ∙ stretch_at a.r a.rest 3 v i (let l = a.told.long in omega arith) h

  greater_at : (i : ℕ) → i < v → get_or (greater_of M) i 0 ≡ get_or a.r (3 + (v + i)) 0
  greater_at i h =
      let e : 3 + v + i ≡ 3 + (v + i) = omega arith in
      ap (λ (x : List ℕ). get_or x i 0) greater_is ∙ stretch_at a.r a.rest (3 + v) v i (let l = a.told.long in omega arith) h ∙ ap (λ (x : ℕ). get_or a.r x 0) e

node_comparison : (ws : List ℕ) (x cell : ℕ) → Own ws x 11 cell 0 → node_at_of ws x ≡ N.ComparisonOutput cell
unfolding node_at_of N.node_of
node_comparison ws x cell o = rw (o.kind, o.owner)

pub comparison_built : {ws t t' due due' : List ℕ} {n j p : ℕ} → accepts ws ≡ Fine → (a : ComparisonAt ws j p) → Building ws t due n j → j < size ws → j < length due → n < at due j
    → due' ≡ set due j (n + 1) → {y z : ℕ} → Pushed t t' n j 257 p y z → Building ws t' due' (n + 1) (j + 1)
unfolding netlist
comparison_built {ws} {t} {t'} {due} {due'} {n} {j} {p} ok a b h room d e {y} {z} u =
    rw e (pushed b h g (let s = get_or-set_same due j (n + 1) 0 room in omega arith) u (λ l. absurd (omega arith)) (λ l. absurd (omega arith))
    (λ l. comparison_step (ordered ws ok) words (λ k m q f. only_new (set due j (n + 1)) b (few_nets_law ws ok) k m (get_or-set_other due j k (n + 1) 0 (λ x. f (x ∙ sym u.first))) q)))
  where
    g : Given due (set due j (n + 1)) n (n + 1)
    g = given_one due n j (n + 1) d room

    here : place ws t' n ≡ a.r ++ a.rest
    here = ap (λ (x : ℕ). drop x ws) u.third ∙ a.begins

    due_input : (x : ℕ) → x < j → (x < size ws) × (at (set due j (n + 1)) x ≤ n)
    due_input x l = let c = b.met x l in let f = g.fixed x c in (omega arith, omega arith)

    below_j : (i : ℕ) → i < 2 * get_or a.r 2 0 → get_or a.r (3 + i) 0 < j
    below_j i l = let c = a.told.above i l in let f = a.is in omega arith

    words : ComparisonWords ws t' (at (set due j (n + 1))) n (count_of 4 a.earlier)
    words = record {
      number = a.number ∙ ap comparison_of (sym (take-append_seam a.r a.rest)) ∙ comparison_cut (length a.r) (a.r ++ a.rest) (let l = a.told.long in let c = broad a in omega arith) ∙ ap comparison_of (sym here);
      operation = rw here (let l = a.told.long in let c = get_or-append a.r a.rest 0 1 (omega arith) in let f = a.told.operation in omega arith);
      same = rw here (greater_length a ∙ sym (lesser_length a));
      some_bits = rw here (let c = lesser_length a in let f = a.told.some in omega arith);
      left = rw here (record { at = λ i l. (let c = lesser_length a in let f = lesser_at a i (omega arith) in rw f (due_input (get_or a.r (3 + i) 0) (below_j i (omega arith)))) });
      right = rw here (record { at = λ i l. (let c = greater_length a in let f = greater_at a i (omega arith) in rw f (due_input (get_or a.r (3 + (get_or a.r 2 0 + i)) 0) (below_j (get_or a.r 2 0 + i) (omega arith)))) });
      inside = rw u.first h;
      out = ap (node_at_of ws) (u.first ∙ sym a.is) ∙ node_comparison ws (get_or a.r (3 + 2 * get_or a.r 2 0) 0) (count_of 4 a.earlier) a.told.output;
    }

-- the outputs as they are read
pub outs_read : {l r outs : List ℕ} {w : ℕ} → r ≡ l → w ≡ get_or r 2 0 → outs ≡ take w (drop (4 + 2 * w) r) → outs ≡ outs_of l
outs_read {l} {r} {outs} {w} er ew eo = eo ∙ ap (λ (x : ℕ). take x (drop (4 + 2 * x) r)) ew ∙ ap (λ (x : List ℕ). outs_of x) er
