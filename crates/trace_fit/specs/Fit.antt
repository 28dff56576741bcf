-- Registers and memories read at the places of their records: whether one is unfit, and the memories' bits. Assumes nothing.
use Rattle.std.specs.Prelude.{ℕ, zero, suc, ◌+◌, ◌*◌, ◌-◌, ◌≤◌, ◌<◌, ◌≡◌, Bool, true, false, not, eqb, ltb, length, take}
use Rattle.std.proofs.Common.{mul-le-mul, subst, ◌∙◌, take_all, take-suc}
use native.Mathlib.Omega.{arith}
use Rattle.std.proofs.Math.Path.{refl, sym, ap}
use mathlib.Core.List.{List, [], ◌∷◌, ◌++◌, map}
use Rattle.std.proofs.Math.Option.{none}
use Rattle.std.proofs.Math.ListN.{drop, get_or, length-take, length-drop, get_or-append}
use Rattle.std.proofs.Math.Seq.{get_or-drop}
use Rattle.spec_tests.specs.Rules.{◌<?◌, ◌≡?◌, ◌≢?◌, ◌and◌, pick, first, any, sum_to, only, Fine}
use Rattle.spec_tests.specs.Laws.{not_any, or_hit, or_skip, and_miss, and_skip, pick_hit, pick_skip, lt_yes, eq_yes, eq_no, ne_yes, ne_no, ne_same, lt_same, yes_lt}
use Rattle.spec_tests.specs.Any.{same_bool, any_found}
use Rattle.spec_rules.specs.Image.{absent}
use Rattle.spec_rules.specs.NetlistImage.{MemoryCell, node_word, port_lists, port_length, records_with, memory_port_of, memory_of}
use Rattle.spec_netlist.specs.Accept.{accepts}
use Rattle.spec_trace.specs.Opened.{having, no_input, register_unfit, second_unfit, memory_unfit, bits_of, unfit}
use Rattle.law_told.specs.Told.{told, few_words}
use Rattle.law_sorts.specs.Found.{found, has_word, count_few}
use Rattle.law_sorts.specs.Registers.{register_told}
use Rattle.law_sorts.specs.Memories.{MemoryTold, memory_told, own_length}
use Rattle.law_sorts.specs.Cut.{memory_cut, lists_are}
use Rattle.trace_walk.specs.Places.{Begins, Places}

-- the bits of the memory whose record begins at place i
abbrev pub bits_at : List ℕ → List ℕ → ℕ → ℕ
bits_at ws places i = get_or (drop (get_or places i 0) ws) 2 0 * get_or (drop (get_or places i 0) ws) 7 0

-- each is small
pub record Small (ws places : List ℕ) (count : ℕ) : Type 0 where
  pub few : count ≤ 65535
  pub each : (i : ℕ) → i < count → bits_at ws places i ≤ 67108864

-- ---- one record ----

pub input_no : (ws : List ℕ) (x : ℕ) {k : ℕ} → k ≡ node_word ws x 0 → not (eqb k 0) ≡ no_input ws x
unfolding no_input
input_no ws x e = ne_same e refl

module _ (ws r : List ℕ) {x : ℕ} (ex : x ≡ get_or r 5 0) {b : Bool} (eb : b ≡ no_input ws x) where
  pub clock_unfit : b ≡ true → true ≡ register_unfit ws r
  unfolding register_unfit
  clock_unfit e = or_hit _ (ap (no_input ws) (sym ex) ∙ sym eb ∙ e)

  module _ (fit : b ≡ false) {y : ℕ} (ey : y ≡ get_or r 9 0) where
    past : {c : Bool} → c ≡ (get_or r 9 0 ≢? absent and get_or r 11 0 ≡? 1 and no_input ws (get_or r 9 0)) → c ≡ register_unfit ws r
    unfolding register_unfit
    past e = or_skip (ap (no_input ws) (sym ex) ∙ sym eb ∙ fit) e

    pub reset_absent : y ≡ absent → false ≡ register_unfit ws r
    reset_absent e = past (and_miss _ (ne_no _ _ (sym ey ∙ e)))

    module _ (there : (y ≡ absent → ⊥)) {z : ℕ} (ez : z ≡ get_or r 11 0) where
      pub reset_other : (z ≡ 1 → ⊥) → false ≡ register_unfit ws r
      reset_other n = past (and_skip (ne_yes _ _ (λ e. there (ey ∙ e))) (and_miss _ (eq_no _ _ (λ e. n (ez ∙ e)))))

      pub reset_there : z ≡ 1 → {c : Bool} → c ≡ no_input ws y → c ≡ register_unfit ws r
      reset_there e {c} q = past (and_skip (ne_yes _ _ (λ e. there (ey ∙ e))) (and_skip (eq_yes _ _ (sym ez ∙ e)) (q ∙ ap (no_input ws) ey)))

pub clock_at : (ws p : List ℕ) {x n : ℕ} → n ≡ port_length p → x ≡ get_or p (n - 2) 0 → {b : Bool} → b ≡ no_input ws x → b ≡ no_input ws (memory_port_of p).clock
unfolding memory_port_of
clock_at ws p {x} {n} en ex e =
    let l = own_length p in
    let z : n - 2 ≡ 4 + port_lists p + 4 = omega arith in
    e ∙ ap (no_input ws) (ex ∙ ap (λ (k : ℕ). get_or p k 0) z)

module _ (ws r : List ℕ) {p : List ℕ} (ep : p ≡ drop 6 r) {b : Bool} (eb : b ≡ no_input ws (memory_port_of p).clock) where
  first_clock : b ≡ no_input ws (memory_port_of (drop 6 r)).clock
  first_clock = eb ∙ ap (λ (z : List ℕ). no_input ws (memory_port_of z).clock) ep

  pub first_unfit : b ≡ true → true ≡ memory_unfit ws (memory_of r)
  unfolding memory_unfit memory_of
  first_unfit e = or_hit _ (sym first_clock ∙ e)

  module _ (fit : b ≡ false) {y : ℕ} (ey : y ≡ get_or r 5 0) where
    pub no_second : (y ≡ 2 → ⊥) → false ≡ memory_unfit ws (memory_of r)
    unfolding memory_unfit memory_of second_unfit
    no_second n = or_skip (sym first_clock ∙ fit) (sym (ap (second_unfit ws) (sym (pick_skip _ (eq_no _ _ (λ e. n (ey ∙ e))) refl))))

    pub second_clock : y ≡ 2 → {n : ℕ} → n ≡ port_length p → {q : List ℕ} → q ≡ drop (6 + n) r → {c : Bool} → c ≡ no_input ws (memory_port_of q).clock → c ≡ memory_unfit ws (memory_of r)
    unfolding memory_unfit memory_of second_unfit
    second_clock e {n} en {q} eq {c} ec =
        or_skip (sym first_clock ∙ fit) (ec ∙ (ap (λ (z : List ℕ). no_input ws (memory_port_of z).clock) (eq ∙ ap (λ (k : ℕ). drop (6 + k) r) (en ∙ ap port_length ep))
        ∙ ap (second_unfit ws) (pick_hit none (eq_yes _ _ (sym ey ∙ e)) refl)))

-- ---- records at their places ----

pub read_at : (f : List ℕ → Bool) (ws places : List ℕ) (i : ℕ) {a : ℕ} {r : List ℕ} {b : Bool} → a ≡ get_or places i 0 → r ≡ drop a ws → b ≡ f r → b ≡ f (drop (get_or places i 0) ws)
read_at f ws places i ea er eb = eb ∙ ap f (er ∙ ap (λ (k : ℕ). drop k ws) ea)

pub bits_read : (ws places : List ℕ) (i : ℕ) {a : ℕ} {r : List ℕ} {x y : ℕ} → a ≡ get_or places i 0 → r ≡ drop a ws → x ≡ get_or r 2 0 → y ≡ get_or r 7 0 → x * y ≡ bits_at ws places i
bits_read ws places i {a} {r} {x} {y} ea er ex ey =
    let e : r ≡ drop (get_or places i 0) ws = er ∙ ap (λ (k : ℕ). drop k ws) ea in
    ap (λ (z : ℕ). z * y) (ex ∙ ap (λ (l : List ℕ). get_or l 2 0) e) ∙ ap (λ (z : ℕ). get_or (drop (get_or places i 0) ws) 2 0 * z) (ey ∙ ap (λ (l : List ℕ). get_or l 7 0) e)

-- ---- all records of a sort ----

only_none : (f : List ℕ → Bool) (rs : List (List ℕ)) → ((i : ℕ) → i < length rs → f (get_or rs i []) ≡ false) → only f rs ≡ []
unfolding only
only_none f [] h = refl
only_none f (r ∷ rs) h = sym (pick_skip _ (h 0 (omega arith)) (sym (only_none f rs (λ i l. h (suc i) (omega arith)))))

only_some : (f : List ℕ → Bool) (rs : List (List ℕ)) (i : ℕ) → i < length rs → f (get_or rs i []) ≡ true → 0 < length (only f rs)
unfolding only pick
only_some f [] i l e = absurd (omega arith)
only_some f (r ∷ rs) zero l e = let z : (r ∷ only f rs) ≡ pick (f r) (r ∷ only f rs) (only f rs) = pick_hit (only f rs) e refl in let y = ap length z in omega arith
only_some f (r ∷ rs) (suc i) l e = go (f r) (only_some f rs i (omega arith) e)
  where
    go : (b : Bool) → 0 < length (only f rs) → 0 < length (pick b (r ∷ only f rs) (only f rs))
    go true h = omega arith
    go false h = h

pub any_having : (f : List ℕ → Bool) (rs : List (List ℕ)) (p : ℕ → Bool) (n : ℕ) → n ≡ length rs → ((i : ℕ) → i < n → p i ≡ f (get_or rs i [])) → any p n ≡ having f rs
unfolding having
any_having f rs p n en h = same_bool
    (λ e. (let w = any_found p n e in lt_yes 0 (length (only f rs)) (only_some f rs (first p n) (let l = w.0 in omega arith) (sym (h (first p n) w.0) ∙ w.1))))
    (λ e. go (any p n) refl (yes_lt 0 (length (only f rs)) e))
  where
    go : (b : Bool) → any p n ≡ b → 0 < length (only f rs) → any p n ≡ true
    go true e l = e
    go false e l = absurd (let z = ap length (only_none f rs (λ i k. sym (h i (omega arith)) ∙ not_any p n e i (omega arith))) in omega arith)

bits_append : (xs ys : List MemoryCell) → bits_of (xs ++ ys) ≡ bits_of xs + bits_of ys
unfolding bits_of
bits_append [] ys = omega arith
bits_append (x ∷ xs) ys = let e = bits_append xs ys in omega arith

map_append : (xs ys : List (List ℕ)) → map memory_of (xs ++ ys) ≡ map memory_of xs ++ map memory_of ys
map_append [] ys = refl
map_append (x ∷ xs) ys = ap (λ (z : List MemoryCell). memory_of x ∷ z) (map_append xs ys)

pub sum_bits : (rs : List (List ℕ)) (f : ℕ → ℕ) → ((i : ℕ) → i < length rs → f i ≡ bits_of (memory_of (get_or rs i []) ∷ [])) → (i : ℕ) → i ≤ length rs → sum_to f i ≡ bits_of (map memory_of (take i rs))
unfolding sum_to bits_of
sum_bits rs f h zero l = refl
sum_bits rs f h (suc i) l =
    let e = sum_bits rs f h i (omega arith) in
    let g = h i (omega arith) in
    let a = ap (λ (z : List (List ℕ)). bits_of (map memory_of z)) (take-suc rs i [] (omega arith)) ∙ ap bits_of (map_append (take i rs) (get_or rs i [] ∷ [])) ∙ bits_append (map memory_of (take i rs)) (memory_of (get_or rs i []) ∷ []) in
    omega arith

-- ---- of an accepted netlist ----

register_same : (ws r rest : List ℕ) → length r ≡ 13 → register_unfit ws (r ++ rest) ≡ register_unfit ws r
unfolding register_unfit
register_same ws r rest l = rw (get_or-append r rest 0 5 (omega arith), get_or-append r rest 0 9 (omega arith), get_or-append r rest 0 11 (omega arith))

having_map : (f : MemoryCell → Bool) (rs : List (List ℕ)) → having (λ r. f (memory_of r)) rs ≡ having f (map memory_of rs)
unfolding having only pick
having_map f rs = ap (λ (k : ℕ). 0 <? k) (same rs)
  where
    one : (r : List ℕ) (rs : List (List ℕ)) (b : Bool) → length (only (λ r. f (memory_of r)) rs) ≡ length (only f (map memory_of rs))
        → length (pick b (r ∷ only (λ r. f (memory_of r)) rs) (only (λ r. f (memory_of r)) rs)) ≡ length (pick b (memory_of r ∷ only f (map memory_of rs)) (only f (map memory_of rs)))
    one r rs true e = ap suc e
    one r rs false e = e

    same : (rs : List (List ℕ)) → length (only (λ r. f (memory_of r)) rs) ≡ length (only f (map memory_of rs))
    same [] = refl
    same (r ∷ rs) = one r rs (f (memory_of r)) (same rs)

bits_one : (r : List ℕ) → length (memory_of r).first.read_data ≡ get_or r 7 0 → bits_of (memory_of r ∷ []) ≡ get_or r 2 0 * get_or r 7 0
unfolding bits_of memory_of
bits_one r e = ap (λ (k : ℕ). get_or r 2 0 * k + 0) e ∙ (let z : get_or r 2 0 * get_or r 7 0 + 0 ≡ get_or r 2 0 * get_or r 7 0 = omega arith in z)

-- there are no more records than list words
few_records : (ws : List ℕ) → accepts ws ≡ Fine → (t n : ℕ) → n ≡ length (records_with t ws) → n ≤ 65535
few_records ws ok t n e =
    let a = count_few ws ok t in
    let b = few_words ws (told ws ok) in
    omega arith

module _ (ws : List ℕ) (ok : accepts ws ≡ Fine) where
  pub registers_having : {places : List ℕ} {n : ℕ} → Places ws 1 places n → any (λ i. register_unfit ws (drop (get_or places i 0) ws)) n ≡ having (register_unfit ws) (records_with 1 ws)
  registers_having {places} {n} p = any_having (register_unfit ws) (records_with 1 ws) (λ i. register_unfit ws (drop (get_or places i 0) ws)) n p.count (λ i h.
      (let c = p.count in
      let f = found ws (told ws ok) 1 i (omega arith) in
      let b = subst (λ (z : List ℕ). Begins ws (get_or places i 0) z) f.is (p.at i h) in
      let t = register_told ws f.earlier f.r f.here (has_word f.here) f.sort in
      ap (register_unfit ws) b.is ∙ register_same ws f.r b.rest t.long ∙ ap (register_unfit ws) (sym f.is)))

  -- memory i, read where it begins
  record MemoryAt (places : List ℕ) (i : ℕ) : Type 0 where
    pub earlier : List (List ℕ)
    pub r : List ℕ
    pub rest : List ℕ
    pub is : get_or (records_with 2 ws) i [] ≡ r
    pub begins : drop (get_or places i 0) ws ≡ r ++ rest
    pub told : MemoryTold ws earlier r

  memory_at_law : {places : List ℕ} {n : ℕ} → Places ws 2 places n → (i : ℕ) → i < n → MemoryAt places i
  memory_at_law {places} {n} p i h =
      let c = p.count in
      let f = found ws (told ws ok) 2 i (omega arith) in
      let b = subst (λ (z : List ℕ). Begins ws (get_or places i 0) z) f.is (p.at i h) in
      record {
        earlier = f.earlier;
        r = f.r;
        rest = b.rest;
        is = f.is;
        begins = b.is;
        told = memory_told ws f.earlier f.r f.here (has_word f.here) f.sort;
      }

  pub memories_having : {places : List ℕ} {n : ℕ} → Places ws 2 places n
      → any (λ i. memory_unfit ws (memory_of (drop (get_or places i 0) ws))) n ≡ having (memory_unfit ws) (map memory_of (records_with 2 ws))
  memories_having {places} {n} p =
      any_having (λ r. memory_unfit ws (memory_of r)) (records_with 2 ws) (λ i. memory_unfit ws (memory_of (drop (get_or places i 0) ws))) n p.count (λ i h.
      (let m = memory_at_law p i h in
      ap (λ (z : List ℕ). memory_unfit ws (memory_of z)) m.begins ∙ ap (memory_unfit ws) (memory_cut m.told m.rest) ∙ ap (λ (z : List ℕ). memory_unfit ws (memory_of z)) (sym m.is)))
      ∙ having_map (memory_unfit ws) (records_with 2 ws)

  -- the bits of memory i
  bits_at_law : {places : List ℕ} {i : ℕ} (m : MemoryAt places i) → (bits_at ws places i ≡ get_or m.r 2 0 * get_or m.r 7 0) × (length (memory_of m.r).first.read_data ≡ get_or m.r 7 0)
  unfolding memory_of memory_port_of
  bits_at_law {places} {i} m =
      let t = m.told in
      let l = t.first.long in
      let n = own_length (drop 6 m.r) in
      let s = lists_are (drop 6 m.r) in
      let d = length-drop 6 m.r in
      let e : get_or (drop 6 m.r) 1 0 ≡ get_or m.r 7 0 = get_or-drop 6 m.r 1 0 in
      let a = length-take (get_or (drop 6 m.r) 1 0) (drop (4 + get_or (drop 6 m.r) 0 0) (drop 6 m.r)) in
      let b = length-drop (4 + get_or (drop 6 m.r) 0 0) (drop 6 m.r) in (
        ap (λ (z : List ℕ). get_or z 2 0 * get_or z 7 0) m.begins ∙ ap (λ (z : ℕ). z * get_or (m.r ++ m.rest) 7 0) (get_or-append m.r m.rest 0 2 (omega arith))
            ∙ ap (λ (z : ℕ). get_or m.r 2 0 * z) (get_or-append m.r m.rest 0 7 (omega arith)),
        omega arith,
      )

  pub memories_small : {places : List ℕ} {n : ℕ} → Places ws 2 places n → Small ws places n
  memories_small {places} {n} p = record {
    few = few_records ws ok 2 n p.count;
    each = λ i h. (
        let m = memory_at_law p i h in
        let e = (bits_at_law m).0 in
        let d = m.told.depth.1 in
        let w = m.told.first.narrow in
        let z : get_or m.r 2 0 * get_or m.r 7 0 ≤ 65536 * 1024 = mul-le-mul d w in
        omega arith);
  }

  pub memories_bits : {places : List ℕ} {n : ℕ} → Places ws 2 places n → sum_to (bits_at ws places) n ≡ bits_of (map memory_of (records_with 2 ws))
  memories_bits {places} {n} p =
      let c = p.count in
      sum_bits (records_with 2 ws) (bits_at ws places) (λ i h. one i (omega arith)) n (omega arith) ∙ ap (λ (z : List (List ℕ)). bits_of (map memory_of z)) (take_all n (records_with 2 ws) (omega arith))
    where
      one : (i : ℕ) → i < n → bits_at ws places i ≡ bits_of (memory_of (get_or (records_with 2 ws) i []) ∷ [])
      one i h =
          let m = memory_at_law p i h in
          let b = bits_at_law m in
          b.0 ∙ sym (bits_one m.r b.1) ∙ ap (λ (z : List ℕ). bits_of (memory_of z ∷ [])) (sym m.is)

  -- the answer
  module _ {registers : List ℕ} {n : ℕ} (p : Places ws 1 registers n) {memories : List ℕ} {m : ℕ} (q : Places ws 2 memories m) where
    pub unfit_register : {b : Bool} → b ≡ any (λ i. register_unfit ws (drop (get_or registers i 0) ws)) n → b ≡ true → true ≡ unfit 65536 ws
    unfolding unfit
    unfit_register e t = or_hit _ (sym (e ∙ registers_having p) ∙ t)

    module _ {b : Bool} (eb : b ≡ any (λ i. register_unfit ws (drop (get_or registers i 0) ws)) n) (fb : b ≡ false) where
      pub unfit_memory : {c : Bool} → c ≡ any (λ i. memory_unfit ws (memory_of (drop (get_or memories i 0) ws))) m → c ≡ true → true ≡ unfit 65536 ws
      unfolding unfit
      unfit_memory e t = or_skip (sym (eb ∙ registers_having p) ∙ fb) (or_hit _ (sym (e ∙ memories_having q) ∙ t))

      pub unfit_bits : {c : Bool} → c ≡ any (λ i. memory_unfit ws (memory_of (drop (get_or memories i 0) ws))) m → c ≡ false → {k : ℕ} → k ≡ sum_to (bits_at ws memories) m → ltb 65536 k ≡ unfit 65536 ws
      unfolding unfit
      unfit_bits e f ek = or_skip (sym (eb ∙ registers_having p) ∙ fb) (or_skip (sym (e ∙ memories_having q) ∙ f) (lt_same refl (ek ∙ memories_bits q)))

pub sum_all : (ws places : List ℕ) {count i k : ℕ} → i ≤ count → count ≤ i → k ≡ sum_to (bits_at ws places) i → k ≡ sum_to (bits_at ws places) count
sum_all ws places h l e = e ∙ ap (sum_to (bits_at ws places)) (omega arith)
