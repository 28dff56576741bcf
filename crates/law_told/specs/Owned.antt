-- What the record of a net tells of the net's node: the node's kind is that of the record's sort; a cell's record, its number and that its
-- inputs are lower. Assumes nothing.
use Rattle.std.specs.Prelude.{ℕ, suc, ◌+◌, ◌*◌, ◌-◌, ◌≤◌, ◌<◌, ◌≡◌, refl, Bool, not, length, take, drop}
use native.Mathlib.Omega.{arith}
use Rattle.std.proofs.Math.Path.{sym, ap, subst}
use Rattle.std.proofs.Common.{◌∙◌, length-take, length-drop, get_or-take, drop-drop}
use Rattle.std.proofs.Math.Bool.{true, false}
use mathlib.Core.List.{List, [], ◌∷◌, ◌++◌}
use Rattle.std.proofs.Math.Option.{Option, none, some}
use Rattle.std.proofs.Math.ListN.{get_or, get_or-append}
use Rattle.std.proofs.Math.Seq.{get_or-drop}
use Rattle.spec_tests.specs.Rules.{◌<?◌, ◌≡?◌, ◌≢?◌, ◌or◌, ◌and◌, pick}
use Rattle.spec_tests.specs.Laws.{or_no, yes_lt, no_ne, eq_yes, eq_no, yes_eq, lt_yes, lt_no}
use Rattle.spec_rules.specs.Image.{absent}
use Rattle.spec_rules.specs.NetlistImage.{MemoryPort, node_word, port_lists, port_length, memory_port_of, memory_of}
use Rattle.spec_netlist.specs.Accept.{nets, member, second_data, count_of, no_net, not_above, not_own_of, wrong_port, wrong_register, wrong_memory_port, wrong_memory, wrong_arithmetic, wrong_comparison, wrong_word}
use Rattle.law_told.specs.Told.{untrue, or_split, neither, pick_yes, pick_no, RightHere}
use Rattle.law_told.specs.Members.{no_member, member_split}

-- ---- members by number ----

pub record Spot (x : ℕ) (xs : List ℕ) : Type 0 where
  pub at : ℕ
  pub inside : at < length xs
  pub is : get_or xs at 0 ≡ x

pub spot : (x : ℕ) (xs : List ℕ) → member x xs ≡ true → Spot x xs
unfolding member
spot x [] e = untrue e
spot x (y ∷ ys) e = or_split (x ≡? y) (member x ys) e
    (λ h. record { at = 0; inside = omega arith; is = sym (yes_eq x y h) })
    (λ h. let s = spot x ys h in record { at = suc s.at; inside = (let i = s.inside in omega arith); is = s.is })

-- of a stretch of a record
pub record Within (x p w : ℕ) (r : List ℕ) : Type 0 where
  pub at : ℕ
  pub narrow : at < w
  pub inside : p + at < length r
  pub is : get_or r (p + at) 0 ≡ x

pub within : (x p w : ℕ) (r : List ℕ) → member x (take w (drop p r)) ≡ true → Within x p w r
within x p w r e =
    let s = spot x (take w (drop p r)) e in
    let l = length-take w (drop p r) in
    let d = length-drop p r in
    let i = s.inside in
    let n : s.at < w = omega arith in
    record {
      at = s.at;
      narrow = n;
      inside = omega arith;
      is = sym (get_or-drop p r s.at 0) ∙ sym (get_or-take w (drop p r) s.at 0 n) ∙ s.is;
    }

-- ---- a word of a record, by the record's sort ----

module _ (ws : List ℕ) (earlier : List (List ℕ)) (l : List ℕ) (i : ℕ) (some : (i ≡ 0 → ⊥)) where
  pub port_word : get_or l 0 0 ≡ 0 → wrong_word ws earlier l i ≡ wrong_port ws earlier l i
  unfolding wrong_word
  port_word e = pick_no (i ≡? 0) _ _ (eq_no i 0 some) ∙ pick_yes (get_or l 0 0 ≡? 0) _ _ (eq_yes (get_or l 0 0) 0 e)

  pub register_word : get_or l 0 0 ≡ 1 → wrong_word ws earlier l i ≡ wrong_register ws earlier l i
  unfolding wrong_word
  register_word e =
      pick_no (i ≡? 0) _ _ (eq_no i 0 some) ∙ pick_no (get_or l 0 0 ≡? 0) _ _ (eq_no (get_or l 0 0) 0 (λ z. absurd (omega arith)))
      ∙ pick_yes (get_or l 0 0 ≡? 1) _ _ (eq_yes (get_or l 0 0) 1 e)

  pub memory_word : get_or l 0 0 ≡ 2 → wrong_word ws earlier l i ≡ wrong_memory ws earlier l i
  unfolding wrong_word
  memory_word e =
      pick_no (i ≡? 0) _ _ (eq_no i 0 some) ∙ pick_no (get_or l 0 0 ≡? 0) _ _ (eq_no (get_or l 0 0) 0 (λ z. absurd (omega arith)))
      ∙ pick_no (get_or l 0 0 ≡? 1) _ _ (eq_no (get_or l 0 0) 1 (λ z. absurd (omega arith))) ∙ pick_yes (get_or l 0 0 ≡? 2) _ _ (eq_yes (get_or l 0 0) 2 e)

  pub arithmetic_word_law : get_or l 0 0 ≡ 3 → wrong_word ws earlier l i ≡ wrong_arithmetic ws earlier l i
  unfolding wrong_word
  arithmetic_word_law e =
      pick_no (i ≡? 0) _ _ (eq_no i 0 some) ∙ pick_no (get_or l 0 0 ≡? 0) _ _ (eq_no (get_or l 0 0) 0 (λ z. absurd (omega arith)))
      ∙ pick_no (get_or l 0 0 ≡? 1) _ _ (eq_no (get_or l 0 0) 1 (λ z. absurd (omega arith)))
      ∙ pick_no (get_or l 0 0 ≡? 2) _ _ (eq_no (get_or l 0 0) 2 (λ z. absurd (omega arith))) ∙ pick_yes (get_or l 0 0 ≡? 3) _ _ (eq_yes (get_or l 0 0) 3 e)

  pub comparison_word_law : 3 < get_or l 0 0 → wrong_word ws earlier l i ≡ wrong_comparison ws earlier l i
  unfolding wrong_word
  comparison_word_law e =
      pick_no (i ≡? 0) _ _ (eq_no i 0 some) ∙ pick_no (get_or l 0 0 ≡? 0) _ _ (eq_no (get_or l 0 0) 0 (λ z. absurd (omega arith)))
      ∙ pick_no (get_or l 0 0 ≡? 1) _ _ (eq_no (get_or l 0 0) 1 (λ z. absurd (omega arith)))
      ∙ pick_no (get_or l 0 0 ≡? 2) _ _ (eq_no (get_or l 0 0) 2 (λ z. absurd (omega arith))) ∙ pick_no (get_or l 0 0 ≡? 3) _ _ (eq_no (get_or l 0 0) 3 (λ z. absurd (omega arith)))

-- ---- what "its own" says ----

pub record Own (ws : List ℕ) (x k o b : ℕ) : Type 0 where
  pub there : x < nets ws
  pub kind : node_word ws x 0 ≡ k
  pub owner : node_word ws x 1 ≡ o
  pub bit : node_word ws x 2 ≡ b

pub not_false : (b : Bool) → not b ≡ false → b ≡ true
not_false true e = refl
not_false false e = untrue (sym e)

pub own : (ws : List ℕ) (earlier : List (List ℕ)) (x k o b : ℕ) → not_own_of ws earlier x k o b ≡ false → Own ws x k o b
unfolding not_own_of no_net
own ws earlier x k o b e =
    let a = or_no e in
    let c = or_no a.1 in
    let d = or_no c.1 in
    let f = or_no d.1 in
    record {
      there = yes_lt x (nets ws) (not_false (x <? nets ws) a.0);
      kind = no_ne (node_word ws x 0) k c.0;
      owner = no_ne (node_word ws x 1) o d.0;
      bit = no_ne (node_word ws x 2) b f.0;
    }

module _ (ws : List ℕ) (earlier : List (List ℕ)) (r : List ℕ) (h : RightHere ws earlier r) where
  abbrev L : List ℕ
  L = r ++ h.rest

  pub word_in : (i : ℕ) → i < length r → get_or L i 0 ≡ get_or r i 0
  word_in i l = get_or-append r h.rest 0 i l

  -- the sorts of record
  pub register_own : (k : ℕ) → get_or r 0 0 ≡ 1 → Within k 3 1 r → Own ws k 7 (get_or L 1 0) (get_or L 2 0)
  unfolding wrong_register
  register_own k t s =
      let n = s.narrow in
      let i = s.inside in
      let z : s.at ≡ 0 = omega arith in
      let x : get_or L 3 0 ≡ k = word_in 3 (omega arith) ∙ rw z at s.is in
      let e : wrong_register ws earlier L 3 ≡ false = sym (register_word ws earlier L 3 (λ q. absurd (omega arith)) (word_in 0 (omega arith) ∙ t)) ∙ h.right 3 (omega arith) in
      let o = sym (pick_no (3 ≡? 1) _ _ (eq_no 3 1 (λ q. absurd (omega arith))) ∙ pick_no (3 ≡? 2) _ _ (eq_no 3 2 (λ q. absurd (omega arith))) ∙ pick_yes (3 ≡? 3) _ _ (eq_yes 3 3 refl)) ∙ e in
      own ws earlier k 7 (get_or L 1 0) (get_or L 2 0) (rw x at o)

  pub port_own : (k w : ℕ) → get_or r 0 0 ≡ 0 → Within k 3 w r
      → ((node_word ws (get_or L 3 0) 0 ≢? 0 and node_word ws (get_or L 3 0) 0 ≢? 8) ≡ false) × (node_word ws k 0 ≡ node_word ws (get_or L 3 0) 0)
  unfolding wrong_port
  port_own k w t s =
      let i = 3 + s.at in
      let n = s.inside in
      let x : get_or L i 0 ≡ k = word_in i n ∙ s.is in
      let e : wrong_port ws earlier L i ≡ false = sym (port_word ws earlier L i (λ q. absurd (omega arith)) (word_in 0 (omega arith) ∙ t)) ∙ h.right i n in
      let o = sym (pick_no (i ≡? 1) _ _ (eq_no i 1 (λ q. absurd (omega arith))) ∙ pick_no (i ≡? 2) _ _ (eq_no i 2 (λ q. absurd (omega arith)))) ∙ e in
      ((or_no o).0, (own ws earlier k _ _ _ (rw x at (or_no o).1)).kind)

  pub record CellOwn (k kind number : ℕ) (inputs : List ℕ) : Type 0 where
    pub node : node_word ws k 0 ≡ kind
    pub owner : node_word ws k 1 ≡ number
    pub above : not_above k inputs ≡ false

  pub arithmetic_own : (k : ℕ) → get_or r 0 0 ≡ 3 → Within k (4 + 2 * get_or r 2 0) (get_or r 2 0) r
      → CellOwn k 10 (count_of 3 earlier) (take (2 * get_or L 2 0) (drop 4 L)) × ((get_or L 3 0 ≢? absent and not (get_or L 3 0 <? k)) ≡ false)
  unfolding wrong_arithmetic
  arithmetic_own k t s =
      let i = 4 + 2 * get_or r 2 0 + s.at in
      let n = s.inside in
      let w : get_or L 2 0 ≡ get_or r 2 0 = word_in 2 (omega arith) in
      let x : get_or L i 0 ≡ k = word_in i n ∙ s.is in
      let e : wrong_arithmetic ws earlier L i ≡ false = sym (arithmetic_word_law ws earlier L i (λ q. absurd (omega arith)) (word_in 0 (omega arith) ∙ t)) ∙ h.right i n in
      let o = sym (pick_no (i ≡? 1) _ _ (eq_no i 1 (λ q. absurd (omega arith))) ∙ pick_no (i ≡? 2) _ _ (eq_no i 2 (λ q. absurd (omega arith)))
      ∙ pick_no (i ≡? 3) _ _ (eq_no i 3 (λ q. absurd (omega arith))) ∙ pick_no (i <? 4 + 2 * get_or L 2 0) _ _ (lt_no i (4 + 2 * get_or L 2 0) (omega arith))) ∙ e in
      let p = or_no o in
      let c = or_no p.1 in
      let q = own ws earlier k 10 (count_of 3 earlier) (i - (4 + 2 * get_or L 2 0)) (rw x at p.0) in
      (record { node = q.kind; owner = q.owner; above = rw x at c.1 }, rw x at c.0)

  pub comparison_own : (k : ℕ) → 3 < get_or r 0 0 → Within k (3 + 2 * get_or r 2 0) 1 r
      → CellOwn k 11 (count_of 4 earlier) (take (2 * get_or L 2 0) (drop 3 L))
  unfolding wrong_comparison
  comparison_own k t s =
      let i = 3 + 2 * get_or r 2 0 + s.at in
      let n = s.inside in
      let w : get_or L 2 0 ≡ get_or r 2 0 = word_in 2 (omega arith) in
      let z : get_or L 0 0 ≡ get_or r 0 0 = word_in 0 (omega arith) in
      let x : get_or L i 0 ≡ k = word_in i n ∙ s.is in
      let e : wrong_comparison ws earlier L i ≡ false = sym (comparison_word_law ws earlier L i (λ q. absurd (omega arith)) (omega arith)) ∙ h.right i n in
      let o = sym (pick_no (i ≡? 1) _ _ (eq_no i 1 (λ q. absurd (omega arith))) ∙ pick_no (i ≡? 2) _ _ (eq_no i 2 (λ q. absurd (omega arith)))
      ∙ pick_no (i <? 3 + 2 * get_or L 2 0) _ _ (lt_no i (3 + 2 * get_or L 2 0) (omega arith))) ∙ e in
      let p = or_no o in
      let q = own ws earlier k 11 (count_of 4 earlier) 0 (rw x at p.0) in
      record { node = q.kind; owner = q.owner; above = rw x at p.1 }

-- ---- memories ----

-- the read data of a port whose words begin p
port_data : (ws : List ℕ) (earlier : List (List ℕ)) (m w base : ℕ) (p : List ℕ) (j : ℕ) → 4 + get_or p 0 0 ≤ j → j < 4 + get_or p 0 0 + get_or p 1 0
    → wrong_memory_port ws earlier m w base p j ≡ false → node_word ws (get_or p j 0) 0 ≡ 9
unfolding wrong_memory_port
port_data ws earlier m w base p j lo hi e =
    let a = 4 + get_or p 0 0 in
    let b = 4 + get_or p 0 0 + get_or p 1 0 in
    let o = sym (pick_no (j ≡? 0 or j ≡? 2) _ _ (neither (j ≡? 0) (j ≡? 2) (eq_no j 0 (λ q. absurd (omega arith))) (eq_no j 2 (λ q. absurd (omega arith))))
    ∙ pick_no (j ≡? 1) _ _ (eq_no j 1 (λ q. absurd (omega arith))) ∙ pick_no (j ≡? 3) _ _ (eq_no j 3 (λ q. absurd (omega arith)))
    ∙ pick_no (j <? a) _ _ (lt_no j a lo) ∙ pick_yes (j <? b) _ _ (lt_yes j b hi)) ∙ e in
    (own ws earlier (get_or p j 0) 9 m (base + (j - a)) o).kind

module _ (ws : List ℕ) (earlier : List (List ℕ)) (r : List ℕ) (h : RightHere ws earlier r) (t : get_or r 0 0 ≡ 2) where
  abbrev M : List ℕ
  M = r ++ h.rest

  pub same_word : (p j : ℕ) → p + j < length r → get_or (drop p M) j 0 ≡ get_or (drop p r) j 0
  same_word p j l = get_or-drop p M j 0 ∙ word_in ws earlier r h (p + j) l ∙ sym (get_or-drop p r j 0)

  -- word i behind the first six, by the port in which it lies
  memory_right : (i : ℕ) → 6 ≤ i → i < length r → wrong_memory ws earlier M i ≡ false
  memory_right i l n = sym (memory_word ws earlier M i (λ q. absurd (omega arith)) (word_in ws earlier r h 0 (omega arith) ∙ t)) ∙ h.right i n

  abbrev q : ℕ
  q = 6 + port_length (drop 6 M)

  pub first_port_law : (i : ℕ) → 6 ≤ i → i < length r → i < q → wrong_memory_port ws earlier (get_or M 1 0) (get_or M 7 0) 0 (drop 6 M) (i - 6) ≡ false
  unfolding wrong_memory
  first_port_law i l n b =
      sym (pick_no (i ≡? 1) _ _ (eq_no i 1 (λ q. absurd (omega arith))) ∙ pick_no (i ≡? 2) _ _ (eq_no i 2 (λ q. absurd (omega arith)))
      ∙ pick_no (i ≡? 3) _ _ (eq_no i 3 (λ q. absurd (omega arith))) ∙ pick_no (i ≡? 4) _ _ (eq_no i 4 (λ q. absurd (omega arith)))
      ∙ pick_no (i ≡? 5) _ _ (eq_no i 5 (λ q. absurd (omega arith))) ∙ pick_yes (i <? q) _ _ (lt_yes i q b)) ∙ memory_right i l n

  pub second_port_law : (i : ℕ) → 6 ≤ i → i < length r → q ≤ i → wrong_memory_port ws earlier (get_or M 1 0) (get_or M 7 0) (get_or M 7 0) (drop q M) (i - q) ≡ false
  unfolding wrong_memory
  second_port_law i l n b =
      sym (pick_no (i ≡? 1) _ _ (eq_no i 1 (λ q. absurd (omega arith))) ∙ pick_no (i ≡? 2) _ _ (eq_no i 2 (λ q. absurd (omega arith)))
      ∙ pick_no (i ≡? 3) _ _ (eq_no i 3 (λ q. absurd (omega arith))) ∙ pick_no (i ≡? 4) _ _ (eq_no i 4 (λ q. absurd (omega arith)))
      ∙ pick_no (i ≡? 5) _ _ (eq_no i 5 (λ q. absurd (omega arith))) ∙ pick_no (i <? q) _ _ (lt_no i q b)) ∙ memory_right i l n

  first_data_law : (k : ℕ) → member k (memory_port_of (drop 6 r)).read_data ≡ true → node_word ws k 0 ≡ 9
  unfolding memory_port_of port_length port_lists
  first_data_law k e =
      let a = get_or (drop 6 r) 0 0 in
      let b = get_or (drop 6 r) 1 0 in
      let s = within k (6 + (4 + a)) b r (ap (λ (z : List ℕ). member k (take b z)) (sym (drop-drop (4 + a) 6 r)) ∙ e) in
      let n = s.inside in
      let c = s.narrow in
      let u : get_or (drop 6 M) 0 0 ≡ a = same_word 6 0 (omega arith) in
      let v : get_or (drop 6 M) 1 0 ≡ b = same_word 6 1 (omega arith) in
      let i = 6 + (4 + a) + s.at in
      let j : i - 6 ≡ 4 + a + s.at = omega arith in
      let x : get_or (drop 6 M) (i - 6) 0 ≡ k = get_or-drop 6 M (i - 6) 0 ∙ ap (λ (z : ℕ). get_or M z 0) {y = i} (omega arith) ∙ word_in ws earlier r h i n ∙ s.is in
      rw x at (port_data ws earlier (get_or M 1 0) (get_or M 7 0) 0 (drop 6 M) (i - 6) (omega arith) (omega arith) (first_port_law i (omega arith) n (omega arith)))

  second_data_law : (k : ℕ) → member k (memory_port_of (drop (6 + port_length (drop 6 r)) r)).read_data ≡ true → node_word ws k 0 ≡ 9
  unfolding memory_port_of port_length port_lists
  second_data_law k e =
      let Q = 6 + port_length (drop 6 r) in
      let a = get_or (drop Q r) 0 0 in
      let b = get_or (drop Q r) 1 0 in
      let s = within k (Q + (4 + a)) b r (ap (λ (z : List ℕ). member k (take b z)) (sym (drop-drop (4 + a) Q r)) ∙ e) in
      let n = s.inside in
      let c = s.narrow in
      let w0 = same_word 6 0 (omega arith) in
      let w1 = same_word 6 1 (omega arith) in
      let w2 = same_word 6 2 (omega arith) in
      let w3 = same_word 6 3 (omega arith) in
      let g : q ≡ Q = omega arith in
      let u : get_or (drop Q M) 0 0 ≡ a = same_word Q 0 (omega arith) in
      let v : get_or (drop Q M) 1 0 ≡ b = same_word Q 1 (omega arith) in
      let i = Q + (4 + a) + s.at in
      let x : get_or (drop Q M) (i - Q) 0 ≡ k =
      get_or-drop Q M (i - Q) 0 ∙ (let f : Q + (i - Q) ≡ i = omega arith in ap (λ (z : ℕ). get_or M z 0) f) ∙ word_in ws earlier r h i n ∙ s.is in
      let right : wrong_memory_port ws earlier (get_or M 1 0) (get_or M 7 0) (get_or M 7 0) (drop Q M) (i - Q) ≡ false =
      subst (λ (z : ℕ). wrong_memory_port ws earlier (get_or M 1 0) (get_or M 7 0) (get_or M 7 0) (drop z M) (i - z) ≡ false) g (second_port_law i (omega arith) n (omega arith)) in
      rw x at (port_data ws earlier (get_or M 1 0) (get_or M 7 0) (get_or M 7 0) (drop Q M) (i - Q) (omega arith) (omega arith) right)

  pub memory_own : (k : ℕ) → member k ((memory_of r).first.read_data ++ second_data (memory_of r).second) ≡ true → node_word ws k 0 ≡ 9
  unfolding memory_of second_data
  memory_own k e = member_split k (memory_port_of (drop 6 r)).read_data (second_data (memory_of r).second) e (first_data_law k) (at (get_or r 5 0 ≡? 2))
    where
      at : (b : Bool) → member k (second_data (pick b (some (memory_port_of (drop (6 + port_length (drop 6 r)) r))) none)) ≡ true → node_word ws k 0 ≡ 9
      at true m = second_data_law k (ap (λ (o : Option MemoryPort). member k (second_data o)) (sym (pick_yes true (some (memory_port_of (drop (6 + port_length (drop 6 r)) r))) none refl)) ∙ m)
      at false m = no_member k (ap (λ (o : Option MemoryPort). member k (second_data o)) (sym (pick_no false (some (memory_port_of (drop (6 + port_length (drop 6 r)) r))) none refl)) ∙ m)
