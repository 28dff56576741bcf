-- The values of an accepted netlist's sources, and the records that the step rule finds for them. Assumes nothing.
use Rattle.std.specs.Prelude.{ℕ, zero, suc, ◌+◌, ◌-◌, ◌<◌, ◌≡◌, Bool, false, cond, ◌&&◌, length, take, drop}
use Rattle.std.proofs.Common.{not-suc-le-zero, arith, ◌∙◌, length-take, length-drop, get_or-take, get_or-drop}
use Rattle.std.proofs.Math.Path.{refl, sym, ap}
use Rattle.std.proofs.Math.Bool.{true}
use mathlib.Core.List.{List, [], ◌∷◌, map}
use Rattle.std.proofs.Math.Option.{some}
use Rattle.std.proofs.Math.Dec.{eqb}
use borrow.Author.Tests.{eqb-true, eq-eqb, ne_eqb}
use Rattle.std.proofs.Math.ListN.{get_or}
use Rattle.spec_rtl.specs.Word.{bit}
use Rattle.spec_tests.specs.Rules.{◌≡?◌, Fine}
use Rattle.spec_tests.specs.Laws.{eq_yes, eq_no}
use Rattle.spec_rules.specs.NetlistImage as N
use Rattle.spec_rules.specs.NetlistImage.{node_word, node_at_of, records_with, register_bit_of, memory_port_of, memory_of, netlist}
use Rattle.spec_rules.specs.Step.{Setting, Contents, net, node_value, find_bit, find_memory, data_width, memory_bit}
use Rattle.spec_netlist.specs.Accept.{belongs, member, second_data, own_nets, accepts}
use Rattle.law_told.specs.Told.{untrue, pick_yes, pick_no, Told, told}
use Rattle.law_told.proofs.Told.{owner}
use Rattle.law_told.specs.Members.{member_here}
use Rattle.law_told.specs.Ordered.{belongs_cell}
use Rattle.law_told.proofs.Ordered.{ordered}
use Rattle.law_told.specs.Ports.{unique}
use Rattle.law_reads.specs.Reads.{net_is, member_there, member_left}
use Rattle.law_sorts.specs.Found.{Found, found, has_word}
use Rattle.law_sorts.specs.Registers.{RegisterTold, register_told}
use Rattle.law_sorts.specs.Memories.{MemoryTold, memory_told, own_length}
use Rattle.law_sorts.specs.Cut.{lists_are}
use Rattle.law_sorts.specs.Owners.{earlier_taken}
use Rattle.trace_pass.specs.Plan.{size}
use Rattle.trace_pass.specs.Steps.{node_is}

pub on_bit : (b : Bool) → (bit b ≡? 1) ≡ b
unfolding ◌≡?◌
on_bit true = refl
on_bit false = refl

-- ---- values of sources ----

input_node : (ws : List ℕ) (j : ℕ) → node_word ws j 0 ≡ 0 → node_at_of ws j ≡ N.Input (node_word ws j 1) (node_word ws j 2)
unfolding node_at_of N.node_of
input_node ws j e = rw e

register_node : (ws : List ℕ) (j : ℕ) → node_word ws j 0 ≡ 7 → node_at_of ws j ≡ N.RegisterOutput (node_word ws j 1) (node_word ws j 2)
unfolding node_at_of N.node_of
register_node ws j e = rw e

memory_node : (ws : List ℕ) (j : ℕ) → node_word ws j 0 ≡ 9 → node_at_of ws j ≡ N.MemoryOutput (node_word ws j 1) (node_word ws j 2)
unfolding node_at_of N.node_of
memory_node ws j e = rw e

-- ---- what a record lists ----

member_at : (xs : List ℕ) (i : ℕ) → i < length xs → member (get_or xs i 0) xs ≡ true
member_at [] i h = absurd (not-suc-le-zero h)
member_at (x ∷ xs) zero h = member_here x xs
member_at (x ∷ xs) (suc i) h = member_there (get_or xs i 0) x xs (member_at xs i (omega arith))

own_register : (r : List ℕ) → get_or r 0 0 ≡ 1 → 3 < length r → member (get_or r 3 0) (own_nets r) ≡ true
unfolding own_nets
own_register r s l =
    let a = length-take 1 (drop 3 r) in
    let b = length-drop 3 r in
    let e : get_or (take 1 (drop 3 r)) 0 0 ≡ get_or r 3 0 = get_or-take 1 (drop 3 r) 0 0 (omega arith) ∙ get_or-drop 3 r 0 0 in
    ap (member (get_or r 3 0)) (pick_no (get_or r 0 0 ≡? 0) _ _ (eq_no _ 0 (λ z. omega arith)) ∙ pick_yes (get_or r 0 0 ≡? 1) _ _ (eq_yes _ 1 s))
    ∙ ap (λ (z : ℕ). member z (take 1 (drop 3 r))) (sym e) ∙ member_at (take 1 (drop 3 r)) 0 (omega arith)

-- the first bit of a memory's read data
abbrev first_data_law : List ℕ → ℕ
first_data_law r = get_or (drop 6 r) (4 + get_or (drop 6 r) 0 0 + 0) 0

own_data : {ws : List ℕ} {earlier : List (List ℕ)} {r : List ℕ} → get_or r 0 0 ≡ 2 → MemoryTold ws earlier r → member (first_data_law r) (own_nets r) ≡ true
unfolding own_nets memory_of memory_port_of
own_data {r = r} s t =
    let p = drop 6 r in
    let a = get_or p 0 0 in
    let b = get_or p 1 0 in
    let l = t.first.long in
    let n = own_length p in
    let k = lists_are p in
    let x = t.first.some in
    let y = t.first.wide in
    let c = length-take b (drop (4 + a) p) in
    let d = length-drop (4 + a) p in
    let e : get_or (take b (drop (4 + a) p)) 0 0 ≡ first_data_law r = get_or-take b (drop (4 + a) p) 0 0 (omega arith) ∙ get_or-drop (4 + a) p 0 0 in
    ap (member (first_data_law r)) (pick_no (get_or r 0 0 ≡? 0) _ _ (eq_no _ 0 (λ z. omega arith)) ∙ pick_no (get_or r 0 0 ≡? 1) _ _ (eq_no _ 1 (λ z. omega arith)) ∙ pick_yes (get_or r 0 0 ≡? 2) _ _ (eq_yes _ 2 s))
    ∙ member_left (first_data_law r) (take b (drop (4 + a) p)) (second_data (memory_of r).second) (ap (λ (z : ℕ). member z (take b (drop (4 + a) p))) (sym e) ∙ member_at (take b (drop (4 + a) p)) 0 (omega arith))

module _ (ws : List ℕ) (ok : accepts ws ≡ Fine) (s : Setting) (c : Contents) (j : ℕ) (h : j < size ws) where
  as_node : net (netlist ws) s c j ≡ node_value (netlist ws) s c (net (netlist ws) s c) (node_at_of ws j)
  as_node = net_is (netlist ws) (ordered ws ok) s c j h ∙ ap (node_value (netlist ws) s c (net (netlist ws) s c)) (node_is ws j h)

  pub input_net : node_word ws j 0 ≡ 0 → net (netlist ws) s c j ≡ s (node_word ws j 1) (node_word ws j 2)
  input_net e = as_node ∙ ap (node_value (netlist ws) s c (net (netlist ws) s c)) (input_node ws j e)

  pub register_net : node_word ws j 0 ≡ 7 → net (netlist ws) s c j ≡ c.reg (node_word ws j 1) (node_word ws j 2)
  register_net e = as_node ∙ ap (node_value (netlist ws) s c (net (netlist ws) s c)) (register_node ws j e)

  pub memory_net : node_word ws j 0 ≡ 9 → net (netlist ws) s c j ≡ memory_bit c (node_word ws j 1) (data_width (netlist ws) (node_word ws j 1)) (node_word ws j 2)
  memory_net e = as_node ∙ ap (node_value (netlist ws) s c (net (netlist ws) s c)) (memory_node ws j e)

-- ---- the first record that matches ----

find_bit_law : (rs : List (List ℕ)) (m k i : ℕ) → m < length rs → (eqb (get_or (get_or rs m []) 1 0) k && eqb (get_or (get_or rs m []) 2 0) i) ≡ true
    → ((q : ℕ) → q < m → (eqb (get_or (get_or rs q []) 1 0) k && eqb (get_or (get_or rs q []) 2 0) i) ≡ false) → find_bit (map register_bit_of rs) k i ≡ some (register_bit_of (get_or rs m []))
unfolding register_bit_of
find_bit_law [] m k i h e f = absurd (not-suc-le-zero h)
find_bit_law (r ∷ rs) zero k i h e f = ap (λ (b : Bool). cond b (some (register_bit_of r)) (find_bit (map register_bit_of rs) k i)) e
find_bit_law (r ∷ rs) (suc m) k i h e f =
    ap (λ (b : Bool). cond b (some (register_bit_of r)) (find_bit (map register_bit_of rs) k i)) (f 0 (omega arith)) ∙ find_bit_law rs m k i (omega arith) e (λ q l. f (suc q) (omega arith))

find_cell_law : (rs : List (List ℕ)) (m k : ℕ) → m < length rs → eqb (get_or (get_or rs m []) 1 0) k ≡ true → ((q : ℕ) → q < m → eqb (get_or (get_or rs q []) 1 0) k ≡ false)
    → find_memory (map memory_of rs) k ≡ some (memory_of (get_or rs m []))
unfolding memory_of
find_cell_law [] m k h e f = absurd (not-suc-le-zero h)
find_cell_law (r ∷ rs) zero k h e f = ap (λ (b : Bool). cond b (some (memory_of r)) (find_memory (map memory_of rs) k)) e
find_cell_law (r ∷ rs) (suc m) k h e f = ap (λ (b : Bool). cond b (some (memory_of r)) (find_memory (map memory_of rs) k)) (f 0 (omega arith)) ∙ find_cell_law rs m k (omega arith) e (λ q l. f (suc q) (omega arith))

both_same : (a b k i : ℕ) → (eqb a k && eqb b i) ≡ true → (a ≡ k) × (b ≡ i)
both_same a b k i e = go (eqb a k) refl e
  where
    go : (c : Bool) → eqb a k ≡ c → (c && eqb b i) ≡ true → (a ≡ k) × (b ≡ i)
    go true f g = (eqb-true a k f, eqb-true b i g)
    go false f g = untrue g

not_both : (a b k i : ℕ) → ((a ≡ k) × (b ≡ i) → ⊥) → (eqb a k && eqb b i) ≡ false
not_both a b k i n = go (eqb a k && eqb b i) refl
  where
    go : (c : Bool) → (eqb a k && eqb b i) ≡ c → c ≡ false
    go true f = absurd (n (both_same a b k i f))
    go false f = refl

module _ (ws : List ℕ) (ok : accepts ws ≡ Fine) where
  t : Told ws
  t = told ws ok

  -- record m of the registers
  pub record RegisterAt (m : ℕ) : Type 0 where
    pub it : Found ws 1 m
    pub told : RegisterTold ws it.earlier it.r

  pub register_at_law : (m : ℕ) → m < length (records_with 1 ws) → RegisterAt m
  register_at_law m h = let f = found ws t 1 m h in record { it = f; told = register_told ws f.earlier f.r f.here (has_word f.here) f.sort }

  pub find_register : (m : ℕ) (h : m < length (records_with 1 ws)) → find_bit (netlist ws).registers (get_or (register_at_law m h).it.r 1 0) (get_or (register_at_law m h).it.r 2 0) ≡ some (register_bit_of (register_at_law m h).it.r)
  unfolding netlist
  find_register m h =
      let a = register_at_law m h in
      find_bit_law (records_with 1 ws) m (get_or a.it.r 1 0) (get_or a.it.r 2 0) h (ap (λ (z : List ℕ). eqb (get_or z 1 0) (get_or a.it.r 1 0) && eqb (get_or z 2 0) (get_or a.it.r 2 0)) a.it.is ∙ self (get_or a.it.r 1 0) (get_or a.it.r 2 0))
      (λ q l. not_both (get_or (get_or (records_with 1 ws) q []) 1 0) (get_or (get_or (records_with 1 ws) q []) 2 0) (get_or a.it.r 1 0) (get_or a.it.r 2 0) (λ e. apart q l e)) ∙ ap (λ (z : List ℕ). some (register_bit_of z)) a.it.is
    where
      self : (x y : ℕ) → (eqb x x && eqb y y) ≡ true
      self x y = ap (λ (b : Bool). b && eqb y y) (eq-eqb x x refl) ∙ eq-eqb y y refl

      apart : (q : ℕ) → q < m → (get_or (get_or (records_with 1 ws) q []) 1 0 ≡ get_or (register_at_law m h).it.r 1 0) × (get_or (get_or (records_with 1 ws) q []) 2 0 ≡ get_or (register_at_law m h).it.r 2 0) → ⊥
      apart q l e =
          let a = register_at_law m h in
          let b = register_at_law q (omega arith) in
          let x = a.told.output in
          let y = b.told.output in
          let same : get_or b.it.r 3 0 ≡ get_or a.it.r 3 0 = unique ws t (get_or b.it.r 3 0) (get_or a.it.r 3 0) y.there x.there (ap belongs x.kind ∙ belongs_cell 7 (omega arith)) (y.kind ∙ sym x.kind)
          (y.owner ∙ (ap (λ (z : List ℕ). get_or z 1 0) (sym b.it.is) ∙ e.0) ∙ sym x.owner) (y.bit ∙ (ap (λ (z : List ℕ). get_or z 2 0) (sym b.it.is) ∙ e.1) ∙ sym x.bit) in
          let n = b.told.long in
          untrue (sym a.told.fresh ∙ earlier_taken b.it a.it l (get_or a.it.r 3 0) (ap (λ (z : ℕ). member z (own_nets b.it.r)) (sym same) ∙ own_register b.it.r b.it.sort (omega arith)))

  -- record m of the memories
  pub record MemoryAt (m : ℕ) : Type 0 where
    pub it : Found ws 2 m
    pub told : MemoryTold ws it.earlier it.r

  pub memory_at_law : (m : ℕ) → m < length (records_with 2 ws) → MemoryAt m
  memory_at_law m h = let f = found ws t 2 m h in record { it = f; told = memory_told ws f.earlier f.r f.here (has_word f.here) f.sort }

  pub find_memory_law : (m : ℕ) (h : m < length (records_with 2 ws)) → find_memory (netlist ws).memories (get_or (memory_at_law m h).it.r 1 0) ≡ some (memory_of (memory_at_law m h).it.r)
  unfolding netlist
  find_memory_law m h =
      let a = memory_at_law m h in
      find_cell_law (records_with 2 ws) m (get_or a.it.r 1 0) h (ap (λ (z : List ℕ). eqb (get_or z 1 0) (get_or a.it.r 1 0)) a.it.is ∙ eq-eqb (get_or a.it.r 1 0) (get_or a.it.r 1 0) refl)
      (λ q l. ne_eqb (get_or (get_or (records_with 2 ws) q []) 1 0) (get_or a.it.r 1 0) (λ e. apart q l e)) ∙ ap (λ (z : List ℕ). some (memory_of z)) a.it.is
    where
      apart : (q : ℕ) → q < m → get_or (get_or (records_with 2 ws) q []) 1 0 ≡ get_or (memory_at_law m h).it.r 1 0 → ⊥
      apart q l e =
          let a = memory_at_law m h in
          let b = memory_at_law q (omega arith) in
          let x = a.told.first.read_data 0 a.told.first.some in
          let y = b.told.first.read_data 0 b.told.first.some in
          let u = first_data_law a.it.r in
          let z = first_data_law b.it.r in
          let same : z ≡ u = unique ws t z u y.there x.there (ap belongs x.kind ∙ belongs_cell 9 (omega arith)) (y.kind ∙ sym x.kind)
          (y.owner ∙ (ap (λ (k : List ℕ). get_or k 1 0) (sym b.it.is) ∙ e) ∙ sym x.owner) (y.bit ∙ sym x.bit) in
          untrue (sym (a.told.first.fresh 0 a.told.first.some) ∙ earlier_taken b.it a.it l u (ap (λ (k : ℕ). member k (own_nets b.it.r)) (sym same) ∙ own_data b.it.sort b.told))
