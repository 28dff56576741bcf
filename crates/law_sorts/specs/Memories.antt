-- What a memory's record tells, port by port. Assumes nothing.
use Rattle.std.specs.Prelude.{ℕ, ◌+◌, ◌-◌, ◌≤◌, ◌<◌, ◌≡◌, List, ◌++◌, length, drop}
use native.Mathlib.Omega.{arith}
use Rattle.std.proofs.Math.Path.{refl, sym}
use Rattle.std.proofs.Common.{ap, subst, ◌∙◌, drop-drop}
use Rattle.std.proofs.Math.Bool.{false}
use Rattle.std.proofs.Math.ListN.{get_or, length-drop}
use Rattle.spec_tests.specs.Rules.{◌<?◌, ◌≡?◌, ◌≢?◌, ◌or◌, pick, outside}
use Rattle.spec_tests.specs.Laws.{or_left, or_right, or_no, no_lt, no_ne, eq_yes, eq_no, lt_yes, lt_no, inside}
use Rattle.spec_rules.specs.Image.{absent}
use Rattle.spec_rules.specs.NetlistImage.{port_lists, port_length}
use Rattle.spec_netlist.specs.Accept.{nets, taken, no_net, no_optional, not_own_of, wrong_level, wrong_memory_port, wrong_memory}
use Rattle.law_told.specs.Told.{neither, pick_yes, pick_no, RightHere, memory_length_law}
use Rattle.law_told.specs.Owned.{Own, own, word_in, memory_word, same_word, first_port_law, second_port_law}
use Rattle.law_told.specs.Ports.{fresh_of}
use Rattle.law_sorts.specs.Cells.{some_net, some_optional}

-- ---- a port's words p: memory m of data width w, read data being the bits from base on ----

pub record MemoryPortTold (ws : List ℕ) (earlier : List (List ℕ)) (m w base : ℕ) (p : List ℕ) : Type 0 where
  pub long : port_length p ≤ length p
  pub address : get_or p 0 0 ≤ 32
  pub wide : get_or p 1 0 ≡ w
  pub some : 1 ≤ w
  pub narrow : w ≤ 1024
  pub write_address : get_or p 2 0 ≤ 32
  pub data_wide : get_or p 3 0 ≡ w
  pub read_net : (i : ℕ) → i < get_or p 0 0 → get_or p (4 + i) 0 < nets ws
  pub read_data : (i : ℕ) → i < w → Own ws (get_or p (4 + get_or p 0 0 + i) 0) 9 m (base + i)
  pub fresh : (i : ℕ) → i < w → taken earlier (get_or p (4 + get_or p 0 0 + i) 0) ≡ false
  pub write_net : (i : ℕ) → i < get_or p 2 0 + get_or p 3 0 → get_or p (4 + get_or p 0 0 + get_or p 1 0 + i) 0 < nets ws
  pub read_enable : (get_or p (4 + port_lists p) 0 ≡ absent → ⊥) → get_or p (4 + port_lists p) 0 < nets ws
  pub write_enable : get_or p (4 + port_lists p + 2) 0 < nets ws
  pub clock : get_or p (4 + port_lists p + 4) 0 < nets ws

pub own_length : (p : List ℕ) → port_length p ≡ 10 + port_lists p
unfolding port_length
own_length p = omega arith

module _ (ws : List ℕ) (earlier : List (List ℕ)) (m w base : ℕ) (P p : List ℕ) (same : (i : ℕ) → i < length p → get_or P i 0 ≡ get_or p i 0) (fits : port_length P ≤ length p)
    (right : (i : ℕ) → i < port_length P → wrong_memory_port ws earlier m w base P i ≡ false) where
  lists : port_lists p ≡ port_lists P
  unfolding port_lists port_length
  lists =
      let f = fits in
      let a = same 0 (omega arith) in
      let b = same 1 (omega arith) in
      let c = same 2 (omega arith) in
      let d = same 3 (omega arith) in
      omega arith

  its_length : port_length P ≡ 10 + port_lists p
  unfolding port_length
  its_length = let l = lists in omega arith

  in_p : (i : ℕ) → i < 10 + port_lists p → get_or P i 0 ≡ get_or p i 0
  in_p i l = same i (let e = its_length in let f = fits in omega arith)

  test : (i : ℕ) → i < 10 + port_lists p → wrong_memory_port ws earlier m w base P i ≡ false
  test i l = right i (let e = its_length in omega arith)

  address_of : get_or p 0 0 ≤ 32
  unfolding wrong_memory_port ◌≡?◌ ◌or◌ pick
  address_of = let e = in_p 0 (omega arith) in let a = (inside (get_or P 0 0) 1 32 (test 0 (omega arith))).1 in omega arith

  wide_of : (get_or p 1 0 ≡ w) × ((1 ≤ w) × (w ≤ 1024))
  unfolding wrong_memory_port
  wide_of =
      let e = in_p 1 (omega arith) in
      let t : (outside (get_or P 1 0) 1 1024 or get_or P 1 0 ≢? w) ≡ false =
      sym (pick_no (1 ≡? 0 or 1 ≡? 2) _ _ (neither (1 ≡? 0) (1 ≡? 2) (eq_no 1 0 (λ z. omega arith)) (eq_no 1 2 (λ z. omega arith))) ∙ pick_yes (1 ≡? 1) _ _ (eq_yes 1 1 refl))
      ∙ test 1 (omega arith) in
      let a = inside (get_or P 1 0) 1 1024 (or_no t).0 in
      let lo = a.0 in
      let hi = a.1 in
      let b = no_ne (get_or P 1 0) w (or_no t).1 in
      (omega arith, (omega arith, omega arith))

  write_of : get_or p 2 0 ≤ 32
  unfolding wrong_memory_port ◌≡?◌ ◌or◌ pick
  write_of = let e = in_p 2 (omega arith) in let a = (inside (get_or P 2 0) 1 32 (test 2 (omega arith))).1 in omega arith

  data_of : get_or p 3 0 ≡ w
  unfolding wrong_memory_port ◌≡?◌ ◌or◌ pick
  data_of = let e = in_p 3 (omega arith) in let a = no_ne (get_or P 3 0) w (test 3 (omega arith)) in omega arith

  -- words behind the four widths
  lists_sum : port_lists p ≡ get_or p 0 0 + get_or p 1 0 + get_or p 2 0 + get_or p 3 0
  unfolding port_lists
  lists_sum = refl

  a_is : 4 + get_or P 0 0 ≡ 4 + get_or p 0 0
  a_is = let e = in_p 0 (omega arith) in omega arith

  b_is : 4 + get_or P 0 0 + get_or P 1 0 ≡ 4 + get_or p 0 0 + get_or p 1 0
  b_is = let e = in_p 0 (omega arith) in let f = in_p 1 (omega arith) in omega arith

  e_is : 4 + port_lists P ≡ 4 + port_lists p
  e_is = let l = lists in omega arith

  -- the chain of tests for word i, from the fifth on
  past_widths : (i : ℕ) → 4 ≤ i → i < 10 + port_lists p → pick (i <? 4 + get_or P 0 0) (no_net ws (get_or P i 0)) (pick (i <? 4 + get_or P 0 0 + get_or P 1 0)
      (not_own_of ws earlier (get_or P i 0) 9 m (base + (i - (4 + get_or P 0 0)))) (pick (i <? 4 + port_lists P) (no_net ws (get_or P i 0)) (pick (i ≡? 4 + port_lists P) (no_optional ws (get_or P i 0))
      (pick (i ≡? 4 + port_lists P + 1) (wrong_level (get_or P (4 + port_lists P) 0) (get_or P i 0)) (pick (i ≡? 4 + port_lists P + 2 or i ≡? 4 + port_lists P + 4) (no_net ws (get_or P i 0)) (1 <? get_or P i 0)))))) ≡ false
  unfolding wrong_memory_port
  past_widths i l n =
      sym (pick_no (i ≡? 0 or i ≡? 2) _ _ (neither (i ≡? 0) (i ≡? 2) (eq_no i 0 (λ z. omega arith)) (eq_no i 2 (λ z. omega arith)))
      ∙ pick_no (i ≡? 1) _ _ (eq_no i 1 (λ z. omega arith)) ∙ pick_no (i ≡? 3) _ _ (eq_no i 3 (λ z. omega arith))) ∙ test i n

  read_net_law : (i : ℕ) → i < get_or p 0 0 → get_or p (4 + i) 0 < nets ws
  read_net_law i l =
      let s = lists_sum in
      let a = a_is in
      let e = in_p (4 + i) (omega arith) in
      let g = some_net ws (get_or P (4 + i) 0) (sym (pick_yes (4 + i <? 4 + get_or P 0 0) _ _ (lt_yes _ _ (omega arith))) ∙ past_widths (4 + i) (omega arith) (omega arith)) in
      omega arith

  not_own : (i : ℕ) → i < get_or p 1 0 → not_own_of ws earlier (get_or p (4 + get_or p 0 0 + i) 0) 9 m (base + i) ≡ false
  not_own i l =
      let s = lists_sum in
      let a = a_is in
      let b = b_is in
      let j = 4 + get_or p 0 0 + i in
      let e = in_p j (omega arith) in
      let z : j - (4 + get_or P 0 0) ≡ i = omega arith in
      let g : not_own_of ws earlier (get_or P j 0) 9 m (base + (j - (4 + get_or P 0 0))) ≡ false =
      sym (pick_no (j <? 4 + get_or P 0 0) _ _ (lt_no _ _ (omega arith)) ∙ pick_yes (j <? 4 + get_or P 0 0 + get_or P 1 0) _ _ (lt_yes _ _ (omega arith))) ∙ past_widths j (omega arith) (omega arith) in
      rw (e, z) at g

  write_net_law : (i : ℕ) → i < get_or p 2 0 + get_or p 3 0 → get_or p (4 + get_or p 0 0 + get_or p 1 0 + i) 0 < nets ws
  write_net_law i l =
      let s = lists_sum in
      let a = a_is in
      let b = b_is in
      let c = e_is in
      let j = 4 + get_or p 0 0 + get_or p 1 0 + i in
      let e = in_p j (omega arith) in
      let g = some_net ws (get_or P j 0) (sym (pick_no (j <? 4 + get_or P 0 0) _ _ (lt_no _ _ (omega arith)) ∙ pick_no (j <? 4 + get_or P 0 0 + get_or P 1 0) _ _ (lt_no _ _ (omega arith))
      ∙ pick_yes (j <? 4 + port_lists P) _ _ (lt_yes _ _ (omega arith))) ∙ past_widths j (omega arith) (omega arith)) in
      omega arith

  -- the six words behind the lists
  behind : (k : ℕ) → k < 6 → pick (4 + port_lists P + k ≡? 4 + port_lists P) (no_optional ws (get_or P (4 + port_lists P + k) 0))
      (pick (4 + port_lists P + k ≡? 4 + port_lists P + 1) (wrong_level (get_or P (4 + port_lists P) 0) (get_or P (4 + port_lists P + k) 0))
      (pick (4 + port_lists P + k ≡? 4 + port_lists P + 2 or 4 + port_lists P + k ≡? 4 + port_lists P + 4) (no_net ws (get_or P (4 + port_lists P + k) 0)) (1 <? get_or P (4 + port_lists P + k) 0))) ≡ false
  behind k l =
      let s = lists_sum in
      let a = a_is in
      let b = b_is in
      let c = e_is in
      let j = 4 + port_lists P + k in
      sym (pick_no (j <? 4 + get_or P 0 0) _ _ (lt_no _ _ (omega arith)) ∙ pick_no (j <? 4 + get_or P 0 0 + get_or P 1 0) _ _ (lt_no _ _ (omega arith))
      ∙ pick_no (j <? 4 + port_lists P) _ _ (lt_no _ _ (omega arith))) ∙ past_widths j (omega arith) (omega arith)

  read_enable_law : (get_or p (4 + port_lists p) 0 ≡ absent → ⊥) → get_or p (4 + port_lists p) 0 < nets ws
  read_enable_law n =
      let c = e_is in
      let z : 4 + port_lists P + 0 ≡ 4 + port_lists p = omega arith in
      let e = ap (λ (k : ℕ). get_or P k 0) z ∙ in_p (4 + port_lists p) (omega arith) in
      let g = some_optional ws (get_or P (4 + port_lists P + 0) 0) (sym (pick_yes (4 + port_lists P + 0 ≡? 4 + port_lists P) _ _ (eq_yes _ _ (omega arith))) ∙ behind 0 (omega arith)) (λ y. n (sym e ∙ y)) in
      omega arith

  write_enable_law : get_or p (4 + port_lists p + 2) 0 < nets ws
  write_enable_law =
      let c = e_is in
      let z : 4 + port_lists P + 2 ≡ 4 + port_lists p + 2 = omega arith in
      let e = ap (λ (k : ℕ). get_or P k 0) z ∙ in_p (4 + port_lists p + 2) (omega arith) in
      let g = some_net ws (get_or P (4 + port_lists P + 2) 0) (sym (pick_no (4 + port_lists P + 2 ≡? 4 + port_lists P) _ _ (eq_no _ _ (λ y. omega arith))
      ∙ pick_no (4 + port_lists P + 2 ≡? 4 + port_lists P + 1) _ _ (eq_no _ _ (λ y. omega arith))
      ∙ pick_yes (4 + port_lists P + 2 ≡? 4 + port_lists P + 2 or 4 + port_lists P + 2 ≡? 4 + port_lists P + 4) _ _ (or_left _ (eq_yes _ _ refl))) ∙ behind 2 (omega arith)) in
      omega arith

  clock_of : get_or p (4 + port_lists p + 4) 0 < nets ws
  clock_of =
      let c = e_is in
      let z : 4 + port_lists P + 4 ≡ 4 + port_lists p + 4 = omega arith in
      let e = ap (λ (k : ℕ). get_or P k 0) z ∙ in_p (4 + port_lists p + 4) (omega arith) in
      let g = some_net ws (get_or P (4 + port_lists P + 4) 0) (sym (pick_no (4 + port_lists P + 4 ≡? 4 + port_lists P) _ _ (eq_no _ _ (λ y. omega arith))
      ∙ pick_no (4 + port_lists P + 4 ≡? 4 + port_lists P + 1) _ _ (eq_no _ _ (λ y. omega arith))
      ∙ pick_yes (4 + port_lists P + 4 ≡? 4 + port_lists P + 2 or 4 + port_lists P + 4 ≡? 4 + port_lists P + 4) _ _ (or_right _ (eq_yes _ _ refl))) ∙ behind 4 (omega arith)) in
      omega arith

  pub port_told : MemoryPortTold ws earlier m w base p
  port_told =
      let u = wide_of in
      let x = u.0 in
      record {
        long = let e = its_length in let f = fits in let l = own_length p in omega arith;
        address = address_of;
        wide = x;
        some = u.1.0;
        narrow = u.1.1;
        write_address = write_of;
        data_wide = data_of;
        read_net = read_net_law;
        read_data = λ i l. own ws earlier _ 9 m (base + i) (not_own i (omega arith));
        fresh = λ i l. fresh_of ws earlier _ 9 m (base + i) (not_own i (omega arith));
        write_net = write_net_law;
        read_enable = read_enable_law;
        write_enable = write_enable_law;
        clock = clock_of;
      }

-- ---- the record ----

pub record MemoryTold (ws : List ℕ) (earlier : List (List ℕ)) (r : List ℕ) : Type 0 where
  pub index : get_or r 1 0 ≤ 15
  pub depth : (1 ≤ get_or r 2 0) × (get_or r 2 0 ≤ 65536)
  pub six : 6 ≤ length r
  pub first : MemoryPortTold ws earlier (get_or r 1 0) (get_or r 7 0) 0 (drop 6 r)
  pub second : get_or r 5 0 ≡ 2 → MemoryPortTold ws earlier (get_or r 1 0) (get_or r 7 0) (get_or r 7 0) (drop (6 + port_length (drop 6 r)) r)

module _ (ws : List ℕ) (earlier : List (List ℕ)) (r : List ℕ) (h : RightHere ws earlier r) (some : 0 < length r) (t : get_or r 0 0 ≡ 2) where
  abbrev M : List ℕ
  M = r ++ h.rest

  sort : get_or M 0 0 ≡ 2
  sort = word_in ws earlier r h 0 some ∙ t

  the_length : length r ≡ 6 + port_length (drop 6 M) + pick (get_or M 5 0 ≡? 2) (port_length (drop (port_length (drop 6 M)) (drop 6 M))) 0
  the_length = let e = memory_length_law M sort in let a = h.fit in let b = h.long in omega arith

  six : 16 ≤ length r
  six = let e = the_length in let l = own_length (drop 6 M) in omega arith

  word_is : (i : ℕ) → i < 16 → get_or M i 0 ≡ get_or r i 0
  word_is i l = word_in ws earlier r h i (let e = six in omega arith)

  its_test : (i : ℕ) → (i ≡ 0 → ⊥) → i < length r → wrong_memory ws earlier M i ≡ false
  its_test i n l = sym (memory_word ws earlier M i n sort) ∙ h.right i l

  index_of : get_or r 1 0 ≤ 15
  unfolding wrong_memory ◌≡?◌ pick
  index_of = let e = word_is 1 (omega arith) in let a = no_lt 15 (get_or M 1 0) (its_test 1 (λ z. omega arith) (let l = six in omega arith)) in omega arith

  depth_of : (1 ≤ get_or r 2 0) × (get_or r 2 0 ≤ 65536)
  unfolding wrong_memory ◌≡?◌ pick
  depth_of =
      let e = word_is 2 (omega arith) in
      let a = inside (get_or M 2 0) 1 65536 (its_test 2 (λ z. omega arith) (let l = six in omega arith)) in
      let lo = a.0 in
      let hi = a.1 in
      (omega arith, omega arith)

  same_six : (i : ℕ) → i < length (drop 6 r) → get_or (drop 6 M) i 0 ≡ get_or (drop 6 r) i 0
  same_six i l = same_word ws earlier r h t 6 i (let d = length-drop 6 r in omega arith)

  first_of : MemoryPortTold ws earlier (get_or r 1 0) (get_or r 7 0) 0 (drop 6 r)
  first_of =
      let e = the_length in
      let d = length-drop 6 r in
      rw (word_is 1 (omega arith), word_is 7 (omega arith)) at (port_told ws earlier (get_or M 1 0) (get_or M 7 0) 0 (drop 6 M) (drop 6 r) same_six (omega arith)
      (λ i l. (let z : 6 + i - 6 ≡ i = omega arith in
      subst (λ (k : ℕ). wrong_memory_port ws earlier (get_or M 1 0) (get_or M 7 0) 0 (drop 6 M) k ≡ false) z (first_port_law ws earlier r h t (6 + i) (omega arith) (omega arith) (omega arith)))))

  first_length : port_length (drop 6 r) ≡ port_length (drop 6 M)
  unfolding port_length port_lists
  first_length =
      let e = six in
      let d = length-drop 6 r in
      let w0 = same_six 0 (omega arith) in
      let w1 = same_six 1 (omega arith) in
      let w2 = same_six 2 (omega arith) in
      let w3 = same_six 3 (omega arith) in
      omega arith

  second_of_law : get_or r 5 0 ≡ 2 → MemoryPortTold ws earlier (get_or r 1 0) (get_or r 7 0) (get_or r 7 0) (drop (6 + port_length (drop 6 r)) r)
  second_of_law two =
      let q = 6 + port_length (drop 6 M) in
      let f = first_length in
      let g : 6 + port_length (drop 6 r) ≡ q = omega arith in
      let e = the_length ∙ ap (λ (z : ℕ). 6 + port_length (drop 6 M) + z) (pick_yes (get_or M 5 0 ≡? 2) _ _ (eq_yes _ _ (word_is 5 (omega arith) ∙ two))) in
      let j : port_length (drop (port_length (drop 6 M)) (drop 6 M)) ≡ port_length (drop q M) = ap port_length (drop-drop (port_length (drop 6 M)) 6 M) in
      let d = length-drop q r in
      subst (λ (k : ℕ). MemoryPortTold ws earlier (get_or r 1 0) (get_or r 7 0) (get_or r 7 0) (drop k r)) (sym g)
      (rw (word_is 1 (omega arith), word_is 7 (omega arith)) at (port_told ws earlier (get_or M 1 0) (get_or M 7 0) (get_or M 7 0) (drop q M) (drop q r)
      (λ i l. same_word ws earlier r h t q i (omega arith)) (omega arith)
      (λ i l. (let z : q + i - q ≡ i = omega arith in
      subst (λ (k : ℕ). wrong_memory_port ws earlier (get_or M 1 0) (get_or M 7 0) (get_or M 7 0) (drop q M) k ≡ false) z (second_port_law ws earlier r h t (q + i) (omega arith) (omega arith) (omega arith))))))

  pub memory_told : MemoryTold ws earlier r
  memory_told = record { index = index_of; depth = depth_of; six = let e = six in omega arith; first = first_of; second = second_of_law }
