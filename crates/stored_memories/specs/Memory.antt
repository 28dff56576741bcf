-- A memory's record: its first words, where its ports lie in it, and its length as the port count says it. Assumes nothing.
use Rattle.std.specs.Prelude.{ℕ, ◌+◌, ◌≤◌, ◌<◌, Bool, true, false, ◌≡◌, List, ltb, length, drop, get_or, Option, Some, None}
use Rattle.std.proofs.Math.Path.{refl, sym}
use Rattle.std.proofs.Common.{ap, ap₂, ◌∙◌, subst, arith, ltb-true, length-drop, drop-drop}
use Rattle.spec_tests.specs.Rules.{◌<?◌, ◌≡?◌, ◌≢?◌, pick, outside, first}
use Rattle.spec_tests.specs.Laws.{from, begins, pick_hit, pick_skip, lt_yes, lt_no, eq_yes, eq_no, yes_eq, no_eq}
use Rattle.spec_rules.specs.NetlistImage.{port_length, record_length}
use Rattle.spec_netlist.specs.Accept.{ports_length, extent, wrong_memory_port, wrong_memory}
use Rattle.spec_tests.specs.Options.{first_of}
use Rattle.stored_view.specs.Found.{below, below_hit, below_end, some_first, none_first, join_hit, join_skip}
use Rattle.stored_view.specs.Scan.{from_moved, stretch_hit, stretch_skip, at_hit, at_skip, at_end_law}
use Rattle.stored_memories.specs.Ports.{lists_end, port_long}

-- ---- its length ----

ports_one : (k : ℕ) (p : List ℕ) → k ≡ 1 → ports_length k p ≡ port_length p
unfolding ports_length
ports_one k p e = ap (λ (n : ℕ). ports_length n p) e ∙ omega arith

ports_two : (k : ℕ) (p : List ℕ) → k ≡ 2 → ports_length k p ≡ port_length p + port_length (drop (port_length p) p)
unfolding ports_length
ports_two k p e = ap (λ (n : ℕ). ports_length n p) e ∙ omega arith

module _ (l : List ℕ) where
  second_is : drop (port_length (drop 6 l)) (drop 6 l) ≡ drop (6 + port_length (drop 6 l)) l
  second_is = drop-drop (port_length (drop 6 l)) 6 l

  module _ (sort : get_or l 0 0 ≡ 2) where
    extent_is : extent l ≡ 6 + ports_length (get_or l 5 0) (drop 6 l)
    unfolding extent
    extent_is = sym (pick_hit _ (eq_yes _ _ sort) refl)

    record_is : record_length l ≡ 6 + port_length (drop 6 l) + pick (get_or l 5 0 ≡? 2) (port_length (drop (port_length (drop 6 l)) (drop 6 l))) 0
    unfolding record_length
    record_is =
        sym
        (pick_skip _ (eq_no _ 0 (λ z. omega arith))
        (pick_skip _ (eq_no _ 1 (λ z. omega arith))
        (pick_hit _ (eq_yes _ _ sort) refl)))

    pub fields_fit : extent l ≤ length l → 6 ≤ length l
    fields_fit h = omega (arith, extent_is)

    record_least : 6 + port_length (drop 6 l) ≤ record_length l
    record_least = omega (arith, record_is)

    record_one : get_or l 5 0 ≡ 1 → record_length l ≡ 6 + port_length (drop 6 l)
    record_one e =
        let z : 0 ≡ pick (get_or l 5 0 ≡? 2) (port_length (drop (port_length (drop 6 l)) (drop 6 l))) 0 = pick_skip _ (eq_no _ 2 (λ z. omega arith)) refl in
        omega (arith, record_is)

    record_two : get_or l 5 0 ≡ 2 → record_length l ≡ 6 + port_length (drop 6 l) + port_length (drop (6 + port_length (drop 6 l)) l)
    record_two e = record_is ∙ ap (λ (n : ℕ). 6 + port_length (drop 6 l) + n) (sym (pick_hit _ (eq_yes _ _ e) refl) ∙ ap port_length second_is)

    -- what the extent says with one port or two
    first_fits : extent l ≤ length l → 1 ≤ get_or l 5 0 → get_or l 5 0 ≤ 2 → 6 + port_length (drop 6 l) ≤ length l
    first_fits h a b = go (get_or l 5 0 ≡? 1) refl
      where
        go : (t : Bool) → (get_or l 5 0 ≡? 1) ≡ t → 6 + port_length (drop 6 l) ≤ length l
        go true e = omega (arith, extent_is, ports_one _ (drop 6 l) (yes_eq _ _ e))
        go false e =
            let f : get_or l 5 0 ≡ 2 = omega (arith, no_eq _ _ e) in
            omega (arith, extent_is, ports_two _ (drop 6 l) f)

    second_fits : extent l ≤ length l → get_or l 5 0 ≡ 2 → 6 + port_length (drop 6 l) + port_length (drop (6 + port_length (drop 6 l)) l) ≤ length l
    second_fits h e = omega (arith, extent_is, ports_two _ (drop 6 l) e, ap port_length second_is)

-- a port that begins at word k
part_room : (l : List ℕ) (k : ℕ) {p : List ℕ} → p ≡ drop k l → k + port_length (drop k l) ≤ length l → (lists_end p + 6 ≤ length p) × (length p ≤ length l)
part_room l k {p} e h =
    subst (λ (x : List ℕ). (lists_end x + 6 ≤ length x) × (length x ≤ length l)) (sym e)
    (omega (arith, length-drop k l, port_long (drop k l)), omega (arith, length-drop k l))

pub width_fits : (l : List ℕ) → get_or l 0 0 ≡ 2 → extent l ≤ length l → (1 ≤ get_or l 5 0) × (get_or l 5 0 ≤ 2) → 7 < length l
width_fits l sort h n = omega (arith, first_fits l sort h n.0 n.1, port_long (drop 6 l))

pub first_room : (l : List ℕ) {p : List ℕ} → get_or l 0 0 ≡ 2 → extent l ≤ length l → (1 ≤ get_or l 5 0) × (get_or l 5 0 ≤ 2) → p ≡ drop 6 l → (lists_end p + 6 ≤ length p) × (length p ≤ length l)
first_room l sort h n e = part_room l 6 e (first_fits l sort h n.0 n.1)

pub second_room : (l : List ℕ) {p p' : List ℕ} {k : ℕ} → get_or l 0 0 ≡ 2 → extent l ≤ length l → get_or l 5 0 ≡ 2 → p ≡ drop 6 l → k ≡ port_length p → p' ≡ drop (6 + k) l
    → (lists_end p' + 6 ≤ length p') × (length p' ≤ length l)
second_room l sort h two e f g =
    let z = ap (λ (n : ℕ). 6 + n) (f ∙ ap port_length e) in
    part_room l (6 + port_length (drop 6 l)) (g ∙ ap (λ (n : ℕ). drop n l) z) (second_fits l sort h two)

-- ---- its words ----

module _ (ws : List ℕ) (earlier : List (List ℕ)) (l : List ℕ) where
  abbrev wrong : ℕ → Bool
  wrong = wrong_memory ws earlier l

  pub field_index : wrong_memory ws earlier l 1 ≡ (15 <? get_or l 1 0)
  unfolding wrong_memory pick ◌≡?◌
  field_index = refl

  pub field_depth : wrong_memory ws earlier l 2 ≡ outside (get_or l 2 0) 1 65536
  unfolding wrong_memory pick ◌≡?◌
  field_depth = refl

  pub field_style : wrong_memory ws earlier l 3 ≡ (2 <? get_or l 3 0)
  unfolding wrong_memory pick ◌≡?◌
  field_style = refl

  pub field_latency : wrong_memory ws earlier l 4 ≡ (get_or l 4 0 ≢? 1)
  unfolding wrong_memory pick ◌≡?◌
  field_latency = refl

  pub field_count : wrong_memory ws earlier l 5 ≡ outside (get_or l 5 0) 1 2
  unfolding wrong_memory pick ◌≡?◌
  field_count = refl

  -- word i is wrong; it is right, and the rest answers
  pub field_hit : (i : ℕ) → ltb i 6 ≡ true → wrong_memory ws earlier l i ≡ true → i ≡ from (wrong_memory ws earlier l) 6 i
  field_hit i b e = at_hit _ 6 i (ltb-true i 6 b) e

  pub field_skip : (i : ℕ) → ltb i 6 ≡ true → wrong_memory ws earlier l i ≡ false → {r : ℕ} → r ≡ from (wrong_memory ws earlier l) 6 (i + 1) → r ≡ from (wrong_memory ws earlier l) 6 i
  field_skip i b e q = at_skip _ 6 i (ltb-true i 6 b) e q

  -- ---- its ports ----

  abbrev one : ℕ → Bool
  one = wrong_memory_port ws earlier (get_or l 1 0) (get_or l 7 0) 0 (drop 6 l)

  abbrev two : ℕ → Bool
  two = wrong_memory_port ws earlier (get_or l 1 0) (get_or l 7 0) (get_or l 7 0) (drop (6 + port_length (drop 6 l)) l)

  first_is : (j : ℕ) → 0 ≤ j → j < port_length (drop 6 l) → one j ≡ wrong_memory ws earlier l (6 + j)
  unfolding wrong_memory
  first_is j h b =
      pick_skip _ (eq_no _ 1 (λ z. omega arith))
      (pick_skip _ (eq_no _ 2 (λ z. omega arith))
      (pick_skip _ (eq_no _ 3 (λ z. omega arith))
      (pick_skip _ (eq_no _ 4 (λ z. omega arith))
      (pick_skip _ (eq_no _ 5 (λ z. omega arith))
      (pick_hit _ (lt_yes _ _ (omega arith)) (ap one (omega arith)))))))

  second_port_is : (j : ℕ) → 0 ≤ j → j < port_length (drop (6 + port_length (drop 6 l)) l) → two j ≡ wrong_memory ws earlier l (6 + port_length (drop 6 l) + j)
  unfolding wrong_memory
  second_port_is j h b =
      pick_skip _ (eq_no _ 1 (λ z. omega arith))
      (pick_skip _ (eq_no _ 2 (λ z. omega arith))
      (pick_skip _ (eq_no _ 3 (λ z. omega arith))
      (pick_skip _ (eq_no _ 4 (λ z. omega arith))
      (pick_skip _ (eq_no _ 5 (λ z. omega arith))
      (pick_skip _ (lt_no _ _ (omega arith)) (ap two (omega arith)))))))

  module _ (sort : get_or l 0 0 ≡ 2) where
    -- a word before the ports is wrong; none is, and the ports answer
    pub fields_wrong : {r : ℕ} → r ≡ from (wrong_memory ws earlier l) 6 1 → r < 6 → r ≡ from (wrong_memory ws earlier l) (record_length l) 1
    fields_wrong q b = stretch_hit wrong wrong _ _ _ (omega arith) (omega (arith, record_least l sort)) (λ j h k. refl) q b

    pub fields_right : {r : ℕ} → r ≡ from (wrong_memory ws earlier l) 6 1 → 6 ≤ r → {s : ℕ} → s ≡ from (wrong_memory ws earlier l) (record_length l) 6 → s ≡ from (wrong_memory ws earlier l) (record_length l) 1
    fields_right q b t = stretch_skip wrong wrong _ _ _ (omega arith) (omega (arith, record_least l sort)) (λ j h k. refl) q b t

    module _ {p : List ℕ} (part : p ≡ drop 6 l) {k : ℕ} (long : k ≡ port_length p) {r : ℕ} (q : r ≡ first (wrong_memory_port ws earlier (get_or l 1 0) (get_or l 7 0) 0 p) (port_length p)) where
      ends : 6 + k ≡ 6 + port_length (drop 6 l)
      ends = ap (λ (n : ℕ). 6 + n) (long ∙ ap port_length part)

      first_port_law : 6 + r ≡ from (wrong_memory ws earlier l) (6 + port_length (drop 6 l)) 6
      first_port_law =
          let e = q ∙ (ap (λ (x : List ℕ). first (wrong_memory_port ws earlier (get_or l 1 0) (get_or l 7 0) 0 x) (port_length x)) part ∙ begins one (port_length (drop 6 l))) in
          ap (λ (n : ℕ). 6 + n) e ∙ from_moved one wrong 6 (port_length (drop 6 l)) 0 (omega arith) first_is

      -- a word of the first port is wrong
      pub first_wrong_law : 6 + r < 6 + k → 6 + r ≡ from (wrong_memory ws earlier l) (record_length l) 6
      first_wrong_law b = stretch_hit wrong wrong _ _ _ (omega arith) (record_least l sort) (λ j h i. refl) first_port_law (omega (arith, ends))

      first_right : 6 + k ≤ 6 + r → {s : ℕ} → s ≡ from (wrong_memory ws earlier l) (record_length l) (6 + port_length (drop 6 l)) → s ≡ from (wrong_memory ws earlier l) (record_length l) 6
      first_right b t = stretch_skip wrong wrong _ _ _ (omega arith) (record_least l sort) (λ j h i. refl) first_port_law (omega (arith, ends)) t

      -- there is no other
      pub first_alone : 6 + k ≤ 6 + r → get_or l 5 0 ≡ 1 → 6 + k ≡ from (wrong_memory ws earlier l) (record_length l) 6
      first_alone b e =
          let n = record_one l sort e in
          first_right b (ends ∙ (at_end_law wrong _ ∙ ap (λ (i : ℕ). from wrong i (6 + port_length (drop 6 l))) (sym n)))

      -- the second answers
      pub second_answers : {p' : List ℕ} → p' ≡ drop (6 + k) l → 6 + k ≤ 6 + r → get_or l 5 0 ≡ 2
          → {s : ℕ} → s ≡ first (wrong_memory_port ws earlier (get_or l 1 0) (get_or l 7 0) (get_or l 7 0) p') (port_length p') → 6 + k + s ≡ from (wrong_memory ws earlier l) (record_length l) 6
      second_answers f b e t =
          let n = record_two l sort e in
          let g = f ∙ ap (λ (i : ℕ). drop i l) ends in
          let u = t ∙ (ap (λ (x : List ℕ). first (wrong_memory_port ws earlier (get_or l 1 0) (get_or l 7 0) (get_or l 7 0) x) (port_length x)) g ∙ begins two (port_length (drop (6 + port_length (drop 6 l)) l))) in
          let v = from_moved two wrong (6 + port_length (drop 6 l)) (port_length (drop (6 + port_length (drop 6 l)) l)) 0 (omega arith) second_port_is in
          let z : 6 + port_length (drop 6 l) + 0 ≡ 6 + port_length (drop 6 l) = omega arith in
          first_right b (ap₂ (λ (i j : ℕ). i + j) ends u ∙ (v ∙ ap₂ (from wrong) (sym n) z))

  -- ---- the place of the first wrong word ----

  module _ (sort : get_or l 0 0 ≡ 2) where
    abbrev whole : ℕ → Option ℕ
    whole i = below (record_length l) (from (wrong_memory ws earlier l) (record_length l) i)

    pub fields_found : {i : ℕ} → Some i ≡ below 6 (from (wrong_memory ws earlier l) 6 1) → Some i ≡ whole 1
    fields_found t = join_hit wrong (record_length l) 1 6 (omega arith) (omega (arith, record_least l sort)) t

    pub fields_clean : None ≡ below 6 (from (wrong_memory ws earlier l) 6 1) → {r : Option ℕ} → r ≡ whole 6 → r ≡ whole 1
    fields_clean t u = join_skip wrong (record_length l) 1 6 (omega arith) (omega (arith, record_least l sort)) t u

    module _ {p : List ℕ} (part : p ≡ drop 6 l) where
      abbrev one_of : ℕ → Bool
      one_of = wrong_memory_port ws earlier (get_or l 1 0) (get_or l 7 0) 0 p

      port_end : 6 + port_length p ≡ 6 + port_length (drop 6 l)
      port_end = ap (λ (x : List ℕ). 6 + port_length x) part

      pub first_found : {i : ℕ} → Some i ≡ first_of one_of (port_length p) → Some (6 + i) ≡ whole 6
      first_found {i} t =
          let s = some_first one_of t in
          below_hit (omega (arith, s.0, port_end, record_least l sort)) (first_wrong_law sort part refl s.1 (omega (arith, s.0)))

      module _ (t : None ≡ first_of one_of (port_length p)) where
        pub alone_clean : get_or l 5 0 ≡ 1 → None ≡ whole 6
        alone_clean e =
            let f = first_alone sort part refl refl (omega (arith, none_first one_of t)) e in
            below_end (omega (arith, f, port_end, record_one l sort e))

        module _ {k : ℕ} (long : k ≡ port_length p) {p' : List ℕ} (other : p' ≡ drop (6 + k) l) (e : get_or l 5 0 ≡ 2) where
          abbrev two_of : ℕ → Bool
          two_of = wrong_memory_port ws earlier (get_or l 1 0) (get_or l 7 0) (get_or l 7 0) p'

          second_at : {s : ℕ} → s ≡ first two_of (port_length p') → 6 + k + s ≡ from (wrong_memory ws earlier l) (record_length l) 6
          second_at u = second_answers sort part long refl other (omega (arith, long, none_first one_of t)) e u

          second_end : record_length l ≡ 6 + k + port_length p'
          second_end =
              let z : 6 + port_length (drop 6 l) ≡ 6 + k = omega (arith, port_end, long) in
              record_two l sort e ∙ ap₂ (λ (n : ℕ) (x : List ℕ). n + port_length x) z (ap (λ (n : ℕ). drop n l) z ∙ sym other)

          pub second_found : {i : ℕ} → Some i ≡ first_of two_of (port_length p') → Some (6 + k + i) ≡ whole 6
          second_found u =
              let s = some_first two_of u in
              below_hit (omega (arith, s.0, second_end)) (second_at s.1)

          pub second_clean : None ≡ first_of two_of (port_length p') → None ≡ whole 6
          second_clean u = below_end (omega (arith, none_first two_of u, second_end, second_at refl))
