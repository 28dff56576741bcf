-- The test of each word of a memory's port, and its words of one test searched at once. Assumes nothing.
use Rattle.std.specs.Prelude.{ℕ, ◌+◌, ◌≤◌, ◌<◌, ◌-◌, Bool, true, false, ◌≡◌, List, length, ltb, take, drop, get_or, position, Option, Some, None, IfSome}
use Rattle.std.proofs.Math.Path.{refl, sym}
use Rattle.std.proofs.Common.{ap, ◌∙◌, subst, arith, ltb-true}
use Rattle.std.proofs.lemmas.List.Quantifiers.{position-Some}
use Rattle.spec_tests.specs.Rules.{◌<?◌, ◌≡?◌, ◌≢?◌, ◌or◌, pick, outside, first}
use Rattle.spec_tests.specs.Laws.{from, begins, pick_hit, pick_skip, or_hit, or_skip, or_right, lt_yes, lt_no, eq_yes, eq_no}
use Rattle.spec_rules.specs.NetlistImage.{port_lists, port_length}
use Rattle.spec_netlist.specs.Accept.{no_net, no_optional, wrong_level, not_own_of, wrong_memory_port}
use Rattle.stored_view.specs.Own.{not_own_at}
use Rattle.spec_tests.specs.Options.{first_of}
use Rattle.stored_view.specs.Found.{below, some_below, part_long, first_of_below, join_hit, join_skip, words_found, words_clean, own_found, own_clean}
use Rattle.stored_view.specs.Scan.{stretch_hit, stretch_skip, at_hit, at_skip}

-- the word after the four lists of the port p
abbrev pub lists_end : List ℕ → ℕ
lists_end p = 4 + get_or p 0 0 + get_or p 1 0 + get_or p 2 0 + get_or p 3 0

pub port_long : (p : List ℕ) → port_length p ≡ lists_end p + 6
unfolding port_length port_lists
port_long p = omega arith

-- a number below n is not n or more
pub too_low : {A : Type 0} (i n : ℕ) → ltb i n ≡ true → n ≤ i → A
too_low i n b h = absurd (omega (arith, ltb-true i n b))

pub no_later : (e k : ℕ) → ltb k 7 ≡ true → e + k ≤ e + 6
no_later e k b = omega (arith, ltb-true k 7 b)

neither : (j a b : ℕ) → (j ≡ a → ⊥) → (j ≡ b → ⊥) → (j ≡? a or j ≡? b) ≡ false
neither j a b f g = sym (or_skip (eq_no j a f) (sym (eq_no j b g)))

-- the first word of a stretch, counted from a, is below its end
pub stretch_within : (q : ℕ → Bool) (p : List ℕ) (a e : ℕ) {i : ℕ} → a ≤ e → e ≤ length p → Some i ≡ position q (take (e - a) (drop a p)) → a + i < e
stretch_within q p a e h b t = omega (arith, (position-Some q _ _ 0 (sym t)).0, part_long p a e h b)

-- such an answer is at most k
pub within : {n k : ℕ} (i : ℕ) (r : Option ℕ) → r ≡ below n i → n ≤ k → IfSome r (λ j. j ≤ k)
within i (Some j) e h = omega (arith, (some_below e).0)
within i None e h = tt

module _ (ws : List ℕ) (earlier : List (List ℕ)) (m w base : ℕ) (p : List ℕ) where
  abbrev wrong : ℕ → Bool
  wrong = wrong_memory_port ws earlier m w base p

  -- ---- widths ----

  pub width_address : wrong_memory_port ws earlier m w base p 0 ≡ outside (get_or p 0 0) 1 32
  unfolding wrong_memory_port pick ◌≡?◌ ◌or◌
  width_address = refl

  pub width_data : wrong_memory_port ws earlier m w base p 1 ≡ (outside (get_or p 1 0) 1 1024 or get_or p 1 0 ≢? w)
  unfolding wrong_memory_port pick ◌≡?◌ ◌or◌
  width_data = refl

  pub width_write : wrong_memory_port ws earlier m w base p 2 ≡ outside (get_or p 2 0) 1 32
  unfolding wrong_memory_port pick ◌≡?◌ ◌or◌
  width_write = refl

  pub width_written : wrong_memory_port ws earlier m w base p 3 ≡ (get_or p 3 0 ≢? w)
  unfolding wrong_memory_port pick ◌≡?◌ ◌or◌
  width_written = refl

  -- word i is wrong; it is right, and the rest answers
  pub width_hit : (i : ℕ) → ltb i 4 ≡ true → wrong_memory_port ws earlier m w base p i ≡ true → i ≡ from (wrong_memory_port ws earlier m w base p) 4 i
  width_hit i b e = at_hit _ 4 i (ltb-true i 4 b) e

  pub width_skip : (i : ℕ) → ltb i 4 ≡ true → wrong_memory_port ws earlier m w base p i ≡ false → {r : ℕ} → r ≡ from (wrong_memory_port ws earlier m w base p) 4 (i + 1) → r ≡ from (wrong_memory_port ws earlier m w base p) 4 i
  width_skip i b e q = at_skip _ 4 i (ltb-true i 4 b) e q

  -- ---- lists ----

  address_is : (j : ℕ) → 4 ≤ j → j < 4 + get_or p 0 0 → wrong_memory_port ws earlier m w base p j ≡ no_net ws (get_or p j 0)
  unfolding wrong_memory_port port_lists
  address_is j h b =
      sym
      (pick_skip _ (neither j 0 2 (λ z. omega arith) (λ z. omega arith))
      (pick_skip _ (eq_no j 1 (λ z. omega arith))
      (pick_skip _ (eq_no j 3 (λ z. omega arith))
      (pick_hit _ (lt_yes _ _ b) refl))))

  read_is : (j : ℕ) → 4 + get_or p 0 0 ≤ j → j < 4 + get_or p 0 0 + get_or p 1 0 → wrong_memory_port ws earlier m w base p j ≡ not_own_at ws earlier p 9 m base (4 + get_or p 0 0) j
  unfolding wrong_memory_port port_lists
  read_is j h b =
      sym
      (pick_skip _ (neither j 0 2 (λ z. omega arith) (λ z. omega arith))
      (pick_skip _ (eq_no j 1 (λ z. omega arith))
      (pick_skip _ (eq_no j 3 (λ z. omega arith))
      (pick_skip _ (lt_no _ _ (omega arith))
      (pick_hit _ (lt_yes _ _ b) refl)))))

  write_is : (j : ℕ) → 4 + get_or p 0 0 + get_or p 1 0 ≤ j → j < lists_end p → wrong_memory_port ws earlier m w base p j ≡ no_net ws (get_or p j 0)
  unfolding wrong_memory_port port_lists
  write_is j h b =
      sym
      (pick_skip _ (neither j 0 2 (λ z. omega arith) (λ z. omega arith))
      (pick_skip _ (eq_no j 1 (λ z. omega arith))
      (pick_skip _ (eq_no j 3 (λ z. omega arith))
      (pick_skip _ (lt_no _ _ (omega arith))
      (pick_skip _ (lt_no _ _ (omega arith))
      (pick_hit _ (lt_yes _ _ (omega arith)) refl))))))

  -- the widths, the read address, the read data, what is written: one of the words is wrong; none is, and the rest answers
  pub widths_wrong : {r : ℕ} → r ≡ from (wrong_memory_port ws earlier m w base p) 4 0 → r < 4 → r ≡ first (wrong_memory_port ws earlier m w base p) (port_length p)
  widths_wrong q b = stretch_hit wrong wrong (port_length p) 0 4 (omega arith) (omega (arith, port_long p)) (λ j h k. refl) q b ∙ sym (begins wrong (port_length p))

  pub widths_right : {r : ℕ} → r ≡ from (wrong_memory_port ws earlier m w base p) 4 0 → 4 ≤ r → {s : ℕ} → s ≡ from (wrong_memory_port ws earlier m w base p) (port_length p) 4 → s ≡ first (wrong_memory_port ws earlier m w base p) (port_length p)
  widths_right q b t = stretch_skip wrong wrong (port_length p) 0 4 (omega arith) (omega (arith, port_long p)) (λ j h k. refl) q b t ∙ sym (begins wrong (port_length p))

  pub address_wrong : {r : ℕ} → r ≡ from (λ j. no_net ws (get_or p j 0)) (4 + get_or p 0 0) 4 → r < 4 + get_or p 0 0 → r ≡ from (wrong_memory_port ws earlier m w base p) (port_length p) 4
  address_wrong q b = stretch_hit _ _ _ _ _ (omega arith) (omega (arith, port_long p)) address_is q b

  pub address_right : {r : ℕ} → r ≡ from (λ j. no_net ws (get_or p j 0)) (4 + get_or p 0 0) 4 → 4 + get_or p 0 0 ≤ r → {s : ℕ} → s ≡ from (wrong_memory_port ws earlier m w base p) (port_length p) (4 + get_or p 0 0) → s ≡ from (wrong_memory_port ws earlier m w base p) (port_length p) 4
  address_right q b t = stretch_skip _ _ _ _ _ (omega arith) (omega (arith, port_long p)) address_is q b t

  pub read_wrong : {r : ℕ} → r ≡ from (not_own_at ws earlier p 9 m base (4 + get_or p 0 0)) (4 + get_or p 0 0 + get_or p 1 0) (4 + get_or p 0 0) → r < 4 + get_or p 0 0 + get_or p 1 0 → r ≡ from (wrong_memory_port ws earlier m w base p) (port_length p) (4 + get_or p 0 0)
  read_wrong q b = stretch_hit _ _ _ _ _ (omega arith) (omega (arith, port_long p)) read_is q b

  pub read_right : {r : ℕ} → r ≡ from (not_own_at ws earlier p 9 m base (4 + get_or p 0 0)) (4 + get_or p 0 0 + get_or p 1 0) (4 + get_or p 0 0) → 4 + get_or p 0 0 + get_or p 1 0 ≤ r → {s : ℕ} → s ≡ from (wrong_memory_port ws earlier m w base p) (port_length p) (4 + get_or p 0 0 + get_or p 1 0) → s ≡ from (wrong_memory_port ws earlier m w base p) (port_length p) (4 + get_or p 0 0)
  read_right q b t = stretch_skip _ _ _ _ _ (omega arith) (omega (arith, port_long p)) read_is q b t

  pub write_wrong : {r : ℕ} → r ≡ from (λ j. no_net ws (get_or p j 0)) (lists_end p) (4 + get_or p 0 0 + get_or p 1 0) → r < lists_end p → r ≡ from (wrong_memory_port ws earlier m w base p) (port_length p) (4 + get_or p 0 0 + get_or p 1 0)
  write_wrong q b = stretch_hit _ _ _ _ _ (omega arith) (omega (arith, port_long p)) write_is q b

  pub write_right : {r : ℕ} → r ≡ from (λ j. no_net ws (get_or p j 0)) (lists_end p) (4 + get_or p 0 0 + get_or p 1 0) → lists_end p ≤ r → {s : ℕ} → s ≡ from (wrong_memory_port ws earlier m w base p) (port_length p) (lists_end p) → s ≡ from (wrong_memory_port ws earlier m w base p) (port_length p) (4 + get_or p 0 0 + get_or p 1 0)
  write_right q b t = stretch_skip _ _ _ _ _ (omega arith) (omega (arith, port_long p)) write_is q b t

  -- ---- controls, clock and edge ----

  -- the rest answers, counted up to the port's end
  pub controls_answer : {s : ℕ} → s ≡ from (wrong_memory_port ws earlier m w base p) (lists_end p + 6) (lists_end p) → s ≡ from (wrong_memory_port ws earlier m w base p) (port_length p) (lists_end p)
  controls_answer q = q ∙ ap (λ (n : ℕ). from wrong n (lists_end p)) (sym (port_long p))

  abbrev controls : ℕ → Bool
  controls j =
      let x = get_or p j 0 in
      let e = 4 + port_lists p in
      pick (j ≡? e) (no_optional ws x) (pick (j ≡? e + 1) (wrong_level (get_or p e 0) x) (pick (j ≡? e + 2 or j ≡? e + 4) (no_net ws x) (1 <? x)))

  past_lists : (j : ℕ) → lists_end p ≤ j → wrong_memory_port ws earlier m w base p j ≡ controls j
  unfolding wrong_memory_port port_lists
  past_lists j h =
      sym
      (pick_skip _ (neither j 0 2 (λ z. omega arith) (λ z. omega arith))
      (pick_skip _ (eq_no j 1 (λ z. omega arith))
      (pick_skip _ (eq_no j 3 (λ z. omega arith))
      (pick_skip _ (lt_no _ _ (omega arith))
      (pick_skip _ (lt_no _ _ (omega arith))
      (pick_skip _ (lt_no _ _ (omega arith))
      refl))))))

  module _ (e : ℕ) (ends : e ≡ lists_end p) where
    pub control_read : wrong_memory_port ws earlier m w base p e ≡ no_optional ws (get_or p e 0)
    unfolding port_lists
    control_read =
        past_lists e (omega arith)
        ∙ sym
        (pick_hit _ (eq_yes _ _ (omega arith)) refl)

    pub control_read_level : wrong_memory_port ws earlier m w base p (e + 1) ≡ wrong_level (get_or p e 0) (get_or p (e + 1) 0)
    unfolding port_lists
    control_read_level =
        past_lists (e + 1) (omega arith)
        ∙ sym
        (pick_skip _ (eq_no _ _ (λ z. omega arith))
        (pick_hit _ (eq_yes _ _ (omega arith)) (ap (λ (i : ℕ). wrong_level (get_or p i 0) (get_or p (e + 1) 0)) (omega arith))))

    pub control_write : wrong_memory_port ws earlier m w base p (e + 2) ≡ no_net ws (get_or p (e + 2) 0)
    unfolding port_lists
    control_write =
        past_lists (e + 2) (omega arith)
        ∙ sym
        (pick_skip _ (eq_no _ _ (λ z. omega arith))
        (pick_skip _ (eq_no _ _ (λ z. omega arith))
        (pick_hit _ (sym (or_hit _ (eq_yes _ _ (omega arith)))) refl)))

    pub control_write_level : wrong_memory_port ws earlier m w base p (e + 3) ≡ (1 <? get_or p (e + 3) 0)
    unfolding port_lists
    control_write_level =
        past_lists (e + 3) (omega arith)
        ∙ sym
        (pick_skip _ (eq_no _ _ (λ z. omega arith))
        (pick_skip _ (eq_no _ _ (λ z. omega arith))
        (pick_skip _ (neither _ _ _ (λ z. omega arith) (λ z. omega arith))
        refl)))

    pub control_clock : wrong_memory_port ws earlier m w base p (e + 4) ≡ no_net ws (get_or p (e + 4) 0)
    unfolding port_lists
    control_clock =
        past_lists (e + 4) (omega arith)
        ∙ sym
        (pick_skip _ (eq_no _ _ (λ z. omega arith))
        (pick_skip _ (eq_no _ _ (λ z. omega arith))
        (pick_hit _ (or_right _ (eq_yes _ _ (omega arith))) refl)))

    pub control_edge : wrong_memory_port ws earlier m w base p (e + 5) ≡ (1 <? get_or p (e + 5) 0)
    unfolding port_lists
    control_edge =
        past_lists (e + 5) (omega arith)
        ∙ sym
        (pick_skip _ (eq_no _ _ (λ z. omega arith))
        (pick_skip _ (eq_no _ _ (λ z. omega arith))
        (pick_skip _ (neither _ _ _ (λ z. omega arith) (λ z. omega arith))
        refl)))

  -- word e is right, and the rest answers; word e + k is wrong; it is right
  pub controls_begin : (e : ℕ) → wrong_memory_port ws earlier m w base p e ≡ false → {r : ℕ} → r ≡ from (wrong_memory_port ws earlier m w base p) (e + 6) (e + 1) → r ≡ from (wrong_memory_port ws earlier m w base p) (e + 6) e
  controls_begin e t q = at_skip _ _ _ (omega arith) t q

  pub control_hit : (e k : ℕ) → ltb k 6 ≡ true → wrong_memory_port ws earlier m w base p (e + k) ≡ true → e + k ≡ from (wrong_memory_port ws earlier m w base p) (e + 6) (e + k)
  control_hit e k b t = at_hit _ _ _ (omega (arith, ltb-true k 6 b)) t

  pub control_skip : (e k : ℕ) → ltb k 6 ≡ true → wrong_memory_port ws earlier m w base p (e + k) ≡ false → {r : ℕ} → r ≡ from (wrong_memory_port ws earlier m w base p) (e + 6) (e + (k + 1)) → r ≡ from (wrong_memory_port ws earlier m w base p) (e + 6) (e + k)
  control_skip e k b t q =
      let y : e + (k + 1) ≡ e + k + 1 = omega arith in
      at_skip _ _ _ (omega (arith, ltb-true k 6 b)) t (q ∙ ap (from wrong (e + 6)) y)

  -- ---- the place of the first wrong word, part after part ----

  abbrev whole : ℕ → Option ℕ
  whole i = below (port_length p) (from (wrong_memory_port ws earlier m w base p) (port_length p) i)

  pub widths_found : {i : ℕ} → Some i ≡ below 4 (from (wrong_memory_port ws earlier m w base p) 4 0) → Some i ≡ first_of (wrong_memory_port ws earlier m w base p) (port_length p)
  widths_found t = join_hit wrong (port_length p) 0 4 (omega arith) (omega (arith, port_long p)) t ∙ sym (first_of_below wrong (port_length p))

  pub widths_clean : None ≡ below 4 (from (wrong_memory_port ws earlier m w base p) 4 0) → {r : Option ℕ} → r ≡ whole 4 → r ≡ first_of (wrong_memory_port ws earlier m w base p) (port_length p)
  widths_clean t u = join_skip wrong (port_length p) 0 4 (omega arith) (omega (arith, port_long p)) t u ∙ sym (first_of_below wrong (port_length p))

  module _ (long : lists_end p + 6 ≤ length p) where
    pub address_found : {i : ℕ} → Some i ≡ position (no_net ws) (take (4 + get_or p 0 0 - 4) (drop 4 p)) → Some (4 + i) ≡ whole 4
    address_found t = words_found wrong (port_length p) p 4 (4 + get_or p 0 0) (omega arith) (omega (arith, port_long p)) (omega arith) (no_net ws) address_is t

    pub address_clean : None ≡ position (no_net ws) (take (4 + get_or p 0 0 - 4) (drop 4 p)) → {r : Option ℕ} → r ≡ whole (4 + get_or p 0 0) → r ≡ whole 4
    address_clean t u = words_clean wrong (port_length p) p 4 (4 + get_or p 0 0) (omega arith) (omega (arith, port_long p)) (omega arith) (no_net ws) address_is t u

    abbrev read_data : List ℕ
    read_data = take (4 + get_or p 0 0 + get_or p 1 0 - (4 + get_or p 0 0)) (drop (4 + get_or p 0 0) p)

    pub read_found : {i : ℕ} → Some i ≡ first_of (λ j. not_own_of ws earlier (get_or read_data j 0) 9 m (base + j)) (length read_data) → Some (4 + get_or p 0 0 + i) ≡ whole (4 + get_or p 0 0)
    read_found t =
        own_found wrong (port_length p) p (4 + get_or p 0 0) (4 + get_or p 0 0 + get_or p 1 0) (omega arith) (omega (arith, port_long p)) (omega arith) ws earlier 9 m base read_is t

    pub read_clean : None ≡ first_of (λ j. not_own_of ws earlier (get_or read_data j 0) 9 m (base + j)) (length read_data) → {r : Option ℕ} → r ≡ whole (4 + get_or p 0 0 + get_or p 1 0) → r ≡ whole (4 + get_or p 0 0)
    read_clean t u =
        own_clean wrong (port_length p) p (4 + get_or p 0 0) (4 + get_or p 0 0 + get_or p 1 0) (omega arith) (omega (arith, port_long p)) (omega arith) ws earlier 9 m base read_is t u

    abbrev written : List ℕ
    written = take (lists_end p - (4 + get_or p 0 0 + get_or p 1 0)) (drop (4 + get_or p 0 0 + get_or p 1 0) p)

    pub write_found : {i : ℕ} → Some i ≡ position (no_net ws) written → Some (4 + get_or p 0 0 + get_or p 1 0 + i) ≡ whole (4 + get_or p 0 0 + get_or p 1 0)
    write_found t = words_found wrong (port_length p) p (4 + get_or p 0 0 + get_or p 1 0) (lists_end p) (omega arith) (omega (arith, port_long p)) (omega arith) (no_net ws) write_is t

    pub write_clean : None ≡ position (no_net ws) written → {r : Option ℕ} → r ≡ below (lists_end p + 6) (from (wrong_memory_port ws earlier m w base p) (lists_end p + 6) (lists_end p)) → r ≡ whole (4 + get_or p 0 0 + get_or p 1 0)
    write_clean t u =
        words_clean wrong (port_length p) p (4 + get_or p 0 0 + get_or p 1 0) (lists_end p) (omega arith) (omega (arith, port_long p)) (omega arith) (no_net ws) write_is t
        (u ∙ ap (λ (n : ℕ). below n (from wrong n (lists_end p))) (sym (port_long p)))

  -- the controls from word e on, two words at a time
  module _ (e : ℕ) (ends : e ≡ lists_end p) where
    pub second_level : wrong_memory_port ws earlier m w base p (e + 2 + 1) ≡ (1 <? get_or p (e + 2 + 1) 0)
    second_level =
        let z : e + 3 ≡ e + 2 + 1 = omega arith in
        subst (λ (k : ℕ). wrong k ≡ (1 <? get_or p k 0)) z (control_write_level e ends)

    pub third_level : wrong_memory_port ws earlier m w base p (e + 4 + 1) ≡ (1 <? get_or p (e + 4 + 1) 0)
    third_level =
        let z : e + 5 ≡ e + 4 + 1 = omega arith in
        subst (λ (k : ℕ). wrong k ≡ (1 <? get_or p k 0)) z (control_edge e ends)

  module _ (e : ℕ) where
    abbrev pair : ℕ → Option ℕ
    pair i = below (i + 2) (from (wrong_memory_port ws earlier m w base p) (i + 2) i)

    pub pair_first : {i : ℕ} → Some i ≡ pair e → Some i ≡ below (e + 6) (from (wrong_memory_port ws earlier m w base p) (e + 6) e)
    pair_first t = join_hit wrong (e + 6) e (e + 2) (omega arith) (omega arith) t

    pub pair_second : {i : ℕ} → None ≡ pair e → Some i ≡ pair (e + 2) → Some i ≡ below (e + 6) (from (wrong_memory_port ws earlier m w base p) (e + 6) e)
    pair_second s t = join_skip wrong (e + 6) e (e + 2) (omega arith) (omega arith) s (join_hit wrong (e + 6) (e + 2) (e + 2 + 2) (omega arith) (omega arith) t)

    pub pair_third : {r : Option ℕ} → None ≡ pair e → None ≡ pair (e + 2) → r ≡ pair (e + 4) → r ≡ below (e + 6) (from (wrong_memory_port ws earlier m w base p) (e + 6) e)
    pair_third s t u =
        let z : e + 4 ≡ e + 2 + 2 = omega arith in
        let y : e + 4 + 2 ≡ e + 6 = omega arith in
        join_skip wrong (e + 6) e (e + 2) (omega arith) (omega arith) s
        (join_skip wrong (e + 6) (e + 2) (e + 2 + 2) (omega arith) (omega arith) t
        (u ∙ ap (λ (n : ℕ). below n (from wrong n (e + 4))) y ∙ ap (λ (k : ℕ). below (e + 6) (from wrong (e + 6) k)) z))
