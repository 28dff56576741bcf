-- Words behind an image do not matter: whatever follows the list words used, the same is answered, and at the same place. Assumes nothing.
use Prim.Native.Nat.{ℕ, zero, suc, ◌+◌, ◌*◌, ◌-◌, ◌/◌, ◌%◌, ◌≤◌, ◌<◌, min}
use native.Mathlib.Omega.{arith}
use Rattle.std.proofs.Math.Decide.{dec_lt, ℕ_discrete}
use Rattle.std.specs.Prelude.{◌≡◌, Bool, not, length, take, drop}
use Rattle.std.proofs.Math.Path.{refl, sym, fun_ext}
use Rattle.std.proofs.Common.{ap, ◌∙◌, length-drop}
use Rattle.std.proofs.Math.Bool.{true, false}
use mathlib.Core.List.{List, [], ◌∷◌, ◌++◌}
use Rattle.std.proofs.Math.ListN.{get_or, length-append, get_or-append}
use Rattle.std.proofs.lemmas.List.{take-append-le, drop-append-le}
use Rattle.spec_tests.specs.Rules.{◌<?◌, ◌≡?◌, ◌≢?◌, ◌or◌, ◌and◌, pick, up_to, first, Answer, Fine, Refused, and_then}
use Rattle.spec_tests.specs.Laws.{or_no, or_left, or_right, no_lt, lt_no, yes_lt, no_ne, eq_yes, eq_no}
use Rattle.spec_tests.specs.Any.{any_ext}
use Rattle.spec_rules.specs.NetlistImage.{node_word, port_length, record_length, records_of}
use Rattle.spec_netlist.specs.Accept.{nets, used, list_at_of, limit, wrong_header, same_node, wrong_bit, wrong_node_word, taken, count_of, first_wrong, no_net, no_optional, not_own_of, wrong_port, wrong_register, wrong_memory_port, wrong_memory, wrong_arithmetic, wrong_comparison, wrong_word, judged, header_answer, length_answer, nodes_answer, list_answer, alone, alone_answer, wrong_count, counts_answer, body_answer, accepts}
use Rattle.spec_netlist.specs.Given.{OnlyThese}
use Rattle.law_told.specs.Told.{none_wrong, untrue, neither, pick_yes, pick_no, told, sixteen, whole}
use Rattle.law_told.specs.Owned.{port_word}

-- ---- "the first" of two tests that agree up to the first hit ----

up_to_agree : (p q : ℕ → Bool) (i k : ℕ) → ((j : ℕ) → i ≤ j → j < i + k → ((m : ℕ) → i ≤ m → m < j → p m ≡ false) → p j ≡ q j) → up_to p i k ≡ up_to q i k
unfolding up_to pick
up_to_agree p q i zero h = refl
up_to_agree p q i (suc k) h = go (p i) (q i) refl refl (h i (omega arith) (omega arith) (λ m a b. absurd (omega arith))) (λ g. up_to_agree p q (suc i) k g)
  where
    go : (a b : Bool) → p i ≡ a → q i ≡ b → p i ≡ q i
        → (((j : ℕ) → suc i ≤ j → j < suc i + k → ((m : ℕ) → suc i ≤ m → m < j → p m ≡ false) → p j ≡ q j) → up_to p (suc i) k ≡ up_to q (suc i) k)
        → pick a i (up_to p (suc i) k) ≡ pick b i (up_to q (suc i) k)
    go true true a b e ih = refl
    go true false a b e ih = untrue (sym b ∙ sym e ∙ a)
    go false true a b e ih = untrue (sym a ∙ e ∙ b)
    go false false a b e ih = ih (λ j l u f. h j (omega arith) (omega arith) (λ m c d. earlier m c d f))
      where
        earlier : {j : ℕ} (m : ℕ) → i ≤ m → m < j → ((m : ℕ) → suc i ≤ m → m < j → p m ≡ false) → p m ≡ false
        earlier m c d f = elim (ℕ_discrete m i) [
          | yes z ↦ ap p z ∙ a
          | no z ↦ f m (omega arith) d
        ]

pub first_agree : (p q : ℕ → Bool) (n : ℕ) → ((j : ℕ) → j < n → ((m : ℕ) → m < j → p m ≡ false) → p j ≡ q j) → first p n ≡ first q n
unfolding first
first_agree p q n h = up_to_agree p q 0 n (λ j a b f. h j (omega arith) (λ m c. f m (omega arith) c))

wrong_same : (p q : ℕ → Bool) (place n : ℕ) → ((j : ℕ) → j < n → p j ≡ q j) → first_wrong p place n ≡ first_wrong q place n
unfolding first_wrong
wrong_same p q place n h = ap (λ (i : ℕ). pick (i <? n) (Refused 11 (place + i) 0) Fine) (first_agree p q n (λ j b f. h j b))

-- which port's test stands there does not matter to a record of another sort
skip_port : (z y a b d c : Bool) → y ≡ false → pick z a (pick y b c) ≡ pick z a (pick y d c)
skip_port z y a b d c e = rw (pick_no y b c e, pick_no y d c e)

-- a port whose first net is not there is wrong at it
absent_first : (ws : List ℕ) (earlier : List (List ℕ)) (L : List ℕ) → get_or L 0 0 ≡ 0 → nets ws ≤ get_or L 3 0 → wrong_word ws earlier L 3 ≡ true
unfolding wrong_port not_own_of no_net
absent_first ws earlier L e h =
    port_word ws earlier L 3 (λ q. absurd (omega arith)) e ∙ pick_no (3 ≡? 1) _ _ (eq_no 3 1 (λ q. absurd (omega arith))) ∙ pick_no (3 ≡? 2) _ _ (eq_no 3 2 (λ q. absurd (omega arith)))
    ∙ or_right _ (or_left _ (ap not (lt_no (get_or L 3 0) (nets ws) h)))

module _ (ws rest : List ℕ) (long : 16 ≤ length ws) (all : list_at_of ws + used ws ≤ length ws) where
  abbrev vs : List ℕ
  vs = ws ++ rest

  word : (i : ℕ) → i < length ws → get_or vs i 0 ≡ get_or ws i 0
  word i h = get_or-append ws rest 0 i h

  pub head : (i : ℕ) → i < 16 → get_or vs i 0 ≡ get_or ws i 0
  head i h = word i (omega arith)

  pub nets_same : nets vs ≡ nets ws
  nets_same = head 1 (omega arith)

  limit_same : limit vs ≡ limit ws
  limit_same = ap (λ (z : ℕ). (z - 16) / 6) (head 4 (omega arith))

  list_same : take (used vs) (drop (list_at_of vs) vs) ≡ take (used ws) (drop (list_at_of ws) ws)
  list_same =
      let e = length-drop (get_or ws 4 0) ws in
      let d : drop (get_or ws 4 0) vs ≡ drop (get_or ws 4 0) ws ++ rest = drop-append-le (get_or ws 4 0) ws rest (omega arith) in
      let u : take (get_or ws 3 0) (drop (get_or ws 4 0) ws ++ rest) ≡ take (get_or ws 3 0) (drop (get_or ws 4 0) ws) = take-append-le (get_or ws 3 0) (drop (get_or ws 4 0) ws) rest (omega arith) in
      rw (head 3 (omega arith), head 4 (omega arith), d, u)

  pub records_same : records_of vs ≡ records_of ws
  unfolding records_of
  records_same = rw (list_same, head 3 (omega arith))

  -- ---- the header, the length, the counts ----

  header_same : (i : ℕ) → i < 16 → wrong_header vs i ≡ wrong_header ws i
  unfolding wrong_header
  header_same i h = rw (head i h, head 4 (omega arith), head 1 (omega arith))

  header_answer_law : header_answer vs ≡ header_answer ws
  unfolding header_answer
  header_answer_law =
      let n = length-append ws rest in
      let a : min 16 (length vs) ≡ 16 = omega arith in
      let b : min 16 (length ws) ≡ 16 = omega arith in
      rw (a, b) (wrong_same (wrong_header vs) (wrong_header ws) 0 16 header_same)

  length_answer_law : length_answer vs ≡ length_answer ws
  unfolding length_answer
  length_answer_law =
      let n = length-append ws rest in
      let h3 = head 3 (omega arith) in
      let h4 = head 4 (omega arith) in
      pick_no _ _ _ (neither _ _ (lt_no (length vs) 16 (omega arith)) (lt_no (length vs) (list_at_of vs + used vs) (omega arith)))
      ∙ sym (pick_no _ _ _ (neither _ _ (lt_no (length ws) 16 long) (lt_no (length ws) (list_at_of ws + used ws) all)))

  counts_answer_law : counts_answer vs ≡ counts_answer ws
  unfolding counts_answer wrong_count
  counts_answer_law = wrong_same _ _ 5 5 (λ k h. rw (head (5 + k) (omega arith), records_same))

  module _ (fine : header_answer ws ≡ Fine) where
    header_right : (i : ℕ) → i < 16 → wrong_header ws i ≡ false
    unfolding header_answer
    header_right i h = none_wrong (wrong_header ws) 0 (min 16 (length ws)) fine i (omega arith)

    offset : get_or ws 2 0 ≡ 16
    unfolding wrong_header
    offset = no_ne (get_or ws 2 0) 16 (sym (pick_no (2 ≡? 0) _ _ (eq_no 2 0 (λ z. absurd (omega arith))) ∙ pick_no (2 ≡? 1) _ _ (eq_no 2 1 (λ z. absurd (omega arith))) ∙ pick_yes (2 ≡? 2) _ _ (eq_yes 2 2 refl)) ∙ header_right 2 (omega arith))

    list_right : (list_at_of ws ≡ 16 + 6 * limit ws) × (nets ws ≤ limit ws)
    unfolding wrong_header
    list_right =
        let e = sym (pick_no (4 ≡? 0) _ _ (eq_no 4 0 (λ z. absurd (omega arith))) ∙ pick_no (4 ≡? 1) _ _ (eq_no 4 1 (λ z. absurd (omega arith))) ∙ pick_no (4 ≡? 2) _ _ (eq_no 4 2 (λ z. absurd (omega arith)))
        ∙ pick_no (4 ≡? 3) _ _ (eq_no 4 3 (λ z. absurd (omega arith))) ∙ pick_yes (4 ≡? 4) _ _ (eq_yes 4 4 refl)) ∙ header_right 4 (omega arith) in
        (no_ne (list_at_of ws) (16 + 6 * limit ws) (or_no (or_no e).1).0, no_lt (limit ws) (nets ws) (or_no (or_no e).1).1)

    node_word_law : (k i : ℕ) → k < limit ws → i < 6 → node_word vs k i ≡ node_word ws k i
    unfolding node_word
    node_word_law k i h j =
        let a = list_right.0 in
        rw (head 2 (omega arith), offset) (word (16 + 6 * k + i) (omega arith))

    pub net_word_law : (k i : ℕ) → k < nets ws → i < 6 → node_word vs k i ≡ node_word ws k i
    net_word_law k i h j = node_word_law k i (let z = list_right.1 in omega arith) j

    -- ---- nodes ----

    same_twin : (k n : ℕ) → k < limit ws → n < limit ws → same_node vs k n ≡ same_node ws k n
    unfolding same_node
    same_twin k n a b =
        rw (node_word_law k 0 a (omega arith), node_word_law k 1 a (omega arith), node_word_law k 2 a (omega arith), node_word_law n 0 b (omega arith), node_word_law n 1 b (omega arith), node_word_law n 2 b (omega arith))

    node_same : (n i : ℕ) → n < limit ws → i < 6 → wrong_node_word vs n i ≡ wrong_node_word ws n i
    unfolding wrong_node_word wrong_bit
    node_same n i h j =
        rw (nets_same, node_word_law n 0 h (omega arith), node_word_law n i h j, any_ext (λ k. same_node vs k n) (λ k. same_node ws k n) n (λ k b. twin k (omega arith)))
      where
        twin : (k : ℕ) → k < limit ws → same_node vs k n ≡ same_node ws k n
        twin k b = same_twin k n b h

    nodes_answer_law : nodes_answer vs ≡ nodes_answer ws
    unfolding nodes_answer
    nodes_answer_law = rw limit_same (wrong_same _ _ 16 (6 * limit ws) (λ j h. node_same (j / 6) (j % 6) (omega arith) (omega arith)))

    alone_same : (n : ℕ) → n < nets ws → alone vs n ≡ alone ws n
    unfolding alone
    alone_same n h = rw (net_word_law n 0 h (omega arith), records_same)

    alone_answer_law : alone_answer vs ≡ alone_answer ws
    unfolding alone_answer
    alone_answer_law =
        rw nets_same (ap (λ (n : ℕ). pick (n <? nets ws) (Refused 11 (16 + 6 * n) 0) Fine) (first_agree (alone vs) (alone ws) (nets ws) (λ j b f. alone_same j b)))

    -- ---- tests of records ----

    no_net_law : no_net vs ≡ no_net ws
    unfolding no_net
    no_net_law = fun_ext (λ x. rw nets_same)

    no_optional_law : no_optional vs ≡ no_optional ws
    unfolding no_optional
    no_optional_law = fun_ext (λ x. rw no_net_law)

    own_same : (earlier : List (List ℕ)) (x k o b : ℕ) → not_own_of vs earlier x k o b ≡ not_own_of ws earlier x k o b
    unfolding not_own_of no_net ◌or◌
    own_same earlier x k o b = rw nets_same (go (x <? nets ws) refl)
      where
        go : (z : Bool) → (x <? nets ws) ≡ z → (not (x <? nets ws) or node_word vs x 0 ≢? k or node_word vs x 1 ≢? o or node_word vs x 2 ≢? b or taken earlier x)
            ≡ (not (x <? nets ws) or node_word ws x 0 ≢? k or node_word ws x 1 ≢? o or node_word ws x 2 ≢? b or taken earlier x)
        go true e = let h = yes_lt x (nets ws) e in rw (net_word_law x 0 h (omega arith), net_word_law x 1 h (omega arith), net_word_law x 2 h (omega arith))
        go false e = rw e

    module _ (earlier : List (List ℕ)) (L : List ℕ) where
      register_same : (i : ℕ) → wrong_register vs earlier L i ≡ wrong_register ws earlier L i
      unfolding wrong_register
      register_same i = rw (no_net_law, no_optional_law, own_same earlier (get_or L i 0) 7 (get_or L 1 0) (get_or L 2 0))

      memory_port_same : (m w base : ℕ) (p : List ℕ) (i : ℕ) → wrong_memory_port vs earlier m w base p i ≡ wrong_memory_port ws earlier m w base p i
      unfolding wrong_memory_port
      memory_port_same m w base p i = rw (no_net_law, no_optional_law, own_same earlier (get_or p i 0) 9 m (base + (i - (4 + get_or p 0 0))))

      memory_same : (i : ℕ) → wrong_memory vs earlier L i ≡ wrong_memory ws earlier L i
      unfolding wrong_memory
      memory_same i =
          rw (
            memory_port_same (get_or L 1 0) (get_or L 7 0) 0 (drop 6 L) (i - 6),
            memory_port_same (get_or L 1 0) (get_or L 7 0) (get_or L 7 0) (drop (6 + port_length (drop 6 L)) L) (i - (6 + port_length (drop 6 L))),
          )

      arithmetic_same : (i : ℕ) → wrong_arithmetic vs earlier L i ≡ wrong_arithmetic ws earlier L i
      unfolding wrong_arithmetic
      arithmetic_same i = rw (no_net_law, no_optional_law, own_same earlier (get_or L i 0) 10 (count_of 3 earlier) (i - (4 + 2 * get_or L 2 0)))

      comparison_same : (i : ℕ) → wrong_comparison vs earlier L i ≡ wrong_comparison ws earlier L i
      unfolding wrong_comparison
      comparison_same i = rw (no_net_law, own_same earlier (get_or L i 0) 11 (count_of 4 earlier) 0)

      -- where the first net is there
      port_same : get_or L 3 0 < nets ws → (i : ℕ) → wrong_port vs earlier L i ≡ wrong_port ws earlier L i
      unfolding wrong_port
      port_same h i = rw (net_word_law (get_or L 3 0) 0 h (omega arith), own_same earlier (get_or L i 0) (node_word ws (get_or L 3 0) 0) (get_or L 1 0) (i - 3))

      port_early : (i : ℕ) → i < 3 → 0 < i → wrong_port vs earlier L i ≡ wrong_port ws earlier L i
      unfolding wrong_port
      port_early zero h z = absurd (omega arith)
      port_early (suc zero) h z = pick_yes (1 ≡? 1) _ _ (eq_yes 1 1 refl) ∙ sym (pick_yes (1 ≡? 1) _ _ (eq_yes 1 1 refl))
      port_early (suc (suc zero)) h z = pick_no (2 ≡? 1) _ _ (eq_no 2 1 (λ z. absurd (omega arith))) ∙ pick_yes (2 ≡? 2) _ _ (eq_yes 2 2 refl)
          ∙ sym (pick_no (2 ≡? 1) _ _ (eq_no 2 1 (λ z. absurd (omega arith))) ∙ pick_yes (2 ≡? 2) _ _ (eq_yes 2 2 refl))
      port_early (suc (suc (suc i))) h z = absurd (omega arith)

      first_word : wrong_word vs earlier L 0 ≡ wrong_word ws earlier L 0
      unfolding wrong_word
      first_word = pick_yes (0 ≡? 0) _ _ (eq_yes 0 0 refl) ∙ sym (pick_yes (0 ≡? 0) _ _ (eq_yes 0 0 refl))

      word_same : (i : ℕ) → wrong_port vs earlier L i ≡ wrong_port ws earlier L i → wrong_word vs earlier L i ≡ wrong_word ws earlier L i
      unfolding wrong_word
      word_same i e = rw (e, register_same i, memory_same i, arithmetic_same i, comparison_same i)

      word_other : (i : ℕ) → (get_or L 0 0 ≡ 0 → ⊥) → wrong_word vs earlier L i ≡ wrong_word ws earlier L i
      unfolding wrong_word
      word_other i n = rw (register_same i, memory_same i, arithmetic_same i, comparison_same i) (skip_port (i ≡? 0) (get_or L 0 0 ≡? 0) _ _ _ _ (eq_no (get_or L 0 0) 0 n))

      -- the words of one record, up to the first wrong one: a port whose first net is not there is wrong at it, the kind read there aside
      agree : (j : ℕ) → ((m : ℕ) → m < j → wrong_word vs earlier L m ≡ false) → wrong_word vs earlier L j ≡ wrong_word ws earlier L j
      agree j f = go (ℕ_discrete (get_or L 0 0) 0) (dec_lt j 3) (ℕ_discrete j 0) (ℕ_discrete j 3) (dec_lt (get_or L 3 0) (nets ws))
        where
          go : Dec (get_or L 0 0 ≡ 0) → Dec (j < 3) → Dec (j ≡ 0) → Dec (j ≡ 3) → Dec (get_or L 3 0 < nets ws) → wrong_word vs earlier L j ≡ wrong_word ws earlier L j
          go (no n) y z x h = word_other j n
          go (yes e) y (yes z) x h = rw z first_word
          go (yes e) (yes y) (no z) x h = word_same j (port_early j y (omega arith))
          go (yes e) (no y) (no z) x (yes h) = word_same j (port_same h j)
          go (yes e) (no y) (no z) (yes x) (no h) = rw x (absent_first vs earlier L e (rw nets_same (omega arith)) ∙ sym (absent_first ws earlier L e (omega arith)))
          go (yes e) (no y) (no z) (no x) (no h) = untrue (sym (f 3 (omega arith)) ∙ absent_first vs earlier L e (rw nets_same (omega arith)))

    judged_same : (n : ℕ) (earlier : List (List ℕ)) (place : ℕ) (L : List ℕ) → judged vs n earlier place L ≡ judged ws n earlier place L
    unfolding judged
    judged_same zero earlier place L = refl
    judged_same (suc n) earlier place [] = refl
    judged_same (suc n) earlier place (x ∷ L) =
        let k = record_length (x ∷ L) in
        rw (
          first_agree (wrong_word vs earlier (x ∷ L)) (wrong_word ws earlier (x ∷ L)) k (λ j b f. agree earlier (x ∷ L) j f),
          judged_same n (earlier ++ (take k (x ∷ L) ∷ [])) (place + k) (drop k (x ∷ L)),
        )

    list_answer_law : list_answer vs ≡ list_answer ws
    unfolding list_answer
    list_answer_law = rw (list_same, head 3 (omega arith), head 4 (omega arith)) (judged_same (used ws) [] (list_at_of ws) (take (used ws) (drop (list_at_of ws) ws)))

    body_same : body_answer vs ≡ body_answer ws
    unfolding body_answer
    body_same = rw (length_answer_law, nodes_answer_law, list_answer_law, alone_answer_law, counts_answer_law)

  same_answer : accepts vs ≡ accepts ws
  unfolding accepts and_then
  same_answer = rw header_answer_law (go (header_answer ws) refl)
    where
      go : (c : Answer) → header_answer ws ≡ c → and_then c (body_answer vs) ≡ and_then c (body_answer ws)
      go Fine e = body_same e
      go (Refused n a b) e = refl

pub only_these : OnlyThese
only_these ws rest all long = same_answer ws rest long all

-- what follows an accepted image does not matter
pub accepted_behind : (ws rest : List ℕ) → accepts ws ≡ Fine → accepts (ws ++ rest) ≡ Fine
accepted_behind ws rest e = let t = told ws e in only_these ws rest (whole ws t) (sixteen ws t) ∙ e
