-- The words of the nodes one after the other: word j of all is word j % 6 of node j / 6. Assumes nothing.
use Rattle.std.specs.Prelude.{ℕ, ◌+◌, ◌*◌, ◌-◌, ◌/◌, ◌%◌, ◌<◌, ◌≤◌, Bool, true, false, not, eqb, ◌≡◌, refl, List, length, take, drop, get_or, position, Option, Some, None}
use Rattle.std.proofs.Common.{sym, ap, ap₂, ◌∙◌, arith}
use Rattle.spec_tests.specs.Rules.{◌<?◌, ◌≡?◌, ◌≢?◌, pick, first}
use Rattle.spec_tests.specs.Laws.{from, begins, lt_yes, lt_no}
use Rattle.spec_rules.specs.NetlistImage.{node_word}
use Rattle.spec_netlist.specs.Accept.{nets, limit, wrong_owner, wrong_bit, wrong_input, wrong_node_word}
use Rattle.stored_view.specs.Opened.{Opened, node_at}
use Rattle.spec_tests.specs.Options.{first_of, first_some}
use Rattle.stored_view.specs.Found.{below, some_below, none_below, first_of_below, position_first, part_long, part_word, run_hit, run_skip, nothing_left}
use Rattle.stored_view.specs.Scan.{at_hit, at_skip, at_end_law, stretch_hit, stretch_skip, from_moved}

abbrev pub wrong_node : List ℕ → ℕ → Bool
wrong_node ws j = wrong_node_word ws (j / 6) (j % 6)

-- a node's first word, where it stands
pub node_kind : {ws : List ℕ} → Opened ws → (n : ℕ) → node_word ws n 0 ≡ get_or ws (16 + 6 * n) 0
node_kind {ws} o n =
    let e : 16 + 6 * n + 0 ≡ 16 + 6 * n = omega arith in
    node_at o n 0 ∙ ap (λ (at : ℕ). get_or ws at 0) e

-- ---- the tests of a node that is there, word by word as it is read ----

module _ {ws : List ℕ} (o : Opened ws) (n : ℕ) (h : n < nets ws) where
  there : not (n <? nets ws) ≡ false
  there = ap not (lt_yes n (nets ws) h)

  abbrev p : ℕ → Bool
  p = wrong_node_word ws n

  -- word f, where it stands
  abbrev w : ℕ → ℕ
  w f = get_or ws (16 + 6 * n + f) 0

  abbrev k : ℕ
  k = get_or ws (16 + 6 * n) 0

  word_0 : p 0 ≡ (11 <? k)
  unfolding wrong_node_word pick ◌≡?◌
  word_0 = rw there (ap (λ (x : ℕ). 11 <? x) (node_kind o n))

  word_1 : p 1 ≡ wrong_owner k (w 1)
  unfolding wrong_node_word pick ◌≡?◌
  word_1 = rw there (ap₂ wrong_owner (node_kind o n) (node_at o n 1))

  word_2 : p 2 ≡ wrong_bit ws n k (w 2)
  unfolding wrong_node_word pick ◌≡?◌
  word_2 = rw there (ap₂ (wrong_bit ws n) (node_kind o n) (node_at o n 2))

  word_3 : p 3 ≡ wrong_input n k 0 (w 3)
  unfolding wrong_node_word pick ◌≡?◌
  word_3 = rw there (ap₂ (λ (x y : ℕ). wrong_input n x 0 y) (node_kind o n) (node_at o n 3))

  word_4 : p 4 ≡ wrong_input n k 1 (w 4)
  unfolding wrong_node_word pick ◌≡?◌
  word_4 = rw there (ap₂ (λ (x y : ℕ). wrong_input n x 1 y) (node_kind o n) (node_at o n 4))

  word_5 : p 5 ≡ wrong_input n k 2 (w 5)
  unfolding wrong_node_word pick ◌≡?◌
  word_5 = rw there (ap₂ (λ (x y : ℕ). wrong_input n x 2 y) (node_kind o n) (node_at o n 5))

  -- the first word that is wrong, the ones before it being right; t1 to t5 are the answers on words 1 to 5
  pub first_0 : 11 < k → 0 ≡ first p 6
  first_0 e = at_hit p 6 0 (omega arith) (word_0 ∙ lt_yes 11 k e) ∙ sym (begins p 6)

  module _ (e0 : k ≤ 11) {t1 : Bool} (a1 : t1 ≡ wrong_owner k (w 1)) where
    after_0 : {r : ℕ} → r ≡ from p 6 1 → r ≡ first p 6
    after_0 q = at_skip p 6 0 (omega arith) (word_0 ∙ lt_no 11 k e0) q ∙ sym (begins p 6)

    pub first_1 : t1 ≡ true → 1 ≡ first p 6
    first_1 e = after_0 (at_hit p 6 1 (omega arith) (word_1 ∙ (sym a1 ∙ e)))

    module _ (e1 : t1 ≡ false) {t2 : Bool} (a2 : t2 ≡ wrong_bit ws n k (w 2)) where
      after_1 : {r : ℕ} → r ≡ from p 6 2 → r ≡ first p 6
      after_1 q = after_0 (at_skip p 6 1 (omega arith) (word_1 ∙ (sym a1 ∙ e1)) q)

      pub first_2 : t2 ≡ true → 2 ≡ first p 6
      first_2 e = after_1 (at_hit p 6 2 (omega arith) (word_2 ∙ (sym a2 ∙ e)))

      -- the inputs are left
      pub first_rest : t2 ≡ false → {r : ℕ} → r ≡ from p 6 3 → r ≡ first p 6
      first_rest e q = after_1 (at_skip p 6 2 (omega arith) (word_2 ∙ (sym a2 ∙ e)) q)

  module _ {t3 : Bool} (a3 : t3 ≡ wrong_input n k 0 (w 3)) where
    pub input_0 : t3 ≡ true → 3 ≡ from p 6 3
    input_0 e = at_hit p 6 3 (omega arith) (word_3 ∙ (sym a3 ∙ e))

    module _ (e3 : t3 ≡ false) {t4 : Bool} (a4 : t4 ≡ wrong_input n k 1 (w 4)) where
      after_3 : {r : ℕ} → r ≡ from p 6 4 → r ≡ from p 6 3
      after_3 q = at_skip p 6 3 (omega arith) (word_3 ∙ (sym a3 ∙ e3)) q

      pub input_1 : t4 ≡ true → 4 ≡ from p 6 3
      input_1 e = after_3 (at_hit p 6 4 (omega arith) (word_4 ∙ (sym a4 ∙ e)))

      module _ (e4 : t4 ≡ false) {t5 : Bool} (a5 : t5 ≡ wrong_input n k 2 (w 5)) where
        after_4 : {r : ℕ} → r ≡ from p 6 5 → r ≡ from p 6 3
        after_4 q = after_3 (at_skip p 6 4 (omega arith) (word_4 ∙ (sym a4 ∙ e4)) q)

        pub input_2 : t5 ≡ true → 5 ≡ from p 6 3
        input_2 e = after_4 (at_hit p 6 5 (omega arith) (word_5 ∙ (sym a5 ∙ e)))

        pub input_none : t5 ≡ false → 6 ≡ from p 6 3
        input_none e = after_4 (at_skip p 6 5 (omega arith) (word_5 ∙ (sym a5 ∙ e)) (at_end_law p 6))

-- ---- node after node ----

-- the first wrong word of node n, counted from the nodes' start
node_moved : (ws : List ℕ) (n : ℕ) {f : ℕ} → f ≡ first (wrong_node_word ws n) 6 → 6 * n + f ≡ from (wrong_node ws) (6 * n + 6) (6 * n)
node_moved ws n {f} e =
    let z : 6 * n + 0 ≡ 6 * n = omega arith in
    ap (λ (i : ℕ). 6 * n + i) (e ∙ begins (wrong_node_word ws n) 6)
    ∙ (from_moved (wrong_node_word ws n) (wrong_node ws) (6 * n) 6 0 (omega arith) (λ j a b. ap₂ (wrong_node_word ws) (omega arith) (omega arith))
    ∙ ap (from (wrong_node ws) (6 * n + 6)) z)

pub node_hit : (ws : List ℕ) (n : ℕ) {f : ℕ} → n < limit ws → f ≡ first (wrong_node_word ws n) 6 → f < 6 → 6 * n + f ≡ from (wrong_node ws) (6 * limit ws) (6 * n)
node_hit ws n {f} l e h =
    stretch_hit (wrong_node ws) (wrong_node ws) (6 * limit ws) (6 * n) (6 * n + 6) (omega arith) (omega arith) (λ j a b. refl) (node_moved ws n e) (omega arith)

pub node_skip : (ws : List ℕ) (n : ℕ) {f : ℕ} → n < limit ws → f ≡ first (wrong_node_word ws n) 6 → 6 ≤ f
    → from (wrong_node ws) (6 * limit ws) (6 * n) ≡ from (wrong_node ws) (6 * limit ws) (6 * (n + 1))
node_skip ws n {f} l e h =
    let z : 6 * (n + 1) ≡ 6 * n + 6 = omega arith in
    sym (stretch_skip (wrong_node ws) (wrong_node ws) (6 * limit ws) (6 * n) (6 * n + 6) (omega arith) (omega arith) (λ j a b. refl) (node_moved ws n e) (omega arith)
    (ap (from (wrong_node ws) (6 * limit ws)) z))

-- past the nodes that are there
pub unused_word : {ws : List ℕ} → Opened ws → (i : ℕ) → 6 * nets ws ≤ i → wrong_node ws i ≡ (get_or ws (16 + i) 0 ≢? 0)
unfolding wrong_node_word pick
unused_word {ws} o i h =
    let e : 16 + 6 * (i / 6) + i % 6 ≡ 16 + i = omega arith in
    let past : not (i / 6 <? nets ws) ≡ true = ap not (lt_no (i / 6) (nets ws) (omega arith)) in
    rw past (ap (λ (x : ℕ). x ≢? 0) (node_at o (i / 6) (i % 6) ∙ ap (λ (at : ℕ). get_or ws at 0) e))

-- a wrong word of node n, the nodes below it being right; none in it
pub node_found : (ws : List ℕ) (n : ℕ) {f : ℕ} → n < limit ws → first (wrong_node ws) (6 * limit ws) ≡ from (wrong_node ws) (6 * limit ws) (6 * n) → Some f ≡ first_of (wrong_node_word ws n) 6
    → Some (6 * n + f) ≡ first_of (wrong_node ws) (6 * limit ws)
node_found ws n {f} l e q =
    let s = some_below (q ∙ first_of_below (wrong_node_word ws n) 6) in
    let h = node_hit ws n l (s.1 ∙ sym (begins _ _)) s.0 in
    sym (first_some (wrong_node ws) (6 * limit ws) (6 * n + f) (omega (arith, s.0)) (e ∙ sym h))

pub node_clean : (ws : List ℕ) (n : ℕ) → n < limit ws → None ≡ first_of (wrong_node_word ws n) 6 → from (wrong_node ws) (6 * limit ws) (6 * n) ≡ from (wrong_node ws) (6 * limit ws) (6 * (n + 1))
node_clean ws n l q =
    let h = none_below (q ∙ first_of_below (wrong_node_word ws n) 6) in
    node_skip ws n l (sym (begins (wrong_node_word ws n) 6)) h

-- all nodes that are there are right: the first of the words behind them that is not 0 answers
module _ {ws : List ℕ} (o : Opened ws) (e : first (wrong_node ws) (6 * limit ws) ≡ from (wrong_node ws) (6 * limit ws) (6 * nets ws)) where
  abbrev from_unused : ℕ
  from_unused = 16 + 6 * nets ws

  abbrev unused : List ℕ
  unused = take (get_or ws 4 0 - from_unused) (drop from_unused ws)

  unused_long : length unused ≡ 6 * limit ws - 6 * nets ws
  unused_long = part_long ws from_unused (get_or ws 4 0) o.nodes_fit (omega (arith, o.list_fits)) ∙ omega (arith, o.list_starts)

  abbrev not_zero : ℕ → Bool
  not_zero x = not (eqb x 0)

  by_word : (j : ℕ) → j < 6 * limit ws - 6 * nets ws → wrong_node ws (6 * nets ws + j) ≡ not_zero (get_or unused j 0)
  unfolding ◌≢?◌
  by_word j h =
      let z : 16 + (6 * nets ws + j) ≡ from_unused + j = omega arith in
      unused_word o (6 * nets ws + j) (omega arith) ∙ (ap (λ (i : ℕ). not_zero (get_or ws i 0)) z ∙ ap not_zero (sym (part_word ws from_unused (get_or ws 4 0) j (omega (arith, o.list_starts)))))

  found_in : {r : Option ℕ} → r ≡ position not_zero unused → r ≡ first_of (λ j. not_zero (get_or unused j 0)) (6 * limit ws - 6 * nets ws)
  found_in t = t ∙ (position_first not_zero unused ∙ ap (first_of (λ j. not_zero (get_or unused j 0))) unused_long)

  whole : below (6 * limit ws) (from (wrong_node ws) (6 * limit ws) (6 * nets ws)) ≡ first_of (wrong_node ws) (6 * limit ws)
  whole = ap (below (6 * limit ws)) (sym e ∙ begins _ _) ∙ sym (first_of_below _ _)

  pub unused_found : {i : ℕ} → Some i ≡ position not_zero unused → Some (6 * nets ws + i) ≡ first_of (wrong_node ws) (6 * limit ws)
  unused_found t =
      run_hit (wrong_node ws) (6 * limit ws) (6 * nets ws) (λ j. not_zero (get_or unused j 0)) (6 * limit ws - 6 * nets ws) (omega (arith, o.list_starts, o.nodes_fit)) by_word (found_in t) ∙ whole

  pub unused_clean : None ≡ position not_zero unused → None ≡ first_of (wrong_node ws) (6 * limit ws)
  unused_clean t =
      let z : 6 * nets ws + (6 * limit ws - 6 * nets ws) ≡ 6 * limit ws = omega (arith, o.list_starts, o.nodes_fit) in
      run_skip (wrong_node ws) (6 * limit ws) (6 * nets ws) (λ j. not_zero (get_or unused j 0)) (6 * limit ws - 6 * nets ws) (omega (arith, o.list_starts, o.nodes_fit)) by_word (found_in t)
      (nothing_left (wrong_node ws) (6 * limit ws) ∙ ap (λ (k : ℕ). below (6 * limit ws) (from (wrong_node ws) (6 * limit ws) k)) (sym z))
      ∙ whole
