-- What an accepted netlist image tells: no word of it is wrong. Assumes nothing.
use Rattle.std.specs.Prelude.{ℕ, ◌+◌, ◌*◌, ◌/◌, ◌%◌, ◌≤◌, ◌<◌, min, ◌≡◌, refl, Bool, true, false, List, [], ◌∷◌, ◌++◌, drop, get_or}
use native.Mathlib.Omega.{arith}
use Rattle.std.proofs.Common.{sym, ap, subst, ◌∙◌, true≢false, append_assoc}
use Rattle.std.proofs.Math.Decide.{ℕ_discrete}
use Rattle.std.proofs.Math.ListN.{length}
use Rattle.spec_tests.specs.Rules.{◌<?◌, ◌≡?◌, ◌or◌, ◌and◌, pick, first, Answer, Fine, Refused, and_then}
use Rattle.spec_tests.specs.Laws.{or_no, or_skip, and_skip, no_lt, no_ne, eq_yes, eq_no, inside, first_most, none as first_none}
use Rattle.spec_rules.specs.NetlistImage.{port_length, record_length}
use Rattle.spec_netlist.specs.Accept.{nets, used, list_at_of, limit, wrong_header, wrong_node_word, ports_length, extent, member, own_nets, taken, wrong_memory, wrong_word, first_wrong, header_answer, length_answer, nodes_answer, list_answer, alone, alone_answer, wrong_count, counts_answer, body_answer, accepts}

-- ---- answers ----

abbrev IsFine : Answer → Type 0
IsFine Fine = Unit {0}
IsFine (Refused n a b) = ⊥

pub refused_fine : {P : Type 0} {n a b : ℕ} → Refused n a b ≡ Fine → P
refused_fine e = absurd (subst IsFine (sym e) tt)

pub then_both : (c d : Answer) → and_then c d ≡ Fine → (c ≡ Fine) × (d ≡ Fine)
unfolding and_then
then_both Fine d e = (refl, e)
then_both (Refused n a b) d e = refused_fine e

pub pick_fine : (t : Bool) (place : ℕ) (r : Answer) → pick t (Refused 11 place 0) r ≡ Fine → (t ≡ false) × (r ≡ Fine)
unfolding pick
pick_fine true place r e = refused_fine e
pick_fine false place r e = (refl, e)

-- no test of a "first" that finds nothing
pub none_of : (p : ℕ → Bool) (n : ℕ) → (first p n <? n) ≡ false → (j : ℕ) → j < n → p j ≡ false
none_of p n e j h = first_none p n (let a = no_lt (first p n) n e in let b = first_most p n in omega arith) j h

pub none_wrong : (p : ℕ → Bool) (place n : ℕ) → first_wrong p place n ≡ Fine → (j : ℕ) → j < n → p j ≡ false
unfolding first_wrong
none_wrong p place n e = none_of p n (pick_fine (first p n <? n) (place + first p n) Fine e).0

pub untrue : {P : Type 0} → false ≡ true → P
untrue h = absurd (true≢false (sym h))

pub or_split : {P : Type 0} (a b : Bool) → (a or b) ≡ true → (a ≡ true → P) → (b ≡ true → P) → P
unfolding ◌or◌
or_split true b h f g = f refl
or_split false b h f g = g h

pub neither : (a b : Bool) → a ≡ false → b ≡ false → (a or b) ≡ false
neither a b e f = sym (or_skip e (sym f))

pub both : (a b : Bool) → a ≡ true → b ≡ true → (a and b) ≡ true
both a b e f = sym (and_skip e (sym f))

pub and_second : (a b : Bool) → (a and b) ≡ false → a ≡ true → b ≡ false
unfolding ◌and◌
and_second true b e f = e
and_second false b e f = untrue f

pub pick_yes : {A : Type 0} (t : Bool) (a b : A) → t ≡ true → pick t a b ≡ a
unfolding pick
pick_yes true a b e = refl
pick_yes false a b e = untrue e

pub pick_no : {A : Type 0} (t : Bool) (a b : A) → t ≡ false → pick t a b ≡ b
unfolding pick
pick_no true a b e = untrue (sym e)
pick_no false a b e = refl

-- ---- the parts ----

pub record Told (ws : List ℕ) : Type 0 where
  pub header : header_answer ws ≡ Fine
  pub long : length_answer ws ≡ Fine
  pub nodes : nodes_answer ws ≡ Fine
  pub list : list_answer ws ≡ Fine
  pub owned : alone_answer ws ≡ Fine
  pub counts : counts_answer ws ≡ Fine

pub told : (ws : List ℕ) → accepts ws ≡ Fine → Told ws
unfolding accepts body_answer
told ws e =
    let a = then_both (header_answer ws) (body_answer ws) e in
    let b = then_both (length_answer ws) (and_then (nodes_answer ws) (and_then (list_answer ws) (and_then (alone_answer ws) (counts_answer ws)))) a.1 in
    let c = then_both (nodes_answer ws) (and_then (list_answer ws) (and_then (alone_answer ws) (counts_answer ws))) b.1 in
    let d = then_both (list_answer ws) (and_then (alone_answer ws) (counts_answer ws)) c.1 in
    let f = then_both (alone_answer ws) (counts_answer ws) d.1 in
    record { header = a.0; long = b.0; nodes = c.0; list = d.0; owned = f.0; counts = f.1 }

module _ (ws : List ℕ) (t : Told ws) where
  pub sixteen : 16 ≤ length ws
  unfolding length_answer
  sixteen = no_lt (length ws) 16 (or_no (pick_fine (length ws <? 16 or length ws <? list_at_of ws + used ws) (length ws) Fine t.long).0).0

  pub whole : list_at_of ws + used ws ≤ length ws
  unfolding length_answer
  whole = no_lt (length ws) (list_at_of ws + used ws) (or_no (pick_fine (length ws <? 16 or length ws <? list_at_of ws + used ws) (length ws) Fine t.long).0).1

  header_right : (i : ℕ) → i < 16 → wrong_header ws i ≡ false
  unfolding header_answer
  header_right i h = none_wrong (wrong_header ws) 0 (min 16 (length ws)) t.header i (let s = sixteen in omega arith)

  pub few : nets ws ≤ limit ws
  unfolding wrong_header ◌≡?◌ pick
  few = no_lt (limit ws) (nets ws) (or_no (or_no (header_right 4 (omega arith))).1).1

  pub list_starts_law : (list_at_of ws ≡ 16 + 6 * limit ws) × (limit ws ≤ 65535)
  unfolding wrong_header ◌≡?◌ pick
  list_starts_law =
      let h = or_no (header_right 4 (omega arith)) in
      (no_ne (list_at_of ws) (16 + 6 * limit ws) (or_no h.1).0, (inside (limit ws) 1 65535 h.0).1)

  pub few_words : used ws ≤ 65535
  unfolding wrong_header ◌≡?◌ pick
  few_words = no_lt 65535 (used ws) (header_right 3 (omega arith))

  pub nodes_start : get_or ws 2 0 ≡ 16
  unfolding wrong_header ◌≡?◌ pick
  nodes_start = no_ne (get_or ws 2 0) 16 (header_right 2 (omega arith))

  pub node_right : (n f : ℕ) → n < limit ws → f < 6 → wrong_node_word ws n f ≡ false
  unfolding nodes_answer
  node_right n f h l =
      let a : (6 * n + f) / 6 ≡ n = omega arith in
      let b : (6 * n + f) % 6 ≡ f = omega arith in
      rw (a, b) at (none_wrong (λ j. wrong_node_word ws (j / 6) (j % 6)) 16 (6 * limit ws) t.nodes (6 * n + f) (omega arith))

  pub is_owned : (n : ℕ) → n < nets ws → alone ws n ≡ false
  unfolding alone_answer
  is_owned n h = none_of (alone ws) (nets ws) (pick_fine (first (alone ws) (nets ws) <? nets ws) (16 + 6 * first (alone ws) (nets ws)) Fine t.owned).0 n h

  pub count_right : (k : ℕ) → k < 5 → wrong_count ws k ≡ false
  unfolding counts_answer
  count_right k h = none_wrong (wrong_count ws) 5 5 t.counts k h

-- ---- the records ----

-- a record has a word
some_pick : (b : Bool) (x y : ℕ) → 0 < x → 0 < y → 0 < pick b x y
unfolding pick
some_pick true x y h g = h
some_pick false x y h g = g

pub length_some : (l : List ℕ) → 0 < record_length l
unfolding record_length
length_some [] = rw (pick_yes (0 ≡? 0) (3 + 0) _ (eq_yes 0 0 refl)) (omega arith)
length_some (x ∷ l) =
    some_pick (x ≡? 0) _ _ (omega arith) (some_pick (x ≡? 1) _ _ (omega arith) (some_pick (x ≡? 2) _ _ (omega arith)
    (some_pick (x ≡? 3) _ _ (omega arith) (some_pick (x ≡? 4) _ _ (omega arith) (omega arith)))))

-- a record of another sort than memory is as long as its width says
pub other_extent : (l : List ℕ) → (get_or l 0 0 ≡ 2 → ⊥) → extent l ≡ record_length l
unfolding extent
other_extent l n = pick_no (get_or l 0 0 ≡? 2) _ _ (eq_no (get_or l 0 0) 2 n)

-- a memory's record
pub memory_length_law : (l : List ℕ) → get_or l 0 0 ≡ 2
    → record_length l ≡ 6 + port_length (drop 6 l) + pick (get_or l 5 0 ≡? 2) (port_length (drop (port_length (drop 6 l)) (drop 6 l))) 0
unfolding record_length
memory_length_law l e =
    pick_no (get_or l 0 0 ≡? 0) _ _ (eq_no (get_or l 0 0) 0 (λ z. absurd (omega arith))) ∙ pick_no (get_or l 0 0 ≡? 1) _ _ (eq_no (get_or l 0 0) 1 (λ z. absurd (omega arith)))
    ∙ pick_yes (get_or l 0 0 ≡? 2) _ _ (eq_yes (get_or l 0 0) 2 e)

one_port : (p : List ℕ) → 6 + ports_length 1 p ≡ 6 + port_length p + 0
unfolding ports_length
one_port p = omega arith

two_ports : (p : List ℕ) → 6 + ports_length 2 p ≡ 6 + port_length p + port_length (drop (port_length p) p)
unfolding ports_length
two_ports p = omega arith

-- one with one port or two is as long as its port count says
pub memory_extent : (l : List ℕ) → get_or l 0 0 ≡ 2 → 1 ≤ get_or l 5 0 → get_or l 5 0 ≤ 2 → extent l ≡ record_length l
unfolding extent
memory_extent l e lo hi =
    pick_yes (get_or l 0 0 ≡? 2) _ _ (eq_yes (get_or l 0 0) 2 e) ∙ go (ℕ_discrete (get_or l 5 0) 2) ∙ sym (memory_length_law l e)
  where
    P : List ℕ
    P = drop 6 l

    go : Dec (get_or l 5 0 ≡ 2) → 6 + ports_length (get_or l 5 0) P ≡ 6 + port_length P + pick (get_or l 5 0 ≡? 2) (port_length (drop (port_length P) P)) 0
    go (yes h) = ap (λ (n : ℕ). 6 + ports_length n P) h ∙ two_ports P ∙ ap (λ (n : ℕ). 6 + port_length P + n) (sym (pick_yes (get_or l 5 0 ≡? 2) _ _ (eq_yes (get_or l 5 0) 2 h)))
    go (no h) =
        let k : get_or l 5 0 ≡ 1 = omega arith in
        ap (λ (n : ℕ). 6 + ports_length n P) k ∙ one_port P ∙ ap (λ (n : ℕ). 6 + port_length P + n) (sym (pick_no (get_or l 5 0 ≡? 2) _ _ (eq_no (get_or l 5 0) 2 h)))

-- a record with the words behind it and the records before it: none of its words is wrong
pub record RightHere (ws : List ℕ) (earlier : List (List ℕ)) (r : List ℕ) : Type 0 where
  pub rest : List ℕ
  pub fit : record_length (r ++ rest) ≤ length r
  pub long : length r ≤ record_length (r ++ rest)
  pub right : (i : ℕ) → i < length r → wrong_word ws earlier (r ++ rest) i ≡ false

abbrev pub Right : List ℕ → List (List ℕ) → List (List ℕ) → Type 0
Right ws earlier [] = Unit {0}
Right ws earlier (r ∷ rs) = RightHere ws earlier r × Right ws (earlier ++ (r ∷ [])) rs

-- a memory's port count is right
pub ports_right : (ws : List ℕ) (earlier : List (List ℕ)) (l : List ℕ) → get_or l 0 0 ≡ 2 → wrong_word ws earlier l 5 ≡ false → (1 ≤ get_or l 5 0) × (get_or l 5 0 ≤ 2)
unfolding wrong_word wrong_memory
ports_right ws earlier l e h =
    inside (get_or l 5 0) 1 2 (sym (pick_no (5 ≡? 0) _ _ (eq_no 5 0 (λ z. absurd (omega arith)))
    ∙ pick_no (get_or l 0 0 ≡? 0) _ _ (eq_no (get_or l 0 0) 0 (λ z. absurd (omega arith))) ∙ pick_no (get_or l 0 0 ≡? 1) _ _ (eq_no (get_or l 0 0) 1 (λ z. absurd (omega arith)))
    ∙ pick_yes (get_or l 0 0 ≡? 2) _ _ (eq_yes (get_or l 0 0) 2 e) ∙ pick_no (5 ≡? 1) _ _ (eq_no 5 1 (λ z. absurd (omega arith)))
    ∙ pick_no (5 ≡? 2) _ _ (eq_no 5 2 (λ z. absurd (omega arith))) ∙ pick_no (5 ≡? 3) _ _ (eq_no 5 3 (λ z. absurd (omega arith)))
    ∙ pick_no (5 ≡? 4) _ _ (eq_no 5 4 (λ z. absurd (omega arith))) ∙ pick_yes (5 ≡? 5) _ _ (eq_yes 5 5 refl)) ∙ h)

-- the record to which a net belongs
pub record Owner (ws : List ℕ) (all : List (List ℕ)) (k : ℕ) : Type 0 where
  pub earlier : List (List ℕ)
  pub r : List ℕ
  pub later : List (List ℕ)
  pub place : all ≡ earlier ++ (r ∷ later)
  pub here : RightHere ws earlier r
  pub owns : member k (own_nets r) ≡ true

pub find_owner : (ws : List ℕ) (earlier rs : List (List ℕ)) → Right ws earlier rs → (k : ℕ) → taken rs k ≡ true → Owner ws (earlier ++ rs) k
unfolding taken
find_owner ws earlier [] h k e = untrue e
find_owner ws earlier (r ∷ rs) h k e =
    or_split (member k (own_nets r)) (taken rs k) e
    (λ m. record { earlier = earlier; r = r; later = rs; place = refl; here = h.0; owns = m })
    (λ m. subst (λ (z : List (List ℕ)). Owner ws z k) (append_assoc earlier (r ∷ []) rs) (find_owner ws (earlier ++ (r ∷ [])) rs h.1 k m))
