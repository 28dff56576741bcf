-- What a port record of an accepted image tells: its nets are the bits of its signal in order, all inputs or all outputs, and no other port
-- of that signal and kind is there. Assumes nothing.
use Rattle.std.specs.Prelude.{ℕ, ◌+◌, ◌-◌, ◌≤◌, ◌<◌, ◌≡◌, refl, Bool, true, false, not, List, [], ◌∷◌, ◌++◌, length, take, drop, get_or}
use Rattle.std.proofs.Common.{not-suc-le-zero, arith, sym, ap, ◌∙◌, length-take, length-drop, get_or-take, get_or-drop}
use Rattle.std.proofs.Math.Decide.{dec_lt}
use Rattle.spec_tests.specs.Rules.{◌<?◌, ◌≡?◌, ◌≢?◌, ◌or◌, ◌and◌}
use Rattle.spec_tests.specs.Laws.{or_no, or_hit, or_skip, no_lt, lt_yes, no_ne, ne_yes, eq_yes, eq_no, not_any, inside}
use Rattle.spec_rules.specs.NetlistImage.{node_word, record_length}
use Rattle.spec_netlist.specs.Accept.{nets, belongs, same_node, wrong_bit, wrong_node_word, member, own_nets, taken, not_own_of, wrong_port}
use Rattle.law_told.specs.Told.{untrue, both, and_second, pick_yes, pick_no, Told, few, node_right, RightHere}
use Rattle.law_told.specs.Members.{member_here}
use Rattle.law_told.specs.Owned.{Own, own, word_in, port_word}

pub record PortTold (ws : List ℕ) (earlier : List (List ℕ)) (r : List ℕ) : Type 0 where
  pub signal : get_or r 1 0 ≤ 511
  pub some : 1 ≤ get_or r 2 0
  pub narrow : get_or r 2 0 ≤ 1024
  pub long : length r ≡ 3 + get_or r 2 0
  pub kind : (node_word ws (get_or r 3 0) 0 ≢? 0 and node_word ws (get_or r 3 0) 0 ≢? 8) ≡ false
  pub net : (i : ℕ) → i < get_or r 2 0 → Own ws (get_or r (3 + i) 0) (node_word ws (get_or r 3 0) 0) (get_or r 1 0) i
  pub fresh : (i : ℕ) → i < get_or r 2 0 → taken earlier (get_or r (3 + i) 0) ≡ false

port_length_law : (l : List ℕ) → get_or l 0 0 ≡ 0 → record_length l ≡ 3 + get_or l 2 0
unfolding record_length
port_length_law l e = pick_yes (get_or l 0 0 ≡? 0) _ _ (eq_yes (get_or l 0 0) 0 e)

pub fresh_of : (ws : List ℕ) (earlier : List (List ℕ)) (x k o b : ℕ) → not_own_of ws earlier x k o b ≡ false → taken earlier x ≡ false
unfolding not_own_of
fresh_of ws earlier x k o b e = (or_no (or_no (or_no (or_no e).1).1).1).1

pub port_told : (ws : List ℕ) (earlier : List (List ℕ)) (r : List ℕ) → RightHere ws earlier r → 0 < length r → get_or r 0 0 ≡ 0 → PortTold ws earlier r
unfolding wrong_port
port_told ws earlier r h l t =
    let L = r ++ h.rest in
    let z : get_or L 0 0 ≡ 0 = word_in ws earlier r h 0 l ∙ t in
    let e = port_length_law L z in
    let a = h.fit in
    let b = h.long in
    let one : get_or L 1 0 ≡ get_or r 1 0 = word_in ws earlier r h 1 (omega arith) in
    let two : get_or L 2 0 ≡ get_or r 2 0 = word_in ws earlier r h 2 (omega arith) in
    let s = sym (port_word ws earlier L 1 (λ q. absurd (omega arith)) z) ∙ h.right 1 (omega arith) in
    let s' = no_lt 511 (get_or L 1 0) (sym (pick_yes (1 ≡? 1) _ _ (eq_yes 1 1 refl)) ∙ s) in
    let w = sym (port_word ws earlier L 2 (λ q. absurd (omega arith)) z) ∙ h.right 2 (omega arith) in
    let w' = inside (get_or L 2 0) 1 1024 (sym (pick_no (2 ≡? 1) _ _ (eq_no 2 1 (λ q. absurd (omega arith))) ∙ pick_yes (2 ≡? 2) _ _ (eq_yes 2 2 refl)) ∙ w) in
    let w0 = w'.0 in
    let w1 = w'.1 in
    let three : get_or L 3 0 ≡ get_or r 3 0 = word_in ws earlier r h 3 (omega arith) in
    record {
      signal = omega arith;
      some = omega arith;
      narrow = omega arith;
      long = omega arith;
      kind = rw three at (or_no (net_right 0 (omega arith))).0;
      net = λ i n. rw (three, one, word_in ws earlier r h (3 + i) (omega arith)) at (own ws earlier _ _ _ _ (bit i (or_no (net_right i (omega arith))).1));
      fresh = λ i n. rw (word_in ws earlier r h (3 + i) (omega arith)) at (fresh_of ws earlier _ _ _ _ (or_no (net_right i (omega arith))).1);
    }
  where
    M : List ℕ
    M = r ++ h.rest

    net_right : (i : ℕ) → 3 + i < length r
        → ((node_word ws (get_or M 3 0) 0 ≢? 0 and node_word ws (get_or M 3 0) 0 ≢? 8) or not_own_of ws earlier (get_or M (3 + i) 0) (node_word ws (get_or M 3 0) 0) (get_or M 1 0) (3 + i - 3)) ≡ false
    net_right i n =
        sym (pick_no (3 + i ≡? 1) _ _ (eq_no (3 + i) 1 (λ q. absurd (omega arith))) ∙ pick_no (3 + i ≡? 2) _ _ (eq_no (3 + i) 2 (λ q. absurd (omega arith))))
        ∙ sym (port_word ws earlier M (3 + i) (λ q. absurd (omega arith)) (word_in ws earlier r h 0 l ∙ t)) ∙ h.right (3 + i) n

    bit : (i : ℕ) → not_own_of ws earlier (get_or M (3 + i) 0) (node_word ws (get_or M 3 0) 0) (get_or M 1 0) (3 + i - 3) ≡ false
        → not_own_of ws earlier (get_or M (3 + i) 0) (node_word ws (get_or M 3 0) 0) (get_or M 1 0) i ≡ false
    bit i e = let z : 3 + i - 3 ≡ i = omega arith in rw z at e

-- ---- no two nodes of one kind, owner and bit, gates and constants aside ----

differ : (ws : List ℕ) → Told ws → (j n : ℕ) → j < n → n < nets ws → belongs (node_word ws n 0) ≡ true
    → node_word ws j 0 ≡ node_word ws n 0 → node_word ws j 1 ≡ node_word ws n 1 → node_word ws j 2 ≡ node_word ws n 2 → ⊥
unfolding wrong_node_word wrong_bit same_node
differ ws t j n h g b e f d =
    let l = few ws t in
    let r = sym (pick_no (not (n <? nets ws)) _ _ (ap not (lt_yes n (nets ws) g)) ∙ pick_no (2 ≡? 0) _ _ (eq_no 2 0 (λ q. absurd (omega arith)))
    ∙ pick_no (2 ≡? 1) _ _ (eq_no 2 1 (λ q. absurd (omega arith))) ∙ pick_yes (2 ≡? 2) _ _ (eq_yes 2 2 refl)
    ∙ pick_yes (belongs (node_word ws n 0)) _ _ b) ∙ node_right ws t n 2 (omega arith) (omega arith) in
    untrue (sym (not_any (λ j. same_node ws j n) n (or_no r).1 j h)
    ∙ both _ _ (eq_yes _ _ e) (both _ _ (eq_yes _ _ f) (eq_yes _ _ d)))

pub unique : (ws : List ℕ) → Told ws → (j n : ℕ) → j < nets ws → n < nets ws → belongs (node_word ws n 0) ≡ true
    → node_word ws j 0 ≡ node_word ws n 0 → node_word ws j 1 ≡ node_word ws n 1 → node_word ws j 2 ≡ node_word ws n 2 → j ≡ n
unique ws t j n g h b e f d = elim (dec_lt j n) [
  | yes a ↦ absurd (differ ws t j n a h b e f d)
  | no a ↦ elim (dec_lt n j) [
    | yes c ↦ absurd (differ ws t n j c g (rw e b) (sym e) (sym f) (sym d))
    | no c ↦ omega arith
  ]
]

-- ---- one port of a signal and kind ----

pub taken_in : (a : List (List ℕ)) (r : List ℕ) (b : List (List ℕ)) (x : ℕ) → member x (own_nets r) ≡ true → taken (a ++ (r ∷ b)) x ≡ true
unfolding taken ◌or◌
taken_in [] r b x m = rw m
taken_in (y ∷ a) r b x m = at (member x (own_nets y)) (taken_in a r b x m)
  where
    at : (c : Bool) → taken (a ++ (r ∷ b)) x ≡ true → (c or taken (a ++ (r ∷ b)) x) ≡ true
    at true e = refl
    at false e = e

first_in : (xs : List ℕ) → 0 < length xs → member (get_or xs 0 0) xs ≡ true
first_in [] h = absurd (not-suc-le-zero h)
first_in (x ∷ xs) h = member_here x xs

pub port_kind : (k : ℕ) → (k ≢? 0 and k ≢? 8) ≡ false → belongs k ≡ true
unfolding belongs
port_kind k e = elim (dec_lt 0 k) [
  | yes h ↦ (
      let z = no_ne k 8 (and_second (k ≢? 0) (k ≢? 8) e (ne_yes k 0 (λ q. absurd (omega arith)))) in
      sym (or_skip (eq_no k 0 (λ q. absurd (omega arith))) (sym (lt_yes 6 k (omega arith)))))
  | no h ↦ sym (or_hit (6 <? k) (eq_yes k 0 (omega arith)))
]

pub one_port : (ws : List ℕ) → Told ws → (e₁ e₂ a b : List (List ℕ)) (r₁ r₂ : List ℕ) → PortTold ws e₁ r₁ → PortTold ws e₂ r₂ → e₂ ≡ a ++ (r₁ ∷ b) → get_or r₁ 0 0 ≡ 0
    → get_or r₁ 1 0 ≡ get_or r₂ 1 0 → node_word ws (get_or r₁ 3 0) 0 ≡ node_word ws (get_or r₂ 3 0) 0 → ⊥
unfolding own_nets
one_port ws t e₁ e₂ a b r₁ r₂ p q place sort signal kind =
    let u = p.some in
    let v = q.some in
    let l = p.long in
    let x = p.net 0 (omega arith) in
    let y = q.net 0 (omega arith) in
    let same = unique ws t (get_or r₁ 3 0) (get_or r₂ 3 0) x.there y.there (port_kind (node_word ws (get_or r₂ 3 0) 0) q.kind) kind
    (x.owner ∙ signal ∙ sym y.owner) (x.bit ∙ sym y.bit) in
    let w = get_or r₁ 2 0 in
    let d = length-drop 3 r₁ in
    let k = length-take w (drop 3 r₁) in
    let f : get_or (take w (drop 3 r₁)) 0 0 ≡ get_or r₁ 3 0 = get_or-take w (drop 3 r₁) 0 0 (omega arith) ∙ get_or-drop 3 r₁ 0 0 in
    let m : member (get_or r₁ 3 0) (take w (drop 3 r₁)) ≡ true = rw f at (first_in (take w (drop 3 r₁)) (omega arith)) in
    let o = ap (member (get_or r₁ 3 0)) (pick_yes (get_or r₁ 0 0 ≡? 0) _ _ (eq_yes (get_or r₁ 0 0) 0 sort)) ∙ m in
    untrue (sym (q.fresh 0 (omega arith)) ∙ ap (λ (z : ℕ). taken e₂ z) (sym same) ∙ ap (λ (z : List (List ℕ)). taken z (get_or r₁ 3 0)) place ∙ taken_in a r₁ b (get_or r₁ 3 0) o)
