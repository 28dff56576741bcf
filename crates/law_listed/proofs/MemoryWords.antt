-- What is proved of specs/MemoryWords: Each word of a memory's record is right. Assumes nothing.
use Prim.Native.Nat.{ℕ, zero, suc, ◌+◌, ◌-◌, ◌≤◌, ◌<◌}
use Rattle.std.proofs.Common.{arith, ⊎_elim, sym, ap, ◌∙◌, get_or-take}
use Rattle.std.proofs.Math.Decide.{dec_lt, ℕ_discrete}
use Rattle.std.specs.Prelude.{◌≡◌, refl, Bool, true, false, List, ◌∷◌, ◌++◌, length, take, drop}
use Rattle.std.proofs.Math.Option.{Option, none, some}
use Rattle.std.proofs.Math.ListN.{get_or, length-take, length-drop}
use Rattle.std.proofs.Math.Seq.{get_or-drop}
use Rattle.spec_tests.specs.Rules.{◌<?◌, ◌≡?◌, ◌or◌, pick, outside}
use Rattle.spec_tests.specs.Laws.{or_hit, or_skip, lt_yes, lt_no, eq_yes, eq_no, ne_no}
use Rattle.spec_rules.specs.NetlistImage.{MemoryPort, port_lists, port_length, memory_port_of, memory_of}
use Rattle.spec_model.specs.Words.{Netlist}
use Rattle.law_nets.specs.Sound.{Sound}
use Rattle.spec_netlist.specs.Accept.{member, second_data, taken, count_of, wrong_level, no_net, no_optional, not_own_of, wrong_memory_port, wrong_memory}
use Rattle.spec_netlist.specs.Given.{Same}
use Rattle.law_told.specs.Told.{neither, pick_yes, pick_no}
use Rattle.law_listed.specs.Listed.{PortWords, MemoryRecord, Listed}
use Rattle.law_listed.specs.Parts.{member_at, own_memory, number}
use Rattle.law_listed.specs.Whose.{fresh}
use Rattle.law_listed.specs.RecordWords.{level_right}
use Rattle.law_listed.proofs.RecordWords.{word_in}
use Rattle.law_listed.proofs.RecordWords.{net_right, optional_right, not_own}
use Rattle.law_listed.specs.MemoryWords.{left, right, size_of}

long : (p p' : List ℕ) → port_lists p' ≡ port_lists p → port_length p' ≡ port_length p
unfolding port_length
long p p' e = omega arith

lists_same : (p p' : List ℕ) → ((i : ℕ) → i < port_length p → get_or p' i 0 ≡ get_or p i 0) → port_lists p' ≡ port_lists p
unfolding port_length port_lists
lists_same p p' a =
    let a0 = a 0 (omega arith) in
    let a1 = a 1 (omega arith) in
    let a2 = a 2 (omega arith) in
    let a3 = a 3 (omega arith) in
    omega arith

pub length_same : (p p' : List ℕ) → ((i : ℕ) → i < port_length p → get_or p' i 0 ≡ get_or p i 0) → port_length p' ≡ port_length p
length_same p p' a = long p p' (lists_same p p' a)

-- a port's words, followed by others
moved : (l : Netlist) (m w base : ℕ) (p p' : List ℕ) → ((i : ℕ) → i < port_length p → get_or p' i 0 ≡ get_or p i 0) → PortWords l m w base p → PortWords l m w base p'
moved l m w base p p' a c =
    let s = size_of p in
    let s0 = s.0 in
    let s1 = s.1 in
    let a0 = a 0 (omega arith) in
    let a1 = a 1 (omega arith) in
    let a2 = a 2 (omega arith) in
    let a3 = a 3 (omega arith) in
    let e = lists_same p p' a in
    let at : (i : ℕ) → i < 6 → get_or p' (4 + port_lists p' + i) 0 ≡ get_or p (4 + port_lists p + i) 0 = λ i h. rw e (a (4 + port_lists p + i) (omega arith)) in
    let z : (x : List ℕ) → 4 + port_lists x + 0 ≡ 4 + port_lists x = λ x. omega arith in
    let b : get_or p' (4 + port_lists p') 0 ≡ get_or p (4 + port_lists p) 0 = ap (λ (i : ℕ). get_or p' i 0) (sym (z p')) ∙ at 0 (omega arith) ∙ ap (λ (i : ℕ). get_or p i 0) (z p) in
    record {
      read = rw a0 c.read;
      read_most = rw a0 c.read_most;
      wide = a1 ∙ c.wide;
      write = rw a2 c.write;
      write_most = rw a2 c.write_most;
      same = a3 ∙ c.same;
      address = λ i h. let k : i < get_or p 0 0 = omega arith in rw (a (4 + i) (omega arith)) (c.address i k);
      own = λ i h. let k = c.wide in rw (a0, a (4 + get_or p 0 0 + i) (omega arith)) (c.own i h);
      others = λ i h. let k : i < get_or p 2 0 + get_or p 3 0 = omega arith in rw (a0, a1, a (4 + get_or p 0 0 + get_or p 1 0 + i) (omega arith)) (c.others i k);
      enable = rw b c.enable;
      enable_level = rw (b, at 1 (omega arith)) c.enable_level;
      control = rw (at 2 (omega arith)) c.control;
      level = rw (at 3 (omega arith)) c.level;
      clock = rw (at 4 (omega arith)) c.clock;
      edge = rw (at 5 (omega arith)) c.edge;
    }

module _ (ws : List ℕ) (l : Netlist) (s : Same ws l) (place : ℕ → ℕ → ℕ → ℕ) (q : Sound l) (g : Listed l place) where
  module _ (earlier : List (List ℕ)) (m w base : ℕ) (o : List ℕ) (c : PortWords l m w base o) (least : 1 ≤ w) (most : w ≤ 1024)
      (free : (i : ℕ) → i < w → taken earlier (get_or o (4 + get_or o 0 0 + i) 0) ≡ false) where
    abbrev a : ℕ
    a = 4 + get_or o 0 0

    abbrev b : ℕ
    b = a + get_or o 1 0

    abbrev e : ℕ
    e = 4 + port_lists o

    tail : (i : ℕ) → e ≤ i → i < e + 6 → (pick (i ≡? e) (no_optional ws (get_or o i 0)) (pick (i ≡? e + 1) (wrong_level (get_or o e 0) (get_or o i 0))
        (pick (i ≡? e + 2 or i ≡? e + 4) (no_net ws (get_or o i 0)) (1 <? get_or o i 0)))) ≡ false
    tail i lo hi = go (ℕ_discrete i e) (ℕ_discrete i (e + 1)) (ℕ_discrete i (e + 2)) (ℕ_discrete i (e + 4)) (ℕ_discrete i (e + 3))
      where
        either : (x y : Bool) → y ≡ true → (x or y) ≡ true
        either true y h = sym (or_hit y refl)
        either false y h = sym (or_skip refl (sym h))

        go : Dec (i ≡ e) → Dec (i ≡ e + 1) → Dec (i ≡ e + 2) → Dec (i ≡ e + 4) → Dec (i ≡ e + 3)
            → (pick (i ≡? e) (no_optional ws (get_or o i 0)) (pick (i ≡? e + 1) (wrong_level (get_or o e 0) (get_or o i 0))
            (pick (i ≡? e + 2 or i ≡? e + 4) (no_net ws (get_or o i 0)) (1 <? get_or o i 0)))) ≡ false
        go (yes h) x y z u = pick_yes (i ≡? e) _ _ (eq_yes i e h) ∙ ap (λ (k : ℕ). no_optional ws (get_or o k 0)) h ∙ optional_right ws l s place q g (get_or o e 0) c.enable
        go (no h) (yes x) y z u = pick_no (i ≡? e) _ _ (eq_no i e h) ∙ pick_yes (i ≡? e + 1) _ _ (eq_yes i (e + 1) x)
            ∙ ap (λ (k : ℕ). wrong_level (get_or o e 0) (get_or o k 0)) x ∙ level_right (get_or o e 0) (get_or o (e + 1) 0) c.enable_level
        go (no h) (no x) (yes y) z u = pick_no (i ≡? e) _ _ (eq_no i e h) ∙ pick_no (i ≡? e + 1) _ _ (eq_no i (e + 1) x)
            ∙ pick_yes (i ≡? e + 2 or i ≡? e + 4) _ _ (sym (or_hit (i ≡? e + 4) (eq_yes i (e + 2) y))) ∙ ap (λ (k : ℕ). no_net ws (get_or o k 0)) y ∙ net_right ws l s place q g (get_or o (e + 2) 0) c.control
        go (no h) (no x) (no y) (yes z) u = pick_no (i ≡? e) _ _ (eq_no i e h) ∙ pick_no (i ≡? e + 1) _ _ (eq_no i (e + 1) x)
            ∙ pick_yes (i ≡? e + 2 or i ≡? e + 4) _ _ (either (i ≡? e + 2) (i ≡? e + 4) (eq_yes i (e + 4) z)) ∙ ap (λ (k : ℕ). no_net ws (get_or o k 0)) z ∙ net_right ws l s place q g (get_or o (e + 4) 0) c.clock
        go (no h) (no x) (no y) (no z) (yes u) = pick_no (i ≡? e) _ _ (eq_no i e h) ∙ pick_no (i ≡? e + 1) _ _ (eq_no i (e + 1) x)
            ∙ pick_no (i ≡? e + 2 or i ≡? e + 4) _ _ (neither _ _ (eq_no i (e + 2) y) (eq_no i (e + 4) z)) ∙ ap (λ (k : ℕ). 1 <? get_or o k 0) u ∙ lt_no 1 (get_or o (e + 3) 0) c.level
        go (no h) (no x) (no y) (no z) (no u) =
            let v : i ≡ e + 5 = omega arith in
            pick_no (i ≡? e) _ _ (eq_no i e h) ∙ pick_no (i ≡? e + 1) _ _ (eq_no i (e + 1) x)
            ∙ pick_no (i ≡? e + 2 or i ≡? e + 4) _ _ (neither _ _ (eq_no i (e + 2) y) (eq_no i (e + 4) z)) ∙ ap (λ (k : ℕ). 1 <? get_or o k 0) v ∙ lt_no 1 (get_or o (e + 5) 0) c.edge

    late : (i : ℕ) → 4 ≤ i → i < port_length o → wrong_memory_port ws earlier m w base o i ≡ false
    unfolding wrong_memory_port
    late i h k = skip ∙ go (dec_lt i a) (dec_lt i b) (dec_lt i e)
      where
        skip : wrong_memory_port ws earlier m w base o i ≡ pick (i <? a) (no_net ws (get_or o i 0)) (pick (i <? b) (not_own_of ws earlier (get_or o i 0) 9 m (base + (i - a)))
            (pick (i <? e) (no_net ws (get_or o i 0)) (pick (i ≡? e) (no_optional ws (get_or o i 0)) (pick (i ≡? e + 1) (wrong_level (get_or o e 0) (get_or o i 0))
            (pick (i ≡? e + 2 or i ≡? e + 4) (no_net ws (get_or o i 0)) (1 <? get_or o i 0))))))
        skip = pick_no (i ≡? 0 or i ≡? 2) _ _ (neither _ _ (eq_no i 0 (λ z. absurd (omega arith))) (eq_no i 2 (λ z. absurd (omega arith))))
            ∙ pick_no (i ≡? 1) _ _ (eq_no i 1 (λ z. absurd (omega arith))) ∙ pick_no (i ≡? 3) _ _ (eq_no i 3 (λ z. absurd (omega arith)))

        go : Dec (i < a) → Dec (i < b) → Dec (i < e) → pick (i <? a) (no_net ws (get_or o i 0)) (pick (i <? b) (not_own_of ws earlier (get_or o i 0) 9 m (base + (i - a)))
            (pick (i <? e) (no_net ws (get_or o i 0)) (pick (i ≡? e) (no_optional ws (get_or o i 0)) (pick (i ≡? e + 1) (wrong_level (get_or o e 0) (get_or o i 0))
            (pick (i ≡? e + 2 or i ≡? e + 4) (no_net ws (get_or o i 0)) (1 <? get_or o i 0)))))) ≡ false
        go (yes x) y z =
            let u : 4 + (i - 4) ≡ i = omega arith in
            pick_yes (i <? a) _ _ (lt_yes i a x) ∙ net_right ws l s place q g (get_or o i 0) (rw u at (c.address (i - 4) (omega arith)))
        go (no x) (yes y) z =
            let u : a + (i - a) ≡ i = omega arith in
            let v = c.wide in
            pick_no (i <? a) _ _ (lt_no i a (omega arith)) ∙ pick_yes (i <? b) _ _ (lt_yes i b y)
            ∙ not_own ws l s place q g earlier (get_or o i 0) 9 m (base + (i - a)) (rw u at (c.own (i - a) (omega arith))) (rw u at (free (i - a) (omega arith)))
        go (no x) (no y) (yes z) =
            let u : b + (i - b) ≡ i = omega arith in
            let v = (size_of o).0 in
            pick_no (i <? a) _ _ (lt_no i a (omega arith)) ∙ pick_no (i <? b) _ _ (lt_no i b (omega arith)) ∙ pick_yes (i <? e) _ _ (lt_yes i e z)
            ∙ net_right ws l s place q g (get_or o i 0) (rw u at (c.others (i - b) (omega arith)))
        go (no x) (no y) (no z) =
            pick_no (i <? a) _ _ (lt_no i a (omega arith)) ∙ pick_no (i <? b) _ _ (lt_no i b (omega arith)) ∙ pick_no (i <? e) _ _ (lt_no i e (omega arith))
            ∙ tail i (omega arith) (let v = (size_of o).1 in omega arith)

    port_right : (i : ℕ) → i < port_length o → wrong_memory_port ws earlier m w base o i ≡ false
    unfolding wrong_memory_port outside
    port_right zero k = pick_yes (0 ≡? 0 or 0 ≡? 2) _ _ (sym (or_hit (0 ≡? 2) (eq_yes 0 0 refl))) ∙ neither _ _ (lt_no (get_or o 0 0) 1 c.read) (lt_no 32 (get_or o 0 0) c.read_most)
    port_right (suc zero) k = pick_no (1 ≡? 0 or 1 ≡? 2) _ _ (neither _ _ (eq_no 1 0 (λ z. absurd (omega arith))) (eq_no 1 2 (λ z. absurd (omega arith)))) ∙ pick_yes (1 ≡? 1) _ _ (eq_yes 1 1 refl)
        ∙ rw c.wide (neither _ _ (neither _ _ (lt_no w 1 least) (lt_no 1024 w most)) (ne_no w w refl))
    port_right (suc (suc zero)) k = pick_yes (2 ≡? 0 or 2 ≡? 2) _ _ (sym (or_skip (eq_no 2 0 (λ z. absurd (omega arith))) (sym (eq_yes 2 2 refl))))
        ∙ neither _ _ (lt_no (get_or o 2 0) 1 c.write) (lt_no 32 (get_or o 2 0) c.write_most)
    port_right (suc (suc (suc zero))) k = pick_no (3 ≡? 0 or 3 ≡? 2) _ _ (neither _ _ (eq_no 3 0 (λ z. absurd (omega arith))) (eq_no 3 2 (λ z. absurd (omega arith))))
        ∙ pick_no (3 ≡? 1) _ _ (eq_no 3 1 (λ z. absurd (omega arith))) ∙ pick_yes (3 ≡? 3) _ _ (eq_yes 3 3 refl) ∙ ne_no (get_or o 3 0) w c.same
    port_right (suc (suc (suc (suc i)))) k = late (suc (suc (suc (suc i)))) (omega arith) k

  -- ---- the record ----

  module _ (earlier : List (List ℕ)) (r : List ℕ) (rs : List (List ℕ)) (e : l.records ≡ earlier ++ (r ∷ rs)) (rest : List ℕ) (t : get_or r 0 0 ≡ 2) where
    abbrev L : List ℕ
    L = r ++ rest

    memory : MemoryRecord l r
    memory = let n = number 2 earlier r rs l.records e t in rw n.is at (g.memories (count_of 2 earlier) n.there)

    abbrev Q : ℕ
    Q = 6 + port_length (drop 6 r)

    at : (i : ℕ) → i < length r → get_or (r ++ rest) i 0 ≡ get_or r i 0
    at i h = word_in ws l s place q g earlier r rs e rest i h

    behind : (k i : ℕ) → k + i < length r → get_or (drop k L) i 0 ≡ get_or (drop k r) i 0
    behind k i h = get_or-drop k L i 0 ∙ at (k + i) h ∙ sym (get_or-drop k r i 0)

    long_first : Q ≤ length r
    long_first = ⊎_elim (λ (z : (get_or r 5 0 ≡ 1) × (length r ≡ Q)). (let y = z.1 in omega arith))
        (λ (z : (get_or r 5 0 ≡ 2) × (length r ≡ Q + port_length (drop Q r))). (let y = z.1 in omega arith)) memory.ports

    long_second : Q < length r → (get_or r 5 0 ≡ 2) × (length r ≡ Q + port_length (drop Q r))
    long_second h = ⊎_elim (λ (z : (get_or r 5 0 ≡ 1) × (length r ≡ Q)). absurd (let y = z.1 in omega arith))
        (λ (z : (get_or r 5 0 ≡ 2) × (length r ≡ Q + port_length (drop Q r))). z) memory.ports

    own_first : (x : ℕ) → member x (memory_port_of (drop 6 r)).read_data ≡ true → taken earlier x ≡ false
    unfolding memory_of
    own_first x h = fresh l place q g earlier r rs e 2 (omega arith) t x (rw (own_memory r t) (left x (memory_port_of (drop 6 r)).read_data (second_data (memory_of r).second) h))

    own_second : get_or r 5 0 ≡ 2 → (x : ℕ) → member x (memory_port_of (drop Q r)).read_data ≡ true → taken earlier x ≡ false
    unfolding memory_of second_data
    own_second z x h = fresh l place q g earlier r rs e 2 (omega arith) t x (rw (own_memory r t) (right x (memory_port_of (drop 6 r)).read_data (second_data (memory_of r).second)
        (ap (λ (o : Option MemoryPort). member x (second_data o)) (pick_yes (get_or r 5 0 ≡? 2) (some (memory_port_of (drop Q r))) none (eq_yes (get_or r 5 0) 2 z)) ∙ h)))

    -- a read data net is among the port's own
    among : (o : List ℕ) (i : ℕ) → i < get_or o 1 0 → port_length o ≤ length o → member (get_or o (4 + get_or o 0 0 + i) 0) (memory_port_of o).read_data ≡ true
    unfolding memory_port_of
    among o i h k =
        let d = length-drop (4 + get_or o 0 0) o in
        let z = length-take (get_or o 1 0) (drop (4 + get_or o 0 0) o) in
        let u = size_of o in
        let v = u.0 in
        let x = u.1 in
        member_at _ (take (get_or o 1 0) (drop (4 + get_or o 0 0) o)) i (omega arith) (get_or-take (get_or o 1 0) (drop (4 + get_or o 0 0) o) i 0 h ∙ get_or-drop (4 + get_or o 0 0) o i 0)

    six : 16 ≤ length r
    six = let h = long_first in let z = (size_of (drop 6 r)).1 in omega arith

    agree : (i : ℕ) → i < port_length (drop 6 r) → get_or (drop 6 L) i 0 ≡ get_or (drop 6 r) i 0
    agree i h = behind 6 i (let k = long_first in omega arith)

    first_right : (i : ℕ) → i < port_length (drop 6 r) → wrong_memory_port ws earlier (get_or L 1 0) (get_or L 7 0) 0 (drop 6 L) i ≡ false
    first_right i h =
        let k = six in
        let d = length-drop 6 r in
        let j = long_first in
        let c = memory.first in
        let u = c.wide in
        let s = size_of (drop 6 r) in
        let s0 = s.0 in
        let s1 = s.1 in
        let b0 : get_or (drop 6 L) 0 0 ≡ get_or (drop 6 r) 0 0 = agree 0 (omega arith) in
        rw (at 1 (omega arith), at 7 (omega arith)) (port_right earlier (get_or r 1 0) (get_or r 7 0) 0 (drop 6 L) (moved l _ _ _ (drop 6 r) (drop 6 L) agree c) memory.wide memory.width
        (λ x y. rw (b0, agree (4 + get_or (drop 6 r) 0 0 + x) (omega arith)) (own_first _ (among (drop 6 r) x (omega arith) (omega arith))))
        i (let v = length_same (drop 6 r) (drop 6 L) agree in omega arith))

    agree₂ : Q < length r → (i : ℕ) → i < port_length (drop Q r) → get_or (drop Q L) i 0 ≡ get_or (drop Q r) i 0
    agree₂ g i h = behind Q i (let k = (long_second g).1 in omega arith)

    second_right : Q < length r → (i : ℕ) → i < port_length (drop Q r) → wrong_memory_port ws earlier (get_or L 1 0) (get_or L 7 0) (get_or L 7 0) (drop Q L) i ≡ false
    second_right g i h =
        let k = six in
        let d = length-drop Q r in
        let j = long_second g in
        let j1 = j.1 in
        let c = memory.second j.0 in
        let u = c.wide in
        let s = size_of (drop Q r) in
        let s0 = s.0 in
        let s1 = s.1 in
        let b0 : get_or (drop Q L) 0 0 ≡ get_or (drop Q r) 0 0 = agree₂ g 0 (omega arith) in
        rw (at 1 (omega arith), at 7 (omega arith)) (port_right earlier (get_or r 1 0) (get_or r 7 0) (get_or r 7 0) (drop Q L) (moved l _ _ _ (drop Q r) (drop Q L) (agree₂ g) c) memory.wide memory.width
        (λ x y. rw (b0, agree₂ g (4 + get_or (drop Q r) 0 0 + x) (omega arith)) (own_second j.0 _ (among (drop Q r) x (omega arith) (omega arith))))
        i (let v = length_same (drop Q r) (drop Q L) (agree₂ g) in omega arith))

    memory_late : (i : ℕ) → 6 ≤ i → i < length r → wrong_memory ws earlier L i ≡ false
    unfolding wrong_memory
    memory_late i a h = skip ∙ rw (length_same (drop 6 r) (drop 6 L) agree) (go (dec_lt i Q))
      where
        skip : wrong_memory ws earlier L i ≡ pick (i <? 6 + port_length (drop 6 L)) (wrong_memory_port ws earlier (get_or L 1 0) (get_or L 7 0) 0 (drop 6 L) (i - 6))
            (wrong_memory_port ws earlier (get_or L 1 0) (get_or L 7 0) (get_or L 7 0) (drop (6 + port_length (drop 6 L)) L) (i - (6 + port_length (drop 6 L))))
        skip = pick_no (i ≡? 1) _ _ (eq_no i 1 (λ z. absurd (omega arith))) ∙ pick_no (i ≡? 2) _ _ (eq_no i 2 (λ z. absurd (omega arith)))
            ∙ pick_no (i ≡? 3) _ _ (eq_no i 3 (λ z. absurd (omega arith))) ∙ pick_no (i ≡? 4) _ _ (eq_no i 4 (λ z. absurd (omega arith)))
            ∙ pick_no (i ≡? 5) _ _ (eq_no i 5 (λ z. absurd (omega arith)))

        go : Dec (i < Q) → pick (i <? Q) (wrong_memory_port ws earlier (get_or L 1 0) (get_or L 7 0) 0 (drop 6 L) (i - 6))
            (wrong_memory_port ws earlier (get_or L 1 0) (get_or L 7 0) (get_or L 7 0) (drop Q L) (i - Q)) ≡ false
        go (yes x) = pick_yes (i <? Q) _ _ (lt_yes i Q x) ∙ first_right (i - 6) (omega arith)
        go (no x) =
            let y : Q < length r = omega arith in
            pick_no (i <? Q) _ _ (lt_no i Q (omega arith)) ∙ second_right y (i - Q) (let k = (long_second y).1 in omega arith)

    pub memory_right : (i : ℕ) → 0 < i → i < length r → wrong_memory ws earlier L i ≡ false
    unfolding wrong_memory outside
    memory_right zero a h = absurd (omega arith)
    memory_right (suc zero) a h = pick_yes (1 ≡? 1) _ _ (eq_yes 1 1 refl) ∙ rw (at 1 h) (lt_no 15 (get_or r 1 0) memory.index)
    memory_right (suc (suc zero)) a h = pick_no (2 ≡? 1) _ _ (eq_no 2 1 (λ z. absurd (omega arith))) ∙ pick_yes (2 ≡? 2) _ _ (eq_yes 2 2 refl)
        ∙ rw (at 2 h) (neither _ _ (lt_no (get_or r 2 0) 1 memory.deep) (lt_no 65536 (get_or r 2 0) memory.depth))
    memory_right (suc (suc (suc zero))) a h = pick_no (3 ≡? 1) _ _ (eq_no 3 1 (λ z. absurd (omega arith))) ∙ pick_no (3 ≡? 2) _ _ (eq_no 3 2 (λ z. absurd (omega arith)))
        ∙ pick_yes (3 ≡? 3) _ _ (eq_yes 3 3 refl) ∙ rw (at 3 h) (lt_no 2 (get_or r 3 0) memory.style)
    memory_right (suc (suc (suc (suc zero)))) a h = pick_no (4 ≡? 1) _ _ (eq_no 4 1 (λ z. absurd (omega arith))) ∙ pick_no (4 ≡? 2) _ _ (eq_no 4 2 (λ z. absurd (omega arith)))
        ∙ pick_no (4 ≡? 3) _ _ (eq_no 4 3 (λ z. absurd (omega arith))) ∙ pick_yes (4 ≡? 4) _ _ (eq_yes 4 4 refl) ∙ rw (at 4 h) (ne_no (get_or r 4 0) 1 memory.latency)
    memory_right (suc (suc (suc (suc (suc zero))))) a h = pick_no (5 ≡? 1) _ _ (eq_no 5 1 (λ z. absurd (omega arith))) ∙ pick_no (5 ≡? 2) _ _ (eq_no 5 2 (λ z. absurd (omega arith)))
        ∙ pick_no (5 ≡? 3) _ _ (eq_no 5 3 (λ z. absurd (omega arith))) ∙ pick_no (5 ≡? 4) _ _ (eq_no 5 4 (λ z. absurd (omega arith))) ∙ pick_yes (5 ≡? 5) _ _ (eq_yes 5 5 refl)
        ∙ rw (at 5 h) (neither _ _ (lt_no (get_or r 5 0) 1 (⊎_elim (λ (z : (get_or r 5 0 ≡ 1) × _). (let y = z.0 in omega arith)) (λ (z : (get_or r 5 0 ≡ 2) × _). (let y = z.0 in omega arith)) memory.ports))
        (lt_no 2 (get_or r 5 0) (⊎_elim (λ (z : (get_or r 5 0 ≡ 1) × _). (let y = z.0 in omega arith)) (λ (z : (get_or r 5 0 ≡ 2) × _). (let y = z.0 in omega arith)) memory.ports)))
    memory_right (suc (suc (suc (suc (suc (suc i)))))) a h = memory_late (suc (suc (suc (suc (suc (suc i)))))) (omega arith) h
