-- The lowest clash on words is the step rule's. Assumes nothing.
use Prim.Native.Nat.{ℕ, zero, suc, min, ◌+◌, ◌≤◌, ◌<◌}
use Rattle.std.proofs.Common.{not-suc-le-zero, arith, ◌∙◌}
use Rattle.std.proofs.Math.Decide.{dec_lt}
use Rattle.std.specs.Prelude.{◌≡◌, Bool, false, drop}
use Rattle.std.proofs.Math.Path.{refl, sym, ap, subst}
use Rattle.std.proofs.Math.Bool.{true}
use mathlib.Core.List.{List, []}
use Rattle.std.proofs.Math.Option.{Option, none, some, map}
use Rattle.std.proofs.Math.ListN.{length, get_or}
use Rattle.spec_tests.specs.Rules.{◌≡?◌, pick, first, Fine}
use Rattle.spec_tests.specs.Laws.{yes_eq, no_eq, from, begins, here, passed, past}
use Rattle.spec_rules.specs.NetlistImage as N
use Rattle.spec_rules.specs.NetlistImage.{records_with, memory_port_of, memory_of, netlist}
use Rattle.spec_rules.specs.Step.{Setting, Contents, Access, perhaps, net, net_access, net_accesses, writing, meets, clashes, clashing, find_memory, of_netlist}
use Rattle.spec_netlist.specs.Accept.{accepts}
use Rattle.law_told.specs.Told.{untrue, pick_yes, pick_no}
use Rattle.law_sorts.specs.Cut.{memory_cut}
use Rattle.law_sorts.specs.Numbers.{There, find_there}
use Rattle.trace_walk.specs.Places.{Begins, Places}
use Rattle.trace_pass.specs.Plan.{Valued}
use Rattle.trace_step.specs.Words.{on, second_words}
use Rattle.trace_sim.specs.Sources.{memory_at_law, find_memory_law}
use Rattle.trace_sim.specs.Registers.{Inputs}
use Rattle.trace_sim.specs.Accesses.{ticks_same, writes_same, write_at_same}
use Rattle.trace_sim.specs.Step.{Fit, first_clock, second_clock}
use Rattle.trace_clash.specs.Words.{clash_number, lowest_clash, one_port, two_ports}

-- ---- the first number with a test, from what is known of it ----

first_is : (p : ℕ → Bool) (n k : ℕ) → k ≤ n → ((j : ℕ) → j < k → p j ≡ false) → (k < n → p k ≡ true) → first p n ≡ k
first_is p n k h low at = elim (dec_lt k n) [
  | yes l ↦ skip k (omega arith) ∙ here p n k l (at l)
  | no l ↦ (let e : k ≡ n = omega arith in skip k (omega arith) ∙ ap (from p n) e ∙ past p n ∙ sym e)
]
  where
    skip : (j : ℕ) → j ≤ k → first p n ≡ from p n j
    skip zero l = begins p n
    skip (suc j) l = skip j (omega arith) ∙ passed p n j (omega arith) (low j (omega arith)) ∙ ap (from p n) (let e : j + 1 ≡ suc j = omega arith in e)

-- ---- a port on words and on nets ----

meets_same : (depth : ℕ) (a b c d : Access) → writing a ≡ writing c → a.write_at ≡ c.write_at → writing b ≡ writing d → b.write_at ≡ d.write_at → meets depth a b ≡ meets depth c d
meets_same depth a b c d e f g h = rw (e, f, g, h)

module _ (ws : List ℕ) (ok : accepts ws ≡ Fine) (fit : Fit ws ok) (s t : Setting) (c : Contents) {v w : List ℕ} (x : Valued ws s c v) (y : Inputs ws ok s t c w) where
  abbrev g : ℕ → Bool
  g = net (netlist ws) s c

  abbrev h : ℕ → Bool
  h = net (netlist ws) t c

  -- memory k clashes in the step
  abbrev P : ℕ → Bool
  P k = perhaps false clashes (map (net_accesses g h) (find_memory (netlist ws).memories k))

  module _ (m : ℕ) (l : m < length (records_with 2 ws)) where
    abbrev r : List ℕ
    r = (memory_at_law ws ok m l).it.r

    record_same : clashes (net_accesses (on v) (on w) (memory_of r)) ≡ clashes (net_accesses g h (memory_of r))
    record_same = go (get_or r 5 0 ≡? 2) refl
      where
        go : (b : Bool) → (get_or r 5 0 ≡? 2) ≡ b → clashes (net_accesses (on v) (on w) (memory_of r)) ≡ clashes (net_accesses g h (memory_of r))
        go true e =
            let two = yes_eq _ _ e in
            let a = (memory_at_law ws ok m l).told.first in
            let b = (memory_at_law ws ok m l).told.second two in
            let p = ticks_same a ok s t c x y (first_clock ws r (fit.memories m l)) in
            let q = ticks_same b ok s t c x y (second_clock ws r (fit.memories m l) two) in
            two_ports (on v) (on w) r two
            ∙ meets_same (get_or r 2 0) (net_access (on v) (on w) (memory_port_of (drop 6 r))) (net_access (on v) (on w) (memory_port_of (second_words r))) (net_access g h (memory_port_of (drop 6 r))) (net_access g h (memory_port_of (second_words r)))
            (rw (p, writes_same a ok s t c x y) refl) (write_at_same a ok s t c x y) (rw (q, writes_same b ok s t c x y) refl) (write_at_same b ok s t c x y)
            ∙ sym (two_ports g h r two)
        go false e = one_port (on v) (on w) r (no_eq _ _ e) ∙ sym (one_port g h r (no_eq _ _ e))

    it_clashes : P (get_or r 1 0) ≡ clashes (net_accesses (on v) (on w) (memory_of r))
    it_clashes = ap (λ (o : Option N.MemoryCell). perhaps false clashes (map (net_accesses g h) o)) (find_memory_law ws ok m l) ∙ sym record_same

  -- the number of memory m's record
  abbrev index : (m : ℕ) → m < length (records_with 2 ws) → ℕ
  index m l = get_or (memory_at_law ws ok m l).it.r 1 0

  same_index : (m i : ℕ) (l : m < length (records_with 2 ws)) (n : i < length (records_with 2 ws)) → m ≡ i → index m l ≡ index i n
  same_index m i l n e = ap (λ (z : List ℕ). get_or z 1 0) (sym (memory_at_law ws ok m l).it.is ∙ ap (λ (k : ℕ). get_or (records_with 2 ws) k []) e ∙ (memory_at_law ws ok i n).it.is)

  module _ {places : List ℕ} {count : ℕ} (p : Places ws 2 places count) where
    number_is : (i : ℕ) → i < count → (l : i < length (records_with 2 ws)) → clash_number v w (drop (get_or places i 0) ws) ≡ pick (P (index i l)) (index i l) 16
    unfolding clash_number memory_of
    number_is i n l =
        let a = memory_at_law ws ok i l in
        let b = subst (λ (z : List ℕ). Begins ws (get_or places i 0) z) a.it.is (p.at i n) in
        let e : memory_of (drop (get_or places i 0) ws) ≡ memory_of a.it.r = ap memory_of b.is ∙ memory_cut a.told b.rest in
        ap (λ (x : N.MemoryCell). pick (clashes (net_accesses (on v) (on w) x)) x.index 16) e
        ∙ ap (λ (z : Bool). pick z (get_or a.it.r 1 0) 16) (sym (it_clashes i l))

    -- what the lowest is, after i places
    record Lowest (i k : ℕ) : Type 0 where
      pub most : k ≤ 16
      pub met : k < 16 → P k ≡ true
      pub low : (m : ℕ) (l : m < length (records_with 2 ws)) → m < i → P (index m l) ≡ true → k ≤ index m l

    -- the record at one more place has number j if it clashes
    one_more : (i : ℕ) (l : i < length (records_with 2 ws)) {k j : ℕ} → Lowest i k → (b : Bool) → P (index i l) ≡ b → j ≡ pick b (index i l) 16 → Lowest (suc i) (min k j)
    one_more i l {k} {j} ih true e f =
        let q : j ≡ index i l = f ∙ pick_yes true _ _ refl in
        let z = ih.most in
        record {
          most = omega arith;
          met = λ n. elim (dec_lt k j) [
            | yes d ↦ ap P (let y : min k j ≡ k = omega arith in y) ∙ ih.met (omega arith)
            | no d ↦ ap P (let y : min k j ≡ index i l = omega arith in y) ∙ e
          ];
          low = λ m lm n y. elim (dec_lt m i) [
            | yes d ↦ (let a = ih.low m lm d y in omega arith)
            | no d ↦ (let a = same_index m i lm l (omega arith) in omega arith)
          ];
        }
    one_more i l {k} {j} ih false e f =
        let q : j ≡ 16 = f ∙ pick_no false _ _ refl in
        let z = ih.most in
        let y : min k j ≡ k = omega arith in
        subst (Lowest (suc i)) (sym y) (record {
          most = z;
          met = ih.met;
          low = λ m lm n u. elim (dec_lt m i) [
            | yes d ↦ ih.low m lm d u
            | no d ↦ untrue (sym e ∙ ap P (sym (same_index m i lm l (omega arith))) ∙ u)
          ];
        })

    lowest_upto : (i : ℕ) → i ≤ count → Lowest i (lowest_clash ws v w places i)
    unfolding lowest_clash
    lowest_upto zero n = record { most = omega arith; met = λ q. absurd (omega arith); low = λ m l q. absurd (not-suc-le-zero q) }
    lowest_upto (suc i) n = more (lowest_upto i (omega arith)) (let q = p.count in omega arith)
      where
        more : Lowest i (lowest_clash ws v w places i) → (l : i < length (records_with 2 ws)) → Lowest (suc i) (min (lowest_clash ws v w places i) (clash_number v w (drop (get_or places i 0) ws)))
        more ih l = one_more i l ih (P (index i l)) refl (number_is i (omega arith) l)

    none_below : (j : ℕ) → j < lowest_clash ws v w places count → P j ≡ false
    unfolding netlist
    none_below j n = go (find_memory (netlist ws).memories j) refl
      where
        some_clash : There (records_with 2 ws) j → P j ≡ true → ⊥
        some_clash t e =
            let l = t.inside in
            let q = p.count in
            let i : index t.at l ≡ j = ap (λ (z : List ℕ). get_or z 1 0) (sym (memory_at_law ws ok t.at l).it.is) ∙ t.index in
            let a = (lowest_upto count (omega arith)).low t.at l (omega arith) (ap P i ∙ e) in
            absurd (omega arith)

        none_here : (b : Bool) → P j ≡ b → There (records_with 2 ws) j → P j ≡ false
        none_here true e t = absurd (some_clash t e)
        none_here false e t = e

        go : (o : Option N.MemoryCell) → find_memory (netlist ws).memories j ≡ o → P j ≡ false
        go none e = ap (λ (o : Option N.MemoryCell). perhaps false clashes (map (net_accesses g h) o)) e
        go (some x) e = none_here (P j) refl (find_there (records_with 2 ws) j x e)

    pub lowest_is : lowest_clash ws v w places count ≡ clashing ((of_netlist (netlist ws)).reads s c t)
    unfolding clashing
    lowest_is = let it = lowest_upto count (omega arith) in sym (first_is P 16 (lowest_clash ws v w places count) it.most none_below it.met)
