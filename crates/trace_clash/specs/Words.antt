-- A write clash on words: v are the values of all nets before the step, w has the new inputs. Assumes nothing.
use Prim.Native.Nat.{ℕ, zero, suc, min, ◌+◌, ◌≤◌, ◌<◌}
use Rattle.std.proofs.Math.Numerals.{add-one}
use Rattle.std.proofs.Common.{arith, sym, subst, ◌∙◌, eq-eqb, ne_eqb}
use Rattle.std.specs.Prelude as Prelude
use Rattle.std.specs.Option.{unwrap_or}
use Rattle.std.specs.Prelude.{◌≡◌, Bool, true, not, ◌&&◌, List, map, eqb, ltb, drop, get_or}
use Rattle.std.proofs.Math.Path.{refl, ap}
use Rattle.std.proofs.Math.Bool.{false}
use Rattle.std.proofs.Math.Option
use Rattle.std.proofs.Math.Option.{Option}
use Rattle.spec_rtl.specs.Word.{value}
use Rattle.spec_tests.specs.Rules.{pick}
use Rattle.spec_tests.specs.Laws.{pick_hit, pick_skip}
use Rattle.spec_rules.specs.NetlistImage as N
use Rattle.spec_rules.specs.NetlistImage.{memory_port_of, memory_of}
use Rattle.spec_rules.specs.Step.{Access, perhaps, net_access, net_accesses, writing, meets, clashes}
use Rattle.trace_step.specs.Words.{on, second_words}
use Rattle.trace_memory.specs.Ports.{MemoriesFit, not_true, not_false}
use Rattle.trace_sim.specs.Step.{second_some, second_none}

-- the addresses of record r's ports have at most 32 bits
pub record Addressed (r : List ℕ) : Type 0 where
  pub first : get_or (drop 6 r) 2 0 ≤ 32
  pub second : get_or r 5 0 ≡ 2 → get_or (second_words r) 2 0 ≤ 32

pub record AllAddressed (ws places : List ℕ) (count : ℕ) : Type 0 where
  pub each : (i : ℕ) → i < count → Addressed (drop (get_or places i 0) ws)

pub addressed : {ws places : List ℕ} {count : ℕ} → MemoriesFit ws places count → AllAddressed ws places count
addressed f = record { each = λ i h. record { first = (f.each i h).first.write_address; second = λ e. ((f.each i h).second e).write_address } }

pub address_first : {r p : List ℕ} → Addressed r → p ≡ drop 6 r → get_or p 2 0 ≤ 32
address_first a e = subst (λ (l : List ℕ). get_or l 2 0 ≤ 32) (sym e) a.first

pub address_second : {r q : List ℕ} {k : ℕ} → Addressed r → k ≡ get_or r 5 0 → k ≡ 2 → q ≡ second_words r → get_or q 2 0 ≤ 32
address_second a ek two e = subst (λ (l : List ℕ). get_or l 2 0 ≤ 32) (sym e) (a.second (sym ek ∙ two))

-- the number of a memory, 16 where there is none
abbrev pub clash_of : Prelude.Option ℕ → ℕ
clash_of Prelude.None = 16
clash_of (Prelude.Some k) = k

pub clash_or : (o : Prelude.Option ℕ) {k : ℕ} → k ≡ unwrap_or o 16 → k ≡ clash_of o
clash_or Prelude.None e = e
clash_or (Prelude.Some k) e = e

-- record r's memory if its ports write one word, else 16
unfoldable pub clash_number : List ℕ → List ℕ → List ℕ → ℕ
clash_number v w r = pick (clashes (net_accesses (on v) (on w) (memory_of r))) (get_or r 1 0) 16

-- the lowest of the memories at the first n places
unfoldable pub lowest_clash : List ℕ → List ℕ → List ℕ → List ℕ → ℕ → ℕ
lowest_clash ws v w places zero = 16
lowest_clash ws v w places (suc n) = min (lowest_clash ws v w places n) (clash_number v w (drop (get_or places n 0) ws))

-- ---- a record, test by test ----

-- at nets' values f before the step, g in the new inputs
module _ (f g : ℕ → Bool) (r : List ℕ) where
  abbrev first : Access
  first = net_access f g (memory_port_of (drop 6 r))

  abbrev second : Access
  second = net_access f g (memory_port_of (second_words r))

  pub one_port : (get_or r 5 0 ≡ 2 → ⊥) → clashes (net_accesses f g (memory_of r)) ≡ false
  one_port e = ap (λ (o : Option N.MemoryPort). perhaps false (meets (memory_of r).depth (net_access f g (memory_of r).first)) (Option.map (net_access f g) o)) (second_none r e)

  pub two_ports : get_or r 5 0 ≡ 2 → clashes (net_accesses f g (memory_of r)) ≡ meets (get_or r 2 0) first second
  unfolding memory_of
  two_ports e = ap (λ (o : Option N.MemoryPort). perhaps false (meets (get_or r 2 0) first) (Option.map (net_access f g) o)) (second_some r e)

module _ (r v w : List ℕ) {k : ℕ} (ek : k ≡ get_or r 5 0) where
  abbrev clash : Bool
  clash = clashes (net_accesses (on v) (on w) (memory_of r))

  pub clash_one : (k ≡ 2 → ⊥) → false ≡ clash
  clash_one n = sym (one_port (on v) (on w) r (λ e. n (ek ∙ e)))

  module _ (two : k ≡ 2) {p q : List ℕ} (ep : p ≡ drop 6 r) (eq : q ≡ second_words r) where
    abbrev one : Access
    one = net_access (on v) (on w) (memory_port_of (drop 6 r))

    abbrev other : Access
    other = net_access (on v) (on w) (memory_port_of (second_words r))

    met : clash ≡ meets (get_or r 2 0) one other
    met = two_ports (on v) (on w) r (sym ek ∙ two)

    module _ {a : Bool} (ea : a ≡ writing (net_access (on v) (on w) (memory_port_of p))) where
      first_is : (b : Bool) → a ≡ b → writing one ≡ b
      first_is b e = ap (λ (l : List ℕ). writing (net_access (on v) (on w) (memory_port_of l))) (sym ep) ∙ sym ea ∙ e

      pub clash_first : not a ≡ true → false ≡ clash
      clash_first n = sym (met ∙ ap (λ (b : Bool). b && writing other && eqb one.write_at other.write_at && ltb other.write_at (get_or r 2 0)) (first_is false (not_true a n)))

      module _ (ya : not a ≡ false) {b : Bool} (eb : b ≡ writing (net_access (on v) (on w) (memory_port_of q))) where
        from_second : (z : Bool) → b ≡ z → clash ≡ (z && eqb one.write_at other.write_at && ltb other.write_at (get_or r 2 0))
        from_second z e =
            met ∙ ap (λ (y : Bool). y && writing other && eqb one.write_at other.write_at && ltb other.write_at (get_or r 2 0)) (first_is true (not_false a ya))
            ∙ ap (λ (y : Bool). y && eqb one.write_at other.write_at && ltb other.write_at (get_or r 2 0)) (ap (λ (l : List ℕ). writing (net_access (on v) (on w) (memory_port_of l))) (sym eq) ∙ sym eb ∙ e)

        pub clash_second : not b ≡ true → false ≡ clash
        clash_second n = sym (from_second false (not_true b n))

        module _ (yb : not b ≡ false) {x y : ℕ} (ex : x ≡ value (map (on v) (memory_port_of p).write_address)) (ey : y ≡ value (map (on v) (memory_port_of q).write_address)) where
          from_address : clash ≡ (eqb x y && ltb y (get_or r 2 0))
          from_address =
              from_second true (not_false b yb)
              ∙ ap (λ (z : ℕ). eqb z other.write_at && ltb other.write_at (get_or r 2 0)) (sym (ex ∙ ap (λ (l : List ℕ). value (map (on v) (memory_port_of l).write_address)) ep))
              ∙ ap (λ (z : ℕ). eqb x z && ltb z (get_or r 2 0)) (sym (ey ∙ ap (λ (l : List ℕ). value (map (on v) (memory_port_of l).write_address)) eq))

          pub clash_apart : (x ≡ y → ⊥) → false ≡ clash
          clash_apart n = sym (from_address ∙ ap (λ (z : Bool). z && ltb y (get_or r 2 0)) (ne_eqb x y n))

          pub clash_there : x ≡ y → {d : ℕ} → d ≡ get_or r 2 0 → {z : Bool} → z ≡ ltb y d → z ≡ clash
          clash_there e ed ez = ez ∙ ap (ltb y) ed ∙ sym (from_address ∙ ap (λ (z : Bool). z && ltb y (get_or r 2 0)) (eq-eqb x y e))

-- ---- its number, and the lowest ----

module _ (r v w : List ℕ) {b : Bool} (eb : b ≡ clashes (net_accesses (on v) (on w) (memory_of r))) where
  pub number_clash : b ≡ true → {k : ℕ} → k ≡ get_or r 1 0 → k ≡ clash_number v w r
  unfolding clash_number
  number_clash e ek = pick_hit _ (sym eb ∙ e) ek

  pub number_none : b ≡ false → 16 ≡ clash_number v w r
  unfolding clash_number
  number_none e = pick_skip _ (sym eb ∙ e) refl

pub lowest_none : (ws v w places : List ℕ) → 16 ≡ lowest_clash ws v w places 0
unfolding lowest_clash
lowest_none ws v w places = refl

pub lowest_all : (ws v w places : List ℕ) {k i count : ℕ} → i ≤ count → count ≤ i → k ≡ lowest_clash ws v w places i → k ≡ lowest_clash ws v w places count
lowest_all ws v w places {k} {i} {count} h l e = e ∙ ap (lowest_clash ws v w places) (let z : i ≡ count = omega arith in z)

module _ (ws places : List ℕ) (i : ℕ) {a : ℕ} (ea : a ≡ get_or places i 0) {r : List ℕ} (er : r ≡ drop a ws) where
  it_is : r ≡ drop (get_or places i 0) ws
  it_is = er ∙ ap (λ (k : ℕ). drop k ws) ea

  pub addressed_it : {count : ℕ} → AllAddressed ws places count → i < count → Addressed r
  addressed_it f h = subst Addressed (sym it_is) (f.each i h)

  pub lowest_more : (v w : List ℕ) {k n k' : ℕ} → k ≡ lowest_clash ws v w places i → n ≡ clash_number v w r → k' ≡ min k n → k' ≡ lowest_clash ws v w places (i + 1)
  unfolding lowest_clash
  lowest_more v w {k} {n} ek en e = rw add-one (e ∙ ap (λ (x : ℕ). min x n) ek ∙ ap (min (lowest_clash ws v w places i)) (en ∙ ap (clash_number v w) it_is))
