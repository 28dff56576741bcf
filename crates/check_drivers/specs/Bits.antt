-- Driven bits as a table with a byte for each bit of a signal, 1 where the bit has a driver: what the table holds (`MarksSay`, `Marks`), that its
-- answers are those of the image (`answers`), and what it holds once more bits are marked (`holds_more`).
use Rattle.std.specs.Prelude.{ℕ, zero, suc, ◌+◌, ◌-◌, ◌≤◌, ◌<◌, Bool, true, false, List, ◌⊎◌, ◌≡◌, refl, length, get_or, set, replicate}
use Rattle.std.proofs.Common.{true≢false, inl, inr, ⊎_elim, sym, ap, ap₂, ◌∙◌, subst, arith, eq-or-lt_of_le, length-set, get_or-set_same, get_or-set_other}
use Rattle.std.proofs.lemmas.List.{length-replicate}
use Rattle.spec_tests.specs.Rules.{◌<?◌, ◌≡?◌, ◌or◌, ◌and◌, any, sum_to}
use Rattle.spec_tests.specs.Any.{same_bool, any_empty, any_at, any_found, any_more}
use Rattle.spec_tests.specs.Laws.{or_yes, or_left, or_right, and_yes, lt_yes, yes_lt, no_lt, eq_yes, eq_no, yes_eq, sum_more}
use Rattle.spec_rules.specs.Image.{count_at_of, field, signal_width, first_port, has_second, second_port}
use Rattle.spec_rules.specs.Checks.{signal_bits, assigned, targeted, read_into}

-- ---- the tables ----

-- what the tables ask of the signals
pub record SignalsFit (s : List ℕ) : Type 0 where
  pub most : signal_bits s ≤ 4096
  pub wide : (p : ℕ) → p < count_at_of s 0 → 1 ≤ signal_width s p

-- word p is the first bit of signal p
pub record Firsts (s firsts : List ℕ) : Type 0 where
  pub fit : SignalsFit s
  pub few : count_at_of s 0 ≤ length firsts
  pub first_of : (p : ℕ) → p < count_at_of s 0 → get_or firsts p 0 ≡ sum_to (signal_width s) p

unfoldable pub marked : List ℕ → ℕ → Bool
marked t k = get_or t k 0 ≡? 1

-- k is one of the n numbers from at on
unfoldable pub within : ℕ → ℕ → ℕ → Bool
within at n k = at <? k + 1 and k <? at + n

-- the marks say d of each bit of each signal
pub record MarksSay (s : List ℕ) (d : ℕ → ℕ → Bool) (t : List ℕ) : Type 0 where
  pub room : signal_bits s ≤ length t
  pub bits : (p b : ℕ) → p < count_at_of s 0 → b < signal_width s p → marked t (sum_to (signal_width s) p + b) ≡ d p b

-- bit b of signal p is driven by one of the first a assignments, i registers or j memories
unfoldable pub bit_driven : List ℕ → ℕ → ℕ → ℕ → ℕ → ℕ → Bool
bit_driven s a i j p b = assigned s a p b 1 or targeted s i p or read_into s j p

pub record Marks (s : List ℕ) (a i j : ℕ) (t : List ℕ) : Type 0 where
  pub holds : MarksSay s (bit_driven s a i j) t
  pub widths : (k : ℕ) → k < a → 1 ≤ field s 3 k 2

-- the n bits from at on are marked, the others are as before
pub record Marked (at n : ℕ) (t t' : List ℕ) : Type 0 where
  pub long : length t' ≡ length t
  pub bits : (k : ℕ) → marked t' k ≡ (marked t k or within at n k)

-- ---- tests ----

pub both : {a b : Bool} → a ≡ true → b ≡ true → (a and b) ≡ true
unfolding ◌and◌
both e f = rw e f

swap : (a b c : Bool) → ((a or b) or c) ≡ ((a or c) or b)
unfolding ◌or◌
swap true b c = refl
swap false true true = refl
swap false true false = refl
swap false false true = refl
swap false false false = refl

-- ---- places ----

sum_grows : (f : ℕ → ℕ) (p q : ℕ) → p ≤ q → sum_to f p ≤ sum_to f q
unfolding sum_to
sum_grows f p zero h = let e : p ≡ 0 = omega arith in rw e (omega arith)
sum_grows f p (suc q) h =
    ⊎_elim (λ (e : p ≡ suc q). rw e (omega arith)) (λ (l : p < suc q). omega (arith, sum_grows f p q (omega arith))) (eq-or-lt_of_le h)

stretch_before : (f : ℕ → ℕ) (p q : ℕ) → p < q → sum_to f p + f p ≤ sum_to f q
stretch_before f p q h = omega (arith, sum_more f p, sum_grows f (p + 1) q (omega arith))

-- the bits of a signal are among the bits of all signals
pub signal_ends : (s : List ℕ) (p : ℕ) → p < count_at_of s 0 → sum_to (signal_width s) p + signal_width s p ≤ signal_bits s
unfolding signal_bits
signal_ends s p h = stretch_before (signal_width s) p (count_at_of s 0) h

-- ---- what the marks answer ----

or_false : (a : Bool) → (a or false) ≡ a
unfolding ◌or◌
or_false true = refl
or_false false = refl

-- an assignment that drives a bit of a stretch drives one of its bits
assigned_bit : (s : List ℕ) (a p at w k : ℕ) → k < w → assigned s a p (at + k) 1 ≡ true → assigned s a p at w ≡ true
unfolding assigned
assigned_bit s a p at w k h e =
    let f = any_found _ a e in
    let g = and_yes f.1 in
    let l = and_yes g.1 in
    let x = yes_lt _ _ l.0 in
    let y = yes_lt _ _ l.1 in
    any_at _ a _ f.0 (both g.0 (both (lt_yes _ _ (omega arith)) (lt_yes _ _ (omega arith))))

-- a stretch that an assignment drives a bit of has that bit
assigned_some : (s : List ℕ) (a p at w : ℕ) → 1 ≤ w → ((k : ℕ) → k < a → 1 ≤ field s 3 k 2) → assigned s a p at w ≡ true → any (λ k. assigned s a p (at + k) 1) w ≡ true
unfolding assigned
assigned_some s a p at w one wide e = let f = any_found _ a e in go _ f.0 f.1
  where
    go : (j : ℕ) → j < a → (field s 3 j 0 ≡? p and field s 3 j 1 <? at + w and at <? field s 3 j 1 + field s 3 j 2) ≡ true → any (λ k. any (λ j. field s 3 j 0 ≡? p and field s 3 j 1 <? at + k + 1 and at + k <? field s 3 j 1 + field s 3 j 2) a) w ≡ true
    go j h e =
        let g = and_yes e in
        let l = and_yes g.1 in
        let x = yes_lt (field s 3 j 1) (at + w) l.0 in
        let y = yes_lt at (field s 3 j 1 + field s 3 j 2) l.1 in
        let z = wide j h in
        any_at _ w (field s 3 j 1 - at) (omega arith) (any_at _ a j h (both g.0 (both (lt_yes _ _ (omega arith)) (lt_yes _ _ (omega arith)))))

-- one of the w bits of signal p from at on is marked exactly if it has a driver
pub answers : (s : List ℕ) (a i j : ℕ) (t : List ℕ) (p at w : ℕ) → p < count_at_of s 0 → 1 ≤ w → at + w ≤ signal_width s p → Marks s a i j t → any (λ k. marked t (sum_to (signal_width s) p + at + k)) w ≡ (assigned s a p at w or targeted s i p or read_into s j p)
unfolding bit_driven
answers s a i j t p at w h one fits m = same_bool fore back
  where
    bit : (k : ℕ) → k < w → marked t (sum_to (signal_width s) p + at + k) ≡ (assigned s a p (at + k) 1 or targeted s i p or read_into s j p)
    bit k l =
        let e : sum_to (signal_width s) p + at + k ≡ sum_to (signal_width s) p + (at + k) = omega arith in
        ap (marked t) e ∙ m.holds.bits p (at + k) h (omega arith)

    fore : any (λ k. marked t (sum_to (signal_width s) p + at + k)) w ≡ true → (assigned s a p at w or targeted s i p or read_into s j p) ≡ true
    fore e =
        let f = any_found _ w e in
        ⊎_elim (λ q. or_left _ (assigned_bit s a p at w _ f.0 q)) (λ q. or_right _ q) (or_yes (sym (bit _ f.0) ∙ f.1))

    back : (assigned s a p at w or targeted s i p or read_into s j p) ≡ true → any (λ k. marked t (sum_to (signal_width s) p + at + k)) w ≡ true
    back e =
        ⊎_elim (λ q. let f = any_found _ w (assigned_some s a p at w one m.widths q) in any_at _ w _ f.0 (bit _ f.0 ∙ or_left _ f.1))
        (λ q. any_at _ w 0 (omega arith) (bit 0 (omega arith) ∙ or_right _ q))
        (or_yes e)

-- where only assignments are marked
pub answers_assigned : (s : List ℕ) (a : ℕ) (b : Bool) (p at w : ℕ) → b ≡ (assigned s a p at w or targeted s 0 p or read_into s 0 p) → b ≡ assigned s a p at w
unfolding targeted read_into ◌or◌
answers_assigned s a b p at w e = rw (any_empty, any_empty) at e ∙ or_false _

-- ---- what is marked ----

same_or : (a b : ℕ) → (a ≡ b) ⊎ ((a < b) ⊎ (b < a))
same_or zero zero = inl refl
same_or zero (suc b) = inr (inl (omega arith))
same_or (suc a) zero = inr (inr (omega arith))
same_or (suc a) (suc b) =
    ⊎_elim (λ (e : a ≡ b). inl (ap suc e)) (λ o. inr (⊎_elim (λ (l : a < b). inl (omega arith)) (λ (l : b < a). inr (omega arith)) o)) (same_or a b)

-- the places of two stretches of bits meet only within one signal
same_place : (s : List ℕ) (q at w p b : ℕ) → at + w ≤ signal_width s q → b < signal_width s p → within (sum_to (signal_width s) q + at) w (sum_to (signal_width s) p + b) ≡ (q ≡? p and at <? b + 1 and b <? at + w)
unfolding within
same_place s q at w p b fits v = same_bool fore back
  where
    fore : (sum_to (signal_width s) q + at <? sum_to (signal_width s) p + b + 1 and sum_to (signal_width s) p + b <? sum_to (signal_width s) q + at + w) ≡ true → (q ≡? p and at <? b + 1 and b <? at + w) ≡ true
    fore e =
        let x = yes_lt _ _ (and_yes e).0 in
        let y = yes_lt _ _ (and_yes e).1 in
        ⊎_elim
        (λ (z : q ≡ p). let o = ap (sum_to (signal_width s)) z in both (eq_yes _ _ z) (both (lt_yes _ _ (omega arith)) (lt_yes _ _ (omega arith))))
        (λ o. ⊎_elim (λ (l : q < p). absurd (omega (arith, stretch_before (signal_width s) q p l))) (λ (l : p < q). absurd (omega (arith, stretch_before (signal_width s) p q l))) o)
        (same_or q p)

    back : (q ≡? p and at <? b + 1 and b <? at + w) ≡ true → (sum_to (signal_width s) q + at <? sum_to (signal_width s) p + b + 1 and sum_to (signal_width s) p + b <? sum_to (signal_width s) q + at + w) ≡ true
    back e =
        let o = ap (sum_to (signal_width s)) (yes_eq q p (and_yes e).0) in
        let g = and_yes (and_yes e).1 in
        let x = yes_lt _ _ g.0 in
        let y = yes_lt _ _ g.1 in
        both (lt_yes _ _ (omega arith)) (lt_yes _ _ (omega arith))

pub holds_same : (s : List ℕ) (d e : ℕ → ℕ → Bool) (t : List ℕ) → ((p b : ℕ) → p < count_at_of s 0 → b < signal_width s p → d p b ≡ e p b) → MarksSay s d t → MarksSay s e t
holds_same s d e t h m = record { room = m.room; bits = λ p b u v. m.bits p b u v ∙ h p b u v }

-- w bits of signal q from at on
pub holds_more : (s : List ℕ) (d : ℕ → ℕ → Bool) (t t' : List ℕ) (q at w : ℕ) → at + w ≤ signal_width s q → Marked (sum_to (signal_width s) q + at) w t t' → MarksSay s d t → MarksSay s (λ p b. d p b or (q ≡? p and at <? b + 1 and b <? at + w)) t'
holds_more s d t t' q at w fits k m = record {
  room = omega (arith, m.room, k.long);
  bits = λ p b u v. k.bits (sum_to (signal_width s) p + b) ∙ ap₂ ◌or◌ (m.bits p b u v) (same_place s q at w p b fits v);
}

-- all bits of signal q
pub holds_whole : (s : List ℕ) (d : ℕ → ℕ → Bool) (t t' : List ℕ) (q : ℕ) → Marked (sum_to (signal_width s) q + 0) (signal_width s q) t t' → MarksSay s d t → MarksSay s (λ p b. d p b or q ≡? p) t'
holds_whole s d t t' q k m = holds_same s _ _ t' (λ p b u v. ap (λ (x : Bool). d p b or x) (whole p b v)) (holds_more s d t t' q 0 (signal_width s q) (omega arith) k m)
  where
    whole : (p b : ℕ) → b < signal_width s p → (q ≡? p and 0 <? b + 1 and b <? 0 + signal_width s q) ≡ (q ≡? p)
    whole p b v = same_bool (λ e. (and_yes e).0) (λ e. let o = ap (signal_width s) (yes_eq q p e) in both e (both (lt_yes _ _ (omega arith)) (lt_yes _ _ (omega arith))))

-- an assignment more
pub marks_assign : (s : List ℕ) (a : ℕ) (t t' : List ℕ) → 1 ≤ field s 3 a 2 → field s 3 a 1 + field s 3 a 2 ≤ signal_width s (field s 3 a 0) → Marked (sum_to (signal_width s) (field s 3 a 0) + field s 3 a 1) (field s 3 a 2) t t' → Marks s a 0 0 t → Marks s (a + 1) 0 0 t'
unfolding bit_driven assigned
marks_assign s a t t' one fits k m = record {
  holds = holds_same s _ _ t' (λ p b u v. swap _ _ _ ∙ ap (λ (x : Bool). x or targeted s 0 p or read_into s 0 p) (sym (any_more _ a))) (holds_more s _ t t' _ _ _ fits k m.holds);
  widths = λ j h. ⊎_elim (λ (e : j ≡ a). omega (arith, ap (λ (x : ℕ). field s 3 x 2) e)) (λ (l : j < a). m.widths j l) (eq-or-lt_of_le (omega arith));
}

into_middle : (a b c d : Bool) → ((a or b or c) or d) ≡ (a or (b or d) or c)
unfolding ◌or◌
into_middle true b c d = refl
into_middle false true c d = refl
into_middle false false true true = refl
into_middle false false true false = refl
into_middle false false false true = refl
into_middle false false false false = refl

into_last : (a b c d : Bool) → ((a or b or c) or d) ≡ (a or b or c or d)
unfolding ◌or◌
into_last true b c d = refl
into_last false true c d = refl
into_last false false c d = refl

-- a register more
pub marks_register : (s : List ℕ) (a i : ℕ) (t t' : List ℕ) → Marked (sum_to (signal_width s) (field s 4 i 2) + 0) (signal_width s (field s 4 i 2)) t t' → Marks s a i 0 t → Marks s a (i + 1) 0 t'
unfolding bit_driven targeted
marks_register s a i t t' k m = record {
  holds = holds_same s _ _ t' (λ p b u v. into_middle _ _ _ _ ∙ ap (λ (x : Bool). assigned s a p b 1 or x or read_into s 0 p) (sym (any_more _ i))) (holds_whole s _ t t' _ k m.holds);
  widths = m.widths;
}

-- signal p is read data of memory j
unfoldable pub reads_into : List ℕ → ℕ → ℕ → Bool
reads_into s p j = field s 5 j (first_port + 1) ≡? p or (field s 5 j has_second ≡? 1 and field s 5 j (second_port + 1) ≡? p)

-- a memory more
marks_memory : (s : List ℕ) (a i j : ℕ) (t t' : List ℕ) → MarksSay s (λ p b. bit_driven s a i j p b or reads_into s p j) t' → Marks s a i j t → Marks s a i (j + 1) t'
unfolding bit_driven read_into reads_into
marks_memory s a i j t t' k m = record {
  holds = holds_same s _ _ t' (λ p b u v. into_last _ _ _ _ ∙ ap (λ (x : Bool). assigned s a p b 1 or targeted s i p or x) (sym (any_more _ j))) k;
  widths = m.widths;
}

and_off : {x : Bool} (y : Bool) → x ≡ false → (x and y) ≡ false
unfolding ◌and◌
and_off y e = rw e

and_on : {x : Bool} (y : Bool) → x ≡ true → (x and y) ≡ y
unfolding ◌and◌
and_on y e = rw e

or_assoc : (a b c : Bool) → ((a or b) or c) ≡ (a or (b or c))
unfolding ◌or◌
or_assoc true b c = refl
or_assoc false b c = refl

-- with one port, and with two
pub marks_one : (s : List ℕ) (a i j : ℕ) (t t' : List ℕ) → (field s 5 j has_second ≡ 1 → ⊥) → Marked (sum_to (signal_width s) (field s 5 j (first_port + 1)) + 0) (signal_width s (field s 5 j (first_port + 1))) t t' → Marks s a i j t → Marks s a i (j + 1) t'
unfolding reads_into
marks_one s a i j t t' o k m = marks_memory s a i j t t' (holds_same s _ _ t' (λ p b u v. ap (λ (x : Bool). bit_driven s a i j p b or x) (sym (ap (λ (x : Bool). field s 5 j (first_port + 1) ≡? p or x) (and_off _ (eq_no _ _ o)) ∙ or_false _))) (holds_whole s _ t t' _ k m.holds)) m

pub marks_two : (s : List ℕ) (a i j : ℕ) (t t' t'' : List ℕ) → field s 5 j has_second ≡ 1 → Marked (sum_to (signal_width s) (field s 5 j (first_port + 1)) + 0) (signal_width s (field s 5 j (first_port + 1))) t t' → Marked (sum_to (signal_width s) (field s 5 j (second_port + 1)) + 0) (signal_width s (field s 5 j (second_port + 1))) t' t'' → Marks s a i j t → Marks s a i (j + 1) t''
unfolding reads_into
marks_two s a i j t t' t'' o k l m =
    marks_memory s a i j t t''
    (holds_same s _ _ t'' (λ p b u v. or_assoc _ _ _ ∙ ap (λ (x : Bool). bit_driven s a i j p b or field s 5 j (first_port + 1) ≡? p or x) (sym (and_on _ (eq_yes _ _ o)))) (holds_whole s _ t' t'' _ l (holds_whole s _ t t' _ k m.holds))) m

zero_at : (n k : ℕ) → get_or {A = ℕ} (replicate n 0) k 0 ≡ 0
zero_at zero k = refl
zero_at (suc n) zero = refl
zero_at (suc n) (suc k) = zero_at n k

-- in a table of zeros nothing is driven yet
pub marks_none : (s : List ℕ) (n : ℕ) → signal_bits s ≤ n → Marks s 0 0 0 (replicate n 0)
unfolding bit_driven marked assigned targeted read_into ◌or◌
marks_none s n h = record {
  holds = record { room = simp length-replicate h; bits = λ p b u v. eq_no _ _ (λ e. let y = zero_at n (sum_to (signal_width s) p + b) in omega arith) ∙ sym (rw (any_empty, any_empty, any_empty)) };
  widths = λ k l. absurd (omega arith);
}

-- ---- the tables filled ----

pub mark_none : (at : ℕ) (t : List ℕ) → Marked at 0 t t
unfolding within
mark_none at t = record { long = refl; bits = λ k. sym (ap (λ (x : Bool). marked t k or x) (apart k) ∙ or_false _) }
  where
    apart : (k : ℕ) → (at <? k + 1 and k <? at + 0) ≡ false
    apart k = same_bool (λ e. let x = yes_lt _ _ (and_yes e).0 in let y = yes_lt _ _ (and_yes e).1 in absurd (omega arith)) (λ e. absurd (true≢false (sym e)))

pub mark_more : (at i : ℕ) (t t' : List ℕ) → at + i < length t → Marked at i t t' → Marked at (i + 1) t (set t' (at + i) 1)
unfolding within marked
mark_more at i t t' h m = record { long = simp length-set m.long; bits = λ k. ⊎_elim (λ (e : k ≡ at + i). same k e) (λ o. other k (⊎_elim (λ (l : k < at + i). λ z. omega arith) (λ (l : at + i < k). λ z. omega arith) o)) (same_or k (at + i)) }
  where
    same : (k : ℕ) → k ≡ at + i → (get_or (set t' (at + i) 1) k 0 ≡? 1) ≡ ((get_or t k 0 ≡? 1) or (at <? k + 1 and k <? at + (i + 1)))
    same k e = eq_yes _ _ (ap (λ (x : ℕ). get_or (set t' (at + i) 1) x 0) e ∙ get_or-set_same t' (at + i) 1 0 (omega (arith, m.long))) ∙ sym (or_right _ (both (lt_yes _ _ (omega arith)) (lt_yes _ _ (omega arith))))

    other : (k : ℕ) → (k ≡ at + i → ⊥) → (get_or (set t' (at + i) 1) k 0 ≡? 1) ≡ ((get_or t k 0 ≡? 1) or (at <? k + 1 and k <? at + (i + 1)))
    other k o =
        ap (λ (x : ℕ). x ≡? 1) (get_or-set_other t' (at + i) k 1 0 o)
        ∙ m.bits k
        ∙ ap (λ (x : Bool). (get_or t k 0 ≡? 1) or x)
        (same_bool (λ e. let x = yes_lt _ _ (and_yes e).0 in let y = yes_lt _ _ (and_yes e).1 in both (lt_yes _ _ (omega arith)) (lt_yes _ _ (omega arith)))
        (λ e. let x = yes_lt _ _ (and_yes e).0 in let y = yes_lt _ _ (and_yes e).1 in let z : k < at + i = ⊎_elim (λ (q : k ≡ at + i). absurd (o q)) (λ (q : k < at + i). q) (eq-or-lt_of_le (omega arith)) in both (lt_yes _ _ (omega arith)) (lt_yes _ _ (omega arith))))

pub mark_end : (at n i : ℕ) (t t' : List ℕ) → i ≤ n → n ≤ i → Marked at i t t' → Marked at n t t'
mark_end at n i t t' h l m = let e : i ≡ n = omega arith in subst (λ (k : ℕ). Marked at k t t') e m

-- the n bytes from at on are 1, the others are as before
pub mark_where : (at n : ℕ) (t t' : List ℕ) → length t' ≡ length t → ((k : ℕ) → k < at → get_or t' k 0 ≡ get_or t k 0) → ((k : ℕ) → k < n → get_or t' (at + k) 0 ≡ 1) → ((k : ℕ) → at + n ≤ k → get_or t' k 0 ≡ get_or t k 0) → Marked at n t t'
unfolding within marked
mark_where at n t t' long low mid high = record { long = long; bits = λ k. go k (at <? k + 1) refl (k <? at + n) refl }
  where
    same : (k : ℕ) → get_or t' k 0 ≡ get_or t k 0 → (get_or t' k 0 ≡? 1) ≡ ((get_or t k 0 ≡? 1) or false)
    same k e = ap (λ (x : ℕ). x ≡? 1) e ∙ sym (or_false _)

    go : (k : ℕ) (u : Bool) → (at <? k + 1) ≡ u → (v : Bool) → (k <? at + n) ≡ v → (get_or t' k 0 ≡? 1) ≡ ((get_or t k 0 ≡? 1) or u and v)
    go k true f true g =
        let a = yes_lt _ _ f in
        let b = yes_lt _ _ g in
        let e : get_or t' k 0 ≡ get_or t' (at + (k - at)) 0 = ap (λ (i : ℕ). get_or t' i 0) (omega arith) in
        eq_yes _ _ (e ∙ mid (k - at) (omega arith)) ∙ sym (or_right _ (both refl refl))
    go k true f false g = same k (high k (no_lt _ _ g)) ∙ ap (λ (x : Bool). (get_or t k 0 ≡? 1) or x) (sym (and_on false refl))
    go k false f v g = let a = no_lt _ _ f in same k (low k (omega arith)) ∙ ap (λ (x : Bool). (get_or t k 0 ≡? 1) or x) (sym (and_off v refl))

pub first_more : (s firsts : List ℕ) (i : ℕ) → i < length firsts → ((p : ℕ) → p < i → get_or firsts p 0 ≡ sum_to (signal_width s) p) → (v : ℕ) → v ≡ sum_to (signal_width s) i → (p : ℕ) → p < i + 1 → get_or (set firsts i v) p 0 ≡ sum_to (signal_width s) p
first_more s firsts i l h v e p b = ⊎_elim same before (eq-or-lt_of_le (omega arith))
  where
    same : p ≡ i → get_or (set firsts i v) p 0 ≡ sum_to (signal_width s) p
    same q = ap (λ (x : ℕ). get_or (set firsts i v) x 0) q ∙ (get_or-set_same firsts i v 0 l ∙ (e ∙ ap (sum_to (signal_width s)) (sym q)))

    before : p < i → get_or (set firsts i v) p 0 ≡ sum_to (signal_width s) p
    before q = get_or-set_other firsts i p v 0 (λ z. omega arith) ∙ h p q
