-- The words of a register's or a memory's record say the record that they were made of. Assumes nothing.
use Rattle.std.specs.Prelude.{◌≡◌, refl, Bool, true, false, List, [], ◌∷◌, ◌++◌, ℕ, suc, ◌+◌, ◌<◌, length, get_or, take, drop}
use Rattle.std.proofs.Common.{sym, ap, ap₂, ◌∙◌, append_assoc, append-nil, arith, take_at, drop_at, get_or-append-add, ne_eqb}
use Rattle.std.proofs.Math.Option.{Option, none, some}
use Rattle.std.proofs.Math.ListN.{length-append}
use Rattle.spec_tests.specs.Rules.{◌≡?◌, pick}
use Rattle.spec_rtl.specs.Rtl.{Control, Reset}
use Rattle.spec_rules.specs.Image.{optional, control_of, register_of}
use Rattle.spec_rules.specs.NetlistImage as N
use Rattle.spec_rules.specs.NetlistImage.{port_lists, port_length, register_bit_of, memory_port_of, memory_of}
use Rattle.spec_model.specs.Words.{absent, low_word, bit_word, control_words, reset_words}
use Rattle.net_view.specs.Formed.{Ported}

level_back : (b : Bool) → (low_word b ≡? 0) ≡ b
unfolding ◌≡?◌
level_back true = refl
level_back false = refl

bit_back : (b : Bool) → (bit_word b ≡? 1) ≡ b
unfolding ◌≡?◌
bit_back true = refl
bit_back false = refl

-- a net that is there is not absent
there_back : {A : Type 0} (n : ℕ) (a : A) → n < absent → optional n a ≡ some a
unfolding optional pick ◌≡?◌
there_back n a h = rw (ne_eqb n absent (λ e. omega arith))

absent_back : {A : Type 0} (a : A) → optional absent a ≡ none
unfolding optional pick ◌≡?◌
absent_back a = refl

control_back : (c : Control) → control_of c.signal (low_word c.level) ≡ c
unfolding control_of
control_back c = λ i. record { signal = c.signal; level = level_back c.level i }

-- the nets of controls are nets
abbrev pub There : Option Control → Type 0
There none = Unit {0}
There (some c) = c.signal < absent

abbrev pub ThereReset : Option Reset → Type 0
ThereReset none = Unit {0}
ThereReset (some r) = r.control.signal < absent

-- ---- registers ----

-- a register's bit in the netlist
abbrev pub bit_of : ℕ → ℕ → ℕ → ℕ → ℕ → Bool → Option Control → Option Reset → N.RegisterBit
bit_of k b out next clock rising enable reset =
    record { index = k; bit = b; register = record { target = out; next = next; clock = clock; rising = rising; enable = enable; reset = reset } }

reset_back : (r : Reset) → r.control.signal < absent
    → optional r.control.signal (record { control = control_of r.control.signal (low_word r.control.level); asynchronous = bit_word r.asynchronous ≡? 1; value = r.value }) ≡ some r
reset_back r h = there_back r.control.signal _ h
    ∙ ap some (λ i. record { control = control_back r.control i; asynchronous = bit_back r.asynchronous i; value = r.value })

pub register_back : (k b out next clock : ℕ) (rising : Bool) (enable : Option Control) (reset : Option Reset) → There enable → ThereReset reset
    → register_bit_of (1 ∷ k ∷ b ∷ out ∷ next ∷ clock ∷ low_word rising ∷ (control_words enable ++ reset_words reset)) ≡ bit_of k b out next clock rising enable reset
unfolding register_bit_of register_of
register_back k b out next clock rising none none h g =
    rw (level_back rising, absent_back {A = Control} (control_of absent 0), absent_back {A = Reset} (record { control = control_of absent 0; asynchronous = 0 ≡? 1; value = 0 }))
register_back k b out next clock rising none (some r) h g = rw (level_back rising, absent_back {A = Control} (control_of absent 0), reset_back r g)
register_back k b out next clock rising (some c) none h g =
    rw (level_back rising, control_back c, there_back c.signal c h, absent_back {A = Reset} (record { control = control_of absent 0; asynchronous = 0 ≡? 1; value = 0 }))
register_back k b out next clock rising (some c) (some r) h g = rw (level_back rising, control_back c, there_back c.signal c h, reset_back r g)

-- ---- memories ----

abbrev pub memory_port : List ℕ → List ℕ → List ℕ → List ℕ → Option Control → Control → ℕ → Bool → N.MemoryPort
memory_port ra rd wa wd re we clock rising =
    record { read_address = ra; read_data = rd; write_address = wa; write_data = wd; read_enable = re; write_enable = we; clock = clock; rising = rising }

module _ (ra rd wa wd : List ℕ) (re : Option Control) (we : Control) (clock : ℕ) (rising : Bool) where
  abbrev pub tail_words : List ℕ
  tail_words = control_words re ++ control_words (some we) ++ (clock ∷ low_word rising ∷ [])

  -- four widths, four net lists, two controls, clock, edge
  abbrev pub words_of : List ℕ
  words_of = length ra ∷ length rd ∷ length wa ∷ length wd ∷ (ra ++ rd ++ wa ++ wd ++ tail_words)

  control_length : (o : Option Control) → length (control_words o) ≡ 2
  control_length none = refl
  control_length (some c) = refl

  pub ported : Ported words_of
  unfolding port_length port_lists
  ported = record {
    four = omega arith;
    long = simp length-append (omega (arith, control_length re));
  }

  module _ (rest : List ℕ) where
    split : words_of ++ rest ≡ length ra ∷ length rd ∷ length wa ∷ length wd ∷ (ra ++ (rd ++ (wa ++ (wd ++ (tail_words ++ rest)))))
    split = simp append_assoc

    take_mid : (xs ys zs : List ℕ) (n : ℕ) → length xs ≡ n → take (length ys) (drop n (xs ++ (ys ++ zs))) ≡ ys
    take_mid xs ys zs n e = rw (drop_at xs (ys ++ zs) n e) (take_at ys zs (length ys) refl)

    at_tail : (j n : ℕ) → n ≡ 4 + (length ra + length rd + length wa + length wd) + j
        → get_or (length ra ∷ length rd ∷ length wa ∷ length wd ∷ (ra ++ (rd ++ (wa ++ (wd ++ (tail_words ++ rest)))))) n 0 ≡ get_or (tail_words ++ rest) j 0
    at_tail j n e =
        let l : length (ra ++ (rd ++ (wa ++ wd))) ≡ length ra + length rd + length wa + length wd = simp length-append (omega arith) in
        let q : n ≡ suc (suc (suc (suc (length (ra ++ (rd ++ (wa ++ wd))) + j)))) = omega arith in
        let s : ra ++ (rd ++ (wa ++ (wd ++ (tail_words ++ rest)))) ≡ (ra ++ (rd ++ (wa ++ wd))) ++ (tail_words ++ rest) = sym (simp append_assoc) in
        rw (q, s) (get_or-append-add (ra ++ (rd ++ (wa ++ wd))) (tail_words ++ rest) j 0)

    read_address_law : take (length ra) (drop 4 (words_of ++ rest)) ≡ ra
    read_address_law = rw split (take_at ra (rd ++ (wa ++ (wd ++ (tail_words ++ rest)))) (length ra) refl)

    read_data_law : take (length rd) (drop (4 + length ra) (words_of ++ rest)) ≡ rd
    read_data_law =
        let e : 4 + length ra ≡ suc (suc (suc (suc (length ra)))) = omega arith in
        rw (split, e) (take_mid ra rd (wa ++ (wd ++ (tail_words ++ rest))) (length ra) refl)

    write_address_law : take (length wa) (drop (4 + length ra + length rd) (words_of ++ rest)) ≡ wa
    write_address_law =
        let e : 4 + length ra + length rd ≡ suc (suc (suc (suc (length (ra ++ rd))))) = simp length-append (omega arith) in
        let s : ra ++ (rd ++ (wa ++ (wd ++ (tail_words ++ rest)))) ≡ (ra ++ rd) ++ (wa ++ (wd ++ (tail_words ++ rest))) = sym (append_assoc ra rd _) in
        rw (split, e, s) (take_mid (ra ++ rd) wa (wd ++ (tail_words ++ rest)) (length (ra ++ rd)) refl)

    write_data_law : take (length wd) (drop (4 + length ra + length rd + length wa) (words_of ++ rest)) ≡ wd
    write_data_law =
        let e : 4 + length ra + length rd + length wa ≡ suc (suc (suc (suc (length (ra ++ (rd ++ wa)))))) = simp length-append (omega arith) in
        let s : ra ++ (rd ++ (wa ++ (wd ++ (tail_words ++ rest)))) ≡ (ra ++ (rd ++ wa)) ++ (wd ++ (tail_words ++ rest)) = sym (simp append_assoc) in
        rw (split, e, s) (take_mid (ra ++ (rd ++ wa)) wd (tail_words ++ rest) (length (ra ++ (rd ++ wa))) refl)

    tail_at : (j : ℕ) → get_or (words_of ++ rest) (4 + (length ra + length rd + length wa + length wd) + j) 0 ≡ get_or (tail_words ++ rest) j 0
    tail_at j = rw split (at_tail j _ refl)

    tail_first : get_or (words_of ++ rest) (4 + (length ra + length rd + length wa + length wd)) 0 ≡ get_or (tail_words ++ rest) 0 0
    tail_first = rw split (at_tail 0 (4 + (length ra + length rd + length wa + length wd)) (omega arith))

    -- the controls, by what the read enable is
    enable_back : (o : Option Control) → There o → (t : List ℕ)
        → optional (get_or (control_words o ++ control_words (some we) ++ (clock ∷ low_word rising ∷ []) ++ t) 0 0)
        (control_of (get_or (control_words o ++ control_words (some we) ++ (clock ∷ low_word rising ∷ []) ++ t) 0 0) (get_or (control_words o ++ control_words (some we) ++ (clock ∷ low_word rising ∷ []) ++ t) 1 0)) ≡ o
    enable_back none h t = absent_back (control_of absent 0)
    enable_back (some c) h t = rw (control_back c) (there_back c.signal c h)

    write_back : (o : Option Control) (t : List ℕ)
        → control_of (get_or (control_words o ++ control_words (some we) ++ (clock ∷ low_word rising ∷ []) ++ t) 2 0) (get_or (control_words o ++ control_words (some we) ++ (clock ∷ low_word rising ∷ []) ++ t) 3 0) ≡ we
    write_back none t = control_back we
    write_back (some c) t = control_back we

    clock_back : (o : Option Control) (t : List ℕ) → get_or (control_words o ++ control_words (some we) ++ (clock ∷ low_word rising ∷ []) ++ t) 4 0 ≡ clock
    clock_back none t = refl
    clock_back (some c) t = refl

    edge_back : (o : Option Control) (t : List ℕ) → (get_or (control_words o ++ control_words (some we) ++ (clock ∷ low_word rising ∷ []) ++ t) 5 0 ≡? 0) ≡ rising
    edge_back none t = level_back rising
    edge_back (some c) t = level_back rising

    pub port_back : There re → memory_port_of (words_of ++ rest) ≡ memory_port ra rd wa wd re we clock rising
    unfolding memory_port_of port_lists
    port_back h = λ i. record {
      read_address = read_address_law i;
      read_data = read_data_law i;
      write_address = write_address_law i;
      write_data = write_data_law i;
      read_enable = (ap₂ (λ (x y : ℕ). optional x (control_of x y)) tail_first (tail_at 1) ∙ enable_back re h rest) i;
      write_enable = (ap₂ control_of (tail_at 2) (tail_at 3) ∙ write_back re rest) i;
      clock = (tail_at 4 ∙ clock_back re rest) i;
      rising = (ap (λ (x : ℕ). x ≡? 0) (tail_at 5) ∙ edge_back re rest) i;
    }

port_length_law : (p t : List ℕ) → Ported p → port_length (p ++ t) ≡ length p
unfolding port_length port_lists
port_length_law (a ∷ b ∷ c ∷ d ∷ p) t h = sym h.long
port_length_law (a ∷ b ∷ c ∷ []) t h = absurd (omega (arith, h.four))
port_length_law (a ∷ b ∷ []) t h = absurd (omega (arith, h.four))
port_length_law (a ∷ []) t h = absurd (omega (arith, h.four))
port_length_law [] t h = absurd (omega (arith, h.four))

-- a memory's record with one port, with two
pub memory_back : (k d s y : ℕ) (p : List ℕ) (a : N.MemoryPort) → memory_port_of (p ++ []) ≡ a
    → memory_of (2 ∷ k ∷ d ∷ s ∷ y ∷ 1 ∷ p) ≡ record { index = k; depth = d; first = a; second = none }
unfolding memory_of pick ◌≡?◌
memory_back k d s y p a e = rw (sym (ap memory_port_of (append-nil p)) ∙ e)

pub memory_back₂ : (k d s y : ℕ) (p q : List ℕ) (a b : N.MemoryPort) → Ported p → memory_port_of (p ++ q) ≡ a → memory_port_of (q ++ []) ≡ b
    → memory_of (2 ∷ k ∷ d ∷ s ∷ y ∷ 2 ∷ (p ++ q)) ≡ record { index = k; depth = d; first = a; second = some b }
unfolding memory_of pick ◌≡?◌
memory_back₂ k d s y p q a b h e f =
    let n : 6 + length p ≡ suc (suc (suc (suc (suc (suc (length p)))))) = omega arith in
    rw (e, port_length_law p q h, n, drop_at p q (length p) refl, sym (ap memory_port_of (append-nil q)) ∙ f)
