-- A control, a clock's edge, a reset and a register's next bit, test by test. Assumes nothing.
use Rattle.std.specs.Prelude.{ℕ, zero, suc, ◌+◌, ◌≤◌, ◌≡◌, Bool, ◌&&◌, List, [], ◌∷◌, eqb, length, drop, get_or, set}
use Rattle.std.proofs.Common.{arith, add-one, ◌∙◌}
use Rattle.std.proofs.Math.Path.{refl, sym, ap}
use Rattle.std.proofs.Math.Bool.{true, false, not, cond}
use mathlib.Core.Bool.{beq}
use Rattle.std.proofs.Math.Option.{none, some}
use Rattle.spec_rtl.specs.Word.{bit}
use Rattle.spec_rtl.specs.Ops.{xor_b}
use Rattle.spec_rtl.specs.Rtl as R
use Rattle.spec_tests.specs.Rules.{◌≡?◌, pick}
use Rattle.spec_tests.specs.Laws.{eq_yes, eq_no, eq_same, pick_hit, pick_skip}
use Rattle.spec_rules.specs.Image.{absent, optional, control_of, register_of}
use Rattle.spec_rules.specs.NetlistImage.{register_bit_of}
use Rattle.spec_rules.specs.Step.{edge, active, perhaps, enabled, resets, reset_bit}
use Rattle.law_told.specs.Told.{untrue}
use Rattle.trace_step.specs.Words.{on, register_bit, register_done, registers_done}

pub bit_yes : (b : Bool) → b ≡ true → 1 ≡ bit b
bit_yes b e = sym (ap bit e)

pub bit_no : (b : Bool) → b ≡ false → 0 ≡ bit b
bit_no b e = sym (ap bit e)

-- ---- controls ----

module _ (g : ℕ → Bool) (x level : ℕ) {b : Bool} (eb : b ≡ g x) where
  pub active_high : level ≡ 0 → b ≡ active g (control_of x level)
  unfolding control_of
  active_high e = eb ∙ sym (ap (λ (t : Bool). not (xor_b t (g x))) (eq_yes level 0 e) ∙ twice (g x))
    where
      twice : (b : Bool) → not (xor_b true b) ≡ b
      twice true = refl
      twice false = refl

  pub active_low : (level ≡ 0 → ⊥) → not b ≡ active g (control_of x level)
  unfolding control_of
  active_low n = ap not eb ∙ sym (ap (λ (t : Bool). not (xor_b t (g x))) (eq_no level 0 n))

pub enabled_absent : (g : ℕ → Bool) (x level : ℕ) → x ≡ absent → true ≡ enabled g (optional x (control_of x level))
unfolding optional
enabled_absent g x level e = sym (ap (perhaps true (active g)) (sym (pick_hit _ (eq_yes x absent e) refl)))

pub enabled_there : (g : ℕ → Bool) (x level : ℕ) → (x ≡ absent → ⊥) → {b : Bool} → b ≡ active g (control_of x level) → b ≡ enabled g (optional x (control_of x level))
unfolding optional
enabled_there g x level n e = e ∙ sym (ap (perhaps true (active g)) (sym (pick_skip none (eq_no x absent n) refl)))

-- ---- edges ----

module _ (falling : ℕ) (a b : Bool) where
  pub rising_held : falling ≡ 0 → a ≡ true → false ≡ edge (falling ≡? 0) a b
  rising_held e h = sym (ap (λ (t : Bool). edge t a b) (eq_yes falling 0 e) ∙ ap (λ (t : Bool). not t && b) h)

  pub rising_is : falling ≡ 0 → a ≡ false → b ≡ edge (falling ≡? 0) a b
  rising_is e h = sym (ap (λ (t : Bool). edge t a b) (eq_yes falling 0 e) ∙ ap (λ (t : Bool). not t && b) h)

  pub falling_held : (falling ≡ 0 → ⊥) → b ≡ true → false ≡ edge (falling ≡? 0) a b
  falling_held e h = sym (ap (λ (t : Bool). edge t a b) (eq_no falling 0 e) ∙ ap (λ (t : Bool). a && not t) h ∙ off a)
    where
      off : (a : Bool) → (a && false) ≡ false
      off true = refl
      off false = refl

  pub falling_is : (falling ≡ 0 → ⊥) → b ≡ false → a ≡ edge (falling ≡? 0) a b
  falling_is e h = sym (ap (λ (t : Bool). edge t a b) (eq_no falling 0 e) ∙ ap (λ (t : Bool). a && not t) h ∙ same a)
    where
      same : (a : Bool) → (a && true) ≡ a
      same true = refl
      same false = refl

-- ---- resets: x, z the words of the reset's net and mode ----

module _ (asynchronous : Bool) (g : ℕ → Bool) (r : List ℕ) {x : ℕ} (ex : x ≡ get_or r 9 0) where
  pub reset_absent : x ≡ absent → false ≡ resets asynchronous g (register_bit_of r).register.reset
  unfolding register_bit_of register_of optional
  reset_absent e = sym (ap (perhaps false (λ (y : R.Reset). not (xor_b asynchronous y.asynchronous) && active g y.control)) (sym (pick_hit _ (eq_yes _ _ (sym ex ∙ e)) refl)))

  module _ (there : (x ≡ absent → ⊥)) where
    is_there : resets asynchronous g (register_bit_of r).register.reset ≡ (not (xor_b asynchronous (get_or r 11 0 ≡? 1)) && active g (control_of (get_or r 9 0) (get_or r 10 0)))
    unfolding register_bit_of register_of optional
    is_there = ap (perhaps false (λ (y : R.Reset). not (xor_b asynchronous y.asynchronous) && active g y.control)) (sym (pick_skip none (eq_no _ _ (λ e. there (ex ∙ e))) refl))

    pub reset_other : not (xor_b asynchronous (get_or r 11 0 ≡? 1)) ≡ false → false ≡ resets asynchronous g (register_bit_of r).register.reset
    reset_other e = sym (is_there ∙ ap (λ (t : Bool). t && active g (control_of (get_or r 9 0) (get_or r 10 0))) e)

    pub reset_its : not (xor_b asynchronous (get_or r 11 0 ≡? 1)) ≡ true → {y : ℕ} → y ≡ get_or r 10 0 → {b : Bool} → b ≡ active g (control_of x y) → b ≡ resets asynchronous g (register_bit_of r).register.reset
    reset_its e {y} ey {b} q =
        q ∙ ap (λ (k : ℕ). active g (control_of k y)) ex ∙ ap (λ (k : ℕ). active g (control_of (get_or r 9 0) k)) ey
        ∙ sym (is_there ∙ ap (λ (t : Bool). t && active g (control_of (get_or r 9 0) (get_or r 10 0))) e)

pub asks_yes : {z k : ℕ} → z ≡ k → z ≡ 1 → not (xor_b true (k ≡? 1)) ≡ true
asks_yes {z} {k} e f = ap (λ (t : Bool). not (xor_b true t)) (eq_yes k 1 (sym e ∙ f))

pub asks_no : {z k : ℕ} → z ≡ k → (z ≡ 1 → ⊥) → not (xor_b true (k ≡? 1)) ≡ false
asks_no {z} {k} e f = ap (λ (t : Bool). not (xor_b true t)) (eq_no k 1 (λ q. f (e ∙ q)))

pub waits_no : {z k : ℕ} → z ≡ k → z ≡ 1 → not (xor_b false (k ≡? 1)) ≡ false
waits_no {z} {k} e f = ap (λ (t : Bool). not (xor_b false t)) (eq_yes k 1 (sym e ∙ f))

pub waits_yes : {z k : ℕ} → z ≡ k → (z ≡ 1 → ⊥) → not (xor_b false (k ≡? 1)) ≡ true
waits_yes {z} {k} e f = ap (λ (t : Bool). not (xor_b false t)) (eq_no k 1 (λ q. f (e ∙ q)))

-- the kind that is looked for, or the other
pub kind_its : {z k : ℕ} (a : Bool) → z ≡ k → not (beq (eqb z 1) a) ≡ false → not (xor_b a (k ≡? 1)) ≡ true
kind_its {z} {k} a e f = same a (k ≡? 1) (ap (λ (t : Bool). not (beq t a)) (sym (eq_same e refl)) ∙ f)
  where
    same : (a b : Bool) → not (beq b a) ≡ false → not (xor_b a b) ≡ true
    same true true h = refl
    same true false h = untrue (sym h)
    same false true h = untrue (sym h)
    same false false h = refl

pub kind_other : {z k : ℕ} (a : Bool) → z ≡ k → not (beq (eqb z 1) a) ≡ true → not (xor_b a (k ≡? 1)) ≡ false
kind_other {z} {k} a e f = other a (k ≡? 1) (ap (λ (t : Bool). not (beq t a)) (sym (eq_same e refl)) ∙ f)
  where
    other : (a b : Bool) → not (beq b a) ≡ true → not (xor_b a b) ≡ false
    other true true h = untrue h
    other true false h = refl
    other false true h = refl
    other false false h = untrue h

-- ---- a register's next bit ----

-- where a reset is active there is one, and its value is word 12
value_is : (asynchronous : Bool) (g : ℕ → Bool) (r : List ℕ) → resets asynchronous g (register_bit_of r).register.reset ≡ true → reset_bit (λ b. eqb b 1 ∷ []) (register_bit_of r).register.reset 0 ≡ (get_or r 12 0 ≡? 1)
unfolding register_bit_of register_of optional ◌≡?◌ pick
value_is asynchronous g r e = go (eqb (get_or r 9 0) absent) e
  where
    go : (b : Bool) → perhaps false (λ (y : R.Reset). not (xor_b asynchronous y.asynchronous) && active g y.control)
        (pick b none (some (record { control = control_of (get_or r 9 0) (get_or r 10 0); asynchronous = eqb (get_or r 11 0) 1; value = get_or r 12 0 }))) ≡ true
        → perhaps false (λ (y : R.Reset). get_or (eqb y.value 1 ∷ []) 0 false) (pick b none (some (record { control = control_of (get_or r 9 0) (get_or r 10 0); asynchronous = eqb (get_or r 11 0) 1; value = get_or r 12 0 }))) ≡ eqb (get_or r 12 0) 1
    go true e = untrue e
    go false e = refl

abbrev value_of : List ℕ → Bool
value_of r = reset_bit (λ b. eqb b 1 ∷ []) (register_bit_of r).register.reset 0

-- what it takes at its clock's edge
unfoldable pub clocked_bit : List ℕ → List ℕ → Bool
clocked_bit v r =
    cond (resets false (on v) (register_bit_of r).register.reset) (reset_bit (λ b. eqb b 1 ∷ []) (register_bit_of r).register.reset 0)
    (cond (enabled (on v) (register_bit_of r).register.enable) (on v (register_bit_of r).register.next) (on v (get_or r 3 0)))

module _ (v r : List ℕ) {b : Bool} (eb : b ≡ resets false (on v) (register_bit_of r).register.reset) where
  pub clocked_reset : b ≡ true → {z : ℕ} → z ≡ get_or r 12 0 → eqb z 1 ≡ clocked_bit v r
  unfolding clocked_bit
  clocked_reset e ez =
      eq_same ez refl ∙ sym (value_is false (on v) r (sym eb ∙ e)) ∙ sym (ap (λ (t : Bool). cond t (value_of r) (cond (enabled (on v) (register_bit_of r).register.enable) (on v (register_bit_of r).register.next) (on v (get_or r 3 0)))) (sym eb ∙ e))

  module _ (no : b ≡ false) {x y : ℕ} (ex : x ≡ get_or r 7 0) (ey : y ≡ get_or r 8 0) {c : Bool} (ec : c ≡ enabled (on v) (optional x (control_of x y))) where
    enable_is : enabled (on v) (register_bit_of r).register.enable ≡ c
    unfolding register_bit_of register_of
    enable_is = sym (ec ∙ ap (λ (k : ℕ). enabled (on v) (optional k (control_of k y))) ex ∙ ap (λ (k : ℕ). enabled (on v) (optional (get_or r 7 0) (control_of (get_or r 7 0) k))) ey)

    pub clocked_next : c ≡ true → {z : ℕ} → z ≡ get_or r 4 0 → {d : Bool} → d ≡ on v z → d ≡ clocked_bit v r
    unfolding clocked_bit register_bit_of register_of
    clocked_next e ez ed =
        ed ∙ ap (on v) ez ∙ sym (ap (λ (t : Bool). cond t (value_of r) (cond (enabled (on v) (register_bit_of r).register.enable) (on v (register_bit_of r).register.next) (on v (get_or r 3 0)))) (sym eb ∙ no)
        ∙ ap (λ (t : Bool). cond t (on v (register_bit_of r).register.next) (on v (get_or r 3 0))) (enable_is ∙ e))

    pub clocked_held : c ≡ false → {z : ℕ} → z ≡ get_or r 3 0 → {d : Bool} → d ≡ on v z → d ≡ clocked_bit v r
    unfolding clocked_bit
    clocked_held e ez ed =
        ed ∙ ap (on v) ez ∙ sym (ap (λ (t : Bool). cond t (value_of r) (cond (enabled (on v) (register_bit_of r).register.enable) (on v (register_bit_of r).register.next) (on v (get_or r 3 0)))) (sym eb ∙ no)
        ∙ ap (λ (t : Bool). cond t (on v (register_bit_of r).register.next) (on v (get_or r 3 0))) (enable_is ∙ e))

module _ (v w r : List ℕ) {b : Bool} (eb : b ≡ resets true (on w) (register_bit_of r).register.reset) where
  abbrev ticking : Bool
  ticking = edge (register_bit_of r).register.rising (on v (register_bit_of r).register.clock) (on w (register_bit_of r).register.clock)

  bit_is : register_bit v w r ≡ cond (resets true (on w) (register_bit_of r).register.reset) (value_of r) (cond ticking (clocked_bit v r) (on v (get_or r 3 0)))
  unfolding register_bit clocked_bit
  bit_is = refl

  pub bit_reset : b ≡ true → {z : ℕ} → z ≡ get_or r 12 0 → eqb z 1 ≡ register_bit v w r
  bit_reset e ez =
      eq_same ez refl ∙ sym (value_is true (on w) r (sym eb ∙ e)) ∙ sym (bit_is ∙ ap (λ (t : Bool). cond t (value_of r) (cond ticking (clocked_bit v r) (on v (get_or r 3 0)))) (sym eb ∙ e))

  module _ (no : b ≡ false) {x y : ℕ} (ex : x ≡ get_or r 5 0) (ey : y ≡ get_or r 6 0) {c : Bool} (ec : c ≡ edge (y ≡? 0) (on v x) (on w x)) where
    tick_is : ticking ≡ c
    unfolding register_bit_of register_of
    tick_is = sym (ec ∙ ap (λ (k : ℕ). edge (y ≡? 0) (on v k) (on w k)) ex ∙ ap (λ (k : ℕ). edge (k ≡? 0) (on v (get_or r 5 0)) (on w (get_or r 5 0))) ey)

    past : register_bit v w r ≡ cond c (clocked_bit v r) (on v (get_or r 3 0))
    past = bit_is ∙ ap (λ (t : Bool). cond t (value_of r) (cond ticking (clocked_bit v r) (on v (get_or r 3 0)))) (sym eb ∙ no) ∙ ap (λ (t : Bool). cond t (clocked_bit v r) (on v (get_or r 3 0))) tick_is

    pub bit_clocked : c ≡ true → {d : Bool} → d ≡ clocked_bit v r → d ≡ register_bit v w r
    bit_clocked e ed = ed ∙ sym (past ∙ ap (λ (t : Bool). cond t (clocked_bit v r) (on v (get_or r 3 0))) e)

    pub bit_held : c ≡ false → {z : ℕ} → z ≡ get_or r 3 0 → {d : Bool} → d ≡ on v z → d ≡ register_bit v w r
    bit_held e ez ed = ed ∙ ap (on v) ez ∙ sym (past ∙ ap (λ (t : Bool). cond t (clocked_bit v r) (on v (get_or r 3 0))) e)

pub register_stored : (v w r : List ℕ) {b : Bool} → b ≡ register_bit v w r → {k x : ℕ} → k ≡ bit b → x ≡ get_or r 3 0 → set w x k ≡ register_done v w r
register_stored v w r eb {k} {x} ek ex = ap (λ (n : ℕ). set w n k) ex ∙ ap (set w (get_or r 3 0)) (ek ∙ ap bit eb)

-- ---- all registers ----

pub registers_none : (ws v places w : List ℕ) → w ≡ registers_done ws v places 0 w
unfolding registers_done
registers_none ws v places w = refl

pub registers_more : (ws v places w : List ℕ) (i : ℕ) {w' w'' r : List ℕ} {a : ℕ} → w' ≡ registers_done ws v places i w → a ≡ get_or places i 0 → r ≡ drop a ws → w'' ≡ register_done v w' r → w'' ≡ registers_done ws v places (i + 1) w
unfolding registers_done
registers_more ws v places w i {w'} {w''} {r} {a} ew ea er e =
    rw add-one (e ∙ ap (register_done v w') (er ∙ ap (λ (k : ℕ). drop k ws) ea) ∙ ap (λ (z : List ℕ). register_done v z (drop (get_or places i 0) ws)) ew)

pub registers_all : (ws v places w : List ℕ) {count i : ℕ} {w' : List ℕ} → i ≤ count → count ≤ i → w' ≡ registers_done ws v places i w → w' ≡ registers_done ws v places count w
registers_all ws v places w {count} {i} h l e = let z : i ≡ count = omega arith in e ∙ ap (λ (n : ℕ). registers_done ws v places n w) z

-- past the end nothing is stored
pub set_past : (v : List ℕ) (x b : ℕ) → length v ≤ x → v ≡ set v x b
set_past [] x b h = refl
set_past (y ∷ v) zero b h = absurd (omega arith)
set_past (y ∷ v) (suc x) b h = ap (λ (z : List ℕ). y ∷ z) (set_past v x b (omega arith))
