-- What each way through the functions gives, from what their calls give. Assumes nothing.
use Rattle.std.specs.Prelude as code
use mathlib.Core.Path.{◌≡◌, refl, sym, ap, ◌∙◌, subst}
use mathlib.Core.Bool.{Bool}
use mathlib.Core.List.{List, [], ◌∷◌}
use mathlib.Core.Option.{Option, none, some}
use Prim.Native.Nat.{ℕ, zero, suc}
use Rattle.spec_rtl.specs.Rtl as R
use Rattle.spec_rules.specs.Image.{signal_width, expr_width}
use Rattle.spec_model.specs.Words.{low_word, bit_word, control_words, reset_words}
use Rattle.spec_model.specs.Builder.{refused, and_then, constant_value}
use Rattle.spec_model.specs.Lowering.{State, signal_net, whole_net, option_control, push_record, reset_by, register_bit, register_bits}
use Rattle.image_records.specs.declared.Register.{Register}
use Rattle.image_records.specs.declared.Reset.{Reset}
use Rattle.image_records.specs.Others.{control_means, reset_means, register_means}
use Rattle.walk_view.specs.Turns.{in_turn}
use Rattle.phase_register_records.specs.declared.ResetWords.{ResetWords}
use Rattle.phase_register_records.specs.Registers.{reset_of, ThereReset, WideReset, There, WholeReset, Wholes, bit_words, four_words, net_reset}

-- ---- the code's reset ----

pub no_reset : (x : Register) → x.reset ≡ code.None → (register_means x).reset ≡ none
unfolding register_means reset_means
no_reset x q = ap reset_means q

module _ (x : Register) (y : Reset) (q : x.reset ≡ code.Some y) where
  pub reset_is : (register_means x).reset ≡ some (reset_of y)
  unfolding register_means reset_means control_means
  reset_is = ap reset_means q

  pub there_reset : (s : List ℕ) → There s (register_means x) → ThereReset s (some (reset_of y))
  there_reset s h = subst (ThereReset s) reset_is h.reset

  pub wide_reset : (s : List ℕ) → There s (register_means x) → expr_width s y.value ≡ signal_width s (register_means x).target
  wide_reset s h = subst (WideReset s (signal_width s (register_means x).target)) reset_is h.wide

  pub whole_reset : (s w : List ℕ) → Wholes s w (register_means x) → WholeReset s w (some (reset_of y))
  whole_reset s w h = subst (WholeReset s w) reset_is h.reset

-- ---- a bit's record ----

pub four_words_law : (st : State) (x : R.Reset) (v n l m : ℕ) → n ≡ signal_net st x.control.signal 0 → l ≡ low_word x.control.level → m ≡ bit_word x.asynchronous
    → reset_words (some (net_reset st x v)) ≡ n ∷ l ∷ m ∷ v ∷ []
four_words_law st x v n l m a b c = rw (a, b, c)

pub bit_words_law : (st : State) (k b t n c e : ℕ) (r : R.Register) (p q : ℕ) (zs : List ℕ) → t ≡ signal_net st r.target b → n ≡ whole_net st r.next b → c ≡ signal_net st r.clock 0
    → e ≡ low_word r.rising → control_words (option_control st r.enable) ≡ p ∷ q ∷ []
    → 1 ∷ k ∷ b ∷ t ∷ n ∷ c ∷ e ∷ p ∷ q ∷ zs ≡ bit_words k r b st zs
bit_words_law st k b t n c e r p q zs a₀ a₁ a₂ a₃ a₄ = rw (a₀, a₁, a₂, a₃, a₄)

module _ (k b : ℕ) (r : R.Register) (st : State) (x : R.Reset) (n : ℕ) (is : n ≡ whole_net st x.value b) where
  at_value : (o : Option Bool) → constant_value st.netlist n ≡ o → register_bit (some x) k r b st ≡ reset_by o k r b st x
  at_value o c = ap (λ (y : Option Bool). reset_by y k r b st x) (ap (constant_value st.netlist) (sym is) ∙ c)

  pub bit_other : constant_value st.netlist n ≡ none → register_bit (some x) k r b st ≡ refused 8 k b
  bit_other c = at_value none c

  pub bit_constant : (v : Bool) (z : ResetWords) → constant_value st.netlist n ≡ some v → reset_words (some (net_reset st x (bit_word v))) ≡ four_words z
      → register_bit (some x) k r b st ≡ push_record (bit_words k r b st (four_words z)) st
  bit_constant v z c e = at_value (some v) c ∙ ap (λ (zs : List ℕ). push_record (bit_words k r b st zs) st) e

-- ---- all bits ----

pub bits_turns : (k : ℕ) (r : R.Register) (b n : ℕ) (st : State) → register_bits k r b n st ≡ in_turn (register_bit r.reset k r) b n st
unfolding register_bits in_turn
bits_turns k r b zero st = refl
bits_turns k r b (suc n) st = ap (and_then (register_bit r.reset k r b st)) (λ i st₁. bits_turns k r (suc b) n st₁ i)
