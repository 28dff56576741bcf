-- Refusals 6 to 10 on small modules. y = not a has none of them; K9, s = {s[0], a}, has a loop at bit 0 of s, at no other
-- place, and no undriven bit; a bit that nothing needs may be undriven or on a loop. Assumes nothing.
use Rattle.std.specs.Prelude.{ℕ, zero, suc, ◌<◌, ◌≤◌, ◌≡◌, refl, ◌⊎◌, Bool, true, false, not, [], ◌∷◌, T, ltb}
use Rattle.std.proofs.Common.{sym, ap, ◌∙◌, inl, inr, ⊎_elim, arith, ltb→lt, nltb→le}
use Rattle.std.proofs.Math.Option.{none-ne-some}
use Rattle.spec_rtl.specs.Rtl as R
use Rattle.spec_rtl.specs.Rtl.{Module}
use Rattle.spec_model.specs.Words as Words
use Rattle.spec_model.specs.Builder as Builder
use Rattle.spec_model.specs.Builder.{Out, refused, done}
use Rattle.spec_model.specs.Lowering as Lowering
use Rattle.spec_model.specs.Lowering.{lower}
use Rattle.spec_needs.specs.Reads.{bit_reads, whole_reads}
use Rattle.spec_needs.specs.Needs.{bit_needs, outputs, registers_need, memories_need, starts, Needed, start}
use Rattle.spec_needs.specs.Closed.{needs_in}
use Rattle.spec_needs.specs.Examples.{k9, k9_loop, loose, loose_needed, spare, spare_unneeded}
use Rattle.spec_answers.specs.Refusals.{Undriven, Looping}
use Rattle.spec_answers.specs.Limits.{Freely}
use Rattle.spec_answers.specs.Answers.{Reason, undriven, looping, not_constant, more_nets, more_words, Faultless}

-- no fault, no reason to refuse
pub no_reason : {x : Module} {N P n p b : ℕ} → Faultless x N P → Reason x N P n p b → ⊥
no_reason f (undriven {p} {b} u) = f.driven p b u
no_reason f (looping {p} {b} u) = f.loopless p b u
no_reason f (not_constant {k} {b} u) = f.constant k b u
no_reason f (more_nets u) = f.few u
no_reason f (more_words u) = f.short u

-- the definitions that needs and the model compute
needing : ℕ
unfolding bit_reads whole_reads bit_needs outputs registers_need memories_need starts
needing = 0

lowering : ℕ
unfolding Words.used Builder.add_node Builder.push Builder.node_for_net Builder.constant_value Builder.same Builder.find Builder.add_cached Builder.add_not Builder.each Builder.both Builder.from Builder.add_nodes Builder.add_recorded Builder.add_input_port Builder.add_output_port Lowering.lower_unary Lowering.set_signal_bit Lowering.set_signal Lowering.mark Lowering.set_whole Lowering.whole Lowering.signal_bit Lowering.signal_net Lowering.signal_nets Lowering.whole_nets Lowering.signal_steps Lowering.whole_steps Lowering.build_whole Lowering.lower_steps Lowering.driver_of Lowering.drive Lowering.resolve_signal_bit Lowering.keep_whole Lowering.lower_expression Lowering.lower_need Lowering.plenty Lowering.lower_all Lowering.start Lowering.reserve_inputs Lowering.reserve_registers Lowering.reserve_memories Lowering.reserve_sources Lowering.connect_memories Lowering.connect_registers Lowering.connect_outputs Lowering.lower_state Lowering.lower_with Lowering.lower
lowering = 0

-- ---- y = not a, which makes 3 nets and 8 list words ----

abbrev pub inverter : Module
inverter = record {
  signals = record { width = 1; dir = R.Input } ∷ record { width = 1; dir = R.Output } ∷ [];
  exprs = record { width = 1; kind = R.Signal 0 0 } ∷ record { width = 1; kind = R.Un R.BitNot 0 } ∷ [];
  assigns = record { signal = 1; lsb = 0; width = 1; value = 1 } ∷ [];
  registers = [];
  memories = [];
}

pub inverter_needed : Needed inverter (1, 0)
unfolding needing
inverter_needed = start (inl refl)

inverter_driven : (p b : ℕ) → Undriven inverter p b → ⊥
inverter_driven zero b u = let e = u.nothing in let z : ◌≡◌ {A = ℕ} 0 1 = cc in omega arith
inverter_driven (suc zero) zero u = let e = u.nothing in let z : ◌≡◌ {A = ℕ} 0 1 = cc in omega arith
inverter_driven (suc zero) (suc b) u = let t = u.there in omega (arith, t)
inverter_driven (suc (suc p)) b u = let t = u.there in omega (arith, t)

-- y needs a, and a needs nothing
inverter_loopless : (p b : ℕ) → Looping inverter p b → ⊥
unfolding needing
inverter_loopless zero b l = let e = l.driven in let z : ◌≡◌ {A = ℕ} 0 1 = cc in omega arith
inverter_loopless (suc zero) zero l = needs_in inverter ((0, 0) ∷ []) (1, 0) tt tt l.itself
inverter_loopless (suc zero) (suc b) l = let t = l.there in omega (arith, t)
inverter_loopless (suc (suc p)) b l = let t = l.there in omega (arith, t)

number : {A : Type 0} → Out A → ℕ
number (refused n x y) = n
number (done a) = 0

inverter_number : number (lower inverter 3 8) ≡ 0
unfolding number lowering
inverter_number = refl

-- exactly N nets and P list words are allowed
enough : (f : Freely (lower inverter)) → (3 < f.nets) ⊎ (8 < f.words) → ⊥
unfolding number
enough f = either (ltb 3 f.nets) (ltb 8 f.words) (ltb→lt 3 f.nets) (ltb→lt 8 f.words) (nltb→le 3 f.nets) (nltb→le 8 f.words)
  where
    no : {k x y : ℕ} → lower inverter 3 8 ≡ refused k x y → 1 ≤ k → ⊥
    no e h = let z = sym inverter_number ∙ ap number e in omega (arith, z, h)

    either : (a b : Bool) → (T a → 3 < f.nets) → (T b → 8 < f.words) → (T (not a) → f.nets ≤ 3) → (T (not b) → f.words ≤ 8) → (3 < f.nets) ⊎ (8 < f.words) → ⊥
    either true true g h i j o = ⊎_elim (λ e. no e (omega arith)) (λ e. no e (omega arith)) (f.both 3 8 (g tt) (h tt))
    either true false g h i j o = no (f.few 3 8 (g tt) (j tt)) (omega arith)
    either false true g h i j o = no (f.short 3 8 (i tt) (h tt)) (omega arith)
    either false false g h i j o = let x = i tt in let y = j tt in ⊎_elim (λ z. omega (arith, x, z)) (λ z. omega (arith, y, z)) o

pub inverter_faultless : Faultless inverter 3 8
inverter_faultless = record {
  driven = inverter_driven;
  loopless = inverter_loopless;
  constant = λ k b c. none-ne-some c.register c.is;
  few = λ h. enough h.free (inl h.more);
  short = λ h. enough h.free (inr h.more);
}

-- ---- loops and undriven bits ----

-- y = u, u without a driver
loose_undriven : Undriven loose 0 0
loose_undriven = record { there = omega arith; nothing = loose_needed.0; needed = loose_needed.1 }

-- a bit that nothing needs may be undriven or on a loop
spare_fine : (Undriven spare 1 0 → ⊥) × (Looping spare 2 0 → ⊥)
spare_fine = (λ u. spare_unneeded.2 u.needed, λ l. spare_unneeded.3 l.needed)

-- K9, s = {s[0], a}: bit 0 of signal 1, whatever the limits
k9_looping : Looping k9 1 0
k9_looping = record { there = omega arith; e = 2; o = 0; driven = refl; needed = k9_loop.1; itself = k9_loop.2 }

pub k9_faulty : (N P : ℕ) → Faultless k9 N P → ⊥
k9_faulty N P f = f.loopless 1 0 k9_looping

k9_only : (p b : ℕ) → Looping k9 p b → (p ≡ 1) × (b ≡ 0)
k9_only zero b l = let e = l.driven in let z : ◌≡◌ {A = ℕ} 0 1 = cc in absurd (omega arith)
k9_only (suc zero) zero l = (refl, refl)
k9_only (suc zero) (suc zero) l = absurd (k9_loop.4 l.itself)
k9_only (suc zero) (suc (suc b)) l = let t = l.there in absurd (omega (arith, t))
k9_only (suc (suc p)) b l = let t = l.there in absurd (omega (arith, t))

k9_driven : (p b : ℕ) → Undriven k9 p b → ⊥
k9_driven zero b u = let e = u.nothing in let z : ◌≡◌ {A = ℕ} 0 1 = cc in omega arith
k9_driven (suc zero) zero u = let e = u.nothing in let z : ◌≡◌ {A = ℕ} 0 1 = cc in omega arith
k9_driven (suc zero) (suc zero) u = let e = u.nothing in let z : ◌≡◌ {A = ℕ} 0 1 = cc in omega arith
k9_driven (suc zero) (suc (suc b)) u = let t = u.there in omega (arith, t)
k9_driven (suc (suc p)) b u = let t = u.there in omega (arith, t)

-- so of 6 and 7 it has 7 alone, and its place is the signal, then the bit
pub k9_place : {N P n p b : ℕ} → Reason k9 N P n p b → n ≤ 7 → (n ≡ 7) × (p ≡ 1) × (b ≡ 0)
k9_place (undriven {p} {b} u) h = absurd (k9_driven p b u)
k9_place (looping {p} {b} u) h = let t = k9_only p b u in (refl, omega (arith, t), omega (arith, t))
k9_place (not_constant u) h = absurd (omega (arith, h))
k9_place (more_nets u) h = absurd (omega (arith, h))
k9_place (more_words u) h = absurd (omega (arith, h))
