-- The promise `Answers` refuses wrong answers by what it says of their numbers, without its fields `numbers` and `lowered`, which name the
-- model's answer. For y = not a: every refusal 6 to 10, every answer but 0 0 0 where the checks pass, and a demand 2 without nets. For K9,
-- s = {s[0], a}, which has a loop at bit 0 of s: acceptance, exchanged places, bit 1, and refusal 6. Assumes nothing.
use Rattle.std.specs.Prelude.{ℕ, ◌≤◌, ◌≡◌, refl, List, [], ◌∷◌, length}
use Rattle.std.proofs.Common.{sym, subst, ◌∙◌, arith}
use Rattle.std.proofs.Math.Option.{none, none-ne-some}
use Rattle.spec_rtl.specs.Rtl.{Module}
use Rattle.spec_tests.specs.Rules as Rules
use Rattle.spec_tests.specs.Rules.{Fine}
use Rattle.spec_rules.specs.Image as Image
use Rattle.spec_rules.specs.Image.{decode}
use Rattle.spec_rules.specs.Checks.{checked}
use Rattle.spec_rules.specs.NetlistImage.{Netlist}
use Rattle.spec_rules.specs.Examples.{image}
use Rattle.spec_needs.specs.Needs.{Needed}
use Rattle.spec_needs.specs.Examples.{k9}
use Rattle.spec_answers.specs.Nets.{Nets}
use Rattle.spec_answers.specs.Answers.{Reason, Faultless, Answers}
use Rattle.spec_answers.specs.Examples.{no_reason, inverter, inverter_needed, inverter_faultless, k9_faulty, k9_place}

-- the definitions that a decoded image computes
decoding : ℕ
unfolding Rules.◌≡?◌ Rules.pick Rules.sum_to Rules.each Rules.list_of Image.word_at Image.size_of Image.most_of Image.count_at_of Image.offset_at Image.bytes_of Image.start_of Image.part Image.field Image.list_word Image.name_of Image.signal_width Image.expr_width Image.direction Image.unary_of Image.binary_of Image.constant_words Image.constant_of Image.kind_of Image.control_of Image.optional Image.signal_at Image.expr_at Image.assign_at Image.register_of Image.register_at Image.port_of Image.memory_at Image.decode
decoding = 0

-- ---- y = not a ----

the_inverter : decode image ≡ inverter
unfolding decoding
the_inverter = refl

faultless : Faultless (decode image) 3 8
faultless = subst (λ (x : Module). Faultless x 3 8) (sym the_inverter) inverter_faultless

module _ (buffer scratch buffer' scratch' : List ℕ) where
  -- by the field `refused`
  pub refusal_refused : (n p b : ℕ) → 6 ≤ n → Answers image 3 8 buffer scratch (n ∷ p ∷ b ∷ []) buffer' scratch' → ⊥
  refusal_refused n p b h w = no_reason faultless (w.refused n p b refl h).1

  pub loop_refused : Answers image 3 8 buffer scratch (7 ∷ 1 ∷ 0 ∷ []) buffer' scratch' → ⊥
  loop_refused = refusal_refused 7 1 0 (omega arith)

  pub undriven_refused : Answers image 3 8 buffer scratch (6 ∷ 1 ∷ 0 ∷ []) buffer' scratch' → ⊥
  undriven_refused = refusal_refused 6 1 0 (omega arith)

  pub undriven_input_refused : Answers image 3 8 buffer scratch (6 ∷ 0 ∷ 0 ∷ []) buffer' scratch' → ⊥
  undriven_input_refused = refusal_refused 6 0 0 (omega arith)

  pub more_nets_refused : Answers image 3 8 buffer scratch (9 ∷ 0 ∷ 0 ∷ []) buffer' scratch' → ⊥
  more_nets_refused = refusal_refused 9 0 0 (omega arith)

  -- by the field `exactly`: so 1 0 0 to 5 0 0
  pub accepted_only : (answer : List ℕ) → checked image 3 8 (length buffer) (length scratch) ≡ Fine → Answers image 3 8 buffer scratch answer buffer' scratch'
      → answer ≡ 0 ∷ 0 ∷ 0 ∷ []
  accepted_only answer passed w = w.exactly.always (passed, faultless)

-- by the field `needed` of demand 2
pub no_nets_refused : (n : Netlist) (w : Nets (decode image) n) → ((p b : ℕ) → w.signal p b ≡ none) → ⊥
no_nets_refused n w h =
    let k = w.needed 1 0 (subst (λ (x : Module). Needed x (1, 0)) (sym the_inverter) inverter_needed) in
    none-ne-some k.0 (sym (h 1 0) ∙ k.1)

-- ---- K9 ----

abbrev looped : List ℕ
looped =
    2 ∷ 0 ∷ 0 ∷ 0 ∷ 182 ∷ 0 ∷ 0 ∷ 0 ∷ 2 ∷ 0 ∷ 0 ∷ 0 ∷ 64 ∷ 0 ∷ 0 ∷ 0 ∷ 3 ∷ 0 ∷ 0 ∷ 0 ∷ 96 ∷ 0 ∷ 0 ∷ 0 ∷ 2 ∷ 0 ∷ 0 ∷ 0 ∷ 156 ∷ 0 ∷ 0 ∷ 0 ∷ 1 ∷ 0 ∷ 0 ∷ 0 ∷ 164 ∷ 0 ∷ 0 ∷ 0
    ∷ 0 ∷ 0 ∷ 0 ∷ 0 ∷ 180 ∷ 0 ∷ 0 ∷ 0 ∷ 0 ∷ 0 ∷ 0 ∷ 0 ∷ 180 ∷ 0 ∷ 0 ∷ 0 ∷ 2 ∷ 0 ∷ 0 ∷ 0 ∷ 180 ∷ 0 ∷ 0 ∷ 0 ∷ 0 ∷ 0 ∷ 0 ∷ 0 ∷ 1 ∷ 0 ∷ 0 ∷ 0 ∷ 1 ∷ 0 ∷ 0 ∷ 0 ∷ 1 ∷ 0 ∷ 0 ∷ 0
    ∷ 1 ∷ 0 ∷ 0 ∷ 0 ∷ 1 ∷ 0 ∷ 0 ∷ 0 ∷ 2 ∷ 0 ∷ 0 ∷ 0 ∷ 2 ∷ 0 ∷ 0 ∷ 0 ∷ 0 ∷ 0 ∷ 0 ∷ 0 ∷ 1 ∷ 0 ∷ 0 ∷ 0 ∷ 1 ∷ 0 ∷ 0 ∷ 0 ∷ 0 ∷ 0 ∷ 0 ∷ 0 ∷ 0 ∷ 0 ∷ 0 ∷ 0 ∷ 0 ∷ 0 ∷ 0 ∷ 0
    ∷ 1 ∷ 0 ∷ 0 ∷ 0 ∷ 0 ∷ 0 ∷ 0 ∷ 0 ∷ 0 ∷ 0 ∷ 0 ∷ 0 ∷ 0 ∷ 0 ∷ 0 ∷ 0 ∷ 5 ∷ 0 ∷ 0 ∷ 0 ∷ 2 ∷ 0 ∷ 0 ∷ 0 ∷ 0 ∷ 0 ∷ 0 ∷ 0 ∷ 2 ∷ 0 ∷ 0 ∷ 0 ∷ 0 ∷ 0 ∷ 0 ∷ 0 ∷ 0 ∷ 0 ∷ 0 ∷ 0
    ∷ 1 ∷ 0 ∷ 0 ∷ 0 ∷ 1 ∷ 0 ∷ 0 ∷ 0 ∷ 0 ∷ 0 ∷ 0 ∷ 0 ∷ 2 ∷ 0 ∷ 0 ∷ 0 ∷ 2 ∷ 0 ∷ 0 ∷ 0 ∷ 97 ∷ 115
    ∷ []

the_loop : decode looped ≡ k9
unfolding decoding
the_loop = refl

module _ (N P : ℕ) (buffer scratch buffer' scratch' : List ℕ) where
  -- by the field `exactly`
  pub loop_accepted_refused : Answers looped N P buffer scratch (0 ∷ 0 ∷ 0 ∷ []) buffer' scratch' → ⊥
  loop_accepted_refused w = k9_faulty N P (subst (λ (x : Module). Faultless x N P) the_loop (w.exactly.only refl).1)

  -- by the field `refused`: of 6 and 7 only 7 1 0
  pub only_its_place : (n p b : ℕ) → 6 ≤ n → n ≤ 7 → Answers looped N P buffer scratch (n ∷ p ∷ b ∷ []) buffer' scratch' → (n ≡ 7) × (p ≡ 1) × (b ≡ 0)
  only_its_place n p b h i w = k9_place (subst (λ (x : Module). Reason x N P n p b) the_loop (w.refused n p b refl h).1) i

  pub exchanged_places_refused : Answers looped N P buffer scratch (7 ∷ 0 ∷ 1 ∷ []) buffer' scratch' → ⊥
  exchanged_places_refused w = let t = only_its_place 7 0 1 (omega arith) (omega arith) w in omega (arith, t)

  pub bit_beside_refused : Answers looped N P buffer scratch (7 ∷ 1 ∷ 1 ∷ []) buffer' scratch' → ⊥
  bit_beside_refused w = let t = only_its_place 7 1 1 (omega arith) (omega arith) w in omega (arith, t)

  pub loop_as_undriven_refused : Answers looped N P buffer scratch (6 ∷ 1 ∷ 0 ∷ []) buffer' scratch' → ⊥
  loop_as_undriven_refused w = let t = only_its_place 6 1 0 (omega arith) (omega arith) w in omega (arith, t)
