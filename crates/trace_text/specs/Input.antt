-- The trace program's text by its image and what follows it; the image's words as they are read from an input in memory. Assumes nothing.
use Rattle.std.specs.Prelude.{ℕ, ◌*◌, ◌≤◌, ◌≡◌, Bool, List, length, take, drop, Result, Ok, Err}
use Rattle.std.proofs.Common.{arith, sym, ap, ◌∙◌, length-drop, take_all}
use Rattle.std.proofs.Math.Path.{refl}
use Rattle.std.proofs.Math.Bool.{true, false}
use Rattle.spec_tests.specs.Rules.{Answer, Fine, Refused, and_then}
use Rattle.spec_rules.specs.Checks.{refuse}
use Rattle.spec_trace.specs.Opened.{words_of, opened, unfit}
use Rattle.spec_trace.specs.Trace.{said}
use Rattle.spec_trace.specs.Named.{begun, text_from, unless, program}
use Rattle.check_image.specs.Checked.{refuse_yes, refuse_no}
use Rattle.trace_image.specs.Program.{image, text_refused, text_unfit, text_run, image_end}
use Rattle.trace_line.specs.declared.Tables.{Tables}
use Rattle.trace_image.specs.declared.Refusal.{Refusal}
use Rattle.trace_image.specs.declared.Refusal.TheVariants as R
use Rattle.trace_image.specs.Answer.{refusal_of}
use Rattle.trace_open.specs.Opens.{answer_of, judgement, Opens}
use Rattle.trace_open.specs.Begins.{judged_fine}
use Rattle.trace_open.specs.Image.{words}
use Rattle.trace_text.specs.Begins.{Begins, begins_same, begins_spare}

-- the text for an image that was judged
unfoldable pub judged_text : List ℕ → List ℕ → List ℕ
judged_text ws trace = unless (judgement ws) (text_from ws 0 begun trace)

-- ---- by the image's judgement ----

module _ {ws : List ℕ} {o : Result Tables Refusal} (r : Opens ws o) (trace : List ℕ) where
  pub text_taken : {t : Tables} → o ≡ Ok t → {few : ℕ} {out : List ℕ} {to : ℕ} → few ≤ 2090 → Begins few (text_from ws 0 begun trace) out to → Begins 2090 (judged_text ws trace) out to
  unfolding judged_text unless
  text_taken e h b = begins_same (ap (λ (a : Answer). unless a (text_from ws 0 begun trace)) (judged_fine r e)) (begins_spare h b)

  pub text_not : (n k : ℕ) → answer_of o ≡ Refused n k 0 → {out : List ℕ} {to : ℕ} → Begins 2090 (said (Refused n k 0)) out to → Begins 2090 (judged_text ws trace) out to
  unfolding judged_text unless
  text_not n k e b = begins_same (ap (λ (a : Answer). unless a (text_from ws 0 begun trace)) (sym r.answers ∙ e)) b

-- a refusal of the image
pub text_err : {ws : List ℕ} (e : Refusal) → Opens ws (Err e) → (trace : List ℕ) {out : List ℕ} {to : ℕ} → Begins 2090 (said (refusal_of e)) out to → Begins 2090 (judged_text ws trace) out to
text_err (R.Wrong p) r trace b = text_not r trace 11 p refl b
text_err R.Unfit r trace b = text_not r trace 12 0 refl b

-- ---- the program ----

module _ (input : List ℕ) where
  abbrev ws : List ℕ
  ws = image 1024 2048 65536 input

  pub program_by : program input ≡ judged_text ws (drop (4 * words input) input)
  unfolding judged_text judgement unless and_then
  program_by = go (opened 1024 2048 ws) refl (unfit 65536 ws) refl
    where
      go : (a : Answer) → opened 1024 2048 ws ≡ a → (b : Bool) → unfit 65536 ws ≡ b → program input ≡ unless (and_then (opened 1024 2048 ws) (refuse (unfit 65536 ws) 12)) (text_from ws 0 begun (drop (4 * words input) input))
      go (Refused n a b) e u f = text_refused 1024 2048 65536 input e ∙ rw e refl
      go Fine e true f = text_unfit 1024 2048 65536 input e f ∙ rw (e, refuse_yes 12 f) refl
      go Fine e false f =
          text_run 1024 2048 65536 input e f
          ∙ rw (e, refuse_no 12 f) (ap (λ (n : ℕ). text_from ws 0 begun (drop (4 * n) input)) (sym (image_end 1024 2048 65536 input e)))

  pub program_text : {net' trace out : List ℕ} {to : ℕ} (n m len : ℕ) (net : List ℕ) → n ≡ words input → take m net ≡ take n (words_of input) → net' ≡ take m (drop 0 net) → trace ≡ take len (drop (4 * n) input) → len ≡ length input
      → Begins 2090 (judged_text net' trace) out to → Begins 2090 (program input) out to
  program_text n m len net e f g h l b =
      let d = length-drop (4 * n) input in
      let z = take_all len (drop (4 * n) input) (omega arith) in
      begins_same (program_by ∙ sym (ap (λ (j : List ℕ). judged_text j (drop (4 * words input) input)) (g ∙ f ∙ ap (λ (k : ℕ). take k (words_of input)) e)
      ) ∙ sym (ap (judged_text _) (h ∙ z ∙ ap (λ (k : ℕ). drop (4 * k) input) e))) b

  -- the same of the words by themselves
  pub program_words : {trace out : List ℕ} {to : ℕ} (n len : ℕ) (net : List ℕ) → n ≡ words input → net ≡ take n (words_of input) → trace ≡ take len (drop (4 * n) input) → len ≡ length input
      → Begins 2090 (judged_text net trace) out to → Begins 2090 (program input) out to
  program_words n len net e f h l b =
      let z = take_all (length net) net (omega arith) in
      program_text n (length net) len net e (z ∙ f) (sym z) h l b
