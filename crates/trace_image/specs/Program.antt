-- The trace program's text by the judgement of the image alone, which is read as its first sixteen words say. Assumes nothing.
use Rattle.std.specs.Prelude.{ℕ, zero, suc, ◌+◌, ◌*◌, ◌≡◌, refl, true, false, take}
use Rattle.std.proofs.Common.{arith, sym, ap, ◌∙◌}
use mathlib.Core.List.{List, [], ◌∷◌}
use Rattle.spec_tests.specs.Rules.{Fine, Refused, and_then}
use Rattle.spec_netlist.specs.Accept.{accepts}
use Rattle.spec_trace.specs.Opened.{words_of, word_count, image_of, trace_of, opened, unfit}
use Rattle.spec_trace.specs.Trace.{said}
use Rattle.spec_trace.specs.Named.{begun, text_from, unless, trace_text}
use Rattle.check_image.specs.Checked.{refuse_yes, refuse_no}
use Rattle.law_told.specs.Told.{then_both}
use Rattle.trace_image.specs.Headed.{headed, opened_headed}
use Rattle.trace_image.specs.Whole.{image_words, words_fine, opened_cut}

-- words of the first bytes
pub words_take : (m : ℕ) (bs : List ℕ) → words_of (take (4 * m) bs) ≡ take m (words_of bs)
unfolding words_of
words_take zero bs = refl
words_take (suc m) bs = let e : 4 * suc m ≡ suc (suc (suc (suc (4 * m)))) = omega arith in ap (λ (n : ℕ). words_of (take n bs)) e ∙ go bs (λ l. words_take m l)
  where
    go : (l : List ℕ) → ((l : List ℕ) → words_of (take (4 * m) l) ≡ take m (words_of l)) → words_of (take (suc (suc (suc (suc (4 * m))))) l) ≡ take (suc m) (words_of l)
    go [] f = refl
    go (a ∷ []) f = refl
    go (a ∷ b ∷ []) f = refl
    go (a ∷ b ∷ c ∷ []) f = refl
    go (a ∷ b ∷ c ∷ d ∷ l) f = ap (λ (ws : List ℕ). (a + b * 256 + c * 65536 + d * 16777216) ∷ ws) (f l)

module _ (N P most : ℕ) (input : List ℕ) where
  -- the words that are read
  abbrev pub image : List ℕ
  image = take (image_words N P (take 16 (words_of input))) (words_of input)

  judged : opened N P image ≡ opened N P (words_of input)
  judged = opened_cut N P (words_of input)

  -- 11, or 12 of N and of list words
  pub text_refused : {n a b : ℕ} → opened N P image ≡ Refused n a b → trace_text N P most input ≡ said (Refused n a b)
  unfolding trace_text and_then unless
  text_refused e = rw (sym judged ∙ e)

  module _ (e : opened N P image ≡ Fine) where
    passed : (headed N P (words_of input) ≡ Fine) × (accepts (words_of input) ≡ Fine)
    passed = then_both (headed N P (words_of input)) (accepts (words_of input)) (sym (opened_headed N P (words_of input)) ∙ sym judged ∙ e)

    pub image_is : image ≡ image_of input
    image_is = ap (λ (n : ℕ). take n (words_of input)) (words_fine N P (words_of input) passed.0)

    pub image_accepted : accepts image ≡ Fine
    image_accepted = (then_both (headed N P image) (accepts image) (sym (opened_headed N P image) ∙ e)).1

    -- where the trace begins
    pub image_end : image_words N P (take 16 (words_of input)) ≡ word_count (words_of input)
    image_end = words_fine N P (words_of input) passed.0

    -- 12 after 11
    pub text_unfit : unfit most image ≡ true → trace_text N P most input ≡ said (Refused 12 0 0)
    unfolding trace_text and_then unless
    text_unfit u = rw (sym judged ∙ e, refuse_yes 12 (ap (unfit most) (sym image_is) ∙ u))

    pub text_run : unfit most image ≡ false → trace_text N P most input ≡ text_from image 0 begun (trace_of input)
    unfolding trace_text and_then unless
    text_run u = rw (sym judged ∙ e, refuse_no 12 (ap (unfit most) (sym image_is) ∙ u)) (ap (λ (ws : List ℕ). text_from ws 0 begun (trace_of input)) (sym image_is))
