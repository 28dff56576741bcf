-- The words of an image as they are read from bytes: the first sixteen say how many there are. Assumes nothing.
use Rattle.std.specs.Prelude.{ℕ, ◌*◌, ◌/◌, ◌≤◌, ◌<◌, ◌≡◌, List, length, take, drop}
use Rattle.std.proofs.Common.{arith, ap, ◌∙◌, length-take}
use Rattle.spec_trace.specs.Opened.{words_of}
use Rattle.trace_image.specs.Words.{ReadWords}
use Rattle.trace_image.specs.Whole.{image_words, words_few}
use Rattle.trace_image.specs.Program.{words_take}

module _ (input : List ℕ) where
  -- how many words the image has
  abbrev pub words : ℕ
  words = image_words 1024 2048 (take 16 (words_of input))

  pub few_words : words ≤ 8208
  few_words = words_few 1024 2048 (words_of input)

  pub first_fit : {s : List ℕ} (net : List ℕ) → s ≡ take 64 (drop 0 input) → 8208 ≤ length net → (length s / 4 ≤ length net) × (length s < 18446744073709551612)
  first_fit net e h = let l = ap length e ∙ length-take 64 input in (omega arith, omega arith)

  pub first_are : {s t net : List ℕ} {n k : ℕ} → s ≡ take 64 (drop 0 input) → ReadWords s net n → t ≡ take n (drop 0 net) → k ≡ image_words 1024 2048 t → k ≡ words
  first_are e r f q = q ∙ ap (image_words 1024 2048) (f ∙ r.words ∙ ap words_of e ∙ words_take 16 input)

  pub all_fit : {s : List ℕ} (n : ℕ) (net : List ℕ) → s ≡ take (4 * n) (drop 0 input) → n ≤ 8208 → 8208 ≤ length net → (length s / 4 ≤ length net) × (length s < 18446744073709551612)
  all_fit n net e h l = let k = ap length e ∙ length-take (4 * n) input in (omega arith, omega arith)

  pub all_are : {s net : List ℕ} {m : ℕ} (n : ℕ) → s ≡ take (4 * n) (drop 0 input) → ReadWords s net m → take m net ≡ take n (words_of input)
  all_are n e r = r.words ∙ ap words_of e ∙ words_take n input

  -- the same of the words by themselves
  pub first_words : {s t : List ℕ} {k : ℕ} → s ≡ take 64 (drop 0 input) → t ≡ words_of s → k ≡ image_words 1024 2048 t → k ≡ words
  first_words e r q = q ∙ ap (image_words 1024 2048) (r ∙ ap words_of e ∙ words_take 16 input)

  pub all_words : {s t : List ℕ} (n : ℕ) → s ≡ take (4 * n) (drop 0 input) → t ≡ words_of s → t ≡ take n (words_of input)
  all_words n e r = r ∙ ap words_of e ∙ words_take n input
