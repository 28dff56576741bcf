-- A program's input: words as bytes and lines as bytes, read back as those words and those lines. Assumes nothing.
use Rattle.std.specs.Prelude.{ℕ, ◌+◌, ◌*◌, ◌/◌, ◌%◌, ◌≡◌, refl, false, List, [], ◌∷◌, ◌++◌, length, take, drop}
use Rattle.std.proofs.Common.{arith, sym, ap, ◌∙◌}
use Rattle.std.proofs.Math.Seq.{take-append_seam, drop-append_seam}
use Rattle.spec_tests.specs.Rules.{◌≡?◌, ◌≢?◌, ◌and◌}
use Rattle.spec_tests.specs.Laws.{eq_yes, eq_no}
use Rattle.spec_trace.specs.Opened.{words_of, word_count, image_of, trace_of, having}
use Rattle.spec_trace.specs.Trace.{before, pieces}
use Rattle.law_told.specs.Told.{pick_yes, pick_no}
use Rattle.law_histories.specs.Plain.{other, having_no, not_letter}

-- ---- words ----

-- "four bytes a word, low first": of a word below 2^32 all four are bytes
unfoldable pub bytes_of : List ℕ → List ℕ
bytes_of [] = []
bytes_of (w ∷ ws) = w % 256 ∷ w / 256 % 256 ∷ w / 65536 % 256 ∷ w / 16777216 ∷ bytes_of ws

pub words_back : (ws rest : List ℕ) → words_of (bytes_of ws ++ rest) ≡ ws ++ words_of rest
unfolding words_of bytes_of
words_back [] rest = refl
words_back (w ∷ ws) rest =
    let e : w % 256 + w / 256 % 256 * 256 + w / 65536 % 256 * 65536 + w / 16777216 * 16777216 ≡ w = omega arith in
    let f = words_back ws rest in
    (λ k. e k ∷ f k)

bytes_length : (ws : List ℕ) → length (bytes_of ws) ≡ 4 * length ws
unfolding bytes_of
bytes_length [] = refl
bytes_length (w ∷ ws) = let e = bytes_length ws in omega arith

-- ---- lines ----

-- each line ends with byte 10
unfoldable pub trace_bytes : List (List ℕ) → List ℕ
trace_bytes [] = []
trace_bytes (l ∷ ls) = l ++ (10 ∷ trace_bytes ls)

line_piece : (l rest : List ℕ) → having other l ≡ false → pieces (l ++ (10 ∷ rest)) ≡ l ∷ pieces rest
unfolding pieces before
line_piece [] rest h = pick_yes (10 ≡? 10) _ _ (eq_yes 10 10 refl)
line_piece (b ∷ l) rest h =
    let n = having_no b l h in
    pick_no (b ≡? 10) _ _ (eq_no b 10 (not_letter b 10 n.0 (λ e. absurd (omega arith)) (λ e. absurd (omega arith)))) ∙ ap (before b) (line_piece l rest n.1)

abbrev pub Letters : List (List ℕ) → Type 0
Letters [] = Unit {0}
Letters (l ∷ ls) = (having (λ b. b ≢? 48 and b ≢? 49) l ≡ false) × Letters ls

pub lines_back : (ls : List (List ℕ)) → Letters ls → pieces (trace_bytes ls) ≡ ls ++ ([] ∷ [])
unfolding trace_bytes pieces
lines_back [] h = refl
lines_back (l ∷ ls) h = line_piece l (trace_bytes ls) h.0 ∙ ap (λ (z : List (List ℕ)). l ∷ z) (lines_back ls h.1)

-- ---- an image and the bytes behind it ----

module _ (ws rest : List ℕ) (whole : word_count (ws ++ words_of rest) ≡ length ws) where
  pub image_back : image_of (bytes_of ws ++ rest) ≡ ws
  image_back =
      ap (λ (z : List ℕ). take (word_count z) z) (words_back ws rest) ∙ ap (λ (n : ℕ). take n (ws ++ words_of rest)) whole ∙ take-append_seam ws (words_of rest)

  pub trace_back : trace_of (bytes_of ws ++ rest) ≡ rest
  trace_back =
      ap (λ (z : List ℕ). drop (4 * word_count z) (bytes_of ws ++ rest)) (words_back ws rest)
      ∙ ap (λ (n : ℕ). drop n (bytes_of ws ++ rest)) (ap (λ (n : ℕ). 4 * n) whole ∙ sym (bytes_length ws)) ∙ drop-append_seam (bytes_of ws) rest
