-- The image ends where its first sixteen words say: what stands behind does not matter. Assumes nothing.
use Prim.Native.Nat.{ℕ, ◌+◌, ◌*◌, ◌≤◌, ◌<◌, min}
use Rattle.std.proofs.Common.{arith, ◌∙◌, take-append-drop, take_all}
use Rattle.std.proofs.Math.Decide.{dec_lt}
use Rattle.std.specs.Prelude.{◌≡◌, List, length, take, drop, get_or}
use Rattle.std.proofs.Math.Path.{refl, sym, ap, ap₂}
use Rattle.std.proofs.Math.ListN.{length-take}
use Rattle.std.proofs.Math.Seq.{get_or-take}
use Rattle.spec_tests.specs.Rules.{◌<?◌, pick, Answer, Fine, Refused, and_then}
use Rattle.spec_tests.specs.Laws.{lt_no}
use Rattle.spec_netlist.specs.Accept.{used, list_at_of, wrong_header, first_wrong, header_answer, accepts}
use Rattle.spec_trace.specs.Opened.{word_count, other_limits, opened}
use Rattle.law_told.specs.Behind.{only_these, first_agree}
use Rattle.trace_image.specs.Headed.{headed, short_none, Heads, heads, opened_headed}

unfoldable pub end_by : Answer → List ℕ → ℕ
end_by Fine ws = word_count ws
end_by (Refused n a b) ws = length ws

module _ (N P : ℕ) where
  -- how many words the image has by its header; as many as are given where these are refused
  unfoldable pub image_words : List ℕ → ℕ
  image_words ws = end_by (headed N P ws) ws

  pub words_right : (ws : List ℕ) → Fine ≡ headed N P ws → word_count ws ≡ image_words ws
  unfolding image_words end_by
  words_right ws e = rw (sym e)

  pub words_given : (ws : List ℕ) (n a b : ℕ) → Refused n a b ≡ headed N P ws → length ws ≡ image_words ws
  unfolding image_words end_by
  words_given ws n a b e = rw (sym e)

  module _ (ws : List ℕ) (n : ℕ) (h : 16 ≤ n) where
    head : (i : ℕ) → i < 16 → get_or (take n ws) i 0 ≡ get_or ws i 0
    head i l = get_or-take n ws i 0 (omega arith)

    many : min 16 (length (take n ws)) ≡ min 16 (length ws)
    many = let l = length-take n ws in omega arith

    wrong_same : (i : ℕ) → i < 16 → wrong_header (take n ws) i ≡ wrong_header ws i
    unfolding wrong_header
    wrong_same i l = rw (head i l, head 4 (omega arith), head 1 (omega arith))

    header_same : header_answer (take n ws) ≡ header_answer ws
    unfolding header_answer first_wrong
    header_same = rw many (ap (λ (i : ℕ). pick (i <? min 16 (length ws)) (Refused 11 (0 + i) 0) Fine) (first_agree (wrong_header (take n ws)) (wrong_header ws) (min 16 (length ws)) (λ j b f. wrong_same j (omega arith))))

    pub headed_take : 16 ≤ length ws → headed N P (take n ws) ≡ headed N P ws
    unfolding headed other_limits
    headed_take l =
        let t = length-take n ws in
        let a : (length (take n ws) <? 16) ≡ (length ws <? 16) = lt_no _ _ (omega arith) ∙ sym (lt_no _ _ l) in
        rw (header_same, a, head 4 (omega arith), head 3 (omega arith), short_none (take n ws) (omega arith), short_none ws l)

  module _ (ws : List ℕ) where
    -- the first sixteen words, or fewer, say it
    few : length ws < 16 → take 16 ws ≡ ws
    few h = take_all 16 ws (omega arith)

    pub headed_sixteen : headed N P (take 16 ws) ≡ headed N P ws
    headed_sixteen = elim (dec_lt (length ws) 16) [
      | yes h ↦ ap (headed N P) (few h)
      | no h ↦ headed_take ws 16 (omega arith) (omega arith)
    ]

    -- where they pass, the image ends where all words say it ends
    pub words_fine : headed N P ws ≡ Fine → image_words (take 16 ws) ≡ word_count ws
    unfolding image_words end_by
    words_fine e =
        let a = get_or-take 16 ws 3 0 (omega arith) in
        let b = get_or-take 16 ws 4 0 (omega arith) in
        rw (headed_sixteen, e) (omega arith)

    words_refused : {n a b : ℕ} → headed N P ws ≡ Refused n a b → image_words (take 16 ws) ≡ length (take 16 ws)
    unfolding image_words end_by
    words_refused e = rw (headed_sixteen, e)

    take_refused : take (length (take 16 ws)) ws ≡ take 16 ws
    take_refused = elim (dec_lt (length ws) 16) [
      | yes h ↦ ap (λ (vs : List ℕ). take (length vs) ws) (few h) ∙ take_all (length ws) ws (omega arith) ∙ sym (few h)
      | no h ↦ let l = length-take 16 ws in let e : length (take 16 ws) ≡ 16 = omega arith in ap (λ (k : ℕ). take k ws) e
    ]

    accepts_cut : Heads N P ws → accepts (take (word_count ws) ws) ≡ accepts ws
    accepts_cut o = elim (dec_lt (word_count ws) (length ws)) [
      | no h ↦ ap accepts (take_all (word_count ws) ws (omega arith))
      | yes h ↦ shorter h
    ]
      where
        shorter : word_count ws < length ws → accepts (take (word_count ws) ws) ≡ accepts ws
        shorter h =
            let s = o.list_starts in
            let l = length-take (word_count ws) ws in
            let a : list_at_of (take (word_count ws) ws) ≡ list_at_of ws = get_or-take (word_count ws) ws 4 0 (omega arith) in
            let u : used (take (word_count ws) ws) ≡ used ws = get_or-take (word_count ws) ws 3 0 (omega arith) in
            sym (only_these (take (word_count ws) ws) (drop (word_count ws) ws) (omega arith) (omega arith)) ∙ ap accepts (take-append-drop (word_count ws) ws)

    pub opened_cut : opened N P (take (image_words (take 16 ws)) ws) ≡ opened N P ws
    unfolding and_then
    opened_cut = go (headed N P ws) refl
      where
        go : (a : Answer) → headed N P ws ≡ a → opened N P (take (image_words (take 16 ws)) ws) ≡ opened N P ws
        go Fine e =
            let o = heads N P ws e in
            let s = o.list_starts in
            let l = o.long in
            ap (λ (k : ℕ). opened N P (take k ws)) (words_fine e) ∙ opened_headed N P (take (word_count ws) ws)
            ∙ ap₂ and_then (headed_take ws (word_count ws) (omega arith) l) (accepts_cut o) ∙ sym (opened_headed N P ws)
        go (Refused n a b) e =
            ap (λ (k : ℕ). opened N P (take k ws)) (words_refused e) ∙ ap (opened N P) take_refused ∙ opened_headed N P (take 16 ws)
            ∙ ap (λ (x : Answer). and_then x (accepts (take 16 ws))) (headed_sixteen ∙ e) ∙ sym (ap (λ (x : Answer). and_then x (accepts ws)) e) ∙ sym (opened_headed N P ws)

    -- and it is short
    pub words_few : image_words (take 16 ws) ≤ 16 + 6 * N + P
    words_few = go (headed N P ws) refl
      where
        go : (a : Answer) → headed N P ws ≡ a → image_words (take 16 ws) ≤ 16 + 6 * N + P
        go Fine e = let o = heads N P ws e in let s = o.list_starts in let u = o.few_words_of in let w = words_fine e in omega arith
        go (Refused n a b) e = let w = words_refused e in let l = length-take 16 ws in omega arith

    pub words_most : length ws ≤ 16 → image_words ws ≤ 16 + 6 * N + P
    words_most h = let e = take_all 16 ws h in rw e at words_few
