-- The text of a trace, line by line as its bytes come. Assumes nothing.
use Prim.Native.Nat.{ℕ, suc, ◌≤◌, ◌<◌}
use Rattle.std.proofs.Common.{arith, ◌∙◌, length-append}
use Rattle.std.specs.Prelude.{◌≡◌, Bool, length, get_or}
use Rattle.std.proofs.Math.Path.{refl, sym, ap}
use Rattle.std.proofs.Math.Bool.{true, false}
use mathlib.Core.List.{List, [], ◌∷◌, ◌++◌}
use Rattle.spec_tests.specs.Rules.{◌<?◌, ◌≡?◌, pick, Answer, Refused}
use Rattle.spec_tests.specs.Laws.{pick_hit, pick_skip, or_hit, eq_yes, eq_no, ne_yes, lt_yes, lt_no}
use Rattle.spec_rules.specs.Listing.{text}
use Rattle.spec_trace.specs.Opened.{input_nets}
use Rattle.spec_trace.specs.Trace.{setting_of, wrong_line, Before, Goes, Stops, before, pieces, said, continued, traced}
use Rattle.spec_trace.specs.Named.{History, landed, joined, any_line, text_from}
use Rattle.law_histories.specs.Lines.{named_short, line_wrong, settings_line_law}

-- no byte of l ends a line
abbrev pub Free : List ℕ → Type 0
Free l = (i : ℕ) → i < length l → get_or l i 0 ≡ 10 → ⊥

free_tail : (b : ℕ) (l : List ℕ) → Free (b ∷ l) → Free l
free_tail b l f i h e = f (suc i) (omega arith) e

pub pieces_line : (l rest : List ℕ) → Free l → pieces (l ++ (10 ∷ rest)) ≡ l ∷ pieces rest
unfolding pieces before
pieces_line [] rest f = sym (pick_hit _ (eq_yes 10 10 refl) refl)
pieces_line (b ∷ l) rest f = sym (pick_skip _ (eq_no b 10 (f 0 (omega arith))) refl) ∙ ap (before b) (pieces_line l rest (free_tail b l f))

pub pieces_free : (l : List ℕ) → Free l → pieces l ≡ l ∷ []
unfolding pieces before
pieces_free [] f = refl
pieces_free (b ∷ l) f = sym (pick_skip _ (eq_no b 10 (f 0 (omega arith))) refl) ∙ ap (before b) (pieces_free l (free_tail b l f))

record Some (ps : List (List ℕ)) : Type 0 where
  pub first : List ℕ
  pub rest : List (List ℕ)
  pub is : ps ≡ first ∷ rest

pieces_some : (bs : List ℕ) → Some (pieces bs)
unfolding pieces before
pieces_some [] = record { first = []; rest = []; is = refl }
pieces_some (b ∷ bs) = go (b ≡? 10) (pieces_some bs)
  where
    go : (c : Bool) → Some (pieces bs) → Some (pick c ([] ∷ pieces bs) (before b (pieces bs)))
    go true s = record { first = []; rest = pieces bs; is = sym (pick_hit _ refl refl) }
    go false s = record { first = b ∷ s.first; rest = s.rest; is = sym (pick_skip _ refl refl) ∙ ap (before b) s.is }

pieces_more : (l more : List ℕ) → Free l → (s : Some (pieces more)) → pieces (l ++ more) ≡ (l ++ s.first) ∷ s.rest
unfolding pieces before
pieces_more [] more f s = s.is
pieces_more (b ∷ l) more f s = sym (pick_skip _ (eq_no b 10 (f 0 (omega arith))) refl) ∙ ap (before b) (pieces_more l more (free_tail b l f) s)

-- ---- the text ----

-- a line that is longer than the inputs and than a name's line
long_wrong : (ws : List ℕ) (k : ℕ) (h : History) (l : List ℕ) → length (input_nets ws) < length l → 13 < length l → any_line ws k h l ≡ Stops (Refused 13 k 0)
unfolding wrong_line joined
long_wrong ws k h l i n =
    settings_line_law ws k h l (named_short (text "keep ") l n) (named_short (text "back ") l n)
    ∙ ap (joined h (setting_of ws l)) (line_wrong ws k (landed ws Before h.past) l (sym (or_hit _ (ne_yes _ _ (λ e. absurd (omega arith))))))

module _ (ws : List ℕ) (k : ℕ) (h : History) where
  -- a line and its end
  two : (l : List ℕ) (ps : List (List ℕ)) → Some ps → traced (any_line ws) k h (l ∷ ps) ≡ pick (k <? 4294967295) (continued (λ n. traced (any_line ws) (suc k) n ps) (any_line ws k h l)) (said (Refused 13 k 0))
  unfolding traced
  two l ps s = ap (λ (q : List (List ℕ)). traced (any_line ws) k h (l ∷ q)) s.is
      ∙ ap (λ (q : List (List ℕ)). pick (k <? 4294967295) (continued (λ n. traced (any_line ws) (suc k) n q) (any_line ws k h l)) (said (Refused 13 k 0))) (sym s.is)

  ended : (l rest : List ℕ) → Free l → text_from ws k h (l ++ (10 ∷ rest)) ≡ pick (k <? 4294967295) (continued (λ n. text_from ws (suc k) n rest) (any_line ws k h l)) (said (Refused 13 k 0))
  ended l rest f = ap (traced (any_line ws) k h) (pieces_line l rest f) ∙ two l (pieces rest) (pieces_some rest)

  pub text_goes : (l rest : List ℕ) → Free l → k < 4294967295 → {t : List ℕ} {next : History} → any_line ws k h l ≡ Goes t next → text_from ws k h (l ++ (10 ∷ rest)) ≡ t ++ text_from ws (suc k) next rest
  unfolding continued
  text_goes l rest f i e = ended l rest f ∙ sym (pick_hit _ (lt_yes k 4294967295 i) refl) ∙ ap (continued (λ n. text_from ws (suc k) n rest)) e

  pub text_stops : (l rest : List ℕ) → Free l → k < 4294967295 → {a : Answer} → any_line ws k h l ≡ Stops a → text_from ws k h (l ++ (10 ∷ rest)) ≡ said a
  unfolding continued
  text_stops l rest f i e = ended l rest f ∙ sym (pick_hit _ (lt_yes k 4294967295 i) refl) ∙ ap (continued (λ n. text_from ws (suc k) n rest)) e

  pub text_limit : (l rest : List ℕ) → Free l → 4294967295 ≤ k → text_from ws k h (l ++ (10 ∷ rest)) ≡ said (Refused 13 k 0)
  text_limit l rest f i = ended l rest f ∙ sym (pick_skip _ (lt_no k 4294967295 i) refl)

  either : (b : Bool) (x : List ℕ) → pick b x x ≡ x
  unfolding pick
  either true x = refl
  either false x = refl

  wrong_two : (l q : List ℕ) (ps : List (List ℕ)) → any_line ws k h l ≡ Stops (Refused 13 k 0) → traced (any_line ws) k h (l ∷ q ∷ ps) ≡ said (Refused 13 k 0)
  unfolding traced continued
  wrong_two l q ps e =
      ap (λ (x : List ℕ). pick (k <? 4294967295) x (said (Refused 13 k 0))) (ap (continued (λ n. traced (any_line ws) (suc k) n (q ∷ ps))) e)
      ∙ either (k <? 4294967295) (said (Refused 13 k 0))

  -- bytes without a line end at the end of the trace
  pub text_end : (l : List ℕ) → Free l → text_from ws k h l ≡ pick (length l ≡? 0) [] (said (Refused 13 k 0))
  unfolding traced
  text_end l f = ap (traced (any_line ws) k h) (pieces_free l f)

  -- more bytes without a line end than a line has
  pub text_long : (l more : List ℕ) → Free l → length (input_nets ws) < length l → 13 < length l → text_from ws k h (l ++ more) ≡ said (Refused 13 k 0)
  unfolding traced
  text_long l more f i n = ap (traced (any_line ws) k h) (pieces_more l more f (pieces_some more)) ∙ go (pieces_some more).rest
    where
      line : List ℕ
      line = l ++ (pieces_some more).first

      long : length l ≤ length line
      long = let e = length-append l (pieces_some more).first in omega arith

      go : (ps : List (List ℕ)) → traced (any_line ws) k h (line ∷ ps) ≡ said (Refused 13 k 0)
      go [] = sym (pick_skip _ (eq_no _ 0 (λ e. absurd (let q = long in omega arith))) refl)
      go (q ∷ ps) = wrong_two line q ps (let z = long in long_wrong ws k h line (omega arith) (omega arith))
