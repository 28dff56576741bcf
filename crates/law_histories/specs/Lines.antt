-- Which line of a trace a text is, and what each comes to. Assumes nothing.
use Rattle.std.specs.Prelude.{ℕ, ◌+◌, ◌≤◌, ◌<◌, ◌≡◌, refl, Bool, true, false, not, List, [], ◌∷◌, ◌++◌, length, take, drop}
use Rattle.std.proofs.Common.{arith, sym, ◌∙◌, length-drop}
use Rattle.std.proofs.Math.Path.{ap}
use Rattle.std.proofs.Math.Option.{Option, none, some}
use Rattle.spec_tests.specs.Rules.{◌<?◌, ◌≡?◌, ◌or◌, ◌and◌, outside, same_text, Refused}
use Rattle.spec_tests.specs.Laws.{or_left, or_right, or_skip, eq_no, lt_yes, lt_no}
use Rattle.spec_rules.specs.Step.{Setting}
use Rattle.spec_rules.specs.Listing.{text}
use Rattle.spec_trace.specs.Opened.{having}
use Rattle.spec_trace.specs.Trace.{setting_of, wrong_line, shown, Now, Before, At, reached, clash_at, After, Goes, Stops, settings_line}
use Rattle.spec_trace.specs.Named as Named
use Rattle.spec_trace.specs.Named.{Keep, Back, good_name, is_named, read_line, History, landed, joined, put, find, restored, any_line}
use Rattle.law_told.specs.Told.{pick_yes, pick_no}

-- ---- which line it is ----

module _ (ws : List ℕ) (k : ℕ) (h : History) (l : List ℕ) where
  pub keep_line : is_named (text "keep ") l ≡ true → any_line ws k h l ≡ Named.kept k (drop 5 l) h
  unfolding read_line Named.line_done
  keep_line e = ap (Named.line_done ws k h) (pick_yes (is_named (text "keep ") l) (Keep (drop 5 l)) _ e)

  module _ (no : is_named (text "keep ") l ≡ false) where
    pub back_line : is_named (text "back ") l ≡ true → any_line ws k h l ≡ restored k h (find (drop 5 l) h.held)
    unfolding read_line Named.line_done
    back_line e = ap (Named.line_done ws k h) (pick_no (is_named (text "keep ") l) (Keep (drop 5 l)) _ no ∙ pick_yes (is_named (text "back ") l) (Back (drop 5 l)) _ e)

    pub settings_line_law : is_named (text "back ") l ≡ false → any_line ws k h l ≡ joined h (setting_of ws l) (settings_line ws k (landed ws Before h.past) l)
    unfolding read_line Named.line_done
    settings_line_law e = ap (Named.line_done ws k h) (pick_no (is_named (text "keep ") l) (Keep (drop 5 l)) _ no ∙ pick_no (is_named (text "back ") l) (Back (drop 5 l)) _ e)

-- the longest line that has a name

pub named_short : (word l : List ℕ) → 13 < length l → is_named word l ≡ false
unfolding is_named good_name outside ◌and◌
named_short word l h = go (same_text (take 5 l) word)
  where
    long : 8 < length (drop 5 l)
    long = let d = length-drop 5 l in omega arith

    out : outside (length (drop 5 l)) 1 8 ≡ true
    out = or_right (length (drop 5 l) <? 1) (lt_yes 8 (length (drop 5 l)) long)

    go : (a : Bool) → (a and not (outside (length (drop 5 l)) 1 8 or having (λ b. outside b 97 122) (drop 5 l))) ≡ false
    go true = ap not (or_left (having (λ b. outside b 97 122) (drop 5 l)) out)
    go false = refl

-- ---- a keep and a back ----

abbrev pub kept_in : List ℕ → History → History
kept_in w h = record { past = h.past; held = put w h.past h.held }

abbrev pub back_to : List Setting → History → History
back_to past h = record { past = past; held = h.held }

pub kept_goes : (k : ℕ) (w : List ℕ) (h : History) → (length h.past ≡ 0 → ⊥) → length (put w h.past h.held) ≤ 4 → Named.kept k w h ≡ Goes [] (kept_in w h)
unfolding Named.kept
kept_goes k w h a b = pick_no _ _ _ (sym (or_skip (eq_no (length h.past) 0 a) (sym (lt_no 4 (length (put w h.past h.held)) b))))

pub kept_stops : (k : ℕ) (w : List ℕ) (h : History) → (length h.past ≡? 0 or 4 <? length (put w h.past h.held)) ≡ true → Named.kept k w h ≡ Stops (Refused 15 k 0)
unfolding Named.kept
kept_stops k w h e = pick_yes _ _ _ e

module _ (ws : List ℕ) (k : ℕ) (h : History) where
  pub settings_stops : (l : List ℕ) {a : After Now} {n x : ℕ} → a ≡ Stops (Refused n k x) → joined h (setting_of ws l) a ≡ Stops (Refused n k x)
  unfolding joined
  settings_stops l e = ap (joined h (setting_of ws l)) e

  pub settings_goes : (l : List ℕ) {a : After Now} {t : List ℕ} {now : Now} → a ≡ Goes t now → joined h (setting_of ws l) a ≡ Goes t (record { past = h.past ++ (setting_of ws l ∷ []); held = h.held })
  unfolding joined
  settings_goes l e = ap (joined h (setting_of ws l)) e

  pub back_goes : {o : Option (List Setting)} {past : List Setting} → o ≡ some past → restored k h o ≡ Goes [] (back_to past h)
  unfolding restored
  back_goes e = ap (restored k h) e

  pub back_stops : {o : Option (List Setting)} → o ≡ none → restored k h o ≡ Stops (Refused 15 k 0)
  unfolding restored
  back_stops e = ap (restored k h) e

-- ---- settings ----

-- the line's test and its step's clash
module _ (ws : List ℕ) (k : ℕ) (now : Now) (l : List ℕ) where
  pub line_wrong : wrong_line ws l ≡ true → settings_line ws k now l ≡ Stops (Refused 13 k 0)
  unfolding settings_line
  line_wrong e = pick_yes (wrong_line ws l) _ _ e

  pub line_clash : wrong_line ws l ≡ false → clash_at ws now (setting_of ws l) < 16 → settings_line ws k now l ≡ Stops (Refused 14 k (clash_at ws now (setting_of ws l)))
  unfolding settings_line
  line_clash e h = pick_no (wrong_line ws l) _ _ e ∙ pick_yes (clash_at ws now (setting_of ws l) <? 16) _ _ (lt_yes _ 16 h)

  pub line_goes : wrong_line ws l ≡ false → 16 ≤ clash_at ws now (setting_of ws l)
      → settings_line ws k now l ≡ Goes (shown ws (setting_of ws l) (reached ws now (setting_of ws l))) (At (setting_of ws l) (reached ws now (setting_of ws l)))
  unfolding settings_line
  line_goes e h = pick_no (wrong_line ws l) _ _ e ∙ pick_no (clash_at ws now (setting_of ws l) <? 16) _ _ (lt_no _ 16 h)

-- ---- the moments of a run ----

pub landed_more : (ws : List ℕ) (now : Now) (ts : List Setting) (t : Setting) → landed ws now (ts ++ (t ∷ [])) ≡ At t (reached ws (landed ws now ts) t)
unfolding landed
landed_more ws now [] t = refl
landed_more ws now (x ∷ ts) t = landed_more ws (At x (reached ws now x)) ts t
