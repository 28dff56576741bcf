-- What is proved of specs/States: Q-8 by states: "Keep stores all register bits, read data, memory words and input settings", "Back restores them and makes no step". A run
-- that stores and restores them writes the text by histories. Assumes nothing.
use Rattle.std.specs.Prelude.{ℕ, suc, ◌≡◌, Bool}
use Rattle.std.proofs.Common.{arith, ◌∙◌}
use Rattle.std.proofs.Math.Path.{refl, sym, ap}
use Rattle.std.proofs.Math.Bool.{true, false}
use mathlib.Core.List.{List, [], ◌∷◌, ◌++◌, map}
use Rattle.std.proofs.Math.Option
use Rattle.std.proofs.Math.Option.{Option, none, some}
use Rattle.std.proofs.Math.ListN.{length, length-map}
use Rattle.spec_tests.specs.Rules.{◌<?◌, ◌≡?◌, ◌or◌, pick, same_text, Refused}
use Rattle.spec_tests.specs.Laws.{eq_yes, eq_no}
use Rattle.spec_rules.specs.Step.{Setting}
use Rattle.spec_trace.specs.Trace.{setting_of, wrong_line, shown, Now, Before, At, reached, clash_at, After, Goes, Stops, settings_line, pieces, said, continued, traced}
use Rattle.spec_trace.specs.Named as Named
use Rattle.spec_trace.specs.Named.{Line, Keep, Back, Settings, read_line, Named, put, find, History, landed, joined, kept, restored, any_line, text_from}
use Rattle.law_histories.specs.Lines.{landed_more}
use Rattle.law_histories.specs.States.{State, backed, is_before, line_of, state_text, stepped, stored}

-- ---- a history's state ----

module _ (ws : List ℕ) where
  abbrev moment : List Setting → Now
  moment past = landed ws Before past

  moment_of : Named (List Setting) → Named Now
  moment_of x = record { name = x.name; what = moment x.what }

  pub state_of : History → State
  state_of h = record { stands = moment h.past; held = map moment_of h.held }

  unfoldable pub after : After History → After State
  after (Goes printed h) = Goes printed (state_of h)
  after (Stops a) = Stops a

  put_moment : (w : List ℕ) (past : List Setting) (held : List (Named (List Setting))) → map moment_of (put w past held) ≡ put w (moment past) (map moment_of held)
  unfolding put moment_of pick
  put_moment w past [] = refl
  put_moment w past (x ∷ xs) = go (same_text x.name w) (put_moment w past xs)
    where
      go : (b : Bool) → map moment_of (put w past xs) ≡ put w (moment past) (map moment_of xs)
          → map moment_of (pick b (record { name = w; what = past } ∷ xs) (x ∷ put w past xs)) ≡ pick b (record { name = w; what = moment past } ∷ map moment_of xs) (moment_of x ∷ put w (moment past) (map moment_of xs))
      go true ih = refl
      go false ih = ap (λ (l : List (Named Now)). moment_of x ∷ l) ih

  find_moment : (w : List ℕ) (held : List (Named (List Setting))) → find w (map moment_of held) ≡ Option.map moment (find w held)
  unfolding find moment_of pick
  find_moment w [] = refl
  find_moment w (x ∷ xs) = go (same_text x.name w) (find_moment w xs)
    where
      go : (b : Bool) → find w (map moment_of xs) ≡ Option.map moment (find w xs) → pick b (some (moment x.what)) (find w (map moment_of xs)) ≡ Option.map moment (pick b (some x.what) (find w xs))
      go true ih = refl
      go false ih = ih

  -- a history is empty exactly before the first settings line
  after_some : (past : List Setting) (s : Setting) (now : Now) → is_before (landed ws (At s (reached ws now s)) past) ≡ false
  unfolding landed is_before
  after_some [] s now = refl
  after_some (t ∷ past) s now = after_some past t (At s (reached ws now s))

  before_none : (past : List Setting) → is_before (moment past) ≡ (length past ≡? 0)
  unfolding landed is_before
  before_none [] = sym (eq_yes 0 0 refl)
  before_none (t ∷ past) = after_some past t Before ∙ sym (eq_no (length (t ∷ past)) 0 (λ e. absurd (omega arith)))

  -- ---- one line ----

  stored_is : (k : ℕ) (w : List ℕ) (h : History) → stored k w (state_of h) ≡ after (kept k w h)
  unfolding stored kept state_of after pick
  stored_is k w h = rw (before_none h.past, sym (put_moment w h.past h.held), length-map (put w h.past h.held) moment_of) (go (length h.past ≡? 0 or 4 <? length (put w h.past h.held)))
    where
      go : (b : Bool) → pick b (Stops (Refused 15 k 0)) (Goes [] (record { stands = moment h.past; held = map moment_of (put w h.past h.held) }))
          ≡ after (pick b (Stops (Refused 15 k 0)) (Goes [] (record { past = h.past; held = put w h.past h.held })))
      go true = refl
      go false = refl

  backed_is : (k : ℕ) (h : History) (o : Option (List Setting)) → backed k (state_of h) (Option.map moment o) ≡ after (restored k h o)
  unfolding backed restored state_of after
  backed_is k h none = refl
  backed_is k h (some past) = refl

  stepped_is : (k : ℕ) (h : History) (l : List ℕ) → stepped (map moment_of h.held) (settings_line ws k (moment h.past) l) ≡ after (joined h (setting_of ws l) (settings_line ws k (moment h.past) l))
  unfolding settings_line stepped joined state_of after pick
  stepped_is k h l = go (wrong_line ws l) (clash_at ws (moment h.past) (setting_of ws l) <? 16)
    where
      t : Setting
      t = setting_of ws l

      go : (a b : Bool) → stepped (map moment_of h.held) (pick a (Stops (Refused 13 k 0)) (pick b (Stops (Refused 14 k (clash_at ws (moment h.past) t))) (Goes (shown ws t (reached ws (moment h.past) t)) (At t (reached ws (moment h.past) t)))))
          ≡ after (joined h t (pick a (Stops (Refused 13 k 0)) (pick b (Stops (Refused 14 k (clash_at ws (moment h.past) t))) (Goes (shown ws t (reached ws (moment h.past) t)) (At t (reached ws (moment h.past) t))))))
      go true b = refl
      go false true = refl
      go false false = ap (λ (n : Now). Goes (shown ws t (reached ws (moment h.past) t)) (record { stands = n; held = map moment_of h.held })) (sym (landed_more ws Before h.past t))

  line_is : (k : ℕ) (h : History) (l : Line) → line_of ws k (state_of h) l ≡ after (Named.line_done ws k h l)
  unfolding line_of Named.line_done state_of
  line_is k h (Keep w) = stored_is k w h
  line_is k h (Back w) = ap (backed k (state_of h)) (find_moment w h.held) ∙ backed_is k h (find w h.held)
  line_is k h (Settings l) = stepped_is k h l

  -- ---- all lines ----

  lines_are : (k : ℕ) (h : History) (ls : List (List ℕ)) → traced (λ k s l. line_of ws k s (read_line l)) k (state_of h) ls ≡ traced (any_line ws) k h ls
  unfolding traced continued after
  lines_are k h [] = refl
  lines_are k h (l ∷ []) = refl
  lines_are k h (l ∷ m ∷ ls) =
      ap (λ (t : List ℕ). pick (k <? 4294967295) t (said (Refused 13 k 0))) (ap (continued (λ s. traced (λ k s l. line_of ws k s (read_line l)) (suc k) s (m ∷ ls))) (line_is k h (read_line l))
      ∙ on (any_line ws k h l) (λ g. lines_are (suc k) g (m ∷ ls)))
    where
      on : (a : After History) → ((g : History) → traced (λ k s l. line_of ws k s (read_line l)) (suc k) (state_of g) (m ∷ ls) ≡ traced (any_line ws) (suc k) g (m ∷ ls))
          → continued (λ s. traced (λ k s l. line_of ws k s (read_line l)) (suc k) s (m ∷ ls)) (after a) ≡ continued (λ g. traced (any_line ws) (suc k) g (m ∷ ls)) a
      on (Goes printed g) ih = ap (λ (t : List ℕ). printed ++ t) (ih g)
      on (Stops a) ih = refl

  -- the text by histories is that of a run that stores and restores its states
  pub by_states : (k : ℕ) (h : History) (bytes : List ℕ) → text_from ws k h bytes ≡ state_text ws k (state_of h) bytes
  by_states k h bytes = sym (lines_are k h (pieces bytes))
