-- Settings lines one after the other: what they print depends on the moment that they follow alone, however the run came there, so after a
-- back they print what they would have printed had they followed the keep. Assumes nothing.
use Rattle.std.specs.Prelude.{ℕ, suc, ◌≡◌, Bool, true, false, length, drop}
use Rattle.std.proofs.Common.{arith, ◌∙◌}
use Rattle.std.proofs.Math.Path.{refl, sym, ap}
use mathlib.Core.List.{List, [], ◌∷◌, ◌++◌}
use Rattle.spec_tests.specs.Rules.{◌<?◌, ◌≢?◌, ◌or◌, ◌and◌, pick, only, same_text, Refused}
use Rattle.spec_tests.specs.Laws.{or_no, and_miss, eq_no, ne_yes, no_ne, no_lt}
use Rattle.spec_rules.specs.Step.{Setting}
use Rattle.spec_trace.specs.Opened.{having}
use Rattle.spec_trace.specs.Trace.{setting_of, wrong_line, shown, Now, Before, At, reached, clash_at, After, Goes, Stops, settings_line, said, continued, traced}
use Rattle.spec_trace.specs.Named.{good_name, is_named, History, landed, joined, any_line}
use Rattle.law_told.specs.Told.{and_second}
use Rattle.law_histories.specs.Lines.{settings_line_law, landed_more}

-- no line is "of another length or letter"
abbrev pub AllRight : List ℕ → List (List ℕ) → Type 0
AllRight ws [] = Unit {0}
AllRight ws (l ∷ ls) = (wrong_line ws l ≡ false) × AllRight ws ls

-- a byte that is neither "0" nor "1"
abbrev pub other : ℕ → Bool
other b = b ≢? 48 and b ≢? 49

pub having_no : (b : ℕ) (l : List ℕ) → having other (b ∷ l) ≡ false → (other b ≡ false) × (having other l ≡ false)
unfolding having only pick
having_no b l e = at (other b) refl e
  where
    at : (t : Bool) → other b ≡ t → (0 <? length (pick t (b ∷ only other l) (only other l))) ≡ false → (other b ≡ false) × ((0 <? length (only other l)) ≡ false)
    at true z h = let n = no_lt 0 (length (b ∷ only other l)) h in absurd (omega arith)
    at false z h = (z, h)

-- "0" and "1" are no other letter
pub not_letter : (b c : ℕ) → other b ≡ false → (c ≡ 48 → ⊥) → (c ≡ 49 → ⊥) → b ≡ c → ⊥
not_letter b c e x y z = y (sym z ∙ no_ne b 49 (and_second (b ≢? 48) (b ≢? 49) e (ne_yes b 48 (λ q. x (sym z ∙ q)))))

not_named : (c : ℕ) (word l : List ℕ) → (c ≡ 48 → ⊥) → (c ≡ 49 → ⊥) → having other l ≡ false → is_named (c ∷ word) l ≡ false
unfolding is_named same_text
not_named c word [] x y h = sym (and_miss (good_name (drop 5 [])) refl)
not_named c word (b ∷ l) x y h = sym (and_miss (good_name (drop 5 (b ∷ l))) (sym (and_miss _ (eq_no b c (not_letter b c (having_no b l h).0 x y)))))

pub traced_two : {S : Type 0} (f : ℕ → S → List ℕ → After S) (k : ℕ) (s : S) (l : List ℕ) (ls : List (List ℕ))
    → traced f k s (l ∷ (ls ++ ([] ∷ []))) ≡ pick (k <? 4294967295) (continued (λ s'. traced f (suc k) s' (ls ++ ([] ∷ []))) (f k s l)) (said (Refused 13 k 0))
unfolding traced
traced_two f k s l [] = refl
traced_two f k s l (x ∷ ls) = refl

module _ (ws : List ℕ) where
  -- a right line is one of settings
  pub right_line : (k : ℕ) (h : History) (l : List ℕ) → wrong_line ws l ≡ false → any_line ws k h l ≡ joined h (setting_of ws l) (settings_line ws k (landed ws Before h.past) l)
  unfolding wrong_line
  right_line k h l e =
      let o = (or_no e).1 in
      settings_line_law ws k h l (not_named 107 _ l (λ z. absurd (omega arith)) (λ z. absurd (omega arith)) o) (not_named 98 _ l (λ z. absurd (omega arith)) (λ z. absurd (omega arith)) o)

  -- a line joins its history: what follows it is that from the next moment on
  join_goes : (k : ℕ) (h : History) (l : List ℕ) (F : History → List ℕ) (G : Now → List ℕ) → ((g : History) → g.past ≡ h.past ++ (setting_of ws l ∷ []) → F g ≡ G (landed ws Before g.past))
      → continued F (joined h (setting_of ws l) (settings_line ws k (landed ws Before h.past) l)) ≡ continued G (settings_line ws k (landed ws Before h.past) l)
  unfolding continued joined settings_line pick
  join_goes k h l F G e = go (wrong_line ws l) (clash_at ws now t <? 16)
    where
      t : Setting
      t = setting_of ws l

      now : Now
      now = landed ws Before h.past

      next : History
      next = record { past = h.past ++ (t ∷ []); held = h.held }

      line : Bool → Bool → After Now
      line a b = pick a (Stops (Refused 13 k 0)) (pick b (Stops (Refused 14 k (clash_at ws now t))) (Goes (shown ws t (reached ws now t)) (At t (reached ws now t))))

      go : (a b : Bool) → continued F (joined h t (line a b)) ≡ continued G (line a b)
      go true b = refl
      go false true = refl
      go false false = ap (λ (x : List ℕ). shown ws t (reached ws now t) ++ x) (e next refl ∙ ap G (landed_more ws Before h.past t))

  -- settings lines print what they print from the moment on
  pub plain_text : (k : ℕ) (h : History) (ls : List (List ℕ)) → AllRight ws ls → traced (any_line ws) k h (ls ++ ([] ∷ [])) ≡ traced (settings_line ws) k (landed ws Before h.past) (ls ++ ([] ∷ []))
  unfolding traced
  plain_text k h [] r = refl
  plain_text k h (l ∷ ls) r =
      traced_two (any_line ws) k h l ls
      ∙ ap (λ (x : List ℕ). pick (k <? 4294967295) x (said (Refused 13 k 0)))
      (ap (continued (λ g. traced (any_line ws) (suc k) g (ls ++ ([] ∷ [])))) (right_line k h l r.0)
      ∙ join_goes k h l (λ g. traced (any_line ws) (suc k) g (ls ++ ([] ∷ []))) (λ n. traced (settings_line ws) (suc k) n (ls ++ ([] ∷ []))) (λ g q. plain_text (suc k) g ls r.1))
      ∙ sym (traced_two (settings_line ws) k (landed ws Before h.past) l ls)

  -- "After a back, the settings lines up to the next back print the output bits that they would have printed had they followed the keep."
  pub after_back : (k : ℕ) (at-keep back : History) → back.past ≡ at-keep.past → (ls : List (List ℕ)) → AllRight ws ls → traced (any_line ws) k back (ls ++ ([] ∷ [])) ≡ traced (any_line ws) k at-keep (ls ++ ([] ∷ []))
  after_back k a b e ls r =
      plain_text k b ls r ∙ ap (λ (p : List Setting). traced (settings_line ws) k (landed ws Before p) (ls ++ ([] ∷ []))) e ∙ sym (plain_text k a ls r)
