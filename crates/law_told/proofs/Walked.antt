-- What is proved of specs/Walked: The records of an accepted image, given one by one, are those that `netlist` reads. Assumes nothing.
use Prim.Native.Nat.{ℕ, zero, suc, ◌+◌, ◌-◌, ◌≤◌, ◌<◌}
use native.Mathlib.Omega.{arith}
use Rattle.std.specs.Prelude.{◌≡◌}
use Rattle.std.proofs.Math.Path.{refl, ap}
use Rattle.std.proofs.Common.{sym, ◌∙◌, length-drop, drop-drop}
use mathlib.Core.List.{List, [], ◌∷◌, ◌++◌}
use Rattle.std.proofs.Math.ListN.{length, take, drop, length-take}
use Rattle.spec_tests.specs.Rules.{◌<?◌, ◌or◌, pick, first, Fine}
use Rattle.spec_tests.specs.Laws.{lt_yes, lt_no}
use Rattle.spec_rules.specs.NetlistImage.{record_length, split, records_of}
use Rattle.spec_netlist.specs.Accept.{used, list_at_of, wrong_word, judged, list_answer}
use Rattle.spec_netlist.specs.Given.{list_from, record_from, walked, WalkedAll}
use Rattle.law_told.specs.Told.{pick_fine, none_of, pick_yes, pick_no, told, whole}
use Rattle.law_told.proofs.Told.{fits}
use Rattle.law_told.specs.Walked.{drop_take, list_whole}

module _ (ws : List ℕ) (long : list_at_of ws + used ws ≤ length ws) where
  pub list_length : (p : ℕ) → p ≤ used ws → length (list_from ws p) ≡ used ws - p
  list_length p h = let a = length-take (used ws - p) (drop (list_at_of ws + p) ws) in let b = length-drop (list_at_of ws + p) ws in omega arith

  pub list_drop : (p k : ℕ) → drop k (list_from ws p) ≡ list_from ws (p + k)
  list_drop p k =
      let e : used ws - p - k ≡ used ws - (p + k) = omega arith in
      let f : list_at_of ws + p + k ≡ list_at_of ws + (p + k) = omega arith in
      drop_take k (used ws - p) (drop (list_at_of ws + p) ws) ∙ ap (take (used ws - p - k)) (drop-drop k (list_at_of ws + p) ws)
      ∙ ap (λ (z : ℕ). take z (drop (list_at_of ws + p + k) ws)) e ∙ ap (λ (z : ℕ). take (used ws - (p + k)) (drop z ws)) f

  walk : (n : ℕ) (earlier : List (List ℕ)) (place p : ℕ) → p ≤ used ws → judged ws n earlier place (list_from ws p) ≡ Fine → walked ws n p ≡ split n (list_from ws p)
  unfolding walked split judged record_from
  walk zero earlier place p h e = refl
  walk (suc n) earlier place p h e = go (list_from ws p) refl e (λ e' q z. walk n e' q z)
    where
      go : (l : List ℕ) → list_from ws p ≡ l → judged ws (suc n) earlier place l ≡ Fine
          → ((e' : List (List ℕ)) (q z : ℕ) → z ≤ used ws → judged ws n e' q (list_from ws z) ≡ Fine → walked ws n z ≡ split n (list_from ws z))
          → pick (p <? used ws) (take (record_length (list_from ws p)) (list_from ws p) ∷ walked ws n (p + length (take (record_length (list_from ws p)) (list_from ws p)))) [] ≡ split (suc n) l
      go [] f g ih = let a = list_length p h in let b : length {A = ℕ} [] ≡ used ws - p = ap length (sym f) ∙ a in pick_no (p <? used ws) _ _ (lt_no p (used ws) (omega arith))
      go (x ∷ l) f g ih =
          let k = record_length (x ∷ l) in
          let q = pick_fine (first (wrong_word ws earlier (x ∷ l)) k <? k) (place + first (wrong_word ws earlier (x ∷ l)) k)
          (judged ws n (earlier ++ (take k (x ∷ l) ∷ [])) (place + k) (drop k (x ∷ l))) g in
          let fit = fits ws earlier (x ∷ l) (none_of (wrong_word ws earlier (x ∷ l)) k q.0) in
          let a = list_length p h in
          let b : length (x ∷ l) ≡ used ws - p = ap length (sym f) ∙ a in
          let t = length-take k (x ∷ l) in
          let w : length (take k (x ∷ l)) ≡ k = omega arith in
          let d : drop k (x ∷ l) ≡ list_from ws (p + k) = ap (drop k) (sym f) ∙ list_drop p k in
          let r = ih (earlier ++ (take k (x ∷ l) ∷ [])) (place + k) (p + k) (omega arith) (ap (judged ws n (earlier ++ (take k (x ∷ l) ∷ [])) (place + k)) (sym d) ∙ q.1) in
          pick_yes (p <? used ws) _ _ (lt_yes p (used ws) (omega arith))
          ∙ ap (λ (z : List ℕ). take (record_length z) z ∷ walked ws n (p + length (take (record_length z) z))) f
          ∙ ap (λ (z : ℕ). take k (x ∷ l) ∷ walked ws n (p + z)) w
          ∙ ap (λ (z : List (List ℕ)). take k (x ∷ l) ∷ z) (r ∙ ap (split n) (sym d))

pub walked_all : WalkedAll
unfolding list_answer records_of
walked_all ws ok =
    let t = told ws ok in
    let s = list_whole ws in
    walk ws (whole ws t) (used ws) [] (list_at_of ws) 0 (omega arith) (ap (judged ws (used ws) [] (list_at_of ws)) (sym s) ∙ t.list) ∙ ap (split (used ws)) (sym s)
