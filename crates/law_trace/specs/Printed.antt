-- The trace program prints what the netlist's run shows. Assumes nothing.
use Prim.Native.Nat.{ℕ, suc, ◌+◌, ◌≤◌, ◌<◌}
use native.Mathlib.Omega.{arith}
use Rattle.std.specs.Prelude.{◌≡◌, Bool, true, false, cond}
use Rattle.std.proofs.Math.Path.{refl, sym, ap}
use Rattle.std.proofs.Common.{◌∙◌}
use mathlib.Core.List.{List, [], ◌∷◌, ◌++◌, map, append_assoc}
use Rattle.std.proofs.Math.ListN.{length}
use Rattle.spec_tests.specs.Rules.{◌<?◌, ◌≡?◌, Fine, Refused}
use Rattle.spec_tests.specs.Laws.{lt_yes, lt_no, yes_lt, no_lt, eq_yes}
use Rattle.spec_rules.specs.NetlistImage.{netlist}
use Rattle.spec_rules.specs.Step.{Setting, Contents, Machine, Seen, act, clashing, no_end, seen, onward, of_netlist}
use Rattle.spec_rules.specs.Listing.{together}
use Rattle.spec_netlist.specs.Accept.{accepts}
use Rattle.spec_trace.specs.Trace.{zeroed, setting_of, wrong_line, shown, Now, Before, At, reached, clash_at, After, Goes, Stops, settings_line, said, continued, traced}
use Rattle.spec_trace.specs.Named.{begun, landed}
use Rattle.law_told.specs.Told.{pick_yes, pick_no}
use Rattle.law_histories.specs.Lines.{line_clash, line_goes}
use Rattle.law_histories.specs.Plain.{AllRight, traced_two, plain_text}
use Rattle.law_trace.specs.Runs.{seen_text, clashed_from, clashed, clash_text, run_text, PrintsRun}
use Rattle.law_trace.specs.Shown.{shown_seen}

traced_last : {S : Type 0} (f : ℕ → S → List ℕ → After S) (k : ℕ) (s : S) → traced f k s ([] ∷ []) ≡ []
unfolding traced
traced_last f k s = pick_yes (length {A = ℕ} [] ≡? 0) _ _ (eq_yes 0 0 refl)

traced_cons : {S : Type 0} (f : ℕ → S → List ℕ → After S) (k : ℕ) (s : S) (l : List ℕ) (ls : List (List ℕ)) → k < 4294967295
    → traced f k s (l ∷ (ls ++ ([] ∷ []))) ≡ continued (λ s'. traced f (suc k) s' (ls ++ ([] ∷ []))) (f k s l)
traced_cons f k s l ls h = traced_two f k s l ls ∙ pick_yes (k <? 4294967295) _ _ (lt_yes k 4294967295 h)

module _ (ws : List ℕ) (ok : accepts ws ≡ Fine) where
  abbrev m : Machine
  m = of_netlist (netlist ws)

  abbrev line : ℕ → Now → List ℕ → After Now
  line = settings_line ws

  -- a right line whose step has an end, and the lines after it
  onto : (k : ℕ) (now : Now) (l : List ℕ) (ls : List (List ℕ)) (c : Contents) → k < 4294967295 → wrong_line ws l ≡ false → (clash_at ws now (setting_of ws l) <? 16) ≡ false → reached ws now (setting_of ws l) ≡ c
      → traced line k now (l ∷ (ls ++ ([] ∷ []))) ≡ seen_text ws (seen m (setting_of ws l) c) ++ traced line (suc k) (At (setting_of ws l) c) (ls ++ ([] ∷ []))
  unfolding continued
  onto k now l ls c h e f q =
      traced_cons line k now l ls h ∙ ap (continued (λ s'. traced line (suc k) s' (ls ++ ([] ∷ [])))) (line_goes ws k now l e (no_lt _ 16 f) ∙ ap (λ (c : Contents). Goes (shown ws (setting_of ws l) c) (At (setting_of ws l) c)) q)
      ∙ ap (λ (x : List ℕ). x ++ traced line (suc k) (At (setting_of ws l) c) (ls ++ ([] ∷ []))) (shown_seen ws ok (setting_of ws l) c)

  -- one whose step has none
  stops_at : (k : ℕ) (now : Now) (l : List ℕ) (ls : List (List ℕ)) (x : ℕ) → k < 4294967295 → wrong_line ws l ≡ false → clash_at ws now (setting_of ws l) ≡ x → (x <? 16) ≡ true
      → traced line k now (l ∷ (ls ++ ([] ∷ []))) ≡ clash_text k x
  unfolding continued clash_text
  stops_at k now l ls x h e q f =
      traced_cons line k now l ls h
      ∙ ap (continued (λ s'. traced line (suc k) s' (ls ++ ([] ∷ [])))) (line_clash ws k now l e (yes_lt _ 16 (ap (λ (y : ℕ). y <? 16) q ∙ f)) ∙ ap (λ (y : ℕ). Stops (Refused 14 k y)) q)
      ∙ sym (pick_yes (x <? 16) (said (Refused 14 k x)) [] f)

  -- what the run shows after this moment
  rest : Setting → Contents → List Setting → List Seen
  rest s c [] = []
  rest s c (t ∷ ts) = cond (no_end (m.reads s c t)) [] (onward m t (act (m.reads s c t) c) ts)

  onward_is : (s : Setting) (c : Contents) (ts : List Setting) → onward m s c ts ≡ seen m s c ∷ rest s c ts
  unfolding rest
  onward_is s c [] = refl
  onward_is s c (t ∷ ts) = refl

  -- its text, from line k on
  abbrev after : ℕ → List Seen → ℕ → List ℕ
  after k xs x = together (map (seen_text ws) xs) ++ clash_text (k + length xs) x

  after_more : (k : ℕ) (x : Seen) (xs : List Seen) (y : ℕ) → seen_text ws x ++ after (suc k) xs y ≡ after k (x ∷ xs) y
  unfolding together
  after_more k x xs y =
      let e : suc k + length xs ≡ k + length (x ∷ xs) = omega arith in
      ap (λ (n : ℕ). seen_text ws x ++ (together (map (seen_text ws) xs) ++ clash_text n y)) e ∙ sym (append_assoc (seen_text ws x) (together (map (seen_text ws) xs)) (clash_text (k + length (x ∷ xs)) y))

  nothing : (k : ℕ) → [] ≡ clash_text k 16
  unfolding clash_text
  nothing k = sym (pick_no (16 <? 16) _ _ (lt_no 16 16 (omega arith)))

  later : (k : ℕ) (s : Setting) (c : Contents) (ls : List (List ℕ)) → AllRight ws ls → k + length ls ≤ 4294967295
      → traced line k (At s c) (ls ++ ([] ∷ [])) ≡ after k (rest s c (map (setting_of ws) ls)) (clashed_from m s c (map (setting_of ws) ls))
  unfolding rest clashed_from reached together no_end clash_at
  later k s c [] r h = traced_last line k (At s c) ∙ nothing (k + 0)
  later k s c (l ∷ ls) r h = go (no_end (m.reads s c t)) refl (later (suc k) t d ls r.1 (omega arith))
    where
      t : Setting
      t = setting_of ws l

      d : Contents
      d = act (m.reads s c t) c

      ts : List Setting
      ts = map (setting_of ws) ls

      go : (b : Bool) → no_end (m.reads s c t) ≡ b → traced line (suc k) (At t d) (ls ++ ([] ∷ [])) ≡ after (suc k) (rest t d ts) (clashed_from m t d ts)
          → traced line k (At s c) (l ∷ (ls ++ ([] ∷ []))) ≡ after k (cond b [] (onward m t d ts)) (cond b (clashing (m.reads s c t)) (clashed_from m t d ts))
      go true e ih = stops_at k (At s c) l ls (clashing (m.reads s c t)) (omega arith) r.0 refl e ∙ ap (λ (n : ℕ). clash_text n (clashing (m.reads s c t))) (let z : k ≡ k + 0 = omega arith in z)
      go false e ih =
          onto k (At s c) l ls d (omega arith) r.0 e refl
          ∙ ap (λ (x : List ℕ). seen_text ws (seen m t d) ++ x) ih
          ∙ after_more k (seen m t d) (rest t d ts) (clashed_from m t d ts)
          ∙ ap (λ (x : List Seen). after k x (clashed_from m t d ts)) (sym (onward_is t d ts))

  printed : (ls : List (List ℕ)) → AllRight ws ls → length ls ≤ 4294967295
      → traced line 0 Before (ls ++ ([] ∷ [])) ≡ run_text m (seen_text ws) (map (setting_of ws) ls)
  unfolding reached clash_at clashed run_text together
  printed [] r h = traced_last line 0 Before ∙ nothing 0
  printed (l ∷ ls) r h =
      let t = setting_of ws l in
      let ts = map (setting_of ws) ls in
      onto 0 Before l ls zeroed (omega arith) r.0 (lt_no 16 16 (omega arith)) refl
      ∙ ap (λ (x : List ℕ). seen_text ws (seen m t zeroed) ++ x) (later 1 t zeroed ls r.1 (omega arith))
      ∙ after_more 0 (seen m t zeroed) (rest t zeroed ts) (clashed_from m t zeroed ts)
      ∙ ap (λ (x : List Seen). after 0 x (clashed_from m t zeroed ts)) (sym (onward_is t zeroed ts))
      ∙ ap (λ (n : ℕ). together (map (seen_text ws) (onward m t zeroed ts)) ++ clash_text n (clashed_from m t zeroed ts)) (let z : 0 + length (onward m t zeroed ts) ≡ length (onward m t zeroed ts) = omega arith in z)

pub prints_run : PrintsRun
unfolding landed
prints_run ws ok ls r h = plain_text ws 0 begun ls r ∙ printed ws ok ls r h
