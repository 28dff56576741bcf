-- A name's place among those held: finding it, and putting a moment there. Assumes nothing.
use Rattle.std.specs.Prelude.{ℕ, suc, ◌+◌, ◌≤◌, ◌<◌, ◌≡◌, true, false, ◌⊎◌}
use native.Mathlib.Omega.{arith}
use Rattle.std.proofs.Math.Decide.{dec_lt}
use Rattle.std.proofs.Math.Path.{refl, ap}
use Rattle.std.proofs.Common.{sym, ◌∙◌}
use mathlib.Core.List.{List, [], ◌∷◌}
use Rattle.std.proofs.Math.Logic.{⊎_elim}
use Rattle.std.proofs.Math.Option.{Option, none, some}
use Rattle.std.proofs.Math.ListN.{length, get_or}
use Rattle.spec_tests.specs.Rules.{same_text, Fine}
use Rattle.spec_rules.specs.Step.{Setting}
use Rattle.spec_netlist.specs.Accept.{accepts}
use Rattle.spec_trace.specs.Named.{Named, put, find}
use Rattle.law_told.specs.Told.{pick_yes, pick_no}
use Rattle.trace_names.specs.Searched.{Others}
use Rattle.trace_names.specs.Numbers.{number, Name, name_some, name_alike, same_yes, same_no}
use Rattle.trace_keep.specs.Slots.{Slot, Slots}

module _ (ws : List ℕ) (ok : accepts ws ≡ Fine) (memories names kept w : List ℕ) (good : Name w) where
  abbrev S : ℕ → List (Named (List Setting)) → Type 0
  S = Slots ws ok memories names kept

  pub record Found (r : ℕ) (o : Option (List Setting)) : Type 0 where
    pub past : List Setting
    pub is : o ≡ some past
    pub slot : Slot ws ok memories kept r past

  -- the name in slot i is another
  other : (i : ℕ) (x : Named (List Setting)) → get_or names i 0 ≡ number x.name → (get_or names i 0 ≡ number w → ⊥) → same_text x.name w ≡ false
  other i x e n = same_no x.name w (λ q. n (e ∙ q))

  -- it is the one looked for
  one : (i : ℕ) (x : Named (List Setting)) → get_or names i 0 ≡ number x.name → Name x.name → get_or names i 0 ≡ number w → same_text x.name w ≡ true
  one i x e n q = ap (λ (v : List ℕ). same_text v w) (name_alike n good (sym e ∙ q)) ∙ same_yes w

  pub name_found : (i : ℕ) (held : List (Named (List Setting))) → S i held → (r : ℕ) → i ≤ r → Others names (number w) r → get_or names r 0 ≡ number w → Found r (find w held)
  unfolding find Slots
  name_found i [] s r h o e = absurd (name_some w good (sym e ∙ s r h))
  name_found i (x ∷ xs) s r h o e = elim (dec_lt i r) [
    | yes l ↦ (
        let f = name_found (suc i) xs s.1.1 r l o e in
        record { past = f.past; is = pick_no (same_text x.name w) _ _ (other i x s.0.0 (o i l).0) ∙ f.is; slot = f.slot })
    | no l ↦ (
        let z : r ≡ i = omega arith in
        record {
          past = x.what;
          is = pick_yes (same_text x.name w) _ _ (one i x s.0.0 s.0.1 (ap (λ (k : ℕ). get_or names k 0) (sym z) ∙ e));
          slot = rw z s.1.0;
        })
  ]

  pub name_none : (i : ℕ) (held : List (Named (List Setting))) → S i held → (r : ℕ) → i ≤ r → Others names (number w) r → i + length held ≤ 4 → (r < 4 → get_or names r 0 ≡ 0) → r ≤ 4 → find w held ≡ none
  unfolding find Slots
  name_none i [] s r h o f e m = refl
  name_none i (x ∷ xs) s r h o f e m = elim (dec_lt i r) [
    | yes l ↦ pick_no (same_text x.name w) _ _ (other i x s.0.0 (o i l).0) ∙ name_none (suc i) xs s.1.1 r l o (omega arith) e m
    | no l ↦ (
        let z : r ≡ i = omega arith in
        absurd (name_some x.name s.0.1 (sym s.0.0 ∙ ap (λ (k : ℕ). get_or names k 0) (sym z) ∙ e (omega arith))))
  ]

  -- ---- a moment put in its place ----

  module _ (past : List Setting) where
    -- every place has another name
    pub put_full : (i : ℕ) (held : List (Named (List Setting))) → S i held → i + length held ≤ 4 → Others names (number w) 4 → 4 < i + length (put w past held)
    unfolding put Slots
    put_full i [] s f o = elim (dec_lt i 4) [
      | yes l ↦ absurd ((o i l).1 (s i (omega arith)))
      | no l ↦ omega arith
    ]
    put_full i (x ∷ xs) s f o =
        let e = ap length (pick_no (same_text x.name w) (record { name = w; what = past } ∷ xs) (x ∷ put w past xs) (other i x s.0.0 (o i (omega arith)).0)) in
        let g = put_full (suc i) xs s.1.1 (omega arith) o in
        omega arith

    -- place r has this name or is free, and the tables have it and its moment now
    module _ (r : ℕ) (names' kept' : List ℕ) (here : get_or names' r 0 ≡ number w) (there : (j : ℕ) → (j ≡ r → ⊥) → get_or names' j 0 ≡ get_or names j 0)
        (moment : Slot ws ok memories kept' r past) (apart : (j : ℕ) (q : List Setting) → j < 4 → (j ≡ r → ⊥) → Slot ws ok memories kept j q → Slot ws ok memories kept' j q) (room : r < 4) where
      abbrev T : ℕ → List (Named (List Setting)) → Type 0
      T = Slots ws ok memories names' kept'

      later : (i : ℕ) (held : List (Named (List Setting))) → r < i → i + length held ≤ 4 → S i held → T i held
      unfolding Slots
      later i [] h f s = λ j l. there j (λ e. absurd (omega arith)) ∙ s j l
      later i (x ∷ xs) h f s = ((there i (λ e. absurd (omega arith)) ∙ s.0.0, s.0.1), (apart i x.what (omega arith) (λ e. absurd (omega arith)) s.1.0, later (suc i) xs (omega arith) (omega arith) s.1.1))

      pub record Put (i : ℕ) (held : List (Named (List Setting))) : Type 0 where
        pub slots : T i (put w past held)
        pub few : i + length (put w past held) ≤ 4

      pub put_there : (i : ℕ) (held : List (Named (List Setting))) → S i held → i ≤ r → i + length held ≤ 4 → Others names (number w) r → (get_or names r 0 ≡ number w) ⊎ (get_or names r 0 ≡ 0) → Put i held
      unfolding put Slots
      put_there i [] s h f o y =
          let z : i ≡ r = elim (dec_lt i r) [
            | yes l ↦ absurd ((o i l).1 (s i (omega arith)))
            | no l ↦ omega arith
          ] in
          record {
            slots = ((ap (λ (k : ℕ). get_or names' k 0) z ∙ here, good), (rw z moment, λ j l. there j (λ e. absurd (omega arith)) ∙ s j (omega arith)));
            few = omega arith;
          }
      put_there i (x ∷ xs) s h f o y = elim (dec_lt i r) [
        | yes l ↦ (
            let e = pick_no (same_text x.name w) (record { name = w; what = past } ∷ xs) (x ∷ put w past xs) (other i x s.0.0 (o i l).0) in
            let g = put_there (suc i) xs s.1.1 l (omega arith) o y in
            let few = g.few in
            let n = ap length e in
            record {
              slots = rw e ((there i (λ q. absurd (omega arith)) ∙ s.0.0, s.0.1), (apart i x.what (omega arith) (λ q. absurd (omega arith)) s.1.0, g.slots));
              few = omega arith;
            })
        | no l ↦ (
            let z : i ≡ r = omega arith in
            let same : get_or names i 0 ≡ number w = ⊎_elim (λ (q : get_or names r 0 ≡ number w). ap (λ (k : ℕ). get_or names k 0) z ∙ q)
            (λ (q : get_or names r 0 ≡ 0). absurd (name_some x.name s.0.1 (sym s.0.0 ∙ ap (λ (k : ℕ). get_or names k 0) z ∙ q))) y in
            let e = pick_yes (same_text x.name w) (record { name = w; what = past } ∷ xs) (x ∷ put w past xs) (one i x s.0.0 s.0.1 same) in
            let n = ap length e in
            record {
              slots = rw e ((ap (λ (k : ℕ). get_or names' k 0) z ∙ here, good), (rw z moment, later (suc i) xs (omega arith) (omega arith) s.1.1));
              few = omega arith;
            })
      ]
