-- What is proved of specs/Fits: The words of a sound netlist whose nodes and records are listed are accepted. Assumes nothing.
use Prim.Native.Nat.{ℕ, zero, suc, ◌≤◌, ◌<◌}
use Rattle.std.proofs.Common.{not-suc-le-zero, arith, sym, ◌∙◌, append_assoc}
use Rattle.std.specs.Prelude.{◌≡◌, refl, false, List, [], ◌∷◌, ◌++◌, length, get_or}
use Rattle.std.proofs.Math.ListN.{length-append, get_or-append}
use Rattle.spec_tests.specs.Rules.{◌≡?◌, Fine}
use Rattle.spec_tests.specs.Laws.{lt_no, eq_yes, eq_no}
use Rattle.spec_model.specs.Words.{Netlist, words, list_words}
use Rattle.net_view.specs.View.{Formed, AllFormed, Fit}
use Rattle.law_nets.specs.Sound.{Sound}
use Rattle.spec_netlist.specs.Accept.{wrong_node_word, wrong_word, alone, accepts}
use Rattle.spec_netlist.specs.Given.{Same}
use Rattle.law_told.specs.Told.{neither, pick_yes, pick_no, memory_length_law}
use Rattle.law_told.proofs.Told.{right_extent}
use Rattle.law_told.specs.If.{Rights}
use Rattle.law_written.specs.Written.{same, Fitting, fitting_accepted}
use Rattle.law_listed.specs.Listed.{Listed}
use Rattle.law_listed.specs.NodeWords.{node_right, owned_right}
use Rattle.law_listed.proofs.RecordWords.{port_right, register_right, arithmetic_right, comparison_right}
use Rattle.law_listed.proofs.MemoryWords.{memory_right}

module _ (ws : List ℕ) (l : Netlist) (s : Same ws l) (place : ℕ → ℕ → ℕ → ℕ) (q : Sound l) (g : Listed l place) where
  module _ (earlier : List (List ℕ)) (r : List ℕ) (rs : List (List ℕ)) (e : l.records ≡ earlier ++ (r ∷ rs)) (o : Formed r) where
    abbrev L : List ℕ
    L = r ++ list_words rs

    five : get_or r 0 0 < 5
    five = go r o
      where
        go : (r : List ℕ) → Formed r → get_or r 0 0 < 5
        go [] f = absurd (not-suc-le-zero f.some)
        go (x ∷ r) f = f.kind

    here : get_or L 0 0 ≡ get_or r 0 0
    here = get_or-append r (list_words rs) 0 0 o.some

    later : (i : ℕ) → 0 < i → i < length r → (t : ℕ) → get_or r 0 0 ≡ t → wrong_word ws earlier L i ≡ false
    unfolding wrong_word
    later i a h zero d =
        let z = here in
        pick_no (i ≡? 0) _ _ (eq_no i 0 (λ z. absurd (omega arith))) ∙ pick_yes (get_or L 0 0 ≡? 0) _ _ (eq_yes (get_or L 0 0) 0 (here ∙ d))
        ∙ port_right ws l s place q g earlier r rs e (list_words rs) d i a h
    later i a h (suc zero) d =
        let z = here in
        pick_no (i ≡? 0) _ _ (eq_no i 0 (λ z. absurd (omega arith))) ∙ pick_no (get_or L 0 0 ≡? 0) _ _ (eq_no (get_or L 0 0) 0 (λ y. absurd (omega arith)))
        ∙ pick_yes (get_or L 0 0 ≡? 1) _ _ (eq_yes (get_or L 0 0) 1 (here ∙ d)) ∙ register_right ws l s place q g earlier r rs e (list_words rs) d i a h
    later i a h (suc (suc zero)) d =
        let z = here in
        pick_no (i ≡? 0) _ _ (eq_no i 0 (λ z. absurd (omega arith))) ∙ pick_no (get_or L 0 0 ≡? 0) _ _ (eq_no (get_or L 0 0) 0 (λ y. absurd (omega arith)))
        ∙ pick_no (get_or L 0 0 ≡? 1) _ _ (eq_no (get_or L 0 0) 1 (λ y. absurd (omega arith))) ∙ pick_yes (get_or L 0 0 ≡? 2) _ _ (eq_yes (get_or L 0 0) 2 (here ∙ d))
        ∙ memory_right ws l s place q g earlier r rs e (list_words rs) d i a h
    later i a h (suc (suc (suc zero))) d =
        let z = here in
        pick_no (i ≡? 0) _ _ (eq_no i 0 (λ z. absurd (omega arith))) ∙ pick_no (get_or L 0 0 ≡? 0) _ _ (eq_no (get_or L 0 0) 0 (λ y. absurd (omega arith)))
        ∙ pick_no (get_or L 0 0 ≡? 1) _ _ (eq_no (get_or L 0 0) 1 (λ y. absurd (omega arith))) ∙ pick_no (get_or L 0 0 ≡? 2) _ _ (eq_no (get_or L 0 0) 2 (λ y. absurd (omega arith)))
        ∙ pick_yes (get_or L 0 0 ≡? 3) _ _ (eq_yes (get_or L 0 0) 3 (here ∙ d)) ∙ arithmetic_right ws l s place q g earlier r rs e (list_words rs) d i a h
    later i a h (suc (suc (suc (suc zero)))) d =
        let z = here in
        pick_no (i ≡? 0) _ _ (eq_no i 0 (λ z. absurd (omega arith))) ∙ pick_no (get_or L 0 0 ≡? 0) _ _ (eq_no (get_or L 0 0) 0 (λ y. absurd (omega arith)))
        ∙ pick_no (get_or L 0 0 ≡? 1) _ _ (eq_no (get_or L 0 0) 1 (λ y. absurd (omega arith))) ∙ pick_no (get_or L 0 0 ≡? 2) _ _ (eq_no (get_or L 0 0) 2 (λ y. absurd (omega arith)))
        ∙ pick_no (get_or L 0 0 ≡? 3) _ _ (eq_no (get_or L 0 0) 3 (λ y. absurd (omega arith))) ∙ comparison_right ws l s place q g earlier r rs e (list_words rs) d i a h
    later i a h (suc (suc (suc (suc (suc t))))) d = let z = five in absurd (omega arith)

    first : wrong_word ws earlier L 0 ≡ false
    unfolding wrong_word
    first =
        let a = here in
        let b = five in
        let c = o.long (list_words rs) in
        let d = length-append r (list_words rs) in
        let x = right_extent ws earlier L (λ y. later 5 (omega arith) (let m = memory_length_law L y in omega arith) 2 (sym here ∙ y)) in
        pick_yes (0 ≡? 0) _ _ (eq_yes 0 0 refl) ∙ neither _ _ (lt_no 4 (get_or L 0 0) (omega arith)) (lt_no (length L) _ (omega arith))

    word_right : (i : ℕ) → i < length r → wrong_word ws earlier L i ≡ false
    word_right zero h = first
    word_right (suc i) h = later (suc i) (omega arith) h (get_or r 0 0) refl

  rights : (earlier rs : List (List ℕ)) → l.records ≡ earlier ++ rs → AllFormed rs → Rights ws earlier rs
  rights earlier [] e o = tt
  rights earlier (r ∷ rs) e o =
      (o.0.some, o.0.long (list_words rs), word_right earlier r rs e o.0, rights (earlier ++ (r ∷ [])) rs (e ∙ sym (append_assoc earlier (r ∷ []) rs)) o.1)

  -- each node's words, each record's words, each node's record
  pub record Right : Type 0 where
    pub nodes : (k j : ℕ) → k < length l.nodes → j < 6 → wrong_node_word ws k j ≡ false
    pub rights : Rights ws [] l.records
    pub owned : (k : ℕ) → k < length l.nodes → alone ws k ≡ false

  pub right : Right
  right = record {
    nodes = λ k j h i. node_right ws l s place q g k h j i;
    rights = rights [] l.records refl q.formed;
    owned = λ k h. owned_right ws l s place q g k h;
  }

module _ (n p : ℕ) (l : Netlist) (f : Fit n p l) (place : ℕ → ℕ → ℕ → ℕ) (q : Sound l) (g : Listed l place) where
  pub fitting : (some : 0 < n) (few : n ≤ 65535) (short : p ≤ 65535) → Fitting n p l f some few short
  fitting some few short =
      let r = right (words n p l) l (same n p l f) place q g in
      record { nodes = r.nodes; rights = r.rights; owned = r.owned }

  pub listed_accepted : 0 < n → n ≤ 65535 → p ≤ 65535 → accepts (words n p l) ≡ Fine
  listed_accepted some few short = fitting_accepted n p l f some few short (fitting some few short)
