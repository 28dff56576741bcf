-- What is proved of specs/Given: The list of an accepted image is its records one after the other, and what is given of nodes and records one by one is them. Assumes
-- nothing.
use Rattle.std.specs.Prelude.{ℕ, zero, suc, ◌+◌, ◌-◌, ◌≤◌, ◌<◌, ◌≡◌, refl, true, false, List, [], ◌∷◌, ◌++◌, take, drop}
use native.Mathlib.Omega.{arith}
use Rattle.std.proofs.Math.Path.{sym}
use Rattle.std.proofs.Common.{ap, subst, ◌∙◌, take-append-drop, length-take, length-drop, length-append}
use Rattle.std.proofs.Math.ListN.{length}
use Rattle.std.proofs.Math.Seq.{drop-append_seam}
use Rattle.spec_tests.specs.Rules.{◌<?◌, ◌or◌, ◌and◌, first, Fine}
use Rattle.spec_tests.specs.Laws.{and_miss, lt_no}
use Rattle.spec_rules.specs.NetlistImage.{record_length, split, records_of}
use Rattle.spec_model.specs.Words.{Netlist, list_words}
use Rattle.spec_model.specs.Builder.{node_for_net}
use Rattle.spec_netlist.specs.Accept.{nets, used, list_at_of, wrong_word, judged, list_answer, accepts}
use Rattle.spec_netlist.specs.Given.{list_from, is_node, node_given, is_record, Same}
use Rattle.law_told.specs.Told.{pick_fine, none_of, Told, told, whole, length_some}
use Rattle.law_told.proofs.Told.{fits}
use Rattle.law_told.specs.If.{Rights}
use Rattle.law_told.specs.Walked.{list_whole}
use Rattle.law_told.proofs.Walked.{list_length, list_drop}
use Rattle.law_told.specs.Given.{Gives, fit_at, given_node, gives, list_append, six_of}

-- ---- the list ----

list_rights : (ws : List ℕ) (n : ℕ) (earlier : List (List ℕ)) (place : ℕ) (l : List ℕ) → judged ws n earlier place l ≡ Fine → length l ≤ n
    → Rights ws earlier (split n l) × (list_words (split n l) ≡ l)
unfolding judged split
list_rights ws zero earlier place [] e h = (tt, refl)
list_rights ws zero earlier place (x ∷ l) e h = absurd (omega arith)
list_rights ws (suc n) earlier place [] e h = (tt, refl)
list_rights ws (suc n) earlier place (x ∷ l) e h =
    let k = record_length (x ∷ l) in
    let p = pick_fine (first (wrong_word ws earlier (x ∷ l)) k <? k) (place + first (wrong_word ws earlier (x ∷ l)) k)
    (judged ws n (earlier ++ (take k (x ∷ l) ∷ [])) (place + k) (drop k (x ∷ l))) e in
    let clean = none_of (wrong_word ws earlier (x ∷ l)) k p.0 in
    let f = fits ws earlier (x ∷ l) clean in
    let s = length_some (x ∷ l) in
    let m = length-take k (x ∷ l) in
    let d = length-drop k (x ∷ l) in
    let r = list_rights ws n (earlier ++ (take k (x ∷ l) ∷ [])) (place + k) (drop k (x ∷ l)) p.1 (omega arith) in
    let w : take k (x ∷ l) ++ list_words (split n (drop k (x ∷ l))) ≡ x ∷ l = ap (λ (z : List ℕ). take k (x ∷ l) ++ z) r.1 ∙ take-append-drop k (x ∷ l) in
    let g : k ≡ length (take k (x ∷ l)) = omega arith in
    ((omega arith, ap record_length w ∙ g, (λ i b. ap (λ (z : List ℕ). wrong_word ws earlier z i) w ∙ clean i (omega arith)), r.0), w)

both_told : (ws : List ℕ) → Told ws → Rights ws [] (records_of ws) × (list_words (records_of ws) ≡ take (used ws) (drop (list_at_of ws) ws))
unfolding list_answer records_of
both_told ws t =
    list_rights ws (used ws) [] (list_at_of ws) (take (used ws) (drop (list_at_of ws) ws)) t.list (let m = length-take (used ws) (drop (list_at_of ws) ws) in omega arith)

-- the records, each with the words behind it and the records before it
pub told_rights : (ws : List ℕ) → Told ws → Rights ws [] (records_of ws)
told_rights ws t = (both_told ws t).0

pub told_list : (ws : List ℕ) → Told ws → list_words (records_of ws) ≡ list_from ws 0
told_list ws t = (both_told ws t).1 ∙ list_whole ws

module _ (ws : List ℕ) (ok : accepts ws ≡ Fine) where
  t : Told ws
  t = told ws ok

  -- each record, given at the list word where those before it end
  pub given_records : (a : List (List ℕ)) (r : List ℕ) (b : List (List ℕ)) → records_of ws ≡ a ++ (r ∷ b) → Gives ws (length (list_words a)) r
  given_records a r b e =
      let p = length (list_words a) in
      let f = fit_at ws [] a r b (subst (Rights ws []) e (told_rights ws t)) in
      let s = f.some in
      let w : list_from ws 0 ≡ list_words a ++ (r ++ list_words b) = sym (told_list ws t) ∙ ap list_words e ∙ list_append a (r ∷ b) in
      let n : length (list_from ws 0) ≡ used ws - 0 = list_length ws (whole ws t) 0 (omega arith) in
      let m : length (list_from ws 0) ≡ p + (length r + length (list_words b)) =
      ap length w ∙ length-append (list_words a) (r ++ list_words b) ∙ ap (λ (z : ℕ). p + z) (length-append r (list_words b)) in
      let z : p ≡ 0 + p = omega arith in
      gives ws p r (list_words b) f (omega arith) (ap (list_from ws) z ∙ sym (list_drop ws (whole ws t) 0 p) ∙ ap (drop p) w ∙ drop-append_seam (list_words a) (r ++ list_words b))

  -- behind the last there is none
  pub given_end : (length (list_words (records_of ws)) ≡ used ws) × (is_record ws (used ws) ≡ false)
  unfolding is_record
  given_end =
      let n : length (list_from ws 0) ≡ used ws - 0 = list_length ws (whole ws t) 0 (omega arith) in
      let z : used ws - 0 ≡ used ws = omega arith in
      (ap length (told_list ws t) ∙ n ∙ z, sym (and_miss _ (lt_no (used ws) (used ws) (omega arith))))

module _ (ws : List ℕ) (l : Netlist) (s : Same ws l) where
  pub same_nodes : (k : ℕ) → k < length l.nodes → (is_node ws k ≡ true) × (node_given ws k ≡ six_of (node_for_net l k))
  same_nodes k h =
      let e = s.count in
      let b : k < nets ws = omega arith in
      let g = given_node ws k b in
      (g.0, g.1 ∙ rw (s.kind k b, s.owner k b, s.bit k b, s.in0 k b, s.in1 k b, s.in2 k b))

  pub same_records : accepts ws ≡ Fine → (a : List (List ℕ)) (r : List ℕ) (b : List (List ℕ)) → l.records ≡ a ++ (r ∷ b) → Gives ws (length (list_words a)) r
  same_records ok a r b e = given_records ws ok a r b (s.records ∙ e)
