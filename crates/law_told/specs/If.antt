-- When an image is accepted, word by word: what is to be shown of the images that the lowering writes. Assumes nothing.
use Rattle.std.specs.Prelude.{ℕ, zero, suc, ◌+◌, ◌*◌, ◌-◌, ◌/◌, ◌%◌, ◌≤◌, ◌<◌, min, ◌≡◌, refl, Bool, false, List, [], ◌∷◌, ◌++◌, length, take, drop}
use Rattle.std.proofs.Common.{not-suc-le-zero, arith, ap, ◌∙◌}
use Rattle.std.proofs.Math.Seq.{take-append_seam, drop-append_seam}
use Rattle.spec_tests.specs.Rules.{◌<?◌, ◌or◌, ◌and◌, first, Answer, Fine, Refused, and_then}
use Rattle.spec_tests.specs.Laws.{lt_no, begins, passed, past}
use Rattle.spec_tests.specs.Laws as Laws
use Rattle.spec_rules.specs.NetlistImage.{record_length}
use Rattle.spec_model.specs.Words.{list_words}
use Rattle.spec_netlist.specs.Accept.{nets, used, list_at_of, limit, wrong_header, wrong_node_word, wrong_word, judged, first_wrong, header_answer, length_answer, nodes_answer, list_answer, alone, alone_answer, wrong_count, counts_answer, body_answer, accepts}
use Rattle.law_told.specs.Told.{neither, pick_no}

-- ---- "the first" of no test ----

from_none : (p : ℕ → Bool) (n k i : ℕ) → i + k ≡ n → ((j : ℕ) → j < n → p j ≡ false) → Laws.from p n i ≡ n
from_none p n zero i e h = let z : i ≡ n = omega arith in rw z (past p n)
from_none p n (suc k) i e h = passed p n i (omega arith) (h i (omega arith)) ∙ from_none p n k (i + 1) (omega arith) h

first_none : (p : ℕ → Bool) (n : ℕ) → ((j : ℕ) → j < n → p j ≡ false) → first p n ≡ n
first_none p n h = begins p n ∙ from_none p n n 0 (omega arith) h

pub none_found : (p : ℕ → Bool) (n : ℕ) → ((j : ℕ) → j < n → p j ≡ false) → (first p n <? n) ≡ false
none_found p n h = lt_no (first p n) n (let e = first_none p n h in omega arith)

right_all : (p : ℕ → Bool) (place n : ℕ) → ((j : ℕ) → j < n → p j ≡ false) → first_wrong p place n ≡ Fine
unfolding first_wrong
right_all p place n h = pick_no (first p n <? n) _ _ (none_found p n h)

-- ---- the list ----

-- records that make up the list, each with those before it
abbrev pub Rights : List ℕ → List (List ℕ) → List (List ℕ) → Type 0
Rights ws earlier [] = Unit {0}
Rights ws earlier (r ∷ rs) =
    (0 < length r) × (record_length (r ++ list_words rs) ≡ length r)
    × ((i : ℕ) → i < length r → wrong_word ws earlier (r ++ list_words rs) i ≡ false) × Rights ws (earlier ++ (r ∷ [])) rs

list_fine : (ws : List ℕ) (n : ℕ) (earlier : List (List ℕ)) (place : ℕ) (rs : List (List ℕ)) → Rights ws earlier rs → judged ws n earlier place (list_words rs) ≡ Fine
unfolding judged
list_fine ws zero earlier place rs h = refl
list_fine ws (suc n) earlier place [] h = refl
list_fine ws (suc n) earlier place ([] ∷ rs) h = absurd (not-suc-le-zero h.0)
list_fine ws (suc n) earlier place ((x ∷ r) ∷ rs) h =
    let l = x ∷ r ++ list_words rs in
    let k = length (x ∷ r) in
    let e : record_length l ≡ k = h.1 in
    let a : take k l ≡ x ∷ r = take-append_seam (x ∷ r) (list_words rs) in
    let b : drop k l ≡ list_words rs = drop-append_seam (x ∷ r) (list_words rs) in
    rw e (pick_no (first (wrong_word ws earlier l) k <? k) _ _ (none_found (wrong_word ws earlier l) k h.2) ∙ rw (a, b) (list_fine ws n (earlier ++ ((x ∷ r) ∷ [])) (place + k) rs h.3))

-- ---- the whole ----

pub record Points (ws : List ℕ) : Type 0 where
  pub header : (i : ℕ) → i < 16 → wrong_header ws i ≡ false
  pub sixteen : 16 ≤ length ws
  pub whole : list_at_of ws + used ws ≤ length ws
  pub nodes : (n f : ℕ) → n < limit ws → f < 6 → wrong_node_word ws n f ≡ false
  pub records : List (List ℕ)
  pub list : take (used ws) (drop (list_at_of ws) ws) ≡ list_words records
  pub rights : Rights ws [] records
  pub owned : (n : ℕ) → n < nets ws → alone ws n ≡ false
  pub counts : (k : ℕ) → k < 5 → wrong_count ws k ≡ false

then_fine : (c d : Answer) → c ≡ Fine → d ≡ Fine → and_then c d ≡ Fine
unfolding and_then
then_fine Fine d e f = f
then_fine (Refused n a b) d e f = e

pub accepted : (ws : List ℕ) → Points ws → accepts ws ≡ Fine
unfolding accepts body_answer header_answer length_answer nodes_answer list_answer alone_answer counts_answer
accepted ws p =
    then_fine _ _ (right_all (wrong_header ws) 0 (min 16 (length ws)) (λ j h. p.header j (let l = p.sixteen in omega arith)))
    (then_fine _ _ (pick_no (length ws <? 16 or length ws <? list_at_of ws + used ws) _ _
    (neither _ _ (lt_no (length ws) 16 p.sixteen) (lt_no (length ws) (list_at_of ws + used ws) p.whole)))
    (then_fine _ _ (right_all (λ j. wrong_node_word ws (j / 6) (j % 6)) 16 (6 * limit ws) (λ j h. p.nodes (j / 6) (j % 6) (omega arith) (omega arith)))
    (then_fine _ _ (ap (judged ws (used ws) [] (list_at_of ws)) p.list ∙ list_fine ws (used ws) [] (list_at_of ws) p.records p.rights)
    (then_fine _ _ (pick_no (first (alone ws) (nets ws) <? nets ws) _ _ (none_found (alone ws) (nets ws) p.owned))
    (right_all (wrong_count ws) 5 5 p.counts)))))
