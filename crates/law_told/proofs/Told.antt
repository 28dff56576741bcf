-- What is proved of specs/Told: What an accepted netlist image tells: no word of it is wrong. Assumes nothing.
use Rattle.std.specs.Prelude.{ℕ, zero, suc, ◌+◌, ◌-◌, ◌≤◌, ◌<◌, ◌≡◌, refl, Bool, true, false, not, List, [], ◌∷◌, ◌++◌, take, drop, get_or}
use native.Mathlib.Omega.{arith}
use Rattle.std.proofs.Common.{sym, ap, ◌∙◌, take-append-drop, length-take}
use Rattle.std.proofs.Math.Decide.{ℕ_discrete}
use Rattle.std.proofs.Math.ListN.{length}
use Rattle.spec_tests.specs.Rules.{◌<?◌, ◌≡?◌, ◌or◌, ◌and◌, pick, first, Fine}
use Rattle.spec_tests.specs.Laws.{or_no, no_lt}
use Rattle.spec_rules.specs.NetlistImage.{node_word, record_length, split, records_of}
use Rattle.spec_netlist.specs.Accept.{nets, used, list_at_of, belongs, extent, taken, wrong_word, judged, list_answer, alone}
use Rattle.law_told.specs.Told.{Owner, Right, RightHere, Told, and_second, find_owner, is_owned, length_some, memory_extent, memory_length_law, none_of, other_extent, pick_fine, ports_right, untrue}

-- a record whose port count, if it is a memory's, is right takes as many words as its length says
pub right_extent : (ws : List ℕ) (earlier : List (List ℕ)) (l : List ℕ) → (get_or l 0 0 ≡ 2 → wrong_word ws earlier l 5 ≡ false) → extent l ≡ record_length l
right_extent ws earlier l clean = go (ℕ_discrete (get_or l 0 0) 2)
  where
    go : Dec (get_or l 0 0 ≡ 2) → extent l ≡ record_length l
    go (no n) = other_extent l n
    go (yes e) = let p = ports_right ws earlier l e (clean e) in memory_extent l e p.0 p.1

pub passed_extent : (ws : List ℕ) (earlier : List (List ℕ)) (l : List ℕ) → ((i : ℕ) → i < record_length l → wrong_word ws earlier l i ≡ false) → extent l ≡ record_length l
passed_extent ws earlier l clean = right_extent ws earlier l (λ e. clean 5 (let m = memory_length_law l e in omega arith))

pub fits : (ws : List ℕ) (earlier : List (List ℕ)) (l : List ℕ) → ((i : ℕ) → i < record_length l → wrong_word ws earlier l i ≡ false) → record_length l ≤ length l
unfolding wrong_word ◌≡?◌ pick
fits ws earlier l clean =
    let e = passed_extent ws earlier l clean in
    let s = no_lt (length l) (extent l) (or_no (clean 0 (length_some l))).1 in
    omega arith

here_right : (ws : List ℕ) (earlier : List (List ℕ)) (l : List ℕ) → ((i : ℕ) → i < record_length l → wrong_word ws earlier l i ≡ false)
    → RightHere ws earlier (take (record_length l) l)
here_right ws earlier l clean = record {
  rest = drop (record_length l) l;
  fit = rw (take-append-drop (record_length l) l) (let f = fits ws earlier l clean in let m = length-take (record_length l) l in omega arith);
  long = rw (take-append-drop (record_length l) l) (let m = length-take (record_length l) l in omega arith);
  right = λ i h. ap (λ (z : List ℕ). wrong_word ws earlier z i) (take-append-drop (record_length l) l) ∙ clean i (let m = length-take (record_length l) l in omega arith);
}

all_right : (ws : List ℕ) (n : ℕ) (earlier : List (List ℕ)) (place : ℕ) (l : List ℕ) → judged ws n earlier place l ≡ Fine → Right ws earlier (split n l)
unfolding judged split
all_right ws zero earlier place l e = tt
all_right ws (suc n) earlier place [] e = tt
all_right ws (suc n) earlier place (x ∷ l) e =
    let k = record_length (x ∷ l) in
    let p = pick_fine (first (wrong_word ws earlier (x ∷ l)) k <? k) (place + first (wrong_word ws earlier (x ∷ l)) k)
    (judged ws n (earlier ++ (take k (x ∷ l) ∷ [])) (place + k) (drop k (x ∷ l))) e in (
      here_right ws earlier (x ∷ l) (none_of (wrong_word ws earlier (x ∷ l)) k p.0),
      all_right ws n (earlier ++ (take k (x ∷ l) ∷ [])) (place + k) (drop k (x ∷ l)) p.1,
    )

pub records_right : (ws : List ℕ) → Told ws → Right ws [] (records_of ws)
unfolding list_answer records_of
records_right ws t = all_right ws (used ws) [] (list_at_of ws) (take (used ws) (drop (list_at_of ws) ws)) t.list

pub owner : (ws : List ℕ) → Told ws → (k : ℕ) → k < nets ws → belongs (node_word ws k 0) ≡ true → Owner ws (records_of ws) k
unfolding alone
owner ws t k h b = find_owner ws [] (records_of ws) (records_right ws t) k (at (taken (records_of ws) k) (and_second (belongs (node_word ws k 0)) (not (taken (records_of ws) k)) (is_owned ws t k h) b))
  where
    at : (b : Bool) → not b ≡ false → b ≡ true
    at true e = refl
    at false e = untrue (sym e)
