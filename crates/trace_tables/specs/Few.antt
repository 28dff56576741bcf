-- The ports of a netlist have no more nets than the list has words. Assumes nothing.
use Rattle.std.specs.Prelude.{ℕ, zero, suc, ◌+◌, ◌≤◌, ◌≡◌, Bool, true, false, List, [], ◌∷◌, map, length, take, drop, get_or}
use Rattle.std.proofs.Common.{arith, length-take, length-drop, length-append}
use Rattle.spec_tests.specs.Rules.{◌≡?◌, pick, only}
use Rattle.spec_rules.specs.NetlistImage.{node_word, record_length, split, records_of, records_with}
use Rattle.spec_rules.specs.Listing.{together}
use Rattle.spec_netlist.specs.Accept.{used}
use Rattle.spec_trace.specs.Opened.{ports_with, nets_with}

abbrev all : List (List ℕ) → ℕ
all rs = length (together rs)

all_more : (r : List ℕ) (rs : List (List ℕ)) → all (r ∷ rs) ≡ length r + all rs
unfolding together
all_more r rs = length-append r (together rs)

split_few : (n : ℕ) (l : List ℕ) → all (split n l) ≤ length l
unfolding split together
split_few zero l = omega arith
split_few (suc n) [] = omega arith
split_few (suc n) (x ∷ l) =
    let k = record_length (x ∷ l) in
    let m = all_more (take k (x ∷ l)) (split n (drop k (x ∷ l))) in
    let i = split_few n (drop k (x ∷ l)) in
    let t = length-take k (x ∷ l) in
    let d = length-drop k (x ∷ l) in
    omega arith

only_few : (p : List ℕ → Bool) (rs : List (List ℕ)) → all (only p rs) ≤ all rs
unfolding only pick
only_few p [] = omega arith
only_few p (r ∷ rs) = go (p r) (only_few p rs)
  where
    go : (b : Bool) → all (only p rs) ≤ all rs → all (pick b (r ∷ only p rs) (only p rs)) ≤ all (r ∷ rs)
    go true i = let a = all_more r (only p rs) in let b = all_more r rs in omega arith
    go false i = let b = all_more r rs in omega arith

drop_few : (rs : List (List ℕ)) → all (map (drop 3) rs) ≤ all rs
drop_few [] = omega arith
drop_few (r ∷ rs) = let i = drop_few rs in let a = all_more (drop 3 r) (map (drop 3) rs) in let b = all_more r rs in let d = length-drop 3 r in omega arith

pub nets_few : (ws : List ℕ) (k : ℕ) → length (nets_with k ws) ≤ used ws
unfolding nets_with ports_with records_with records_of
nets_few ws k =
    let a = drop_few (only (λ r. node_word ws (get_or r 3 0) 0 ≡? k) (records_with 0 ws)) in
    let b = only_few (λ r. node_word ws (get_or r 3 0) 0 ≡? k) (records_with 0 ws) in
    let c = only_few (λ r. get_or r 0 0 ≡? 0) (records_of ws) in
    let d = split_few (used ws) (take (used ws) (drop (get_or ws 4 0) ws)) in
    let e = length-take (used ws) (drop (get_or ws 4 0) ws) in
    omega arith
