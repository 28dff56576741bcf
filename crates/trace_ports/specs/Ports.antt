-- The nets of a netlist's ports, read at the places of their records. Assumes nothing.
use Prim.Native.Nat.{ℕ, zero, suc, ◌+◌, ◌-◌, ◌≤◌, min}
use Rattle.std.proofs.Common.{add-one, arith, ◌∙◌, take_all, take-suc}
use Rattle.std.specs.Prelude.{◌≡◌, Bool, true, false, length, drop, get_or}
use Rattle.std.proofs.Math.Path.{refl, sym, ap, subst}
use mathlib.Core.List.{List, [], ◌∷◌, ◌++◌, map, append_assoc, append-nil}
use Rattle.std.proofs.Math.ListN.{take, get_or-append}
use Rattle.std.proofs.Math.Seq.{take-append_seam, take-append-add}
use Rattle.std.proofs.Math.Decide.{dec_le}
use Rattle.std.proofs.lemmas.Slice.{take-put_mid}
use Rattle.std.proofs.Common.{length-take-le, length-drop}
use borrow.Rule.Slice.PartMut.{put_mid, mid_of, same_len_mid}
use Rattle.spec_tests.specs.Rules.{◌≡?◌, pick, only, Fine}
use Rattle.spec_tests.specs.Laws.{pick_hit, pick_skip, eq_yes, eq_no}
use Rattle.spec_rules.specs.NetlistImage.{node_word, records_with}
use Rattle.spec_rules.specs.Listing.{together}
use Rattle.spec_netlist.specs.Accept.{accepts}
use Rattle.spec_trace.specs.Opened.{ports_with, nets_with}
use Rattle.law_told.specs.Told.{told}
use Rattle.law_told.specs.Ordered.{only_append}
use Rattle.law_told.specs.Ports.{port_told}
use Rattle.law_sorts.specs.Found.{found, has_word}
use Rattle.listing_text.specs.Text.{Wrote}
use Rattle.trace_walk.specs.Places.{Begins, Places}

-- the nets of the port whose record begins at word a, if they are of kind k
unfoldable pub port_nets : List ℕ → ℕ → ℕ → List ℕ
port_nets ws k a = let l = drop a ws in pick (node_word ws (get_or l 3 0) 0 ≡? k) (take (get_or l 2 0) (drop 3 l)) []

-- those of the first n places
unfoldable pub joined : List ℕ → ℕ → List ℕ → ℕ → List ℕ
joined ws k places zero = []
joined ws k places (suc n) = joined ws k places n ++ port_nets ws k (get_or places n 0)

pub joined_none : (ws : List ℕ) (k : ℕ) (places : List ℕ) → joined ws k places 0 ≡ []
unfolding joined
joined_none ws k places = refl

pub joined_more : (ws : List ℕ) (k : ℕ) (places : List ℕ) (n : ℕ) → joined ws k places (n + 1) ≡ joined ws k places n ++ port_nets ws k (get_or places n 0)
unfolding joined
joined_more ws k places n = rw add-one refl

pub port_other : (ws : List ℕ) (k a x : ℕ) (l : List ℕ) → l ≡ drop a ws → x ≡ node_word ws (get_or l 3 0) 0 → (x ≡ k → ⊥) → port_nets ws k a ≡ []
unfolding port_nets
port_other ws k a x l el ex n = sym (pick_skip _ (eq_no _ k (λ e. n (ex ∙ (ap (λ (z : List ℕ). node_word ws (get_or z 3 0) 0) el ∙ e)))) refl)

pub port_of_kind : (ws : List ℕ) (k a x w : ℕ) (l nets : List ℕ) → l ≡ drop a ws → x ≡ node_word ws (get_or l 3 0) 0 → x ≡ k → w ≡ get_or l 2 0 → nets ≡ take w (drop 3 l) → port_nets ws k a ≡ nets
unfolding port_nets
port_of_kind ws k a x w l nets el ex e ew en =
    sym (pick_hit [] (eq_yes _ k (ap (λ (z : List ℕ). node_word ws (get_or z 3 0) 0) (sym el) ∙ (sym ex ∙ e)))
    (en ∙ (ap (λ (z : ℕ). take z (drop 3 l)) ew ∙ ap (λ (z : List ℕ). take (get_or z 2 0) (drop 3 z)) el)))

pub joined_all : (ws : List ℕ) (k : ℕ) (places : List ℕ) {o o' : List ℕ} {r : ℕ} (count i : ℕ) → i ≤ count → count ≤ i → Wrote o 0 (joined ws k places i) o' r → Wrote o 0 (joined ws k places count) o' r
joined_all ws k places {o} {o'} {r} count i h l w = let e : i ≡ count = omega arith in subst (λ (n : ℕ). Wrote o 0 (joined ws k places n) o' r) e w

-- the front of a table that held o, where these are written from its first word on
pub front_of : (ws : List ℕ) (k : ℕ) (places : List ℕ) {o o' : List ℕ} {r : ℕ} (count i : ℕ) → i ≤ count → count ≤ i → Wrote o 0 (joined ws k places i) o' r → take r o' ≡ take (length o) (joined ws k places count)
front_of ws k places {o} count i h l w = (joined_all ws k places count i h l w).text

-- a list copied to a place, as much of it as has room
pub wrote_copy : (o list ys : List ℕ) (at n k : ℕ) → at ≤ length o → n ≡ min (length list) (length o - at) → k ≡ n → ys ≡ take n list → Wrote o at list (put_mid at k o ys) (at + n)
wrote_copy o list ys at n k h en ek ey =
    let ly : length ys ≡ n = ap length ey ∙ length-take-le n list (omega arith) in
    let la : length (take at o) ≡ at = length-take-le at o h in
    let lm : length (mid_of at k o) ≡ k = length-take-le k (drop at o) (let d = length-drop at o in omega arith) in
    let lo : length (put_mid at k o ys) ≡ length o = same_len_mid at k o ys (omega arith) in
    let t : take (at + n) (put_mid at k o ys) ≡ take at o ++ ys = take-put_mid at k o ys (at + n) (omega arith) h in
    let m : length o ≡ length (take at o) + (length o - at) = omega arith in
    let r : take (length o) (take at o ++ list) ≡ take at o ++ take (length o - at) list =
    ap (λ (i : ℕ). take i (take at o ++ list)) m ∙ take-append-add (take at o) list (length o - at) in
    record {
      size = lo;
      upto = omega arith;
      text = t ∙ ap (λ (l : List ℕ). take at o ++ l) (ey ∙ few) ∙ sym r;
    }
  where
    few : take n list ≡ take (length o - at) list
    few = elim (dec_le (length list) (length o - at)) [
      | yes l ↦ (let e : n ≡ length list = omega arith in take_all n list (omega arith) ∙ sym (take_all (length o - at) list l))
      | no l ↦ ap (λ (i : ℕ). take i list) (omega arith)
    ]

-- ---- of an accepted netlist: those of its ports ----

abbrev nets_of : List ℕ → ℕ → List (List ℕ) → List ℕ
nets_of ws k rs = together (map (drop 3) (only (λ r. node_word ws (get_or r 3 0) 0 ≡? k) rs))

together_append : (xs ys : List (List ℕ)) → together (xs ++ ys) ≡ together xs ++ together ys
unfolding together
together_append [] ys = refl
together_append (x ∷ xs) ys = ap (λ (z : List ℕ). x ++ z) (together_append xs ys) ∙ sym (append_assoc x (together xs) (together ys))

map_append : (f : List ℕ → List ℕ) (xs ys : List (List ℕ)) → map f (xs ++ ys) ≡ map f xs ++ map f ys
map_append f [] ys = refl
map_append f (x ∷ xs) ys = ap (λ (z : List (List ℕ)). f x ∷ z) (map_append f xs ys)

nets_append : (ws : List ℕ) (k : ℕ) (xs ys : List (List ℕ)) → nets_of ws k (xs ++ ys) ≡ nets_of ws k xs ++ nets_of ws k ys
nets_append ws k xs ys =
    ap (λ (z : List (List ℕ)). together (map (drop 3) z)) (only_append (λ r. node_word ws (get_or r 3 0) 0 ≡? k) xs ys)
    ∙ ap together (map_append (drop 3) (only (λ r. node_word ws (get_or r 3 0) 0 ≡? k) xs) (only (λ r. node_word ws (get_or r 3 0) 0 ≡? k) ys))
    ∙ together_append (map (drop 3) (only (λ r. node_word ws (get_or r 3 0) 0 ≡? k) xs)) (map (drop 3) (only (λ r. node_word ws (get_or r 3 0) 0 ≡? k) ys))

nets_one : (ws : List ℕ) (k : ℕ) (r : List ℕ) → nets_of ws k (r ∷ []) ≡ pick (node_word ws (get_or r 3 0) 0 ≡? k) (drop 3 r) []
unfolding only together pick
nets_one ws k r = go (node_word ws (get_or r 3 0) 0 ≡? k)
  where
    go : (b : Bool) → together (map (drop 3) (pick b (r ∷ []) [])) ≡ pick b (drop 3 r) []
    go true = append-nil (drop 3 r)
    go false = refl

-- a port's record, read where it begins
port_read_law : (ws : List ℕ) (k a : ℕ) (r rest : List ℕ) → drop a ws ≡ r ++ rest → 1 ≤ get_or r 2 0 → length r ≡ 3 + get_or r 2 0 → port_nets ws k a ≡ pick (node_word ws (get_or r 3 0) 0 ≡? k) (drop 3 r) []
unfolding port_nets
port_read_law ws k a r rest e s l =
    let f : get_or (r ++ rest) 3 0 ≡ get_or r 3 0 = get_or-append r rest 0 3 (omega arith) in
    let g : get_or (r ++ rest) 2 0 ≡ get_or r 2 0 = get_or-append r rest 0 2 (omega arith) in
    let h : take (get_or r 2 0) (drop 3 (r ++ rest)) ≡ drop 3 r = whole r l in
    ap (λ (z : List ℕ). pick (node_word ws (get_or z 3 0) 0 ≡? k) (take (get_or z 2 0) (drop 3 z)) []) e
    ∙ ap (λ (z : ℕ). pick (node_word ws z 0 ≡? k) (take (get_or (r ++ rest) 2 0) (drop 3 (r ++ rest))) []) f
    ∙ ap (λ (z : ℕ). pick (node_word ws (get_or r 3 0) 0 ≡? k) (take z (drop 3 (r ++ rest))) []) g
    ∙ ap (λ (z : List ℕ). pick (node_word ws (get_or r 3 0) 0 ≡? k) z []) h
  where
    whole : (r : List ℕ) → length r ≡ 3 + get_or r 2 0 → take (get_or r 2 0) (drop 3 (r ++ rest)) ≡ drop 3 r
    whole [] l = absurd (omega arith)
    whole (x ∷ []) l = absurd (omega arith)
    whole (x ∷ y ∷ []) l = absurd (omega arith)
    whole (x ∷ y ∷ z ∷ r) l = let e : z ≡ length r = omega arith in ap (λ (n : ℕ). take n (r ++ rest)) e ∙ take-append_seam r rest

module _ (ws : List ℕ) (ok : accepts ws ≡ Fine) (k : ℕ) {places : List ℕ} {count : ℕ} (p : Places ws 0 places count) where
  upto : (i : ℕ) → i ≤ count → joined ws k places i ≡ nets_of ws k (take i (records_with 0 ws))
  unfolding joined only together
  upto zero h = refl
  upto (suc i) h =
      let c = p.count in
      let t = told ws ok in
      let f = found ws t 0 i (omega arith) in
      let b = subst (λ (z : List ℕ). Begins ws (get_or places i 0) z) f.is (p.at i (omega arith)) in
      let u = port_told ws f.earlier f.r f.here (has_word f.here) f.sort in
      let q = port_read_law ws k (get_or places i 0) f.r b.rest b.is u.some u.long in
      ap (λ (z : List ℕ). z ++ port_nets ws k (get_or places i 0)) (upto i (omega arith))
      ∙ ap (λ (z : List ℕ). nets_of ws k (take i (records_with 0 ws)) ++ z) (q ∙ sym (nets_one ws k f.r))
      ∙ sym (nets_append ws k (take i (records_with 0 ws)) (f.r ∷ []))
      ∙ ap (nets_of ws k) (ap (λ (z : List ℕ). take i (records_with 0 ws) ++ (z ∷ [])) (sym f.is) ∙ sym (take-suc (records_with 0 ws) i [] (omega arith)))

  pub joined_is : joined ws k places count ≡ nets_with k ws
  unfolding nets_with ports_with
  joined_is = let c = p.count in upto count (omega arith) ∙ ap (nets_of ws k) (take_all count (records_with 0 ws) (omega arith))
