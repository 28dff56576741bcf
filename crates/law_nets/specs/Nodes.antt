-- Older nodes and records stay as they were, and a net's value is its node's rule at the values below it. Assumes nothing.
use Rattle.std.specs.Prelude.{◌≡◌, refl, Bool, true, false, cond, List, [], ◌∷◌, ◌++◌, map, ℕ, zero, suc, ◌+◌, ◌-◌, ◌≤◌, ◌<◌, ltb, length, get_or}
use Rattle.std.proofs.Common.{sym, ap, ap₂, ◌∙◌, append-nil, ⊎_elim, le_trans, eq-or-lt_of_le, not-suc-le-zero, le_of_suc-le-suc, arith, length-append, get_or-append-add, lt-ltb, ltb-true}
use Rattle.std.proofs.Math.Option.{Option, none, some}
use Rattle.std.proofs.Math.Decide.{ℕ_discrete}
use Rattle.std.proofs.Math.ListN.{get_or-append}
use Rattle.std.proofs.Math.Seq.{get_or-append_seam}
use Rattle.spec_tests.specs.Rules.{◌≡?◌, pick, only}
use Rattle.spec_tests.specs.Laws.{eq_yes, eq_no}
use Rattle.spec_rules.specs.NetlistImage as N
use Rattle.spec_rules.specs.Step.{perhaps}
use Rattle.spec_model.specs.Words.{absent, Node, gate, Netlist}
use Rattle.spec_model.specs.Builder.{node_for_net, constant_of, constant_value}
use Rattle.law_nets.specs.Meaning.{decode, decoded, node_at_of, records_with}
use Rattle.law_nets.specs.Sound.{count, CarryBelow, ArithmeticCell, ComparisonCell, Grew}

-- ---- nodes ----

abbrev pub no_node : Node
no_node = gate absent absent absent absent

pub node_at : (l : Netlist) (k : ℕ) → k < count l → node_for_net l k ≡ get_or l.nodes (count l - suc k) no_node
unfolding node_for_net
node_at l k h = rw (lt-ltb k (length l.nodes) h)

-- nodes before others keep their numbers
pub node_old : (l l' : Netlist) (xs : List Node) → l'.nodes ≡ xs ++ l.nodes → (k : ℕ) → k < count l → node_for_net l' k ≡ node_for_net l k
node_old l l' xs e k h =
    let n : count l' ≡ length xs + count l = ap length e ∙ length-append xs l.nodes in
    let i : count l' - suc k ≡ length xs + (count l - suc k) = omega arith in
    node_at l' k (omega arith) ∙ ap₂ (λ (ns : List Node) (j : ℕ). get_or ns j no_node) e i
    ∙ get_or-append-add xs l.nodes (count l - suc k) no_node ∙ sym (node_at l k h)

pub node_grew : {l l' : Netlist} → Grew l l' → (k : ℕ) → k < count l → node_for_net l' k ≡ node_for_net l k
node_grew {l} {l'} g k h = node_old l l' g.added g.nodes k h

pub at_grew : {l l' : Netlist} → Grew l l' → (k : ℕ) → k < count l → node_at_of l' k ≡ node_at_of l k
at_grew g k h = ap decode (node_grew g k h)

pub count_grew : {l l' : Netlist} → Grew l l' → count l ≤ count l'
count_grew {l} {l'} g = omega (arith, ap length g.nodes, length-append g.added l.nodes)

-- ---- constants ----

-- the net of a constant is there
pub constant_there : (l : Netlist) (k : ℕ) (b : Bool) → constant_value l k ≡ some b → k < count l
unfolding constant_value node_for_net
constant_there l k b e = go (ltb k (count l)) refl e
  where
    go : (t : Bool) → ltb k (count l) ≡ t → constant_of (cond t (get_or l.nodes (count l - suc k) no_node) no_node) ≡ some b → k < count l
    go true h e = ltb-true k (count l) h
    go false h e = let z : ◌≡◌ {A = ℕ} 0 1 = cc in absurd (omega arith)

-- constants stay constants
pub constant_grew : {l l' : Netlist} → Grew l l' → (k : ℕ) → k < count l → constant_value l' k ≡ constant_value l k
unfolding constant_value
constant_grew g k h = ap constant_of (node_grew g k h)

-- ---- decoded nodes ----

pub length_decoded : (ns : List Node) → length (decoded ns) ≡ length ns
unfolding decoded
length_decoded [] = refl
length_decoded (x ∷ ns) = length-append (decoded ns) (decode x ∷ []) ∙ omega (arith, length_decoded ns)

pub decoded_get : (ns : List Node) (k j : ℕ) (d : N.Node) (z : Node) → k < length ns → j ≡ length ns - suc k → get_or (decoded ns) k d ≡ decode (get_or ns j z)
unfolding decoded
decoded_get [] k j d z h e = absurd (not-suc-le-zero h)
decoded_get (x ∷ ns) k zero d z h e =
    let q : k ≡ length (decoded ns) = omega (arith, length_decoded ns) in
    ap (λ (i : ℕ). get_or (decoded ns ++ (decode x ∷ [])) i d) q ∙ get_or-append_seam (decoded ns) (decode x) [] d
decoded_get (x ∷ ns) k (suc j) d z h e =
    get_or-append (decoded ns) (decode x ∷ []) d k (omega (arith, length_decoded ns)) ∙ decoded_get ns k j d z (omega arith) (omega arith)

-- ---- records ----

pick_append : {A : Type 0} (b : Bool) (r : A) (xs ys : List A) → pick b (r ∷ (xs ++ ys)) (xs ++ ys) ≡ pick b (r ∷ xs) xs ++ ys
unfolding pick
pick_append true r xs ys = refl
pick_append false r xs ys = refl

pub only_append : {A : Type 0} (p : A → Bool) (xs ys : List A) → only p (xs ++ ys) ≡ only p xs ++ only p ys
unfolding only
only_append p [] ys = refl
only_append p (x ∷ xs) ys = rw (only_append p xs ys) (pick_append (p x) x (only p xs) (only p ys))

pub with_append : (t : ℕ) (rs qs : List (List ℕ)) → records_with t (rs ++ qs) ≡ records_with t rs ++ records_with t qs
unfolding records_with
with_append t rs qs = only_append (λ r. get_or r 0 0 ≡? t) rs qs

pub with_more : {l l' : Netlist} → Grew l l' → (t : ℕ) → length (records_with t l.records) ≤ length (records_with t l'.records)
with_more {l} g t =
    rw (g.records, with_append t l.records g.pushed) (omega (arith, length-append (records_with t l.records) (records_with t g.pushed)))

pub with_old : {l l' : Netlist} → Grew l l' → (t j : ℕ) → j < length (records_with t l.records)
    → get_or (records_with t l'.records) j [] ≡ get_or (records_with t l.records) j []
with_old {l} g t j h =
    rw (g.records, with_append t l.records g.pushed) (get_or-append (records_with t l.records) (records_with t g.pushed) [] j h)

one_with : (t : ℕ) (r : List ℕ) → get_or r 0 0 ≡ t → records_with t (r ∷ []) ≡ r ∷ []
unfolding records_with only pick
one_with t r h = rw (eq_yes (get_or r 0 0) t h)

none_with : (t : ℕ) (r : List ℕ) → (get_or r 0 0 ≡ t → ⊥) → records_with t (r ∷ []) ≡ []
unfolding records_with only pick
none_with t r h = rw (eq_no (get_or r 0 0) t h)

module _ (t : ℕ) (rs : List (List ℕ)) (r : List ℕ) where
  pub with_new : get_or r 0 0 ≡ t → records_with t (rs ++ (r ∷ [])) ≡ records_with t rs ++ (r ∷ [])
  with_new e = with_append t rs (r ∷ []) ∙ rw (one_with t r e)

  pub with_same : (get_or r 0 0 ≡ t → ⊥) → records_with t (rs ++ (r ∷ [])) ≡ records_with t rs
  with_same e = with_append t rs (r ∷ []) ∙ rw (none_with t r e) (append-nil (records_with t rs))

  -- what holds of each record with t holds of one more
  pub with_after : (P : ℕ → List ℕ → Type 0) → ((j : ℕ) → j < length (records_with t rs) → P j (get_or (records_with t rs) j []))
      → (get_or r 0 0 ≡ t → P (length (records_with t rs)) r)
      → (j : ℕ) → j < length (records_with t (rs ++ (r ∷ []))) → P j (get_or (records_with t (rs ++ (r ∷ []))) j [])
  with_after P old new j h = elim (ℕ_discrete (get_or r 0 0) t) [
    | yes e ↦
        let n : length (records_with t rs ++ (r ∷ [])) ≡ suc (length (records_with t rs)) = length-append (records_with t rs) (r ∷ []) ∙ omega arith in
        let k : j < suc (length (records_with t rs)) = rw (with_new e, n) at h in
        rw (with_new e) (⊎_elim
        (λ (q : j ≡ length (records_with t rs)). rw (q, get_or-append_seam (records_with t rs) r [] []) (new e))
        (λ (b : j < length (records_with t rs)). rw (get_or-append (records_with t rs) (r ∷ []) [] j b) (old j b))
        (eq-or-lt_of_le (le_of_suc-le-suc k)))
    | no e ↦ rw (with_same e) (old j (rw (with_same e) at h))
  ]

pub get_or_map_in : {A B : Type 0} (f : A → B) (xs : List A) (i : ℕ) (z : A) (d : B) → i < length xs → get_or (map f xs) i d ≡ f (get_or xs i z)
get_or_map_in f [] i z d h = absurd (not-suc-le-zero h)
get_or_map_in f (x ∷ xs) zero z d h = refl
get_or_map_in f (x ∷ xs) (suc i) z d h = get_or_map_in f xs i z d (le_of_suc-le-suc h)

pub arithmetic_grew : {l l' : Netlist} → Grew l l' → (j : ℕ) (r : List ℕ) → ArithmeticCell l j r → ArithmeticCell l' j r
arithmetic_grew g j r a = record {
  operation = a.operation;
  width = a.width;
  carry = a.carry;
  there = λ i h. le_trans (a.there i h) (count_grew g);
  outputs = λ i h. at_grew g _ (a.there i h) ∙ a.outputs i h;
}

pub comparison_grew : {l l' : Netlist} → Grew l l' → (j : ℕ) (r : List ℕ) → ComparisonCell l j r → ComparisonCell l' j r
comparison_grew g j r a = record {
  operation = a.operation;
  width = a.width;
  there = le_trans a.there (count_grew g);
  output = at_grew g _ a.there ∙ a.output;
}

pub carry_below : (g h : ℕ → Bool) (k : ℕ) (o : Option ℕ) → CarryBelow k o → ((j : ℕ) → j < k → g j ≡ h j) → perhaps false g o ≡ perhaps false h o
carry_below g h k none b e = refl
carry_below g h k (some n) b e = e n b
