-- Nodes and records taken apart: what a decoded cell output says of its node, which nets a record of each sort has as its own, and the
-- records of one sort by number. Assumes nothing.
use Rattle.std.specs.Prelude.{ℕ, zero, suc, ◌+◌, ◌*◌, ◌<◌, ◌≡◌, refl, Bool, true, false, List, [], ◌∷◌, ◌++◌, length, take, drop, get_or}
use Rattle.std.proofs.Common.{not-suc-le-zero, le_of_suc-le-suc, arith, sym, ap, ◌∙◌, length-append}
use Rattle.std.proofs.Math.ListN.{get_or-append}
use Rattle.std.proofs.Math.Seq.{get_or-append_seam}
use Rattle.spec_tests.specs.Rules.{◌≡?◌, ◌or◌, pick, only}
use Rattle.spec_tests.specs.Laws.{eq_yes, eq_no, yes_eq, no_eq, or_hit}
use Rattle.spec_rules.specs.NetlistImage as N
use Rattle.spec_rules.specs.NetlistImage.{node_of, memory_of}
use Rattle.net_view.specs.View.{Formed, AllFormed}
use Rattle.law_nets.specs.Meaning.{records_with}
use Rattle.law_nets.specs.Nodes.{with_append}
use Rattle.spec_netlist.specs.Accept.{member, second_data, own_nets, taken, count_of}
use Rattle.law_told.specs.Told.{untrue, or_split, pick_yes, pick_no}

-- ---- decoded nodes ----

pub arithmetic_node : (k o b x y z j i : ℕ) → node_of k o b x y z ≡ N.ArithmeticOutput j i → (k ≡ 10) × (o ≡ j) × (b ≡ i)
unfolding node_of
arithmetic_node zero o b x y z j i e = let u : ◌≡◌ {A = ℕ} 0 1 = cc in absurd (omega arith)
arithmetic_node (suc zero) o b x y z j i e = let u : ◌≡◌ {A = ℕ} 0 1 = cc in absurd (omega arith)
arithmetic_node (suc (suc zero)) o b x y z j i e = let u : ◌≡◌ {A = ℕ} 0 1 = cc in absurd (omega arith)
arithmetic_node (suc (suc (suc zero))) o b x y z j i e = let u : ◌≡◌ {A = ℕ} 0 1 = cc in absurd (omega arith)
arithmetic_node (suc (suc (suc (suc zero)))) o b x y z j i e = let u : ◌≡◌ {A = ℕ} 0 1 = cc in absurd (omega arith)
arithmetic_node (suc (suc (suc (suc (suc zero))))) o b x y z j i e = let u : ◌≡◌ {A = ℕ} 0 1 = cc in absurd (omega arith)
arithmetic_node (suc (suc (suc (suc (suc (suc zero)))))) o b x y z j i e = let u : ◌≡◌ {A = ℕ} 0 1 = cc in absurd (omega arith)
arithmetic_node (suc (suc (suc (suc (suc (suc (suc zero))))))) o b x y z j i e = let u : ◌≡◌ {A = ℕ} 0 1 = cc in absurd (omega arith)
arithmetic_node (suc (suc (suc (suc (suc (suc (suc (suc zero)))))))) o b x y z j i e = let u : ◌≡◌ {A = ℕ} 0 1 = cc in absurd (omega arith)
arithmetic_node (suc (suc (suc (suc (suc (suc (suc (suc (suc zero))))))))) o b x y z j i e = let u : ◌≡◌ {A = ℕ} 0 1 = cc in absurd (omega arith)
arithmetic_node (suc (suc (suc (suc (suc (suc (suc (suc (suc (suc zero)))))))))) o b x y z j i e = let p : o ≡ j = cc in let q : b ≡ i = cc in (refl, p, q)
arithmetic_node (suc (suc (suc (suc (suc (suc (suc (suc (suc (suc (suc zero))))))))))) o b x y z j i e = let u : ◌≡◌ {A = ℕ} 0 1 = cc in absurd (omega arith)
arithmetic_node (suc (suc (suc (suc (suc (suc (suc (suc (suc (suc (suc (suc k)))))))))))) o b x y z j i e = let u : ◌≡◌ {A = ℕ} 0 1 = cc in absurd (omega arith)

pub comparison_node : (k o b x y z j : ℕ) → node_of k o b x y z ≡ N.ComparisonOutput j → (k ≡ 11) × (o ≡ j)
unfolding node_of
comparison_node zero o b x y z j e = let u : ◌≡◌ {A = ℕ} 0 1 = cc in absurd (omega arith)
comparison_node (suc zero) o b x y z j e = let u : ◌≡◌ {A = ℕ} 0 1 = cc in absurd (omega arith)
comparison_node (suc (suc zero)) o b x y z j e = let u : ◌≡◌ {A = ℕ} 0 1 = cc in absurd (omega arith)
comparison_node (suc (suc (suc zero))) o b x y z j e = let u : ◌≡◌ {A = ℕ} 0 1 = cc in absurd (omega arith)
comparison_node (suc (suc (suc (suc zero)))) o b x y z j e = let u : ◌≡◌ {A = ℕ} 0 1 = cc in absurd (omega arith)
comparison_node (suc (suc (suc (suc (suc zero))))) o b x y z j e = let u : ◌≡◌ {A = ℕ} 0 1 = cc in absurd (omega arith)
comparison_node (suc (suc (suc (suc (suc (suc zero)))))) o b x y z j e = let u : ◌≡◌ {A = ℕ} 0 1 = cc in absurd (omega arith)
comparison_node (suc (suc (suc (suc (suc (suc (suc zero))))))) o b x y z j e = let u : ◌≡◌ {A = ℕ} 0 1 = cc in absurd (omega arith)
comparison_node (suc (suc (suc (suc (suc (suc (suc (suc zero)))))))) o b x y z j e = let u : ◌≡◌ {A = ℕ} 0 1 = cc in absurd (omega arith)
comparison_node (suc (suc (suc (suc (suc (suc (suc (suc (suc zero))))))))) o b x y z j e = let u : ◌≡◌ {A = ℕ} 0 1 = cc in absurd (omega arith)
comparison_node (suc (suc (suc (suc (suc (suc (suc (suc (suc (suc zero)))))))))) o b x y z j e = let u : ◌≡◌ {A = ℕ} 0 1 = cc in absurd (omega arith)
comparison_node (suc (suc (suc (suc (suc (suc (suc (suc (suc (suc (suc zero))))))))))) o b x y z j e = let p : o ≡ j = cc in (refl, p)
comparison_node (suc (suc (suc (suc (suc (suc (suc (suc (suc (suc (suc (suc k)))))))))))) o b x y z j e = let u : ◌≡◌ {A = ℕ} 0 1 = cc in absurd (omega arith)

-- ---- lists ----

pub same_default : (xs : List ℕ) (i d e : ℕ) → i < length xs → get_or xs i d ≡ get_or xs i e
same_default [] i d e h = absurd (not-suc-le-zero h)
same_default (x ∷ xs) zero d e h = refl
same_default (x ∷ xs) (suc i) d e h = same_default xs i d e (le_of_suc-le-suc h)

pub member_at : (x : ℕ) (xs : List ℕ) (i : ℕ) → i < length xs → get_or xs i 0 ≡ x → member x xs ≡ true
unfolding member ◌or◌
member_at x [] i h e = absurd (not-suc-le-zero h)
member_at x (y ∷ xs) zero h e = sym (or_hit (member x xs) (eq_yes x y (sym e)))
member_at x (y ∷ xs) (suc i) h e = or_second (x ≡? y) (member x xs) (member_at x xs i (le_of_suc-le-suc h) e)
  where
    or_second : (a b : Bool) → b ≡ true → (a or b) ≡ true
    or_second true b e = refl
    or_second false b e = e

-- ---- a record's own nets ----

module _ (r : List ℕ) where
  pub own_port : get_or r 0 0 ≡ 0 → own_nets r ≡ take (get_or r 2 0) (drop 3 r)
  unfolding own_nets
  own_port e = pick_yes (get_or r 0 0 ≡? 0) _ _ (eq_yes (get_or r 0 0) 0 e)

  pub own_register : get_or r 0 0 ≡ 1 → own_nets r ≡ take 1 (drop 3 r)
  unfolding own_nets
  own_register e =
      pick_no (get_or r 0 0 ≡? 0) _ _ (eq_no (get_or r 0 0) 0 (λ z. absurd (omega arith))) ∙ pick_yes (get_or r 0 0 ≡? 1) _ _ (eq_yes (get_or r 0 0) 1 e)

  pub own_memory : get_or r 0 0 ≡ 2 → own_nets r ≡ (memory_of r).first.read_data ++ second_data (memory_of r).second
  unfolding own_nets
  own_memory e =
      pick_no (get_or r 0 0 ≡? 0) _ _ (eq_no (get_or r 0 0) 0 (λ z. absurd (omega arith)))
      ∙ pick_no (get_or r 0 0 ≡? 1) _ _ (eq_no (get_or r 0 0) 1 (λ z. absurd (omega arith))) ∙ pick_yes (get_or r 0 0 ≡? 2) _ _ (eq_yes (get_or r 0 0) 2 e)

  pub own_arithmetic : get_or r 0 0 ≡ 3 → own_nets r ≡ take (get_or r 2 0) (drop (4 + 2 * get_or r 2 0) r)
  unfolding own_nets
  own_arithmetic e =
      pick_no (get_or r 0 0 ≡? 0) _ _ (eq_no (get_or r 0 0) 0 (λ z. absurd (omega arith)))
      ∙ pick_no (get_or r 0 0 ≡? 1) _ _ (eq_no (get_or r 0 0) 1 (λ z. absurd (omega arith)))
      ∙ pick_no (get_or r 0 0 ≡? 2) _ _ (eq_no (get_or r 0 0) 2 (λ z. absurd (omega arith))) ∙ pick_yes (get_or r 0 0 ≡? 3) _ _ (eq_yes (get_or r 0 0) 3 e)

  pub own_comparison : get_or r 0 0 ≡ 4 → own_nets r ≡ take 1 (drop (3 + 2 * get_or r 2 0) r)
  unfolding own_nets
  own_comparison e =
      pick_no (get_or r 0 0 ≡? 0) _ _ (eq_no (get_or r 0 0) 0 (λ z. absurd (omega arith)))
      ∙ pick_no (get_or r 0 0 ≡? 1) _ _ (eq_no (get_or r 0 0) 1 (λ z. absurd (omega arith)))
      ∙ pick_no (get_or r 0 0 ≡? 2) _ _ (eq_no (get_or r 0 0) 2 (λ z. absurd (omega arith)))
      ∙ pick_no (get_or r 0 0 ≡? 3) _ _ (eq_no (get_or r 0 0) 3 (λ z. absurd (omega arith)))

-- ---- records of one sort ----

pub with_sort : (t : ℕ) (rs : List (List ℕ)) (j : ℕ) → j < length (records_with t rs) → get_or (get_or (records_with t rs) j []) 0 0 ≡ t
unfolding records_with only pick
with_sort t [] j h = absurd (not-suc-le-zero h)
with_sort t (r ∷ rs) j h = go (get_or r 0 0 ≡? t) refl j h (with_sort t rs)
  where
    go : (b : Bool) → (get_or r 0 0 ≡? t) ≡ b → (j : ℕ) → j < length (pick b (r ∷ records_with t rs) (records_with t rs))
        → ((j : ℕ) → j < length (records_with t rs) → get_or (get_or (records_with t rs) j []) 0 0 ≡ t)
        → get_or (get_or (pick b (r ∷ records_with t rs) (records_with t rs)) j []) 0 0 ≡ t
    go true e zero h ih = yes_eq (get_or r 0 0) t e
    go true e (suc j) h ih = ih j (le_of_suc-le-suc h)
    go false e j h ih = ih j h

pub with_cons : (t : ℕ) (r : List ℕ) (rs : List (List ℕ)) → get_or r 0 0 ≡ t → records_with t (r ∷ rs) ≡ r ∷ records_with t rs
unfolding records_with only
with_cons t r rs e = pick_yes (get_or r 0 0 ≡? t) _ _ (eq_yes (get_or r 0 0) t e)

pub with_skip : (t : ℕ) (r : List ℕ) (rs : List (List ℕ)) → (get_or r 0 0 ≡ t → ⊥) → records_with t (r ∷ rs) ≡ records_with t rs
unfolding records_with only
with_skip t r rs e = pick_no (get_or r 0 0 ≡? t) _ _ (eq_no (get_or r 0 0) t e)

-- the record behind earlier ones has the number of those of its sort
pub record Number (t : ℕ) (earlier : List (List ℕ)) (r : List ℕ) (all : List (List ℕ)) : Type 0 where
  pub there : count_of t earlier < length (records_with t all)
  pub is : get_or (records_with t all) (count_of t earlier) [] ≡ r

pub count_with : (t : ℕ) (rs : List (List ℕ)) → count_of t rs ≡ length (records_with t rs)
unfolding count_of records_with
count_with t rs = refl

pub number : (t : ℕ) (earlier : List (List ℕ)) (r : List ℕ) (rs all : List (List ℕ)) → all ≡ earlier ++ (r ∷ rs) → get_or r 0 0 ≡ t → Number t earlier r all
number t earlier r rs all e s =
    let c = count_with t earlier in
    let a : records_with t all ≡ records_with t earlier ++ (r ∷ records_with t rs) = ap (records_with t) e ∙ with_append t earlier (r ∷ rs) ∙ ap (λ (z : List (List ℕ)). records_with t earlier ++ z) (with_cons t r rs s) in
    let n = length-append (records_with t earlier) (r ∷ records_with t rs) in
    record {
      there = (let m = ap length a in omega arith);
      is = ap (λ (z : List (List ℕ)). get_or z (count_of t earlier) []) a ∙ ap (λ (k : ℕ). get_or (records_with t earlier ++ (r ∷ records_with t rs)) k []) c ∙ get_or-append_seam (records_with t earlier) r (records_with t rs) [];
    }

-- earlier records keep their numbers
pub number_old : (t : ℕ) (earlier rs all : List (List ℕ)) → all ≡ earlier ++ rs → (j : ℕ) → j < count_of t earlier
    → (j < length (records_with t all)) × (get_or (records_with t all) j [] ≡ get_or (records_with t earlier) j [])
number_old t earlier rs all e j h =
    let c = count_with t earlier in
    let a : records_with t all ≡ records_with t earlier ++ records_with t rs = ap (records_with t) e ∙ with_append t earlier rs in
    let n = length-append (records_with t earlier) (records_with t rs) in
    let m = ap length a in
    (omega arith, ap (λ (z : List (List ℕ)). get_or z j []) a ∙ get_or-append (records_with t earlier) (records_with t rs) [] j (omega arith))

-- ---- taken ----

-- a record has x as its own: its sort and number
pub record Taken (rs : List (List ℕ)) (x : ℕ) : Type 0 where
  pub sort : ℕ
  pub five : sort < 5
  pub number : ℕ
  pub there : number < length (records_with sort rs)
  pub owns : member x (own_nets (get_or (records_with sort rs) number [])) ≡ true

first_word : (r : List ℕ) → Formed r → get_or r 0 0 < 5
first_word [] f = absurd (not-suc-le-zero f.some)
first_word (x ∷ r) f = f.kind

pub taken_by : (rs : List (List ℕ)) → AllFormed rs → (x : ℕ) → taken rs x ≡ true → Taken rs x
unfolding taken
taken_by [] f x e = untrue e
taken_by (r ∷ rs) f x e = or_split (member x (own_nets r)) (taken rs x) e
    (λ h. let a = with_cons (get_or r 0 0) r rs refl in
    record { sort = get_or r 0 0; five = first_word r f.0; number = 0; there = rw a (omega arith); owns = rw a h })
    (λ h. let q = taken_by rs f.1 x h in go q (get_or r 0 0 ≡? q.sort) refl)
  where
    go : (q : Taken rs x) (b : Bool) → (get_or r 0 0 ≡? q.sort) ≡ b → Taken (r ∷ rs) x
    go q true e =
        let a = with_cons q.sort r rs (yes_eq (get_or r 0 0) q.sort e) in
        record { sort = q.sort; five = q.five; number = suc q.number; there = rw a (let h = q.there in omega arith); owns = rw a q.owns }
    go q false e =
        let c = with_skip q.sort r rs (no_eq (get_or r 0 0) q.sort e) in
        record { sort = q.sort; five = q.five; number = q.number; there = rw c q.there; owns = rw c q.owns }

pub taken_at : (rs : List (List ℕ)) (t j x : ℕ) → j < length (records_with t rs) → member x (own_nets (get_or (records_with t rs) j [])) ≡ true → taken rs x ≡ true
unfolding taken records_with only pick ◌or◌
taken_at [] t j x h e = absurd (not-suc-le-zero h)
taken_at (r ∷ rs) t j x h e = go (get_or r 0 0 ≡? t) j h e (λ i. taken_at rs t i x)
  where
    either : (a b : Bool) → b ≡ true → (a or b) ≡ true
    either true b e = refl
    either false b e = e

    go : (b : Bool) (j : ℕ) → j < length (pick b (r ∷ records_with t rs) (records_with t rs)) → member x (own_nets (get_or (pick b (r ∷ records_with t rs) (records_with t rs)) j [])) ≡ true
        → ((i : ℕ) → i < length (records_with t rs) → member x (own_nets (get_or (records_with t rs) i [])) ≡ true → taken rs x ≡ true)
        → (member x (own_nets r) or taken rs x) ≡ true
    go true zero h e ih = sym (or_hit (taken rs x) e)
    go true (suc j) h e ih = either (member x (own_nets r)) (taken rs x) (ih j (le_of_suc-le-suc h) e)
    go false j h e ih = either (member x (own_nets r)) (taken rs x) (ih j h e)
