-- The nets that a record lists as its own: those of its first stretch, then a memory's of its second port. Assumes nothing.
use Rattle.std.specs.Prelude.{ℕ, ◌+◌, ◌*◌, ◌<◌, Bool, true, false, ◌≡◌, refl, List, [], ◌++◌, take, drop, get_or}
use Rattle.std.proofs.Common.{sym, ap, ◌∙◌, append-nil, arith}
use Rattle.std.proofs.Math.Option.{none, some}
use Rattle.spec_tests.specs.Rules.{◌≡?◌, pick}
use Rattle.spec_tests.specs.Laws.{pick_hit, pick_skip, eq_yes, eq_no}
use Rattle.spec_rules.specs.NetlistImage.{port_length, memory_port_of, memory_of}
use Rattle.spec_netlist.specs.Accept.{second_data, own_nets}

-- by the record's sort t
unfoldable pub own_by : List ℕ → ℕ → List ℕ
own_by r t =
    let w = get_or r 2 0 in
    pick (t ≡? 0) (take w (drop 3 r))
    (pick (t ≡? 1) (take 1 (drop 3 r))
    (pick (t ≡? 2) (memory_port_of (drop 6 r)).read_data
    (pick (t ≡? 3) (take w (drop (4 + 2 * w) r))
    (take 1 (drop (3 + 2 * w) r)))))

abbrev pub first_own : List ℕ → List ℕ
first_own r = own_by r (get_or r 0 0)

unfoldable pub second_own : List ℕ → List ℕ
second_own r =
    let p = drop (6 + port_length (drop 6 r)) r in
    pick (get_or r 0 0 ≡? 0) [] (pick (get_or r 0 0 ≡? 1) [] (pick (get_or r 0 0 ≡? 2) (pick (get_or r 5 0 ≡? 2) (memory_port_of p).read_data []) []))

own_cases : (a b c d e : Bool) (x y z s v w : List ℕ)
    → pick a x (pick b y (pick c (z ++ pick e s []) (pick d v w))) ≡ pick a x (pick b y (pick c z (pick d v w))) ++ pick a [] (pick b [] (pick c (pick e s []) []))
unfolding pick
own_cases true b c d e x y z s v w = sym (append-nil x)
own_cases false true c d e x y z s v w = sym (append-nil y)
own_cases false false true d e x y z s v w = refl
own_cases false false false true e x y z s v w = sym (append-nil v)
own_cases false false false false e x y z s v w = sym (append-nil w)

second_data_law : (b : Bool) (p : List ℕ) → second_data (pick b (some (memory_port_of p)) none) ≡ pick b (memory_port_of p).read_data []
unfolding pick second_data
second_data_law true p = refl
second_data_law false p = refl

pub own_is : (r : List ℕ) → own_nets r ≡ first_own r ++ second_own r
unfolding own_nets own_by second_own memory_of
own_is r =
    let w = get_or r 2 0 in
    let t = get_or r 0 0 in
    let a = (memory_port_of (drop 6 r)).read_data in
    ap (λ (s : List ℕ). pick (t ≡? 0) (take w (drop 3 r)) (pick (t ≡? 1) (take 1 (drop 3 r)) (pick (t ≡? 2) (a ++ s) (pick (t ≡? 3) (take w (drop (4 + 2 * w) r)) (take 1 (drop (3 + 2 * w) r))))))
    (second_data_law (get_or r 5 0 ≡? 2) (drop (6 + port_length (drop 6 r)) r))
    ∙ own_cases (t ≡? 0) (t ≡? 1) (t ≡? 2) (t ≡? 3) (get_or r 5 0 ≡? 2) _ _ _ _ _ _

pub own_other : (r : List ℕ) (t : ℕ) → 3 < t → take 1 (drop (3 + 2 * get_or r 2 0) r) ≡ own_by r t
unfolding own_by
own_other r t h =
    pick_skip _ (eq_no t 0 (λ e. omega arith)) (pick_skip _ (eq_no t 1 (λ e. omega arith)) (pick_skip _ (eq_no t 2 (λ e. omega arith)) (pick_skip _ (eq_no t 3 (λ e. omega arith)) refl)))

-- no second port: another sort, or another port count
pub second_sort : (r : List ℕ) → (get_or r 0 0 ≡ 2 → ⊥) → [] ≡ second_own r
unfolding second_own pick
second_sort r n = go (get_or r 0 0 ≡? 0) (get_or r 0 0 ≡? 1) _ _ (eq_no _ _ n)
  where
    go : (a b d : Bool) (x : List ℕ) → d ≡ false → [] ≡ pick a [] (pick b [] (pick d x []))
    go true b d x e = refl
    go false true d x e = refl
    go false false d x e = pick_skip _ e refl

pub second_count : (r : List ℕ) → (get_or r 5 0 ≡ 2 → ⊥) → [] ≡ second_own r
unfolding second_own pick
second_count r n = go (get_or r 0 0 ≡? 0) (get_or r 0 0 ≡? 1) (get_or r 0 0 ≡? 2) _ _ (eq_no _ _ n)
  where
    go : (a b d e : Bool) (x : List ℕ) → e ≡ false → [] ≡ pick a [] (pick b [] (pick d (pick e x []) []))
    go true b d e x q = refl
    go false true d e x q = refl
    go false false true e x q = pick_skip _ q refl
    go false false false e x q = refl

pub second_port_law : (r : List ℕ) → get_or r 0 0 ≡ 2 → get_or r 5 0 ≡ 2 → (memory_port_of (drop (6 + port_length (drop 6 r)) r)).read_data ≡ second_own r
unfolding second_own
second_port_law r e f =
    pick_skip _ (eq_no _ 0 (λ q. omega arith)) (pick_skip _ (eq_no _ 1 (λ q. omega arith)) (pick_hit _ (eq_yes _ _ e) (pick_hit _ (eq_yes _ _ f) refl)))
