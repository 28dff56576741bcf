-- Whose record a net of a kind is listed in; no net is listed by two records. Assumes nothing.
use Rattle.std.specs.Prelude.{ℕ, zero, suc, ◌+◌, ◌≤◌, ◌<◌, ◌≡◌, refl, Bool, true, false, List, [], ◌∷◌, ◌++◌, length, take, get_or}
use Rattle.std.proofs.Common.{not-suc-le-zero, arith, sym, ◌∙◌}
use Rattle.std.proofs.Math.Decide.{dec_lt}
use Rattle.std.proofs.Math.Path.{ap}
use Rattle.std.proofs.Math.ListN.{get_or-append}
use Rattle.std.proofs.Math.Seq.{take-append_seam}
use Rattle.spec_tests.specs.Rules.{◌≡?◌, ◌≢?◌, ◌or◌, pick, only}
use Rattle.spec_tests.specs.Laws.{or_left, or_right, eq_yes, eq_no, ne_yes}
use Rattle.spec_rules.specs.NetlistImage.{node_word, records_of, memory_of}
use Rattle.spec_netlist.specs.Accept.{member, second_data, own_nets, taken, count_of}
use Rattle.law_told.specs.Told.{untrue, both, pick_yes, pick_no, Owner}
use Rattle.law_told.specs.Owned.{Within, within, register_own, port_own, memory_own, arithmetic_own, comparison_own}
use Rattle.law_told.specs.Ordered.{arithmetic_there, comparison_there}
use Rattle.law_sorts.specs.Found.{of_sort, Found}

module _ (ws : List ℕ) (k : ℕ) (o : Owner ws (records_of ws) k) where
  abbrev r : List ℕ
  r = o.r

  pub port_there : get_or r 0 0 ≡ 0 → Within k 3 (get_or r 2 0) r
  unfolding own_nets
  port_there t = within k 3 (get_or r 2 0) r (ap (member k) (sym (pick_yes (get_or r 0 0 ≡? 0) _ _ (eq_yes (get_or r 0 0) 0 t))) ∙ o.owns)

  pub register_there : get_or r 0 0 ≡ 1 → Within k 3 1 r
  unfolding own_nets
  register_there t = within k 3 1 r (ap (member k) (sym (pick_no (get_or r 0 0 ≡? 0) _ _ (eq_no (get_or r 0 0) 0 (λ z. absurd (omega arith)))
      ∙ pick_yes (get_or r 0 0 ≡? 1) _ _ (eq_yes (get_or r 0 0) 1 t))) ∙ o.owns)

  pub memory_there : get_or r 0 0 ≡ 2 → member k ((memory_of r).first.read_data ++ second_data (memory_of r).second) ≡ true
  unfolding own_nets
  memory_there t = ap (member k) (sym (pick_no (get_or r 0 0 ≡? 0) _ _ (eq_no (get_or r 0 0) 0 (λ z. absurd (omega arith)))
      ∙ pick_no (get_or r 0 0 ≡? 1) _ _ (eq_no (get_or r 0 0) 1 (λ z. absurd (omega arith))) ∙ pick_yes (get_or r 0 0 ≡? 2) _ _ (eq_yes (get_or r 0 0) 2 t))) ∙ o.owns

  -- the kind of a record's own nets, by its sort
  port_kind : get_or r 0 0 ≡ 0 → (node_word ws k 0 ≡ 0 → ⊥) → (node_word ws k 0 ≡ 8 → ⊥) → ⊥
  port_kind t f g =
      let p = port_own ws o.earlier r o.here k (get_or r 2 0) t (port_there t) in
      let e = p.1 in
      let x = node_word ws (get_or (r ++ o.here.rest) 3 0) 0 in
      untrue (sym p.0 ∙ both (x ≢? 0) (x ≢? 8) (ne_yes x 0 (λ z. f (e ∙ z))) (ne_yes x 8 (λ z. g (e ∙ z))))

  by_sort : {P : Type 0} → (get_or r 0 0 ≡ 0 → P) → (get_or r 0 0 ≡ 1 → node_word ws k 0 ≡ 7 → P) → (get_or r 0 0 ≡ 2 → node_word ws k 0 ≡ 9 → P) → (9 < node_word ws k 0 → P) → P
  by_sort {P} f0 f1 f2 f3 = go (get_or r 0 0) refl
    where
      go : (t : ℕ) → get_or r 0 0 ≡ t → P
      go zero e = f0 e
      go (suc zero) e = f1 e (register_own ws o.earlier r o.here k e (register_there e)).kind
      go (suc (suc zero)) e = f2 e (memory_own ws o.earlier r o.here e k (memory_there e))
      go (suc (suc (suc zero))) e = f3 (let n = (arithmetic_own ws o.earlier r o.here k e (arithmetic_there ws k o e)).0.node in omega arith)
      go (suc (suc (suc (suc t)))) e = f3 (let n = (comparison_own ws o.earlier r o.here k (omega arith) (comparison_there ws k o (omega arith))).node in omega arith)

  pub input_sort : node_word ws k 0 ≡ 0 → get_or r 0 0 ≡ 0
  input_sort e = by_sort (λ f. f) (λ f g. absurd (omega arith)) (λ f g. absurd (omega arith)) (λ f. absurd (omega arith))

  pub register_sort : node_word ws k 0 ≡ 7 → get_or r 0 0 ≡ 1
  register_sort e = by_sort (λ f. absurd (port_kind f (λ z. omega arith) (λ z. omega arith))) (λ f g. f) (λ f g. absurd (omega arith)) (λ f. absurd (omega arith))

  pub memory_sort : node_word ws k 0 ≡ 9 → get_or r 0 0 ≡ 2
  memory_sort e = by_sort (λ f. absurd (port_kind f (λ z. omega arith) (λ z. omega arith))) (λ f g. absurd (omega arith)) (λ f g. f) (λ f. absurd (omega arith))

-- ---- an earlier record of the same sort ----

taken_at : (rs : List (List ℕ)) (q x : ℕ) → q < length rs → member x (own_nets (get_or rs q [])) ≡ true → taken rs x ≡ true
unfolding taken
taken_at [] q x h m = absurd (not-suc-le-zero h)
taken_at (r ∷ rs) zero x h m = or_left (taken rs x) m
taken_at (r ∷ rs) (suc q) x h m = or_right (member x (own_nets r)) (taken_at rs q x (omega arith) m)

count_take : (t : ℕ) (rs : List (List ℕ)) (a b : ℕ) → a ≤ b → length (of_sort t (take a rs)) ≤ length (of_sort t (take b rs))
unfolding only pick
count_take t rs zero b h = omega arith
count_take t rs (suc a) zero h = absurd (omega arith)
count_take t [] (suc a) (suc b) h = omega arith
count_take t (r ∷ rs) (suc a) (suc b) h = go (get_or r 0 0 ≡? t) (count_take t rs a b (omega arith))
  where
    go : (c : Bool) → length (of_sort t (take a rs)) ≤ length (of_sort t (take b rs)) → length (pick c (r ∷ of_sort t (take a rs)) (of_sort t (take a rs))) ≤ length (pick c (r ∷ of_sort t (take b rs)) (of_sort t (take b rs)))
    go true l = omega arith
    go false l = l

at_place : {A : Type 0} (xs : List A) (x d : A) (ys : List A) → get_or (xs ++ (x ∷ ys)) (length xs) d ≡ x
at_place [] x d ys = refl
at_place (y ∷ xs) x d ys = at_place xs x d ys

-- what record m of a sort lists is taken where a later one of the sort stands
pub earlier_taken : {ws : List ℕ} {t m i : ℕ} → (f : Found ws t m) (g : Found ws t i) → m < i → (x : ℕ) → member x (own_nets f.r) ≡ true → taken g.earlier x ≡ true
unfolding count_of
earlier_taken {ws} {t} {m} {i} f g h x e =
    let R = records_of ws in
    let a = length f.earlier in
    let b = length g.earlier in
    let ea : f.earlier ≡ take a R = sym (ap (take a) f.place ∙ take-append_seam f.earlier (f.r ∷ f.later)) in
    let eb : g.earlier ≡ take b R = sym (ap (take b) g.place ∙ take-append_seam g.earlier (g.r ∷ g.later)) in
    let ca : length (of_sort t (take a R)) ≡ m = ap (λ (z : List (List ℕ)). length (of_sort t z)) (sym ea) ∙ f.number in
    let cb : length (of_sort t (take b R)) ≡ i = ap (λ (z : List (List ℕ)). length (of_sort t z)) (sym eb) ∙ g.number in
    let l : a < b = before a b ca cb in
    let at : get_or g.earlier a [] ≡ f.r =
    sym (get_or-append g.earlier (g.r ∷ g.later) [] a l) ∙ ap (λ (z : List (List ℕ)). get_or z a []) (sym g.place ∙ f.place) ∙ at_place f.earlier f.r [] f.later in
    taken_at g.earlier a x l (ap (λ (z : List ℕ). member x (own_nets z)) at ∙ e)
  where
    before : (a b : ℕ) → length (of_sort t (take a (records_of ws))) ≡ m → length (of_sort t (take b (records_of ws))) ≡ i → a < b
    before a b ca cb = elim (dec_lt a b) [
      | yes l ↦ l
      | no l ↦ absurd (let c = count_take t (records_of ws) b a (omega arith) in omega arith)
    ]
