-- Marks and counts with one record more. Assumes nothing.
use Rattle.std.specs.Prelude.{ℕ, suc, ◌+◌, ◌<◌, ◌≤◌, Bool, true, false, ◌≡◌, refl, List, [], ◌∷◌, ◌++◌, length, take, get_or, set}
use Rattle.std.proofs.Common.{sym, ap, ◌∙◌, take-suc, get_or-set_same, get_or-set_other, arith}
use Rattle.spec_tests.specs.Rules.{◌≡?◌, ◌≢?◌, ◌or◌, pick, only}
use Rattle.spec_tests.specs.Laws.{or_right, eq_yes, eq_no, ne_yes, yes_eq, no_eq}
use Rattle.spec_netlist.specs.Accept.{nets, member, own_nets, taken, count_of}
use Rattle.stored_view.specs.Opened.{Marked, Counted}
use Rattle.stored_marks.specs.Runs.{first_own, second_own, own_is}

or_assoc : (a b c : Bool) → ((a or b) or c) ≡ (a or (b or c))
unfolding ◌or◌
or_assoc true b c = refl
or_assoc false b c = refl

or_false : (a : Bool) → (a or false) ≡ a
unfolding ◌or◌
or_false true = refl
or_false false = refl

pub member_append : (x : ℕ) (xs ys : List ℕ) → member x (xs ++ ys) ≡ (member x xs or member x ys)
unfolding member ◌or◌
member_append x [] ys = refl
member_append x (y ∷ xs) ys = ap (λ (b : Bool). (x ≡? y) or b) (member_append x xs ys) ∙ sym (or_assoc (x ≡? y) (member x xs) (member x ys))

pub member_none : (x : ℕ) → member x [] ≡ false
unfolding member
member_none x = refl

-- one element more at the end
pub member_more : (x y : ℕ) (xs : List ℕ) → member x (xs ++ (y ∷ [])) ≡ (member x xs or (x ≡? y))
unfolding member ◌or◌
member_more x y xs = member_append x xs (y ∷ []) ∙ ap (λ (b : Bool). member x xs or b) (or_false (x ≡? y))

-- marking one net; marking a list of them, one after the other
pub mark_none : (marks : List ℕ) (x y : ℕ) → length marks ≤ x → y < length marks → (get_or marks y 0 ≢? 0) ≡ ((get_or marks y 0 ≢? 0) or (y ≡? x))
mark_none marks x y h l = sym (ap (λ (b : Bool). (get_or marks y 0 ≢? 0) or b) (eq_no y x (λ e. omega arith)) ∙ or_false _)

pub mark_set : (marks : List ℕ) (x y : ℕ) → x < length marks → (get_or (set marks x 1) y 0 ≢? 0) ≡ ((get_or marks y 0 ≢? 0) or (y ≡? x))
mark_set marks x y h = go (y ≡? x) refl
  where
    go : (b : Bool) → (y ≡? x) ≡ b → (get_or (set marks x 1) y 0 ≢? 0) ≡ ((get_or marks y 0 ≢? 0) or (y ≡? x))
    go true q =
        ap (λ (k : ℕ). get_or (set marks x 1) k 0 ≢? 0) (yes_eq y x q)
        ∙ (ne_yes _ 0 (λ e. omega (arith, get_or-set_same marks x 1 0 h)) ∙ sym (or_right (get_or marks y 0 ≢? 0) q))
    go false q =
        ap (λ (k : ℕ). k ≢? 0) (get_or-set_other marks x y 1 0 (no_eq y x q))
        ∙ sym (ap (λ (b : Bool). (get_or marks y 0 ≢? 0) or b) q ∙ or_false _)

pub mark_start : (b : Bool) (x : ℕ) (own : List ℕ) → b ≡ (b or member x (take 0 own))
mark_start b x own = sym (ap (λ (d : Bool). b or d) (member_none x) ∙ or_false b)

pub mark_step : (a b d : Bool) (x i : ℕ) (own : List ℕ) → i < length own → b ≡ (a or member x (take i own)) → d ≡ (b or (x ≡? get_or own i 0)) → d ≡ (a or member x (take (i + 1) own))
mark_step a b d x i own h p q =
    let e : i + 1 ≡ suc i = omega arith in
    q ∙ (ap (λ (u : Bool). u or (x ≡? get_or own i 0)) p
    ∙ (or_assoc a (member x (take i own)) (x ≡? get_or own i 0)
    ∙ ap (λ (u : Bool). a or u) (sym (ap (λ (k : ℕ). member x (take k own)) e ∙ (ap (member x) (take-suc own i 0 h) ∙ member_more x (get_or own i 0) (take i own))))))

taken_append : (x : ℕ) (rs : List (List ℕ)) (r : List ℕ) → taken (rs ++ (r ∷ [])) x ≡ (taken rs x or member x (own_nets r))
unfolding taken ◌or◌
taken_append x [] r = or_false (member x (own_nets r))
taken_append x (s ∷ rs) r = ap (λ (b : Bool). member x (own_nets s) or b) (taken_append x rs r) ∙ sym (or_assoc (member x (own_nets s)) (taken rs x) (member x (own_nets r)))

-- the marks of two stretches are those of the record
pub marked_more : (ws : List ℕ) (earlier : List (List ℕ)) (r marks one two : List ℕ) → nets ws ≤ length marks → Marked ws earlier marks → nets ws ≤ length one
    → ((x : ℕ) → x < length marks → (get_or one x 0 ≢? 0) ≡ ((get_or marks x 0 ≢? 0) or member x (first_own r)))
    → ((x : ℕ) → x < length one → (get_or two x 0 ≢? 0) ≡ ((get_or one x 0 ≢? 0) or member x (second_own r))) → Marked ws (earlier ++ (r ∷ [])) two
marked_more ws earlier r marks one two n m k f g = record { says = says }
  where
    says : (x : ℕ) → x < nets ws → (get_or two x 0 ≢? 0) ≡ taken (earlier ++ (r ∷ [])) x
    says x h =
        g x (omega arith)
        ∙ (ap (λ (b : Bool). b or member x (second_own r)) (f x (omega arith) ∙ ap (λ (b : Bool). b or member x (first_own r)) (m.says x h))
        ∙ (or_assoc (taken earlier x) (member x (first_own r)) (member x (second_own r))
        ∙ (ap (λ (b : Bool). taken earlier x or b) (sym (ap (member x) (own_is r) ∙ member_append x (first_own r) (second_own r)))
        ∙ sym (taken_append x earlier r))))

only_append : (p : List ℕ → Bool) (rs : List (List ℕ)) (r : List ℕ) → length (only p (rs ++ (r ∷ []))) ≡ length (only p rs) + pick (p r) 1 0
unfolding only pick
only_append p [] r = go (p r)
  where
    go : (b : Bool) → length (pick {A = List (List ℕ)} b (r ∷ []) []) ≡ 0 + pick b 1 0
    go true = refl
    go false = refl
only_append p (s ∷ rs) r = go (p s) (only_append p rs r)
  where
    go : (b : Bool) → length (only p (rs ++ (r ∷ []))) ≡ length (only p rs) + pick (p r) 1 0
        → length (pick b (s ∷ only p (rs ++ (r ∷ []))) (only p (rs ++ (r ∷ [])))) ≡ length (pick b (s ∷ only p rs) (only p rs)) + pick (p r) 1 0
    go true ih = ap suc ih ∙ omega arith
    go false ih = ih

-- a record of sort u adds one to the count of sort u
count_same : (rs : List (List ℕ)) (r : List ℕ) (t : ℕ) → get_or r 0 0 ≡ t → count_of t (rs ++ (r ∷ [])) ≡ count_of t rs + 1
unfolding count_of pick
count_same rs r t e = only_append (λ s. get_or s 0 0 ≡? t) rs r ∙ ap (λ (b : Bool). length (only (λ s. get_or s 0 0 ≡? t) rs) + pick b 1 0) (eq_yes _ _ e)

count_other : (rs : List (List ℕ)) (r : List ℕ) (t : ℕ) → (get_or r 0 0 ≡ t → ⊥) → count_of t (rs ++ (r ∷ [])) ≡ count_of t rs
unfolding count_of pick
count_other rs r t n = only_append (λ s. get_or s 0 0 ≡? t) rs r ∙ (ap (λ (b : Bool). length (only (λ s. get_or s 0 0 ≡? t) rs) + pick b 1 0) (eq_no _ _ n) ∙ omega arith)

pub counted_more : (earlier : List (List ℕ)) (r counts : List ℕ) → get_or r 0 0 < length counts → Counted earlier counts
    → Counted (earlier ++ (r ∷ [])) (set counts (get_or r 0 0) (get_or counts (get_or r 0 0) 0 + 1))
counted_more earlier r counts h m = record { says = says }
  where
    go : (t : ℕ) → t < 5 → (b : Bool) → (get_or r 0 0 ≡? t) ≡ b → get_or (set counts (get_or r 0 0) (get_or counts (get_or r 0 0) 0 + 1)) t 0 ≡ count_of t (earlier ++ (r ∷ []))
    go t l true q =
        let e = yes_eq _ _ q in
        ap (λ (k : ℕ). get_or (set counts (get_or r 0 0) (get_or counts (get_or r 0 0) 0 + 1)) k 0) (sym e)
        ∙ (get_or-set_same counts (get_or r 0 0) _ 0 h
        ∙ (ap (λ (k : ℕ). get_or counts k 0 + 1) e ∙ (ap (λ (k : ℕ). k + 1) (m.says t l) ∙ sym (count_same earlier r t e))))
    go t l false q =
        let n = no_eq _ _ q in
        get_or-set_other counts (get_or r 0 0) t _ 0 (λ e. n (sym e)) ∙ (m.says t l ∙ sym (count_other earlier r t n))

    says : (t : ℕ) → t < 5 → get_or (set counts (get_or r 0 0) (get_or counts (get_or r 0 0) 0 + 1)) t 0 ≡ count_of t (earlier ++ (r ∷ []))
    says t l = go t l (get_or r 0 0 ≡? t) refl
