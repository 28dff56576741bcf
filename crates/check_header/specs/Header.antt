-- Laws of where sections start and of sums, and what a header with no wrong field tells.
use Rattle.std.specs.Prelude.{Option, Some, None, ℕ, ◌<◌, ◌≤◌, ◌+◌, ◌-◌, ◌*◌, ◌/◌, List, Bool, true, false, ◌≡◌, refl, length}
use Rattle.std.proofs.Common.{sym, ap, ◌∙◌, arith}
use Rattle.spec_tests.specs.Rules.{◌<?◌, ◌≢?◌, pick, first, Fine, Refused}
use Rattle.spec_tests.specs.Laws.{or_no, and_skip, pick_hit, pick_skip, eq_yes, eq_no, no_lt, no_ne, lt_yes, lt_no, first_most, none, sum_none, sum_more}
use Rattle.spec_tests.specs.Options.{first_of}
use Rattle.spec_chains.specs.Search.{some_below, none_below}
use Rattle.spec_rules.specs.Image.{word_at, most_of, count_at_of, offset_at, bytes_of, start_of, field}
use Rattle.spec_rules.specs.Checks.{wrong_count, wrong_field, first_field, header}

pub start_none : (s : List ℕ) → start_of s 0 ≡ 64
unfolding start_of
start_none s = omega (arith, sum_none (bytes_of s))

pub start_more : (s : List ℕ) (k : ℕ) → start_of s (k + 1) ≡ start_of s k + bytes_of s k
unfolding start_of
start_more s k = omega (arith, sum_more (bytes_of s) k)

-- a field of each record of a section, to be summed
unfoldable pub field_of : List ℕ → ℕ → ℕ → ℕ → ℕ
field_of s k f r = field s k r f

-- the first wrong field of the header, if there is one
unfoldable pub field_found : List ℕ → Option ℕ
field_found s = pick (first_field s <? 16) (Some (first_field s)) None

pub found_short : (s : List ℕ) → length s < 64 → Some 0 ≡ field_found s
unfolding field_found first_field pick
found_short s h = rw (lt_yes _ _ h) (sym (rw (lt_yes 0 16 (omega arith)) refl))

pub found_long : (s : List ℕ) → 64 ≤ length s → first_of (wrong_field s) 16 ≡ field_found s
unfolding field_found first_field first_of pick
found_long s h = rw (lt_no _ _ h) refl

pub found_tells : (s : List ℕ) (f : ℕ) → field_found s ≡ Some f → (f < 16) × (first_field s ≡ f)
unfolding field_found
found_tells s f e = some_below (first_field s) 16 f e

pub none_found : (s : List ℕ) → field_found s ≡ None → 16 ≤ first_field s
unfolding field_found
none_found s e = none_below (first_field s) 16 e

-- ---- a passed header ----

pub record Header (s : List ℕ) : Type 0 where
  pub long : 64 ≤ length s
  pub total : word_at s 4 ≡ length s
  pub most : (k : ℕ) → k < 7 → count_at_of s k ≤ most_of k
  pub offset : (k : ℕ) → k < 7 → offset_at s k ≡ start_of s k
  pub ends : start_of s 7 ≡ length s

count_field : (s : List ℕ) (k : ℕ) → wrong_count s k ≡ wrong_field s (2 + 2 * k)
unfolding wrong_field
count_field s k =
    let e : k ≡ (2 + 2 * k - 2) / 2 = omega arith in
    pick_skip _ (eq_no _ _ (omega arith)) (pick_skip _ (eq_no _ _ (omega arith)) (pick_hit _ (eq_yes _ _ (omega arith)) (ap (wrong_count s) e)))

offset_field : (s : List ℕ) (k : ℕ) → (offset_at s k ≢? start_of s k) ≡ wrong_field s (3 + 2 * k)
unfolding wrong_field
offset_field s k =
    let e : k ≡ (3 + 2 * k - 2) / 2 = omega arith in
    pick_skip _ (eq_no _ _ (omega arith)) (pick_skip _ (eq_no _ _ (omega arith)) (pick_skip _ (eq_no _ _ (omega arith)) (ap (λ (j : ℕ). offset_at s j ≢? start_of s j) e)))

pub passed_header : (s : List ℕ) → 64 ≤ length s → ((i : ℕ) → i < 16 → wrong_field s i ≡ false) → Header s
unfolding wrong_count wrong_field
passed_header s l p =
    record {
      long = l;
      total = no_ne _ _ (pick_skip _ (eq_no _ _ (omega arith)) (pick_hit _ (eq_yes 1 1 refl) refl) ∙ p 1 (omega arith));
      most = λ k h. no_lt _ _ (or_no (count_field s k ∙ p (2 + 2 * k) (omega arith))).0;
      offset = λ k h. no_ne _ _ (offset_field s k ∙ p (3 + 2 * k) (omega arith));
      ends = no_ne _ _ (and_skip (eq_yes 6 6 refl) refl ∙ (or_no (count_field s 6 ∙ p 14 (omega arith))).1);
    }

-- an answer that does not refuse: its test failed
pub not_refused : (t : Bool) (n a b : ℕ) → pick t (Refused n a b) Fine ≡ Fine → t ≡ false
unfolding pick
not_refused true n a b e = let z : ◌≡◌ {A = ℕ} 0 1 = cc in absurd (omega arith)
not_refused false n a b e = refl

no_field : (s : List ℕ) → 16 ≤ first_field s → (64 ≤ length s) × (16 ≤ first (wrong_field s) 16)
unfolding first_field pick
no_field s h = go (length s <? 64) refl h
  where
    go : (t : Bool) → (length s <? 64) ≡ t → 16 ≤ pick t 0 (first (wrong_field s) 16) → (64 ≤ length s) × (16 ≤ first (wrong_field s) 16)
    go true e z = absurd (omega arith)
    go false e z = (no_lt _ _ e, z)

-- the header's answer is Fine
pub header_tells : (s : List ℕ) → header s ≡ Fine → Header s
unfolding header
header_tells s e =
    let h = no_field s (no_lt _ _ (not_refused _ _ _ _ e)) in
    passed_header s h.0 (none (wrong_field s) 16 (omega (arith, first_most (wrong_field s) 16)))
