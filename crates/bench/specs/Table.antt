-- The joint table of the bench cases: for each row, what every call that keeps the lowering call's promise answers and leaves; and in
-- which rows the number that comes out is not the bench's. Assumes nothing.
use Rattle.std.specs.Prelude.{ℕ, Bool, not, List, [], ◌∷◌, refl}
use Rattle.spec_tests.specs.Rules.{same_text}
use Rattle.spec_call.specs.Call as Call
use Rattle.spec_call.specs.Call.{numbers_of}
use Rattle.law_call.proofs.Calls.{promise_met}
use Rattle.bench.specs.Row.{Row, Promised}
use Rattle.bench.specs.Rows.{k1, k2, k3, k3_sum, k3', k4, k4_sum, k4', k5, k6, k7, k8, k9, k10, k10_sum, k10', k11, k12}

abbrev pub table : List Row
table = k1 ∷ k2 ∷ k3 ∷ k3_sum ∷ k3' ∷ k4 ∷ k4_sum ∷ k4' ∷ k5 ∷ k6 ∷ k7 ∷ k8 ∷ k9 ∷ k10 ∷ k10_sum ∷ k10' ∷ k11 ∷ k12 ∷ []

infixr 30 ◌&◌
-- P of each row
pub data Each (P : Row → Type 0) : List Row → Type 0 where
  end : Each P []
  ◌&◌ : {r : Row} {rs : List Row} → P r → Each P rs → Each P (r ∷ rs)

pub each : {P Q : Row → Type 0} → ((r : Row) → P r → Q r) → (rs : List Row) → Each P rs → Each Q rs
each f [] end = end
each f (r ∷ rs) (p & ps) = f r p & each f rs ps

-- no row is empty: what the definitions give keeps the promise, whatever the buffers
pub met : (r : Row) (buffer scratch : List ℕ) → Promised r buffer scratch (numbers_of (Call.answer r.image r.limits.0 r.limits.1 buffer scratch))
    (Call.buffer_after r.image r.limits.0 r.limits.1 buffer scratch) (Call.scratch_after r.image r.limits.0 r.limits.1 buffer scratch)
met r buffer scratch = record { given = Call.answer r.image r.limits.0 r.limits.1 buffer scratch; numbers = refl; kept = promise_met r.image r.limits.0 r.limits.1 buffer scratch }

-- ---- the bench's numbers beside what comes out ----

abbrev pub differs : Row → Bool
differs r = not (same_text r.document r.found)
