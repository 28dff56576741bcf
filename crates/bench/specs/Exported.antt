-- The same table for the exported call: what `struo_lower`, by its contract, answers and leaves. Assumes nothing.
use Rattle.std.specs.Prelude.{ℕ, List}
use Rattle.spec_call.specs.Call as Call
use Rattle.struo.specs.Answers.{Answers}
use Rattle.bench.specs.Row.{Row, RowHolds, Promised}

-- `struo_lower` on a row's image with its limits
abbrev pub Lowers : Row → List ℕ → List ℕ → List ℕ → List ℕ → List ℕ → Type 0
Lowers r buffer scratch answer buffer' scratch' = Answers r.image r.limits.0 r.limits.1 buffer scratch answer buffer' scratch'

promised : (r : Row) (buffer scratch answer buffer' scratch' : List ℕ) → Lowers r buffer scratch answer buffer' scratch' → Promised r buffer scratch answer buffer' scratch'
promised r buffer scratch answer buffer' scratch' p = record { given = Call.answer r.image r.limits.0 r.limits.1 buffer scratch; numbers = p.numbers; kept = p.lowered }

pub exported : (r : Row) → RowHolds r (Promised r) → RowHolds r (Lowers r)
exported r h = record {
  long = λ b s a b' s' x y p. h.long b s a b' s' x y (promised r b s a b' s' p);
  short_buffer = λ b s a b' s' x p. h.short_buffer b s a b' s' x (promised r b s a b' s' p);
  short_scratch = λ b s a b' s' x y p. h.short_scratch b s a b' s' x y (promised r b s a b' s' p);
}
