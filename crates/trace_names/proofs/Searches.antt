-- What the search for a name's place tells, as an Option. Assumes nothing.
use Rattle.std.specs.Prelude as Prelude
use Rattle.std.specs.Prelude.{ℕ, ◌<◌, ◌≡◌, List, length, get_or}
use Rattle.std.proofs.Common.{sym}
use Rattle.spec_tests.specs.Rules.{◌≡?◌, ◌or◌}
use Rattle.spec_tests.specs.Options.{first_of}
use Rattle.spec_chains.specs.Search.{some_tells, none_tells}
use Rattle.trace_names.specs.Searched.{Place, place_told}

-- a place that is found; none is left
pub place_some : {names : List ℕ} {n : ℕ} {r : ℕ} → Prelude.Some r ≡ first_of (λ i. get_or names i 0 ≡? n or get_or names i 0 ≡? 0) (length names) → Place names n r × (r < length names)
place_some {names} {n} {r} e =
    let t = some_tells (λ i. get_or names i 0 ≡? n or get_or names i 0 ≡? 0) (length names) r (sym e) in
    (place_told names n r (sym t.1), t.0)

pub place_none : {names : List ℕ} {n : ℕ} → Prelude.None ≡ first_of (λ i. get_or names i 0 ≡? n or get_or names i 0 ≡? 0) (length names) → Place names n (length names)
place_none {names} {n} e =
    let t = none_tells (λ i. get_or names i 0 ≡? n or get_or names i 0 ≡? 0) (length names) (sym e) in
    place_told names n (length names) (sym t)
