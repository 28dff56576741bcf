-- A stretch of a record's words that are its own nets, of one kind and owner, their bits from base on. Assumes nothing.
use Rattle.std.specs.Prelude.{ℕ, ◌+◌, ◌-◌, Bool, List, get_or}
use Rattle.spec_netlist.specs.Accept.{not_own_of}

-- word j of l is not the record's own net of this kind and owner with bit base + (j - a)
abbrev pub not_own_at : List ℕ → List (List ℕ) → List ℕ → ℕ → ℕ → ℕ → ℕ → ℕ → Bool
not_own_at ws earlier l kind owner base a j = not_own_of ws earlier (get_or l j 0) kind owner (base + (j - a))
