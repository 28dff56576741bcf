-- And and Or as one definition, over the gate's kind and the constant that decides it: `and_or`. Assumes nothing.
use Rattle.std.specs.Prelude.{◌≡◌, refl, Bool, true, false, not, cond, ◌||◌, ℕ, min, max, eqb}
use Rattle.spec_model.specs.Words.{absent, gate, Netlist}
use Rattle.spec_model.specs.Builder.{done, Made, is_constant, add_constant, add_cached, add_and, add_or}

-- equal inputs are one; the constant v decides; of the other constant the other input is left
unfoldable pub and_or : ℕ → Bool → ℕ → ℕ → Netlist → Made ℕ
and_or kind v a b l =
    cond (eqb a b) (done (a, l))
    (cond (is_constant v l a || is_constant v l b) (add_constant v l)
    (cond (is_constant (not v) l a) (done (b, l))
    (cond (is_constant (not v) l b) (done (a, l))
    (add_cached (gate kind (min a b) (max a b) absent) l))))

pub and_is : (a b : ℕ) (l : Netlist) → add_and a b l ≡ and_or 2 false a b l
unfolding add_and and_or
and_is a b l = refl

pub or_is : (a b : ℕ) (l : Netlist) → add_or a b l ≡ and_or 3 true a b l
unfolding add_or and_or
or_is a b l = refl
