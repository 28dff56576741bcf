-- From every state that the call goes through, what has nets is lowered again to the same nets and nothing is made; and a bit that has a net keeps it. Assumes
-- nothing.
use Rattle.std.specs.Prelude.{◌≡◌, ℕ, suc, ◌+◌, ◌*◌, ◌≤◌, ◌<◌, length}
use Rattle.std.proofs.Common.{suc-mul, arith}
use Rattle.spec_rtl.specs.Rtl.{Module}
use Rattle.spec_model.specs.Lowering.{Need, Bit, Whole, Range, plenty, sum_widths}
use Rattle.law_walk.specs.Reads.{Asked}
use Rattle.law_memo.specs.Relowered.{cost_of}

-- the call's fuel is enough
pub enough : (m : Module) (need : Need) → Asked m need → cost_of need < plenty m
unfolding plenty
enough m need a = go need a
  where
    least : (s c : ℕ) → c ≤ (s + 1) * c
    least s c = let q : s + 1 ≡ suc s = omega arith in rw q (rw (suc-mul s c) (omega arith))

    go : (need : Need) → Asked m need → cost_of need < (sum_widths m.signals + 1) * (2 * length m.exprs + 1)
    go (Bit s b) a = omega (arith, least (sum_widths m.signals) (2 * length m.exprs + 1))
    go (Whole e) a = omega (arith, least (sum_widths m.signals) (2 * length m.exprs + 1))
    go (Range e lsb w) a = omega (arith, a.0, least (sum_widths m.signals) (2 * length m.exprs + 1))
