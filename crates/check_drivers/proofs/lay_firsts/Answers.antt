-- `check_drivers::lay_firsts` meets its contract. The loop's invariant: the sum is that of the widths below p, and the words below p are in place. Assumes nothing.
use mathlib.Core.Path.{◌≡◌, refl, sym, ap, ◌∙◌}
use Prim.Native.Nat.{◌<◌}
use native.Mathlib.Omega.{arith}
use lib.ListN.{length-set}
use Rattle.spec_tests.specs.Rules.{sum_to}
use Rattle.spec_tests.specs.Laws.{sum_none, sum_more}
use Rattle.spec_rules.specs.Image.{count_at_of, signal_width}
use Rattle.spec_rules.specs.Checks.{signal_bits}
use Rattle.check_drivers.specs.Bits.{signal_ends, first_more}
use Rattle.check_drivers.proofs.lay_firsts.Goals as goal

pub loop-p-init : goal.loop-p-init
loop-p-init c = (omega arith, sym (sum_none _), refl, λ q h. absurd (omega arith))

pub overflow_add-sum : goal.overflow_add-sum
overflow_add-sum c =
    let u : c.loop-p.p < count_at_of c.args.image.now 0 = omega arith in
    omega (arith, signal_ends _ _ u, c.requires.0.most)

pub loop-p-preserved : goal.loop-p-preserved
loop-p-preserved c =
    let s = c.args.image.now in
    let l = c.loop-p in (
      omega arith,
      omega (arith, sum_more (signal_width s) l.p),
      simp length-set l.invariant.2,
      first_more s l.firsts l.p (omega arith) l.invariant.3 _ l.invariant.1,
    )

pub returns : goal.returns
unfolding signal_bits
returns c =
    let e : c.loop-p.p ≡ count_at_of c.args.image.now 0 = omega arith in (
      c.loop-p.invariant.1 ∙ ap (sum_to (signal_width c.args.image.now)) e,
      record { fit = c.requires.0; few = omega arith; first_of = λ q h. c.loop-p.invariant.3 q (omega arith) },
    )
