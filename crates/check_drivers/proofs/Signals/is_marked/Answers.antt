-- `check_drivers::Signals::is_marked` meets its contract. Assumes nothing.
use mathlib.Core.Path.{ap, ◌∙◌}
use Prim.Native.Nat.{ℕ, ◌+◌}
use native.Mathlib.Omega.{arith}
use Rattle.spec_tests.specs.Rules.{any}
use Rattle.check_drivers.specs.Bits.{marked, signal_ends, answers}
use Rattle.check_drivers.proofs.Signals.is_marked.Goals as goal

pub any_marked-requires : goal.any_marked-requires
any_marked-requires c = omega (arith, signal_ends _ _ c.requires.1)

pub returns : goal.returns
returns c =
    λ a i j m. c.any_marked.ensures ∙ ap (λ (x : ℕ). any (λ k. marked c.args.taken.now (x + k)) c.args.w) c.place.ensures ∙ answers _ a i j _ _ _ _ c.requires.1 c.requires.2 c.requires.3 m
