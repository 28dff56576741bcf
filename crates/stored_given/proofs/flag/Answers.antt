-- `stored_given::flag` meets its contract. Assumes nothing.
use Rattle.std.proofs.Common.{◌∙◌, refl, Bool, true, false, ◌≡◌}
use Rattle.spec_tests.specs.Rules.{pick}
use Rattle.stored_given.proofs.flag.Goals as goal

pub returns : goal.returns
unfolding pick
returns c = c.from.ensures ∙ elim c.args.given as (λ (b : Bool). mir.Val.bool_byte b ≡ pick b 1 0) [ true ↦ refl | false ↦ refl ]
