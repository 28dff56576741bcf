-- `check_header::first_field` meets its contract. Assumes nothing.
use Rattle.std.proofs.Common.{rules, tests, refl, ◌∙◌}
use Rattle.spec_chains.proofs.Chains.{first_by_find}
use Rattle.spec_rules.specs.Checks.{wrong_field}
use Rattle.check_header.specs.Header.{found_short, found_long}
use Rattle.check_header.proofs.first_field.Goals as goal

pub returns-then-image-lt64 : goal.returns-then-image-lt64
returns-then-image-lt64 c = found_short _ c.if-image-lt64.true

pub returns : goal.returns
returns c =
    first_by_find 16 (wrong_field c.args.image.now) _ _ _ _ c.find.ensures.ran refl (λ x q k. search (rules, tests)) (λ x q k. search (rules, tests))
    ∙ found_long _ c.if-image-lt64.false
