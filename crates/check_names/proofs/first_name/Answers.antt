-- `check_names::first_name` meets its contract. Assumes nothing.
use Rattle.std.proofs.Common.{sym, arith}
use Rattle.spec_tests.specs.Laws.{first_most}
use Rattle.spec_tests.specs.Options.{first_none}
use Rattle.spec_rules.specs.Image.{count_at_of}
use Rattle.check_names.specs.Names.{wrong_name}
use Rattle.check_names.proofs.first_name.Goals as goal

pub returns-then-n-eq0 : goal.returns-then-n-eq0
returns-then-n-eq0 c = sym (first_none _ _ (omega (arith, first_most (wrong_name c.args.image.now c.args.k) (count_at_of c.args.image.now c.args.k))))
