-- `check_names::bad_bytes` meets its contract. Assumes nothing.
use Rattle.std.proofs.Common.{rules, tests, refl}
use Rattle.spec_chains.proofs.Chains.{any_by_any}
use Rattle.check_names.specs.Names.{bad_byte}
use Rattle.check_names.proofs.bad_bytes.Goals as goal

pub returns : goal.returns
unfolding bad_byte
returns c = any_by_any c.args.n (bad_byte c.args.t.now) _ _ _ c.any.ensures.ran refl (λ x q k. search (rules, tests)) (λ x q k. search (rules, tests))
