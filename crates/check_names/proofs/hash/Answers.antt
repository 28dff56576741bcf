-- `check_names::hash` meets its contract. Assumes nothing.
use Rattle.std.proofs.Common.{rules, fold, ◌≡◌, ◌∙◌}
use Rattle.check_names.specs.Names.{mixed, hash_fold}
use Rattle.check_names.proofs.hash.Goals as goal

pub returns : goal.returns
returns c = let h : c.fold.result ≡ fold mixed 0 c.args.t.now = search rules in h ∙ hash_fold 0 c.args.t.now
