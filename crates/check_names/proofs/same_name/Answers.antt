-- `check_names::same_name` meets its contract. Names with other hashes are not equal. Assumes nothing.
use Rattle.std.proofs.Common.{sym, ◌∙◌, arith, ne_eqb}
use Rattle.check_names.specs.Names.{same_name, other_hash, hash_of}
use Rattle.check_names.proofs.same_name.Goals as goal

pub returns-then-hs-j : goal.returns-then-hs-j
unfolding same_name
returns-then-hs-j c = cc

pub returns-else-hs-j : goal.returns-else-hs-j
returns-else-hs-j c =
    ne_eqb _ _ c.if-hs-j.false
    ∙ sym (other_hash _ _ _ _ (λ e. c.if-hs-j.false (hash_of _ _ _ _ c.requires.2 c.args.j (omega arith) ∙ e ∙ sym (hash_of _ _ _ _ c.requires.2 c.args.r (omega arith)))))
