-- `check_names::name_seen` meets its contract. Assumes nothing.
use mathlib.Core.Path.{sym}
use native.Mathlib.Omega.{arith}
use native.Mathlib.Nat.{mod-lt}
use Rattle.check_names.specs.Names.{hash_of, unseen, seen_set, seen_still}
use Rattle.check_names.proofs.name_seen.Goals as goal

pub returns-then-seen-at-eq0 : goal.returns-then-seen-at-eq0
returns-then-seen-at-eq0 c =
    let e = hash_of _ _ _ _ c.requires.1 c.args.r (omega arith) in
    (sym (unseen _ _ _ _ _ e c.requires.3 c.if-seen-at-eq0.true), seen_set _ _ _ _ _ e (mod-lt _ c.requires.2) c.requires.3)

pub returns : goal.returns
returns c = (c.name_taken.ensures, seen_still _ _ _ _ _ (hash_of _ _ _ _ c.requires.1 c.args.r (omega arith)) c.if-seen-at-eq0.false c.requires.3)
