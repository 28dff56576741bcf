-- `net_nodes::copy` meets its contract. Assumes nothing.
use mathlib.Core.Path.{refl, sym, ap, ◌∙◌}
use mathlib.Core.List.{List, [], ◌∷◌, ◌++◌}
use Prim.Native.Nat.{ℕ}
use native.Mathlib.Omega.{arith}
use lib.ListN.{get_or}
use Rattle.std.proofs.lemmas.List.{take_all, take_more, take_more_set}
use Rattle.net_nodes.proofs.copy.Goals as goal

pub loop-i-init : goal.loop-i-init
loop-i-init c = refl

pub loop-i-preserved : goal.loop-i-preserved
loop-i-preserved c =
    let i = c.loop-i.i in
    let xs = c.args.from.now in
    take_more_set c.loop-i.to i (get_or xs i 0) (omega (arith, c.loop-i.auto.to, c.requires, c.loop-i-test.true))
    ∙ ap (λ (t : List ℕ). t ++ (get_or xs i 0 ∷ [])) c.loop-i.invariant ∙ sym (take_more xs i 0 c.loop-i-test.true)

pub returns : goal.returns
returns c =
    sym (take_all c.loop-i.i c.loop-i.to (omega (arith, c.loop-i.auto.to, c.requires, c.loop-i-test.false)))
    ∙ c.loop-i.invariant ∙ take_all c.loop-i.i c.args.from.now c.loop-i-test.false
