-- `stored_records::above` meets its contract. Assumes nothing.
use Rattle.std.proofs.Common.{rules, ◌≡◌, ◌∙◌, ◌+◌, max}
use Rattle.std.proofs.iter.runs.Made.{chains}
use Rattle.std.specs.Prelude.{fold}
use Rattle.stored_records.specs.Above.{fold_above}
use Rattle.stored_records.proofs.above.Goals as goal

pub returns : goal.returns
returns c =
    let e : c.fold.result ≡ fold (λ n y. max n (y + 1)) c.args.m c.args.nets.now = search (rules, chains) in
    e ∙ fold_above c.args.m c.args.nets.now
