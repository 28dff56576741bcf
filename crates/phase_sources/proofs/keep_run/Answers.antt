-- `phase_sources::keep_run` meets its contract. Assumes nothing.
use mathlib.Core.Path.{◌≡◌, ap, ◌∙◌}
use Prim.Native.Nat.{ℕ}
use native.Mathlib.Omega.{arith}
use lib.ListN.{length, replicate}
use lib.Seq.{length-take-le, take_at}
use Rattle.spec_model.specs.Builder.{from}
use Rattle.word_laws.specs.Runs.{length_from}
use Rattle.phase_sources.proofs.Laws.{run_small}
use Rattle.phase_sources.proofs.keep_run.Goals.{After-put_run}
use Rattle.phase_sources.proofs.keep_run.Goals as goal

-- the numbers fill what they were lent
run : (c : After-put_run) → (c.put_run.new.out ≡ from c.args.first c.args.n) × (length c.put_run.new.out ≡ c.args.n)
run c =
    let m = c.requires.0.image.signal_most c.args.p c.requires.1 in
    let l = length-take-le {A = ℕ} c.args.n (replicate 1024 0) (omega (arith, m, c.requires.2)) in
    (c.put_run.ensures ∙ ap (from c.args.first) l, c.put_run.auto.out ∙ l)

pub keep_signals-requires : goal.keep_signals-requires
keep_signals-requires c =
    let a = c.args in
    let r = run (goal.at.keep_signals-requires c).After-put_run in
    rw (take_at c.put_run.new.out _ a.n r.1, r.0) (c.requires.0, c.requires.1, length_from a.first a.n ∙ c.requires.2, run_small a.first a.n c.requires.3)

pub returns : goal.returns
returns c =
    let r = run (goal.at.returns c).After-put_run in
    rw (take_at c.put_run.new.out _ c.args.n r.1, r.0) at c.keep_signals.ensures
