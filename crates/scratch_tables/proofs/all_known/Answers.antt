-- `scratch_tables::all_known` meets its contract: invariant: the words passed hold nets, and what is left decides. Assumes nothing.
use Rattle.scratch_tables.proofs.Ways.{known_begins, known_turn, known_stops, known_ends}
use Rattle.scratch_tables.proofs.all_known.Goals as goal

pub loop-i-init : goal.loop-i-init
loop-i-init c = known_begins c.args.scr.now c.args.at c.args.n

pub returns-then-scr-at-eq0 : goal.returns-then-scr-at-eq0
returns-then-scr-at-eq0 c =
    let l = c.loop-i in
    known_stops c.args.scr.now c.args.at c.args.n l.i l.invariant c.loop-i-test.true c.if-scr-at-eq0.true

pub loop-i-preserved : goal.loop-i-preserved
loop-i-preserved c =
    let l = c.loop-i in
    known_turn c.args.scr.now c.args.at c.args.n l.i l.invariant c.loop-i-test.true c.if-scr-at-eq0.false

pub returns : goal.returns
returns c =
    let l = c.loop-i in
    known_ends c.args.scr.now c.args.at c.args.n l.i l.invariant c.loop-i-test.false
