-- What a turn leaves, where more is read and where not. Assumes nothing.
use Rattle.std.proofs.Common.{sym, ap, ◌∙◌}
use Rattle.std.specs.Prelude.{Option, Some, None, IfSome}
use Rattle.trace_run.specs.Bundles.{wait_of}
use Rattle.trace.specs.Turn.{used_in, left_few, not_last, held_rest, turned_read, turned_on}
use Rattle.trace.proofs.turn.Goals as goal

if_some : {A : Type 0} {P Q : A → Type 0} (o : Option A) → IfSome o P → ((x : A) → P x → Q x) → IfSome o Q
if_some None h f = h
if_some (Some x) h f = f x h

pub read_more-requires : goal.read_more-requires
read_more-requires c = left_few c.args.bytes.now c.args.h.from c.args.h.end c.requires.1 c.requires.2 _ _ c.take_lines-r.ensures.ran.up_to (c.take_lines-r.ensures.ran.waits (ap wait_of c.in-Wait.is)).1 c.requires.3

pub returns-in-Full : goal.returns-in-Full
returns-in-Full c =
    let ran = c.take_lines-r.ensures.ran in
    let long = c.take_lines-r.ensures.same.0.1 in
    let on = not_last _ _ c.goes_on.ensures c.if-not-goes_on.false in
    let rest = held_rest c.args.bytes.now c.args.h.from c.args.h.end c.take_lines-r.result.used in
    ((ran.underway on, long.1 ∙ c.requires.0.1 ∙ sym long.0), used_in c.args.bytes.now c.args.h.from c.args.h.end c.requires.1 c.requires.2 _ ran.up_to, c.requires.2, turned_on ran on rest)

pub returns-in-Wait : goal.returns-in-Wait
returns-in-Wait c =
    let ran = c.take_lines-r.ensures.ran in
    let long = c.take_lines-r.ensures.same.0.1 in
    let on = not_last _ _ c.goes_on.ensures c.if-not-goes_on.false in
    let rest = held_rest c.args.bytes.now c.args.h.from c.args.h.end c.take_lines-r.result.used in
    if_some c.read_more.result c.read_more.ensures (λ r h. ((rw h.0 (ran.underway on), long.1 ∙ c.requires.0.1 ∙ sym long.0), h.1, h.2, turned_read ran on rest h.3 h.0))
