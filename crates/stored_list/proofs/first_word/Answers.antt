-- `stored_list::first_word` meets its contract. Assumes nothing.
use Rattle.std.proofs.Common.{refl, true≢false, arith}
use Rattle.stored_view.specs.Clear.{cleared_word}
use Rattle.stored_list.specs.Walking.{start, met_found, met_room, met_clean, met_fits, met_some_more, met_sort, met_next, last_told, last_marked, last_counted, counts_room}
use Rattle.stored_list.proofs.first_word.Goals as goal

pub loop-p-init : goal.loop-p-init
loop-p-init c = start c.args.net.now _ c.args.counts.now (λ x h. cleared_word c.args.marks.now _ _ x c.requires.1 (c.fill.ensures.after (λ y e. e)) h) c.requires.2

pub overflow_add-result : goal.overflow_add-result
overflow_add-result c = let w = c.loop-p.invariant in omega (arith, c.requires.0.few_words_of, met_room w c.requires.0 (omega arith) c.stretch-l.ensures (c.in-Some.ensures w.earlier w.marked w.counted))

pub returns-in-Some : goal.returns-in-Some
returns-in-Some c =
    let w = c.loop-p.invariant in
    let wrong = c.in-Some.ensures w.earlier w.marked w.counted in
    (met_found w c.requires.0 (omega arith) c.stretch-l.ensures wrong, (λ b. absurd (true≢false b)), met_room w c.requires.0 (omega arith) c.stretch-l.ensures wrong)

pub keep-requires : goal.keep-requires
keep-requires c =
    let w = c.loop-p.invariant in
    let clean = met_clean w c.requires.0 (omega arith) c.stretch-l.ensures c.record_length-length.ensures (c.in_default.ensures w.earlier w.marked w.counted) in
    (met_sort w c.requires.0 (omega arith) c.stretch-l.ensures c.record_length-length.ensures refl clean c.stretch.ensures, counts_room w c.requires.0)

pub overflow_add-p : goal.overflow_add-p
overflow_add-p c =
    let w = c.loop-p.invariant in
    let clean = met_clean w c.requires.0 (omega arith) c.stretch-l.ensures c.record_length-length.ensures (c.in_default.ensures w.earlier w.marked w.counted) in
    omega (arith, c.requires.0.few_words_of, met_fits w c.requires.0 (omega arith) c.stretch-l.ensures c.record_length-length.ensures refl clean c.stretch.ensures)

pub loop-p-smaller : goal.loop-p-smaller
loop-p-smaller c =
    let w = c.loop-p.invariant in
    let clean = met_clean w c.requires.0 (omega arith) c.stretch-l.ensures c.record_length-length.ensures (c.in_default.ensures w.earlier w.marked w.counted) in
    omega (arith, met_fits w c.requires.0 (omega arith) c.stretch-l.ensures c.record_length-length.ensures refl clean c.stretch.ensures, met_some_more w c.requires.0 (omega arith) c.stretch-l.ensures c.record_length-length.ensures refl clean c.stretch.ensures)

pub loop-p-preserved : goal.loop-p-preserved
loop-p-preserved c =
    let w = c.loop-p.invariant in
    let clean = met_clean w c.requires.0 (omega arith) c.stretch-l.ensures c.record_length-length.ensures (c.in_default.ensures w.earlier w.marked w.counted) in
    let kept = c.keep.ensures c.args.net.now w.earlier (omega arith) w.marked w.counted in
    met_next w c.requires.0 (omega arith) c.stretch-l.ensures c.record_length-length.ensures refl clean c.stretch.ensures kept.0 kept.1

pub returns : goal.returns
returns c = let w = c.loop-p.invariant in (last_told w c.requires.0 (omega arith), (λ b. (last_marked w c.requires.0 (omega arith), last_counted w c.requires.0 (omega arith))), tt)
