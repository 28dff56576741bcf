-- `net_records::push_record` meets its contract. Assumes nothing.
use native.Mathlib.Omega.{arith}
use lib.ListN.{get_or}
use Rattle.net_view.specs.Laws.{record_pushed, records_few}
use Rattle.net_records.proofs.Laws.{kind_word_law, kind_less, pushes, push_full}
use Rattle.net_records.proofs.push_record.Goals as goal

pub overflow_add-net-then-used-r : goal.overflow_add-net-then-used-r
overflow_add-net-then-used-r c = omega (arith, records_few c.args.n c.args.net.now c.requires.0 (get_or c.args.r.now 0 0) (kind_less c.args.r.now c.requires.1))

pub returns-then-used-r : goal.returns-then-used-r
returns-then-used-r c =
    let s = c.args in
    let w = s.net.now in
    let r = s.r.now in
    let f = c.requires.1 in
    pushes s.n w r c.requires.0 _ (omega arith)
    (rw c.put_words.ensures (record_pushed s.n w c.requires.0 (get_or r 0 0) (kind_less r f) r (omega arith) f (kind_word_law r f)))

pub returns-else-used-r : goal.returns-else-used-r
returns-else-used-r c = push_full c.args.n c.args.net.now c.args.r.now c.requires.0 _ (omega arith)
