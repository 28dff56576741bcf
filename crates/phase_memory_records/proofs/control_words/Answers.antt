-- `phase_memory_records::control_words` meets its contract. Assumes nothing.
use native.Mathlib.Omega.{arith}
use Rattle.scratch_view.specs.View.{state_of}
use Rattle.image_records.specs.Others.{enable_means, port_means}
use Rattle.phase_memory_records.proofs.Laws.{tail_are}
use Rattle.phase_memory_records.proofs.control_words.Goals as goal

pub control_words-read-requires : goal.control_words-read-requires
unfolding port_means
control_words-read-requires c =
    let pre = c.requires in
    (pre.0, pre.1.read_enable)

pub control_words-write-requires : goal.control_words-write-requires
unfolding port_means enable_means
control_words-write-requires c =
    let pre = c.requires in
    (pre.0, pre.1.write_enable)

pub bit_net-clock-requires : goal.bit_net-clock-requires
unfolding port_means
bit_net-clock-requires c =
    let pre = c.requires in
    (pre.0, pre.1.clock.there, omega (arith, pre.1.clock.one))

pub returns : goal.returns
unfolding port_means enable_means
returns c =
    let a = c.args in
    λ l. tail_are (state_of a.image.now l a.scr.now) (port_means a.p) _ _ _ _ _ _ (c.control_words-read.ensures l) (c.control_words-write.ensures l) (c.bit_net-clock.ensures l) c.low_word-edge.ensures
