-- `phase_parts::control_words` meets its contract. Assumes nothing.
use native.Mathlib.Omega.{arith}
use Rattle.scratch_view.specs.View.{state_of}
use Rattle.phase_parts.specs.Parts.{there_present}
use Rattle.phase_parts.proofs.Laws.{control_absent, control_present}
use Rattle.phase_parts.proofs.control_words.Goals as goal

pub bit_net-requires : goal.bit_net-requires
bit_net-requires c =
    let pre = c.requires in
    let a = c.args in
    let h = there_present a.e a.image.now c.in-Some.c c.in-Some.is pre.1 in
    (pre.0, h.there, omega (arith, h.one))

pub returns-in-None : goal.returns-in-None
returns-in-None c =
    let a = c.args in
    λ l. control_absent (state_of a.image.now l a.scr.now) a.e c.in-None.is

pub returns-in-Some : goal.returns-in-Some
returns-in-Some c =
    let a = c.args in
    λ l. control_present (state_of a.image.now l a.scr.now) a.e c.in-Some.c _ _ c.in-Some.is (c.bit_net.ensures l) c.low_word.ensures
