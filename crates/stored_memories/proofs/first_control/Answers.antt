-- `stored_memories::first_control` meets its contract. Assumes nothing.
use Rattle.stored_memories.specs.Ports.{control_read, control_read_level, control_write, control_clock, second_level, third_level, pair_first, pair_second, pair_third}
use Rattle.stored_memories.proofs.first_control.Goals as goal

pub returns-in-Some : goal.returns-in-Some
returns-in-Some c =
    λ earlier m w base.
    pair_first _ earlier m w base _ _ (c.in-Some.ensures _ (control_read _ earlier m w base _ _ c.requires.1) (control_read_level _ earlier m w base _ _ c.requires.1))

pub returns-in-Some-first_in_clock : goal.returns-in-Some-first_in_clock
returns-in-Some-first_in_clock c =
    λ earlier m w base.
    pair_second _ earlier m w base _ _ (c.in_default.ensures _ (control_read _ earlier m w base _ _ c.requires.1) (control_read_level _ earlier m w base _ _ c.requires.1))
    (c.in-Some-first_in_clock.ensures _ (control_write _ earlier m w base _ _ c.requires.1) (second_level _ earlier m w base _ _ c.requires.1))

pub returns : goal.returns
returns c =
    λ earlier m w base.
    pair_third _ earlier m w base _ _ (c.in_default.ensures _ (control_read _ earlier m w base _ _ c.requires.1) (control_read_level _ earlier m w base _ _ c.requires.1))
    (c.in_default-first_in_clock.ensures _ (control_write _ earlier m w base _ _ c.requires.1) (second_level _ earlier m w base _ _ c.requires.1))
    (c.first_in_clock-2.ensures _ (control_clock _ earlier m w base _ _ c.requires.1) (third_level _ earlier m w base _ _ c.requires.1))
