-- `stored_memories::first_in_memory` meets its contract. Assumes nothing.
use Rattle.std.proofs.Common.{◌≡◌, ◌∙◌, refl, arith, get_or}
use Rattle.stored_memories.specs.Memory.{fields_fit, width_fits, first_room, second_room, fields_found, fields_clean, first_found, alone_clean, second_found, second_clean}
use Rattle.stored_memories.proofs.first_in_memory.Goals as goal

pub first_field-requires : goal.first_field-requires
first_field-requires c = fields_fit _ c.requires.2 c.requires.3

pub returns-in-Some : goal.returns-in-Some
returns-in-Some c = λ earlier m. fields_found _ _ _ c.requires.2 (c.in-Some.ensures.0 _ earlier)

pub bounds-l-7 : goal.bounds-l-7
bounds-l-7 c =
    omega (arith, width_fits c.args.l.now c.requires.2 c.requires.3 (c.in_default.ensures.1 refl))

pub first_in_port-requires : goal.first_in_port-requires
first_in_port-requires c =
    let room = first_room c.args.l.now c.requires.2 c.requires.3 (c.in_default.ensures.1 refl) c.part-one.ensures in
    (c.requires.0, c.requires.1, room.0, omega (arith, room.1, c.requires.4), omega arith)

pub returns-in-Some-first_in_port : goal.returns-in-Some-first_in_port
returns-in-Some-first_in_port c =
    λ earlier m.
    fields_clean _ _ _ c.requires.2 (c.in_default.ensures.0 _ earlier)
    (first_found _ _ _ c.requires.2 c.part-one.ensures (c.in-Some-first_in_port.ensures.0 earlier m))

pub returns-then-l-eq1 : goal.returns-then-l-eq1
returns-then-l-eq1 c =
    λ earlier m.
    fields_clean _ _ _ c.requires.2 (c.in_default.ensures.0 _ earlier)
    (alone_clean _ _ _ c.requires.2 c.part-one.ensures (c.in_default-first_in_port.ensures.0 earlier m) c.if-l-eq1.true)

pub first_in_port-requires-2 : goal.first_in_port-requires-2
first_in_port-requires-2 c =
    let two : get_or c.args.l.now 5 0 ≡ 2 = omega (arith, c.in_default.ensures.1 refl, c.if-l-eq1.false) in
    let room = second_room c.args.l.now c.requires.2 c.requires.3 two c.part-one.ensures c.port_length-second.ensures.0 c.part.ensures in
    (c.requires.0, c.requires.1, room.0, omega (arith, room.1, c.requires.4), omega (arith, c.in_default-first_in_port.ensures.1 refl))

pub returns-in_err-i : goal.returns-in_err-i
returns-in_err-i c =
    let two : get_or c.args.l.now 5 0 ≡ 2 = omega (arith, c.in_default.ensures.1 refl, c.if-l-eq1.false) in
    λ earlier m.
    c.from_residual.ensures
    ∙ fields_clean _ _ _ c.requires.2 (c.in_default.ensures.0 _ earlier)
    (second_clean _ _ _ c.requires.2 c.part-one.ensures (c.in_default-first_in_port.ensures.0 earlier m) c.port_length-second.ensures.0 c.part.ensures two (c.in_err-i.ensures.0 earlier m))

pub returns : goal.returns
returns c =
    let two : get_or c.args.l.now 5 0 ≡ 2 = omega (arith, c.in_default.ensures.1 refl, c.if-l-eq1.false) in
    λ earlier m.
    fields_clean _ _ _ c.requires.2 (c.in_default.ensures.0 _ earlier)
    (second_found _ _ _ c.requires.2 c.part-one.ensures (c.in_default-first_in_port.ensures.0 earlier m) c.port_length-second.ensures.0 c.part.ensures two (c.in_ok-i.ensures.0 earlier m))
