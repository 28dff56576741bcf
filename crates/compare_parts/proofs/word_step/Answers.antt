-- `compare_parts::word_step` meets its contract. Assumes nothing.
use mathlib.Core.Path.{sym, ◌∙◌}
use native.Mathlib.Omega.{arith}
use Rattle.compare_parts.proofs.Laws.{front}
use Rattle.compare_parts.proofs.word_step.Goals as goal

pub slice_bounds-nets_step-end : goal.slice_bounds-nets_step-end
slice_bounds-nets_step-end c =
    sym (front c.args.w c.some_nets-lhs.result c.some_nets-lhs.ensures c.requires.4)

pub slice_bounds-nets_step-end-2 : goal.slice_bounds-nets_step-end-2
slice_bounds-nets_step-end-2 c =
    sym (front c.args.w c.some_nets-rhs.result c.some_nets-rhs.ensures c.requires.4)

pub nets_step-requires : goal.nets_step-requires
nets_step-requires c =
    let l = front c.args.w c.some_nets-lhs.result c.some_nets-lhs.ensures c.requires.4 in
    let r = front c.args.w c.some_nets-rhs.result c.some_nets-rhs.ensures c.requires.4 in
    (c.requires.0, c.requires.1, c.requires.2, omega (arith, l, c.requires.3), l ∙ sym r, omega (arith, l, c.requires.4))
