-- `phase_sources::reserve_register` meets its contract. Assumes nothing.
use native.Mathlib.Omega.{arith}
use mathlib.Core.Path.{refl, ◌∙◌}
use Rattle.net_index.specs.Index.{is_gate}
use Rattle.phase_sources.proofs.Laws.{register_target}
use Rattle.phase_sources.proofs.reserve_register.Goals as goal

pub reserve_bits-requires : goal.reserve_bits-requires
unfolding is_gate
reserve_bits-requires c =
    let g = c.requires.0.accepted.registers c.args.k c.requires.1 in
    (c.requires.0, rw c.record_field-target.ensures g.rest.there, refl, omega arith)

pub returns : goal.returns
returns c =
    rw (c.record_field-target.ensures ∙ register_target c.args.image.now c.args.k) at c.reserve_bits.ensures
