-- `phase_sources::reserve_memory` meets its contract. Assumes nothing.
use native.Mathlib.Omega.{arith}
use mathlib.Core.Path.{refl}
use Rattle.net_index.specs.Index.{is_gate}
use Rattle.walk_view.proofs.Errors.{err_is}
use Rattle.phase_sources.proofs.Laws.{first_there, memory_out, memory_both}
use Rattle.phase_sources.proofs.reserve_memory.Goals as goal

pub reserve_bits-requires : goal.reserve_bits-requires
unfolding is_gate
reserve_bits-requires c =
    (c.requires.0, rw c.record_field-p.ensures (first_there c.args.image.now c.args.k c.requires.0.accepted c.requires.1), refl, omega arith)

pub returns-in_err-reserve_bits : goal.returns-in_err-reserve_bits
returns-in_err-reserve_bits c =
    rw (err_is _ _ c.from_residual.ensures) (memory_out _ _ _ _ _ c.args.k _ _ c.record_field-p.ensures c.in_err-reserve_bits.ensures tt)

pub returns : goal.returns
returns c =
    let a = c.args in
    let t = first_there a.image.now a.k c.requires.0.accepted c.requires.1 in
    memory_both _ _ _ _ _ a.k _ _ c.record_field-p.ensures c.in_ok-reserve_bits.ensures _ _ _ _ refl (rw c.record_field-p.ensures t) c.signal_width-b.ensures c.reserve_second.ensures
