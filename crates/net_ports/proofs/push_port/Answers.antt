-- `net_ports::push_port` meets its contract. Assumes nothing.
use Rattle.net_ports.proofs.push_port.Goals as goal
use mathlib.Core.Path.{◌∙◌}
use Prim.Native.Nat.{ℕ, ◌+◌}
use lib.ListN.{replicate}
use lib.Seq.{length-take-le, take_at}
use native.Mathlib.Omega.{arith}
use Rattle.spec_model.specs.Builder.{from}
use Rattle.word_laws.specs.Runs.{length_from}
use Rattle.net_view.specs.Formed.{formed_port}
use Rattle.net_ports.proofs.Laws.{width}

pub push_record-requires : goal.push_record-requires
push_record-requires c =
    let s = c.args in
    let e = length-take-le {A = ℕ} (3 + s.w) (replicate 1027 0) (omega (arith, c.requires.1)) in
    (c.requires.0, rw (take_at c.put_port.new.words _ (3 + s.w) (c.put_port.auto.words ∙ e), c.put_port.ensures, e, width s.w) (formed_port s.s s.w (from s.first s.w) (length_from s.first s.w)))

pub returns : goal.returns
returns c =
    let s = c.args in
    let e = length-take-le {A = ℕ} (3 + s.w) (replicate 1027 0) (omega (arith, c.requires.1)) in
    rw (take_at c.put_port.new.words _ (3 + s.w) (c.put_port.auto.words ∙ e), c.put_port.ensures, e, width s.w) at c.push_record.ensures
