-- `net_ports::put_port` meets its contract. Assumes nothing.
use mathlib.Core.Path.{ap, ◌∙◌}
use native.Mathlib.Omega.{arith}
use lib.ListN.{length-set, length-drop}
use lib.Seq.{length-take-le}
use Rattle.spec_model.specs.Builder.{from}
use Rattle.net_ports.proofs.Laws.{port_put}
use Rattle.net_ports.proofs.put_port.Goals as goal

pub returns : goal.returns
returns c =
    port_put c.args.words.now c.put_run.new.out c.args.s c.args.first _ _ c.requires.0 (simp length-set) (simp length-set)
    (c.put_run.ensures ∙ ap (from c.args.first) (length-take-le _ _ (simp length-drop (omega arith)) ∙ simp length-set))
