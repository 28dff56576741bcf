-- `trace_tables::prepare` meets its contract. Assumes nothing.
use native.Mathlib.Omega.{arith}
use Rattle.std.proofs.Common.{sym, refl, ap, ◌∙◌, length}
use Rattle.trace_tables.specs.Few.{nets_few}
use Rattle.trace_tables.proofs.prepare.Goals as goal

pub returns : goal.returns
returns c = record {
  net = refl;
  prepared = record {
    ok = c.requires.0;
    plan = c.plan.ensures;
    inputs_are = c.nets_of.ensures;
    outputs_are = c.nets_of-2.ensures;
    registers_at = c.places-registers.ensures.places;
    memories_at = c.places-memories.ensures.places;
    fit = sym c.is_unfit.ensures ∙ c.if-is_unfit.false;
  };
  inputs_few = omega (arith, ap length c.nets_of.ensures, nets_few c.args.net.now 0, c.requires.2);
  outputs_few = omega (arith, ap length c.nets_of-2.ensures, nets_few c.args.net.now 8, c.requires.2);
}
