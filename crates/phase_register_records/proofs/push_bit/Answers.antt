-- `phase_register_records::push_bit` meets its contract. Assumes nothing.
use native.Mathlib.Omega.{arith}
use mathlib.Core.Option.{Option}
use mathlib.Core.Path.{ap}
use Rattle.spec_rtl.specs.Rtl as R
use Rattle.spec_model.specs.Lowering.{register_bit}
use Rattle.image_records.specs.Others.{register_means}
use Rattle.walk_view.specs.View.{walk_state}
use Rattle.phase_parts.specs.Ran.{ran_as}
use Rattle.phase_register_records.proofs.Laws.{no_reset, reset_is, there_reset, wide_reset, whole_reset}
use Rattle.phase_register_records.proofs.push_bit.Goals as goal

pub push_reset-requires : goal.push_reset-requires
push_reset-requires c =
    let pre = c.requires in
    let a = c.args in
    let y = c.in-Some.y in
    let q = c.in-Some.is in
    (pre.0, pre.1, pre.2, pre.3, pre.4, there_reset a.x y q a.image.now pre.2, omega (arith, pre.4, wide_reset a.x y q a.image.now pre.2), whole_reset a.x y q a.image.now a.scr.now pre.3)

pub returns-in-None : goal.returns-in-None
returns-in-None c =
    let a = c.args in
    ran_as (ap (λ (o : Option R.Reset). register_bit o a.k (register_means a.x) a.b (walk_state a.image.now a.net.now a.scr.now))
    (no_reset a.x c.in-None.is)) c.push_register.ensures

pub returns-in-Some : goal.returns-in-Some
returns-in-Some c =
    let a = c.args in
    ran_as (ap (λ (o : Option R.Reset). register_bit o a.k (register_means a.x) a.b (walk_state a.image.now a.net.now a.scr.now))
    (reset_is a.x c.in-Some.y c.in-Some.is)) c.push_reset.ensures
