-- `walk_build::whole_in` meets its contract. Assumes nothing.
use native.Mathlib.Omega.{arith}
use mathlib.Core.Path.{◌∙◌}
use lib.Seq.{length-take-le}
use Rattle.walk_build.proofs.Ways.{plain_nots, asked, read_at, fits_at, room, job_model, small, built_whole}
use Rattle.walk_invariant.specs.Makes.{whole_makes}
use Rattle.walk_build.proofs.whole_in.Goals as goal

pub read_whole-job-requires : goal.read_whole-job-requires
read_whole-job-requires c =
    let a = c.args in
    (asked a.image.now a.net.now a.scr.now c.requires.0 a.e c.requires.2 c.requires.3, c.requires.4, c.requires.6)

pub make-made-requires : goal.make-made-requires
make-made-requires c =
    let xs = c.read_whole-job.auto.xs in
    let ys = c.read_whole-job.auto.ys in
    (c.requires.0, fits_at _ _ _ _ xs (read_at _ _ _ _ _ _ _ c.expr_width-w.ensures c.read_whole-job.ensures).fits, omega (arith, xs, c.requires.5), omega (arith, xs, ys, c.requires.6), plain_nots _ c.requires.1.sound)

pub keep_whole-requires : goal.keep_whole-requires
keep_whole-requires c =
    let a = c.args in
    let rd = read_at _ _ _ _ _ _ _ c.expr_width-w.ensures c.read_whole-job.ensures in
    let p = job_model _ _ _ _ _ _ _ _ _ _ _ _ _ rd c.make-made.ensures in
    let m = whole_makes a.image.now a.net.now a.scr.now c.requires.0.accepted c.requires.1 a.e c.requires.2 c.requires.3 in
    let fit = room _ _ c.make-made.new.xs c.read_whole-job.new.xs rd.fits.most c.make-made.auto.xs c.read_whole-job.auto.xs in
    (p.ready.laid, c.requires.2, length-take-le c.expr_width-w.result c.make-made.new.xs fit ∙ c.expr_width-w.ensures, small _ _ _ _ _ _ _ _ _ fit m p)

pub returns : goal.returns
returns c =
    let a = c.args in
    let rd = read_at _ _ _ _ _ _ _ c.expr_width-w.ensures c.read_whole-job.ensures in
    let p = job_model _ _ _ _ _ _ _ _ _ _ _ _ _ rd c.make-made.ensures in
    built_whole a.image.now a.net.now a.scr.now _ _ _ _ a.e _ _ c.requires.1 c.requires.2 c.keep_whole.auto.scr c.expr_width-w.result _ p c.keep_whole.ensures
