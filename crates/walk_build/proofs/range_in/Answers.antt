-- `walk_build::range_in` meets its contract. Assumes nothing.
use native.Mathlib.Omega.{arith}
use lib.Seq.{length-take-le}
use Rattle.walk_build.proofs.Ways.{plain_nots, asked_range, fits_at, room, job_model, small, built_range}
use Rattle.walk_invariant.specs.Makes.{range_makes}
use Rattle.walk_build.proofs.range_in.Goals as goal

pub read_range-job-requires : goal.read_range-job-requires
read_range-job-requires c =
    let a = c.args in
    (asked_range a.image.now a.net.now a.scr.now c.requires.0 a.e c.requires.2 a.lsb a.w c.requires.3 c.requires.4 c.requires.5, c.requires.6, c.requires.8)

pub make-made-requires : goal.make-made-requires
make-made-requires c =
    let xs = c.read_range-job.auto.xs in
    let ys = c.read_range-job.auto.ys in
    (c.requires.0, fits_at _ _ _ _ xs c.read_range-job.ensures.fits, omega (arith, xs, c.requires.7), omega (arith, xs, ys, c.requires.8), plain_nots _ c.requires.1.sound)

pub keep_range-requires : goal.keep_range-requires
keep_range-requires c =
    let a = c.args in
    let rd = c.read_range-job.ensures in
    let p = job_model _ _ _ _ _ _ _ _ _ _ _ _ _ rd c.make-made.ensures in
    let m = range_makes a.image.now a.net.now a.scr.now c.requires.0.accepted c.requires.1 a.e c.requires.2 a.lsb a.w c.requires.4 c.requires.5 in
    let fit = room _ _ c.make-made.new.xs c.read_range-job.new.xs rd.fits.most c.make-made.auto.xs c.read_range-job.auto.xs in
    (p.ready.laid, c.requires.2, omega (arith, c.requires.4, length-take-le c.args.w c.make-made.new.xs fit), small _ _ _ _ _ _ _ _ _ fit m p)

pub returns : goal.returns
returns c =
    let a = c.args in
    let rd = c.read_range-job.ensures in
    let p = job_model _ _ _ _ _ _ _ _ _ _ _ _ _ rd c.make-made.ensures in
    let fit = room _ _ c.make-made.new.xs c.read_range-job.new.xs rd.fits.most c.make-made.auto.xs c.read_range-job.auto.xs in
    built_range a.image.now a.net.now a.scr.now _ _ _ _ a.e _ _ c.requires.1 c.requires.2 c.keep_range.auto.scr a.lsb a.w c.requires.4 fit _ p c.keep_range.ensures
