-- `check_header::start` meets its contract. The loop's invariant: at is where section j has to start. Assumes nothing.
use Prim.Native.Nat.{◌*◌}
use mathlib.Core.Path.{◌≡◌, sym}
use native.Mathlib.Omega.{arith}
use Rattle.spec_rules.specs.Image.{bytes_of}
use Rattle.image_fields.specs.Fields.{scaled}
use Rattle.check_header.specs.Header.{start_more, start_none}
use Rattle.check_header.proofs.start.Goals as goal

pub loop-j-init : goal.loop-j-init
loop-j-init c = (omega arith, sym (start_none _), omega arith)

pub loop-j-preserved : goal.loop-j-preserved
unfolding bytes_of
loop-j-preserved c =
    let s = c.args.image.now in
    let r = scaled c.count.result c.size.result (omega arith) c.size.ensures.1 in
    let e : c.count.result * c.size.result ≡ bytes_of s c.loop-j.j = cc c.size.ensures.0 in
    (omega arith, omega (arith, start_more s c.loop-j.j), omega arith)
