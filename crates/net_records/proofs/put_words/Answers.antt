-- `net_records::put_words` meets its contract. Assumes nothing.
use mathlib.Core.Path.{◌≡◌}
use Prim.Native.Nat.{◌+◌, ◌-◌}
use native.Mathlib.Omega.{arith}
use lib.ListN.{length}
use Rattle.net_records.proofs.Laws.{put_mid-sets}
use Rattle.net_records.proofs.put_words.Goals as goal

pub returns : goal.returns
returns c =
    let e : c.args.at + length c.args.r.now - c.args.at ≡ length c.args.r.now = omega arith in
    rw (c.copy.ensures, e) (put_mid-sets c.args.net.now c.args.r.now c.args.at c.requires)
