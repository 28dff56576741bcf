-- What is proved of specs/Calls: Request Q-10 (docs/requests/Q-10.md), of the call: for every image that the checks pass, whatever the limits and the buffers' lengths, with either flag, each bit of an
-- expression has one net. Assumes nothing.
use Rattle.std.specs.Prelude.{ℕ, ◌≤◌, Bool, List, ◌≡◌}
use Rattle.std.proofs.Common.{arith}
use Rattle.spec_rtl.specs.Rtl.{Module}
use Rattle.spec_tests.specs.Rules.{Fine}
use Rattle.spec_rules.specs.Image.{decode}
use Rattle.spec_rules.specs.Checks.{checked}
use Rattle.spec_model.specs.Words.{absent}
use Rattle.law_walk.specs.Good.{Good}
use Rattle.check_image.specs.Accepted.{accepted}
use Rattle.law_module.proofs.Good.{good}
use Rattle.law_memo.specs.Memo.{OneNet}
use Rattle.law_memo.proofs.Claims as Claims
use Rattle.law_memo.specs.Passed.{asks_reached, calls_reached, call_ends}

-- of a well-formed module
pub one_net : (m : Module) → Good m → (ob : Bool) (n p : ℕ) → n ≤ absent → OneNet m ob n p
one_net m g ob n p h = record {
  calls = calls_reached m g ob n p h;
  asks = λ r. asks_reached m g ob n p h r;
  ends = call_ends m g ob n p h;
  same = λ r. Claims.same_net m g ob n p h r;
  made = λ r. Claims.net_made m g ob n p h r;
  bit = λ r. Claims.bit_again m g ob n p h r;
  again = λ r. Claims.again m g ob n p h r;
  still = λ r. Claims.again_here m g ob n p h r;
}

pub one_net_of_image : (s : List ℕ) (N P netlist scratch : ℕ) (ob : Bool) → checked s N P netlist scratch ≡ Fine → OneNet (decode s) ob N P
one_net_of_image s N P netlist scratch ob passed =
    let a = accepted s N P netlist scratch passed in
    one_net (decode s) (good s a.0) ob N P (omega (arith, a.1.nets))
