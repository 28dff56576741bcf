-- What the steps of the lowering call ask and leave: the words lent to the walk, its start, its end. Assumes nothing.
use Rattle.std.specs.Prelude.{◌≡◌, List, ℕ, ◌+◌, ◌*◌, ◌≤◌, ◌<◌, length, replicate, Ok, Err}
use Rattle.spec_rules.specs.Image.{decode}
use Rattle.spec_rules.specs.Checks.{netlist_need, scratch_need}
use Rattle.spec_model.specs.Words.{Netlist, words}
use Rattle.spec_model.specs.Builder.{Out, refused, done}
use Rattle.spec_model.specs.Lowering.{start, lower}
use Rattle.spec_call.specs.Call.{outcome}
use Rattle.check_image.specs.Accepted.{Accepted}
use Rattle.net_view.specs.View.{room}
use Rattle.scratch_view.specs.View.{limit_of}
use Rattle.walk_view.specs.View.{walk_state, Ready}
use Rattle.walk_view.specs.Refusals.{Lowered}
use Rattle.lower_outcome.specs.Answer.{end_of}

-- ---- the walk ----

-- the words lent for an accepted image and n nets
pub record Lent (s : List ℕ) (n : ℕ) (net w : List ℕ) : Type 0 where
  pub accepted : Accepted s
  pub some : 0 < n
  pub nets : n ≤ 65535
  pub sized : 16 + 6 * n ≤ length net
  pub list : room n net ≤ 65535
  pub long : length w ≡ scratch_need s n

-- the words hold the model's first state
pub record Begun (s net w : List ℕ) : Type 0 where
  pub ready : Ready s net w
  pub state : walk_state s net w ≡ start (decode s) (limit_of w) (room (limit_of w) net)

pub record Prepared (s : List ℕ) (n p : ℕ) (net w : List ℕ) : Type 0 where
  pub begun : Begun s net w
  pub limit : limit_of w ≡ n
  pub list : room n net ≡ p

-- the netlist words that an answer of the walk leaves
unfoldable pub kept_of : Lowered → List ℕ → List ℕ
kept_of (Ok u) net = net
kept_of (Err e) net = replicate (length net) 0

-- the words of an outcome: the netlist image, or all 0
unfoldable pub words_after : ℕ → ℕ → Out Netlist → List ℕ
words_after n p (refused k x y) = replicate (netlist_need n p) 0
words_after n p (done l) = words n p l

-- the walk with limits n and p answered r and left these words
pub record Ended (s : List ℕ) (n p : ℕ) (r : Lowered) (net w : List ℕ) : Type 0 where
  pub answered : end_of r ≡ outcome (lower (decode s) n p)
  pub image : net ≡ words_after n p (lower (decode s) n p)
  pub cleared : w ≡ replicate (scratch_need s n) 0
