-- `net_words::node_word` meets its contract. Assumes nothing.
use Prim.Native.Nat.{ℕ, ◌+◌, ◌*◌}
use mathlib.Core.Path.{ap, ◌∙◌}
use lib.ListN.{get_or}
use Rattle.spec_rules.specs.NetlistImage.{node_word}
use Rattle.net_words.proofs.node_word.Goals as goal

pub returns : goal.returns
unfolding node_word
returns c = c.word_at-2.ensures ∙ ap (λ (x : ℕ). get_or c.args.net.now (x + 6 * c.args.n + c.args.f) 0) c.word_at.ensures
