-- `stored_marks::port_own` meets its contract. Assumes nothing.
use mathlib.Core.Path.{ap₂, ◌∙◌}
use Rattle.spec_rules.specs.NetlistImage.{memory_port_of}
use Prim.Native.Nat.{ℕ, ◌+◌}
use lib.ListN.{take, drop}
use Rattle.stored_marks.proofs.port_own.Goals as goal

pub returns : goal.returns
unfolding memory_port_of
returns c = c.stretch.ensures ∙ ap₂ (λ (a n : ℕ). take n (drop (4 + a) c.args.p.now)) c.word_at.ensures c.word_at-2.ensures
