-- `image_fields::word` meets its contract. Assumes nothing.
use Prim.Native.Nat.{ℕ}
use mathlib.Core.Path.{ap, ◌∙◌}
use native.Mathlib.Nat.{add-sub_cancel_left}
use native.Mathlib.Omega.{arith}
use lib.Dec.{lit≤}
use lib.ListN.{take, drop}
use Rattle.spec_rules.specs.Image.{word_at}
use Rattle.image_fields.specs.Fields.{word_in}
use Rattle.image_fields.proofs.word.Goals as goal

pub returns-then-at-image : goal.returns-then-at-image
returns-then-at-image c =
    let a = c.args in
    c.first_word.ensures
    ∙ ap (λ (k : ℕ). word_at (take k (drop a.at a.image.now)) 0) (add-sub_cancel_left a.at 4)
    ∙ word_in a.image.now a.at 4 0 (lit≤ tt)
    ∙ ap (λ (k : ℕ). word_at a.image.now k) (omega arith)
