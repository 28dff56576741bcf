-- A list of needs, lowered one by one in the model, and all of them met. Assumes nothing.
use Rattle.std.specs.Prelude.{◌≡◌, true, List, [], ◌∷◌}
use Rattle.spec_model.specs.Builder.{Out, done, and_then}
use Rattle.spec_model.specs.Lowering as M
use Rattle.spec_model.specs.Lowering.{State}
use Rattle.walk_view.specs.Met.{met}

unfoldable pub lower_needs : (M.Need → State → Out State) → List M.Need → State → Out State
lower_needs rec [] st = done st
lower_needs rec (n ∷ ns) st = and_then (rec n st) (λ st₁. lower_needs rec ns st₁)

abbrev pub NeedsMet : State → List M.Need → Type 0
NeedsMet st [] = Unit {0}
NeedsMet st (n ∷ ns) = (met st n ≡ true) × NeedsMet st ns
