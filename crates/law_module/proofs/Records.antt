-- What is proved of specs/Records: The records of the decoded module, each by its number: what it is in the image. Assumes nothing.
use Rattle.std.specs.Prelude.{ℕ, ◌+◌, Bool, true, false, List, ◌≡◌}
use Rattle.std.proofs.Math.Option.{none, some}
use Rattle.std.proofs.Math.Path.{refl}
use Rattle.spec_rtl.specs.Rtl as R
use Rattle.spec_tests.specs.Rules.{◌≡?◌, pick}
use Rattle.spec_tests.specs.Laws.{no_eq}
use Rattle.spec_rules.specs.Image as image
use Rattle.spec_rules.specs.Image.{field, has_second, second_port}
use Rattle.law_walk.specs.Tables.{none_some, some_eq}
use Rattle.law_module.specs.Records.{Second}

pub second_at : (s : List ℕ) (k : ℕ) (q : R.Port) → (image.memory_at s k).second ≡ some q → Second s k q
unfolding image.memory_at pick
second_at s k q e = go (field s 5 k has_second ≡? 0) refl e
  where
    go : (t : Bool) → (field s 5 k has_second ≡? 0) ≡ t → pick t none (some (image.port_of (λ i. field s 5 k (second_port + i)))) ≡ some q → Second s k q
    go true z e = absurd (none_some e)
    go false z e = record { there = no_eq _ 0 z; is = some_eq e }
