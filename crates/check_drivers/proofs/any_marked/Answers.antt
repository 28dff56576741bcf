-- `check_drivers::any_marked` meets its contract. Assumes nothing.
use Rattle.std.proofs.Common.{◌≡◌, ℕ, ◌+◌, ◌-◌, ◌≤◌, List, nat_eq, take, drop, length, get_or, refl, arith, ◌∙◌, ap, length-drop, length-take-le}
use Rattle.spec_tests.specs.Rules.{◌≡?◌, any}
use Rattle.spec_tests.specs.Any.{any_ext}
use Rattle.spec_chains.specs.Search.{any_in_list}
use Rattle.image_fields.specs.Fields.{byte_in}
use Rattle.check_drivers.specs.Bits.{marked}
use Rattle.check_drivers.proofs.any_marked.Goals as goal

-- of the n bytes from at on
in_part : (at n : ℕ) (t : List ℕ) → at + n ≤ length t → any (λ k. nat_eq (get_or (take n (drop at t)) k 0) 1) (length (take n (drop at t))) ≡ any (λ k. marked t (at + k)) n
unfolding marked ◌≡?◌
in_part at n t h =
    ap (any (λ k. nat_eq (get_or (take n (drop at t)) k 0) 1)) (length-take-le n (drop at t) (omega (arith, length-drop at t)))
    ∙ any_ext _ _ n (λ k l. ap (λ (x : ℕ). nat_eq x 1) (byte_in t at n k (at + k) l refl))

pub returns : goal.returns
returns c =
    let at = c.args.at in
    let n = c.args.n in
    let k : at + n - at ≡ n = omega arith in
    c.contains.ensures.value
    ∙ any_in_list (λ y. nat_eq y 1) (take (at + n - at) (drop at c.args.taken.now))
    ∙ rw k (in_part at n c.args.taken.now c.requires)
