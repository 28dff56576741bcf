-- Each word of a memory's record is right. Assumes nothing.
use Prim.Native.Nat.{ℕ, ◌+◌, ◌-◌}
use Rattle.std.proofs.Common.{arith, ◌∙◌, length-append, get_or-append-add}
use Rattle.std.specs.Prelude.{◌≡◌, refl, true, List, ◌++◌, length}
use Rattle.std.proofs.Math.ListN.{get_or, get_or-append}
use Rattle.spec_tests.specs.Rules.{◌or◌}
use Rattle.spec_rules.specs.NetlistImage.{port_lists, port_length}
use Rattle.spec_netlist.specs.Accept.{member}
use Rattle.law_told.specs.Owned.{spot}
use Rattle.law_listed.specs.Parts.{member_at}

-- a port's words by its four widths
pub size_of : (p : List ℕ) → (port_lists p ≡ get_or p 0 0 + get_or p 1 0 + get_or p 2 0 + get_or p 3 0) × (port_length p ≡ 4 + port_lists p + 6)
unfolding port_length port_lists
size_of p = (refl, refl)

pub left : (x : ℕ) (xs ys : List ℕ) → member x xs ≡ true → member x (xs ++ ys) ≡ true
left x xs ys h =
    let s = spot x xs h in
    let n = length-append xs ys in
    let i = s.inside in
    member_at x (xs ++ ys) s.at (omega arith) (get_or-append xs ys 0 s.at i ∙ s.is)

pub right : (x : ℕ) (xs ys : List ℕ) → member x ys ≡ true → member x (xs ++ ys) ≡ true
right x xs ys h =
    let s = spot x ys h in
    let n = length-append xs ys in
    let i = s.inside in
    member_at x (xs ++ ys) (length xs + s.at) (omega arith) (get_or-append-add xs ys s.at 0 ∙ s.is)
