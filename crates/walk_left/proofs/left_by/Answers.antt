-- `walk_left::left_by` meets its contract. Assumes nothing.
use Rattle.walk_left.proofs.Lefts.{left_lower, left_last, left_bits, left_ends}
use Rattle.walk_left.proofs.left_by.Goals as goal

pub next_bit-requires : goal.next_bit-requires
next_bit-requires c =
    let pre = c.requires in
    (pre.0, rw c.in-Bits.is at pre.1)

pub returns-in-Lower : goal.returns-in-Lower
returns-in-Lower c =
    let a = c.args in
    λ rest at e t. left_lower a.image.now a.scr.now a.k rest at c.in-Lower.need c.in-Lower.at c.requires.2 (rw c.in-Lower.is at t)

pub returns-in-Last : goal.returns-in-Last
returns-in-Last c =
    let a = c.args in
    λ rest at e t. left_last a.image.now a.scr.now a.k rest at c.in-Last.need c.requires.2 e (rw c.in-Last.is at t)

pub returns-in-Bits : goal.returns-in-Bits
returns-in-Bits c =
    let a = c.args in
    λ rest at e t. left_bits a.image.now a.scr.now a.k rest at _ _ _ c.next_bit.result (rw c.in-Bits.is at t) c.next_bit.ensures

pub returns-in-Build : goal.returns-in-Build
returns-in-Build c =
    let a = c.args in
    λ rest at e t. left_ends a.image.now a.scr.now a.k rest at (rw c.in-Build.is at t)
