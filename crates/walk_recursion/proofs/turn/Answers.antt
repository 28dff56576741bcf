-- `walk_recursion::turn` meets its contract. Assumes nothing.
use Rattle.walk_recursion.proofs.Ways.{whole_at_law}
use Rattle.walk_recursion.proofs.turn.Goals as goal

pub turn_whole-requires : goal.turn_whole-requires
turn_whole-requires c =
    let a = c.args in
    let pre = c.requires in
    let i = a.image.now in
    let n = a.net.now in
    let w = a.scr.now in
    let so = rw c.in-Whole.is at pre.so in
    record { net₀ = pre.net₀; w₀ = pre.w₀; so = whole_at_law i pre.net₀ pre.w₀ c.in-Whole.e a.k a.at n w so }

pub turn_range-requires : goal.turn_range-requires
turn_range-requires c =
    let pre = c.requires in
    record { net₀ = pre.net₀; w₀ = pre.w₀; so = rw c.in-Range.is at pre.so }

pub returns-in-Whole : goal.returns-in-Whole
returns-in-Whole c =
    let a = c.args in
    let i = a.image.now in
    let n = a.net.now in
    let w = a.scr.now in
    λ net₀ w₀ h. rw c.in-Whole.is (c.turn_whole.ensures net₀ w₀ (whole_at_law i net₀ w₀ c.in-Whole.e a.k a.at n w (rw c.in-Whole.is at h)))

pub returns-in-Range : goal.returns-in-Range
returns-in-Range c =
    λ net₀ w₀ h. rw c.in-Range.is (c.turn_range.ensures net₀ w₀ (rw c.in-Range.is at h))
