-- `check_drivers::mark` meets its contract. Assumes nothing.
use Rattle.std.proofs.Common.{◌≡◌, ℕ, ◌+◌, ◌-◌, ◌≤◌, ◌<◌, List, ◌++◌, take, drop, replicate, length, get_or, rules, arith, ◌∙◌, ap, length-drop, length-take-le}
use Rattle.std.proofs.slice.Indexed.{places}
use Rattle.check_drivers.specs.Bits.{mark_where}
use Rattle.check_drivers.proofs.mark.Goals as goal

abbrev filled : ℕ → ℕ → List ℕ → List ℕ
filled at n t = take at t ++ (replicate n 1 ++ drop n (drop at t))

long : (at n : ℕ) (t : List ℕ) → at + n ≤ length t → length (filled at n t) ≡ length t
long at n t h = search (rules, places)

low : (at n k : ℕ) (t : List ℕ) → at + n ≤ length t → k < at → get_or (filled at n t) k 0 ≡ get_or t k 0
low at n k t h l = search (rules, places)

mid : (at n k : ℕ) (t : List ℕ) → at + n ≤ length t → k < n → get_or (filled at n t) (at + k) 0 ≡ 1
mid at n k t h l = search (rules, places)

high : (at n k : ℕ) (t : List ℕ) → at + n ≤ length t → at + n ≤ k → get_or (filled at n t) k 0 ≡ get_or t k 0
high at n k t h l = search (rules, places)

pub returns : goal.returns
returns c =
    let at = c.args.at in
    let n = c.args.n in
    let t = c.args.taken.now in
    let h = c.requires in
    let k : at + n - at ≡ n = omega arith in
    let f : c.fill.new.self ≡ replicate n 1 = c.fill.ensures.after (λ y e. e) ∙ ap (λ (m : ℕ). replicate m 1) (ap (λ (m : ℕ). length (take m (drop at t))) k ∙ length-take-le n (drop at t) (omega (arith, length-drop at t))) in
    rw (k, f) (mark_where at n t (filled at n t) (long at n t h) (λ j l. low at n j t h l) (λ j l. mid at n j t h l) (λ j l. high at n j t h l))
