-- A list's rest, from a place on, that is lent and put back: its length. Assumes nothing.
use mathlib.Core.Path.{◌≡◌, ◌∙◌}
use mathlib.Core.List.{List}
use Prim.Native.Nat.{ℕ, ◌+◌, ◌-◌, ◌≤◌}
use native.Mathlib.Omega.{arith}
use borrow.Rule.Slice.PartMut.{put_mid, same_len_mid}
use lib.ListN.{length, take, drop, length-drop}
use Rattle.std.proofs.Common.{length-take}

pub rest_fits : (xs : List ℕ) (a m n : ℕ) → length xs ≡ n → a + m ≤ n → m ≤ length (take (length xs - a) (drop a xs))
rest_fits xs a m n e h = omega (arith, length-take (length xs - a) (drop a xs), length-drop a xs)

pub back_long : (xs part : List ℕ) (a n : ℕ) → length part ≡ length (take (length xs - a) (drop a xs)) → length xs ≡ n → length (put_mid a (length xs - a) xs part) ≡ n
back_long xs part a n e h = same_len_mid a (length xs - a) xs part e ∙ h
