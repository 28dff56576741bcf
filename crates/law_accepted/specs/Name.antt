-- What acceptance tells of a name: how long it is, and its bytes.
use Rattle.std.specs.Prelude.{ℕ, ◌+◌, ◌≤◌, ◌<◌, false, List, ◌≡◌, length, drop, get_or}
use Rattle.std.proofs.Common.{arith, length-drop, length-take-le, lit<}
use Rattle.spec_tests.specs.Laws.{or_no, no_lt, inside, not_any}
use Rattle.spec_rules.specs.Image.{size_of, count_at_of, offset_at, bytes_of, part, field, name_of}
use Rattle.spec_rules.specs.Checks.{bad_name}
use Rattle.check_header.specs.Header.{Header, start_more}

pub record GoodName (s : List ℕ) (k r : ℕ) : Type 0 where
  pub least : 1 ≤ length (name_of s k r)
  pub most : length (name_of s k r) ≤ 64
  pub whole : length (name_of s k r) ≡ field s k r 1
  pub bytes : (i : ℕ) → i < length (name_of s k r) → (33 ≤ get_or (name_of s k r) i 0) × (get_or (name_of s k r) i 0 ≤ 126)

-- the names' part of the image has the bytes that the header says
names_length : (s : List ℕ) → Header s → length (part s 6) ≡ count_at_of s 6
unfolding part bytes_of size_of
names_length s h =
    let o = h.offset 6 (lit< tt) in
    let e = h.ends in
    let m = start_more s 6 in
    let l = length-drop (offset_at s 6) s in
    omega arith

name_length : (s : List ℕ) (k r : ℕ) → Header s → field s k r 0 + field s k r 1 ≤ count_at_of s 6 → length (name_of s k r) ≡ field s k r 1
unfolding name_of
name_length s k r h e =
    let n = names_length s h in
    let d = length-drop (field s k r 0) (part s 6) in
    length-take-le (field s k r 1) (drop (field s k r 0) (part s 6)) (omega arith)

pub good_name_law : (s : List ℕ) (k r : ℕ) → Header s → bad_name s k r ≡ false → GoodName s k r
unfolding bad_name
good_name_law s k r h e =
    let p = or_no e in
    let q = or_no p.1 in
    let i = inside _ _ _ p.0 in
    let l = name_length s k r h (no_lt _ _ q.0) in
    record {
      least = omega arith;
      most = omega arith;
      whole = l;
      bytes = λ j b. inside _ _ _ (not_any _ _ q.1 j (omega arith));
    }
