-- What is made of a whole expression, once its steps are done, stands for its word. Assumes nothing.
use Rattle.std.specs.Prelude.{◌≡◌, Bool, true, cond, ℕ, zero, suc, ◌-◌, ◌<◌, length, take, replicate}
use Rattle.std.proofs.Math.Path.{refl, sym}
use Rattle.std.proofs.Common.{◌∙◌, arith, length-take}
use Rattle.std.proofs.Math.Bool.{false}
use mathlib.Core.List.{List, [], ◌∷◌, map}
use Rattle.std.proofs.Math.Option.{Option, none, some}
use Rattle.spec_rtl.specs.Word.{length_bits}
use Rattle.spec_rtl.specs.Rtl as R
use Rattle.spec_rtl.specs.Rtl.{Valuation, Binary}
use Rattle.spec_model.specs.Words.{Netlist}
use Rattle.spec_model.specs.Ranges.{class_of, adder_width}
use Rattle.spec_model.specs.Lowering.{State, is_add, add_operands, carry_lsb, Operands, fused, operands_of, whole, backwards, truncated}
use Rattle.word_laws.specs.Widths.{AllBelow, BinWidth}
use Rattle.word_ranges.specs.Fusion.{cell_word}
use Rattle.law_walk.specs.Tables.{none_some, Has}
use Rattle.law_walk.specs.Kept.{Table, NetsGive}
use Rattle.law_walk.specs.Reads.{holds_slice}

-- an operator that is an Add
pub add_only : (op : Binary) → is_add (class_of op) ≡ true → op ≡ R.Add
add_only R.And t = let z : ◌≡◌ {A = ℕ} 0 1 = cc in absurd (omega arith)
add_only R.Or t = let z : ◌≡◌ {A = ℕ} 0 1 = cc in absurd (omega arith)
add_only R.Xor t = let z : ◌≡◌ {A = ℕ} 0 1 = cc in absurd (omega arith)
add_only R.Add t = refl
add_only R.Sub t = let z : ◌≡◌ {A = ℕ} 0 1 = cc in absurd (omega arith)
add_only R.Mul t = let z : ◌≡◌ {A = ℕ} 0 1 = cc in absurd (omega arith)
add_only R.Equal t = let z : ◌≡◌ {A = ℕ} 0 1 = cc in absurd (omega arith)
add_only R.NotEqual t = let z : ◌≡◌ {A = ℕ} 0 1 = cc in absurd (omega arith)
add_only R.LessU t = let z : ◌≡◌ {A = ℕ} 0 1 = cc in absurd (omega arith)
add_only R.LessS t = let z : ◌≡◌ {A = ℕ} 0 1 = cc in absurd (omega arith)
add_only R.LessEqU t = let z : ◌≡◌ {A = ℕ} 0 1 = cc in absurd (omega arith)
add_only R.LessEqS t = let z : ◌≡◌ {A = ℕ} 0 1 = cc in absurd (omega arith)
add_only R.GreaterU t = let z : ◌≡◌ {A = ℕ} 0 1 = cc in absurd (omega arith)
add_only R.GreaterS t = let z : ◌≡◌ {A = ℕ} 0 1 = cc in absurd (omega arith)
add_only R.GreaterEqU t = let z : ◌≡◌ {A = ℕ} 0 1 = cc in absurd (omega arith)
add_only R.GreaterEqS t = let z : ◌≡◌ {A = ℕ} 0 1 = cc in absurd (omega arith)
add_only R.ShiftL t = let z : ◌≡◌ {A = ℕ} 0 1 = cc in absurd (omega arith)
add_only R.ShiftR t = let z : ◌≡◌ {A = ℕ} 0 1 = cc in absurd (omega arith)
add_only R.ShiftA t = let z : ◌≡◌ {A = ℕ} 0 1 = cc in absurd (omega arith)

-- without a carry they are the plain operands
pub data Taken (op : Binary) (a b : ℕ) : Operands → Type 0 where
  plain : Taken op a b (record { lhs = a; rhs = b; carry = none })
  fusion : {x y c : ℕ} → op ≡ R.Add → Taken op a b (record { lhs = x; rhs = y; carry = some c })

taken_fused : {op : Binary} {a b : ℕ} → op ≡ R.Add → (p : Option (ℕ × ℕ)) (c : Option ℕ) (o : Operands) → Taken op a b o → Taken op a b (fused p c o)
taken_fused e none c o t = t
taken_fused e (some p) none o t = t
taken_fused e (some p) (some c) o t = fusion e

pub taken : (xs : List R.Expr) (op : Binary) (a b : ℕ) → Taken op a b (operands_of xs op a b)
unfolding operands_of
taken xs op a b = go (is_add (class_of op)) refl
  where
    go : (t : Bool) → is_add (class_of op) ≡ t
        → Taken op a b (cond t (fused (add_operands xs a) (carry_lsb xs b) (fused (add_operands xs b) (carry_lsb xs a) (record { lhs = a; rhs = b; carry = none })))
        (record { lhs = a; rhs = b; carry = none }))
    go true e =
        let q = add_only op e in
        let o : Operands = record { lhs = a; rhs = b; carry = none } in
        taken_fused q (add_operands xs a) (carry_lsb xs b) (fused (add_operands xs b) (carry_lsb xs a) o) (taken_fused q (add_operands xs b) (carry_lsb xs a) o plain)
    go false e = plain

-- a word truncated
abbrev pub truncated_w : Option ℕ → List Bool → List Bool
truncated_w none a = a
truncated_w (some k) a = take k a

pub holds_truncated : {l : Netlist} {t : Table} {ns : List ℕ} {w : Valuation → List Bool} (n : Option ℕ) → NetsGive l t ns w
    → NetsGive l t (truncated n ns) (λ v. truncated_w n (w v))
holds_truncated none h = h
holds_truncated (some k) h = holds_slice 0 k h

pub truncated_length : (n : Option ℕ) (xs ys : List ℕ) → length xs ≡ length ys → length (truncated n xs) ≡ length (truncated n ys)
truncated_length none xs ys h = h
truncated_length (some k) xs ys h = rw (length-take k xs, length-take k ys, h)

-- only an Add is narrowed
pub narrowed_add : (xs : List R.Expr) (e : ℕ) (op : Binary) (k : ℕ) → cond (is_add (class_of op)) (adder_width xs e) none ≡ some k → (op ≡ R.Add) × (adder_width xs e ≡ some k)
narrowed_add xs e op k q = go (is_add (class_of op)) refl q
  where
    go : (z : Bool) → is_add (class_of op) ≡ z → cond z (adder_width xs e) none ≡ some k → (op ≡ R.Add) × (adder_width xs e ≡ some k)
    go true z w = (add_only op z, w)
    go false z w = absurd (none_some w)

-- so the operands of a cell have widths that agree, narrowed or not
pub truncated_width : (es : List R.Expr) (e : ℕ) (op : Binary) (w : ℕ) (xs ys : List ℕ) → BinWidth op w (length xs) (length ys)
    → (n : Option ℕ) → cond (is_add (class_of op)) (adder_width es e) none ≡ n → (v : ℕ) × BinWidth op v (length (truncated n xs)) (length (truncated n ys))
truncated_width es e op w xs ys h none q = (w, h)
truncated_width es e op w xs ys h (some k) q =
    let add = (narrowed_add es e op k q).0 in
    let v : BinWidth R.Add w (length xs) (length ys) = rw add at h in
    (length (take k xs), rw add (refl, sym (truncated_length (some k) xs ys (v.0 ∙ sym v.1))))

pub map_replicate : (g : ℕ → Bool) (n x : ℕ) → map g (replicate n x) ≡ replicate n (g x)
map_replicate g zero x = refl
map_replicate g (suc n) x = rw (map_replicate g n x)

pub below_replicate : (k n x : ℕ) → x < k → AllBelow k (replicate n x)
below_replicate k zero x h = tt
below_replicate k (suc n) x h = (h, below_replicate k n x h)

pub cell_length : (op : Binary) (a b : List Bool) (c : Option Bool) → op ≡ R.Add → length (cell_word op a b c) ≡ length a
cell_length op a b none e = rw e (length_bits (length a) _)
cell_length op a b (some c) e = length_bits (length a) _

-- ---- the parts of a Concat, in either order ----

abbrev pub AllHas : State → List ℕ → Type 0
AllHas st [] = Unit {0}
AllHas st (p ∷ ps) = Has (whole st p) × AllHas st ps

pub turned : (st : State) (ps acc : List ℕ) → AllHas st (backwards ps acc) → AllHas st ps × AllHas st acc
turned st [] acc h = (tt, h)
turned st (p ∷ ps) acc h = let r = turned st ps (p ∷ acc) h in ((r.1.0, r.0), r.1.1)
