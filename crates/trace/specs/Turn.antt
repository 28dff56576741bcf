-- The bytes that a run holds, and a turn of its loop as one of the calls that write the text. Assumes nothing.
use Rattle.std.specs.Prelude.{ℕ, zero, suc, ◌+◌, ◌-◌, ◌≤◌, ◌<◌, ◌≡◌, refl, Bool, true, false, not, List, [], ◌∷◌, ◌++◌, length, take, drop}
use Rattle.std.proofs.Common.{arith, sym, ap, subst, ◌∙◌, length-take, length-drop, take-append-drop, take-take, drop-drop}
use Rattle.std.proofs.Math.Seq.{take-nil}
use Rattle.spec_tests.specs.Rules.{◌and◌}
use Rattle.law_told.specs.Told.{untrue}
use Rattle.trace_run.specs.Ran.{Ran}
use Rattle.trace_run.specs.Calls as calls
use Rattle.trace_run.specs.Calls.{Calls}

-- the bytes that are held
abbrev pub held : List ℕ → ℕ → ℕ → List ℕ
held bytes from end = take (end - from) (drop from bytes)

-- others came behind them
pub record Came (old new : List ℕ) : Type 0 where
  pub some : List ℕ
  pub is : new ≡ old ++ some

pub came : {old : List ℕ} (bytes : List ℕ) (n more : ℕ) → take n bytes ≡ old → Came old (held bytes 0 (n + more))
came bytes n more e = record {
  some = drop n (take (n + more) bytes);
  is = (
      let z : n + more - 0 ≡ n + more = omega arith in
      ap (λ (k : ℕ). take k bytes) z ∙ sym (take-append-drop n (take (n + more) bytes)) ∙ ap (λ (l : List ℕ). l ++ drop n (take (n + more) bytes)) (take-take n (n + more) bytes (omega arith) ∙ e));
}

drop_take : (u m : ℕ) (l : List ℕ) → drop u (take m l) ≡ take (m - u) (drop u l)
drop_take zero m l = let z : m - 0 ≡ m = omega arith in ap (λ (k : ℕ). take k l) (sym z)
drop_take (suc u) zero l = let z : 0 - suc u ≡ 0 = omega arith in ap (λ (k : ℕ). take k (drop (suc u) l)) (sym z)
drop_take (suc u) (suc m) [] = sym (take-nil {A = ℕ} (suc m - suc u))
drop_take (suc u) (suc m) (x ∷ xs) = let z : suc m - suc u ≡ m - u = omega arith in drop_take u m xs ∙ ap (λ (k : ℕ). take k (drop u xs)) (sym z)

-- of those held, the first are used up
pub held_rest : (bytes : List ℕ) (from end used : ℕ) → drop used (held bytes from end) ≡ held bytes (from + used) end
held_rest bytes from end used =
    let z : end - from - used ≡ end - (from + used) = omega arith in
    drop_take used (end - from) (drop from bytes) ∙ ap (take (end - from - used)) (drop-drop used from bytes) ∙ ap (λ (k : ℕ). take k (drop (from + used) bytes)) z

module _ (bytes : List ℕ) (from end : ℕ) (h : from ≤ end) (l : end ≤ length bytes) where
  abbrev part : List ℕ
  part = held bytes from end

  pub used_in : (used : ℕ) → used ≤ length part → from + used ≤ end
  used_in used u = let t = length-take (end - from) (drop from bytes) in let d = length-drop from bytes in omega arith

  -- there is room for more
  pub left_few : (used most : ℕ) → used ≤ length part → length (drop used part) ≤ most → most < length bytes → (from + used ≤ end) × (end ≤ length bytes) × (end - (from + used) < length bytes)
  left_few used most u m r =
      let t = length-take (end - from) (drop from bytes) in
      let d = length-drop from bytes in
      let f = length-drop used part in
      (omega arith, l, omega arith)

-- the text was not the last
pub not_last : {go : Bool} (written stop : Bool) → go ≡ (written and not stop) → go ≡ true → stop ≡ false
unfolding ◌and◌
not_last true true e t = sym (sym e ∙ t)
not_last true false e t = refl
not_last false stop e t = untrue (sym e ∙ t)

pub goes_written : {written : Bool} (stop : Bool) → written ≡ true → not stop ≡ (written and not stop)
unfolding ◌and◌
goes_written stop e = rw e refl

pub goes_not : {written : Bool} (stop : Bool) → written ≡ false → false ≡ (written and not stop)
unfolding ◌and◌
goes_not stop e = rw e refl

-- a turn of a run that goes on: some lines were taken of the bytes held, their text was printed, and some bytes came. Calls that go on from
-- where it leaves the run are calls that go on from where it found it
module _ (ws steps : List ℕ) (count : ℕ) (inputs outputs registers : List ℕ) (nr : ℕ) (memories : List ℕ) (nm : ℕ) where
  pub record Turned (k : ℕ) (bytes values memory names kept : List ℕ) (k' : ℕ) (bytes' values' memory' names' kept' : List ℕ) : Type 0 where
    pub printed : List ℕ
    pub read : List ℕ
    pub goes : (more t : List ℕ) → Calls ws steps count inputs outputs registers nr memories nm k' bytes' values' memory' names' kept' more t
        → Calls ws steps count inputs outputs registers nr memories nm k bytes values memory names kept (read ++ more) (printed ++ t)

module _ {ws steps : List ℕ} {count : ℕ} {inputs outputs registers : List ℕ} {nr : ℕ} {memories : List ℕ} {nm k : ℕ} {bytes values memory names kept : List ℕ} {used at k' : ℕ} {wait stop : Bool} {out values' memory' names' kept' : List ℕ}
    (r : Ran ws steps count inputs outputs registers nr memories nm k bytes values memory names kept used at k' wait stop out values' memory' names' kept') (e : stop ≡ false) where
  pub turned_on : {new : List ℕ} → drop used bytes ≡ new → Turned ws steps count inputs outputs registers nr memories nm k bytes values memory names kept k' new values' memory' names' kept'
  turned_on q = record {
    printed = take at out;
    read = [];
    goes = λ more t c. calls.Then (rw e at r) (subst (λ (l : List ℕ). Calls ws steps count inputs outputs registers nr memories nm k' l values' memory' names' kept' more t) (sym q) c);
  }

  pub turned_read : {old new : List ℕ} {k'' : ℕ} → drop used bytes ≡ old → Came old new → k'' ≡ k' → Turned ws steps count inputs outputs registers nr memories nm k bytes values memory names kept k'' new values' memory' names' kept'
  turned_read q m f = record {
    printed = take at out;
    read = m.some;
    goes = λ more t c. (
        let d : Calls ws steps count inputs outputs registers nr memories nm k' (drop used bytes ++ m.some) values' memory' names' kept' more t = rw (q, sym m.is, sym f) c in
        calls.Then (rw e at r) (calls.Read m.some more d));
  }
