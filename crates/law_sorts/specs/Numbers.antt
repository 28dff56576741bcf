-- The memories of an accepted netlist by their numbers. Assumes nothing.
use Rattle.std.specs.Prelude.{ℕ, suc, ◌≤◌, ◌<◌, ◌≡◌, refl, Bool, true, false, cond, List, [], ◌∷◌, map, eqb, length, get_or}
use Rattle.std.proofs.Common.{arith, sym, ap, ◌∙◌, eqb-true}
use Rattle.std.proofs.Math.Option.{Option, none, some}
use Rattle.spec_tests.specs.Rules.{Fine}
use Rattle.spec_rules.specs.NetlistImage as N
use Rattle.spec_rules.specs.NetlistImage.{records_with, memory_of, netlist}
use Rattle.spec_rules.specs.Step.{find_memory}
use Rattle.spec_netlist.specs.Accept.{accepts}
use Rattle.law_told.specs.Told.{told}
use Rattle.law_sorts.specs.Found.{found, has_word}
use Rattle.law_sorts.specs.Memories.{memory_told}

-- a memory that is found has a record
pub record There (rs : List (List ℕ)) (k : ℕ) : Type 0 where
  pub at : ℕ
  pub inside : at < length rs
  pub index : get_or (get_or rs at []) 1 0 ≡ k

pub find_there : (rs : List (List ℕ)) (k : ℕ) (x : N.MemoryCell) → find_memory (map memory_of rs) k ≡ some x → There rs k
unfolding memory_of
find_there [] k x e = absurd (let y : ◌≡◌ {A = ℕ} 0 1 = cc in omega arith)
find_there (r ∷ rs) k x e = go (eqb (get_or r 1 0) k) refl e (find_there rs k x)
  where
    go : (b : Bool) → eqb (get_or r 1 0) k ≡ b → cond b (some (memory_of r)) (find_memory (map memory_of rs) k) ≡ some x → (find_memory (map memory_of rs) k ≡ some x → There rs k) → There (r ∷ rs) k
    go true f g ih = record { at = 0; inside = omega arith; index = eqb-true _ _ f }
    go false f g ih = let t = ih g in record { at = suc t.at; inside = (let i = t.inside in omega arith); index = t.index }

-- none has a number of 16 or more
pub none_beyond : (ws : List ℕ) → accepts ws ≡ Fine → (k : ℕ) → 16 ≤ k → find_memory (netlist ws).memories k ≡ none
unfolding netlist
none_beyond ws ok k q = go (find_memory (netlist ws).memories k) refl
  where
    beyond : There (records_with 2 ws) k → ⊥
    beyond a =
        let f = found ws (told ws ok) 2 a.at a.inside in
        let m = memory_told ws f.earlier f.r f.here (has_word f.here) f.sort in
        let i = m.index in
        let e : get_or f.r 1 0 ≡ k = ap (λ (z : List ℕ). get_or z 1 0) (sym f.is) ∙ a.index in
        absurd (omega arith)

    go : (o : Option N.MemoryCell) → find_memory (netlist ws).memories k ≡ o → o ≡ none
    go none e = refl
    go (some x) e = absurd (beyond (find_there (records_with 2 ws) k x e))
