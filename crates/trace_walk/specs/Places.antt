-- The places of the records of one sort in the image. Assumes nothing.
use Rattle.std.specs.Prelude.{ℕ, ◌≤◌, ◌<◌, ◌≡◌, List, [], ◌++◌, length, take, drop, get_or}
use Rattle.std.proofs.Common.{arith, sym, subst, ◌∙◌, get_or-take, length-take-le}
use Rattle.spec_rules.specs.NetlistImage.{records_with}

-- record r begins at word a
pub record Begins (ws : List ℕ) (a : ℕ) (r : List ℕ) : Type 0 where
  pub rest : List ℕ
  pub is : drop a ws ≡ r ++ rest

-- the first n words of out are the places of these records, in this order
pub record Placed (ws : List ℕ) (rs : List (List ℕ)) (out : List ℕ) (n : ℕ) : Type 0 where
  pub count : n ≡ length rs
  pub at : (i : ℕ) → i < n → Begins ws (get_or out i 0) (get_or rs i [])

abbrev pub Places : List ℕ → ℕ → List ℕ → ℕ → Type 0
Places ws sort out n = Placed ws (records_with sort ws) out n

-- some first words of out are
pub record Listed (ws : List ℕ) (sort : ℕ) (out : List ℕ) : Type 0 where
  pub count : ℕ
  pub places : Places ws sort out count

-- cut where the places end
pub places_cut : {ws : List ℕ} {rs : List (List ℕ)} {out : List ℕ} {n : ℕ} → n ≤ length out → Placed ws rs out n → Placed ws rs (take n out) (length (take n out))
places_cut {ws} {rs} {out} {n} h p =
    let l = length-take-le n out h in
    record {
      count = l ∙ p.count;
      at = λ i k. (let m : i < n = omega (arith, l) in subst (λ (a : ℕ). Begins ws a (get_or rs i [])) (sym (get_or-take n out i 0 m)) (p.at i m));
    }
