-- Laws of the index over word cells: keys, and one record more. Assumes nothing.
use Rattle.std.specs.Prelude.{◌≡◌, refl, Bool, true, false, ◌||◌, ◌≢◌, ℕ, suc, ◌+◌, ◌*◌, ◌≤◌, ◌<◌, length, get_or, set, drop}
use Rattle.std.proofs.Math.Path.{sym, ap}
use Rattle.std.proofs.Common.{ap₂, subst, ◌∙◌, arith, length-set, get_or-set_same, get_or-set_other, get_or-take, eqb-true, eq-eqb, ne_eqb}
use Rattle.std.proofs.Math.Bool.{cond}
use mathlib.Core.List.{List, [], ◌∷◌, ◌++◌, reverse, reverse_aux}
use Rattle.std.proofs.Math.Option.{none, some}
use Rattle.std.proofs.Math.ListN.{take}
use Rattle.std.proofs.Math.Dec.{eqb}
use Rattle.std.proofs.lemmas.Bool.{eqb-false}
use Rattle.spec_model.specs.Words.{absent, Netlist, used}
use Rattle.spec_model.specs.WordCells.{begins, find_cell}
use Rattle.net_view.specs.View.{netlist_of}
use Rattle.net_view.specs.Laws.{with_record, Holds}
use Rattle.net_index.specs.Laws.{bucket_less}
use Rattle.net_index.specs.Index.{hash_words, is_cell, key_length, Key, key_of, first_output, hash_key, cell_bucket, newest_cell, find_newest, CellsChained, CellsIndexed, Indexed, Held}

pub reverse_snoc : {A : Type 0} (xs : List A) (x : A) → reverse (xs ++ (x ∷ [])) ≡ x ∷ reverse xs
reverse_snoc xs x = go xs []
  where
    go : (ys acc : List _) → reverse_aux (ys ++ (x ∷ [])) acc ≡ x ∷ reverse_aux ys acc
    go [] acc = refl
    go (y ∷ ys) acc = go ys (y ∷ acc)

pub absurdly : {A : Type 0} → ◌≡◌ {A = Bool} true false → A
absurdly e = let z : ◌≡◌ {A = ℕ} 0 1 = cc in absurd (omega arith)

-- ---- beginnings ----

pub begins_hit : (x y : ℕ) (xs r : List ℕ) → x ≡ y → begins (x ∷ xs) (y ∷ r) ≡ begins xs r
unfolding begins
begins_hit x y xs r e = rw (eq-eqb x y e, begins)

pub begins_miss : (x y : ℕ) (xs r : List ℕ) → (x ≡ y → ⊥) → begins (x ∷ xs) (y ∷ r) ≡ false
unfolding begins
begins_miss x y xs r e = rw (ne_eqb x y e, begins)

pub begins_take : (k r : List ℕ) → begins k r ≡ true → take (length k) r ≡ k
unfolding begins
begins_take [] r e = refl
begins_take (x ∷ k) [] e = absurdly (sym e)
begins_take (x ∷ k) (y ∷ r) e = go (eqb x y) refl (begins_take k r)
  where
    go : (t : Bool) → eqb x y ≡ t → (begins k r ≡ true → take (length k) r ≡ k) → y ∷ take (length k) r ≡ x ∷ k
    go true q ih = ap₂ ◌∷◌ (sym (eqb-true x y q)) (ih (sym (begins_hit x y k r (eqb-true x y q)) ∙ e))
    go false q ih = absurdly (sym (sym (begins_miss x y k r (eqb-false x y q)) ∙ e))

pub begins_append : (k r t : List ℕ) → begins k r ≡ true → begins k (r ++ t) ≡ true
unfolding begins
begins_append [] r t e = refl
begins_append (x ∷ k) [] t e = absurdly (sym e)
begins_append (x ∷ k) (y ∷ r) t e = go (eqb x y) refl (begins_append k r t)
  where
    go : (u : Bool) → eqb x y ≡ u → (begins k r ≡ true → begins k (r ++ t) ≡ true) → begins (x ∷ k) (y ∷ (r ++ t)) ≡ true
    go true q ih = begins_hit x y k (r ++ t) (eqb-true x y q) ∙ ih (sym (begins_hit x y k r (eqb-true x y q)) ∙ e)
    go false q ih = absurdly (sym (sym (begins_miss x y k r (eqb-false x y q)) ∙ e))

pub begins_self : (k t : List ℕ) → begins k (k ++ t) ≡ true
unfolding begins
begins_self [] t = refl
begins_self (x ∷ k) t = begins_hit x x k (k ++ t) refl ∙ begins_self k t

pub begins_word : (k r : List ℕ) (i d : ℕ) → begins k r ≡ true → i < length k → get_or r i d ≡ get_or k i d
begins_word k r i d e h = sym (get_or-take (length k) r i d h) ∙ ap (λ (t : List ℕ). get_or t i d) (begins_take k r e)

-- ---- keys ----

-- what begins with a whole key is a cell with that key
module _ (k r : List ℕ) (key : Key k) (e : begins k r ≡ true) where
  pub key_cell : is_cell r ≡ true
  unfolding is_cell
  key_cell = ap (λ (x : ℕ). eqb x 3 || eqb x 4) (begins_word k r 0 absent e (omega (arith, key.some))) ∙ key.cell

  pub key_length_law : key_length r ≡ length k
  unfolding key_length
  key_length_law =
      (λ i. cond (eqb (begins_word k r 0 absent e (omega (arith, key.some)) i) 3) (4 + 2 * begins_word k r 2 0 e (omega (arith, key.some)) i)
      (3 + 2 * begins_word k r 2 0 e (omega (arith, key.some)) i))
      ∙ sym key.long

  pub key_is : key_of r ≡ k
  unfolding key_of
  key_is = ap (λ (n : ℕ). take n r) key_length_law ∙ begins_take k r e

-- ---- the definitions' equations ----

pub find_cell_hit : (k r : List ℕ) (rs : List (List ℕ)) → begins k r ≡ true → find_cell k (r ∷ rs) ≡ some (drop (length k) r)
unfolding find_cell
find_cell_hit k r rs e = rw (e, find_cell)

pub find_cell_miss : (k r : List ℕ) (rs : List (List ℕ)) → begins k r ≡ false → find_cell k (r ∷ rs) ≡ find_cell k rs
unfolding find_cell
find_cell_miss k r rs e = rw (e, find_cell)

pub find_newest_hit : (k r : List ℕ) (rs : List (List ℕ)) → begins k r ≡ true → find_newest k (r ∷ rs) ≡ some (drop (length k) r)
unfolding find_newest
find_newest_hit k r rs e = rw (e, find_newest)

pub find_newest_miss : (k r : List ℕ) (rs : List (List ℕ)) → begins k r ≡ false → find_newest k (r ∷ rs) ≡ find_newest k rs
unfolding find_newest
find_newest_miss k r rs e = rw (e, find_newest)

pub newest_cell_cons : (m h : ℕ) (r : List ℕ) (rs : List (List ℕ)) → newest_cell m h (r ∷ rs) ≡ cond (cell_bucket m h r) (suc (used rs)) (newest_cell m h rs)
unfolding newest_cell
newest_cell_cons m h r rs = refl

pub cell_bucket_law : (m h : ℕ) (r : List ℕ) → is_cell r ≡ true → cell_bucket m h r ≡ eqb (hash_key m (key_of r)) h
unfolding cell_bucket
cell_bucket_law m h r e = rw e

pub bucket_cell : (m h : ℕ) (r : List ℕ) → cell_bucket m h r ≡ true → (is_cell r ≡ true) × (hash_key m (key_of r) ≡ h)
unfolding cell_bucket
bucket_cell m h r e = go (is_cell r) refl
  where
    go : (t : Bool) → is_cell r ≡ t → (is_cell r ≡ true) × (hash_key m (key_of r) ≡ h)
    go true q = (q, eqb-true (hash_key m (key_of r)) h (rw q at e))
    go false q = let z : ◌≡◌ {A = Bool} false true = rw q at e in absurdly (sym z)

-- a record behind the others
pub snoc_miss : (k : List ℕ) (rs : List (List ℕ)) (r : List ℕ) → begins k r ≡ false → find_cell k (rs ++ (r ∷ [])) ≡ find_cell k rs
snoc_miss k [] r e = find_cell_miss k r [] e
snoc_miss k (x ∷ rs) r e = go (begins k x) refl (snoc_miss k rs r e)
  where
    go : (t : Bool) → begins k x ≡ t → find_cell k (rs ++ (r ∷ [])) ≡ find_cell k rs → find_cell k (x ∷ (rs ++ (r ∷ []))) ≡ find_cell k (x ∷ rs)
    go true q ih = find_cell_hit k x (rs ++ (r ∷ [])) q ∙ sym (find_cell_hit k x rs q)
    go false q ih = find_cell_miss k x (rs ++ (r ∷ [])) q ∙ ih ∙ sym (find_cell_miss k x rs q)

pub snoc_new : (k : List ℕ) (rs : List (List ℕ)) (r : List ℕ) → find_cell k rs ≡ none → begins k r ≡ true → find_cell k (rs ++ (r ∷ [])) ≡ some (drop (length k) r)
snoc_new k [] r z e = find_cell_hit k r [] e
snoc_new k (x ∷ rs) r z e = go (begins k x) refl (snoc_new k rs r)
  where
    go : (t : Bool) → begins k x ≡ t → (find_cell k rs ≡ none → begins k r ≡ true → find_cell k (rs ++ (r ∷ [])) ≡ some (drop (length k) r))
        → find_cell k (x ∷ (rs ++ (r ∷ []))) ≡ some (drop (length k) r)
    go true q ih = let o : ◌≡◌ {A = ℕ} 0 1 = cc (find_cell_hit k x rs q) in absurd (omega arith)
    go false q ih = find_cell_miss k x (rs ++ (r ∷ [])) q ∙ ih (sym (find_cell_miss k x rs q) ∙ z) e

-- ---- a record that is no cell leaves the index as it is ----

module _ (m k : ℕ) (rs : List (List ℕ)) (r idx : List ℕ) (c : CellsIndexed m k rs idx) (e : is_cell r ≡ false) where
  other_miss : (key : List ℕ) → Key key → begins key r ≡ false
  other_miss key w = go (begins key r) refl
    where
      go : (t : Bool) → begins key r ≡ t → begins key r ≡ false
      go true q = absurdly (sym (key_cell key r w q) ∙ e)
      go false q = q

  pub cells_other : CellsIndexed m k (rs ++ (r ∷ [])) idx
  unfolding cell_bucket
  cells_other = record {
    heads = λ h l. c.heads h l ∙ sym (ap (newest_cell m h) (reverse_snoc rs r) ∙ newest_cell_cons m h r (reverse rs) ∙ rw e);
    chained = rw (reverse_snoc rs r) ((λ g. absurdly (sym g ∙ e)), c.chained);
    single = λ key w. snoc_miss key rs r (other_miss key w) ∙ c.single key w
        ∙ sym (ap (find_newest key) (reverse_snoc rs r) ∙ find_newest_miss key r (reverse rs) (other_miss key w));
  }

pub held_record : (n : ℕ) (w idx w' r : List ℕ) → Held n w idx → Holds n (with_record r (netlist_of n w)) w' → is_cell r ≡ false → Held n w' idx
held_record n w idx w' r h v e = record {
  built = v.built;
  sized = h.sized;
  gates = subst (λ (l : Netlist). Indexed n l.nodes idx) (sym v.view) h.gates;
  cells = subst (λ (l : Netlist). CellsIndexed n (length l.nodes) l.records (drop (2 * n) idx)) (sym v.view)
      (cells_other n (length (netlist_of n w).nodes) (netlist_of n w).records r (drop (2 * n) idx) h.cells e);
}

-- ---- a new cell ----

used_reverse : (xs acc : List (List ℕ)) → used (reverse_aux xs acc) ≡ used xs + used acc
unfolding used
used_reverse [] acc = omega arith
used_reverse (x ∷ xs) acc = used_reverse xs (x ∷ acc) ∙ omega arith

pub used_back : (rs : List (List ℕ)) → used (reverse rs) ≡ used rs
unfolding used
used_back rs = used_reverse rs [] ∙ omega arith

pub key_hash_less : (m : ℕ) (k : List ℕ) → 0 < m → hash_key m k < m
unfolding hash_key
key_hash_less m k h = bucket_less m (hash_words 0 k) h

-- a store that is no cell's word
cells_set : (m o : ℕ) (rs : List (List ℕ)) (idx : List ℕ) (j v : ℕ) → ((i : ℕ) → i < o → m + i ≢ j) → CellsChained m o rs idx → CellsChained m o rs (set idx j v)
cells_set m o [] idx j v h ch = tt
cells_set m o (r ∷ rs) idx j v h ch = (
  (λ e. let c = ch.0 e in record { whole = c.whole; below = c.below; next = get_or-set_other idx j (m + first_output r) v 0 (h (first_output r) c.below) ∙ c.next }),
  cells_set m o rs idx j v h ch.1,
)

cells_more : (m o k : ℕ) (rs : List (List ℕ)) (idx : List ℕ) → o ≤ k → CellsChained m o rs idx → CellsChained m k rs idx
cells_more m o k [] idx h ch = tt
cells_more m o k (r ∷ rs) idx h ch = (
  (λ e. let c = ch.0 e in record { whole = c.whole; below = omega (arith, c.below); next = c.next }),
  cells_more m o k rs idx h ch.1,
)

-- the index's words with one cell more, at the list position p, its first output q, in bucket h
abbrev pub cell_linked : ℕ → ℕ → ℕ → ℕ → List ℕ → List ℕ
cell_linked m q h p idx = set (set idx (m + q) (get_or idx h 0)) h (suc p)

-- a new cell with the key and its outputs, the first of them o
pub record Fresh (m o k : ℕ) (rs : List (List ℕ)) (r : List ℕ) : Type 0 where
  pub cell : is_cell r ≡ true
  pub whole : key_length r < length r
  pub first : first_output r ≡ o
  pub below : o < k
  pub new : find_cell (key_of r) rs ≡ none

module _ (m o k : ℕ) (rs : List (List ℕ)) (r idx : List ℕ) (pos : 0 < m) (more : m + o < length idx) (c : CellsIndexed m o rs idx) (f : Fresh m o k rs r) where
  single_new : (key : List ℕ) → Key key → find_cell key (rs ++ (r ∷ [])) ≡ find_newest key (r ∷ reverse rs)
  single_new key w = go (begins key r) refl
    where
      go : (t : Bool) → begins key r ≡ t → find_cell key (rs ++ (r ∷ [])) ≡ find_newest key (r ∷ reverse rs)
      go true q =
          let z : find_cell key rs ≡ none = rw (key_is key r w q) at f.new in
          snoc_new key rs r z q ∙ sym (find_newest_hit key r (reverse rs) q)
      go false q = snoc_miss key rs r q ∙ c.single key w ∙ sym (find_newest_miss key r (reverse rs) q)

  pub cells_push : CellsIndexed m k (rs ++ (r ∷ [])) (cell_linked m o (hash_key m (key_of r)) (used rs) idx)
  cells_push =
      let h = hash_key m (key_of r) in
      let less = key_hash_less m (key_of r) pos in
      let v = get_or idx h 0 in
      let idx₁ = set idx (m + o) v in
      let own : get_or (cell_linked m o h (used rs) idx) (m + o) 0 ≡ newest_cell m h (reverse rs) =
      get_or-set_other idx₁ h (m + o) (suc (used rs)) 0 (omega arith) ∙ get_or-set_same idx (m + o) v 0 more ∙ c.heads h less in
      record {
        heads = λ g l. head g l (eqb h g) refl;
        chained = rw (reverse_snoc rs r) (
          (λ e. record { whole = f.whole; below = omega (arith, f.first, f.below); next = ap (λ (j : ℕ). get_or (cell_linked m o h (used rs) idx) (m + j) 0) f.first ∙ own }),
          cells_more m o k (reverse rs) _ (omega (arith, f.below))
              (cells_set m o (reverse rs) idx₁ h (suc (used rs)) (λ i l. omega arith) (cells_set m o (reverse rs) idx (m + o) v (λ i l. omega arith) c.chained)),
        );
        single = λ key w. single_new key w ∙ sym (ap (find_newest key) (reverse_snoc rs r));
      }
    where
      bucket : (g : ℕ) (t : Bool) → eqb (hash_key m (key_of r)) g ≡ t → newest_cell m g (reverse (rs ++ (r ∷ []))) ≡ cond t (suc (used rs)) (newest_cell m g (reverse rs))
      bucket g t e =
          ap (newest_cell m g) (reverse_snoc rs r) ∙ newest_cell_cons m g r (reverse rs)
          ∙ (λ i. cond ((cell_bucket_law m g r f.cell ∙ e) i) (suc (used_back rs i)) (newest_cell m g (reverse rs)))

      head : (g : ℕ) → g < m → (t : Bool) → eqb (hash_key m (key_of r)) g ≡ t
          → get_or (cell_linked m o (hash_key m (key_of r)) (used rs) idx) g 0 ≡ newest_cell m g (reverse (rs ++ (r ∷ [])))
      head g l true e =
          let z : g ≡ hash_key m (key_of r) = sym (eqb-true (hash_key m (key_of r)) g e) in
          let len : hash_key m (key_of r) < length (set idx (m + o) (get_or idx (hash_key m (key_of r)) 0)) = rw length-set (omega arith) in
          ap (λ (q : ℕ). get_or (cell_linked m o (hash_key m (key_of r)) (used rs) idx) q 0) z
          ∙ get_or-set_same (set idx (m + o) (get_or idx (hash_key m (key_of r)) 0)) (hash_key m (key_of r)) (suc (used rs)) 0 len
          ∙ sym (bucket g true e)
      head g l false e =
          let ne : g ≢ hash_key m (key_of r) = λ q. eqb-false (hash_key m (key_of r)) g e (sym q) in
          get_or-set_other (set idx (m + o) (get_or idx (hash_key m (key_of r)) 0)) (hash_key m (key_of r)) g (suc (used rs)) 0 ne
          ∙ get_or-set_other idx (m + o) g (get_or idx (hash_key m (key_of r)) 0) 0 (omega arith)
          ∙ c.heads g l ∙ sym (bucket g false e)
