-- The search for a cell by its key, along a bucket's chain, and where the cells stand in the words. Assumes nothing.
use Rattle.std.specs.Prelude.{◌≡◌, refl, Bool, ℕ, suc, ◌+◌, ◌*◌, ◌-◌, ◌≤◌, ◌<◌, length, take, drop, eqb}
use Rattle.std.proofs.Common.{sym, ap₂, subst, ◌∙◌, length-append, take-append-drop, length-drop, drop-drop, drop_at, take_at, eqb-true, eq-eqb}
use Rattle.std.proofs.Math.Path.{ap}
use Rattle.std.proofs.Math.Bool.{true, false, cond}
use mathlib.Core.List.{List, [], ◌∷◌, ◌++◌, append_assoc, append-nil, reverse, reverse-append, reverse-reverse, reverse-cons}
use Rattle.std.proofs.Math.Option.{none, some}
use native.Mathlib.Omega.{arith}
use Rattle.std.proofs.Math.ListN.{get_or, get_or-append}
use Rattle.std.proofs.lemmas.List.{take-append-le, drop-append-le}
use Rattle.spec_tests.specs.Rules.{◌≡?◌, pick}
use Rattle.spec_rules.specs.NetlistImage.{record_length}
use Rattle.spec_model.specs.Words.{absent, used, list_words, words}
use Rattle.spec_model.specs.WordCells.{begins, find_cell}
use Rattle.net_view.specs.View.{room, netlist_of, Formed, AllFormed, Built}
use Rattle.net_view.specs.Records.{used_length}
use Rattle.net_view.specs.Laws.{words_list, zeros}
use Rattle.net_index.specs.Index.{is_cell, key_length, Key, key_of, first_output, hash_key, cell_bucket, newest_cell, find_newest, Linked, CellsChained, CellsIndexed, Held}
use Rattle.net_index.specs.CellLaws.{begins_word, begins_self, begins_append, begins_take, key_cell, key_is, key_length_law, find_newest_hit, find_newest_miss, newest_cell_cons, cell_bucket_law, bucket_cell, used_back, absurdly}

-- ---- the chain ----

pub record Spot (m h : ℕ) (key : List ℕ) (rev : List (List ℕ)) (p : ℕ) : Type 0 where
  pub front : List (List ℕ)
  pub cell : List ℕ
  pub rest : List (List ℕ)
  pub parts : rev ≡ front ++ (cell ∷ rest)
  pub place : p ≡ suc (used rest)
  pub bucket : cell_bucket m h cell ≡ true
  pub says : find_newest key rev ≡ find_newest key (cell ∷ rest)

-- what holds at the head of the search's loop
pub record CellAt (m h : ℕ) (key : List ℕ) (rev : List (List ℕ)) (p : ℕ) : Type 0 where
  pub ends : p ≡ 0 → find_newest key rev ≡ none
  pub spot : 0 < p → Spot m h key rev p

bucket_miss : (m h : ℕ) (key r : List ℕ) → Key key → h ≡ hash_key m key → cell_bucket m h r ≡ false → begins key r ≡ false
bucket_miss m h key r w e f = go (begins key r) refl
  where
    go : (t : Bool) → begins key r ≡ t → begins key r ≡ false
    go true q =
        let b : cell_bucket m h r ≡ true =
        cell_bucket_law m h r (key_cell key r w q) ∙ eq-eqb (hash_key m (key_of r)) h (ap (hash_key m) (key_is key r w q) ∙ sym e) in
        absurdly (sym b ∙ f)
    go false q = q

newest_spot : (m h : ℕ) (key : List ℕ) → Key key → h ≡ hash_key m key → (rev front older : List (List ℕ)) → rev ≡ front ++ older
    → find_newest key rev ≡ find_newest key older → CellAt m h key rev (newest_cell m h older)
unfolding newest_cell find_newest
newest_spot m h key w e rev front [] q s = record { ends = λ z. s; spot = λ z. absurd (omega arith) }
newest_spot m h key w e rev front (r ∷ rest) q s = go (cell_bucket m h r) refl
    (λ b. newest_spot m h key w e rev (front ++ (r ∷ [])) rest (q ∙ sym (append_assoc front (r ∷ []) rest))
    (s ∙ find_newest_miss key r rest (bucket_miss m h key r w e b)))
  where
    go : (t : Bool) → cell_bucket m h r ≡ t → (cell_bucket m h r ≡ false → CellAt m h key rev (newest_cell m h rest)) → CellAt m h key rev (newest_cell m h (r ∷ rest))
    go true b ih =
        let v : newest_cell m h (r ∷ rest) ≡ suc (used rest) = newest_cell_cons m h r rest ∙ rw b in
        rw v (record { ends = λ z. absurd (omega arith); spot = λ z. record { front = front; cell = r; rest = rest; parts = q; place = refl; bucket = b; says = s } })
    go false b ih =
        let v : newest_cell m h (r ∷ rest) ≡ newest_cell m h rest = newest_cell_cons m h r rest ∙ rw b in
        rw v (ih b)

pub cell_start : (m k h : ℕ) (key : List ℕ) (rs : List (List ℕ)) (idx : List ℕ) → Key key → h ≡ hash_key m key → h < m → CellsIndexed m k rs idx
    → CellAt m h key (reverse rs) (get_or idx h 0)
cell_start m k h key rs idx w e l c = rw (c.heads h l) (newest_spot m h key w e (reverse rs) [] (reverse rs) refl refl)

chained_in : (m k : ℕ) (front : List (List ℕ)) (r : List ℕ) (rest : List (List ℕ)) (idx : List ℕ) → CellsChained m k (front ++ (r ∷ rest)) idx → is_cell r ≡ true
    → Linked m k r rest idx
chained_in m k [] r rest idx ch e = ch.0 e
chained_in m k (x ∷ front) r rest idx ch e = chained_in m k front r rest idx ch.1 e

cell_some : (r : List ℕ) → is_cell r ≡ true → 0 < length r
unfolding is_cell
cell_some [] e = absurdly (sym e)
cell_some (x ∷ r) e = omega arith

newest_cell_le : (m h : ℕ) (rs : List (List ℕ)) → newest_cell m h rs ≤ used rs
unfolding newest_cell used
newest_cell_le m h [] = omega arith
newest_cell_le m h (r ∷ rs) = go (cell_bucket m h r) refl (newest_cell_le m h rs)
  where
    go : (t : Bool) → cell_bucket m h r ≡ t → newest_cell m h rs ≤ used rs → cond t (suc (used rs)) (newest_cell m h rs) ≤ length r + used rs
    go true b ih = omega (arith, cell_some r (bucket_cell m h r b).0)
    go false b ih = omega arith

module _ (m k h : ℕ) (key : List ℕ) (rs : List (List ℕ)) (idx : List ℕ) (p : ℕ) (w : Key key) (e : h ≡ hash_key m key) (c : CellsIndexed m k rs idx)
    (s : Spot m h key (reverse rs) p) where
  pub spot_linked : Linked m k s.cell s.rest idx
  spot_linked =
      chained_in m k s.front s.cell s.rest idx (rw s.parts at c.chained) (bucket_cell m h s.cell s.bucket).0

  next_is : get_or idx (m + first_output s.cell) 0 ≡ newest_cell m h s.rest
  next_is = spot_linked.next ∙ ap (λ (j : ℕ). newest_cell m j s.rest) (bucket_cell m h s.cell s.bucket).1

  pub spot_less : get_or idx (m + first_output s.cell) 0 < p
  spot_less = omega (arith, next_is, newest_cell_le m h s.rest, s.place)

  pub spot_turn : begins key s.cell ≡ false → CellAt m h key (reverse rs) (get_or idx (m + first_output s.cell) 0)
  spot_turn b =
      rw next_is (newest_spot m h key w e (reverse rs) (s.front ++ (s.cell ∷ [])) s.rest (s.parts ∙ sym (append_assoc s.front (s.cell ∷ []) s.rest))
      (s.says ∙ find_newest_miss key s.cell s.rest b))

  pub spot_found : begins key s.cell ≡ true → find_cell key rs ≡ some (drop (length key) s.cell)
  spot_found b = c.single key w ∙ s.says ∙ find_newest_hit key s.cell s.rest b

pub cell_end : (m k h : ℕ) (key : List ℕ) (rs : List (List ℕ)) (idx : List ℕ) (p : ℕ) → Key key → CellsIndexed m k rs idx → CellAt m h key (reverse rs) p → p ≡ 0
    → find_cell key rs ≡ none
cell_end m k h key rs idx p w c at z = c.single key w ∙ at.ends z

-- ---- where a cell stands ----

list_append : (xs ys : List (List ℕ)) → list_words (xs ++ ys) ≡ list_words xs ++ list_words ys
list_append [] ys = refl
list_append (x ∷ xs) ys = ap (λ (t : List ℕ). x ++ t) (list_append xs ys) ∙ sym (append_assoc x (list_words xs) (list_words ys))

-- the words from a place on are a record and more
pub record RecordStands (w : List ℕ) (at : ℕ) (r : List ℕ) : Type 0 where
  pub more : List ℕ
  pub within : at + length r ≤ length w
  pub words : drop at w ≡ r ++ more

list_parts : (rs front rest : List (List ℕ)) (r : List ℕ) → reverse rs ≡ front ++ (r ∷ rest) → list_words rs ≡ list_words (reverse rest) ++ (r ++ list_words (reverse front))
list_parts rs front rest r e =
    ap list_words (sym (reverse-reverse rs) ∙ ap reverse e ∙ reverse-append front (r ∷ rest) ∙ ap (λ (t : List (List ℕ)). t ++ reverse front) (reverse-cons r rest)
    ∙ append_assoc (reverse rest) (r ∷ []) (reverse front))
    ∙ list_append (reverse rest) (r ∷ reverse front)

pub cell_stands : (n : ℕ) (w : List ℕ) → Built n w → (front rest : List (List ℕ)) (r : List ℕ) → reverse (netlist_of n w).records ≡ front ++ (r ∷ rest)
    → RecordStands w (16 + 6 * n + used rest) r
cell_stands n w b front rest r e =
    let l = netlist_of n w in
    let p = room n w in
    let zs = zeros (p - used l.records) in
    let ls = list_parts l.records front rest r e in
    let len : length (list_words (reverse rest)) ≡ used rest = used_length (reverse rest) ∙ used_back rest in
    let t = list_words (reverse front) in
    let total : used l.records ≡ used rest + (length r + length t) =
    sym (used_length l.records) ∙ ap length ls ∙ length-append (list_words (reverse rest)) (r ++ t) ∙ ap₂ ◌+◌ len (length-append r t) in
    record {
      more = t ++ zs;
      within = omega (arith, b.fit.short, b.sized);
      words =
          sym (drop-drop (used rest) (16 + 6 * n) w)
          ∙ ap (drop (used rest)) (ap (drop (16 + 6 * n)) b.told ∙ words_list n p l b.fit)
          ∙ ap (λ (u : List ℕ). drop (used rest) (u ++ zs)) ls
          ∙ ap (drop (used rest)) (append_assoc (list_words (reverse rest)) (r ++ t) zs)
          ∙ drop_at (list_words (reverse rest)) ((r ++ t) ++ zs) (used rest) len ∙ append_assoc r t zs;
    }

take_begins : (k r : List ℕ) → take (length k) r ≡ k → begins k r ≡ true
take_begins k r e =
    ap (begins k) (sym (take-append-drop (length k) r) ∙ ap (λ (z : List ℕ). z ++ drop (length k) r) e) ∙ begins_self k (drop (length k) r)

-- a cell's key and first output do not depend on what follows it
module _ (r t : List ℕ) (e : is_cell r ≡ true) (h : key_length r < length r) where
  three : 3 ≤ key_length r
  unfolding key_length
  three = go (eqb (get_or r 0 absent) 3)
    where
      go : (u : Bool) → 3 ≤ cond u (4 + 2 * get_or r 2 0) (3 + 2 * get_or r 2 0)
      go true = omega arith
      go false = omega arith

  pub append_key_length : key_length (r ++ t) ≡ key_length r
  unfolding key_length
  append_key_length =
      let q = three in
      λ i. cond (eqb (get_or-append r t absent 0 (omega (arith, q)) i) 3) (4 + 2 * get_or-append r t 0 2 (omega (arith, q)) i) (3 + 2 * get_or-append r t 0 2 (omega (arith, q)) i)

  pub append_first_output : first_output (r ++ t) ≡ first_output r
  unfolding first_output
  append_first_output = ap (λ (j : ℕ). get_or (r ++ t) j 0) append_key_length ∙ get_or-append r t 0 (key_length r) h

  pub append_begins : (key : List ℕ) → Key key → begins key (r ++ t) ≡ begins key r
  append_begins key w = go (begins key (r ++ t)) refl (begins key r) refl
    where
      go : (u : Bool) → begins key (r ++ t) ≡ u → (v : Bool) → begins key r ≡ v → begins key (r ++ t) ≡ begins key r
      go true p true q = p ∙ sym q
      go false p false q = p ∙ sym q
      go false p true q = absurdly (sym (begins_append key r t q) ∙ p)
      go true p false q =
          let len : key_length r ≡ length key = sym append_key_length ∙ key_length_law key (r ++ t) w p in
          let tk : take (length key) r ≡ key = sym (take-append-le (length key) r t (omega arith)) ∙ begins_take key (r ++ t) p in
          absurdly (sym (take_begins key r tk) ∙ q)

-- ---- a cell's outputs ----

-- how many outputs the cell with a key has
unfoldable pub outputs : List ℕ → ℕ
outputs k = cond (eqb (get_or k 0 absent) 3) (get_or k 2 0) 1

length_arithmetic : (r : List ℕ) → Formed (3 ∷ r) → length (3 ∷ r) ≡ key_length (3 ∷ r) + outputs (3 ∷ r)
unfolding record_length pick ◌≡?◌ key_length outputs
length_arithmetic r f = sym (f.long []) ∙ ap record_length (append-nil (3 ∷ r)) ∙ omega arith

length_comparison : (r : List ℕ) → Formed (4 ∷ r) → length (4 ∷ r) ≡ key_length (4 ∷ r) + outputs (4 ∷ r)
unfolding record_length pick ◌≡?◌ key_length outputs
length_comparison r f = sym (f.long []) ∙ ap record_length (append-nil (4 ∷ r)) ∙ omega arith

cell_length : (r : List ℕ) → Formed r → is_cell r ≡ true → length r ≡ key_length r + outputs r
unfolding is_cell
cell_length [] f e = absurdly (sym e)
cell_length (x ∷ r) f e = go (eqb x 3) refl (eqb x 4) refl
  where
    go : (u : Bool) → eqb x 3 ≡ u → (v : Bool) → eqb x 4 ≡ v → length (x ∷ r) ≡ key_length (x ∷ r) + outputs (x ∷ r)
    go true p v q =
        let z : x ≡ 3 = eqb-true x 3 p in
        subst (λ (y : ℕ). Formed (y ∷ r) → length (y ∷ r) ≡ key_length (y ∷ r) + outputs (y ∷ r)) (sym z) (length_arithmetic r) f
    go false p true q =
        let z : x ≡ 4 = eqb-true x 4 q in
        subst (λ (y : ℕ). Formed (y ∷ r) → length (y ∷ r) ≡ key_length (y ∷ r) + outputs (y ∷ r)) (sym z) (length_comparison r) f
    go false p false q = let z : ◌≡◌ {A = Bool} false true = rw (p, q) at e in absurdly (sym z)

formed_in : (xs ys : List (List ℕ)) (r : List ℕ) → AllFormed (xs ++ (r ∷ ys)) → Formed r
formed_in [] ys r f = f.0
formed_in (x ∷ xs) ys r f = formed_in xs ys r f.1

same_outputs : (key r : List ℕ) → Key key → begins key r ≡ true → outputs r ≡ outputs key
unfolding outputs
same_outputs key r w b =
    (λ i. cond (eqb (begins_word key r 0 absent b (omega (arith, w.some)) i) 3) (begins_word key r 2 0 b (omega (arith, w.some)) i) 1)

-- the words from a place on are the outputs of the cell with the key
pub record Outputs (n : ℕ) (key w : List ℕ) (at : ℕ) : Type 0 where
  pub within : at + outputs key ≤ length w
  pub says : find_cell key (netlist_of n w).records ≡ some (take (outputs key) (drop at w))

pub spot_outputs : (n h : ℕ) (key w idx : List ℕ) (p : ℕ) → Held n w idx → Key key → h ≡ hash_key n key → (s : Spot n h key (reverse (netlist_of n w).records) p)
    → begins key s.cell ≡ true → Outputs n key w (16 + 6 * n + (p - 1) + length key)
spot_outputs n h key w idx p d k e s b =
    let l = netlist_of n w in
    let r = s.cell in
    let st = cell_stands n w d.built s.front s.rest r s.parts in
    let rs : l.records ≡ reverse s.rest ++ (r ∷ reverse s.front) =
    sym (reverse-reverse l.records) ∙ ap reverse s.parts ∙ reverse-append s.front (r ∷ s.rest) ∙ ap (λ (t : List (List ℕ)). t ++ reverse s.front) (reverse-cons r s.rest)
    ∙ append_assoc (reverse s.rest) (r ∷ []) (reverse s.front) in
    let f : Formed r = formed_in (reverse s.rest) (reverse s.front) r (subst AllFormed rs d.built.fit.formed) in
    let len : length r ≡ length key + outputs key = cell_length r f (key_cell key r k b) ∙ ap₂ ◌+◌ (key_length_law key r k b) (same_outputs key r k b) in
    let at : 16 + 6 * n + (p - 1) ≡ 16 + 6 * n + used s.rest = omega (arith, s.place) in
    let dl : length (drop (length key) r) ≡ outputs key = length-drop (length key) r ∙ omega arith in
    record {
      within = omega (arith, st.within);
      says = spot_found n (length l.nodes) h key l.records (drop (2 * n) idx) p k e d.cells s b
          ∙ ap (λ (t : List ℕ). some t)
          (sym (ap (λ (j : ℕ). take (outputs key) (drop (j + length key) w)) at
          ∙ ap (take (outputs key)) (sym (drop-drop (length key) (16 + 6 * n + used s.rest) w) ∙ ap (drop (length key)) st.words ∙ drop-append-le (length key) r st.more (omega arith))
          ∙ take_at (drop (length key) r) st.more (outputs key) dl));
    }

-- ---- the search's loop, by the words ----

pub record Here (n : ℕ) (w : List ℕ) (at : ℕ) : Type 0 where
  pub width : at + 2 < length w
  pub key : at + key_length (drop at w) < length w
  pub first : first_output (drop at w) < n

module _ (n h : ℕ) (key w idx : List ℕ) (p : ℕ) (d : Held n w idx) (k : Key key) (e : h ≡ hash_key n key)
    (c : CellAt n h key (reverse (netlist_of n w).records) p) (pos : 0 < p) where
  stands : RecordStands w (16 + 6 * n + (p - 1)) (c.spot pos).cell
  stands =
      let s = c.spot pos in
      let q : 16 + 6 * n + used s.rest ≡ 16 + 6 * n + (p - 1) = omega (arith, s.place) in
      subst (λ (j : ℕ). RecordStands w j s.cell) q (cell_stands n w d.built s.front s.rest s.cell s.parts)

  link : Linked n (length (netlist_of n w).nodes) (c.spot pos).cell (c.spot pos).rest (drop (2 * n) idx)
  link = spot_linked n (length (netlist_of n w).nodes) h key (netlist_of n w).records (drop (2 * n) idx) p k e d.cells (c.spot pos)

  is_cell_law : is_cell (c.spot pos).cell ≡ true
  is_cell_law = (bucket_cell n h (c.spot pos).cell (c.spot pos).bucket).0

  first_is : first_output (drop (16 + 6 * n + (p - 1)) w) ≡ first_output (c.spot pos).cell
  first_is = ap first_output stands.words ∙ append_first_output (c.spot pos).cell stands.more is_cell_law link.whole

  begins_is : begins key (drop (16 + 6 * n + (p - 1)) w) ≡ begins key (c.spot pos).cell
  begins_is = ap (begins key) stands.words ∙ append_begins (c.spot pos).cell stands.more is_cell_law link.whole key k

  pub here : Here n w (16 + 6 * n + (p - 1))
  here =
      let r = (c.spot pos).cell in
      let kl : key_length (drop (16 + 6 * n + (p - 1)) w) ≡ key_length r = ap key_length stands.words ∙ append_key_length r stands.more is_cell_law link.whole in
      let t = three r stands.more is_cell_law link.whole in
      record {
        width = omega (arith, stands.within, link.whole, t);
        key = omega (arith, stands.within, link.whole, kl);
        first = omega (arith, first_is, link.below, d.built.fit.few);
      }

  pub here_found : begins key (drop (16 + 6 * n + (p - 1)) w) ≡ true → Outputs n key w (16 + 6 * n + (p - 1) + length key)
  here_found b = spot_outputs n h key w idx p d k e (c.spot pos) (sym begins_is ∙ b)

  next_word : (q : ℕ) → q ≡ get_or (drop (2 * n) idx) (n + first_output (drop (16 + 6 * n + (p - 1)) w)) 0
      → q ≡ get_or (drop (2 * n) idx) (n + first_output (c.spot pos).cell) 0
  next_word q z = z ∙ ap (λ (o : ℕ). get_or (drop (2 * n) idx) (n + o) 0) first_is

  pub here_less : (q : ℕ) → q ≡ get_or (drop (2 * n) idx) (n + first_output (drop (16 + 6 * n + (p - 1)) w)) 0 → q < p
  here_less q z =
      omega (arith, next_word q z, spot_less n (length (netlist_of n w).nodes) h key (netlist_of n w).records (drop (2 * n) idx) p k e d.cells (c.spot pos))

  pub here_turn : (q : ℕ) → begins key (drop (16 + 6 * n + (p - 1)) w) ≡ false
      → q ≡ get_or (drop (2 * n) idx) (n + first_output (drop (16 + 6 * n + (p - 1)) w)) 0 → CellAt n h key (reverse (netlist_of n w).records) q
  here_turn q b z =
      subst (λ (j : ℕ). CellAt n h key (reverse (netlist_of n w).records) j) (sym (next_word q z))
      (spot_turn n (length (netlist_of n w).nodes) h key (netlist_of n w).records (drop (2 * n) idx) p k e d.cells (c.spot pos) (sym begins_is ∙ b))
