-- Laws of the tree: none at the start, one node more, and a search that ends at the 48th node at the latest. Assumes nothing.
use Rattle.std.specs.Prelude.{ℕ, zero, suc, ◌+◌, ◌*◌, ◌-◌, ◌/◌, ◌%◌, ◌<◌, ◌≤◌, Bool, true, false, ◌≡◌, refl, ◌⊎◌, List, [], ◌∷◌, length, get_or, set}
use Rattle.std.proofs.Common.{true≢false, sym, ap₂, ◌∙◌, subst, inl, inr, ⊎_elim, eq-or-lt_of_le, length-take, get_or-set_same, get_or-set_other, get_or-take, length-take-le}
use Rattle.std.proofs.Math.Path.{ap}
use native.Mathlib.Omega.{arith}
use Rattle.std.proofs.Math.ListN.{get_or-eq_default}
use Rattle.std.proofs.Math.Seq.{take-set-lt}
use Rattle.spec_tests.specs.Rules.{◌<?◌, ◌and◌, any}
use Rattle.spec_tests.specs.Laws.{and_yes, and_skip, yes_eq, eq_yes, yes_lt, no_lt}
use Rattle.spec_tests.specs.Any.{any_at, any_none}
use Rattle.spec_rules.specs.NetlistImage.{node_word}
use Rattle.spec_netlist.specs.Accept.{nets, belongs, most_bit, same_node}
use Rattle.net_index.specs.Index.{mixed, bucket_of}
use Rattle.net_index.specs.Laws.{bucket_less}
use Rattle.stored_view.specs.Opened.{Opened, node_at}
use Rattle.stored_nodes.specs.Words.{node_kind}
use Rattle.stored_nodes.specs.Paths.{left, left_next, slot_at, slot_next, live_more, same_digits, same_depth, same_number, no_more, slot_kept, live_kept}
use Rattle.stored_nodes.specs.Tree.{key_of, key_at, root_of, slots, slot, Passes, Fits, Stands, Tree, On, Ends}

not_yes : (b : Bool) → (b ≡ true → ⊥) → b ≡ false
not_yes true h = absurd (h refl)
not_yes false h = refl

low_or_high : (j n : ℕ) → (j < n) ⊎ (n ≤ j)
low_or_high j n = go (j <? n) refl
  where
    go : (t : Bool) → (j <? n) ≡ t → (j < n) ⊎ (n ≤ j)
    go true e = inl (yes_lt j n e)
    go false e = inr (no_lt j n e)

three : {A : Type 0} (i j : ℕ) → (i < j → A) → (i ≡ j → A) → (j < i → A) → A
three i j f g h = ⊎_elim f (λ (b : j ≤ i). ⊎_elim (λ (e : j ≡ i). g (sym e)) h (eq-or-lt_of_le b)) (low_or_high i j)

-- ---- keys ----

root_less : (m k : ℕ) → 0 < m → root_of m k < m
unfolding root_of
root_less m k h = bucket_less m _ h

-- the root of a key, step by step as it is made
pub root_read : (m k : ℕ) {a b c r : ℕ} → a ≡ mixed 0 (k / 4294967296) → b ≡ mixed a (k % 4294967296) → c ≡ mixed b 0 → r ≡ bucket_of m c → r ≡ root_of m k
unfolding root_of
root_read m k p q s t =
    let second = q ∙ ap (λ (x : ℕ). mixed x (k % 4294967296)) p in
    t ∙ ap (bucket_of m) (s ∙ ap (λ (x : ℕ). mixed x 0) second)

-- node n's key, word by word as it is read
pub key_read : {ws : List ℕ} → Opened ws → (n : ℕ) {r : ℕ} → r ≡ key_of (get_or ws (16 + 6 * n) 0) (get_or ws (16 + 6 * n + 1) 0) (get_or ws (16 + 6 * n + 2) 0) → r ≡ key_at ws n
unfolding key_at
key_read {ws} o n e =
    e
    ∙ (ap (λ (x : ℕ). key_of x (get_or ws (16 + 6 * n + 1) 0) (get_or ws (16 + 6 * n + 2) 0)) (sym (node_kind o n))
    ∙ ap₂ (λ (x y : ℕ). key_of (node_word ws n 0) x y) (sym (node_at o n 1)) (sym (node_at o n 2)))

-- the same node has the same key
same_key : (ws : List ℕ) (j n : ℕ) → same_node ws j n ≡ true → (key_at ws j ≡ key_at ws n) × (belongs (node_word ws n 0) ≡ true → belongs (node_word ws j 0) ≡ true)
unfolding same_node key_at
same_key ws j n e =
    let p = and_yes e in
    let q = and_yes p.1 in
    let kind = yes_eq _ _ p.0 in
    (ap (λ (x : ℕ). key_of x (node_word ws j 1) (node_word ws j 2)) kind ∙ ap₂ (key_of (node_word ws n 0)) (yes_eq _ _ q.0) (yes_eq _ _ q.1), λ o. ap belongs kind ∙ o)

-- and the other way round, where words are in range
key_same : (ws : List ℕ) (j n : ℕ) → Fits ws j → Fits ws n → key_at ws j ≡ key_at ws n → same_node ws j n ≡ true
unfolding same_node key_at
key_same ws j n f g e =
    let kind : node_word ws j 0 ≡ node_word ws n 0 = omega (arith, f.owner, f.bit, g.owner, g.bit) in
    let owner : node_word ws j 1 ≡ node_word ws n 1 = omega (arith, f.bit, g.bit) in
    let bit : node_word ws j 2 ≡ node_word ws n 2 = omega arith in
    sym (and_skip (eq_yes _ _ kind) (and_skip (eq_yes _ _ owner) (sym (eq_yes _ _ bit))))

-- no kind has a bit from 2,048 on
unfoldable low : List ℕ → Bool
low [] = true
low (x ∷ xs) = x <? 2048 and low xs

low_at : (xs : List ℕ) (k : ℕ) → low xs ≡ true → get_or xs k 0 < 2048
unfolding low
low_at [] k e = omega arith
low_at (x ∷ xs) zero e = yes_lt _ _ (and_yes e).0
low_at (x ∷ xs) (suc k) e = low_at xs k (and_yes e).1

low_bit : (k : ℕ) → most_bit k < 2048
unfolding most_bit low ◌<?◌ ◌and◌
low_bit k = low_at (1023 ∷ 0 ∷ 0 ∷ 0 ∷ 0 ∷ 0 ∷ 0 ∷ 1023 ∷ 1023 ∷ 2047 ∷ 1023 ∷ 0 ∷ []) k refl

-- node n's words have passed
pub in_range : {ws : List ℕ} {n k b : ℕ} → Opened ws → k ≡ node_word ws n 0 → k < 12 → b ≡ node_word ws n 2 → b ≤ most_bit k → get_or ws (16 + 6 * n + 1) 0 < 4294967296
    → belongs k ≡ true → Fits ws n
in_range {n} {k} o e h q l w u =
    record { kind = omega arith; owner = omega (arith, node_at o n 1); bit = omega (arith, low_bit k); owned = sym (ap belongs e) ∙ u }

key_below : (ws : List ℕ) (j : ℕ) → Fits ws j → key_at ws j < 140737488355328
unfolding key_at
key_below ws j f = omega (arith, f.kind, f.owner, f.bit)

-- ---- a search for node n ----

on_start : (ws t : List ℕ) (n : ℕ) {a : ℕ} → n < nets ws → a ≡ root_of (nets ws) (key_at ws n) → On ws t n 0 a
unfolding slot_at
on_start ws t n h e =
    record {
      within = omega (arith, root_less (nets ws) (key_at ws n) (omega arith));
      passes = λ i b. absurd (omega arith);
      here = e;
      passed = λ i b. absurd (omega arith);
    }

module _ (ws t : List ℕ) (n d a : ℕ) (o : On ws t n d a) (h : 0 < get_or t a 0) where
  there : 0 < get_or t (slot ws t (key_at ws n) d) 0
  there = subst (λ (x : ℕ). 0 < get_or t x 0) o.here h

  -- a node that is not the same: on to one of its slots
  on_more : {b : ℕ} → n < nets ws → Tree ws n t → same_node ws (get_or t a 0 - 1) n ≡ false → b ≡ nets ws + 2 * (get_or t a 0 - 1) + left (key_at ws n) d % 2
      → On ws t n (d + 1) b
  on_more l tree e q =
      record {
        within = omega (arith, tree.under a);
        passes = live_more _ _ t (key_at ws n) d o.passes there;
        here = q ∙ (ap (λ (x : ℕ). nets ws + 2 * (get_or t x 0 - 1) + left (key_at ws n) d % 2) o.here ∙ next);
        passed = λ i b. ⊎_elim (λ (r : i ≡ d). subst (λ (x : ℕ). same_node ws (get_or t (slot ws t (key_at ws n) x) 0 - 1) n ≡ false) (sym r) last) (λ (r : i < d). o.passed i r) (eq-or-lt_of_le (omega arith));
      }
    where
      next : nets ws + 2 * (get_or t (slot ws t (key_at ws n) d) 0 - 1) + left (key_at ws n) d % 2 ≡ slot ws t (key_at ws n) (d + 1)
      next = sym (slot_next _ _ t (key_at ws n) d)

      last : same_node ws (get_or t (slot ws t (key_at ws n) d) 0 - 1) n ≡ false
      last = subst (λ (x : ℕ). same_node ws (get_or t x 0 - 1) n ≡ false) o.here e

  -- the 48th node is the same: its key has the same digits, all 47
  on_last : n < nets ws → Tree ws n t → Fits ws n → d ≡ 47 → same_node ws (get_or t a 0 - 1) n ≡ true
  on_last l tree f e = key_same ws (get_or t a 0 - 1) n g f (same_number _ _ 47 digits ended)
    where
      c : ℕ
      c = get_or t a 0 - 1

      held : get_or t a 0 ≡ c + 1
      held = omega arith

      g : Fits ws c
      g = tree.fits a c held

      s : Stands ws t c
      s = tree.stands c (omega (arith, tree.under a)) g.owned

      one : slot ws t (key_at ws c) s.depth ≡ slot ws t (key_at ws n) d
      one = tree.once _ _ (omega (arith, s.here)) (s.here ∙ (sym held ∙ ap (λ (x : ℕ). get_or t x 0) o.here))

      deep : s.depth ≡ d
      deep = same_depth _ _ t (λ k. root_less (nets ws) k (omega arith)) _ _ _ _ tree.once s.passes o.passes one

      digits : (i : ℕ) → i < 47 → left (key_at ws c) i % 2 ≡ left (key_at ws n) i % 2
      digits i b = same_digits _ _ t _ _ d tree.once (subst (Passes ws t (key_at ws c)) deep s.passes) o.passes (ap (slot ws t (key_at ws c)) (sym deep) ∙ one) i (omega arith)

      ended : left (key_at ws c) 47 ≡ left (key_at ws n) 47
      ended = no_more _ (key_below ws c g) ∙ sym (no_more _ (key_below ws n f))

-- ---- what the end of a search says ----

module _ (ws t : List ℕ) (n a : ℕ) (tree : Tree ws n t) (s : Ends ws t n a) where
  ends_same : 0 < get_or t a 0 → true ≡ any (λ j. same_node ws j n) n
  ends_same h = sym (any_at (λ j. same_node ws j n) n (get_or t a 0 - 1) (omega (arith, tree.under a)) (s.same h))

  ends_free : belongs (node_word ws n 0) ≡ true → get_or t a 0 ≡ 0 → false ≡ any (λ j. same_node ws j n) n
  ends_free o h = sym (any_none (λ j. same_node ws j n) n (λ j l. not_yes (same_node ws j n) (λ e. other j l e)))
    where
      -- an equal node stands before the end, and was passed; or after it; or there
      other : (j : ℕ) → j < n → same_node ws j n ≡ true → ⊥
      other j l e =
          let k = same_key ws j n e in
          let p = tree.stands j l (k.1 o) in
          let w : Passes ws t (key_at ws n) p.depth = subst (λ (x : ℕ). Passes ws t x p.depth) k.0 p.passes in
          let b : get_or t (slot ws t (key_at ws n) p.depth) 0 ≡ j + 1 = ap (λ (x : ℕ). get_or t (slot ws t x p.depth) 0) (sym k.0) ∙ p.here in
          let z : get_or t (slot ws t (key_at ws n) s.depth) 0 ≡ 0 = ap (λ (x : ℕ). get_or t x 0) (sym s.on.here) ∙ h in
          three p.depth s.depth
          (λ r. true≢false (sym e ∙ (ap (λ (x : ℕ). same_node ws x n) (omega (arith, b)) ∙ s.on.passed p.depth r)))
          (λ r. absurd (omega (arith, b, z, ap (λ (x : ℕ). get_or t (slot ws t (key_at ws n) x) 0) r)))
          (λ r. absurd (omega (arith, z, w s.depth r)))

  -- node n in the free slot
  placed : Fits ws n → get_or t a 0 ≡ 0 → a < length t → Tree ws (n + 1) (set t a (n + 1))
  placed f h l =
      record {
        under = λ i. by i (λ e. omega (arith, at e)) (λ e. omega (arith, off e, tree.under i));
        once = λ i j p q.
            by i (λ e. by j (λ b. e ∙ sym b) (λ b. absurd (omega (arith, at e, off b, tree.under j))))
            (λ e. by j (λ b. absurd (omega (arith, off e, at b, tree.under i))) (λ b. tree.once i j (omega (arith, off e)) (sym (off e) ∙ (q ∙ off b))));
        fits = λ i c e. by i (λ b. subst (Fits ws) (omega (arith, at b)) f) (λ b. tree.fits i c (sym (off b) ∙ e));
        stands = λ j b o. three j n (λ q. still j (tree.stands j q o)) (λ q. subst (Stands ws u) (sym q) mine) (λ q. absurd (omega arith));
      }
    where
      u : List ℕ
      u = set t a (n + 1)

      at : {i : ℕ} → i ≡ a → get_or u i 0 ≡ n + 1
      at e = ap (λ (x : ℕ). get_or u x 0) e ∙ get_or-set_same t a (n + 1) 0 l

      off : {i : ℕ} → (i ≡ a → ⊥) → get_or u i 0 ≡ get_or t i 0
      off {i} e = get_or-set_other t a i (n + 1) 0 e

      by : {A : Type 0} (i : ℕ) → (i ≡ a → A) → ((i ≡ a → ⊥) → A) → A
      by i y z = three i a (λ b. z (λ e. absurd (omega arith))) y (λ b. z (λ e. absurd (omega arith)))

      -- slots that were not free are as they were
      same : (i : ℕ) → 0 < get_or t i 0 → get_or u i 0 ≡ get_or t i 0
      same i b = off (λ e. absurd (omega (arith, h, ap (λ (x : ℕ). get_or t x 0) e)))

      still : (j : ℕ) → Stands ws t j → Stands ws u j
      still j p =
          record {
            depth = p.depth;
            passes = live_kept _ _ t u same _ _ p.passes;
            here = ap (λ (x : ℕ). get_or u x 0) (slot_kept _ _ t u same (key_at ws j) p.depth p.passes) ∙ (same _ (omega (arith, p.here)) ∙ p.here);
          }

      mine : Stands ws u n
      mine =
          record {
            depth = s.depth;
            passes = live_kept _ _ t u same _ _ s.on.passes;
            here = at (slot_kept _ _ t u same (key_at ws n) s.depth s.on.passes ∙ sym s.on.here);
          }

-- a node that belongs to no record
pub skipped : (ws t : List ℕ) (n : ℕ) → belongs (node_word ws n 0) ≡ false → Tree ws n t → Tree ws (n + 1) t
skipped ws t n o tree =
    record {
      under = λ a. omega (arith, tree.under a);
      once = tree.once;
      fits = tree.fits;
      stands = λ j b p.
          three j n (λ q. tree.stands j q p) (λ q. absurd (true≢false (sym p ∙ (ap (λ (i : ℕ). belongs (node_word ws i 0)) q ∙ o)))) (λ q. absurd (omega arith));
    }

-- slots that are all free
none_yet : (ws t : List ℕ) → ((a : ℕ) → get_or t a 0 ≡ 0) → Tree ws 0 t
none_yet ws t z =
    record {
      under = λ a. omega (arith, z a);
      once = λ a b h e. absurd (omega (arith, z a));
      fits = λ a c e. absurd (omega (arith, z a));
      stands = λ j h o. absurd (omega arith);
    }

-- ---- the same of a lent table, whose first words are the slots ----

-- the loop of a search: `rest` is what is left of the key
pub record Searches (ws table : List ℕ) (n rest a d : ℕ) : Type 0 where
  pub on : On ws (slots ws table) n d a
  pub digits : rest ≡ left (key_at ws n) d
  pub few : d ≤ 47

module _ (ws table : List ℕ) where
  read : {a : ℕ} → a < 3 * nets ws → get_or (slots ws table) a 0 ≡ get_or table a 0
  read {a} h = get_or-take (3 * nets ws) table a 0 h

  pub searches_start : {n k a : ℕ} → n < nets ws → k ≡ key_at ws n → a ≡ root_of (nets ws) k → Searches ws table n k a 0
  unfolding left
  searches_start {n} h e q = record { on = on_start ws (slots ws table) n h (q ∙ ap (root_of (nets ws)) e); digits = e; few = omega arith }

  module _ {n rest a d : ℕ} (s : Searches ws table n rest a d) where
    word : get_or (slots ws table) a 0 ≡ get_or table a 0
    word = read s.on.within

    pub searches_low : Tree ws n (slots ws table) → get_or table a 0 ≤ n
    searches_low t = omega (arith, word, t.under a)

    pub searches_free : get_or table a 0 ≡ 0 → Ends ws (slots ws table) n a
    searches_free e = record { depth = d; on = s.on; same = λ h. absurd (omega (arith, word)) }

    pub searches_same : same_node ws (get_or table a 0 - 1) n ≡ true → Ends ws (slots ws table) n a
    searches_same e = record { depth = d; on = s.on; same = λ h. ap (λ (x : ℕ). same_node ws (x - 1) n) word ∙ e }

    pub searches_more : {b : ℕ} → n < nets ws → Fits ws n → Tree ws n (slots ws table) → 0 < get_or table a 0 → same_node ws (get_or table a 0 - 1) n ≡ false
        → b ≡ nets ws + 2 * (get_or table a 0 - 1) + rest % 2 → Searches ws table n (rest / 2) b (d + 1)
    searches_more l f t h e q =
        let there : 0 < get_or (slots ws table) a 0 = omega (arith, word) in
        let other : same_node ws (get_or (slots ws table) a 0 - 1) n ≡ false = ap (λ (x : ℕ). same_node ws (x - 1) n) word ∙ e in
        record {
          on = on_more ws (slots ws table) n d a s.on there l t other (q ∙ omega (arith, word, s.digits));
          digits = ap (λ (x : ℕ). x / 2) s.digits ∙ sym (left_next (key_at ws n) d);
          few = ⊎_elim (λ (r : d ≡ 47). absurd (true≢false (sym (on_last ws (slots ws table) n d a s.on there l t f r) ∙ other))) (λ (r : d < 47). omega arith) (eq-or-lt_of_le s.few);
        }

  module _ {n a : ℕ} (t : Tree ws n (slots ws table)) (s : Ends ws (slots ws table) n a) where
    pub again_yes : 0 < get_or table a 0 → true ≡ any (λ j. same_node ws j n) n
    again_yes h = ends_same ws (slots ws table) n a t s (omega (arith, read s.on.within))

    pub again_no : Fits ws n → get_or table a 0 ≡ 0 → false ≡ any (λ j. same_node ws j n) n
    again_no f h = ends_free ws (slots ws table) n a t s f.owned (read s.on.within ∙ h)

    pub again_placed : Fits ws n → get_or table a 0 ≡ 0 → 3 * nets ws ≤ length table → Tree ws (n + 1) (slots ws (set table a (n + 1)))
    again_placed f h l =
        let long = length-take-le (3 * nets ws) table l in
        subst (Tree ws (n + 1)) (sym (take-set-lt (3 * nets ws) table a (n + 1) s.on.within))
        (placed ws (slots ws table) n a t s f (read s.on.within ∙ h) (omega (arith, s.on.within)))

  -- a table whose slots are cleared
  pub cleared : ((a : ℕ) → a < 3 * nets ws → get_or table a 0 ≡ 0) → Tree ws 0 (slots ws table)
  cleared z = none_yet ws (slots ws table) (λ a. ⊎_elim (λ (h : a < 3 * nets ws). read h ∙ z a h) (λ (h : 3 * nets ws ≤ a). get_or-eq_default (slots ws table) 0 (omega (arith, length-take (3 * nets ws) table))) (low_or_high a (3 * nets ws)))
