-- Laws of the index over constants and gates. Assumes nothing.
use Rattle.std.specs.Prelude.{◌≡◌, refl, Bool, true, false, cond, ◌&&◌, List, [], ◌∷◌, ◌≢◌, ℕ, zero, suc, ◌+◌, ◌*◌, ◌-◌, ◌/◌, ◌%◌, ◌≤◌, ◌<◌, length, get_or, set, eqb, ltb}
use Rattle.std.proofs.Common.{sym, ap, ◌∙◌, ⊎_elim, arith, eq-or-lt_of_le, le_refl, mul-le-mul, mod-eq_of_lt, length-set, get_or-set_same, get_or-set_other, eqb-true, eq-eqb}
use Rattle.std.proofs.Math.Option.{none, some}
use Rattle.std.proofs.lemmas.Bool.{eqb-false}
use Rattle.spec_model.specs.Words.{Node}
use Rattle.spec_model.specs.Builder.{same, find}
use Rattle.net_view.specs.View.{node_at_of, nodes_of}
use Rattle.net_view.specs.Laws.{nodes_of_suc, length_nodes_of}
use Rattle.net_index.specs.Index.{hash_words, bucket_of, hash_node, is_gate, in_bucket, newest, Chained, Indexed}

pub bucket_less : (m h : ℕ) → 0 < m → bucket_of m h < m
unfolding bucket_of
bucket_less m h p =
    let x : h % 4294967296 * m ≤ 4294967295 * m = mul-le-mul (omega arith) (le_refl m) in
    omega arith

-- of a 32-bit hash
pub bucket_is : (m h : ℕ) → h < 4294967296 → h * m / 4294967296 ≡ bucket_of m h
unfolding bucket_of
bucket_is m h l = ap (λ (k : ℕ). k * m / 4294967296) (sym (mod-eq_of_lt l))

pub hash_less : (m : ℕ) (x : Node) → 0 < m → hash_node m x < m
unfolding hash_node
hash_less m x h = bucket_less m (hash_words 0 (x.kind ∷ x.in0 ∷ x.in1 ∷ x.in2 ∷ x.owner ∷ [])) h

-- ---- equal nodes ----

and_true : (a b : Bool) → a && b ≡ true → (a ≡ true) × (b ≡ true)
and_true true b e = (refl, e)
and_true false b e = let z : ◌≡◌ {A = ℕ} 0 1 = cc in absurd (omega arith)

pub record Same (x y : Node) : Type 0 where
  pub kinds : x.kind ≡ y.kind
  pub ins0 : x.in0 ≡ y.in0
  pub ins1 : x.in1 ≡ y.in1
  pub ins2 : x.in2 ≡ y.in2
  pub owners : x.owner ≡ y.owner

pub same_true : (x y : Node) → same x y ≡ true → Same x y
unfolding same
same_true x y e =
    let e₁ = and_true (eqb x.kind y.kind && eqb x.in0 y.in0 && eqb x.in1 y.in1 && eqb x.in2 y.in2) (eqb x.owner y.owner) e in
    let e₂ = and_true (eqb x.kind y.kind && eqb x.in0 y.in0 && eqb x.in1 y.in1) (eqb x.in2 y.in2) e₁.0 in
    let e₃ = and_true (eqb x.kind y.kind && eqb x.in0 y.in0) (eqb x.in1 y.in1) e₂.0 in
    let e₄ = and_true (eqb x.kind y.kind) (eqb x.in0 y.in0) e₃.0 in
    record { kinds = eqb-true _ _ e₄.0; ins0 = eqb-true _ _ e₄.1; ins1 = eqb-true _ _ e₃.1; ins2 = eqb-true _ _ e₂.1; owners = eqb-true _ _ e₁.1 }

-- equal nodes have one hash, and are gates alike
pub same_hash : (m : ℕ) (x y : Node) → same x y ≡ true → hash_node m x ≡ hash_node m y
unfolding hash_node
same_hash m x y e =
    let s = same_true x y e in
    λ i. bucket_of m (hash_words 0 (s.kinds i ∷ s.ins0 i ∷ s.ins1 i ∷ s.ins2 i ∷ s.owners i ∷ []))

same_gate : (x y : Node) → same x y ≡ true → is_gate x ≡ is_gate y
unfolding is_gate
same_gate x y e = ap (λ (k : ℕ). ltb 0 k && ltb k 7) (same_true x y e).kinds

-- ---- the definitions' equations ----

pub find_hit : (x y : Node) (ys : List Node) → same x y ≡ true → find x (y ∷ ys) ≡ some (length ys)
unfolding find
find_hit x y ys e = rw (e, find)

pub find_miss : (x y : Node) (ys : List Node) → same x y ≡ false → find x (y ∷ ys) ≡ find x ys
unfolding find
find_miss x y ys e = rw (e, find)

newest_cons : (m h : ℕ) (y : Node) (ys : List Node) → newest m h (y ∷ ys) ≡ cond (in_bucket m h y) (suc (length ys)) (newest m h ys)
unfolding newest
newest_cons m h y ys = refl

newest_suc : (m h : ℕ) (w : List ℕ) (k : ℕ) → newest m h (nodes_of w (suc k)) ≡ cond (in_bucket m h (node_at_of w k)) (suc k) (newest m h (nodes_of w k))
newest_suc m h w k = rw (nodes_of_suc, newest_cons, length_nodes_of)

newest_here : (m h : ℕ) (w : List ℕ) (k : ℕ) → in_bucket m h (node_at_of w k) ≡ true → newest m h (nodes_of w (suc k)) ≡ suc k
newest_here m h w k e = newest_suc m h w k ∙ rw e

newest_past : (m h : ℕ) (w : List ℕ) (k : ℕ) → in_bucket m h (node_at_of w k) ≡ false → newest m h (nodes_of w (suc k)) ≡ newest m h (nodes_of w k)
newest_past m h w k e = newest_suc m h w k ∙ rw e

-- a gate is in the bucket of its hash
bucket_own : (m h : ℕ) (x : Node) → is_gate x ≡ true → hash_node m x ≡ h → in_bucket m h x ≡ true
unfolding in_bucket
bucket_own m h x g e = rw (g, eq-eqb (hash_node m x) h e)

pub in_bucket_law : (m h : ℕ) (x : Node) → is_gate x ≡ true → in_bucket m h x ≡ eqb (hash_node m x) h
unfolding in_bucket
in_bucket_law m h x g = rw g

bucket_true : (m h : ℕ) (y : Node) → in_bucket m h y ≡ true → (is_gate y ≡ true) × (hash_node m y ≡ h)
unfolding in_bucket
bucket_true m h y e = let p = and_true (is_gate y) (eqb (hash_node m y) h) e in (p.0, eqb-true (hash_node m y) h p.1)

-- the search for a gate may start at its bucket's newest node
pub find_newest_law : (m : ℕ) (x : Node) (w : List ℕ) (p : ℕ) → is_gate x ≡ true
    → find x (nodes_of w p) ≡ find x (nodes_of w (newest m (hash_node m x) (nodes_of w p)))
unfolding nodes_of newest
find_newest_law m x w zero g = refl
find_newest_law m x w (suc k) g = go (in_bucket m (hash_node m x) (node_at_of w k)) refl (same x (node_at_of w k)) refl (find_newest_law m x w k g)
  where
    go : (t : Bool) → in_bucket m (hash_node m x) (node_at_of w k) ≡ t → (u : Bool) → same x (node_at_of w k) ≡ u
        → find x (nodes_of w k) ≡ find x (nodes_of w (newest m (hash_node m x) (nodes_of w k)))
        → find x (nodes_of w (suc k)) ≡ find x (nodes_of w (newest m (hash_node m x) (nodes_of w (suc k))))
    go true e u s ih = ap (λ (n : ℕ). find x (nodes_of w n)) (sym (newest_here m (hash_node m x) w k e))
    go false e true s ih =
        let b : in_bucket m (hash_node m x) (node_at_of w k) ≡ true =
        bucket_own m (hash_node m x) (node_at_of w k) (sym (same_gate x (node_at_of w k) s) ∙ g) (sym (same_hash m x (node_at_of w k) s)) in
        let z : ◌≡◌ {A = Bool} true false = sym b ∙ e in
        let o : ◌≡◌ {A = ℕ} 0 1 = cc in absurd (omega arith)
    go false e false s ih =
        ap (find x) (nodes_of_suc w k) ∙ find_miss x (node_at_of w k) (nodes_of w k) s
        ∙ ih ∙ ap (λ (n : ℕ). find x (nodes_of w n)) (sym (newest_past m (hash_node m x) w k e))

pub newest_le : (m h : ℕ) (ns : List Node) → newest m h ns ≤ length ns
unfolding newest
newest_le m h [] = omega arith
newest_le m h (y ∷ ys) = go (in_bucket m h y) (newest_le m h ys)
  where
    go : (t : Bool) → newest m h ys ≤ length ys → cond t (suc (length ys)) (newest m h ys) ≤ suc (length ys)
    go true ih = omega arith
    go false ih = omega arith

-- the bucket's newest node is of the bucket
pub newest_bucket : (m h : ℕ) (w : List ℕ) (p : ℕ) → 0 < newest m h (nodes_of w p) → in_bucket m h (node_at_of w (newest m h (nodes_of w p) - 1)) ≡ true
unfolding nodes_of newest
newest_bucket m h w zero l = absurd (omega arith)
newest_bucket m h w (suc k) l = go (in_bucket m h (node_at_of w k)) refl (λ z. newest_bucket m h w k z)
  where
    go : (t : Bool) → in_bucket m h (node_at_of w k) ≡ t
        → (0 < newest m h (nodes_of w k) → in_bucket m h (node_at_of w (newest m h (nodes_of w k) - 1)) ≡ true)
        → in_bucket m h (node_at_of w (newest m h (nodes_of w (suc k)) - 1)) ≡ true
    go true e ih =
        let n : newest m h (nodes_of w (suc k)) - 1 ≡ k = omega (arith, newest_here m h w k e) in
        ap (λ (j : ℕ). in_bucket m h (node_at_of w j)) n ∙ e
    go false e ih =
        let n = newest_past m h w k e in
        ap (λ (j : ℕ). in_bucket m h (node_at_of w (j - 1))) n ∙ ih (omega (arith, n, l))

-- the word of node k
pub chained_at : (m : ℕ) (w idx : List ℕ) (c k : ℕ) → k < c → Chained m (nodes_of w c) idx → is_gate (node_at_of w k) ≡ true
    → get_or idx (m + k) 0 ≡ newest m (hash_node m (node_at_of w k)) (nodes_of w k)
unfolding nodes_of
chained_at m w idx zero k l ch g = absurd (omega arith)
chained_at m w idx (suc c) k l ch g =
    let le : k ≤ c = omega arith in
    ⊎_elim
    (λ (e : k ≡ c). let g' : is_gate (node_at_of w c) ≡ true = rw e at g in
    rw e (ap (λ (n : ℕ). get_or idx (m + n) 0) (sym (length_nodes_of w c)) ∙ ch.0 g'))
    (λ (j : k < c). chained_at m w idx c k j ch.1 g)
    (eq-or-lt_of_le le)

-- a store that is no node's word
pub chained_set : (m : ℕ) (ns : List Node) (idx : List ℕ) (j v : ℕ) → ((k : ℕ) → k < length ns → m + k ≢ j) → Chained m ns idx → Chained m ns (set idx j v)
chained_set m [] idx j v h ch = tt
chained_set m (y ∷ ys) idx j v h ch = (
  (λ g. get_or-set_other idx j (m + length ys) v 0 (h (length ys) (omega arith)) ∙ ch.0 g),
  chained_set m ys idx j v (λ k l. h k (omega arith)) ch.1,
)

-- a node that is no gate leaves the index as it is
pub indexed_other : (m : ℕ) (ns : List Node) (idx : List ℕ) (x : Node) → is_gate x ≡ false → Indexed m ns idx → Indexed m (x ∷ ns) idx
unfolding in_bucket
indexed_other m ns idx x e ix = record {
  heads = λ h l. ix.heads h l ∙ sym (newest_cons m h x ns ∙ rw e);
  chained = ((λ g. let z : ◌≡◌ {A = Bool} true false = sym g ∙ e in let o : ◌≡◌ {A = ℕ} 0 1 = cc in absurd (omega arith)), ix.chained);
}

-- the index's words with one gate more
abbrev pub linked : ℕ → ℕ → ℕ → List ℕ → List ℕ
linked m k h idx = set (set idx (m + k) (get_or idx h 0)) h (suc k)

pub indexed_push : (m : ℕ) (ns : List Node) (idx : List ℕ) (x : Node) → is_gate x ≡ true → 0 < m → m + length ns < length idx → Indexed m ns idx
    → Indexed m (x ∷ ns) (linked m (length ns) (hash_node m x) idx)
indexed_push m ns idx x gate pos more ix =
    let less = hash_less m x pos in
    let h = hash_node m x in
    let j = m + length ns in
    let v = get_or idx h 0 in
    let idx₁ = set idx j v in
    record {
      heads = λ g l. go g l (eqb h g) refl;
      chained = (
        (λ z. get_or-set_other idx₁ h j (suc (length ns)) 0 (omega arith) ∙ get_or-set_same idx j v 0 more ∙ ix.heads h less),
        chained_set m ns idx₁ h (suc (length ns)) (λ k l. omega arith) (chained_set m ns idx j v (λ k l. omega arith) ix.chained),
      );
    }
  where
    bucket : (g : ℕ) (t : Bool) → eqb (hash_node m x) g ≡ t → newest m g (x ∷ ns) ≡ cond t (suc (length ns)) (newest m g ns)
    bucket g t e = newest_cons m g x ns ∙ ap (λ (u : Bool). cond u (suc (length ns)) (newest m g ns)) (in_bucket_law m g x gate ∙ e)

    go : (g : ℕ) → g < m → (t : Bool) → eqb (hash_node m x) g ≡ t → get_or (linked m (length ns) (hash_node m x) idx) g 0 ≡ newest m g (x ∷ ns)
    go g l true e =
        let z : g ≡ hash_node m x = sym (eqb-true (hash_node m x) g e) in
        let len : hash_node m x < length (set idx (m + length ns) (get_or idx (hash_node m x) 0)) = rw length-set (omega arith) in
        ap (λ (q : ℕ). get_or (linked m (length ns) (hash_node m x) idx) q 0) z
        ∙ get_or-set_same (set idx (m + length ns) (get_or idx (hash_node m x) 0)) (hash_node m x) (suc (length ns)) 0 len
        ∙ sym (bucket g true e)
    go g l false e =
        let ne : g ≢ hash_node m x = λ q. eqb-false (hash_node m x) g e (sym q) in
        get_or-set_other (set idx (m + length ns) (get_or idx (hash_node m x) 0)) (hash_node m x) g (suc (length ns)) 0 ne
        ∙ get_or-set_other idx (m + length ns) g (get_or idx (hash_node m x) 0) 0 (omega arith)
        ∙ ix.heads g l ∙ sym (bucket g false e)

-- ---- the search's loop ----

-- at its head: nothing is found above p, and node p - 1 is of the bucket
pub record At (m : ℕ) (x : Node) (w : List ℕ) (c p : ℕ) : Type 0 where
  pub within : p ≤ c
  pub says : find x (nodes_of w c) ≡ find x (nodes_of w p)
  pub bucket : 0 < p → in_bucket m (hash_node m x) (node_at_of w (p - 1)) ≡ true

pub at_start : (m : ℕ) (x : Node) (w idx : List ℕ) (c h : ℕ) → is_gate x ≡ true → Indexed m (nodes_of w c) idx → h ≡ hash_node m x → h < m
    → At m x w c (get_or idx h 0)
at_start m x w idx c h g ix e l =
    let q : get_or idx h 0 ≡ newest m (hash_node m x) (nodes_of w c) = ix.heads h l ∙ ap (λ (j : ℕ). newest m j (nodes_of w c)) e in
    rw q (record {
      within = omega (arith, newest_le m (hash_node m x) (nodes_of w c), length_nodes_of w c);
      says = find_newest_law m x w c g;
      bucket = λ p. newest_bucket m (hash_node m x) w c p;
    })

module _ (m : ℕ) (x : Node) (w idx : List ℕ) (c p : ℕ) (g : is_gate x ≡ true) (ix : Indexed m (nodes_of w c) idx) (at : At m x w c p) (pos : 0 < p) where
  next_is : get_or idx (m + (p - 1)) 0 ≡ newest m (hash_node m x) (nodes_of w (p - 1))
  next_is =
      let b = bucket_true m (hash_node m x) (node_at_of w (p - 1)) (at.bucket pos) in
      chained_at m w idx c (p - 1) (omega (arith, at.within)) ix.chained b.0
      ∙ ap (λ (j : ℕ). newest m j (nodes_of w (p - 1))) b.1

  pub at_less : get_or idx (m + (p - 1)) 0 < p
  at_less = omega (arith, next_is, newest_le m (hash_node m x) (nodes_of w (p - 1)), length_nodes_of w (p - 1))

  back : nodes_of w p ≡ node_at_of w (p - 1) ∷ nodes_of w (p - 1)
  back = let e : p ≡ suc (p - 1) = omega arith in ap (nodes_of w) e ∙ nodes_of_suc w (p - 1)

  pub at_turn : same x (node_at_of w (p - 1)) ≡ false → At m x w c (get_or idx (m + (p - 1)) 0)
  at_turn e = rw next_is (record {
    within = omega (arith, at.within, newest_le m (hash_node m x) (nodes_of w (p - 1)), length_nodes_of w (p - 1));
    says = at.says ∙ ap (find x) back ∙ find_miss x (node_at_of w (p - 1)) (nodes_of w (p - 1)) e ∙ find_newest_law m x w (p - 1) g;
    bucket = λ q. newest_bucket m (hash_node m x) w (p - 1) q;
  })

  pub at_found : same x (node_at_of w (p - 1)) ≡ true → find x (nodes_of w c) ≡ some (p - 1)
  at_found e =
      at.says ∙ ap (find x) back ∙ find_hit x (node_at_of w (p - 1)) (nodes_of w (p - 1)) e ∙ ap (λ (k : ℕ). some k) (length_nodes_of w (p - 1))

pub at_end_law : (m : ℕ) (x : Node) (w : List ℕ) (c p : ℕ) → At m x w c p → p ≡ 0 → find x (nodes_of w c) ≡ none
unfolding nodes_of find
at_end_law m x w c p at e = at.says ∙ ap (λ (k : ℕ). find x (nodes_of w k)) e
