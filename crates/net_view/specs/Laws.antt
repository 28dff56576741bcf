-- Laws of the netlist image's words: they hold their netlist, and one node or one record more. Assumes nothing.
use Rattle.std.specs.Prelude.{◌≡◌, refl, Bool, ℕ, zero, suc, ◌+◌, ◌*◌, ◌-◌, ◌≤◌, ◌<◌, take, drop, set}
use Rattle.std.proofs.Math.Path.{sym, ap}
use Rattle.std.proofs.Common.{ap₂, subst, ◌∙◌, ⊎_elim, arith, add-zero, eq-or-lt_of_le, length-append, eq-eqb, ne_eqb, lt-ltb, le-ltb, take_at, drop_at, get_or-append-add, get_or-drop}
use mathlib.Core.List.{List, [], ◌∷◌, ◌++◌, append_assoc}
use Rattle.std.proofs.Math.ListN.{length, get_or, replicate}
use Rattle.std.proofs.lemmas.List.{length-replicate, replicate-append-replicate}
use Rattle.std.proofs.lemmas.List.Edits.{sets, sets-eq}
use Rattle.std.proofs.Math.Seq.{drop-append-add}
use Rattle.spec_rules.specs.NetlistImage.{records_of, split}
use Rattle.spec_model.specs.Words.{absent, Node, node, gate, Netlist, bit_word, used, count, nodes_words, list_words, header_words, words}
use Rattle.spec_model.specs.Builder.{node_for_net}
use Rattle.net_view.specs.View.{node_at_of, nodes_of, room, netlist_of, Formed, Fit, Built}
use Rattle.net_view.specs.Records.{used_length, used_snoc, list_words_snoc, count_snoc, count_le, formed_snoc, split_list}

pub nodes_of_suc : (w : List ℕ) (k : ℕ) → nodes_of w (suc k) ≡ node_at_of w k ∷ nodes_of w k
unfolding nodes_of
nodes_of_suc w k = refl

pub length_nodes_of : (w : List ℕ) (k : ℕ) → length (nodes_of w k) ≡ k
unfolding nodes_of
length_nodes_of w zero = refl
length_nodes_of w (suc k) = ap suc (length_nodes_of w k)

abbrev pub flat : List Node → List ℕ
flat xs = nodes_words xs []

abbrev pub node_words : Node → List ℕ
node_words x = x.kind ∷ x.owner ∷ x.bit ∷ x.in0 ∷ x.in1 ∷ x.in2 ∷ []

pub nodes_words_append : (xs : List Node) (r : List ℕ) → nodes_words xs r ≡ flat xs ++ r
nodes_words_append [] r = refl
nodes_words_append (x ∷ xs) r =
    nodes_words_append xs (node_words x ++ r) ∙ sym (append_assoc (flat xs) (node_words x) r)
    ∙ ap (λ (t : List ℕ). t ++ r) (sym (nodes_words_append xs (node_words x)))

pub length_flat : (xs : List Node) → length (flat xs) ≡ 6 * length xs
length_flat [] = refl
length_flat (x ∷ xs) =
    ap length (nodes_words_append xs (node_words x)) ∙ length-append (flat xs) (node_words x) ∙ omega (arith, length_flat xs)

pub length_nodes_words : (xs : List Node) (r : List ℕ) → length (nodes_words xs r) ≡ 6 * length xs + length r
length_nodes_words xs r = ap length (nodes_words_append xs r) ∙ length-append (flat xs) r ∙ ap (λ (k : ℕ). k + length r) (length_flat xs)

-- word j behind the nodes
behind : (xs : List Node) (r w : List ℕ) (j : ℕ) → drop 16 w ≡ nodes_words xs r → get_or w (16 + 6 * length xs + j) 0 ≡ get_or r j 0
behind xs r w j e =
    let a : 16 + 6 * length xs + j ≡ 16 + (length (flat xs) + j) = omega (arith, length_flat xs) in
    ap (λ (k : ℕ). get_or w k 0) a ∙ sym (get_or-drop 16 w (length (flat xs) + j) 0)
    ∙ ap (λ (t : List ℕ). get_or t (length (flat xs) + j) 0) (e ∙ nodes_words_append xs r) ∙ get_or-append-add (flat xs) r j 0

nodes_held : (xs : List Node) (r w : List ℕ) → drop 16 w ≡ nodes_words xs r → nodes_of w (length xs) ≡ xs
unfolding nodes_of node_at_of
nodes_held [] r w e = refl
nodes_held (x ∷ xs) r w e =
    let b : (j : ℕ) → get_or w (16 + 6 * length xs + j) 0 ≡ get_or (node_words x ++ r) j 0 = λ j. behind xs (node_words x ++ r) w j e in
    let z : 16 + 6 * length xs ≡ 16 + 6 * length xs + 0 = omega arith in
    λ i. node ((ap (λ (k : ℕ). get_or w k 0) z ∙ b 0) i) (b 1 i) (b 2 i) (b 3 i) (b 4 i) (b 5 i) ∷ nodes_held xs (node_words x ++ r) w e i

module _ (n p : ℕ) (l : Netlist) where
  -- the words in four parts
  abbrev pub nodes_part : List ℕ
  nodes_part = nodes_words l.nodes (replicate (6 * (n - length l.nodes)) 0)

  pub length_nodes_part : length l.nodes ≤ n → length nodes_part ≡ 6 * n
  length_nodes_part h =
      length_nodes_words l.nodes (replicate (6 * (n - length l.nodes)) 0)
      ∙ rw (length-replicate {A = ℕ} (6 * (n - length l.nodes)) 0) (omega arith)

  pub words_parts : words n p l ≡ header_words n l ++ (nodes_part ++ (list_words l.records ++ replicate (p - used l.records) 0))
  unfolding words
  words_parts = simp append_assoc

  module _ (f : Fit n p l) where
    pub length_words : length (words n p l) ≡ 16 + 6 * n + p
    length_words =
        ap length words_parts
        ∙ simp (length-append, length_nodes_part f.few, length-replicate, used_length) (omega (arith, f.short))

    words_nodes : nodes_of (words n p l) (length l.nodes) ≡ l.nodes
    unfolding words
    words_nodes =
        nodes_held l.nodes (replicate (6 * (n - length l.nodes)) 0 ++ (list_words l.records ++ replicate (p - used l.records) 0)) (words n p l)
        (append_assoc nodes_part (list_words l.records) (replicate (p - used l.records) 0)
        ∙ ap (λ (t : List ℕ). t ++ (list_words l.records ++ replicate (p - used l.records) 0)) (nodes_words_append l.nodes (replicate (6 * (n - length l.nodes)) 0))
        ∙ append_assoc (flat l.nodes) (replicate (6 * (n - length l.nodes)) 0) (list_words l.records ++ replicate (p - used l.records) 0)
        ∙ sym (nodes_words_append l.nodes (replicate (6 * (n - length l.nodes)) 0 ++ (list_words l.records ++ replicate (p - used l.records) 0))))

    pub words_list : drop (16 + 6 * n) (words n p l) ≡ list_words l.records ++ replicate (p - used l.records) 0
    words_list =
        ap (drop (16 + 6 * n)) (words_parts ∙ sym (append_assoc (header_words n l) nodes_part _))
        ∙ drop_at (header_words n l ++ nodes_part) _ (16 + 6 * n) (omega (arith, length_nodes_part f.few))

    words_records : records_of (words n p l) ≡ l.records
    unfolding records_of words
    words_records =
        ap (λ (t : List ℕ). split (used l.records) (take (used l.records) t)) words_list
        ∙ ap (split (used l.records)) (take_at (list_words l.records) _ (used l.records) (used_length l.records))
        ∙ split_list (used l.records) l.records f.formed (omega arith)

    pub words_view : netlist_of n (words n p l) ≡ l
    unfolding words
    words_view =
        let m : room n (words n p l) ≡ l.max_list = omega (arith, length_words, f.list) in
        λ i. record { max_nets = sym f.nets i; max_list = m i; nodes = words_nodes i; records = words_records i }

-- words that are the image of a netlist within the limits hold it
pub record Holds (n : ℕ) (l : Netlist) (w : List ℕ) : Type 0 where
  pub view : netlist_of n w ≡ l
  pub built : Built n w

pub holds : (n p : ℕ) (l : Netlist) (w : List ℕ) → Fit n p l → 0 < n → n ≤ 65535 → p ≤ 65535 → w ≡ words n p l → Holds n l w
unfolding words
holds n p l w f some few short e =
    let len : length w ≡ 16 + 6 * n + p = ap length e ∙ length_words n p l f in
    let r : room n w ≡ p = omega arith in
    let v : netlist_of n w ≡ l = ap (netlist_of n) e ∙ words_view n p l f in
    let c : get_or w 1 0 ≡ length l.nodes = ap (λ (u : List ℕ). get_or u 1 0) e in
    let u : get_or w 3 0 ≡ used l.records = ap (λ (t : List ℕ). get_or t 3 0) e in
    record {
      view = v;
      built = record {
        told = e ∙ λ i. words n (sym r i) (sym v i);
        fit = subst (λ (x : ℕ × Netlist). Fit n x.0 x.1) (λ i. (sym r i, sym v i)) f;
        count = omega (arith, c, f.few);
        used = omega (arith, u, f.short);
        sized = omega arith;
        some = some;
        nets = few;
        list = omega arith;
      };
    }

-- ---- stores ----

-- a run of stores over a stretch of as many words
pub sets_mid : (a z b vs : List ℕ) (i : ℕ) → length a ≡ i → length z ≡ length vs → sets (a ++ (z ++ b)) i vs ≡ a ++ (vs ++ b)
sets_mid a z b vs i e h =
    let len : length (a ++ (z ++ b)) ≡ length a + (length z + length b) = length-append a (z ++ b) ∙ ap (λ (k : ℕ). length a + k) (length-append z b) in
    let d : drop (i + length vs) (a ++ (z ++ b)) ≡ b =
    ap (λ (k : ℕ). drop k (a ++ (z ++ b))) {x = i + length vs} {y = length a + length z} (omega arith) ∙ drop-append-add a (z ++ b) (length z) ∙ drop_at z b (length z) refl in
    sets-eq vs (a ++ (z ++ b)) i (omega arith)
    ∙ append_assoc (take i (a ++ (z ++ b))) vs (drop (i + length vs) (a ++ (z ++ b)))
    ∙ ap₂ (λ (x y : List ℕ). x ++ (vs ++ y)) (take_at a (z ++ b) i e) d

abbrev pub zeros : ℕ → List ℕ
zeros k = replicate k 0

abbrev pub with_node : Node → Netlist → Netlist
with_node x l = record { max_nets = l.max_nets; max_list = l.max_list; nodes = x ∷ l.nodes; records = l.records }

abbrev pub with_record : List ℕ → Netlist → Netlist
with_record r l = record { max_nets = l.max_nets; max_list = l.max_list; nodes = l.nodes; records = l.records ++ (r ∷ []) }

module _ (n p : ℕ) (l : Netlist) (f : Fit n p l) where
  -- one node more
  pub fit_node : (x : Node) → length l.nodes < n → Fit n p (with_node x l)
  fit_node x h = record { nets = f.nets; list = f.list; few = h; short = f.short; formed = f.formed }

  module _ (x : Node) (h : length l.nodes < n) where
    node_room : nodes_part n p l ≡ flat l.nodes ++ (zeros 6 ++ replicate (6 * (n - suc (length l.nodes))) 0)
    node_room =
        let e : 6 * (n - length l.nodes) ≡ 6 + 6 * (n - suc (length l.nodes)) = omega arith in
        nodes_words_append l.nodes (zeros (6 * (n - length l.nodes)))
        ∙ ap (λ (k : ℕ). flat l.nodes ++ zeros k) e
        ∙ ap (λ (t : List ℕ). flat l.nodes ++ t) (sym (replicate-append-replicate 6 (6 * (n - suc (length l.nodes))) 0))

    pub node_stored : set (sets (words n p l) (16 + 6 * length l.nodes) (node_words x)) 1 (suc (length l.nodes)) ≡ words n p (with_node x l)
    node_stored =
        let zs = zeros (6 * (n - suc (length l.nodes))) in
        let t = list_words l.records ++ zeros (p - used l.records) in
        let hd = header_words n l in
        let fl = flat l.nodes in
        let parts : words n p l ≡ (hd ++ fl) ++ (zeros 6 ++ (zs ++ t)) =
        words_parts n p l ∙ ap (λ (u : List ℕ). hd ++ (u ++ t)) node_room ∙ simp append_assoc in
        let body : flat l.nodes ++ (node_words x ++ (zs ++ t)) ≡ nodes_part n p (with_node x l) ++ t =
        sym (ap (λ (u : List ℕ). u ++ t) (nodes_words_append l.nodes (node_words x ++ zs)) ∙ simp append_assoc) in
        ap (λ (u : List ℕ). set (sets u (16 + 6 * length l.nodes) (node_words x)) 1 (suc (length l.nodes))) parts
        ∙ ap (λ (u : List ℕ). set u 1 (suc (length l.nodes)))
        (sets_mid (hd ++ fl) (zeros 6) (zs ++ t) (node_words x) (16 + 6 * length l.nodes) (omega (arith, length_flat l.nodes)) refl)
        ∙ ap (λ (u : List ℕ). set u 1 (suc (length l.nodes))) (append_assoc hd fl (node_words x ++ (zs ++ t)))
        ∙ ap (λ (u : List ℕ). header_words n (with_node x l) ++ u) body ∙ sym (words_parts n p (with_node x l))

  -- one record more
  pub fit_record : (r : List ℕ) → used l.records + length r ≤ p → Formed r → Fit n p (with_record r l)
  fit_record r h g = record {
    nets = f.nets;
    list = f.list;
    few = f.few;
    short = rw used_snoc h;
    formed = formed_snoc l.records r f.formed g;
  }

  module _ (r : List ℕ) (h : used l.records + length r ≤ p) where
    list_room : zeros (p - used l.records) ≡ zeros (length r) ++ zeros (p - used (l.records ++ (r ∷ [])))
    list_room =
        let e : p - used l.records ≡ length r + (p - used (l.records ++ (r ∷ []))) = omega (arith, used_snoc l.records r) in
        ap (λ (k : ℕ). zeros k) e ∙ sym (replicate-append-replicate (length r) (p - used (l.records ++ (r ∷ []))) 0)

    list_stored : sets (words n p l) (16 + 6 * n + used l.records) r
        ≡ header_words n l ++ (nodes_part n p l ++ (list_words (l.records ++ (r ∷ [])) ++ zeros (p - used (l.records ++ (r ∷ [])))))
    list_stored =
        let zs = zeros (p - used (l.records ++ (r ∷ []))) in
        let hd = header_words n l in
        let ns = nodes_part n p l in
        let ls = list_words l.records in
        let parts : words n p l ≡ (hd ++ (ns ++ ls)) ++ (zeros (length r) ++ zs) =
        words_parts n p l ∙ ap (λ (u : List ℕ). hd ++ (ns ++ (ls ++ u))) list_room ∙ simp append_assoc in
        let len : length (hd ++ (ns ++ ls)) ≡ 16 + 6 * n + used l.records =
        ap (λ (k : ℕ). suc (suc (suc (suc (suc (suc (suc (suc (suc (suc (suc (suc (suc (suc (suc (suc k))))))))))))))))
        (length-append ns ls) ∙ omega (arith, length_nodes_part n p l f.few, used_length l.records) in
        ap (λ (u : List ℕ). sets u (16 + 6 * n + used l.records) r) parts
        ∙ sets_mid (hd ++ (ns ++ ls)) (zeros (length r)) zs r (16 + 6 * n + used l.records) len (length-replicate (length r) 0)
        ∙ simp append_assoc (ap (λ (u : List ℕ). hd ++ (ns ++ u)) (sym (ap (λ (v : List ℕ). v ++ zs) (list_words_snoc l.records r) ∙ append_assoc ls r zs)))

    hit : (k : ℕ) → get_or r 0 absent ≡ k → count k l.records + 1 ≡ count k (l.records ++ (r ∷ []))
    hit k e =
        sym (count_snoc k l.records r ∙ ap (λ (t : Bool). count k l.records + bit_word t) (eq-eqb (get_or r 0 absent) k e))

    miss : (k : ℕ) → (get_or r 0 absent ≡ k → ⊥) → count k l.records ≡ count k (l.records ++ (r ∷ []))
    miss k e =
        sym (count_snoc k l.records r ∙ ap (λ (t : Bool). count k l.records + bit_word t) (ne_eqb (get_or r 0 absent) k e) ∙ add-zero (count k l.records))

    counts : (k : ℕ) → k < 5 → get_or r 0 absent ≡ k → (t : List ℕ)
        → set (count 0 l.records ∷ count 1 l.records ∷ count 2 l.records ∷ count 3 l.records ∷ count 4 l.records ∷ t) k (count k l.records + 1)
        ≡ count 0 (l.records ++ (r ∷ [])) ∷ count 1 (l.records ++ (r ∷ [])) ∷ count 2 (l.records ++ (r ∷ []))
        ∷ count 3 (l.records ++ (r ∷ [])) ∷ count 4 (l.records ++ (r ∷ [])) ∷ t
    counts zero q e t = λ i. hit 0 e i ∷ miss 1 (omega arith) i ∷ miss 2 (omega arith) i ∷ miss 3 (omega arith) i ∷ miss 4 (omega arith) i ∷ t
    counts (suc zero) q e t = λ i. miss 0 (omega arith) i ∷ hit 1 e i ∷ miss 2 (omega arith) i ∷ miss 3 (omega arith) i ∷ miss 4 (omega arith) i ∷ t
    counts (suc (suc zero)) q e t = λ i. miss 0 (omega arith) i ∷ miss 1 (omega arith) i ∷ hit 2 e i ∷ miss 3 (omega arith) i ∷ miss 4 (omega arith) i ∷ t
    counts (suc (suc (suc zero))) q e t = λ i. miss 0 (omega arith) i ∷ miss 1 (omega arith) i ∷ miss 2 (omega arith) i ∷ hit 3 e i ∷ miss 4 (omega arith) i ∷ t
    counts (suc (suc (suc (suc zero)))) q e t = λ i. miss 0 (omega arith) i ∷ miss 1 (omega arith) i ∷ miss 2 (omega arith) i ∷ miss 3 (omega arith) i ∷ hit 4 e i ∷ t
    counts (suc (suc (suc (suc (suc k))))) q e t = absurd (omega arith)

    header_stored : (k : ℕ) → k < 5 → get_or r 0 absent ≡ k → (t : List ℕ)
        → set (set (header_words n l ++ t) 3 (used l.records + length r)) (5 + k) (count k l.records + 1) ≡ header_words n (with_record r l) ++ t
    header_stored k q e t =
        let s : 5 + k ≡ suc (suc (suc (suc (suc k)))) = omega arith in
        ap (λ (j : ℕ). set (set (header_words n l ++ t) 3 (used l.records + length r)) j (count k l.records + 1)) s
        ∙ λ i. 1 ∷ length l.nodes ∷ 16 ∷ sym (used_snoc l.records r) i ∷ (16 + 6 * n) ∷ counts k q e (zeros 6 ++ t) i

    -- the words, the list words used, and the count of the record's kind
    pub record_stored : (k : ℕ) → k < 5 → get_or r 0 absent ≡ k
        → set (set (sets (words n p l) (16 + 6 * n + used l.records) r) 3 (used l.records + length r)) (5 + k) (count k l.records + 1)
        ≡ words n p (with_record r l)
    record_stored k q e =
        ap (λ (u : List ℕ). set (set u 3 (used l.records + length r)) (5 + k) (count k l.records + 1)) list_stored
        ∙ header_stored k q e _ ∙ sym (words_parts n p (with_record r l))

-- ---- what a reader of the words meets ----

module _ (n : ℕ) (w : List ℕ) (b : Built n w) where
  pub count_is : length (netlist_of n w).nodes ≡ get_or w 1 0
  count_is = length_nodes_of w (get_or w 1 0)

  pub used_is : used (netlist_of n w).records ≡ get_or w 3 0
  unfolding words
  used_is = sym (ap (λ (u : List ℕ). get_or u 3 0) b.told)

  -- one node more, as the code writes it
  pub node_pushed : (x : Node) → get_or w 1 0 < n → Holds n (with_node x (netlist_of n w)) (set (sets w (16 + 6 * get_or w 1 0) (node_words x)) 1 (suc (get_or w 1 0)))
  node_pushed x h =
      let l = netlist_of n w in
      let k : length l.nodes < n = omega (arith, count_is) in
      let p = room n w in
      holds n p (with_node x l) _ (fit_node n p l b.fit x k) b.some b.nets b.list
      (ap (λ (u : List ℕ). set (sets u (16 + 6 * get_or w 1 0) (node_words x)) 1 (suc (get_or w 1 0))) b.told
      ∙ ap (λ (c : ℕ). set (sets (words n p l) (16 + 6 * c) (node_words x)) 1 (suc c)) (sym count_is)
      ∙ node_stored n p l b.fit x k)

module _ (n : ℕ) (w : List ℕ) (b : Built n w) (k : ℕ) (q : k < 5) where
  header_count : (l : Netlist) (t : List ℕ) (j : ℕ) → j < 5 → get_or (header_words n l ++ t) (5 + j) 0 ≡ count j l.records
  header_count l t zero h = refl
  header_count l t (suc zero) h = refl
  header_count l t (suc (suc zero)) h = refl
  header_count l t (suc (suc (suc zero))) h = refl
  header_count l t (suc (suc (suc (suc zero)))) h = refl
  header_count l t (suc (suc (suc (suc (suc j))))) h = absurd (omega arith)

  -- how many records of a kind there are
  pub records_count : get_or w (5 + k) 0 ≡ count k (netlist_of n w).records
  records_count =
      let l = netlist_of n w in
      ap (λ (u : List ℕ). get_or u (5 + k) 0) (b.told ∙ words_parts n (room n w) (netlist_of n w)) ∙ header_count l (nodes_part n (room n w) l ++ (list_words l.records ++ zeros (room n w - used l.records))) k q

  pub records_few : get_or w (5 + k) 0 ≤ 65535
  records_few = omega (arith, records_count, count_le k (netlist_of n w).records b.fit.formed, b.fit.short, b.list)

  -- one record more, as the code writes it
  pub record_pushed : (r : List ℕ) → get_or w 3 0 + length r ≤ room n w → Formed r → get_or r 0 absent ≡ k
      → Holds n (with_record r (netlist_of n w))
      (set (set (sets w (16 + 6 * n + get_or w 3 0) r) 3 (get_or w 3 0 + length r)) (5 + k) (get_or w (5 + k) 0 + 1))
  record_pushed r h g e =
      let l = netlist_of n w in
      let p = room n w in
      let u = used_is n w b in
      let s : used l.records + length r ≤ p = omega arith in
      holds n p (with_record r l) _ (fit_record n p l b.fit r s g) b.some b.nets b.list
      (ap (λ (x : List ℕ). set (set (sets x (16 + 6 * n + get_or w 3 0) r) 3 (get_or w 3 0 + length r)) (5 + k) (get_or w (5 + k) 0 + 1)) b.told
      ∙ (λ i. set (set (sets (words n p l) (16 + 6 * n + sym u i) r) 3 (sym u i + length r)) (5 + k) (records_count i + 1))
      ∙ record_stored n p l b.fit r s k q e)

pub node_in : (w : List ℕ) (c k : ℕ) (d : Node) → k < c → get_or (nodes_of w c) (c - suc k) d ≡ node_at_of w k
unfolding nodes_of
node_in w zero k d h = absurd (omega arith)
node_in w (suc c) k d h = ⊎_elim
    (λ (e : k ≡ c). let z : suc c - suc k ≡ 0 = omega arith in ap (λ (j : ℕ). get_or (nodes_of w (suc c)) j d) z ∙ ap (node_at_of w) (sym e))
    (λ (l : k < c). let z : suc c - suc k ≡ suc (c - suc k) = omega arith in ap (λ (j : ℕ). get_or (nodes_of w (suc c)) j d) z ∙ node_in w c k d l)
    (eq-or-lt_of_le (omega arith))

-- `node_for_net` reads the node's words
pub node_there : (n : ℕ) (w : List ℕ) (k : ℕ) → k < get_or w 1 0 → node_for_net (netlist_of n w) k ≡ node_at_of w k
unfolding node_for_net
node_there n w k h =
    rw (length_nodes_of w (get_or w 1 0), lt-ltb k (get_or w 1 0) h) (node_in w (get_or w 1 0) k (gate absent absent absent absent) h)

pub node_past : (n : ℕ) (w : List ℕ) (k : ℕ) → get_or w 1 0 ≤ k → node_for_net (netlist_of n w) k ≡ gate absent absent absent absent
unfolding node_for_net
node_past n w k h = rw (length_nodes_of w (get_or w 1 0), le-ltb k (get_or w 1 0) h)

-- ---- the empty netlist ----

abbrev pub empty : ℕ → ℕ → Netlist
empty n p = record { max_nets = n; max_list = p; nodes = []; records = [] }

fit_empty : (n p : ℕ) → Fit n p (empty n p)
unfolding used
fit_empty n p = record { nets = refl; list = refl; few = omega arith; short = omega arith; formed = tt }

empty_stored : (n p : ℕ) → set (set (set (zeros (16 + 6 * n + p)) 0 1) 2 16) 4 (16 + 6 * n) ≡ words n p (empty n p)
unfolding words used count
empty_stored n p =
    let e : 16 + 6 * n + p ≡ 16 + (6 * n + p) = omega arith in
    let z : 6 * n + p ≡ 6 * (n - 0) + (p - 0) = omega arith in
    let t : zeros (16 + 6 * n + p) ≡ zeros 16 ++ (zeros (6 * (n - 0)) ++ zeros (p - 0)) =
    ap zeros e ∙ sym (replicate-append-replicate 16 (6 * n + p) 0)
    ∙ ap (λ (u : List ℕ). zeros 16 ++ u) (ap zeros z ∙ sym (replicate-append-replicate (6 * (n - 0)) (p - 0) 0)) in
    ap (λ (u : List ℕ). set (set (set u 0 1) 2 16) 4 (16 + 6 * n)) t ∙ sym (words_parts n p (empty n p))

-- the words of a start
pub started : (n : ℕ) (w : List ℕ) → 0 < n → n ≤ 65535 → 16 + 6 * n ≤ length w → room n w ≤ 65535
    → Holds n (empty n (room n w)) (set (set (set (zeros (length w)) 0 1) 2 16) 4 (16 + 6 * n))
started n w some nets sized list =
    let e : length w ≡ 16 + 6 * n + room n w = omega arith in
    holds n (room n w) (empty n (room n w)) _ (fit_empty n (room n w)) some nets list
    (ap (λ (k : ℕ). set (set (set (zeros k) 0 1) 2 16) 4 (16 + 6 * n)) e ∙ empty_stored n (room n w))
