-- Nodes that read nothing or one lower net, records of no cell, and ports: what their nets stand for. Assumes nothing.
use Rattle.std.specs.Prelude.{◌≡◌, refl, Bool, List, [], ◌∷◌, map, ℕ, zero, suc, ◌+◌, ◌-◌, ◌≤◌, ◌<◌, length, get_or}
use Rattle.std.proofs.Common.{sym, ap, subst, ◌∙◌, suc-le-suc, le_trans, add-zero, arith}
use Rattle.std.proofs.lemmas.List.{length-map}
use Rattle.spec_rtl.specs.Ops.{tab}
use Rattle.spec_rules.specs.NetlistImage.{node_of}
use Rattle.spec_rules.specs.Step.{memory_bit, data_width}
use Rattle.spec_model.specs.Words.{Node, source, Netlist, used}
use Rattle.spec_model.specs.Builder.{from, add_nodes, push}
use Rattle.word_laws.specs.Runs.{from_at, length_from}
use Rattle.net_view.specs.View.{Formed}
use Rattle.net_view.specs.Records.{used_snoc, formed_snoc}
use Rattle.net_view.specs.Laws.{with_node, with_record}
use Rattle.law_nets.specs.Meaning.{decode, node_at_of, records_with, meaning_of}
use Rattle.law_nets.specs.Sound.{count, PortNets, ArithmeticCell, ComparisonCell, Wired, Sound, Grew, Later, At, Stands, StandsAll}
use Rattle.law_nets.specs.Run.{grew_refl, Meets, meets_map, Limit, Built, Run}
use Rattle.law_nets.specs.Nodes.{count_grew, at_grew, arithmetic_grew, comparison_grew, with_after, get_or_map_in}
use Rattle.law_nets.proofs.Nodes.{wired_grew}
use Rattle.law_gates.specs.Nodes.{no_node, Is, is_node_law, sound_node}
use Rattle.law_gates.specs.Many.{All}
use Rattle.law_gates.specs.Added.{with_nodes, grew_nodes, count_nodes, nodes_limits, node_added, NodesAdded, nodes_added, grew_record, pushed}

-- ---- a record of no cell ----

pub sound_record : (r : List ℕ) (l : Netlist) → Sound l → used l.records + length r ≤ l.max_list → Formed r → get_or r 0 0 < 3 → (get_or r 0 0 ≡ 0 → PortNets l r)
    → Sound (with_record r l)
sound_record r l q h f k p =
    let g = grew_record r l in
    record {
      few = q.few;
      small = q.small;
      short = rw used_snoc h;
      formed = formed_snoc l.records r q.formed f;
      wired = λ k i. rw (at_grew g k i) (wired_grew g k (omega arith) (node_at_of l k) (q.wired k i));
      ports = with_after 0 l.records r (λ j r. PortNets l r) q.ports p;
      arithmetic = with_after 3 l.records r (ArithmeticCell (with_record r l)) (λ j i. arithmetic_grew g j _ (q.arithmetic j i)) (λ e. absurd (omega arith));
      comparison = with_after 4 l.records r (ComparisonCell (with_record r l)) (λ j i. comparison_grew g j _ (q.comparison j i)) (λ e. absurd (omega arith));
    }

-- a register's or a memory's record
pub push_run : (r : List ℕ) (l : Netlist) → Sound l → Formed r → 0 < get_or r 0 0 → get_or r 0 0 < 3 → Meets Limit (λ (l' : Netlist). (l' ≡ with_record r l) × Later l l') (push r l)
push_run r l q f a b =
    meets_map Limit Limit (λ (l' : Netlist). (l' ≡ with_record r l) × (used l.records + length r ≤ l.max_list)) (λ (l' : Netlist). (l' ≡ with_record r l) × Later l l')
    (push r l) (pushed r l) (λ n x y h. h)
    (λ l' p. (p.0, subst (λ (h : Netlist). Later l h) (sym p.0) (record { grew = grew_record r l; sound = sound_record r l q p.1 f b (λ e. absurd (omega arith)) })))

-- ---- nodes that read at most nets below n ----

abbrev pub Free : ℕ → Node → Type 0
Free n x = (h : Netlist) (k : ℕ) → n ≤ k → Wired h k (decode x)

pub sound_nodes : (n : ℕ) (xs : List Node) (l : Netlist) → Sound l → n ≤ count l → count l + length xs ≤ l.max_nets → All (Free n) xs → Sound (with_nodes xs l)
sound_nodes n [] l q b h f = q
sound_nodes n (x ∷ xs) l q b h f =
    sound_nodes n xs (with_node x l) (sound_node x l q (omega arith) (f.0 (with_node x l) (count l) b)) (omega arith) (omega arith) f.1

-- nets n, n + 1, .. by their numbers
pub all_from : (n w : ℕ) (l : Netlist) (F : At (ℕ → Bool)) → ((i : ℕ) → i < w → Stands l (n + i) (λ h s c. F h s c i)) → StandsAll l (from n w) (λ h s c. tab w (F h s c))
unfolding from
all_from n zero l F v = record { there = tt; are = λ h a s c. refl }
all_from n (suc w) l F v =
    let r = all_from (suc n) w l (λ h s c i. F h s c (suc i)) (λ i h. let e : n + suc i ≡ suc n + i = omega arith in subst (λ (k : ℕ). Stands l k (λ h s c. F h s c (suc i))) e (v (suc i) (suc-le-suc h))) in
    let z = subst (λ (k : ℕ). Stands l k (λ h s c. F h s c 0)) (add-zero n) (v 0 (omega arith)) in
    record { there = (z.there, r.there); are = λ h a s c. rw (z.is h a s c, r.are h a s c) }

-- added nodes stand for what they say
pub nodes_stand : (xs : List Node) (l l' : Netlist) → Grew (with_nodes xs l) l' → (i : ℕ) → i < length xs → Stands l' (count l + i) (Is (get_or xs i no_node))
nodes_stand xs l l' g i h =
    let b : count l + i < count (with_nodes xs l) = rw (count_nodes xs l) (omega arith) in
    is_node_law (get_or xs i no_node) l' (count l + i) (le_trans b (count_grew g)) (at_grew g (count l + i) b ∙ ap decode (node_added xs l i h))

-- ---- sources ----

pub all_map : {A B : Type 0} (P : B → Type 0) (f : A → B) (xs : List A) → ((a : A) → P (f a)) → All P (map f xs)
all_map P f [] h = tt
all_map P f (x ∷ xs) h = (h x, all_map P f xs h)

-- what the nets ns, made from l on, are and stand for
pub record Sourced (xs : List Node) (w : At (List Bool)) (l : Netlist) (ns : List ℕ) (l' : Netlist) : Type 0 where
  pub added : NodesAdded xs l ns l'
  pub stands : StandsAll l' ns w

pub length_nodes : (x : ℕ → Node) (b w : ℕ) → length (map x (from b w)) ≡ w
length_nodes x b w = length-map (from b w) x ∙ length_from b w

node_of_law : (x : ℕ → Node) (b w i : ℕ) → i < w → get_or (map x (from b w)) i no_node ≡ x (b + i)
node_of_law x b w i h = get_or_map_in x (from b w) i 0 no_node (rw (length_from b w) h) ∙ ap x (from_at b w i 0 h)

pub sources_stand : (x : ℕ → Node) (b w : ℕ) (l l' : Netlist) (ns : List ℕ) → Grew (with_nodes (map x (from b w)) l) l' → ns ≡ from (count l) (length (map x (from b w)))
    → StandsAll l' ns (λ h s c. tab w (λ i. Is (x (b + i)) h s c))
sources_stand x b w l l' ns g e =
    rw (e, length_nodes x b w) (all_from (count l) w l' (λ h s c i. Is (x (b + i)) h s c)
    (λ i h. rw (node_of_law x b w i h) at (nodes_stand (map x (from b w)) l l' g i (rw (length_nodes x b w) h))))

sources_run : (x : ℕ → Node) (b w : ℕ) (l : Netlist) → Sound l → ((i : ℕ) → Free 0 (x i))
    → Run l (Sourced (map x (from b w)) (λ h s c. tab w (λ i. Is (x (b + i)) h s c)) l) (add_nodes x b w l)
sources_run x b w l q f = record {
  run = meets_map Limit Limit (λ (r : List ℕ × Netlist). NodesAdded xs l r.0 r.1) (Built l (Sourced xs word l)) (add_nodes x b w l)
      (nodes_added x b w l q.few) (λ n y z h. h) (λ r a. go r.0 r.1 a);
}
  where
    xs : List Node
    xs = map x (from b w)

    word : At (List Bool)
    word h s c = tab w (λ i. Is (x (b + i)) h s c)

    go : (ns : List ℕ) (l' : Netlist) → NodesAdded xs l ns l' → Built l (Sourced xs word l) (ns, l')
    go ns l' a = record {
      later = subst (λ (h : Netlist). Later l h) (sym a.then)
          (record { grew = grew_nodes xs l; sound = sound_nodes 0 xs l q (omega arith) a.room (all_map (Free 0) x (from b w) f) });
      cells = record { cells = λ t h. ap (λ (k : Netlist). records_with t k.records) a.then ∙ ap (records_with t) (nodes_limits xs l).2 };
      post = record { added = a; stands = sources_stand x b w l l' ns (subst (λ (h : Netlist). Grew (with_nodes xs l) h) (sym a.then) (grew_refl (with_nodes xs l))) a.nets };
    }

-- a register's nets, a memory port's nets
pub register_run : (r b w : ℕ) (l : Netlist) → Sound l → Run l (Sourced (map (source 7 r) (from b w)) (λ h s c. tab w (λ i. c.reg r (b + i))) l) (add_nodes (source 7 r) b w l)
unfolding decode node_of
register_run r b w l q = sources_run (source 7 r) b w l q (λ i h k z. tt)

pub memory_run : (m b w : ℕ) (l : Netlist) → Sound l
    → Run l (Sourced (map (source 9 m) (from b w)) (λ h s c. tab w (λ i. memory_bit c m (data_width (meaning_of h) m) (b + i))) l) (add_nodes (source 9 m) b w l)
unfolding decode node_of
memory_run m b w l q = sources_run (source 9 m) b w l q (λ i h k z. tt)
