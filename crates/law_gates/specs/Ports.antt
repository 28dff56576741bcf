-- Input and output ports: their nets, and that a reader of the netlist finds an output port where one was made. Assumes nothing.
use Rattle.std.specs.Prelude.{◌≡◌, Bool}
use Rattle.std.proofs.Math.Path.{refl, ap}
use Rattle.std.proofs.Common.{sym, subst, ◌∙◌, le_trans, zero-add, not-suc-le-zero, le_of_suc-le-suc, arith, get_or-drop}
use mathlib.Core.List.{List, [], ◌∷◌, map}
use Prim.Native.Nat.{ℕ, zero, suc, ◌+◌, ◌≤◌, ◌<◌}
use Rattle.std.proofs.Math.ListN.{length, get_or}
use Rattle.spec_tests.specs.Rules.{◌or◌}
use Rattle.spec_rtl.specs.Ops.{tab}
use Rattle.spec_rules.specs.NetlistImage.{node_of}
use Rattle.spec_model.specs.Words.{absent, Node, node, source, Netlist}
use Rattle.spec_model.specs.Builder.{from, both, add_node, add_output_port}
use Rattle.word_laws.specs.Runs.{from_at, length_from}
use Rattle.net_view.specs.Formed.{formed_port}
use Rattle.word_laws.specs.Widths.{AllBelow}
use Rattle.law_nets.specs.Meaning.{decode, net_value}
use Rattle.law_nets.specs.Sound.{count, Sound, Grew, Later, StandsAll}
use Rattle.law_nets.specs.Run.{grew_trans, Meets, meets_map, Limit}
use Rattle.law_nets.proofs.Run.{all_as}
use Rattle.law_gates.specs.Nodes.{no_node}
use Rattle.law_gates.specs.Many.{All}
use Rattle.law_gates.specs.Added.{with_nodes, grew_nodes, count_nodes, nodes_limits, pairs, both_adds, grew_record, Recorded, recorded}
use Rattle.law_gates.specs.Sources.{sound_record, Free, sound_nodes, all_from, nodes_stand}

-- a port of signal s whose nodes are xs
module _ (s : ℕ) (xs : List Node) (l : Netlist) (q : Sound l) (n : ℕ) (few : n ≤ count l) (free : All (Free n) xs) where
  pub port_later : (w : ℕ) (ns : List ℕ) (l' : Netlist) → length xs ≡ w → Recorded (0 ∷ s ∷ w ∷ []) xs l ns l' → Later l l'
  port_later w ns l' e a =
      let m = nodes_limits xs l in
      let en : length ns ≡ w = ap length a.nets ∙ length_from (count l) (length xs) ∙ e in
      let there : (i : ℕ) → i < w → get_or (0 ∷ s ∷ w ∷ ns) (3 + i) 0 < count (with_nodes xs l) = λ i h.
      rw (← get_or-drop 3 (0 ∷ s ∷ w ∷ ns) i 0, a.nets, e, from_at (count l) w i 0 h, count_nodes xs l, e) (omega arith) in
      subst (λ (h : Netlist). Later l h) (sym a.then) (record {
        grew = grew_trans (grew_nodes xs l) (grew_record (0 ∷ s ∷ w ∷ ns) (with_nodes xs l));
        sound = sound_record (0 ∷ s ∷ w ∷ ns) (with_nodes xs l) (sound_nodes n xs l q few a.room free) (rw (m.1, m.2) a.list) (formed_port s w ns en) (omega arith) (λ z. there);
      })

  pub port_grew : (w : ℕ) (ns : List ℕ) (l' : Netlist) → Recorded (0 ∷ s ∷ w ∷ []) xs l ns l' → Grew (with_nodes xs l) l'
  port_grew w ns l' a = subst (λ (h : Netlist). Grew (with_nodes xs l) h) (sym a.then) (grew_record (0 ∷ s ∷ w ∷ ns) (with_nodes xs l))

-- ---- input ports ----

abbrev pub input_nodes : ℕ → ℕ → List Node
input_nodes s w = map (source 0 s) (from 0 w)

pub record InputPort (s w : ℕ) (l : Netlist) (r : List ℕ × Netlist) : Type 0 where
  pub later : Later l r.1
  pub made : Recorded (0 ∷ s ∷ w ∷ []) (input_nodes s w) l r.0 r.1
  pub stands : StandsAll r.1 r.0 (λ h t c. tab w (t s))

-- ---- output ports ----

abbrev pub output_node : ℕ → ℕ → ℕ → Node
output_node s b x = node 8 s b x absent absent

abbrev pub output_nodes : ℕ → List ℕ → List Node
output_nodes s xs = pairs (output_node s) (from 0 (length xs)) xs

pub record OutputPort (s : ℕ) (xs : List ℕ) (l : Netlist) (r : List ℕ × Netlist) : Type 0 where
  pub later : Later l r.1
  pub made : Recorded (0 ∷ s ∷ length xs ∷ []) (output_nodes s xs) l r.0 r.1
  pub stands : StandsAll r.1 r.0 (λ h t c. map (net_value h t c) xs)

pub length_pairs : (x : ℕ → ℕ → Node) (b : ℕ) (xs : List ℕ) → length (pairs x (from b (length xs)) xs) ≡ length xs
unfolding from
length_pairs x b [] = refl
length_pairs x b (y ∷ xs) = ap suc (length_pairs x (suc b) xs)

get_or_pairs : (x : ℕ → ℕ → Node) (b : ℕ) (xs : List ℕ) (i : ℕ) → i < length xs → get_or (pairs x (from b (length xs)) xs) i no_node ≡ x (b + i) (get_or xs i 0)
unfolding from
get_or_pairs x b [] i h = absurd (not-suc-le-zero h)
get_or_pairs x b (y ∷ xs) zero h = ap (λ (k : ℕ). x k y) {x = b} {y = b + 0} (omega arith)
get_or_pairs x b (y ∷ xs) (suc i) h = get_or_pairs x (suc b) xs i (le_of_suc-le-suc h) ∙ ap (λ (k : ℕ). x k (get_or xs i 0)) {x = suc b + i} {y = b + suc i} (omega arith)

pub output_node_law : (s : ℕ) (xs : List ℕ) (i : ℕ) → i < length xs → get_or (output_nodes s xs) i no_node ≡ output_node s i (get_or xs i 0)
output_node_law s xs i h = get_or_pairs (output_node s) 0 xs i h ∙ ap (λ (k : ℕ). output_node s k (get_or xs i 0)) (zero-add i)

tab_map : (g : ℕ → Bool) (xs : List ℕ) → tab (length xs) (λ i. g (get_or xs i 0)) ≡ map g xs
tab_map g [] = refl
tab_map g (x ∷ xs) = rw (tab_map g xs)

pub output_port_run : (s : ℕ) (xs : List ℕ) (l : Netlist) → Sound l → AllBelow (count l) xs → Meets Limit (OutputPort s xs l) (add_output_port s xs l)
unfolding add_output_port decode node_of from
output_port_run s xs l q b =
    meets_map Limit Limit (λ (r : List ℕ × Netlist). Recorded (0 ∷ s ∷ length xs ∷ []) (output_nodes s xs) l r.0 r.1) (OutputPort s xs l) (add_output_port s xs l)
    (recorded (0 ∷ s ∷ length xs ∷ []) (output_nodes s xs) l (both (λ b x. add_node (output_node s b x)) (from 0 (length xs)) xs l)
    (both_adds (output_node s) (from 0 (length xs)) xs l q.few)) (λ n x y h. h) (λ r a. record {
      later = port_later s (output_nodes s xs) l q (count l) (omega arith) (free 0 xs b) (length xs) r.0 r.1 wide a;
      made = a;
      stands = all_as
          (rw (a.nets, wide) (all_from (count l) (length xs) r.1 (λ h t c i. net_value h t c (get_or xs i 0)) (λ i h.
          rw (output_node_law s xs i h) at (nodes_stand (output_nodes s xs) l r.1
          (port_grew s (output_nodes s xs) l q (count l) (omega arith) (free 0 xs b) (length xs) r.0 r.1 a) i (rw wide h)))))
          (λ h y t c. tab_map (net_value h t c) xs);
    })
  where
    wide : length (output_nodes s xs) ≡ length xs
    wide = length_pairs (output_node s) 0 xs

    free : (b : ℕ) (ys : List ℕ) → AllBelow (count l) ys → All (Free (count l)) (pairs (output_node s) (from b (length ys)) ys)
    free b [] d = tt
    free b (y ∷ ys) d = (λ h k e. le_trans d.0 e, free (suc b) ys d.1)
