-- What is proved of specs/Ports: Input and output ports: their nets, and that a reader of the netlist finds an output port where one was made. Assumes nothing.
use Rattle.std.specs.Prelude.{◌≡◌, false}
use Rattle.std.proofs.Math.Path.{refl, ap}
use Rattle.std.proofs.Common.{sym, ◌∙◌, zero-add, not-suc-le-zero, arith, get_or-drop}
use Rattle.std.proofs.Math.Bool.{true, not}
use mathlib.Core.List.{List, [], ◌∷◌, ◌++◌, append-nil}
use Prim.Native.Nat.{ℕ, zero, suc, ◌+◌, ◌<◌}
use Rattle.std.proofs.Math.ListN.{length, get_or, take}
use Rattle.std.proofs.Math.Seq.{take_all}
use Rattle.spec_tests.specs.Rules.{◌<?◌, ◌≢?◌, ◌or◌, pick, only}
use Rattle.spec_tests.specs.Laws.{lt_yes, ne_no}
use Rattle.spec_rules.specs.NetlistImage.{node_of, out_port_of}
use Rattle.spec_model.specs.Words.{source, Netlist}
use Rattle.spec_model.specs.Builder.{node_for_net, from, add_nodes, add_input_port}
use Rattle.word_laws.specs.Runs.{from_at, length_from}
use Rattle.word_laws.specs.Shift.{tab_ext}
use Rattle.law_nets.specs.Meaning.{decode, not_output, is_output_port, meaning_of}
use Rattle.law_nets.specs.Sound.{count, Sound}
use Rattle.law_nets.specs.Run.{Meets, meets_map, Limit}
use Rattle.law_nets.proofs.Run.{all_as}
use Rattle.law_nets.specs.Nodes.{get_or_map_in}
use Rattle.spec_tests.specs.Any.{any_none, any_first}
use Rattle.law_nets.proofs.Lists.{outputs_with}
use Rattle.law_gates.specs.Nodes.{no_node}
use Rattle.law_gates.specs.Many.{All}
use Rattle.law_gates.specs.Added.{nodes_added, Recorded, recorded, recorded_node, recorded_net, recorded_count, recorded_new}
use Rattle.law_gates.specs.Sources.{Free, all_map, length_nodes, sources_stand}
use Rattle.law_gates.specs.Ports.{InputPort, OutputPort, input_nodes, length_pairs, output_node, output_node_law, output_nodes, port_grew, port_later}

pub input_port_run : (s w : ℕ) (l : Netlist) → Sound l → Meets Limit (InputPort s w l) (add_input_port s w l)
unfolding add_input_port decode node_of
input_port_run s w l q =
    meets_map Limit Limit (λ (r : List ℕ × Netlist). Recorded (0 ∷ s ∷ w ∷ []) (input_nodes s w) l r.0 r.1) (InputPort s w l) (add_input_port s w l)
    (recorded (0 ∷ s ∷ w ∷ []) (input_nodes s w) l (add_nodes (source 0 s) 0 w l) (nodes_added (source 0 s) 0 w l q.few)) (λ n x y h. h) (λ r a. record {
      later = port_later s (input_nodes s w) l q 0 (omega arith) free w r.0 r.1 (length_nodes (source 0 s) 0 w) a;
      made = a;
      stands = all_as (sources_stand (source 0 s) 0 w l r.1 r.0 (port_grew s (input_nodes s w) l q 0 (omega arith) free w r.0 r.1 a) a.nets)
          (λ h y t c. tab_ext w (λ i. t s (0 + i)) (t s) (λ i _. ap (t s) (zero-add i)));
    })
  where
    free : All (Free 0) (input_nodes s w)
    free = all_map (Free 0) (source 0 s) (from 0 w) (λ i h k z. tt)

-- ---- what a reader finds ----

module _ (s : ℕ) (l : Netlist) (ns : List ℕ) (l' : Netlist) where
  -- net i of a record
  net_of_law : (w i : ℕ) → get_or (0 ∷ s ∷ w ∷ ns) (3 + i) 0 ≡ get_or ns i 0
  net_of_law w i = sym (get_or-drop 3 (0 ∷ s ∷ w ∷ ns) i 0)

  input_is : (w : ℕ) → InputPort s (suc w) l (ns, l') → is_output_port l' (0 ∷ s ∷ suc w ∷ ns) ≡ false
  unfolding is_output_port not_output ◌or◌ ◌≢?◌
  input_is w p =
      let xs = input_nodes s (suc w) in
      let key : List ℕ = 0 ∷ s ∷ suc w ∷ [] in
      let h : 0 < length xs = rw (length_nodes (source 0 s) 0 (suc w)) (omega arith) in
      let n : get_or (0 ∷ s ∷ suc w ∷ ns) 3 0 ≡ count l + 0 = recorded_net key xs l ns l' p.made 0 0 h in
      let x : node_for_net l' (count l + 0) ≡ source 0 s (0 + 0)
      = recorded_node key xs l ns l' p.made 0 h ∙ get_or_map_in (source 0 s) (from 0 (suc w)) 0 0 no_node (rw (length_from 0 (suc w)) (omega arith)) ∙ ap (source 0 s) (from_at 0 (suc w) 0 0 (omega arith)) in
      let b : (count l + 0 <? count l') ≡ true = lt_yes (count l + 0) (count l') (omega (arith, recorded_count key xs l ns l' p.made)) in
      ap not (any_first (λ i. not_output l' (get_or (0 ∷ s ∷ suc w ∷ ns) (3 + i) 0) s i) w (rw (n, b, x)))

  output_is : (xs : List ℕ) → OutputPort s xs l (ns, l') → is_output_port l' (0 ∷ s ∷ length xs ∷ ns) ≡ true
  unfolding is_output_port not_output ◌or◌
  output_is xs p =
      let key : List ℕ = 0 ∷ s ∷ length xs ∷ [] in
      ap not (any_none (λ i. not_output l' (get_or (0 ∷ s ∷ length xs ∷ ns) (3 + i) 0) s i) (length xs) (λ i h.
      let h' : i < length (output_nodes s xs) = rw (length_pairs (output_node s) 0 xs) h in
      let n : get_or (0 ∷ s ∷ length xs ∷ ns) (3 + i) 0 ≡ count l + i = net_of_law (length xs) i ∙ recorded_net key (output_nodes s xs) l ns l' p.made i 0 h' in
      let x : node_for_net l' (count l + i) ≡ output_node s i (get_or xs i 0) = recorded_node key (output_nodes s xs) l ns l' p.made i h' ∙ output_node_law s xs i h in
      let b : (count l + i <? count l') ≡ true = lt_yes (count l + i) (count l') (omega (arith, recorded_count key (output_nodes s xs) l ns l' p.made)) in
      rw (n, b, x, ne_no 8 8 refl, ne_no s s refl, ne_no i i refl)))

  -- an input port is no output
  pub input_outputs : (w : ℕ) → Sound l → 0 < w → InputPort s w l (ns, l') → (meaning_of l').outputs ≡ (meaning_of l).outputs
  unfolding only pick
  input_outputs zero q h p = absurd (not-suc-le-zero h)
  input_outputs (suc w) q h p =
      outputs_with p.later.grew q ((0 ∷ s ∷ suc w ∷ ns) ∷ []) (recorded_new (0 ∷ s ∷ suc w ∷ []) (input_nodes s (suc w)) l ns l' p.made 0 refl)
      ∙ rw (input_is w p) (append-nil (meaning_of l).outputs)

  -- an output port is the last of the outputs
  pub output_outputs : (xs : List ℕ) → Sound l → OutputPort s xs l (ns, l') → (meaning_of l').outputs ≡ (meaning_of l).outputs ++ (record { signal = s; nets = ns } ∷ [])
  unfolding only pick out_port_of
  output_outputs xs q p =
      let e : take (length xs) ns ≡ ns = take_all (length xs) ns (omega (arith, ap length p.made.nets, length_from (count l) (length (output_nodes s xs)), length_pairs (output_node s) 0 xs)) in
      outputs_with p.later.grew q ((0 ∷ s ∷ length xs ∷ ns) ∷ []) (recorded_new (0 ∷ s ∷ length xs ∷ []) (output_nodes s xs) l ns l' p.made 0 refl)
      ∙ rw (output_is xs p, e)
