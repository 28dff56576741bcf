-- What is proved of specs/Image: The words of a netlist within its limits are read back as what it means. Assumes nothing.
use Rattle.std.specs.Prelude.{◌≡◌, Bool}
use Rattle.std.proofs.Math.Path.{refl, ap, fun_ext}
use Rattle.std.proofs.Common.{sym, ◌∙◌}
use Rattle.std.proofs.Math.Bool.{true, false, not}
use mathlib.Core.List.{List}
use Prim.Native.Nat.{ℕ, ◌+◌, ◌*◌, ◌-◌, ◌<◌}
use Rattle.std.proofs.Math.Nat.{add-zero}
use Rattle.std.proofs.Math.ListN.{length, get_or}
use Rattle.spec_tests.specs.Rules as Q
use Rattle.spec_tests.specs.Rules.{◌<?◌, ◌≢?◌, ◌or◌, any, list_of}
use Rattle.spec_tests.specs.Laws.{yes_lt}
use Rattle.spec_rules.specs.NetlistImage as N
use Rattle.spec_rules.specs.NetlistImage.{netlist, node_word, records_of}
use Rattle.spec_model.specs.Words.{Node, Netlist, words}
use Rattle.spec_model.specs.Builder.{node_for_net}
use Rattle.net_view.specs.View as Held
use Rattle.net_view.specs.View.{Fit, netlist_of}
use Rattle.net_view.specs.Laws.{words_view, node_there, length_nodes_of}
use Rattle.law_nets.specs.Meaning.{decoded, records_with, not_output, is_output_port, meaning_of}
use Rattle.law_nets.specs.Sound.{Sound}
use Rattle.law_nets.specs.Image.{nodes_are, offset_is, word_is}

-- a net is an output node of port p and bit i in the words where it is in the netlist
module _ (n : ℕ) (ws : List ℕ) (l : Netlist) (offset : get_or ws 2 0 ≡ 16) (held : netlist_of n ws ≡ l) where
  count_is : get_or ws 1 0 ≡ length l.nodes
  count_is = sym (length_nodes_of ws (get_or ws 1 0)) ∙ ap (λ (x : Netlist). length x.nodes) held

  node_held : (k : ℕ) → k < get_or ws 1 0 → Held.node_at_of ws k ≡ node_for_net l k
  node_held k h = sym (node_there n ws k h) ∙ ap (λ (x : Netlist). node_for_net x k) held

  not_output_law : (k p i : ℕ) → N.not_output ws k p i ≡ not_output l k p i
  unfolding N.not_output not_output ◌or◌ Held.node_at_of
  not_output_law k p i = go (k <? get_or ws 1 0) refl
    where
      go : (t : Bool) → (k <? get_or ws 1 0) ≡ t
          → (not (k <? get_or ws 1 0) or node_word ws k 0 ≢? 8 or node_word ws k 1 ≢? p or node_word ws k 2 ≢? i)
          ≡ (not (k <? length l.nodes) or (node_for_net l k).kind ≢? 8 or (node_for_net l k).owner ≢? p or (node_for_net l k).bit ≢? i)
      go true t =
          let q = node_held k (yes_lt k (get_or ws 1 0) t) in
          let a : node_word ws k 0 ≡ (node_for_net l k).kind
          = word_is ws offset k 0 ∙ ap (λ (j : ℕ). get_or ws j 0) (add-zero (16 + 6 * k)) ∙ ap (λ (x : Node). x.kind) q in
          let b : node_word ws k 1 ≡ (node_for_net l k).owner = word_is ws offset k 1 ∙ ap (λ (x : Node). x.owner) q in
          let c : node_word ws k 2 ≡ (node_for_net l k).bit = word_is ws offset k 2 ∙ ap (λ (x : Node). x.bit) q in
          rw (a, b, c, count_is)
      go false t = rw (← count_is, t)

  output_port : (r : List ℕ) → N.is_output_port ws r ≡ is_output_port l r
  unfolding N.is_output_port is_output_port
  output_port r = ap (λ (f : ℕ → Bool). not (any f (get_or r 2 0))) (fun_ext (λ i. not_output_law (get_or r (3 + i) 0) (get_or r 1 0) i))

  netlist_held : netlist ws ≡ meaning_of l
  unfolding netlist meaning_of N.records_with records_with list_of
  netlist_held =
      let r : records_of ws ≡ l.records = ap (λ (x : Netlist). x.records) held in
      let m : Q.each (N.node_at_of ws) 0 (get_or ws 1 0) ≡ decoded l.nodes = nodes_are ws offset (get_or ws 1 0) ∙ ap (λ (x : Netlist). decoded x.nodes) held in
      let p : N.is_output_port ws ≡ is_output_port l = fun_ext output_port in
      rw (m, r, p)

-- the netlist that the image's words say is the netlist that they were made of
pub words_netlist : (n p : ℕ) (l : Netlist) → Fit n p l → netlist (words n p l) ≡ meaning_of l
words_netlist n p l f = netlist_held n (words n p l) l (offset_is n p l) (words_view n p l f)

-- a sound netlist is within its limits
pub sound_fit : (l : Netlist) → Sound l → Fit l.max_nets l.max_list l
sound_fit l q = record { nets = refl; list = refl; few = q.few; short = q.short; formed = q.formed }
