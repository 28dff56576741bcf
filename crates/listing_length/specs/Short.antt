-- An accepted image's listing has at most 32 + 140 N + 81 P bytes: every name in it is one of the module's, of at most 64 bytes.
-- Assumes nothing.
use Prim.Native.Nat.{ℕ, zero, suc, ◌+◌, ◌*◌, ◌≤◌, ◌<◌}
use Rattle.std.specs.Prelude.{false, List, [], ◌∷◌, ◌++◌, ◌≡◌, length, get_or}
use Rattle.std.proofs.Common.{append-nil, sym, ap, ◌∙◌, eq-or-lt_of_le, arith, drop_of_length-le}
use Rattle.std.proofs.Math.Logic.{⊎_elim}
use Rattle.std.proofs.Math.Path.{refl, subst}
use Rattle.std.proofs.Math.Nat.{add-zero}
use Rattle.spec_tests.specs.Rules.{Fine}
use Rattle.spec_rules.specs.Image.{decode}
use Rattle.spec_rules.specs.Checks.{checked, netlist_need}
use Rattle.spec_rules.specs.NetlistImage.{node_word, records_of}
use Rattle.spec_rules.specs.Listing.{listing}
use Rattle.spec_model.specs.Words.{absent, Node, Netlist, words}
use Rattle.spec_model.specs.Builder.{Out, done}
use Rattle.spec_model.specs.Lowering.{State, lower_state}
use Rattle.spec_call.specs.Call as Call
use Rattle.check_image.specs.Accepted.{Accepted, accepted}
use Rattle.law_accepted.specs.Decode.{lengths}
use Rattle.law_accepted.specs.Name.{good_name_law}
use Rattle.net_view.specs.View.{node_at_of, nodes_of, Fit}
use Rattle.net_view.specs.Laws.{words_view}
use Rattle.law_nets.specs.Run.{Meets}
use Rattle.law_walk.specs.Kept.{Any}
use Rattle.law_phases.proofs.Outputs.{Lowered, lowered}
use Rattle.law_call.proofs.Calls.{buffer_is, passes, ended}
use Rattle.law_call.proofs.Calls.{is_good}
use Rattle.law_owners.specs.Ends.{All}
use Rattle.law_owners.specs.Owners.{Throughout, Owned, OfSignal, owners}
use Rattle.listing_whole.specs.Length.{AllSmall, Named, PortsNamed, listing_short}

-- ---- names of the module's records ----

module _ (s : List ℕ) (ok : Accepted s) where
  named : (x : Node) → Owned (decode s) x → Named s x.kind x.owner
  named x o =
      let l = lengths s in
      record {
        input = λ e. (good_name_law s 0 x.owner ok.header (ok.signals x.owner (omega (arith, o.input e))).name).most;
        output = λ e. (good_name_law s 0 x.owner ok.header (ok.signals x.owner (omega (arith, o.output e))).name).most;
        register = λ e. (good_name_law s 4 x.owner ok.header (ok.registers x.owner (omega (arith, o.register e))).name).most;
        memory = λ e. (good_name_law s 5 x.owner ok.header (ok.memories x.owner (omega (arith, o.memory e))).name).most;
      }

  ports : (rs : List (List ℕ)) → All (OfSignal (decode s)) rs → PortsNamed s rs
  ports [] a = tt
  ports (r ∷ rs) a =
      let l = lengths s in
      (λ e. (good_name_law s 0 (get_or r 1 0) ok.header (ok.signals (get_or r 1 0) (omega (arith, a.0 e))).name).most, ports rs a.1)

  -- ---- a netlist within the limits, in its words ----

  node_of_law : (Q : Node → Type 0) (ws : List ℕ) (c : ℕ) → All Q (nodes_of ws c) → (k : ℕ) → k < c → Q (node_at_of ws k)
  unfolding nodes_of
  node_of_law Q ws zero a k h = absurd (omega arith)
  node_of_law Q ws (suc c) a k h = ⊎_elim (λ (e : k ≡ c). subst (λ (i : ℕ). Q (node_at_of ws i)) (sym e) a.0) (λ (l : k < c). node_of_law Q ws c a.1 k l) (eq-or-lt_of_le (omega arith))

  module _ (ws : List ℕ) (offset : get_or ws 2 0 ≡ 16) (all : All (Owned (decode s)) (nodes_of ws (get_or ws 1 0))) where
    node_named : (k : ℕ) → k < get_or ws 1 0 → Named s (node_word ws k 0) (node_word ws k 1)
    unfolding node_word node_at_of
    node_named k h = rw (offset, add-zero (16 + 6 * k)) (named (node_at_of ws k) (node_of_law (Owned (decode s)) ws (get_or ws 1 0) all k h))

  offset_is : (N P : ℕ) (l : Netlist) → get_or (words N P l) 2 0 ≡ 16
  unfolding words
  offset_is N P l = refl

  counts : (N P : ℕ) (l : Netlist) → Fit N P l → (get_or (words N P l) 1 0 ≤ N) × (get_or (words N P l) 3 0 ≤ P)
  unfolding words
  counts N P l f = (f.few, f.short)

  image_short : (N P : ℕ) (l : Netlist) → Fit N P l → Throughout (Owned (decode s)) (OfSignal (decode s)) l → AllSmall (words N P l)
      → length (listing s Fine (words N P l)) ≤ 32 + (N * 140 + 81 * P)
  image_short N P l f h small =
      let v = words_view N P l f in
      let ns = subst (λ (x : Netlist). All (Owned (decode s)) x.nodes) (sym v) h.nodes in
      let rs = subst (λ (x : Netlist). All (OfSignal (decode s)) x.records) (sym v) h.records in
      let c = counts N P l f in
      let b = listing_short s (words N P l) small (node_named (words N P l) (offset_is N P l) ns) (ports (records_of (words N P l)) rs) in
      omega arith

-- ---- the call ----

module _ (s : List ℕ) (N P : ℕ) (buffer scratch : List ℕ) (room : length buffer ≡ netlist_need N P) (yes : Call.answer s N P buffer scratch ≡ Fine) where
  ok : checked s N P (length buffer) (length scratch) ≡ Fine
  ok = passes s N P buffer scratch yes

  st : State
  st = (ended s N P buffer scratch yes).state

  is : lower_state false (decode s) N P ≡ done st
  unfolding st
  is = (ended s N P buffer scratch yes).is

  small_limit : N ≤ absent
  small_limit = omega (arith, (accepted s N P (length buffer) (length scratch) ok).1.nets)

  fit : Fit N P st.netlist
  fit =
      let good = is_good s N P buffer scratch ok in
      let w : Lowered (decode s) good false (N, P) st = subst (λ (o : Out State). Meets Any (Lowered (decode s) good false (N, P)) o) is (lowered (decode s) good false (N, P) small_limit) in
      let q = w.connected.inv.sound in
      let e = w.connected.limited in
      record { nets = e.0; list = e.1; few = omega (arith, q.few, e.0); short = omega (arith, q.short, e.1); formed = q.formed }

  image_is : Call.buffer_after s N P buffer scratch ≡ words N P st.netlist
  image_is =
      buffer_is s N P buffer scratch ok st is
      ∙ ap (λ (rest : List ℕ). words N P st.netlist ++ rest) (drop_of_length-le buffer {i = netlist_need N P} (omega arith)) ∙ append-nil (words N P st.netlist)

  pub accepted_short : AllSmall (Call.buffer_after s N P buffer scratch) → length (listing s Fine (Call.buffer_after s N P buffer scratch)) ≤ 32 + (N * 140 + 81 * P)
  accepted_short small =
      rw image_is (image_short s (accepted s N P (length buffer) (length scratch) ok).0 N P st.netlist fit (owners (decode s) false N P st is) (rw image_is at small))
