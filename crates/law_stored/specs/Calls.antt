-- Change request Q-2: "Every image that the lowering writes is accepted, and what is read is what was lowered", for both flags. Assumes nothing.
use Rattle.std.specs.Prelude.{ℕ, ◌<◌, Bool, true, false, ◌≡◌, refl, List, ◌∷◌, ◌++◌, length, drop}
use Rattle.std.proofs.Common.{arith, subst}
use Rattle.spec_rules.specs.Checks.{checked, netlist_need}
use Rattle.spec_rtl.specs.Rtl.{Module}
use Rattle.spec_tests.specs.Rules.{Fine}
use Rattle.spec_rules.specs.Image.{decode}
use Rattle.spec_model.specs.Words.{Netlist, list_words, words}
use Rattle.spec_model.specs.Builder.{Out, refused, done, node_for_net}
use Rattle.spec_model.specs.Lowering.{State, lower_state, lower_with}
use Rattle.check_image.specs.Accepted.{accepted}
use Rattle.law_module.proofs.Good.{good}
use Rattle.spec_netlist.specs.Accept.{accepts}
use Rattle.spec_netlist.specs.Given.{is_node, node_given, Same, LoweredAccepted, RoundTrip}
use Rattle.law_told.specs.Given.{Gives, six_of}
use Rattle.law_told.proofs.Given.{same_nodes, same_records}
use Rattle.spec_call.specs.Call as Call
use Rattle.law_call.proofs.Calls as Calls
use Rattle.law_listed_made.specs.Accepted as Made
use Rattle.law_stored.specs.Bounded.{bounded}

-- the state in which a lowering ends
record Ends (ob : Bool) (m : Module) (N P : ℕ) (l : Netlist) : Type 0 where
  pub state : State
  pub is : lower_state ob m N P ≡ done state
  pub netlist : state.netlist ≡ l

done_eq : {A : Type 0} {a b : A} → ◌≡◌ {A = Out A} (done a) (done b) → a ≡ b
done_eq p = cc

ends : (ob : Bool) (m : Module) (N P : ℕ) (l : Netlist) → lower_with ob m N P ≡ done l → Ends ob m N P l
unfolding lower_with
ends ob m N P l e = go (lower_state ob m N P) refl
  where
    go : (o : Out State) → lower_state ob m N P ≡ o → Ends ob m N P l
    go (refused n x y) q = let z : ◌≡◌ {A = ℕ} 0 1 = cc in absurd (omega arith)
    go (done st) q = record { state = st; is = q; netlist = done_eq (rw q at e) }

pub lowered_accepted : (ob : Bool) → LoweredAccepted ob
lowered_accepted ob s N P buffer scratch passed l e =
    let a = accepted s N P buffer scratch passed in
    let r = a.1 in
    let x = ends ob (decode s) N P l e in
    subst (λ (z : Netlist). accepts (words N P z) ≡ Fine) x.netlist
    (Made.lowered_accepted (decode s) (good s a.0) (bounded s a.0) ob N P r.some_net r.nets r.words x.state x.is)

pub round_trip : (ob : Bool) → RoundTrip ob
round_trip ob s N P buffer scratch passed l e =
    let a = accepted s N P buffer scratch passed in
    let r = a.1 in
    let x = ends ob (decode s) N P l e in
    subst (λ (z : Netlist). Same (words N P z) z) x.netlist
    (Made.lowered_same (decode s) (good s a.0) (bounded s a.0) ob N P r.some_net r.nets r.words x.state x.is)

-- and with any words behind it
pub lowered_further : (ob : Bool) (s : List ℕ) (N P buffer scratch : ℕ) → checked s N P buffer scratch ≡ Fine → (l : Netlist) → lower_with ob (decode s) N P ≡ done l → (rest : List ℕ)
    → (accepts (words N P l ++ rest) ≡ Fine) × Same (words N P l ++ rest) l
lowered_further ob s N P buffer scratch passed l e rest =
    let a = accepted s N P buffer scratch passed in
    let r = a.1 in
    let x = ends ob (decode s) N P l e in
    subst (λ (z : Netlist). (accepts (words N P z ++ rest) ≡ Fine) × Same (words N P z ++ rest) z) x.netlist
    (Made.further (decode s) (good s a.0) (bounded s a.0) ob N P r.some_net r.nets r.words x.state x.is rest)

-- ---- the call ----

-- a call that accepts leaves a buffer that the reader accepts, whatever the lent buffer held behind the image
module _ (s : List ℕ) (N P : ℕ) (buffer scratch : List ℕ) (yes : Call.answer s N P buffer scratch ≡ Fine) where
  abbrev pub left : State
  left = (Calls.ended s N P buffer scratch yes).state

  both : (accepts (Call.buffer_after s N P buffer scratch) ≡ Fine) × Same (Call.buffer_after s N P buffer scratch) left.netlist
  both =
      let passed = Calls.passes s N P buffer scratch yes in
      let a = accepted s N P (length buffer) (length scratch) passed in
      let r = a.1 in
      let x = Calls.ended s N P buffer scratch yes in
      rw (Calls.buffer_is s N P buffer scratch passed x.state x.is)
      (Made.further (decode s) (good s a.0) (bounded s a.0) false N P r.some_net r.nets r.words x.state x.is (drop (netlist_need N P) buffer))

  pub call_accepted : accepts (Call.buffer_after s N P buffer scratch) ≡ Fine
  call_accepted = both.0

  -- the state that the lowering ends in
  pub call_state : lower_state false (decode s) N P ≡ done left
  call_state = (Calls.ended s N P buffer scratch yes).is

  pub call_same : Same (Call.buffer_after s N P buffer scratch) left.netlist
  call_same = both.1

  -- so each node and each record that is given is that of the netlist
  pub call_nodes : (k : ℕ) → k < length left.netlist.nodes
      → (is_node (Call.buffer_after s N P buffer scratch) k ≡ true) × (node_given (Call.buffer_after s N P buffer scratch) k ≡ six_of (node_for_net left.netlist k))
  call_nodes = same_nodes (Call.buffer_after s N P buffer scratch) left.netlist call_same

  pub call_records : (a : List (List ℕ)) (r : List ℕ) (b : List (List ℕ)) → left.netlist.records ≡ a ++ (r ∷ b) → Gives (Call.buffer_after s N P buffer scratch) (length (list_words a)) r
  call_records = same_records (Call.buffer_after s N P buffer scratch) left.netlist call_same call_accepted
