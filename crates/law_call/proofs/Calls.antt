-- What is proved of specs/Calls: The lowering call, for all bytes, limits and buffers: demand 2, demand 3 and one run where it accepts, that its promise can be
-- met, and that both buffers keep their lengths. Assumes nothing.
use Rattle.std.specs.Prelude.{ℕ, ◌≤◌, false, List, ◌++◌, ◌≡◌, refl, length, drop, replicate}
use Rattle.std.proofs.Math.Option.{some}
use Rattle.std.proofs.Common.{sym, ap, subst, ◌∙◌, arith}
use Rattle.std.proofs.Math.ListN.{length-replicate}
use Rattle.spec_rtl.specs.Rtl.{Valuation}
use Rattle.spec_tests.specs.Rules.{Answer, Fine}
use Rattle.spec_rules.specs.Image.{decode}
use Rattle.spec_rules.specs.Checks.{checked, netlist_need, scratch_need}
use Rattle.spec_rules.specs.NetlistImage.{netlist}
use Rattle.spec_rules.specs.Step.{Setting, Contents, Machine, settled, run, of_module, of_netlist, net, Ported, Demand2, Demand3}
use Rattle.spec_rules.specs.Promise as Promise
use Rattle.spec_rules.specs.Promise.{over, left}
use Rattle.spec_model.specs.Words.{absent, words}
use Rattle.spec_model.specs.Builder.{Out, done}
use Rattle.spec_model.specs.Lowering.{State, signal_bit, expression_net, lower_state, lower}
use Rattle.spec_call.specs.Call as Call
use Rattle.spec_call.specs.Call.{outcome, image_of}
use Rattle.net_view.specs.View.{Fit}
use Rattle.net_view.specs.Laws.{length_words}
use Rattle.law_nets.specs.Run.{Meets}
use Rattle.law_walk.specs.Good.{Good}
use Rattle.law_walk.specs.Kept.{Any}
use Rattle.law_phases.proofs.Outputs.{Lowered, lowered}
use Rattle.law_demands.proofs.Demands as demands
use Rattle.check_image.specs.Checked.{then_both}
use Rattle.check_image.specs.Accepted.{Room, accepted}
use Rattle.law_module.proofs.Good.{good}
use Rattle.law_call.proofs.Further.{words_further}
use Rattle.law_call.specs.Calls.{Ends, ends, is_lowered, left_length}

-- ---- a call whose checks pass ----

module _ (s : List ℕ) (N P : ℕ) (buffer scratch : List ℕ) (passed : checked s N P (length buffer) (length scratch) ≡ Fine) where
  pub room : Room s N P (length buffer) (length scratch)
  room = (accepted s N P (length buffer) (length scratch) passed).1

  -- the module is one that the laws of the lowering are about
  pub is_good : Good (decode s)
  is_good = good s (accepted s N P (length buffer) (length scratch) passed).0

  module _ (st : State) (ok : lower_state false (decode s) N P ≡ done st) where
    small : N ≤ absent
    small = omega (arith, room.nets)

    pub fit : Fit N P st.netlist
    fit =
        let w : Lowered (decode s) is_good false (N, P) st = subst (λ (o : Out State). Meets Any (Lowered (decode s) is_good false (N, P)) o) ok (lowered (decode s) is_good false (N, P) small) in
        let q = w.connected.inv.sound in
        let e = w.connected.limited in
        record { nets = e.0; list = e.1; few = omega (arith, q.few, e.0); short = omega (arith, q.short, e.1); formed = q.formed }

    -- the image's words, and the buffer's own from there on
    pub buffer_is : Call.buffer_after s N P buffer scratch ≡ words N P st.netlist ++ drop (netlist_need N P) buffer
    unfolding Promise.buffer_after left over outcome image_of
    buffer_is = rw (passed, is_lowered s N P st ok)

    pub netlist_is : netlist (Call.buffer_after s N P buffer scratch) ≡ netlist (words N P st.netlist)
    netlist_is = ap netlist buffer_is ∙ words_further N P st.netlist fit (drop (netlist_need N P) buffer)

    -- the net that the lowering gave to a bit of an expression has that bit's value
    pub demand2 : Demand2 (decode s) (netlist (Call.buffer_after s N P buffer scratch)) (expression_net st)
    demand2 = rw netlist_is (demands.demand2 (decode s) is_good false N P small st ok)

    -- and the net of a resolved signal bit that bit's value
    pub resolved : (u : Valuation) (t : Setting) (c : Contents) (p i k : ℕ) → signal_bit st p i ≡ some k
        → settled (decode s) u t c p i ≡ net (netlist (Call.buffer_after s N P buffer scratch)) t c k
    resolved = rw netlist_is (demands.resolved (decode s) is_good false N P small st ok)

    same_machine_here : Ported (decode s) → (u : Valuation) → of_module (decode s) u ≡ of_netlist (netlist (Call.buffer_after s N P buffer scratch))
    same_machine_here = rw netlist_is (demands.same_machine (decode s) is_good false N P small st ok)

    determined_here : (u u' : Valuation) (c : Contents) (settings : List Setting) → run (of_module (decode s) u) c settings ≡ run (of_module (decode s) u') c settings
    determined_here = demands.determined (decode s) is_good false N P small st ok

    image_length : length (words N P st.netlist) ≡ netlist_need N P
    unfolding netlist_need
    image_length = length_words N P st.netlist fit

-- ---- a call that accepts ----

module _ (s : List ℕ) (N P : ℕ) (buffer scratch : List ℕ) where
  module _ (yes : Call.answer s N P buffer scratch ≡ Fine) where
    both : (checked s N P (length buffer) (length scratch) ≡ Fine) × (outcome (lower (decode s) N P) ≡ Fine)
    unfolding Promise.answer
    both = then_both _ _ yes

    pub passes : checked s N P (length buffer) (length scratch) ≡ Fine
    passes = both.0

    pub ended : Ends s N P
    ended = ends s N P both.1

    -- module and netlist read and show the same, from all contents
    pub same_machine : Ported (decode s) → (u : Valuation) → of_module (decode s) u ≡ of_netlist (netlist (Call.buffer_after s N P buffer scratch))
    same_machine = same_machine_here s N P buffer scratch passes ended.state ended.is

    -- over every list of settings, from all first contents, module and netlist show the same
    pub demand3 : Demand3 (decode s) (netlist (Call.buffer_after s N P buffer scratch))
    demand3 ported u c settings = ap (λ (x : Machine). run x c settings) (same_machine ported u)

    -- the module has one run: what it shows does not depend on the values before the first round
    pub determined : (u u' : Valuation) (c : Contents) (settings : List Setting) → run (of_module (decode s) u) c settings ≡ run (of_module (decode s) u') c settings
    determined = determined_here s N P buffer scratch passes ended.state ended.is

  -- a call that answers and leaves what the definitions say keeps the promise
  pub promise : (a : Answer) (buffer' scratch' : List ℕ) → a ≡ Call.answer s N P buffer scratch → buffer' ≡ Call.buffer_after s N P buffer scratch
      → scratch' ≡ Call.scratch_after s N P buffer scratch → Call.Lowered s N P buffer scratch a buffer' scratch'
  promise a buffer' scratch' e b c = record { answered = e; left_buffer = b; left_scratch = c; demand3 = λ f. rw b (demand3 (sym e ∙ f)) }

  pub promise_met : Call.Lowered s N P buffer scratch (Call.answer s N P buffer scratch) (Call.buffer_after s N P buffer scratch) (Call.scratch_after s N P buffer scratch)
  promise_met = promise _ _ _ refl refl refl

  -- ---- lengths ----

  pub buffer_length : length (Call.buffer_after s N P buffer scratch) ≡ length buffer
  unfolding Promise.buffer_after image_of
  buffer_length = left_length (checked s N P (length buffer) (length scratch)) (outcome (lower (decode s) N P)) (netlist_need N P) (image_of N P (lower (decode s) N P)) buffer
      (λ c. (room s N P buffer scratch c).netlist_room)
      (λ c o. let e = ends s N P o in rw (is_lowered s N P e.state e.is) (image_length s N P buffer scratch c e.state e.is))

  pub scratch_length : length (Call.scratch_after s N P buffer scratch) ≡ length scratch
  unfolding Promise.scratch_after
  scratch_length = left_length (checked s N P (length buffer) (length scratch)) (outcome (lower (decode s) N P)) (scratch_need s N) (replicate (scratch_need s N) 0) scratch
      (λ c. (room s N P buffer scratch c).scratch_room) (λ c o. length-replicate (scratch_need s N) 0)
