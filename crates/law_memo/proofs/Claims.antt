-- What is proved of specs/Claims: From every state that the call goes through, what has nets is lowered again to the same nets and nothing is made; and a bit that has a net keeps it. Assumes
-- nothing.
use Rattle.std.specs.Prelude.{◌≡◌, refl, Bool, ℕ, ◌≤◌, length}
use Rattle.std.proofs.Common.{sym, ap, subst, ◌∙◌, arith}
use Rattle.std.proofs.Math.Option.{some}
use Rattle.spec_rtl.specs.Rtl.{Module}
use Rattle.spec_model.specs.Words.{absent}
use Rattle.spec_model.specs.Lowering.{State, Need, Bit, Whole, Range, whole_nets, signal_bit, expression_net, plenty}
use Rattle.law_walk.specs.Good.{Good}
use Rattle.law_walk.specs.Kept.{Inv, Walks}
use Rattle.law_walk.specs.Reads.{Asked, After}
use Rattle.law_walk.proofs.Walk.{need_walk}
use Rattle.law_phases.specs.Supply.{supply}
use Rattle.law_memo.specs.Derived.{Derived}
use Rattle.law_memo.specs.Reads.{whole_nets_law, held_net, net_here, net_bit}
use Rattle.law_memo.proofs.Relowered.{nets_have, Part}
use Rattle.law_memo.proofs.Induction.{need_again}
use Rattle.law_memo.specs.Memo.{Onwards, Reached, HasNets, forgot, LowersAgain}
use Rattle.law_memo.specs.Forgot.{forgot_nets, forgot_inv, forgot_steady}
use Rattle.law_memo.specs.Reached.{SteadyInv, goes, reached_kept}
use Rattle.law_memo.specs.Claims.{enough}

module _ (m : Module) (good : Good m) (ob : Bool) (n p : ℕ) (limit : n ≤ absent) {st : State} (r : Reached m ob n p st) where
  kept : SteadyInv m good ob st
  kept = reached_kept m good ob n p limit r

  -- what is there after a need
  has_nets : (st' : State) → Inv m st' → (need : Need) → Asked m need → After st' need → HasNets m st' need
  unfolding signal_bit
  has_nets st' i (Bit s b) a h = h
  has_nets st' i (Whole e) a h = nets_have m st' e (whole_nets st' e) (whole_nets_law m st' i good.exprs e a h)
  has_nets st' i (Range e lsb w) a h = λ b x y. held_net m st' i good.exprs e a.0 b (omega (arith, a.1)) (h b x y)

  from : (su : State) → Part m good ob st kept.inv kept.steady su → (need : Need) → Asked m need → HasNets m st need → LowersAgain m ob st need su
  from su part need a h =
      let g = need_again m good ob st kept.inv kept.steady (plenty m) need su part a h (enough m need a) in
      let w = (subst (Walks m su (λ x. After x need)) g.says (need_walk supply m good ob (plenty m) need su part.inv a)).walks in
      record {
        after = g.after;
        says = g.says;
        netlist = g.part.same;
        signals = g.part.bits;
        there = has_nets g.after g.part.inv need a w.post;
        nets = g.part.nets;
      }

  -- a bit that has a net keeps it: one that was lowered by a range has the same net once the whole is lowered
  pub same_net : {st' : State} → Onwards m ob st st' → (e b k : ℕ) → expression_net st e b ≡ some k → expression_net st' e b ≡ some k
  same_net o e b k h = (goes m good ob kept o).onward.nets e b k h

  -- its net is what its kind's builder call gives of the nets below it
  pub net_made : (e b k : ℕ) → expression_net st e b ≡ some k → Derived m ob st.netlist (signal_bit st) (expression_net st) e b k
  net_made e b k h = kept.steady.derived e b k h

  -- lowered again with the nets of expression c and of all after it forgotten
  pub again : (c : ℕ) → c ≤ length m.exprs → (need : Need) → Asked m need → HasNets m st need → LowersAgain m ob st need (forgot c m st)
  again c most need a h = from (forgot c m st) (record {
    inv = forgot_inv m c most st kept.inv;
    steady = forgot_steady m c most st kept.inv good ob kept.steady;
    same = refl;
    bits = refl;
    nets = forgot_nets m c most st kept.inv;
  }) need a h

  -- and with none forgotten: a whole of which each bit has a net by ranges
  pub again_here : (need : Need) → Asked m need → HasNets m st need → LowersAgain m ob st need st
  again_here need a h = from st (record { inv = kept.inv; steady = kept.steady; same = refl; bits = refl; nets = λ e b k q. q }) need a h

  -- ---- the same for one bit ----

  -- bit b of expression e has net k: by itself it is lowered again to net k
  pub bit_again : (c : ℕ) → c ≤ length m.exprs → (e b k : ℕ) → expression_net st e b ≡ some k
      → (g : LowersAgain m ob st (Range e b 1) (forgot c m st)) × (expression_net g.after e b ≡ some k)
  bit_again c most e b k h =
      let here = net_here m st kept.inv e b k h in
      let inside = net_bit m st kept.inv good.exprs e here b k h in
      let g = again c most (Range e b 1) (here, omega arith) (λ j x y. let z : j ≡ b = omega arith in record { value = k; is = ap (expression_net st e) z ∙ h }) in
      let t = g.there b (omega arith) (omega arith) in
      (g, t.is ∙ sym (g.nets e b t.value t.is) ∙ h)
