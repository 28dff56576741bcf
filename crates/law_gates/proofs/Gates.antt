-- What is proved of specs/Gates: Gates: the net that each call gives stands for its operation on its operands' nets, folded or not, found or made. Assumes nothing.
use Rattle.std.specs.Prelude.{◌≡◌, refl, Bool, true, false, ℕ, ◌<◌, eqb}
use Rattle.std.proofs.Common.{arith, eqb-true}
use Rattle.std.proofs.Math.Option.{Option, none, some}
use Rattle.spec_rules.specs.NetlistImage.{node_of}
use Rattle.spec_model.specs.Words.{gate, Netlist}
use Rattle.spec_model.specs.Builder.{node_for_net, constant_of, constant_value, mux_by, add_mux}
use Rattle.law_nets.specs.Meaning.{decode, net_value}
use Rattle.law_nets.specs.Sound.{count, Sound}
use Rattle.law_nets.specs.Run.{Run}
use Rattle.law_nets.proofs.Run.{later_trans, stands_as, run_here, run_map}
use Rattle.law_gates.specs.Nodes.{run_if, cached_run}
use Rattle.law_gates.specs.Gates.{Mux, cond_not, cond_self, constant_later, not_below, not_later}

pub mux_run : (d a b : ℕ) (l : Netlist) → Sound l → d < count l → a < count l → b < count l → Run l (Mux d a b) (add_mux d a b l)
unfolding add_mux constant_value decode node_of
mux_run d a b l q hd ha hb = run_if (eqb a b)
    (λ t. run_here q (record { there = ha; is = λ h x s c. rw (← eqb-true a b t) (cond_self (net_value h s c d) (net_value h s c a)) }))
    (λ _. go (constant_of (node_for_net l d)) refl)
  where
    go : (o : Option Bool) → constant_of (node_for_net l d) ≡ o → Run l (Mux d a b) (mux_by o (node_for_net l d) d a b l)
    go (some true) e = run_here q (record { there = ha; is = λ h x s c. rw ((constant_later l d true hd e).is h x s c) })
    go (some false) e = run_here q (record { there = hb; is = λ h x s c. rw ((constant_later l d false hd e).is h x s c) })
    go none e = run_if (eqb (node_for_net l d).kind 5)
        (λ t. run_map (cached_run (gate 6 (node_for_net l d).in0 b a) l q (omega (arith, not_below l q d hd t), hb, ha) (λ x. refl))
        (λ z l' g v. stands_as v (λ h x s c.
        rw ((not_later l d hd t).is h (later_trans g x) s c) (cond_not (net_value h s c (node_for_net l d).in0) (net_value h s c a) (net_value h s c b)))))
        (λ t. cached_run (gate 6 d a b) l q (hd, ha, hb) (λ x. refl))
