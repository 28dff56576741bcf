-- `net_gates::add_not` meets its contract. Assumes nothing.
use mathlib.Core.Path.{◌∙◌, sym}
use Rattle.net_view.specs.View.{netlist_of}
use Rattle.net_gates.proofs.Ways.{gives_by, gives_net, not_value, not_not, not_gate}
use Rattle.spec_model.specs.Builder.{done}
use Rattle.net_gates.proofs.add_not.Goals as goal

pub returns-then-kind_of-eq-NOT : goal.returns-then-kind_of-eq-NOT
returns-then-kind_of-eq-NOT c =
    let s = c.args in let l = netlist_of s.n s.net.now in gives_net _ _ _ _ _ c.requires (not_not l s.a (c.in_default.ensures s.n) (sym (c.kind_of.ensures s.n) ∙ c.if-kind_of-eq-NOT.true) ∙ λ i. done (sym (c.input_of.ensures s.n) i, l))

pub returns-in-Some : goal.returns-in-Some
returns-in-Some c = let s = c.args in let l = netlist_of s.n s.net.now in gives_by _ _ _ _ _ _ (not_value l s.a _ (c.in-Some.ensures s.n)) c.add_constant.ensures

pub returns : goal.returns
returns c = let s = c.args in let l = netlist_of s.n s.net.now in gives_by _ _ _ _ _ _ (not_gate l s.a (c.in_default.ensures s.n) (λ e. c.if-kind_of-eq-NOT.false (c.kind_of.ensures s.n ∙ e))) c.add_cached.ensures
