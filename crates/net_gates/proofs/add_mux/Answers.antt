-- `net_gates::add_mux` meets its contract. Assumes nothing.
use borrow.Author.Rules.{rules}
use mathlib.Core.Path.{◌∙◌, sym, ap}
use Rattle.spec_model.specs.Words.{Node}
use Rattle.spec_model.specs.Builder.{add_cached}
use Rattle.net_view.specs.View.{netlist_of}
use mathlib.Core.Option.{some}
use Rattle.net_gates.specs.Turns.{nots_any}
use Rattle.net_gates.proofs.Ways.{gives_by, gives_net, mux_same, mux_one, mux_zero, mux_node_law}
use Rattle.net_gates.proofs.add_mux.Goals as goal

pub returns-then-then_net-else_net : goal.returns-then-then_net-else_net
returns-then-then_net-else_net c =
    let s = c.args in
    gives_net _ _ _ _ _ c.requires.0 (mux_same (netlist_of s.n s.net.now) s.condition s.then_net s.else_net c.if-then_net-else_net.true)

pub returns-then-v : goal.returns-then-v
returns-then-v c =
    let s = c.args in
    gives_net _ _ _ _ _ c.requires.0 (mux_one (netlist_of s.n s.net.now) s.condition s.then_net s.else_net c.if-then_net-else_net.false (c.in-Some.ensures s.n ∙ ap some c.if-v.true))

pub returns-else-v : goal.returns-else-v
returns-else-v c =
    let s = c.args in
    gives_net _ _ _ _ _ c.requires.0 (mux_zero (netlist_of s.n s.net.now) s.condition s.then_net s.else_net c.if-then_net-else_net.false (c.in-Some.ensures s.n ∙ ap some c.if-v.false))

pub plain_mux-m-requires : goal.plain_mux-m-requires
plain_mux-m-requires c =
    let s = c.args in
    (search rules, λ k. nots_any s.n k s.net.now c.requires.1)

pub returns : goal.returns
returns c =
    let s = c.args in
    let l = netlist_of s.n s.net.now in
    gives_by _ _ _ _ _ _
    (mux_node_law l s.condition s.then_net s.else_net c.if-then_net-else_net.false (c.in_default.ensures s.n)
    ∙ ap (λ (x : Node). add_cached x l) (sym (c.plain_mux-m.ensures s.n)))
    c.add_cached.ensures
