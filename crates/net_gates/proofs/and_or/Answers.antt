-- `net_gates::and_or` meets its contract. Assumes nothing.
use mathlib.Core.Path.{◌∙◌}
use Rattle.net_view.specs.View.{netlist_of}
use Rattle.net_gates.proofs.Ways.{gives_by, gives_net, pair_same, pair_decided, pair_decided₂, pair_left, pair_left₂, pair_gate}
use Rattle.net_gates.proofs.and_or.Goals as goal

pub returns-then-lhs-rhs : goal.returns-then-lhs-rhs
returns-then-lhs-rhs c = let s = c.args in let l = netlist_of s.n s.net.now in gives_net _ _ _ _ _ c.requires.0 (pair_same s.kind s.v l s.lhs s.rhs c.if-lhs-rhs.true)

pub returns-then-is_constant : goal.returns-then-is_constant
returns-then-is_constant c = let s = c.args in let l = netlist_of s.n s.net.now in gives_by _ _ _ _ _ _ (pair_decided s.kind s.v l s.lhs s.rhs c.if-lhs-rhs.false (c.is_constant.ensures s.n ∙ c.if-is_constant.true)) c.add_constant.ensures

pub returns-then-is_constant-2 : goal.returns-then-is_constant-2
returns-then-is_constant-2 c = let s = c.args in let l = netlist_of s.n s.net.now in gives_by _ _ _ _ _ _ (pair_decided₂ s.kind s.v l s.lhs s.rhs c.if-lhs-rhs.false (c.is_constant.ensures s.n ∙ c.if-is_constant.false) (c.is_constant-2.ensures s.n ∙ c.if-is_constant-2.true)) c.add_constant-then-is_constant-2.ensures

pub returns-then-is_constant-3 : goal.returns-then-is_constant-3
returns-then-is_constant-3 c = let s = c.args in let l = netlist_of s.n s.net.now in gives_net _ _ _ _ _ c.requires.0 (pair_left s.kind s.v l s.lhs s.rhs c.if-lhs-rhs.false (c.is_constant.ensures s.n ∙ c.if-is_constant.false) (c.is_constant-2.ensures s.n ∙ c.if-is_constant-2.false) (c.is_constant-3.ensures s.n ∙ c.if-is_constant-3.true))

pub returns-then-is_constant-4 : goal.returns-then-is_constant-4
returns-then-is_constant-4 c = let s = c.args in let l = netlist_of s.n s.net.now in gives_net _ _ _ _ _ c.requires.0 (pair_left₂ s.kind s.v l s.lhs s.rhs c.if-lhs-rhs.false (c.is_constant.ensures s.n ∙ c.if-is_constant.false) (c.is_constant-2.ensures s.n ∙ c.if-is_constant-2.false) (c.is_constant-3.ensures s.n ∙ c.if-is_constant-3.false) (c.is_constant-4.ensures s.n ∙ c.if-is_constant-4.true))

pub returns : goal.returns
returns c = let s = c.args in let l = netlist_of s.n s.net.now in gives_by _ _ _ _ _ _ (pair_gate s.kind s.v l s.lhs s.rhs c.if-lhs-rhs.false (c.is_constant.ensures s.n ∙ c.if-is_constant.false) (c.is_constant-2.ensures s.n ∙ c.if-is_constant-2.false) (c.is_constant-3.ensures s.n ∙ c.if-is_constant-3.false) (c.is_constant-4.ensures s.n ∙ c.if-is_constant-4.false)) c.add_pair.ensures
