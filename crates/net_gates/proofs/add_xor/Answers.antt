-- `net_gates::add_xor` meets its contract. Assumes nothing.
use mathlib.Core.Path.{◌∙◌}
use Rattle.net_view.specs.View.{netlist_of}
use Rattle.net_gates.proofs.Ways.{gives_by, gives_net, xor_same, xor_zero, xor_zero₂, xor_one, xor_one₂, xor_gate}
use Rattle.net_gates.proofs.add_xor.Goals as goal

pub returns-then-lhs-rhs : goal.returns-then-lhs-rhs
returns-then-lhs-rhs c = let s = c.args in let l = netlist_of s.n s.net.now in gives_by _ _ _ _ _ _ (xor_same l s.lhs s.rhs c.if-lhs-rhs.true) c.add_constant.ensures

pub returns-then-is_constant : goal.returns-then-is_constant
returns-then-is_constant c = let s = c.args in let l = netlist_of s.n s.net.now in gives_net _ _ _ _ _ c.requires (xor_zero l s.lhs s.rhs c.if-lhs-rhs.false (c.is_constant.ensures s.n ∙ c.if-is_constant.true))

pub returns-then-is_constant-2 : goal.returns-then-is_constant-2
returns-then-is_constant-2 c = let s = c.args in let l = netlist_of s.n s.net.now in gives_net _ _ _ _ _ c.requires (xor_zero₂ l s.lhs s.rhs c.if-lhs-rhs.false (c.is_constant.ensures s.n ∙ c.if-is_constant.false) (c.is_constant-2.ensures s.n ∙ c.if-is_constant-2.true))

pub returns-then-is_constant-3 : goal.returns-then-is_constant-3
returns-then-is_constant-3 c = let s = c.args in let l = netlist_of s.n s.net.now in gives_by _ _ _ _ _ _ (xor_one l s.lhs s.rhs c.if-lhs-rhs.false (c.is_constant.ensures s.n ∙ c.if-is_constant.false) (c.is_constant-2.ensures s.n ∙ c.if-is_constant-2.false) (c.is_constant-3.ensures s.n ∙ c.if-is_constant-3.true)) c.add_not.ensures

pub returns-then-is_constant-4 : goal.returns-then-is_constant-4
returns-then-is_constant-4 c = let s = c.args in let l = netlist_of s.n s.net.now in gives_by _ _ _ _ _ _ (xor_one₂ l s.lhs s.rhs c.if-lhs-rhs.false (c.is_constant.ensures s.n ∙ c.if-is_constant.false) (c.is_constant-2.ensures s.n ∙ c.if-is_constant-2.false) (c.is_constant-3.ensures s.n ∙ c.if-is_constant-3.false) (c.is_constant-4.ensures s.n ∙ c.if-is_constant-4.true)) c.add_not-then-is_constant-4.ensures

pub returns : goal.returns
returns c = let s = c.args in let l = netlist_of s.n s.net.now in gives_by _ _ _ _ _ _ (xor_gate l s.lhs s.rhs c.if-lhs-rhs.false (c.is_constant.ensures s.n ∙ c.if-is_constant.false) (c.is_constant-2.ensures s.n ∙ c.if-is_constant-2.false) (c.is_constant-3.ensures s.n ∙ c.if-is_constant-3.false) (c.is_constant-4.ensures s.n ∙ c.if-is_constant-4.false)) c.add_pair.ensures
