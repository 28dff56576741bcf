-- `net_gate_index::find_gate` meets its contract. Assumes nothing.
use mathlib.Core.Path.{sym, ◌∙◌}
use native.Mathlib.Omega.{arith}
use lib.ListN.{get_or}
use Rattle.spec_model.specs.Words.{absent, node}
use Rattle.net_index.specs.Laws.{at_start, at_turn, at_less, at_found, at_end_law}
use Rattle.net_gate_index.proofs.Ways.{gate_is}
use Rattle.net_gate_index.proofs.find_gate.Goals as goal

pub loop-p-init : goal.loop-p-init
loop-p-init c =
    let s = c.args in
    let x = node s.kind s.owner absent s.a s.b s.c in
    at_start s.n x s.net.now s.idx.now (get_or s.net.now 1 0) s.h (gate_is _ _ _ _ _ _ c.requires.3 c.requires.4) c.requires.0.gates c.requires.1 c.requires.2

pub returns-then-is_node : goal.returns-then-is_node
returns-then-is_node c =
    let s = c.args in
    let x = node s.kind s.owner absent s.a s.b s.c in
    at_found s.n x s.net.now s.idx.now (get_or s.net.now 1 0) c.loop-p.p (gate_is _ _ _ _ _ _ c.requires.3 c.requires.4) c.requires.0.gates c.loop-p.invariant c.loop-p-test.true (sym c.is_node.ensures ∙ c.if-is_node.true)

pub loop-p-smaller : goal.loop-p-smaller
loop-p-smaller c =
    let s = c.args in
    let x = node s.kind s.owner absent s.a s.b s.c in
    at_less s.n x s.net.now s.idx.now (get_or s.net.now 1 0) c.loop-p.p (gate_is _ _ _ _ _ _ c.requires.3 c.requires.4) c.requires.0.gates c.loop-p.invariant c.loop-p-test.true

pub loop-p-preserved : goal.loop-p-preserved
loop-p-preserved c =
    let s = c.args in
    let x = node s.kind s.owner absent s.a s.b s.c in
    at_turn s.n x s.net.now s.idx.now (get_or s.net.now 1 0) c.loop-p.p (gate_is _ _ _ _ _ _ c.requires.3 c.requires.4) c.requires.0.gates c.loop-p.invariant c.loop-p-test.true (sym c.is_node.ensures ∙ c.if-is_node.false)

pub returns : goal.returns
returns c =
    let s = c.args in
    let x = node s.kind s.owner absent s.a s.b s.c in
    at_end_law s.n x s.net.now (get_or s.net.now 1 0) c.loop-p.p c.loop-p.invariant (omega arith)
