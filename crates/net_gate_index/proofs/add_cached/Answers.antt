-- `net_gate_index::add_cached` meets its contract. Assumes nothing.
use mathlib.Core.Path.{ap, ◌∙◌}
use Rattle.spec_model.specs.Words.{absent, node}
use Rattle.net_index.specs.Laws.{linked}
use Prim.Native.Nat.{ℕ}
use lib.ListN.{get_or}
use Rattle.spec_tests.specs.Options.{option_of}
use Rattle.net_gate_index.proofs.Ways.{gate_is, cached_found, cached_new, cached_full}
use Rattle.net_gate_index.proofs.add_cached.Goals as goal

pub returns-in-Some : goal.returns-in-Some
returns-in-Some c =
    let s = c.args in
    let x = node s.kind s.owner absent s.a s.b s.c in
    cached_found s.n s.net.now s.idx.now x c.requires.0 _ (c.find_gate.ensures ∙ ap option_of c.in-Some.is)

pub returns-then-count-n : goal.returns-then-count-n
returns-then-count-n c =
    let s = c.args in
    let w = s.net.now in
    let x = node s.kind s.owner absent s.a s.b s.c in
    cached_new s.n w s.idx.now x c.requires.0 _ _ (c.find_gate.ensures ∙ ap option_of c.in-None.is) c.if-count-n.true (gate_is _ _ _ _ _ _ c.requires.1 c.requires.2)
    (c.push_node.ensures s.n c.requires.0.built c.if-count-n.true)
    (c.link.ensures ∙ ap (λ (h : ℕ). linked s.n (get_or w 1 0) h s.idx.now) c.hash-h.ensures.0)

pub returns-else-count-n : goal.returns-else-count-n
returns-else-count-n c =
    let s = c.args in
    let x = node s.kind s.owner absent s.a s.b s.c in
    cached_full s.n s.net.now s.idx.now x c.requires.0 (c.find_gate.ensures ∙ ap option_of c.in-None.is) c.if-count-n.false
