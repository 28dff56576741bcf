-- Words that follow an image do not matter: those of a listed netlist are accepted, and read as the netlist, with any behind them. Assumes
-- nothing.
use Rattle.std.specs.Prelude.{ℕ, ◌<◌, ◌≡◌, List, ◌++◌}
use Rattle.std.proofs.Common.{arith, ◌∙◌}
use Rattle.spec_tests.specs.Rules.{Fine}
use Rattle.spec_rules.specs.NetlistImage.{node_word}
use Rattle.spec_model.specs.Words.{Netlist}
use Rattle.spec_netlist.specs.Accept.{nets, accepts}
use Rattle.spec_netlist.specs.Given.{Same}
use Rattle.law_told.specs.Told.{Told, told, sixteen, whole}
use Rattle.law_told.specs.Behind.{nets_same, net_word_law, records_same}

-- an accepted image with any words behind it reads as before
module _ (ws rest : List ℕ) (ok : accepts ws ≡ Fine) (l : Netlist) (s : Same ws l) where
  t : Told ws
  t = told ws ok

  net : (k i : ℕ) → k < nets (ws ++ rest) → i < 6 → (k < nets ws) × (node_word (ws ++ rest) k i ≡ node_word ws k i)
  net k i h j =
      let e = nets_same ws rest (sixteen ws t) (whole ws t) in
      let b : k < nets ws = omega arith in
      (b, net_word_law ws rest (sixteen ws t) (whole ws t) t.header k i b j)

  pub same_behind : Same (ws ++ rest) l
  same_behind = record {
    count = nets_same ws rest (sixteen ws t) (whole ws t) ∙ s.count;
    kind = λ k h. let e = net k 0 h (omega arith) in e.1 ∙ s.kind k e.0;
    owner = λ k h. let e = net k 1 h (omega arith) in e.1 ∙ s.owner k e.0;
    bit = λ k h. let e = net k 2 h (omega arith) in e.1 ∙ s.bit k e.0;
    in0 = λ k h. let e = net k 3 h (omega arith) in e.1 ∙ s.in0 k e.0;
    in1 = λ k h. let e = net k 4 h (omega arith) in e.1 ∙ s.in1 k e.0;
    in2 = λ k h. let e = net k 5 h (omega arith) in e.1 ∙ s.in2 k e.0;
    records = records_same ws rest (sixteen ws t) (whole ws t) ∙ s.records;
  }
