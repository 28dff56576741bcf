-- What is proved of specs/Clashing: Q-6 by example: when a step has no defined end, and that module and netlist of one image meet it in the same step.
use Rattle.std.specs.Prelude.{ℕ, zero, suc, ◌≡◌, refl, true, false, List, [], ◌∷◌, length, get_or}
use Rattle.std.proofs.Common.{arith, sym, ap, ◌∙◌}
use Rattle.std.proofs.Math.Option.{some, none-ne-some, some-injective}
use Rattle.std.proofs.Math.ListN.{get_elem?}
use Rattle.spec_rtl.specs.Rtl as R
use Rattle.spec_tests.specs.Rules.{◌or◌, ◌and◌, first}
use Rattle.spec_rules.specs.Image.{decode}
use Rattle.spec_rules.specs.NetlistImage.{netlist}
use Rattle.spec_rules.specs.Step.{IsInput, Ported, Demand3}
use Rattle.spec_rules.specs.Clashing.{computing, image, lengths, memory, other, settings, zeros}

-- both ports write word 1 in the third step: it has no defined end, and the start and two steps are seen of either
meet : lengths memory (settings true true) ≡ 3 ∷ 3 ∷ []
unfolding zeros computing
meet = refl

-- words 1 and 0, or one port alone: all five settings are seen
go_on : lengths memory (settings true false) ≡ 5 ∷ 5 ∷ []
unfolding zeros computing
go_on = refl

one_port : lengths memory (settings false true) ≡ 5 ∷ 5 ∷ []
unfolding zeros computing
one_port = refl

runs_on : lengths other (settings true true) ≡ 3 ∷ 5 ∷ []
unfolding zeros computing
runs_on = refl

ported : Ported (decode image)
unfolding computing
ported = record {
  registers = λ k x e. absurd (none-ne-some x e);
  resets = λ k x y e f g. absurd (none-ne-some x e);
  memories = first_clock;
  seconds = second_clock;
}
  where
    clk : (x : R.Memory) → get_elem? (decode image).memories 0 ≡ some x → IsInput (decode image) x.first.clock
    clk x e = ap (λ (y : R.Memory). R.dir_of (decode image) y.first.clock) (sym (some-injective _ x e))

    first_clock : (k : ℕ) (x : R.Memory) → get_elem? (decode image).memories k ≡ some x → IsInput (decode image) x.first.clock
    first_clock zero x e = clk x e
    first_clock (suc k) x e = absurd (none-ne-some x e)

    second_clock : (k : ℕ) (x : R.Memory) (p : R.Port) → get_elem? (decode image).memories k ≡ some x → x.second ≡ some p → IsInput (decode image) p.clock
    second_clock zero x p e f =
        ap (λ (y : R.Port). R.dir_of (decode image) y.clock) (sym (some-injective _ p (ap (λ (y : R.Memory). y.second) (some-injective _ x e) ∙ f)))
    second_clock (suc k) x p e f = absurd (none-ne-some x e)

runs_on_fails : Demand3 (decode image) (netlist other) → ⊥
runs_on_fails d =
    let a = ap length (d ported (λ p i. false) zeros (settings true true)) in
    let b = ap (λ (l : List ℕ). get_or l 0 0) runs_on in
    let c = ap (λ (l : List ℕ). get_or l 1 0) runs_on in
    absurd (omega arith)
