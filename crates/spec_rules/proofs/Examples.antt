-- What is proved of specs/Examples: Demand 3 is no empty claim. The smallest image, y = ~a: its checks, listing, module; demand 3 holds for its netlist words and
-- fails for words in which the output reads a where it should read ~a. A register: a netlist right at the start only fails it.
use Rattle.std.specs.Prelude.{ℕ, zero, suc, ◌≡◌, refl, true, false, [], ◌∷◌, ltb, eqb}
use Rattle.std.proofs.Common.{sym, subst, ap, ◌∙◌}
use Rattle.std.proofs.Math.Path.{fun_ext}
use Rattle.std.proofs.Math.Option.{some, none-ne-some, some-injective}
use Rattle.std.proofs.Math.Dec.{leb-suc-suc, leb-suc-zero, eqb-suc-suc, eqb-zero-suc}
use Rattle.std.proofs.Math.ListN.{get_elem?}
use Rattle.spec_rtl.specs.Rtl as R
use Rattle.spec_tests.specs.Rules.{◌<?◌, ◌or◌, ◌and◌, pick, up_to, first}
use Rattle.spec_rules.specs.Image.{decode}
use Rattle.spec_rules.specs.NetlistImage.{netlist}
use Rattle.spec_rules.specs.Step.{Setting, Contents, clashing, no_end, run, of_module, of_netlist, IsInput, Ported, Demand3}
use Rattle.spec_rules.specs.Examples.{differ, empty, held, image, m, n, q, r, right, run_alike, shown, the_module, the_netlist, the_other, wrong}

holds_here : Demand3 m (n 1)
unfolding m n
holds_here ported u c l = run_alike (of_module m u) (of_netlist (n 1)) (λ s c. fun_ext (λ p. fun_ext (λ i. at s c p i))) (λ s c t. refl) c l
  where
    at : (s : Setting) (c : Contents) (p i : ℕ) → (of_module m u).outputs s c p i ≡ (of_netlist (n 1)).outputs s c p i
    at s c zero i = refl
    at s c (suc zero) zero = refl
    at s c (suc zero) (suc i) = let f : ltb (suc i) 1 ≡ false = leb-suc-suc (suc i) 0 ∙ leb-suc-zero i in rw f
    at s c (suc (suc p)) i = let f : eqb 1 (suc (suc p)) ≡ false = eqb-suc-suc 0 (suc p) ∙ eqb-zero-suc p in rw f

pub holds : Demand3 (decode image) (netlist right)
holds = subst (λ x. Demand3 x (netlist right)) (sym the_module) (subst (λ x. Demand3 m x) (sym the_netlist) holds_here)

fails_here : Demand3 m (n 0) → ⊥
unfolding m n shown empty
fails_here d = differ (ap (shown 1 0) (d ported (λ p i. false) empty ((λ p i. false) ∷ [])))
  where
    ported : Ported m
    ported = record {
      registers = λ k r e. absurd (none-ne-some r e);
      resets = λ k r x e. absurd (none-ne-some r e);
      memories = λ k x e. absurd (none-ne-some x e);
      seconds = λ k x p e. absurd (none-ne-some x e);
    }

pub fails : Demand3 (decode image) (netlist wrong) → ⊥
fails d = fails_here (subst (λ x. Demand3 m x) the_other (subst (λ x. Demand3 x (netlist wrong)) the_module d))

-- at every start it shows what the module shows
start_alike : (u : R.Valuation) (c : Contents) (s : Setting) → shown 2 0 (run (of_module q u) c (s ∷ [])) ≡ shown 2 0 (run (of_netlist held) c (s ∷ []))
unfolding q r held shown
start_alike u c s = refl

held_fails : Demand3 q held → ⊥
unfolding q r held shown empty no_end clashing first up_to pick ◌<?◌
held_fails d = differ (ap (shown 2 1) (d ported (λ p i. false) empty ((λ p i. eqb p 1) ∷ (λ p i. true) ∷ [])))
  where
    clocked : (k : ℕ) (x : R.Register) → get_elem? q.registers k ≡ some x → IsInput q x.clock
    clocked zero x e = ap (λ (y : R.Register). R.dir_of q y.clock) (sym (some-injective r x e))
    clocked (suc k) x e = absurd (none-ne-some x e)

    unreset : (k : ℕ) (x : R.Register) (y : R.Reset) → get_elem? q.registers k ≡ some x → x.reset ≡ some y → ⊥
    unreset zero x y e f = none-ne-some y (ap (λ (z : R.Register). z.reset) (some-injective r x e) ∙ f)
    unreset (suc k) x y e f = none-ne-some x e

    ported : Ported q
    ported = record {
      registers = clocked;
      resets = λ k x y e f g. absurd (unreset k x y e f);
      memories = λ k x e. absurd (none-ne-some x e);
      seconds = λ k x p e f. absurd (none-ne-some x e);
    }
