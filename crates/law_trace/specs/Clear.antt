-- Q-6: that sixteen memories are looked at is enough. A step with a defined end has no clash in any memory, of an accepted netlist and of
-- a module whose image the checks pass. Assumes nothing.
use Rattle.std.specs.Prelude.{ℕ, zero, suc, ◌≤◌, ◌≡◌, refl, false, List, [], ◌∷◌, length}
use Rattle.std.proofs.Common.{le_of_suc-le-suc, arith, ap}
use Rattle.std.proofs.Math.Option.{none, map}
use Rattle.std.proofs.Math.ListN.{get_elem?}
use Rattle.spec_rtl.specs.Rtl.{Valuation, word}
use Rattle.spec_tests.specs.Rules.{Fine}
use Rattle.spec_rules.specs.Image.{decode}
use Rattle.spec_rules.specs.Checks.{checked}
use Rattle.spec_rules.specs.NetlistImage.{netlist}
use Rattle.spec_rules.specs.Step.{Setting, Contents, perhaps, clashes, no_end, net, net_accesses, settled, module_accesses, of_module, of_netlist}
use Rattle.spec_netlist.specs.Accept.{accepts}
use Rattle.check_image.specs.Accepted.{accepted}
use Rattle.law_accepted.specs.Decode.{lengths}
use Rattle.law_demands.specs.Clashes.{none_clashes}
use Rattle.law_sorts.specs.Numbers.{none_beyond}

pub netlist_clear : (ws : List ℕ) → accepts ws ≡ Fine → (s t : Setting) (c : Contents) → no_end ((of_netlist (netlist ws)).reads s c t) ≡ false
    → (k : ℕ) → perhaps false clashes (((of_netlist (netlist ws)).reads s c t).memory k) ≡ false
netlist_clear ws ok s t c = none_clashes ((of_netlist (netlist ws)).reads s c t)
    (λ k h. ap (map (net_accesses (net (netlist ws) s c) (net (netlist ws) t c))) (none_beyond ws ok k h))

none_past : {A : Type 0} (xs : List A) (k : ℕ) → length xs ≤ k → get_elem? xs k ≡ none
none_past [] k h = refl
none_past (x ∷ xs) zero h = absurd (omega arith)
none_past (x ∷ xs) (suc k) h = none_past xs k (le_of_suc-le-suc h)

pub module_clear : (s : List ℕ) (N P netlist scratch : ℕ) → checked s N P netlist scratch ≡ Fine → (u : Valuation) (p t : Setting) (c : Contents) → no_end ((of_module (decode s) u).reads p c t) ≡ false
    → (k : ℕ) → perhaps false clashes (((of_module (decode s) u).reads p c t).memory k) ≡ false
module_clear s N P netlist scratch ok u p t c = none_clashes ((of_module (decode s) u).reads p c t)
    (λ k h. ap (map (module_accesses (word (decode s).exprs (settled (decode s) u p c)) (settled (decode s) u p c) t))
    (none_past (decode s).memories k (let a = (accepted s N P netlist scratch ok).0.most.memories in let e = (lengths s).memories in omega arith)))
