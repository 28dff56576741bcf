-- `lower_binary` and the unary arm of `lower_expression`: the nets given stand for the operator's word. Assumes nothing.
use Rattle.std.proofs.Math.Path.{ap}
use Rattle.std.specs.Prelude.{Bool, not, List, map, ℕ}
use Rattle.spec_rtl.specs.Rtl as R
use Rattle.spec_rtl.specs.Rtl.{unary, binary}
use Rattle.spec_model.specs.Words.{Netlist}
use Rattle.spec_model.specs.Builder as B
use Rattle.spec_model.specs.Builder.{Made, add_not, each}
use Rattle.spec_model.specs.Ranges.{AndGate, OrGate, XorGate}
use Rattle.spec_model.specs.Lowering.{lower_unary}
use Rattle.word_laws.specs.Widths.{AllBelow}
use Rattle.law_nets.specs.Meaning.{net_value}
use Rattle.law_nets.specs.Sound.{count, Sound, At, StandsAll}
use Rattle.law_nets.specs.Run.{Run}
use Rattle.law_nets.proofs.Run.{later_trans, all_as, run_bind, run_map}
use Rattle.law_gates.specs.Many.{nots_run}
use Rattle.law_operators.specs.Trees.{reduce_run}

abbrev pub Unary : R.Unary → List ℕ → At (List Bool)
Unary op xs h s c = unary op (map (net_value h s c) xs)

abbrev pub Binary : R.Binary → List ℕ → List ℕ → At (List Bool)
Binary op xs ys h s c = binary op (map (net_value h s c) xs) (map (net_value h s c) ys)

-- a word and then its complement, bit by bit
pub then_not : {l : Netlist} {w : At (List Bool)} (o : Made (List ℕ)) → Run l (λ zs l'. StandsAll l' zs w) o
    → Run l (λ zs l'. StandsAll l' zs (λ h s c. map not (w h s c))) (B.and_then o (λ (r, l₁). each add_not r l₁))
then_not o r = run_bind (λ (r, l₁). each add_not r l₁) r (λ zs l' y v.
    run_map (nots_run zs l' y.sound v.there) (λ rs l'' y' w. all_as w (λ h y'' s c. ap (map not) (v.are h (later_trans y' y'') s c))))

pub unary_run : (op : R.Unary) (xs : List ℕ) (l : Netlist) → Sound l → AllBelow (count l) xs → Run l (λ zs l'. StandsAll l' zs (Unary op xs)) (lower_unary op xs l)
unfolding lower_unary
unary_run R.BitNot xs l q b = nots_run xs l q b
unary_run R.LogicNot xs l q b = then_not _ (reduce_run OrGate xs l q b)
unary_run R.ReduceOr xs l q b = reduce_run OrGate xs l q b
unary_run R.ReduceAnd xs l q b = reduce_run AndGate xs l q b
unary_run R.ReduceXor xs l q b = reduce_run XorGate xs l q b

-- from what the operands stand for
pub lower_unary_law : (op : R.Unary) {xs : List ℕ} {l : Netlist} {v : At (List Bool)} → Sound l → StandsAll l xs v
    → Run l (λ zs l'. StandsAll l' zs (λ h s c. unary op (v h s c))) (lower_unary op xs l)
lower_unary_law op {xs} {l} q x = run_map (unary_run op xs l q x.there) (λ zs l' y w. all_as w (λ h y' s c. ap (unary op) (x.are h (later_trans y y') s c)))
