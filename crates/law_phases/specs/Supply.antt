-- The builder's calls give what the walk asks of them. Assumes nothing.
use Rattle.std.specs.Prelude.{◌≡◌, refl, Bool, true, false, cond, List, [], ◌∷◌, map, ℕ, suc, ◌<◌, length}
use Rattle.std.proofs.Common.{sym, ◌∙◌, arith}
use Rattle.std.proofs.Math.Option.{some}
use Rattle.std.proofs.lemmas.List.{length-map}
use Rattle.spec_rtl.specs.Ops.{map2}
use Rattle.spec_model.specs.Words.{Netlist}
use Rattle.spec_model.specs.Builder as B
use Rattle.spec_model.specs.Builder.{add_mux}
use Rattle.spec_model.specs.Ranges.{Gate, AndGate, OrGate, XorGate}
use Rattle.spec_model.specs.Lowering.{add_gate}
use Rattle.law_nets.specs.Meaning.{net_value}
use Rattle.law_nets.specs.Sound.{count, Sound}
use Rattle.law_nets.specs.Run.{Run}
use Rattle.law_nets.proofs.Run.{all_as, run_map}
use Rattle.law_gates.specs.Gates.{constant_later, Op2, constant_run, and_run, or_run, xor_run}
use Rattle.law_gates.proofs.Gates.{mux_run}
use Rattle.law_gates.specs.Many.{both_run, constants_run, nots_run}
use Rattle.law_cells.proofs.Arithmetic.{arithmetic_run}
use Rattle.law_operators.specs.Operators.{unary_run}
use Rattle.law_operators.proofs.Operators.{binary_run}
use Rattle.law_walk.specs.Kept.{run_makes}
use Rattle.law_walk.specs.Gates.{gate_op, Gates}

gate_run : (k : Gate) (a b : ℕ) (l : Netlist) → Sound l → a < count l → b < count l → Run l (Op2 (gate_op k) a b) (add_gate k a b l)
gate_run AndGate a b l q h j = and_run a b l q h j
gate_run OrGate a b l q h j = or_run a b l q h j
gate_run XorGate a b l q h j = xor_run a b l q h j

-- a condition for all pairs
all_cond : (t : Bool) (xs ys : List Bool) → length xs ≡ length ys → map2 (λ x y. cond t x y) xs ys ≡ cond t xs ys
all_cond true [] [] e = refl
all_cond false [] [] e = refl
all_cond t [] (y ∷ ys) e = absurd (omega arith)
all_cond t (x ∷ xs) [] e = absurd (omega arith)
all_cond true (x ∷ xs) (y ∷ ys) e = rw (all_cond true xs ys (omega arith))
all_cond false (x ∷ xs) (y ∷ ys) e = rw (all_cond false xs ys (omega arith))

pub supply : Gates
supply = record {
  constant = λ b l q. run_makes _ (constant_run b l q);
  known = λ l k b h e. constant_later l k b h e;
  constants = λ bs l q. run_makes _ (constants_run bs l q);
  nots = λ xs l q b. run_makes _ (nots_run xs l q b);
  gates = λ k xs ys l q a b e. run_makes _
      (both_run (add_gate k) (λ h s c. gate_op k) 0 (λ x y l q n hx hy. gate_run k x y l q hx hy) xs ys l q (omega arith) a b);
  mux = λ d ts es l q h a b e. run_makes _
      (run_map (both_run (add_mux d) (λ h s c x y. cond (net_value h s c d) x y) (suc d) (λ x y l q n hx hy. mux_run d x y l q n hx hy) ts es l q h a b)
      (λ zs l' g w. all_as w (λ h x s c. all_cond (net_value h s c d) (map (net_value h s c) ts) (map (net_value h s c) es)
      (length-map ts (net_value h s c) ∙ e ∙ sym (length-map es (net_value h s c))))));
  un = λ op xs l q b. run_makes _ (unary_run op xs l q b);
  bin = λ op w xs ys l q a b e. run_makes _ (binary_run xs ys l q a b op w e);
  carry = λ xs ys d l q a b h e. run_makes _ (arithmetic_run xs ys l q a b (sym e) B.Add (some d) h tt);
}
