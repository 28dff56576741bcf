-- What is proved of specs/Operators: `lower_binary` and the unary arm of `lower_expression`: the nets given stand for the operator's word. Assumes nothing.
use Rattle.std.proofs.Math.Path.{refl, sym, ap}
use Rattle.std.proofs.Common.{◌∙◌, add-zero}
use Rattle.std.specs.Prelude.{Bool, List, map, ℕ, length}
use Rattle.std.proofs.Math.Option.{none}
use Rattle.spec_rtl.specs.Word.{bits}
use Rattle.spec_rtl.specs.Rtl as R
use Rattle.spec_rtl.specs.Rtl.{binary}
use Rattle.spec_model.specs.Words.{Netlist}
use Rattle.spec_model.specs.Builder as B
use Rattle.spec_model.specs.Ranges.{AndGate, OrGate, XorGate}
use Rattle.spec_model.specs.Lowering.{LeftS, RightS, ArithmeticS, lower_binary}
use Rattle.word_laws.specs.Widths.{AllBelow, BinWidth}
use Rattle.law_nets.specs.Meaning.{net_value}
use Rattle.law_nets.specs.Sound.{count, Sound, At, StandsAll}
use Rattle.law_nets.specs.Run.{Run}
use Rattle.law_nets.proofs.Run.{later_trans, all_as, run_map}
use Rattle.law_cells.proofs.Arithmetic.{arithmetic_run}
use Rattle.law_cells.proofs.Comparison.{comparison_run}
use Rattle.law_operators.specs.Trees.{gates_run, equal_words_run}
use Rattle.law_operators.proofs.Shifts.{shift_run}
use Rattle.law_operators.specs.Operators.{Binary, then_not}

module _ (xs ys : List ℕ) (l : Netlist) (q : Sound l) (b : AllBelow (count l) xs) (d : AllBelow (count l) ys) where
  pub binary_run : (op : R.Binary) (w : ℕ) → BinWidth op w (length xs) (length ys) → Run l (λ zs l'. StandsAll l' zs (Binary op xs ys)) (lower_binary op xs ys l)
  unfolding lower_binary
  binary_run R.And w e = gates_run AndGate xs ys l q b d
  binary_run R.Or w e = gates_run OrGate xs ys l q b d
  binary_run R.Xor w e = gates_run XorGate xs ys l q b d
  binary_run R.Add w e =
      run_map (arithmetic_run xs ys l q b d (e.1 ∙ sym e.0) B.Add none tt tt) (λ zs l' y v. all_as v (λ h y' s c. ap (bits (length (map (net_value h s c) xs))) (add-zero _)))
  binary_run R.Sub w e = arithmetic_run xs ys l q b d (e.1 ∙ sym e.0) B.Subtract none tt refl
  binary_run R.Mul w e = arithmetic_run xs ys l q b d (e.1 ∙ sym e.0) B.Multiply none tt refl
  binary_run R.Equal w e = equal_words_run xs ys l q b d e.1
  binary_run R.NotEqual w e = then_not _ (equal_words_run xs ys l q b d e.1)
  binary_run R.LessU w e = comparison_run xs ys l q b d (sym e.1) B.LessThanUnsigned
  binary_run R.LessS w e = comparison_run xs ys l q b d (sym e.1) B.LessThanSigned
  binary_run R.LessEqU w e = comparison_run xs ys l q b d (sym e.1) B.LessOrEqualUnsigned
  binary_run R.LessEqS w e = comparison_run xs ys l q b d (sym e.1) B.LessOrEqualSigned
  binary_run R.GreaterU w e = comparison_run ys xs l q d b e.1 B.LessThanUnsigned
  binary_run R.GreaterS w e = comparison_run ys xs l q d b e.1 B.LessThanSigned
  binary_run R.GreaterEqU w e = comparison_run ys xs l q d b e.1 B.LessOrEqualUnsigned
  binary_run R.GreaterEqS w e = comparison_run ys xs l q d b e.1 B.LessOrEqualSigned
  binary_run R.ShiftL w e = shift_run LeftS xs ys l q b d
  binary_run R.ShiftR w e = shift_run RightS xs ys l q b d
  binary_run R.ShiftA w e = shift_run ArithmeticS xs ys l q b d

pub lower_binary_law : (op : R.Binary) (w : ℕ) {xs ys : List ℕ} {l : Netlist} {v u : At (List Bool)} → Sound l → StandsAll l xs v → StandsAll l ys u
    → BinWidth op w (length xs) (length ys) → Run l (λ zs l'. StandsAll l' zs (λ h s c. binary op (v h s c) (u h s c))) (lower_binary op xs ys l)
lower_binary_law op w {xs} {ys} {l} q x y e = run_map (binary_run xs ys l q x.there y.there op w e)
    (λ zs l' z r. all_as r (λ h z' s c. rw (x.are h (later_trans z z') s c, y.are h (later_trans z z') s c)))
