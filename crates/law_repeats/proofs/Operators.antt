-- What is proved of specs/Operators: `lower_binary`, the unary arm of `lower_expression` and the end of `lower_add_with_carry`, made again. Assumes nothing.
use Rattle.std.specs.Prelude.{◌≡◌, Bool, true, false, List, ◌++◌, ℕ, ◌-◌, ◌<◌, length, replicate}
use Rattle.std.proofs.Common.{sym, ◌∙◌}
use Rattle.std.proofs.Math.Option.{Option, none, some}
use Rattle.spec_rtl.specs.Rtl as R
use Rattle.spec_model.specs.Words.{Netlist}
use Rattle.spec_model.specs.Builder as B
use Rattle.spec_model.specs.Builder.{done, and_then, Made, add_constant, add_not, each}
use Rattle.spec_model.specs.WordCells.{arithmetic}
use Rattle.spec_model.specs.Ranges.{AndGate, OrGate, XorGate}
use Rattle.spec_model.specs.Lowering.{LeftS, RightS, ArithmeticS, reduce_tree, equal_words, lower_unary, lower_binary, resized}
use Rattle.word_laws.specs.Widths.{AllBelow, BinWidth}
use Rattle.law_nets.specs.Sound.{count, Sound, At, StandsAll}
use Rattle.law_nets.specs.Run.{Run}
use Rattle.law_operators.specs.Trees.{reduce_run, equal_words_run}
use Rattle.law_repeats.specs.Again.{Again, again_here, again_bind, again_then}
use Rattle.law_repeats.proofs.Gates.{again_constant, again_nots, again_gates}
use Rattle.law_repeats.proofs.Trees.{again_tree, again_equal_words, again_shift}
use Rattle.law_repeats.proofs.Cells.{again_comparison, again_arithmetic}

-- a word and then its complement, bit by bit
then_not : {w : At (List Bool)} (f : Netlist → Made (List ℕ)) (l : Netlist) → Again f l → Run l (λ zs l'. StandsAll l' zs w) (f l) → Again (λ l'. and_then (f l') (λ (r, l₁). each add_not r l₁)) l
then_not f l a r = again_then f (each add_not) l a r (λ zs l₁ s y v. again_nots zs l₁ v.there)

pub again_un : (op : R.Unary) (xs : List ℕ) (l : Netlist) → Sound l → AllBelow (count l) xs → Again (lower_unary op xs) l
unfolding lower_unary
again_un R.BitNot xs l q b = again_nots xs l b
again_un R.LogicNot xs l q b = then_not (reduce_tree OrGate false xs) l (again_tree OrGate false xs l q b) (reduce_run OrGate xs l q b)
again_un R.ReduceOr xs l q b = again_tree OrGate false xs l q b
again_un R.ReduceAnd xs l q b = again_tree AndGate true xs l q b
again_un R.ReduceXor xs l q b = again_tree XorGate false xs l q b

pub again_bin : (op : R.Binary) (w : ℕ) (xs ys : List ℕ) (l : Netlist) → Sound l → AllBelow (count l) xs → AllBelow (count l) ys → BinWidth op w (length xs) (length ys)
    → Again (lower_binary op xs ys) l
unfolding lower_binary
again_bin R.And w xs ys l q b d e = again_gates AndGate xs ys l b d
again_bin R.Or w xs ys l q b d e = again_gates OrGate xs ys l b d
again_bin R.Xor w xs ys l q b d e = again_gates XorGate xs ys l b d
again_bin R.Add w xs ys l q b d e = again_arithmetic B.Add xs ys none l q tt (e.1 ∙ sym e.0)
again_bin R.Sub w xs ys l q b d e = again_arithmetic B.Subtract xs ys none l q tt (e.1 ∙ sym e.0)
again_bin R.Mul w xs ys l q b d e = again_arithmetic B.Multiply xs ys none l q tt (e.1 ∙ sym e.0)
again_bin R.Equal w xs ys l q b d e = again_equal_words xs ys l q b d
again_bin R.NotEqual w xs ys l q b d e = then_not (equal_words xs ys) l (again_equal_words xs ys l q b d) (equal_words_run xs ys l q b d e.1)
again_bin R.LessU w xs ys l q b d e = again_comparison B.LessThanUnsigned xs ys l q
again_bin R.LessS w xs ys l q b d e = again_comparison B.LessThanSigned xs ys l q
again_bin R.LessEqU w xs ys l q b d e = again_comparison B.LessOrEqualUnsigned xs ys l q
again_bin R.LessEqS w xs ys l q b d e = again_comparison B.LessOrEqualSigned xs ys l q
again_bin R.GreaterU w xs ys l q b d e = again_comparison B.LessThanUnsigned ys xs l q
again_bin R.GreaterS w xs ys l q b d e = again_comparison B.LessThanSigned ys xs l q
again_bin R.GreaterEqU w xs ys l q b d e = again_comparison B.LessOrEqualUnsigned ys xs l q
again_bin R.GreaterEqS w xs ys l q b d e = again_comparison B.LessOrEqualSigned ys xs l q
again_bin R.ShiftL w xs ys l q b d e = again_shift LeftS xs ys l d
again_bin R.ShiftR w xs ys l q b d e = again_shift RightS xs ys l d
again_bin R.ShiftA w xs ys l q b d e = again_shift ArithmeticS xs ys l d

pub again_carry : (xs ys : List ℕ) (d : ℕ) (l : Netlist) → Sound l → d < count l → length xs ≡ length ys
    → Again (arithmetic B.Add xs ys (some d)) l
again_carry xs ys d l q bd e = again_arithmetic B.Add xs ys (some d) l q bd (sym e)

pub again_resized : (n : Option ℕ) (w : ℕ) (f : Netlist → Made (List ℕ)) (l : Netlist) → Again f l → Again (λ l'. resized n w (f l')) l
again_resized none w f l a = a
again_resized (some k) w f l a =
    again_bind f (λ ns l₁. and_then (add_constant false l₁) (λ (z, l₂). done (ns ++ replicate (w - length ns) z, l₂))) l a (λ ns l₁ e s.
    again_bind (add_constant false) (λ z l₂. done (ns ++ replicate (w - length ns) z, l₂)) l₁ (again_constant false l₁) (λ z l₂ e' s'. again_here (ns ++ replicate (w - length ns) z) l₂))
