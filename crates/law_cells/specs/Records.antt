-- The records of cells, read back. Assumes nothing.
use Rattle.std.specs.Prelude.{◌≡◌, refl, List, [], ◌∷◌, ◌++◌, ℕ, ◌+◌, ◌*◌, ◌<◌, drop, get_or}
use Rattle.std.proofs.Common.{sym, ap, ◌∙◌, append_assoc, arith, length-append, take_at, drop_at, get_or-drop}
use Rattle.std.proofs.Math.Option.{Option, none, some}
use Rattle.std.proofs.Math.ListN.{length, take}
use Rattle.std.proofs.Math.Seq.{drop-drop}
use Rattle.spec_tests.specs.Rules.{◌≡?◌, pick}
use Rattle.spec_tests.specs.Laws.{eq_no}
use Rattle.spec_rules.specs.Image.{optional}
use Rattle.spec_rules.specs.NetlistImage as N
use Rattle.spec_rules.specs.NetlistImage.{arithmetic_of, comparison_of}
use Rattle.spec_model.specs.Words.{absent, option_word, arithmetic_key, comparison_key}
use Rattle.spec_model.specs.Builder.{ArithmeticOp, Add, Subtract, Multiply, ComparisonOp, LessThanUnsigned, LessOrEqualUnsigned, LessThanSigned, LessOrEqualSigned, arithmetic_word, comparison_word}
use Rattle.law_nets.specs.Sound.{CarryBelow, arithmetic_outputs, comparison_output}

abbrev pub operation_of : ArithmeticOp → N.Operation
operation_of Add = N.Add
operation_of Subtract = N.Subtract
operation_of Multiply = N.Multiply

abbrev pub relation_of : ComparisonOp → N.Relation
relation_of LessThanUnsigned = N.LessU
relation_of LessOrEqualUnsigned = N.LessEqU
relation_of LessThanSigned = N.LessS
relation_of LessOrEqualSigned = N.LessEqS

pub operation_word : (op : ArithmeticOp) → arithmetic_word op < 3
operation_word Add = omega arith
operation_word Subtract = omega arith
operation_word Multiply = omega arith

pub relation_word : (op : ComparisonOp) → comparison_word op < 4
relation_word LessThanUnsigned = omega arith
relation_word LessOrEqualUnsigned = omega arith
relation_word LessThanSigned = omega arith
relation_word LessOrEqualSigned = omega arith

operation_is : (op : ArithmeticOp) → get_or (N.Add ∷ N.Subtract ∷ N.Multiply ∷ []) (arithmetic_word op) N.Add ≡ operation_of op
operation_is Add = refl
operation_is Subtract = refl
operation_is Multiply = refl

relation_is : (op : ComparisonOp) → get_or (N.LessU ∷ N.LessEqU ∷ N.LessS ∷ N.LessEqS ∷ []) (comparison_word op) N.LessU ≡ relation_of op
relation_is LessThanUnsigned = refl
relation_is LessOrEqualUnsigned = refl
relation_is LessThanSigned = refl
relation_is LessOrEqualSigned = refl

carry_is : (o : Option ℕ) → CarryBelow absent o → optional (option_word o) (option_word o) ≡ o
unfolding optional pick ◌≡?◌
carry_is none b = refl
carry_is (some n) b = rw (eq_no n absent (omega arith))

-- two lists of one length before a third
module _ (lhs rhs ns : List ℕ) (same : length rhs ≡ length lhs) where
  left : take (length lhs) ((lhs ++ rhs) ++ ns) ≡ lhs
  left = rw append_assoc (take_at lhs (rhs ++ ns) (length lhs) refl)

  right : take (length lhs) (drop (length lhs) ((lhs ++ rhs) ++ ns)) ≡ rhs
  right = rw (append_assoc, drop_at lhs (rhs ++ ns) (length lhs) refl) (take_at rhs ns (length lhs) same)

  rest : drop (2 * length lhs) ((lhs ++ rhs) ++ ns) ≡ ns
  rest = drop_at (lhs ++ rhs) ns (2 * length lhs) (rw length-append (omega arith))

  long : length ((lhs ++ rhs) ++ ns) ≡ 2 * length lhs + length ns
  long = simp length-append (omega arith)

  module _ (op : ArithmeticOp) (carry : Option ℕ) where
    abbrev pub arithmetic_words : List ℕ
    arithmetic_words = arithmetic_key (arithmetic_word op) lhs rhs carry ++ ns

    pub arithmetic_of_law : CarryBelow absent carry → arithmetic_of arithmetic_words ≡ record { operation = operation_of op; carry = carry; lhs = lhs; rhs = rhs }
    unfolding arithmetic_of
    arithmetic_of_law b =
        let q : take (length lhs) (drop (4 + length lhs) arithmetic_words) ≡ rhs = rw (← drop-drop (length lhs) 4 arithmetic_words) right in
        λ i. record { operation = operation_is op i; carry = carry_is carry b i; lhs = left i; rhs = q i }

    pub arithmetic_outputs_law : arithmetic_outputs arithmetic_words ≡ ns
    arithmetic_outputs_law = sym (drop-drop (2 * length lhs) 4 arithmetic_words) ∙ rest

    pub arithmetic_length : length arithmetic_words ≡ 4 + (2 * length lhs + length ns)
    arithmetic_length = omega (arith, long)

  module _ (op : ComparisonOp) where
    abbrev pub comparison_words : List ℕ
    comparison_words = comparison_key (comparison_word op) lhs rhs ++ ns

    pub comparison_of_law : comparison_of comparison_words ≡ record { relation = relation_of op; lhs = lhs; rhs = rhs }
    unfolding comparison_of
    comparison_of_law =
        let q : take (length lhs) (drop (3 + length lhs) comparison_words) ≡ rhs = rw (← drop-drop (length lhs) 3 comparison_words) right in
        λ i. record { relation = relation_is op i; lhs = left i; rhs = q i }

    pub comparison_output_law : comparison_output comparison_words ≡ get_or ns 0 absent
    comparison_output_law =
        sym (get_or-drop 3 comparison_words (2 * length lhs) absent) ∙ ap (λ (k : ℕ). get_or ((lhs ++ rhs) ++ ns) k absent) {x = 2 * length lhs} {y = 2 * length lhs + 0} (omega arith)
        ∙ sym (get_or-drop (2 * length lhs) ((lhs ++ rhs) ++ ns) 0 absent) ∙ ap (λ (t : List ℕ). get_or t 0 absent) rest

    pub comparison_length : length comparison_words ≡ 3 + (2 * length lhs + length ns)
    comparison_length = omega (arith, long)
