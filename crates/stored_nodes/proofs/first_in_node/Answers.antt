-- `stored_nodes::first_in_node` meets its contract. Assumes nothing.
use mathlib.Core.Path.{refl, sym, ap, ◌∙◌}
use Rattle.spec_tests.specs.Options.{first_some}
use Rattle.spec_tests.specs.Laws.{begins}
use Rattle.stored_view.specs.Found.{below, first_of_below}
use Rattle.std.proofs.Common.{true≢false}
use native.Mathlib.Omega.{arith}
use Rattle.stored_view.specs.Opened.{node_at}
use Rattle.stored_nodes.specs.Words.{node_kind, first_0, first_1, first_2, first_rest}
use Rattle.stored_nodes.proofs.first_in_node.Goals as goal

pub returns-then-k-gt-COMPARISON_OUTPUT : goal.returns-then-k-gt-COMPARISON_OUTPUT
returns-then-k-gt-COMPARISON_OUTPUT c =
    (sym (first_some _ 6 0 (omega arith) (sym (first_0 c.requires.0 _ c.requires.1 c.if-k-gt-COMPARISON_OUTPUT.true))), λ h. absurd (true≢false h))

pub returns-then-wrong_owner : goal.returns-then-wrong_owner
returns-then-wrong_owner c =
    (sym (first_some _ 6 1 (omega arith) (sym (first_1 c.requires.0 _ c.requires.1 c.if-k-gt-COMPARISON_OUTPUT.false c.wrong_owner.ensures c.if-wrong_owner.true))), λ h. absurd (true≢false h))

pub wrong_bit-requires : goal.wrong_bit-requires
wrong_bit-requires c =
    (c.requires.0, c.requires.1, sym (node_kind c.requires.0 _), sym (node_at c.requires.0 _ 2), omega arith, c.requires.2, c.requires.3)

pub returns-then-wrong_bit : goal.returns-then-wrong_bit
returns-then-wrong_bit c =
    (sym (first_some _ 6 2 (omega arith) (sym (first_2 c.requires.0 _ c.requires.1 c.if-k-gt-COMPARISON_OUTPUT.false c.wrong_owner.ensures c.if-wrong_owner.false c.wrong_bit.ensures.0 c.if-wrong_bit.true))), λ h. absurd (true≢false h))

pub first_input-requires : goal.first_input-requires
first_input-requires c =
    (c.requires.0, c.requires.1, omega (arith, node_kind c.requires.0 c.args.n, c.if-k-gt-COMPARISON_OUTPUT.false))

pub returns : goal.returns
returns c = (
  c.first_input.ensures
      ∙ (ap (below 6) (first_rest c.requires.0 _ c.requires.1 c.if-k-gt-COMPARISON_OUTPUT.false c.wrong_owner.ensures c.if-wrong_owner.false c.wrong_bit.ensures.0 c.if-wrong_bit.false refl ∙ begins _ 6)
      ∙ sym (first_of_below _ 6)),
  λ h. c.wrong_bit.ensures.1 c.if-wrong_bit.false,
)
