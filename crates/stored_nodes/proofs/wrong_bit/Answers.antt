-- `stored_nodes::wrong_bit` meets its contract. Assumes nothing.
use Prim.Native.Nat.{◌+◌, ◌*◌}
use mathlib.Core.Bool.{true≢false}
use mathlib.Core.Path.{refl, sym, ap, ◌∙◌}
use native.Mathlib.Omega.{arith}
use Rattle.spec_tests.specs.Laws.{pick_hit, pick_skip, or_hit, or_skip, lt_yes, lt_no, ne_same}
use Rattle.spec_netlist.specs.Accept.{belongs, wrong_bit, most_bit}
use Rattle.stored_nodes.specs.Lookup.{in_range, skipped}
use Rattle.stored_nodes.proofs.wrong_bit.Goals as goal

pub returns-then-k-b : goal.returns-then-k-b
unfolding wrong_bit most_bit
returns-then-k-b c = (pick_hit _ (sym c.is_owned.ensures ∙ c.if-is_owned.true) (or_hit _ (lt_yes _ _ c.if-k-b.true)), λ e. absurd (true≢false e))

pub is_again-requires : goal.is_again-requires
unfolding most_bit
is_again-requires c =
    let word = c.shared_slice_known-1.given (16 + 6 * c.args.n + 1) in
    (c.requires.0, c.requires.1, in_range c.requires.0 c.requires.2 c.requires.4 c.requires.3 c.if-k-b.false (omega (arith, word)) (sym c.is_owned.ensures ∙ c.if-is_owned.true), c.requires.5, c.requires.6)

pub returns-then-is_owned : goal.returns-then-is_owned
unfolding wrong_bit most_bit
returns-then-is_owned c =
    let call = c.is_again in
    (pick_hit _ (sym c.is_owned.ensures ∙ c.if-is_owned.true) (or_skip (lt_no _ _ c.if-k-b.false) call.ensures.0), call.ensures.1)

pub returns : goal.returns
unfolding wrong_bit
returns c =
    let other = sym c.is_owned.ensures ∙ c.if-is_owned.false in
    (pick_skip _ other (ne_same refl refl), λ e. skipped _ _ _ (sym (ap belongs c.requires.2) ∙ other) c.requires.6)
