-- `check_names::first_among` meets its contract. The loop's invariant: no record below r has a wrong name, and the remainders of their hashes are seen. Assumes nothing.
use Rattle.std.proofs.Common.{◌≡◌, true, refl, sym, ◌∙◌, arith, rules}
use Rattle.spec_tests.specs.Laws.{begins, passed, found, ended, or_hit, or_skip}
use Rattle.spec_tests.specs.Options.{first_some, first_none}
use Rattle.check_names.specs.Names.{wrong_name, seen_none, hashed_less}
use Rattle.check_names.proofs.first_among.Goals as goal
use Rattle.check_names.proofs.first_among.Goals.{then-bad_name-via-then-bad_name, then-bad_name-via-else-bad_name+then-name_seen}

pub loop-r-init : goal.loop-r-init
loop-r-init c = (omega arith, begins _ _, seen_none _ _ _, refl)

pub name_seen-requires : goal.name_seen-requires
name_seen-requires c = (omega arith, hashed_less _ _ _ _ _ (omega arith) c.lay_hashes.ensures, omega arith, c.loop-r.invariant.2)

pub returns-then-bad_name : goal.returns-then-bad_name
unfolding wrong_name
returns-then-bad_name c =
    let wrong : wrong_name c.args.image.now c.args.k c.loop-r.r ≡ true = elim c.then-bad_name.branch [
      | then-bad_name-via-then-bad_name w ↦ sym (or_hit _ (sym c.bad_name.ensures ∙ w.if-bad_name.true))
      | then-bad_name-via-else-bad_name+then-name_seen w ↦ sym (or_skip (sym c.bad_name.ensures ∙ w.if-bad_name.false) (sym w.if-name_seen.true ∙ w.name_seen.ensures.0))
    ] in
    sym (first_some _ _ _ (omega arith) (found _ _ _ (omega arith) c.loop-r.invariant.1 wrong))

pub loop-r-preserved : goal.loop-r-preserved
unfolding wrong_name
loop-r-preserved c = (
  omega arith,
  c.loop-r.invariant.1 ∙ passed _ _ _ (omega arith) (sym (or_skip (sym c.bad_name.ensures ∙ c.if-bad_name.false) (sym c.if-name_seen.false ∙ c.name_seen.ensures.0))),
  c.name_seen.ensures.1,
  search rules,
)

pub returns : goal.returns
returns c = sym (first_none _ _ (ended _ _ _ (omega arith) (omega arith) c.loop-r.invariant.1))
