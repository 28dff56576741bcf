-- `stored_marks::fits` meets its contract. Assumes nothing.
use mathlib.Core.Path.{sym, ap, ◌∙◌}
use mathlib.Core.Bool.{not}
use Prim.Native.Nat.{ℕ}
use native.Mathlib.Omega.{arith}
use lib.ListN.{length}
use Rattle.spec_tests.specs.Rules.{◌<?◌}
use Rattle.stored_marks.specs.Fit.{fits_sort, fits_ports, fits_other}
use Rattle.stored_marks.proofs.fits.Goals as goal

pub returns-then-sort-gt-COMPARISON_RECORD : goal.returns-then-sort-gt-COMPARISON_RECORD
returns-then-sort-gt-COMPARISON_RECORD c = fits_sort c.args.l.now (omega (arith, c.word_at-sort.ensures))

pub returns-then-sort-eq-MEMORY_RECORD : goal.returns-then-sort-eq-MEMORY_RECORD
returns-then-sort-eq-MEMORY_RECORD c = fits_ports c.args.l.now (sym c.word_at-sort.ensures ∙ c.if-sort-eq-MEMORY_RECORD.true) c.ports_fit.ensures

pub returns : goal.returns
unfolding ◌<?◌
returns c = fits_other c.args.l.now (omega (arith, c.word_at-sort.ensures)) (λ e. c.if-sort-eq-MEMORY_RECORD.false (c.word_at-sort.ensures ∙ e)) (ap (λ (k : ℕ). not (length c.args.l.now <? k)) c.record_length.ensures)
