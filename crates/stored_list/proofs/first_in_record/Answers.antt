-- `stored_list::first_in_record` meets its contract. Assumes nothing.
use mathlib.Core.Path.{sym, ◌∙◌}
use native.Mathlib.Omega.{arith}
use Rattle.stored_list.specs.Sorts.{fits_yes, fits_no, fits_told, first_word_found, port_there, register_there, arithmetic_there, comparison_there, port_found, register_found, memory_found, arithmetic_found, comparison_found}
use mathlib.Core.Path.{ap}
use mathlib.Core.Bool.{not}
use Rattle.stored_list.proofs.first_in_record.Goals as goal

pub returns-then-not-fits : goal.returns-then-not-fits
returns-then-not-fits c =
    λ earlier m k. first_word_found _ earlier c.args.l.now (sym c.fits.ensures ∙ fits_no (ap not c.if-not-fits.true))

pub first_in_port-requires : goal.first_in_port-requires
first_in_port-requires c =
    (c.requires.0, c.requires.1, port_there c.args.l.now (sym c.fits.ensures ∙ fits_yes (ap not c.if-not-fits.false)) c.in-0.is, c.requires.3)

pub first_in_register-requires : goal.first_in_register-requires
first_in_register-requires c =
    (c.requires.0, c.requires.1, register_there c.args.l.now (sym c.fits.ensures ∙ fits_yes (ap not c.if-not-fits.false)) c.in-1.is)

pub first_in_memory-requires : goal.first_in_memory-requires
first_in_memory-requires c =
    (c.requires.0, c.requires.1, c.in-2.is, (fits_told c.args.l.now (sym c.fits.ensures ∙ fits_yes (ap not c.if-not-fits.false))).1, c.requires.3)

pub first_in_arithmetic-requires : goal.first_in_arithmetic-requires
first_in_arithmetic-requires c =
    (c.requires.0, c.requires.1, arithmetic_there c.args.l.now (sym c.fits.ensures ∙ fits_yes (ap not c.if-not-fits.false)) c.in-3.is, c.requires.3)

pub first_in_comparison-requires : goal.first_in_comparison-requires
first_in_comparison-requires c = (c.requires.0, c.requires.1, comparison_there c.args.l.now (sym c.fits.ensures ∙ fits_yes (ap not c.if-not-fits.false)) (omega (arith, (fits_told c.args.l.now (sym c.fits.ensures ∙ fits_yes (ap not c.if-not-fits.false))).0)), c.requires.3)

pub returns-in-0 : goal.returns-in-0
returns-in-0 c =
    λ earlier m k. port_found _ earlier c.args.l.now (sym c.fits.ensures ∙ fits_yes (ap not c.if-not-fits.false)) c.in-0.is (c.first_in_port.ensures earlier m)

pub returns-in-1 : goal.returns-in-1
returns-in-1 c =
    λ earlier m k. register_found _ earlier c.args.l.now (sym c.fits.ensures ∙ fits_yes (ap not c.if-not-fits.false)) c.in-1.is (c.first_in_register.ensures earlier m)

pub returns-in-2 : goal.returns-in-2
returns-in-2 c =
    λ earlier m k. memory_found _ earlier c.args.l.now (sym c.fits.ensures ∙ fits_yes (ap not c.if-not-fits.false)) c.in-2.is (c.first_in_memory.ensures earlier m)

pub returns-in-3 : goal.returns-in-3
returns-in-3 c = λ earlier m k. arithmetic_found _ earlier c.args.l.now (sym c.fits.ensures ∙ fits_yes (ap not c.if-not-fits.false)) c.in-3.is (c.first_in_arithmetic.ensures earlier m (k.says 3 (omega arith)))

pub returns-in_default : goal.returns-in_default
returns-in_default c = λ earlier m k. comparison_found _ earlier c.args.l.now (sym c.fits.ensures ∙ fits_yes (ap not c.if-not-fits.false)) (omega (arith, (fits_told c.args.l.now (sym c.fits.ensures ∙ fits_yes (ap not c.if-not-fits.false))).0)) (c.first_in_comparison.ensures earlier m (k.says 4 (omega arith)))
