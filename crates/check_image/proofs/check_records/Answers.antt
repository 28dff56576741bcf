-- `check_image::check_records` meets its contract. Each section that is passed is fine; their width sums bound the bits. Assumes nothing.
use Rattle.std.proofs.Common.{arith}
use Rattle.check_image.specs.Checked.{records_then, then_fine, then_refused, section_bad, section_fine, all_good}
use Rattle.check_image.specs.Accepted.{signals_fit, expr_bits_law}
use Rattle.check_image.proofs.check_records.Goals as goal

pub returns-in-Some : goal.returns-in-Some
unfolding records_then
returns-in-Some c = then_refused _ 4 0 _ (section_bad _ 0 _ _ c.in-Some.ensures)

pub returns-in-Some-first_expr : goal.returns-in-Some-first_expr
unfolding records_then
returns-in-Some-first_expr c = then_fine (section_fine _ 0 _ c.in_default.ensures) (then_refused _ 4 1 _ (section_bad _ 1 _ _ c.in-Some-first_expr.ensures))

pub check_drivers-requires : goal.check_drivers-requires
check_drivers-requires c = (
  c.requires,
  signals_fit _ (all_good _ 0 _ c.in_default.ensures),
  expr_bits_law _ (all_good _ 1 _ c.in_default-first_expr.ensures),
  omega arith,
  omega arith,
)

pub check_drivers-requires-else-count-le32 : goal.check_drivers-requires-else-count-le32
check_drivers-requires-else-count-le32 c = (
  c.requires,
  signals_fit _ (all_good _ 0 _ c.in_default.ensures),
  expr_bits_law _ (all_good _ 1 _ c.in_default-first_expr.ensures),
  omega arith,
  omega arith,
)

pub returns-then-count-le32 : goal.returns-then-count-le32
unfolding records_then
returns-then-count-le32 c = then_fine (section_fine _ 0 _ c.in_default.ensures) (then_fine (section_fine _ 1 _ c.in_default-first_expr.ensures) c.check_drivers.ensures)

pub returns-else-count-le32 : goal.returns-else-count-le32
unfolding records_then
returns-else-count-le32 c =
    then_fine (section_fine _ 0 _ c.in_default.ensures) (then_fine (section_fine _ 1 _ c.in_default-first_expr.ensures) c.check_drivers-else-count-le32.ensures)
