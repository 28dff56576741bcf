-- `stored_memories::first_in_port` meets its contract. Assumes nothing.
use Rattle.std.proofs.Common.{refl, true≢false, arith, []}
use Rattle.stored_view.specs.Found.{some_below}
use Rattle.stored_memories.specs.Ports.{within, stretch_within, widths_found, widths_clean, address_found, address_clean, read_found, read_clean, write_found, write_clean}
use Rattle.stored_memories.proofs.first_in_port.Goals as goal

pub returns-in-Some : goal.returns-in-Some
returns-in-Some c = (
  λ earlier m. widths_found _ _ _ _ _ _ (c.in-Some.ensures.0 _ earlier _ _),
  λ h. absurd (true≢false h),
  omega (arith, (some_below (c.in-Some.ensures.0 [] [] 0 0)).0),
)

pub returns-in-Some-first_no_net : goal.returns-in-Some-first_no_net
returns-in-Some-first_no_net c = (
  λ earlier m.
      widths_clean _ _ _ _ _ _ (c.in_default.ensures.0 _ earlier _ _)
      (address_found _ _ _ _ _ _ c.requires.2 c.in-Some-first_no_net.ensures),
  λ h. absurd (true≢false h),
  omega (arith, stretch_within _ c.args.p.now _ _ (omega arith) (omega arith) c.in-Some-first_no_net.ensures),
)

pub returns-in-Some-first_not_own : goal.returns-in-Some-first_not_own
returns-in-Some-first_not_own c = (
  λ earlier m.
      widths_clean _ _ _ _ _ _ (c.in_default.ensures.0 _ earlier _ _)
      (address_clean _ _ _ _ _ _ c.requires.2 c.in_default-first_no_net.ensures
      (read_found _ _ _ _ _ _ c.requires.2 (c.in-Some-first_not_own.ensures.0 earlier m))),
  λ h. absurd (true≢false h),
  omega (arith, c.in-Some-first_not_own.ensures.1),
)

pub returns-in-Some-first_no_net-2 : goal.returns-in-Some-first_no_net-2
returns-in-Some-first_no_net-2 c = (
  λ earlier m.
      widths_clean _ _ _ _ _ _ (c.in_default.ensures.0 _ earlier _ _)
      (address_clean _ _ _ _ _ _ c.requires.2 c.in_default-first_no_net.ensures
      (read_clean _ _ _ _ _ _ c.requires.2 (c.in_default-first_not_own.ensures.0 earlier m)
      (write_found _ _ _ _ _ _ c.requires.2 c.in-Some-first_no_net-2.ensures))),
  λ h. absurd (true≢false h),
  omega (arith, stretch_within _ c.args.p.now _ _ (omega arith) (omega arith) c.in-Some-first_no_net-2.ensures),
)

pub returns : goal.returns
returns c = (
  λ earlier m.
      widths_clean _ _ _ _ _ _ (c.in_default.ensures.0 _ earlier _ _)
      (address_clean _ _ _ _ _ _ c.requires.2 c.in_default-first_no_net.ensures
      (read_clean _ _ _ _ _ _ c.requires.2 (c.in_default-first_not_own.ensures.0 earlier m)
      (write_clean _ _ _ _ _ _ c.requires.2 c.in_default-first_no_net-2.ensures (c.first_control.ensures earlier _ _ _)))),
  λ h. c.in_default.ensures.1 refl,
  within _ _ (c.first_control.ensures [] 0 0 0) (omega arith),
)
