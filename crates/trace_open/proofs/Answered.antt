-- The answer as the code makes it: the tables if there are any. Assumes nothing.
use Rattle.std.specs.Prelude.{ℕ, ◌≡◌, true, List, Option, Some, None, MatchOption}
use Rattle.std.specs.Option.{ok_or}
use Rattle.spec_tests.specs.Rules.{Fine}
use Rattle.spec_trace.specs.Opened.{opened, unfit}
use Rattle.trace_line.specs.declared.Tables.{Tables}
use Rattle.trace_image.specs.declared.Refusal.TheVariants as R
use Rattle.trace_tables.specs.Bundles.{ReadyAs}
use Rattle.trace_open.specs.Opens.{Opens, fit_opens, unfit_opens}

pub opened_by : (ws : List ℕ) (p : Option Tables) → Fine ≡ opened 1024 2048 ws → MatchOption p (unfit 65536 ws ≡ true) (λ t. ReadyAs ws t) → Opens ws (ok_or p R.Unfit)
opened_by ws (Some t) e m = fit_opens t e m
opened_by ws None e m = unfit_opens e m
