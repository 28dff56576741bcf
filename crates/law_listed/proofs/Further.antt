-- What is proved of specs/Further: Words that follow an image do not matter: those of a listed netlist are accepted, and read as the netlist, with any behind them. Assumes
-- nothing.
use Rattle.std.specs.Prelude.{ℕ, ◌≤◌, ◌<◌, ◌≡◌, List, ◌++◌}
use Rattle.spec_tests.specs.Rules.{Fine}
use Rattle.spec_model.specs.Words.{Netlist, words}
use Rattle.net_view.specs.View.{Fit}
use Rattle.law_nets.specs.Sound.{Sound}
use Rattle.spec_netlist.specs.Accept.{accepts}
use Rattle.spec_netlist.specs.Given.{Same}
use Rattle.law_told.specs.Behind.{accepted_behind}
use Rattle.law_written.specs.Written.{same}
use Rattle.law_listed.specs.Listed.{Listed}
use Rattle.law_listed.proofs.Fits.{listed_accepted}
use Rattle.law_listed.specs.Further.{same_behind}

module _ (n p : ℕ) (l : Netlist) (f : Fit n p l) (place : ℕ → ℕ → ℕ → ℕ) (q : Sound l) (g : Listed l place) (some : 0 < n) (few : n ≤ 65535) (short : p ≤ 65535) (rest : List ℕ) where
  pub same_further : Same (words n p l ++ rest) l
  same_further = same_behind (words n p l) rest (listed_accepted n p l f place q g some few short) l (same n p l f)

  pub further_accepted : accepts (words n p l ++ rest) ≡ Fine
  further_accepted = accepted_behind (words n p l) rest (listed_accepted n p l f place q g some few short)
