-- A cell's single output at the front of a list. Assumes nothing.
use mathlib.Core.Path.{◌≡◌, refl, ◌∙◌}
use mathlib.Core.List.{List, [], ◌∷◌}
use Prim.Native.Nat.{ℕ, ◌<◌}
use native.Mathlib.Omega.{arith}
use lib.ListN.{length, set, take}
use lib.Seq.{take_all}
use Rattle.spec_model.specs.Words.{Netlist}
use Rattle.spec_model.specs.Builder.{done, Made, from}
use Rattle.net_view.specs.View.{netlist_of}
use Rattle.net_nodes.specs.declared.Full.{Full}
use Rattle.net_nodes.specs.declared.Full.TheVariants.{Nets, List as ListFull}
use Rattle.std.specs.Prelude.{Result, Ok, Err}
use Rattle.net_ports.specs.Runs.{run_of}
use Rattle.net_fold.specs.Values.{filled_of, Fills}
use Rattle.net_cells.specs.Cells.{GivesRun}

one_net : (k : ℕ) (xs : List ℕ) → 0 < length xs → from k 1 ≡ take 1 (set xs 0 k)
unfolding from
one_net k [] h = absurd (omega arith)
one_net k (x ∷ xs) h = refl

refused : (e : Full) (b : ℕ) (ns : List ℕ) (l : Netlist) → run_of (Err e) b l ≡ filled_of (Err e) ns l
refused Nets b ns l = refl
refused ListFull b ns l = refl

module _ (m : Made (List ℕ)) (n : ℕ) (w idx : List ℕ) where
  pub made_done : (k : ℕ) (xs : List ℕ) → 0 < length xs → GivesRun m n 1 (Ok k) w idx → Fills m n (Ok tt) (take 1 (set xs 0 k)) w idx
  made_done k xs h g = record { says = g.says ∙ λ j. done (one_net k xs h j, netlist_of n w); held = g.held }

  pub made_out : (e : Full) (b : ℕ) (ns : List ℕ) → GivesRun m n b (Err e) w idx → Fills m n (Err e) ns w idx
  made_out e b ns g = record { says = g.says ∙ refused e b ns (netlist_of n w); held = g.held }

-- a list that keeps its length is its own front
pub whole : (m : Made (List ℕ)) (n : ℕ) (r : Result (Unit {0}) Full) (xs ns w idx : List ℕ) → length ns ≡ length xs → Fills m n r ns w idx → Fills m n r (take (length xs) ns) w idx
whole m n r xs ns w idx e g = rw (take_all (length xs) ns (omega arith)) g
