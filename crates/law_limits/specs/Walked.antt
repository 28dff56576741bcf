-- What the walk comes to under limits. Assumes nothing.
use Rattle.std.specs.Prelude.{◌≡◌, Bool, ℕ, ◌+◌}
use Rattle.std.proofs.Math.Path.{refl, ap}
use Rattle.std.proofs.Common.{ap₂}
use Rattle.std.proofs.Math.Bool.{true, false}
use mathlib.Core.List.{List, [], ◌∷◌, ◌++◌}
use Rattle.std.proofs.Math.Option.{Option, none, some}
use Rattle.std.proofs.Math.ListN.{get_or}
use Rattle.spec_model.specs.Words.{absent}
use Rattle.spec_model.specs.Builder.{node_for_net, constant_value}
use Rattle.spec_model.specs.Lowering.{State, Piece, whole, whole_nets, whole_net, range_by, range_nets, selected, driven_net, part_nets, piece_nets}
use Rattle.law_limits.specs.Bounds.{limited_state}

-- ---- what is read of a state does not go by the limits ----

module _ (N P : ℕ) (st : State) where
  pub range_alike : (e lsb w : ℕ) → range_nets (limited_state N P st) e lsb w ≡ range_nets st e lsb w
  unfolding range_nets whole
  range_alike e lsb w = go (whole st e)
    where
      go : (o : Option (List ℕ)) → range_by o (limited_state N P st) e lsb w ≡ range_by o st e lsb w
      go none = refl
      go (some ns) = refl

  pub parts_alike : (ps : List ℕ) → part_nets (limited_state N P st) ps ≡ part_nets st ps
  unfolding whole_nets whole
  parts_alike [] = refl
  parts_alike (p ∷ ps) = ap (λ ns. ns ++ whole_nets st p) (parts_alike ps)

  pub pieces_alike : (ps : List Piece) → piece_nets (limited_state N P st) ps ≡ piece_nets st ps
  pieces_alike [] = refl
  pieces_alike (p ∷ ps) = ap₂ ◌++◌ (range_alike p.part p.lsb p.width) (pieces_alike ps)

  pub selected_alike : (ob : Bool) (c : ℕ) → selected ob (limited_state N P st) c ≡ selected ob st c
  unfolding whole_net whole_nets whole constant_value node_for_net
  selected_alike false c = refl
  selected_alike true c = refl

  pub driven_alike : (ob : Bool) (e o : ℕ) → driven_net ob (limited_state N P st) e o ≡ driven_net ob st e o
  unfolding whole_net whole_nets whole
  driven_alike false e o = refl
  driven_alike true e o = ap (λ ns. get_or ns 0 absent) (range_alike e o 1)
