-- The rest of a narrowed result: the two ways. Assumes nothing.
use mathlib.Core.Path.{◌≡◌, sym, ap, ◌∙◌}
use mathlib.Core.Bool.{false}
use mathlib.Core.List.{List, ◌++◌}
use Prim.Native.Nat.{ℕ, ◌-◌, ◌≤◌}
use lib.ListN.{length, take, replicate}
use lib.Seq.{length-take-le}
use Rattle.std.specs.Prelude.{Ok, Err}
use Rattle.spec_model.specs.Words.{Netlist}
use Rattle.spec_model.specs.Builder.{Made, done, and_then, add_constant}
use Rattle.net_view.specs.View.{netlist_of}
use Rattle.net_nodes.specs.Gives.{Gives}
use Rattle.net_nodes.specs.declared.Full.{Full}
use Rattle.net_nodes.specs.declared.Full.TheVariants.{Nets, List as ListFull}
use Rattle.net_fold.specs.Values.{Fills}
use Rattle.walk_job_parts.specs.Widths.{extended}

module _ (w m : ℕ) (xs : List ℕ) (l : Netlist) (n : ℕ) (net idx : List ℕ) where
  pub extend_out : (e : Full) (ms : List ℕ) → Gives (add_constant false l) n (Err e) net idx → Fills (extended w (take m xs) l) n (Err e) ms net idx
  extend_out Nets ms g = record { says = ap (λ (o : Made ℕ). and_then o (λ (z, l₁). done (take m xs ++ replicate (w - length (take m xs)) z, l₁))) g.says; held = g.held }
  extend_out ListFull ms g = record { says = ap (λ (o : Made ℕ). and_then o (λ (z, l₁). done (take m xs ++ replicate (w - length (take m xs)) z, l₁))) g.says; held = g.held }

  pub extend_done : (z : ℕ) (ms : List ℕ) → m ≤ length xs → Gives (add_constant false l) n (Ok z) net idx → ms ≡ take m xs ++ replicate (w - m) z
      → Fills (extended w (take m xs) l) n (Ok tt) ms net idx
  extend_done z ms h g e =
      let k = length-take-le m xs h in
      record {
        says = ap (λ (o : Made ℕ). and_then o (λ (z, l₁). done (take m xs ++ replicate (w - length (take m xs)) z, l₁))) g.says
            ∙ λ i. done ((ap (λ (j : ℕ). take m xs ++ replicate (w - j) z) k ∙ sym e) i, netlist_of n net);
        held = g.held;
      }
