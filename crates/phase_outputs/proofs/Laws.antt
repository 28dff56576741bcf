-- What each way through the functions gives, from what their calls give. Assumes nothing.
use mathlib.Core.Path.{◌≡◌, refl, sym, ap, ◌∙◌, subst}
use mathlib.Core.Bool.{false}
use mathlib.Core.List.{List}
use Prim.Native.Nat.{ℕ, zero, suc, ◌+◌, ◌≤◌}
use native.Mathlib.Omega.{arith}
use lib.ListN.{length, take, replicate}
use lib.Seq.{paste, take-paste, take_all}
use Rattle.spec_rtl.specs.Rtl as R
use Rattle.spec_tests.specs.Rules.{each, list_of}
use Rattle.spec_rules.specs.Image.{count_at_of, signal_width, signal_at, decode}
use Rattle.spec_model.specs.Words.{Netlist}
use Rattle.spec_model.specs.Builder.{done, and_then, Made, add_output_port}
use Rattle.spec_model.specs.Lowering.{State, with_netlist, signal_nets, signal_steps, connect_output, connect_outputs}
use Rattle.net_view.specs.View.{netlist_of}
use Rattle.scratch_view.specs.View.{limit_of}
use Rattle.law_nets.specs.Run.{Meets, Limit}
use Rattle.law_gates.specs.Ports.{OutputPort, output_port_run}
use Rattle.law_walk.specs.Writes.{inv_netlist}
use Rattle.law_walk.specs.Reads.{AllAfter}
use Rattle.law_walk.proofs.ReadsLaws.{read_bits}
use Rattle.image_records.specs.declared.Signal.{Signal}
use Rattle.image_records.specs.declared.Direction.{Direction}
use Rattle.image_records.specs.declared.Direction.TheVariants as D
use Rattle.image_records.specs.Others.{signal_means, direction_means}
use Rattle.std.specs.Prelude.{◌⊎◌, Result, Ok, Err}
use Rattle.std.proofs.Math.Logic.{⊎_elim}
use Rattle.net_nodes.specs.declared.Full.{Full}
use Rattle.net_nodes.specs.declared.Full.TheVariants.{Nets, List as NoRoom}
use Rattle.net_ports.specs.Runs.{run_of, Runs}
use Rattle.walk_view.specs.View.{index_of, walk_state, Ready, Sure, out_of}
use Rattle.walk_view.specs.Refusals.{Lowered, refusal_of}
use Rattle.walk_view.specs.Answers.{not_done}
use Rattle.walk_view.specs.Turns.{in_turn}
use Rattle.phase_parts.specs.Ran.{Ran}
use Rattle.phase_outputs.specs.Outputs.{output_turn, port_turn}

-- what was copied to the front of an array
pub copied : (xs out : List ℕ) (k : ℕ) → k ≤ 1024 → length xs ≡ k → out ≡ paste (replicate 1024 0) 0 xs k → take k out ≡ xs
copied xs out k h e q =
    let z : k ≡ 0 + k = omega arith in
    ap (take k) q ∙ ap (λ (j : ℕ). take j (paste (replicate 1024 0) 0 xs k)) z ∙ take-paste (replicate 1024 0) 0 xs k (omega arith) (omega arith) ∙ take_all k xs (omega arith)

-- ---- the port ----

module _ (s net w : List ℕ) (p k : ℕ) (r : Ready s net w) (i : Sure s net w) (h : AllAfter false (walk_state s net w) (signal_steps p 0 k)) where
  abbrev nets : List ℕ
  nets = signal_nets (walk_state s net w) p 0 k

  abbrev here : Netlist
  here = netlist_of (limit_of w) net

  module _ (b : ℕ) (net₁ : List ℕ) (long : length net₁ ≡ length net) where
    -- the port's bits are nets, so it is one
    met : Meets Limit (OutputPort p nets here) (add_output_port p nets here)
    met = output_port_run p nets here i.sound (read_bits (decode s) (walk_state s net w) i false p 0 k h).there

    module _ (x : Result ℕ Full) (g : Runs (add_output_port p nets here) (limit_of w) b x net net₁) where
      ran : (y : Lowered) → and_then (run_of x b (netlist_of (limit_of w) net₁)) (λ (ns, l). done (with_netlist (walk_state s net w) l)) ≡ out_of y (walk_state s net₁ w) → (y ≡ Ok tt → Sure s net₁ w)
          → Ran (port_turn p k (walk_state s net w)) s net w y net₁ w
      ran y e u = record {
        says = ap (λ (o : Made (List ℕ)). and_then o (λ (ns, l). done (with_netlist (walk_state s net w) l))) g.says ∙ e;
        ready = record { accepted = r.accepted; laid = r.laid; held = g.held (index_of w) r.held; narrowed = r.narrowed };
        kept = record { net_long = long; long = refl; fixed = refl; fewer = omega arith };
        sure = u;
      }

    pub port_made : (n : ℕ) → Runs (add_output_port p nets here) (limit_of w) b (Ok n) net net₁ → Ran (port_turn p k (walk_state s net w)) s net w (Ok tt) net₁ w
    port_made n g = ran (Ok n) g (Ok tt) refl (λ e. inv_netlist (decode s) (walk_state s net w) (netlist_of (limit_of w) net₁) i (subst (Meets Limit (OutputPort p nets here)) g.says met).later)

    pub no_room : (e : Full) → Runs (add_output_port p nets here) (limit_of w) b (Err e) net net₁ → Ran (port_turn p k (walk_state s net w)) s net w (Err (refusal_of e)) net₁ w
    no_room Nets g = ran (Err Nets) g (Err (refusal_of Nets)) refl (λ q. not_done (Err (refusal_of Nets)) tt q)
    no_room NoRoom g = ran (Err NoRoom) g (Err (refusal_of NoRoom)) refl (λ q. not_done (Err (refusal_of NoRoom)) tt q)

-- ---- a signal by its direction ----

module _ (s : List ℕ) (p : ℕ) (x : Signal) (e : signal_means x ≡ signal_at s p) (st : State) where
  pub width_is : x.width ≡ signal_width s p
  unfolding signal_means signal_at
  width_is = ap (λ (y : R.Sig). y.width) e

  turn_as : output_turn s p st ≡ connect_output (decode s) false (direction_means x.direction) p x.width st
  unfolding signal_means
  turn_as = sym (ap (λ (y : R.Sig). connect_output (decode s) false y.dir p y.width st) e)

  by_direction : (d : Direction) → x.direction ≡ d → output_turn s p st ≡ connect_output (decode s) false (direction_means d) p x.width st
  by_direction d q = turn_as ∙ ap (λ (y : Direction). connect_output (decode s) false (direction_means y) p x.width st) q

  pub no_output : (x.direction ≡ D.Internal) ⊎ (x.direction ≡ D.Input) → output_turn s p st ≡ done st
  unfolding direction_means
  no_output q = ⊎_elim (λ e. by_direction D.Internal e) (λ e. by_direction D.Input e) q

  pub output : x.direction ≡ D.Output → output_turn s p st ≡ connect_output (decode s) false R.Output p x.width st
  unfolding direction_means
  output q = by_direction D.Output q

-- ---- all signals ----

outputs_turns : (s : List ℕ) (i n : ℕ) (st : State) → connect_outputs (decode s) false i (each (signal_at s) i n) st ≡ in_turn (output_turn s) i n st
unfolding connect_outputs each in_turn
outputs_turns s i zero st = refl
outputs_turns s i (suc n) st = ap (and_then (output_turn s i st)) (λ j st₁. outputs_turns s (suc i) n st₁ j)

pub all_outputs : (s : List ℕ) (st : State) → connect_outputs (decode s) false 0 (decode s).signals st ≡ in_turn (output_turn s) 0 (count_at_of s 0) st
unfolding decode list_of
all_outputs s st = outputs_turns s 0 (count_at_of s 0) st
