-- The words of a bit's net and of a control, and what pushing a record gives. Assumes nothing.
use mathlib.Core.Path.{◌≡◌, refl, ap, ◌∙◌, subst}
use Rattle.std.specs.Prelude as code
use Rattle.std.specs.Option.{unwrap_or}
use Rattle.std.specs.Prelude.{Result, Ok, Err}
use Rattle.std.specs.Result.{result_or}
use mathlib.Core.Bool.{false}
use mathlib.Core.List.{List, [], ◌∷◌}
use Prim.Native.Nat.{ℕ, ◌<◌}
use native.Mathlib.Omega.{arith}
use borrow.Author.Tests.{ne_eqb}
use lib.ListN.{length, get_or}
use Rattle.spec_tests.specs.Options.{option_of}
use Rattle.spec_rules.specs.Image.{decode}
use Rattle.spec_model.specs.Words.{Netlist, absent, low_word, control_words}
use Rattle.spec_model.specs.Builder.{Out, done, and_then}
use Rattle.spec_model.specs.Lowering.{State, with_netlist, net_of, signal_bit, signal_net, option_control, push_record}
use Rattle.net_view.specs.View.{Formed}
use Rattle.net_index.specs.Index.{is_cell, Held}
use Rattle.law_nets.specs.Run.{Meets}
use Rattle.scratch_view.specs.View.{limit_of}
use Rattle.law_walk.specs.Kept.{Any, Inv}
use Rattle.law_walk.specs.Writes.{inv_netlist}
use Rattle.law_phases.specs.Pushed.{pushed}
use Rattle.net_records.specs.Pushes.{Pushes}
use Rattle.image_records.specs.declared.Control.{Control}
use Rattle.image_records.specs.Others.{control_means, enable_means}
use Rattle.walk_view.specs.View.{index_of, walk_state, Ready, Sure, out_of}
use Rattle.walk_view.specs.Refusals.{Lowered}
use Rattle.walk_view.specs.declared.Refusal.TheVariants.{ListFull as Full}
use Rattle.net_records.specs.declared.ListFull.{ListFull}
use Rattle.walk_view.specs.Answers.{not_done}
use Rattle.phase_parts.specs.Ran.{Ran}

-- ---- nets of bits ----

net_or : (o : code.Option ℕ) → unwrap_or o absent ≡ net_of (option_of o)
net_or code.None = refl
net_or (code.Some n) = refl

pub net_is : (st : State) (p b : ℕ) (o : code.Option ℕ) → option_of o ≡ signal_bit st p b → unwrap_or o absent ≡ signal_net st p b
unfolding signal_net
net_is st p b o e = net_or o ∙ ap net_of e

-- ---- a control ----

module _ (st : State) (e : code.Option Control) where
  pub control_absent : e ≡ code.None → control_words (option_control st (enable_means e)) ≡ absent ∷ 0 ∷ []
  unfolding enable_means
  control_absent q = rw q

  pub control_present : (c : Control) (n v : ℕ) → e ≡ code.Some c → n ≡ signal_net st c.signal 0 → v ≡ low_word c.level
      → control_words (option_control st (enable_means e)) ≡ n ∷ v ∷ []
  unfolding enable_means control_means
  control_present c n v q a b = rw (q, a, b)

-- ---- a record ----

no_cell : (r : List ℕ) → 0 < length r → get_or r 0 0 < 3 → is_cell r ≡ false
unfolding is_cell
no_cell [] h k = absurd (omega arith)
no_cell (x ∷ xs) h k = rw (ne_eqb x 3 (λ e. omega arith), ne_eqb x 4 (λ e. omega arith))

module _ (s net w r net₁ : List ℕ) (y : Ready s net w) (i : Sure s net w) (f : Formed r) (lo : 0 < get_or r 0 0) (hi : get_or r 0 0 < 3) (long : length net₁ ≡ length net) where
  ran : (x : Lowered) → push_record r (walk_state s net w) ≡ out_of x (walk_state s net₁ w) → ((idx : List ℕ) → Held (limit_of w) net idx → Held (limit_of w) net₁ idx)
      → (Meets Any (Inv (decode s)) (out_of x (walk_state s net₁ w)) → x ≡ Ok tt → Sure s net₁ w) → Ran (push_record r (walk_state s net w)) s net w x net₁ w
  ran x e h m = record {
    says = e;
    ready = record { accepted = y.accepted; laid = y.laid; held = h (index_of w) y.held; narrowed = y.narrowed };
    kept = record { net_long = long; long = refl; fixed = refl; fewer = omega arith };
    sure = m (subst (Meets Any (Inv (decode s))) e
        (pushed (Inv (decode s)) r (walk_state s net w) i.sound f lo hi (λ l. inv_netlist (decode s) (walk_state s net w) _ i l)));
  }

  pub pushed_ran : (a : Result (Unit {0}) ListFull) → Pushes r (limit_of w) a net net₁ → Ran (push_record r (walk_state s net w)) s net w (result_or a (Err Full)) net₁ w
  pushed_ran (Ok u) g = ran (Ok u) (ap (λ (o : Out Netlist). and_then o (λ l. done (with_netlist (walk_state s net w) l))) g.says) (g.held (no_cell r f.some hi)) (λ m e. m)
  pushed_ran (Err e) g = ran (Err Full) (ap (λ (o : Out Netlist). and_then o (λ l. done (with_netlist (walk_state s net w) l))) g.says) (g.held (no_cell r f.some hi)) (λ m q. not_done (Err Full) tt q)
