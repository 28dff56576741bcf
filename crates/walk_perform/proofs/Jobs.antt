-- A task's widths, and the two ways of a job. Assumes nothing.
use mathlib.Core.Path.{◌≡◌, refl}
use mathlib.Core.List.{List}
use Prim.Native.Nat.{ℕ, zero, suc, ◌≤◌}
use native.Mathlib.Omega.{arith}
use lib.ListN.{take}
use Rattle.spec_model.specs.Words.{Netlist}
use Rattle.spec_model.specs.Builder.{Made, and_then}
use Rattle.spec_model.specs.Lowering.{resized}
use Rattle.net_view.specs.View.{netlist_of}
use Rattle.net_fold.specs.Values.{Fills}
use Rattle.std.specs.Prelude.{Result, Ok, Err}
use Rattle.net_nodes.specs.declared.Full.{Full}
use Rattle.op_bits.proofs.Laws.{list_by, first_out, first_then}
use Rattle.walk_operands.specs.Tasks.{task_made, narrow_of, job_made, Fits, cut_to, JobFits}
use Rattle.walk_operands.specs.declared.Task.{Task}
use Rattle.walk_operands.specs.declared.Task.TheVariants.{Copied, Constant, Unary, Binary, Carried, Mux}
use Rattle.walk_operands.specs.declared.Job.{Job}
use Rattle.walk_job_parts.specs.Widths.{made_width, extended}

-- ---- widths ----

pub made_whole : (m w : ℕ) (t : Task) → Fits m w t → made_width w w t ≡ w
made_whole m w Copied f = refl
made_whole m w (Constant start k lsb) f = let h = f.0 in omega arith
made_whole m w (Unary op k) f = refl
made_whole m w (Binary op j k) f = refl
made_whole m w (Carried k c) f = refl
made_whole m w (Mux c) f = refl

pub made_within : (v w : ℕ) (t : Task) → v ≤ w → made_width v w t ≤ w
made_within v w Copied h = omega arith
made_within v w (Constant start k lsb) h = omega arith
made_within v w (Unary op k) h = h
made_within v w (Binary op j k) h = h
made_within v w (Carried k c) h = h
made_within v w (Mux c) h = omega arith

narrow_none : (k w : ℕ) (m : Made (List ℕ)) → k ≡ 0 → resized (narrow_of k) w m ≡ m
unfolding narrow_of
narrow_none zero w m e = refl
narrow_none (suc k) w m e = absurd (omega arith)

narrow_some : (k w : ℕ) (m : Made (List ℕ)) → (k ≡ 0 → ⊥) → resized (narrow_of k) w m ≡ and_then m (λ (ns, l). extended w ns l)
unfolding narrow_of
narrow_some zero w m n = absurd (n refl)
narrow_some (suc k) w m n = refl

cut_none : (k w : ℕ) → k ≡ 0 → cut_to k w ≡ w
unfolding cut_to
cut_none zero w e = refl
cut_none (suc k) w e = absurd (omega arith)

cut_some : (k w : ℕ) → (k ≡ 0 → ⊥) → cut_to k w ≡ k
unfolding cut_to
cut_some zero w n = absurd (n refl)
cut_some (suc k) w n = refl

-- lists that are longer have room too
pub fits_more : (m k w : ℕ) (t : Task) → m ≤ k → Fits m w t → Fits k w t
fits_more m k w Copied h f = tt
fits_more m k w (Constant start v lsb) h f = f
fits_more m k w (Unary op v) h f = (f.0, f.1, omega (arith, f.2))
fits_more m k w (Binary op v u) h f = (f.0, f.1, omega (arith, f.2), f.3, omega (arith, f.4))
fits_more m k w (Carried v c) h f = (f.0, f.1, omega (arith, f.2), f.3)
fits_more m k w (Mux c) h f = tt

module _ (m w : ℕ) (j : Job) (f : JobFits m w j) where
  pub fits_whole : j.narrow ≡ 0 → Fits m w j.task
  fits_whole e = rw (cut_none j.narrow w e) at f.task

  pub fits_narrowed : (j.narrow ≡ 0 → ⊥) → Fits m j.narrow j.task
  fits_narrowed n = rw (cut_some j.narrow w n) at f.task

  module _ (s xs ys : List ℕ) (l : Netlist) (n : ℕ) where
    pub job_whole : (r : Result (Unit {0}) Full) (ns net idx : List ℕ) → j.narrow ≡ 0 → Fills (task_made s w j.task xs ys l) n r (take (made_width w w j.task) ns) net idx
        → Fills (job_made s w j xs ys l) n r (take w ns) net idx
    job_whole r ns net idx e g = list_by _ _ _ _ _ _ _ (narrow_none j.narrow w (task_made s w j.task xs ys l) e) (rw (made_whole m w j.task (fits_whole e)) at g)

    pub job_out : (e : Full) (ns ms net idx : List ℕ) → (j.narrow ≡ 0 → ⊥) → Fills (task_made s w j.task xs ys l) n (Err e) ns net idx → Fills (job_made s w j xs ys l) n (Err e) ms net idx
    job_out e ns ms net idx z g = list_by _ _ _ _ _ _ _ (narrow_some j.narrow w (task_made s w j.task xs ys l) z) (first_out _ (λ (ns, l). extended w ns l) n e ns ms net idx g)

    pub job_narrowed : (r : Result (Unit {0}) Full) (ns ms net idx net' idx' : List ℕ) → (j.narrow ≡ 0 → ⊥) → Fills (task_made s w j.task xs ys l) n (Ok tt) ns net idx
        → Fills (extended w ns (netlist_of n net)) n r ms net' idx' → Fills (job_made s w j xs ys l) n r ms net' idx'
    job_narrowed r ns ms net idx net' idx' z g h = list_by _ _ _ _ _ _ _ (narrow_some j.narrow w (task_made s w j.task xs ys l) z) (first_then _ (λ (ns, l). extended w ns l) n r ns ms net idx net' idx' g h)
