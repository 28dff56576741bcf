-- What the tasks stand for in the model, and when their widths fit. Assumes nothing.
use Rattle.std.specs.Prelude.{◌≡◌, List, ℕ, zero, suc, ◌+◌, ◌≤◌, ◌<◌, take, drop}
use Rattle.std.proofs.Math.Option.{Option, none, some}
use Rattle.spec_rtl.specs.Word.{bits}
use Rattle.spec_rules.specs.Image.{constant_of, constant_words}
use Rattle.spec_model.specs.Words.{absent, Netlist}
use Rattle.spec_model.specs.Builder as B
use Rattle.spec_model.specs.Builder.{Made, done, each, both, add_constant, add_mux}
use Rattle.spec_model.specs.WordCells.{arithmetic}
use Rattle.spec_model.specs.Lowering.{lower_unary, lower_binary, resized}
use Rattle.word_laws.specs.Widths.{UnWidth, BinWidth}
use Rattle.image_records.specs.Expr.{unary_means, binary_means}
use Rattle.walk_operands.specs.declared.Task.{Task}
use Rattle.walk_operands.specs.declared.Task.TheVariants.{Copied, Constant, Unary, Binary, Carried, Mux}
use Rattle.walk_operands.specs.declared.Job.{Job}

-- w nets made of the lists xs and ys, for an expression of image s
unfoldable pub task_made : List ℕ → ℕ → Task → List ℕ → List ℕ → Netlist → Made (List ℕ)
task_made s w Copied xs ys l = done (take w xs, l)
task_made s w (Constant start v lsb) xs ys l = each add_constant (take w (drop lsb (bits v (constant_of s v start)))) l
task_made s w (Unary op k) xs ys l = lower_unary (unary_means op) (take k xs) l
task_made s w (Binary op j k) xs ys l = lower_binary (binary_means op) (take j xs) (take k ys) l
task_made s w (Carried k c) xs ys l = arithmetic B.Add (take k xs) (take k ys) (some c) l
task_made s w (Mux c) xs ys l = both (add_mux c) (take w xs) (take w ys) l

unfoldable pub narrow_of : ℕ → Option ℕ
narrow_of zero = none
narrow_of (suc k) = some (suc k)

abbrev pub job_made : List ℕ → ℕ → Job → List ℕ → List ℕ → Netlist → Made (List ℕ)
job_made s w j xs ys l = resized (narrow_of j.narrow) w (task_made s w j.task xs ys l)

-- ---- widths: each list has room for m nets; a carry is a net ----

abbrev pub Fits : ℕ → ℕ → Task → Type 0
Fits m w Copied = Unit {0}
Fits m w (Constant start v lsb) = (lsb + w ≤ v) × (v ≤ 1024) × (start + constant_words v ≤ 8192)
Fits m w (Unary op k) = UnWidth (unary_means op) w k × (1 ≤ k) × (k ≤ m)
Fits m w (Binary op j k) = BinWidth (binary_means op) w j k × (1 ≤ j) × (j ≤ m) × (1 ≤ k) × (k ≤ m)
Fits m w (Carried k c) = (k ≡ w) × (1 ≤ k) × (k ≤ m) × (c < absent)
Fits m w (Mux c) = Unit {0}

-- the width of the task of a job of width w
unfoldable pub cut_to : ℕ → ℕ → ℕ
cut_to zero w = w
cut_to (suc k) w = suc k

pub record JobFits (m w : ℕ) (j : Job) : Type 0 where
  pub least : 1 ≤ w
  pub most : w ≤ m
  pub narrow : j.narrow ≤ w
  pub task : Fits m (cut_to j.narrow w) j.task

-- the lists that were read and the job give what the model makes, whatever the netlist
pub record Read (m : ℕ) (model : Netlist → Made (List ℕ)) (s : List ℕ) (w : ℕ) (j : Job) (xs ys : List ℕ) : Type 0 where
  pub says : (l : Netlist) → model l ≡ job_made s w j xs ys l
  pub fits : JobFits m w j
