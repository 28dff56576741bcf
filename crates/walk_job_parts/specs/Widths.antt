-- How many nets a task makes, and what a narrowed job makes of them. Assumes nothing.
use Rattle.std.specs.Prelude.{false, List, ◌++◌, ℕ, ◌-◌, min, length, replicate}
use Rattle.spec_model.specs.Words.{Netlist}
use Rattle.spec_model.specs.Builder.{Made, done, and_then, add_constant}
use Rattle.walk_operands.specs.declared.Task.{Task}
use Rattle.walk_operands.specs.declared.Task.TheVariants.{Copied, Constant, Unary, Binary, Carried, Mux}

-- of a task of width v in a job of width w
abbrev pub made_width : ℕ → ℕ → Task → ℕ
made_width v w Copied = w
made_width v w (Constant start k lsb) = min w (k - lsb)
made_width v w (Unary op k) = v
made_width v w (Binary op j k) = v
made_width v w (Carried k c) = v
made_width v w (Mux c) = w

-- nets, and the false constant up to w
abbrev pub extended : ℕ → List ℕ → Netlist → Made (List ℕ)
extended w ns l = and_then (add_constant false l) (λ (z, l₁). done (ns ++ replicate (w - length ns) z, l₁))
