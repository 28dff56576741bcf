-- An accepted image has the sizes that the layout of the scratch asks for.
use Rattle.std.specs.Prelude.{ℕ, List}
use Rattle.scratch_view.specs.View.{Drives, Sized}
use Rattle.check_assignments.specs.Good.{GoodAssign}
use Rattle.check_image.specs.Accepted.{Accepted}

drives : (s : List ℕ) (a : ℕ) → GoodAssign s a → Drives s a
drives s a g = record { signal = g.there; inside = g.room; value = g.value.there; width = g.value.width }

pub sized : (s : List ℕ) → Accepted s → Sized s
sized s g = record {
  signals = g.most.signals;
  exprs = g.most.exprs;
  assigns = g.most.assigns;
  signal_bits = g.signal_bits_law;
  expr_bits = g.expr_bits_law;
  signal_some = λ p h. (g.signals p h).width.0;
  signal_most = λ p h. (g.signals p h).width.1;
  expr_some = λ e h. (g.exprs e h).least;
  expr_most = λ e h. (g.exprs e h).most;
  drives = λ a h. drives s a (g.assigns a h);
}
