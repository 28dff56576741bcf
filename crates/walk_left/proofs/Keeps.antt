-- The net of a driven bit, kept: what each way gives. Assumes nothing.
use mathlib.Core.Path.{◌≡◌, refl, sym, ap, ◌∙◌, subst}
use mathlib.Core.Bool.{true}
use mathlib.Core.List.{List, []}
use Prim.Native.Nat.{ℕ, ◌<◌}
use native.Mathlib.Omega.{arith}
use lib.ListN.{get_or}
use Rattle.spec_rules.specs.Image.{count_at_of, expr_width}
use Rattle.spec_rules.specs.Checks.{expr_bits}
use Rattle.spec_model.specs.Lowering.{set_signal_bit}
use Rattle.net_view.specs.View.{netlist_of}
use Rattle.scratch_view.specs.View.{limit_of, expr_bit, bit_at, net_word, is_whole, state_of, Laid, Writes}
use Rattle.scratch_view.specs.Laws.{net_word_some, expr_ends}
use Rattle.scratch_view.specs.Reads.{whole_net_law}
use Rattle.scratch_tables.specs.Answers.{ExprNet}
use Rattle.std.specs.Prelude.{Ok, Err}
use Rattle.walk_view.specs.Refusals.{Lowered}
use Rattle.walk_view.specs.Stores.{no_store}
use Rattle.walk_view.specs.Answers.{Refused}
use Rattle.walk_left.specs.Left.{driven, Keeps}

pub keep_refused : (s w : List ℕ) (p b e o : ℕ) (x : Lowered) → Laid s w → Refused x → Keeps s w p b e o x x w
keep_refused s w p b e o (Ok u) h q = absurd q
keep_refused s w p b e o (Err r) h q = record { same = refl; writes = no_store s w h }

module _ (s w : List ℕ) (e o n : ℕ) (h : Laid s w) (he : e < count_at_of s 1) (ho : o < expr_width s e) (t : is_whole s (limit_of w) w e ≡ true) (x : ExprNet s w e o n) where
  pub net_small : n < 65535
  net_small =
      let l = netlist_of 0 [] in
      let v : n ≡ net_word (get_or w (bit_at s (limit_of w) e o) 0) = x.whole l t ∙ whole_net_law s (limit_of w) l w e he o ho t in
      let z : 0 < get_or w (bit_at s (limit_of w) e o) 0 = h.wholes e o he ho t in
      let u = net_word_some (get_or w (bit_at s (limit_of w) e o) 0) z in
      let i : expr_bit s e o < expr_bits s = omega (arith, expr_ends s e he) in
      let m = h.expr_nets (expr_bit s e o) i in
      omega arith

  pub keep_done : (p b : ℕ) (y : Lowered) (w' : List ℕ) → y ≡ Ok tt → Writes (λ st. set_signal_bit st p b n) s w w' → Keeps s w p b e o y (Ok tt) w'
  keep_done p b y w' q a = record {
    same = sym q;
    writes = subst (λ (y : Lowered). Writes (driven y p b e o) s w w') (sym q) (record {
      says = λ l. a.says l ∙ ap (set_signal_bit (state_of s l w) p b) (x.whole l t);
      laid = a.laid;
      limit = a.limit;
      fixed = a.fixed;
      plan = a.plan;
      fewer = a.fewer;
    });
  }
