-- The listing's example in docs/RULES.md, y = BitNot a: it is a good module, its lowering succeeds, and so demand 3 holds of its netlist. Assumes nothing.
use Rattle.std.specs.Prelude.{◌≡◌, refl, false, [], ◌∷◌, ℕ, zero, suc, ◌≤◌, ◌<◌}
use Rattle.std.proofs.Common.{subst, arith}
use Rattle.std.proofs.Math.Option.{some}
use Rattle.std.proofs.Math.ListN.{get_elem?}
use Rattle.spec_rtl.specs.Rtl as R
use Rattle.spec_rtl.specs.Rtl.{Module, Assign}
use Rattle.spec_model.specs.Words as Words
use Rattle.spec_model.specs.Builder as Builder
use Rattle.spec_model.specs.Builder.{Out, refused, done}
use Rattle.spec_model.specs.Ranges.{expr_at, width_at}
use Rattle.spec_model.specs.Lowering as Lowering
use Rattle.spec_model.specs.Lowering.{State, lower_state, signal_width}
use Rattle.word_laws.specs.Widths.{BelowE, WidthOk, Formed}
use Rattle.law_walk.specs.Tables.{none_some, some_eq}
use Rattle.law_walk.specs.Good.{Good, GoodAssign}

abbrev pub inverter : Module
inverter = record {
  signals = record { width = 1; dir = R.Input } ∷ record { width = 1; dir = R.Output } ∷ [];
  exprs = record { width = 1; kind = R.Signal 0 0 } ∷ record { width = 1; kind = R.Un R.BitNot 0 } ∷ [];
  assigns = record { signal = 1; lsb = 0; width = 1; value = 1 } ∷ [];
  registers = [];
  memories = [];
}

-- two cases
two : (P : ℕ → Type 0) → P 0 → P 1 → (i : ℕ) → i < 2 → P i
two P a b zero h = a
two P a b (suc zero) h = b
two P a b (suc (suc i)) h = absurd (omega arith)

formed : Formed inverter.exprs
formed = record {
  least = two (λ e. 1 ≤ width_at inverter.exprs e) (omega arith) (omega arith);
  low = two (λ e. BelowE e (expr_at inverter.exprs e).kind) tt (omega arith);
  wide = two (λ e. WidthOk (width_at inverter.exprs) (width_at inverter.exprs e) (expr_at inverter.exprs e).kind) tt refl;
}

assigned : GoodAssign inverter (record { signal = 1; lsb = 0; width = 1; value = 1 })
assigned = record {
  inside = omega arith;
  fits = omega arith;
  value = omega arith;
  wide = refl;
  undriven = record {
    input = λ e. let z : ◌≡◌ {A = ℕ} 0 1 = cc in omega arith;
    registers = λ k r e t. none_some e;
    memories = λ k x e t. none_some e;
    seconds = λ k x q e f t. none_some e;
  };
}

pub good : Good inverter
good = record {
  exprs = formed;
  signals = two (λ p. 1 ≤ signal_width inverter p) (omega arith) (omega arith);
  assigns = assigns;
  registers = λ k r e. absurd (none_some e);
  memories = λ k x e. absurd (none_some e);
}
  where
    assigns : (k : ℕ) (a : Assign) → get_elem? inverter.assigns k ≡ some a → GoodAssign inverter a
    assigns zero a e = subst (λ (x : Assign). GoodAssign inverter x) (some_eq e) assigned
    assigns (suc k) a e = absurd (none_some e)

-- the state that a lowering ends in
abbrev pub ended : Out State → State → State
ended (refused n x y) st = st
ended (done st') st = st'

abbrev pub end : State
end = ended (lower_state false inverter 3 8) (Lowering.start inverter 3 8)

pub succeeds : lower_state false inverter 3 8 ≡ done end
unfolding Lowering.lower_state Lowering.start Lowering.reserve_sources Lowering.reserve_inputs Lowering.reserve_registers Lowering.reserve_memories Lowering.connect_memories Lowering.connect_registers Lowering.connect_outputs Lowering.lower_all Lowering.plenty Lowering.lower_need Lowering.resolve_signal_bit Lowering.signal_bit Lowering.driver_of Lowering.drive Lowering.lower_steps Lowering.lower_expression Lowering.whole Lowering.whole_steps Lowering.signal_steps Lowering.build_whole Lowering.keep_whole Lowering.set_whole Lowering.set_signal Lowering.set_signal_bit Lowering.mark Lowering.signal_net Lowering.signal_nets Lowering.whole_nets Lowering.whole_net Lowering.lower_unary Builder.add_node Builder.push Builder.node_for_net Builder.constant_value Builder.same Builder.find Builder.add_cached Builder.add_not Builder.each Builder.both Builder.from Builder.add_nodes Builder.add_recorded Builder.add_input_port Builder.add_output_port Builder.add_constant Words.used
succeeds = refl
