-- What is proved of specs/Sources: `reserve_sources`: each bit of an input, a register's target and a read data has its net, and the net its value. Assumes nothing.
use Rattle.std.specs.Prelude.{◌≡◌, refl}
use Rattle.std.proofs.Math.Path.{sym}
use Rattle.std.proofs.Common.{◌∙◌, not-suc-le-zero}
use Rattle.std.proofs.Math.Bool.{false}
use mathlib.Core.List.{[]}
use Rattle.std.proofs.Math.Option.{none}
use Prim.Native.Nat.{ℕ, zero, suc, ◌-◌, ◌<◌}
use Rattle.std.proofs.Math.ListN.{get_or, length-map}
use Rattle.spec_rtl.specs.Rtl as R
use Rattle.spec_rtl.specs.Rtl.{Module, Sig, Valuation}
use Rattle.spec_rules.specs.Step.{Setting, Contents, rounds}
use Rattle.spec_model.specs.Words.{Netlist}
use Rattle.spec_model.specs.Ranges.{width_at}
use Rattle.spec_model.specs.Lowering.{State, whole, signal_width}
use Rattle.law_nets.specs.Meaning.{net_value}
use Rattle.law_nets.specs.Sound.{Later}
use Rattle.law_walk.specs.Tables.{none_some, filled}
use Rattle.law_walk.specs.Kept.{Agrees, Wide}
use Rattle.law_phases.specs.Made.{Connected}
use Rattle.law_phases.specs.Sources.{Reserved, blank, none_at, shaped}

-- ---- what the walk starts from ----

pub connected : (m : Module) (lim : ℕ × ℕ) (st : State) → Reserved m lim st → Connected m lim st 0 (λ j. 0) 0
unfolding whole
connected m lim st i = record {
  limited = i.limited;
  inv = record {
    sound = i.sound;
    bits = i.bits;
    marks = rw i.marks (shaped false (λ (s : Sig). s.width) m.signals (record { width = 0; dir = R.Internal }) (signal_width m) (λ i. refl));
    nets = i.nets;
    settles = record { settles = settles };
    entries = rw i.wholes (length-map m.exprs _);
    rows = rw i.rows (length-map m.exprs _);
    wholes = λ e ns q. absurd (none_some (sym (rw i.wholes (none_at m.exprs e)) ∙ q));
    cells = λ e h q. rw i.rows ((shaped none (λ (x : R.Expr). x.width) m.exprs (record { width = 0; kind = R.Constant 0 }) (width_at m.exprs) (λ i. refl)).cells e h);
    ranges = λ e. record {
      there = λ b n q. absurd (none_some (sym (no_cell e b) ∙ q));
      holds = λ h a s c v g. record { fits = λ b n q. absurd (none_some (sym (no_cell e b) ∙ q)) };
    };
  };
  memories = record { made = λ j x h e. absurd (not-suc-le-zero h); rest = λ j h. rw i.memories };
  registers = record { made = λ j k r h e. absurd (not-suc-le-zero h); rest = λ j k h. rw i.registers };
  outputs = record { made = λ p h e. absurd (not-suc-le-zero h); rest = λ p h. rw i.outputs };
}
  where
    no_cell : (e b : ℕ) → get_or (get_or st.expression_ranges e []) b none ≡ none
    no_cell e b = rw i.rows (blank (λ (x : R.Expr). x.width) m.exprs e b)

    settles : (h : Netlist) → Later st.netlist h → Wide m h → (s : Setting) (c : Contents) (u : Valuation) (n : ℕ) → filled st.signal_bits < n
        → Agrees (net_value h s c) (rounds m s c u n) st.signal_bits
    settles h a w s c u zero f = absurd (not-suc-le-zero f)
    settles h a w s c u (suc n) f = i.agrees h a w s c u n
