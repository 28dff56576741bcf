-- What has nets is lowered again, by induction on the fuel: it is done, makes nothing, and ends in a state with some of the nets that were there. Assumes nothing.
use Rattle.std.specs.Prelude.{◌≡◌, refl, Bool, ℕ, suc, ◌+◌, ◌≤◌, ◌<◌, length}
use Rattle.std.proofs.Common.{arith}
use Rattle.std.proofs.Math.Path.{ap, subst}
use Rattle.std.proofs.Math.Bool.{true, false}
use mathlib.Core.List.{List}
use Rattle.std.proofs.Math.Option.{Option, none, some}
use Rattle.spec_rtl.specs.Rtl.{Module, word}
use Rattle.spec_model.specs.Words.{Netlist}
use Rattle.spec_model.specs.Builder.{refused, done, and_then, Made}
use Rattle.spec_model.specs.Ranges.{width_at}
use Rattle.spec_model.specs.Lowering.{State, Bit, Whole, Range, cell, whole, with_netlist, set_whole, set_range, signal_bit, whole_steps, range_steps_of, range_known, known_by, range_row, build_whole, build_range, lower_steps, driver_of, drive, resolve_signal_bit, keep_whole, lower_expression, keep_range, lower_expression_range, lower_need}
use Rattle.law_walk.specs.Good.{Good}
use Rattle.law_walk.specs.Kept.{Inv, NetsGive, Makes}
use Rattle.law_walk.specs.Writes.{holds_length}
use Rattle.law_walk.proofs.Parts.{range_made as range-of-made}
use Rattle.word_laws.specs.Values.{slice_wide}
use Rattle.word_laws.specs.Widths.{word_width}
use Rattle.spec_rtl.specs.Ops.{slice_w}
use Rattle.law_walk.specs.Reads.{AllAfter}
use Rattle.law_phases.specs.Supply.{supply}

-- a range of no bits is known
pub no_bits : (st : State) (e lsb : ℕ) → range_known st e lsb 0 ≡ true
unfolding range_known
no_bits st e lsb = go (whole st e)
  where
    go : (o : Option (List ℕ)) → known_by o (range_row st e lsb 0) ≡ true
    go none = refl
    go (some ns) = refl

-- ---- one step of the walk ----

pub bit_there : (su st : State) (q b : ℕ) → su.signal_bits ≡ st.signal_bits → signal_bit su q b ≡ signal_bit st q b
unfolding signal_bit
bit_there su st q b h = ap (λ (t : List (List (Option ℕ))). cell none t q b) h

module _ (g : ℕ) (m : Module) (ob : Bool) where
  pub bit_done : (q b : ℕ) (su : State) (n : ℕ) → signal_bit su q b ≡ some n → lower_need (suc g) m ob (Bit q b) su ≡ done su
  unfolding lower_need resolve_signal_bit
  bit_done q b su n h = ap (λ (o : Option ℕ). elim o [
    | some n ↦ done su
    | none ↦ elim (driver_of m q b) [
      | none ↦ refused 6 q b
      | some d ↦ elim (cell false su.resolving q b) [ true ↦ refused 7 q b | false ↦ drive (λ n' st'. lower_need g m ob n' st') ob q b d.0 d.1 su ]
    ]
  ]) h

  whole_by : (e : ℕ) (su : State) (o : Option (List ℕ)) → whole su e ≡ o → lower_need (suc g) m ob (Whole e) su
      ≡ elim o [ some ns ↦ done su | none ↦ and_then (lower_steps (lower_need g m ob) ob (whole_steps m.exprs e) su) (λ st₁. keep_whole st₁ e (build_whole m.exprs ob st₁ e)) ]
  unfolding lower_need lower_expression
  whole_by e su o q = ap (λ (x : Option (List ℕ)). elim x [ some ns ↦ done su | none ↦ and_then (lower_steps (λ n' st'. lower_need g m ob n' st') ob (whole_steps m.exprs e) su) (λ st₁. keep_whole st₁ e (build_whole m.exprs ob st₁ e)) ]) q

  pub whole_done : (e : ℕ) (su : State) (ns : List ℕ) → whole su e ≡ some ns → lower_need (suc g) m ob (Whole e) su ≡ done su
  whole_done e su ns q = whole_by e su (some ns) q

  pub whole_step : (e : ℕ) (su : State) → whole su e ≡ none
      → lower_need (suc g) m ob (Whole e) su ≡ and_then (lower_steps (lower_need g m ob) ob (whole_steps m.exprs e) su) (λ st₁. keep_whole st₁ e (build_whole m.exprs ob st₁ e))
  whole_step e su q = whole_by e su none q

  range_by_law : (e lsb w : ℕ) (su : State) (t : Bool) → range_known su e lsb w ≡ t → lower_need (suc g) m ob (Range e lsb w) su
      ≡ elim t [ true ↦ done su | false ↦ and_then (lower_steps (lower_need g m ob) ob (range_steps_of m.exprs e lsb w) su) (λ st₁. keep_range st₁ e lsb (build_range m.exprs ob st₁ e lsb w)) ]
  unfolding lower_need lower_expression_range
  range_by_law e lsb w su t q = ap (λ (x : Bool). elim x [ true ↦ done su | false ↦ and_then (lower_steps (λ n' st'. lower_need g m ob n' st') ob (range_steps_of m.exprs e lsb w) su) (λ st₁. keep_range st₁ e lsb (build_range m.exprs ob st₁ e lsb w)) ]) q

  pub range_done : (e lsb w : ℕ) (su : State) → range_known su e lsb w ≡ true → lower_need (suc g) m ob (Range e lsb w) su ≡ done su
  range_done e lsb w su q = range_by_law e lsb w su true q

  pub range_step : (e lsb w : ℕ) (su : State) → range_known su e lsb w ≡ false
      → lower_need (suc g) m ob (Range e lsb w) su ≡ and_then (lower_steps (lower_need g m ob) ob (range_steps_of m.exprs e lsb w) su) (λ st₁. keep_range st₁ e lsb (build_range m.exprs ob st₁ e lsb w))
  range_step e lsb w su q = range_by_law e lsb w su false q

pub whole_keep : (su : State) (e : ℕ) {o : Made (List ℕ)} {ns : List ℕ} {l : Netlist} → o ≡ done (ns, l) → keep_whole su e o ≡ done (set_whole (with_netlist su l) e ns)
unfolding keep_whole
whole_keep su e q = ap (λ o. and_then o (λ (ns, l). done (set_whole (with_netlist su l) e ns))) q

pub range_keep : (su : State) (e lsb : ℕ) {o : Made (List ℕ)} {ns : List ℕ} {l : Netlist} → o ≡ done (ns, l) → keep_range su e lsb o ≡ done (set_range (with_netlist su l) e lsb ns)
unfolding keep_range
range_keep su e lsb q = ap (λ o. and_then o (λ (ns, l). done (set_range (with_netlist su l) e lsb ns))) q

-- as many nets as bits
pub range_long : (m : Module) (good : Good m) (ob : Bool) (su : State) → Inv m su → (e : ℕ) → e < length m.exprs → (lsb w : ℕ) → lsb + w ≤ width_at m.exprs e
    → AllAfter ob su (range_steps_of m.exprs e lsb w) → (ns : List ℕ) → build_range m.exprs ob su e lsb w ≡ done (ns, su.netlist) → length ns ≡ w
range_long m good ob su i e here lsb w fits h ns q =
    let k = (subst (Makes su.netlist (λ ns l. NetsGive l su.signal_bits ns (λ v. slice_w lsb w (word m.exprs v e)))) q (range-of-made supply m good.exprs ob su i e lsb w here fits h)).makes in
    holds_length k.later.sound k.post w (λ v. slice_wide lsb w (word m.exprs v e) (omega (arith, word_width m.exprs good.exprs v e here)))
