-- What is proved of specs/Shifts: Shifts by stages of muxes. Assumes nothing.
use Rattle.std.specs.Prelude.{◌≡◌, refl, Bool, true, false, cond, ℕ, suc, pred, ◌*◌, ◌-◌, ◌^◌, min, ltb, length, get_or}
use Rattle.std.proofs.Common.{sym, ◌∙◌, arith}
use Rattle.std.proofs.Math.Path.{ap}
use mathlib.Core.List.{List, [], ◌∷◌, map}
use Rattle.std.proofs.Math.ListN.{length-map, get_or-map}
use Rattle.spec_rtl.specs.Word.{value}
use Rattle.spec_rtl.specs.Ops.{top, shl, shr}
use Rattle.spec_model.specs.Words.{Netlist}
use Rattle.spec_model.specs.Lowering.{Shift, LeftS, RightS, ArithmeticS, shifted, stages, shift}
use Rattle.word_laws.specs.Widths.{AllBelow}
use Rattle.word_laws.specs.Shift.{tab_ext, stages_l_shl, stages_r_shr, stages_a_shr}
use Rattle.law_nets.specs.Meaning.{net_value}
use Rattle.law_nets.specs.Sound.{count, Sound, Stands, StandsAll}
use Rattle.law_nets.specs.Run.{below_more, Run}
use Rattle.law_nets.proofs.Run.{later_trans, later_count, stands_later, all_self, all_as, run_here, run_bind, run_map}
use Rattle.law_gates.specs.Gates.{constant_run}
use Rattle.law_gates.proofs.Many.{muxes_run}
use Rattle.law_operators.specs.Shifts.{length_shifted, map_down, map_from, moved, shifted_below, staged, staged_nil}

map_shifted : (g : ℕ → Bool) (h : Shift) (z d : ℕ) (r : List ℕ) → g z ≡ false → map g (shifted h z d r) ≡ moved h d (map g r)
map_shifted g LeftS z d r e =
    map_from g (λ i. cond (ltb i d) z (get_or r (i - d) z)) (length r)
    ∙ rw (length-map r g) (tab_ext (length r) (λ i. g (cond (ltb i d) z (get_or r (i - d) z))) (λ i. cond (ltb i d) false (get_or (map g r) (i - d) false)) (λ i _. at i (ltb i d)))
  where
    at : (i : ℕ) (t : Bool) → g (cond t z (get_or r (i - d) z)) ≡ cond t false (get_or (map g r) (i - d) false)
    at i true = e
    at i false = sym (get_or-map g r (i - d) z) ∙ ap (get_or (map g r) (i - d)) e
map_shifted g RightS z d r e = map_down g z d r ∙ ap (λ (f : Bool). shr f (map g r) d) e
map_shifted g ArithmeticS z d r e =
    map_down g (get_or r (pred (length r)) z) d r
    ∙ ap (λ (f : Bool). shr f (map g r) d) (sym (get_or-map g r (pred (length r)) z) ∙ rw (e, length-map r g))

stage_cons : (h : Shift) (k : ℕ) (a : List Bool) (b : Bool) (n : List Bool) → staged h (suc k) (cond b (moved h (min (2 ^ k) (length a)) a) a) n ≡ staged h k a (b ∷ n)
stage_cons LeftS k a true n = refl
stage_cons LeftS k a false n = refl
stage_cons RightS k a true n = refl
stage_cons RightS k a false n = refl
stage_cons ArithmeticS k a true n = refl
stage_cons ArithmeticS k a false n = refl

module _ (h : Shift) (z : ℕ) where
  stages_run : (k : ℕ) (ss r : List ℕ) (l : Netlist) → Sound l → Stands l z (λ g s c. false) → AllBelow (count l) ss → AllBelow (count l) r
      → Run l (λ zs l'. StandsAll l' zs (λ g s c. staged h k (map (net_value g s c) r) (map (net_value g s c) ss))) (stages h z k ss r l)
  unfolding stages
  stages_run k [] r l q vz b d = run_here q (all_as (all_self r d) (λ g y s c. staged_nil h k (map (net_value g s c) r)))
  stages_run k (m ∷ ss) r l q vz b d =
      run_bind (λ (r₁, l₁). stages h z (suc k) ss r₁ l₁)
      (muxes_run m (shifted h z (min (2 ^ k) (length r)) r) r l q b.0
      (shifted_below (count l) h z (min (2 ^ k) (length r)) r vz.there d) d (length_shifted h z (min (2 ^ k) (length r)) r)) (λ r₁ l' y v.
      run_map (stages_run (suc k) ss r₁ l' y.sound (stands_later y vz) (below_more _ _ ss (later_count y) b.1) v.there) (λ zs l'' y' w.
      all_as w (λ g y'' s c.
      ap (λ (t : List Bool). staged h (suc k) t (map (net_value g s c) ss))
      (v.are g (later_trans y' y'') s c
      ∙ rw (map_shifted (net_value g s c) h z (min (2 ^ k) (length r)) r (vz.is g (later_trans y (later_trans y' y'')) s c), ← length-map r (net_value g s c)))
      ∙ stage_cons h k (map (net_value g s c) r) (net_value g s c m) (map (net_value g s c) ss))))

staged_moved : (h : Shift) (a n : List Bool) → staged h 0 a n ≡ moved h (value n) a
staged_moved LeftS a n = stages_l_shl 0 a n ∙ ap (shl a) {x = 2 ^ 0 * value n} {y = value n} (omega arith)
staged_moved RightS a n = stages_r_shr false 0 a n ∙ ap (shr false a) {x = 2 ^ 0 * value n} {y = value n} (omega arith)
staged_moved ArithmeticS a n = stages_a_shr 0 a n ∙ ap (shr (top a) a) {x = 2 ^ 0 * value n} {y = value n} (omega arith)

pub shift_run : (h : Shift) (xs ys : List ℕ) (l : Netlist) → Sound l → AllBelow (count l) xs → AllBelow (count l) ys
    → Run l (λ zs l'. StandsAll l' zs (λ g s c. moved h (value (map (net_value g s c) ys)) (map (net_value g s c) xs))) (shift h xs ys l)
unfolding shift
shift_run h xs ys l q b d = run_bind (λ (z, l₁). stages h z 0 ys xs l₁) (constant_run false l q) (λ z l' y v.
    run_map (stages_run h z 0 ys xs l' y.sound v (below_more _ _ ys (later_count y) d) (below_more _ _ xs (later_count y) b)) (λ zs l'' y' w.
    all_as w (λ g y'' s c. staged_moved h (map (net_value g s c) xs) (map (net_value g s c) ys))))
