-- The model's steps as a list of needs, run one by one, and how each of its three functions begins. Assumes nothing.
use mathlib.Core.Path.{◌≡◌, refl, ap}
use mathlib.Core.Bool.{true, false}
use mathlib.Core.List.{List, [], ◌∷◌}
use mathlib.Core.Option.{none, some}
use Prim.Native.Nat.{ℕ, suc}
use Rattle.spec_rtl.specs.Rtl.{Module}
use Rattle.spec_model.specs.Builder.{Out, refused, done, and_then}
use Rattle.spec_model.specs.Lowering as M
use Rattle.spec_model.specs.Lowering.{State, Step, Always, Unless, lower_steps, lower_need, lower_by, lower_expression, lower_expression_range, resolve_signal_bit, drive, whole, range_known, signal_bit, cell, mark, driver_of, set_signal_bit, whole_net, whole_steps, range_steps_of, keep_whole, keep_range, build_whole, build_range}
use Rattle.walk_view.specs.Met.{AllMet}
use Rattle.walk_view.specs.Refusals.{Lowered}
use Rattle.walk_view.specs.View.{out_of}
use Rattle.walk_view.specs.Answers.{Refused, out}
use Rattle.walk_plan.specs.Plan.{step_needs}
use Rattle.walk_left.specs.Needs.{lower_needs, NeedsMet}

-- ---- needs ----

pub steps_needs : (rec : M.Need → State → Out State) (ss : List Step) (st : State) → lower_steps rec false ss st ≡ lower_needs rec (step_needs ss) st
unfolding lower_steps lower_needs
steps_needs rec [] st = refl
steps_needs rec (Always n ∷ ss) st = ap (and_then (rec n st)) (λ i st₁. steps_needs rec ss st₁ i)
steps_needs rec (Unless c v n ∷ ss) st = ap (and_then (rec n st)) (λ i st₁. steps_needs rec ss st₁ i)

pub needs_none : (rec : M.Need → State → Out State) (ns : List M.Need) (st : State) → ns ≡ [] → lower_needs rec ns st ≡ done st
unfolding lower_needs
needs_none rec ns st e = rw e

pub needs_on : (rec : M.Need → State → Out State) (ns ms : List M.Need) (n : M.Need) (st st₁ : State) → ns ≡ n ∷ ms → rec n st ≡ done st₁
    → lower_needs rec ns st ≡ lower_needs rec ms st₁
unfolding lower_needs
needs_on rec ns ms n st st₁ e r = rw (e, r)

pub needs_out : (rec : M.Need → State → Out State) (ns ms : List M.Need) (n : M.Need) (st st₁ : State) (x : Lowered) → ns ≡ n ∷ ms → rec n st ≡ out_of x st₁ → Refused x
    → lower_needs rec ns st ≡ out_of x st₁
unfolding lower_needs
needs_out rec ns ms n st st₁ x e r f = rw (e, r) (out x f _ st₁ st₁)

pub all_needs : (st : State) (ss : List Step) → NeedsMet st (step_needs ss) → AllMet st ss
all_needs st [] m = tt
all_needs st (x ∷ ss) m = (m.0, all_needs st ss m.1)

-- ---- the model's functions ----

pub need_suc : (f : ℕ) (m : Module) (n : M.Need) (st : State) → lower_need (suc f) m false n st ≡ lower_by (λ n' st'. lower_need f m false n' st') m false n st
unfolding lower_need
need_suc f m n st = refl

module _ (rec : M.Need → State → Out State) (m : Module) where
  pub whole_there : (e : ℕ) (st : State) (ns : List ℕ) → whole st e ≡ some ns → lower_expression rec m false e st ≡ done st
  unfolding lower_expression
  whole_there e st ns k = rw (k, lower_expression)

  pub whole_open : (e : ℕ) (st : State) → whole st e ≡ none
      → lower_expression rec m false e st ≡ and_then (lower_needs rec (step_needs (whole_steps m.exprs e)) st) (λ st₁. keep_whole st₁ e (build_whole m.exprs false st₁ e))
  unfolding lower_expression
  whole_open e st k = rw (k, lower_expression) (ap (λ (z : Out State). and_then z (λ st₁. keep_whole st₁ e (build_whole m.exprs false st₁ e))) (steps_needs rec (whole_steps m.exprs e) st))

  pub range_there : (e lsb w : ℕ) (st : State) → range_known st e lsb w ≡ true → lower_expression_range rec m false e lsb w st ≡ done st
  unfolding lower_expression_range
  range_there e lsb w st k = rw (k, lower_expression_range)

  pub range_open : (e lsb w : ℕ) (st : State) → range_known st e lsb w ≡ false
      → lower_expression_range rec m false e lsb w st ≡ and_then (lower_needs rec (step_needs (range_steps_of m.exprs e lsb w)) st) (λ st₁. keep_range st₁ e lsb (build_range m.exprs false st₁ e lsb w))
  unfolding lower_expression_range
  range_open e lsb w st k =
      rw (k, lower_expression_range) (ap (λ (z : Out State). and_then z (λ st₁. keep_range st₁ e lsb (build_range m.exprs false st₁ e lsb w))) (steps_needs rec (range_steps_of m.exprs e lsb w) st))

  module _ (p b : ℕ) (st : State) where
    pub bit_there : (n : ℕ) → signal_bit st p b ≡ some n → resolve_signal_bit rec m false p b st ≡ done st
    unfolding resolve_signal_bit
    bit_there n k = rw (k, resolve_signal_bit)

    pub bit_undriven : signal_bit st p b ≡ none → driver_of m p b ≡ none → resolve_signal_bit rec m false p b st ≡ refused 6 p b
    unfolding resolve_signal_bit
    bit_undriven k d = rw (k, d, resolve_signal_bit)

    pub bit_loop : (e o : ℕ) → signal_bit st p b ≡ none → driver_of m p b ≡ some (e, o) → cell false st.resolving p b ≡ true → resolve_signal_bit rec m false p b st ≡ refused 7 p b
    unfolding resolve_signal_bit
    bit_loop e o k d c = rw (k, d, c, resolve_signal_bit)

    pub bit_driven_law : (e o : ℕ) → signal_bit st p b ≡ none → driver_of m p b ≡ some (e, o) → cell false st.resolving p b ≡ false
        → resolve_signal_bit rec m false p b st ≡ and_then (rec (M.Whole e) (mark st p b)) (λ st₁. done (set_signal_bit st₁ p b (whole_net st₁ e o)))
    unfolding resolve_signal_bit drive
    bit_driven_law e o k d c = rw (k, d, c, resolve_signal_bit)
