-- What a call for a need gives; of a part, what stands before turn k (`At`) and after it (`After`). Assumes nothing.
use Rattle.std.specs.Prelude.{◌≡◌, false, List, ℕ, suc, ◌*◌, ◌≤◌, ◌<◌, length, drop, Option, Result, Some, None, Ok, Err}
use Rattle.spec_rules.specs.Image.{decode}
use Rattle.spec_model.specs.Builder.{Out, and_then}
use Rattle.spec_model.specs.Lowering as M
use Rattle.spec_model.specs.Lowering.{State, Step, lower_need, whole_steps, range_steps_of, keep_whole, keep_range, build_whole, build_range}
use Rattle.expr_laws.specs.Exprs.{exprs_of}
use Rattle.walk_view.specs.declared.Refusal.{Refusal}
use Rattle.walk_view.specs.Refusals.{Lowered}
use Rattle.walk_view.specs.Met.{AllMet, Grows}
use Rattle.walk_view.specs.View.{walk_state, Ready, Sure, Kept, There, rank_of, cost_of, Gives}
use Rattle.walk_view.specs.Answers.{Refused}
use Rattle.walk_plan.specs.declared.Need.{Need}
use Rattle.walk_plan.specs.declared.Need.TheVariants.{Bit, Whole, Range}
use Rattle.walk_plan.specs.Plan.{whole_needs, range_rest}
use Rattle.walk_plan.specs.Fits.{AllFit}
use Rattle.walk_recursion.specs.declared.Part.{Part}
use Rattle.walk_recursion.specs.declared.Part.TheVariants as P
use Rattle.walk_left.specs.declared.Left.{Left}
use Rattle.walk_left.specs.Needs.{lower_needs, NeedsMet}

-- ---- a call for a need ----

abbrev pub ThereNeed : List ℕ → Option Need → Type 0
ThereNeed s (Some (Bit p b)) = There s (M.Bit p b)
ThereNeed s (Some (Whole e)) = There s (M.Whole e)
ThereNeed s (Some (Range e lsb w)) = There s (M.Range e lsb w)
ThereNeed s None = Unit {0}

abbrev pub GivesNeed : List ℕ → List ℕ → List ℕ → Option Need → Lowered → List ℕ → List ℕ → Type 0
GivesNeed s net w (Some (Bit p b)) r net' w' = Gives s net w (M.Bit p b) r net' w'
GivesNeed s net w (Some (Whole e)) r net' w' = Gives s net w (M.Whole e) r net' w'
GivesNeed s net w (Some (Range e lsb k)) r net' w' = Gives s net w (M.Range e lsb k) r net' w'
GivesNeed s net w None r net' w' = (r ≡ Ok tt) × (net' ≡ net) × (w' ≡ w)

abbrev pub cost_need : List ℕ → List ℕ → Option Need → ℕ
cost_need s w (Some (Bit p b)) = cost_of s w (M.Bit p b)
cost_need s w (Some (Whole e)) = cost_of s w (M.Whole e)
cost_need s w (Some (Range e lsb k)) = cost_of s w (M.Range e lsb k)
cost_need s w None = 0

-- ---- between two calls: the need n₀ was asked for at net₀, w₀; at net, w there is rest left to lower, and cont after that ----

pub record LoopAt (s net₀ w₀ : List ℕ) (n₀ : M.Need) (all : List Step) (cont : State → Out State) (rest : List M.Need) (net w : List ℕ) : Type 0 where
  pub says : (f : ℕ) → cost_of s w₀ n₀ ≤ f → lower_need (suc f) (decode s) false n₀ (walk_state s net₀ w₀)
      ≡ and_then (lower_needs (λ n st. lower_need f (decode s) false n st) rest (walk_state s net w)) cont
  pub ready : Ready s net w
  pub sure : Sure s net w
  pub kept : Kept s net₀ w₀ net w
  pub grows : Grows (walk_state s net₀ w₀) (walk_state s net w)
  pub done_then : (st : State) → Grows (walk_state s net w) st → NeedsMet st rest → AllMet st all
  pub fits : AllFit s (rank_of n₀) rest

abbrev pub WholeLoop : List ℕ → List ℕ → List ℕ → ℕ → List M.Need → List ℕ → List ℕ → Type 0
WholeLoop s net₀ w₀ e rest net w = LoopAt s net₀ w₀ (M.Whole e) (whole_steps (exprs_of s) e) (λ st. keep_whole st e (build_whole (exprs_of s) false st e)) rest net w

abbrev pub RangeLoop : List ℕ → List ℕ → List ℕ → ℕ → ℕ → ℕ → List M.Need → List ℕ → List ℕ → Type 0
RangeLoop s net₀ w₀ e lsb n rest net w =
    LoopAt s net₀ w₀ (M.Range e lsb n) (range_steps_of (exprs_of s) e lsb n) (λ st. keep_range st e lsb (build_range (exprs_of s) false st e lsb n)) rest net w

-- ---- turns ----

abbrev pub need_of : Part → M.Need
need_of (P.Whole e) = M.Whole e
need_of (P.Range e lsb n) = M.Range e lsb n

-- what is left after the first k turns, 0 < k
abbrev pub Open : List ℕ → List ℕ → List ℕ → Part → ℕ → ℕ → List ℕ → List ℕ → Type 0
Open s net₀ w₀ (P.Whole e) k at net w = WholeLoop s net₀ w₀ e (drop k (whole_needs s e)) net w
Open s net₀ w₀ (P.Range e lsb n) k at net w = RangeLoop s net₀ w₀ e lsb n (range_rest s e lsb n k at) net w × (1 ≤ n)

pub record At (s net₀ w₀ : List ℕ) (part : Part) (k at : ℕ) (net w : List ℕ) : Type 0 where
  pub ready : Ready s net w
  pub sure : Sure s net w
  pub there : There s (need_of part)
  pub net_long : length net ≡ length net₀
  pub long : length w ≡ length w₀
  pub place : at ≤ 1024 * k
  pub first : k ≡ 0 → (net₀ ≡ net) × (w₀ ≡ w)
  pub later : 0 < k → Open s net₀ w₀ part k at net w

-- turn k answered that n is to be lowered, and then turn k₁ follows: that costs less; done, it leads to that turn, and a refusal is the part's
pub record Below (s net₀ w₀ : List ℕ) (part : Part) (k : ℕ) (n : Option Need) (k₁ at : ℕ) (net w : List ℕ) : Type 0 where
  pub ready : Ready s net w
  pub sure : Sure s net w
  pub there : ThereNeed s n
  pub place : at ≤ 1024 * k₁
  pub further : k < k₁
  pub small : k₁ < 4294967296
  pub less : cost_need s w n < cost_of s w₀ (need_of part)
  pub on : (x : Lowered) (net₁ w₁ : List ℕ) → GivesNeed s net w n x net₁ w₁ → x ≡ Ok tt → Open s net₀ w₀ part k₁ at net₁ w₁
  pub out : (x : Lowered) (net₁ w₁ : List ℕ) → GivesNeed s net w n x net₁ w₁ → Refused x → Gives s net₀ w₀ (need_of part) x net₁ w₁

abbrev pub Next : Type 0
Next = Result (Option Left) Refusal

abbrev pub After : List ℕ → List ℕ → List ℕ → Part → ℕ → Next → List ℕ → List ℕ → Type 0
After s net₀ w₀ part k (Ok (Some x)) net w = Below s net₀ w₀ part k x.need x.next x.at net w
After s net₀ w₀ part k (Ok None) net w = Gives s net₀ w₀ (need_of part) (Ok tt) net w
After s net₀ w₀ part k (Err r) net w = Gives s net₀ w₀ (need_of part) (Err r) net w

-- contracts of a turn: wherever the call began, what stood before turn k is followed by what stands after it
pub record Begun (s : List ℕ) (part : Part) (k at : ℕ) (net w : List ℕ) : Type 0 where
  pub net₀ : List ℕ
  pub w₀ : List ℕ
  pub so : At s net₀ w₀ part k at net w

abbrev pub Turns : List ℕ → List ℕ → List ℕ → Part → ℕ → ℕ → Next → List ℕ → List ℕ → Type 0
Turns s net w part k at r net' w' = (net₀ w₀ : List ℕ) → At s net₀ w₀ part k at net w → After s net₀ w₀ part k r net' w'
