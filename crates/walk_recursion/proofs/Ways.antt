-- What each way through the walk's functions gives, from what its calls give. Assumes nothing.
use mathlib.Core.Path.{◌≡◌, refl, sym, ap, ◌∙◌, subst}
use mathlib.Core.Bool.{Bool, true, false, true≢false}
use mathlib.Core.List.{List, [], ◌∷◌, ◌++◌}
use mathlib.Core.Option.{Option, none, some}
use Prim.Native.Nat.{ℕ, zero, suc, ◌+◌, ◌*◌, ◌≤◌, ◌<◌}
use native.Mathlib.Nat.{mul-le-mul_right, suc-mul}
use native.Mathlib.Omega.{arith}
use lib.ListN.{length, get_or, drop}
use Rattle.spec_tests.specs.Laws.{is_some}
use Rattle.spec_tests.specs.Options.{option_of}
use Rattle.spec_tests.specs.Rules.{list_of, sum_to}
use Rattle.spec_rules.specs.Image.{count_at_of, signal_width, expr_width, decode}
use Rattle.spec_model.specs.Builder.{Out, done, and_then}
use Rattle.spec_model.specs.Lowering as M
use Rattle.spec_model.specs.Lowering.{State, Step, lower_need, lower_by, whole, known_by, range_known, signal_bit, cell, driver_of, set_signal_bit, whole_net, whole_steps, range_steps_of, keep_whole, keep_range, build_whole, build_range}
use Rattle.expr_laws.specs.Exprs.{exprs_of}
use Rattle.scratch_view.specs.Rows.{rows, row_at, length_list_of}
use Rattle.scratch_view.specs.View.{limit_of, signal_column, bit_at, known, net_word, is_whole, free, Marks}
use Rattle.scratch_view.specs.Laws.{whole_none, whole_some, read_whole}
use Rattle.scratch_view.specs.Drivers.{driver_inside}
use Rattle.law_accepted.specs.Formed.{readable}
use Rattle.std.specs.Prelude as code
use Rattle.std.specs.Prelude.{Some, None, Ok, Err, IsErr, IsErrAnd}
use Rattle.walk_view.specs.Refusals.{Lowered}
use Rattle.walk_view.specs.declared.Refusal.TheVariants.{Undriven, Loop, Reset, TooManyNets, ListFull}
use Rattle.walk_view.specs.Met.{met, AllMet, Grows, grows_mark, grows_signal, meets_signal}
use Rattle.walk_view.specs.View.{walk_state, Ready, Sure, There, out_of, Builds, rank_of, cost_of, Gives}
use Rattle.walk_invariant.specs.Sure.{sure_done, sure_marks}
use Rattle.walk_plan.specs.declared.Need.{Need}
use Rattle.walk_plan.specs.declared.Need.TheVariants.{Bit, Whole, Range}
use Rattle.walk_plan.specs.Plan.{needs_of, step_needs, whole_needs, range_rest}
use Rattle.walk_plan.specs.Kinds.{range_begins}
use Rattle.walk_plan.specs.Fits.{AllFit, whole_fits, range_fits}
use Rattle.walk_recursion.specs.declared.Part.{Part}
use Rattle.walk_recursion.specs.declared.Part.TheVariants as P
use Rattle.walk_left.specs.declared.Left.{Left}
use Rattle.walk_left.specs.Needs.{lower_needs, NeedsMet}
use Rattle.walk_left.specs.Left.{Skips, LeftOf, whole_rest, FirstTurn, driven, Keeps}
use Rattle.walk_view.specs.declared.Refusal.{Refusal}
use Rattle.walk_recursion.specs.Walk.{ThereNeed, GivesNeed, cost_need, LoopAt, WholeLoop, RangeLoop, need_of, At, Below, Next, After}
use Rattle.walk_view.specs.Stores.{stored_ready, stored_kept, stored_state, stored_grows, kept_same, kept_then}
use Rattle.walk_view.specs.Answers.{Refused, out, not_done}
use Rattle.walk_recursion.proofs.Steps.{needs_none, needs_on, needs_out, all_needs, need_suc, whole_there, whole_open, range_there, range_open, bit_there, bit_undriven, bit_loop, bit_driven_law}

-- ---- a net that may be there ----

pub there_is : (o : code.Option ℕ) → code.is_some o ≡ true → (n : ℕ) × (option_of o ≡ some n)
there_is (Some n) e = (n, refl)
there_is None e = absurd (true≢false (sym e))

pub none_is : (o : code.Option ℕ) → code.is_some o ≡ false → option_of o ≡ none
none_is (Some n) e = absurd (true≢false e)
none_is None e = refl

pub enough : (model : ℕ → Out State) (cost : ℕ) (x : Out State) → ((f : ℕ) → cost ≤ f → model (suc f) ≡ x) → (f : ℕ) → cost < f → model f ≡ x
enough model cost x g zero h = absurd (omega arith)
enough model cost x g (suc f) h = g f (omega arith)

-- what costs less
pub less : (s w w₁ : List ℕ) (n n₁ : M.Need) → free s w₁ ≤ free s w → rank_of n₁ < rank_of n → cost_of s w₁ n₁ < cost_of s w n
less s w w₁ n n₁ h r =
    let m : free s w₁ * (2 * count_at_of s 1 + 1) ≤ free s w * (2 * count_at_of s 1 + 1) = mul-le-mul_right (2 * count_at_of s 1 + 1) h in
    omega arith

-- ---- what is left to lower ----

module _ (s net w : List ℕ) (n₀ : M.Need) (ss : List Step) (cont : State → Out State) (r : Ready s net w) (sure : Sure s net w) where
  pub loop_start : ((f : ℕ) → lower_by (λ n st. lower_need f (decode s) false n st) (decode s) false n₀ (walk_state s net w)
      ≡ and_then (lower_needs (λ n st. lower_need f (decode s) false n st) (step_needs ss) (walk_state s net w)) cont)
      → AllFit s (rank_of n₀) (step_needs ss) → LoopAt s net w n₀ ss cont (step_needs ss) net w
  loop_start open-it fits = record {
    says = λ f h. need_suc f (decode s) n₀ (walk_state s net w) ∙ open-it f;
    ready = r;
    sure = sure;
    kept = kept_same s net w;
    grows = λ n m. m;
    done_then = λ st g m. all_needs st ss m;
    fits = fits;
  }

module _ (s net₀ w₀ : List ℕ) (n₀ : M.Need) (all : List Step) (cont : State → Out State) (rest rest₁ : List M.Need) (net w net₁ w₁ : List ℕ)
    (h : LoopAt s net₀ w₀ n₀ all cont rest net w) where
  -- one need, lowered
  module _ (n : M.Need) (x : Lowered) (split : rest ≡ n ∷ rest₁) (g : Gives s net w n x net₁ w₁) where
    fits_here : AllFit s (rank_of n₀) (n ∷ rest₁)
    fits_here = subst (AllFit s (rank_of n₀)) split h.fits

    said : (f : ℕ) → cost_of s w₀ n₀ ≤ f → lower_need f (decode s) false n (walk_state s net w) ≡ out_of x (walk_state s net₁ w₁)
    said f c = let l = less s w₀ w n₀ n h.kept.fewer fits_here.0.1 in g.says f (omega arith)

    turn_one : x ≡ Ok tt → LoopAt s net₀ w₀ n₀ all cont rest₁ net₁ w₁
    turn_one d = record {
      says = λ f c.
          h.says f c
          ∙ ap (λ (z : Out State). and_then z cont)
          (needs_on (λ n st. lower_need f (decode s) false n st) rest rest₁ n (walk_state s net w) (walk_state s net₁ w₁) split (said f c ∙ ap (λ (y : Lowered). out_of y (walk_state s net₁ w₁)) d));
      ready = g.ready;
      sure = sure_done s net w net₁ w₁ n x d h.ready.accepted h.sure fits_here.0.0 g;
      kept = kept_then s net₀ w₀ net w net₁ w₁ h.kept g.kept;
      grows = λ y m. g.grows y (h.grows y m);
      done_then = λ st k m. h.done_then st (λ y q. k y (g.grows y q)) (subst (NeedsMet st) (sym split) (k n (g.meets d), m));
      fits = fits_here.1;
    }

    refused_one : Refused x → Gives s net₀ w₀ n₀ x net₁ w₁
    refused_one q = record {
      says = enough (λ f. lower_need f (decode s) false n₀ (walk_state s net₀ w₀)) _ _ (λ f c.
          h.says f c
          ∙ ap (λ (z : Out State). and_then z cont)
          (needs_out (λ n st. lower_need f (decode s) false n st) rest rest₁ n (walk_state s net w) (walk_state s net₁ w₁) x split (said f c) q)
          ∙ out x q cont (walk_state s net₁ w₁) (walk_state s net₁ w₁));
      ready = g.ready;
      kept = kept_then s net₀ w₀ net w net₁ w₁ h.kept g.kept;
      meets = λ d. not_done x q d;
      grows = λ y m. g.grows y (h.grows y m);
    }

  nothing_on : rest ≡ rest₁ → net₁ ≡ net → w₁ ≡ w → LoopAt s net₀ w₀ n₀ all cont rest₁ net₁ w₁
  nothing_on e a b = rw (← e, a, b) h

  pub loop_turn : (n : code.Option Need) (x : Lowered) → rest ≡ needs_of n ++ rest₁ → GivesNeed s net w n x net₁ w₁ → x ≡ Ok tt → LoopAt s net₀ w₀ n₀ all cont rest₁ net₁ w₁
  loop_turn (Some (Bit p b)) x e g d = turn_one (M.Bit p b) x e g d
  loop_turn (Some (Whole a)) x e g d = turn_one (M.Whole a) x e g d
  loop_turn (Some (Range a l k)) x e g d = turn_one (M.Range a l k) x e g d
  loop_turn None x e g d = nothing_on e g.1 g.2

  pub loop_out : (n : code.Option Need) (x : Lowered) → rest ≡ needs_of n ++ rest₁ → GivesNeed s net w n x net₁ w₁ → Refused x → Gives s net₀ w₀ n₀ x net₁ w₁
  loop_out (Some (Bit p b)) x e g q = refused_one (M.Bit p b) x e g q
  loop_out (Some (Whole a)) x e g q = refused_one (M.Whole a) x e g q
  loop_out (Some (Range a l k)) x e g q = refused_one (M.Range a l k) x e g q
  loop_out None x e g q = not_done x q g.0

  -- the call for a need is in the image and costs less
  pub need_there : (n : code.Option Need) → rest ≡ needs_of n ++ rest₁ → ThereNeed s n
  need_there (Some (Bit p b)) e = (subst (AllFit s (rank_of n₀)) e h.fits).0.0
  need_there (Some (Whole a)) e = (subst (AllFit s (rank_of n₀)) e h.fits).0.0
  need_there (Some (Range a l k)) e = (subst (AllFit s (rank_of n₀)) e h.fits).0.0
  need_there None e = tt

  pub need_less : (n : code.Option Need) → 0 < rank_of n₀ → rest ≡ needs_of n ++ rest₁ → cost_need s w n < cost_of s w₀ n₀
  need_less (Some (Bit p b)) z e = let l = less s w₀ w n₀ (M.Bit p b) h.kept.fewer (subst (AllFit s (rank_of n₀)) e h.fits).0.1 in omega arith
  need_less (Some (Whole a)) z e = let l = less s w₀ w n₀ (M.Whole a) h.kept.fewer (subst (AllFit s (rank_of n₀)) e h.fits).0.1 in omega arith
  need_less (Some (Range a l k)) z e = let l = less s w₀ w n₀ (M.Range a l k) h.kept.fewer (subst (AllFit s (rank_of n₀)) e h.fits).0.1 in omega arith
  need_less None z e = omega arith

  pub loop_met : rest ≡ [] → AllMet (walk_state s net w) all
  loop_met e = h.done_then (walk_state s net w) (λ y m. m) (subst (NeedsMet (walk_state s net w)) (sym e) tt)

  pub loop_end : (r : Lowered) → rest ≡ [] → Builds (cont (walk_state s net w)) s net w n₀ r net₁ w₁ → Gives s net₀ w₀ n₀ r net₁ w₁
  loop_end r e b = record {
    says = enough (λ f. lower_need f (decode s) false n₀ (walk_state s net₀ w₀)) _ _ (λ f c.
        h.says f c ∙ ap (λ (z : Out State). and_then z cont) (needs_none (λ n st. lower_need f (decode s) false n st) rest (walk_state s net w) e) ∙ b.says);
    ready = b.ready;
    kept = kept_then s net₀ w₀ net w net₁ w₁ h.kept b.kept;
    meets = b.meets;
    grows = λ y m. b.grows y (h.grows y m);
  }

-- ---- what is there already ----

module _ (s net w : List ℕ) (n : M.Need) (r : Ready s net w) where
  there : ((f : ℕ) → lower_by (λ n' st. lower_need f (decode s) false n' st) (decode s) false n (walk_state s net w) ≡ done (walk_state s net w))
      → met (walk_state s net w) n ≡ true → Gives s net w n (Ok tt) net w
  there a m = record {
    says = enough (λ f. lower_need f (decode s) false n (walk_state s net w)) _ _ (λ f c. need_suc f (decode s) n (walk_state s net w) ∙ a f);
    ready = r;
    kept = kept_same s net w;
    meets = λ d. m;
    grows = λ y q. q;
  }

  stops : (x : Lowered) → Refused x → ((f : ℕ) → lower_by (λ n' st. lower_need f (decode s) false n' st) (decode s) false n (walk_state s net w) ≡ out_of x (walk_state s net w))
      → Gives s net w n x net w
  stops x q a = record {
    says = enough (λ f. lower_need f (decode s) false n (walk_state s net w)) _ _ (λ f c. need_suc f (decode s) n (walk_state s net w) ∙ a f);
    ready = r;
    kept = kept_same s net w;
    meets = λ d. not_done x q d;
    grows = λ y m. m;
  }

module _ (s net w : List ℕ) (e : ℕ) (r : Ready s net w) (h : e < count_at_of s 1) where
  whole_yes : is_whole s (limit_of w) w e ≡ true → whole (walk_state s net w) e ≡ some (list_of (expr_width s e) (λ b. net_word (get_or w (bit_at s (limit_of w) e b) 0)))
  whole_yes t = read_whole s (limit_of w) _ w e h ∙ whole_some s (limit_of w) w e t

  pub whole_not : is_whole s (limit_of w) w e ≡ false → whole (walk_state s net w) e ≡ none
  whole_not t = read_whole s (limit_of w) _ w e h ∙ whole_none s (limit_of w) w e t

  pub whole_known : is_whole s (limit_of w) w e ≡ true → Gives s net w (M.Whole e) (Ok tt) net w
  unfolding met
  whole_known t = there s net w (M.Whole e) r (λ f. whole_there _ (decode s) e (walk_state s net w) _ (whole_yes t)) (ap is_some (whole_yes t))

  -- a whole expression that is met is whole in the table
  pub met_whole : met (walk_state s net w) (M.Whole e) ≡ true → is_whole s (limit_of w) w e ≡ true
  unfolding met
  met_whole m = go (is_whole s (limit_of w) w e) refl
    where
      go : (t : Bool) → is_whole s (limit_of w) w e ≡ t → t ≡ true
      go true q = refl
      go false q = absurd (true≢false (sym m ∙ ap is_some (whole_not q)))

pub range_known_law : (s net w : List ℕ) (e lsb k : ℕ) → Ready s net w → range_known (walk_state s net w) e lsb k ≡ true → Gives s net w (M.Range e lsb k) (Ok tt) net w
unfolding met
range_known_law s net w e lsb k r t = there s net w (M.Range e lsb k) r (λ f. range_there _ (decode s) e lsb k (walk_state s net w) t) t

-- a range that is not known has a bit
pub range_some : (st : State) (e lsb k : ℕ) → range_known st e lsb k ≡ false → 1 ≤ k
unfolding range_known
range_some st e lsb zero t = go (whole st e) t
  where
    go : (o : Option (List ℕ)) → known_by o [] ≡ false → 1 ≤ 0
    go none t = absurd (true≢false t)
    go (some ns) t = absurd (true≢false t)
range_some st e lsb (suc k) t = omega arith

-- ---- a signal's bit ----

-- the rows of signal bits are as long as the signals are many and wide
rows_length : {A : Type 0} (f : ℕ → ℕ) (k : ℕ) (g : ℕ → A) → length (rows f k g) ≡ k
unfolding rows
rows_length f k g = length_list_of k _

abbrev known_at : List ℕ → ℕ → Option ℕ
known_at w j = known (get_or w (signal_column (limit_of w) + j) 0)

bit_met : (s net w : List ℕ) (p b : ℕ) → p < count_at_of s 0 → b < signal_width s p → (n : ℕ) → met (set_signal_bit (walk_state s net w) p b n) (M.Bit p b) ≡ true
bit_met s net w p b hp hb n =
    meets_signal (walk_state s net w) p b n (rw (rows_length (signal_width s) (count_at_of s 0) (known_at w)) hp)
    (rw (row_at (signal_width s) (count_at_of s 0) (known_at w) p hp, length_list_of (signal_width s p) (λ j. known_at w (sum_to (signal_width s) p + j))) hb)

module _ (s net w : List ℕ) (p b : ℕ) (r : Ready s net w) (hp : p < count_at_of s 0) (hb : b < signal_width s p) where
  pub bit_known : (n : ℕ) → signal_bit (walk_state s net w) p b ≡ some n → Gives s net w (M.Bit p b) (Ok tt) net w
  unfolding met
  bit_known n k = there s net w (M.Bit p b) r (λ f. bit_there _ (decode s) p b (walk_state s net w) n k) (ap is_some k)

  module _ (k : signal_bit (walk_state s net w) p b ≡ none) where
    pub bit_none : driver_of (decode s) p b ≡ none → Gives s net w (M.Bit p b) (Err (Undriven p b)) net w
    bit_none d = stops s net w (M.Bit p b) r (Err (Undriven p b)) tt (λ f. bit_undriven _ (decode s) p b (walk_state s net w) k d)

    module _ (e o : ℕ) (d : driver_of (decode s) p b ≡ some (e, o)) where
      pub driver_there : (e < count_at_of s 1) × (o < expr_width s e)
      driver_there = let i = rw d at (driver_inside s p b r.laid.image) in (i.0, i.1.0)

      pub bit_marked : cell false (walk_state s net w).resolving p b ≡ true → Gives s net w (M.Bit p b) (Err (Loop p b)) net w
      bit_marked c = stops s net w (M.Bit p b) r (Err (Loop p b)) tt (λ f. bit_loop _ (decode s) p b (walk_state s net w) e o k d c)

      module _ (w₁ : List ℕ) (c : cell false (walk_state s net w).resolving p b ≡ false) (mk : Marks s p b w w₁) (long₁ : length w₁ ≡ length w) where
        pub marked_ready : Ready s net w₁
        marked_ready = stored_ready _ s net w w₁ r mk.writes long₁

        pub marked_sure : Sure s net w → Sure s net w₁
        marked_sure i = sure_marks s net w w₁ p b mk.writes i

        pub marked_less : cost_of s w₁ (M.Whole e) < cost_of s w (M.Bit p b)
        marked_less =
            let f : suc (free s w₁) ≡ free s w = mk.falls c in
            let q : suc (free s w₁) * (2 * count_at_of s 1 + 1) ≡ 2 * count_at_of s 1 + 1 + free s w₁ * (2 * count_at_of s 1 + 1) = suc-mul (free s w₁) (2 * count_at_of s 1 + 1) ∙ omega arith in
            let m : free s w * (2 * count_at_of s 1 + 1) ≡ 2 * count_at_of s 1 + 1 + free s w₁ * (2 * count_at_of s 1 + 1) = ap (λ (u : ℕ). u * (2 * count_at_of s 1 + 1)) (sym f) ∙ q in
            let z = driver_there.0 in
            omega arith

        module _ (x r' : Lowered) (net₂ w₂ w₃ : List ℕ) (g : Gives s net w₁ (M.Whole e) x net₂ w₂) (kp : Keeps s w₂ p b e o x r' w₃) (long₃ : length w₃ ≡ length w₂) where
          driven_out : and_then (out_of x (walk_state s net₂ w₂)) (λ st₁. done (set_signal_bit st₁ p b (whole_net st₁ e o))) ≡ out_of x (driven x p b e o (walk_state s net₂ w₂))
          driven_out = all_ways x
            where
              all_ways : (y : Lowered) → and_then (out_of y (walk_state s net₂ w₂)) (λ st₁. done (set_signal_bit st₁ p b (whole_net st₁ e o))) ≡ out_of y (driven y p b e o (walk_state s net₂ w₂))
              all_ways (Ok u) = refl
              all_ways (Err (Undriven q j)) = refl
              all_ways (Err (Loop q j)) = refl
              all_ways (Err (Reset q j)) = refl
              all_ways (Err TooManyNets) = refl
              all_ways (Err ListFull) = refl

          driven_grows : (y : Lowered) → Grows (walk_state s net₂ w₂) (driven y p b e o (walk_state s net₂ w₂))
          driven_grows (Ok u) = grows_signal (walk_state s net₂ w₂) p b (whole_net (walk_state s net₂ w₂) e o)
          driven_grows (Err r) = λ n m. m

          pub bit_lowered : Gives s net w (M.Bit p b) r' net₂ w₃
          bit_lowered =
              let st = stored_state _ s net₂ w₂ w₃ g.ready kp.writes long₃ in
              record {
                says = enough (λ f. lower_need f (decode s) false (M.Bit p b) (walk_state s net w)) _ _ (λ f q.
                    let l = marked_less in
                    need_suc f (decode s) (M.Bit p b) (walk_state s net w)
                    ∙ bit_driven_law _ (decode s) p b (walk_state s net w) e o k d c
                    ∙ ap (λ (z : State). and_then (lower_need f (decode s) false (M.Whole e) z) (λ st₁. done (set_signal_bit st₁ p b (whole_net st₁ e o)))) (sym (stored_state _ s net w w₁ r mk.writes long₁))
                    ∙ ap (λ (z : Out State). and_then z (λ st₁. done (set_signal_bit st₁ p b (whole_net st₁ e o)))) (g.says f (omega arith))
                    ∙ driven_out ∙ ap (out_of x) (sym st) ∙ ap (λ (y : Lowered). out_of y (walk_state s net₂ w₃)) (sym kp.same));
                ready = stored_ready _ s net₂ w₂ w₃ g.ready kp.writes long₃;
                kept = kept_then s net w net w₁ net₂ w₃ (stored_kept _ s net w w₁ r mk.writes long₁)
                    (kept_then s net w₁ net₂ w₂ net₂ w₃ g.kept (stored_kept _ s net₂ w₂ w₃ g.ready kp.writes long₃));
                meets = λ q. ap (λ (z : State). met z (M.Bit p b)) st ∙ met_now x (sym kp.same ∙ q);
                grows = λ n m. stored_grows _ s net₂ w₂ w₃ g.ready kp.writes long₃ (driven_grows x) n
                    (g.grows n (stored_grows _ s net w w₁ r mk.writes long₁ (grows_mark (walk_state s net w) p b) n m));
              }
            where
              met_now : (y : Lowered) → y ≡ Ok tt → met (driven y p b e o (walk_state s net₂ w₂)) (M.Bit p b) ≡ true
              met_now y q = rw q (bit_met s net₂ w₂ p b hp hb (whole_net (walk_state s net₂ w₂) e o))

-- ---- needs that are met are passed over ----

met_gives : (s net w : List ℕ) (n : M.Need) → Ready s net w → There s n → met (walk_state s net w) n ≡ true → Gives s net w n (Ok tt) net w
unfolding met
met_gives s net w (M.Bit p b) r h m = go (signal_bit (walk_state s net w) p b) refl
  where
    go : (o : Option ℕ) → signal_bit (walk_state s net w) p b ≡ o → Gives s net w (M.Bit p b) (Ok tt) net w
    go none e = absurd (true≢false (sym m ∙ ap is_some e))
    go (some n) e = bit_known s net w p b r h.0 h.1 n e
met_gives s net w (M.Whole e) r h m = whole_known s net w e r h (met_whole s net w e r h m)
met_gives s net w (M.Range e lsb k) r h m = range_known_law s net w e lsb k r m

module _ (s net₀ w₀ : List ℕ) (n₀ : M.Need) (all : List Step) (cont : State → Out State) (net w : List ℕ) where
  pass : (ms rest rest₁ : List M.Need) → LoopAt s net₀ w₀ n₀ all cont rest net w → rest ≡ ms ++ rest₁ → NeedsMet (walk_state s net w) ms
      → LoopAt s net₀ w₀ n₀ all cont rest₁ net w
  pass [] rest rest₁ h e m = subst (λ (l : List M.Need). LoopAt s net₀ w₀ n₀ all cont l net w) e h
  pass (x ∷ ms) rest rest₁ h e m =
      let there-it = (subst (AllFit s (rank_of n₀)) e h.fits).0.0 in
      pass ms (ms ++ rest₁) rest₁ (turn_one s net₀ w₀ n₀ all cont rest (ms ++ rest₁) net w net w h x (Ok tt) e (met_gives s net w x h.ready there-it m.0) refl) refl m.1

  pub loop_pass : (rest rest₁ : List M.Need) → LoopAt s net₀ w₀ n₀ all cont rest net w → Skips s w rest rest₁ → LoopAt s net₀ w₀ n₀ all cont rest₁ net w
  loop_pass rest rest₁ h k = pass k.skipped rest rest₁ h k.split (k.known _)

-- ---- the loops' starts ----

module _ (s net w : List ℕ) (e : ℕ) (r : Ready s net w) (i : Sure s net w) (h : e < count_at_of s 1) where
  pub whole_start : is_whole s (limit_of w) w e ≡ false
      → LoopAt s net w (M.Whole e) (whole_steps (exprs_of s) e) (λ st₁. keep_whole st₁ e (build_whole (exprs_of s) false st₁ e)) (drop 0 (whole_needs s e)) net w
  unfolding whole_needs
  whole_start t =
      loop_start s net w (M.Whole e) (whole_steps (exprs_of s) e) (λ st₁. keep_whole st₁ e (build_whole (exprs_of s) false st₁ e)) r i
      (λ f. whole_open (λ n st. lower_need f (decode s) false n st) (decode s) e (walk_state s net w) (whole_not s net w e r h t)) (whole_fits s r.accepted e h)

  pub range_start : (lsb k : ℕ) → lsb + k ≤ expr_width s e → range_known (walk_state s net w) e lsb k ≡ false
      → LoopAt s net w (M.Range e lsb k) (range_steps_of (exprs_of s) e lsb k) (λ st₁. keep_range st₁ e lsb (build_range (exprs_of s) false st₁ e lsb k)) (range_rest s e lsb k 0 0) net w
  range_start lsb k room t =
      let b = range_begins s (readable s r.accepted) e lsb k h in
      subst (λ (rest : List M.Need). LoopAt s net w (M.Range e lsb k) (range_steps_of (exprs_of s) e lsb k) (λ st₁. keep_range st₁ e lsb (build_range (exprs_of s) false st₁ e lsb k)) rest net w) b
      (loop_start s net w (M.Range e lsb k) (range_steps_of (exprs_of s) e lsb k) (λ st₁. keep_range st₁ e lsb (build_range (exprs_of s) false st₁ e lsb k)) r i
      (λ f. range_open (λ n st. lower_need f (decode s) false n st) (decode s) e lsb k (walk_state s net w) t)
      (subst (AllFit s (2 * e + 2)) (sym b) (range_fits s r.accepted e lsb k h room)))

-- ---- turns ----

module _ (s net₀ w₀ : List ℕ) (e k at : ℕ) (net w : List ℕ) (h : At s net₀ w₀ (P.Whole e) k at net w) (r : Bool) (f : FirstTurn k r (is_whole s (limit_of w) w e)) where
  pub whole_over : r ≡ true → Gives s net₀ w₀ (M.Whole e) (Ok tt) net w
  whole_over t = go k refl
    where
      go : (j : ℕ) → k ≡ j → Gives s net₀ w₀ (M.Whole e) (Ok tt) net w
      go zero z = rw ((h.first z).0, (h.first z).1) (whole_known s net w e h.ready h.there (sym (f.0 z) ∙ t))
      go (suc j) z = absurd (true≢false (sym t ∙ f.1 (omega arith)))

  pub whole_left : r ≡ false → WholeLoop s net₀ w₀ e (drop k (whole_needs s e)) net w
  whole_left t = go k refl
    where
      go : (j : ℕ) → k ≡ j → WholeLoop s net₀ w₀ e (drop k (whole_needs s e)) net w
      go zero z = rw ((h.first z).0, (h.first z).1, z) (whole_start s net w e h.ready h.sure h.there (sym (f.0 z) ∙ t))
      go (suc j) z = h.later (omega arith)

pub whole_below : (s net₀ w₀ : List ℕ) (e k : ℕ) (net w : List ℕ) (x : Left) → WholeLoop s net₀ w₀ e (drop k (whole_needs s e)) net w
    → LeftOf s w (whole_rest s e) k 0 (Some x) → Below s net₀ w₀ (P.Whole e) k x.need x.next x.at net w
whole_below s net₀ w₀ e k net w x l left =
    let h = loop_pass s net₀ w₀ (M.Whole e) _ _ net w _ _ l left.0 in
    record {
      ready = h.ready;
      sure = h.sure;
      there = need_there s net₀ w₀ (M.Whole e) _ _ _ _ net w net w h x.need refl;
      place = left.3;
      further = left.1;
      small = left.2;
      less = need_less s net₀ w₀ (M.Whole e) _ _ _ _ net w net w h x.need (omega arith) refl;
      on = λ y net₁ w₁ g d. loop_turn s net₀ w₀ (M.Whole e) _ _ _ _ net w net₁ w₁ h x.need y refl g d;
      out = λ y net₁ w₁ g q. loop_out s net₀ w₀ (M.Whole e) _ _ _ (drop x.next (whole_needs s e)) net w net₁ w₁ h x.need y refl g q;
    }

module _ (s net₀ w₀ : List ℕ) (e lsb n k at : ℕ) (net w : List ℕ) (h : At s net₀ w₀ (P.Range e lsb n) k at net w) (r : Bool)
    (f : FirstTurn k r (range_known (walk_state s net w) e lsb n)) where
  pub range_over : r ≡ true → Gives s net₀ w₀ (M.Range e lsb n) (Ok tt) net w
  range_over t = go k refl
    where
      go : (j : ℕ) → k ≡ j → Gives s net₀ w₀ (M.Range e lsb n) (Ok tt) net w
      go zero z = rw ((h.first z).0, (h.first z).1) (range_known_law s net w e lsb n h.ready (sym (f.0 z) ∙ t))
      go (suc j) z = absurd (true≢false (sym t ∙ f.1 (omega arith)))

  pub range_left : r ≡ false → RangeLoop s net₀ w₀ e lsb n (range_rest s e lsb n k at) net w × (1 ≤ n)
  range_left t = go k refl
    where
      go : (j : ℕ) → k ≡ j → RangeLoop s net₀ w₀ e lsb n (range_rest s e lsb n k at) net w × (1 ≤ n)
      go zero z =
          let a : at ≡ 0 = omega (arith, h.place) in
          let u = sym (f.0 z) ∙ t in
          (rw ((h.first z).0, (h.first z).1, z, a) (range_start s net w e h.ready h.sure h.there.0 lsb n h.there.1 u), range_some (walk_state s net w) e lsb n u)
      go (suc j) z = h.later (omega arith)

pub range_below : (s net₀ w₀ : List ℕ) (e lsb m k at : ℕ) (net w : List ℕ) (x : Left) → RangeLoop s net₀ w₀ e lsb m (range_rest s e lsb m k at) net w × (1 ≤ m)
    → LeftOf s w (range_rest s e lsb m) k at (Some x) → Below s net₀ w₀ (P.Range e lsb m) k x.need x.next x.at net w
range_below s net₀ w₀ e lsb m k at net w x l left =
    let h = loop_pass s net₀ w₀ (M.Range e lsb m) _ _ net w _ _ l.0 left.0 in
    record {
      ready = h.ready;
      sure = h.sure;
      there = need_there s net₀ w₀ (M.Range e lsb m) _ _ _ _ net w net w h x.need refl;
      place = left.3;
      further = left.1;
      small = left.2;
      less = need_less s net₀ w₀ (M.Range e lsb m) _ _ _ _ net w net w h x.need (omega arith) refl;
      on = λ y net₁ w₁ g d. (loop_turn s net₀ w₀ (M.Range e lsb m) _ _ _ _ net w net₁ w₁ h x.need y refl g d, l.1);
      out = λ y net₁ w₁ g q. loop_out s net₀ w₀ (M.Range e lsb m) _ _ _ (range_rest s e lsb m x.next x.at) net w net₁ w₁ h x.need y refl g q;
    }

-- a refusal that is passed on
pub turn_refused : (s net₀ w₀ : List ℕ) (part : Part) (k : ℕ) (r : Next) (e : Refusal) (net w : List ℕ) → IsErr r × IsErrAnd r (λ y. y ≡ e)
    → Gives s net₀ w₀ (need_of part) (Err e) net w → After s net₀ w₀ part k r net w
turn_refused s net₀ w₀ part k (Ok x) e net w h g = absurd h.1
turn_refused s net₀ w₀ part k (Err y) e net w h g = subst (λ (y : Refusal). Gives s net₀ w₀ (need_of part) (Err y) net w) (sym h.1) g

-- where a part begins plays no part
pub whole_at_law : (s net₀ w₀ : List ℕ) (e k at : ℕ) (net w : List ℕ) → At s net₀ w₀ (P.Whole e) k at net w → At s net₀ w₀ (P.Whole e) k 0 net w
whole_at_law s net₀ w₀ e k at net w h = record {
  ready = h.ready;
  sure = h.sure;
  there = h.there;
  net_long = h.net_long;
  long = h.long;
  place = omega arith;
  first = h.first;
  later = h.later;
}

pub turn_start : (s net w : List ℕ) (part : Part) → Ready s net w → Sure s net w → There s (need_of part) → At s net w part 0 0 net w
turn_start s net w part r i h = record {
  ready = r;
  sure = i;
  there = h;
  net_long = refl;
  long = refl;
  place = omega arith;
  first = λ z. (refl, refl);
  later = λ z. absurd (omega arith);
}

-- what a call for a need leaves
need_ready : (s net w : List ℕ) (n : code.Option Need) (x : Lowered) (net₁ w₁ : List ℕ) → Ready s net w → GivesNeed s net w n x net₁ w₁ → Ready s net₁ w₁
need_ready s net w (Some (Bit p b)) x net₁ w₁ r g = g.ready
need_ready s net w (Some (Whole e)) x net₁ w₁ r g = g.ready
need_ready s net w (Some (Range e lsb k)) x net₁ w₁ r g = g.ready
need_ready s net w None x net₁ w₁ r g = rw (g.1, g.2) r

need_sure : (s net w : List ℕ) (n : code.Option Need) (x : Lowered) (net₁ w₁ : List ℕ) → Ready s net w → Sure s net w → ThereNeed s n → GivesNeed s net w n x net₁ w₁ → x ≡ Ok tt → Sure s net₁ w₁
need_sure s net w (Some (Bit p b)) x net₁ w₁ r i h g d = sure_done s net w net₁ w₁ (M.Bit p b) x d r.accepted i h g
need_sure s net w (Some (Whole e)) x net₁ w₁ r i h g d = sure_done s net w net₁ w₁ (M.Whole e) x d r.accepted i h g
need_sure s net w (Some (Range e lsb k)) x net₁ w₁ r i h g d = sure_done s net w net₁ w₁ (M.Range e lsb k) x d r.accepted i h g
need_sure s net w None x net₁ w₁ r i h g d = rw (g.1, g.2) i

pub turn_next : (s net₀ w₀ : List ℕ) (part : Part) (k : ℕ) (n : code.Option Need) (k₁ at : ℕ) (net w : List ℕ) → There s (need_of part) → Below s net₀ w₀ part k n k₁ at net w
    → (x : Lowered) (net₁ w₁ : List ℕ) → GivesNeed s net w n x net₁ w₁ → x ≡ Ok tt → length net₁ ≡ length net₀ → length w₁ ≡ length w₀
    → At s net₀ w₀ part k₁ at net₁ w₁
turn_next s net₀ w₀ part k n k₁ at net w t h x net₁ w₁ g d net_long long = record {
  ready = need_ready s net w n x net₁ w₁ h.ready g;
  sure = need_sure s net w n x net₁ w₁ h.ready h.sure h.there g d;
  there = t;
  net_long = net_long;
  long = long;
  place = h.place;
  first = λ z. absurd (omega (arith, h.further));
  later = λ z. h.on x net₁ w₁ g d;
}
