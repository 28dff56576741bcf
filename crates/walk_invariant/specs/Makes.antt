-- Where the steps of an expression, or of a range of it, are met, what is made stands for its bits, and the nets made are there.
-- Assumes nothing.
use Rattle.std.specs.Prelude.{◌≡◌, refl, Bool, true, false, List, [], ◌∷◌, ℕ, ◌+◌, ◌*◌, ◌≤◌, ◌<◌}
use Rattle.std.proofs.Common.{sym, subst, true≢false, inr}
use Rattle.std.proofs.Math.Option.{Option, none, some}
use Rattle.spec_tests.specs.Laws.{is_some}
use Rattle.spec_rtl.specs.Ops.{slice_w}
use Rattle.spec_rtl.specs.Rtl.{Valuation, word}
use Rattle.spec_rules.specs.Image.{count_at_of, expr_width, decode}
use Rattle.spec_model.specs.Words.{Netlist}
use Rattle.spec_model.specs.Builder.{Made, done}
use Rattle.spec_model.specs.Lowering.{Need, Bit, Whole, Range, Step, Always, Unless, cell, whole, signal_bit, whole_steps, range_steps_of, build_whole, build_range}
use Rattle.check_image.specs.Accepted.{Accepted}
use Rattle.law_accepted.specs.Formed.{readable}
use Rattle.word_laws.specs.Widths.{AllBelow}
use Rattle.expr_laws.specs.Exprs.{exprs_of}
use Rattle.law_nets.specs.Sound.{count}
use Rattle.net_view.specs.View.{netlist_of}
use Rattle.scratch_view.specs.View.{limit_of}
use Rattle.law_walk.specs.Tables.{Has}
use Rattle.law_walk.specs.Kept.{Table, NetsGive, Makes}
use Rattle.law_walk.specs.Reads.{After, AllAfter}
use Rattle.law_walk.proofs.ReadsLaws.{known_after}
use Rattle.law_walk.proofs.Wholes.{whole_made}
use Rattle.law_walk.proofs.Parts.{range_made}
use Rattle.law_phases.specs.Supply.{supply}
use Rattle.law_module.proofs.Good.{good}
use Rattle.walk_plan.specs.Plan.{step_needs, whole_needs}
use Rattle.walk_plan.specs.Kinds.{range_begins}
use Rattle.walk_plan.specs.Fits.{AllFit, whole_fits, range_fits}
use Rattle.walk_view.specs.Met.{met, AllMet}
use Rattle.walk_view.specs.View.{walk_state, Sure, There}
use Rattle.walk_invariant.specs.Sure.{there_asked}

pub has : {A : Type 0} (o : Option A) → is_some o ≡ true → Has o
has none e = absurd (true≢false (sym e))
has (some a) e = record { value = a; is = refl }

-- the needs of an expression's steps are in the image
module _ (s : List ℕ) (a : Accepted s) (e : ℕ) (h : e < count_at_of s 1) where
  pub whole_there : AllFit s (2 * e + 1) (step_needs (whole_steps (exprs_of s) e))
  unfolding whole_needs
  whole_there = whole_fits s a e h

  pub range_there : (lsb k : ℕ) → lsb + k ≤ expr_width s e → AllFit s (2 * e + 2) (step_needs (range_steps_of (exprs_of s) e lsb k))
  range_there lsb k r = subst (AllFit s (2 * e + 2)) (sym (range_begins s (readable s a) e lsb k h)) (range_fits s a e lsb k h r)

module _ (s net w : List ℕ) (a : Accepted s) (i : Sure s net w) where
  met_after : (n : Need) → There s n → met (walk_state s net w) n ≡ true → After (walk_state s net w) n
  unfolding met signal_bit
  met_after (Bit p b) h m = has (cell none (walk_state s net w).signal_bits p b) m
  met_after (Whole e) h m = has (whole (walk_state s net w) e) m
  met_after (Range e lsb k) h m =
      let q = there_asked s (Range e lsb k) h in
      known_after (decode s) (walk_state s net w) i (good s a).exprs e lsb k q.0 q.1 m

  all_after : (c : ℕ) (ss : List Step) → AllFit s c (step_needs ss) → AllMet (walk_state s net w) ss → AllAfter false (walk_state s net w) ss
  all_after c [] f m = tt
  all_after c (Always n ∷ ss) f m = (met_after n f.0.0 m.0, all_after c ss f.1 m.1)
  all_after c (Unless x v n ∷ ss) f m = (inr (met_after n f.0.0 m.0), all_after c ss f.1 m.1)

  module _ (e : ℕ) (h : e < count_at_of s 1) where
    pub whole_makes : AllMet (walk_state s net w) (whole_steps (exprs_of s) e)
        → Makes (netlist_of (limit_of w) net) (λ ns l. NetsGive l (walk_state s net w).signal_bits ns (λ v. word (exprs_of s) v e)) (build_whole (exprs_of s) false (walk_state s net w) e)
    whole_makes m =
        whole_made supply (decode s) (good s a).exprs false (walk_state s net w) i e (there_asked s (Whole e) h)
        (all_after (2 * e + 1) (whole_steps (exprs_of s) e) (whole_there s a e h) m)

    pub range_makes : (lsb k : ℕ) → lsb + k ≤ expr_width s e → AllMet (walk_state s net w) (range_steps_of (exprs_of s) e lsb k)
        → Makes (netlist_of (limit_of w) net) (λ ns l. NetsGive l (walk_state s net w).signal_bits ns (λ v. slice_w lsb k (word (exprs_of s) v e)))
        (build_range (exprs_of s) false (walk_state s net w) e lsb k)
    range_makes lsb k r m =
        let q = there_asked s (Range e lsb k) (h, r) in
        range_made supply (decode s) (good s a).exprs false (walk_state s net w) i e lsb k q.0 q.1
        (all_after (2 * e + 2) (range_steps_of (exprs_of s) e lsb k) (range_there s a e h lsb k r) m)

-- nets that stand for a word are there
pub makes_below : {l : Netlist} {t : Table} {u : Valuation → List Bool} (o : Made (List ℕ)) (ns : List ℕ) (l' : Netlist)
    → Makes l (λ ks l₁. NetsGive l₁ t ks u) o → o ≡ done (ns, l') → AllBelow (count l') ns
makes_below {l} {t} {u} o ns l' m e = (subst (Makes l (λ ks l₁. NetsGive l₁ t ks u)) e m).makes.post.there
