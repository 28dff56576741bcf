-- What is proved of specs/Limits: The limits are met and nothing else: under limits N and P the lowering comes to what it comes to without them, if it makes at most N nets and P list words, and is
-- refused 9 or 10 otherwise. So larger limits turn no answer into a refusal and change no netlist. Assumes nothing.
use Rattle.std.specs.Prelude.{◌≡◌, refl, Bool, true, false, ℕ, ◌<◌, ◌≤◌, leb, length}
use Rattle.std.proofs.Math.Path.{sym, ap}
use Rattle.std.proofs.Common.{◌∙◌, inl, inr, arith, le_refl, leb-true, leb-false}
use Rattle.spec_rtl.specs.Rtl.{Module}
use Rattle.spec_model.specs.Words.{Netlist, used}
use Rattle.spec_model.specs.Builder.{Out, refused, done}
use Rattle.spec_model.specs.Lowering.{lower_with, lower}
use Rattle.spec_answers.specs.Limits.{Content, content, netlist, limited, under, Freely}
use Rattle.law_limits.specs.Bounds.{lists}
use Rattle.law_limits.proofs.Bounds.{fits, few, short}
use Rattle.law_limits.proofs.Bounds.{ends, Ended, Comes, Bounds}
use Rattle.law_limits.specs.Larger.{done_is, refused_is, not_done}
use Rattle.law_limits.proofs.Larger.{for_nets, for_words, at_end, for_nets_law, for_words_law, for_either, answer, refusal, larger, larger_refused}
use Rattle.law_limits.proofs.Larger.{enough, same_size}
use Rattle.law_limits.proofs.Phases.{netlist_limits}
use Rattle.law_limits.specs.Limits.{free, free_under, under_done}

under_free : (N P : ℕ) (o : Out Netlist) → ends lists N P o ≡ under N P (free o)
under_free N P (refused k x y) = refl
under_free N P (done l) = refl

ends_under : (N P : ℕ) (o : Out Content) → under N P o ≡ ends lists N P (under 0 0 o)
ends_under N P (refused k x y) = refl
ends_under N P (done c) = refl

module _ {F : ℕ → ℕ → Out Netlist} where
  pub freely : Bounds lists 0 0 F → Freely F
  freely b = record {
    end = free b.end;
    nets = b.nets;
    words = b.words;
    counted = λ c e. count b.end b.ended c e;
    only = λ k x y e. other b.end b.ended k x y e;
    enough = λ N P h i. enough lists b N P h i ∙ under_free N P b.end;
    few = λ N P h i. for_nets_law lists b N P (omega arith) (omega arith) h i;
    short = λ N P h i. for_words_law lists b N P (omega arith) (omega arith) h i;
    both = λ N P h i. for_either lists b N P (omega arith) (omega arith) h i;
  }
    where
      count : (o : Out Netlist) → Ended lists b.nets b.words o → (c : Content) → free o ≡ done c → (b.nets ≡ length c.0) × (b.words ≡ used c.1)
      count (refused k x y) h c e = absurd (not_done e)
      count (done l) h c e = (h.0 ∙ ap (λ (d : Content). length d.0) (done_is e), h.1 ∙ ap (λ (d : Content). used d.1) (done_is e))

      other : (o : Out Netlist) → Ended lists b.nets b.words o → (k x y : ℕ) → free o ≡ refused k x y → (k ≡ 9 → ⊥) × (k ≡ 10 → ⊥)
      other (refused c v w) h k x y e = let r = refused_is e in (λ q. h.0 (r.0 ∙ q), λ q. h.1 (r.0 ∙ q))
      other (done l) h k x y e = absurd (not_done (sym e))

  bounds : Freely F → Bounds lists 0 0 F
  bounds f = record {
    end = under 0 0 f.end;
    nets = f.nets;
    words = f.words;
    more = omega arith;
    longer = omega arith;
    ended = ended f.end refl;
    comes = λ N P h i. comes N P (leb f.nets N) refl (leb f.words P) refl;
  }
    where
      ended : (o : Out Content) → f.end ≡ o → Ended lists f.nets f.words (under 0 0 o)
      ended (refused k x y) e = f.only k x y e
      ended (done c) e = f.counted c e

      comes : (N P : ℕ) (t : Bool) → leb f.nets N ≡ t → (u : Bool) → leb f.words P ≡ u → Comes lists (under 0 0 f.end) f.nets f.words N P (F N P)
      comes N P true d true e =
          let h = leb-true _ _ d in
          let i = leb-true _ _ e in fits h i (f.enough N P h i ∙ ends_under N P f.end)
      comes N P true d false e =
          let h = leb-false _ _ e in
          short h (f.short N P (leb-true _ _ d) h)
      comes N P false d true e =
          let h = leb-false _ _ d in
          few h (f.few N P h (leb-true _ _ e))
      comes N P false d false e =
          let h = leb-false _ _ d in
          let i = leb-false _ _ e in elim (f.both N P h i) [ inl q ↦ few h q | inr q ↦ short i q ]

  -- ---- the plain reading ----

  module _ (f : Freely F) where
    -- accepted exactly if it is without limits, with at most N nets and P list words; the netlist is the same
    pub accepted_if : (N P : ℕ) (c : Content) → f.end ≡ done c → f.nets ≤ N → f.words ≤ P → F N P ≡ done (netlist N P c)
    accepted_if N P c e h i = f.enough N P h i ∙ ap (under N P) e

    pub accepted_only : (N P : ℕ) (l : Netlist) → F N P ≡ done l → (f.end ≡ done (content l)) × (f.nets ≤ N) × (f.words ≤ P) × (l ≡ limited N P l)
    unfolding bounds
    accepted_only N P l e =
        let a = answer lists (bounds f) N P (omega arith) (omega arith) l e in
        let u = under_done N P f.end l (ends_under N P f.end ∙ a.2) in (u.0, a.0, a.1, u.1)

    -- larger limits leave an answer as it is, and a refusal other than 9 and 10
    pub monotone : (N P N' P' : ℕ) (l : Netlist) → F N P ≡ done l → N ≤ N' → P ≤ P' → F N' P' ≡ done (limited N' P' l)
    monotone N P N' P' l e h i = larger lists (bounds f) N P (omega arith) (omega arith) N' P' h i l e

    pub monotone_refused : (N P N' P' k x y : ℕ) → F N P ≡ refused k x y → (k ≡ 9 → ⊥) → (k ≡ 10 → ⊥) → N ≤ N' → P ≤ P' → F N' P' ≡ refused k x y
    monotone_refused N P N' P' k x y e c d h i = larger_refused lists (bounds f) N P (omega arith) (omega arith) N' P' h i k x y c d e

    -- a refusal 9 is for too many nets, 10 for too many list words, and any other is the end, which the limits allow
    pub refused_nets : (N P x y : ℕ) → F N P ≡ refused 9 x y → (N < f.nets) × (x ≡ 0) × (y ≡ 0)
    unfolding bounds
    refused_nets N P x y e =
        elim (refusal lists (bounds f) N P (omega arith) (omega arith) 9 x y e) [
          | for_nets h k i j ↦ (h, i, j)
          | for_words h k i j ↦ absurd (omega arith)
          | at_end h i j k q ↦ absurd (j refl)
        ]

    pub refused_words : (N P x y : ℕ) → F N P ≡ refused 10 x y → (P < f.words) × (x ≡ 0) × (y ≡ 0)
    unfolding bounds
    refused_words N P x y e =
        elim (refusal lists (bounds f) N P (omega arith) (omega arith) 10 x y e) [
          | for_nets h k i j ↦ absurd (omega arith)
          | for_words h k i j ↦ (h, i, j)
          | at_end h i j k q ↦ absurd (k refl)
        ]

    pub refused_other : (N P k x y : ℕ) → F N P ≡ refused k x y → (k ≡ 9 → ⊥) → (k ≡ 10 → ⊥) → (f.end ≡ refused k x y) × (f.nets ≤ N) × (f.words ≤ P)
    unfolding bounds
    refused_other N P k x y e c d =
        elim (refusal lists (bounds f) N P (omega arith) (omega arith) k x y e) [
          | for_nets h q i j ↦ absurd (c q)
          | for_words h q i j ↦ absurd (d q)
          | at_end h i j t q ↦ (sym (free_under 0 0 f.end) ∙ ap free q, h, i)
        ]

  -- there is one such account
  pub one : (f g : Freely F) → (f.end ≡ g.end) × (f.nets ≡ g.nets) × (f.words ≡ g.words)
  unfolding bounds
  one f g =
      let q = same_size lists (bounds f) (bounds g) in
      let e = sym (f.enough f.nets f.words (le_refl _) (le_refl _)) ∙ g.enough f.nets f.words (omega (arith, q.0)) (omega (arith, q.1)) in
      (sym (free_under f.nets f.words f.end) ∙ ap free e ∙ free_under f.nets f.words g.end, q.0, q.1)

-- ---- the lowering ----

-- with either flag, of every module
pub freely_with : (ob : Bool) (m : Module) → Freely (lower_with ob m)
freely_with ob m = freely (netlist_limits ob m)

pub freely_lower : (m : Module) → Freely (lower m)
unfolding lower
freely_lower m = freely_with false m
