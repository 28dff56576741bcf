-- What is proved of specs/Larger: What a computation under limits tells of it without, and under larger ones. Assumes nothing.
use Rattle.std.specs.Prelude.{◌≡◌, refl, ◌⊎◌, ℕ, ◌<◌, ◌≤◌}
use Rattle.std.proofs.Common.{sym, ap, ◌∙◌, inl, inr, arith}
use Rattle.spec_model.specs.Builder.{Out, refused, done}
use Rattle.law_limits.specs.Bounds.{Sized}
use Rattle.law_limits.proofs.Bounds.{fits, few, short}
use Rattle.law_limits.proofs.Bounds.{ends, Ended, Bounds}
use Rattle.law_limits.specs.Larger.{done_is, not_done, refused_is}

-- ---- under limits, and without ----

module _ {Y : Type 0} (s : Sized Y) {n p : ℕ} {F : ℕ → ℕ → Out Y} (b : Bounds s n p F) where
  -- where it comes to a refusal: for a limit that is too small, or at its end, which fits
  pub data Refuses (N P k x y : ℕ) : Type 0 where
    for_nets : N < b.nets → k ≡ 9 → x ≡ 0 → y ≡ 0 → Refuses N P k x y
    for_words : P < b.words → k ≡ 10 → x ≡ 0 → y ≡ 0 → Refuses N P k x y
    at_end : b.nets ≤ N → b.words ≤ P → (k ≡ 9 → ⊥) → (k ≡ 10 → ⊥) → b.end ≡ refused k x y → Refuses N P k x y

  -- limits that are large enough, too small for the nets alone, for the list words alone, for both
  pub enough : (N P : ℕ) → b.nets ≤ N → b.words ≤ P → F N P ≡ ends s N P b.end
  enough N P h i =
      elim (b.comes N P (omega (arith, b.more)) (omega (arith, b.longer))) [ fits j k e ↦ e | few j e ↦ absurd (omega arith) | short j e ↦ absurd (omega arith) ]

  module _ (N P : ℕ) (h : n ≤ N) (i : p ≤ P) where
    pub for_nets_law : N < b.nets → b.words ≤ P → F N P ≡ refused 9 0 0
    for_nets_law j k = elim (b.comes N P h i) [ fits t u e ↦ absurd (omega arith) | few t e ↦ e | short t e ↦ absurd (omega arith) ]

    pub for_words_law : b.nets ≤ N → P < b.words → F N P ≡ refused 10 0 0
    for_words_law j k = elim (b.comes N P h i) [ fits t u e ↦ absurd (omega arith) | few t e ↦ absurd (omega arith) | short t e ↦ e ]

    pub for_either : N < b.nets → P < b.words → (F N P ≡ refused 9 0 0) ⊎ (F N P ≡ refused 10 0 0)
    for_either j k = elim (b.comes N P h i) [ fits t u e ↦ absurd (omega arith) | few t e ↦ inl e | short t e ↦ inr e ]

    -- an answer is the end
    pub answer : (y : Y) → F N P ≡ done y → (b.nets ≤ N) × (b.words ≤ P) × (ends s N P b.end ≡ done y)
    answer y e =
        elim (b.comes N P h i) [
          | fits j k q ↦ (j, k, sym q ∙ e)
          | few j q ↦ absurd (not_done (sym q ∙ e))
          | short j q ↦ absurd (not_done (sym q ∙ e))
        ]

    pub refusal : (k x y : ℕ) → F N P ≡ refused k x y → Refuses N P k x y
    refusal k x y e =
        elim (b.comes N P h i) [
          | fits t u q ↦ go t u b.end refl b.ended (sym q ∙ e)
          | few t q ↦ (let r = refused_is (sym e ∙ q) in for_nets t r.0 r.1 r.2)
          | short t q ↦ (let r = refused_is (sym e ∙ q) in for_words t r.0 r.1 r.2)
        ]
      where
        go : b.nets ≤ N → b.words ≤ P → (o : Out Y) → b.end ≡ o → Ended s b.nets b.words o → ends s N P o ≡ refused k x y → Refuses N P k x y
        go t u (refused c v w) a d q = let r = refused_is q in at_end t u (λ z. d.0 (r.0 ∙ z)) (λ z. d.1 (r.0 ∙ z)) (a ∙ q)
        go t u (done z) a d q = absurd (not_done (sym q))

    -- larger limits change neither an answer, but for the limits in it, nor a refusal that is for no limit
    module _ (N' P' : ℕ) (j : N ≤ N') (k : P ≤ P') where
      pub larger : (y : Y) → F N P ≡ done y → F N' P' ≡ done (s.at_limits N' P' y)
      larger y e = let a = answer y e in enough N' P' (omega (arith, a.0)) (omega (arith, a.1)) ∙ go b.end a.2
        where
          go : (o : Out Y) → ends s N P o ≡ done y → ends s N' P' o ≡ done (s.at_limits N' P' y)
          go (refused c x z) q = absurd (not_done q)
          go (done z) q = ap done (sym (s.last_limits N P N' P' z) ∙ ap (s.at_limits N' P') (done_is q))

      pub larger_refused : (c x y : ℕ) → (c ≡ 9 → ⊥) → (c ≡ 10 → ⊥) → F N P ≡ refused c x y → F N' P' ≡ refused c x y
      larger_refused c x y d f e =
          elim (refusal c x y e) [
            | for_nets t q v w ↦ absurd (d q)
            | for_words t q v w ↦ absurd (f q)
            | at_end t u v w q ↦ enough N' P' (omega arith) (omega arith) ∙ ap (ends s N' P') q
          ]

-- ---- two accounts of one computation ----

module _ {Y : Type 0} (s : Sized Y) {n p : ℕ} {F : ℕ → ℕ → Out Y} where
  -- under limits that are its own size it is refused for no limit
  not_for_limits : (c : Bounds s n p F) (k x y : ℕ) → F c.nets c.words ≡ refused k x y → (k ≡ 9 → ⊥) × (k ≡ 10 → ⊥)
  not_for_limits c k x y e =
      elim (refusal s c c.nets c.words c.more c.longer k x y e) [
        | for_nets t q v w ↦ absurd (omega arith)
        | for_words t q v w ↦ absurd (omega arith)
        | at_end t u v w q ↦ (v, w)
      ]

  -- so any other account is no larger
  no_larger : (b c : Bounds s n p F) → (b.nets ≤ c.nets) × (b.words ≤ c.words)
  no_larger b c =
      elim (b.comes c.nets c.words c.more c.longer) [
        | fits t u q ↦ (t, u)
        | few t q ↦ absurd ((not_for_limits c 9 0 0 q).0 refl)
        | short t q ↦ absurd ((not_for_limits c 10 0 0 q).1 refl)
      ]

  -- they have the same size
  pub same_size : (b c : Bounds s n p F) → (b.nets ≡ c.nets) × (b.words ≡ c.words)
  same_size b c = let h = no_larger b c in let g = no_larger c b in (omega (arith, h.0, g.0), omega (arith, h.1, g.1))
