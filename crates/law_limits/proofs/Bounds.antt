-- What is proved of specs/Bounds: What a computation comes to under limits, told by what it comes to without them, and how that is shown along a computation. Assumes nothing.
use Rattle.std.specs.Prelude.{◌≡◌, refl, Bool, true, false, cond, ℕ, ◌<◌, ◌≤◌}
use Rattle.std.proofs.Common.{ap, subst, ◌∙◌, arith, le_refl}
use Rattle.spec_model.specs.Builder.{Out, refused, done, and_then}
use Rattle.law_limits.specs.Bounds.{Sized}

module _ {Y : Type 0} (s : Sized Y) where
  -- an end with its limits replaced
  abbrev pub ends : ℕ → ℕ → Out Y → Out Y
  ends N P (refused k x y) = refused k x y
  ends N P (done y) = done (s.at_limits N P y)

  -- an end without limits is no refusal 9 or 10, and an answer has what was made
  abbrev pub Ended : ℕ → ℕ → Out Y → Type 0
  Ended nets words (refused k x y) = (k ≡ 9 → ⊥) × (k ≡ 10 → ⊥)
  Ended nets words (done y) = (nets ≡ s.net_count y) × (words ≡ s.word_count y)

  -- under limits N and P: the end, or a limit is too small and it is refused for that
  pub data Comes (end : Out Y) (nets words N P : ℕ) (o : Out Y) : Type 0 where
    fits : nets ≤ N → words ≤ P → o ≡ ends N P end → Comes end nets words N P o
    few : N < nets → o ≡ refused 9 0 0 → Comes end nets words N P o
    short : P < words → o ≡ refused 10 0 0 → Comes end nets words N P o

  -- F N P is what a computation comes to under limits N and P, with n nets and p list words at its start, which the limits allow. Without limits it comes to `end`,
  -- and there are `nets` nets and `words` list words by then
  pub record Bounds (n p : ℕ) (F : ℕ → ℕ → Out Y) : Type 0 where
    pub end : Out Y
    pub nets : ℕ
    pub words : ℕ
    pub more : n ≤ nets
    pub longer : p ≤ words
    pub ended : Ended nets words end
    pub comes : (N P : ℕ) → n ≤ N → p ≤ P → Comes end nets words N P (F N P)

  pub bounds_done : (y : Y) → Bounds (s.net_count y) (s.word_count y) (λ N P. done (s.at_limits N P y))
  bounds_done y = record {
    end = done y;
    nets = s.net_count y;
    words = s.word_count y;
    more = le_refl _;
    longer = le_refl _;
    ended = (refl, refl);
    comes = λ N P a b. fits a b refl;
  }

  pub bounds_refused : (n p k x y : ℕ) → (k ≡ 9 → ⊥) → (k ≡ 10 → ⊥) → Bounds n p (λ N P. refused k x y)
  bounds_refused n p k x y h i = record {
    end = refused k x y;
    nets = n;
    words = p;
    more = le_refl _;
    longer = le_refl _;
    ended = (h, i);
    comes = λ N P a b. fits a b refl;
  }

  -- the same computation in other words
  pub bounds_as : {n p : ℕ} {F G : ℕ → ℕ → Out Y} → Bounds n p G → ((N P : ℕ) → G N P ≡ F N P) → Bounds n p F
  bounds_as {n} {p} b e = subst (Bounds n p) (λ i N P. e N P i) b

  pub bounds_if : {n p : ℕ} {F G : ℕ → ℕ → Out Y} (t : Bool) → Bounds n p F → Bounds n p G → Bounds n p (λ N P. cond t (F N P) (G N P))
  bounds_if true f g = f
  bounds_if false f g = g

-- one computation and then another
module _ {X Y : Type 0} (s : Sized X) (t : Sized Y) {n p : ℕ} (F : ℕ → ℕ → Out X) (k : X → Out Y) where
  pub bounds_then : Bounds s n p F → ((x : X) → Bounds t (s.net_count x) (s.word_count x) (λ N P. k (s.at_limits N P x))) → Bounds t n p (λ N P. and_then (F N P) k)
  bounds_then b f = go b.end b.ended b.comes
    where
      go : (o : Out X) → Ended s b.nets b.words o → ((N P : ℕ) → n ≤ N → p ≤ P → Comes s o b.nets b.words N P (F N P)) → Bounds t n p (λ N P. and_then (F N P) k)
      go (refused c x y) h w = record {
        end = refused c x y;
        nets = b.nets;
        words = b.words;
        more = b.more;
        longer = b.longer;
        ended = h;
        comes = λ N P a d.
            elim (w N P a d) [
              | fits i j e ↦ fits i j (ap (λ o. and_then o k) e)
              | few i e ↦ few i (ap (λ o. and_then o k) e)
              | short i e ↦ short i (ap (λ o. and_then o k) e)
            ];
      }
      go (done x) h w = record {
        end = (f x).end;
        nets = (f x).nets;
        words = (f x).words;
        more = omega (arith, b.more, h.0, (f x).more);
        longer = omega (arith, b.longer, h.1, (f x).longer);
        ended = (f x).ended;
        comes = λ N P a d.
            elim (w N P a d) [
              | fits i j e ↦
                  elim ((f x).comes N P (omega (arith, i, h.0)) (omega (arith, j, h.1))) [
                    | fits i' j' e' ↦ fits i' j' (ap (λ o. and_then o k) e ∙ e')
                    | few i' e' ↦ few i' (ap (λ o. and_then o k) e ∙ e')
                    | short i' e' ↦ short i' (ap (λ o. and_then o k) e ∙ e')
                  ]
              | few i e ↦ few (omega (arith, i, h.0, (f x).more)) (ap (λ o. and_then o k) e)
              | short i e ↦ short (omega (arith, i, h.1, (f x).longer)) (ap (λ o. and_then o k) e)
            ];
      }
