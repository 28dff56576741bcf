-- A bit is safe if it has G and all that it needs is safe: no safe bit needs itself, and if needs start at safe bits only, all needed bits
-- are safe. Laws of `Needs` beside it. Assumes nothing.
use Rattle.std.specs.Prelude.{◌≡◌, refl, ◌⊎◌}
use Rattle.std.proofs.Common.{sym, subst, inl, inr, ⊎_elim}
use Rattle.spec_rtl.specs.Rtl.{Module}
use Rattle.spec_needs.specs.Reads.{Place}
use Rattle.spec_needs.specs.Needs.{bit_needs, starts, In, Needed, start, further, Needs, once, through}

module _ (m : Module) where
  -- x is y or needs it
  abbrev pub Reaches : Place → Place → Type 0
  Reaches x y = (x ≡ y) ⊎ Needs m x y

  -- a need more at the front
  pub needs_first : {x y z : Place} → In y (bit_needs m x) → Reaches y z → Needs m x z
  needs_first {x} {y} h (inl e) = subst (Needs m x) e (once h)
  needs_first {x} {y} h (inr n) = go n
    where
      go : {z : Place} → Needs m y z → Needs m x z
      go (once k) = through (once h) k
      go (through n k) = through (go n) k

  -- the first need of a row, and what is left
  pub record Begins (x z : Place) : Type 0 where
    pub next : Place
    pub needed : In next (bit_needs m x)
    pub rest : Reaches next z

  pub begins : {x z : Place} → Needs m x z → Begins x z
  begins {x} {z} (once h) = record { next = z; needed = h; rest = inl refl }
  begins {x} {z} (through {y} n h) =
      let b = begins n in
      record {
        next = b.next;
        needed = b.needed;
        rest = inr (⊎_elim (λ (e : b.next ≡ y). once (subst (λ (u : Place). In z (bit_needs m u)) (sym e) h)) (λ r. through r h) b.rest);
      }

  pub reached : {x y : Place} → Needed m x → Reaches x y → Needed m y
  reached {x} n (inl e) = subst (Needed m) e n
  reached {x} n (inr r) = go r
    where
      go : {y : Place} → Needs m x y → Needed m y
      go (once h) = further n h
      go (through r h) = further (go r) h

  module _ (G : Place → Type 0) where
    pub data Safe : Place → Type 0 where
      safe : {x : Place} → G x → ((y : Place) → In y (bit_needs m x) → Safe y) → Safe x

    pub safe_here : {x : Place} → Safe x → G x
    safe_here (safe g f) = g

    pub safe_next : {x : Place} → Safe x → (y : Place) → In y (bit_needs m x) → Safe y
    safe_next (safe g f) = f

    pub no_loop : {x : Place} → Safe x → Needs m x x → ⊥
    no_loop {x} (safe g f) n =
        let b = begins n in
        no_loop (f b.next b.needed)
        (⊎_elim (λ (e : b.next ≡ x). once (subst (λ (u : Place). In b.next (bit_needs m u)) (sym e) b.needed)) (λ r. through r b.needed) b.rest)

    pub all_safe : ((x : Place) → In x (starts m) → Safe x) → {x : Place} → Needed m x → Safe x
    all_safe h (start i) = h _ i
    all_safe h (further n i) = safe_next (all_safe h n) _ i

  pub safe_map : {G H : Place → Type 0} → ((x : Place) → G x → H x) → {x : Place} → Safe G x → Safe H x
  safe_map k (safe {x} g f) = safe (k x g) (λ y i. safe_map k (f y i))
