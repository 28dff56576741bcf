-- Ways through a binary tree that stands in a table. A slot holds 0, or a node's number and 1. A key begins at its root's slot and goes on to
-- one of the two slots of the node that it finds, by its digits in turn, the lowest first. Assumes nothing.
use Prim.Native.Nat.{ℕ, zero, suc, ◌+◌, ◌*◌, ◌-◌, ◌/◌, ◌%◌, ◌<◌}
use Rattle.std.specs.Prelude.{◌≡◌, List}
use Rattle.std.proofs.Math.Path.{refl, ap}
use Rattle.std.proofs.Common.{sym, ◌∙◌, subst, ⊎_elim, eq-or-lt_of_le}
use native.Mathlib.Omega.{arith}
use Rattle.std.proofs.Math.ListN.{get_or}

-- what is left of key k after d digits
unfoldable pub left : ℕ → ℕ → ℕ
left k zero = k
left k (suc d) = left k d / 2

pub left_next : (k d : ℕ) → left k (d + 1) ≡ left k d / 2
unfolding left
left_next k d = let e : d + 1 ≡ suc d = omega arith in ap (left k) e

-- no node stands in two slots
abbrev pub Once : List ℕ → Type 0
Once t = (a b : ℕ) → 0 < get_or t a 0 → get_or t a 0 ≡ get_or t b 0 → a ≡ b

-- root: a key's first slot, below m; the slots of node c are m + 2 * c and the next
module _ (root : ℕ → ℕ) (m : ℕ) (t : List ℕ) where
  -- the slot of key k at depth d
  unfoldable pub slot_at : ℕ → ℕ → ℕ
  slot_at k zero = root k
  slot_at k (suc d) = m + 2 * (get_or t (slot_at k d) 0 - 1) + left k d % 2

  pub slot_next : (k d : ℕ) → slot_at k (d + 1) ≡ m + 2 * (get_or t (slot_at k d) 0 - 1) + left k d % 2
  unfolding slot_at
  slot_next k d = let e : d + 1 ≡ suc d = omega arith in ap (slot_at k) e

  -- there is a node at each depth before
  abbrev pub Live : ℕ → ℕ → Type 0
  Live k d = (e : ℕ) → e < d → 0 < get_or t (slot_at k e) 0

  live_less : (k d : ℕ) → Live k (suc d) → Live k d
  live_less k d l e h = l e (omega arith)

  pub live_more : (k d : ℕ) → Live k d → 0 < get_or t (slot_at k d) 0 → Live k (d + 1)
  live_more k d l h e b =
      ⊎_elim (λ (q : e ≡ d). subst (λ (x : ℕ). 0 < get_or t (slot_at k x) 0) (sym q) h) (λ (q : e < d). l e q) (eq-or-lt_of_le (omega arith))

  -- two keys in one slot below a node have come from one slot, by one digit
  above : (k j d e : ℕ) → Once t → 0 < get_or t (slot_at k d) 0 → 0 < get_or t (slot_at j e) 0 → slot_at k (suc d) ≡ slot_at j (suc e)
      → (slot_at k d ≡ slot_at j e) × (left k d % 2 ≡ left j e % 2)
  unfolding slot_at
  above k j d e o p q s = (o (slot_at k d) (slot_at j e) p (omega arith), omega arith)

  pub same_digits : (k j d : ℕ) → Once t → Live k d → Live j d → slot_at k d ≡ slot_at j d → (e : ℕ) → e < d → left k e % 2 ≡ left j e % 2
  same_digits k j zero o p q s e h = absurd (omega arith)
  same_digits k j (suc d) o p q s e h =
      let u = above k j d d o (p d (omega arith)) (q d (omega arith)) s in
      ⊎_elim (λ (r : e ≡ d). subst (λ (x : ℕ). left k x % 2 ≡ left j x % 2) (sym r) u.1)
      (λ (r : e < d). same_digits k j d o (live_less k d p) (live_less j d q) u.0 e r)
      (eq-or-lt_of_le (omega arith))

  pub same_depth : ((k : ℕ) → root k < m) → (k j d e : ℕ) → Once t → Live k d → Live j e → slot_at k d ≡ slot_at j e → d ≡ e
  unfolding slot_at
  same_depth r k j zero zero o p q s = refl
  same_depth r k j zero (suc e) o p q s = absurd (omega (arith, r k))
  same_depth r k j (suc d) zero o p q s = absurd (omega (arith, r j))
  same_depth r k j (suc d) (suc e) o p q s =
      ap suc (same_depth r k j d e o (live_less k d p) (live_less j e q) (above k j d e o (p d (omega arith)) (q e (omega arith)) s).0)

-- ---- digits ----

-- numbers are equal if d digits of them are and what is left then
pub same_number : (k j d : ℕ) → ((e : ℕ) → e < d → left k e % 2 ≡ left j e % 2) → left k d ≡ left j d → k ≡ j
unfolding left
same_number k j zero h s = s
same_number k j (suc d) h s = same_number k j d (λ e b. h e (omega arith)) (omega (arith, h d (omega arith)))

-- b doubled d times
unfoldable doubled : ℕ → ℕ → ℕ
doubled zero b = b
doubled (suc d) b = doubled d (2 * b)

left_below : (k d b : ℕ) → k < doubled d b → left k d < b
unfolding left doubled
left_below k zero b h = h
left_below k (suc d) b h = let u = left_below k d (2 * b) h in omega arith

-- of a number below 2 ^ 47 nothing is left after 47 digits
pub no_more : (k : ℕ) → k < 140737488355328 → left k 47 ≡ 0
unfolding doubled
no_more k h = let u = left_below k 47 1 h in omega arith

-- ---- tables t and u that agree where t has a node ----

module _ (root : ℕ → ℕ) (m : ℕ) (t u : List ℕ) (same : (a : ℕ) → 0 < get_or t a 0 → get_or u a 0 ≡ get_or t a 0) where
  pub slot_kept : (k d : ℕ) → Live root m t k d → slot_at root m u k d ≡ slot_at root m t k d
  unfolding slot_at
  slot_kept k zero l = refl
  slot_kept k (suc d) l =
      let b = slot_kept k d (λ e h. l e (omega arith)) in
      ap (λ (x : ℕ). m + 2 * (x - 1) + left k d % 2) (ap (λ (a : ℕ). get_or u a 0) b ∙ same _ (l d (omega arith)))

  pub live_kept : (k d : ℕ) → Live root m t k d → Live root m u k d
  live_kept k d l e h =
      let b = slot_kept k e (λ i q. l i (omega arith)) in
      let v : get_or u (slot_at root m u k e) 0 ≡ get_or t (slot_at root m t k e) 0 = ap (λ (a : ℕ). get_or u a 0) b ∙ same _ (l e h) in
      omega (arith, l e h)
