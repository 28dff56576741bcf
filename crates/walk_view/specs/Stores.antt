-- What a call keeps, and what a store into the tables leaves of the walk's invariant. Assumes nothing.
use Rattle.std.specs.Prelude.{◌≡◌, refl, List, [], ◌∷◌, ℕ, zero, suc, ◌+◌, ◌*◌, length, take, drop}
use Rattle.std.proofs.Common.{sym, ap, ◌∙◌, subst, arith, take-take}
use Rattle.spec_model.specs.Lowering.{State}
use Rattle.net_view.specs.View.{netlist_of}
use Rattle.net_index.specs.Index.{Held}
use Rattle.scratch_view.specs.View.{limit_of, state_of, Laid, Writes}
use Rattle.walk_view.specs.Met.{met, Grows}
use Rattle.walk_view.specs.View.{index_of, walk_state, Ready, Kept}

-- ---- what is kept ----

pub kept_same : (s net w : List ℕ) → Kept s net w net w
kept_same s net w = record { net_long = refl; long = refl; fixed = refl; fewer = omega arith }

pub kept_then : (s net w net₁ w₁ net₂ w₂ : List ℕ) → Kept s net w net₁ w₁ → Kept s net₁ w₁ net₂ w₂ → Kept s net w net₂ w₂
kept_then s net w net₁ w₁ net₂ w₂ a b = record {
  net_long = b.net_long ∙ a.net_long;
  long = b.long ∙ a.long;
  fixed = b.fixed ∙ a.fixed;
  fewer = omega (arith, a.fewer, b.fewer);
}

-- ---- a store into the tables ----

take_none : {A : Type 0} (k : ℕ) → take {A = A} k [] ≡ []
take_none zero = refl
take_none (suc k) = refl

drop_take : {A : Type 0} (i n : ℕ) (l : List A) → drop i (take (i + n) l) ≡ take n (drop i l)
drop_take zero n l = let e : 0 + n ≡ n = omega arith in ap (λ (k : ℕ). take k l) e
drop_take (suc i) n [] = ap (drop (suc i)) (take_none (suc i + n)) ∙ sym (take_none n)
drop_take (suc i) n (x ∷ l) = let e : suc i + n ≡ suc (i + n) = omega arith in ap (λ (k : ℕ). drop (suc i) (take k (x ∷ l))) e ∙ drop_take i n l

pub no_store : (s w : List ℕ) → Laid s w → Writes (λ st. st) s w w
no_store s w h = record { says = λ l. refl; laid = h; limit = refl; fixed = refl; plan = λ e k u l m. refl; fewer = omega arith }

module _ (op : State → State) (s net w w' : List ℕ) (r : Ready s net w) (h : Writes op s w w') (long : length w' ≡ length w) where
  same_index : index_of w' ≡ index_of w
  same_index =
      ap (λ (n : ℕ). take (4 * n) (drop 64 w')) h.limit
      ∙ sym (drop_take 64 (4 * limit_of w) w') ∙ ap (drop 64) h.fixed ∙ drop_take 64 (4 * limit_of w) w

  pub stored_ready : Ready s net w'
  stored_ready = record {
    accepted = r.accepted;
    laid = h.laid;
    held = subst (λ (n : ℕ). Held n net (index_of w')) (sym h.limit) (subst (Held (limit_of w) net) (sym same_index) r.held);
    narrowed = λ e u. rw h.limit (h.plan e 6 u (omega arith) (omega arith) ∙ r.narrowed e u);
  }

  pub stored_kept : Kept s net w net w'
  stored_kept = record {
    net_long = refl;
    long = long;
    fixed = sym (take-take 64 (64 + 4 * limit_of w) w' (omega arith)) ∙ ap (take 64) h.fixed ∙ take-take 64 (64 + 4 * limit_of w) w (omega arith);
    fewer = h.fewer;
  }

  pub stored_state : walk_state s net w' ≡ op (walk_state s net w)
  stored_state = ap (λ (n : ℕ). state_of s (netlist_of n net) w') h.limit ∙ h.says (netlist_of (limit_of w) net)

  pub stored_grows : Grows (walk_state s net w) (op (walk_state s net w)) → Grows (walk_state s net w) (walk_state s net w')
  stored_grows g n m = ap (λ (st : State). met st n) stored_state ∙ g n m
