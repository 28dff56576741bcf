-- Memories, registers and outputs, one after another: each refusal told, and what they need served where there is none. Assumes nothing.
use Rattle.std.specs.Prelude.{◌≡◌, Bool, true, cond, leb}
use Rattle.std.proofs.Math.Path.{refl, ap}
use Rattle.std.proofs.Common.{sym, subst, ◌∙◌}
use Rattle.std.proofs.Math.Bool.{false}
use mathlib.Core.List.{List, [], ◌∷◌}
use Rattle.std.proofs.Math.Option.{some}
use Prim.Native.Nat.{ℕ, zero, suc, ◌+◌}
use native.Mathlib.Omega.{arith}
use Rattle.std.proofs.Math.ListN.{length, get_elem?}
use Rattle.spec_rtl.specs.Rtl.{Module}
use Rattle.spec_model.specs.Words.{Netlist, used}
use Rattle.spec_model.specs.Builder.{Out, refused, done, and_then, push}
use Rattle.spec_model.specs.Lowering.{State, with_netlist, push_record}
use Rattle.net_view.specs.Laws.{with_record}
use Rattle.law_nets.specs.Run.{Meets, meets_bind, meets_map, Limit, list}
use Rattle.law_walk.specs.Tables.{none_some}
use Rattle.law_needs.specs.Complete.{Further}
use Rattle.law_refused.specs.Stands.{Stands, stands_netlist, further_refl, further_trans, further_netlist}

-- ---- two claims of one outcome ----

pub both_meet : (R S : ℕ → ℕ → ℕ → Type 0) (P Q : State → Type 0) (o : Out State) → Meets R P o → Meets S Q o → Meets S (λ st. P st × Q st) o
both_meet R S P Q (refused c x y) a b = b
both_meet R S P Q (done st) a b = (a, b)

-- something, something more, and then the rest
pub regroup : (R : ℕ → ℕ → ℕ → Type 0) (P Q : State → Type 0) (o : Out State) (g h : State → Out State) → Meets R P (and_then o g) → ((st : State) → P st → Meets R Q (h st))
    → Meets R Q (and_then o (λ st₁. and_then (g st₁) h))
regroup R P Q (refused c y z) g h w k = w
regroup R P Q (done st₁) g h w k = meets_bind R P Q (g st₁) h w k

-- an outcome, and that it is this one
pub named : (R : ℕ → ℕ → ℕ → Type 0) (P : State → Type 0) (o : Out State) → Meets R P o → Meets R (λ st. P st × (o ≡ done st)) o
named R P (refused c x y) a = a
named R P (done st) a = (a, refl)

-- ---- a record pushed: the tables and the nodes stay ----

pub record Pushed (st st' : State) : Type 0 where
  pub netlist : Netlist
  pub is : st' ≡ with_netlist st netlist
  pub nodes : netlist.nodes ≡ st.netlist.nodes

pub pushed_refl : (st : State) → Pushed st st
pushed_refl st = record { netlist = st.netlist; is = refl; nodes = refl }

pub pushed_trans : {st st' st'' : State} → Pushed st st' → Pushed st' st'' → Pushed st st''
pushed_trans {st} a b = record {
  netlist = b.netlist;
  is = b.is ∙ ap (λ (x : State). with_netlist x b.netlist) a.is;
  nodes = b.nodes ∙ ap (λ (x : State). x.netlist.nodes) a.is ∙ a.nodes;
}

pub push_pushed : (r : List ℕ) (st : State) → Meets Limit (Pushed st) (push_record r st)
unfolding push
push_pushed r st = go (leb (used st.netlist.records + length r) st.netlist.max_list)
  where
    go : (t : Bool) → Meets Limit (Pushed st) (and_then (cond t (done (with_record r st.netlist)) (refused 10 0 0)) (λ l. done (with_netlist st l)))
    go true = record { netlist = with_record r st.netlist; is = refl; nodes = refl }
    go false = list

pub pushed_stands : (m : Module) {st st' : State} → Pushed st st' → Stands m st → Stands m st'
pushed_stands m {st} p s = subst (Stands m) (sym p.is) (stands_netlist m st p.netlist s)

pub pushed_further : {st st' : State} → Pushed st st' → Further st st'
pushed_further {st} p = subst (Further st) (sym p.is) (further_netlist st p.netlist)

-- ---- phases ----

-- from st on what is needed for each of a list of steps was lowered
pub record Passed (m : Module) (st : State) (Q : State → Type 0) (st' : State) : Type 0 where
  pub stands : Stands m st'
  pub further : Further st st'
  pub post : Q st'

-- records connected one after another: C k holds before record k, and what is claimed of a record stays as nets are added
module _ {A : Type 0} (m : Module) (R : ℕ → ℕ → ℕ → Type 0) (records : List A) (C : ℕ → State → Type 0) (Claim : ℕ → A → State → Type 0)
    (stays : (k : ℕ) (x : A) (st st' : State) → Further st st' → Claim k x st → Claim k x st')
    (connect : ℕ → List A → State → Out State) (none_left : (k : ℕ) (st : State) → connect k [] st ≡ done st)
    (one : (Q : State → Type 0) (k : ℕ) (x : A) (xs : List A) (st : State) → get_elem? records k ≡ some x → C k st → Stands m st
    → ((st₁ : State) → C (suc k) st₁ → Passed m st (Claim k x) st₁ → Meets R Q (connect (suc k) xs st₁)) → Meets R Q (connect k (x ∷ xs) st)) where
  abbrev AllOf : ℕ → List A → State → Type 0
  AllOf k xs st = (j : ℕ) (x : A) → get_elem? xs j ≡ some x → Claim (k + j) x st

  more_of : (k : ℕ) (x : A) (xs : List A) (st : State) → Claim k x st → AllOf (suc k) xs st → AllOf k (x ∷ xs) st
  more_of k x xs st h g zero y e = let q : x ≡ y = cc in let z : k + 0 ≡ k = omega arith in subst (λ (i : ℕ). Claim i y st) (sym z) (subst (λ (u : A). Claim k u st) q h)
  more_of k x xs st h g (suc j) y e = let z : k + suc j ≡ suc k + j = omega arith in subst (λ (i : ℕ). Claim i y st) (sym z) (g j y e)

  pub all_passed : (k : ℕ) (xs : List A) → ((j : ℕ) (x : A) → get_elem? xs j ≡ some x → get_elem? records (k + j) ≡ some x) → (st : State) → C k st → Stands m st
      → Meets R (λ st'. C (k + length xs) st' × Passed m st (AllOf k xs) st') (connect k xs st)
  all_passed k [] f st c s =
      let z : k + 0 ≡ k = omega arith in
      subst (λ (o : Out State). Meets R (λ st'. C (k + 0) st' × Passed m st (AllOf k []) st') o) (sym (none_left k st))
      (subst (λ (i : ℕ). C i st) (sym z) c, record { stands = s; further = further_refl; post = λ j x e. absurd (none_some e) })
  all_passed k (x ∷ xs) f st c s =
      let e : get_elem? records k ≡ some x = let z : k + 0 ≡ k = omega arith in rw z at (f 0 x refl) in
      let z : suc k + length xs ≡ k + suc (length xs) = omega arith in
      one (λ st'. C (k + suc (length xs)) st' × Passed m st (AllOf k (x ∷ xs)) st') k x xs st e c s (λ st₁ c₁ p.
      meets_map R R (λ st'. C (suc k + length xs) st' × Passed m st₁ (AllOf (suc k) xs) st') (λ st'. C (k + suc (length xs)) st' × Passed m st (AllOf k (x ∷ xs)) st') (connect (suc k) xs st₁)
      (all_passed (suc k) xs (λ j y q. let v : k + suc j ≡ suc k + j = omega arith in rw v at (f (suc j) y q)) st₁ c₁ p.stands) (λ a b d h. h)
      (λ st₂ h. (
        subst (λ (i : ℕ). C i st₂) z h.0,
        record {
          stands = h.1.stands;
          further = further_trans p.further h.1.further;
          post = more_of k x xs st₂ (stays k x st₁ st₂ h.1.further p.post) h.1.post;
        },
      )))
