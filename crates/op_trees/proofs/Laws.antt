-- A level of a tree as a run of nets and the odd one; levels while there are two nets or more. Assumes nothing.
use mathlib.Core.Path.{◌≡◌, refl, sym, ap, ◌∙◌}
use mathlib.Core.Bool.{Bool}
use mathlib.Core.List.{List, [], ◌∷◌, ◌++◌, append-nil}
use Prim.Native.Nat.{ℕ, zero, suc, ◌+◌, ◌*◌, ◌/◌, ◌-◌, ◌≤◌, ◌<◌}
use native.Mathlib.Omega.{arith}
use borrow.Author.Tests.{lt-ltb, le-ltb}
use lib.ListN.{length, get_or, set, take, drop, drop_of_length-le, length-append, length-drop}
use lib.Seq.{take-length, length-take-le, take-append-le, take-suc-set, take-set-le, drop-cons}
use Rattle.spec_model.specs.Words.{Netlist}
use Rattle.spec_model.specs.Builder.{refused, done, and_then, Made, also, each}
use Rattle.spec_model.specs.Ranges.{Gate}
use Rattle.spec_model.specs.Lowering.{add_gate, level, levels, reduce_tree}
use Rattle.net_view.specs.View.{netlist_of}
use Rattle.net_index.specs.Index.{Held}
use Rattle.net_nodes.specs.Gives.{Gives}
use Rattle.net_nodes.specs.declared.Full.{Full}
use Rattle.net_nodes.specs.declared.Full.TheVariants.{Nets, List as ListFull}
use Rattle.std.specs.Prelude.{Ok, Err}
use Rattle.net_gates.proofs.Ways.{gives_by}
use Rattle.net_fold.specs.Values.{Fills}
use Rattle.op_bits.proofs.Laws.{nets, nets_shift, Going, going_more, going_out, going_end, first_out, list_by}

-- ys behind the nets
abbrev behind : List ℕ → Made (List ℕ) → Made (List ℕ)
behind ys m = and_then m (λ (ns, l). done (ns ++ ys, l))

behind_also : (ys : List ℕ) (k : ℕ) (m : Made (List ℕ)) → behind ys (also k m) ≡ also k (behind ys m)
behind_also ys k (refused j x y) = refl
behind_also ys k (done (ms, l)) = refl

-- pair i of a level
abbrev pub pair_at : Gate → List ℕ → ℕ → Netlist → Made ℕ
pair_at g xs i = add_gate g (get_or xs (2 * i) 0) (get_or xs (2 * i + 1) 0)

pub level_nets : (g : Gate) (h : ℕ) (xs : List ℕ) (l : Netlist) → 2 * h ≤ length xs → length xs ≤ 2 * h + 1
    → level g xs l ≡ behind (drop (2 * h) xs) (nets (pair_at g xs) 0 h l)
unfolding level nets
level_nets g zero [] l p q = refl
level_nets g zero (x ∷ []) l p q = refl
level_nets g zero (x ∷ y ∷ xs) l p q = absurd (omega arith)
level_nets g (suc h) [] l p q = absurd (omega arith)
level_nets g (suc h) (x ∷ []) l p q = absurd (omega arith)
level_nets g (suc h) (x ∷ y ∷ xs) l p q =
    let e : (i : ℕ) → 2 * suc i ≡ suc (suc (2 * i)) = λ i. omega arith in
    let e₁ : (i : ℕ) → 2 * suc i + 1 ≡ suc (suc (2 * i + 1)) = λ i. omega arith in
    let shift : (l₁ : Netlist) → nets (pair_at g (x ∷ y ∷ xs)) 1 h l₁ ≡ nets (pair_at g xs) 0 h l₁ =
    λ l₁. nets_shift (pair_at g (x ∷ y ∷ xs)) 0 h l₁ ∙ λ j. nets (λ i. add_gate g (get_or (x ∷ y ∷ xs) (e i j) 0) (get_or (x ∷ y ∷ xs) (e₁ i j) 0)) 0 h l₁ in
    let ih : (z : ℕ × Netlist) → also z.0 (level g xs z.1) ≡ behind (drop (2 * suc h) (x ∷ y ∷ xs)) (also z.0 (nets (pair_at g (x ∷ y ∷ xs)) 1 h z.1)) =
    λ z. ap (also z.0) (level_nets g h xs z.1 (omega arith) (omega arith) ∙ λ j. behind (drop (sym (e h) j) (x ∷ y ∷ xs)) (sym (shift z.1) j))
    ∙ sym (behind_also (drop (2 * suc h) (x ∷ y ∷ xs)) z.0 (nets (pair_at g (x ∷ y ∷ xs)) 1 h z.1)) in
    then_behind (add_gate g x y l) _ (λ z. also z.0 (nets (pair_at g (x ∷ y ∷ xs)) 1 h z.1)) (drop (2 * suc h) (x ∷ y ∷ xs)) ih
  where
    then_behind : (m : Made ℕ) (k k' : ℕ × Netlist → Made (List ℕ)) (ys : List ℕ) → ((p : ℕ × Netlist) → k p ≡ behind ys (k' p)) → and_then m k ≡ behind ys (and_then m k')
    then_behind (refused j a b) k k' ys e = refl
    then_behind (done p) k k' ys e = e p

module _ (g : Gate) (n h : ℕ) (net₀ xs₀ net idx xs : List ℕ) (i : ℕ) (low : 2 * h ≤ length xs₀) (high : length xs₀ ≤ 2 * h + 1)
    (go : Going (pair_at g xs₀) (nets (pair_at g xs₀) 0 h (netlist_of n net₀)) n h net₀ xs₀ net idx xs i) where
  -- the pair that the code reads, in the list as it was
  same_pair : (l : Netlist) → i < h → pair_at g xs₀ i l ≡ pair_at g xs i l
  same_pair l q = λ j. add_gate g (sym (go.rest (2 * i) (omega arith)) j) (sym (go.rest (2 * i + 1) (omega arith)) j) l

  level_model : level g xs₀ (netlist_of n net₀) ≡ behind (drop (2 * h) xs₀) (nets (pair_at g xs₀) 0 h (netlist_of n net₀))
  level_model = level_nets g h xs₀ (netlist_of n net₀) low high

  pub level_more : (k : ℕ) (net' idx' : List ℕ) → i < h → length net' ≡ length net → Gives (pair_at g xs i (netlist_of n net)) n (Ok k) net' idx'
      → Going (pair_at g xs₀) (nets (pair_at g xs₀) 0 h (netlist_of n net₀)) n h net₀ xs₀ net' idx' (set xs i k) (i + 1)
  level_more k net' idx' q e a = going_more _ _ _ _ _ _ _ _ _ _ go k net' idx' q (omega arith) e (gives_by _ _ _ _ _ _ (same_pair (netlist_of n net) q) a)

  pub level_out : (e : Full) (ns net' idx' : List ℕ) → i < h → Gives (pair_at g xs i (netlist_of n net)) n (Err e) net' idx'
      → Fills (level g xs₀ (netlist_of n net₀)) n (Err e) ns net' idx'
  level_out e ns net' idx' q a =
      list_by _ _ _ _ _ _ _ level_model
      (first_out _ (λ (ns, l). done (ns ++ drop (2 * h) xs₀, l)) n e [] ns net' idx'
      (going_out _ _ _ _ _ _ _ _ _ _ go e [] net' idx' q (gives_by _ _ _ _ _ _ (same_pair (netlist_of n net) q) a)))

  halves : h ≤ i → (d : ℕ) → length xs₀ ≡ 2 * h + d → d ≤ 1
      → take h xs ++ drop (2 * h) xs₀ ≡ take ((length xs₀ + 1) / 2) (set xs h (get_or xs (length xs₀ - 1) 0))
  halves q zero e r =
      let k : (length xs₀ + 1) / 2 ≡ h = omega arith in
      ap (λ (ys : List ℕ). take h xs ++ ys) (drop_of_length-le xs₀ {i = 2 * h} (omega arith)) ∙ append-nil (take h xs)
      ∙ sym (ap (λ (a : ℕ). take a (set xs h (get_or xs (length xs₀ - 1) 0))) k ∙ take-set-le h xs h (get_or xs (length xs₀ - 1) 0) (omega arith))
  halves q (suc zero) e r =
      let k : (length xs₀ + 1) / 2 ≡ suc h = omega arith in
      let p : 2 * h ≡ length xs₀ - 1 = omega arith in
      let v : get_or xs₀ (2 * h) 0 ≡ get_or xs (length xs₀ - 1) 0 =
      sym (go.rest (2 * h) (omega (arith, go.within))) ∙ ap (λ (a : ℕ). get_or xs a 0) p in
      ap (λ (ys : List ℕ). take h xs ++ ys) (drop-cons xs₀ (2 * h) 0 (omega arith)
      ∙ λ j. v j ∷ drop_of_length-le xs₀ {i = suc (2 * h)} (omega arith) j)
      ∙ sym (ap (λ (a : ℕ). take a (set xs h (get_or xs (length xs₀ - 1) 0))) k ∙ take-suc-set xs h (get_or xs (length xs₀ - 1) 0) (omega (arith, go.sized)))
  halves q (suc (suc d)) e r = absurd (omega arith)

  pub level_done : h ≤ i → Fills (level g xs₀ (netlist_of n net₀)) n (Ok tt) (take ((length xs₀ + 1) / 2) (set xs h (get_or xs (length xs₀ - 1) 0))) net idx
  level_done q =
      let e = going_end _ _ _ _ _ _ _ _ _ _ go q in
      record {
        says = level_model ∙ ap (behind (drop (2 * h) xs₀)) e.says
            ∙ λ j. done (halves q (length xs₀ - 2 * h) (omega arith) (omega arith) j, netlist_of n net);
        held = e.held;
      }

-- ---- levels ----

-- what holds where len nets are left: the rest of the levels gives what all would
pub record Reducing (model : Made (List ℕ)) (g : Gate) (n : ℕ) (net₀ xs₀ net idx xs : List ℕ) (len : ℕ) : Type 0 where
  pub fuel : ℕ
  pub enough : len ≤ suc fuel
  pub some : 0 < len
  pub within : len ≤ length xs
  pub sized : length xs ≡ length xs₀
  pub net_sized : length net ≡ length net₀
  pub says : model ≡ levels fuel g (take len xs) (netlist_of n net)
  pub held : Held n net idx

pub tree_levels : (g : Gate) (identity : Bool) (xs : List ℕ) (l : Netlist) → 0 < length xs → reduce_tree g identity xs l ≡ levels (length xs - 1) g xs l
unfolding reduce_tree
tree_levels g identity [] l h = absurd (omega arith)
tree_levels g identity (x ∷ xs) l h = let e : length xs ≡ length (x ∷ xs) - 1 = omega arith in ap (λ (f : ℕ). levels f g (x ∷ xs) l) e

pub reducing_start : (g : Gate) (n : ℕ) (net idx xs : List ℕ) → 0 < length xs → Held n net idx
    → Reducing (levels (length xs - 1) g xs (netlist_of n net)) g n net xs net idx xs (length xs)
reducing_start g n net idx xs h held = record {
  fuel = length xs - 1;
  enough = omega arith;
  some = h;
  within = omega arith;
  sized = refl;
  net_sized = refl;
  says = ap (λ (ys : List ℕ). levels (length xs - 1) g ys (netlist_of n net)) (sym (take-length xs));
  held = held;
}

more_levels : (f : ℕ) (g : Gate) (xs : List ℕ) (l : Netlist) → 1 < length xs → levels (suc f) g xs l ≡ and_then (level g xs l) (λ (ys, l₁). levels f g ys l₁)
unfolding levels
more_levels f g xs l h = rw (levels, lt-ltb 1 (length xs) h)

no_levels : (f : ℕ) (g : Gate) (xs : List ℕ) (l : Netlist) → length xs ≤ 1 → levels f g xs l ≡ done (xs, l)
unfolding levels
no_levels zero g xs l h = refl
no_levels (suc f) g xs l h = rw (levels, le-ltb 1 (length xs) h)

module _ (model : Made (List ℕ)) (g : Gate) (n : ℕ) (net₀ xs₀ net idx xs : List ℕ) (len : ℕ) (r : Reducing model g n net₀ xs₀ net idx xs len) where
  next : 1 < len → (f : ℕ) → r.fuel ≡ suc f → model ≡ and_then (level g (take len xs) (netlist_of n net)) (λ (ys, l₁). levels f g ys l₁)
  next h f e =
      let t = length-take-le len xs r.within in
      r.says ∙ ap (λ (a : ℕ). levels a g (take len xs) (netlist_of n net)) e ∙ more_levels f g (take len xs) (netlist_of n net) (omega arith)

  -- the first len nets are lent, and hold ys then
  pub reducing_more : (net' idx' ys : List ℕ) → 1 < len → length net' ≡ length net → length ys ≡ len
      → Fills (level g (take len xs) (netlist_of n net)) n (Ok tt) (take ((len + 1) / 2) ys) net' idx'
      → Reducing model g n net₀ xs₀ net' idx' (ys ++ drop len xs) ((len + 1) / 2)
  reducing_more net' idx' ys h a b q =
      let f = r.fuel - 1 in
      let l : length (ys ++ drop len xs) ≡ length xs = length-append ys (drop len xs) ∙ omega (arith, length-drop len xs, r.within) in
      record {
        fuel = f;
        enough = omega (arith, r.enough);
        some = omega arith;
        within = omega (arith, r.within);
        sized = l ∙ r.sized;
        net_sized = a ∙ r.net_sized;
        says = next h f (omega (arith, r.enough)) ∙ ap (λ (o : Made (List ℕ)). and_then o (λ (zs, l₁). levels f g zs l₁)) q.says
            ∙ ap (λ (zs : List ℕ). levels f g zs (netlist_of n net')) (sym (take-append-le ((len + 1) / 2) ys (drop len xs) (omega arith)));
        held = q.held;
      }

  pub reducing_out : (e : Full) (ns ms net' idx' : List ℕ) → 1 < len → Fills (level g (take len xs) (netlist_of n net)) n (Err e) ns net' idx'
      → Fills model n (Err e) ms net' idx'
  reducing_out e ns ms net' idx' h a =
      list_by _ _ _ _ _ _ _ (next h (r.fuel - 1) (omega (arith, r.enough))) (first_out _ (λ (ys, l₁). levels (r.fuel - 1) g ys l₁) n e ns ms net' idx' a)

  pub reducing_end : len ≤ 1 → Fills model n (Ok tt) (take 1 xs) net idx
  reducing_end h =
      let e : len ≡ 1 = omega (arith, r.some) in
      let t = length-take-le len xs r.within in
      record {
        says = r.says ∙ no_levels r.fuel g (take len xs) (netlist_of n net) (omega arith) ∙ λ j. done (take (e j) xs, netlist_of n net);
        held = r.held;
      }

-- ---- the first net alone ----

module _ (f : ℕ → Netlist → Made ℕ) where
  one : (xs : List ℕ) (l : Netlist) (o : Made ℕ) → 0 < length xs → f (get_or xs 0 0) l ≡ o → each f (take 1 xs) l ≡ and_then o (λ (k, l₁). also k (done ([], l₁)))
  unfolding each
  one [] l o h e = absurd (omega arith)
  one (x ∷ xs) l o h e = ap (λ (o : Made ℕ). and_then o (λ (k, l₁). also k (done ([], l₁)))) e

  first_set : (xs : List ℕ) (k : ℕ) → 0 < length xs → k ∷ [] ≡ take 1 (set xs 0 k)
  first_set [] k h = absurd (omega arith)
  first_set (x ∷ xs) k h = refl

  module _ (xs : List ℕ) (l : Netlist) (n : ℕ) (w idx : List ℕ) (h : 0 < length xs) where
    pub one_done : (k : ℕ) → Gives (f (get_or xs 0 0) l) n (Ok k) w idx → Fills (each f (take 1 xs) l) n (Ok tt) (take 1 (set xs 0 k)) w idx
    one_done k g = record { says = one xs l _ h g.says ∙ λ j. done (first_set xs k h j, netlist_of n w); held = g.held }

    pub one_out : (e : Full) (ns : List ℕ) → Gives (f (get_or xs 0 0) l) n (Err e) w idx → Fills (each f (take 1 xs) l) n (Err e) ns w idx
    one_out Nets ns g = record { says = one xs l _ h g.says; held = g.held }
    one_out ListFull ns g = record { says = one xs l _ h g.says; held = g.held }
