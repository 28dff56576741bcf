-- A list of nets that is made one by one, in place. Assumes nothing.
use mathlib.Core.Path.{◌≡◌, refl, sym, ap, ◌∙◌}
use mathlib.Core.List.{List, [], ◌∷◌, append-nil}
use Prim.Native.Nat.{ℕ, zero, suc, ◌+◌, ◌-◌, ◌≤◌, ◌<◌}
use native.Mathlib.Omega.{arith}
use lib.ListN.{length, get_or, set, take, length-set}
use lib.Seq.{take-suc-set, take-length, get_or-set_other}
use Rattle.spec_model.specs.Words.{Netlist}
use Rattle.spec_model.specs.Builder.{done, and_then, Made, also, each, both}
use Rattle.net_view.specs.View.{netlist_of}
use Rattle.net_index.specs.Index.{Held}
use Rattle.net_nodes.specs.Gives.{out_of, Gives}
use Rattle.net_nodes.specs.declared.Full.{Full}
use Rattle.net_nodes.specs.declared.Full.TheVariants.{Nets, List as ListFull}
use Rattle.std.specs.Prelude.{Result, Ok, Err}
use Rattle.net_ports.proofs.Laws.{ahead, ahead_none, ahead_also}
use Rattle.net_fold.specs.Values.{filled_of, Fills}

-- nets for b, b + 1, .., w of them
unfoldable pub nets : (ℕ → Netlist → Made ℕ) → ℕ → ℕ → Netlist → Made (List ℕ)
nets f b zero l = done ([], l)
nets f b (suc w) l = and_then (f b l) (λ (k, l₁). also k (nets f (suc b) w l₁))

pub nets_shift : (f : ℕ → Netlist → Made ℕ) (b w : ℕ) (l : Netlist) → nets f (suc b) w l ≡ nets (λ i. f (suc i)) b w l
unfolding nets
nets_shift f b zero l = refl
nets_shift f b (suc w) l = λ j. and_then (f (suc b) l) (λ p. also p.0 (nets_shift f (suc b) w p.1 j))

-- the model's lists of nets, by the places of the operands
pub each_nets : (f : ℕ → Netlist → Made ℕ) (xs : List ℕ) (l : Netlist) → each f xs l ≡ nets (λ i. f (get_or xs i 0)) 0 (length xs) l
unfolding nets each
each_nets f [] l = refl
each_nets f (x ∷ xs) l = λ j. and_then (f x l) (λ p. also p.0 ((each_nets f xs p.1 ∙ sym (nets_shift (λ i. f (get_or (x ∷ xs) i 0)) 0 (length xs) p.1)) j))

pub both_nets : (f : ℕ → ℕ → Netlist → Made ℕ) (xs ys : List ℕ) (l : Netlist) → length xs ≡ length ys
    → both f xs ys l ≡ nets (λ i. f (get_or xs i 0) (get_or ys i 0)) 0 (length xs) l
unfolding nets both
both_nets f [] ys l e = refl
both_nets f (x ∷ xs) [] l e = absurd (omega arith)
both_nets f (x ∷ xs) (y ∷ ys) l e =
    let h : length xs ≡ length ys = omega arith in
    λ j. and_then (f x y l) (λ p. also p.0 ((both_nets f xs ys p.1 h ∙ sym (nets_shift (λ i. f (get_or (x ∷ xs) i 0) (get_or (y ∷ ys) i 0)) 0 (length xs) p.1)) j))

out : (ns : List ℕ) (e : Full) (ms : List ℕ) (l : Netlist) (k : ℕ × Netlist → Made (List ℕ)) → ahead ns (and_then (out_of (Err e) l) k) ≡ filled_of (Err e) ms l
out ns Nets ms l k = refl
out ns ListFull ms l k = refl

-- what holds after i of w nets; they stand at the front of xs, the rest of which is as it was
pub record Going (f : ℕ → Netlist → Made ℕ) (model : Made (List ℕ)) (n w : ℕ) (net₀ xs₀ net idx xs : List ℕ) (i : ℕ) : Type 0 where
  pub within : i ≤ w
  pub sized : length xs ≡ length xs₀
  pub net_sized : length net ≡ length net₀
  pub rest : (k : ℕ) → i ≤ k → get_or xs k 0 ≡ get_or xs₀ k 0
  pub says : model ≡ ahead (take i xs) (nets f i (w - i) (netlist_of n net))
  pub held : Held n net idx

pub going_start : (f : ℕ → Netlist → Made ℕ) (model : Made (List ℕ)) (n w : ℕ) (net idx xs : List ℕ) → Held n net idx
    → model ≡ nets f 0 w (netlist_of n net) → Going f model n w net xs net idx xs 0
going_start f model n w net idx xs h e =
    let g : w ≡ w - 0 = omega arith in
    record {
      within = omega arith;
      sized = refl;
      net_sized = refl;
      rest = λ k q. refl;
      says = e ∙ ap (λ (j : ℕ). nets f 0 j (netlist_of n net)) g ∙ sym (ahead_none (nets f 0 (w - 0) (netlist_of n net)));
      held = h;
    }

module _ (f : ℕ → Netlist → Made ℕ) (model : Made (List ℕ)) (n w : ℕ) (net₀ xs₀ net idx xs : List ℕ) (i : ℕ) (g : Going f model n w net₀ xs₀ net idx xs i) where
  step : (r : Result ℕ Full) (l : Netlist) → i < w → f i (netlist_of n net) ≡ out_of r l
      → model ≡ ahead (take i xs) (and_then (out_of r l) (λ (k, l₁). also k (nets f (suc i) (w - suc i) l₁)))
  unfolding nets
  step r l h e =
      let q : w - i ≡ suc (w - suc i) = omega arith in
      g.says ∙ ap (λ (j : ℕ). ahead (take i xs) (nets f i j (netlist_of n net))) q
      ∙ ap (λ (o : Made ℕ). ahead (take i xs) (and_then o (λ (k, l₁). also k (nets f (suc i) (w - suc i) l₁)))) e

  pub going_more : (k : ℕ) (net' idx' : List ℕ) → i < w → w ≤ length xs₀ → length net' ≡ length net → Gives (f i (netlist_of n net)) n (Ok k) net' idx'
      → Going f model n w net₀ xs₀ net' idx' (set xs i k) (i + 1)
  going_more k net' idx' h fit len a =
      let m = nets f (suc i) (w - suc i) (netlist_of n net') in
      let e : suc i ≡ i + 1 = omega arith in
      record {
        within = omega arith;
        sized = length-set xs i k ∙ g.sized;
        net_sized = len ∙ g.net_sized;
        rest = λ j q. get_or-set_other xs i j k 0 (λ z. let y : j ≡ i = z in omega arith) ∙ g.rest j (omega arith);
        says = step (Ok k) (netlist_of n net') h a.says ∙ ahead_also (take i xs) k m
            ∙ ap (λ (t : List ℕ). ahead t m) (sym (take-suc-set xs i k (omega (arith, g.sized))))
            ∙ ap (λ (j : ℕ). ahead (take j (set xs i k)) (nets f j (w - j) (netlist_of n net'))) e;
        held = a.held;
      }

  pub going_out : (e : Full) (ns net' idx' : List ℕ) → i < w → Gives (f i (netlist_of n net)) n (Err e) net' idx' → Fills model n (Err e) ns net' idx'
  going_out e ns net' idx' h a = record {
    says = step (Err e) (netlist_of n net') h a.says ∙ out (take i xs) e ns (netlist_of n net') (λ (k, l₁). also k (nets f (suc i) (w - suc i) l₁));
    held = a.held;
  }

  pub going_end : w ≤ i → Fills model n (Ok tt) (take w xs) net idx
  unfolding nets
  going_end h =
      let e : i ≡ w = omega (arith, g.within) in
      let z : w - i ≡ 0 = omega arith in
      record {
        says = g.says ∙ ap (λ (j : ℕ). ahead (take i xs) (nets f i j (netlist_of n net))) z
            ∙ λ j. done ((append-nil (take i xs) ∙ ap (λ (a : ℕ). take a xs) e) j, netlist_of n net);
        held = g.held;
      }

  -- the whole list
  pub going_all : w ≤ i → w ≡ length xs₀ → Fills model n (Ok tt) xs net idx
  going_all h e =
      let z : w ≡ length xs = omega (arith, g.sized) in
      let r = going_end h in
      record {
        says = r.says ∙ λ j. done ((ap (λ (a : ℕ). take a xs) z ∙ take-length xs) j, netlist_of n net);
        held = r.held;
      }

-- the answer of a first call decides: its refusal, or what follows on its net
pub then_out : (m : Made ℕ) (k : ℕ × Netlist → Made ℕ) (n : ℕ) (e : Full) (w idx : List ℕ) → Gives m n (Err e) w idx → Gives (and_then m k) n (Err e) w idx
then_out m k n e w idx g = record { says = ap (λ (o : Made ℕ). and_then o k) g.says ∙ stays e; held = g.held }
  where
    stays : (e : Full) → and_then (out_of (Err e) (netlist_of n w)) k ≡ out_of (Err e) (netlist_of n w)
    stays Nets = refl
    stays ListFull = refl

pub then_net : (m : Made ℕ) (k : ℕ × Netlist → Made ℕ) (n j : ℕ) (r : Result ℕ Full) (w idx w' idx' : List ℕ) → Gives m n (Ok j) w idx
    → Gives (k (j, netlist_of n w)) n r w' idx' → Gives (and_then m k) n r w' idx'
then_net m k n j r w idx w' idx' g g' = record { says = ap (λ (o : Made ℕ). and_then o k) g.says ∙ g'.says; held = g'.held }

-- ---- one call on lists after another ----

module _ (m : Made (List ℕ)) (k : List ℕ × Netlist → Made (List ℕ)) (n : ℕ) where
  pub first_out : (e : Full) (ns ms w idx : List ℕ) → Fills m n (Err e) ns w idx → Fills (and_then m k) n (Err e) ms w idx
  first_out e ns ms w idx g = record { says = ap (λ (o : Made (List ℕ)). and_then o k) g.says ∙ stays e; held = g.held }
    where
      stays : (e : Full) → and_then (filled_of (Err e) ns (netlist_of n w)) k ≡ filled_of (Err e) ms (netlist_of n w)
      stays Nets = refl
      stays ListFull = refl

  pub first_then : (r : Result (Unit {0}) Full) (ns ms w idx w' idx' : List ℕ) → Fills m n (Ok tt) ns w idx → Fills (k (ns, netlist_of n w)) n r ms w' idx'
      → Fills (and_then m k) n r ms w' idx'
  first_then r ns ms w idx w' idx' g g' = record { says = ap (λ (o : Made (List ℕ)). and_then o k) g.says ∙ g'.says; held = g'.held }

-- the model says the same of both
pub list_by : (m m' : Made (List ℕ)) (n : ℕ) (r : Result (Unit {0}) Full) (ns w idx : List ℕ) → m ≡ m' → Fills m' n r ns w idx → Fills m n r ns w idx
list_by m m' n r ns w idx e g = record { says = e ∙ g.says; held = g.held }
