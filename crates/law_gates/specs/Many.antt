-- A gate for each of a list, and for each pair of two. Assumes nothing.
use Rattle.std.specs.Prelude.{◌≡◌, refl, Bool, not, ℕ, ◌≤◌, ◌<◌}
use Rattle.std.proofs.Common.{le_trans}
use mathlib.Core.List.{List, [], ◌∷◌, map}
use Rattle.spec_rtl.specs.Ops.{map2}
use Rattle.spec_model.specs.Words.{Netlist}
use Rattle.spec_model.specs.Builder.{Made, each, both, add_constant, add_not}
use Rattle.word_laws.specs.Widths.{AllBelow}
use Rattle.law_nets.specs.Meaning.{net_value}
use Rattle.law_nets.specs.Sound.{count, Sound, At, Stands, StandsAll}
use Rattle.law_nets.specs.Run.{below_more, Run}
use Rattle.law_nets.proofs.Run.{later_count, stands_later, all_nil, all_cons, run_here, run_bind, run_map, all_as}
use Rattle.law_gates.specs.Gates.{constant_run, not_run}

abbrev pub All : {A : Type 0} → (A → Type 0) → List A → Type 0
All P [] = Unit {0}
All P (x ∷ xs) = P x × All P xs

-- f gives for a a net that stands for op a, if a is good among so many nets
module _ {A : Type 0} (f : A → Netlist → Made ℕ) (op : A → At Bool) (Good : ℕ → A → Type 0) (more : (n k : ℕ) (a : A) → n ≤ k → Good n a → Good k a)
    (law : (a : A) (l : Netlist) → Sound l → Good (count l) a → Run l (λ z l'. Stands l' z (op a)) (f a l)) where
  all_more : (n k : ℕ) (xs : List A) → n ≤ k → All (Good n) xs → All (Good k) xs
  all_more n k [] h b = tt
  all_more n k (x ∷ xs) h b = (more n k x h b.0, all_more n k xs h b.1)

  pub each_run : (xs : List A) (l : Netlist) → Sound l → All (Good (count l)) xs → Run l (λ zs l'. StandsAll l' zs (λ h s c. map (λ a. op a h s c) xs)) (each f xs l)
  unfolding each
  each_run [] l q b = run_here q all_nil
  each_run (x ∷ xs) l q b = run_bind _ (law x l q b.0) (λ z l' y v.
      run_bind _ (each_run xs l' y.sound (all_more _ _ xs (later_count y) b.1)) (λ zs l'' y' w.
      run_here y'.sound (all_cons (stands_later y' v) w)))

-- f gives for two nets one that stands for op of them, once there are n nets
module _ (f : ℕ → ℕ → Netlist → Made ℕ) (op : At (Bool → Bool → Bool)) (n : ℕ)
    (law : (a b : ℕ) (l : Netlist) → Sound l → n ≤ count l → a < count l → b < count l → Run l (λ z l'. Stands l' z (λ h s c. op h s c (net_value h s c a) (net_value h s c b))) (f a b l)) where
  pub both_run : (xs ys : List ℕ) (l : Netlist) → Sound l → n ≤ count l → AllBelow (count l) xs → AllBelow (count l) ys
      → Run l (λ zs l'. StandsAll l' zs (λ h s c. map2 (op h s c) (map (net_value h s c) xs) (map (net_value h s c) ys))) (both f xs ys l)
  unfolding both
  both_run [] ys l q k b d = run_here q all_nil
  both_run (x ∷ xs) [] l q k b d = run_here q all_nil
  both_run (x ∷ xs) (y ∷ ys) l q k b d = run_bind _ (law x y l q k b.0 d.0) (λ z l' g v.
      run_bind _ (both_run xs ys l' g.sound (le_trans k (later_count g)) (below_more _ _ xs (later_count g) b.1) (below_more _ _ ys (later_count g) d.1)) (λ zs l'' g' w.
      run_here g'.sound (all_cons (stands_later g' v) w)))

all_unit : {A : Type 0} (xs : List A) → All (λ x. Unit {0}) xs
all_unit [] = tt
all_unit (x ∷ xs) = (tt, all_unit xs)

map_id : {A : Type 0} (xs : List A) → map (λ x. x) xs ≡ xs
map_id [] = refl
map_id (x ∷ xs) = rw (map_id xs)

map_map : {A B C : Type 0} (f : B → C) (g : A → B) (xs : List A) → map (λ x. f (g x)) xs ≡ map f (map g xs)
map_map f g [] = refl
map_map f g (x ∷ xs) = rw (map_map f g xs)

below_all : (n : ℕ) (xs : List ℕ) → AllBelow n xs → All (λ a. a < n) xs
below_all n [] b = tt
below_all n (x ∷ xs) b = (b.0, below_all n xs b.1)

pub constants_run : (vs : List Bool) (l : Netlist) → Sound l → Run l (λ zs l'. StandsAll l' zs (λ h s c. vs)) (each add_constant vs l)
constants_run vs l q =
    run_map (each_run add_constant (λ v h s c. v) (λ n v. Unit {0}) (λ n k a h b. tt) (λ v l q b. constant_run v l q) vs l q (all_unit vs))
    (λ zs l' g w. all_as w (λ h x s c. map_id vs))

pub nots_run : (xs : List ℕ) (l : Netlist) → Sound l → AllBelow (count l) xs
    → Run l (λ zs l'. StandsAll l' zs (λ h s c. map not (map (net_value h s c) xs))) (each add_not xs l)
nots_run xs l q b =
    run_map (each_run add_not (λ a h s c. not (net_value h s c a)) (λ n a. a < n) (λ n k a h b. le_trans b h) not_run xs l q (below_all (count l) xs b))
    (λ zs l' g w. all_as w (λ h x s c. map_map not (net_value h s c) xs))
