-- The lists of what a netlist means: ports, registers and memories stay as they were when nodes and records are added. Assumes nothing.
use Rattle.std.specs.Prelude.{◌≡◌, refl, Bool, true, false, not, cond, ◌&&◌, ℕ, suc, ◌+◌, ◌<◌, eqb, length, get_or}
use Rattle.std.proofs.Math.Path.{ap}
use Rattle.std.proofs.Common.{ap₂, suc-le-suc, le_trans, arith}
use mathlib.Core.List.{List, [], ◌∷◌, ◌++◌, map}
use Rattle.std.proofs.Math.Option.{some}
use Rattle.spec_tests.specs.Any.{any_ext}
use Rattle.spec_tests.specs.Rules.{◌or◌, pick, only}
use Rattle.spec_tests.specs.Laws.{lt_yes}
use Rattle.spec_rules.specs.NetlistImage as N
use Rattle.spec_rules.specs.Step.{find_memory, find_bit}
use Rattle.spec_model.specs.Words.{Netlist}
use Rattle.law_nets.specs.Meaning.{not_output, is_output_port}
use Rattle.law_nets.specs.Sound.{count, PortNets, Grew}
use Rattle.law_nets.specs.Nodes.{node_grew, count_grew}

pub map_append : {A B : Type 0} (f : A → B) (xs ys : List A) → map f (xs ++ ys) ≡ map f xs ++ map f ys
map_append f [] ys = refl
map_append f (x ∷ xs) ys = rw (map_append f xs ys)

-- ---- tests of ports ----

-- a port is an output port later where it was before
pub port_grew : {l h : Netlist} → Grew l h → (r : List ℕ) → PortNets l r → is_output_port h r ≡ is_output_port l r
unfolding is_output_port not_output
port_grew {l} {h} g r n =
    ap not (any_ext (λ i. not_output h (get_or r (3 + i) 0) (get_or r 1 0) i) (λ i. not_output l (get_or r (3 + i) 0) (get_or r 1 0) i) (get_or r 2 0) (λ i b.
    let k = get_or r (3 + i) 0 in
    rw (node_grew g k (n i b), lt_yes k (count h) (le_trans (n i b) (count_grew g)), lt_yes k (count l) (n i b))))

pub only_ext : (p q : List ℕ → Bool) (rs : List (List ℕ)) → ((j : ℕ) → j < length rs → p (get_or rs j []) ≡ q (get_or rs j [])) → only p rs ≡ only q rs
unfolding only
only_ext p q [] h = refl
only_ext p q (r ∷ rs) h =
    ap₂ (λ (t : Bool) (xs : List (List ℕ)). pick t (r ∷ xs) xs) (h 0 (omega arith)) (only_ext p q rs (λ j b. h (suc j) (suc-le-suc b)))

-- ---- what is found is found later ----

pub memory_append : (xs ys : List N.MemoryCell) (k : ℕ) (x : N.MemoryCell) → find_memory xs k ≡ some x → find_memory (xs ++ ys) k ≡ some x
memory_append [] ys k x e = let z : ◌≡◌ {A = ℕ} 0 1 = cc in absurd (omega arith)
memory_append (y ∷ xs) ys k x e = go (eqb y.index k) e (memory_append xs ys k x)
  where
    go : (t : Bool) → cond t (some y) (find_memory xs k) ≡ some x → (find_memory xs k ≡ some x → find_memory (xs ++ ys) k ≡ some x)
        → cond t (some y) (find_memory (xs ++ ys) k) ≡ some x
    go true e f = e
    go false e f = f e

pub bit_append : (xs ys : List N.RegisterBit) (k i : ℕ) (x : N.RegisterBit) → find_bit xs k i ≡ some x → find_bit (xs ++ ys) k i ≡ some x
bit_append [] ys k i x e = let z : ◌≡◌ {A = ℕ} 0 1 = cc in absurd (omega arith)
bit_append (y ∷ xs) ys k i x e = go (eqb y.index k && eqb y.bit i) e (bit_append xs ys k i x)
  where
    go : (t : Bool) → cond t (some y) (find_bit xs k i) ≡ some x → (find_bit xs k i ≡ some x → find_bit (xs ++ ys) k i ≡ some x)
        → cond t (some y) (find_bit (xs ++ ys) k i) ≡ some x
    go true e f = e
    go false e f = f e
