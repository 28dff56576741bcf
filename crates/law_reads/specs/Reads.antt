-- A net's value hangs on the nets that it reads and on its own source alone, in every netlist whose nets read only lower ones. Assumes
-- nothing.
use Rattle.std.specs.Prelude.{ℕ, ◌≤◌, ◌<◌, ◌≡◌, refl, Bool, true, false, List, [], ◌∷◌, ◌++◌, map, length, get_or}
use Rattle.std.proofs.Common.{arith, sym, ap, ◌∙◌}
use Rattle.std.proofs.Math.Decide.{dec_lt}
use Rattle.std.proofs.Math.Option.{Option, none, some}
use Rattle.std.proofs.Math.ListN.{get_or-eq_default}
use Rattle.spec_rtl.specs.Table.{entry_is, Low, length_build, build}
use Rattle.spec_tests.specs.Rules.{◌≡?◌}
use Rattle.spec_tests.specs.Laws.{or_left, or_right}
use Rattle.spec_rules.specs.NetlistImage as N
use Rattle.spec_rules.specs.NetlistImage.{Netlist}
use Rattle.spec_rules.specs.Step.{Setting, Contents, perhaps, arithmetic, net, node_value}
use Rattle.spec_netlist.specs.Accept.{member}
use Rattle.law_told.specs.Told.{untrue, or_split}
use Rattle.law_told.specs.Members.{member_here, no_member}
use Rattle.law_told.specs.Ordered.{carry_nets, arithmetic_nets, read_by, Ordered}

abbrev pub node_of : Netlist → ℕ → N.Node
node_of n k = get_or n.nodes k (N.Constant false)

-- a node whose value is given: an input, register or memory read bit
unfoldable pub is_source : N.Node → Bool
is_source (N.Input p i) = true
is_source (N.Constant b) = false
is_source (N.And a b) = false
is_source (N.Or a b) = false
is_source (N.Xor a b) = false
is_source (N.Not a) = false
is_source (N.Mux x a b) = false
is_source (N.RegisterOutput r i) = true
is_source (N.Output a) = false
is_source (N.MemoryOutput k i) = true
is_source (N.ArithmeticOutput k i) = false
is_source (N.ComparisonOutput k) = false

pub member_there : (x y : ℕ) (ys : List ℕ) → member x ys ≡ true → member x (y ∷ ys) ≡ true
unfolding member
member_there x y ys h = or_right (x ≡? y) h

pub member_left : (x : ℕ) (ys zs : List ℕ) → member x ys ≡ true → member x (ys ++ zs) ≡ true
unfolding member
member_left x [] zs h = no_member x h
member_left x (y ∷ ys) zs h =
    or_split (x ≡? y) (member x ys) h (λ e. or_left (member x (ys ++ zs)) e) (λ m. or_right (x ≡? y) (member_left x ys zs m))

pub member_right : (x : ℕ) (ys zs : List ℕ) → member x zs ≡ true → member x (ys ++ zs) ≡ true
unfolding member
member_right x [] zs h = h
member_right x (y ∷ ys) zs h = or_right (x ≡? y) (member_right x ys zs h)

-- ---- a node's value ----

pub map_same : (g h : ℕ → Bool) (xs : List ℕ) → ((j : ℕ) → member j xs ≡ true → g j ≡ h j) → map g xs ≡ map h xs
map_same g h [] e = refl
map_same g h (x ∷ xs) e = rw (e x (member_here x xs), map_same g h xs (λ j m. e j (member_there j x xs m)))

carry_same : (g h : ℕ → Bool) (o : Option ℕ) → ((j : ℕ) → member j (carry_nets o) ≡ true → g j ≡ h j) → perhaps false g o ≡ perhaps false h o
unfolding carry_nets
carry_same g h none e = refl
carry_same g h (some k) e = e k (member_here k [])

arithmetic_same : (g h : ℕ → Bool) (x : N.Arithmetic) → ((j : ℕ) → member j (arithmetic_nets x) ≡ true → g j ≡ h j) → arithmetic g x ≡ arithmetic h x
unfolding arithmetic_nets
arithmetic_same g h x e = rw (
  map_same g h x.lhs (λ j m. e j (member_left j x.lhs (x.rhs ++ carry_nets x.carry) m)),
  map_same g h x.rhs (λ j m. e j (member_right j x.lhs (x.rhs ++ carry_nets x.carry) (member_left j x.rhs (carry_nets x.carry) m))),
  carry_same g h x.carry (λ j m. e j (member_right j x.lhs (x.rhs ++ carry_nets x.carry) (member_right j x.rhs (carry_nets x.carry) m))),
)

-- a source's value is given; any other node's hangs on what it reads
pub by_reads : (n : Netlist) (s t : Setting) (c d : Contents) (g h : ℕ → Bool) (x : N.Node)
    → (is_source x ≡ true → node_value n s c g x ≡ node_value n t d h x)
    → ((j : ℕ) → member j (read_by n x) ≡ true → g j ≡ h j) → node_value n s c g x ≡ node_value n t d h x
unfolding is_source read_by
by_reads n s t c d g h (N.Input p i) f e = f refl
by_reads n s t c d g h (N.Constant b) f e = refl
by_reads n s t c d g h (N.And a b) f e = rw (e a (member_here a (b ∷ [])), e b (member_there b a (b ∷ []) (member_here b [])))
by_reads n s t c d g h (N.Or a b) f e = rw (e a (member_here a (b ∷ [])), e b (member_there b a (b ∷ []) (member_here b [])))
by_reads n s t c d g h (N.Xor a b) f e = rw (e a (member_here a (b ∷ [])), e b (member_there b a (b ∷ []) (member_here b [])))
by_reads n s t c d g h (N.Not a) f e = rw (e a (member_here a []))
by_reads n s t c d g h (N.Mux x a b) f e = rw (
  e x (member_here x (a ∷ b ∷ [])),
  e a (member_there a x (a ∷ b ∷ []) (member_here a (b ∷ []))),
  e b (member_there b x (a ∷ b ∷ []) (member_there b a (b ∷ []) (member_here b []))),
)
by_reads n s t c d g h (N.RegisterOutput r i) f e = f refl
by_reads n s t c d g h (N.Output a) f e = e a (member_here a [])
by_reads n s t c d g h (N.MemoryOutput k i) f e = f refl
by_reads n s t c d g h (N.ArithmeticOutput k i) f e =
    let x = get_or n.arithmetic k (record { operation = N.Add; carry = none; lhs = []; rhs = [] }) in
    ap (λ w. get_or w i false) (arithmetic_same g h x e)
by_reads n s t c d g h (N.ComparisonOutput k) f e =
    let x = get_or n.comparisons k (record { relation = N.LessU; lhs = []; rhs = [] }) in
    rw (map_same g h x.lhs (λ j m. e j (member_left j x.lhs x.rhs m)), map_same g h x.rhs (λ j m. e j (member_right j x.lhs x.rhs m)))

-- ---- a net's value, where nets read lower ones ----

-- a source's value hangs on no net
source_same : (n : Netlist) (s : Setting) (c : Contents) (g h : ℕ → Bool) (x : N.Node) → is_source x ≡ true → node_value n s c g x ≡ node_value n s c h x
unfolding is_source
source_same n s c g h (N.Input p i) e = refl
source_same n s c g h (N.Constant b) e = refl
source_same n s c g h (N.And a b) e = untrue e
source_same n s c g h (N.Or a b) e = untrue e
source_same n s c g h (N.Xor a b) e = untrue e
source_same n s c g h (N.Not a) e = untrue e
source_same n s c g h (N.Mux x a b) e = untrue e
source_same n s c g h (N.RegisterOutput r i) e = refl
source_same n s c g h (N.Output a) e = untrue e
source_same n s c g h (N.MemoryOutput k i) e = refl
source_same n s c g h (N.ArithmeticOutput k i) e = untrue e
source_same n s c g h (N.ComparisonOutput k) e = untrue e

module _ (n : Netlist) (ordered : Ordered n) where
  low : (s : Setting) (c : Contents) (k : ℕ) → k < length n.nodes → Low false (node_value n s c) k (node_of n k)
  low s c k h g g' e = by_reads n s s c c g g' (node_of n k) (source_same n s c g g' (node_of n k)) (λ j m. e j (ordered.lower k j h m))

  pub net_is : (s : Setting) (c : Contents) (k : ℕ) → k < length n.nodes → net n s c k ≡ node_value n s c (net n s c) (node_of n k)
  net_is s c k h = entry_is false (node_value n s c) n.nodes k (N.Constant false) h (low s c k h)

  pub net_past : (s : Setting) (c : Contents) (k : ℕ) → length n.nodes ≤ k → net n s c k ≡ false
  net_past s c k h = get_or-eq_default (build false (node_value n s c) [] n.nodes) false {n = k} (rw (length_build false (node_value n s c) [] n.nodes) (omega arith))

  -- a net that is no changed source and reads no changed net keeps its value
  pub keeps : (s t : Setting) (c d : Contents) (k : ℕ)
      → (is_source (node_of n k) ≡ true → node_value n s c (net n s c) (node_of n k) ≡ node_value n t d (net n t d) (node_of n k))
      → ((j : ℕ) → member j (read_by n (node_of n k)) ≡ true → net n s c j ≡ net n t d j) → net n s c k ≡ net n t d k
  keeps s t c d k f e = elim (dec_lt k (length n.nodes)) [
    | yes h ↦ net_is s c k h ∙ by_reads n s t c d (net n s c) (net n t d) (node_of n k) f e ∙ sym (net_is t d k h)
    | no h ↦ net_past s c k (omega arith) ∙ sym (net_past t d k (omega arith))
  ]
