-- A gate as a table of eight bits: its chosen bit is the node's value, and a gate's step of an accepted netlist is right. Assumes nothing.
use Rattle.std.specs.Prelude.{ℕ, ◌≤◌, ◌<◌, ◌≡◌, Bool, true, false, ◌&&◌, ◌||◌, List, [], ◌∷◌, eqb, get_or}
use Rattle.std.proofs.Common.{subst}
use Rattle.std.proofs.Math.Path.{refl}
use Rattle.std.proofs.Math.Bool.{not, cond}
use Rattle.spec_rtl.specs.Word.{bit, bit_eqb}
use Rattle.spec_rtl.specs.Ops.{xor_b}
use Rattle.spec_tests.specs.Rules.{pick, ◌≡?◌}
use Rattle.spec_rules.specs.NetlistImage.{node_word}
use Rattle.spec_netlist.specs.Accept.{input_count}
use Rattle.trace_pass.specs.Plan.{size, chosen, word}

-- the tables of And, Or, Xor, Not, Mux and an output node; a constant's is all zeros or all ones
unfoldable pub table_of : ℕ → ℕ → ℕ
table_of kind owner = get_or (170 ∷ pick (owner ≡? 1) 255 0 ∷ 136 ∷ 238 ∷ 102 ∷ 85 ∷ 216 ∷ 170 ∷ 170 ∷ 170 ∷ 170 ∷ 170 ∷ []) kind 0

-- nodes that have a step of their own: constants, gates, outputs
pub data Computed : ℕ → Type 0 where
  constant : Computed 1
  and_gate : Computed 2
  or_gate : Computed 3
  xor_gate : Computed 4
  not_gate : Computed 5
  mux : Computed 6
  output : Computed 8

pub const_table : (d a b c : Bool) → chosen (pick d 255 0) (bit a) (bit b) (bit c) ≡ bit d
unfolding chosen pick
const_table true true true true = refl
const_table true true true false = refl
const_table true true false true = refl
const_table true true false false = refl
const_table true false true true = refl
const_table true false true false = refl
const_table true false false true = refl
const_table true false false false = refl
const_table false true true true = refl
const_table false true true false = refl
const_table false true false true = refl
const_table false true false false = refl
const_table false false true true = refl
const_table false false true false = refl
const_table false false false true = refl
const_table false false false false = refl

pub and_table : (a b c : Bool) → chosen 136 (bit a) (bit b) (bit c) ≡ bit (a && b)
unfolding chosen
and_table true true true = refl
and_table true true false = refl
and_table true false true = refl
and_table true false false = refl
and_table false true true = refl
and_table false true false = refl
and_table false false true = refl
and_table false false false = refl

pub or_table : (a b c : Bool) → chosen 238 (bit a) (bit b) (bit c) ≡ bit (a || b)
unfolding chosen
or_table true true true = refl
or_table true true false = refl
or_table true false true = refl
or_table true false false = refl
or_table false true true = refl
or_table false true false = refl
or_table false false true = refl
or_table false false false = refl

pub xor_table : (a b c : Bool) → chosen 102 (bit a) (bit b) (bit c) ≡ bit (xor_b a b)
unfolding chosen
xor_table true true true = refl
xor_table true true false = refl
xor_table true false true = refl
xor_table true false false = refl
xor_table false true true = refl
xor_table false true false = refl
xor_table false false true = refl
xor_table false false false = refl

pub not_table : (a b c : Bool) → chosen 85 (bit a) (bit b) (bit c) ≡ bit (not a)
unfolding chosen
not_table true true true = refl
not_table true true false = refl
not_table true false true = refl
not_table true false false = refl
not_table false true true = refl
not_table false true false = refl
not_table false false true = refl
not_table false false false = refl

pub mux_table : (a b c : Bool) → chosen 216 (bit a) (bit b) (bit c) ≡ bit (cond a b c)
unfolding chosen
mux_table true true true = refl
mux_table true true false = refl
mux_table true false true = refl
mux_table true false false = refl
mux_table false true true = refl
mux_table false true false = refl
mux_table false false true = refl
mux_table false false false = refl

pub same_table : (a b c : Bool) → chosen 170 (bit a) (bit b) (bit c) ≡ bit (a)
unfolding chosen
same_table true true true = refl
same_table true true false = refl
same_table true false true = refl
same_table true false false = refl
same_table false true true = refl
same_table false true false = refl
same_table false false true = refl
same_table false false false = refl

-- a bit is that of a Bool
pub as_bit : (P : ℕ → Type 0) (n : ℕ) → n < 2 → ((d : Bool) → P (bit d)) → P n
as_bit P n h f = subst P (bit_eqb n h) (f (eqb n 1))

pub three : (q : ℕ) (f : Bool → Bool → Bool → Bool) → ((a b c : Bool) → chosen q (bit a) (bit b) (bit c) ≡ bit (f a b c)) → (a b c : Bool) (x y z : ℕ)
    → x ≡ bit a → y ≡ bit b → z ≡ bit c → chosen q x y z ≡ bit (f a b c)
three q f t a b c x y z ex ey ez = rw (ex, ey, ez) (t a b c)

-- a gate's step: its words are the node's, and what it reads is due
pub record GateWords (ws t : List ℕ) (due : ℕ → ℕ) (i k : ℕ) : Type 0 where
  pub inside : k < size ws
  pub kind : Computed (node_word ws k 0)
  pub target : word t i 0 ≡ k
  pub table : word t i 1 ≡ table_of (node_word ws k 0) (node_word ws k 1)
  pub first : 0 < input_count (node_word ws k 0) → (word t i 2 ≡ node_word ws k 3) × ((node_word ws k 3 < size ws) × (due (node_word ws k 3) ≤ i))
  pub second : 1 < input_count (node_word ws k 0) → (word t i 3 ≡ node_word ws k 4) × ((node_word ws k 4 < size ws) × (due (node_word ws k 4) ≤ i))
  pub third : 2 < input_count (node_word ws k 0) → (word t i 4 ≡ node_word ws k 5) × ((node_word ws k 5 < size ws) × (due (node_word ws k 5) ≤ i))
