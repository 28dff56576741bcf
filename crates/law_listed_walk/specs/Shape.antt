-- What the builder's calls keep of all nodes and records, each by itself: a node's fields, a cell's width, and that nodes from net n on are
-- gates, constants and cell outputs. Assumes nothing.
use Rattle.std.specs.Prelude.{ℕ, zero, suc, ◌-◌, ◌≤◌, ◌<◌, ◌≡◌, Bool, List, [], ◌∷◌, length, get_or}
use Rattle.std.proofs.Common.{not-suc-le-zero, sym, true≢false}
use native.Mathlib.Omega.{arith}
use Rattle.std.proofs.Math.Path.{refl}
use Rattle.std.proofs.Math.Bool.{true, false}
use Rattle.spec_tests.specs.Rules.{◌<?◌, ◌≡?◌, ◌≢?◌, ◌or◌, pick}
use Rattle.spec_tests.specs.Laws.{lt_no}
use Rattle.spec_model.specs.Words.{absent, Node, node, source, gate, Netlist, bit_word}
use Rattle.spec_model.specs.Builder.{node_for_net}
use Rattle.law_nets.specs.Sound.{count}
use Rattle.law_nets.specs.Nodes.{node_at}
use Rattle.spec_netlist.specs.Accept.{belongs, most_owner, most_bit, input_count, wrong_owner}
use Rattle.law_owners.specs.Ends.{All}
use Rattle.law_listed.specs.Listed.{sort_of}

-- a node's fields, but for its used inputs and a cell's number
pub record Shape (x : Node) : Type 0 where
  pub kind : x.kind ≤ 11
  pub owner : x.kind ≤ 9 → wrong_owner x.kind x.owner ≡ false
  pub bit : belongs x.kind ≡ true → x.bit ≤ most_bit x.kind
  pub no_bit : belongs x.kind ≡ false → x.bit ≡ absent
  pub in0 : input_count x.kind ≤ 0 → x.in0 ≡ absent
  pub in1 : input_count x.kind ≤ 1 → x.in1 ≡ absent
  pub in2 : input_count x.kind ≤ 2 → x.in2 ≡ absent

-- no input, output, register or memory node
pub record Loose (x : Node) : Type 0 where
  pub shape : Shape x
  pub loose : 3 ≤ sort_of x.kind

-- the newest first, its number is how many stand behind it
abbrev pub FineNodes : ℕ → List Node → Type 0
FineNodes n [] = Unit {0}
FineNodes n (x ∷ xs) = Shape x × (n ≤ length xs → 3 ≤ sort_of x.kind) × FineNodes n xs

-- a cell's width
pub record Wide (r : List ℕ) : Type 0 where
  pub least : 3 ≤ get_or r 0 0 → 1 ≤ get_or r 2 0
  pub most : 3 ≤ get_or r 0 0 → get_or r 2 0 ≤ 1024

pub record Fine (n : ℕ) (l : Netlist) : Type 0 where
  pub nodes : FineNodes n l.nodes
  pub records : All Wide l.records

-- ---- the nodes that are made ----

untrue : {P : Type 0} → true ≡ false → P
untrue e = absurd (true≢false e)

module _ where
  pub loose_constant : (v : Bool) → Loose (node 1 (bit_word v) absent absent absent absent)
  unfolding belongs input_count wrong_owner most_owner ◌≡?◌ ◌<?◌ ◌≢?◌ ◌or◌ pick
  loose_constant true = record { shape = record { kind = omega arith; owner = λ z. refl; bit = λ z. untrue (sym z); no_bit = λ z. refl; in0 = λ z. refl; in1 = λ z. refl; in2 = λ z. refl }; loose = omega arith }
  loose_constant false = record { shape = record { kind = omega arith; owner = λ z. refl; bit = λ z. untrue (sym z); no_bit = λ z. refl; in0 = λ z. refl; in1 = λ z. refl; in2 = λ z. refl }; loose = omega arith }

  pub loose_and : (x y : ℕ) → Loose (gate 2 x y absent)
  unfolding belongs input_count wrong_owner ◌≡?◌ ◌<?◌ ◌≢?◌ ◌or◌ pick
  loose_and x y = record { shape = record { kind = omega arith; owner = λ z. refl; bit = λ z. untrue (sym z); no_bit = λ z. refl; in0 = λ z. absurd (omega arith); in1 = λ z. absurd (omega arith); in2 = λ z. refl }; loose = omega arith }

  pub loose_or : (x y : ℕ) → Loose (gate 3 x y absent)
  unfolding belongs input_count wrong_owner ◌≡?◌ ◌<?◌ ◌≢?◌ ◌or◌ pick
  loose_or x y = record { shape = record { kind = omega arith; owner = λ z. refl; bit = λ z. untrue (sym z); no_bit = λ z. refl; in0 = λ z. absurd (omega arith); in1 = λ z. absurd (omega arith); in2 = λ z. refl }; loose = omega arith }

  pub loose_xor : (x y : ℕ) → Loose (gate 4 x y absent)
  unfolding belongs input_count wrong_owner ◌≡?◌ ◌<?◌ ◌≢?◌ ◌or◌ pick
  loose_xor x y = record { shape = record { kind = omega arith; owner = λ z. refl; bit = λ z. untrue (sym z); no_bit = λ z. refl; in0 = λ z. absurd (omega arith); in1 = λ z. absurd (omega arith); in2 = λ z. refl }; loose = omega arith }

  pub loose_not : (x : ℕ) → Loose (gate 5 x absent absent)
  unfolding belongs input_count wrong_owner ◌≡?◌ ◌<?◌ ◌≢?◌ ◌or◌ pick
  loose_not x = record { shape = record { kind = omega arith; owner = λ z. refl; bit = λ z. untrue (sym z); no_bit = λ z. refl; in0 = λ z. absurd (omega arith); in1 = λ z. refl; in2 = λ z. refl }; loose = omega arith }

  pub loose_mux : (x y z : ℕ) → Loose (gate 6 x y z)
  unfolding belongs input_count wrong_owner ◌≡?◌ ◌<?◌ ◌≢?◌ ◌or◌ pick
  loose_mux x y z = record { shape = record { kind = omega arith; owner = λ z. refl; bit = λ z. untrue (sym z); no_bit = λ z. refl; in0 = λ z. absurd (omega arith); in1 = λ z. absurd (omega arith); in2 = λ z. absurd (omega arith) }; loose = omega arith }

  pub loose_arithmetic : (o i : ℕ) → i ≤ 1023 → Loose (source 10 o i)
  unfolding belongs input_count most_bit ◌≡?◌ ◌<?◌ ◌or◌
  loose_arithmetic o i h = record { shape = record { kind = omega arith; owner = λ z. absurd (omega arith); bit = λ z. h; no_bit = λ z. untrue z; in0 = λ z. refl; in1 = λ z. refl; in2 = λ z. refl }; loose = omega arith }

  pub loose_comparison : (o i : ℕ) → i ≤ 0 → Loose (source 11 o i)
  unfolding belongs input_count most_bit ◌≡?◌ ◌<?◌ ◌or◌
  loose_comparison o i h = record { shape = record { kind = omega arith; owner = λ z. absurd (omega arith); bit = λ z. h; no_bit = λ z. untrue z; in0 = λ z. refl; in1 = λ z. refl; in2 = λ z. refl }; loose = omega arith }

  pub shape_input : (o i : ℕ) → o ≤ 511 → i ≤ 1023 → Shape (source 0 o i)
  unfolding belongs input_count most_owner most_bit wrong_owner ◌≡?◌ ◌or◌ pick
  shape_input o i h k = record { kind = omega arith; owner = λ z. lt_no 511 o h; bit = λ z. k; no_bit = λ z. untrue z; in0 = λ z. refl; in1 = λ z. refl; in2 = λ z. refl }

  pub shape_register : (o i : ℕ) → o ≤ 255 → i ≤ 1023 → Shape (source 7 o i)
  unfolding belongs input_count most_owner most_bit wrong_owner ◌≡?◌ ◌<?◌ ◌or◌ pick
  shape_register o i h k = record { kind = omega arith; owner = λ z. lt_no 255 o h; bit = λ z. k; no_bit = λ z. untrue z; in0 = λ z. refl; in1 = λ z. refl; in2 = λ z. refl }

  pub shape_output : (o i x : ℕ) → o ≤ 511 → i ≤ 1023 → Shape (node 8 o i x absent absent)
  unfolding belongs input_count most_owner most_bit wrong_owner ◌≡?◌ ◌<?◌ ◌or◌ pick
  shape_output o i x h k = record { kind = omega arith; owner = λ z. lt_no 511 o h; bit = λ z. k; no_bit = λ z. untrue z; in0 = λ z. absurd (omega arith); in1 = λ z. refl; in2 = λ z. refl }

  pub shape_memory : (o i : ℕ) → o ≤ 15 → i ≤ 2047 → Shape (source 9 o i)
  unfolding belongs input_count most_owner most_bit wrong_owner ◌≡?◌ ◌<?◌ ◌or◌ pick
  shape_memory o i h k = record { kind = omega arith; owner = λ z. lt_no 15 o h; bit = λ z. k; no_bit = λ z. untrue z; in0 = λ z. refl; in1 = λ z. refl; in2 = λ z. refl }

-- ---- by net ----

fine_get : (n : ℕ) (xs : List Node) (j : ℕ) (d : Node) → j < length xs → FineNodes n xs → Shape (get_or xs j d) × (n ≤ length xs - suc j → 3 ≤ sort_of (get_or xs j d).kind)
fine_get n [] j d h f = absurd (not-suc-le-zero h)
fine_get n (x ∷ xs) zero d h f = (f.0, λ z. f.1 (omega arith))
fine_get n (x ∷ xs) (suc j) d h f = let r = fine_get n xs j d (omega arith) f.2 in (r.0, λ z. r.1 (omega arith))

pub fine_shape : {n : ℕ} {l : Netlist} → Fine n l → (k : ℕ) → k < count l → Shape (node_for_net l k)
fine_shape {n} {l} f k h = rw (node_at l k h) (fine_get n l.nodes (count l - suc k) (gate absent absent absent absent) (omega arith) f.nodes).0

pub fine_loose : {n : ℕ} {l : Netlist} → Fine n l → (k : ℕ) → k < count l → n ≤ k → 3 ≤ sort_of (node_for_net l k).kind
fine_loose {n} {l} f k h g = rw (node_at l k h) ((fine_get n l.nodes (count l - suc k) (gate absent absent absent absent) (omega arith) f.nodes).1 (omega arith))

fine_over : (n m : ℕ) (xs : List Node) → length xs ≤ m → FineNodes n xs → FineNodes m xs
fine_over n m [] h f = tt
fine_over n m (x ∷ xs) h f = (f.0, λ z. absurd (omega arith), fine_over n m xs (omega arith) f.2)

-- nothing is said of nets that are not there
pub fine_from : {n : ℕ} {l : Netlist} (m : ℕ) → count l ≤ m → Fine n l → Fine m l
fine_from {n} {l} m h f = record { nodes = fine_over n m l.nodes h f.nodes; records = f.records }
