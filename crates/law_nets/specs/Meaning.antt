-- The netlist that a netlist of the builder means, and the values of its nets. Assumes nothing.
use Rattle.std.specs.Prelude.{Bool, not, List, [], ◌∷◌, ◌++◌, map, ℕ, ◌+◌, length, get_or}
use Rattle.spec_tests.specs.Rules.{◌<?◌, ◌≡?◌, ◌≢?◌, ◌or◌, any, only}
use Rattle.spec_rules.specs.NetlistImage as N
use Rattle.spec_rules.specs.NetlistImage.{node_of, out_port_of, register_bit_of, memory_of, arithmetic_of, comparison_of}
use Rattle.spec_rules.specs.Step.{Setting, Contents, net}
use Rattle.spec_model.specs.Words.{Node, Netlist}
use Rattle.spec_model.specs.Builder.{node_for_net}

unfoldable pub decode : Node → N.Node
decode x = node_of x.kind x.owner x.bit x.in0 x.in1 x.in2

-- the newest stands last
unfoldable pub decoded : List Node → List N.Node
decoded [] = []
decoded (x ∷ xs) = decoded xs ++ (decode x ∷ [])

-- the node of net n, decoded
abbrev pub node_at_of : Netlist → ℕ → N.Node
node_at_of l n = decode (node_for_net l n)

-- the records that begin with the word t
unfoldable pub records_with : ℕ → List (List ℕ) → List (List ℕ)
records_with t rs = only (λ r. get_or r 0 0 ≡? t) rs

-- an output port's nets are output nodes of its signal, bit by bit
unfoldable pub not_output : Netlist → ℕ → ℕ → ℕ → Bool
not_output l n p i =
    not (n <? length l.nodes) or (node_for_net l n).kind ≢? 8 or (node_for_net l n).owner ≢? p or (node_for_net l n).bit ≢? i

unfoldable pub is_output_port : Netlist → List ℕ → Bool
is_output_port l r = not (any (λ i. not_output l (get_or r (3 + i) 0) (get_or r 1 0) i) (get_or r 2 0))

unfoldable pub meaning_of : Netlist → N.Netlist
meaning_of l = record {
  nodes = decoded l.nodes;
  outputs = map out_port_of (only (is_output_port l) (records_with 0 l.records));
  registers = map register_bit_of (records_with 1 l.records);
  memories = map memory_of (records_with 2 l.records);
  arithmetic = map arithmetic_of (records_with 3 l.records);
  comparisons = map comparison_of (records_with 4 l.records);
}

-- the value of net k
unfoldable pub net_value : Netlist → Setting → Contents → ℕ → Bool
net_value l s c k = net (meaning_of l) s c k
