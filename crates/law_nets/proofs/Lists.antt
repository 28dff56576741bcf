-- What is proved of specs/Lists: The lists of what a netlist means: ports, registers and memories stay as they were when nodes and records are added. Assumes nothing.
use Rattle.std.specs.Prelude.{◌≡◌, ℕ, ◌+◌, length, get_or}
use Rattle.std.proofs.Math.Path.{sym, ap}
use Rattle.std.proofs.Common.{◌∙◌, arith}
use mathlib.Core.List.{List, [], ◌++◌, map, append-nil}
use Rattle.std.proofs.Math.Option.{some}
use Rattle.spec_tests.specs.Rules.{◌or◌, first, only}
use Rattle.spec_rules.specs.NetlistImage as N
use Rattle.spec_rules.specs.NetlistImage.{out_port_of, register_bit_of, memory_of}
use Rattle.spec_rules.specs.Step.{perhaps, data_width, find_memory, find_bit}
use Rattle.spec_model.specs.Words.{Netlist}
use Rattle.law_nets.specs.Meaning.{records_with, is_output_port, meaning_of}
use Rattle.law_nets.specs.Sound.{Sound, Grew, Later, Cells}
use Rattle.law_nets.specs.Nodes.{with_append, only_append}
use Rattle.law_nets.specs.Lists.{bit_append, map_append, memory_append, only_ext, port_grew}

-- ---- the lists grow ----

module _ {l h : Netlist} (g : Grew l h) where
  pub registers_grew : (meaning_of h).registers ≡ (meaning_of l).registers ++ map register_bit_of (records_with 1 g.pushed)
  unfolding meaning_of
  registers_grew =
      ap (λ (rs : List (List ℕ)). map register_bit_of (records_with 1 rs)) g.records
      ∙ ap (map register_bit_of) (with_append 1 l.records g.pushed) ∙ map_append register_bit_of (records_with 1 l.records) (records_with 1 g.pushed)

  pub memories_grew : (meaning_of h).memories ≡ (meaning_of l).memories ++ map memory_of (records_with 2 g.pushed)
  unfolding meaning_of
  memories_grew =
      ap (λ (rs : List (List ℕ)). map memory_of (records_with 2 rs)) g.records
      ∙ ap (map memory_of) (with_append 2 l.records g.pushed) ∙ map_append memory_of (records_with 2 l.records) (records_with 2 g.pushed)

  -- more port records
  pub outputs_with : Sound l → (more : List (List ℕ)) → records_with 0 h.records ≡ records_with 0 l.records ++ more
      → (meaning_of h).outputs ≡ (meaning_of l).outputs ++ map out_port_of (only (is_output_port h) more)
  unfolding meaning_of
  outputs_with q more e =
      ap (λ (rs : List (List ℕ)). map out_port_of (only (is_output_port h) rs)) e
      ∙ ap (map out_port_of) (only_append (is_output_port h) (records_with 0 l.records) more)
      ∙ map_append out_port_of (only (is_output_port h) (records_with 0 l.records)) (only (is_output_port h) more)
      ∙ ap (λ (rs : List (List ℕ)). map out_port_of rs ++ map out_port_of (only (is_output_port h) more))
      (only_ext (is_output_port h) (is_output_port l) (records_with 0 l.records) (λ j b. port_grew g (get_or (records_with 0 l.records) j []) (q.ports j b)))

  pub outputs_none : Sound l → records_with 0 h.records ≡ records_with 0 l.records → (meaning_of h).outputs ≡ (meaning_of l).outputs
  unfolding only
  outputs_none q e = outputs_with q [] (e ∙ sym (append-nil (records_with 0 l.records))) ∙ append-nil (meaning_of l).outputs

  -- where only cells were recorded they are the same
  module _ (c : Cells l h) where
    pub registers_same : (meaning_of h).registers ≡ (meaning_of l).registers
    unfolding meaning_of
    registers_same = ap (map register_bit_of) (c.cells 1 (omega arith))

    pub memories_same : (meaning_of h).memories ≡ (meaning_of l).memories
    unfolding meaning_of
    memories_same = ap (map memory_of) (c.cells 2 (omega arith))

    pub outputs_same : Sound l → (meaning_of h).outputs ≡ (meaning_of l).outputs
    outputs_same q = outputs_none q (c.cells 0 (omega arith))

pub memory_later : {l h : Netlist} → Later l h → (k : ℕ) (x : N.MemoryCell) → find_memory (meaning_of l).memories k ≡ some x → find_memory (meaning_of h).memories k ≡ some x
memory_later {l} a k x e = ap (λ (xs : List N.MemoryCell). find_memory xs k) (memories_grew a.grew) ∙ memory_append (meaning_of l).memories _ k x e

pub bit_later : {l h : Netlist} → Later l h → (k i : ℕ) (x : N.RegisterBit) → find_bit (meaning_of l).registers k i ≡ some x → find_bit (meaning_of h).registers k i ≡ some x
bit_later {l} a k i x e = ap (λ (xs : List N.RegisterBit). find_bit xs k i) (registers_grew a.grew) ∙ bit_append (meaning_of l).registers _ k i x e

-- a memory's data width is that of its record, from when that was pushed
pub data_later : {l h : Netlist} → Later l h → (k : ℕ) (x : N.MemoryCell) → find_memory (meaning_of l).memories k ≡ some x
    → data_width (meaning_of h) k ≡ length x.first.read_data
data_later a k x e = ap (perhaps 0 (λ (y : N.MemoryCell). length y.first.read_data)) (memory_later a k x e)
