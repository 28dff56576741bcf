-- What is proved of specs/Gates: A gate as a table of eight bits: its chosen bit is the node's value, and a gate's step of an accepted netlist is right. Assumes nothing.
use Rattle.std.specs.Prelude.{ℕ, ◌≤◌, ◌<◌, ◌≡◌, Bool, ◌&&◌, ◌||◌, List, get_or}
use Rattle.std.proofs.Common.{arith, sym, ap, ◌∙◌}
use Rattle.std.proofs.Math.Path.{refl}
use Rattle.std.proofs.Math.Bool.{not, cond}
use Rattle.spec_rtl.specs.Word.{bit}
use Rattle.spec_rtl.specs.Ops.{xor_b}
use Rattle.spec_tests.specs.Rules.{pick, ◌≡?◌}
use Rattle.spec_rules.specs.NetlistImage as N
use Rattle.spec_rules.specs.NetlistImage.{Netlist, netlist, node_word, node_at_of}
use Rattle.spec_rules.specs.Step.{Setting, Contents, net, node_value}
use Rattle.spec_netlist.specs.Accept.{input_count}
use Rattle.law_told.specs.Ordered.{Ordered}
use Rattle.law_reads.specs.Reads.{net_is}
use Rattle.law_reads.specs.Reads as D
use Rattle.trace_cells.specs.Digits.{Bits}
use Rattle.trace_pass.specs.Plan.{size, chosen, word, Settled, gate_of}
use Rattle.trace_pass.specs.Gates.{Computed, GateWords, and_gate, and_table, as_bit, const_table, constant, mux, mux_table, not_gate, not_table, or_gate, or_table, output, same_table, table_of, three, xor_gate, xor_table}

module _ (n : Netlist) (s : Setting) (c : Contents) (g : ℕ → Bool) (o b x y z u v w : ℕ) (hu : u < 2) (hv : v < 2) (hw : w < 2) where
  -- u, v, w: what was read for the three inputs; of an input that the kind has not it may be anything
  pub gate_value : (kind : ℕ) → Computed kind → (0 < input_count kind → u ≡ bit (g x)) → (1 < input_count kind → v ≡ bit (g y)) → (2 < input_count kind → w ≡ bit (g z))
      → chosen (table_of kind o) u v w ≡ bit (node_value n s c g (N.node_of kind o b x y z))
  unfolding table_of N.node_of input_count
  gate_value kind constant eu ev ew = as_bit (λ m. chosen (pick (o ≡? 1) 255 0) m v w ≡ bit (o ≡? 1)) u hu (λ d.
      as_bit (λ m. chosen (pick (o ≡? 1) 255 0) (bit d) m w ≡ bit (o ≡? 1)) v hv (λ e.
      as_bit (λ m. chosen (pick (o ≡? 1) 255 0) (bit d) (bit e) m ≡ bit (o ≡? 1)) w hw (λ f. const_table (o ≡? 1) d e f)))
  gate_value kind and_gate eu ev ew = as_bit (λ m. chosen 136 u v m ≡ bit (g x && g y)) w hw (λ f. three 136 (λ a b c. a && b) and_table (g x) (g y) f u v (bit f) (eu (omega arith)) (ev (omega arith)) refl)
  gate_value kind or_gate eu ev ew = as_bit (λ m. chosen 238 u v m ≡ bit (g x || g y)) w hw (λ f. three 238 (λ a b c. a || b) or_table (g x) (g y) f u v (bit f) (eu (omega arith)) (ev (omega arith)) refl)
  gate_value kind xor_gate eu ev ew = as_bit (λ m. chosen 102 u v m ≡ bit (xor_b (g x) (g y))) w hw (λ f. three 102 (λ a b c. xor_b a b) xor_table (g x) (g y) f u v (bit f) (eu (omega arith)) (ev (omega arith)) refl)
  gate_value kind not_gate eu ev ew = as_bit (λ m. chosen 85 u v m ≡ bit (not (g x))) w hw (λ f. as_bit (λ m. chosen 85 u m (bit f) ≡ bit (not (g x))) v hv (λ e.
      three 85 (λ a b c. not a) not_table (g x) e f u (bit e) (bit f) (eu (omega arith)) refl refl))
  gate_value kind mux eu ev ew = three 216 (λ a b c. cond a b c) mux_table (g x) (g y) (g z) u v w (eu (omega arith)) (ev (omega arith)) (ew (omega arith))
  gate_value kind output eu ev ew = as_bit (λ m. chosen 170 u v m ≡ bit (g x)) w hw (λ f. as_bit (λ m. chosen 170 u m (bit f) ≡ bit (g x)) v hv (λ e.
      three 170 (λ a b c. a) same_table (g x) e f u (bit e) (bit f) (eu (omega arith)) refl refl))

pub gate_rule : {ws t : List ℕ} {due : ℕ → ℕ} {i k : ℕ} → Ordered (netlist ws) → D.node_of (netlist ws) k ≡ node_at_of ws k → GateWords ws t due i k
    → (s : Setting) (c : Contents) (v : List ℕ) → Bits v → Settled ws due s c i v → gate_of ws t due i v ≡ bit (net (netlist ws) s c (word t i 0))
unfolding node_at_of
gate_rule {ws} {t} {due} {i} {k} o e g s c v b h =
    rw g.table (gate_value (netlist ws) s c (net (netlist ws) s c) (node_word ws k 1) (node_word ws k 2) (node_word ws k 3) (node_word ws k 4) (node_word ws k 5)
    (get_or v (word t i 2) 0) (get_or v (word t i 3) 0) (get_or v (word t i 4) 0) (b.low (word t i 2)) (b.low (word t i 3)) (b.low (word t i 4)) (node_word ws k 0) g.kind
    (λ l. read (word t i 2) (node_word ws k 3) (g.first l))
    (λ l. read (word t i 3) (node_word ws k 4) (g.second l))
    (λ l. read (word t i 4) (node_word ws k 5) (g.third l)))
    ∙ ap (λ (x : N.Node). bit (node_value (netlist ws) s c (net (netlist ws) s c) x)) (sym e) ∙ sym (ap bit (net_is (netlist ws) o s c k g.inside))
    ∙ ap (λ (j : ℕ). bit (net (netlist ws) s c j)) (sym g.target)
  where
    read : (p x : ℕ) → (p ≡ x) × ((x < size ws) × (due x ≤ i)) → get_or v p 0 ≡ bit (net (netlist ws) s c x)
    read p x f = ap (λ (j : ℕ). get_or v j 0) f.0 ∙ h.holds x f.1.0 f.1.1
