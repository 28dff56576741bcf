-- What the builder's calls are to give, in one record; from that, nets that stand for a word of the signals' values. Assumes nothing.
use Rattle.std.specs.Prelude.{◌≡◌, Bool, cond, ◌&&◌, ◌||◌, List, [], map, ℕ, ◌<◌, length}
use Rattle.std.proofs.Common.{◌∙◌}
use Rattle.std.proofs.Math.Option.{some}
use Rattle.spec_rtl.specs.Ops.{xor_b, map2, not_w, add_c}
use Rattle.spec_rtl.specs.Rtl as R
use Rattle.spec_rtl.specs.Rtl.{Valuation, unary, binary}
use Rattle.spec_rules.specs.Step.{Setting, Contents}
use Rattle.spec_model.specs.Words.{Netlist}
use Rattle.spec_model.specs.Builder as B
use Rattle.spec_model.specs.Builder.{constant_value, Made, add_constant, add_not, add_mux, each, both}
use Rattle.spec_model.specs.WordCells.{arithmetic}
use Rattle.spec_model.specs.Ranges.{Gate, AndGate, OrGate, XorGate}
use Rattle.spec_model.specs.Lowering.{add_gate, lower_unary, lower_binary}
use Rattle.word_laws.specs.Widths.{AllBelow, BinWidth}
use Rattle.law_nets.specs.Meaning.{net_value}
use Rattle.law_nets.specs.Sound.{count, Sound, Later, At, Stands, StandsAll}
use Rattle.law_nets.proofs.Run.{later_trans}
use Rattle.law_walk.specs.Kept.{Table, Agrees, NetsGive, Makes, makes_map}

abbrev pub gate_op : Gate → Bool → Bool → Bool
gate_op AndGate a b = a && b
gate_op OrGate a b = a || b
gate_op XorGate a b = xor_b a b

-- the nets made have this word, now and later
abbrev pub Gives : Netlist → At (List Bool) → Made (List ℕ) → Type 0
Gives l w o = Makes l (λ zs l'. StandsAll l' zs w) o

pub record Gates : Type 0 where
  pub constant : (b : Bool) (l : Netlist) → Sound l → Makes l (λ z l'. Stands l' z (λ h s c. b)) (add_constant b l)
  pub known : (l : Netlist) (k : ℕ) (b : Bool) → k < count l → constant_value l k ≡ some b → Stands l k (λ h s c. b)
  pub constants : (bs : List Bool) (l : Netlist) → Sound l → Gives l (λ h s c. bs) (each add_constant bs l)
  pub nots : (xs : List ℕ) (l : Netlist) → Sound l → AllBelow (count l) xs → Gives l (λ h s c. not_w (map (net_value h s c) xs)) (each add_not xs l)
  pub gates : (k : Gate) (xs ys : List ℕ) (l : Netlist) → Sound l → AllBelow (count l) xs → AllBelow (count l) ys → length xs ≡ length ys
      → Gives l (λ h s c. map2 (gate_op k) (map (net_value h s c) xs) (map (net_value h s c) ys)) (both (add_gate k) xs ys l)
  pub mux : (d : ℕ) (ts es : List ℕ) (l : Netlist) → Sound l → d < count l → AllBelow (count l) ts → AllBelow (count l) es → length ts ≡ length es
      → Gives l (λ h s c. cond (net_value h s c d) (map (net_value h s c) ts) (map (net_value h s c) es)) (both (add_mux d) ts es l)
  pub un : (op : R.Unary) (xs : List ℕ) (l : Netlist) → Sound l → AllBelow (count l) xs → Gives l (λ h s c. unary op (map (net_value h s c) xs)) (lower_unary op xs l)
  pub bin : (op : R.Binary) (w : ℕ) (xs ys : List ℕ) (l : Netlist) → Sound l → AllBelow (count l) xs → AllBelow (count l) ys
      → BinWidth op w (length xs) (length ys) → Gives l (λ h s c. binary op (map (net_value h s c) xs) (map (net_value h s c) ys)) (lower_binary op xs ys l)
  pub carry : (xs ys : List ℕ) (d : ℕ) (l : Netlist) → Sound l → AllBelow (count l) xs → AllBelow (count l) ys → d < count l → length xs ≡ length ys
      → Gives l (λ h s c. add_c (map (net_value h s c) xs) (map (net_value h s c) ys) (net_value h s c d)) (arithmetic B.Add xs ys (some d) l)

pub stands_holds : {l l' : Netlist} {t : Table} {zs : List ℕ} {w : At (List Bool)} {u : Valuation → List Bool} → StandsAll l' zs w → Later l l'
    → ((h : Netlist) → Later l' h → (s : Setting) (c : Contents) (v : Valuation) → Agrees (net_value h s c) v t → w h s c ≡ u v) → NetsGive l' t zs u
stands_holds a b e = record { there = a.there; holds = λ h k s c v g. a.are h k s c ∙ e h k s c v g }

-- the nets made stand for a word of the signals' values
pub gives_holds : {l : Netlist} {t : Table} {w : At (List Bool)} {u : Valuation → List Bool} (o : Made (List ℕ)) → Gives l w o
    → ((h : Netlist) → Later l h → (s : Setting) (c : Contents) (v : Valuation) → Agrees (net_value h s c) v t → w h s c ≡ u v)
    → Makes l (λ zs l'. NetsGive l' t zs u) o
gives_holds o r e = makes_map o r (λ zs l' a p. stands_holds p a (λ h k s c v g. e h (later_trans a k) s c v g))
