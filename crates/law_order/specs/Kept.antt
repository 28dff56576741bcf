-- Each call of the builder, on nets that are there, that is not refused: from its contract, and from `Sound` of the netlist before it, follows
-- `Answered`. Nothing that was there has changed, the nets of the answer are there, and the netlist after it is sound again; so every input of
-- a gate, an output or a cell is a lower net, and no Not has a Not or a constant as its input (`lower`). Assumes nothing.
use Rattle.std.specs.Prelude.{◌≡◌, Bool, List, [], ◌∷◌, ℕ, ◌≤◌, ◌<◌, length, get_or, Ok}
use Rattle.std.proofs.Common.{sym, subst}
use Rattle.std.proofs.Math.Option.{Option}
use Rattle.spec_model.specs.Words.{absent, source, Netlist}
use Rattle.spec_model.specs.Builder.{Out, done, Made, from, ArithmeticOp, ComparisonOp, add_constant, add_not, add_and, add_or, add_xor, add_mux, add_nodes, add_input_port, add_output_port}
use Rattle.spec_model.specs.WordCells.{arithmetic, comparison}
use Rattle.net_view.specs.View.{netlist_of, Formed}
use Rattle.net_view.specs.Laws.{with_record, empty, Holds}
use Rattle.word_laws.specs.Widths.{AllBelow}
use Rattle.law_nets.specs.Meaning.{node_at_of}
use Rattle.law_nets.specs.Sound.{count, CarryBelow, Wired, Sound, Later, At, Stands, StandsAll}
use Rattle.law_nets.specs.Run.{Meets, Limit, Built, Run}
use Rattle.law_nets.proofs.Nodes.{sound_empty}
use Rattle.law_gates.specs.Gates.{constant_run, not_run, and_run, or_run, xor_run}
use Rattle.law_gates.proofs.Gates.{mux_run}
use Rattle.law_gates.specs.Sources.{push_run, register_run, memory_run}
use Rattle.law_gates.specs.Ports.{InputPort, OutputPort, output_port_run}
use Rattle.law_gates.proofs.Ports.{input_port_run}
use Rattle.law_cells.specs.Arithmetic.{Carried}
use Rattle.law_cells.proofs.Arithmetic.{arithmetic_run}
use Rattle.law_cells.proofs.Comparison.{comparison_run}
use Rattle.net_nodes.specs.Gives.{Gives}
use Rattle.net_records.specs.Pushes.{Pushes}
use Rattle.net_ports.specs.Runs.{Runs}
use Rattle.net_fold.specs.Values.{Fills}
use Rattle.net_cells.specs.Cells.{GivesRun}

-- from l to l', with the nets ks as the answer
pub record Answered (l l' : Netlist) (ks : List ℕ) : Type 0 where
  pub later : Later l l'
  pub there : AllBelow (count l') ks

-- the inputs of every net of it
pub lower : {l l' : Netlist} {ks : List ℕ} → Answered l l' ks → (k : ℕ) → k < count l' → Wired l' k (node_at_of l' k)
lower p = p.later.sound.wired

-- the netlist that a build begins with
pub start_sound : (n p : ℕ) (w : List ℕ) → n ≤ absent → Holds n (empty n p) w → Sound (netlist_of n w)
start_sound n p w h e = subst Sound (sym e.view) (sound_empty n p h)

-- ---- from the model's outcome to the words ----

-- what the model's answer meets, the answer of the code meets
answered : {A : Type 0} (P : A → Type 0) {o : Out A} {a : A} → o ≡ done a → Meets Limit P o → P a
answered {A} P e m = subst (λ (x : Out A). Meets Limit P x) e m

ran : {A : Type 0} {l l' : Netlist} {P : A → Netlist → Type 0} {m : Made A} {a : A} → Run l P m → m ≡ done (a, l') → Built l P (a, l')
ran {l} {P} r e = answered (Built l P) e r.run

-- one net; several
one_kept : {l l' : Netlist} {f : At Bool} {m : Made ℕ} {k : ℕ} → Run l (λ z h. Stands h z f) m → m ≡ done (k, l') → Answered l l' (k ∷ [])
one_kept r e = let b = ran r e in record { later = b.later; there = (b.post.there, tt) }

many_kept : {l l' : Netlist} {f : At (List Bool)} {m : Made (List ℕ)} {ks : List ℕ} → Run l (λ zs h. StandsAll h zs f) m → m ≡ done (ks, l') → Answered l l' ks
many_kept r e = let b = ran r e in record { later = b.later; there = b.post.there }

-- ---- the calls, from the words w to the words w' ----

module _ (n : ℕ) (w w' : List ℕ) (q : Sound (netlist_of n w)) where
  abbrev old : Netlist
  old = netlist_of n w

  abbrev new : Netlist
  new = netlist_of n w'

  -- `net_gates`
  module _ (k : ℕ) (idx : List ℕ) where
    pub constant_kept : (v : Bool) → Gives (add_constant v old) n (Ok k) w' idx → Answered old new (k ∷ [])
    constant_kept v g = one_kept (constant_run v old q) g.says

    pub not_kept : (a : ℕ) → a < count old → Gives (add_not a old) n (Ok k) w' idx → Answered old new (k ∷ [])
    not_kept a h g = one_kept (not_run a old q h) g.says

    pub and_kept : (a b : ℕ) → a < count old → b < count old → Gives (add_and a b old) n (Ok k) w' idx → Answered old new (k ∷ [])
    and_kept a b h i g = one_kept (and_run a b old q h i) g.says

    pub or_kept : (a b : ℕ) → a < count old → b < count old → Gives (add_or a b old) n (Ok k) w' idx → Answered old new (k ∷ [])
    or_kept a b h i g = one_kept (or_run a b old q h i) g.says

    pub xor_kept : (a b : ℕ) → a < count old → b < count old → Gives (add_xor a b old) n (Ok k) w' idx → Answered old new (k ∷ [])
    xor_kept a b h i g = one_kept (xor_run a b old q h i) g.says

    pub mux_kept : (c t e : ℕ) → c < count old → t < count old → e < count old → Gives (add_mux c t e old) n (Ok k) w' idx → Answered old new (k ∷ [])
    mux_kept c t e h i j g = one_kept (mux_run c t e old q h i j) g.says

  -- `net_ports`: the nodes of a register and of a memory, and ports
  module _ (k : ℕ) where
    pub input_kept : (s b : ℕ) → Runs (add_input_port s b old) n b (Ok k) w w' → Answered old new (from k b)
    input_kept s b g =
        let r = answered (InputPort s b old) g.says (input_port_run s b old q) in
        record { later = r.later; there = r.stands.there }

    pub output_kept : (s : ℕ) (xs : List ℕ) → AllBelow (count old) xs → Runs (add_output_port s xs old) n (length xs) (Ok k) w w' → Answered old new (from k (length xs))
    output_kept s xs h g =
        let r = answered (OutputPort s xs old) g.says (output_port_run s xs old q h) in
        record { later = r.later; there = r.stands.there }

    pub register_kept : (o b c : ℕ) → Runs (add_nodes (source 7 o) b c old) n c (Ok k) w w' → Answered old new (from k c)
    register_kept o b c g =
        let r = ran (register_run o b c old q) g.says in
        record { later = r.later; there = r.post.stands.there }

    pub memory_kept : (o b c : ℕ) → Runs (add_nodes (source 9 o) b c old) n c (Ok k) w w' → Answered old new (from k c)
    memory_kept o b c g =
        let r = ran (memory_run o b c old q) g.says in
        record { later = r.later; there = r.post.stands.there }

  -- `net_records`: the record of a register or a memory
  pub record_kept : (r : List ℕ) → Formed r → 0 < get_or r 0 0 → get_or r 0 0 < 3 → Pushes r n (Ok tt) w w' → Answered old new []
  record_kept r f a b g =
      let p = answered (λ (l' : Netlist). (l' ≡ with_record r old) × Later old l') g.says (push_run r old q f a b) in
      record { later = p.1; there = tt }

  -- `net_cells`
  module _ (lhs rhs : List ℕ) (hl : AllBelow (count old) lhs) (hr : AllBelow (count old) rhs) (same : length rhs ≡ length lhs) (idx : List ℕ) where
    pub comparison_kept : (op : ComparisonOp) (k : ℕ) → GivesRun (comparison op lhs rhs old) n 1 (Ok k) w' idx → Answered old new (from k 1)
    comparison_kept op k g = many_kept (comparison_run lhs rhs old q hl hr same op) g.says

    pub arithmetic_kept : (op : ArithmeticOp) (carry : Option ℕ) → CarryBelow (count old) carry → Carried op carry → (out : List ℕ)
        → Fills (arithmetic op lhs rhs carry old) n (Ok tt) out w' idx → Answered old new out
    arithmetic_kept op carry h once out g = many_kept (arithmetic_run lhs rhs old q hl hr same op carry h once) g.says
