-- Clock and asynchronous reset nets of registers and memories that are input nodes, and how many bits memories hold, as a netlist grows:
-- nodes and records more, `reserve_sources`, the walk. Assumes nothing.
use Prim.Native.Nat.{ℕ, zero, suc, ◌+◌, ◌-◌, ◌≤◌, ◌<◌}
use Rattle.std.proofs.Common.{not-suc-le-zero, sym, ◌∙◌, get_or-set_same}
use native.Mathlib.Omega.{arith}
use Rattle.std.proofs.Math.Decide.{ℕ_discrete}
use Rattle.std.specs.Prelude.{◌≡◌, Bool, leb, ltb, drop, set}
use Rattle.std.proofs.Math.Path.{refl, ap, subst}
use mathlib.Core.List.{List, [], ◌∷◌, ◌++◌, map}
use Rattle.std.proofs.Math.Option.{Option, none, some}
use Rattle.std.proofs.Math.ListN.{length, get_or, get_elem?, length-set, length-drop}
use Rattle.std.proofs.Math.Seq.{get_or-set_other}
use Rattle.spec_rtl.specs.Rtl as R
use Rattle.spec_rtl.specs.Rtl.{Module, Sig, Dir, Register, Port, Memory, dir_of}
use Rattle.spec_rules.specs.NetlistImage.{MemoryPort, memory_of}
use Rattle.spec_model.specs.Words.{absent, Node, source, gate, Netlist, used, arithmetic_key, comparison_key}
use Rattle.spec_model.specs.Builder.{Out, refused, done, push, node_for_net, add_node, each, both, from, add_nodes, add_recorded, add_input_port}
use Rattle.spec_model.specs.Lowering.{State, Step, cell, with_netlist, set_signal, signal_width, signal_bit, signal_net, lower_all, reserve, reserve_input, reserve_inputs, reserve_bits, reserve_registers, reserve_second, reserve_memories, push_record}
use Rattle.spec_trace.specs.Opened.{bits_of}
use Rattle.law_nets.specs.Meaning.{records_with}
use Rattle.law_nets.specs.Nodes.{node_at, node_old, with_same}
use Rattle.law_walk.specs.Good.{Good}
use Rattle.law_owners.specs.Ends.{All, all_last, Ends, ends_done, ends_refused, ends_then, ends_if}
use Rattle.law_owners.specs.Kept.{with_node, with_record, Adds, Puts, Closed, push_kept, nodes_kept}
use Rattle.law_owners.specs.Walked.{Walked, all_walked}
use Rattle.law_trace.specs.Order.{From, sig_at, dir_at, from_next}
use Rattle.law_trace.specs.Rows.{SameRows, rows_kept}

-- ---- input nodes ----

pub record InputNet (l : Netlist) (n : ℕ) : Type 0 where
  pub there : n < length l.nodes
  pub kind : (node_for_net l n).kind ≡ 0

net_node : (x : Node) (l : Netlist) (n : ℕ) → InputNet l n → InputNet (with_node x l) n
net_node x l n h =
    let t = h.there in
    record { there = omega arith; kind = ap (λ (y : Node). y.kind) (node_old l (with_node x l) (x ∷ []) refl n t) ∙ h.kind }

net_record : (r : List ℕ) (l : Netlist) (n : ℕ) → InputNet l n → InputNet (with_record r l) n
unfolding node_for_net
net_record r l n h = record { there = h.there; kind = h.kind }

-- the newest node
net_new : (x : Node) (l : Netlist) → x.kind ≡ 0 → InputNet (with_node x l) (length l.nodes)
net_new x l e =
    let z : suc (length l.nodes) - suc (length l.nodes) ≡ 0 = omega arith in
    record {
      there = omega arith;
      kind = ap (λ (y : Node). y.kind) (node_at (with_node x l) (length l.nodes) (omega arith) ∙ ap (λ (j : ℕ). get_or (x ∷ l.nodes) j (gate absent absent absent absent)) z) ∙ e;
    }

-- ---- records ----

-- the clocks and the asynchronous reset of a register's or a memory's record are input nets
pub record Fed (l : Netlist) (r : List ℕ) : Type 0 where
  pub clock : get_or r 0 0 ≡ 1 → InputNet l (get_or r 5 0)
  pub reset : get_or r 0 0 ≡ 1 → get_or r 11 0 ≡ 1 → (get_or r 9 0 ≡ absent → ⊥) → InputNet l (get_or r 9 0)
  pub first : get_or r 0 0 ≡ 2 → InputNet l (memory_of r).first.clock
  pub second : get_or r 0 0 ≡ 2 → (p : MemoryPort) → (memory_of r).second ≡ some p → InputNet l p.clock

all_weaken : {A : Type 0} (P Q : A → Type 0) → ((a : A) → P a → Q a) → (xs : List A) → All P xs → All Q xs
all_weaken P Q f [] h = tt
all_weaken P Q f (x ∷ xs) h = (f x h.0, all_weaken P Q f xs h.1)

fed_later : {l l' : Netlist} → ((n : ℕ) → InputNet l n → InputNet l' n) → (rs : List (List ℕ)) → All (Fed l) rs → All (Fed l') rs
fed_later {l} {l'} f rs h = all_weaken (Fed l) (Fed l') (λ r x. record {
  clock = λ e. f _ (x.clock e);
  reset = λ e a n. f _ (x.reset e a n);
  first = λ e. f _ (x.first e);
  second = λ e p q. f _ (x.second e p q);
}) rs h

-- the input nets of l₀ are input nets still, all records so far are fed, and memories hold n bits
pub record Clocked (l₀ : Netlist) (n : ℕ) (l : Netlist) : Type 0 where
  pub inputs : (k : ℕ) → InputNet l₀ k → InputNet l k
  pub records : All (Fed l) l.records
  pub bits : bits_of (map memory_of (records_with 2 l.records)) ≡ n

again : {l₀ l : Netlist} {n : ℕ} → Clocked l₀ n l → Clocked l n l
again c = record { inputs = λ k h. h; records = c.records; bits = c.bits }

module _ (l₀ : Netlist) (n : ℕ) where
  abbrev K : Netlist → Type 0
  K l = Clocked l₀ n l

  pub adds : (x : Node) → Adds K x
  adds x l c = record { inputs = λ k h. net_node x l k (c.inputs k h); records = fed_later (net_node x l) l.records c.records; bits = c.bits }

  -- a record with its clocks fed, and the bits with it
  put : (n' : ℕ) (r : List ℕ) (l : Netlist) → Fed l r → bits_of (map memory_of (records_with 2 (l.records ++ (r ∷ [])))) ≡ n' → K l → Clocked l₀ n' (with_record r l)
  put n' r l f b c = record {
    inputs = λ k h. net_record r l k (c.inputs k h);
    records = fed_later (net_record r l) (l.records ++ (r ∷ [])) (all_last (Fed l) l.records r c.records f);
    bits = b;
  }

  -- one of another sort
  pub puts : (r : List ℕ) → (get_or r 0 0 ≡ 1 → ⊥) → (get_or r 0 0 ≡ 2 → ⊥) → Puts K r
  puts r a b l c =
      put n r l (record { clock = λ e. absurd (a e); reset = λ e. absurd (a e); first = λ e. absurd (b e); second = λ e. absurd (b e) })
      (ap (λ (rs : List (List ℕ)). bits_of (map memory_of rs)) (with_same 2 l.records r b) ∙ c.bits) c

  abbrev pub Every : List ℕ → Type 0
  Every xs = Unit {0}

  closed : Closed K Every
  closed = record {
    constant = λ v. adds _;
    both = λ x y. adds _;
    either = λ x y. adds _;
    differ = λ x y. adds _;
    inverse = λ x. adds _;
    choice = λ x y z. adds _;
    arithmetic = λ o xs s i b. adds _;
    comparison = λ o. adds _;
    arithmetic_cell = λ op xs ys c s ns. puts (arithmetic_key op xs ys c ++ ns) (λ e. absurd (omega arith)) (λ e. absurd (omega arith));
    comparison_cell = λ op xs ys s ns. puts (comparison_key op xs ys ++ ns) (λ e. absurd (omega arith)) (λ e. absurd (omega arith));
  }

  -- the first net of an input port is an input net
  pub record FirstInput (r : List ℕ × Netlist) : Type 0 where
    pub net : ℕ
    pub rest : List ℕ
    pub is : r.0 ≡ net ∷ rest
    pub input : InputNet r.1 net
    pub kept : K r.1

  node_first : (s : ℕ) (l : Netlist) → K l → Ends (λ (r : ℕ × Netlist). InputNet r.1 r.0 × K r.1) (add_node (source 0 s 0) l)
  unfolding add_node
  node_first s l c = ends_if (ltb (length l.nodes) l.max_nets) (ends_done (net_new (source 0 s 0) l refl, adds (source 0 s 0) l c)) ends_refused

  nodes_first : (s w : ℕ) (l : Netlist) → K l → Ends FirstInput (add_nodes (source 0 s) 0 (suc w) l)
  unfolding add_nodes each from
  nodes_first s w l c =
      ends_then (add_node (source 0 s 0) l) (node_first s l c) (λ (k, l₁) h.
      ends_then (add_nodes (source 0 s) 1 w l₁) (nodes_kept (λ l. InputNet l k × K l) (source 0 s) 1 w (λ i b l₂ g. (net_node _ l₂ k g.0, adds _ l₂ g.1)) l₁ h) (λ (ns, l₂) g.
      ends_done (record { net = k; rest = ns; is = refl; input = g.0; kept = g.1 })))

  port_first : (s w : ℕ) (l : Netlist) → K l → Ends FirstInput (add_input_port s (suc w) l)
  unfolding add_input_port add_recorded push
  port_first s w l c =
      ends_then (add_nodes (source 0 s) 0 (suc w) l) (nodes_first s w l c) (λ (ns, l₁) h.
      ends_then {P = λ (l₂ : Netlist). InputNet l₂ h.net × K l₂} (push (0 ∷ s ∷ suc w ∷ ns) l₁)
      (push_kept (λ l. InputNet l h.net × K l) (0 ∷ s ∷ suc w ∷ ns) (λ l₂ g. (net_record _ l₂ h.net g.0, puts (0 ∷ s ∷ suc w ∷ ns) (λ e. absurd (omega arith)) (λ e. absurd (omega arith)) l₂ g.1)) l₁ (h.input, h.kept))
      (λ l₂ g. ends_done (record { net = h.net; rest = h.rest; is = h.is; input = g.0; kept = g.1 })))

-- ---- states ----

-- bit 0 of signal p has an input net
pub record Seat (st : State) (p : ℕ) : Type 0 where
  pub net : ℕ
  pub here : cell none st.signal_bits p 0 ≡ some net
  pub input : InputNet st.netlist net

-- the net that is read for it
pub seat_net : (st : State) (p : ℕ) → Seat st p → InputNet st.netlist (signal_net st p 0)
unfolding signal_net signal_bit
seat_net st p h = rw h.here h.input

pub all_of : {A : Type 0} (P : A → Type 0) (xs : List A) → ((j : ℕ) (x : A) → get_elem? xs j ≡ some x → P x) → All P xs
all_of P [] f = tt
all_of P (x ∷ xs) f = (f 0 x refl, all_of P xs (λ j y e. f (suc j) y e))

module _ (m : Module) (good : Good m) where
  -- inputs among the first s signals have input nets
  pub record Stage (s n : ℕ) (st : State) : Type 0 where
    pub seats : (p : ℕ) → p < s → dir_of m p ≡ R.Input → Seat st p
    pub held : Clocked st.netlist n st.netlist

  -- rows of inputs stay, the netlist grows
  pub stage_later : (s n n' : ℕ) (st st' : State) → Stage s n st → SameRows m st.signal_bits st'.signal_bits
      → Clocked st.netlist n' st'.netlist → Stage s n' st'
  stage_later s n n' st st' g same c = record {
    seats = λ p h d.
        let q = g.seats p h d in
        record { net = q.net; here = ap (λ (row : List (Option ℕ)). get_or row 0 none) (same p d) ∙ q.here; input = c.inputs q.net q.input };
    held = again c;
  }

  -- a row of a signal that is no input is set
  set_later : (s n : ℕ) (st : State) (q : ℕ) (ns : List ℕ) (l : Netlist) → (dir_of m q ≡ R.Input → ⊥) → Stage s n st → Clocked st.netlist n l → Stage s n (set_signal (with_netlist st l) q ns)
  unfolding set_signal
  set_later s n st q ns l x g c =
      stage_later s n n st (set_signal (with_netlist st l) q ns) g
      (λ p d. get_or-set_other st.signal_bits q p (map some ns) [] (λ z. x (ap (dir_of m) (sym z) ∙ d))) c

  bits_stage : (s n kind owner b q : ℕ) (st : State) → (dir_of m q ≡ R.Input → ⊥) → Stage s n st → Ends (Stage s n) (reserve_bits m kind owner b q st)
  bits_stage s n kind owner b q st x g =
      ends_then (add_nodes (source kind owner) b (signal_width m q) st.netlist)
      (nodes_kept (Clocked st.netlist n) (source kind owner) b (signal_width m q) (λ i k. adds st.netlist n (source kind owner i)) st.netlist g.held)
      (λ (ns, l) c. ends_done (set_later s n st q ns l x g c))

  -- ---- inputs ----

  abbrev pub Rowed : ℕ → ℕ → State → Type 0
  Rowed s n st = (length st.signal_bits ≡ length m.signals) × Stage s n st

  input_stage : (s w n : ℕ) (st : State) → s < length m.signals → 1 ≤ w → Rowed s n st → Ends (Rowed (suc s) n) (reserve st s (add_input_port s w st.netlist))
  unfolding set_signal
  input_stage s zero n st here least g = absurd (not-suc-le-zero least)
  input_stage s (suc w) n st here least g =
      ends_then (add_input_port s (suc w) st.netlist) (port_first st.netlist n s w st.netlist g.1.held) (λ (ns, l) h. ends_done (
        length-set st.signal_bits s (map some ns) ∙ g.0,
        record { seats = λ p k d. seat ns l h p k d (ℕ_discrete p s); held = again h.kept },
      ))
    where
      seat : (ns : List ℕ) (l : Netlist) (h : FirstInput st.netlist n (ns, l)) (p : ℕ) → p < suc s → dir_of m p ≡ R.Input → Dec (p ≡ s) → Seat (set_signal (with_netlist st l) s ns) p
      seat ns l h p k d (yes e) =
          let r = g.0 in
          record {
            net = h.net;
            here = ap (λ (z : ℕ). cell none (set st.signal_bits s (map some ns)) z 0) e
                ∙ ap (λ (row : List (Option ℕ)). get_or row 0 none) (get_or-set_same st.signal_bits s (map some ns) [] (omega arith) ∙ ap (map some) h.is);
            input = h.input;
          }
      seat ns l h p k d (no e) =
          let q = g.1.seats p (omega arith) d in
          record {
            net = q.net;
            here = ap (λ (row : List (Option ℕ)). get_or row 0 none) (get_or-set_other st.signal_bits s p (map some ns) [] e) ∙ q.here;
            input = h.kept.inputs q.net q.input;
          }

  -- a signal that is no input
  skip_stage : (s n : ℕ) (st : State) → (dir_of m s ≡ R.Input → ⊥) → Stage s n st → Stage (suc s) n st
  skip_stage s n st x g = record { seats = λ p k d. g.seats p (less p k d (ℕ_discrete p s)) d; held = g.held }
    where
      less : (p : ℕ) → p < suc s → dir_of m p ≡ R.Input → Dec (p ≡ s) → p < s
      less p k d (yes e) = absurd (x (ap (dir_of m) (sym e) ∙ d))
      less p k d (no e) = omega arith

  pub inputs_stage : (s n : ℕ) (xs : List Sig) (st : State) → From m s xs → Rowed s n st → Ends (Rowed (s + length xs) n) (reserve_inputs s xs st)
  unfolding reserve_inputs
  inputs_stage s n [] st e g = let z : s ≡ s + 0 = omega arith in ends_done (subst (λ (k : ℕ). Rowed k n st) z g)
  inputs_stage s n (x ∷ xs) st e g =
      let z : suc s + length xs ≡ s + suc (length xs) = omega arith in
      subst (λ (k : ℕ). Ends (Rowed k n) (reserve_inputs s (x ∷ xs) st)) z
      (ends_then (reserve_input x.dir s x.width st) (one x.dir (dir_at m s x xs e)) (λ st₁ g₁. inputs_stage (suc s) n xs st₁ (from_next m s x xs e) g₁))
    where
      here : s < length m.signals
      here = let a = length-drop s m.signals in let b : length (drop s m.signals) ≡ suc (length xs) = ap length e in omega arith

      one : (d : Dir) → dir_of m s ≡ d → Ends (Rowed (suc s) n) (reserve_input d s x.width st)
      one R.Internal q = ends_done (g.0, skip_stage s n st (λ z. let y : ◌≡◌ {A = ℕ} 0 1 = cc in omega arith) g.1)
      one R.Output q = ends_done (g.0, skip_stage s n st (λ z. let y : ◌≡◌ {A = ℕ} 0 1 = cc in omega arith) g.1)
      one R.Input q = input_stage s x.width n st here (subst (λ (y : Sig). 1 ≤ y.width) (sig_at m s x xs e) (good.signals s here)) g

  -- ---- the other sources ----

  abbrev pub Apart : ℕ → Type 0
  Apart p = dir_of m p ≡ R.Input → ⊥

  pub registers_stage : (s n k : ℕ) (rs : List Register) (st : State) → All (λ r. Apart r.target) rs → Stage s n st → Ends (Stage s n) (reserve_registers m k rs st)
  unfolding reserve_registers
  registers_stage s n k [] st a g = ends_done g
  registers_stage s n k (r ∷ rs) st a g =
      ends_then (reserve_bits m 7 k 0 r.target st) (bits_stage s n 7 k 0 r.target st a.0 g) (λ st₁ g₁. registers_stage s n (suc k) rs st₁ a.1 g₁)

  abbrev pub ApartBoth : Memory → Type 0
  ApartBoth x = Apart x.first.read_data × ((q : Port) → x.second ≡ some q → Apart q.read_data)

  second_stage : (s n k b : ℕ) (o : Option Port) (st : State) → ((q : Port) → o ≡ some q → Apart q.read_data) → Stage s n st → Ends (Stage s n) (reserve_second m k b o st)
  second_stage s n k b none st a g = ends_done g
  second_stage s n k b (some q) st a g = bits_stage s n 9 k b q.read_data st (a q refl) g

  pub memories_stage : (s n k : ℕ) (xs : List Memory) (st : State) → All ApartBoth xs → Stage s n st → Ends (Stage s n) (reserve_memories m k xs st)
  unfolding reserve_memories
  memories_stage s n k [] st a g = ends_done g
  memories_stage s n k (x ∷ xs) st a g =
      ends_then (reserve_bits m 9 k 0 x.first.read_data st) (bits_stage s n 9 k 0 x.first.read_data st a.0.0 g) (λ st₁ g₁.
      ends_then (reserve_second m k (signal_width m x.first.read_data) x.second st₁) (second_stage s n k (signal_width m x.first.read_data) x.second st₁ a.0.1 g₁)
      (λ st₂ g₂. memories_stage s n (suc k) xs st₂ a.1 g₂))

  -- ---- the walk, and a record more ----

  pub walk_stage : (s n : ℕ) (ob : Bool) (ss : List Step) (st : State) → Stage s n st → Ends (Stage s n) (lower_all m ob ss st)
  walk_stage s n ob ss st g =
      go (lower_all m ob ss st) (all_walked (Clocked st.netlist n) (Every st.netlist n) (closed st.netlist n) (λ xs. tt) m ob ss st g.held)
      (rows_kept m good st.signal_bits ob ss st (λ p d. refl))
    where
      go : (o : Out State) → Walked (Clocked st.netlist n) o → Ends (λ st'. SameRows m st.signal_bits st'.signal_bits) o → Ends (Stage s n) o
      go (refused k x y) a b = ends_refused
      go (done st') a b = ends_done (stage_later s n n st st' g b.ends a.ends)

  pub push_stage : (s n n' : ℕ) (r : List ℕ) (st : State) → Fed st.netlist r → bits_of (map memory_of (records_with 2 (st.netlist.records ++ (r ∷ [])))) ≡ n' → Stage s n st → Ends (Stage s n') (push_record r st)
  unfolding push
  push_stage s n n' r st f b g =
      ends_then {P = Clocked st.netlist n'} (push r st.netlist)
      (ends_if (leb (used st.netlist.records + length r) st.netlist.max_list) (ends_done (put st.netlist n n' r st.netlist f b g.held)) ends_refused)
      (λ l c. ends_done (stage_later s n n' st (with_netlist st l) g (λ p d. refl) c))
