-- `connect_memories`: the words of a memory's record. Assumes nothing.
use Prim.Native.Nat.{ℕ, suc, ◌+◌, ◌-◌, ◌≤◌, ◌<◌}
use native.Mathlib.Omega.{arith}
use Rattle.std.proofs.Math.Decide.{dec_lt}
use Rattle.std.proofs.Common.{inl, inr, ⊎_elim, subst, ◌∙◌, length-append, get_or-append-add, drop-drop, drop_at, lt-ltb, le-ltb}
use Rattle.std.specs.Prelude.{◌≡◌, Bool, drop}
use Rattle.std.proofs.Math.Path.{refl, sym, ap}
use mathlib.Core.List.{List, [], ◌∷◌, ◌++◌, append_assoc, append-nil}
use Rattle.std.proofs.Math.Option.{Option, none, some}
use Rattle.std.proofs.Math.ListN.{length, get_or, get_elem?, length-take, length-drop, get_or-append}
use Rattle.std.proofs.Math.Seq.{get_or-drop, get_or-take}
use Rattle.spec_tests.specs.Rules.{◌≡?◌}
use Rattle.spec_tests.specs.Laws.{eq_yes, eq_no}
use Rattle.spec_rtl.specs.Rtl.{Module, Control, Memory, Port}
use Rattle.spec_rules.specs.NetlistImage.{MemoryPort, port_lists, port_length, memory_port_of, memory_of}
use Rattle.spec_model.specs.Words.{Netlist, absent, low_word, control_words}
use Rattle.spec_model.specs.Builder.{from}
use Rattle.spec_model.specs.Lowering.{State, signal_width, signal_net, signal_nets, whole_nets, option_control, memory_steps, port_words, ports_words, push_record, lower_all, connect_memories}
use Rattle.net_view.specs.View.{Formed}
use Rattle.net_view.specs.Formed.{Ported, formed_memory, formed_memory₂}
use Rattle.word_laws.specs.Widths.{AllBelow}
use Rattle.law_nets.specs.Sound.{count}
use Rattle.law_nets.specs.Nodes.{get_or_map_in}
use Rattle.word_laws.specs.Runs.{length_from, from_at}
use Rattle.law_walk.specs.Good.{Good, GoodPort}
use Rattle.law_walk.specs.Kept.{Inv}
use Rattle.law_walk.specs.Reads.{AllAfter, below_at, below_append}
use Rattle.law_walk.proofs.ReadsLaws.{whole_length}
use Rattle.law_walk.proofs.ReadsLaws.{read_whole}
use Rattle.law_phases.specs.Memories.{steps_asked, PortAfter, SecondAfter, first_ready}
use Rattle.law_phases.specs.Pushed.{bit_is, nets_length, pushed}
use Rattle.law_phases.specs.Sources.{inside}
use Rattle.law_owners.specs.Ends.{Ends, ends_done, ends_then}
use Rattle.spec_netlist.specs.Accept.{own_nets}
use Rattle.spec_netlist.specs.Accept as A
use Rattle.law_told.specs.Told.{pick_yes, pick_no}
use Rattle.law_listed.specs.Listed.{Own, Optional, Level, PortWords, MemoryRecord}
use Rattle.law_listed.specs.Parts.{own_memory}
use Rattle.law_listed.specs.MemoryWords.{size_of}
use Rattle.law_listed_made.specs.Place.{Bounds, PortBounds, first_wide, second_wide, second_data, bits}
use Rattle.law_listed_made.specs.Going.{Going, meets_ends, going_walk, going_memory, low_small, ControlThere, there_level, none_level, control_here, own_net}

-- ---- the words of a port ----

abbrev words_with : List ℕ → List ℕ → List ℕ → List ℕ → List ℕ → List ℕ
words_with ra rd wa wd tail = length ra ∷ length rd ∷ length wa ∷ length wd ∷ (ra ++ (rd ++ (wa ++ (wd ++ tail))))

module _ (ra rd wa wd tail : List ℕ) where
  abbrev W : List ℕ
  W = words_with ra rd wa wd tail

  lists_are : port_lists W ≡ length ra + length rd + length wa + length wd
  unfolding port_lists
  lists_are = refl

  in_ra : (i : ℕ) → i < length ra → get_or W (4 + i) 0 ≡ get_or ra i 0
  in_ra i h = sym (get_or-drop 4 W i 0) ∙ get_or-append ra (rd ++ (wa ++ (wd ++ tail))) 0 i h

  in_rd : (i : ℕ) → i < length rd → get_or W (4 + length ra + i) 0 ≡ get_or rd i 0
  in_rd i h =
      let e : 4 + length ra + i ≡ 4 + (length ra + i) = omega arith in
      ap (λ (z : ℕ). get_or W z 0) e ∙ sym (get_or-drop 4 W (length ra + i) 0) ∙ get_or-append-add ra (rd ++ (wa ++ (wd ++ tail))) i 0 ∙ get_or-append rd (wa ++ (wd ++ tail)) 0 i h

  in_writes : (i : ℕ) → i < length wa + length wd → get_or W (4 + length ra + length rd + i) 0 ≡ get_or (wa ++ wd) i 0
  in_writes i h =
      let e : 4 + length ra + length rd + i ≡ 4 + (length ra + (length rd + i)) = omega arith in
      let n = length-append wa wd in
      ap (λ (z : ℕ). get_or W z 0) e ∙ sym (get_or-drop 4 W (length ra + (length rd + i)) 0) ∙ get_or-append-add ra (rd ++ (wa ++ (wd ++ tail))) (length rd + i) 0
      ∙ get_or-append-add rd (wa ++ (wd ++ tail)) i 0 ∙ ap (λ (z : List ℕ). get_or z i 0) (sym (append_assoc wa wd tail)) ∙ get_or-append (wa ++ wd) tail 0 i (omega arith)

  in_tail : (j n : ℕ) → n ≡ 4 + port_lists W + j → get_or W n 0 ≡ get_or tail j 0
  in_tail j n q =
      let u = lists_are in
      let e : n ≡ 4 + (length ra + (length rd + (length wa + (length wd + j)))) = omega arith in
      ap (λ (z : ℕ). get_or W z 0) e ∙ sym (get_or-drop 4 W _ 0) ∙ get_or-append-add ra (rd ++ (wa ++ (wd ++ tail))) _ 0
      ∙ get_or-append-add rd (wa ++ (wd ++ tail)) _ 0 ∙ get_or-append-add wa (wd ++ tail) _ 0 ∙ get_or-append-add wd tail j 0

port_words_law : (l : Netlist) (m base : ℕ) (ra rd wa wd : List ℕ) (c0 c1 w0 w1 ck ed : ℕ) (rest : List ℕ) → 1 ≤ length ra → length ra ≤ 32 → 1 ≤ length wa → length wa ≤ 32
    → length wd ≡ length rd → AllBelow (count l) ra → ((i : ℕ) → i < length rd → Own l (get_or rd i 0) 9 m (base + i)) → AllBelow (count l) wa → AllBelow (count l) wd
    → Optional l c0 → Level c0 c1 → w0 < count l → w1 ≤ 1 → ck < count l → ed ≤ 1
    → PortWords l m (length rd) base (words_with ra rd wa wd (c0 ∷ c1 ∷ w0 ∷ w1 ∷ ck ∷ ed ∷ rest))
port_words_law l m base ra rd wa wd c0 c1 w0 w1 ck ed rest h1 h2 h3 h4 h5 ba own bw bd oc lc tw lw tc le =
    let tail : List ℕ = c0 ∷ c1 ∷ w0 ∷ w1 ∷ ck ∷ ed ∷ rest in
    let at = in_tail ra rd wa wd tail in
    let e : get_or (words_with ra rd wa wd tail) (4 + port_lists (words_with ra rd wa wd tail)) 0 ≡ c0 = at 0 (4 + port_lists (words_with ra rd wa wd tail)) (omega arith) in
    record {
      read = h1;
      read_most = h2;
      wide = refl;
      write = h3;
      write_most = h4;
      same = h5;
      address = λ i h. rw (in_ra ra rd wa wd tail i h) (below_at (count l) ra i 0 h ba);
      own = λ i h. rw (in_rd ra rd wa wd tail i h) (own i h);
      others = λ i h. rw (in_writes ra rd wa wd tail i h) (below_at (count l) (wa ++ wd) i 0 (let n = length-append wa wd in omega arith) (below_append (count l) wa wd bw bd));
      enable = rw e oc;
      enable_level = rw (e, at 1 (4 + port_lists (words_with ra rd wa wd tail) + 1) (omega arith)) lc;
      control = rw (at 2 (4 + port_lists (words_with ra rd wa wd tail) + 2) (omega arith)) tw;
      level = rw (at 3 (4 + port_lists (words_with ra rd wa wd tail) + 3) (omega arith)) lw;
      clock = rw (at 4 (4 + port_lists (words_with ra rd wa wd tail) + 4) (omega arith)) tc;
      edge = rw (at 5 (4 + port_lists (words_with ra rd wa wd tail) + 5) (omega arith)) le;
    }

-- ---- what a memory's record has as its own ----

module _ (p : List ℕ) (h : port_length p ≤ length p) where
  data_long : length (memory_port_of p).read_data ≡ get_or p 1 0
  unfolding memory_port_of
  data_long =
      let d = length-drop (4 + get_or p 0 0) p in
      let z = length-take (get_or p 1 0) (drop (4 + get_or p 0 0) p) in
      let s = size_of p in
      let s0 = s.0 in
      let s1 = s.1 in
      omega arith

  data_at_law : (i : ℕ) → i < get_or p 1 0 → get_or (memory_port_of p).read_data i 0 ≡ get_or p (4 + get_or p 0 0 + i) 0
  unfolding memory_port_of
  data_at_law i b = get_or-take (get_or p 1 0) (drop (4 + get_or p 0 0) p) i 0 b ∙ get_or-drop (4 + get_or p 0 0) p i 0

module _ (l : Netlist) (r : List ℕ) (t : get_or r 0 0 ≡ 2) (q : MemoryRecord l r) where
  abbrev p₁ : List ℕ
  p₁ = drop 6 r

  abbrev p₂ : List ℕ
  p₂ = drop (6 + port_length (drop 6 r)) r

  abbrev w : ℕ
  w = get_or r 7 0

  first_long : port_length p₁ ≤ length p₁
  first_long =
      let d = length-drop 6 r in
      ⊎_elim (λ (z : (get_or r 5 0 ≡ 1) × (length r ≡ 6 + port_length p₁)). (let y = z.1 in omega arith))
      (λ (z : (get_or r 5 0 ≡ 2) × (length r ≡ 6 + port_length p₁ + port_length p₂)). (let y = z.1 in omega arith)) q.ports

  one_port : get_or r 5 0 ≡ 1 → own_nets r ≡ (memory_port_of p₁).read_data
  unfolding memory_of A.second_data
  one_port e = own_memory r t ∙ ap (λ (o : Option MemoryPort). (memory_port_of p₁).read_data ++ A.second_data o) (pick_no (get_or r 5 0 ≡? 2) (some (memory_port_of p₂)) none (eq_no (get_or r 5 0) 2 (λ z. absurd (omega arith))))
      ∙ append-nil (memory_port_of p₁).read_data

  two_ports : get_or r 5 0 ≡ 2 → own_nets r ≡ (memory_port_of p₁).read_data ++ (memory_port_of p₂).read_data
  unfolding memory_of A.second_data
  two_ports e = own_memory r t ∙ ap (λ (o : Option MemoryPort). (memory_port_of p₁).read_data ++ A.second_data o) (pick_yes (get_or r 5 0 ≡? 2) (some (memory_port_of p₂)) none (eq_yes (get_or r 5 0) 2 e))

  second_long : get_or r 5 0 ≡ 2 → port_length p₂ ≤ length p₂
  second_long e =
      let d = length-drop (6 + port_length p₁) r in
      ⊎_elim (λ (z : (get_or r 5 0 ≡ 1) × (length r ≡ 6 + port_length p₁)). absurd (let y = z.0 in omega arith))
      (λ (z : (get_or r 5 0 ≡ 2) × (length r ≡ 6 + port_length p₁ + port_length p₂)). (let y = z.1 in omega arith)) q.ports

  pub own_one : get_or r 5 0 ≡ 1 → length (own_nets r) ≡ w
  own_one e = ap length (one_port e) ∙ data_long p₁ first_long ∙ q.first.wide

  pub own_two : get_or r 5 0 ≡ 2 → length (own_nets r) ≡ w + w
  own_two e =
      let a = data_long p₁ first_long in
      let b = data_long p₂ (second_long e) in
      let c = q.first.wide in
      let d = (q.second e).wide in
      ap length (two_ports e) ∙ length-append (memory_port_of p₁).read_data (memory_port_of p₂).read_data ∙ omega arith

  pub memory_own : (i : ℕ) → i < length (own_nets r) → Own l (get_or (own_nets r) i 0) 9 (get_or r 1 0) i
  memory_own i h = ⊎_elim
      (λ (z : (get_or r 5 0 ≡ 1) × _).
      let n = own_one z.0 in
      let c = q.first.wide in
      let y : 0 + i ≡ i = omega arith in
      rw (one_port z.0, data_at_law p₁ first_long i (omega arith)) (rw y at (q.first.own i (omega arith))))
      (λ (z : (get_or r 5 0 ≡ 2) × _). two z.0 (dec_lt i w)) q.ports
    where
      two : get_or r 5 0 ≡ 2 → Dec (i < w) → Own l (get_or (own_nets r) i 0) 9 (get_or r 1 0) i
      two e (yes b) =
          let a = data_long p₁ first_long in
          let c = q.first.wide in
          let y : 0 + i ≡ i = omega arith in
          rw (two_ports e, get_or-append (memory_port_of p₁).read_data (memory_port_of p₂).read_data 0 i (omega arith), data_at_law p₁ first_long i (omega arith)) (rw y at (q.first.own i b))
      two e (no b) =
          let a = data_long p₁ first_long in
          let c = q.first.wide in
          let d = (q.second e).wide in
          let n = own_two e in
          let j = i - w in
          let u : i ≡ length (memory_port_of p₁).read_data + j = omega arith in
          let y : w + j ≡ i = omega arith in
          let x : get_or (own_nets r) i 0 ≡ get_or p₂ (4 + get_or p₂ 0 0 + j) 0
          = ap (λ (z : List ℕ). get_or z i 0) (two_ports e) ∙ ap (λ (z : ℕ). get_or ((memory_port_of p₁).read_data ++ (memory_port_of p₂).read_data) z 0) u
          ∙ get_or-append-add (memory_port_of p₁).read_data (memory_port_of p₂).read_data j 0 ∙ data_at_law p₂ (second_long e) j (omega arith) in
          rw x (rw y at ((q.second e).own j (omega arith)))

-- ---- a port's words as they are written ----

controls_long : (o : Option Control) → length (control_words o) ≡ 2
controls_long none = refl
controls_long (some c) = refl

with_control : (l : Netlist) (m base : ℕ) (ra rd wa wd : List ℕ) (o : Option Control) (w0 w1 ck ed : ℕ) (rest : List ℕ) → count l ≤ absent → ControlThere l o
    → 1 ≤ length ra → length ra ≤ 32 → 1 ≤ length wa → length wa ≤ 32
    → length wd ≡ length rd → AllBelow (count l) ra → ((i : ℕ) → i < length rd → Own l (get_or rd i 0) 9 m (base + i)) → AllBelow (count l) wa → AllBelow (count l) wd
    → w0 < count l → w1 ≤ 1 → ck < count l → ed ≤ 1
    → PortWords l m (length rd) base (words_with ra rd wa wd (control_words o ++ (w0 ∷ w1 ∷ ck ∷ ed ∷ rest)))
with_control l m base ra rd wa wd none w0 w1 ck ed rest s co h1 h2 h3 h4 h5 ba own bw bd tw lw tc le =
    port_words_law l m base ra rd wa wd absent 0 w0 w1 ck ed rest h1 h2 h3 h4 h5 ba own bw bd (inl refl) none_level tw lw tc le
with_control l m base ra rd wa wd (some c) w0 w1 ck ed rest s co h1 h2 h3 h4 h5 ba own bw bd tw lw tc le =
    port_words_law l m base ra rd wa wd c.signal (low_word c.level) w0 w1 ck ed rest h1 h2 h3 h4 h5 ba own bw bd (inr co) (there_level l _ _ s co (low_small c.level)) tw lw tc le

module _ (m : Module) (st : State) (p : Port) where
  abbrev read_data : List ℕ
  read_data = signal_nets st p.read_data 0 (signal_width m p.read_data)

  written : (rest : List ℕ) → port_words m st p ++ rest
      ≡ words_with (whole_nets st p.read_address) read_data (whole_nets st p.write_address) (whole_nets st p.write_data)
      (control_words (option_control st p.read_enable) ++ (signal_net st p.write_enable.signal 0 ∷ low_word p.write_enable.level ∷ signal_net st p.clock 0 ∷ low_word p.rising ∷ rest))
  written rest = simp append_assoc

  words_long : length (port_words m st p)
      ≡ 4 + (length (whole_nets st p.read_address) + length read_data + length (whole_nets st p.write_address) + length (whole_nets st p.write_data)) + 6
  words_long = simp length-append (omega (arith, controls_long (option_control st p.read_enable)))

  port_long : (rest : List ℕ) → port_length (port_words m st p ++ rest) ≡ length (port_words m st p)
  unfolding port_length port_lists
  port_long rest = sym words_long

  is_ported : Ported (port_words m st p)
  unfolding port_length port_lists
  is_ported = record { four = omega (arith, words_long); long = words_long }

  nets_at : (i : ℕ) → i < length read_data → get_or read_data i 0 ≡ signal_net st p.read_data i
  unfolding signal_nets
  nets_at i h =
      let w = signal_width m p.read_data in
      let n = length_from 0 w in
      let k = nets_length st p.read_data 0 w in
      let y : 0 + i ≡ i = omega arith in
      get_or_map_in (signal_net st p.read_data) (from 0 w) i 0 0 (omega arith) ∙ ap (signal_net st p.read_data) (from_at 0 w i 0 (omega arith) ∙ y)

module _ (m : Module) (good : Good m) (bound : Bounds m) (ob : Bool) (st : State) (i : Inv m st) where
  abbrev l : Netlist
  l = st.netlist

  small : count l ≤ absent
  small = let s0 = i.sound.few in let s1 = i.sound.small in omega arith

  made_port : (p : Port) → PortAfter m ob st p → GoodPort m p → PortBounds m p → (k base : ℕ)
      → ((j : ℕ) → j < signal_width m p.read_data → Own l (signal_net st p.read_data j) 9 k (base + j)) → (rest : List ℕ) → PortWords l k (length (read_data m st p)) base (port_words m st p ++ rest)
  made_port p h g b k base own rest =
      let ra = read_whole m st i p.read_address h.words.0 in
      let wa = read_whole m st i p.write_address h.words.1.0 in
      let wd = read_whole m st i p.write_data h.words.1.1.0 in
      let na = whole_length m st i good.exprs p.read_address g.read_address h.words.0 in
      let nw = whole_length m st i good.exprs p.write_address g.write_address h.words.1.0 in
      let nd = whole_length m st i good.exprs p.write_data g.write_data h.words.1.1.0 in
      let la = good.exprs.least p.read_address g.read_address in
      let lw = good.exprs.least p.write_address g.write_address in
      let b1 = b.read in
      let b2 = b.write in
      let b3 = b.wide in
      let n = nets_length st p.read_data 0 (signal_width m p.read_data) in
      rw (written m st p rest) (with_control l k base (whole_nets st p.read_address) (read_data m st p) (whole_nets st p.write_address) (whole_nets st p.write_data) (option_control st p.read_enable) _ _ _ _ rest
      small (control_here m ob st i p.read_enable h.read) (omega arith) (omega arith) (omega arith) (omega arith) (omega arith) ra.there
      (λ j e. rw (nets_at m st p j e) (own j (omega arith))) wa.there wd.there (bit_is m ob st i p.write_enable.signal h.write.0).there.0 (low_small p.write_enable.level)
      (bit_is m ob st i p.clock h.clock.0).there.0 (low_small p.rising))

module _ (m : Module) (good : Good m) (bound : Bounds m) (ob : Bool) (ps rs k : ℕ) (x : Memory) (at : get_elem? m.memories k ≡ some x) where
  module _ (st : State) (c : Going m ps rs k st) (h : AllAfter ob st (memory_steps x)) where
    abbrev L : Netlist
    L = st.netlist

    abbrev f₁ : ℕ
    f₁ = signal_width m x.first.read_data

    ready : PortAfter m ob st x.first × SecondAfter m ob st x.second
    ready = first_ready m ob st x h

    wide₁ : first_wide m k ≡ f₁
    wide₁ = rw at

    own_first : (j : ℕ) → j < f₁ → Own L (signal_net st x.first.read_data j) 9 k (0 + j)
    own_first j e =
        let w = wide₁ in
        let y : 0 + j < first_wide m k = omega arith in
        let t = lt-ltb (0 + j) (first_wide m k) y in
        own_net m st x.first.read_data j 9 k (0 + j) (rw t (rw at)) (rw t (omega arith)) (c.stored k (0 + j) (omega arith))

    abbrev Words : List ℕ → Type 0
    Words v = Formed (2 ∷ k ∷ x.depth ∷ x.style ∷ 1 ∷ v) × MemoryRecord L (2 ∷ k ∷ x.depth ∷ x.style ∷ 1 ∷ v) × (length (own_nets (2 ∷ k ∷ x.depth ∷ x.style ∷ 1 ∷ v)) ≡ bits m 9 k)

    few : k ≤ 15
    few = let a = inside m.memories k x at in let b = bound.memories in omega arith

    memory_words_law : (o : Option Port) → x.second ≡ o → SecondAfter m ob st o → Words (ports_words m st x.first o)
    memory_words_law none e y =
        let b = bound.memory k x at in
        let g = good.memories k x at in
        let pw = port_words m st x.first in
        let q : PortWords L k (length (read_data m st x.first)) 0 pw
        = subst (λ (z : List ℕ). PortWords L k (length (read_data m st x.first)) 0 z) (append-nil pw) (made_port m good bound ob st c.inv x.first ready.0 g.first b.first k 0 own_first []) in
        let n = nets_length st x.first.read_data 0 f₁ in
        let s1 = good.signals x.first.read_data g.first.inside in
        let s2 = bound.widths x.first.read_data in
        let len : length (2 ∷ k ∷ x.depth ∷ x.style ∷ 1 ∷ 1 ∷ pw) ≡ 6 + port_length pw
        = (let u : port_length pw ≡ length pw = sym (is_ported m st x.first).long in omega arith) in
        let r : MemoryRecord L (2 ∷ k ∷ x.depth ∷ x.style ∷ 1 ∷ 1 ∷ pw) = record {
          index = few;
          deep = b.deep;
          depth = b.depth;
          style = b.style;
          latency = refl;
          wide = omega arith;
          width = omega arith;
          first = q;
          second = λ z. absurd (omega arith);
          ports = inl (refl, len);
        } in
        let w2 : second_wide m k ≡ 0 = rw (at, e) in
        let w1 = wide₁ in
        (formed_memory k x.depth x.style 1 pw (is_ported m st x.first), r, own_one L _ refl r refl ∙ omega arith)
    memory_words_law (some p) e y =
        let b = bound.memory k x at in
        let g = good.memories k x at in
        let pw = port_words m st x.first in
        let pq = port_words m st p in
        let w1 = wide₁ in
        let w2 : second_wide m k ≡ signal_width m p.read_data = rw (at, e) in
        let d2 : second_data m k ≡ p.read_data = rw (at, e) in
        let n = nets_length st x.first.read_data 0 f₁ in
        let n₂ = nets_length st p.read_data 0 (signal_width m p.read_data) in
        let eq = b.same p e in
        let s1 = good.signals x.first.read_data g.first.inside in
        let s2 = bound.widths x.first.read_data in
        let q₁ = made_port m good bound ob st c.inv x.first ready.0 g.first b.first k 0 own_first pq in
        let own₂ : (j : ℕ) → j < signal_width m p.read_data → Own L (signal_net st p.read_data j) 9 k (length (read_data m st x.first) + j) = λ j h.
        let u : length (read_data m st x.first) + j ≡ first_wide m k + j = omega arith in
        let t = le-ltb (first_wide m k + j) (first_wide m k) (omega arith) in
        rw u (own_net m st p.read_data j 9 k (first_wide m k + j) (rw t d2) (rw t (omega arith)) (c.stored k (first_wide m k + j) (omega arith))) in
        let q₂ = made_port m good bound ob st c.inv p y (g.second p e) (b.second p e) k (length (read_data m st x.first)) own₂ [] in
        let same : length (read_data m st p) ≡ length (read_data m st x.first) = omega arith in
        let q₃ : PortWords L k (length (read_data m st x.first)) (length (read_data m st x.first)) pq
        = subst (λ (z : List ℕ). PortWords L k (length (read_data m st x.first)) (length (read_data m st x.first)) z) (append-nil pq)
        (subst (λ (z : ℕ). PortWords L k z (length (read_data m st x.first)) (pq ++ [])) same q₂) in
        let v : List ℕ = 2 ∷ k ∷ x.depth ∷ x.style ∷ 1 ∷ 2 ∷ (pw ++ pq) in
        let lp = port_long m st x.first pq in
        let back : drop (6 + port_length (pw ++ pq)) v ≡ pq = sym (drop-drop (port_length (pw ++ pq)) 6 v) ∙ drop_at pw pq (port_length (pw ++ pq)) (sym lp) in
        let len : length v ≡ 6 + port_length (pw ++ pq) + port_length (drop (6 + port_length (pw ++ pq)) v)
        = (let u : port_length (drop (6 + port_length (pw ++ pq)) v) ≡ length pq = ap port_length back ∙ sym (is_ported m st p).long in let z = length-append pw pq in omega arith) in
        let r : MemoryRecord L v = record {
          index = few;
          deep = b.deep;
          depth = b.depth;
          style = b.style;
          latency = refl;
          wide = omega arith;
          width = omega arith;
          first = q₁;
          second = λ z. subst (λ (o : List ℕ). PortWords L k (length (read_data m st x.first)) (length (read_data m st x.first)) o) (sym back) q₃;
          ports = inr (refl, len);
        } in
        (formed_memory₂ k x.depth x.style 1 pw pq (is_ported m st x.first) (is_ported m st p), r, own_two L v refl r refl ∙ omega arith)

    memory_one : Ends (Going m ps rs (suc k)) (push_record (2 ∷ k ∷ x.depth ∷ x.style ∷ 1 ∷ ports_words m st x.first x.second) st)
    memory_one =
        let w = memory_words_law x.second refl ready.1 in
        let v : List ℕ = 2 ∷ k ∷ x.depth ∷ x.style ∷ 1 ∷ ports_words m st x.first x.second in
        meets_ends _ (pushed (Going m ps rs (suc k)) v st c.inv.sound w.0 (omega arith) (omega arith)
        (λ a. going_memory m good bound ob ps rs k st c v a refl w.1 refl w.2))

module _ (m : Module) (good : Good m) (bound : Bounds m) (ob : Bool) where
  pub memories_all : (ps rs k : ℕ) (xs : List Memory) → ((j : ℕ) (x : Memory) → get_elem? xs j ≡ some x → get_elem? m.memories (k + j) ≡ some x) → (st : State)
      → Going m ps rs k st → Ends (Going m ps rs (k + length xs)) (connect_memories m ob k xs st)
  unfolding connect_memories
  memories_all ps rs k [] f st c = let z : k ≡ k + 0 = omega arith in ends_done (rw (← z) c)
  memories_all ps rs k (x ∷ xs) f st c =
      let z : k + suc (length xs) ≡ suc k + length xs = omega arith in
      let at : get_elem? m.memories k ≡ some x = let y : k + 0 ≡ k = omega arith in rw y at (f 0 x refl) in
      let g = good.memories k x at in
      rw z (ends_then (lower_all m ob (memory_steps x) st) (going_walk m good bound ob ps rs k (memory_steps x) st (steps_asked m x g.first g.second) c) (λ st₁ q.
      ends_then (push_record (2 ∷ k ∷ x.depth ∷ x.style ∷ 1 ∷ ports_words m st₁ x.first x.second) st₁) (memory_one m good bound ob ps rs k x at st₁ q.0 q.1) (λ st₂ c₂.
      memories_all ps rs (suc k) xs (λ j y e. let v : k + suc j ≡ suc k + j = omega arith in rw v at (f (suc j) y e)) st₂ c₂)))
