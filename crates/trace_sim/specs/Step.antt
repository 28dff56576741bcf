-- A step on words: registers, then read data, then memory words, are those of the step rule. Assumes nothing.
use Prim.Native.Nat.{ℕ, zero, suc, ◌+◌, ◌*◌, ◌-◌, ◌≤◌, ◌<◌}
use Rattle.std.proofs.Common.{not-suc-le-zero, arith, sym, ◌∙◌, ⊎_elim, lt-ltb, le-ltb, length-drop}
use Rattle.std.proofs.Math.Decide.{dec_lt}
use Rattle.std.specs.Prelude.{◌≡◌, Bool, true, false, cond, ◌&&◌, ◌⊎◌, ltb, eqb, drop, set}
use Rattle.std.proofs.Math.Path.{refl, ap, subst}
use mathlib.Core.List.{List, [], ◌++◌}
use Rattle.std.proofs.Math.Option.{Option, none, some, map}
use Rattle.std.proofs.Math.ListN.{length, get_or, get_or-append}
use Rattle.spec_rtl.specs.Word.{bit}
use Rattle.spec_tests.specs.Rules.{◌≡?◌, ◌or◌, pick, Fine}
use Rattle.spec_tests.specs.Laws.{or_no, no_ne, eq_yes, eq_no, yes_eq, no_eq}
use Rattle.spec_rules.specs.NetlistImage as N
use Rattle.spec_rules.specs.NetlistImage.{node_word, port_length, records_with, memory_port_of, memory_of, netlist}
use Rattle.spec_rules.specs.Step.{Setting, Contents, Access, perhaps, act, net, net_access, net_accesses, data_width, memory_bit, read_next, write_next, data_next, words_next, of_netlist}
use Rattle.spec_netlist.specs.Accept.{nets, belongs, member, second_data, count_of, accepts}
use Rattle.spec_trace.specs.Opened.{no_input, register_unfit, second_unfit, memory_unfit}
use Rattle.law_told.specs.Told.{or_split, pick_yes, pick_no, told}
use Rattle.law_told.proofs.Told.{owner}
use Rattle.law_told.specs.Members.{no_member, member_split}
use Rattle.law_told.specs.Owned.{spot}
use Rattle.law_told.specs.Ordered.{belongs_cell}
use Rattle.law_reads.specs.Reads.{node_of, is_source}
use Rattle.law_sorts.specs.Found.{numbered}
use Rattle.law_sorts.specs.Owners.{register_there, memory_there, register_sort, memory_sort}
use Rattle.law_sorts.specs.Memories.{MemoryTold, own_length}
use Rattle.law_sorts.specs.Cut.{register_cut, port_cut, length_in, drop_in}
use Rattle.trace_walk.specs.Places.{Begins, Places}
use Rattle.trace_pass.specs.Plan.{size, Loaded, Valued}
use Rattle.trace_pass.specs.Steps.{size_is}
use Rattle.trace_plan.specs.Kinds.{is_source_law}
use Rattle.trace_step.specs.Words.{register_bit, register_done, registers_done, port_read, port_written, second_words, memory_read, memory_written, base_at, memories_read, memories_written}
use Rattle.trace_sim.specs.Moves.{Moves, moves_none, moves_then, moves_set}
use Rattle.trace_sim.specs.Sources.{input_net, memory_net, register_at_law, memory_at_law, find_memory_law}
use Rattle.trace_sim.specs.Registers.{Inputs, register_wanted}
use Rattle.trace_sim.specs.Accesses.{data_length, data_at_law}
use Rattle.trace_sim.specs.Memories.{Rows, port_read_law, port_written_law, Written}
use Rattle.trace_sim.specs.Laid.{row_before}
use Rattle.trace_sim.specs.Bases.{base_le, base_next}

-- ---- records as they are read at their places ----

port_read_cut : (d w : ℕ) (mem : List ℕ) (b : ℕ) (p rest v n : List ℕ) → port_length p ≤ length p → port_read d w mem b (p ++ rest) v n ≡ port_read d w mem b p v n
unfolding port_read
port_read_cut d w mem b p rest v n h = rw (port_cut p rest h)

port_written_cut : (d w b : ℕ) (p rest v n mem : List ℕ) → port_length p ≤ length p → port_written d w b (p ++ rest) v n mem ≡ port_written d w b p v n mem
unfolding port_written
port_written_cut d w b p rest v n mem h = rw (port_cut p rest h)

register_bit_cut : (v w r rest : List ℕ) → length r ≡ 13 → register_bit v w (r ++ rest) ≡ register_bit v w r
unfolding register_bit
register_bit_cut v w r rest l = rw (register_cut r rest l, get_or-append r rest 0 3 (omega arith))

module _ {ws : List ℕ} {earlier : List (List ℕ)} {r : List ℕ} (t : MemoryTold ws earlier r) (rest : List ℕ) where
  first_in : drop 6 (r ++ rest) ≡ drop 6 r ++ rest
  first_in = drop_in r rest 6 t.six

  first_length : port_length (drop 6 (r ++ rest)) ≡ port_length (drop 6 r)
  first_length = ap port_length first_in ∙ length_in (drop 6 r) rest t.first.long

  pub second_in_law : second_words (r ++ rest) ≡ second_words r ++ rest
  second_in_law = ap (λ (k : ℕ). drop (6 + k) (r ++ rest)) first_length ∙ drop_in r rest (6 + port_length (drop 6 r)) (let l = t.first.long in let d = length-drop 6 r in let s = t.six in omega arith)

  word_in : (i : ℕ) → i < 8 → get_or (r ++ rest) i 0 ≡ get_or r i 0
  word_in i h = get_or-append r rest 0 i (let l = t.first.long in let n = own_length (drop 6 r) in let d = length-drop 6 r in omega arith)

  pub read_cut : (mem : List ℕ) (b : ℕ) (v n : List ℕ) → memory_read mem b (r ++ rest) v n ≡ memory_read mem b r v n
  unfolding memory_read
  read_cut mem b v n =
      rw (word_in 2 (omega arith), word_in 7 (omega arith), word_in 5 (omega arith), second_in_law, first_in, port_read_cut (get_or r 2 0) (get_or r 7 0) mem b (drop 6 r) rest v n t.first.long)
      (go (get_or r 5 0 ≡? 2) refl)
    where
      one : List ℕ
      one = port_read (get_or r 2 0) (get_or r 7 0) mem b (drop 6 r) v n

      go : (q : Bool) → (get_or r 5 0 ≡? 2) ≡ q → pick q (port_read (get_or r 2 0) (get_or r 7 0) mem b (second_words r ++ rest) v one) one ≡ pick q (port_read (get_or r 2 0) (get_or r 7 0) mem b (second_words r) v one) one
      go true e = ap (λ (l : List ℕ). pick true l one) (port_read_cut (get_or r 2 0) (get_or r 7 0) mem b (second_words r) rest v one (t.second (yes_eq _ _ e)).long)
      go false e = pick_no false _ _ refl ∙ sym (pick_no false _ _ refl)

  pub written_cut : (b : ℕ) (v n mem : List ℕ) → memory_written b (r ++ rest) v n mem ≡ memory_written b r v n mem
  unfolding memory_written
  written_cut b v n mem =
      rw (word_in 2 (omega arith), word_in 7 (omega arith), word_in 5 (omega arith), second_in_law, first_in, port_written_cut (get_or r 2 0) (get_or r 7 0) b (drop 6 r) rest v n mem t.first.long)
      (go (get_or r 5 0 ≡? 2) refl)
    where
      one : List ℕ
      one = port_written (get_or r 2 0) (get_or r 7 0) b (drop 6 r) v n mem

      go : (q : Bool) → (get_or r 5 0 ≡? 2) ≡ q → pick q (port_written (get_or r 2 0) (get_or r 7 0) b (second_words r ++ rest) v n one) one ≡ pick q (port_written (get_or r 2 0) (get_or r 7 0) b (second_words r) v n one) one
      go true e = ap (λ (l : List ℕ). pick true l one) (port_written_cut (get_or r 2 0) (get_or r 7 0) b (second_words r) rest v n one (t.second (yes_eq _ _ e)).long)
      go false e = pick_no false _ _ refl ∙ sym (pick_no false _ _ refl)

-- a net among a memory's read data
data_spot : {ws : List ℕ} {earlier : List (List ℕ)} {r : List ℕ} → MemoryTold ws earlier r → (j : ℕ) → member j ((memory_of r).first.read_data ++ second_data (memory_of r).second) ≡ true → {P : Type 0}
    → ((i : ℕ) → i < get_or r 7 0 → get_or (drop 6 r) (4 + get_or (drop 6 r) 0 0 + i) 0 ≡ j → P)
    → (get_or r 5 0 ≡ 2 → (i : ℕ) → i < get_or r 7 0 → get_or (second_words r) (4 + get_or (second_words r) 0 0 + i) 0 ≡ j → P) → P
unfolding memory_of second_data
data_spot {r = r} t j e {P} f g =
    member_split j (memory_port_of (drop 6 r)).read_data (second_data (pick (get_or r 5 0 ≡? 2) (some (memory_port_of (second_words r))) none)) e
    (λ m. (let s = spot j (memory_port_of (drop 6 r)).read_data m in let n = data_length t.first in let i = s.inside in f s.at (omega arith) (sym (data_at_law t.first s.at (omega arith)) ∙ s.is)))
    (λ m. second (get_or r 5 0 ≡? 2) refl m)
  where
    second : (b : Bool) → (get_or r 5 0 ≡? 2) ≡ b → member j (second_data (pick b (some (memory_port_of (second_words r))) none)) ≡ true → P
    second true q m =
        let u = t.second (yes_eq _ _ q) in
        let s = spot j (memory_port_of (second_words r)).read_data (ap (λ (o : Option N.MemoryPort). member j (second_data o)) (sym (pick_yes true (some (memory_port_of (second_words r))) none refl)) ∙ m) in
        let n = data_length u in
        let i = s.inside in
        g (yes_eq _ _ q) s.at (omega arith) (sym (data_at_law u s.at (omega arith)) ∙ s.is)
    second false q m = no_member j (ap (λ (o : Option N.MemoryPort). member j (second_data o)) (sym (pick_no false (some (memory_port_of (second_words r))) none refl)) ∙ m)

-- ---- clocks and resets are inputs ----

pub record Fit (ws : List ℕ) (ok : accepts ws ≡ Fine) : Type 0 where
  pub registers : (m : ℕ) (l : m < length (records_with 1 ws)) → register_unfit ws (register_at_law ws ok m l).it.r ≡ false
  pub memories : (m : ℕ) (l : m < length (records_with 2 ws)) → memory_unfit ws (memory_of (memory_at_law ws ok m l).it.r) ≡ false

pub first_clock : (ws r : List ℕ) → memory_unfit ws (memory_of r) ≡ false → node_word ws (memory_port_of (drop 6 r)).clock 0 ≡ 0
unfolding memory_unfit memory_of no_input
first_clock ws r e = no_ne _ _ (or_no e).0

pub second_clock : (ws r : List ℕ) → memory_unfit ws (memory_of r) ≡ false → get_or r 5 0 ≡ 2 → node_word ws (memory_port_of (second_words r)).clock 0 ≡ 0
unfolding memory_unfit memory_of no_input second_unfit
second_clock ws r e two = no_ne _ _ (ap (second_unfit ws) (sym (pick_yes (get_or r 5 0 ≡? 2) (some (memory_port_of (second_words r))) none (eq_yes _ _ two))) ∙ (or_no e).1)

pub second_some : (r : List ℕ) → get_or r 5 0 ≡ 2 → (memory_of r).second ≡ some (memory_port_of (second_words r))
unfolding memory_of
second_some r e = pick_yes (get_or r 5 0 ≡? 2) _ _ (eq_yes _ _ e)

pub second_none : (r : List ℕ) → (get_or r 5 0 ≡ 2 → ⊥) → (memory_of r).second ≡ none
unfolding memory_of
second_none r e = pick_no (get_or r 5 0 ≡? 2) _ _ (eq_no _ _ e)

pub first_is : (r : List ℕ) → (memory_of r).first ≡ memory_port_of (drop 6 r)
unfolding memory_of
first_is r = refl

depth_is : (r : List ℕ) → (memory_of r).depth ≡ get_or r 2 0
unfolding memory_of
depth_is r = refl

-- the words of all memories stand in mem
pub record Stored (ws : List ℕ) (ok : accepts ws ≡ Fine) (d : Contents) (places mem : List ℕ) : Type 0 where
  pub rows : (m : ℕ) (l : m < length (records_with 2 ws)) → Rows (d.mem (get_or (memory_at_law ws ok m l).it.r 1 0)) (get_or (memory_at_law ws ok m l).it.r 2 0) (get_or (memory_at_law ws ok m l).it.r 7 0) (base_at ws places m) mem

module _ (ws : List ℕ) (ok : accepts ws ≡ Fine) (fit : Fit ws ok) (s t : Setting) (c : Contents) where
  abbrev g : ℕ → Bool
  g = net (netlist ws) s c

  abbrev h : ℕ → Bool
  h = net (netlist ws) t c

  abbrev pub after : Contents
  after = act ((of_netlist (netlist ws)).reads s c t) c

  abbrev pub want : ℕ → ℕ
  want j = bit (net (netlist ws) t after j)

  inputs_kept : {w w' : List ℕ} → Inputs ws ok s t c w → Moves want w w' → Inputs ws ok s t c w'
  inputs_kept {w} {w'} y m = record { at = λ j l k. (let e = ap bit (input_net ws ok t after j l k) in m.keeps j (y.at j l k ∙ sym e) ∙ e) }

  module _ {v : List ℕ} (x : Valued ws s c v) where
    -- ---- registers ----

    pub record RegistersAre (w w' : List ℕ) (i : ℕ) : Type 0 where
      pub moves : Moves want w w'
      pub each : (m : ℕ) (l : m < length (records_with 1 ws)) → m < i → get_or w' (get_or (register_at_law ws ok m l).it.r 3 0) 0 ≡ want (get_or (register_at_law ws ok m l).it.r 3 0)

    pub registers_run : {places : List ℕ} {count : ℕ} → Places ws 1 places count → (w : List ℕ) → Inputs ws ok s t c w → size ws ≤ length w → (i : ℕ) → i ≤ count → RegistersAre w (registers_done ws v places i w) i
    unfolding registers_done
    registers_run p w y wide zero n = record { moves = moves_none want w; each = λ m l k. absurd (not-suc-le-zero k) }
    registers_run {places} {count} p w y wide (suc i) n =
        let ih = registers_run p w y wide i (omega arith) in
        let q = p.count in
        one ih (omega arith)
      where
        one : RegistersAre w (registers_done ws v places i w) i → (l : i < length (records_with 1 ws)) → RegistersAre w (register_done v (registers_done ws v places i w) (drop (get_or places i 0) ws)) (suc i)
        one ih l =
            let u = registers_done ws v places i w in
            let a = register_at_law ws ok i l in
            let b = subst (λ (z : List ℕ). Begins ws (get_or places i 0) z) a.it.is (p.at i (omega arith)) in
            let z = size_is ws in
            let o = a.told.output.there in
            let e : register_bit v u (drop (get_or places i 0) ws) ≡ net (netlist ws) t after (get_or a.it.r 3 0) =
            ap (register_bit v u) b.is ∙ register_bit_cut v u a.it.r b.rest a.told.long ∙ register_wanted ws ok s t c x (inputs_kept y ih.moves) i l (fit.registers i l) in
            let f : get_or (drop (get_or places i 0) ws) 3 0 ≡ get_or a.it.r 3 0 = ap (λ (k : List ℕ). get_or k 3 0) b.is ∙ get_or-append a.it.r b.rest 0 3 (let q = a.told.long in omega arith) in
            let k = ih.moves.long in
            let m = moves_set want u (get_or a.it.r 3 0) (bit (register_bit v u (drop (get_or places i 0) ws))) (omega arith) (ap bit e) in
            subst (λ (j : ℕ). RegistersAre w (set u j (bit (register_bit v u (drop (get_or places i 0) ws)))) (suc i)) (sym f)
            (record {
              moves = moves_then ih.moves m.0;
              each = λ j lj kj. elim (dec_lt j i) [
                | yes d ↦ m.0.keeps (get_or (register_at_law ws ok j lj).it.r 3 0) (ih.each j lj d)
                | no d ↦ last ih l m j lj (omega arith)
              ];
            })
          where
            last : RegistersAre w (registers_done ws v places i w) i → (l : i < length (records_with 1 ws))
                → Moves want (registers_done ws v places i w) (set (registers_done ws v places i w) (get_or (register_at_law ws ok i l).it.r 3 0) (bit (register_bit v (registers_done ws v places i w) (drop (get_or places i 0) ws))))
                × (get_or (set (registers_done ws v places i w) (get_or (register_at_law ws ok i l).it.r 3 0) (bit (register_bit v (registers_done ws v places i w) (drop (get_or places i 0) ws)))) (get_or (register_at_law ws ok i l).it.r 3 0) 0 ≡ want (get_or (register_at_law ws ok i l).it.r 3 0))
                → (j : ℕ) (lj : j < length (records_with 1 ws)) → j ≡ i
                → get_or (set (registers_done ws v places i w) (get_or (register_at_law ws ok i l).it.r 3 0) (bit (register_bit v (registers_done ws v places i w) (drop (get_or places i 0) ws)))) (get_or (register_at_law ws ok j lj).it.r 3 0) 0 ≡ want (get_or (register_at_law ws ok j lj).it.r 3 0)
            last ih l m j lj e =
                let f : get_or (register_at_law ws ok j lj).it.r 3 0 ≡ get_or (register_at_law ws ok i l).it.r 3 0 =
                ap (λ (k : List ℕ). get_or k 3 0) (sym (register_at_law ws ok j lj).it.is ∙ ap (λ (k : ℕ). get_or (records_with 1 ws) k []) e ∙ (register_at_law ws ok i l).it.is) in
                ap (λ (k : ℕ). get_or (set (registers_done ws v places i w) (get_or (register_at_law ws ok i l).it.r 3 0) (bit (register_bit v (registers_done ws v places i w) (drop (get_or places i 0) ws)))) k 0) f ∙ m.1 ∙ ap want (sym f)

    -- ---- what memories read ----

    module _ (m : ℕ) (l : m < length (records_with 2 ws)) where
      abbrev r : List ℕ
      r = (memory_at_law ws ok m l).it.r

      abbrev k : ℕ
      k = get_or r 1 0

      abbrev pub one : Access
      one = net_access g h (memory_port_of (drop 6 r))

      abbrev pub two : Access
      two = net_access g h (memory_port_of (second_words r))

      told_of : MemoryTold ws (memory_at_law ws ok m l).it.earlier r
      told_of = (memory_at_law ws ok m l).told

      width_is : data_width (netlist ws) k ≡ get_or r 7 0
      width_is = ap (perhaps 0 (λ (x : N.MemoryCell). length x.first.read_data)) (find_memory_law ws ok m l) ∙ ap (λ (q : N.MemoryPort). length q.read_data) (first_is r) ∙ data_length told_of.first

      -- net j is bit b of its read data
      data_net : (q : Setting) (d : Contents) (j b : ℕ) → j < nets ws → node_word ws j 0 ≡ 9 → node_word ws j 1 ≡ k → node_word ws j 2 ≡ b → net (netlist ws) q d j ≡ memory_bit d k (get_or r 7 0) b
      data_net q d j b n e f u =
          memory_net ws ok q d j (let z = size_is ws in omega arith) e ∙ ap (λ (i : ℕ). memory_bit d i (data_width (netlist ws) i) (node_word ws j 2)) f
          ∙ ap (λ (i : ℕ). memory_bit d k i (node_word ws j 2)) width_is ∙ ap (memory_bit d k (get_or r 7 0)) u

      pub first_net : (q : Setting) (d : Contents) (i : ℕ) → i < get_or r 7 0 → net (netlist ws) q d (get_or (drop 6 r) (4 + get_or (drop 6 r) 0 0 + i) 0) ≡ d.dat k false i
      first_net q d i n =
          let o = told_of.first.read_data i n in
          let e : 0 + i ≡ i = omega arith in
          data_net q d (get_or (drop 6 r) (4 + get_or (drop 6 r) 0 0 + i) 0) i o.there o.kind o.owner (o.bit ∙ e) ∙ ap (λ (b : Bool). cond b (d.dat k false i) (d.dat k true (i - get_or r 7 0))) (lt-ltb i (get_or r 7 0) n)

      pub second_net : (q : Setting) (d : Contents) (i : ℕ) → get_or r 5 0 ≡ 2 → i < get_or r 7 0 → net (netlist ws) q d (get_or (second_words r) (4 + get_or (second_words r) 0 0 + i) 0) ≡ d.dat k true i
      second_net q d i y n =
          let o = (told_of.second y).read_data i n in
          let e : get_or r 7 0 + i - get_or r 7 0 ≡ i = omega arith in
          data_net q d (get_or (second_words r) (4 + get_or (second_words r) 0 0 + i) 0) (get_or r 7 0 + i) o.there o.kind o.owner o.bit
          ∙ ap (λ (b : Bool). cond b (d.dat k false (get_or r 7 0 + i)) (d.dat k true (get_or r 7 0 + i - get_or r 7 0))) (le-ltb (get_or r 7 0 + i) (get_or r 7 0) (omega arith)) ∙ ap (d.dat k true) e

      after_data : (second : Bool) (i : ℕ) → after.dat k second i ≡ data_next (c.mem k) (net_accesses g h (memory_of r)) second (c.dat k second) i
      after_data second i = ap (λ (z : Option N.MemoryCell). perhaps (c.dat k second) (λ x. data_next (c.mem k) x second (c.dat k second)) (map (net_accesses g h) z) i) (find_memory_law ws ok m l)

      pub first_wanted : (i : ℕ) → i < get_or r 7 0 → want (get_or (drop 6 r) (4 + get_or (drop 6 r) 0 0 + i) 0) ≡ bit (read_next (get_or r 2 0) (c.mem k) (c.dat k false) one i)
      first_wanted i n = ap bit (first_net t after i n ∙ after_data false i ∙ same)
        where
          same : data_next (c.mem k) (net_accesses g h (memory_of r)) false (c.dat k false) i ≡ read_next (get_or r 2 0) (c.mem k) (c.dat k false) one i
          same = ap (λ (d : ℕ). read_next d (c.mem k) (c.dat k false) (net_access g h (memory_of r).first) i) (depth_is r) ∙ ap (λ (q : N.MemoryPort). read_next (get_or r 2 0) (c.mem k) (c.dat k false) (net_access g h q) i) (first_is r)

      pub second_wanted : (i : ℕ) → get_or r 5 0 ≡ 2 → i < get_or r 7 0 → want (get_or (second_words r) (4 + get_or (second_words r) 0 0 + i) 0) ≡ bit (read_next (get_or r 2 0) (c.mem k) (c.dat k true) two i)
      second_wanted i y n = ap bit (second_net t after i y n ∙ after_data true i ∙ same)
        where
          same : data_next (c.mem k) (net_accesses g h (memory_of r)) true (c.dat k true) i ≡ read_next (get_or r 2 0) (c.mem k) (c.dat k true) two i
          same = ap (λ (q : Option N.MemoryPort). perhaps (c.dat k true) (read_next (memory_of r).depth (c.mem k) (c.dat k true)) (map (net_access g h) q) i) (second_some r y)
              ∙ ap (λ (d : ℕ). read_next d (c.mem k) (c.dat k true) two i) (depth_is r)

      -- both ports of one memory
      pub record DataAre (w : List ℕ) : Type 0 where
        pub first : (one.ticks && one.reads) ≡ true → (i : ℕ) → i < get_or r 7 0 → get_or w (get_or (drop 6 r) (4 + get_or (drop 6 r) 0 0 + i) 0) 0 ≡ want (get_or (drop 6 r) (4 + get_or (drop 6 r) 0 0 + i) 0)
        pub second : get_or r 5 0 ≡ 2 → (two.ticks && two.reads) ≡ true → (i : ℕ) → i < get_or r 7 0 → get_or w (get_or (second_words r) (4 + get_or (second_words r) 0 0 + i) 0) 0 ≡ want (get_or (second_words r) (4 + get_or (second_words r) 0 0 + i) 0)

      data_kept : {w w' : List ℕ} → Moves want w w' → DataAre w → DataAre w'
      data_kept f d = record { first = λ e i n. f.keeps _ (d.first e i n); second = λ y e i n. f.keeps _ (d.second y e i n) }

      pub memory_read_law : (base : ℕ) (mem w : List ℕ) → Rows (c.mem k) (get_or r 2 0) (get_or r 7 0) base mem → Inputs ws ok s t c w → size ws ≤ length w → Moves want w (memory_read mem base r v w) × DataAre (memory_read mem base r v w)
      unfolding memory_read
      memory_read_law base mem w rows y wide =
          let a = port_read_law told_of.first ok s t c (first_clock ws r (fit.memories m l)) x y (c.mem k) (get_or r 2 0) base mem rows wide want (c.dat k false) first_wanted in
          go (get_or r 5 0 ≡? 2) refl a
        where
          w₁ : List ℕ
          w₁ = port_read (get_or r 2 0) (get_or r 7 0) mem base (drop 6 r) v w

          go : (b : Bool) → (get_or r 5 0 ≡? 2) ≡ b
              → Moves want w w₁ × ((one.ticks && one.reads) ≡ true → (i : ℕ) → i < get_or r 7 0 → get_or w₁ (get_or (drop 6 r) (4 + get_or (drop 6 r) 0 0 + i) 0) 0 ≡ want (get_or (drop 6 r) (4 + get_or (drop 6 r) 0 0 + i) 0))
              → Moves want w (pick b (port_read (get_or r 2 0) (get_or r 7 0) mem base (second_words r) v w₁) w₁) × DataAre (pick b (port_read (get_or r 2 0) (get_or r 7 0) mem base (second_words r) v w₁) w₁)
          go true e a =
              let two_ports = yes_eq _ _ e in
              let q = a.0.long in
              let b = port_read_law (told_of.second two_ports) ok s t c (second_clock ws r (fit.memories m l) two_ports) x (inputs_kept y a.0) (c.mem k) (get_or r 2 0) base mem rows (omega arith) want (c.dat k true) (λ i n. second_wanted i two_ports n) in
              let z = pick_yes true (port_read (get_or r 2 0) (get_or r 7 0) mem base (second_words r) v w₁) w₁ refl in
              subst (λ (u : List ℕ). Moves want w u × DataAre u) (sym z)
              (moves_then a.0 b.0, record { first = λ f i n. b.0.keeps _ (a.1 f i n); second = λ u f i n. b.1 f i n })
          go false e a =
              let z = pick_no false (port_read (get_or r 2 0) (get_or r 7 0) mem base (second_words r) v w₁) w₁ refl in
              subst (λ (u : List ℕ). Moves want w u × DataAre u) (sym z) (a.0, record { first = a.1; second = λ u f i n. absurd (no_eq _ _ e u) })

    -- ---- all memories ----

    pub record ReadsAre (w w' : List ℕ) (i : ℕ) : Type 0 where
      pub moves : Moves want w w'
      pub each : (m : ℕ) (l : m < length (records_with 2 ws)) → m < i → DataAre m l w'

    same_memory : (m i : ℕ) (l : m < length (records_with 2 ws)) (n : i < length (records_with 2 ws)) → m ≡ i → (memory_at_law ws ok m l).it.r ≡ (memory_at_law ws ok i n).it.r
    same_memory m i l n e = sym (memory_at_law ws ok m l).it.is ∙ ap (λ (k : ℕ). get_or (records_with 2 ws) k []) e ∙ (memory_at_law ws ok i n).it.is

    data_same : (m i : ℕ) (l : m < length (records_with 2 ws)) (n : i < length (records_with 2 ws)) → m ≡ i → (w : List ℕ) → DataAre i n w → DataAre m l w
    data_same m i l n e w d = record {
      first = λ f j q. subst (λ (z : List ℕ). ((net_access g h (memory_port_of (drop 6 z))).ticks && (net_access g h (memory_port_of (drop 6 z))).reads) ≡ true → (j : ℕ) → j < get_or z 7 0
          → get_or w (get_or (drop 6 z) (4 + get_or (drop 6 z) 0 0 + j) 0) 0 ≡ want (get_or (drop 6 z) (4 + get_or (drop 6 z) 0 0 + j) 0)) (sym (same_memory m i l n e)) d.first f j q;
      second = λ y f j q. subst (λ (z : List ℕ). get_or z 5 0 ≡ 2 → ((net_access g h (memory_port_of (second_words z))).ticks && (net_access g h (memory_port_of (second_words z))).reads) ≡ true → (j : ℕ) → j < get_or z 7 0
          → get_or w (get_or (second_words z) (4 + get_or (second_words z) 0 0 + j) 0) 0 ≡ want (get_or (second_words z) (4 + get_or (second_words z) 0 0 + j) 0)) (sym (same_memory m i l n e)) d.second y f j q;
    }

    pub reads_run : {places : List ℕ} {count : ℕ} → Places ws 2 places count → (mem : List ℕ) → Stored ws ok c places mem → (w : List ℕ) → Inputs ws ok s t c w → size ws ≤ length w → (i : ℕ) → i ≤ count → ReadsAre w (memories_read ws mem v places i w) i
    unfolding memories_read
    reads_run p mem st w y wide zero n = record { moves = moves_none want w; each = λ m l k. absurd (not-suc-le-zero k) }
    reads_run {places} {count} p mem st w y wide (suc i) n = step (reads_run p mem st w y wide i (omega arith)) (let q = p.count in omega arith)
      where
        step : ReadsAre w (memories_read ws mem v places i w) i → (l : i < length (records_with 2 ws)) → ReadsAre w (memory_read mem (base_at ws places i) (drop (get_or places i 0) ws) v (memories_read ws mem v places i w)) (suc i)
        step ih l =
            let u = memories_read ws mem v places i w in
            let a = memory_at_law ws ok i l in
            let b = subst (λ (z : List ℕ). Begins ws (get_or places i 0) z) a.it.is (p.at i (omega arith)) in
            let q = ih.moves.long in
            let f = memory_read_law i l (base_at ws places i) mem u (st.rows i l) (inputs_kept y ih.moves) (omega arith) in
            let e : memory_read mem (base_at ws places i) (drop (get_or places i 0) ws) v u ≡ memory_read mem (base_at ws places i) a.it.r v u =
            ap (λ (z : List ℕ). memory_read mem (base_at ws places i) z v u) b.is ∙ read_cut a.told b.rest mem (base_at ws places i) v u in
            subst (λ (z : List ℕ). ReadsAre w z (suc i)) (sym e) (record {
              moves = moves_then ih.moves f.0;
              each = λ m lm km. elim (dec_lt m i) [
                | yes d ↦ data_kept m lm f.0 (ih.each m lm d)
                | no d ↦ data_same m i lm l (omega arith) (memory_read mem (base_at ws places i) a.it.r v u) f.1
              ];
            })

    -- ---- what memories write ----

    -- one memory
    pub record MemoryIs (m : ℕ) (l : m < length (records_with 2 ws)) (base : ℕ) (mem mem' : List ℕ) : Type 0 where
      pub long : length mem' ≡ length mem
      pub rows : Rows (after.mem (get_or (memory_at_law ws ok m l).it.r 1 0)) (get_or (memory_at_law ws ok m l).it.r 2 0) (get_or (memory_at_law ws ok m l).it.r 7 0) base mem'
      pub below : (j : ℕ) → j < base → get_or mem' j 0 ≡ get_or mem j 0
      pub above : (j : ℕ) → base + get_or (memory_at_law ws ok m l).it.r 2 0 * get_or (memory_at_law ws ok m l).it.r 7 0 ≤ j → get_or mem' j 0 ≡ get_or mem j 0

    module _ (m : ℕ) (l : m < length (records_with 2 ws)) {n : List ℕ} (y : Inputs ws ok s t c n) where
      abbrev q : List ℕ
      q = (memory_at_law ws ok m l).it.r

      abbrev u : ℕ
      u = get_or q 1 0

      after_words : (a b : ℕ) → after.mem u a b ≡ words_next (c.mem u) (net_accesses g h (memory_of q)) a b
      after_words a b = ap (λ (z : Option N.MemoryCell). perhaps (c.mem u) (words_next (c.mem u)) (map (net_accesses g h) z) a b) (find_memory_law ws ok m l)

      abbrev first_words : ℕ → ℕ → Bool
      first_words = write_next (get_or q 2 0) (c.mem u) (net_access g h (memory_port_of (drop 6 q)))

      first_same : (a b : ℕ) → write_next (memory_of q).depth (c.mem u) (net_access g h (memory_of q).first) a b ≡ first_words a b
      first_same a b = ap (λ (d : ℕ). write_next d (c.mem u) (net_access g h (memory_of q).first) a b) (depth_is q) ∙ ap (λ (z : N.MemoryPort). write_next (get_or q 2 0) (c.mem u) (net_access g h z) a b) (first_is q)

      one_port : (get_or q 5 0 ≡ 2 → ⊥) → (a b : ℕ) → after.mem u a b ≡ first_words a b
      one_port e a b =
          after_words a b ∙ ap (λ (z : Option N.MemoryPort). perhaps (write_next (memory_of q).depth (c.mem u) (net_access g h (memory_of q).first))
          (write_next (memory_of q).depth (write_next (memory_of q).depth (c.mem u) (net_access g h (memory_of q).first))) (map (net_access g h) z) a b) (second_none q e) ∙ first_same a b

      two_ports : get_or q 5 0 ≡ 2 → (a b : ℕ) → after.mem u a b ≡ write_next (get_or q 2 0) first_words (net_access g h (memory_port_of (second_words q))) a b
      two_ports e a b =
          after_words a b ∙ ap (λ (z : Option N.MemoryPort). perhaps (write_next (memory_of q).depth (c.mem u) (net_access g h (memory_of q).first))
          (write_next (memory_of q).depth (write_next (memory_of q).depth (c.mem u) (net_access g h (memory_of q).first))) (map (net_access g h) z) a b) (second_some q e)
          ∙ ap (λ (d : ℕ). write_next d (write_next (memory_of q).depth (c.mem u) (net_access g h (memory_of q).first)) (net_access g h (memory_port_of (second_words q))) a b) (depth_is q)
          ∙ ap (λ (z : Bool). cond ((net_access g h (memory_port_of (second_words q))).ticks && (net_access g h (memory_port_of (second_words q))).writes && eqb (net_access g h (memory_port_of (second_words q))).write_at a && ltb a (get_or q 2 0))
          ((net_access g h (memory_port_of (second_words q))).written b) z) (first_same a b)

      pub memory_written_law : (base : ℕ) (mem : List ℕ) → Rows (c.mem u) (get_or q 2 0) (get_or q 7 0) base mem → base + get_or q 2 0 * get_or q 7 0 ≤ length mem → MemoryIs m l base mem (memory_written base q v n mem)
      unfolding memory_written
      memory_written_law base mem rows room =
          let a = port_written_law (memory_at_law ws ok m l).told.first ok s t c (first_clock ws q (fit.memories m l)) x y (c.mem u) (get_or q 2 0) base mem rows room in
          go (get_or q 5 0 ≡? 2) refl a
        where
          mem₁ : List ℕ
          mem₁ = port_written (get_or q 2 0) (get_or q 7 0) base (drop 6 q) v n mem

          go : (b : Bool) → (get_or q 5 0 ≡? 2) ≡ b → Written (memory_at_law ws ok m l).told.first ok s t c (first_clock ws q (fit.memories m l)) x y (c.mem u) (get_or q 2 0) base mem mem₁
              → MemoryIs m l base mem (pick b (port_written (get_or q 2 0) (get_or q 7 0) base (second_words q) v n mem₁) mem₁)
          go true e a =
              let two-there = yes_eq _ _ e in
              let f = a.long in
              let b = port_written_law ((memory_at_law ws ok m l).told.second two-there) ok s t c (second_clock ws q (fit.memories m l) two-there) x y first_words (get_or q 2 0) base mem₁ a.rows (omega arith) in
              let z = pick_yes true (port_written (get_or q 2 0) (get_or q 7 0) base (second_words q) v n mem₁) mem₁ refl in
              subst (λ (o : List ℕ). MemoryIs m l base mem o) (sym z) (record {
                long = b.long ∙ a.long;
                rows = record { at = λ d i hd hi. b.rows.at d i hd hi ∙ ap bit (sym (two_ports two-there d i)) };
                below = λ j k. b.below j k ∙ a.below j k;
                above = λ j k. b.above j k ∙ a.above j k;
              })
          go false e a =
              let z = pick_no false (port_written (get_or q 2 0) (get_or q 7 0) base (second_words q) v n mem₁) mem₁ refl in
              subst (λ (o : List ℕ). MemoryIs m l base mem o) (sym z) (record {
                long = a.long;
                rows = record { at = λ d i hd hi. a.rows.at d i hd hi ∙ ap bit (sym (one_port (no_eq _ _ e) d i)) };
                below = a.below;
                above = a.above;
              })

    -- all memories
    pub record WritesAre (places mem mem' : List ℕ) (i : ℕ) : Type 0 where
      pub long : length mem' ≡ length mem
      pub new : (m : ℕ) (l : m < length (records_with 2 ws)) → m < i → Rows (after.mem (get_or (memory_at_law ws ok m l).it.r 1 0)) (get_or (memory_at_law ws ok m l).it.r 2 0) (get_or (memory_at_law ws ok m l).it.r 7 0) (base_at ws places m) mem'
      pub old : (m : ℕ) (l : m < length (records_with 2 ws)) → i ≤ m → Rows (c.mem (get_or (memory_at_law ws ok m l).it.r 1 0)) (get_or (memory_at_law ws ok m l).it.r 2 0) (get_or (memory_at_law ws ok m l).it.r 7 0) (base_at ws places m) mem'

    pub writes_run : {places : List ℕ} {count : ℕ} → Places ws 2 places count → (n : List ℕ) → Inputs ws ok s t c n → (mem : List ℕ) → Stored ws ok c places mem → base_at ws places count ≤ length mem → (i : ℕ) → i ≤ count
        → WritesAre places mem (memories_written ws v n places i mem) i
    unfolding memories_written
    writes_run p n y mem st room zero b = record { long = refl; new = λ m l k. absurd (not-suc-le-zero k); old = λ m l k. st.rows m l }
    writes_run {places} {count} p n y mem st room (suc i) b = step (writes_run p n y mem st room i (omega arith)) (let q = p.count in omega arith)
      where
        step : WritesAre places mem (memories_written ws v n places i mem) i → (l : i < length (records_with 2 ws)) → WritesAre places mem (memory_written (base_at ws places i) (drop (get_or places i 0) ws) v n (memories_written ws v n places i mem)) (suc i)
        step ih l =
            let w = memories_written ws v n places i mem in
            let a = memory_at_law ws ok i l in
            let d = subst (λ (z : List ℕ). Begins ws (get_or places i 0) z) a.it.is (p.at i (omega arith)) in
            let q = ih.long in
            let z = base_next ws ok p i l in
            let f = base_le ws places (i + 1) count (omega arith) in
            let k = memory_written_law i l y (base_at ws places i) w (ih.old i l (omega arith)) (omega arith) in
            let e : memory_written (base_at ws places i) (drop (get_or places i 0) ws) v n w ≡ memory_written (base_at ws places i) a.it.r v n w =
            ap (λ (z : List ℕ). memory_written (base_at ws places i) z v n w) d.is ∙ written_cut a.told d.rest (base_at ws places i) v n w in
            subst (λ (o : List ℕ). WritesAre places mem o (suc i)) (sym e) (record {
              long = k.long ∙ ih.long;
              new = λ m lm km. elim (dec_lt m i) [
                | yes o ↦ record {
                  at = λ x j hx hj. (
                      let g₁ = base_next ws ok p m lm in
                      let g₂ = base_le ws places (m + 1) i (omega arith) in
                      let g₃ = row_before x (get_or (memory_at_law ws ok m lm).it.r 2 0) (get_or (memory_at_law ws ok m lm).it.r 7 0) j hx hj in
                      k.below _ (omega arith) ∙ (ih.new m lm o).at x j hx hj);
                }
                | no o ↦ here m i lm l (omega arith) (memory_written (base_at ws places i) a.it.r v n w) k.rows
              ];
              old = λ m lm km. record {
                at = λ x j hx hj. (let g₂ = base_le ws places (i + 1) m (omega arith) in k.above _ (omega arith) ∙ (ih.old m lm (omega arith)).at x j hx hj);
              };
            })
          where
            here : (m i : ℕ) (lm : m < length (records_with 2 ws)) (l : i < length (records_with 2 ws)) → m ≡ i → (o : List ℕ)
                → Rows (after.mem (get_or (memory_at_law ws ok i l).it.r 1 0)) (get_or (memory_at_law ws ok i l).it.r 2 0) (get_or (memory_at_law ws ok i l).it.r 7 0) (base_at ws places i) o
                → Rows (after.mem (get_or (memory_at_law ws ok m lm).it.r 1 0)) (get_or (memory_at_law ws ok m lm).it.r 2 0) (get_or (memory_at_law ws ok m lm).it.r 7 0) (base_at ws places m) o
            here m i lm l e o r =
                subst (λ (b : ℕ). Rows (after.mem (get_or (memory_at_law ws ok m lm).it.r 1 0)) (get_or (memory_at_law ws ok m lm).it.r 2 0) (get_or (memory_at_law ws ok m lm).it.r 7 0) (base_at ws places b) o) (sym e)
                (subst (λ (z : List ℕ). Rows (after.mem (get_or z 1 0)) (get_or z 2 0) (get_or z 7 0) (base_at ws places i) o) (sym (same_memory m i lm l e)) r)

    pub stored_after : {places : List ℕ} {count : ℕ} → Places ws 2 places count → (n : List ℕ) → Inputs ws ok s t c n → (mem : List ℕ) → Stored ws ok c places mem → base_at ws places count ≤ length mem
        → Stored ws ok after places (memories_written ws v n places count mem) × (length (memories_written ws v n places count mem) ≡ length mem)
    stored_after {places} {count} p n y mem st room =
        let r = writes_run p n y mem st room count (omega arith) in
        let q = p.count in
        (record { rows = λ m l. r.new m l (omega arith) }, r.long)

    -- ---- every source has its value ----

    module _ {registers : List ℕ} {nr : ℕ} (p : Places ws 1 registers nr) {memories : List ℕ} {nm : ℕ} (q : Places ws 2 memories nm) where
      pub loaded_after : (w : List ℕ) → Moves want v w → Inputs ws ok s t c w → size ws ≤ length v → (mem : List ℕ) → Stored ws ok c memories mem
          → Loaded ws t after (memories_read ws mem v memories nm (registers_done ws v registers nr w)) × Inputs ws ok s t c (memories_read ws mem v memories nm (registers_done ws v registers nr w))
          × Moves want v (memories_read ws mem v memories nm (registers_done ws v registers nr w))
      loaded_after w mw y wide mem st = (record { holds = λ j l e. source j l (is_source_law ws ok j l) e }, inputs_kept (inputs_kept y a.moves) b.moves, all)
        where
          a : RegistersAre w (registers_done ws v registers nr w) nr
          a = registers_run p w y (let z = mw.long in omega arith) nr (omega arith)

          b : ReadsAre (registers_done ws v registers nr w) (memories_read ws mem v memories nm (registers_done ws v registers nr w)) nm
          b = reads_run q mem st (registers_done ws v registers nr w) (inputs_kept y a.moves) (let z = mw.long in let u = a.moves.long in omega arith) nm (omega arith)

          fin : List ℕ
          fin = memories_read ws mem v memories nm (registers_done ws v registers nr w)

          all : Moves want v fin
          all = moves_then mw (moves_then a.moves b.moves)

          -- a net that keeps its value, and is wanted to
          held : (j : ℕ) → want j ≡ get_or v j 0 → get_or fin j 0 ≡ want j
          held j e = ⊎_elim (λ (f : get_or fin j 0 ≡ get_or v j 0). f ∙ sym e) (λ (f : get_or fin j 0 ≡ want j). f) (all.only j)

          input : (j : ℕ) → j < size ws → node_word ws j 0 ≡ 0 → get_or fin j 0 ≡ want j
          input j l e = (inputs_kept (inputs_kept y a.moves) b.moves).at j l e ∙ sym (ap bit (input_net ws ok t after j l e))

          register : (j : ℕ) → j < size ws → node_word ws j 0 ≡ 7 → get_or fin j 0 ≡ want j
          register j l e =
              let z = size_is ws in
              let o = owner ws (told ws ok) j (omega arith) (ap belongs e ∙ belongs_cell 7 (omega arith)) in
              let f = register_sort ws j o e in
              let m = numbered ws 1 o.earlier o.r o.later o.place f in
              let r = register_at_law ws ok (count_of 1 o.earlier) m.0 in
              let k = register_there ws j o f in
              let i = k.narrow in
              let u : 3 + k.at ≡ 3 = omega arith in
              let d : get_or r.it.r 3 0 ≡ j = ap (λ (x : List ℕ). get_or x 3 0) (sym r.it.is ∙ m.1) ∙ (ap (λ (x : ℕ). get_or o.r x 0) (sym u) ∙ k.is) in
              let n = p.count in
              let x = m.0 in
              ap (λ (i : ℕ). get_or fin i 0) (sym d) ∙ b.moves.keeps (get_or r.it.r 3 0) (a.each (count_of 1 o.earlier) m.0 (omega arith)) ∙ ap want d

          memory : (j : ℕ) → j < size ws → node_word ws j 0 ≡ 9 → get_or fin j 0 ≡ want j
          memory j l e =
              let z = size_is ws in
              let o = owner ws (told ws ok) j (omega arith) (ap belongs e ∙ belongs_cell 9 (omega arith)) in
              let f = memory_sort ws j o e in
              let m = numbered ws 2 o.earlier o.r o.later o.place f in
              let r = memory_at_law ws ok (count_of 2 o.earlier) m.0 in
              let d : o.r ≡ r.it.r = sym m.1 ∙ r.it.is in
              let n = q.count in
              let u = m.0 in
              data_spot r.told j (subst (λ (k : List ℕ). member j ((memory_of k).first.read_data ++ second_data (memory_of k).second) ≡ true) d (memory_there ws j o f))
              (λ i hi g₁. first_case (count_of 2 o.earlier) m.0 (omega arith) i hi j g₁ ((one (count_of 2 o.earlier) m.0).ticks && (one (count_of 2 o.earlier) m.0).reads) refl)
              (λ two-there i hi g₁. second_case (count_of 2 o.earlier) m.0 (omega arith) two-there i hi j g₁ ((two (count_of 2 o.earlier) m.0).ticks && (two (count_of 2 o.earlier) m.0).reads) refl)
            where
              first_case : (m : ℕ) (l : m < length (records_with 2 ws)) → m < nm → (i : ℕ) → i < get_or (memory_at_law ws ok m l).it.r 7 0 → (j : ℕ)
                  → get_or (drop 6 (memory_at_law ws ok m l).it.r) (4 + get_or (drop 6 (memory_at_law ws ok m l).it.r) 0 0 + i) 0 ≡ j → (d : Bool) → ((one m l).ticks && (one m l).reads) ≡ d → get_or fin j 0 ≡ want j
              first_case m l k i hi j e true d = ap (λ (x : ℕ). get_or fin x 0) (sym e) ∙ (b.each m l k).first d i hi ∙ ap want e
              first_case m l k i hi j e false d = held j (ap want (sym e) ∙ first_wanted m l i hi
                  ∙ ap bit (ap (λ (y : Bool). cond y (ltb (one m l).read_at_of (get_or (memory_at_law ws ok m l).it.r 2 0) && c.mem (get_or (memory_at_law ws ok m l).it.r 1 0) (one m l).read_at_of i) (c.dat (get_or (memory_at_law ws ok m l).it.r 1 0) false i)) d)
                  ∙ sym (ap bit (first_net m l s c i hi)) ∙ sym (x.holds (get_or (drop 6 (memory_at_law ws ok m l).it.r) (4 + get_or (drop 6 (memory_at_law ws ok m l).it.r) 0 0 + i) 0) (let u = ((memory_at_law ws ok m l).told.first.read_data i hi).there in let z = size_is ws in omega arith))
                  ∙ ap (λ (x : ℕ). get_or v x 0) e)

              second_case : (m : ℕ) (l : m < length (records_with 2 ws)) → m < nm → get_or (memory_at_law ws ok m l).it.r 5 0 ≡ 2 → (i : ℕ) → i < get_or (memory_at_law ws ok m l).it.r 7 0 → (j : ℕ)
                  → get_or (second_words (memory_at_law ws ok m l).it.r) (4 + get_or (second_words (memory_at_law ws ok m l).it.r) 0 0 + i) 0 ≡ j → (d : Bool) → ((two m l).ticks && (two m l).reads) ≡ d → get_or fin j 0 ≡ want j
              second_case m l k w₂ i hi j e true d = ap (λ (x : ℕ). get_or fin x 0) (sym e) ∙ (b.each m l k).second w₂ d i hi ∙ ap want e
              second_case m l k w₂ i hi j e false d = held j (ap want (sym e) ∙ second_wanted m l i w₂ hi
                  ∙ ap bit (ap (λ (y : Bool). cond y (ltb (two m l).read_at_of (get_or (memory_at_law ws ok m l).it.r 2 0) && c.mem (get_or (memory_at_law ws ok m l).it.r 1 0) (two m l).read_at_of i) (c.dat (get_or (memory_at_law ws ok m l).it.r 1 0) true i)) d)
                  ∙ sym (ap bit (second_net m l s c i w₂ hi)) ∙ sym (x.holds (get_or (second_words (memory_at_law ws ok m l).it.r) (4 + get_or (second_words (memory_at_law ws ok m l).it.r) 0 0 + i) 0) (let u = (((memory_at_law ws ok m l).told.second w₂).read_data i hi).there in let z = size_is ws in omega arith))
                  ∙ ap (λ (x : ℕ). get_or v x 0) e)

          source : (j : ℕ) → j < size ws → is_source (node_of (netlist ws) j) ≡ (node_word ws j 0 ≡? 0 or node_word ws j 0 ≡? 7 or node_word ws j 0 ≡? 9) → is_source (node_of (netlist ws) j) ≡ true → get_or fin j 0 ≡ want j
          source j l f e =
              or_split (node_word ws j 0 ≡? 0) (node_word ws j 0 ≡? 7 or node_word ws j 0 ≡? 9) (sym f ∙ e) (λ k. input j l (yes_eq _ _ k))
              (λ k. or_split (node_word ws j 0 ≡? 7) (node_word ws j 0 ≡? 9) k (λ k. register j l (yes_eq _ _ k)) (λ k. memory j l (yes_eq _ _ k)))
