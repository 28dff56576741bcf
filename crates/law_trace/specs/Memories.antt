-- A memory's record as the lowering writes it: its clocks and how many bits it holds. Assumes nothing.
use Prim.Native.Nat.{ℕ, ◌+◌, ◌*◌}
use native.Mathlib.Omega.{arith}
use Rattle.std.specs.Prelude.{◌≡◌}
use Rattle.std.proofs.Math.Path.{refl, sym, ap}
use Rattle.std.proofs.Common.{◌∙◌, get_or-drop, drop-drop}
use mathlib.Core.List.{List, [], ◌∷◌, ◌++◌, append_assoc, append-nil}
use Rattle.std.proofs.Math.Option.{Option, none, some}
use Rattle.std.proofs.Math.ListN.{length, drop, get_or, length-append, length-take, length-drop}
use Rattle.std.proofs.Math.Seq.{get_or-append-add, drop_at}
use Rattle.spec_rtl.specs.Rtl.{Module, Control, Memory, Port}
use Rattle.spec_tests.specs.Rules.{◌≡?◌}
use Rattle.spec_tests.specs.Laws.{eq_yes, eq_no}
use Rattle.spec_rules.specs.NetlistImage.{MemoryPort, port_lists, port_length, memory_port_of, memory_of}
use Rattle.spec_model.specs.Words.{low_word, control_words}
use Rattle.spec_model.specs.Lowering.{State, signal_width, signal_net, signal_nets, whole_nets, option_control, port_words, ports_words}
use Rattle.law_walk.specs.Tables.{none_some, some_eq}
use Rattle.law_phases.specs.Pushed.{nets_length}
use Rattle.law_told.specs.Told.{pick_yes, pick_no}

controls_long : (o : Option Control) → length (control_words o) ≡ 2
controls_long none = refl
controls_long (some c) = refl

fourth : (o : Option Control) (a b c d : ℕ) (rest : List ℕ) → get_or (control_words o ++ (a ∷ b ∷ c ∷ d ∷ rest)) 4 0 ≡ c
fourth none a b c d rest = refl
fourth (some x) a b c d rest = refl

module _ (m : Module) (st : State) (p : Port) where
  abbrev ra : List ℕ
  ra = whole_nets st p.read_address

  abbrev rd : List ℕ
  rd = signal_nets st p.read_data 0 (signal_width m p.read_data)

  abbrev wa : List ℕ
  wa = whole_nets st p.write_address

  abbrev wd : List ℕ
  wd = whole_nets st p.write_data

  abbrev tail : List ℕ → List ℕ
  tail rest = control_words (option_control st p.read_enable) ++ (signal_net st p.write_enable.signal 0 ∷ low_word p.write_enable.level ∷ signal_net st p.clock 0 ∷ low_word p.rising ∷ rest)

  written : (rest : List ℕ) → port_words m st p ++ rest ≡ length ra ∷ length rd ∷ length wa ∷ length wd ∷ (ra ++ (rd ++ (wa ++ (wd ++ tail rest))))
  written rest = simp append_assoc

  words_long : length (port_words m st p) ≡ 4 + (length ra + length rd + length wa + length wd) + 6
  words_long = simp length-append (omega (arith, controls_long (option_control st p.read_enable)))

  pub port_long : (rest : List ℕ) → port_length (port_words m st p ++ rest) ≡ length (port_words m st p)
  unfolding port_length port_lists
  port_long rest = sym words_long

  pub clock_is : (rest : List ℕ) → (memory_port_of (port_words m st p ++ rest)).clock ≡ signal_net st p.clock 0
  unfolding memory_port_of port_lists
  clock_is rest =
      let W : List ℕ = length ra ∷ length rd ∷ length wa ∷ length wd ∷ (ra ++ (rd ++ (wa ++ (wd ++ tail rest)))) in
      let n = 4 + (length ra + length rd + length wa + length wd) + 4 in
      let e : n ≡ 4 + (length ra + (length rd + (length wa + (length wd + 4)))) = omega arith in
      ap (λ (z : List ℕ). get_or z n 0) (written rest) ∙ ap (λ (z : ℕ). get_or W z 0) e ∙ sym (get_or-drop 4 W (length ra + (length rd + (length wa + (length wd + 4)))) 0)
      ∙ get_or-append-add ra (rd ++ (wa ++ (wd ++ tail rest))) (length rd + (length wa + (length wd + 4))) 0 ∙ get_or-append-add rd (wa ++ (wd ++ tail rest)) (length wa + (length wd + 4)) 0
      ∙ get_or-append-add wa (wd ++ tail rest) (length wd + 4) 0 ∙ get_or-append-add wd (tail rest) 4 0
      ∙ fourth (option_control st p.read_enable) _ _ (signal_net st p.clock 0) (low_word p.rising) rest

  pub data_long : (rest : List ℕ) → length (memory_port_of (port_words m st p ++ rest)).read_data ≡ signal_width m p.read_data
  unfolding memory_port_of
  data_long rest =
      let n = words_long in
      let k = length-append (port_words m st p) rest in
      let d = length-drop (4 + length ra) (port_words m st p ++ rest) in
      let t = length-take (length rd) (drop (4 + length ra) (port_words m st p ++ rest)) in
      let w = nets_length st p.read_data 0 (signal_width m p.read_data) in
      omega arith

-- ---- the record ----

module _ (m : Module) (st : State) (k : ℕ) (x : Memory) where
  abbrev pub memory_words : Option Port → List ℕ
  memory_words o = 2 ∷ k ∷ x.depth ∷ x.style ∷ 1 ∷ ports_words m st x.first o

  -- what the words of memory x, with this second port, say
  pub record Says (o : Option Port) : Type 0 where
    pub first : (memory_of (memory_words o)).first.clock ≡ signal_net st x.first.clock 0
    pub second : (p : MemoryPort) → (memory_of (memory_words o)).second ≡ some p → (q : Port) × (o ≡ some q) × (p.clock ≡ signal_net st q.clock 0)
    pub bits : (memory_of (memory_words o)).depth * length (memory_of (memory_words o)).first.read_data ≡ x.depth * signal_width m x.first.read_data

  says_one : Says none
  unfolding memory_of
  says_one =
      let w = port_words m st x.first in
      record {
        first = ap (λ (z : List ℕ). (memory_port_of z).clock) (sym (append-nil w)) ∙ clock_is m st x.first [];
        second = λ p e. absurd (none_some (sym (pick_no (1 ≡? 2) _ _ (eq_no 1 2 (λ z. absurd (omega arith)))) ∙ e));
        bits = ap (λ (n : ℕ). x.depth * n) (ap (λ (z : List ℕ). length (memory_port_of z).read_data) (sym (append-nil w)) ∙ data_long m st x.first []);
      }

  says_two : (q : Port) → Says (some q)
  unfolding memory_of
  says_two q =
      let a = port_words m st x.first in
      let b = port_words m st q in
      let r : List ℕ = memory_words (some q) in
      let n = port_long m st x.first b in
      let back : drop (6 + port_length (a ++ b)) r ≡ b = sym (drop-drop (port_length (a ++ b)) 6 r) ∙ drop_at a b (port_length (a ++ b)) (sym n) in
      record {
        first = clock_is m st x.first b;
        second = λ p e.
            let f : memory_port_of (drop (6 + port_length (a ++ b)) r) ≡ p = some_eq (sym (pick_yes (2 ≡? 2) (some (memory_port_of (drop (6 + port_length (a ++ b)) r))) none (eq_yes 2 2 refl)) ∙ e) in
            (q, refl, ap (λ (y : MemoryPort). y.clock) (sym f) ∙ ap (λ (z : List ℕ). (memory_port_of z).clock) (back ∙ sym (append-nil b)) ∙ clock_is m st q []);
        bits = ap (λ (n : ℕ). x.depth * n) (data_long m st x.first b);
      }

  pub says : (o : Option Port) → Says o
  says none = says_one
  says (some q) = says_two q
