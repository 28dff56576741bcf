-- What each way through the functions gives, from what their calls give. Assumes nothing.
use Rattle.std.specs.Prelude as code
use mathlib.Core.Path.{◌≡◌, refl, sym, ap, ap₂, ◌∙◌, subst}
use mathlib.Core.Bool.{true}
use mathlib.Core.List.{List, [], ◌∷◌, ◌++◌, append_assoc}
use mathlib.Core.Option.{Option, none, some}
use Prim.Native.Nat.{ℕ, ◌+◌, ◌≤◌, ◌<◌}
use native.Mathlib.Omega.{arith}
use lib.ListN.{length, get_or}
use lib.Seq.{paste}
use Rattle.std.proofs.Common.{length-append}
use Rattle.spec_rtl.specs.Rtl as R
use Rattle.spec_rtl.specs.Rtl.{Module}
use Rattle.spec_rules.specs.Image.{count_at_of, signal_width, expr_width, decode}
use Rattle.spec_model.specs.Words.{Netlist, low_word, bit_word, control_words}
use Rattle.spec_model.specs.Lowering as M
use Rattle.spec_model.specs.Lowering.{State, signal_net, signal_nets, whole_nets, net_control, option_control, port_words, ports_words}
use Rattle.net_view.specs.View.{Formed}
use Rattle.net_view.specs.Formed.{Ported, formed_memory, formed_memory₂}
use Rattle.law_records.specs.Back.{words_of, ported}
use Rattle.law_phases.specs.Pushed.{nets_length}
use Rattle.scratch_view.specs.View.{limit_of, is_whole, state_of, Laid}
use Rattle.scratch_view.specs.Bounds.{signal_width_law, whole_range, whole_long}
use Rattle.image_records.specs.declared.MemoryPort.{MemoryPort}
use Rattle.image_records.specs.declared.Memory.{Memory}
use Rattle.image_records.specs.Others.{port_means, second_means, memory_means}
use Rattle.phase_memory_records.specs.Puts.{Puts, puts_paste, puts_as}
use Rattle.phase_memory_records.specs.Memories.{memory_words, PortThere, SecondThere, MemoryThere, PortWhole, SecondWhole, MemoryWhole, read_nets, write_nets, net_words, tail_words}

-- ---- the code's second port ----

-- the words before the ports, of which there are n
abbrev pub head : ℕ → Memory → ℕ → List ℕ
head k x n = 2 ∷ k ∷ x.depth ∷ x.style ∷ 1 ∷ n ∷ []

module _ (x : Memory) (p : MemoryPort) (q : x.second ≡ code.Some p) where
  second_is : (memory_means x).second ≡ some (port_means p)
  unfolding memory_means second_means
  second_is = ap second_means q

  pub there_second : (s : List ℕ) → MemoryThere s (memory_means x) → PortThere s (port_means p)
  there_second s h = subst (SecondThere s) second_is h.second

  pub whole_second : (s w : List ℕ) → MemoryWhole s w (memory_means x) → PortWhole s w (port_means p)
  whole_second s w h = subst (SecondWhole s w) second_is h.second

  pub words_two : (m : Module) (k b : ℕ) (st : State) → b ≡ bit_word (code.is_some x.second)
      → (head k x (1 + b) ++ port_words m st (port_means x.first)) ++ port_words m st (port_means p) ≡ memory_words m k (memory_means x) st
  unfolding memory_means
  words_two m k b st e = rw (e, ap code.is_some q) (ap (λ (o : Option R.Port). 2 ∷ k ∷ x.depth ∷ x.style ∷ 1 ∷ ports_words m st (port_means x.first) o) (sym second_is))

module _ (x : Memory) where
  pub words_one : x.second ≡ code.None → (m : Module) (k b : ℕ) (st : State) → b ≡ bit_word (code.is_some x.second)
      → head k x (1 + b) ++ port_words m st (port_means x.first) ≡ memory_words m k (memory_means x) st
  unfolding memory_means second_means
  words_one q m k b st e = rw (e, q)

  pub there_first : (s : List ℕ) → MemoryThere s (memory_means x) → PortThere s (port_means x.first)
  unfolding memory_means
  there_first s h = h.first

  pub whole_first : (s w : List ℕ) → MemoryWhole s w (memory_means x) → PortWhole s w (port_means x.first)
  unfolding memory_means
  whole_first s w h = h.first

-- ---- the record's words ----

module _ (s w : List ℕ) (l : Netlist) where
  pub expr_put : (e : ℕ) → Laid s w → e < count_at_of s 1 → is_whole s (limit_of w) w e ≡ true → (out : List ℕ) (r n : ℕ) (out' : List ℕ) → n ≡ expr_width s e → expr_width s e ≤ length out
      → r ≡ n → out' ≡ paste out 0 (M.range_nets (state_of s l w) e 0 n) n → Puts (whole_nets (state_of s l w) e) r out'
  expr_put e h u t out r n out' en fits er q =
      puts_paste (whole_nets (state_of s l w) e) out (expr_width s e) r out' fits (whole_long s w l e h u t) (omega arith)
      (q ∙ ap (λ (k : ℕ). paste out 0 (M.range_nets (state_of s l w) e 0 k) k) en ∙ ap (λ (xs : List ℕ). paste out 0 xs (expr_width s e)) (sym (whole_range s w l e h u t)))

  pub signal_put : (p : ℕ) → p < count_at_of s 0 → (out : List ℕ) (r n : ℕ) (out' : List ℕ) → n ≡ signal_width s p → signal_width s p ≤ length out
      → r ≡ n → out' ≡ paste out 0 (signal_nets (state_of s l w) p 0 n) n → Puts (signal_nets (state_of s l w) p 0 (M.signal_width (decode s) p)) r out'
  signal_put p u out r n out' en fits er q =
      let z : n ≡ M.signal_width (decode s) p = en ∙ sym (signal_width_law s p u) in
      puts_as (ap (signal_nets (state_of s l w) p 0) z) (puts_paste (signal_nets (state_of s l w) p 0 n) out n r out' (omega arith) (nets_length (state_of s l w) p 0 n) er q)

pub widths_are : (s w : List ℕ) (l : Netlist) (p : R.Port) (a b c d : ℕ) → Laid s w → PortThere s p → PortWhole s w p → a ≡ expr_width s p.read_address → b ≡ signal_width s p.read_data
    → c ≡ expr_width s p.write_address → d ≡ expr_width s p.write_data → let st = state_of s l w in
    a ∷ b ∷ c ∷ d ∷ [] ≡ length (whole_nets st p.read_address) ∷ length (signal_nets st p.read_data 0 (M.signal_width (decode s) p.read_data)) ∷ length (whole_nets st p.write_address)
    ∷ length (whole_nets st p.write_data) ∷ []
widths_are s w l p a b c d h t q ea eb ec ed =
    let ra = whole_long s w l p.read_address h t.read_address.there q.read_address in
    let rd = nets_length (state_of s l w) p.read_data 0 (M.signal_width (decode s) p.read_data) ∙ signal_width_law s p.read_data t.read_data in
    let wa = whole_long s w l p.write_address h t.write_address.there q.write_address in
    let wd = whole_long s w l p.write_data h t.write_data q.write_data in
    λ i. (ea ∙ sym ra) i ∷ (eb ∙ sym rd) i ∷ (ec ∙ sym wa) i ∷ (ed ∙ sym wd) i ∷ []

pub nets_are : (m : Module) (st : State) (p : R.Port) (ws : List ℕ)
    → ws ≡ length (whole_nets st p.read_address) ∷ length (signal_nets st p.read_data 0 (M.signal_width m p.read_data)) ∷ length (whole_nets st p.write_address) ∷ length (whole_nets st p.write_data) ∷ []
    → (ws ++ read_nets m st p) ++ write_nets st p ≡ net_words m st p
nets_are m st p ws e = rw e
    (ap (λ (t : List ℕ). length (whole_nets st p.read_address) ∷ length (signal_nets st p.read_data 0 (M.signal_width m p.read_data)) ∷ length (whole_nets st p.write_address) ∷ length (whole_nets st p.write_data) ∷ t)
    (sym (append_assoc (read_nets m st p) (whole_nets st p.write_address) (whole_nets st p.write_data))))

pub tail_are : (st : State) (p : R.Port) (a b c d e f : ℕ) → control_words (option_control st p.read_enable) ≡ a ∷ b ∷ [] → control_words (some (net_control st p.write_enable)) ≡ c ∷ d ∷ []
    → e ≡ signal_net st p.clock 0 → f ≡ low_word p.rising → a ∷ b ∷ c ∷ d ∷ e ∷ f ∷ [] ≡ tail_words st p
tail_are st p a b c d e f x y z u = sym (ap₂ (λ (v t : List ℕ). v ++ t ++ (signal_net st p.clock 0 ∷ low_word p.rising ∷ [])) x y ∙ λ i. a ∷ b ∷ c ∷ d ∷ sym z i ∷ sym u i ∷ [])

two_long : (o : Option R.Control) → length (control_words o) ≡ 2
two_long none = refl
two_long (some c) = refl

pub tail_long : (st : State) (p : R.Port) → 6 ≡ length (tail_words st p)
tail_long st p =
    let read = control_words (option_control st p.read_enable) in
    let write = control_words (some (net_control st p.write_enable)) in
    omega (arith, two_long (option_control st p.read_enable), length-append (read ++ write) (signal_net st p.clock 0 ∷ low_word p.rising ∷ []), length-append read write)

pub port_parts : (m : Module) (st : State) (p : R.Port) → net_words m st p ++ tail_words st p ≡ port_words m st p
port_parts m st p =
    let read = control_words (option_control st p.read_enable) in
    let write = control_words (some (net_control st p.write_enable)) in
    let clock : List ℕ = signal_net st p.clock 0 ∷ low_word p.rising ∷ [] in
    sym (append_assoc (net_words m st p) (read ++ write) clock) ∙ ap (λ (t : List ℕ). t ++ clock) (sym (append_assoc (net_words m st p) read write))

abbrev words_in : Module → State → R.Port → List ℕ
words_in m st p =
    words_of (whole_nets st p.read_address) (signal_nets st p.read_data 0 (M.signal_width m p.read_data)) (whole_nets st p.write_address) (whole_nets st p.write_data)
    (option_control st p.read_enable) (net_control st p.write_enable) (signal_net st p.clock 0) p.rising

words_in_law : (m : Module) (st : State) (p : R.Port) → words_in m st p ≡ port_words m st p
words_in_law m st p = sym (simp append_assoc)

port_ported : (m : Module) (st : State) (p : R.Port) → Ported (words_in m st p)
port_ported m st p =
    ported (whole_nets st p.read_address) (signal_nets st p.read_data 0 (M.signal_width m p.read_data)) (whole_nets st p.write_address) (whole_nets st p.write_data)
    (option_control st p.read_enable) (net_control st p.write_enable) (signal_net st p.clock 0) p.rising

memory_formed : (m : Module) (k : ℕ) (x : R.Memory) (st : State) → Formed (memory_words m k x st)
memory_formed m k x st = go x.second
  where
    go : (o : Option R.Port) → Formed (2 ∷ k ∷ x.depth ∷ x.style ∷ 1 ∷ ports_words m st x.first o)
    go none = subst Formed (ap (λ (a : List ℕ). 2 ∷ k ∷ x.depth ∷ x.style ∷ 1 ∷ 1 ∷ a) (words_in_law m st x.first))
        (formed_memory k x.depth x.style 1 (words_in m st x.first) (port_ported m st x.first))
    go (some q) = subst Formed (ap₂ (λ (a b : List ℕ). 2 ∷ k ∷ x.depth ∷ x.style ∷ 1 ∷ 2 ∷ (a ++ b)) (words_in_law m st x.first) (words_in_law m st q))
        (formed_memory₂ k x.depth x.style 1 (words_in m st x.first) (words_in m st q) (port_ported m st x.first) (port_ported m st q))

-- a record that may be pushed
pub record_good : (m : Module) (k : ℕ) (x : R.Memory) (st : State) (ws : List ℕ) → ws ≡ memory_words m k x st → Formed ws × (0 < get_or ws 0 0) × (get_or ws 0 0 < 3)
record_good m k x st ws e = rw e (memory_formed m k x st, omega arith, omega arith)
