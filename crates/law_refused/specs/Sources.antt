-- `reserve_sources`: after it the bits of inputs, register targets and read data have nets, and no others; it refuses for want of room only.
-- Assumes nothing.
use Rattle.std.specs.Prelude.{◌≡◌, refl, Bool, true, false, cond, ◌&&◌, eqb, leb, ltb, length, set}
use Rattle.std.proofs.Common.{sym, subst, ◌∙◌, zero-add, not-suc-le-zero, le_of_suc-le-suc, get_or-set_other, eqb-true}
use Rattle.std.proofs.Math.Path.{ap}
use mathlib.Core.List.{List, [], ◌∷◌, ◌++◌, map}
use Rattle.std.proofs.Math.Option.{Option, none, some}
use Prim.Native.Nat.{ℕ, zero, suc, ◌+◌, ◌-◌, ◌<◌}
use Rattle.std.proofs.Math.Decide.{ℕ_discrete}
use native.Mathlib.Omega.{arith}
use Rattle.std.proofs.Math.ListN.{get_or, get_elem?, length-set}
use Rattle.std.proofs.lemmas.List.{length-map}
use Rattle.std.proofs.Math.Seq.{get_or-set_same}
use Rattle.spec_rtl.specs.Rtl as R
use Rattle.spec_rtl.specs.Rtl.{Module, Sig, Dir, Register, Memory, Port, Driver, driver, dir_of, by_dir, by_register_of, by_memory, by_assign, of_port}
use Rattle.spec_model.specs.Words.{Node, Netlist, source}
use Rattle.spec_model.specs.Builder.{Out, refused, done, and_then, Made, add_node, push, each, from, add_nodes, add_recorded, add_input_port}
use Rattle.spec_model.specs.Lowering.{State, cell, with_netlist, set_signal, signal_width, start, reserve, reserve_input, reserve_inputs, reserve_bits, reserve_registers, reserve_second, reserve_memories, reserve_sources}
use Rattle.law_nets.specs.Run.{Meets, meets_bind, meets_map, Limit}
use Rattle.law_walk.specs.Tables.{none_some, Has, has_some}
use Rattle.law_walk.specs.Good.{Good}
use Rattle.law_needs.specs.Room.{Roomy, refused_by_law, node_room, push_room}
use Rattle.law_needs.specs.Inside.{Inside, is_source, Sourced}
use Rattle.law_phases.specs.Drivers.{input_driver, register_driver, first_driver, second_driver}
use Rattle.law_phases.specs.Sources.{inside, got, blank}

-- ---- lists of nets made ----

-- refused for want of room, or w nets
abbrev Nets : ℕ → Made (List ℕ) → Type 0
Nets w o = Meets Limit (λ (r : List ℕ × Netlist). length r.0 ≡ w) o

one_room : {A : Type 0} {o : Out A} → Roomy o → Meets Limit (λ (a : A). Unit {0}) o
one_room {A} {o} r = go o r
  where
    go : (o : Out A) → Roomy o → Meets Limit (λ (a : A). Unit {0}) o
    go (refused c x y) r = refused_by_law r c x y refl
    go (done a) r = tt

each_nets : {A : Type 0} (f : A → Netlist → Made ℕ) → ((x : A) (l : Netlist) → Roomy (f x l)) → (xs : List A) (l : Netlist) → Nets (length xs) (each f xs l)
unfolding each
each_nets f h [] l = refl
each_nets f h (x ∷ xs) l =
    meets_bind Limit (λ (r : ℕ × Netlist). Unit {0}) (λ (r : List ℕ × Netlist). length r.0 ≡ suc (length xs)) (f x l) _ (one_room (h x l)) (λ r _.
    meets_bind Limit (λ (q : List ℕ × Netlist). length q.0 ≡ length xs) (λ (q : List ℕ × Netlist). length q.0 ≡ suc (length xs)) (each f xs r.1) _ (each_nets f h xs r.1) (λ q e. ap suc e))

from_length : (b w : ℕ) → length (from b w) ≡ w
unfolding from
from_length b zero = refl
from_length b (suc w) = ap suc (from_length (suc b) w)

nodes_nets : (x : ℕ → Node) (b w : ℕ) (l : Netlist) → Nets w (add_nodes x b w l)
unfolding add_nodes
nodes_nets x b w l = subst (λ (k : ℕ). Nets k (each (λ i. add_node (x i)) (from b w) l)) (from_length b w) (each_nets (λ i. add_node (x i)) (λ i l. node_room (x i) l) (from b w) l)

recorded_nets : (r : List ℕ) (w : ℕ) (o : Made (List ℕ)) → Nets w o → Nets w (add_recorded r o)
unfolding add_recorded
recorded_nets r w o h =
    meets_bind Limit (λ (q : List ℕ × Netlist). length q.0 ≡ w) (λ (q : List ℕ × Netlist). length q.0 ≡ w) o _ h (λ q e.
    meets_bind Limit (λ (l : Netlist). Unit {0}) (λ (q : List ℕ × Netlist). length q.0 ≡ w) (push (r ++ q.0) q.1) _ (one_room (push_room (r ++ q.0) q.1)) (λ l _. e))

input_nets_law : (s w : ℕ) (l : Netlist) → Nets w (add_input_port s w l)
unfolding add_input_port
input_nets_law s w l = recorded_nets (0 ∷ s ∷ w ∷ []) w (add_nodes (source 0 s) 0 w l) (nodes_nets (source 0 s) 0 w l)

-- ---- rows of the table ----

some_row : (ns : List ℕ) (b : ℕ) → b < length ns → Has (get_or (map some ns) b none)
some_row [] b h = absurd (not-suc-le-zero h)
some_row (n ∷ ns) zero h = has_some n
some_row (n ∷ ns) (suc b) h = some_row ns b (le_of_suc-le-suc h)

-- all bits of signal p have nets
abbrev pub Full : Module → State → ℕ → Type 0
Full m st p = (b : ℕ) → Inside m (p, b) → Has (cell none st.signal_bits p b)

pub record Reserving (m : Module) (st : State) : Type 0 where
  pub rows : length st.signal_bits ≡ length m.signals
  -- what has a net is a source
  pub only : (p b n : ℕ) → cell none st.signal_bits p b ≡ some n → is_source (driver m p b) ≡ true

-- a phase that started at st: what was full stays so, and Q holds
pub record Reserves (m : Module) (st : State) (Q : State → Type 0) (st' : State) : Type 0 where
  pub reserving : Reserving m st'
  pub stays : (p : ℕ) → Full m st p → Full m st' p
  pub post : Q st'

module _ (m : Module) where
  row_set : (st : State) (l : Netlist) (s : ℕ) (ns : List ℕ) → Reserving m st → s < length m.signals → length ns ≡ signal_width m s
      → ((b : ℕ) → is_source (driver m s b) ≡ true) → Reserves m st (λ st'. Full m st' s) (set_signal (with_netlist st l) s ns)
  unfolding set_signal
  row_set st l s ns i h w d = record {
    reserving = record { rows = length-set st.signal_bits s (map some ns) ∙ i.rows; only = λ p b n e. only p b n e (ℕ_discrete p s) };
    stays = λ p f b k. stay p f b k (ℕ_discrete p s);
    post = here;
  }
    where
      same : get_or (set st.signal_bits s (map some ns)) s [] ≡ map some ns
      same = get_or-set_same st.signal_bits s (map some ns) [] (omega (arith, i.rows))

      here : (b : ℕ) → b < signal_width m s → Has (get_or (get_or (set st.signal_bits s (map some ns)) s []) b none)
      here b k = rw same (some_row ns b (omega arith))

      only : (p b n : ℕ) → cell none (set st.signal_bits s (map some ns)) p b ≡ some n → Dec (p ≡ s) → is_source (driver m p b) ≡ true
      only p b n e (yes q) = subst (λ (x : ℕ). is_source (driver m x b) ≡ true) (sym q) (d b)
      only p b n e (no q) = i.only p b n (sym (ap (λ (r : List (Option ℕ)). get_or r b none) (get_or-set_other st.signal_bits s p (map some ns) [] q)) ∙ e)

      stay : (p : ℕ) → Full m st p → (b : ℕ) → b < signal_width m p → Dec (p ≡ s) → Has (cell none (set st.signal_bits s (map some ns)) p b)
      stay p f b k (yes q) = subst (λ (x : ℕ). b < signal_width m x → Has (cell none (set st.signal_bits s (map some ns)) x b)) (sym q) (here b) k
      stay p f b k (no q) =
          let z = f b k in
          record { value = z.value; is = ap (λ (r : List (Option ℕ)). get_or r b none) (get_or-set_other st.signal_bits s p (map some ns) [] q) ∙ z.is }

  row_reserved : (st : State) (s : ℕ) → Reserving m st → s < length m.signals → ((b : ℕ) → is_source (driver m s b) ≡ true) → (o : Made (List ℕ)) → Nets (signal_width m s) o
      → Meets Limit (Reserves m st (λ st'. Full m st' s)) (reserve st s o)
  row_reserved st s i h d (refused c x y) w = w
  row_reserved st s i h d (done r) w = row_set st r.1 s r.0 i h w d

  then : {P Q : State → Type 0} (st : State) (o : Out State) (k : State → Out State) → Meets Limit (Reserves m st P) o
      → ((st₁ : State) → Reserves m st P st₁ → Meets Limit (Reserves m st₁ Q) (k st₁)) → ((st₁ st₂ : State) → Reserves m st₁ Q st₂ → P st₁ → P st₂)
      → Meets Limit (Reserves m st (λ st'. P st' × Q st')) (and_then o k)
  then st (refused c x y) k w f g = w
  then {P} {Q} st (done st₁) k w f g = meets_map Limit Limit (Reserves m st₁ Q) (Reserves m st (λ st'. P st' × Q st')) (k st₁) (f st₁ w) (λ n x y h. h)
      (λ st₂ r. record { reserving = r.reserving; stays = λ p z. r.stays p (w.stays p z); post = (g st₁ st₂ r w.post, r.post) })

  -- the same with another claim
  told : (P Q : State → Type 0) (st : State) (o : Out State) → Meets Limit (Reserves m st P) o → ((st' : State) → P st' → Q st') → Meets Limit (Reserves m st Q) o
  told P Q st (refused c x y) w f = w
  told P Q st (done st') w f = record { reserving = w.reserving; stays = w.stays; post = f st' w.post }

  -- ---- inputs ----

  abbrev InputsFull : ℕ → List Sig → State → Type 0
  InputsFull s xs st = (j : ℕ) (x : Sig) → get_elem? xs j ≡ some x → x.dir ≡ R.Input → Full m st (s + j)

  inputs_run : (s : ℕ) (xs : List Sig) → ((j : ℕ) (x : Sig) → get_elem? xs j ≡ some x → get_elem? m.signals (s + j) ≡ some x) → (st : State) → Reserving m st
      → Meets Limit (Reserves m st (InputsFull s xs)) (reserve_inputs s xs st)
  unfolding reserve_inputs
  inputs_run s [] f st i = record { reserving = i; stays = λ p z. z; post = λ j x e. absurd (none_some e) }
  inputs_run s (x ∷ xs) f st i =
      told (λ st'. (x.dir ≡ R.Input → Full m st' s) × InputsFull (suc s) xs st') (InputsFull s (x ∷ xs)) st
      (and_then (reserve_input x.dir s x.width st) (λ st₁. reserve_inputs (suc s) xs st₁))
      (then {P = λ st'. x.dir ≡ R.Input → Full m st' s} {Q = InputsFull (suc s) xs} st (reserve_input x.dir s x.width st) _ (one x.dir refl)
      (λ st₁ r. inputs_run (suc s) xs (λ j y e. let z : s + suc j ≡ suc s + j = omega arith in rw z at (f (suc j) y e)) st₁ r.reserving)
      (λ st₁ st₂ r h d. r.stays s (h d))) all
    where
      at : get_elem? m.signals s ≡ some x
      at = let z : s + 0 ≡ s = omega arith in rw z at (f 0 x refl)

      is : get_or m.signals s (record { width = 0; dir = R.Internal }) ≡ x
      is = got m.signals s x (record { width = 0; dir = R.Internal }) at

      one : (d : Dir) → x.dir ≡ d → Meets Limit (Reserves m st (λ st'. x.dir ≡ R.Input → Full m st' s)) (reserve_input d s x.width st)
      one R.Internal e = record { reserving = i; stays = λ p z. z; post = λ q. let y : ◌≡◌ {A = ℕ} 0 1 = cc in absurd (omega arith) }
      one R.Output e = record { reserving = i; stays = λ p z. z; post = λ q. let y : ◌≡◌ {A = ℕ} 0 1 = cc in absurd (omega arith) }
      one R.Input e =
          let w : x.width ≡ signal_width m s = sym (ap (λ (y : Sig). y.width) is) in
          told (λ st'. Full m st' s) (λ st'. x.dir ≡ R.Input → Full m st' s) st (reserve st s (add_input_port s x.width st.netlist))
          (row_reserved st s i (inside m.signals s x at) (λ b. ap is_source (input_driver m s b (ap (λ (y : Sig). y.dir) is ∙ e))) (add_input_port s x.width st.netlist)
          (subst (λ (k : ℕ). Nets k (add_input_port s x.width st.netlist)) w (input_nets_law s x.width st.netlist))) (λ st' h q. h)

      all : (st' : State) → (x.dir ≡ R.Input → Full m st' s) × InputsFull (suc s) xs st' → InputsFull s (x ∷ xs) st'
      all st' h zero y e d =
          let q : x ≡ y = cc in
          let z : s + 0 ≡ s = omega arith in
          subst (Full m st') (sym z) (h.0 (ap (λ (u : Sig). u.dir) q ∙ d))
      all st' h (suc j) y e d = let z : s + suc j ≡ suc s + j = omega arith in subst (Full m st') (sym z) (h.1 j y e d)

  -- ---- registers ----

  bits_run : (kind owner b s : ℕ) (st : State) → Reserving m st → s < length m.signals → ((b : ℕ) → is_source (driver m s b) ≡ true)
      → Meets Limit (Reserves m st (λ st'. Full m st' s)) (reserve_bits m kind owner b s st)
  bits_run kind owner b s st i h d = row_reserved st s i h d (add_nodes (source kind owner) b (signal_width m s) st.netlist) (nodes_nets (source kind owner) b (signal_width m s) st.netlist)

  module _ (good : Good m) where
    abbrev TargetsFull : List Register → State → Type 0
    TargetsFull rs st = (j : ℕ) (r : Register) → get_elem? rs j ≡ some r → Full m st r.target

    registers_run : (k : ℕ) (rs : List Register) → ((j : ℕ) (r : Register) → get_elem? rs j ≡ some r → get_elem? m.registers (k + j) ≡ some r) → (st : State) → Reserving m st
        → Meets Limit (Reserves m st (TargetsFull rs)) (reserve_registers m k rs st)
    unfolding reserve_registers
    registers_run k [] f st i = record { reserving = i; stays = λ p z. z; post = λ j x e. absurd (none_some e) }
    registers_run k (r ∷ rs) f st i =
        told (λ st'. Full m st' r.target × TargetsFull rs st') (TargetsFull (r ∷ rs)) st (and_then (reserve_bits m 7 k 0 r.target st) (λ st₁. reserve_registers m (suc k) rs st₁))
        (then {P = λ st'. Full m st' r.target} {Q = TargetsFull rs} st (reserve_bits m 7 k 0 r.target st) _
        (bits_run 7 k 0 r.target st i (good.registers k r at).inside (λ b. ap is_source (register_driver m good k r b at)))
        (λ st₁ q. registers_run (suc k) rs (λ j y e. let z : k + suc j ≡ suc k + j = omega arith in rw z at (f (suc j) y e)) st₁ q.reserving)
        (λ st₁ st₂ q h. q.stays r.target h)) all
      where
        at : get_elem? m.registers k ≡ some r
        at = let z : k + 0 ≡ k = omega arith in rw z at (f 0 r refl)

        all : (st' : State) → Full m st' r.target × TargetsFull rs st' → TargetsFull (r ∷ rs) st'
        all st' h zero y e = let q : r ≡ y = cc in subst (λ (u : Register). Full m st' u.target) q h.0
        all st' h (suc j) y e = h.1 j y e

    -- ---- memories ----

    abbrev SecondFull : Option Port → State → Type 0
    SecondFull none st = Unit {0}
    SecondFull (some p) st = Full m st p.read_data

    abbrev DataFull : List Memory → State → Type 0
    DataFull xs st = (j : ℕ) (x : Memory) → get_elem? xs j ≡ some x → Full m st x.first.read_data × SecondFull x.second st

    memories_run : (k : ℕ) (xs : List Memory) → ((j : ℕ) (x : Memory) → get_elem? xs j ≡ some x → get_elem? m.memories (k + j) ≡ some x) → (st : State) → Reserving m st
        → Meets Limit (Reserves m st (DataFull xs)) (reserve_memories m k xs st)
    unfolding reserve_memories
    memories_run k [] f st i = record { reserving = i; stays = λ p z. z; post = λ j x e. absurd (none_some e) }
    memories_run k (x ∷ xs) f st i =
        told (λ st'. Full m st' x.first.read_data × (SecondFull x.second st' × DataFull xs st')) (DataFull (x ∷ xs)) st
        (and_then (reserve_bits m 9 k 0 x.first.read_data st) (λ st₁.
        and_then (reserve_second m k (signal_width m x.first.read_data) x.second st₁) (λ st₂. reserve_memories m (suc k) xs st₂)))
        (then {P = λ st'. Full m st' x.first.read_data} {Q = λ st'. SecondFull x.second st' × DataFull xs st'} st (reserve_bits m 9 k 0 x.first.read_data st) _
        (bits_run 9 k 0 x.first.read_data st i (good.memories k x at).first.inside (λ b. ap is_source (first_driver m good k x b at)))
        (λ st₁ q. then {P = SecondFull x.second} {Q = DataFull xs} st₁ (reserve_second m k (signal_width m x.first.read_data) x.second st₁) _
        (second st₁ q.reserving x.second refl)
        (λ st₂ r. memories_run (suc k) xs (λ j y e. let z : k + suc j ≡ suc k + j = omega arith in rw z at (f (suc j) y e)) st₂ r.reserving)
        (λ st₂ st₃ r h. second_stays x.second st₂ st₃ r.stays h))
        (λ st₁ st₂ q h. q.stays x.first.read_data h)) all
      where
        at : get_elem? m.memories k ≡ some x
        at = let z : k + 0 ≡ k = omega arith in rw z at (f 0 x refl)

        second_stays : (o : Option Port) (st₂ st₃ : State) → ((p : ℕ) → Full m st₂ p → Full m st₃ p) → SecondFull o st₂ → SecondFull o st₃
        second_stays none st₂ st₃ g h = tt
        second_stays (some p) st₂ st₃ g h = g p.read_data h

        second : (st₁ : State) → Reserving m st₁ → (o : Option Port) → x.second ≡ o → Meets Limit (Reserves m st₁ (SecondFull o)) (reserve_second m k (signal_width m x.first.read_data) o st₁)
        second st₁ i₁ none e = record { reserving = i₁; stays = λ p z. z; post = tt }
        second st₁ i₁ (some p) e =
            bits_run 9 k (signal_width m x.first.read_data) p.read_data st₁ i₁ ((good.memories k x at).second p e).inside (λ b. ap is_source (second_driver m good k x p b at e))

        all : (st' : State) → Full m st' x.first.read_data × (SecondFull x.second st' × DataFull xs st') → DataFull (x ∷ xs) st'
        all st' h zero y e = let q : x ≡ y = cc in subst (λ (u : Memory). Full m st' u.first.read_data × SecondFull u.second st') q (h.0, h.1.0)
        all st' h (suc j) y e = h.1.1 j y e

-- ---- whatever is driven by a source has its nets ----

abbrev Source : Driver → Type 0
Source d = is_source d ≡ true

no_source : {A : Type 0} → ◌≡◌ {A = Bool} false true → A
no_source e = let z : ◌≡◌ {A = ℕ} 0 1 = cc in absurd (omega arith)

input_at_law : (xs : List Sig) (s : ℕ) → (get_or xs s (record { width = 0; dir = R.Internal })).dir ≡ R.Input → (x : Sig) × (get_elem? xs s ≡ some x) × (x.dir ≡ R.Input)
input_at_law [] s e = let z : ◌≡◌ {A = ℕ} 0 1 = cc in absurd (omega arith)
input_at_law (x ∷ xs) zero e = (x, refl, e)
input_at_law (x ∷ xs) (suc s) e = input_at_law xs s e

module _ (F : ℕ → Type 0) (s b : ℕ) where
  by_assign_law : (xs : List R.Assign) → is_source (by_assign xs s b) ≡ false
  by_assign_law [] = refl
  by_assign_law (a ∷ xs) = go (eqb a.signal s && leb a.lsb b && ltb b (a.lsb + a.width)) (by_assign_law xs)
    where
      go : (t : Bool) → is_source (by_assign xs s b) ≡ false → is_source (cond t (R.FromExpr a.value (b - a.lsb)) (by_assign xs s b)) ≡ false
      go true r = refl
      go false r = r

  by_memory_law : (k : ℕ) (xs : List Memory) (d : Driver) → ((j : ℕ) (x : Memory) → get_elem? xs j ≡ some x → x.first.read_data ≡ s → F s)
      → ((j : ℕ) (x : Memory) (q : Port) → get_elem? xs j ≡ some x → x.second ≡ some q → q.read_data ≡ s → F s) → (Source d → F s) → Source (by_memory k xs s d) → F s
  by_memory_law k [] d f g h e = h e
  by_memory_law k (x ∷ xs) d f g h e =
      go (eqb x.first.read_data s) refl x.second refl (by_memory_law (suc k) xs d (λ j y q. f (suc j) y q) (λ j y p q. g (suc j) y p q) h) e
    where
      second : (q : Port) → x.second ≡ some q → (t : Bool) → eqb q.read_data s ≡ t → (Source (by_memory (suc k) xs s d) → F s)
          → Source (cond t (R.FromData k true) (by_memory (suc k) xs s d)) → F s
      second q z true t r e = g 0 x q refl z (eqb-true q.read_data s t)
      second q z false t r e = r e

      go : (t : Bool) → eqb x.first.read_data s ≡ t → (o : Option Port) → x.second ≡ o → (Source (by_memory (suc k) xs s d) → F s)
          → Source (cond t (R.FromData k false) (cond (of_port o s) (R.FromData k true) (by_memory (suc k) xs s d))) → F s
      go true t o z r e = f 0 x refl (eqb-true x.first.read_data s t)
      go false t none z r e = r e
      go false t (some q) z r e = second q z (eqb q.read_data s) refl r e

  by_register : (k : ℕ) (rs : List Register) (d : Driver) → ((j : ℕ) (r : Register) → get_elem? rs j ≡ some r → r.target ≡ s → F s) → (Source d → F s)
      → Source (by_register_of k rs s d) → F s
  by_register k [] d f h e = h e
  by_register k (r ∷ rs) d f h e = go (eqb r.target s) refl (by_register (suc k) rs d (λ j y q. f (suc j) y q) h) e
    where
      go : (t : Bool) → eqb r.target s ≡ t → (Source (by_register_of (suc k) rs s d) → F s) → Source (cond t (R.FromRegister k) (by_register_of (suc k) rs s d)) → F s
      go true t q e = f 0 r refl (eqb-true r.target s t)
      go false t q e = q e

  by_dir_law : (x : Dir) (d : Driver) → (x ≡ R.Input → F s) → (Source d → F s) → Source (by_dir x d) → F s
  by_dir_law R.Internal d f h e = h e
  by_dir_law R.Input d f h e = f refl
  by_dir_law R.Output d f h e = h e

module _ (m : Module) (good : Good m) (st : State) (inputs : InputsFull m 0 m.signals st) (targets : TargetsFull m good m.registers st) (reads : DataFull m good m.memories st) where
  all_sourced : Sourced m st
  all_sourced p b h e =
      by_dir_law (Full m st) p b (dir_of m p) _ (λ d. let x = input_at_law m.signals p d in subst (Full m st) (zero-add p) (inputs p x.0 x.1 x.2))
      (by_register (Full m st) p b 0 m.registers _ (λ j r q z. subst (Full m st) z (targets j r q))
      (by_memory_law (Full m st) p b 0 m.memories _ (λ j x q z. subst (Full m st) z (reads j x q).0)
      (λ j x y q z w. subst (Full m st) w (subst (λ (o : Option Port). SecondFull m good o st) z (reads j x q).1))
      (λ f. no_source (sym (by_assign_law (Full m st) p b m.assigns) ∙ f)))) e b h

pub self : {A : Type 0} (xs : List A) (j : ℕ) (x : A) → get_elem? xs j ≡ some x → get_elem? xs (0 + j) ≡ some x
self xs j x e = rw (zero-add j) e

started : (m : Module) (n p : ℕ) → Reserving m (start m n p)
unfolding start
started m n p = record {
  rows = length-map m.signals _;
  only = λ q b k e. absurd (none_some (sym (blank (λ (s : Sig). s.width) m.signals q b) ∙ e));
}

-- after it exactly the sources have nets
pub sources : (m : Module) → Good m → (n p : ℕ) → Meets Limit (λ st. Reserving m st × Sourced m st) (reserve_sources m (start m n p))
unfolding reserve_sources
sources m good n p =
    let st = start m n p in
    finish (and_then (reserve_inputs 0 m.signals st) (λ st₁. and_then (reserve_registers m 0 m.registers st₁) (λ st₂. reserve_memories m 0 m.memories st₂)))
    (then m {P = InputsFull m 0 m.signals} {Q = λ st'. TargetsFull m good m.registers st' × DataFull m good m.memories st'} st (reserve_inputs 0 m.signals st) _
    (inputs_run m 0 m.signals (self m.signals) st (started m n p))
    (λ st₁ r. then m {P = TargetsFull m good m.registers} {Q = DataFull m good m.memories} st₁ (reserve_registers m 0 m.registers st₁) _
    (registers_run m good 0 m.registers (self m.registers) st₁ r.reserving)
    (λ st₂ q. memories_run m good 0 m.memories (self m.memories) st₂ q.reserving) (λ st₂ st₃ q h j r e. q.stays r.target (h j r e)))
    (λ st₁ st₂ q h j x e d. q.stays (0 + j) (h j x e d)))
  where
    finish : (o : Out State) → Meets Limit (Reserves m (start m n p) (λ st'. InputsFull m 0 m.signals st' × (TargetsFull m good m.registers st' × DataFull m good m.memories st'))) o
        → Meets Limit (λ st'. Reserving m st' × Sourced m st') o
    finish (refused c x y) w = w
    finish (done st') w = (w.reserving, all_sourced m good st' w.post.0 w.post.1.0 w.post.1.1)
