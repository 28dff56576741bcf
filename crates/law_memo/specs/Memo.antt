-- Request Q-10: "Whole lowerings and range lowerings hold the same net for the same bit, so one word per expression bit can serve both", "lowering an
-- expression bit again makes no net and gives the same one". Stated of the states that the call goes through, with either flag; `Calls` shows it. Assumes nothing.
use Rattle.std.specs.Prelude.{◌≡◌, Bool, List, ◌∷◌, ◌++◌, map, ℕ, ◌+◌, ◌≤◌, ◌<◌, length, take, drop, replicate}
use Rattle.std.proofs.Math.Option.{none, some}
use Rattle.spec_rtl.specs.Rtl as R
use Rattle.spec_rtl.specs.Rtl.{Module, Expr, Memory, Register, Sig}
use Rattle.spec_model.specs.Words.{Netlist}
use Rattle.spec_model.specs.Builder.{done, add_output_port}
use Rattle.spec_model.specs.Ranges.{width_at}
use Rattle.spec_model.specs.Lowering.{State, Need, Bit, Whole, Range, Step, signal_bit, driven_by, driver_of, whole_steps, range_steps_of, lower_steps, state, mark, with_netlist, signal_nets, signal_steps, expression_net, lower_need, lower_state, plenty, start, reserve_sources, push_record, memory_steps, register_steps, ports_words, register_bit, lower_all, connect_memories, connect_registers, connect_outputs}
use Rattle.law_nets.specs.Run.{Meets}
use Rattle.law_walk.specs.Tables.{Has}
use Rattle.law_walk.specs.Kept.{Any}
use Rattle.law_walk.specs.Reads.{Asked, need_of, AllAfter}
use Rattle.law_memo.specs.Derived.{Derived}

-- ---- the states ----

-- From one state to a later one. A signal bit is marked; something is lowered (an expression of the module, a range inside one, a signal's bit: whatever is
-- asked for, in whatever order); the record of a memory is pushed, or that of a register's bit; an output port is added.
pub data Onwards (m : Module) (ob : Bool) (st : State) : State → Type 0 where
  here : Onwards m ob st st
  marked : {st₁ : State} (s b : ℕ) → Onwards m ob st st₁ → Onwards m ob st (mark st₁ s b)
  lowered : {st₁ st₂ : State} (f : ℕ) (need : Need) → Asked m need → Onwards m ob st st₁ → lower_need f m ob need st₁ ≡ done st₂ → Onwards m ob st st₂
  memory : {st₁ st₂ : State} (k : ℕ) (x : Memory) → AllAfter ob st₁ (memory_steps x) → Onwards m ob st st₁
      → push_record (2 ∷ k ∷ x.depth ∷ x.style ∷ 1 ∷ ports_words m st₁ x.first x.second) st₁ ≡ done st₂ → Onwards m ob st st₂
  register : {st₁ st₂ : State} (k : ℕ) (r : Register) (b : ℕ) → Onwards m ob st st₁ → register_bit r.reset k r b st₁ ≡ done st₂ → Onwards m ob st st₂
  output : {st₁ : State} (s w : ℕ) (ns : List ℕ) (l : Netlist) → AllAfter ob st₁ (signal_steps s 0 w) → Onwards m ob st st₁
      → add_output_port s (signal_nets st₁ s 0 w) st₁.netlist ≡ done (ns, l) → Onwards m ob st (with_netlist st₁ l)

-- a state that comes so from the end of `reserve_sources`
pub record Reached (m : Module) (ob : Bool) (n p : ℕ) (st : State) : Type 0 where
  pub first : State
  pub reserved : reserve_sources m (start m n p) ≡ done first
  pub onwards : Onwards m ob first st

-- What the call asks for, and in which state: a step of a memory, of a register or of an output signal, once the records before it and the steps before
-- it are done.
pub data CallAsks (m : Module) (ob : Bool) (n p : ℕ) : Need → State → Type 0 where
  of_memory : {st₁ st₂ st₃ : State} (xs ys : List Memory) (x : Memory) (before rest : List Step) (s : Step) → m.memories ≡ xs ++ x ∷ ys → memory_steps x ≡ before ++ s ∷ rest
      → reserve_sources m (start m n p) ≡ done st₁ → connect_memories m ob 0 xs st₁ ≡ done st₂ → lower_all m ob before st₂ ≡ done st₃ → CallAsks m ob n p (need_of s) st₃
  of_register : {st₁ st₂ st₃ st₄ : State} (xs ys : List Register) (x : Register) (before rest : List Step) (s : Step) → m.registers ≡ xs ++ x ∷ ys
      → register_steps x ≡ before ++ s ∷ rest → reserve_sources m (start m n p) ≡ done st₁ → connect_memories m ob 0 m.memories st₁ ≡ done st₂
      → connect_registers m ob 0 xs st₂ ≡ done st₃ → lower_all m ob before st₃ ≡ done st₄ → CallAsks m ob n p (need_of s) st₄
  of_output : {st₁ st₂ st₃ st₄ st₅ : State} (xs ys : List Sig) (x : Sig) (before rest : List Step) (s : Step) → m.signals ≡ xs ++ x ∷ ys
      → signal_steps (length xs) 0 x.width ≡ before ++ s ∷ rest → reserve_sources m (start m n p) ≡ done st₁ → connect_memories m ob 0 m.memories st₁ ≡ done st₂
      → connect_registers m ob 0 m.registers st₂ ≡ done st₃ → connect_outputs m ob 0 xs st₃ ≡ done st₄ → lower_all m ob before st₄ ≡ done st₅ → CallAsks m ob n p (need_of s) st₅

-- What a lowering asks for, and in which state: the driver of a signal's bit, once that bit is marked; a step of an expression or of a range of it, once the
-- steps before it are done.
pub data Asks (m : Module) (ob : Bool) (f : ℕ) : Need → State → Need → State → Type 0 where
  driver : {st : State} (s b e o : ℕ) → driver_of m s b ≡ some (e, o) → Asks m ob f (Bit s b) st (driven_by ob e o) (mark st s b)
  whole : {st st' : State} (e : ℕ) (before rest : List Step) (x : Step) → whole_steps m.exprs e ≡ before ++ x ∷ rest
      → lower_steps (λ need y. lower_need f m ob need y) ob before st ≡ done st' → Asks m ob f (Whole e) st (need_of x) st'
  range : {st st' : State} (e lsb w : ℕ) (before rest : List Step) (x : Step) → range_steps_of m.exprs e lsb w ≡ before ++ x ∷ rest
      → lower_steps (λ need y. lower_need f m ob need y) ob before st ≡ done st' → Asks m ob f (Range e lsb w) st (need_of x) st'

-- ---- the claims ----

-- the bits of a need have nets
abbrev pub HasNets : Module → State → Need → Type 0
HasNets m st (Bit s b) = Has (signal_bit st s b)
HasNets m st (Whole e) = (b : ℕ) → b < width_at m.exprs e → Has (expression_net st e b)
HasNets m st (Range e lsb w) = (b : ℕ) → lsb ≤ b → b < lsb + w → Has (expression_net st e b)

-- the same netlist and nets of signal bits; of the expressions the nets of those below c, the others forgotten: with c = 0 all of them
abbrev pub forgot : ℕ → Module → State → State
forgot c m st =
    state st.netlist st.signal_bits st.resolving (take c st.expression_bits ++ map (λ x. none) (drop c m.exprs))
    (take c st.expression_ranges ++ map (λ (x : Expr). replicate x.width none) (drop c m.exprs))

-- lowering from some state on ends without a refusal; no node and no record is made, each bit of the need has a net, and each net is the one that the bit has in st
pub record LowersAgain (m : Module) (ob : Bool) (st : State) (need : Need) (su : State) : Type 0 where
  pub after : State
  pub says : lower_need (plenty m) m ob need su ≡ done after
  pub netlist : after.netlist ≡ st.netlist
  pub signals : after.signal_bits ≡ st.signal_bits
  pub there : HasNets m after need
  pub nets : (e b k : ℕ) → expression_net after e b ≡ some k → expression_net st e b ≡ some k

-- each bit of an expression has one net, from its first lowering to the call's end
pub record OneNet (m : Module) (ob : Bool) (n p : ℕ) : Type 0 where
  -- what the call asks for, and what is asked for inside a lowering, is asked in such states, also where the call is refused later; and so ends one that is not
  pub calls : {st : State} (need : Need) → CallAsks m ob n p need st → Reached m ob n p st × Asked m need
  pub asks : {st st' : State} → Reached m ob n p st → (f : ℕ) (need need' : Need) → Asked m need → Asks m ob f need st need' st' → Reached m ob n p st' × Asked m need'
  pub ends : Meets Any (Reached m ob n p) (lower_state ob m n p)
  -- a bit that has a net keeps it: one that was lowered by a range has the same net once the whole is lowered
  pub same : {st st' : State} → Reached m ob n p st → Onwards m ob st st' → (e b k : ℕ) → expression_net st e b ≡ some k → expression_net st' e b ≡ some k
  -- its net is what its kind's builder call gives of the nets below it, making nothing: so of a range or a whole that has some nets, these bits make nothing
  pub made : {st : State} → Reached m ob n p st → (e b k : ℕ) → expression_net st e b ≡ some k → Derived m ob st.netlist (signal_bit st) (expression_net st) e b k
  -- a bit that has a net is lowered again to it
  pub bit : {st : State} → Reached m ob n p st → (c : ℕ) → c ≤ length m.exprs → (e b k : ℕ) → expression_net st e b ≡ some k
      → (g : LowersAgain m ob st (Range e b 1) (forgot c m st)) × (expression_net g.after e b ≡ some k)
  -- so is whatever has nets, whole or a range: with the nets of all expressions from c on forgotten, and with none forgotten
  pub again : {st : State} → Reached m ob n p st → (c : ℕ) → c ≤ length m.exprs → (need : Need) → Asked m need → HasNets m st need → LowersAgain m ob st need (forgot c m st)
  pub still : {st : State} → Reached m ob n p st → (need : Need) → Asked m need → HasNets m st need → LowersAgain m ob st need st
