-- What the call asks for, and what is asked for inside a lowering, is asked in states of `Reached`; and so it ends. Assumes nothing.
use Rattle.std.specs.Prelude.{◌≡◌, refl, Bool, length}
use Rattle.std.proofs.Common.{sym, subst, zero-add}
use Rattle.std.proofs.Math.Bool.{true, false}
use mathlib.Core.List.{List, [], ◌∷◌, ◌++◌}
use Rattle.std.proofs.Math.Option.{some}
use Prim.Native.Nat.{ℕ, zero, suc, ◌+◌, ◌≤◌}
use native.Mathlib.Omega.{arith}
use Rattle.std.proofs.Math.ListN.{get_elem?}
use Rattle.spec_rtl.specs.Rtl as R
use Rattle.spec_rtl.specs.Rtl.{Module, Memory, Register, Sig, Dir}
use Rattle.spec_model.specs.Words.{absent, Netlist}
use Rattle.spec_model.specs.Builder.{Out, refused, done, and_then, Made, is_value, add_output_port}
use Rattle.spec_model.specs.Lowering.{State, whole_steps, range_steps_of, Need, Step, Always, Unless, with_netlist, signal_nets, signal_steps, signal_width, selected, unless, lower_need, lower_steps, plenty, lower_all, start, reserve_sources, push_record, memory_steps, ports_words, register_steps, register_bit, register_bits, connect_memories, connect_registers, connect_output, connect_outputs, lower_state}
use Rattle.law_nets.specs.Run.{Meets, meets_bind}
use Rattle.law_walk.specs.Tables.{none_some}
use Rattle.law_walk.specs.Good.{Good}
use Rattle.law_walk.specs.Kept.{Any, Walks}
use Rattle.law_walk.specs.Reads.{Asked, need_of, AllAsked, AllAfter}
use Rattle.law_walk.specs.Walk.{bits_asked, whole_asked, range_asked}
use Rattle.law_walk.proofs.Walk.{assigned, all_walk}
use Rattle.law_phases.specs.Supply.{supply}
use Rattle.law_phases.specs.Memories.{steps_asked as memory-asked}
use Rattle.law_phases.specs.Registers.{steps_asked as register-asked}
use Rattle.law_memo.specs.Walked.{driven_asked}
use Rattle.law_memo.specs.Memo.{Onwards, here, marked, lowered, memory, register, output, Reached, CallAsks, of_memory, of_register, of_output, Asks, driver, whole, range}
use Rattle.law_memo.specs.Reached.{reached_kept}

-- two facts of one outcome
both_meet : {A : Type 0} (P Q : A → Type 0) (o : Out A) → Meets Any P o → Meets Any Q o → Meets Any (λ a. P a × Q a) o
both_meet P Q (refused n x y) p q = tt
both_meet P Q (done a) p q = (p, q)

-- the outcome is itself
as_outcome : {A : Type 0} (P : A → Type 0) (o : Out A) → ((a : A) → o ≡ done a → P a) → Meets Any P o
as_outcome P (refused n x y) h = tt
as_outcome P (done a) h = h a refl

-- entries of a list that is cut in two
at_front : {A : Type 0} (xs ys : List A) (x : A) (i : ℕ) (y : A) → get_elem? xs i ≡ some y → get_elem? (xs ++ x ∷ ys) i ≡ some y
at_front [] ys x i y e = absurd (none_some e)
at_front (z ∷ xs) ys x zero y e = e
at_front (z ∷ xs) ys x (suc i) y e = at_front xs ys x i y e

at_seam : {A : Type 0} (xs ys : List A) (x : A) → get_elem? (xs ++ x ∷ ys) (length xs) ≡ some x
at_seam [] ys x = refl
at_seam (z ∷ xs) ys x = at_seam xs ys x

module _ (m : Module) (good : Good m) (ob : Bool) (n p : ℕ) (limit : n ≤ absent) where
  -- one step more
  more : {st st' : State} (r : Reached m ob n p st) → (Onwards m ob r.first st → Onwards m ob r.first st') → Reached m ob n p st'
  more r f = record { first = r.first; reserved = r.reserved; onwards = f r.onwards }

  abbrev Passes : Out State → Type 0
  Passes o = Meets Any (Reached m ob n p) o

  then : (o : Out State) (k : State → Out State) → Passes o → ((st : State) → Reached m ob n p st → Passes (k st)) → Passes (and_then o k)
  then o k h g = meets_bind Any (Reached m ob n p) (Reached m ob n p) o k h g

  pub need_passes : (f : ℕ) (need : Need) {st : State} → Asked m need → Reached m ob n p st → Passes (lower_need f m ob need st)
  need_passes f need {st} a r = as_outcome (Reached m ob n p) (lower_need f m ob need st) (λ st' q. more r (λ o. lowered f need a o q))

  -- after each step of a list, so before the next one
  pub steps_pass : (f : ℕ) (ss : List Step) {st : State} → AllAsked m ss → Reached m ob n p st → Passes (lower_steps (λ need st'. lower_need f m ob need st') ob ss st)
  unfolding lower_steps
  steps_pass f [] a r = r
  steps_pass f (Always need ∷ ss) {st} a r = then (lower_need f m ob need st) _ (need_passes f need a.0 r) (λ st₁ r₁. steps_pass f ss a.1 r₁)
  steps_pass f (Unless c v need ∷ ss) {st} a r = then (unless (is_value v (selected ob st c)) (λ x y. lower_need f m ob x y) need st) _ (skip (is_value v (selected ob st c))) (λ st₁ r₁. steps_pass f ss a.1 r₁)
    where
      skip : (t : Bool) → Passes (unless t (λ x y. lower_need f m ob x y) need st)
      skip true = r
      skip false = need_passes f need a.0 r

  -- the steps of a record, and what is there after them
  all_pass : (ss : List Step) (st : State) → AllAsked m ss → Reached m ob n p st → Meets Any (λ st'. Reached m ob n p st' × AllAfter ob st' ss) (lower_all m ob ss st)
  unfolding lower_all
  all_pass ss st a r =
      both_meet (Reached m ob n p) (λ st'. AllAfter ob st' ss) (lower_all m ob ss st) (steps_pass (plenty m) ss a r)
      (after (lower_all m ob ss st) (all_walk supply m good ob ss st (reached_kept m good ob n p limit r).inv a))
    where
      after : (o : Out State) → Walks m st (λ st'. AllAfter ob st' ss) o → Meets Any (λ st'. AllAfter ob st' ss) o
      after (refused x y z) w = tt
      after (done st') w = w.walks.post

  then_after : (ss : List Step) (o : Out State) (k : State → Out State) → Meets Any (λ st'. Reached m ob n p st' × AllAfter ob st' ss) o
      → ((st : State) → Reached m ob n p st → AllAfter ob st ss → Passes (k st)) → Passes (and_then o k)
  then_after ss o k h g = meets_bind Any (λ st'. Reached m ob n p st' × AllAfter ob st' ss) (Reached m ob n p) o k h (λ st x. g st x.0 x.1)

  -- ---- inside a lowering ----

  split : (before rest : List Step) (x : Step) → AllAsked m (before ++ x ∷ rest) → AllAsked m before × Asked m (need_of x)
  split [] rest x a = (tt, a.0)
  split (y ∷ before) rest x a = let r = split before rest x a.1 in ((a.0, r.0), r.1)

  in_steps : (f : ℕ) (ss before rest : List Step) (x : Step) (st st' : State) → AllAsked m ss → ss ≡ before ++ x ∷ rest → Reached m ob n p st
      → lower_steps (λ need y. lower_need f m ob need y) ob before st ≡ done st' → Reached m ob n p st' × Asked m (need_of x)
  in_steps f ss before rest x st st' a q r h =
      let c = split before rest x (subst (AllAsked m) q a) in
      (subst (Meets Any (Reached m ob n p)) h (steps_pass f before c.0 r), c.1)

  pub asks_reached : {st st' : State} → Reached m ob n p st → (f : ℕ) (need need' : Need) → Asked m need → Asks m ob f need st need' st' → Reached m ob n p st' × Asked m need'
  asks_reached r f need need' a (driver s b e o q) = (more r (λ z. marked s b z), driven_asked m good ob ob s b e o (assigned m s b good (e, o) q))
  asks_reached {st} {st'} r f need need' a (whole e before rest x q h) = in_steps f (whole_steps m.exprs e) before rest x st st' (whole_asked m good.exprs e a) q r h
  asks_reached {st} {st'} r f need need' a (range e lsb w before rest x q h) =
      in_steps f (range_steps_of m.exprs e lsb w) before rest x st st' (range_asked m good.exprs e a.0 lsb w a.1) q r h

  -- ---- the phases ----

  memories_pass : (k j : ℕ) (xs : List Memory) (st : State) → ((i : ℕ) (x : Memory) → get_elem? xs i ≡ some x → get_elem? m.memories (j + i) ≡ some x) → Reached m ob n p st
      → Passes (connect_memories m ob k xs st)
  unfolding connect_memories
  memories_pass k j [] st h r = r
  memories_pass k j (x ∷ xs) st h r =
      let g = good.memories (j + 0) x (h 0 x refl) in
      then_after (memory_steps x) (lower_all m ob (memory_steps x) st) _ (all_pass (memory_steps x) st (memory-asked m x g.first g.second) r) (λ st₁ r₁ a.
      then (push_record (2 ∷ k ∷ x.depth ∷ x.style ∷ 1 ∷ ports_words m st₁ x.first x.second) st₁) _
      (as_outcome (Reached m ob n p) (push_record (2 ∷ k ∷ x.depth ∷ x.style ∷ 1 ∷ ports_words m st₁ x.first x.second) st₁) (λ st₂ q. more r₁ (λ o. memory k x a o q)))
      (λ st₂ r₂. memories_pass (suc k) (suc j) xs st₂ (λ i y e. let z : suc j + i ≡ j + suc i = omega arith in rw z (h (suc i) y e)) r₂))

  bits_pass : (k : ℕ) (x : Register) (b w : ℕ) (st : State) → Reached m ob n p st → Passes (register_bits k x b w st)
  unfolding register_bits
  bits_pass k x b zero st r = r
  bits_pass k x b (suc w) st r =
      then (register_bit x.reset k x b st) _ (as_outcome (Reached m ob n p) (register_bit x.reset k x b st) (λ st₁ q. more r (λ o. register k x b o q))) (λ st₁ r₁. bits_pass k x (suc b) w st₁ r₁)

  registers_pass : (k j : ℕ) (xs : List Register) (st : State) → ((i : ℕ) (x : Register) → get_elem? xs i ≡ some x → get_elem? m.registers (j + i) ≡ some x) → Reached m ob n p st
      → Passes (connect_registers m ob k xs st)
  unfolding connect_registers
  registers_pass k j [] st h r = r
  registers_pass k j (x ∷ xs) st h r =
      then_after (register_steps x) (lower_all m ob (register_steps x) st) _ (all_pass (register_steps x) st (register-asked m (j + 0) x (good.registers (j + 0) x (h 0 x refl))) r) (λ st₁ r₁ a.
      then (register_bits k x 0 (signal_width m x.target) st₁) _ (bits_pass k x 0 (signal_width m x.target) st₁ r₁)
      (λ st₂ r₂. registers_pass (suc k) (suc j) xs st₂ (λ i y e. let z : suc j + i ≡ j + suc i = omega arith in rw z (h (suc i) y e)) r₂))

  output_passes : (d : Dir) (s w : ℕ) (st : State) → Reached m ob n p st → Passes (connect_output m ob d s w st)
  output_passes R.Internal s w st r = r
  output_passes R.Input s w st r = r
  output_passes R.Output s w st r =
      then_after (signal_steps s 0 w) (lower_all m ob (signal_steps s 0 w) st) _ (all_pass (signal_steps s 0 w) st (bits_asked m s 0 w) r) (λ st₁ r₁ a.
      port st₁ (add_output_port s (signal_nets st₁ s 0 w) st₁.netlist) (λ x q. more r₁ (λ o. output s w x.0 x.1 a o q)))
    where
      port : (st₁ : State) (o : Made (List ℕ)) → ((x : List ℕ × Netlist) → o ≡ done x → Reached m ob n p (with_netlist st₁ x.1)) → Passes (and_then o (λ (ns, l). done (with_netlist st₁ l)))
      port st₁ (refused x y z) h = tt
      port st₁ (done x) h = h x refl

  outputs_pass : (s : ℕ) (xs : List Sig) (st : State) → Reached m ob n p st → Passes (connect_outputs m ob s xs st)
  unfolding connect_outputs
  outputs_pass s [] st r = r
  outputs_pass s (x ∷ xs) st r = then (connect_output m ob x.dir s x.width st) _ (output_passes x.dir s x.width st r) (λ st₁ r₁. outputs_pass (suc s) xs st₁ r₁)

  -- ---- the call ----

  sources_pass : {st : State} → reserve_sources m (start m n p) ≡ done st → Reached m ob n p st
  sources_pass {st} q = record { first = st; reserved = q; onwards = here }

  -- what the first phases come to
  memories_done : {st st' : State} (xs : List Memory) → ((i : ℕ) (x : Memory) → get_elem? xs i ≡ some x → get_elem? m.memories i ≡ some x) → Reached m ob n p st
      → connect_memories m ob 0 xs st ≡ done st' → Reached m ob n p st'
  memories_done {st} xs h r q = subst Passes q (memories_pass 0 0 xs st (λ i x e. rw (zero-add i) (h i x e)) r)

  registers_done_law : {st st' : State} (xs : List Register) → ((i : ℕ) (x : Register) → get_elem? xs i ≡ some x → get_elem? m.registers i ≡ some x) → Reached m ob n p st
      → connect_registers m ob 0 xs st ≡ done st' → Reached m ob n p st'
  registers_done_law {st} xs h r q = subst Passes q (registers_pass 0 0 xs st (λ i x e. rw (zero-add i) (h i x e)) r)

  -- a step, once those before it are done
  step_asked : {st st' : State} (ss before rest : List Step) (s : Step) → AllAsked m ss → ss ≡ before ++ s ∷ rest → Reached m ob n p st → lower_all m ob before st ≡ done st'
      → Reached m ob n p st' × Asked m (need_of s)
  unfolding lower_all
  step_asked {st} {st'} ss before rest s a q r h = in_steps (plenty m) ss before rest s st st' a q r h

  pub calls_reached : {st : State} (need : Need) → CallAsks m ob n p need st → Reached m ob n p st × Asked m need
  calls_reached need (of_memory xs ys x before rest s e c q₁ q₂ q₃) =
      let g = good.memories (length xs) x (subst (λ (zs : List Memory). get_elem? zs (length xs) ≡ some x) (sym e) (at_seam xs ys x)) in
      let r = memories_done xs (λ i y z. subst (λ (zs : List Memory). get_elem? zs i ≡ some y) (sym e) (at_front xs ys x i y z)) (sources_pass q₁) q₂ in
      step_asked (memory_steps x) before rest s (memory-asked m x g.first g.second) c r q₃
  calls_reached need (of_register xs ys x before rest s e c q₁ q₂ q₃ q₄) =
      let g = good.registers (length xs) x (subst (λ (zs : List Register). get_elem? zs (length xs) ≡ some x) (sym e) (at_seam xs ys x)) in
      let r = registers_done_law xs (λ i y z. subst (λ (zs : List Register). get_elem? zs i ≡ some y) (sym e) (at_front xs ys x i y z)) (memories_done m.memories (λ i y z. z) (sources_pass q₁) q₂) q₃ in
      step_asked (register_steps x) before rest s (register-asked m (length xs) x g) c r q₄
  calls_reached need (of_output {st₃ = st₃} xs ys x before rest s e c q₁ q₂ q₃ q₄ q₅) =
      let r = registers_done_law m.registers (λ i y z. z) (memories_done m.memories (λ i y z. z) (sources_pass q₁) q₂) q₃ in
      step_asked (signal_steps (length xs) 0 x.width) before rest s (bits_asked m (length xs) 0 x.width) c (subst Passes q₄ (outputs_pass 0 xs st₃ r)) q₅

  pub call_ends : Passes (lower_state ob m n p)
  unfolding lower_state
  call_ends =
      then (reserve_sources m (start m n p)) _ (as_outcome (Reached m ob n p) (reserve_sources m (start m n p)) (λ st q. sources_pass q)) (λ st₁ r₁.
      then (connect_memories m ob 0 m.memories st₁) _ (memories_pass 0 0 m.memories st₁ (λ i x e. rw (zero-add i) e) r₁) (λ st₂ r₂.
      then (connect_registers m ob 0 m.registers st₂) _ (registers_pass 0 0 m.registers st₂ (λ i x e. rw (zero-add i) e) r₂) (λ st₃ r₃. outputs_pass 0 m.signals st₃ r₃)))
