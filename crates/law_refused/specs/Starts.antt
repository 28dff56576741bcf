-- The steps of a memory, a register and an output read what the rules say that they need: P of all that the steps read is P of all their needs.
-- So needs start at what the steps ask for, and all of it lies inside. Assumes nothing.
use Rattle.std.specs.Prelude.{◌≡◌, length}
use Rattle.std.proofs.Math.Path.{refl, subst}
use Rattle.std.proofs.Common.{sym, inl, inr, zero-add, not-suc-le-zero}
use mathlib.Core.List.{List, [], ◌∷◌, ◌++◌}
use Rattle.std.proofs.Math.Option.{Option, none, some}
use Prim.Native.Nat.{ℕ, zero, suc, ◌+◌, ◌<◌}
use Rattle.std.proofs.Math.Decide.{dec_lt}
use native.Mathlib.Omega.{arith}
use Rattle.std.proofs.Math.ListN.{get_elem?}
use Rattle.spec_rtl.specs.Rtl as R
use Rattle.spec_rtl.specs.Rtl.{Module, Sig, Dir, Control, Reset, Register, Port, Memory}
use Rattle.spec_model.specs.Builder.{from}
use Rattle.spec_model.specs.Ranges.{width_at}
use Rattle.spec_model.specs.Lowering.{Step, signal_width, wholes, signal_steps, bit_step, control_steps, word_steps, enable_steps, second_steps, memory_steps, reset_steps, register_steps}
use Rattle.spec_needs.specs.Reads.{Place, bit_reads, whole_reads}
use Rattle.spec_needs.specs.Needs.{In, control_needs, reset_needs, register_needs, port_needs, second_needs, memory_needs, bits_of, output_bits, outputs, registers_need, memories_need, starts}
use Rattle.law_walk.specs.Tables.{none_some}
use Rattle.law_walk.specs.Good.{Good, GoodPort}
use Rattle.law_walk.specs.Walk.{bits_asked}
use Rattle.law_needs.specs.Covers.{All, in_left, in_right, all_append, all_whole, whole_all, Every, AllOk}
use Rattle.law_needs.specs.Inside.{Inside, ControlInside, ResetInside, PortInside, SecondInside, Within, insides}
use Rattle.law_needs.specs.Told.{AllSome}
use Rattle.law_phases.specs.Memories as memories
use Rattle.law_phases.specs.Registers as registers
use Rattle.law_refused.specs.Stands.{Starting}

some_append : (xs ys : List Step) → AllSome xs → AllSome ys → AllSome (xs ++ ys)
some_append [] ys h k = k
some_append (x ∷ xs) ys h k = (h.0, some_append xs ys h.1 k)

-- ---- P of what is read ----

module _ (m : Module) (P : Place → Type 0) where
  ok_append : (xs ys : List Step) → AllOk m.exprs P xs → AllOk m.exprs P ys → AllOk m.exprs P (xs ++ ys)
  ok_append [] ys h k = k
  ok_append (x ∷ xs) ys h k = (h.0, ok_append xs ys h.1 k)

  ok_split : (xs ys : List Step) → AllOk m.exprs P (xs ++ ys) → AllOk m.exprs P xs × AllOk m.exprs P ys
  ok_split [] ys h = (tt, h)
  ok_split (x ∷ xs) ys h = let r = ok_split xs ys h.1 in ((h.0, r.0), r.1)

  left : (xs ys : List Place) → All P (xs ++ ys) → All P xs
  left xs ys h x i = h x (in_left x xs ys i)

  right : (xs ys : List Place) → All P (xs ++ ys) → All P ys
  right xs ys h x i = h x (in_right x xs ys i)

  cons : (x : Place) (xs : List Place) → P x → All P xs → All P (x ∷ xs)
  cons x xs p h y (inl e) = subst P (sym e) p
  cons x xs p h y (inr i) = h y i

  empty : All P []
  empty x i = absurd i

  reads_all : (e : ℕ) → Every m.exprs P e → All P (whole_reads m.exprs e)
  unfolding whole_reads
  reads_all e h = all_whole P (width_at m.exprs e) (bit_reads m.exprs e) h

  all_reads : (e : ℕ) → All P (whole_reads m.exprs e) → Every m.exprs P e
  unfolding whole_reads
  all_reads e h = whole_all P (width_at m.exprs e) (bit_reads m.exprs e) h

  abbrev pub OfControl : Option Control → Type 0
  OfControl none = Unit {0}
  OfControl (some c) = P (c.signal, 0)

  abbrev pub OfReset : Option Reset → Type 0
  OfReset none = Unit {0}
  OfReset (some r) = Every m.exprs P r.value × P (r.control.signal, 0)

  pub record OfRegister (r : Register) : Type 0 where
    pub next : Every m.exprs P r.next
    pub clock : P (r.clock, 0)
    pub enable : OfControl r.enable
    pub reset : OfReset r.reset

  pub record OfPort (p : Port) : Type 0 where
    pub read_address : Every m.exprs P p.read_address
    pub write_address : Every m.exprs P p.write_address
    pub write_data : Every m.exprs P p.write_data
    pub clock : P (p.clock, 0)
    pub writes : P (p.write_enable.signal, 0)
    pub reads : OfControl p.read_enable

  abbrev pub OfSecond : Option Port → Type 0
  OfSecond none = Unit {0}
  OfSecond (some p) = OfPort p

  control_steps_law : (o : Option Control) → OfControl o → AllOk m.exprs P (control_steps o)
  control_steps_law none h = tt
  control_steps_law (some c) h = (h, tt)

  steps_control : (o : Option Control) → AllOk m.exprs P (control_steps o) → OfControl o
  steps_control none h = tt
  steps_control (some c) h = h.0

  control_needs_law : (o : Option Control) → OfControl o → All P (control_needs o)
  control_needs_law none h = empty
  control_needs_law (some c) h = cons (c.signal, 0) [] h empty

  needs_control : (o : Option Control) → All P (control_needs o) → OfControl o
  needs_control none h = tt
  needs_control (some c) h = h (c.signal, 0) (inl refl)

  -- ---- a register ----

  reset_steps_law : (o : Option Reset) → OfReset o → AllOk m.exprs P (reset_steps o)
  reset_steps_law none h = tt
  reset_steps_law (some r) h = (h.0, (h.1, tt))

  steps_reset : (o : Option Reset) → AllOk m.exprs P (reset_steps o) → OfReset o
  steps_reset none h = tt
  steps_reset (some r) h = (h.0, h.1.0)

  reset_needs_law : (o : Option Reset) → OfReset o → All P (reset_needs m o)
  reset_needs_law none h = empty
  reset_needs_law (some r) h = all_append P (whole_reads m.exprs r.value) ((r.control.signal, 0) ∷ []) (reads_all r.value h.0) (cons (r.control.signal, 0) [] h.1 empty)

  needs_reset : (o : Option Reset) → All P (reset_needs m o) → OfReset o
  needs_reset none h = tt
  needs_reset (some r) h = (
    all_reads r.value (left (whole_reads m.exprs r.value) ((r.control.signal, 0) ∷ []) h),
    right (whole_reads m.exprs r.value) ((r.control.signal, 0) ∷ []) h (r.control.signal, 0) (inl refl),
  )

  pub register_steps_law : (r : Register) → OfRegister r → AllOk m.exprs P (register_steps r)
  register_steps_law r h =
      ok_append (wholes (r.next ∷ []) ++ bit_step r.clock ++ control_steps r.enable) (reset_steps r.reset)
      (ok_append (wholes (r.next ∷ []) ++ bit_step r.clock) (control_steps r.enable) (h.next, (h.clock, tt)) (control_steps_law r.enable h.enable)) (reset_steps_law r.reset h.reset)

  pub steps_register : (r : Register) → AllOk m.exprs P (register_steps r) → OfRegister r
  steps_register r h =
      let a = ok_split (wholes (r.next ∷ []) ++ bit_step r.clock ++ control_steps r.enable) (reset_steps r.reset) h in
      let b = ok_split (wholes (r.next ∷ []) ++ bit_step r.clock) (control_steps r.enable) a.0 in
      record { next = b.0.0; clock = b.0.1.0; enable = steps_control r.enable b.1; reset = steps_reset r.reset a.1 }

  pub register_needs_law : (r : Register) → OfRegister r → All P (register_needs m r)
  unfolding register_needs
  register_needs_law r h =
      all_append P (whole_reads m.exprs r.next) ((r.clock, 0) ∷ control_needs r.enable ++ reset_needs m r.reset) (reads_all r.next h.next)
      (all_append P ((r.clock, 0) ∷ control_needs r.enable) (reset_needs m r.reset) (cons (r.clock, 0) (control_needs r.enable) h.clock (control_needs_law r.enable h.enable))
      (reset_needs_law r.reset h.reset))

  pub needs_register : (r : Register) → All P (register_needs m r) → OfRegister r
  unfolding register_needs
  needs_register r h =
      let a = right (whole_reads m.exprs r.next) ((r.clock, 0) ∷ control_needs r.enable ++ reset_needs m r.reset) h in
      let b = left ((r.clock, 0) ∷ control_needs r.enable) (reset_needs m r.reset) a in
      record {
        next = all_reads r.next (left (whole_reads m.exprs r.next) ((r.clock, 0) ∷ control_needs r.enable ++ reset_needs m r.reset) h);
        clock = b (r.clock, 0) (inl refl);
        enable = needs_control r.enable (λ x i. b x (inr i));
        reset = needs_reset r.reset (right ((r.clock, 0) ∷ control_needs r.enable) (reset_needs m r.reset) a);
      }

  -- ---- a memory ----

  abbrev addresses : Port → List Place
  addresses p = whole_reads m.exprs p.read_address ++ whole_reads m.exprs p.write_address ++ whole_reads m.exprs p.write_data

  abbrev bits : Port → List Place
  bits p = (p.clock, 0) ∷ (p.write_enable.signal, 0) ∷ control_needs p.read_enable

  port_needs_law : (p : Port) → OfPort p → All P (port_needs m p)
  port_needs_law p h =
      all_append P (addresses p) (bits p)
      (all_append P (whole_reads m.exprs p.read_address ++ whole_reads m.exprs p.write_address) (whole_reads m.exprs p.write_data)
      (all_append P (whole_reads m.exprs p.read_address) (whole_reads m.exprs p.write_address) (reads_all p.read_address h.read_address) (reads_all p.write_address h.write_address))
      (reads_all p.write_data h.write_data))
      (cons (p.clock, 0) ((p.write_enable.signal, 0) ∷ control_needs p.read_enable) h.clock (cons (p.write_enable.signal, 0) (control_needs p.read_enable) h.writes (control_needs_law p.read_enable h.reads)))

  needs_port : (p : Port) → All P (port_needs m p) → OfPort p
  needs_port p h =
      let a = left (addresses p) (bits p) h in
      let b = right (addresses p) (bits p) h in
      let c = left (whole_reads m.exprs p.read_address ++ whole_reads m.exprs p.write_address) (whole_reads m.exprs p.write_data) a in
      record {
        read_address = all_reads p.read_address (left (whole_reads m.exprs p.read_address) (whole_reads m.exprs p.write_address) c);
        write_address = all_reads p.write_address (right (whole_reads m.exprs p.read_address) (whole_reads m.exprs p.write_address) c);
        write_data = all_reads p.write_data (right (whole_reads m.exprs p.read_address ++ whole_reads m.exprs p.write_address) (whole_reads m.exprs p.write_data) a);
        clock = b (p.clock, 0) (inl refl);
        writes = b (p.write_enable.signal, 0) (inr (inl refl));
        reads = needs_control p.read_enable (λ x i. b x (inr (inr i)));
      }

  second_needs_law : (o : Option Port) → OfSecond o → All P (second_needs m o)
  second_needs_law none h = empty
  second_needs_law (some p) h = port_needs_law p h

  needs_second : (o : Option Port) → All P (second_needs m o) → OfSecond o
  needs_second none h = tt
  needs_second (some p) h = needs_port p h

  pub memory_needs_law : (x : Memory) → OfPort x.first → OfSecond x.second → All P (memory_needs m x)
  unfolding memory_needs
  memory_needs_law x h k = all_append P (port_needs m x.first) (second_needs m x.second) (port_needs_law x.first h) (second_needs_law x.second k)

  pub needs_memory : (x : Memory) → All P (memory_needs m x) → OfPort x.first × OfSecond x.second
  unfolding memory_needs
  needs_memory x h =
      (needs_port x.first (left (port_needs m x.first) (second_needs m x.second) h), needs_second x.second (right (port_needs m x.first) (second_needs m x.second) h))

  enable_steps_law : (p : Port) → OfPort p → AllOk m.exprs P (enable_steps p)
  enable_steps_law p h = ok_append (bit_step p.write_enable.signal) (control_steps p.read_enable) (h.writes, tt) (control_steps_law p.read_enable h.reads)

  second_steps_law : (o : Option Port) → OfSecond o → AllOk m.exprs P (second_steps o)
  second_steps_law none h = tt
  second_steps_law (some p) h =
      ok_append (word_steps p ++ enable_steps p) (bit_step p.clock) (ok_append (word_steps p) (enable_steps p) (h.read_address, (h.write_address, (h.write_data, tt))) (enable_steps_law p h)) (h.clock, tt)

  pub memory_steps_law : (x : Memory) → OfPort x.first → OfSecond x.second → AllOk m.exprs P (memory_steps x)
  memory_steps_law x h k =
      let p = x.first in
      ok_append (word_steps p ++ bit_step p.clock ++ enable_steps p) (second_steps x.second)
      (ok_append (word_steps p ++ bit_step p.clock) (enable_steps p) (ok_append (word_steps p) (bit_step p.clock) (h.read_address, (h.write_address, (h.write_data, tt))) (h.clock, tt)) (enable_steps_law p h))
      (second_steps_law x.second k)

  of_port_law : (p : Port) → AllOk m.exprs P (word_steps p) → AllOk m.exprs P (bit_step p.clock) → AllOk m.exprs P (enable_steps p) → OfPort p
  of_port_law p a b c =
      let d = ok_split (bit_step p.write_enable.signal) (control_steps p.read_enable) c in
      record { read_address = a.0; write_address = a.1.0; write_data = a.1.1.0; clock = b.0; writes = d.0.0; reads = steps_control p.read_enable d.1 }

  steps_second : (o : Option Port) → AllOk m.exprs P (second_steps o) → OfSecond o
  steps_second none h = tt
  steps_second (some p) h =
      let a = ok_split (word_steps p ++ enable_steps p) (bit_step p.clock) h in
      let b = ok_split (word_steps p) (enable_steps p) a.0 in
      of_port_law p b.0 a.1 b.1

  pub steps_memory : (x : Memory) → AllOk m.exprs P (memory_steps x) → OfPort x.first × OfSecond x.second
  steps_memory x h =
      let p = x.first in
      let a = ok_split (word_steps p ++ bit_step p.clock ++ enable_steps p) (second_steps x.second) h in
      let b = ok_split (word_steps p ++ bit_step p.clock) (enable_steps p) a.0 in
      let c = ok_split (word_steps p) (bit_step p.clock) b.0 in
      (of_port_law p c.0 c.1 b.1, steps_second x.second a.1)

  -- ---- an output ----

  pub bits_steps : (s b w : ℕ) → ((i : ℕ) → i < b + w → P (s, i)) → AllOk m.exprs P (signal_steps s b w)
  unfolding signal_steps from
  bits_steps s b zero h = tt
  bits_steps s b (suc w) h = (h b (omega arith), bits_steps s (suc b) w (λ i k. h i (omega arith)))

  steps_bits : (s b w : ℕ) → AllOk m.exprs P (signal_steps s b w) → (j : ℕ) → j < w → P (s, b + j)
  unfolding signal_steps from
  steps_bits s b zero h j k = absurd (not-suc-le-zero k)
  steps_bits s b (suc w) h zero k = let z : b + 0 ≡ b = omega arith in subst (λ (i : ℕ). P (s, i)) (sym z) h.0
  steps_bits s b (suc w) h (suc j) k = let z : b + suc j ≡ suc b + j = omega arith in subst (λ (i : ℕ). P (s, i)) (sym z) (steps_bits s (suc b) w h.1 j (omega arith))

  pub bits_needs_law : (s w : ℕ) → ((i : ℕ) → i < w → P (s, i)) → All P (bits_of s w)
  bits_needs_law s zero h = empty
  bits_needs_law s (suc w) h = all_append P (bits_of s w) ((s, w) ∷ []) (bits_needs_law s w (λ i k. h i (omega arith))) (cons (s, w) [] (h w (omega arith)) empty)

  pub needs_bits : (s w : ℕ) → All P (bits_of s w) → (i : ℕ) → i < w → P (s, i)
  needs_bits s zero h i k = absurd (not-suc-le-zero k)
  needs_bits s (suc w) h i k = elim (dec_lt i w) [
    | yes l ↦ needs_bits s w (left (bits_of s w) ((s, w) ∷ []) h) i l
    | no l ↦ (let e : w ≡ i = omega arith in subst (λ (j : ℕ). P (s, j)) e (right (bits_of s w) ((s, w) ∷ []) h (s, w) (inl refl)))
  ]

  pub output_bits_law : (s w : ℕ) → AllOk m.exprs P (signal_steps s 0 w) → All P (bits_of s w)
  output_bits_law s w h = bits_needs_law s w (λ i k. subst (λ (j : ℕ). P (s, j)) (zero-add i) (steps_bits s 0 w h i k))

  -- ---- all that needs start at ----

  memories_all : (xs : List Memory) → ((k : ℕ) (x : Memory) → get_elem? xs k ≡ some x → All P (memory_needs m x)) → All P (memories_need m xs)
  unfolding memories_need
  memories_all [] h = empty
  memories_all (x ∷ xs) h = all_append P (memory_needs m x) (memories_need m xs) (h 0 x refl) (memories_all xs (λ k y e. h (suc k) y e))

  registers_all : (rs : List Register) → ((k : ℕ) (r : Register) → get_elem? rs k ≡ some r → All P (register_needs m r)) → All P (registers_need m rs)
  unfolding registers_need
  registers_all [] h = empty
  registers_all (r ∷ rs) h = all_append P (register_needs m r) (registers_need m rs) (h 0 r refl) (registers_all rs (λ k y e. h (suc k) y e))

  outputs_all : (s : ℕ) (xs : List Sig) → ((k : ℕ) (x : Sig) → get_elem? xs k ≡ some x → x.dir ≡ R.Output → All P (bits_of (s + k) x.width)) → All P (outputs s xs)
  unfolding outputs
  outputs_all s [] h = empty
  outputs_all s (x ∷ xs) h = all_append P (output_bits x.dir s x.width) (outputs (suc s) xs) (go x.dir refl)
      (outputs_all (suc s) xs (λ k y e d. let z : s + suc k ≡ suc s + k = omega arith in subst (λ (j : ℕ). All P (bits_of j y.width)) z (h (suc k) y e d)))
    where
      go : (d : Dir) → x.dir ≡ d → All P (output_bits d s x.width)
      go R.Internal e = empty
      go R.Input e = empty
      go R.Output e = let z : s + 0 ≡ s = omega arith in subst (λ (j : ℕ). All P (bits_of j x.width)) z (h 0 x refl e)

  pub starts_all : ((k : ℕ) (x : Memory) → get_elem? m.memories k ≡ some x → All P (memory_needs m x)) → ((k : ℕ) (r : Register) → get_elem? m.registers k ≡ some r → All P (register_needs m r))
      → ((k : ℕ) (x : Sig) → get_elem? m.signals k ≡ some x → x.dir ≡ R.Output → All P (bits_of k x.width)) → All P (starts m)
  unfolding starts
  starts_all f g h =
      all_append P (memories_need m m.memories ++ registers_need m m.registers) (outputs 0 m.signals)
      (all_append P (memories_need m m.memories) (registers_need m m.registers) (memories_all m.memories f) (registers_all m.registers g))
      (outputs_all 0 m.signals (λ k x e d. subst (λ (j : ℕ). All P (bits_of j x.width)) (sym (zero-add k)) (h k x e d)))

-- ---- what is needed by a record is where needs start ----

module _ (m : Module) where
  memories_in : (xs : List Memory) (k : ℕ) (x : Memory) → get_elem? xs k ≡ some x → (y : Place) → In y (memory_needs m x) → In y (memories_need m xs)
  unfolding memories_need
  memories_in [] k x e y i = absurd (none_some e)
  memories_in (z ∷ xs) zero x e y i = let q : z ≡ x = cc in in_left y (memory_needs m z) (memories_need m xs) (subst (λ (u : Memory). In y (memory_needs m u)) (sym q) i)
  memories_in (z ∷ xs) (suc k) x e y i = in_right y (memory_needs m z) (memories_need m xs) (memories_in xs k x e y i)

  registers_in : (rs : List Register) (k : ℕ) (r : Register) → get_elem? rs k ≡ some r → (y : Place) → In y (register_needs m r) → In y (registers_need m rs)
  unfolding registers_need
  registers_in [] k r e y i = absurd (none_some e)
  registers_in (z ∷ rs) zero r e y i = let q : z ≡ r = cc in in_left y (register_needs m z) (registers_need m rs) (subst (λ (u : Register). In y (register_needs m u)) (sym q) i)
  registers_in (z ∷ rs) (suc k) r e y i = in_right y (register_needs m z) (registers_need m rs) (registers_in rs k r e y i)

  outputs_in : (s : ℕ) (xs : List Sig) (k : ℕ) (x : Sig) → get_elem? xs k ≡ some x → x.dir ≡ R.Output → (y : Place) → In y (bits_of (s + k) x.width) → In y (outputs s xs)
  unfolding outputs
  outputs_in s [] k x e d y i = absurd (none_some e)
  outputs_in s (z ∷ xs) zero x e d y i =
      let q : z ≡ x = cc in
      let w : s + 0 ≡ s = omega arith in
      in_left y (output_bits z.dir s z.width) (outputs (suc s) xs)
      (subst (λ (u : Sig). In y (output_bits u.dir s u.width)) (sym q) (subst (λ (t : Dir). In y (output_bits t s x.width)) (sym d) (subst (λ (j : ℕ). In y (bits_of j x.width)) w i)))
  outputs_in s (z ∷ xs) (suc k) x e d y i =
      let w : s + suc k ≡ suc s + k = omega arith in
      in_right y (output_bits z.dir s z.width) (outputs (suc s) xs) (outputs_in (suc s) xs k x e d y (subst (λ (j : ℕ). In y (bits_of j x.width)) w i))

  memory_starts : (k : ℕ) (x : Memory) → get_elem? m.memories k ≡ some x → All (λ y. In y (starts m)) (memory_needs m x)
  unfolding starts
  memory_starts k x e y i = in_left y (memories_need m m.memories ++ registers_need m m.registers) (outputs 0 m.signals)
      (in_left y (memories_need m m.memories) (registers_need m m.registers) (memories_in m.memories k x e y i))

  register_starts : (k : ℕ) (r : Register) → get_elem? m.registers k ≡ some r → All (λ y. In y (starts m)) (register_needs m r)
  unfolding starts
  register_starts k r e y i = in_left y (memories_need m m.memories ++ registers_need m m.registers) (outputs 0 m.signals)
      (in_right y (memories_need m m.memories) (registers_need m m.registers) (registers_in m.registers k r e y i))

  output_starts : (k : ℕ) (x : Sig) → get_elem? m.signals k ≡ some x → x.dir ≡ R.Output → All (λ y. In y (starts m)) (bits_of k x.width)
  unfolding starts
  output_starts k x e d y i = in_right y (memories_need m m.memories ++ registers_need m m.registers) (outputs 0 m.signals)
      (outputs_in 0 m.signals k x e d y (subst (λ (j : ℕ). In y (bits_of j x.width)) (sym (zero-add k)) i))

-- ---- the steps of a record ----

control_some : (o : Option Control) → AllSome (control_steps o)
control_some none = tt
control_some (some c) = (tt, tt)

reset_some : (o : Option Reset) → AllSome (reset_steps o)
reset_some none = tt
reset_some (some r) = (tt, (tt, tt))

enable_some : (p : Port) → AllSome (enable_steps p)
enable_some p = some_append (bit_step p.write_enable.signal) (control_steps p.read_enable) (tt, tt) (control_some p.read_enable)

second_some : (o : Option Port) → AllSome (second_steps o)
second_some none = tt
second_some (some p) = some_append (word_steps p ++ enable_steps p) (bit_step p.clock) (some_append (word_steps p) (enable_steps p) (tt, (tt, (tt, tt))) (enable_some p)) (tt, tt)

bits_some : (s b w : ℕ) → AllSome (signal_steps s b w)
unfolding signal_steps from
bits_some s b zero = tt
bits_some s b (suc w) = (tt, bits_some s (suc b) w)

module _ (m : Module) (good : Good m) (within : Within m) where
  inside_control : (o : Option Control) → ControlInside m o → OfControl m (Inside m) o
  inside_control none h = tt
  inside_control (some c) h = h

  inside_reset : (o : Option Reset) → ResetInside m o → ((x : Reset) → o ≡ some x → x.value < length m.exprs) → OfReset m (Inside m) o
  inside_reset none h g = tt
  inside_reset (some r) h g = (insides m good within r.value (g r refl), h)

  inside_port : (p : Port) → PortInside m p → p.read_address < length m.exprs → p.write_address < length m.exprs → p.write_data < length m.exprs → OfPort m (Inside m) p
  inside_port p h a b c = record {
    read_address = insides m good within p.read_address a;
    write_address = insides m good within p.write_address b;
    write_data = insides m good within p.write_data c;
    clock = h.clock;
    writes = h.writes;
    reads = inside_control p.read_enable h.reads;
  }

  pub register_starting : (k : ℕ) (r : Register) → get_elem? m.registers k ≡ some r → Starting m (register_steps r)
  register_starting k r e =
      let g = good.registers k r e in
      record {
        asked = registers.steps_asked m k r g;
        some = some_append (wholes (r.next ∷ []) ++ bit_step r.clock ++ control_steps r.enable) (reset_steps r.reset)
            (some_append (wholes (r.next ∷ []) ++ bit_step r.clock) (control_steps r.enable) (tt, (tt, tt)) (control_some r.enable)) (reset_some r.reset);
        inside = register_steps_law m (Inside m) r (record {
          next = insides m good within r.next g.next;
          clock = within.clocks k r e;
          enable = inside_control r.enable (within.enables k r e);
          reset = inside_reset r.reset (within.resets k r e) (λ x q. (g.reset x q).0);
        });
        begins = register_steps_law m (λ y. In y (starts m)) r (needs_register m (λ y. In y (starts m)) r (register_starts m k r e));
      }

  pub memory_starting : (k : ℕ) (x : Memory) → get_elem? m.memories k ≡ some x → Starting m (memory_steps x)
  memory_starting k x e =
      let g = good.memories k x e in
      let p = x.first in
      let n = needs_memory m (λ y. In y (starts m)) x (memory_starts m k x e) in
      record {
        asked = memories.steps_asked m x g.first g.second;
        some = some_append (word_steps p ++ bit_step p.clock ++ enable_steps p) (second_steps x.second)
            (some_append (word_steps p ++ bit_step p.clock) (enable_steps p) (some_append (word_steps p) (bit_step p.clock) (tt, (tt, (tt, tt))) (tt, tt)) (enable_some p)) (second_some x.second);
        inside = memory_steps_law m (Inside m) x (inside_port p (within.firsts k x e) g.first.read_address g.first.write_address g.first.write_data)
            (second x.second refl (within.seconds k x e) g.second);
        begins = memory_steps_law m (λ y. In y (starts m)) x n.0 n.1;
      }
    where
      second : (o : Option Port) → x.second ≡ o → SecondInside m o → ((q : Port) → o ≡ some q → GoodPort m q) → OfSecond m (Inside m) o
      second none z h f = tt
      second (some q) z h f = inside_port q h (f q refl).read_address (f q refl).write_address (f q refl).write_data

  pub output_starting : (k : ℕ) (x : Sig) → get_elem? m.signals k ≡ some x → x.dir ≡ R.Output → signal_width m k ≡ x.width → Starting m (signal_steps k 0 x.width)
  output_starting k x e d w = record {
    asked = bits_asked m k 0 x.width;
    some = bits_some k 0 x.width;
    inside = bits_steps m (Inside m) k 0 x.width (λ i h. omega arith);
    begins = bits_steps m (λ y. In y (starts m)) k 0 x.width (λ i h. needs_bits m (λ y. In y (starts m)) k x.width (output_starts m k x e d) i (omega arith));
  }
