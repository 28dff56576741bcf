-- `reserve_sources`: each bit of an input, a register's target and a read data has its net, and the net its value. Assumes nothing.
use Rattle.std.specs.Prelude.{◌≡◌, refl, ◌⊎◌, Bool, true, set, replicate}
use Rattle.std.proofs.Math.Path.{sym, ap}
use Rattle.std.proofs.Common.{◌∙◌, inl, inr, not-suc-le-zero, le_of_suc-le-suc, zero-add, lt-ltb, le-ltb, get_or-set_same, get_or-set_other}
use Rattle.std.proofs.Math.Logic.{⊎_elim}
use Rattle.std.proofs.Math.Bool.{false}
use mathlib.Core.List.{List, [], ◌∷◌, map}
use Rattle.std.proofs.Math.Option.{Option, none, some}
use Prim.Native.Nat.{ℕ, zero, suc, ◌+◌, ◌-◌, ◌≤◌, ◌<◌, suc-le-suc}
use Rattle.std.proofs.Math.Decide.{ℕ_discrete}
use native.Mathlib.Omega.{arith}
use Rattle.std.proofs.Math.ListN.{length, get_or, get_elem?, length-map, length-set}
use Rattle.std.proofs.lemmas.List.{length-replicate}
use Rattle.spec_tests.specs.Rules.{only}
use Rattle.spec_rtl.specs.Ops.{tab}
use Rattle.spec_rtl.specs.Rtl as R
use Rattle.spec_rtl.specs.Rtl.{Module, Sig, Dir, Register, Memory, Port, Valuation, driver, dir_of}
use Rattle.spec_rules.specs.NetlistImage.{memory_of, register_bit_of}
use Rattle.spec_rules.specs.Step.{Setting, Contents, bit_by, rounds, memory_bit, data_width}
use Rattle.spec_model.specs.Words.{Netlist, absent, source}
use Rattle.spec_model.specs.Builder.{refused, done, Made, add_nodes, add_input_port}
use Rattle.spec_model.specs.Lowering.{State, cell, with_netlist, set_signal, signal_width, start, reserve, reserve_input, reserve_inputs, reserve_bits, reserve_registers, reserve_second, reserve_memories, reserve_sources}
use Rattle.word_laws.specs.Shift.{length_tab}
use Rattle.law_nets.specs.Meaning.{meaning_of, records_with, net_value}
use Rattle.law_nets.specs.Sound.{count, Sound, Later, At, StandsAll}
use Rattle.law_nets.specs.Run.{Meets, meets_bind, meets_map, Limit, Built}
use Rattle.law_nets.proofs.Run.{later_refl, later_trans, later_count}
use Rattle.law_nets.specs.Nodes.{get_or_map_in}
use Rattle.law_nets.proofs.Nodes.{sound_empty}
use Rattle.law_nets.proofs.Lists.{memories_same, registers_same, outputs_same}
use Rattle.law_gates.specs.Added.{recorded_others}
use Rattle.law_gates.specs.Sources.{register_run, memory_run}
use Rattle.law_gates.specs.Ports.{InputPort, input_nodes}
use Rattle.law_gates.proofs.Ports.{input_port_run, input_outputs}
use Rattle.law_walk.specs.Tables.{none_some, some_eq, Shaped}
use Rattle.law_walk.specs.Good.{Good}
use Rattle.law_walk.specs.Kept.{Any, Agrees, Wide}
use Rattle.law_walk.specs.Reads.{below_at, map_at}
use Rattle.law_phases.specs.Made.{Limited, limited_later}
use Rattle.law_phases.specs.Drivers.{input_driver, register_driver, first_driver, second_driver}

-- ---- lists ----

pub inside : {A : Type 0} (xs : List A) (i : ℕ) (x : A) → get_elem? xs i ≡ some x → i < length xs
inside [] i x e = absurd (none_some e)
inside (y ∷ xs) zero x e = omega arith
inside (y ∷ xs) (suc i) x e = suc-le-suc (inside xs i x e)

pub got : {A : Type 0} (xs : List A) (i : ℕ) (x d : A) → get_elem? xs i ≡ some x → get_or xs i d ≡ x
got [] i x d e = absurd (none_some e)
got (y ∷ xs) zero x d e = some_eq e
got (y ∷ xs) (suc i) x d e = got xs i x d e

tab_at : (w : ℕ) (f : ℕ → Bool) (i : ℕ) (d : Bool) → i < w → get_or (tab w f) i d ≡ f i
tab_at zero f i d h = absurd (not-suc-le-zero h)
tab_at (suc w) f zero d h = refl
tab_at (suc w) f (suc i) d h = tab_at w (λ j. f (suc j)) i d (le_of_suc-le-suc h)

some_at : (ns : List ℕ) (i n : ℕ) → get_or (map some ns) i none ≡ some n → (i < length ns) × (get_or ns i absent ≡ n)
some_at [] i n e = absurd (none_some e)
some_at (x ∷ ns) zero n e = (omega arith, some_eq e)
some_at (x ∷ ns) (suc i) n e = let r = some_at ns i n e in (suc-le-suc r.0, r.1)

pub blank : {A : Type 0} (w : A → ℕ) (xs : List A) (p i : ℕ) → cell {A = Option ℕ} none (map (λ x. replicate (w x) none) xs) p i ≡ none
blank w [] p i = refl
blank w (x ∷ xs) zero i = row (w x) i
  where
    row : (n i : ℕ) → get_or (replicate {A = Option ℕ} n none) i none ≡ none
    row zero i = refl
    row (suc n) zero = refl
    row (suc n) (suc i) = row n i
blank w (x ∷ xs) (suc p) i = blank w xs p i

pub none_at : {A : Type 0} (xs : List A) (e : ℕ) → get_or {A = Option (List ℕ)} (map (λ x. none) xs) e none ≡ none
none_at [] e = refl
none_at (x ∷ xs) zero = refl
none_at (x ∷ xs) (suc e) = none_at xs e

pub shaped : {A B : Type 0} (b : B) (w : A → ℕ) (xs : List A) (d : A) (wide : ℕ → ℕ) → ((i : ℕ) → wide i ≡ w (get_or xs i d))
    → Shaped (length xs) wide (map (λ x. replicate (w x) b) xs)
shaped b w xs d wide e = record {
  rows = length-map xs (λ x. replicate (w x) b);
  cells = λ i h. ap length (get_or_map_in (λ x. replicate (w x) b) xs i d [] h) ∙ length-replicate (w (get_or xs i d)) b ∙ sym (e i);
}

-- ---- what holds while sources are reserved ----

pub record Reserved (m : Module) (lim : ℕ × ℕ) (st : State) : Type 0 where
  pub limited : Limited lim st.netlist
  pub sound : Sound st.netlist
  pub bits : Shaped (length m.signals) (signal_width m) st.signal_bits
  pub nets : (p i n : ℕ) → cell none st.signal_bits p i ≡ some n → n < count st.netlist
  pub agrees : (h : Netlist) → Later st.netlist h → Wide m h → (s : Setting) (c : Contents) (u : Valuation) (n : ℕ)
      → Agrees (net_value h s c) (rounds m s c u (suc n)) st.signal_bits
  pub marks : st.resolving ≡ map (λ s. replicate s.width false) m.signals
  pub wholes : st.expression_bits ≡ map (λ x. none) m.exprs
  pub rows : st.expression_ranges ≡ map (λ x. replicate x.width none) m.exprs
  pub memories : (meaning_of st.netlist).memories ≡ []
  pub registers : (meaning_of st.netlist).registers ≡ []
  pub outputs : (meaning_of st.netlist).outputs ≡ []

pub started : (m : Module) (n p : ℕ) → n ≤ absent → Reserved m (n, p) (start m n p)
unfolding start meaning_of records_with only
started m n p h = record {
  limited = (refl, refl);
  sound = sound_empty n p h;
  bits = shaped none (λ (s : Sig). s.width) m.signals (record { width = 0; dir = R.Internal }) (signal_width m) (λ i. refl);
  nets = λ q i k e. absurd (none_some (sym (blank (λ (s : Sig). s.width) m.signals q i) ∙ e));
  agrees = λ l a w s c u k. record { at = λ q i j e. absurd (none_some (sym (blank (λ (s : Sig). s.width) m.signals q i) ∙ e)) };
  marks = refl;
  wholes = refl;
  rows = refl;
  memories = refl;
  registers = refl;
  outputs = refl;
}

-- nets made for the whole of signal s, with the values of its driver
pub record Row (m : Module) (l : Netlist) (s : ℕ) (r : List ℕ × Netlist) : Type 0 where
  pub later : Later l r.1
  pub values : At (ℕ → Bool)
  pub stands : StandsAll r.1 r.0 (λ h x c. tab (signal_width m s) (values h x c))
  pub drives : (h : Netlist) → Wide m h → (x : Setting) (c : Contents) (v : Valuation) (i : ℕ) → i < signal_width m s
      → bit_by m x c v s i (driver m s i) ≡ values h x c i
  pub memories : (meaning_of r.1).memories ≡ (meaning_of l).memories
  pub registers : (meaning_of r.1).registers ≡ (meaning_of l).registers
  pub outputs : (meaning_of r.1).outputs ≡ (meaning_of l).outputs

stands_length : {l : Netlist} {ns : List ℕ} (w : ℕ) (f : At (ℕ → Bool)) → Sound l → StandsAll l ns (λ h x c. tab w (f h x c)) → length ns ≡ w
stands_length {l} {ns} w f q a =
    let s : Setting = λ p i. false in
    let c : Contents = record { reg = λ k i. false; dat = λ k b i. false; mem = λ k a i. false } in
    sym (length-map ns (net_value l s c)) ∙ ap length (a.are l (later_refl q) s c) ∙ length_tab w (f l s c)

module _ (m : Module) (lim : ℕ × ℕ) (st : State) (i : Reserved m lim st) (s : ℕ) (here : s < length m.signals) (ns : List ℕ) (l : Netlist) (r : Row m st.netlist s (ns, l)) where
  wide : length ns ≡ signal_width m s
  wide = stands_length (signal_width m s) r.values r.later.sound r.stands

  row_at : (p j n : ℕ) → cell none (set st.signal_bits s (map some ns)) p j ≡ some n → Dec (p ≡ s)
      → ((p ≡ s) × (j < length ns) × (get_or ns j absent ≡ n)) ⊎ (cell none st.signal_bits p j ≡ some n)
  row_at p j n e (yes q) =
      let x = some_at ns j n (sym (ap (λ (t : List (Option ℕ)). get_or t j none) (get_or-set_same st.signal_bits s (map some ns) [] (omega (arith, i.bits.rows))))
      ∙ (rw q at e)) in inl (q, x.0, x.1)
  row_at p j n e (no g) = inr (sym (ap (λ (t : List (Option ℕ)). get_or t j none) (get_or-set_other st.signal_bits s p (map some ns) [] g)) ∙ e)

  reserved_row : Reserved m lim (set_signal (with_netlist st l) s ns)
  unfolding set_signal
  reserved_row = record {
    limited = limited_later lim r.later i.limited;
    sound = r.later.sound;
    bits = record {
      rows = length-set st.signal_bits s (map some ns) ∙ i.bits.rows;
      cells = λ p h. cells p h (ℕ_discrete p s);
    };
    nets = λ p j n e. ⊎_elim
        (λ (x : (p ≡ s) × (j < length ns) × (get_or ns j absent ≡ n)). rw x.2 at (below_at (count l) ns j absent x.1 r.stands.there))
        (λ (x : cell none st.signal_bits p j ≡ some n). omega (arith, i.nets p j n x, later_count r.later))
        (row_at p j n e (ℕ_discrete p s));
    agrees = λ h a w x c u n. record {
      at = λ p j k e. ⊎_elim
          (λ (y : (p ≡ s) × (j < length ns) × (get_or ns j absent ≡ k)).
          let b : j < signal_width m s = omega (arith, y.1, wide) in
          rw y.0 (r.drives h w x c (rounds m x c u n) j b
          ∙ sym (tab_at (signal_width m s) (r.values h x c) j false b) ∙ ap (λ (t : List Bool). get_or t j false) (sym (r.stands.are h a x c))
          ∙ map_at (net_value h x c) ns j absent false y.1 ∙ ap (net_value h x c) y.2))
          (λ (y : cell none st.signal_bits p j ≡ some k). (i.agrees h (later_trans r.later a) w x c u n).at p j k y)
          (row_at p j k e (ℕ_discrete p s));
    };
    marks = i.marks;
    wholes = i.wholes;
    rows = i.rows;
    memories = r.memories ∙ i.memories;
    registers = r.registers ∙ i.registers;
    outputs = r.outputs ∙ i.outputs;
  }
    where
      cells : (p : ℕ) → p < length m.signals → Dec (p ≡ s) → length (get_or (set st.signal_bits s (map some ns)) p []) ≡ signal_width m p
      cells p h (yes q) = rw q (ap length (get_or-set_same st.signal_bits s (map some ns) [] (omega (arith, i.bits.rows))) ∙ length-map ns (λ (n : ℕ). some n) ∙ wide)
      cells p h (no g) = ap length (get_or-set_other st.signal_bits s p (map some ns) [] g) ∙ i.bits.cells p h

reserved : (m : Module) (lim : ℕ × ℕ) (st : State) → Reserved m lim st → (s : ℕ) → s < length m.signals → (R : ℕ → ℕ → ℕ → Type 0) (o : Made (List ℕ)) → Meets R (Row m st.netlist s) o
    → Meets Any (Reserved m lim) (reserve st s o)
reserved m lim st i s here R (refused n x y) w = tt
reserved m lim st i s here R (done r) w = reserved_row m lim st i s here r.0 r.1 w

built_row : (m : Module) (l : Netlist) (s : ℕ) (ns : List ℕ) (l' : Netlist) → Sound l → (f : At (ℕ → Bool)) (P : List ℕ → Netlist → Type 0) → Built l P (ns, l')
    → StandsAll l' ns (λ h x c. tab (signal_width m s) (f h x c))
    → ((h : Netlist) → Wide m h → (x : Setting) (c : Contents) (v : Valuation) (i : ℕ) → i < signal_width m s → bit_by m x c v s i (driver m s i) ≡ f h x c i)
    → Row m l s (ns, l')
built_row m l s ns l' q f P b a d = record {
  later = b.later;
  values = f;
  stands = a;
  drives = d;
  memories = memories_same b.later.grew b.cells;
  registers = registers_same b.later.grew b.cells;
  outputs = outputs_same b.later.grew b.cells q;
}

module _ (m : Module) (g : Good m) (lim : ℕ × ℕ) where
  -- ---- inputs ----

  input_row : (l : Netlist) → Sound l → (s w : ℕ) → dir_of m s ≡ R.Input → signal_width m s ≡ w → 0 < w → (r : List ℕ × Netlist) → InputPort s w l r → Row m l s r
  unfolding meaning_of
  input_row l q s w d e h r p = record {
    later = p.later;
    values = λ k x c. x s;
    stands = rw e p.stands;
    drives = λ k a x c v i b. rw (input_driver m s i d);
    memories = ap (map memory_of) (recorded_others (0 ∷ s ∷ w ∷ []) (input_nodes s w) l r.0 r.1 p.made 2 (λ z. omega arith));
    registers = ap (map register_bit_of) (recorded_others (0 ∷ s ∷ w ∷ []) (input_nodes s w) l r.0 r.1 p.made 1 (λ z. omega arith));
    outputs = input_outputs s l r.0 r.1 w q h p;
  }

  inputs_run : (s : ℕ) (xs : List Sig) → ((j : ℕ) (x : Sig) → get_elem? xs j ≡ some x → get_elem? m.signals (s + j) ≡ some x) → (st : State) → Reserved m lim st
      → Meets Any (Reserved m lim) (reserve_inputs s xs st)
  unfolding reserve_inputs
  inputs_run s [] f st i = i
  inputs_run s (x ∷ xs) f st i =
      meets_bind Any (Reserved m lim) (Reserved m lim) (reserve_input x.dir s x.width st) _ (one x.dir refl)
      (λ st₁ i₁. inputs_run (suc s) xs (λ j y e. let z : s + suc j ≡ suc s + j = omega arith in rw z at (f (suc j) y e)) st₁ i₁)
    where
      at : get_elem? m.signals s ≡ some x
      at = let z : s + 0 ≡ s = omega arith in rw z at (f 0 x refl)

      is : get_or m.signals s (record { width = 0; dir = R.Internal }) ≡ x
      is = got m.signals s x (record { width = 0; dir = R.Internal }) at

      one : (d : Dir) → x.dir ≡ d → Meets Any (Reserved m lim) (reserve_input d s x.width st)
      one R.Internal e = i
      one R.Output e = i
      one R.Input e =
          let w : signal_width m s ≡ x.width = ap (λ (y : Sig). y.width) is in
          let b = inside m.signals s x at in
          reserved m lim st i s b Limit (add_input_port s x.width st.netlist)
          (meets_map Limit Limit (InputPort s x.width st.netlist) (Row m st.netlist s) (add_input_port s x.width st.netlist) (input_port_run s x.width st.netlist i.sound)
          (λ n y z h. h) (λ r p. input_row st.netlist i.sound s x.width (ap (λ (y : Sig). y.dir) is ∙ e) w (omega (arith, g.signals s b)) r p))

  -- ---- registers ----

  registers_run : (k : ℕ) (rs : List Register) → ((j : ℕ) (r : Register) → get_elem? rs j ≡ some r → get_elem? m.registers (k + j) ≡ some r) → (st : State) → Reserved m lim st
      → Meets Any (Reserved m lim) (reserve_registers m k rs st)
  unfolding reserve_registers
  registers_run k [] f st i = i
  registers_run k (r ∷ rs) f st i =
      meets_bind Any (Reserved m lim) (Reserved m lim) (reserve_bits m 7 k 0 r.target st) _ one
      (λ st₁ i₁. registers_run (suc k) rs (λ j y e. let z : k + suc j ≡ suc k + j = omega arith in rw z at (f (suc j) y e)) st₁ i₁)
    where
      at : get_elem? m.registers k ≡ some r
      at = let z : k + 0 ≡ k = omega arith in rw z at (f 0 r refl)

      one : Meets Any (Reserved m lim) (reserve_bits m 7 k 0 r.target st)
      one =
          let w = signal_width m r.target in
          let q = register_run k 0 w st.netlist i.sound in
          reserved m lim st i r.target (g.registers k r at).inside Limit (add_nodes (source 7 k) 0 w st.netlist)
          (meets_map Limit Limit _ (Row m st.netlist r.target) (add_nodes (source 7 k) 0 w st.netlist) q.run (λ n y z h. h)
          (λ x p. built_row m st.netlist r.target x.0 x.1 i.sound (λ h y c j. c.reg k (0 + j)) _ p p.post.stands
          (λ h d y c v j b. rw (register_driver m g k r j at, zero-add j))))

  -- ---- memories ----

  first_value : (c : Contents) (k w j : ℕ) → j < w → memory_bit c k w (0 + j) ≡ c.dat k false j
  first_value c k w j h = rw (zero-add j, lt-ltb j w h)

  second_value : (c : Contents) (k w j : ℕ) → memory_bit c k w (w + j) ≡ c.dat k true j
  second_value c k w j = rw (le-ltb (w + j) w (omega arith)) (ap (c.dat k true) {x = w + j - w} {y = j} (omega arith))

  memory_bits_law : (k b p : ℕ) (st : State) → Reserved m lim st → p < length m.signals
      → ((h : Netlist) → Wide m h → (x : Setting) (c : Contents) (v : Valuation) (j : ℕ) → j < signal_width m p
      → bit_by m x c v p j (driver m p j) ≡ memory_bit c k (data_width (meaning_of h) k) (b + j))
      → Meets Any (Reserved m lim) (reserve_bits m 9 k b p st)
  memory_bits_law k b p st i here d =
      let w = signal_width m p in
      let q = memory_run k b w st.netlist i.sound in
      reserved m lim st i p here Limit (add_nodes (source 9 k) b w st.netlist)
      (meets_map Limit Limit _ (Row m st.netlist p) (add_nodes (source 9 k) b w st.netlist) q.run (λ n y z h. h)
      (λ x a. built_row m st.netlist p x.0 x.1 i.sound (λ h y c j. memory_bit c k (data_width (meaning_of h) k) (b + j)) _ a a.post.stands d))

  memories_run : (k : ℕ) (xs : List Memory) → ((j : ℕ) (x : Memory) → get_elem? xs j ≡ some x → get_elem? m.memories (k + j) ≡ some x) → (st : State) → Reserved m lim st
      → Meets Any (Reserved m lim) (reserve_memories m k xs st)
  unfolding reserve_memories
  memories_run k [] f st i = i
  memories_run k (x ∷ xs) f st i =
      meets_bind Any (Reserved m lim) (Reserved m lim) (reserve_bits m 9 k 0 x.first.read_data st) _ first (λ st₁ i₁.
      meets_bind Any (Reserved m lim) (Reserved m lim) (reserve_second m k (signal_width m x.first.read_data) x.second st₁) _ (second st₁ i₁ x.second refl)
      (λ st₂ i₂. memories_run (suc k) xs (λ j y e. let z : k + suc j ≡ suc k + j = omega arith in rw z at (f (suc j) y e)) st₂ i₂))
    where
      at : get_elem? m.memories k ≡ some x
      at = let z : k + 0 ≡ k = omega arith in rw z at (f 0 x refl)

      first : Meets Any (Reserved m lim) (reserve_bits m 9 k 0 x.first.read_data st)
      first = memory_bits_law k 0 x.first.read_data st i (g.memories k x at).first.inside
          (λ h w y c v j b. rw (first_driver m g k x j at, w.wide k x at) (sym (first_value c k (signal_width m x.first.read_data) j b)))

      second : (st₁ : State) → Reserved m lim st₁ → (o : Option Port) → x.second ≡ o → Meets Any (Reserved m lim) (reserve_second m k (signal_width m x.first.read_data) o st₁)
      second st₁ i₁ none e = i₁
      second st₁ i₁ (some p) e = memory_bits_law k (signal_width m x.first.read_data) p.read_data st₁ i₁ ((g.memories k x at).second p e).inside
          (λ h w y c v j b. rw (second_driver m g k x p j at e, w.wide k x at) (sym (second_value c k (signal_width m x.first.read_data) j)))

  -- ---- all ----

  self : {A : Type 0} (xs : List A) (j : ℕ) (x : A) → get_elem? xs j ≡ some x → get_elem? xs (0 + j) ≡ some x
  self xs j x e = rw (zero-add j) e

  pub sources_run : (st : State) → Reserved m lim st → Meets Any (Reserved m lim) (reserve_sources m st)
  unfolding reserve_sources
  sources_run st i =
      meets_bind Any (Reserved m lim) (Reserved m lim) (reserve_inputs 0 m.signals st) _ (inputs_run 0 m.signals (self m.signals) st i) (λ st₁ i₁.
      meets_bind Any (Reserved m lim) (Reserved m lim) (reserve_registers m 0 m.registers st₁) _ (registers_run 0 m.registers (self m.registers) st₁ i₁) (λ st₂ i₂.
      memories_run 0 m.memories (self m.memories) st₂ i₂))
