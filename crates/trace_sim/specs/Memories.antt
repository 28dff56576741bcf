-- A memory's port on words: its read data and its words are what the step rule gives. Assumes nothing.
use Prim.Native.Nat.{ℕ, zero, suc, ◌+◌, ◌*◌, ◌-◌, ◌≤◌, ◌<◌}
use Rattle.std.proofs.Common.{not-suc-le-zero, arith, sym, ◌∙◌, lt-ltb, eq-eqb, ne_eqb, eqb-true, ltb-true, get_or-take, get_or-drop}
use Rattle.std.proofs.Math.Decide.{dec_lt, ℕ_discrete}
use Rattle.std.specs.Prelude.{◌≡◌, Bool, true, false, cond, ◌&&◌, List, [], ◌∷◌, map, eqb, length, take, drop, get_or}
use Rattle.std.proofs.Math.Path.{refl, ap}
use Rattle.std.proofs.Math.Dec.{ltb}
use Rattle.std.proofs.lemmas.List.{length-map}
use Rattle.spec_rtl.specs.Word.{bit}
use Rattle.spec_tests.specs.Rules.{Fine}
use Rattle.spec_rules.specs.NetlistImage.{node_word, memory_port_of, netlist}
use Rattle.spec_rules.specs.Step.{Setting, Contents, Access, net, net_access, read_next, write_next}
use Rattle.spec_netlist.specs.Accept.{accepts}
use Rattle.law_told.specs.Told.{untrue}
use Rattle.law_sorts.specs.Memories.{MemoryPortTold}
use Rattle.trace_pass.specs.Plan.{size, Valued}
use Rattle.trace_pass.specs.Steps.{size_is}
use Rattle.trace_step.specs.Words.{on, spread, laid, identity, fetched, port_read, port_written}
use Rattle.trace_memory.specs.Ports.{row_in}
use Rattle.trace_sim.specs.Moves.{Moves, moves_none, moves_spread}
use Rattle.trace_sim.specs.Registers.{Inputs}
use Rattle.trace_sim.specs.Laid.{laid_long, laid_below, laid_above, laid_at, row_before}
use Rattle.trace_sim.specs.Accesses.{data_length, data_at_law, data_inside, written_length, ticks_same, reads_same, writes_same, read_at_same, write_at_same, written_same}

-- these words stand in the memory, a row each, from base on
pub record Rows (words : ℕ → ℕ → Bool) (depth w base : ℕ) (mem : List ℕ) : Type 0 where
  pub at : (a b : ℕ) → a < depth → b < w → get_or mem (base + a * w + b) 0 ≡ bit (words a b)

fetched_is : (words : ℕ → ℕ → Bool) (depth w base : ℕ) (mem : List ℕ) (a i : ℕ) → Rows words depth w base mem → i < w → get_or (fetched depth w mem base a) i 0 ≡ bit (ltb a depth && words a i)
unfolding fetched
fetched_is words depth w base mem a i r h = go (ltb a depth) refl
  where
    go : (b : Bool) → ltb a depth ≡ b → get_or (cond b (take w (drop (base + a * w) mem)) []) i 0 ≡ bit (b && words a i)
    go true e = get_or-take w (drop (base + a * w) mem) i 0 h ∙ get_or-drop (base + a * w) mem i 0 ∙ r.at a i (ltb-true a depth e) h
    go false e = refl

-- ---- tests ----

all : {b₁ b₂ b₃ b₄ : Bool} → b₁ ≡ true → b₂ ≡ true → b₃ ≡ true → b₄ ≡ true → (b₁ && b₂ && b₃ && b₄) ≡ true
all {b₁} {b₂} {b₃} {b₄} e₁ e₂ e₃ e₄ = rw (e₁, e₂, e₃, e₄)

off : (b₁ b₂ b₃ : Bool) → (b₁ && b₂ && false && b₃) ≡ false
off true true b₃ = refl
off true false b₃ = refl
off false b₂ b₃ = refl

map_at : (v xs : List ℕ) (i : ℕ) → i < length xs → get_or (map (λ (j : ℕ). bit (on v j)) xs) i 0 ≡ bit (get_or (map (on v) xs) i false)
map_at v [] i h = absurd (not-suc-le-zero h)
map_at v (q ∷ xs) zero h = refl
map_at v (q ∷ xs) (suc i) h = map_at v xs i (omega arith)

over : (d a : ℕ) → (d < a → ⊥) → (d ≡ a → ⊥) → a < d
over d a g f = elim (dec_lt a d) [
  | yes z ↦ z
  | no z ↦ absurd (f (omega arith))
]

three : (b₁ b₂ b₃ : Bool) → (b₁ && b₂ && b₃) ≡ true → (b₁ ≡ true) × ((b₂ ≡ true) × (b₃ ≡ true))
three true true true e = (refl, (refl, refl))
three true true false e = untrue e
three true false b₃ e = untrue e
three false b₂ b₃ e = untrue e

-- ---- a port ----

module _ {ws : List ℕ} {earlier : List (List ℕ)} {k w base₀ : ℕ} {p : List ℕ} (u : MemoryPortTold ws earlier k w base₀ p) (ok : accepts ws ≡ Fine) (s t : Setting) (c : Contents)
    (clock : node_word ws (memory_port_of p).clock 0 ≡ 0) {v n : List ℕ} (x : Valued ws s c v) (y : Inputs ws ok s t c n) where
  abbrev access : Access
  access = net_access (net (netlist ws) s c) (net (netlist ws) t c) (memory_port_of p)

  abbrev on_words : Access
  on_words = net_access (on v) (on n) (memory_port_of p)

  -- it reads
  pub port_read_law : (words : ℕ → ℕ → Bool) (depth base : ℕ) (mem : List ℕ) → Rows words depth w base mem → size ws ≤ length n
      → (want : ℕ → ℕ) (old : ℕ → Bool) → ((i : ℕ) → i < w → want (get_or p (4 + get_or p 0 0 + i) 0) ≡ bit (read_next depth words old access i))
      → Moves want n (port_read depth w mem base p v n) × ((access.ticks && access.reads) ≡ true → (i : ℕ) → i < w → get_or (port_read depth w mem base p v n) (get_or p (4 + get_or p 0 0 + i) 0) 0 ≡ want (get_or p (4 + get_or p 0 0 + i) 0))
  unfolding port_read
  port_read_law words depth base mem r wide want old wants = go (on_words.ticks && on_words.reads) refl
    where
      same : (on_words.ticks && on_words.reads) ≡ (access.ticks && access.reads)
      same = ap (λ (b : Bool). b && on_words.reads) (ticks_same u ok s t c x y clock) ∙ ap (λ (b : Bool). access.ticks && b) (reads_same u ok s t c x y)

      each : (access.ticks && access.reads) ≡ true → (i : ℕ) → i < length (memory_port_of p).read_data
          → (get_or (memory_port_of p).read_data i 0 < length n) × (get_or (fetched depth w mem base on_words.read_at_of) i 0 ≡ want (get_or (memory_port_of p).read_data i 0))
      each e i l =
          let z = size_is ws in
          let b = data_inside u i l in
          let q = data_length u in
          let f = fetched_is words depth w base mem on_words.read_at_of i r (omega arith) in (
            omega arith,
            f ∙ ap (λ (a : ℕ). bit (ltb a depth && words a i)) (read_at_same u ok s t c x y)
                ∙ sym (ap want (data_at_law u i (omega arith)) ∙ wants i (omega arith) ∙ ap (λ (b : Bool). bit (cond b (ltb access.read_at_of depth && words access.read_at_of i) (old i))) e),
          )

      go : (b : Bool) → (on_words.ticks && on_words.reads) ≡ b
          → Moves want n (cond b (spread identity n (memory_port_of p).read_data (fetched depth w mem base on_words.read_at_of)) n)
          × ((access.ticks && access.reads) ≡ true → (i : ℕ) → i < w → get_or (cond b (spread identity n (memory_port_of p).read_data (fetched depth w mem base on_words.read_at_of)) n) (get_or p (4 + get_or p 0 0 + i) 0) 0 ≡ want (get_or p (4 + get_or p 0 0 + i) 0))
      go true e =
          let m = moves_spread want identity n (memory_port_of p).read_data (fetched depth w mem base on_words.read_at_of) (each (sym same ∙ e)) in (
            m.0,
            λ q i l. (let d = data_at_law u i l in
                ap (λ (j : ℕ). get_or (spread identity n (memory_port_of p).read_data (fetched depth w mem base on_words.read_at_of)) j 0) (sym d) ∙ m.1 i (let z = data_length u in omega arith) ∙ ap want d),
          )
      go false e = (moves_none want n, λ q i l. untrue (sym e ∙ same ∙ q))

  -- it does not read: its data stays
  pub port_held : (words : ℕ → ℕ → Bool) (depth : ℕ) (old : ℕ → Bool) (i : ℕ) → (access.ticks && access.reads) ≡ false → read_next depth words old access i ≡ old i
  port_held words depth old i e = ap (λ (b : Bool). cond b (ltb access.read_at_of depth && words access.read_at_of i) (old i)) e

  -- it writes
  pub record Written (words : ℕ → ℕ → Bool) (depth base : ℕ) (mem mem' : List ℕ) : Type 0 where
    pub long : length mem' ≡ length mem
    pub rows : Rows (write_next depth words access) depth w base mem'
    pub below : (j : ℕ) → j < base → get_or mem' j 0 ≡ get_or mem j 0
    pub above : (j : ℕ) → base + depth * w ≤ j → get_or mem' j 0 ≡ get_or mem j 0

  pub port_written_law : (words : ℕ → ℕ → Bool) (depth base : ℕ) (mem : List ℕ) → Rows words depth w base mem → base + depth * w ≤ length mem → Written words depth base mem (port_written depth w base p v n mem)
  unfolding port_written
  port_written_law words depth base mem r room = go (on_words.ticks && on_words.writes && ltb on_words.write_at depth) refl
    where
      a : ℕ
      a = on_words.write_at

      bits : List ℕ
      bits = map (λ (j : ℕ). bit (on v j)) (memory_port_of p).write_data

      bits_length : length bits ≡ w
      bits_length = length-map (memory_port_of p).write_data (λ (j : ℕ). bit (on v j)) ∙ written_length u

      tests : (d : ℕ) → (access.ticks && access.writes && eqb access.write_at d && ltb d depth) ≡ (on_words.ticks && on_words.writes && eqb on_words.write_at d && ltb d depth)
      tests d =
          sym (ap (λ (b : Bool). b && on_words.writes && eqb on_words.write_at d && ltb d depth) (ticks_same u ok s t c x y clock)
          ∙ ap (λ (b : Bool). access.ticks && b && eqb on_words.write_at d && ltb d depth) (writes_same u ok s t c x y)
          ∙ ap (λ (b : ℕ). access.ticks && access.writes && eqb b d && ltb d depth) (write_at_same u ok s t c x y))

      go : (b : Bool) → (on_words.ticks && on_words.writes && ltb a depth) ≡ b → Written words depth base mem (cond b (laid mem (base + a * w) bits) mem)
      go true e =
          let q = three on_words.ticks on_words.writes (ltb a depth) e in
          let l = ltb-true a depth q.1.1 in
          let z = row_in a depth w l in
          let n = bits_length in
          record {
            long = laid_long mem (base + a * w) bits;
            rows = record { at = λ d i hd hi. row d i hd hi q.0 q.1.0 l };
            below = λ j h. laid_below mem (base + a * w) bits j (omega arith);
            above = λ j h. laid_above mem (base + a * w) bits j (omega arith);
          }
        where
          row : (d i : ℕ) → d < depth → i < w → on_words.ticks ≡ true → on_words.writes ≡ true → a < depth → get_or (laid mem (base + a * w) bits) (base + d * w + i) 0 ≡ bit (write_next depth words access d i)
          row d i hd hi et ew l = elim (ℕ_discrete d a) [
            | yes f ↦ (
                let z = row_in a depth w l in
                let m = bits_length in
                let j : base + d * w + i ≡ base + a * w + i = ap (λ (k : ℕ). base + k * w + i) f in
                ap (λ (k : ℕ). get_or (laid mem (base + a * w) bits) k 0) j ∙ laid_at mem (base + a * w) bits i (omega arith) (omega arith) ∙ stored i hi
                ∙ sym (ap (λ (b : Bool). bit (cond b (access.written i) (words d i))) (tests d ∙ all et ew (eq-eqb a d (sym f)) (lt-ltb d depth hd))))
            | no f ↦ (
                apart d i hd hi f ∙ r.at d i hd hi
                ∙ sym (ap (λ (b : Bool). bit (cond b (access.written i) (words d i))) (tests d ∙ other (ne_eqb a d (λ z. f (sym z))))))
          ]
            where
              other : eqb a d ≡ false → (on_words.ticks && on_words.writes && eqb a d && ltb d depth) ≡ false
              other z = ap (λ (b : Bool). on_words.ticks && on_words.writes && b && ltb d depth) z ∙ off on_words.ticks on_words.writes (ltb d depth)

              stored : (i : ℕ) → i < w → get_or bits i 0 ≡ bit (access.written i)
              stored i h = map_at v (memory_port_of p).write_data i (let z = written_length u in omega arith) ∙ ap (λ (l : List Bool). bit (get_or l i false)) (written_same u ok s t c x y)

              apart : (d i : ℕ) → d < depth → i < w → (d ≡ a → ⊥) → get_or (laid mem (base + a * w) bits) (base + d * w + i) 0 ≡ get_or mem (base + d * w + i) 0
              apart d i hd hi f = elim (dec_lt d a) [
                | yes g ↦ laid_below mem (base + a * w) bits (base + d * w + i) (let z = row_before d a w i g hi in omega arith)
                | no g ↦ laid_above mem (base + a * w) bits (base + d * w + i) (let m = bits_length in let z = row_in a d w (over d a g f) in omega arith)
              ]
      go false e = record {
        long = refl;
        rows = record { at = λ d i hd hi. r.at d i hd hi ∙ sym (ap (λ (b : Bool). bit (cond b (access.written i) (words d i))) (tests d ∙ none_here d hd)) };
        below = λ j h. refl;
        above = λ j h. refl;
      }
        where
          none_here : (d : ℕ) → d < depth → (on_words.ticks && on_words.writes && eqb a d && ltb d depth) ≡ false
          none_here d hd = pick_off on_words.ticks on_words.writes (eqb a d) refl e
            where
              pick_off : (b₁ b₂ b₃ : Bool) → eqb a d ≡ b₃ → (b₁ && b₂ && ltb a depth) ≡ false → (b₁ && b₂ && b₃ && ltb d depth) ≡ false
              pick_off true true true q f = ap (λ (k : ℕ). ltb k depth) (sym (eqb-true a d q)) ∙ f
              pick_off true true false q f = refl
              pick_off true false b₃ q f = refl
              pick_off false b₂ b₃ q f = refl
