-- What the tables of the trace program hold: the plan and lists of an accepted netlist, and where the run stands. Assumes nothing.
use Rattle.std.specs.Prelude.{ℕ, zero, suc, ◌+◌, ◌*◌, ◌≤◌, ◌<◌, ◌≡◌, refl, Bool, true, false, List, [], ◌∷◌, ◌++◌, map, length, drop, get_or}
use Rattle.std.proofs.Common.{not-suc-le-zero, arith, sym, ap, subst, ◌∙◌, length-drop}
use Rattle.std.proofs.Math.ListN.{get_or-append}
use Rattle.spec_tests.specs.Rules.{◌<?◌, pick, only, Fine}
use Rattle.spec_tests.specs.Laws.{or_no, no_lt, sum_more}
use Rattle.spec_rules.specs.NetlistImage as N
use Rattle.spec_rules.specs.NetlistImage.{records_with, memory_of}
use Rattle.spec_netlist.specs.Accept.{accepts}
use Rattle.spec_trace.specs.Opened.{having, register_unfit, memory_unfit, bits_of, unfit, input_nets, output_nets}
use Rattle.spec_trace.specs.Trace.{Now, Before, At}
use Rattle.law_sorts.specs.Memories.{MemoryPortTold, MemoryTold, own_length}
use Rattle.law_sorts.specs.Cut.{drop_in}
use Rattle.trace_cells.specs.Digits.{Bits}
use Rattle.trace_walk.specs.Places.{Begins, Places}
use Rattle.trace_pass.specs.Plan.{size, Plan, Valued}
use Rattle.trace_fit.specs.Fit.{bits_at, memories_bits}
use Rattle.trace_step.specs.Words.{base_at, second_words}
use Rattle.trace_memory.specs.Ports.{PortFits, MemoryFits, MemoriesFit}
use Rattle.trace_sim.specs.Sources.{register_at_law, memory_at_law}
use Rattle.trace_sim.specs.Bases.{base_le}
use Rattle.trace_sim.specs.Step.{Fit, Stored, second_in_law}

-- the tables that are made once
pub record Prepared (ws steps : List ℕ) (count : ℕ) (inputs outputs registers : List ℕ) (nr : ℕ) (memories : List ℕ) (nm : ℕ) : Type 0 where
  pub ok : accepts ws ≡ Fine
  pub plan : Plan ws steps count
  pub inputs_are : inputs ≡ input_nets ws
  pub outputs_are : outputs ≡ output_nets ws
  pub registers_at : Places ws 1 registers nr
  pub memories_at : Places ws 2 memories nm
  pub fit : unfit 65536 ws ≡ false

-- the tables of a run: long enough, and bits
pub record Sized (ws values memory : List ℕ) : Type 0 where
  pub wide : size ws ≤ length values
  pub bits : Bits values
  pub room : 65536 ≤ length memory

-- where the run stands, before line k
abbrev pub Holds : (ws : List ℕ) → accepts ws ≡ Fine → List ℕ → ℕ → Now → List ℕ → List ℕ → Type 0
Holds ws ok memories k Before values memory = (k ≡ 0) × (((j : ℕ) → get_or values j 0 ≡ 0) × ((j : ℕ) → get_or memory j 0 ≡ 0))
Holds ws ok memories k (At s c) values memory = (0 < k) × (Valued ws s c values × Stored ws ok c memories memory)

-- ---- what is fit ----

none_of : {A : Type 0} (f : A → Bool) (xs : List A) (d : A) → having f xs ≡ false → (i : ℕ) → i < length xs → f (get_or xs i d) ≡ false
unfolding having only pick
none_of f [] d e i h = absurd (not-suc-le-zero h)
none_of {A} f (x ∷ xs) d e i h = go (f x) refl e i h (λ e i h. none_of f xs d e i h)
  where
    go : (b : Bool) → f x ≡ b → (0 <? length (pick b (x ∷ only f xs) (only f xs))) ≡ false → (i : ℕ) → i < length (x ∷ xs)
        → ((0 <? length (only f xs)) ≡ false → (i : ℕ) → i < length xs → f (get_or xs i d) ≡ false) → f (get_or (x ∷ xs) i d) ≡ false
    go true q e i h ih = absurd (let z = no_lt 0 (length (x ∷ only f xs)) e in omega arith)
    go false q e zero h ih = q
    go false q e (suc i) h ih = ih e i (omega arith)

parts : (ws : List ℕ) → unfit 65536 ws ≡ false → (having (register_unfit ws) (records_with 1 ws) ≡ false) × ((having (memory_unfit ws) (map memory_of (records_with 2 ws)) ≡ false) × (bits_of (map memory_of (records_with 2 ws)) ≤ 65536))
unfolding unfit
parts ws e = let a = or_no e in let b = or_no a.1 in (a.0, (b.0, no_lt 65536 _ b.1))

map_get_or : (rs : List (List ℕ)) (i : ℕ) → i < length rs → (d : N.MemoryCell) → get_or (map memory_of rs) i d ≡ memory_of (get_or rs i [])
map_get_or [] i h d = absurd (not-suc-le-zero h)
map_get_or (r ∷ rs) zero h d = refl
map_get_or (r ∷ rs) (suc i) h d = map_get_or rs i (omega arith) d

map_length : (rs : List (List ℕ)) → length (map memory_of rs) ≡ length rs
map_length [] = refl
map_length (r ∷ rs) = ap suc (map_length rs)

module _ {ws : List ℕ} {earlier : List (List ℕ)} {r : List ℕ} (t : MemoryTold ws earlier r) (rest : List ℕ) where
  word_of : (i : ℕ) → i < 8 → get_or (r ++ rest) i 0 ≡ get_or r i 0
  word_of i h = get_or-append r rest 0 i (let l = t.first.long in let n = own_length (drop 6 r) in let d = length-drop 6 r in omega arith)

  bits_here : {l : List ℕ} → l ≡ r ++ rest → get_or l 2 0 * get_or l 7 0 ≡ get_or r 2 0 * get_or r 7 0
  bits_here e = ap (λ (z : List ℕ). get_or z 2 0 * get_or z 7 0) e ∙ ap (λ (z : ℕ). z * get_or (r ++ rest) 7 0) (word_of 2 (omega arith)) ∙ ap (λ (z : ℕ). get_or r 2 0 * z) (word_of 7 (omega arith))

  port_fits : {k w base₀ : ℕ} {p : List ℕ} → MemoryPortTold ws earlier k w base₀ p → w ≡ get_or r 7 0 → (q : List ℕ) → q ≡ p ++ rest → (base : ℕ) → base + get_or r 2 0 * get_or r 7 0 ≤ 65536 → PortFits q (get_or (r ++ rest) 2 0) (get_or (r ++ rest) 7 0) base
  port_fits {p = p} u e q eq base room =
      let n = own_length p in
      let l = u.long in
      let w0 : get_or q 0 0 ≡ get_or p 0 0 = ap (λ (z : List ℕ). get_or z 0 0) eq ∙ get_or-append p rest 0 0 (omega arith) in
      let w2 : get_or q 2 0 ≡ get_or p 2 0 = ap (λ (z : List ℕ). get_or z 2 0) eq ∙ get_or-append p rest 0 2 (omega arith) in
      let w3 : get_or q 3 0 ≡ get_or p 3 0 = ap (λ (z : List ℕ). get_or z 3 0) eq ∙ get_or-append p rest 0 3 (omega arith) in
      let a = u.address in
      let b = u.write_address in
      let c = u.data_wide in
      let d = word_of 7 (omega arith) in
      let f = bits_here {l = r ++ rest} refl in
      record { address = omega arith; write_address = omega arith; written = omega arith; room = omega arith }

  fits_memory : (base : ℕ) → base + get_or r 2 0 * get_or r 7 0 ≤ 65536 → MemoryFits (r ++ rest) base
  fits_memory base room = record {
    first = port_fits t.first refl (drop 6 (r ++ rest)) (drop_in r rest 6 t.six) base room;
    second = λ e. port_fits (t.second (sym (word_of 5 (omega arith)) ∙ e)) refl (second_words (r ++ rest)) (second_in_law t rest) base room;
  }

module _ {ws steps : List ℕ} {count : ℕ} {inputs outputs registers : List ℕ} {nr : ℕ} {memories : List ℕ} {nm : ℕ} (p : Prepared ws steps count inputs outputs registers nr memories nm) where
  pub fit_of : Fit ws p.ok
  fit_of = record {
    registers = λ m l. (let a = register_at_law ws p.ok m l in ap (register_unfit ws) (sym a.it.is) ∙ none_of (register_unfit ws) (records_with 1 ws) [] (parts ws p.fit).0 m l);
    memories = λ m l. (let a = memory_at_law ws p.ok m l in
        let d = memory_of [] in
        ap (λ (z : List ℕ). memory_unfit ws (memory_of z)) (sym a.it.is) ∙ ap (memory_unfit ws) (sym (map_get_or (records_with 2 ws) m l d))
        ∙ none_of (memory_unfit ws) (map memory_of (records_with 2 ws)) d (parts ws p.fit).1.0 m (let e = map_length (records_with 2 ws) in omega arith));
  }

  pub base_total : base_at ws memories nm ≤ 65536
  base_total = let e = memories_bits ws p.ok p.memories_at in let b = (parts ws p.fit).1.1 in omega arith

  pub memories_fit : MemoriesFit ws memories nm
  memories_fit = record { each = λ i h. one i h }
    where
      one : (i : ℕ) → i < nm → MemoryFits (drop (get_or memories i 0) ws) (base_at ws memories i)
      one i h =
          let q = p.memories_at in
          let n = q.count in
          let a = memory_at_law ws p.ok i (omega arith) in
          let b = subst (λ (z : List ℕ). Begins ws (get_or memories i 0) z) a.it.is (q.at i h) in
          subst (λ (z : List ℕ). MemoryFits z (base_at ws memories i)) (sym b.is) (fits_memory a.told b.rest (base_at ws memories i) (let m = sum_more (bits_at ws memories) i in let t = base_total in let l = base_le ws memories (i + 1) nm (omega arith) in
          let e = bits_here a.told b.rest b.is in omega arith))
