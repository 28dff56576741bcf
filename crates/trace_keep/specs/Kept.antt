-- What keeping a moment and coming back to it make of the tables. Assumes nothing.
use Rattle.std.specs.Prelude.{ℕ, ◌+◌, ◌*◌, ◌≤◌, ◌<◌, ◌≡◌, Bool, true, false, List, [], ◌⊎◌, length, get_or, set}
use Rattle.std.proofs.Common.{arith, sym, ap, subst, ◌∙◌, inl, inr, ⊎_elim, get_or-drop, get_or-set_same, get_or-set_other}
use Rattle.std.proofs.Math.Decide.{dec_lt}
use Rattle.std.proofs.Math.Option.{none, some}
use Rattle.spec_tests.specs.Rules.{Fine, Refused}
use Rattle.spec_tests.specs.Laws.{or_left, or_right, eq_yes, lt_yes}
use Rattle.spec_rules.specs.Step.{Setting}
use Rattle.spec_netlist.specs.Accept.{accepts}
use Rattle.spec_trace.specs.Trace.{Before, Goes, Stops}
use Rattle.spec_trace.specs.Named as Named
use Rattle.spec_trace.specs.Named.{History, landed, put, find}
use Rattle.law_told.specs.Told.{untrue}
use Rattle.law_histories.specs.Lines.{kept_in, back_to, kept_goes, kept_stops}
use Rattle.trace_cells.specs.Digits.{Bits}
use Rattle.trace_pass.specs.Plan.{size}
use Rattle.trace_pass.specs.Steps.{size_is}
use Rattle.trace_step.specs.Words.{base_at}
use Rattle.trace_line.specs.State.{Holds}
use Rattle.trace_names.specs.Numbers.{number, Name}
use Rattle.trace_names.specs.Searched.{Others, Place, place_there}
use Rattle.trace_keep.specs.Copies.{Copied}
use Rattle.trace_keep.specs.Slots.{values_of, memory_of, Roomy, Used, Follows, Same, holds_same, same_all, bits_held, past_none, past_some}
use Rattle.trace_keep.specs.Places.{name_found, name_none, put_full, put_there}

-- ---- a slot filled, and a slot read ----

module _ (ws memories : List ℕ) (nm : ℕ) where
  pub record Stores (values memory kept : List ℕ) (slot : ℕ) (kept' : List ℕ) : Type 0 where
    pub nets : (j : ℕ) → j < size ws → get_or kept' (66560 * slot + j) 0 ≡ get_or values j 0
    pub bits : (j : ℕ) → j < base_at ws memories nm → get_or kept' (66560 * slot + 1024 + j) 0 ≡ get_or memory j 0
    pub others : (i j : ℕ) → (i ≡ slot → ⊥) → j < 66560 → get_or kept' (66560 * i + j) 0 ≡ get_or kept (66560 * i + j) 0

  pub record Loads (kept : List ℕ) (slot : ℕ) (values values' memory' : List ℕ) : Type 0 where
    pub nets : (j : ℕ) → j < size ws → get_or values' j 0 ≡ get_or kept (66560 * slot + j) 0
    pub bits : (j : ℕ) → j < base_at ws memories nm → get_or memory' j 0 ≡ get_or kept (66560 * slot + 1024 + j) 0
    pub rest : (j : ℕ) → size ws ≤ j → get_or values' j 0 ≡ get_or values j 0

module _ {ws memories : List ℕ} {nm : ℕ} (u : Used ws memories nm) where
  module _ {n m slot : ℕ} (en : n ≡ get_or ws 1 0) (em : m ≡ base_at ws memories nm) where
    pub stores : {values memory kept kept₁ kept' : List ℕ} → Copied values 0 kept (66560 * slot) n kept₁ → Copied memory 0 kept₁ (66560 * slot + 1024) m kept' → Stores ws memories nm values memory kept slot kept'
    stores {values} {memory} {kept} {kept₁} {kept'} a b =
        let e = size_is ws in
        let f = u.nets in
        let g = u.bits in
        record {
          nets = λ j h. b.below (66560 * slot + j) (omega arith) ∙ a.new j (omega arith) ∙ ap (λ (i : ℕ). get_or values i 0) (let z : 0 + j ≡ j = omega arith in z);
          bits = λ j h. b.new j (omega arith) ∙ ap (λ (i : ℕ). get_or memory i 0) (let z : 0 + j ≡ j = omega arith in z);
          others = λ i j ne h. elim (dec_lt i slot) [
            | yes l ↦ b.below (66560 * i + j) (omega arith) ∙ a.below (66560 * i + j) (omega arith)
            | no l ↦ (let z : slot + 1 ≤ i = more i ne l in b.above (66560 * i + j) (omega arith) ∙ a.above (66560 * i + j) (omega arith))
          ];
        }
      where
        more : (i : ℕ) → (i ≡ slot → ⊥) → (i < slot → ⊥) → slot + 1 ≤ i
        more i ne l = elim (dec_lt slot i) [
          | yes h ↦ omega arith
          | no h ↦ absurd (ne (omega arith))
        ]

    pub loads : {values memory kept values' memory' : List ℕ} → Copied kept (66560 * slot) values 0 n values' → Copied kept (66560 * slot + 1024) memory 0 m memory' → Loads ws memories nm kept slot values values' memory'
    loads {values} {memory} {kept} {values'} {memory'} a b =
        let e = size_is ws in
        record {
          nets = λ j h. ap (λ (i : ℕ). get_or values' i 0) (let z : j ≡ 0 + j = omega arith in z) ∙ a.new j (omega arith);
          bits = λ j h. ap (λ (i : ℕ). get_or memory' i 0) (let z : j ≡ 0 + j = omega arith in z) ∙ b.new j (omega arith);
          rest = λ j h. a.above j (omega arith);
        }

  -- the same words in the slot, in other slots, in the tables
  stored_same : {values memory kept kept' : List ℕ} {slot : ℕ} → (ok : accepts ws ≡ Fine) → Stores ws memories nm values memory kept slot kept' → Same ws ok memories nm values memory (values_of kept' slot) (memory_of kept' slot)
  stored_same {kept' = kept'} {slot = slot} ok s = record {
    places = u.places;
    nets = λ j h. get_or-drop (66560 * slot) kept' j 0 ∙ s.nets j h;
    bits = λ j h. get_or-drop (66560 * slot + 1024) kept' j 0 ∙ s.bits j h;
  }

  other_same : {values memory kept kept' : List ℕ} {slot : ℕ} → (ok : accepts ws ≡ Fine) → Stores ws memories nm values memory kept slot kept' → (i : ℕ) → (i ≡ slot → ⊥) → Same ws ok memories nm (values_of kept i) (memory_of kept i) (values_of kept' i) (memory_of kept' i)
  other_same {kept = kept} {kept' = kept'} {slot = slot} ok s i ne = record {
    places = u.places;
    nets = λ j h. get_or-drop (66560 * i) kept' j 0 ∙ s.others i j ne (let f = u.nets in omega arith) ∙ sym (get_or-drop (66560 * i) kept j 0);
    bits = λ j h. (
        let f = u.bits in
        let z : 66560 * i + (1024 + j) ≡ 66560 * i + 1024 + j = omega arith in
        get_or-drop (66560 * i + 1024) kept' j 0 ∙ ap (λ (k : ℕ). get_or kept' k 0) (sym z) ∙ s.others i (1024 + j) ne (omega arith) ∙ ap (λ (k : ℕ). get_or kept k 0) z ∙ sym (get_or-drop (66560 * i + 1024) kept j 0));
  }

  loaded_same : {kept values values' memory' : List ℕ} {slot : ℕ} → (ok : accepts ws ≡ Fine) → Loads ws memories nm kept slot values values' memory' → Same ws ok memories nm (values_of kept slot) (memory_of kept slot) values' memory'
  loaded_same {kept = kept} {slot = slot} ok s = record {
    places = u.places;
    nets = λ j h. s.nets j h ∙ sym (get_or-drop (66560 * slot) kept j 0);
    bits = λ j h. s.bits j h ∙ sym (get_or-drop (66560 * slot + 1024) kept j 0);
  }

-- ---- a line that keeps, and one that comes back ----

module _ (ws memories : List ℕ) (k : ℕ) (w values memory names kept : List ℕ) where
  pub record Keeps (r : Bool) (names' kept' : List ℕ) : Type 0 where
    pub refused : r ≡ false → (ok : accepts ws ≡ Fine) (h : History) → Follows ws ok memories k h values memory names kept → Named.kept k w h ≡ Stops (Refused 15 k 0)
    pub done : r ≡ true → (ok : accepts ws ≡ Fine) (h : History) → Follows ws ok memories k h values memory names kept
        → (Named.kept k w h ≡ Goes [] (kept_in w h)) × Follows ws ok memories (k + 1) (kept_in w h) values memory names' kept'

  -- the history at the name's last keep
  pub record Came (ok : accepts ws ≡ Fine) (h : History) (values' memory' : List ℕ) : Type 0 where
    pub past : List Setting
    pub is : find w h.held ≡ some past
    pub follows : Follows ws ok memories (k + 1) (back_to past h) values' memory' names kept
    pub bits : Bits values → Bits values'

  pub record Backs (r : Bool) (values' memory' : List ℕ) : Type 0 where
    pub refused : r ≡ false → (ok : accepts ws ≡ Fine) (h : History) → Follows ws ok memories k h values memory names kept → find w h.held ≡ none
    pub done : r ≡ true → (ok : accepts ws ≡ Fine) (h : History) → Follows ws ok memories k h values memory names kept → Came ok h values' memory'

others_of : (w : List ℕ) {names : List ℕ} {n i : ℕ} → n ≡ number w → Place names n i → Others names (number w) i
others_of w {names} en p j l = subst (λ (m : ℕ). (get_or names j 0 ≡ m → ⊥) × (get_or names j 0 ≡ 0 → ⊥)) en (p.others j l)

module _ {ws memories : List ℕ} {nm : ℕ} (u : Used ws memories nm) {k : ℕ} {w values memory names kept : List ℕ} (room : Roomy values memory names kept) (good : Name w) where
  pub keep_first : k ≡ 0 → Keeps ws memories k w values memory names kept false names kept
  keep_first z = record {
    refused = λ e ok h f. kept_stops k w h (or_left _ (eq_yes (length h.past) 0 (past_none ws ok memories h.past values memory
        (subst (λ (n : ℕ). Holds ws ok memories n (landed ws Before h.past) values memory) z f.stands))));
    done = λ e. untrue e;
  }

  module _ {n i : ℕ} (en : n ≡ number w) (p : Place names n i) (later : 0 < k) where
    pub keep_full : i ≡ length names → Keeps ws memories k w values memory names kept false names kept
    keep_full z = record {
      refused = λ e ok h f. (
          let four = room.four in
          let g = put_full ws ok memories names kept w good h.past 0 h.held f.slots (let q = f.few in omega arith) (λ j l. others_of w en p j (omega arith)) in
          kept_stops k w h (or_right _ (lt_yes 4 (length (put w h.past h.held)) (omega arith))));
      done = λ e. untrue e;
    }

    pub keep_done : (i ≡ length names → ⊥) → {names' kept' : List ℕ} → names' ≡ set names i n → Stores ws memories nm values memory kept i kept' → Keeps ws memories k w values memory names kept true names' kept'
    keep_done ne {names'} {kept'} e s = record {
      refused = λ q. untrue (sym q);
      done = λ q ok h f. (
          let four = room.four in
          let below = place_there p ne in
          let there : i < 4 = omega arith in
          let x = put_there ws ok memories names kept w good h.past i names' kept'
          (ap (λ (l : List ℕ). get_or l i 0) e ∙ get_or-set_same names i n 0 (omega arith) ∙ en)
          (λ j m. ap (λ (l : List ℕ). get_or l j 0) e ∙ get_or-set_other names i j n 0 m)
          (record { holds = holds_same ws ok memories (landed ws Before h.past) k 1 (stored_same u ok s) later (omega arith) f.stands })
          (λ j t l m y. record { holds = holds_same ws ok memories (landed ws Before t) 1 1 (other_same u ok s j m) (omega arith) (omega arith) y.holds })
          there 0 h.held f.slots (omega arith) (let q = f.few in omega arith) (others_of w en p)
          (⊎_elim (λ (a : get_or names i 0 ≡ n). inl (a ∙ en)) (λ (a : get_or names i 0 ≡ 0). inr a) (p.fits (omega arith))) in (
            kept_goes k w h (past_some ws ok memories h.past k values memory later f.stands) (let q = x.few in omega arith),
            record {
              stands = holds_same ws ok memories (landed ws Before h.past) k (k + 1) (same_all ws ok memories u.places values memory) later (omega arith) f.stands;
              slots = x.slots;
              few = (let q = x.few in omega arith);
            },
          ));
    }

  -- ---- back ----

  module _ {n i : ℕ} (en : n ≡ number w) (p : Place names n i) where
    pub back_none : ((i ≡ length names) ⊎ (get_or names i 0 ≡ n → ⊥)) → (values' memory' : List ℕ) → Backs ws memories k w values memory names kept false values' memory'
    back_none y values' memory' = record {
      refused = λ e ok h f. name_none ws ok memories names kept w good 0 h.held f.slots i (omega arith) (others_of w en p) (let q = f.few in omega arith) (λ l. free l) (let four = room.four in let m = p.up_to in omega arith);
      done = λ e. untrue e;
    }
      where
        free : i < 4 → get_or names i 0 ≡ 0
        free l = ⊎_elim (λ (a : i ≡ length names). absurd (let four = room.four in omega arith))
            (λ (a : get_or names i 0 ≡ n → ⊥). ⊎_elim (λ (b : get_or names i 0 ≡ n). absurd (a b)) (λ (b : get_or names i 0 ≡ 0). b) (p.fits (let four = room.four in omega arith))) y

    pub back_done : get_or names i 0 ≡ n → {values' memory' : List ℕ} → Loads ws memories nm kept i values values' memory' → Backs ws memories k w values memory names kept true values' memory'
    back_done e {values'} {memory'} s = record {
      refused = λ q. untrue (sym q);
      done = λ q ok h f. (
          let x = name_found ws ok memories names kept w good 0 h.held f.slots i (omega arith) (others_of w en p) (e ∙ en) in
          let y = holds_same ws ok memories (landed ws Before x.past) 1 (k + 1) (loaded_same u ok s) (omega arith) (omega arith) x.slot.holds in
          record {
            past = x.past;
            is = x.is;
            follows = record { stands = y; slots = f.slots; few = f.few };
            bits = λ b. record {
              low = λ j. elim (dec_lt j (size ws)) [
                | yes l ↦ bits_held ws ok memories (landed ws Before x.past) (k + 1) values' memory' (omega arith) y j l
                | no l ↦ (let r = s.rest j (omega arith) in let z = b.low j in omega arith)
              ];
            };
          });
    }
