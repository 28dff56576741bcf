-- The slots that moments of a run are kept in, and what they hold. Assumes nothing.
use Rattle.std.specs.Prelude.{ℕ, suc, ◌+◌, ◌*◌, ◌≤◌, ◌<◌, ◌≡◌, Bool, true, false, length, drop, get_or}
use Rattle.std.proofs.Common.{arith, ◌∙◌}
use Rattle.std.proofs.Math.Path.{refl}
use mathlib.Core.List.{List, [], ◌∷◌}
use Rattle.spec_rtl.specs.Word.{bit}
use Rattle.spec_tests.specs.Rules.{Fine}
use Rattle.spec_rules.specs.NetlistImage.{netlist}
use Rattle.spec_rules.specs.Step.{Setting, net}
use Rattle.spec_netlist.specs.Accept.{accepts}
use Rattle.spec_trace.specs.Trace.{Now, Before, At, reached}
use Rattle.spec_trace.specs.Named.{Named, History, landed}
use Rattle.trace_walk.specs.Places.{Places}
use Rattle.trace_pass.specs.Plan.{size}
use Rattle.trace_fit.specs.Fit.{Small, memories_small}
use Rattle.trace_step.specs.Words.{base_at}
use Rattle.trace_sim.specs.Bases.{bit_below}
use Rattle.trace_line.specs.State.{Prepared, Sized, Holds, base_total}
use Rattle.trace_names.specs.Numbers.{number, Name}

-- ---- the tables ----

-- a slot has 1,024 words for the nets' values and 65,536 for the memories' bits
abbrev pub values_of : List ℕ → ℕ → List ℕ
values_of kept i = drop (66560 * i) kept

abbrev pub memory_of : List ℕ → ℕ → List ℕ
memory_of kept i = drop (66560 * i + 1024) kept

-- four names and four slots beside the tables of a run
pub record Roomy (values memory names kept : List ℕ) : Type 0 where
  pub values_long : length values ≡ 1024
  pub memory_long : 65536 ≤ length memory
  pub four : length names ≡ 4
  pub slots_long : 266240 ≤ length kept

pub roomy_same : {values memory names kept values' memory' names' kept' : List ℕ} → Roomy values memory names kept → length values' ≡ length values → length memory' ≡ length memory → length names' ≡ length names → length kept' ≡ length kept
    → Roomy values' memory' names' kept'
roomy_same r a b c d = record {
  values_long = a ∙ r.values_long;
  memory_long = (let z = r.memory_long in omega arith);
  four = c ∙ r.four;
  slots_long = (let z = r.slots_long in omega arith);
}

-- what is used of them
pub record Used (ws memories : List ℕ) (nm : ℕ) : Type 0 where
  pub places : Places ws 2 memories nm
  pub small : Small ws memories nm
  pub nets : size ws ≤ 1024
  pub bits : base_at ws memories nm ≤ 65536

pub used_of : {ws steps : List ℕ} {count : ℕ} {inputs outputs registers : List ℕ} {nr : ℕ} {memories : List ℕ} {nm : ℕ} → Prepared ws steps count inputs outputs registers nr memories nm → {values memory names kept : List ℕ}
    → Sized ws values memory → Roomy values memory names kept → Used ws memories nm
used_of {ws} p z r = record {
  places = p.memories_at;
  small = memories_small ws p.ok p.memories_at;
  nets = (let a = z.wide in let b = r.values_long in omega arith);
  bits = base_total p;
}

-- ---- what they hold ----

module _ (ws : List ℕ) (ok : accepts ws ≡ Fine) (memories : List ℕ) where
  -- slot i: where a run over these settings stands
  pub record Slot (kept : List ℕ) (i : ℕ) (past : List Setting) : Type 0 where
    pub holds : Holds ws ok memories 1 (landed ws Before past) (values_of kept i) (memory_of kept i)

  -- from slot i on each of the names held has one, and no other name is there
  unfoldable pub Slots : List ℕ → List ℕ → ℕ → List (Named (List Setting)) → Type 0
  Slots names kept i [] = (j : ℕ) → i ≤ j → get_or names j 0 ≡ 0
  Slots names kept i (x ∷ xs) = ((get_or names i 0 ≡ number x.name) × Name x.name) × (Slot kept i x.what × Slots names kept (suc i) xs)

  -- the run stands where its history says, and so does each slot, before line k
  pub record Follows (k : ℕ) (h : History) (values memory names kept : List ℕ) : Type 0 where
    pub stands : Holds ws ok memories k (landed ws Before h.past) values memory
    pub slots : Slots names kept 0 h.held
    pub few : length h.held ≤ 4

-- ---- tables with the same words ----

module _ (ws : List ℕ) (ok : accepts ws ≡ Fine) (memories : List ℕ) where
  -- the words in use are the same
  pub record Same (nm : ℕ) (values memory values' memory' : List ℕ) : Type 0 where
    pub places : Places ws 2 memories nm
    pub nets : (j : ℕ) → j < size ws → get_or values' j 0 ≡ get_or values j 0
    pub bits : (j : ℕ) → j < base_at ws memories nm → get_or memory' j 0 ≡ get_or memory j 0

  -- the first line has been taken: then they hold the same
  pub holds_same : (now : Now) (k l : ℕ) {nm : ℕ} {values memory values' memory' : List ℕ} → Same nm values memory values' memory' → 0 < k → 0 < l
      → Holds ws ok memories k now values memory → Holds ws ok memories l now values' memory'
  holds_same Before k l x a b h = absurd (let z = h.0 in omega arith)
  holds_same (At s c) k l x a b h = (
    b,
    (
      record { holds = λ j i. x.nets j i ∙ h.1.0.holds j i },
      record { rows = λ m l. record { at = λ y z i j. x.bits _ (bit_below ws ok x.places m l y z i j) ∙ (h.1.1.rows m l).at y z i j } },
    ),
  )

  pub same_all : {nm : ℕ} → Places ws 2 memories nm → (values memory : List ℕ) → Same nm values memory values memory
  same_all p values memory = record { places = p; nets = λ j i. refl; bits = λ j i. refl }

  -- every word of a table that holds values is a bit
  bit_low : (b : Bool) → bit b < 2
  bit_low true = omega arith
  bit_low false = omega arith

  pub bits_held : (now : Now) (k : ℕ) (values memory : List ℕ) → 0 < k → Holds ws ok memories k now values memory → (j : ℕ) → j < size ws → get_or values j 0 < 2
  bits_held Before k values memory a h j i = absurd (let z = h.0 in omega arith)
  bits_held (At s c) k values memory a h j i = let b = bit_low (net (netlist ws) s c j) in omega (arith, h.1.0.holds j i, b)

  -- ---- the moments of a run ----

  -- before the first settings line, and only then, a history is empty
  landed_there : (s : Setting) (ts : List Setting) (now : Now) (values memory : List ℕ) → Holds ws ok memories 0 (landed ws (At s (reached ws now s)) ts) values memory → ⊥
  unfolding landed
  landed_there s [] now values memory h = absurd (let z = h.0 in omega arith)
  landed_there s (t ∷ ts) now values memory h = landed_there t ts (At s (reached ws now s)) values memory h

  pub past_none : (past : List Setting) (values memory : List ℕ) → Holds ws ok memories 0 (landed ws Before past) values memory → length past ≡ 0
  unfolding landed
  past_none [] values memory h = refl
  past_none (s ∷ ts) values memory h = absurd (landed_there s ts Before values memory h)

  pub past_some : (past : List Setting) (k : ℕ) (values memory : List ℕ) → 0 < k → Holds ws ok memories k (landed ws Before past) values memory → length past ≡ 0 → ⊥
  unfolding landed
  past_some [] k values memory a h e = absurd (let z = h.0 in omega arith)
  past_some (s ∷ ts) k values memory a h e = absurd (omega arith)
