-- Where a run stands, and what a line makes of its tables. Assumes nothing.
use Rattle.std.specs.Prelude.{ℕ, ◌+◌, ◌≤◌, ◌<◌, ◌≡◌}
use Rattle.std.proofs.Common.{arith, sym, subst, ◌∙◌}
use Rattle.std.proofs.Math.Path.{refl, ap}
use mathlib.Core.List.{List}
use Rattle.spec_trace.specs.Trace.{setting_of, Now, Before, At, reached, clash_at}
use Rattle.trace_step.specs.Words.{spread}
use Rattle.trace_clash.specs.Words.{lowest_clash}
use Rattle.trace_clash.specs.Lowest.{lowest_is}
use Rattle.trace_line.specs.State.{Prepared, Sized, Holds, fit_of}
use Rattle.trace_line.specs.Step.{char, inputs_loaded}

module _ (ws steps : List ℕ) (count : ℕ) (inputs outputs registers : List ℕ) (nr : ℕ) (memories : List ℕ) (nm k : ℕ) where
  pub record Standing (values memory : List ℕ) : Type 0 where
    pub prepared : Prepared ws steps count inputs outputs registers nr memories nm
    pub sized : Sized ws values memory
    pub stands : Now
    pub holds : Holds ws prepared.ok memories k stands values memory

  pub record After (l values memory values' memory' : List ℕ) : Type 0 where
    pub says : (p : Prepared ws steps count inputs outputs registers nr memories nm) (n : Now) → Holds ws p.ok memories k n values memory
        → Holds ws p.ok memories (k + 1) (At (setting_of ws l) (reached ws n (setting_of ws l))) values' memory'
    pub sized : Sized ws values' memory'

  -- the clash is the step's, and where there is none the tables are those after the line
  pub record Taken (l values memory : List ℕ) (clash : ℕ) (values' memory' : List ℕ) : Type 0 where
    pub clashes : (p : Prepared ws steps count inputs outputs registers nr memories nm) (n : Now) → Holds ws p.ok memories k n values memory → clash ≡ clash_at ws n (setting_of ws l)
    pub after : 16 ≤ clash → After l values memory values' memory'

-- the step's clash, wherever the run stands
module _ {ws steps : List ℕ} {count : ℕ} {inputs outputs registers : List ℕ} {nr : ℕ} {memories : List ℕ} {nm : ℕ} (p : Prepared ws steps count inputs outputs registers nr memories nm) (l : List ℕ) {values memory : List ℕ} (z : Sized ws values memory) where
  pub clashes_at : {k : ℕ} → 0 < k → (n : Now) → Holds ws p.ok memories k n values memory → {v w : List ℕ} {x : ℕ} → v ≡ values → w ≡ spread char values inputs l → x ≡ lowest_clash ws v w memories nm → x ≡ clash_at ws n (setting_of ws l)
  unfolding clash_at
  clashes_at b Before h ev ew ex = absurd (let q = h.0 in omega arith)
  clashes_at b (At s c) h {v} {w} ev ew ex =
      ex ∙ ap (λ (z : List ℕ). lowest_clash ws z w memories nm) ev ∙ lowest_is ws p.ok (fit_of p) s (setting_of ws l) c h.1.0 (inputs_loaded p l s c values z.wide ew) p.memories_at

  -- the first line makes no step
  pub no_clash : (n : Now) → Holds ws p.ok memories 0 n values memory → 16 ≡ clash_at ws n (setting_of ws l)
  unfolding clash_at
  no_clash Before h = refl
  no_clash (At s c) h = absurd (let q = h.0 in omega arith)

after_first : {ws steps : List ℕ} {count : ℕ} {inputs outputs registers : List ℕ} {nr : ℕ} {memories : List ℕ} {nm k : ℕ} {l values memory values' memory' : List ℕ} → k ≡ 0
    → After ws steps count inputs outputs registers nr memories nm 0 l values memory values' memory' → After ws steps count inputs outputs registers nr memories nm k l values memory values' memory'
after_first {ws} {steps} {count} {inputs} {outputs} {registers} {nr} {memories} {nm} {k} {l} {values} {memory} {values'} {memory'} z a =
    subst (λ (i : ℕ). After ws steps count inputs outputs registers nr memories nm i l values memory values' memory') (sym z) a

pub taken_first : {ws steps : List ℕ} {count : ℕ} {inputs outputs registers : List ℕ} {nr : ℕ} {memories : List ℕ} {nm k : ℕ} {l values memory values' memory' : List ℕ} → Standing ws steps count inputs outputs registers nr memories nm k values memory → k ≡ 0
    → After ws steps count inputs outputs registers nr memories nm 0 l values memory values' memory' → Taken ws steps count inputs outputs registers nr memories nm k l values memory 16 values' memory'
taken_first {ws} {memories = memories} {l = l} {values = values} {memory = memory} x z a = record {
  clashes = λ p n h. no_clash p l x.sized n (subst (λ (i : ℕ). Holds ws p.ok memories i n values memory) z h);
  after = λ g. after_first z a;
}
