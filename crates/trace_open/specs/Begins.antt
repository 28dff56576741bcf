-- Where a run begins that was opened: all nets and memory bits hold 0, and no name is held. Assumes nothing.
use Rattle.std.specs.Prelude.{ℕ, zero, suc, ◌≤◌, ◌≡◌, refl, List, length, get_or, replicate, Result, Ok}
use Rattle.std.proofs.Common.{arith, ◌∙◌}
use Rattle.std.proofs.Math.Path.{sym, ap}
use Rattle.std.proofs.lemmas.List.{length-replicate}
use Rattle.spec_tests.specs.Rules.{Fine}
use Rattle.spec_rules.specs.Checks.{refuse}
use Rattle.spec_trace.specs.Opened.{opened, unfit}
use Rattle.law_told.specs.Told.{then_both}
use Rattle.trace_pass.specs.Plan.{size}
use Rattle.trace_pass.specs.Steps.{size_is}
use Rattle.trace_line.specs.State.{Prepared}
use Rattle.trace_answer.specs.Lines.{Underway}
use Rattle.trace_run.specs.Calls.{at_start}
use Rattle.trace_line.specs.declared.Tables.{Tables}
use Rattle.trace_line.specs.Bundles.{steps_of}
use Rattle.trace_image.specs.declared.Refusal.{Refusal}
use Rattle.trace_open.specs.Opens.{answer_of, judgement, accepted, Opens}

pub zeros : (n j : ℕ) → get_or {A = ℕ} (replicate n 0) j 0 ≡ 0
zeros zero j = refl
zeros (suc n) zero = refl
zeros (suc n) (suc j) = zeros n j

-- the tables of an image that can be run
pub record Fresh (ws steps : List ℕ) (count : ℕ) (inputs outputs registers : List ℕ) (nr : ℕ) (memories : List ℕ) (nm : ℕ) : Type 0 where
  pub prepared : Prepared ws steps count inputs outputs registers nr memories nm
  pub nets : size ws ≤ 1024

pub zero_at : {v : List ℕ} (n : ℕ) → v ≡ replicate n 0 → (j : ℕ) → get_or v j 0 ≡ 0
zero_at n e j = ap (λ (l : List ℕ). get_or l j 0) e ∙ zeros n j

-- the tables of a run beside them, as they are made
pub underway_at : {ws steps : List ℕ} {count : ℕ} {inputs outputs inputs' outputs' registers : List ℕ} {nr : ℕ} {memories : List ℕ} {nm : ℕ} {v m n kept : List ℕ} → inputs' ≡ inputs → outputs' ≡ outputs → v ≡ replicate 1024 0
    → m ≡ replicate 65536 0 → n ≡ replicate 4 0 → 266240 ≡ length kept → Fresh ws steps count inputs outputs registers nr memories nm → Underway ws steps count inputs' outputs' registers nr memories nm 0 v m n kept
underway_at {ws} {steps} {count} {inputs} {outputs} {registers = registers} {nr = nr} {memories = memories} {nm = nm} i o e f g l x =
    let lv = ap length e ∙ length-replicate {A = ℕ} 1024 0 in
    let lm = ap length f ∙ length-replicate {A = ℕ} 65536 0 in
    let ln = ap length g ∙ length-replicate {A = ℕ} 4 0 in
    let nets = x.nets in
    rw (i, o) (at_start ws steps count inputs outputs registers nr memories nm x.prepared (omega arith) (record { low = λ j. let q = zero_at 1024 e j in omega arith })
    (record { values_long = lv; memory_long = omega arith; four = ln; slots_long = omega arith }) (zero_at 1024 e) (zero_at 65536 f) (zero_at 4 g))

-- the same of the struct of the code
abbrev pub FreshBy : Tables → Type 0
FreshBy t = Fresh t.net.now (steps_of t) (length t.steps.now) t.inputs.now t.outputs.now t.registers.now (length t.registers.now) t.memories.now (length t.memories.now)

module _ {ws : List ℕ} {o : Result Tables Refusal} (r : Opens ws o) {t : Tables} (e : o ≡ Ok t) where
  -- nothing is wrong with the image
  pub judged_fine : judgement ws ≡ Fine
  judged_fine = sym r.answers ∙ ap answer_of e

  pub opened_fresh : Fresh ws (steps_of t) (length t.steps.now) t.inputs.now t.outputs.now t.registers.now (length t.registers.now) t.memories.now (length t.memories.now)
  unfolding judgement
  opened_fresh =
      let f = then_both (opened 1024 2048 ws) (refuse (unfit 65536 ws) 12) judged_fine in
      let a = accepted ws (sym f.0) in
      let z = size_is ws in
      let y = r.tables t e in
      record { prepared = rw y.net at y.prepared; nets = omega (arith, a.1) }

  -- the same of the netlist that stands among the tables
  pub tables_fresh : FreshBy t
  tables_fresh = let y = r.tables t e in rw y.net opened_fresh
