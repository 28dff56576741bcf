-- What is proved of specs/Standing: Where a run stands, and what a line makes of its tables. Assumes nothing.
use Rattle.std.specs.Prelude.{ℕ, ◌+◌, ◌≤◌, ◌<◌, ◌≡◌, length}
use Rattle.std.proofs.Common.{arith, subst, ◌∙◌}
use Rattle.std.proofs.Math.Path.{ap}
use mathlib.Core.List.{List}
use Rattle.spec_rules.specs.Step.{Setting, Contents}
use Rattle.spec_trace.specs.Trace.{setting_of, Now, Before, At, reached}
use Rattle.trace_cells.specs.Digits.{Bits}
use Rattle.trace_pass.specs.Plan.{size, Plan, Loaded, Valued}
use Rattle.trace_step.specs.Words.{spread, registers_done, memories_read, memories_written}
use Rattle.trace_clash.specs.Words.{lowest_clash}
use Rattle.trace_line.specs.State.{Prepared, Sized, Holds}
use Rattle.trace_line.specs.Step.{char, Next, next_line, first_line_law}
use Rattle.trace_line.specs.Standing.{After, Standing, Taken, clashes_at}

-- the tables before the plan is run, wherever the run stands
module _ {ws steps : List ℕ} {count : ℕ} {inputs outputs registers : List ℕ} {nr : ℕ} {memories : List ℕ} {nm : ℕ} (p : Prepared ws steps count inputs outputs registers nr memories nm) {l values memory : List ℕ} (z : Sized ws values memory) where
  pub begins : (n : Now) → Holds ws p.ok memories 0 n values memory → {w₁ : List ℕ} → w₁ ≡ spread char values inputs l → Next p l (reached ws n (setting_of ws l)) values memory w₁ memory
  begins Before h e = first_line_law p l 0 values memory z h e
  begins (At s c) h e = absurd (let q = h.0 in omega arith)

  pub advances : {k : ℕ} → 0 < k → (n : Now) → Holds ws p.ok memories k n values memory → {v w₁ w₂ w₃ m : List ℕ} → v ≡ values → w₁ ≡ spread char values inputs l → w₂ ≡ registers_done ws v registers nr w₁
      → w₃ ≡ memories_read ws memory v memories nm w₂ → m ≡ memories_written ws v w₃ memories nm memory → Next p l (reached ws n (setting_of ws l)) values memory w₃ m
  advances b Before h ev e₁ e₂ e₃ e₄ = absurd (let q = h.0 in omega arith)
  advances {k} b (At s c) h {v} {w₁} {w₂} {w₃} {m} ev e₁ e₂ e₃ e₄ =
      next_line p l s c k values memory z h e₁ (e₂ ∙ ap (λ (x : List ℕ). registers_done ws x registers nr w₁) ev) (e₃ ∙ ap (λ (x : List ℕ). memories_read ws memory x memories nm w₂) ev)
      (e₄ ∙ ap (λ (x : List ℕ). memories_written ws x w₃ memories nm memory) ev)

  -- and after it
  pub settled : (k : ℕ) {c : Contents} {w m values' : List ℕ} → Next p l c values memory w m → ((s : Setting) (d : Contents) → Loaded ws s d w → Valued ws s d values') → Holds ws p.ok memories (k + 1) (At (setting_of ws l) c) values' m
  settled k {c} x f = (omega arith, (f (setting_of ws l) c x.loaded, x.stored))

  pub sizes : {c : Contents} {w m values' : List ℕ} → Next p l c values memory w m → Bits values' → length values' ≡ length w → Sized ws values' m
  sizes x b e = record { wide = (let a = z.wide in let q = x.long in omega arith); bits = b; room = (let a = z.room in let q = x.room in omega arith) }

module _ {ws steps : List ℕ} {count : ℕ} {inputs outputs registers : List ℕ} {nr : ℕ} {memories : List ℕ} {nm k : ℕ} {values memory : List ℕ} (x : Standing ws steps count inputs outputs registers nr memories nm k values memory) (l : List ℕ) where
  -- a table that the plan can be run on, and what it is then
  ready : {c : Contents} {w m : List ℕ} → Next x.prepared l c values memory w m → Plan ws steps count × ((size ws ≤ length w) × Bits w)
  ready n = (x.prepared.plan, ((let a = x.sized.wide in let b = n.long in omega arith), n.bits))

  pub begin_ready : k ≡ 0 → {w : List ℕ} → w ≡ spread char values inputs l → Plan ws steps count × ((size ws ≤ length w) × Bits w)
  begin_ready z e = ready (begins x.prepared x.sized x.stands (subst (λ (i : ℕ). Holds ws x.prepared.ok memories i x.stands values memory) z x.holds) e)

  pub begin_after : k ≡ 0 → {w values' : List ℕ} → w ≡ spread char values inputs l → ((s : Setting) (d : Contents) → Loaded ws s d w → Valued ws s d values') × Bits values' → length values' ≡ length w
      → After ws steps count inputs outputs registers nr memories nm k l values memory values' memory
  begin_after z {w} {values'} e f b = record {
    says = λ p n h. settled p x.sized k (begins p x.sized n (subst (λ (i : ℕ). Holds ws p.ok memories i n values memory) z h) e) f.0;
    sized = sizes x.prepared x.sized (begins x.prepared {l = l} x.sized x.stands (subst (λ (i : ℕ). Holds ws x.prepared.ok memories i x.stands values memory) z x.holds) e) f.1 b;
  }

  module _ (b : 0 < k) {v w₁ : List ℕ} (ev : v ≡ values) (e₁ : w₁ ≡ spread char values inputs l) {clash : ℕ} (ec : clash ≡ lowest_clash ws v w₁ memories nm) where
    -- nothing more is done where there is a clash
    pub clash_taken : clash < 16 → (values' memory' : List ℕ) → Taken ws steps count inputs outputs registers nr memories nm k l values memory clash values' memory'
    clash_taken h values' memory' = record { clashes = λ p n q. clashes_at p l x.sized b n q ev e₁ ec; after = λ g. absurd (omega arith) }

    module _ {w₂ w₃ m : List ℕ} (e₂ : w₂ ≡ registers_done ws v registers nr w₁) (e₃ : w₃ ≡ memories_read ws memory v memories nm w₂) (e₄ : m ≡ memories_written ws v w₃ memories nm memory) where
      pub advance_ready : Plan ws steps count × ((size ws ≤ length w₃) × Bits w₃)
      advance_ready = ready (advances x.prepared x.sized b x.stands x.holds ev e₁ e₂ e₃ e₄)

      pub advance_taken : {values' : List ℕ} → ((s : Setting) (d : Contents) → Loaded ws s d w₃ → Valued ws s d values') × Bits values' → length values' ≡ length w₃
          → Taken ws steps count inputs outputs registers nr memories nm k l values memory clash values' m
      advance_taken {values'} f q = record {
        clashes = λ p n h. clashes_at p l x.sized b n h ev e₁ ec;
        after = λ g. record {
          says = λ p n h. settled p x.sized k (advances p x.sized b n h ev e₁ e₂ e₃ e₄) f.0;
          sized = sizes x.prepared x.sized (advances x.prepared {l = l} x.sized b x.stands x.holds ev e₁ e₂ e₃ e₄) f.1 q;
        };
      }

  pub at_first : k ≡ 0 → Standing ws steps count inputs outputs registers nr memories nm 0 values memory
  at_first z = record { prepared = x.prepared; sized = x.sized; stands = x.stands; holds = subst (λ (i : ℕ). Holds ws x.prepared.ok memories i x.stands values memory) z x.holds }
