-- What the opening of a trace says, and the tables that a run then has. Assumes nothing.
use Rattle.std.specs.Prelude.{ℕ, ◌≤◌, ◌≡◌, true, List, Result, Ok, Err}
use Rattle.std.proofs.Common.{sym, ap, subst, ◌∙◌}
use Rattle.spec_tests.specs.Rules.{Answer, Fine, and_then}
use Rattle.spec_rules.specs.Checks.{refuse}
use Rattle.spec_netlist.specs.Accept.{nets, used, accepts}
use Rattle.spec_trace.specs.Opened.{opened, unfit}
use Rattle.check_image.specs.Checked.{then_fine, then_refused, refuse_yes, refuse_no}
use Rattle.law_told.specs.Told.{then_both}
use Rattle.trace_line.specs.declared.Tables.{Tables}
use Rattle.trace_image.specs.declared.Refusal.{Refusal}
use Rattle.trace_image.specs.declared.Refusal.TheVariants as R
use Rattle.trace_image.specs.Answer.{refusal_of}
use Rattle.trace_image.specs.Headed.{headed, opened_headed, heads}
use Rattle.trace_tables.specs.Bundles.{ReadyAs}

abbrev pub answer_of : Result Tables Refusal → Answer
answer_of (Ok t) = Fine
answer_of (Err r) = refusal_of r

-- 11 and 12 of an image
unfoldable pub judgement : List ℕ → Answer
judgement ws = and_then (opened 1024 2048 ws) (refuse (unfit 65536 ws) 12)

-- the answer is the judgement, and a run has the tables of this netlist
pub record Opens (ws : List ℕ) (o : Result Tables Refusal) : Type 0 where
  pub answers : answer_of o ≡ judgement ws
  pub tables : (t : Tables) → o ≡ Ok t → ReadyAs ws t

-- ---- where the judgement of the words passes ----

pub accepted : (ws : List ℕ) → Fine ≡ opened 1024 2048 ws → (accepts ws ≡ Fine) × (nets ws ≤ 1024) × (used ws ≤ 2048)
accepted ws e =
    let b = then_both (headed 1024 2048 ws) (accepts ws) (sym (opened_headed 1024 2048 ws) ∙ sym e) in
    let h = heads 1024 2048 ws b.0 in
    (b.1, h.few_nets, h.few_words_of)

pub refused_opens : {ws : List ℕ} (r : Refusal) → refusal_of r ≡ judgement ws → Opens ws (Err r)
refused_opens r j = record { answers = j; tables = λ t f. absurd (err_ok (sym f)) }
  where
    err_ok : {t : Tables} {r : Refusal} → ◌≡◌ {A = Result Tables Refusal} (Ok t) (Err r) → ⊥
    err_ok e = cc

pub judged_opens : {ws : List ℕ} (r : Refusal) → refusal_of r ≡ opened 1024 2048 ws → Opens ws (Err r)
unfolding judgement
judged_opens (R.Wrong p) e = refused_opens (R.Wrong p) (then_refused _ 11 p 0 (sym e))
judged_opens R.Unfit e = refused_opens R.Unfit (then_refused _ 12 0 0 (sym e))

-- ---- 12 after 11 ----

pub fit_opens : {ws : List ℕ} (t : Tables) → Fine ≡ opened 1024 2048 ws → ReadyAs ws t → Opens ws (Ok t)
unfolding judgement
fit_opens {ws} t e r = record {
  answers = then_fine (sym e) (sym (refuse_no 12 (ap (unfit 65536) (sym r.net) ∙ r.prepared.fit)));
  tables = λ s f. subst (λ (x : Tables). ReadyAs ws x) (same f) r;
}
  where
    held : Result Tables Refusal → Tables
    held (Ok x) = x
    held (Err r) = t

    same : {s : Tables} → ◌≡◌ {A = Result Tables Refusal} (Ok t) (Ok s) → t ≡ s
    same e = ap held e

pub unfit_opens : {ws : List ℕ} → Fine ≡ opened 1024 2048 ws → unfit 65536 ws ≡ true → Opens ws (Err R.Unfit)
unfolding judgement
unfit_opens e u = refused_opens R.Unfit (then_fine (sym e) (sym (refuse_yes 12 u)))
