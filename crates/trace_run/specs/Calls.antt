-- Calls one after the other, with bytes read in between: together they write the text of the trace. Assumes nothing.
use Rattle.std.specs.Prelude.{ℕ, ◌≤◌, ◌≡◌, Bool, true, false, length, drop, get_or}
use native.Mathlib.Omega.{arith}
use Rattle.std.proofs.Math.Path.{refl, ap}
use Rattle.std.proofs.Common.{sym, ◌∙◌}
use mathlib.Core.List.{List, [], ◌++◌, append_assoc, append-nil}
use Rattle.std.proofs.Math.ListN.{take}
use Rattle.spec_tests.specs.Rules.{Fine}
use Rattle.spec_netlist.specs.Accept.{accepts}
use Rattle.spec_trace.specs.Named.{History, begun, landed, text_from}
use Rattle.trace_cells.specs.Digits.{Bits}
use Rattle.trace_pass.specs.Plan.{size}
use Rattle.trace_line.specs.State.{Prepared}
use Rattle.trace_keep.specs.Slots.{Roomy, Slots, Follows}
use Rattle.trace_answer.specs.Lines.{Underway}
use Rattle.trace_lines.specs.Pieces.{Free, text_end}
use Rattle.trace_run.specs.Ran.{Ran}
use Rattle.trace_run.specs.Held.{end_text}

module _ (ws steps : List ℕ) (count : ℕ) (inputs outputs registers : List ℕ) (nr : ℕ) (memories : List ℕ) (nm : ℕ) where
  -- before line k, bytes read and not used up yet, the tables, the names and moments kept, the bytes still to come, and all that is written
  -- from here on
  pub data Calls : ℕ → List ℕ → List ℕ → List ℕ → List ℕ → List ℕ → List ℕ → List ℕ → Type 0 where
    -- the call's text is the last
    Last : {k : ℕ} {bytes values memory names kept more : List ℕ} {used at k' : ℕ} {wait : Bool} {out values' memory' names' kept' : List ℕ} → Ran ws steps count inputs outputs registers nr memories nm k bytes values memory names kept used at k' wait true out values' memory' names' kept'
        → Calls k bytes values memory names kept more (take at out)
    -- others follow
    Then : {k : ℕ} {bytes values memory names kept more : List ℕ} {used at k' : ℕ} {wait : Bool} {out values' memory' names' kept' t : List ℕ} → Ran ws steps count inputs outputs registers nr memories nm k bytes values memory names kept used at k' wait false out values' memory' names' kept'
        → Calls k' (drop used bytes) values' memory' names' kept' more t → Calls k bytes values memory names kept more (take at out ++ t)
    -- more bytes come
    Read : {k : ℕ} {bytes values memory names kept t : List ℕ} (some more : List ℕ) → Calls k (bytes ++ some) values memory names kept more t → Calls k bytes values memory names kept (some ++ more) t
    -- none come any more: what is left is no line
    End : {k : ℕ} {bytes values memory names kept : List ℕ} → Free bytes → Calls k bytes values memory names kept [] (end_text (length bytes) k)

  pub calls_text : (p : Prepared ws steps count inputs outputs registers nr memories nm) {k : ℕ} {bytes values memory names kept more t : List ℕ} → Calls k bytes values memory names kept more t → (h : History) → Follows ws p.ok memories k h values memory names kept
      → text_from ws k h (bytes ++ more) ≡ t
  unfolding end_text
  calls_text p {more = more} (Last r) h f = (r.says p h f).stops refl more
  calls_text p {more = more} (Then {at = at} {out = out} r c) h f =
      let s = r.says p h f in
      s.goes refl more ∙ ap (λ (l : List ℕ). take at out ++ l) (calls_text p c s.next (s.follows refl))
  calls_text p {k} {bytes} (Read some more c) h f = ap (text_from ws k h) (sym (append_assoc bytes some more)) ∙ calls_text p c h f
  calls_text p {k} {bytes} (End e) h f = ap (text_from ws k h) (append-nil bytes) ∙ text_end ws k h bytes e

  -- where a run begins: nothing is taken, no name is held, and all tables hold 0
  pub follows_start : (ok : accepts ws ≡ Fine) {values memory names : List ℕ} → ((j : ℕ) → get_or values j 0 ≡ 0) → ((j : ℕ) → get_or memory j 0 ≡ 0) → ((j : ℕ) → get_or names j 0 ≡ 0) → (kept : List ℕ) → Follows ws ok memories 0 begun values memory names kept
  unfolding landed Slots
  follows_start ok v m n kept = record { stands = (refl, (v, m)); slots = λ j h. n j; few = omega arith }

  pub at_start : Prepared ws steps count inputs outputs registers nr memories nm → {values memory names kept : List ℕ} → size ws ≤ length values → Bits values → Roomy values memory names kept
      → ((j : ℕ) → get_or values j 0 ≡ 0) → ((j : ℕ) → get_or memory j 0 ≡ 0) → ((j : ℕ) → get_or names j 0 ≡ 0) → Underway ws steps count inputs outputs registers nr memories nm 0 values memory names kept
  at_start p {kept = kept} w b r v m n = record { prepared = p; sized = record { wide = w; bits = b; room = r.memory_long }; room = r; history = begun; follows = follows_start p.ok v m n kept }

  pub trace_text_law : (p : Prepared ws steps count inputs outputs registers nr memories nm) {values memory names kept : List ℕ} → ((j : ℕ) → get_or values j 0 ≡ 0) → ((j : ℕ) → get_or memory j 0 ≡ 0) → ((j : ℕ) → get_or names j 0 ≡ 0)
      → {trace t : List ℕ} → Calls 0 [] values memory names kept trace t → text_from ws 0 begun trace ≡ t
  trace_text_law p {kept = kept} v m n c = calls_text p c begun (follows_start p.ok v m n kept)
