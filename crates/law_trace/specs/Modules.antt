-- Over the netlist that the lowering call left, the trace program prints what the module's run shows. Assumes nothing.
use Rattle.std.specs.Prelude.{ℕ, ◌≤◌, ◌≡◌, false, List, [], ◌∷◌, ◌++◌, map, length}
use Rattle.std.proofs.Common.{sym, ap, ◌∙◌}
use Rattle.std.proofs.Math.Path.{fun_ext}
use Rattle.spec_rtl.specs.Rtl.{Module, Valuation}
use Rattle.spec_tests.specs.Rules.{Fine}
use Rattle.spec_rules.specs.Image.{decode}
use Rattle.spec_rules.specs.NetlistImage.{netlist}
use Rattle.spec_rules.specs.Step.{Setting, Machine, Seen, of_module, of_netlist, Ported}
use Rattle.spec_call.specs.Call as Call
use Rattle.spec_model.specs.Words.{Netlist}
use Rattle.spec_netlist.specs.Accept.{accepts}
use Rattle.spec_netlist.specs.Given.{Same}
use Rattle.spec_trace.specs.Trace.{setting_of, traced}
use Rattle.spec_trace.specs.Named.{begun, any_line}
use Rattle.law_call.proofs.Calls.{same_machine}
use Rattle.law_stored.specs.Calls.{left, call_accepted, call_state, call_same}
use Rattle.law_histories.specs.Plain.{AllRight}
use Rattle.law_trace.specs.Runs.{seen_text, run_text}
use Rattle.law_trace.specs.Printed.{prints_run}
use Rattle.law_trace.specs.Cut.{cut, cut_accepted, cut_netlist, cut_same}
use Rattle.law_trace.specs.Signals.{line_setting, AllRightFor, inputs, outputs, output_text}
use Rattle.law_trace.specs.Order.{Ordered, ordered}
use Rattle.law_trace.specs.Terms.{setting_is, text_is, wrong_is}

-- the netlist image that the call left, "ending at the last list word used"
abbrev pub image_after : List ℕ → ℕ → ℕ → List ℕ → List ℕ → List ℕ
image_after s N P buffer scratch = cut (Call.buffer_after s N P buffer scratch)

module _ (s : List ℕ) (N P : ℕ) (buffer scratch : List ℕ) (yes : Call.answer s N P buffer scratch ≡ Fine) where
  abbrev ws : List ℕ
  ws = image_after s N P buffer scratch

  pub image_accepted : accepts ws ≡ Fine
  image_accepted = cut_accepted (Call.buffer_after s N P buffer scratch) (call_accepted s N P buffer scratch yes)

  pub machine_same : Ported (decode s) → (u : Valuation) → of_module (decode s) u ≡ of_netlist (netlist ws)
  machine_same ported u =
      same_machine s N P buffer scratch yes ported u
      ∙ ap of_netlist (sym (cut_netlist (Call.buffer_after s N P buffer scratch) (call_accepted s N P buffer scratch yes)))

  pub prints_module : Ported (decode s) → (u : Valuation) (ls : List (List ℕ)) → AllRight ws ls → length ls ≤ 4294967295
      → traced (any_line ws) 0 begun (ls ++ ([] ∷ [])) ≡ run_text (of_module (decode s) u) (seen_text ws) (map (setting_of ws) ls)
  prints_module ported u ls right few =
      prints_run ws image_accepted ls right few
      ∙ ap (λ (x : Machine). run_text x (seen_text ws) (map (setting_of ws) ls)) (sym (machine_same ported u))

  -- ---- in the module's own terms ----

  abbrev m : Module
  m = decode s

  abbrev l : Netlist
  l = (left s N P buffer scratch yes).netlist

  pub image_same : Same ws l
  image_same = cut_same (Call.buffer_after s N P buffer scratch) (call_accepted s N P buffer scratch yes) l (call_same s N P buffer scratch yes)

  pub in_order : Ordered m (inputs m ++ outputs m) l
  in_order = ordered m false N P (left s N P buffer scratch yes) (call_state s N P buffer scratch yes)

  all_right : (ls : List (List ℕ)) → AllRightFor m ls → AllRight ws ls
  all_right [] h = tt
  all_right (x ∷ ls) h = (wrong_is ws image_accepted m l image_same in_order x ∙ h.0, all_right ls h.1)

  pub prints_signals : Ported m → (u : Valuation) (ls : List (List ℕ)) → AllRightFor m ls → length ls ≤ 4294967295
      → traced (any_line ws) 0 begun (ls ++ ([] ∷ [])) ≡ run_text (of_module m u) (output_text m) (map (line_setting m) ls)
  prints_signals ported u ls right few =
      let a : seen_text ws ≡ output_text m = fun_ext (text_is ws image_accepted m l image_same in_order) in
      let b : setting_of ws ≡ line_setting m = fun_ext (setting_is ws image_accepted m l image_same in_order) in
      prints_module ported u ls (all_right ls right) few ∙ ap (λ (f : Seen → List ℕ). run_text (of_module m u) f (map (setting_of ws) ls)) a
      ∙ ap (λ (f : List ℕ → Setting). run_text (of_module m u) (output_text m) (map f ls)) b
