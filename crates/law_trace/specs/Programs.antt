-- The whole trace program: for an image that it takes and a trace of right lines it writes what the run shows, of the netlist, and of the
-- module where the lowering call left the image. Assumes nothing.
use Rattle.std.specs.Prelude.{ℕ, ◌+◌, ◌*◌, ◌-◌, ◌/◌, ◌≤◌, ◌<◌, ◌≡◌, refl, Bool, true, false, get_or}
use native.Mathlib.Omega.{arith}
use Rattle.std.proofs.Common.{sym, ◌∙◌}
use Rattle.std.proofs.Math.Path.{ap}
use mathlib.Core.List.{List, [], ◌∷◌, ◌++◌, map}
use Rattle.std.proofs.Math.ListN.{length, drop, get_or-append}
use Rattle.spec_rtl.specs.Rtl.{Module, Valuation}
use Rattle.spec_tests.specs.Rules.{◌and◌, Answer, Fine, Refused, and_then}
use Rattle.spec_tests.specs.Laws.{or_no, lt_no, ne_no}
use Rattle.spec_rules.specs.Image.{decode}
use Rattle.spec_rules.specs.Checks.{refuse, netlist_need}
use Rattle.spec_rules.specs.NetlistImage.{netlist}
use Rattle.spec_rules.specs.Step.{of_module, of_netlist, Ported}
use Rattle.spec_model.specs.Words.{words}
use Rattle.spec_call.specs.Call as Call
use Rattle.spec_netlist.specs.Accept.{used, list_at_of, limit, header_answer, body_answer, accepts}
use Rattle.spec_trace.specs.Opened.{words_of, word_count, other_limits, opened, unfit}
use Rattle.spec_trace.specs.Trace.{setting_of, wrong_line, traced}
use Rattle.spec_trace.specs.Named.{begun, any_line, text_from, unless, trace_text, program}
use Rattle.check_image.specs.Accepted.{accepted}
use Rattle.net_view.specs.View.{Fit}
use Rattle.law_module.proofs.Good.{good}
use Rattle.law_told.specs.Told.{neither, pick_no, told, sixteen}
use Rattle.law_told.specs.Behind.{accepted_behind}
use Rattle.law_listed_made.specs.Accepted.{fit}
use Rattle.law_call.proofs.Calls.{passes, ended, buffer_is}
use Rattle.law_call.proofs.Calls.{is_good}
use Rattle.law_stored.specs.Bounded.{bounded}
use Rattle.law_stored.specs.Calls.{left, call_accepted, call_state}
use Rattle.law_histories.specs.Plain.{AllRight}
use Rattle.law_trace.specs.Runs.{seen_text, run_text}
use Rattle.law_trace.specs.Printed.{prints_run}
use Rattle.law_trace.specs.Cut.{cut_long, cut_head, cut_count}
use Rattle.law_trace.specs.Signals.{memory_bits, line_setting, wrong_for, AllRightFor, output_text}
use Rattle.law_trace.specs.Bytes.{bytes_of, trace_bytes, Letters, words_back, lines_back, image_back, trace_back}
use Rattle.law_trace.specs.Modules.{image_after, image_accepted, image_same, prints_signals}
use Rattle.law_trace.specs.Fitted.{clocked}
use Rattle.law_trace.specs.Unfit.{fits}

no_and : (a b : Bool) → b ≡ false → (a and b) ≡ false
unfolding ◌and◌
no_and true b e = e
no_and false b e = refl

fine_then : (a b c : Answer) → and_then a c ≡ Fine → b ≡ Fine → and_then a (and_then b c) ≡ Fine
unfolding and_then
fine_then Fine Fine c e f = e
fine_then Fine (Refused n x y) c e f = f
fine_then (Refused n x y) b c e f = e

-- an image that the program takes: accepted, ending at its last list word used, with its limits, and not refused under 12 after 11
pub record Taken (N P most : ℕ) (ws : List ℕ) : Type 0 where
  pub accepted : accepts ws ≡ Fine
  pub ends : word_count ws ≡ length ws
  pub limits : limit ws ≡ N
  pub list : used ws ≤ P
  pub fit : unfit most ws ≡ false

module _ (N P most : ℕ) (ws : List ℕ) (t : Taken N P most ws) where
  head : (rest : List ℕ) (i : ℕ) → i < 16 → get_or (ws ++ rest) i 0 ≡ get_or ws i 0
  head rest i h = get_or-append ws rest 0 i (let s = sixteen ws (told ws t.accepted) in omega arith)

  opened_fine : (rest : List ℕ) → opened N P (ws ++ rest) ≡ Fine
  unfolding opened other_limits accepts refuse
  opened_fine rest =
      let h3 = head rest 3 (omega arith) in
      let h4 = head rest 4 (omega arith) in
      let l : limit (ws ++ rest) ≡ N = ap (λ (n : ℕ). (n - 16) / 6) h4 ∙ t.limits in
      let p = t.list in
      fine_then (header_answer (ws ++ rest)) _ (body_answer (ws ++ rest)) (accepted_behind ws rest t.accepted)
      (pick_no (other_limits N P (ws ++ rest)) _ _ (no_and _ _ (neither _ _ (ne_no (limit (ws ++ rest)) N l) (lt_no P (used (ws ++ rest)) (omega arith)))))

  -- behind the image's bytes the program reads a trace
  pub reads_trace : (trace : List ℕ) → trace_text N P most (bytes_of ws ++ trace) ≡ text_from ws 0 begun trace
  unfolding trace_text unless and_then refuse
  reads_trace trace =
      let h3 = head (words_of trace) 3 (omega arith) in
      let h4 = head (words_of trace) 4 (omega arith) in
      let e = t.ends in
      let n : word_count (ws ++ words_of trace) ≡ length ws = omega arith in
      let i = image_back ws trace n in
      let b = trace_back ws trace n in
      let o : opened N P (words_of (bytes_of ws ++ trace)) ≡ Fine = ap (opened N P) (words_back ws trace) ∙ opened_fine (words_of trace) in
      rw (o, i, b) (ap (λ (a : Answer). unless a (text_from ws 0 begun trace)) (pick_no (unfit most ws) _ _ t.fit))

  right_letters : (ls : List (List ℕ)) → AllRight ws ls → Letters ls
  unfolding wrong_line
  right_letters [] h = tt
  right_letters (l ∷ ls) h = ((or_no h.0).1, right_letters ls h.1)

  -- the netlist's run
  pub program_prints : (ls : List (List ℕ)) → AllRight ws ls → length ls ≤ 4294967295
      → trace_text N P most (bytes_of ws ++ trace_bytes ls) ≡ run_text (of_netlist (netlist ws)) (seen_text ws) (map (setting_of ws) ls)
  program_prints ls right few =
      reads_trace (trace_bytes ls) ∙ ap (traced (any_line ws) 0 begun) (lines_back ls (right_letters ls right)) ∙ prints_run ws t.accepted ls right few

-- ---- the image that the lowering call left ----

module _ (s : List ℕ) (N P : ℕ) (buffer scratch : List ℕ) (yes : Call.answer s N P buffer scratch ≡ Fine) where
  abbrev v : List ℕ
  v = Call.buffer_after s N P buffer scratch

  abbrev image : List ℕ
  image = image_after s N P buffer scratch

  within : Fit N P (left s N P buffer scratch yes).netlist
  within =
      let a = accepted s N P (length buffer) (length scratch) (passes s N P buffer scratch yes) in
      let r = a.1 in
      let x = ended s N P buffer scratch yes in
      fit (decode s) (good s a.0) (bounded s a.0) false N P r.some_net r.nets r.words x.state x.is

  header : (used v ≤ P) × (list_at_of v ≡ 16 + 6 * N)
  unfolding words
  header =
      let l = (left s N P buffer scratch yes).netlist in
      let x = ended s N P buffer scratch yes in
      let e : v ≡ words N P l ++ drop (netlist_need N P) buffer = buffer_is s N P buffer scratch (passes s N P buffer scratch yes) x.state x.is in
      let a : used v ≡ used (words N P l ++ drop (netlist_need N P) buffer) = ap used e in
      let b : list_at_of v ≡ list_at_of (words N P l ++ drop (netlist_need N P) buffer) = ap list_at_of e in
      let h = within.short in
      (omega arith, b)

  pub taken : (most : ℕ) → unfit most image ≡ false → Taken N P most image
  taken most u =
      let ok = call_accepted s N P buffer scratch yes in
      let h = header.0 in
      let g = header.1 in
      let h3 = cut_head v ok 3 (omega arith) in
      let h4 = cut_head v ok 4 (omega arith) in
      record {
        accepted = image_accepted s N P buffer scratch yes;
        ends = cut_count v ok ∙ sym (cut_long v ok);
        limits = omega arith;
        list = omega arith;
        fit = u;
      }

  abbrev m : Module
  m = decode s

  letters : (ls : List (List ℕ)) → AllRightFor m ls → Letters ls
  unfolding wrong_for
  letters [] h = tt
  letters (l ∷ ls) h = ((or_no h.0).1, letters ls h.1)

  -- the program takes the image of every module that is ported and has no more memory bits
  pub image_fits : (most : ℕ) → memory_bits m m.memories ≤ most → Ported m → unfit most image ≡ false
  image_fits most h ported =
      fits image (left s N P buffer scratch yes).netlist (image_same s N P buffer scratch yes) most (0 + memory_bits m m.memories)
      (clocked m (is_good s N P buffer scratch (passes s N P buffer scratch yes)) false ported N P (left s N P buffer scratch yes) (call_state s N P buffer scratch yes)) (omega arith)

  -- the module's run
  pub program_prints_module : (most : ℕ) → memory_bits m m.memories ≤ most → Ported m → (u : Valuation) (ls : List (List ℕ)) → AllRightFor m ls → length ls ≤ 4294967295
      → trace_text N P most (bytes_of image ++ trace_bytes ls) ≡ run_text (of_module m u) (output_text m) (map (line_setting m) ls)
  program_prints_module most h ported u ls right few =
      reads_trace N P most image (taken most (image_fits most h ported)) (trace_bytes ls) ∙ ap (traced (any_line image) 0 begun) (lines_back ls (letters ls right))
      ∙ prints_signals s N P buffer scratch yes ported u ls right few

-- "netlists made with N = 1,024 and P = 2,048, and memories of at most 65,536 bits in all"
pub prints_lowered : (s buffer scratch : List ℕ) → Call.answer s 1024 2048 buffer scratch ≡ Fine → Ported (decode s) → memory_bits (decode s) (decode s).memories ≤ 65536
    → (u : Valuation) (ls : List (List ℕ)) → AllRightFor (decode s) ls → length ls ≤ 4294967295
    → program (bytes_of (image_after s 1024 2048 buffer scratch) ++ trace_bytes ls)
    ≡ run_text (of_module (decode s) u) (output_text (decode s)) (map (line_setting (decode s)) ls)
prints_lowered s buffer scratch ok ported few u ls right short = program_prints_module s 1024 2048 buffer scratch ok 65536 few ported u ls right short
