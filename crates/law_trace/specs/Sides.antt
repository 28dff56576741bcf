-- The trace program's text in terms of a machine alone, for every trace, keeps and backs by histories; it is the netlist's, and the module's
-- where the lowering call left the image. Assumes nothing.
use Rattle.std.specs.Prelude.{ℕ, ◌≤◌, ◌≡◌, Bool}
use Rattle.std.proofs.Math.Path.{refl, ap, fun_ext}
use Rattle.std.proofs.Common.{sym, ◌∙◌}
use mathlib.Core.List.{List, [], ◌∷◌, ◌++◌}
use Rattle.spec_rtl.specs.Rtl.{Module, Valuation}
use Rattle.spec_tests.specs.Rules.{◌<?◌, pick, Fine, Refused}
use Rattle.spec_rules.specs.Image.{decode}
use Rattle.spec_rules.specs.NetlistImage.{netlist}
use Rattle.spec_rules.specs.Step.{Setting, Contents, Machine, Seen, act, clashing, seen, of_module, of_netlist, Ported}
use Rattle.spec_call.specs.Call as Call
use Rattle.spec_netlist.specs.Accept.{accepts}
use Rattle.spec_trace.specs.Trace.{zeroed, setting_of, wrong_line, shown, Now, Before, At, reached, clash_at, After, Goes, Stops, settings_line, pieces, traced}
use Rattle.spec_trace.specs.Named as Named
use Rattle.spec_trace.specs.Named.{Line, Keep, Back, Settings, read_line, find, History, begun, landed, joined, kept, restored, any_line, text_from, program}
use Rattle.law_trace.specs.Runs.{seen_text}
use Rattle.law_trace.specs.Shown.{shown_seen}
use Rattle.law_trace.specs.Signals.{memory_bits, line_setting, wrong_for, output_text}
use Rattle.law_trace.specs.Bytes.{bytes_of}
use Rattle.law_trace.specs.Terms.{setting_is, text_is, wrong_is}
use Rattle.law_trace.specs.Modules.{image_after, image_accepted, image_same, machine_same, in_order}
use Rattle.law_stored.specs.Calls.{left}
use Rattle.law_trace.specs.Programs.{reads_trace, taken, image_fits}

-- a machine, and how its lines are read and written
pub record Side : Type 0 where
  pub machine : Machine
  pub setting : List ℕ → Setting
  pub wrong : List ℕ → Bool
  pub printed : Seen → List ℕ

-- the contents that a line comes to, and the memory that clashes in its step
unfoldable pub reached_by : Machine → Now → Setting → Contents
reached_by m Before t = zeroed
reached_by m (At s c) t = act (m.reads s c t) c

unfoldable pub clash_by : Machine → Now → Setting → ℕ
clash_by m Before t = 16
clash_by m (At s c) t = clashing (m.reads s c t)

unfoldable pub landed_by : Machine → Now → List Setting → Now
landed_by m now [] = now
landed_by m now (t ∷ ts) = landed_by m (At t (reached_by m now t)) ts

unfoldable pub settings_by : Side → ℕ → Now → List ℕ → After Now
settings_by x k now l =
    let t = x.setting l in
    let c = reached_by x.machine now t in
    let goes = Goes (x.printed (seen x.machine t c)) (At t c) in
    let y = clash_by x.machine now t in
    let ends = pick (y <? 16) (Stops (Refused 14 k y)) goes in
    pick (x.wrong l) (Stops (Refused 13 k 0)) ends

unfoldable pub line_by : Side → ℕ → History → Line → After History
line_by x k h (Keep w) = kept k w h
line_by x k h (Back w) = restored k h (find w h.held)
line_by x k h (Settings l) = joined h (x.setting l) (settings_by x k (landed_by x.machine Before h.past) l)

abbrev pub text_by : Side → List ℕ → List ℕ
text_by x trace = traced (λ k h l. line_by x k h (read_line l)) 0 begun (pieces trace)

-- ---- the netlist's side ----

abbrev pub of_image : List ℕ → Side
of_image ws = record { machine = of_netlist (netlist ws); setting = setting_of ws; wrong = wrong_line ws; printed = seen_text ws }

module _ (ws : List ℕ) (ok : accepts ws ≡ Fine) where
  abbrev n : Machine
  n = of_netlist (netlist ws)

  reached_is : (now : Now) (t : Setting) → reached ws now t ≡ reached_by n now t
  unfolding reached reached_by
  reached_is Before t = refl
  reached_is (At s c) t = refl

  clash_is : (now : Now) (t : Setting) → clash_at ws now t ≡ clash_by n now t
  unfolding clash_at clash_by
  clash_is Before t = refl
  clash_is (At s c) t = refl

  landed_is : (now : Now) (ts : List Setting) → landed ws now ts ≡ landed_by n now ts
  unfolding landed landed_by
  landed_is now [] = refl
  landed_is now (t ∷ ts) = landed_is (At t (reached ws now t)) ts ∙ ap (λ (c : Contents). landed_by n (At t c) ts) (reached_is now t)

  settings_are : (k : ℕ) (now : Now) (l : List ℕ) → settings_line ws k now l ≡ settings_by (of_image ws) k now l
  unfolding settings_line settings_by
  settings_are k now l =
      let t = setting_of ws l in
      let c = reached ws now t in
      ap (λ (y : ℕ). pick (wrong_line ws l) (Stops (Refused 13 k 0)) (pick (y <? 16) (Stops (Refused 14 k y)) (Goes (shown ws t c) (At t c)))) (clash_is now t)
      ∙ ap (λ (p : List ℕ). pick (wrong_line ws l) (Stops (Refused 13 k 0)) (pick (clash_by n now t <? 16) (Stops (Refused 14 k (clash_by n now t))) (Goes p (At t c)))) (shown_seen ws ok t c)
      ∙ ap (λ (d : Contents). pick (wrong_line ws l) (Stops (Refused 13 k 0)) (pick (clash_by n now t <? 16) (Stops (Refused 14 k (clash_by n now t))) (Goes (seen_text ws (seen n t d)) (At t d)))) (reached_is now t)

  line_is : (k : ℕ) (h : History) (l : Line) → Named.line_done ws k h l ≡ line_by (of_image ws) k h l
  unfolding Named.line_done line_by
  line_is k h (Keep w) = refl
  line_is k h (Back w) = refl
  line_is k h (Settings l) =
      ap (joined h (setting_of ws l)) (settings_are k (landed ws Before h.past) l ∙ ap (λ (now : Now). settings_by (of_image ws) k now l) (landed_is Before h.past))

  pub text_by_law : (trace : List ℕ) → text_from ws 0 begun trace ≡ text_by (of_image ws) trace
  text_by_law trace =
      let e : any_line ws ≡ (λ k h l. line_by (of_image ws) k h (read_line l)) = fun_ext (λ k. fun_ext (λ h. fun_ext (λ l. line_is k h (read_line l)))) in
      ap (λ (f : ℕ → History → List ℕ → After History). traced f 0 begun (pieces trace)) e

-- ---- the module's side ----

abbrev pub of_signals : Module → Valuation → Side
of_signals m u = record { machine = of_module m u; setting = line_setting m; wrong = wrong_for m; printed = output_text m }

module _ (s : List ℕ) (N P : ℕ) (buffer scratch : List ℕ) (yes : Call.answer s N P buffer scratch ≡ Fine) (ported : Ported (decode s)) (u : Valuation) where
  abbrev image : List ℕ
  image = image_after s N P buffer scratch

  same_side : of_image image ≡ of_signals (decode s) u
  same_side =
      let ok = image_accepted s N P buffer scratch yes in
      let m = decode s in
      let l = (left s N P buffer scratch yes).netlist in
      let same = image_same s N P buffer scratch yes in
      let order = in_order s N P buffer scratch yes in
      let a = sym (machine_same s N P buffer scratch yes ported u) in
      let b : setting_of image ≡ line_setting m = fun_ext (setting_is image ok m l same order) in
      let c : wrong_line image ≡ wrong_for m = fun_ext (wrong_is image ok m l same order) in
      let d : seen_text image ≡ output_text m = fun_ext (text_is image ok m l same order) in
      (λ i. record { machine = a i; setting = b i; wrong = c i; printed = d i })

  -- every trace of the image that the call left, over the module's own runs
  pub text_module : (most : ℕ) → memory_bits (decode s) (decode s).memories ≤ most → (trace : List ℕ) → Named.trace_text N P most (bytes_of image ++ trace) ≡ text_by (of_signals (decode s) u) trace
  text_module most h trace =
      reads_trace N P most image (taken s N P buffer scratch yes most (image_fits s N P buffer scratch yes most h ported)) trace
      ∙ text_by_law image (image_accepted s N P buffer scratch yes) trace
      ∙ ap (λ (x : Side). text_by x trace) same_side

-- "netlists made with N = 1,024 and P = 2,048, and memories of at most 65,536 bits in all"
pub prints_any : (s buffer scratch : List ℕ) → Call.answer s 1024 2048 buffer scratch ≡ Fine → Ported (decode s) → memory_bits (decode s) (decode s).memories ≤ 65536 → (u : Valuation) (trace : List ℕ)
    → program (bytes_of (image_after s 1024 2048 buffer scratch) ++ trace) ≡ text_by (of_signals (decode s) u) trace
prints_any s buffer scratch ok ported few u trace = text_module s 1024 2048 buffer scratch ok ported u 65536 few trace
