-- "The printed bits are those of document 01's step rule": the trace program's text against a machine's run, as types. Assumes nothing.
use Rattle.std.specs.Prelude.{ℕ, ◌≤◌, ◌≡◌, false, cond, List, [], ◌∷◌, ◌++◌, map, length, get_or}
use Rattle.spec_tests.specs.Rules.{◌<?◌, pick, list_of, Fine, Refused}
use Rattle.spec_rules.specs.NetlistImage.{netlist}
use Rattle.spec_rules.specs.Step.{Setting, Contents, Machine, Seen, perhaps, act, clashing, no_end, run, of_netlist}
use Rattle.spec_rules.specs.Listing.{together}
use Rattle.spec_netlist.specs.Accept.{accepts}
use Rattle.spec_trace.specs.Opened.{ports_with}
use Rattle.spec_trace.specs.Trace.{zeroed, setting_of, digit, said, traced}
use Rattle.spec_trace.specs.Named.{begun, any_line}
use Rattle.law_histories.specs.Plain.{AllRight}

-- the output bits that a machine shows, ports in image order, bit 0 first
unfoldable pub port_text : Seen → List ℕ → List ℕ
port_text x r = list_of (get_or r 2 0) (λ i. digit (perhaps false (λ b. b) (x.outputs (get_or r 1 0) i)))

unfoldable pub seen_text : List ℕ → Seen → List ℕ
seen_text ws x = together (map (port_text x) (ports_with 8 ws)) ++ (10 ∷ [])

-- the lowest memory with a write clash in the first step that has no defined end, from a moment of a run on; 16 where every step has one
unfoldable pub clashed_from : Machine → Setting → Contents → List Setting → ℕ
clashed_from m s c [] = 16
clashed_from m s c (t ∷ ts) = cond (no_end (m.reads s c t)) (clashing (m.reads s c t)) (clashed_from m t (act (m.reads s c t) c) ts)

unfoldable pub clashed : Machine → Contents → List Setting → ℕ
clashed m c [] = 16
clashed m c (s ∷ ts) = clashed_from m s c ts

-- where memory x clashes, refusal 14 at this line
unfoldable pub clash_text : ℕ → ℕ → List ℕ
clash_text line x = pick (x <? 16) (said (Refused 14 line x)) []

-- what a machine's run shows, each setting a line; then refusal 14 at the line whose step has no defined end, if there is one
unfoldable pub run_text : Machine → (Seen → List ℕ) → List Setting → List ℕ
run_text m line ts = together (map line (run m zeroed ts)) ++ clash_text (length (run m zeroed ts)) (clashed m zeroed ts)

-- over right lines, as many as a trace may have, the text is the run's
abbrev pub PrintsRun : Type 0
PrintsRun =
    (ws : List ℕ) → accepts ws ≡ Fine → (ls : List (List ℕ)) → AllRight ws ls → length ls ≤ 4294967295
    → traced (any_line ws) 0 begun (ls ++ ([] ∷ [])) ≡ run_text (of_netlist (netlist ws)) (seen_text ws) (map (setting_of ws) ls)
