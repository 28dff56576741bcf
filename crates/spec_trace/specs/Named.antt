-- Named states of the trace program by histories (docs/RULES.md, change request Q-8), and the program. Assumes nothing.
use Rattle.std.specs.Prelude.{ℕ, Bool, not, List, [], ◌∷◌, ◌++◌, length, take, drop}
use Rattle.std.proofs.Math.Option.{Option, none, some}
use Rattle.spec_tests.specs.Rules.{◌<?◌, ◌≡?◌, ◌or◌, ◌and◌, pick, outside, same_text, Answer, Fine, Refused, and_then}
use Rattle.spec_rules.specs.Checks.{refuse}
use Rattle.spec_rules.specs.Step.{Setting}
use Rattle.spec_rules.specs.Listing.{text}
use Rattle.spec_trace.specs.Opened.{words_of, image_of, trace_of, opened, having, unfit}
use Rattle.spec_trace.specs.Trace.{setting_of, Now, Before, At, reached, After, Goes, Stops, settings_line, pieces, said, traced}

-- ---- lines ----

-- "lines `keep NAME` and `back NAME`"; "any other line, a badly formed name included, is judged by 13"
pub data Line : Type 0 where
  Keep : List ℕ → Line
  Back : List ℕ → Line
  Settings : List ℕ → Line

-- "names of 1 to 8 lower-case letters"
unfoldable pub good_name : List ℕ → Bool
good_name w = not (outside (length w) 1 8 or having (λ b. outside b 97 122) w)

-- a line of this word, five bytes with its blank, and a name
unfoldable pub is_named : List ℕ → List ℕ → Bool
is_named word l = same_text (take 5 l) word and good_name (drop 5 l)

unfoldable pub read_line : List ℕ → Line
read_line l =
    pick (is_named (text "keep ") l) (Keep (drop 5 l))
    (pick (is_named (text "back ") l) (Back (drop 5 l))
    (Settings l))

-- ---- names held, each with something ----

pub record Named (A : Type 0) : Type 0 where
  pub name : List ℕ
  pub what : A

-- "the same name again replaces it"
unfoldable pub put : {A : Type 0} → List ℕ → A → List (Named A) → List (Named A)
put w a [] = record { name = w; what = a } ∷ []
put w a (x ∷ xs) = let later = x ∷ put w a xs in pick (same_text x.name w) (record { name = w; what = a } ∷ xs) later

unfoldable pub find : {A : Type 0} → List ℕ → List (Named A) → Option A
find w [] = none
find w (x ∷ xs) = let later = find w xs in pick (same_text x.name w) (some x.what) later

-- ---- histories ----

-- a run's settings lines, and those of the moment at each name's last keep
pub record History : Type 0 where
  pub past : List Setting
  pub held : List (Named (List Setting))

abbrev pub begun : History
begun = record { past = []; held = [] }

-- where a run over these settings stands, the first at its start
unfoldable pub landed : List ℕ → Now → List Setting → Now
landed ws now [] = now
landed ws now (t ∷ ts) = landed ws (At t (reached ws now t)) ts

-- a settings line prints what it would print after its history alone, and joins it
unfoldable pub joined : History → Setting → After Now → After History
joined h t (Goes printed now) = Goes printed (record { past = h.past ++ (t ∷ []); held = h.held })
joined h t (Stops a) = Stops a

-- "15, .. a keep of a fifth name, or a keep before the first settings line, place the line"
unfoldable pub kept : ℕ → List ℕ → History → After History
kept k w h =
    let held = put w h.past h.held in
    pick (length h.past ≡? 0 or 4 <? length held) (Stops (Refused 15 k 0)) (Goes [] (record { past = h.past; held = held }))

-- "15, a back to a name not kept"; "A run's history is then the history at that name's last keep"; "the names held are not changed by it"
unfoldable pub restored : ℕ → History → Option (List Setting) → After History
restored k h none = Stops (Refused 15 k 0)
restored k h (some past) = Goes [] (record { past = past; held = h.held })

-- line k
unfoldable pub line_done : List ℕ → ℕ → History → Line → After History
line_done ws k h (Keep w) = kept k w h
line_done ws k h (Back w) = restored k h (find w h.held)
line_done ws k h (Settings l) = joined h (setting_of ws l) (settings_line ws k (landed ws Before h.past) l)

abbrev pub any_line : List ℕ → ℕ → History → List ℕ → After History
any_line ws k h l = line_done ws k h (read_line l)

-- what is printed for these bytes of a trace, from line k on
abbrev pub text_from : List ℕ → ℕ → History → List ℕ → List ℕ
text_from ws k h bytes = traced (any_line ws) k h (pieces bytes)

-- ---- the program ----

unfoldable pub unless : Answer → List ℕ → List ℕ
unless Fine more = more
unless (Refused n a b) more = said (Refused n a b)

-- with limits N and P, and this many memory bits at most
unfoldable pub trace_text : ℕ → ℕ → ℕ → List ℕ → List ℕ
trace_text N P most input =
    let ws = image_of input in
    let printed = text_from ws 0 begun (trace_of input) in
    let later = refuse (unfit most ws) 12 in
    unless (and_then (opened N P (words_of input)) later) printed

-- "This program takes netlists made with N = 1,024 and P = 2,048, and memories of at most 65,536 bits in all."
abbrev pub program : List ℕ → List ℕ
program input = trace_text 1024 2048 65536 input
