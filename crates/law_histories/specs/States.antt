-- Q-8 by states: "Keep stores all register bits, read data, memory words and input settings", "Back restores them and makes no step". A run
-- that stores and restores them writes the text by histories. Assumes nothing.
use Rattle.std.specs.Prelude.{ℕ, Bool}
use Rattle.std.proofs.Math.Bool.{true, false}
use mathlib.Core.List.{List, []}
use Rattle.std.proofs.Math.Option
use Rattle.std.proofs.Math.Option.{Option, none, some}
use Rattle.std.proofs.Math.ListN.{length}
use Rattle.spec_tests.specs.Rules.{◌<?◌, ◌or◌, pick, Refused}
use Rattle.spec_trace.specs.Trace.{Now, Before, At, After, Goes, Stops, settings_line, pieces, traced}
use Rattle.spec_trace.specs.Named.{Line, Keep, Back, Settings, read_line, Named, put, find}

-- where the run stands, and what each name holds: the settings and the contents
pub record State : Type 0 where
  pub stands : Now
  pub held : List (Named Now)

-- "a keep before the first settings line"
unfoldable pub is_before : Now → Bool
is_before Before = true
is_before (At s c) = false

unfoldable pub stored : ℕ → List ℕ → State → After State
stored k w s =
    let held = put w s.stands s.held in
    pick (is_before s.stands or 4 <? length held) (Stops (Refused 15 k 0)) (Goes [] (record { stands = s.stands; held = held }))

unfoldable pub backed : ℕ → State → Option Now → After State
backed k s none = Stops (Refused 15 k 0)
backed k s (some now) = Goes [] (record { stands = now; held = s.held })

unfoldable pub stepped : List (Named Now) → After Now → After State
stepped held (Goes printed now) = Goes printed (record { stands = now; held = held })
stepped held (Stops a) = Stops a

unfoldable pub line_of : List ℕ → ℕ → State → Line → After State
line_of ws k s (Keep w) = stored k w s
line_of ws k s (Back w) = backed k s (find w s.held)
line_of ws k s (Settings l) = stepped s.held (settings_line ws k s.stands l)

abbrev pub state_text : List ℕ → ℕ → State → List ℕ → List ℕ
state_text ws k s bytes = traced (λ k s l. line_of ws k s (read_line l)) k s (pieces bytes)
