-- A call's answer by its number and places (docs/RULES.md): of the call's refusals, and of what the walk answers. Assumes nothing.
use Rattle.std.specs.Prelude.{Result, Ok, Err}
use Rattle.spec_tests.specs.Rules.{Answer, Fine, Refused}
use Rattle.walk_view.specs.Refusals.{Lowered}
use Rattle.walk_view.specs.declared.Refusal as W
use Rattle.walk_view.specs.declared.Refusal.TheVariants as V
use Rattle.lower_outcome.specs.declared.Refusal.{Refusal}
use Rattle.lower_outcome.specs.declared.Refusal.TheVariants.{Limits, NetlistShort, Field, Record, ScratchShort, Undriven, Loop, Reset, TooManyNets, ListFull}

-- a refusal
abbrev pub refusal_of : Refusal → Answer
refusal_of Limits = Refused 1 0 0
refusal_of NetlistShort = Refused 2 0 0
refusal_of (Field f) = Refused 3 f 0
refusal_of (Record k r) = Refused 4 k r
refusal_of ScratchShort = Refused 5 0 0
refusal_of (Undriven p b) = Refused 6 p b
refusal_of (Loop p b) = Refused 7 p b
refusal_of (Reset r b) = Refused 8 r b
refusal_of TooManyNets = Refused 9 0 0
refusal_of ListFull = Refused 10 0 0

abbrev pub answer_of : Result (Unit {0}) Refusal → Answer
answer_of (Ok u) = Fine
answer_of (Err e) = refusal_of e

-- the walk's refusal, and its answer
abbrev pub walk_refusal_of : W.Refusal → Answer
walk_refusal_of (V.Undriven p b) = Refused 6 p b
walk_refusal_of (V.Loop p b) = Refused 7 p b
walk_refusal_of (V.Reset r b) = Refused 8 r b
walk_refusal_of V.TooManyNets = Refused 9 0 0
walk_refusal_of V.ListFull = Refused 10 0 0

abbrev pub end_of : Lowered → Answer
end_of (Ok u) = Fine
end_of (Err e) = walk_refusal_of e
