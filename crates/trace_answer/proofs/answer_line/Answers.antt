-- `trace_answer::answer_line` meets its contract. Assumes nothing.
use mathlib.Core.Path.{refl}
use mathlib.Core.Bool.{true, false}
use Rattle.trace_answer.proofs.Residual.{or_named, or_settles}
use Rattle.trace_keep.specs.Slots.{used_of}
use Rattle.trace_answer.specs.Settings.{unless_yes, unless_no}
use Rattle.trace_answer.specs.Lines.{standing_of, given_name, answers_keep, answers_back, answers_settings}
use Rattle.trace_answer.proofs.answer_line.Goals as goal

pub keep-requires : goal.keep-requires
keep-requires c = (used_of c.requires.0.0.prepared c.requires.0.0.sized c.requires.0.0.room, c.requires.0.0.room, given_name _ _ c.is_named.ensures c.if-is_named.true c.part.ensures)

pub settings_line-requires : goal.settings_line-requires
settings_line-requires c = ((standing_of c.requires.0.0, c.requires.0.1), c.requires.1)

pub returns-in_err-keep-clause-answers : goal.returns-in_err-keep-clause-answers
returns-in_err-keep-clause-answers c =
    or_named c.args.tables.now c.args.k c.args.line.now c.args.out.now c.args.at c.args.state.now c.args.kept.now _ _ _ c.from_residual.ensures
    (λ to stop o f. answers_keep c.requires.0.0 c.is_named.ensures c.if-is_named.true c.part.ensures c.in_err-keep.ensures.keeps (unless_no false refl f))

pub returns-in_err-back-clause-answers : goal.returns-in_err-back-clause-answers
returns-in_err-back-clause-answers c =
    or_named c.args.tables.now c.args.k c.args.line.now c.args.out.now c.args.at c.args.state.now c.args.kept.now _ _ _ c.from_residual-in_err-back.ensures
    (λ to stop o f. answers_back c.requires.0.0 c.is_named.ensures c.if-is_named.false c.is_named-2.ensures c.if-is_named-2.true c.part-then-is_named-2.ensures c.in_err-back.ensures c.back.auto.values c.back.auto.memory
    (unless_no false refl f))

pub returns-clause-answers : goal.returns-clause-answers
returns-clause-answers c =
    or_settles c.args.tables.now c.args.k c.args.line.now c.args.out.now c.args.at c.args.state.now c.args.kept.now _ _ _ c.settings_line.ensures.settles
    (λ to stop o s. answers_settings c.requires.0.0 c.is_named.ensures c.if-is_named.false c.is_named-2.ensures c.if-is_named-2.false s)

pub returns-then-is_named-clause-answers : goal.returns-then-is_named-clause-answers
returns-then-is_named-clause-answers c = answers_keep c.requires.0.0 c.is_named.ensures c.if-is_named.true c.part.ensures c.in_ok-keep.ensures.keeps (unless_yes true refl c.requires.1)

pub back-requires : goal.back-requires
back-requires c = (used_of c.requires.0.0.prepared c.requires.0.0.sized c.requires.0.0.room, c.requires.0.0.room, given_name _ _ c.is_named-2.ensures c.if-is_named-2.true c.part-then-is_named-2.ensures)

pub returns-then-is_named-2-clause-answers : goal.returns-then-is_named-2-clause-answers
returns-then-is_named-2-clause-answers c =
    answers_back c.requires.0.0 c.is_named.ensures c.if-is_named.false c.is_named-2.ensures c.if-is_named-2.true c.part-then-is_named-2.ensures c.in_ok-back.ensures c.back.auto.values c.back.auto.memory (unless_yes true refl c.requires.1)
