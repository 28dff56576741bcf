-- `trace_image::judge_header` meets its contract. Assumes nothing.
use mathlib.Core.Path.{refl, sym, ◌∙◌}
use native.Mathlib.Omega.{arith}
use Rattle.std.proofs.Common.{length, min}
use Rattle.spec_netlist.specs.Accept.{wrong_header}
use Rattle.spec_chains.specs.Search.{some_tells, none_tells}
use Rattle.trace_image.specs.Headed.{head_wrong, head_other, head_short, head_right}
use Rattle.trace_image.proofs.judge_header.Goals as goal

pub overflow_cast-result : goal.overflow_cast-result
overflow_cast-result c = omega (arith, (some_tells (wrong_header c.args.net.now) (min 16 (length c.args.net.now)) _ (sym c.in-Some.ensures)).0)

pub returns-in-Some : goal.returns-in-Some
returns-in-Some c =
    let t = some_tells (wrong_header c.args.net.now) (min 16 (length c.args.net.now)) _ (sym c.in-Some.ensures) in
    head_wrong 1024 2048 _ (sym t.1) t.0

pub returns-then-is_other : goal.returns-then-is_other
returns-then-is_other c =
    let t = none_tells (wrong_header c.args.net.now) (min 16 (length c.args.net.now)) (sym c.in_default.ensures) in
    head_other 1024 2048 _ refl (omega (arith, t)) (sym c.is_other.ensures ∙ c.if-is_other.true)

pub returns-then-net-lt-HEADER_LENGTH : goal.returns-then-net-lt-HEADER_LENGTH
returns-then-net-lt-HEADER_LENGTH c =
    let t = none_tells (wrong_header c.args.net.now) (min 16 (length c.args.net.now)) (sym c.in_default.ensures) in
    head_short 1024 2048 _ refl (omega (arith, t)) (sym c.is_other.ensures ∙ c.if-is_other.false) (omega (arith, c.if-net-lt-HEADER_LENGTH.true))

pub returns : goal.returns
returns c =
    let t = none_tells (wrong_header c.args.net.now) (min 16 (length c.args.net.now)) (sym c.in_default.ensures) in
    head_right 1024 2048 _ refl (omega (arith, t)) (sym c.is_other.ensures ∙ c.if-is_other.false) (omega (arith, c.if-net-lt-HEADER_LENGTH.false))
