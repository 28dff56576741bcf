-- `walk_job_parts::constant` meets its contract. Assumes nothing.
use mathlib.Core.Path.{sym, ap, ◌∙◌}
use Prim.Native.Nat.{ℕ, ◌-◌}
use native.Mathlib.Omega.{arith}
use lib.ListN.{length-drop}
use lib.Seq.{length-take-le}
use Rattle.spec_rtl.specs.Word.{bits, length_bits}
use Rattle.spec_rules.specs.Image.{constant_of}
use Rattle.walk_job_parts.proofs.Bits.{back_constant}
use Rattle.walk_job_parts.proofs.constant.Goals as goal

pub slice_bounds-add_constant_bits-end-2 : goal.slice_bounds-add_constant_bits-end-2
slice_bounds-add_constant_bits-end-2 c = sym (length-take-le c.min-m.result c.args.xs.now (omega (arith, c.min-m.ensures, c.requires.4)))

pub add_constant_bits-requires : goal.add_constant_bits-requires
add_constant_bits-requires c = (c.requires.0, c.requires.1, rw (length-take-le c.min-m.result c.args.xs.now (omega (arith, c.min-m.ensures, c.requires.4))) (omega (arith, c.min-m.ensures, c.requires.2, c.requires.3)))

pub returns : goal.returns
returns c =
    let s = c.args in
    let q = c.min-m.ensures in
    let e = length-take-le c.min-m.result s.xs.now (omega (arith, q, c.requires.4)) in
    let w = constant_of s.image.now s.v s.start in
    back_constant _ (s.v - s.lsb) _ _ _ c.min-m.result _ s.xs.now _ _ _ _ (length-drop s.lsb (bits s.v w) ∙ ap (λ (x : ℕ). x - s.lsb) (length_bits s.v w)) q (omega (arith, q, c.requires.4)) c.add_constant_bits.auto.out
    (c.add_constant_bits.ensures s.v (rw e (omega (arith, q, c.requires.2))))
