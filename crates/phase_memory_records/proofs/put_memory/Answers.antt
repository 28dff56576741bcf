-- `phase_memory_records::put_memory` meets its contract. Assumes nothing.
use native.Mathlib.Omega.{arith}
use mathlib.Core.Path.{refl, ap, ◌∙◌}
use Prim.Native.Nat.{◌+◌}
use lib.ListN.{length}
use borrow.Table.Elements.{same_len}
use Rattle.spec_rules.specs.Image.{decode}
use Rattle.spec_model.specs.Words.{bit_word}
use Rattle.scratch_view.specs.View.{state_of}
use Rattle.phase_memory_records.specs.Puts.{puts_front, puts_then, puts_as}
use Rattle.phase_memory_records.proofs.Laws.{there_first, whole_first, there_second, whole_second, words_one, words_two}
use Rattle.phase_memory_records.proofs.Lent.{rest_fits, back_long}
use Rattle.phase_memory_records.proofs.put_memory.Goals as goal

pub put_port-end-requires : goal.put_port-end-requires
put_port-end-requires c =
    let pre = c.requires in
    let a = c.args in
    (pre.0, there_first a.x a.image.now pre.1, whole_first a.x a.image.now a.scr.now pre.2, rest_fits _ 6 _ (length a.out.now) (same_len 6 _ _ c.copy_from_slice.auto.self) (omega (arith, pre.3)))

pub put_port-requires : goal.put_port-requires
put_port-requires c =
    let pre = c.requires in
    let a = c.args in
    let p = c.in-Some.p in
    let q = c.in-Some.is in
    let long = back_long _ _ 6 (length a.out.now) c.put_port-end.auto.out (same_len 6 _ _ c.copy_from_slice.auto.self) in
    (pre.0, there_second a.x p q a.image.now pre.1, whole_second a.x p q a.image.now a.scr.now pre.2, rest_fits _ (6 + c.put_port-end.result) _ _ long (omega (arith, pre.3, c.put_port-end.ensures.0)))

pub returns-in-None : goal.returns-in-None
returns-in-None c =
    let a = c.args in
    let e = c.from-ports.ensures ∙ ap bit_word c.is_some.ensures in (
      omega (arith, c.put_port-end.ensures.0),
      λ l. puts_as (words_one a.x c.in-None.is (decode a.image.now) a.k _ (state_of a.image.now l a.scr.now) e) (puts_then _ (puts_front _ c.copy_from_slice.ensures.after refl) (c.put_port-end.ensures.1 l)),
    )

pub returns-in-Some : goal.returns-in-Some
returns-in-Some c =
    let a = c.args in
    let p = c.in-Some.p in
    let q = c.in-Some.is in
    let e = c.from-ports.ensures ∙ ap bit_word c.is_some.ensures in (
      omega (arith, c.put_port-end.ensures.0, c.put_port.ensures.0),
      λ l. puts_as (words_two a.x p q (decode a.image.now) a.k _ (state_of a.image.now l a.scr.now) e)
          (puts_then _ (puts_then _ (puts_front _ c.copy_from_slice.ensures.after refl) (c.put_port-end.ensures.1 l)) (c.put_port.ensures.1 l)),
    )
