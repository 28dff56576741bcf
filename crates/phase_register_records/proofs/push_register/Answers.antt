-- `phase_register_records::push_register` meets its contract. Assumes nothing.
use native.Mathlib.Omega.{arith}
use mathlib.Core.Path.{sym, ap}
use mathlib.Core.List.{List}
use Prim.Native.Nat.{ℕ}
use Rattle.spec_model.specs.Lowering.{push_record}
use Rattle.net_view.specs.View.{netlist_of}
use Rattle.net_view.specs.Formed.{formed_register}
use Rattle.scratch_view.specs.View.{limit_of}
use Rattle.image_records.specs.Others.{register_means}
use Rattle.walk_view.specs.View.{walk_state}
use Rattle.phase_parts.specs.Ran.{ran_as}
use Rattle.phase_register_records.specs.Registers.{four_words}
use Rattle.phase_register_records.proofs.Laws.{bit_words_law}
use Rattle.phase_register_records.proofs.push_register.Goals as goal

pub bit_net-target-requires : goal.bit_net-target-requires
unfolding register_means
bit_net-target-requires c =
    let pre = c.requires in
    (pre.0.laid, pre.2.target, pre.4)

pub expr_net-next-requires : goal.expr_net-next-requires
unfolding register_means
expr_net-next-requires c =
    let pre = c.requires in
    (pre.0.laid, pre.2.next.there, omega (arith, pre.4, pre.2.next.width))

pub bit_net-clock-requires : goal.bit_net-clock-requires
unfolding register_means
bit_net-clock-requires c =
    let pre = c.requires in
    (pre.0.laid, pre.2.clock.there, omega (arith, pre.2.clock.one))

pub control_words-c-requires : goal.control_words-c-requires
unfolding register_means
control_words-c-requires c =
    let pre = c.requires in
    (pre.0.laid, pre.2.enable)

pub push-requires : goal.push-requires
push-requires c =
    let pre = c.requires in
    (pre.0, pre.1, formed_register _ (omega arith), omega arith, omega arith)

pub returns : goal.returns
unfolding register_means
returns c =
    let control-words = c.control_words-c in
    let low_word = c.low_word-edge in
    let bit-net2 = c.bit_net-clock in
    let expr-net = c.expr_net-next in
    let bit-net = c.bit_net-target in
    let pre = c.requires in
    let a = c.args in
    let st = walk_state a.image.now a.net.now a.scr.now in
    let l = netlist_of (limit_of a.scr.now) a.net.now in
    ran_as (ap (λ (ws : List ℕ). push_record ws st) (sym (bit_words_law st a.k a.b _ _ _ _ (register_means a.x) _ _ (four_words a.z)
    (bit-net.ensures l) (expr-net.ensures.whole l pre.3.next) (bit-net2.ensures l) low_word.ensures (control-words.ensures l)))) c.push.ensures
