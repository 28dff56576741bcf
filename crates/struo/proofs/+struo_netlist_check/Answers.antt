-- `struo::struo_netlist_check` meets its contract: a longer slice is cut where its list words used end. Assumes nothing.
use mathlib.Core.Path.{ap, ◌∙◌}
use native.Mathlib.Omega.{arith}
use borrow.Author.Rules.{rules}
use lib.ListN.{length}
use lib.Seq.{length-take-le}
use Rattle.spec_call.specs.Call.{numbers_of}
use Rattle.spec_netlist.specs.Accept.{accepts}
use Rattle.stored_check.specs.Cut.{end_cut}
use Rattle.struo.proofs.+struo_netlist_check.Goals as goal

pub struo_netlist_check-requires : goal.struo_netlist_check-requires
struo_netlist_check-requires t c = (omega (arith, ap length c.stretch.ensures, length-take-le c.list_end-end.result c.args.netlist.now (omega arith), c.decreases), search rules)

pub returns-then-end-netlist : goal.returns-then-end-netlist
returns-then-end-netlist t c = c.struo_netlist_check.ensures ∙ ap numbers_of (ap accepts c.stretch.ensures ∙ end_cut c.args.netlist.now c.list_end-end.result c.list_end-end.ensures c.if-end-netlist.true)

pub check-requires : goal.check-requires
check-requires t c = (λ h. omega (arith, h, c.word_at-nets.ensures), omega arith)

pub returns-then-nets-le64 : goal.returns-then-nets-le64
returns-then-nets-le64 t c = c.numbers.ensures ∙ ap numbers_of c.check.ensures

pub check-requires-then-nets-le1024 : goal.check-requires-then-nets-le1024
check-requires-then-nets-le1024 t c = (λ h. omega (arith, h, c.word_at-nets.ensures), omega arith)

pub returns-then-nets-le1024 : goal.returns-then-nets-le1024
returns-then-nets-le1024 t c = c.numbers-then-nets-le1024.ensures ∙ ap numbers_of c.check-then-nets-le1024.ensures

pub check-requires-then-nets-le8192 : goal.check-requires-then-nets-le8192
check-requires-then-nets-le8192 t c = (λ h. omega (arith, h, c.word_at-nets.ensures), omega arith)

pub returns-then-nets-le8192 : goal.returns-then-nets-le8192
returns-then-nets-le8192 t c = c.numbers-then-nets-le8192.ensures ∙ ap numbers_of c.check-then-nets-le8192.ensures

pub returns : goal.returns
returns t c = c.numbers-2.ensures ∙ ap numbers_of c.check-2.ensures
