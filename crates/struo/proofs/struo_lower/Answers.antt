-- `struo::struo_lower` meets its contract. Assumes nothing.
use Rattle.struo.proofs.Ways.{answers}
use Rattle.struo.proofs.struo_lower.Goals as goal

pub returns : goal.returns
returns c =
    let a = c.args in
    let x = c.lower in
    answers a.image.now a.n a.p a.netlist.now a.scratch.now _ x.new.netlist x.new.scratch _ x.ensures c.numbers.ensures
