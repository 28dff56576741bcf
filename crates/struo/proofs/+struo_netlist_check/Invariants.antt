-- `struo::struo_netlist_check` meets its contract: a longer slice is cut where its list words used end. Assumes nothing.
use lib.ListN.{length}
use Rattle.struo.proofs.+struo_netlist_check.Given as goal

abbrev pub decreases-struo_netlist_check : goal.decreases-struo_netlist_check
decreases-struo_netlist_check l = length l.netlist.now
