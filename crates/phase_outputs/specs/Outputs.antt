-- What connecting one signal is, and its port once its bits are resolved. Assumes nothing.
use Rattle.std.specs.Prelude.{false, List, ℕ}
use Rattle.spec_rules.specs.Image.{signal_at, decode}
use Rattle.spec_model.specs.Builder.{Out, done, and_then, add_output_port}
use Rattle.spec_model.specs.Lowering.{State, with_netlist, signal_nets, connect_output}

-- signal p, if it is an output
abbrev pub output_turn : List ℕ → ℕ → State → Out State
output_turn s p st = connect_output (decode s) false (signal_at s p).dir p (signal_at s p).width st

-- the port of signal p, k bits wide
abbrev pub port_turn : ℕ → ℕ → State → Out State
port_turn p k st = and_then (add_output_port p (signal_nets st p 0 k) st.netlist) (λ (ns, l). done (with_netlist st l))
