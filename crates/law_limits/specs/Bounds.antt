-- What a computation comes to under limits, told by what it comes to without them, and how that is shown along a computation. Assumes nothing.
use Rattle.std.specs.Prelude.{◌≡◌, refl, ℕ, length}
use Rattle.spec_model.specs.Words.{Netlist, used}
use Rattle.spec_model.specs.Lowering.{State, with_netlist}
use Rattle.spec_answers.specs.Limits.{limited}

-- something with a netlist in it: its limits replaced, of which the last count; how many nets and list words it has, whatever the limits
pub record Sized (Y : Type 0) : Type 0 where
  pub at_limits : ℕ → ℕ → Y → Y
  pub net_count : Y → ℕ
  pub word_count : Y → ℕ
  pub last_limits : (N P N' P' : ℕ) (y : Y) → at_limits N' P' (at_limits N P y) ≡ at_limits N' P' y

abbrev pub lists : Sized Netlist
lists = record {
  at_limits = limited;
  net_count = λ l. length l.nodes;
  word_count = λ l. used l.records;
  last_limits = λ N P N' P' y. refl;
}

abbrev pub made : (A : Type 0) → Sized (A × Netlist)
made A = record {
  at_limits = λ N P r. (r.0, limited N P r.1);
  net_count = λ r. length r.1.nodes;
  word_count = λ r. used r.1.records;
  last_limits = λ N P N' P' y. refl;
}

abbrev pub limited_state : ℕ → ℕ → State → State
limited_state N P st = with_netlist st (limited N P st.netlist)

abbrev pub states : Sized State
states = record {
  at_limits = limited_state;
  net_count = λ st. length st.netlist.nodes;
  word_count = λ st. used st.netlist.records;
  last_limits = λ N P N' P' y. refl;
}
