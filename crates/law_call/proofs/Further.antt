-- What is proved of specs/Further: A netlist image is read from its own words: what follows them does not matter. Assumes nothing.
use Prim.Native.Nat.{ℕ, ◌+◌}
use Rattle.std.specs.Prelude.{List, ◌++◌, ◌≡◌}
use Rattle.std.proofs.Common.{arith}
use Rattle.spec_tests.specs.Rules.{◌or◌}
use Rattle.spec_rules.specs.NetlistImage.{netlist}
use Rattle.spec_model.specs.Words.{Netlist, words}
use Rattle.net_view.specs.View.{Fit}
use Rattle.net_view.specs.Laws.{length_words}
use Rattle.law_call.specs.Further.{Whole, header_same, node_same, port_same, records_same}
use Rattle.std.proofs.Math.Path.{fun_ext}
use Rattle.std.proofs.Math.ListN.{get_or}
use Rattle.scratch_view.specs.Rows.{list_of_agree}
use Rattle.spec_rules.specs.NetlistImage.{node_at_of, is_output_port, records_with}

module _ (ws : List ℕ) (whole : Whole ws) (rest : List ℕ) where
  pub netlist_same : netlist (ws ++ rest) ≡ netlist ws
  unfolding netlist records_with
  netlist_same =
      let p : is_output_port (ws ++ rest) ≡ is_output_port ws = fun_ext (port_same ws whole rest) in
      rw (
        header_same ws whole rest 1 (omega arith),
        list_of_agree (get_or ws 1 0) (node_at_of (ws ++ rest)) (node_at_of ws) (node_same ws whole rest),
        p,
        records_same ws whole rest,
      )

-- the words of a netlist within its limits are whole
words_whole : (n p : ℕ) (l : Netlist) → Fit n p l → Whole (words n p l)
unfolding words
words_whole n p l f =
    let e = length_words n p l f in
    record { header = omega arith; nodes = omega (arith, f.few); list = omega (arith, f.short) }

pub words_further : (n p : ℕ) (l : Netlist) → Fit n p l → (rest : List ℕ) → netlist (words n p l ++ rest) ≡ netlist (words n p l)
words_further n p l f rest = netlist_same (words n p l) (words_whole n p l f) rest
