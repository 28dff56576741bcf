-- `listing_input::program` meets its contract. Assumes nothing.
use mathlib.Core.Path.{refl, ap, ◌∙◌}
use Prim.Native.Nat.{ℕ}
use lib.ListN.{length, length-replicate}
use Rattle.spec_rules.specs.Checks.{netlist_need}
use Rattle.listing_length.specs.Program.{program_is, program_short}
use Rattle.listing_outcome.specs.Written.{written_same}
use Rattle.listing_input.proofs.program.Goals as goal

pub outcome_text-requires : goal.outcome_text-requires
unfolding netlist_need
outcome_text-requires c =
    record {
      room = c.requires;
      short = program_short c.lower-answer.ensures (ap length c.netlist_words-netlist.ensures ∙ length-replicate {A = ℕ} 8208 0);
    }

pub returns : goal.returns
unfolding netlist_need
returns c =
    written_same
    (program_is c.lower-answer.ensures _ 8208 refl c.stretch-image.ensures c.netlist_words-netlist.ensures c.scratch_words-scratch.ensures)
    c.outcome_text.ensures
