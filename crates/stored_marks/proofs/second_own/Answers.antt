-- `stored_marks::second_own` meets its contract. Assumes nothing.
use Rattle.std.proofs.Common.{ℕ, List, ◌+◌, sym, ap, ◌∙◌, drop}
use Rattle.spec_rules.specs.NetlistImage.{port_length, memory_port_of}
use Rattle.stored_marks.specs.Runs.{second_sort, second_count, second_port_law}
use Rattle.stored_marks.proofs.second_own.Goals as goal
use Rattle.stored_marks.proofs.second_own.Goals.{then-word_at-ne-MEMORY_RECORD-via-then-word_at-ne-MEMORY_RECORD, then-word_at-ne-MEMORY_RECORD-via-else-word_at-ne-MEMORY_RECORD+then-word_at-ne2}

pub returns-then-word_at-ne-MEMORY_RECORD : goal.returns-then-word_at-ne-MEMORY_RECORD
returns-then-word_at-ne-MEMORY_RECORD c =
    elim c.then-word_at-ne-MEMORY_RECORD.branch [
      | then-word_at-ne-MEMORY_RECORD-via-then-word_at-ne-MEMORY_RECORD w ↦ second_sort c.args.r.now (λ e. w.if-word_at-ne-MEMORY_RECORD.true (c.word_at.ensures ∙ e))
      | then-word_at-ne-MEMORY_RECORD-via-else-word_at-ne-MEMORY_RECORD+then-word_at-ne2 w ↦ second_count c.args.r.now (λ e. w.if-word_at-ne2.true (w.word_at-else-word_at-ne-MEMORY_RECORD.ensures ∙ e))
    ]

pub returns : goal.returns
returns c =
    c.port_own.ensures
    ∙ (ap (λ (p : List ℕ). (memory_port_of p).read_data) (c.part-2.ensures ∙ ap (λ (n : ℕ). drop (6 + n) c.args.r.now) (c.port_length-first.ensures.0 ∙ ap port_length c.part.ensures))
    ∙ second_port_law c.args.r.now (sym c.word_at.ensures ∙ c.if-word_at-ne-MEMORY_RECORD.false) (sym c.word_at-else-word_at-ne-MEMORY_RECORD.ensures ∙ c.if-word_at-ne2.false))
