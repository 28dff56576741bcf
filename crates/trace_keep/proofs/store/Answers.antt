-- `trace_keep::store` meets its contract. Assumes nothing.
use native.Mathlib.Omega.{arith}
use Rattle.trace_pass.specs.Steps.{size_is}
use Rattle.trace_keep.specs.Kept.{stores}
use Rattle.trace_keep.proofs.store.Goals as goal

pub copy_words-requires : goal.copy_words-requires
copy_words-requires c = (omega (arith, c.word_at-nets.ensures, size_is c.args.tables.now.net.now, c.requires.0.nets, c.requires.1), omega (arith, c.word_at-nets.ensures, size_is c.args.tables.now.net.now, c.requires.0.nets, c.requires.3, c.requires.4))

pub returns : goal.returns
returns c = stores c.requires.0 c.word_at-nets.ensures c.memory_bits-bits.ensures c.copy_words.ensures c.copy_words-2.ensures
