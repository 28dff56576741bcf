-- What pushing a list record answers, and how the answer and the words after it stand to the model. Assumes nothing.
use Rattle.std.specs.Prelude.{◌≡◌, false, List, ℕ, Result, Ok, Err, IsOk, IsErr}
use Rattle.spec_model.specs.Words.{Netlist}
use Rattle.spec_model.specs.Builder.{Out, refused, done, push}
use Rattle.net_view.specs.View.{netlist_of, Built}
use Rattle.net_view.specs.Laws.{with_record}
use Rattle.net_index.specs.Index.{is_cell, Held}
use Rattle.net_records.specs.declared.ListFull.{ListFull}

-- refusal 10
abbrev pub pushed_of : Result (Unit {0}) ListFull → Netlist → Out Netlist
pushed_of (Ok u) l = done l
pushed_of (Err e) l = refused 10 0 0

-- the record r was pushed on the words w, the answer is a, and w' are the words then
pub record Pushes (r : List ℕ) (n : ℕ) (a : Result (Unit {0}) ListFull) (w w' : List ℕ) : Type 0 where
  pub says : push r (netlist_of n w) ≡ pushed_of a (netlist_of n w')
  pub view : IsOk a → netlist_of n w' ≡ with_record r (netlist_of n w)
  pub kept : IsErr a → w' ≡ w
  pub built : Built n w'
  pub held : is_cell r ≡ false → (idx : List ℕ) → Held n w idx → Held n w' idx
