-- What `struo_lower` leaves: the promise of the lowering call, its answer written as three numbers. Assumes nothing.
use Rattle.std.specs.Prelude.{◌≡◌, List, ℕ}
use Rattle.spec_call.specs.Call as Call
use Rattle.spec_call.specs.Call.{numbers_of}

-- given the image s, the limits N and P and these two buffers, it left these three numbers and these two buffers
pub record Answers (s : List ℕ) (N P : ℕ) (buffer scratch answer buffer' scratch' : List ℕ) : Type 0 where
  pub numbers : answer ≡ numbers_of (Call.answer s N P buffer scratch)
  pub lowered : Call.Lowered s N P buffer scratch (Call.answer s N P buffer scratch) buffer' scratch'
