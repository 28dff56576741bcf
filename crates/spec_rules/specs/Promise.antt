-- The promise of the lowering call: its answer, and every word of both lent buffers at exit, as functions of the bytes, the limits
-- and the buffers at entry; and demand 3 of the words at exit. Assumes nothing. The lowering model is a parameter:
--     lower m N P     what lowering module m with limits N and P comes to
--     outcome         its answer: Fine, or refusal 6 to 10 and its place
--     words N P       the 16 + 6N + P words of an accepted outcome's netlist image, unused node and list words 0
use Rattle.std.specs.Prelude.{ℕ, ◌≡◌, List, ◌++◌, length, drop, replicate}
use Rattle.spec_rtl.specs.Rtl.{Module}
use Rattle.spec_tests.specs.Rules.{Answer, Fine, Refused, and_then}
use Rattle.spec_rules.specs.Image.{decode}
use Rattle.spec_rules.specs.Checks.{checked, netlist_need, scratch_need}
use Rattle.spec_rules.specs.NetlistImage.{netlist}
use Rattle.spec_rules.specs.Step.{Demand3}

-- a buffer with its first n words replaced. "Words beyond are untouched."
unfoldable pub over : ℕ → List ℕ → List ℕ → List ℕ
over n ws buffer = ws ++ drop n buffer

-- a buffer of which n words are required, after the checks' answer, then the lowering's; ws are the words after acceptance.
-- "1 to 5 touch no buffer. After 6 to 10 the required words are 0. After acceptance they are .."
unfoldable pub left : Answer → Answer → ℕ → List ℕ → List ℕ → List ℕ
left (Refused k a b) lowered n ws buffer = buffer
left Fine (Refused k a b) n ws buffer = over n (replicate n 0) buffer
left Fine Fine n ws buffer = over n ws buffer

module _ {Outcome : Type 0} (lower : Module → ℕ → ℕ → Outcome) (outcome : Outcome → Answer) (words : ℕ → ℕ → Outcome → List ℕ)
    (s : List ℕ) (N P : ℕ) (buffer scratch : List ℕ) where
  abbrev pub checks : Answer
  checks = checked s N P (length buffer) (length scratch)

  abbrev pub lowered : Outcome
  lowered = lower (decode s) N P

  -- "Checks run 1, 2, 3, 4, 5; then 6 to 10 as the walk meets them."
  unfoldable pub answer : Answer
  answer = and_then checks (outcome lowered)

  unfoldable pub buffer_after : List ℕ
  buffer_after = left checks (outcome lowered) (netlist_need N P) (words N P lowered) buffer

  unfoldable pub scratch_after : List ℕ
  scratch_after = left checks (outcome lowered) (scratch_need s N) (replicate (scratch_need s N) 0) scratch

  -- the call answered a and left these two buffers
  pub record Promise (a : Answer) (buffer' scratch' : List ℕ) : Type 0 where
    pub answered : a ≡ answer
    pub left_buffer : buffer' ≡ buffer_after
    pub left_scratch : scratch' ≡ scratch_after
    pub demand3 : a ≡ Fine → Demand3 (decode s) (netlist buffer')
