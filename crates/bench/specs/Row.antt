-- A row of the bench table: an image with its limits, what the bench says of it (docs/RULES.md), and what comes out; and what a call that was
-- given that image shows. Assumes nothing.
use Rattle.std.specs.Prelude.{ℕ, ◌≤◌, ◌<◌, false, List, [], ◌∷◌, ◌++◌, map, ◌≡◌, length, take, drop, get_or, replicate}
use Prim.Native.String.{String}
use Rattle.spec_rtl.specs.Word.{value}
use Rattle.spec_rtl.specs.Ops.{tab}
use Rattle.spec_tests.specs.Rules.{◌≡?◌, pick, only, Answer}
use Rattle.spec_rules.specs.Image.{absent}
use Rattle.spec_rules.specs.Checks.{netlist_need, scratch_need}
use Rattle.spec_rules.specs.NetlistImage.{Netlist, records_with, netlist}
use Rattle.spec_rules.specs.Step.{Contents, of_netlist, perhaps}
use Rattle.spec_call.specs.Call.{numbers_of, Lowered}

-- what the bench says a number of
pub data Question : Type 0 where
  Numbers : Question  -- the answer's three numbers
  Nets : Question  -- how many nets there are
  AdderWidths : Question  -- each adder cell's width, in the order of the list
  Carries : Question  -- of each adder cell: 1 with a carry, 0 without
  Outputs : (width : ℕ) → List ℕ → Question  -- the numbers that these output signals show at the start, inputs 0
  ResetValue : Question  -- the number that the reset bits of the register records make

-- the arithmetic records whose operation is Add: "(3, operation, width, carry or absent, ..)"
abbrev pub adders : List ℕ → List (List ℕ)
adders w = only (λ r. get_or r 1 0 ≡? 0) (records_with 3 w)

abbrev pub empty : Contents
empty = record { reg = λ k i. false; dat = λ k second i. false; mem = λ k at i. false }

-- output signal p of a netlist, at the start
abbrev pub output_number : ℕ → Netlist → ℕ → ℕ
output_number width l p = value (tab width (λ i. perhaps false (λ b. b) ((of_netlist l).outputs (λ q j. false) empty p i)))

-- the reply that three numbers and a buffer's words give
unfoldable pub reply : Question → List ℕ → List ℕ → List ℕ
reply Numbers n w = n
reply Nets n w = get_or w 1 0 ∷ []
reply AdderWidths n w = map (λ r. get_or r 2 0) (adders w)
reply Carries n w = map (λ r. pick (get_or r 3 0 ≡? absent) 0 1) (adders w)
reply (Outputs width ps) n w = map (output_number width (netlist w)) ps
reply ResetValue n w = value (map (λ r. get_or r 12 0 ≡? 1) (records_with 1 w)) ∷ []

pub record Row : Type 0 where
  pub name : String
  pub text : String  -- the bench's words
  pub image : List ℕ
  pub limits : ℕ × ℕ  -- N and P
  pub asked : Question
  pub document : List ℕ  -- the bench's reply
  pub found : List ℕ  -- the reply that comes out
  pub answer : List ℕ  -- the answer's three numbers
  pub header : List ℕ  -- the netlist buffer's first 16 words

-- the words that the call requires of the netlist buffer and of the scratch
abbrev pub words : Row → ℕ
words r = netlist_need r.limits.0 r.limits.1

abbrev pub room : Row → ℕ
room r = scratch_need r.image r.limits.0

-- what is to be read from the three numbers of the answer and from the buffers
pub record Shows (r : Row) (buffer scratch answer buffer' scratch' : List ℕ) : Type 0 where
  pub numbers : answer ≡ r.answer
  pub heading : take 16 buffer' ≡ r.header
  pub replies : reply r.asked answer buffer' ≡ r.found
  pub further : drop (words r) buffer' ≡ drop (words r) buffer
  pub cleared : scratch' ≡ replicate (room r) 0 ++ drop (room r) scratch

-- refused under n, no buffer touched
pub record Refuses (n : ℕ) (buffer scratch answer buffer' scratch' : List ℕ) : Type 0 where
  pub refused : answer ≡ n ∷ 0 ∷ 0 ∷ []
  pub same_buffer : buffer' ≡ buffer
  pub same_scratch : scratch' ≡ scratch

-- a row holds of every call in `Called`, a relation of both buffers at entry, the answer's numbers and both buffers at exit: with buffers
-- that are long enough it shows what the row says; with shorter ones it is refused under 2 or 5
pub record RowHolds (r : Row) (Called : List ℕ → List ℕ → List ℕ → List ℕ → List ℕ → Type 0) : Type 0 where
  pub long : (buffer scratch answer buffer' scratch' : List ℕ) → words r ≤ length buffer → room r ≤ length scratch
      → Called buffer scratch answer buffer' scratch' → Shows r buffer scratch answer buffer' scratch'
  pub short_buffer : (buffer scratch answer buffer' scratch' : List ℕ) → length buffer < words r
      → Called buffer scratch answer buffer' scratch' → Refuses 2 buffer scratch answer buffer' scratch'
  pub short_scratch : (buffer scratch answer buffer' scratch' : List ℕ) → words r ≤ length buffer → length scratch < room r
      → Called buffer scratch answer buffer' scratch' → Refuses 5 buffer scratch answer buffer' scratch'

-- the call on a row's image with its limits keeps its promise, with an answer of these numbers
pub record Promised (r : Row) (buffer scratch answer buffer' scratch' : List ℕ) : Type 0 where
  pub given : Answer
  pub numbers : answer ≡ numbers_of given
  pub kept : Lowered r.image r.limits.0 r.limits.1 buffer scratch given buffer' scratch'
