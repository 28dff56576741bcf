-- Cases beside the bench's rows (`Rows`), computed by the checker from the images' bytes: a comparison as reset value, cases of requests
-- Q-5 and Q-1, the numbers that the modules of K7 and K8 themselves show, and the listing's example; and that every image of another
-- edition is refused. Assumes nothing.
use Rattle.std.specs.Prelude.{ℕ, ◌≡◌, refl, Bool, true, false, List, [], ◌∷◌, map, length, get_or, replicate}
use Rattle.std.proofs.Common.{sym, ap, lit<}
use Rattle.spec_rtl.specs.Word.{value}
use Rattle.spec_rtl.specs.Ops.{tab}
use Rattle.spec_tests.specs.Rules as Rules
use Rattle.spec_tests.specs.Laws.{pick_hit, pick_skip, eq_yes, ne_yes, lt_yes, begins, found}
use Rattle.spec_rules.specs.Step.{of_module, perhaps}
use Rattle.spec_rules.specs.Image as Image
use Rattle.spec_rules.specs.Checks as Checks
use Rattle.spec_rules.specs.NetlistImage.{records_with}
use Rattle.spec_rules.specs.Listing as Listing
use Rattle.spec_call.specs.Call as Call
use Rattle.bench.specs.Images as Images
use Rattle.bench.specs.Row.{adders, empty}
use Rattle.bench.specs.Computing.{computing}

-- the call on image s with limits N and P, lent as many words as it requires, all 0: the three numbers of the answer
abbrev answered : List ℕ → ℕ → ℕ → List ℕ
answered s N P = Call.numbers_of (Call.answer s N P (replicate (Checks.netlist_need N P) 0) (replicate (Checks.scratch_need s N) 0))

abbrev netlist_words : List ℕ → ℕ → ℕ → List ℕ
netlist_words s N P = Call.buffer_after s N P (replicate (Checks.netlist_need N P) 0) (replicate (Checks.scratch_need s N) 0)

-- the answer's numbers; the nets; the adder cells' widths
abbrev pub shown : List ℕ → ℕ → ℕ → List (List ℕ)
shown s N P = answered s N P ∷ (get_or (netlist_words s N P) 1 0 ∷ []) ∷ map (λ r. get_or r 2 0) (adders (netlist_words s N P)) ∷ []

abbrev pub accepted : ℕ → List ℕ → List (List ℕ)
accepted nets widths = (0 ∷ 0 ∷ 0 ∷ []) ∷ (nets ∷ []) ∷ widths ∷ []

-- after a refusal the words are 0
abbrev pub refused : ℕ → ℕ → ℕ → List (List ℕ)
refused n a b = (n ∷ a ∷ b ∷ []) ∷ (0 ∷ []) ∷ [] ∷ []

-- beside K10: a comparison of constants is a cell, so this reset value is no constant net
pub k10_comparison : shown Images.k10comparison 64 128 ≡ refused 8 0 0
unfolding computing
k10_comparison = refl

-- ---- Q-5: a sum behind an Or ----

-- (x or x) + x on 3 bits, x one bit under zeros: the sum is at most 2, so the cell has two bits
pub or_narrowed : shown Images.ornarrowed 7 20 ≡ accepted 7 (2 ∷ [])
unfolding computing
or_narrowed = refl

-- bit 1 of ({0, a} or {0, b}) + 0 is the constant above the narrowed width, so it may be a reset value
pub or_reset : shown Images.orreset 7 32 ≡ accepted 7 (1 ∷ [])
unfolding computing
or_reset = refl

-- ---- Q-1: a memory's word width, edition 2 ----

-- one port, words of 3 bits, and a word width of 3
pub memory_width : shown Images.memorywidth 12 48 ≡ accepted 12 []
unfolding computing
memory_width = refl

-- the netlist image's memory record is as before: number, depth, style, latency, ports; the four widths of the port, then its nets
pub memory_width_record : records_with 2 (netlist_words Images.memorywidth 12 48)
    ≡ (2 ∷ 0 ∷ 2 ∷ 0 ∷ 1 ∷ 1 ∷ 1 ∷ 3 ∷ 1 ∷ 3 ∷ 2 ∷ 6 ∷ 7 ∷ 8 ∷ 2 ∷ 3 ∷ 4 ∷ 5 ∷ 4294967295 ∷ 0 ∷ 1 ∷ 0 ∷ 0 ∷ 0 ∷ []) ∷ []
unfolding computing
memory_width_record = refl

-- the same with a word width of 4
pub memory_width_wrong : shown Images.memorywidthwrong 12 48 ≡ refused 4 5 0
unfolding computing
memory_width_wrong = refl

-- and in edition 1, without the word width
pub edition_1 : shown Images.edition1 12 48 ≡ refused 3 0 0
unfolding computing
edition_1 = refl

-- whatever else an image holds, and however short it is: another edition is refused at field 0
wrong_edition : (s : List ℕ) → (Image.word_at s 0 ≡ 2 → ⊥) → Checks.first_field s ≡ 0
unfolding Checks.first_field Checks.wrong_field
wrong_edition s h = either (Rules.◌<?◌ (length s) 64)
  where
    none : Rules.first (Checks.wrong_field s) 16 ≡ 0
    none = found (Checks.wrong_field s) 16 0 (lit< tt) (begins (Checks.wrong_field s) 16) (sym (pick_hit _ (eq_yes _ _ refl) (sym (ne_yes _ _ h))))

    either : (short : Bool) → Rules.pick short 0 (Rules.first (Checks.wrong_field s) 16) ≡ 0
    either true = sym (pick_hit _ refl refl)
    either false = sym (pick_skip _ refl (sym none))

pub other_edition : (s : List ℕ) → (Image.word_at s 0 ≡ 2 → ⊥) → Checks.header s ≡ Rules.Refused 3 0 0
unfolding Checks.header
other_edition s h = let e = wrong_edition s h in sym (pick_hit _ (lt_yes _ _ (rw e (lit< tt))) (ap (λ (n : ℕ). Rules.Refused 3 n 0) (sym e)))

-- ---- K7, K8: the outputs' numbers of the module itself, as the rows have them of the netlist ----

-- output signal p of width w, at the start
abbrev module_number : ℕ → List ℕ → ℕ → ℕ
module_number w s p = value (tab w (λ i. perhaps false (λ b. b) ((of_module (Image.decode s) (λ q j. false)).outputs (λ q j. false) empty p i)))

pub k7_module : map (module_number 1 Images.k07) (0 ∷ 1 ∷ []) ≡ 1 ∷ 0 ∷ []
unfolding computing
k7_module = refl

pub k8_module : map (module_number 8 Images.k08) (0 ∷ 1 ∷ 2 ∷ []) ≡ 255 ∷ 255 ∷ 254 ∷ []
unfolding computing
k8_module = refl

-- ---- the listing example ----

pub example : Call.program Images.listing ≡ Listing.text "nets 3 list 8\n0 input a\n1 not 0\n2 output y 1\nport a 0\nport y 2\n"
unfolding computing
example = refl
