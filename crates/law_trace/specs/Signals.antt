-- A trace in a module's own terms: its input signals give a line's characters, its output signals the printed bits, both in signal order.
-- Assumes nothing.
use Rattle.std.specs.Prelude.{ℕ, suc, ◌+◌, ◌*◌, ◌≡◌, Bool, true, false, List, [], ◌∷◌, ◌++◌, map, length, drop, get_or}
use Rattle.spec_rtl.specs.Rtl as R
use Rattle.spec_rtl.specs.Rtl.{Module, Sig, Dir, Memory}
use Rattle.spec_tests.specs.Rules.{◌<?◌, ◌≡?◌, ◌≢?◌, ◌or◌, ◌and◌, pick, list_of}
use Rattle.spec_rules.specs.Step.{Setting, Seen, perhaps, width_of, is_output}
use Rattle.spec_rules.specs.Listing.{together}
use Rattle.spec_trace.specs.Opened.{having}
use Rattle.spec_trace.specs.Trace.{digit}

abbrev pub is_input : Dir → Bool
is_input R.Internal = false
is_input R.Input = true
is_input R.Output = false

-- signals of a direction, the first of these being number p: number and width
unfoldable pub signals_from : (Dir → Bool) → ℕ → List Sig → List (ℕ × ℕ)
signals_from f p [] = []
signals_from f p (x ∷ xs) = pick (f x.dir) ((p, x.width) ∷ []) [] ++ signals_from f (suc p) xs

abbrev pub inputs : Module → List (ℕ × ℕ)
inputs m = signals_from is_input 0 m.signals

abbrev pub outputs : Module → List (ℕ × ℕ)
outputs m = signals_from is_output 0 m.signals

-- the bits of all these
unfoldable pub widths : List (ℕ × ℕ) → ℕ
widths [] = 0
widths ((p, w) ∷ ps) = w + widths ps

-- their bits from a line's characters, bit 0 first
unfoldable pub setting_from : List (ℕ × ℕ) → List ℕ → Setting
setting_from [] l p i = false
setting_from ((q, w) ∷ ps) l p i =
    let later = setting_from ps (drop w l) p i in
    pick (q ≡? p and i <? w) (get_or l i 0 ≡? 49) later

abbrev pub line_setting : Module → List ℕ → Setting
line_setting m l = setting_from (inputs m) l

-- a line with another number of characters than the inputs have bits, or with one that is neither 0 nor 1
unfoldable pub wrong_for : Module → List ℕ → Bool
wrong_for m l = length l ≢? widths (inputs m) or having (λ b. b ≢? 48 and b ≢? 49) l

abbrev pub AllRightFor : Module → List (List ℕ) → Type 0
AllRightFor m [] = Unit {0}
AllRightFor m (l ∷ ls) = (wrong_for m l ≡ false) × AllRightFor m ls

-- the output bits that a machine shows
unfoldable pub signal_text : Seen → ℕ × ℕ → List ℕ
signal_text x (p, w) = list_of w (λ i. digit (perhaps false (λ b. b) (x.outputs p i)))

unfoldable pub output_text : Module → Seen → List ℕ
output_text m x = together (map (signal_text x) (outputs m)) ++ (10 ∷ [])

-- the bits that memories hold
unfoldable pub memory_bits : Module → List Memory → ℕ
memory_bits m [] = 0
memory_bits m (x ∷ xs) = x.depth * width_of m x.first.read_data + memory_bits m xs
