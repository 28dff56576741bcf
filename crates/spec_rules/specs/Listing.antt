-- The listing program's text, from the bytes it read, the answer for them and the netlist words. Assumes nothing.
use Rattle.std.specs.Prelude.{ℕ, zero, suc, ◌+◌, ◌-◌, ◌/◌, ◌%◌, List, [], ◌∷◌, ◌++◌, map, take, drop, get_or, replicate}
use Prim.Native.String as Str
use Prim.Native.String.{String}
use Prim.Native.Char.{code}
use Rattle.spec_rtl.specs.Rtl.{Module}
use Rattle.spec_tests.specs.Rules.{◌<?◌, ◌≡?◌, ◌or◌, pick, list_of, Answer, Fine, Refused}
use Rattle.spec_rules.specs.Image.{absent, field, name_of, signal_width, first_port}
use Rattle.spec_rules.specs.Checks.{netlist_need}
use Rattle.spec_rules.specs.NetlistImage.{node_word, records_of}
use Rattle.spec_rules.specs.Promise.{answer, buffer_after}

-- ---- text as bytes ----

abbrev pub text : String → List ℕ
text Str.[] = []
text (Str.◌∷◌ c s) = code c ∷ text s

-- at most k decimal digits of n, no zero in front
unfoldable pub digits : ℕ → ℕ → List ℕ
digits zero n = []
digits (suc k) n = let more = digits k (n / 10) ++ ((48 + n % 10) ∷ []) in pick (n <? 10) ((48 + n) ∷ []) more

unfoldable pub decimal : ℕ → List ℕ
decimal n = digits (suc n) n

-- words with one space between them, and a line end
unfoldable pub line : List (List ℕ) → List ℕ
line [] = 10 ∷ []
line (w ∷ []) = w ++ (10 ∷ [])
line (w ∷ v ∷ ws) = w ++ (32 ∷ line (v ∷ ws))

unfoldable pub together : List (List ℕ) → List ℕ
together [] = []
together (l ∷ ls) = l ++ together ls

-- ---- net lines ----

-- "lower-case kind (`NodeKind`'s word unbroken)"
unfoldable pub kind_word : ℕ → List ℕ
kind_word k = get_or (text "input" ∷ text "constant" ∷ text "and" ∷ text "or" ∷ text "xor" ∷ text "not" ∷ text "mux" ∷ text "registeroutput"
    ∷ text "output" ∷ text "memoryoutput" ∷ text "arithmeticoutput" ∷ text "comparisonoutput" ∷ []) k []

-- `bit_name`: the name alone where the width is 1
unfoldable pub bit_name : List ℕ → ℕ → ℕ → List ℕ
bit_name name w bit = pick (w ≡? 1) name (name ++ (text "[" ++ (decimal bit ++ text "]")))

unfoldable pub signal_name : List ℕ → ℕ → ℕ → List ℕ
signal_name s p bit = bit_name (name_of s 0 p) (signal_width s p) bit

unfoldable pub register_name : List ℕ → ℕ → ℕ → List ℕ
register_name s r bit = bit_name (name_of s 4 r) (signal_width s (field s 4 r 2)) bit

-- "a second port's with `_b` and bits from 0"
unfoldable pub memory_name : List ℕ → ℕ → ℕ → List ℕ
memory_name s m bit =
    let w = signal_width s (field s 5 m (first_port + 1)) in
    pick (bit <? w) (bit_name (name_of s 5 m) w bit) (bit_name (name_of s 5 m ++ text "_b") w (bit - w))

-- "name (sources, outputs), value (constant), or cell and bit (cell outputs)": kind, owner, bit
unfoldable pub owned : List ℕ → ℕ → ℕ → ℕ → List (List ℕ)
owned s k owner bit =
    pick (k ≡? 0 or k ≡? 8) (signal_name s owner bit ∷ [])
    (pick (k ≡? 1) (decimal owner ∷ [])
    (pick (k ≡? 7) (register_name s owner bit ∷ [])
    (pick (k ≡? 9) (memory_name s owner bit ∷ [])
    (pick (k ≡? 10 or k ≡? 11) (decimal owner ∷ decimal bit ∷ [])
    []))))

-- "then inputs": those that are not absent
unfoldable pub inputs : List ℕ → List (List ℕ)
inputs [] = []
inputs (n ∷ ns) = pick (n ≡? absent) [] (decimal n ∷ inputs ns)

unfoldable pub net_line : List ℕ → List ℕ → ℕ → List ℕ
net_line s ws n =
    line (decimal n ∷ kind_word (node_word ws n 0)
    ∷ (owned s (node_word ws n 0) (node_word ws n 1) (node_word ws n 2) ++ inputs (node_word ws n 3 ∷ node_word ws n 4 ∷ node_word ws n 5 ∷ [])))

-- ---- record lines ----

unfoldable pub record_line : List ℕ → List ℕ → List ℕ
record_line s r =
    pick (get_or r 0 0 ≡? 0) (line (text "port" ∷ name_of s 0 (get_or r 1 0) ∷ map decimal (drop 3 r)))
    (line (get_or ([] ∷ text "register" ∷ text "memory" ∷ text "arithmetic" ∷ text "comparison" ∷ []) (get_or r 0 0) [] ∷ map decimal (drop 1 r)))

-- ---- the whole ----

-- "First line: net count, list words."
unfoldable pub listing : List ℕ → Answer → List ℕ → List ℕ
listing s (Refused n a b) ws = line (text "refused" ∷ decimal n ∷ decimal a ∷ decimal b ∷ [])
listing s Fine ws =
    line (text "nets" ∷ decimal (get_or ws 1 0) ∷ text "list" ∷ decimal (get_or ws 3 0) ∷ [])
    ++ (together (list_of (get_or ws 1 0) (net_line s ws)) ++ together (map (record_line s) (records_of ws)))

-- "reads at most 32,768 bytes of an image from standard input and judges those, with N = 1,024, P = 2,048 and 8,192 scratch words":
-- what the program writes for an input; the lowering model's parameters as in Promise
module _ {Outcome : Type 0} (lower : Module → ℕ → ℕ → Outcome) (outcome : Outcome → Answer) (words : ℕ → ℕ → Outcome → List ℕ) where
  unfoldable pub program : List ℕ → List ℕ
  program input =
      let s = take 32768 input in
      let buffer : List ℕ = replicate (netlist_need 1024 2048) 0 in
      let scratch : List ℕ = replicate 8192 0 in
      listing s (answer lower outcome words s 1024 2048 buffer scratch) (buffer_after lower outcome words s 1024 2048 buffer scratch)
