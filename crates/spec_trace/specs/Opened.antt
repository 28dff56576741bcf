-- A netlist image at the front of a program's input, and refusal 12 (docs/RULES.md, change request Q-4). Assumes nothing.
use Rattle.std.specs.Prelude.{ℕ, ◌+◌, ◌*◌, Bool, false, not, List, [], ◌∷◌, map, length, take, drop, get_or}
use Rattle.std.proofs.Math.Option.{Option, none, some}
use Rattle.spec_tests.specs.Rules.{◌<?◌, ◌≡?◌, ◌≢?◌, ◌or◌, ◌and◌, only, Answer, and_then}
use Rattle.spec_rules.specs.Image.{absent}
use Rattle.spec_rules.specs.Checks.{refuse}
use Rattle.spec_rules.specs.NetlistImage.{MemoryPort, MemoryCell, node_word, records_with, memory_of}
use Rattle.spec_rules.specs.Listing.{together}
use Rattle.spec_netlist.specs.Accept.{used, list_at_of, limit, header_answer, body_answer}

-- "four bytes a word, low first (a cut word counts as none)"
unfoldable pub words_of : List ℕ → List ℕ
words_of [] = []
words_of (a ∷ []) = []
words_of (a ∷ b ∷ []) = []
words_of (a ∷ b ∷ c ∷ []) = []
words_of (a ∷ b ∷ c ∷ d ∷ rest) = (a + b * 256 + c * 65536 + d * 16777216) ∷ words_of rest

-- "ending at the last list word used": how many words the image has, the image, and what follows it
abbrev pub word_count : List ℕ → ℕ
word_count ws = list_at_of ws + used ws

abbrev pub image_of : List ℕ → List ℕ
image_of input = let ws = words_of input in take (word_count ws) ws

abbrev pub trace_of : List ℕ → List ℕ
trace_of input = drop (4 * word_count (words_of input)) input

-- ---- refusal 12, with limits N and P, and this many memory bits at most ----

-- "a netlist of another N or with more than 2,048 list words, .. straight after 11's header words, if all sixteen are there, and before
-- its length"
unfoldable pub other_limits : ℕ → ℕ → List ℕ → Bool
other_limits N P ws = not (length ws <? 16) and (limit ws ≢? N or P <? used ws)

-- 11, with these two in their place
unfoldable pub opened : ℕ → ℕ → List ℕ → Answer
opened N P ws =
    let body = body_answer ws in
    let limits = and_then (refuse (other_limits N P ws) 12) body in
    and_then (header_answer ws) limits

-- an element has p
unfoldable pub having : {A : Type 0} → (A → Bool) → List A → Bool
having p xs = 0 <? length (only p xs)

-- "a clock or asynchronous reset that is no input net"
unfoldable pub no_input : List ℕ → ℕ → Bool
no_input ws x = node_word ws x 0 ≢? 0

unfoldable pub register_unfit : List ℕ → List ℕ → Bool
register_unfit ws r = no_input ws (get_or r 5 0) or (get_or r 9 0 ≢? absent and get_or r 11 0 ≡? 1 and no_input ws (get_or r 9 0))

unfoldable pub second_unfit : List ℕ → Option MemoryPort → Bool
second_unfit ws none = false
second_unfit ws (some p) = no_input ws p.clock

unfoldable pub memory_unfit : List ℕ → MemoryCell → Bool
memory_unfit ws x = no_input ws x.first.clock or second_unfit ws x.second

-- "memories of at most 65,536 bits in all"
unfoldable pub bits_of : List MemoryCell → ℕ
bits_of [] = 0
bits_of (x ∷ xs) = x.depth * length x.first.read_data + bits_of xs

-- "the others after 11"
unfoldable pub unfit : ℕ → List ℕ → Bool
unfit most ws =
    let memories = map memory_of (records_with 2 ws) in
    having (register_unfit ws) (records_with 1 ws) or having (memory_unfit ws) memories or most <? bits_of memories

-- ---- ports ----

-- "ports in image order, bit 0 first": port records whose nodes are of kind k, and their nets
unfoldable pub ports_with : ℕ → List ℕ → List (List ℕ)
ports_with k ws = only (λ r. node_word ws (get_or r 3 0) 0 ≡? k) (records_with 0 ws)

unfoldable pub nets_with : ℕ → List ℕ → List ℕ
nets_with k ws = together (map (drop 3) (ports_with k ws))

abbrev pub input_nets : List ℕ → List ℕ
input_nets ws = nets_with 0 ws

abbrev pub output_nets : List ℕ → List ℕ
output_nets ws = nets_with 8 ws
