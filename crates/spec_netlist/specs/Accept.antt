-- Refusal 11: what a netlist image that is taken back in must be, and its first wrong word (docs/RULES.md, change request Q-2). Each rule
-- is a test that is true where a word breaks it; it looks only at that word and words judged before it, but for a record's first, which
-- is wrong where the record does not fit. A word past the end is 0.
use Rattle.std.specs.Prelude.{ℕ, zero, suc, ◌+◌, ◌*◌, ◌-◌, ◌/◌, ◌%◌, min, Bool, false, not, List, [], ◌∷◌, ◌++◌, length, take, drop, get_or}
use Rattle.std.proofs.Math.Option.{Option, none, some}
use Rattle.spec_tests.specs.Rules.{◌<?◌, ◌≡?◌, ◌≢?◌, ◌or◌, ◌and◌, pick, outside, first, any, only, Answer, Fine, Refused, and_then}
use Rattle.spec_rules.specs.Image.{absent}
use Rattle.spec_rules.specs.NetlistImage.{MemoryPort, node_word, port_lists, port_length, record_length, records_of, memory_of}

-- ---- the header ----

abbrev pub nets : List ℕ → ℕ
nets ws = get_or ws 1 0

abbrev pub used : List ℕ → ℕ
used ws = get_or ws 3 0

abbrev pub list_at_of : List ℕ → ℕ
list_at_of ws = get_or ws 4 0

-- "N follows from the list offset"
abbrev pub limit : List ℕ → ℕ
limit ws = (list_at_of ws - 16) / 6

-- "16 header words: edition 1, nets, node offset 16, list words used, list offset 16 + 6N, .., then 0"; words 5 to 9, the record
-- counts, are judged last. Nets and N disagree at word 4, the later.
unfoldable pub wrong_header : List ℕ → ℕ → Bool
wrong_header ws i =
    let w = get_or ws i 0 in
    pick (i ≡? 0) (w ≢? 1)
    (pick (i ≡? 1) (65535 <? w)
    (pick (i ≡? 2) (w ≢? 16)
    (pick (i ≡? 3) (65535 <? w)
    (pick (i ≡? 4) (outside (limit ws) 1 65535 or w ≢? 16 + 6 * limit ws or limit ws <? nets ws)
    (pick (i <? 10) false
    (w ≢? 0))))))

-- ---- nodes: "kind, owner index or constant value, bit, three inputs; unused is absent" ----

-- "gates and constants aside": input, register output, output, memory output and cell output nodes belong to a record
unfoldable pub belongs : ℕ → Bool
belongs k = k ≡? 0 or 6 <? k

-- "each field lies in document 01's range": the most that a node of kind k has as owner (for a constant its value) and as bit; cells
-- are numbered as made, which their record judges
unfoldable pub most_owner : ℕ → ℕ
most_owner k = get_or (511 ∷ 1 ∷ 0 ∷ 0 ∷ 0 ∷ 0 ∷ 0 ∷ 255 ∷ 511 ∷ 15 ∷ absent ∷ absent ∷ []) k 0

unfoldable pub most_bit : ℕ → ℕ
most_bit k = get_or (1023 ∷ 0 ∷ 0 ∷ 0 ∷ 0 ∷ 0 ∷ 0 ∷ 1023 ∷ 1023 ∷ 2047 ∷ 1023 ∷ 0 ∷ []) k 0

-- input counts
unfoldable pub input_count : ℕ → ℕ
input_count k = get_or (0 ∷ 0 ∷ 2 ∷ 2 ∷ 2 ∷ 1 ∷ 3 ∷ 0 ∷ 1 ∷ 0 ∷ 0 ∷ 0 ∷ []) k 0

unfoldable pub wrong_owner : ℕ → ℕ → Bool
wrong_owner k o = pick (belongs k or k ≡? 1) (most_owner k <? o) (o ≢? absent)

-- "A node with an earlier one's kind, owner and bit is wrong at its bit, gates and constants aside."
unfoldable pub same_node : List ℕ → ℕ → ℕ → Bool
same_node ws j n = node_word ws j 0 ≡? node_word ws n 0 and node_word ws j 1 ≡? node_word ws n 1 and node_word ws j 2 ≡? node_word ws n 2

unfoldable pub wrong_bit : List ℕ → ℕ → ℕ → ℕ → Bool
wrong_bit ws n k b = let again = any (λ j. same_node ws j n) n in pick (belongs k) (most_bit k <? b or again) (b ≢? absent)

-- "every gate, output or cell input is a lower net": input i of net n
unfoldable pub wrong_input : ℕ → ℕ → ℕ → ℕ → Bool
wrong_input n k i x = pick (i <? input_count k) (not (x <? n)) (x ≢? absent)

-- word f of node n; "Unused node words are 0"
unfoldable pub wrong_node_word : List ℕ → ℕ → ℕ → Bool
wrong_node_word ws n f =
    let k = node_word ws n 0 in
    let x = node_word ws n f in
    let bit = wrong_bit ws n k x in
    pick (not (n <? nets ws)) (x ≢? 0)
    (pick (f ≡? 0) (11 <? x)
    (pick (f ≡? 1) (wrong_owner k x)
    (pick (f ≡? 2) bit
    (wrong_input n k (f - 3) x))))

-- ---- list records. l: the list words used, from the record's first on; earlier: the records before it ----

-- the words that a record takes: as many as its width says or, a memory's, its port count, whatever that is
unfoldable pub ports_length : ℕ → List ℕ → ℕ
ports_length zero p = 0
ports_length (suc n) p = port_length p + ports_length n (drop (port_length p) p)

unfoldable pub extent : List ℕ → ℕ
extent l =
    let ports = ports_length (get_or l 5 0) (drop 6 l) in
    pick (get_or l 0 0 ≡? 2) (6 + ports) (record_length l)

unfoldable pub member : ℕ → List ℕ → Bool
member x [] = false
member x (y ∷ ys) = x ≡? y or member x ys

-- the nets that a record lists as its own
unfoldable pub second_data : Option MemoryPort → List ℕ
second_data none = []
second_data (some p) = p.read_data

unfoldable pub own_nets : List ℕ → List ℕ
own_nets r =
    let w = get_or r 2 0 in
    let m = memory_of r in
    let both = m.first.read_data ++ second_data m.second in
    pick (get_or r 0 0 ≡? 0) (take w (drop 3 r))
    (pick (get_or r 0 0 ≡? 1) (take 1 (drop 3 r))
    (pick (get_or r 0 0 ≡? 2) both
    (pick (get_or r 0 0 ≡? 3) (take w (drop (4 + 2 * w) r))
    (take 1 (drop (3 + 2 * w) r)))))

unfoldable pub taken : List (List ℕ) → ℕ → Bool
taken [] x = false
taken (r ∷ rs) x = member x (own_nets r) or taken rs x

-- "each of the two cell kinds is numbered from 0 as made": records of sort t among these
unfoldable pub count_of : ℕ → List (List ℕ) → ℕ
count_of t rs = length (only (λ r. get_or r 0 0 ≡? t) rs)

-- "Absent controls in records are as in the module image": a level (or mode, or value) v beside the net x
unfoldable pub wrong_level : ℕ → ℕ → Bool
wrong_level x v = pick (x ≡? absent) (v ≢? 0) (1 <? v)

-- a cell's inputs, the nets xs, lie not all below x
unfoldable pub not_above : ℕ → List ℕ → Bool
not_above x [] = false
not_above x (y ∷ ys) = not (y <? x) or not_above x ys

-- the first of the n words from place on that is wrong
unfoldable pub first_wrong : (ℕ → Bool) → ℕ → ℕ → Answer
first_wrong p place n = let i = first p n in pick (i <? n) (Refused 11 (place + i) 0) Fine

module _ (ws : List ℕ) where
  -- "every net named is below the net count"
  unfoldable pub no_net : ℕ → Bool
  no_net x = not (x <? nets ws)

  unfoldable pub no_optional : ℕ → Bool
  no_optional x = x ≢? absent and no_net x

  module _ (earlier : List (List ℕ)) where
    -- "Each input, output, register, memory and cell output node belongs to exactly one record of its sort, whose owner and bit it
    -- carries; no record lists another node as its own.": net x as node of kind k with owner o and bit b
    unfoldable pub not_own_of : ℕ → ℕ → ℕ → ℕ → Bool
    not_own_of x k o b = no_net x or node_word ws x 0 ≢? k or node_word ws x 1 ≢? o or node_word ws x 2 ≢? b or taken earlier x

    -- "port (0, signal, width, nets)"; "A port's nodes are of one kind.": that of its first
    unfoldable pub wrong_port : List ℕ → ℕ → Bool
    wrong_port l i =
        let x = get_or l i 0 in
        let k = node_word ws (get_or l 3 0) 0 in
        let net = (k ≢? 0 and k ≢? 8) or not_own_of x k (get_or l 1 0) (i - 3) in
        pick (i ≡? 1) (511 <? x)
        (pick (i ≡? 2) (outside x 1 1024)
        net)

    -- "register (1, then 12 words: index, bit, output, data, clock, edge, enable, level, reset, level, asynchronous, value)"
    unfoldable pub wrong_register : List ℕ → ℕ → Bool
    wrong_register l i =
        let x = get_or l i 0 in
        let output = not_own_of x 7 (get_or l 1 0) (get_or l 2 0) in
        pick (i ≡? 1) (255 <? x)
        (pick (i ≡? 2) (1023 <? x)
        (pick (i ≡? 3) output
        (pick (i ≡? 4 or i ≡? 5) (no_net x)
        (pick (i ≡? 6) (1 <? x)
        (pick (i ≡? 7 or i ≡? 9) (no_optional x)
        (pick (i ≡? 8) (wrong_level (get_or l 7 0) x)
        (wrong_level (get_or l 9 0) x)))))))

    -- "per port four widths, four net lists in field order, two controls, clock, edge"; "A memory's data widths agree.": memory m of
    -- data width w, the port's words p, its read data being the bits from base on
    unfoldable pub wrong_memory_port : ℕ → ℕ → ℕ → List ℕ → ℕ → Bool
    wrong_memory_port m w base p i =
        let x = get_or p i 0 in
        let a = 4 + get_or p 0 0 in
        let b = a + get_or p 1 0 in
        let e = 4 + port_lists p in
        let own = not_own_of x 9 m (base + (i - a)) in
        pick (i ≡? 0 or i ≡? 2) (outside x 1 32)
        (pick (i ≡? 1) (outside x 1 1024 or x ≢? w)
        (pick (i ≡? 3) (x ≢? w)
        (pick (i <? a) (no_net x)
        (pick (i <? b) own
        (pick (i <? e) (no_net x)
        (pick (i ≡? e) (no_optional x)
        (pick (i ≡? e + 1) (wrong_level (get_or p e 0) x)
        (pick (i ≡? e + 2 or i ≡? e + 4) (no_net x)
        (1 <? x)))))))))

    -- "memory (2, index, depth, style, latency, port count; per port ..)"; "A second memory port's bits number on."
    unfoldable pub wrong_memory : List ℕ → ℕ → Bool
    wrong_memory l i =
        let x = get_or l i 0 in
        let w = get_or l 7 0 in
        let q = 6 + port_length (drop 6 l) in
        let one = wrong_memory_port (get_or l 1 0) w 0 (drop 6 l) (i - 6) in
        let two = wrong_memory_port (get_or l 1 0) w w (drop q l) (i - q) in
        pick (i ≡? 1) (15 <? x)
        (pick (i ≡? 2) (outside x 1 65536)
        (pick (i ≡? 3) (2 <? x)
        (pick (i ≡? 4) (x ≢? 1)
        (pick (i ≡? 5) (outside x 1 2)
        (pick (i <? q) one
        two)))))

    -- "arithmetic (3, operation, width, carry or absent, lhs, rhs, outputs)": "cell input is a lower net", wrong at the output, the later
    unfoldable pub wrong_arithmetic : List ℕ → ℕ → Bool
    wrong_arithmetic l i =
        let x = get_or l i 0 in
        let w = get_or l 2 0 in
        let c = get_or l 3 0 in
        let output = not_own_of x 10 (count_of 3 earlier) (i - (4 + 2 * w)) or (c ≢? absent and not (c <? x)) or not_above x (take (2 * w) (drop 4 l)) in
        pick (i ≡? 1) (2 <? x)
        (pick (i ≡? 2) (outside x 1 1024)
        (pick (i ≡? 3) (no_optional x)
        (pick (i <? 4 + 2 * w) (no_net x)
        output)))

    -- "comparison (4, operation, width, lhs, rhs, output)"
    unfoldable pub wrong_comparison : List ℕ → ℕ → Bool
    wrong_comparison l i =
        let x = get_or l i 0 in
        let w = get_or l 2 0 in
        let output = not_own_of x 11 (count_of 4 earlier) 0 or not_above x (take (2 * w) (drop 3 l)) in
        pick (i ≡? 1) (3 <? x)
        (pick (i ≡? 2) (outside x 1 1024)
        (pick (i <? 3 + 2 * w) (no_net x)
        output))

    -- word i of the record; "a record that does not fit is wrong at its first word"
    unfoldable pub wrong_word : List ℕ → ℕ → Bool
    wrong_word l i =
        let t = get_or l 0 0 in
        let port = wrong_port l i in
        let register = wrong_register l i in
        let memory = wrong_memory l i in
        let arithmetic = wrong_arithmetic l i in
        let comparison = wrong_comparison l i in
        let tooLong = length l <? extent l in
        pick (i ≡? 0) (4 <? t or tooLong)
        (pick (t ≡? 0) port
        (pick (t ≡? 1) register
        (pick (t ≡? 2) memory
        (pick (t ≡? 3) arithmetic
        comparison))))

  -- the records in turn: l begins at word place; at most n of them. A record that fits and has one port or two is as long as
  -- `record_length` says; one with another port count is wrong at word 5 at the latest
  unfoldable pub judged : ℕ → List (List ℕ) → ℕ → List ℕ → Answer
  judged zero earlier place l = Fine
  judged (suc n) earlier place [] = Fine
  judged (suc n) earlier place (x ∷ l) =
      let k = record_length (x ∷ l) in
      let i = first (wrong_word earlier (x ∷ l)) k in
      let rest = judged n (earlier ++ (take k (x ∷ l) ∷ [])) (place + k) (drop k (x ∷ l)) in
      pick (i <? k) (Refused 11 (place + i) 0) rest

  -- ---- the order: "header without its five record counts, nodes, list, nodes left without a record (their kind word), those counts" ----

  unfoldable pub header_answer : Answer
  header_answer = first_wrong (wrong_header ws) 0 (min 16 (length ws))

  -- "where the slice ends too early, its length, judged after the header words that are there"
  unfoldable pub length_answer : Answer
  length_answer = pick (length ws <? 16 or length ws <? list_at_of ws + used ws) (Refused 11 (length ws) 0) Fine

  unfoldable pub nodes_answer : Answer
  nodes_answer = first_wrong (λ j. wrong_node_word ws (j / 6) (j % 6)) 16 (6 * limit ws)

  unfoldable pub list_answer : Answer
  list_answer = judged (used ws) [] (list_at_of ws) (take (used ws) (drop (list_at_of ws) ws))

  unfoldable pub alone : ℕ → Bool
  alone n = belongs (node_word ws n 0) and not (taken (records_of ws) n)

  unfoldable pub alone_answer : Answer
  alone_answer = let n = first alone (nets ws) in pick (n <? nets ws) (Refused 11 (16 + 6 * n) 0) Fine

  unfoldable pub wrong_count : ℕ → Bool
  wrong_count t = get_or ws (5 + t) 0 ≢? count_of t (records_of ws)

  unfoldable pub counts_answer : Answer
  counts_answer = first_wrong wrong_count 5 5

  -- all after the header words
  unfoldable pub body_answer : Answer
  body_answer =
      let counts = counts_answer in
      let lonely = and_then alone_answer counts in
      let list = and_then list_answer lonely in
      let nodes = and_then nodes_answer list in
      and_then length_answer nodes

  -- Fine, or 11 and its place
  unfoldable pub accepts : Answer
  accepts = let body = body_answer in and_then header_answer body
