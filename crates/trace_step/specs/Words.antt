-- A step of registers and memories on words: v are the values of all nets before it, w is the table that gets the new ones (its inputs are
-- set), mem the memories' bits, a word each. Assumes nothing.
use Rattle.std.specs.Prelude.{ℕ, zero, suc, ◌+◌, ◌*◌, Bool, cond, ◌&&◌, List, [], ◌∷◌, map, ltb, take, drop, get_or, set}
use Rattle.spec_rtl.specs.Word.{bit}
use Rattle.spec_tests.specs.Rules.{◌≡?◌, pick, sum_to}
use Rattle.spec_rules.specs.NetlistImage.{port_length, register_bit_of, memory_port_of}
use Rattle.spec_rules.specs.Step.{register_next, net_load, net_access}
use Rattle.trace_fit.specs.Fit.{bits_at}

-- the bit that a table of words has for net x
abbrev pub on : List ℕ → ℕ → Bool
on v x = get_or v x 0 ≡? 1

-- nets get f of these words in turn, of 0 behind the last
unfoldable pub spread : (ℕ → ℕ) → List ℕ → List ℕ → List ℕ → List ℕ
spread f w [] xs = w
spread f w (n ∷ ns) xs = spread f (set w n (f (get_or xs 0 0))) ns (drop 1 xs)

-- these words from place a on
unfoldable pub laid : List ℕ → ℕ → List ℕ → List ℕ
laid m a [] = m
laid m a (x ∷ xs) = laid (set m a x) (suc a) xs

-- ---- registers ----

-- the next bit of the register with record r
unfoldable pub register_bit : List ℕ → List ℕ → List ℕ → Bool
register_bit v w r = register_next (net_load (on v) (on w) (register_bit_of r)) (on v (get_or r 3 0))

abbrev pub register_done : List ℕ → List ℕ → List ℕ → List ℕ
register_done v w r = set w (get_or r 3 0) (bit (register_bit v w r))

-- the registers at the first n places
unfoldable pub registers_done : List ℕ → List ℕ → List ℕ → ℕ → List ℕ → List ℕ
registers_done ws v places zero w = w
registers_done ws v places (suc n) w = register_done v (registers_done ws v places n w) (drop (get_or places n 0) ws)

-- ---- memories: the bits of one of this depth and width begin at base; p a port's words, r a record ----

abbrev pub identity : ℕ → ℕ
identity x = x

unfoldable pub fetched : ℕ → ℕ → List ℕ → ℕ → ℕ → List ℕ
fetched depth width mem base a = cond (ltb a depth) (take width (drop (base + a * width) mem)) []

unfoldable pub port_read : ℕ → ℕ → List ℕ → ℕ → List ℕ → List ℕ → List ℕ → List ℕ
port_read depth width mem base p v w =
    let x = net_access (on v) (on w) (memory_port_of p) in
    cond (x.ticks && x.reads) (spread identity w (memory_port_of p).read_data (fetched depth width mem base x.read_at_of)) w

unfoldable pub port_written : ℕ → ℕ → ℕ → List ℕ → List ℕ → List ℕ → List ℕ → List ℕ
port_written depth width base p v w mem =
    let x = net_access (on v) (on w) (memory_port_of p) in
    cond (x.ticks && x.writes && ltb x.write_at depth) (laid mem (base + x.write_at * width) (map (λ n. bit (on v n)) (memory_port_of p).write_data)) mem

-- the words of its second port
abbrev pub second_words : List ℕ → List ℕ
second_words r = drop (6 + port_length (drop 6 r)) r

unfoldable pub memory_read : List ℕ → ℕ → List ℕ → List ℕ → List ℕ → List ℕ
memory_read mem base r v w =
    let one = port_read (get_or r 2 0) (get_or r 7 0) mem base (drop 6 r) v w in
    pick (get_or r 5 0 ≡? 2) (port_read (get_or r 2 0) (get_or r 7 0) mem base (second_words r) v one) one

unfoldable pub memory_written : ℕ → List ℕ → List ℕ → List ℕ → List ℕ → List ℕ
memory_written base r v w mem =
    let one = port_written (get_or r 2 0) (get_or r 7 0) base (drop 6 r) v w mem in
    pick (get_or r 5 0 ≡? 2) (port_written (get_or r 2 0) (get_or r 7 0) base (second_words r) v w one) one

-- the memories at the first n places, their bits one after the other
abbrev pub base_at : List ℕ → List ℕ → ℕ → ℕ
base_at ws places i = sum_to (bits_at ws places) i

unfoldable pub memories_read : List ℕ → List ℕ → List ℕ → List ℕ → ℕ → List ℕ → List ℕ
memories_read ws mem v places zero w = w
memories_read ws mem v places (suc n) w = memory_read mem (base_at ws places n) (drop (get_or places n 0) ws) v (memories_read ws mem v places n w)

unfoldable pub memories_written : List ℕ → List ℕ → List ℕ → List ℕ → ℕ → List ℕ → List ℕ
memories_written ws v w places zero mem = mem
memories_written ws v w places (suc n) mem = memory_written (base_at ws places n) (drop (get_or places n 0) ws) v w (memories_written ws v w places n mem)
