-- The definitions on small modules, each with what docs/RULES.md, needed bits, says of it. That a bit is not needed, or does not need
-- itself, is told by a list of bits that needs do not lead out of (Closed). Assumes nothing.
use Rattle.std.specs.Prelude.{ℕ, ◌≡◌, refl, true, false, List, [], ◌∷◌}
use Rattle.std.proofs.Common.{inl, inr}
use Rattle.std.proofs.Math.Option.{none, some}
use Rattle.spec_rtl.specs.Rtl as R
use Rattle.spec_rtl.specs.Rtl.{Module, driver}
use Rattle.spec_needs.specs.Reads.{Place, bit_reads, whole_reads}
use Rattle.spec_needs.specs.Needs.{bit_needs, register_needs, memory_needs, outputs, registers_need, memories_need, starts, Needed, start, further, Needs, once, through}
use Rattle.spec_needs.specs.Closed.{needed_in, needs_in}

abbrev input : ℕ → R.Sig
input w = record { width = w; dir = R.Input }

abbrev output : ℕ → R.Sig
output w = record { width = w; dir = R.Output }

abbrev inner : ℕ → R.Sig
inner w = record { width = w; dir = R.Internal }

abbrev of : ℕ → R.Kind → R.Expr
of w k = record { width = w; kind = k }

abbrev to : ℕ → ℕ → ℕ → ℕ → R.Assign
to s lsb w e = record { signal = s; lsb = lsb; width = w; value = e }

abbrev on : ℕ → R.Control
on s = record { signal = s; level = true }

abbrev wired : List R.Sig → List R.Expr → List R.Assign → Module
wired ss es xs = record { signals = ss; exprs = es; assigns = xs; registers = []; memories = [] }

-- the definitions that a case computes
computing : ℕ
unfolding bit_reads whole_reads bit_needs register_needs memory_needs outputs registers_need memories_need starts
computing = 0

-- ---- bits that are taken ----

-- what y needs, y = bit i of a kind k of width w: a (signal 0) and b (signal 1) have two bits, c (signal 2) has one, as expressions 0 to 2
abbrev taken : ℕ → R.Kind → ℕ → List Place
taken w k i =
    bit_needs (wired (input 2 ∷ input 2 ∷ input 1 ∷ output 1 ∷ []) (of 2 (R.Signal 0 0) ∷ of 2 (R.Signal 1 0) ∷ of 1 (R.Signal 2 0) ∷ of w k ∷ of 1 (R.Slice 3 i) ∷ []) (to 3 0 1 4 ∷ [])) (3, 0)

-- by bit; of a Mux the condition whole and of both sides the bit
by_bit : (taken 2 (R.Bin R.And 0 1) 0 ≡ (0, 0) ∷ (1, 0) ∷ []) × (taken 2 (R.Un R.BitNot 0) 1 ≡ (0, 1) ∷ []) × (taken 1 (R.Slice 1 1) 0 ≡ (1, 1) ∷ [])
    × (taken 2 (R.Mux 2 0 1) 1 ≡ (2, 0) ∷ (0, 1) ∷ (1, 1) ∷ [])
unfolding computing
by_bit = (refl, refl, refl, refl)

-- {c, b}: the first part is the most significant
of_parts : (taken 3 (R.Concat (2 ∷ 1 ∷ [])) 0 ≡ (1, 0) ∷ []) × (taken 3 (R.Concat (2 ∷ 1 ∷ [])) 2 ≡ (2, 0) ∷ [])
unfolding computing
of_parts = (refl, refl)

-- of any other kind the operands whole
by_word : (taken 2 (R.Bin R.Add 0 1) 0 ≡ (0, 0) ∷ (0, 1) ∷ (1, 0) ∷ (1, 1) ∷ []) × (taken 1 (R.Bin R.LessU 1 0) 0 ≡ (1, 0) ∷ (1, 1) ∷ (0, 0) ∷ (0, 1) ∷ [])
    × (taken 1 (R.Un R.ReduceOr 0) 0 ≡ (0, 0) ∷ (0, 1) ∷ [])
unfolding computing
by_word = (refl, refl, refl)

-- ---- loops and undriven bits ----

-- K9, s = {s[0], a}: the driver is needed whole, so bit 0 needs itself; bit 1 needs bit 0 and not itself
abbrev pub k9 : Module
k9 = wired (input 1 ∷ output 2 ∷ []) (of 1 (R.Signal 1 0) ∷ of 1 (R.Signal 0 0) ∷ of 2 (R.Concat (0 ∷ 1 ∷ [])) ∷ []) (to 1 0 2 2 ∷ [])

pub k9_loop : (bit_needs k9 (1, 0) ≡ (0, 0) ∷ (1, 0) ∷ []) × Needed k9 (1, 0) × Needs k9 (1, 0) (1, 0) × Needed k9 (1, 1) × (Needs k9 (1, 1) (1, 1) → ⊥)
unfolding computing
k9_loop = (refl, start (inl refl), once (inr (inl refl)), start (inr (inl refl)), needs_in k9 ((0, 0) ∷ (1, 0) ∷ []) (1, 1) tt tt)

-- s[0] = a, s[1] = s[0]: two assignments, each a driver of its own: no loop
abbrev split : Module
split = wired (input 1 ∷ output 2 ∷ []) (of 1 (R.Signal 0 0) ∷ of 1 (R.Signal 1 0) ∷ []) (to 1 0 1 0 ∷ to 1 1 1 1 ∷ [])

split_fine : (Needs split (1, 0) (1, 0) → ⊥) × (Needs split (1, 1) (1, 1) → ⊥)
unfolding computing
split_fine = (needs_in split ((0, 0) ∷ []) (1, 0) tt tt, needs_in split ((0, 0) ∷ (1, 0) ∷ []) (1, 1) tt tt)

-- p = q, q = p, y = p: p and q need themselves through each other, y does not
abbrev ring : Module
ring = wired (inner 1 ∷ inner 1 ∷ output 1 ∷ []) (of 1 (R.Signal 1 0) ∷ of 1 (R.Signal 0 0) ∷ []) (to 0 0 1 0 ∷ to 1 0 1 1 ∷ to 2 0 1 1 ∷ [])

ring_loop : Needs ring (0, 0) (0, 0) × Needs ring (1, 0) (1, 0) × (Needs ring (2, 0) (2, 0) → ⊥)
unfolding computing
ring_loop = (through (once (inl refl)) (inl refl), through (once (inl refl)) (inl refl), needs_in ring ((0, 0) ∷ (1, 0) ∷ []) (2, 0) tt tt)

-- y = 1 ? a : y: both sides are needed, also of a constant condition
abbrev chosen : Module
chosen = wired (input 1 ∷ output 1 ∷ []) (of 1 (R.Constant 1) ∷ of 1 (R.Signal 0 0) ∷ of 1 (R.Signal 1 0) ∷ of 1 (R.Mux 0 1 2) ∷ []) (to 1 0 1 3 ∷ [])

chosen_loop : Needs chosen (1, 0) (1, 0)
unfolding computing
chosen_loop = once (inr (inl refl))

-- y = u, and u has no driver: it is needed
abbrev pub loose : Module
loose = wired (inner 1 ∷ output 1 ∷ []) (of 1 (R.Signal 0 0) ∷ []) (to 1 0 1 0 ∷ [])

pub loose_needed : (driver loose 0 0 ≡ R.Nothing) × Needed loose (0, 0)
unfolding computing
loose_needed = (refl, further (start (inl refl)) (inl refl))

-- y = a, beside it u without a driver and s = s: nothing needs them
abbrev pub spare : Module
spare = wired (input 1 ∷ inner 1 ∷ inner 1 ∷ output 1 ∷ []) (of 1 (R.Signal 0 0) ∷ of 1 (R.Signal 2 0) ∷ []) (to 3 0 1 0 ∷ to 2 0 1 1 ∷ [])

pub spare_unneeded : (driver spare 1 0 ≡ R.Nothing) × Needs spare (2, 0) (2, 0) × (Needed spare (1, 0) → ⊥) × (Needed spare (2, 0) → ⊥)
unfolding computing
spare_unneeded = (refl, once (inl refl), needed_in spare ((3, 0) ∷ (0, 0) ∷ []) tt tt, needed_in spare ((3, 0) ∷ (0, 0) ∷ []) tt tt)

-- ---- registers and memories ----

-- q = q + 1 with clock 0, enable 2, reset value 3, reset 4: needed are these and the output q, and q needs nothing
abbrev counter : Module
counter = record {
  signals = input 1 ∷ output 1 ∷ inner 1 ∷ inner 1 ∷ inner 1 ∷ [];
  exprs = of 1 (R.Signal 1 0) ∷ of 1 (R.Constant 1) ∷ of 1 (R.Bin R.Add 0 1) ∷ of 1 (R.Signal 3 0) ∷ [];
  assigns = [];
  registers = record { target = 1; next = 2; clock = 0; rising = true; enable = some (on 2); reset = some (record { control = on 4; asynchronous = false; value = 3 }) } ∷ [];
  memories = [];
}

counter_needs : (starts counter ≡ (1, 0) ∷ (0, 0) ∷ (2, 0) ∷ (3, 0) ∷ (4, 0) ∷ (1, 0) ∷ []) × (bit_needs counter (1, 0) ≡ [])
unfolding computing
counter_needs = (refl, refl)

-- read and write addresses 1 and 2, write data the read data 3, clock 0, write enable 4, no output: the addresses are needed, read data
-- needs nothing
abbrev store : Module
store = record {
  signals = input 1 ∷ inner 1 ∷ inner 1 ∷ inner 2 ∷ inner 1 ∷ [];
  exprs = of 1 (R.Signal 1 0) ∷ of 1 (R.Signal 2 0) ∷ of 2 (R.Signal 3 0) ∷ [];
  assigns = [];
  registers = [];
  memories = record {
    depth = 2;
    style = 0;
    first = record { read_address = 0; read_data = 3; read_enable = none; write_address = 1; write_data = 2; write_enable = on 4; clock = 0; rising = true };
    second = none;
  } ∷ [];
}

store_needs : (starts store ≡ (1, 0) ∷ (2, 0) ∷ (3, 0) ∷ (3, 1) ∷ (0, 0) ∷ (4, 0) ∷ []) × (bit_needs store (3, 0) ≡ [])
unfolding computing
store_needs = (refl, refl)
