-- When a register's parts are there and lowered, and the words of a bit's record. Assumes nothing.
use Rattle.std.specs.Prelude.{◌≡◌, true, List, [], ◌∷◌, ◌++◌, ℕ, ◌<◌}
use Rattle.std.proofs.Math.Option.{Option, none, some}
use Rattle.spec_rtl.specs.Rtl.{Reset, Register}
use Rattle.spec_rules.specs.Image.{count_at_of, signal_width, expr_width, decode}
use Rattle.check_references.specs.Good.{GoodBit, GoodValue}
use Rattle.spec_model.specs.Words.{Netlist, low_word, control_words, reset_words}
use Rattle.spec_model.specs.Builder.{Out}
use Rattle.spec_model.specs.Lowering as M
use Rattle.spec_model.specs.Lowering.{State, signal_net, whole_net, net_control, option_control, register_bits}
use Rattle.scratch_view.specs.View.{limit_of, is_whole, state_of}
use Rattle.image_records.specs.declared.Reset as C
use Rattle.phase_parts.specs.Parts.{ThereControl}
use Rattle.phase_register_records.specs.declared.ResetWords.{ResetWords}

-- ---- the model's parts ----

-- the bits of register k, once its parts are lowered
abbrev pub bits_turn : List ℕ → ℕ → Register → State → Out State
bits_turn s k r st = register_bits k r 0 (M.signal_width (decode s) r.target) st

-- ---- what a register names is in the image ----

-- the code's reset
abbrev pub reset_of : C.Reset → Reset
reset_of x = record { control = record { signal = x.control.signal; level = x.control.level }; asynchronous = x.asynchronous; value = x.value }

abbrev pub ThereReset : List ℕ → Option Reset → Type 0
ThereReset s none = Unit {0}
ThereReset s (some x) = GoodBit s x.control.signal × (x.value < count_at_of s 1)

abbrev pub WideReset : List ℕ → ℕ → Option Reset → Type 0
WideReset s n none = Unit {0}
WideReset s n (some x) = expr_width s x.value ≡ n

pub record There (s : List ℕ) (r : Register) : Type 0 where
  pub target : r.target < count_at_of s 0
  pub next : GoodValue s r.next (signal_width s r.target)
  pub clock : GoodBit s r.clock
  pub enable : ThereControl s r.enable
  pub reset : ThereReset s r.reset
  pub wide : WideReset s (signal_width s r.target) r.reset

-- ---- its next value and its reset value are lowered ----

abbrev pub WholeReset : List ℕ → List ℕ → Option Reset → Type 0
WholeReset s w none = Unit {0}
WholeReset s w (some x) = is_whole s (limit_of w) w x.value ≡ true

pub record Wholes (s w : List ℕ) (r : Register) : Type 0 where
  pub next : is_whole s (limit_of w) w r.next ≡ true
  pub reset : WholeReset s w r.reset

-- ---- the record of bit b of register k; zs are the words of its reset ----

abbrev pub bit_words : ℕ → Register → ℕ → State → List ℕ → List ℕ
bit_words k r b st zs =
    1 ∷ k ∷ b ∷ signal_net st r.target b ∷ whole_net st r.next b ∷ signal_net st r.clock 0 ∷ low_word r.rising ∷
    control_words (option_control st r.enable) ++ zs

abbrev pub four_words : ResetWords → List ℕ
four_words z = z.net ∷ z.level ∷ z.mode ∷ z.value ∷ []

-- reset x with the value v, over nets
abbrev pub net_reset : State → Reset → ℕ → Reset
net_reset st x v = record { control = net_control st x.control; asynchronous = x.asynchronous; value = v }

-- its words, whatever the netlist
abbrev pub IsReset : List ℕ → List ℕ → Reset → ℕ → ResetWords → Type 0
IsReset s w x v z = (l : Netlist) → reset_words (some (net_reset (state_of s l w) x v)) ≡ four_words z
