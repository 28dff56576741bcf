-- What `struo_lower` promises: its answer written as three numbers, both buffers, and what the numbers say. Assumes nothing.
use Rattle.std.specs.Prelude.{ℕ, ◌≤◌, ◌<◌, ◌≡◌, List, [], ◌∷◌, length, get_or}
use Rattle.spec_rtl.specs.Rtl.{Module}
use Rattle.spec_tests.specs.Rules.{Fine}
use Rattle.spec_rules.specs.Image.{decode}
use Rattle.spec_rules.specs.Checks.{checked}
use Rattle.spec_rules.specs.NetlistImage.{netlist}
use Rattle.spec_rules.specs.Step.{Demand3}
use Rattle.spec_model.specs.Lowering.{lower}
use Rattle.spec_call.specs.Call as Call
use Rattle.spec_call.specs.Call.{numbers_of}
use Rattle.spec_answers.specs.Refusals.{Undriven, Looping, NotConstant}
use Rattle.spec_answers.specs.Limits.{Freely}
use Rattle.spec_answers.specs.Nets.{Nets}

-- ---- refusals 6 to 10 ----

-- 9 and 10: with the limits left out the lowering makes more than N nets, more than P list words
pub record MoreNets (m : Module) (N : ℕ) : Type 0 where
  pub free : Freely (lower m)
  pub more : N < free.nets

pub record MoreWords (m : Module) (P : ℕ) : Type 0 where
  pub free : Freely (lower m)
  pub more : P < free.words

-- what a refusal of module m under limits N and P says, by its number and places
pub data Reason (m : Module) (N P : ℕ) : ℕ → ℕ → ℕ → Type 0 where
  undriven : {p b : ℕ} → Undriven m p b → Reason m N P 6 p b
  looping : {p b : ℕ} → Looping m p b → Reason m N P 7 p b
  not_constant : {k b : ℕ} → NotConstant m k b → Reason m N P 8 k b
  more_nets : MoreNets m N → Reason m N P 9 0 0
  more_words : MoreWords m P → Reason m N P 10 0 0

-- one of two statements holds if the other does
pub record Exactly (A B : Type 0) : Type 0 where
  pub only : A → B
  pub always : B → A

-- none of the five holds
pub record Faultless (m : Module) (N P : ℕ) : Type 0 where
  pub driven : (p b : ℕ) → Undriven m p b → ⊥
  pub loopless : (p b : ℕ) → Looping m p b → ⊥
  pub constant : (k b : ℕ) → NotConstant m k b → ⊥
  pub few : MoreNets m N → ⊥
  pub short : MoreWords m P → ⊥

-- ---- the promise ----

-- given the image s, the limits N and P and these two buffers, it left these three numbers and these two buffers
pub record Answers (s : List ℕ) (N P : ℕ) (buffer scratch answer buffer' scratch' : List ℕ) : Type 0 where
  pub numbers : answer ≡ numbers_of (Call.answer s N P buffer scratch)
  pub lowered : Call.Lowered s N P buffer scratch (Call.answer s N P buffer scratch) buffer' scratch'
  -- the first number is one of the rules'
  pub named : get_or answer 0 0 ≤ 10
  -- 0 0 0 is acceptance: demands 2 and 3 of the words at exit
  pub demand2 : answer ≡ 0 ∷ 0 ∷ 0 ∷ [] → Nets (decode s) (netlist buffer')
  pub demand3 : answer ≡ 0 ∷ 0 ∷ 0 ∷ [] → Demand3 (decode s) (netlist buffer')
  -- 6 to 10 say what the rules say of them, of an image that passes 1 to 5
  pub refused : (n a b : ℕ) → answer ≡ n ∷ a ∷ b ∷ [] → 6 ≤ n → (checked s N P (length buffer) (length scratch) ≡ Fine) × Reason (decode s) N P n a b
  -- "every other image is accepted": the numbers are 0 0 0 exactly if the image passes 1 to 5 and none of the five holds
  pub exactly : Exactly (answer ≡ 0 ∷ 0 ∷ 0 ∷ []) ((checked s N P (length buffer) (length scratch) ≡ Fine) × Faultless (decode s) N P)
  -- what the lowering comes to with the limits left out, and what the limits make of it
  pub free : Freely (lower (decode s))
  -- larger limits turn no acceptance into a refusal, and give the same netlist
  pub larger : answer ≡ 0 ∷ 0 ∷ 0 ∷ [] → (N' P' : ℕ) (wide tall : List ℕ) → N ≤ N' → P ≤ P' → checked s N' P' (length wide) (length tall) ≡ Fine
      → (Call.answer s N' P' wide tall ≡ Fine) × (netlist (Call.buffer_after s N' P' wide tall) ≡ netlist buffer')
