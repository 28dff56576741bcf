-- A loop that pastes a list into another, one store a turn: its invariant. Assumes nothing.
use Rattle.std.specs.Prelude.{◌≡◌, refl, List, ℕ, ◌+◌, ◌≤◌, ◌<◌, length, get_or, set}
use Rattle.std.proofs.Common.{sym, ap, ◌∙◌, add-one, arith, length-set}
use Rattle.std.proofs.Math.Seq.{paste, paste-zero, paste-suc}

-- i of the n elements of vs are pasted into d at a place
pub record PastedAt (d : List ℕ) (at : ℕ) (vs : List ℕ) (n : ℕ) (out : List ℕ) (i : ℕ) : Type 0 where
  pub below : i ≤ n
  pub long : length out ≡ length d
  pub pasted : out ≡ paste d at vs i

module _ (d : List ℕ) (at : ℕ) (vs : List ℕ) (n : ℕ) where
  pub paste_begins : PastedAt d at vs n d 0
  paste_begins = record { below = omega arith; long = refl; pasted = paste-zero d at vs }

  pub paste_turn : (out : List ℕ) (i x : ℕ) → PastedAt d at vs n out i → i < n → at + n ≤ length d → n ≤ length vs → x ≡ get_or vs i 0 → PastedAt d at vs n (set out (at + i) x) (i + 1)
  paste_turn out i x h u fits long e = record {
    below = omega arith;
    long = length-set out (at + i) x ∙ h.long;
    pasted = ap (λ (o : List ℕ). set o (at + i) x) h.pasted ∙ ap (set (paste d at vs i) (at + i)) e ∙ paste-suc d at vs i 0 (omega arith) (omega arith)
        ∙ ap (paste d at vs) (sym (add-one i));
  }

  pub paste_ends : (out : List ℕ) (i : ℕ) → PastedAt d at vs n out i → n ≤ i → out ≡ paste d at vs n
  paste_ends out i h u = let e : i ≡ n = omega (arith, h.below) in h.pasted ∙ ap (paste d at vs) e
