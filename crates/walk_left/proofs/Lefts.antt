-- What is left to lower, from what a turn of the plan says: the laws of `Skips` and `LeftOf`. Assumes nothing.
use mathlib.Core.Path.{◌≡◌, refl, sym, ap, ◌∙◌}
use mathlib.Core.Bool.{true, true≢false}
use mathlib.Core.List.{List, [], ◌∷◌, ◌++◌, append_assoc}
use Prim.Native.Nat.{ℕ, ◌+◌, ◌≤◌, ◌<◌}
use native.Mathlib.Omega.{arith}
use lib.ListN.{drop}
use Rattle.std.specs.Prelude.{Option, Some, None, is_some as is_there}
use Rattle.spec_tests.specs.Options.{option_of}
use Rattle.spec_tests.specs.Laws.{is_some}
use Rattle.spec_model.specs.Words.{Netlist}
use Rattle.spec_model.specs.Lowering as M
use Rattle.spec_model.specs.Lowering.{State, signal_bit}
use Rattle.scratch_view.specs.View.{state_of}
use Rattle.walk_view.specs.Met.{met}
use Rattle.walk_plan.specs.declared.Need.{Need}
use Rattle.walk_plan.specs.declared.Need.TheVariants.{Bit, Whole, Range}
use Rattle.walk_plan.specs.declared.Turn.{Turn}
use Rattle.walk_plan.specs.declared.Turn.TheVariants as T
use Rattle.walk_plan.specs.Plan.{needs_of, bits_needs, TurnOf}
use Rattle.walk_plan.specs.Kinds.{none_left}
use Rattle.walk_plan.specs.Lists.{signal_length, signal_next}
use Rattle.walk_left.specs.declared.Left.{Left}
use Rattle.walk_left.specs.Needs.{NeedsMet}
use Rattle.walk_left.specs.Left.{Skips, LeftOf, LeftIn, TurnThere}

met_append : (st : State) (ms ns : List M.Need) → NeedsMet st ms → NeedsMet st ns → NeedsMet st (ms ++ ns)
met_append st [] ns a b = b
met_append st (m ∷ ms) ns a b = (a.0, met_append st ms ns a.1 b)

module _ (s w : List ℕ) where
  skips_none : (rest rest₁ : List M.Need) → rest ≡ rest₁ → Skips s w rest rest₁
  skips_none rest rest₁ e = record { skipped = []; split = e; known = λ l. tt }

  skips_to : (rest rest₁ rest₂ : List M.Need) → rest₁ ≡ rest₂ → Skips s w rest rest₁ → Skips s w rest rest₂
  skips_to rest rest₁ rest₂ e h = record { skipped = h.skipped; split = h.split ∙ ap (λ (l : List M.Need). h.skipped ++ l) e; known = h.known }

  skips_one : (rest rest₁ : List M.Need) (n : M.Need) → Skips s w rest (n ∷ rest₁) → ((l : Netlist) → met (state_of s l w) n ≡ true) → Skips s w rest rest₁
  skips_one rest rest₁ n h m = record {
    skipped = h.skipped ++ (n ∷ []);
    split = h.split ∙ sym (append_assoc h.skipped (n ∷ []) rest₁);
    known = λ l. met_append (state_of s l w) h.skipped (n ∷ []) (h.known l) (m l, tt);
  }

  -- ---- bits of a signal ----

  module _ (p b n from : ℕ) where
    pub bits_begin : Skips s w (drop from (bits_needs p b n)) (drop from (bits_needs p b n))
    bits_begin = skips_none _ _ refl

    module _ (k : ℕ) (h : Skips s w (drop from (bits_needs p b n)) (drop k (bits_needs p b n))) where
      here : k < n → Skips s w (drop from (bits_needs p b n)) (M.Bit p (b + k) ∷ drop (k + 1) (bits_needs p b n))
      here u = skips_to _ _ _ (signal_next p b n k u) h

      pub bits_on : k < n → ((l : Netlist) → met (state_of s l w) (M.Bit p (b + k)) ≡ true) → Skips s w (drop from (bits_needs p b n)) (drop (k + 1) (bits_needs p b n))
      bits_on u m = skips_one _ _ _ (here u) m

      pub bits_found : from ≤ k → k < n → n ≤ 1024 → LeftIn s w (bits_needs p b n) from (Some (record { need = Some (Bit p (b + k)); next = k + 1; at = 0 }))
      bits_found l u m = (here u, omega arith, omega arith, omega arith)

      pub bits_over : n ≤ k → LeftIn s w (bits_needs p b n) from None
      bits_over u = skips_to _ _ _ (none_left (bits_needs p b n) k (rw (signal_length p b n) u)) h

  -- a bit whose net was read
  pub bit_met : (p b : ℕ) (x : Option ℕ) → ((l : Netlist) → option_of x ≡ signal_bit (state_of s l w) p b) → is_there x ≡ true → (l : Netlist) → met (state_of s l w) (M.Bit p b) ≡ true
  unfolding met
  bit_met p b (Some net) e q l = ap is_some (sym (e l))
  bit_met p b None e q l = absurd (true≢false (sym q))

  -- ---- a turn ----

  module _ (k : ℕ) (rest : ℕ → ℕ → List M.Need) (at : ℕ) where
    pub left_lower : (n : Option Need) (at₁ : ℕ) → k < 4294967295 → TurnOf s rest k at (T.Lower n at₁) → LeftOf s w rest k at (Some (record { need = n; next = k + 1; at = at₁ }))
    left_lower n at₁ u t = (skips_none _ _ t.0, omega arith, omega arith, t.1)

    pub left_last : (n : Need) → k < 4294967295 → rest 4294967295 0 ≡ [] → TurnOf s rest k at (T.Last n) → LeftOf s w rest k at (Some (record { need = Some n; next = 4294967295; at = 0 }))
    left_last n u e t = (skips_none _ _ (t ∙ none_behind n ∙ ap (λ (l : List M.Need). needs_of (Some n) ++ l) (sym e)), u, omega arith, omega arith)
      where
        none_behind : (n : Need) → needs_of (Some n) ≡ needs_of (Some n) ++ []
        none_behind (Bit p b) = refl
        none_behind (Whole a) = refl
        none_behind (Range a l v) = refl

    pub left_bits : (p b n : ℕ) (r : Option Left) → TurnOf s rest k at (T.Bits p b n) → LeftIn s w (bits_needs p b n) k r → LeftOf s w rest k at r
    left_bits p b n (Some x) t l = (
      record { skipped = l.0.skipped; split = t.1 k at ∙ l.0.split ∙ ap (λ (y : List M.Need). l.0.skipped ++ (needs_of x.need ++ y)) (sym (t.1 x.next x.at)); known = l.0.known },
      l.1,
      l.2,
      l.3,
    )
    left_bits p b n None t l = record { skipped = l.skipped; split = t.1 k at ∙ l.split; known = l.known }

    pub left_ends : rest k at ≡ [] → LeftOf s w rest k at None
    left_ends e = skips_none _ _ e

pub turn_there : (s : List ℕ) (rest : ℕ → ℕ → List M.Need) (k at : ℕ) (r : Turn) → TurnOf s rest k at r → TurnThere s r
turn_there s rest k at (T.Lower n at₁) t = tt
turn_there s rest k at (T.Last n) t = tt
turn_there s rest k at (T.Bits p b n) t = t.0
turn_there s rest k at T.Build t = tt
