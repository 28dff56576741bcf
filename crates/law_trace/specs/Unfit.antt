-- Refusal 12 after 11, of an image whose clocks and asynchronous resets are input nets, is only that of too many memory bits. Assumes nothing.
use Rattle.std.specs.Prelude.{ℕ, ◌≤◌, ◌≡◌, Bool, true, length}
use Rattle.std.proofs.Common.{arith, sym, ◌∙◌}
use Rattle.std.proofs.Math.Path.{refl, ap, subst}
use Rattle.std.proofs.Math.Bool.{false}
use mathlib.Core.List.{List, [], ◌∷◌, map}
use Rattle.std.proofs.Math.Option.{Option, none, some}
use Rattle.std.proofs.Math.ListN.{get_or}
use Rattle.spec_tests.specs.Rules.{◌≡?◌, ◌≢?◌, ◌and◌, pick, only}
use Rattle.spec_tests.specs.Laws.{lt_no, ne_no, yes_eq}
use Rattle.spec_rules.specs.Image.{absent}
use Rattle.spec_rules.specs.NetlistImage.{MemoryPort, node_word, records_of, records_with, memory_of}
use Rattle.spec_model.specs.Words.{Netlist}
use Rattle.spec_netlist.specs.Given.{Same}
use Rattle.spec_trace.specs.Opened.{having, no_input, register_unfit, second_unfit, memory_unfit, bits_of, unfit}
use Rattle.law_nets.specs.Meaning as Meaning
use Rattle.law_owners.specs.Ends.{All}
use Rattle.law_told.specs.Told.{untrue, neither, pick_no}
use Rattle.law_trace.specs.Clocks.{InputNet, Fed, Clocked}

none_only : {A : Type 0} (p : A → Bool) (xs : List A) → All (λ x. p x ≡ false) xs → only p xs ≡ []
unfolding only
none_only p [] h = refl
none_only p (x ∷ xs) h = pick_no (p x) (x ∷ only p xs) (only p xs) h.0 ∙ none_only p xs h.1

having_none : {A : Type 0} (p : A → Bool) (xs : List A) → All (λ x. p x ≡ false) xs → having p xs ≡ false
unfolding having
having_none p xs h = lt_no 0 (length (only p xs)) (let e = ap length (none_only p xs h) in omega arith)

-- those with a test, each with what holds of all
all_only : {A : Type 0} (P Q : A → Type 0) (q : A → Bool) → ((x : A) → P x → q x ≡ true → Q x) → (xs : List A) → All P xs → All Q (only q xs)
unfolding only pick
all_only P Q q f [] h = tt
all_only P Q q f (x ∷ xs) h = at (q x) refl (all_only P Q q f xs h.1)
  where
    at : (b : Bool) → q x ≡ b → All Q (only q xs) → All Q (pick b (x ∷ only q xs) (only q xs))
    at true e ih = (f x h.0 e, ih)
    at false e ih = ih

all_map : {A B : Type 0} (P : B → Type 0) (f : A → B) (xs : List A) → All (λ x. P (f x)) xs → All P (map f xs)
all_map P f [] h = tt
all_map P f (x ∷ xs) h = (h.0, all_map P f xs h.1)

-- a test that holds only where the last of three does
three : (a b c : Bool) → (a ≡ true → b ≡ true → c ≡ false) → (a and b and c) ≡ false
unfolding ◌and◌
three true true c h = h refl refl
three true false c h = refl
three false b c h = refl

module _ (ws : List ℕ) (l : Netlist) (same : Same ws l) where
  is_input_law : (n : ℕ) → InputNet l n → no_input ws n ≡ false
  unfolding no_input
  is_input_law n h = ne_no (node_word ws n 0) 0 (same.kind n (let c = same.count in let t = h.there in omega arith) ∙ h.kind)

  register_fits : (r : List ℕ) → Fed l r → get_or r 0 0 ≡ 1 → register_unfit ws r ≡ false
  unfolding register_unfit
  register_fits r f s =
      neither _ _ (is_input_law (get_or r 5 0) (f.clock s)) (three (get_or r 9 0 ≢? absent) (get_or r 11 0 ≡? 1) (no_input ws (get_or r 9 0)) (λ a b.
      is_input_law (get_or r 9 0) (f.reset s (yes_eq (get_or r 11 0) 1 b) (λ z. untrue (sym (ne_no (get_or r 9 0) absent z) ∙ a)))))

  memory_fits : (r : List ℕ) → Fed l r → get_or r 0 0 ≡ 2 → memory_unfit ws (memory_of r) ≡ false
  unfolding memory_unfit second_unfit
  memory_fits r f s = neither _ _ (is_input_law (memory_of r).first.clock (f.first s)) (go (memory_of r).second refl)
    where
      go : (o : Option MemoryPort) → (memory_of r).second ≡ o → second_unfit ws o ≡ false
      go none e = refl
      go (some p) e = is_input_law p.clock (f.second s p e)

  pub fits : (most n : ℕ) → Clocked l n l → n ≤ most → unfit most ws ≡ false
  unfolding unfit records_with Meaning.records_with
  fits most n c h =
      let all = subst (All (Fed l)) (sym same.records) c.records in
      let b : bits_of (map memory_of (records_with 2 ws)) ≡ n = ap (λ (rs : List (List ℕ)). bits_of (map memory_of (only (λ r. get_or r 0 0 ≡? 2) rs))) same.records ∙ c.bits in
      neither _ _ (having_none (register_unfit ws) (records_with 1 ws) (all_only (Fed l) _ (λ r. get_or r 0 0 ≡? 1) (λ r f e. register_fits r f (yes_eq (get_or r 0 0) 1 e)) (records_of ws) all))
      (neither _ _ (having_none (memory_unfit ws) (map memory_of (records_with 2 ws)) (all_map _ memory_of (records_with 2 ws)
      (all_only (Fed l) _ (λ r. get_or r 0 0 ≡? 2) (λ r f e. memory_fits r f (yes_eq (get_or r 0 0) 2 e)) (records_of ws) all))) (lt_no most (bits_of (map memory_of (records_with 2 ws))) (omega arith)))
